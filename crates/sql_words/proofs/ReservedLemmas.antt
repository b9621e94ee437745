-- Facts of every reserved word.
use Rattle.std.proofs.Common.{◌≡◌, ◌≢◌, ℕ, ◌<◌, List, [], ◌∷◌, Bool, true, false, cond, Some, None, get_or, refl, sym, ◌∙◌, ap, lit<, find}
use Rattle.std.specs.Str.{bytes_eq}
use Rattle.std.proofs.lemmas.Slice.Eq.{bytes_eq-Decides}
use Rattle.sql_words.specs.declared.reserved.Word.{Word}
use Rattle.sql_words.specs.declared.reserved.Word.TheVariants.{And, Asc, Begin, By, Commit, Count, Create, Delete, Desc, From, Insert, Int, Into, Is, Join, Key, Limit, Max, Min, Not, Null, On, Or, Order, Primary, Rollback, Select, Set, Sum, Table, Text, Update, Values, Where}
use Rattle.sql_words.specs.Reserved.{all_words, lowered, spelling, word_of}

-- what holds at each place of the list of words holds of each word
pub each : (P : Word → Type 0) → ((k : ℕ) → k < 34 → P (get_or all_words k And)) → (w : Word) → P w
each P h And = h 0 (lit< tt)
each P h Asc = h 1 (lit< tt)
each P h Begin = h 2 (lit< tt)
each P h By = h 3 (lit< tt)
each P h Commit = h 4 (lit< tt)
each P h Count = h 5 (lit< tt)
each P h Create = h 6 (lit< tt)
each P h Delete = h 7 (lit< tt)
each P h Desc = h 8 (lit< tt)
each P h From = h 9 (lit< tt)
each P h Insert = h 10 (lit< tt)
each P h Int = h 11 (lit< tt)
each P h Into = h 12 (lit< tt)
each P h Is = h 13 (lit< tt)
each P h Join = h 14 (lit< tt)
each P h Key = h 15 (lit< tt)
each P h Limit = h 16 (lit< tt)
each P h Max = h 17 (lit< tt)
each P h Min = h 18 (lit< tt)
each P h Not = h 19 (lit< tt)
each P h Null = h 20 (lit< tt)
each P h On = h 21 (lit< tt)
each P h Or = h 22 (lit< tt)
each P h Order = h 23 (lit< tt)
each P h Primary = h 24 (lit< tt)
each P h Rollback = h 25 (lit< tt)
each P h Select = h 26 (lit< tt)
each P h Set = h 27 (lit< tt)
each P h Sum = h 28 (lit< tt)
each P h Table = h 29 (lit< tt)
each P h Text = h 30 (lit< tt)
each P h Update = h 31 (lit< tt)
each P h Values = h 32 (lit< tt)
each P h Where = h 33 (lit< tt)

-- a word's own spelling finds it
spelled : (w : Word) → find (λ v. bytes_eq (lowered (spelling v)) (lowered (spelling w))) all_words ≡ Some w
unfolding spelling
spelled And = refl
spelled Asc = refl
spelled Begin = refl
spelled By = refl
spelled Commit = refl
spelled Count = refl
spelled Create = refl
spelled Delete = refl
spelled Desc = refl
spelled From = refl
spelled Insert = refl
spelled Int = refl
spelled Into = refl
spelled Is = refl
spelled Join = refl
spelled Key = refl
spelled Limit = refl
spelled Max = refl
spelled Min = refl
spelled Not = refl
spelled Null = refl
spelled On = refl
spelled Or = refl
spelled Order = refl
spelled Primary = refl
spelled Rollback = refl
spelled Select = refl
spelled Set = refl
spelled Sum = refl
spelled Table = refl
spelled Text = refl
spelled Update = refl
spelled Values = refl
spelled Where = refl

pub word_of-found : (text : List ℕ) (w : Word) → lowered text ≡ lowered (spelling w) → word_of text ≡ Some w
unfolding word_of
word_of-found text w h = ap (λ bs. find (λ v. bytes_eq (lowered (spelling v)) bs) all_words) h ∙ spelled w

find_none : (p : Word → Bool) (ws : List Word) → ((w : Word) → p w ≡ false) → find p ws ≡ None
find_none p [] h = refl
find_none p (w ∷ ws) h = rw (h w) (find_none p ws h)

find_passes : (p : Word → Bool) (ws : List Word) (w : Word) → find p ws ≡ Some w → p w ≡ true
find_passes p [] w h = cc
find_passes p (v ∷ ws) w h = first (p v) refl h (find_passes p ws w) where
  first : (b : Bool) → p v ≡ b → cond b (Some v) (find p ws) ≡ Some w → (find p ws ≡ Some w → p w ≡ true) → p w ≡ true
  first true e g more = let same : v ≡ w = cc in rw (← same) e
  first false e g more = more g

differ : (xs ys : List ℕ) → xs ≢ ys → bytes_eq xs ys ≡ false
differ xs ys h = by_test (bytes_eq xs ys) refl where
  by_test : (b : Bool) → bytes_eq xs ys ≡ b → bytes_eq xs ys ≡ false
  by_test true e = absurd (h ((bytes_eq-Decides xs ys).0 e))
  by_test false e = e

pub word_of-none : (text : List ℕ) → ((w : Word) → lowered text ≢ lowered (spelling w)) → word_of text ≡ None
unfolding word_of
word_of-none text h = find_none (λ v. bytes_eq (lowered (spelling v)) (lowered text)) all_words (λ w. differ _ _ (λ e. h w (sym e)))

pub word_of-is : (text : List ℕ) (w : Word) → word_of text ≡ Some w → lowered text ≡ lowered (spelling w)
unfolding word_of
word_of-is text w h = sym ((bytes_eq-Decides (lowered (spelling w)) (lowered text)).0 (find_passes (λ v. bytes_eq (lowered (spelling v)) (lowered text)) all_words w h))
