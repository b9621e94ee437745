-- A text has one reading.
use Rattle.std.proofs.Common.{◌≡◌, ◌≢◌, ℕ, suc, ◌+◌, inl, inr, Bool, true, false, List, [], ◌∷◌, ◌++◌, length, take, drop, Option, Some, None, Result, refl, sym, ◌∙◌, ap, subst, arith, append_assoc}
use Rattle.std.proofs.Math.Seq.{take-append_seam, drop-append_seam}
use Rattle.std.proofs.lemmas.Bool.Decides.{nat_tests}
use Rattle.std.proofs.lemmas.List.{take_at, drop_at}
use Rattle.std.specs.List.{list_all}
use Rattle.std.specs.Str.Lossy.{utf8_valid_len}
use Rattle.sql_words.specs.declared.cutting.Front.{Front}
use Rattle.sql_words.specs.declared.signs.Sign.{Sign}
use Rattle.sql_words.specs.declared.signs.Sign.TheVariants as sign
use Rattle.sql_words.specs.declared.tokens.Class.{Class}
use Rattle.sql_words.specs.declared.tokens.Class.TheVariants as class
use Rattle.sql_words.specs.Bytes.{is_space, is_letter, is_digit, BeginsNot}
use Rattle.sql_words.specs.Front.{found, front_of, closing}
use Rattle.sql_words.specs.Lexed.{Lexed}
use Rattle.sql_words.specs.Signs.{IsSign}
use Rattle.sql_words.specs.Tokens.{doubled, IsToken, is_minus, is_joined, Cuts, Fails, IsClosed, HasFaultAt, AreTokens, HasOneReading}
use Rattle.sql_words.proofs.Runs.{both}
use Rattle.sql_words.proofs.FrontLaws.{closing-quoted}
use Rattle.sql_words.proofs.TokenLaws.{token_front}

-- the bytes begin with one that is no white space
abbrev pub Visible : List ℕ → Type 0
Visible [] = ⊥
Visible (b ∷ bytes) = is_space b ≡ false

letter_visible : (b : ℕ) → is_letter b ≡ true → is_space b ≡ false
unfolding is_letter is_space
letter_visible b h = grind (arith, nat_tests)

digit_visible : (b : ℕ) → is_digit b ≡ true → is_space b ≡ false
unfolding is_digit is_space
digit_visible b h = grind (arith, nat_tests)

sign_visible : (s : Sign) (bytes : List ℕ) → IsSign s bytes → Visible bytes
unfolding is_space
sign_visible sign.Ne bytes (inl e) = subst Visible (sym e) refl
sign_visible sign.Ne bytes (inr e) = subst Visible (sym e) refl
sign_visible sign.Open bytes e = subst Visible (sym e) refl
sign_visible sign.Close bytes e = subst Visible (sym e) refl
sign_visible sign.Comma bytes e = subst Visible (sym e) refl
sign_visible sign.Dot bytes e = subst Visible (sym e) refl
sign_visible sign.Semicolon bytes e = subst Visible (sym e) refl
sign_visible sign.Star bytes e = subst Visible (sym e) refl
sign_visible sign.Plus bytes e = subst Visible (sym e) refl
sign_visible sign.Minus bytes e = subst Visible (sym e) refl
sign_visible sign.Eq bytes e = subst Visible (sym e) refl
sign_visible sign.Lt bytes e = subst Visible (sym e) refl
sign_visible sign.Le bytes e = subst Visible (sym e) refl
sign_visible sign.Gt bytes e = subst Visible (sym e) refl
sign_visible sign.Ge bytes e = subst Visible (sym e) refl

-- a token begins with a byte that is no white space
pub token_visible : (minus joined : Bool) (text : List ℕ) (c : Class) (rest : List ℕ) → IsToken minus joined text c rest → Visible text
unfolding is_space
token_visible minus joined [] (class.Reserved w) rest h = absurd h.0
token_visible minus joined (b ∷ t) (class.Reserved w) rest h = letter_visible b (h.0).0
token_visible minus joined [] class.Name rest h = absurd h.0
token_visible minus joined (b ∷ t) class.Name rest h = letter_visible b (h.0).0
token_visible minus joined [] class.Number rest h = absurd h.0
token_visible minus joined (b ∷ t) class.Number rest h = digit_visible b (h.0).0
token_visible minus joined text class.Text rest h = subst Visible (sym h.1) refl
token_visible minus joined text (class.Sign s) rest h = sign_visible s text h.0

Visible-append : (text rest : List ℕ) → Visible text → Visible (text ++ rest)
Visible-append [] rest h = absurd h
Visible-append (b ∷ text) rest h = h

Visible-from : (bytes : List ℕ) → bytes ≢ [] → BeginsNot is_space bytes → Visible bytes
Visible-from [] some h = some refl
Visible-from (b ∷ bytes) some h = h

heads : {a b : ℕ} {xs ys : List ℕ} → a ∷ xs ≡ b ∷ ys → a ≡ b
heads h = cc

tails : {a b : ℕ} {xs ys : List ℕ} → a ∷ xs ≡ b ∷ ys → xs ≡ ys
tails h = cc

clash : (b : Bool) → b ≡ true → b ≡ false → ⊥
clash b h g = cc

-- white space and what stands behind it are determined
one_split : (s t x y : List ℕ) → list_all is_space s ≡ true → list_all is_space t ≡ true → Visible x → Visible y → s ++ x ≡ t ++ y → (s ≡ t) × (x ≡ y)
one_split [] [] x y hs ht vx vy e = (refl, e)
one_split [] (b ∷ t) [] y hs ht vx vy e = absurd vx
one_split [] (b ∷ t) (a ∷ x) y hs ht vx vy e = absurd (clash (is_space b) (both _ _ ht).0 (ap is_space (sym (heads e)) ∙ vx))
one_split (a ∷ s) [] x [] hs ht vx vy e = absurd vy
one_split (a ∷ s) [] x (b ∷ y) hs ht vx vy e = absurd (clash (is_space a) (both _ _ hs).0 (ap is_space (heads e) ∙ vy))
one_split (a ∷ s) (b ∷ t) x y hs ht vx vy e =
    let more = one_split s t x y (both _ _ hs).1 (both _ _ ht).1 vx vy (tails e) in
    (ap (λ q. q ∷ s) (heads e) ∙ ap (λ q. b ∷ q) more.0, more.1)

-- where all is white space, nothing stands behind it
no_split : (s x bytes : List ℕ) → list_all is_space bytes ≡ true → Visible x → bytes ≡ s ++ x → ⊥
no_split [] [] bytes h v e = v
no_split [] (b ∷ x) bytes h v e = clash (is_space b) (both (is_space b) _ (subst (λ q. list_all is_space q ≡ true) e h)).0 v
no_split (a ∷ s) x bytes h v e = no_split s x (s ++ x) (both (is_space a) _ (subst (λ q. list_all is_space q ≡ true) e h)).1 v refl

cut_visible : (before : Option Class) (at : ℕ) (bytes : List ℕ) (t : Lexed) (c : Cuts before at bytes t) → Visible (t.text ++ c.rest)
cut_visible before at bytes t c = Visible-append t.text c.rest (token_visible (is_minus before) (is_joined before c.spaces) t.text t.class c.rest c.token)

-- one token stands first
record SameCut (before : Option Class) (at : ℕ) (bytes : List ℕ) (t u : Lexed) (c : Cuts before at bytes t) (d : Cuts before at bytes u) : Type 0 where
  token : t ≡ u
  rest : c.rest ≡ d.rest

same_front : {c d : Class} {m n : ℕ} → ◌≡◌ {A = Result Front ℕ} (found c m) (found d n) → (c ≡ d) × (m ≡ n)
same_front {c} {d} {m} {n} h =
    let e : ◌≡◌ {A = Front} (record { class = c; len = m }) (record { class = d; len = n }) = cc in
    (ap (λ (f : Front). f.class) e, ap (λ (f : Front). f.len) e)

abbrev lexed : List ℕ → ℕ → Class → Lexed
lexed text at class = record { text = text; at = at; class = class }

joined_up : (t u : Lexed) → t.text ≡ u.text → t.at ≡ u.at → t.class ≡ u.class → t ≡ u
joined_up t u x y z = ap (λ q. lexed q t.at t.class) x ∙ ap (λ q. lexed u.text q t.class) y ∙ ap (λ q. lexed u.text u.at q) z

same_cut : (before : Option Class) (at : ℕ) (bytes : List ℕ) (t u : Lexed) (c : Cuts before at bytes t) (d : Cuts before at bytes u) → SameCut before at bytes t u c d
same_cut before at bytes t u c d =
    let split = one_split c.spaces d.spaces (t.text ++ c.rest) (u.text ++ d.rest) c.blank d.blank (cut_visible before at bytes t c) (cut_visible before at bytes u d) (sym c.whole ∙ d.whole) in
    let fronts : found t.class (length t.text) ≡ found u.class (length u.text) =
    sym (token_front (is_minus before) (is_joined before c.spaces) t.text t.class c.rest c.token)
    ∙ ap (λ q. front_of (is_minus before) (is_joined before q) (t.text ++ c.rest)) split.0
    ∙ ap (front_of (is_minus before) (is_joined before d.spaces)) split.1
    ∙ token_front (is_minus before) (is_joined before d.spaces) u.text u.class d.rest d.token in
    let same = same_front fronts in
    let text : t.text ≡ u.text = sym (take-append_seam t.text c.rest) ∙ ap (λ q. take (length t.text) q) split.1 ∙ take_at u.text d.rest (length t.text) (sym same.1) in
    let rest : c.rest ≡ d.rest = sym (drop-append_seam t.text c.rest) ∙ ap (λ q. drop (length t.text) q) split.1 ∙ drop_at u.text d.rest (length t.text) (sym same.1) in
    let at : t.at ≡ u.at = c.place ∙ ap (λ q. at + length q) split.0 ∙ sym d.place in
    record {
      token = joined_up t u text at same.0;
      rest = rest;
    }

-- no fault stands where a token does
no_fault : (before : Option Class) (at : ℕ) (bytes : List ℕ) (t : Lexed) (p : ℕ) → Cuts before at bytes t → Fails before at bytes p → ⊥
no_fault before at bytes t p c f =
    let split = one_split c.spaces f.spaces (t.text ++ c.rest) f.rest c.blank f.blank (cut_visible before at bytes t c) (Visible-from f.rest f.some f.visible) (sym c.whole ∙ f.whole) in
    f.none t.text c.rest t.class (sym split.1) (subst (λ q. IsToken (is_minus before) (is_joined before q) t.text t.class c.rest) split.0 c.token)

same_length : (x y : List ℕ) (m n : ℕ) → ◌≡◌ {A = Option ℕ} (Some m) (Some n) → m ≡ n
same_length x y m n h = cc

-- a closed text is closed in one way
one_closed : (bytes c d x y : List ℕ) → IsClosed bytes c x → IsClosed bytes d y → doubled c ≡ doubled d
one_closed bytes c d x y h g =
    let e : (doubled c ++ 39 ∷ []) ++ x ≡ (doubled d ++ 39 ∷ []) ++ y = tails (sym h.0 ∙ g.0) in
    let f : doubled c ++ (39 ∷ x) ≡ doubled d ++ (39 ∷ y) = sym (append_assoc (doubled c) (39 ∷ []) x) ∙ e ∙ append_assoc (doubled d) (39 ∷ []) y in
    let closes = sym (closing-quoted c x h.1) ∙ ap closing f ∙ closing-quoted d y g.1 in
    let size : length (doubled c) ≡ length (doubled d) = let k = same_length c d _ _ closes in omega arith in
    sym (take-append_seam (doubled c) (39 ∷ x)) ∙ ap (λ q. take (length (doubled c)) q) f ∙ take_at (doubled d) (39 ∷ y) (length (doubled c)) (sym size)

one_fault_at : (bytes : List ℕ) (m n : ℕ) → HasFaultAt bytes m → HasFaultAt bytes n → m ≡ n
one_fault_at bytes m n (inl a) (inl b) =
    let same : doubled a.0 ≡ doubled b.0 = one_closed bytes a.0 b.0 a.1 b.1 a.2 b.2 in
    a.3 ∙ ap (λ q. suc (utf8_valid_len q)) same ∙ sym b.3
one_fault_at bytes m n (inl a) (inr b) = absurd (b.0 a.0 a.1 a.2)
one_fault_at bytes m n (inr a) (inl b) = absurd (a.0 b.0 b.1 b.2)
one_fault_at bytes m n (inr a) (inr b) = a.1 ∙ sym b.1

one_fault : (before : Option Class) (at : ℕ) (bytes : List ℕ) (p q : ℕ) → Fails before at bytes p → Fails before at bytes q → p ≡ q
one_fault before at bytes p q f g =
    let split = one_split f.spaces g.spaces f.rest g.rest f.blank g.blank (Visible-from f.rest f.some f.visible) (Visible-from g.rest g.some g.visible) (sym f.whole ∙ g.whole) in
    let offsets : f.offset ≡ g.offset = one_fault_at g.rest f.offset g.offset (subst (λ r. HasFaultAt r f.offset) split.1 f.fault) g.fault in
    f.place ∙ ap (λ s. at + length s + f.offset) split.0 ∙ ap (λ k. at + length g.spaces + k) offsets ∙ sym g.place

one_at : (before : Option Class) (at : ℕ) (bytes : List ℕ) (ts us : List Lexed) (p q : Option ℕ) → AreTokens before at bytes ts p → AreTokens before at bytes us q → (ts ≡ us) × (p ≡ q)
one_at before at bytes [] [] None None h g = (refl, refl)
one_at before at bytes [] [] None (Some q) h g = absurd (no_split g.spaces g.rest bytes h (Visible-from g.rest g.some g.visible) g.whole)
one_at before at bytes [] [] (Some p) None h g = absurd (no_split h.spaces h.rest bytes g (Visible-from h.rest h.some h.visible) h.whole)
one_at before at bytes [] [] (Some p) (Some q) h g = (refl, ap Some (one_fault before at bytes p q h g))
one_at before at bytes [] (u ∷ us) None q h g = absurd (no_split (g.0).spaces (u.text ++ (g.0).rest) bytes h (cut_visible before at bytes u g.0) (g.0).whole)
one_at before at bytes [] (u ∷ us) (Some p) q h g = absurd (no_fault before at bytes u p g.0 h)
one_at before at bytes (t ∷ ts) [] p None h g = absurd (no_split (h.0).spaces (t.text ++ (h.0).rest) bytes g (cut_visible before at bytes t h.0) (h.0).whole)
one_at before at bytes (t ∷ ts) [] p (Some q) h g = absurd (no_fault before at bytes t q h.0 g)
one_at before at bytes (t ∷ ts) (u ∷ us) p q h g =
    let same = same_cut before at bytes t u h.0 g.0 in
    let moved : AreTokens (Some u.class) (u.at + length u.text) (g.0).rest ts p =
    subst (λ r. AreTokens (Some u.class) (u.at + length u.text) r ts p) same.rest
    (subst (λ (v : Lexed). AreTokens (Some v.class) (v.at + length v.text) (h.0).rest ts p) same.token h.1) in
    let more = one_at (Some u.class) (u.at + length u.text) (g.0).rest ts us p q moved g.1 in
    (ap (λ v. v ∷ ts) same.token ∙ ap (λ vs. u ∷ vs) more.0, more.1)

pub one_reading : HasOneReading
one_reading text ts us p q h g = one_at None 0 text ts us p q h g
