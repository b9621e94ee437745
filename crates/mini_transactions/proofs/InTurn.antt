-- The pages of a plan that are told of an act one after another.
use Rattle.std.proofs.Common.{◌≡◌, ◌≢◌, ◌<◌, ◌≤◌, ◌+◌, ℕ, suc, Bool, true, false, cond, nat_eq, Option, Some, None, List, [], ◌∷◌, ◌++◌, length, take, drop, get_or, set, find, MatchBool, refl, sym, ap, subst, ◌∙◌, arith, below_more, get_or-set_same, get_or-set_other}
use Rattle.std.specs.List.{refill}
use Rattle.std.specs.Option.{option_map_or}
use Rattle.std.proofs.Math.Seq.{take-append_seam}
use Rattle.std.proofs.lemmas.Bool.{false≢true}
use Rattle.std.proofs.lemmas.List.{get_or_default}
use Rattle.fetch_steps.specs.declared.acts.Told.{Told}
use Rattle.mini_transactions.specs.declared.page_work.PageWork.{PageWork}
use Rattle.mini_transactions.specs.Fetching.{Hears}
use Rattle.mini_transactions.specs.Work.{next_of}
use Rattle.mini_transactions.specs.Progress.{Progress, is_in, is_joint, takes_part, work_of, acts_on}
use Rattle.mini_transactions.specs.Together.{Takes, AllTake, Turns}

-- one more page is told: x at i becomes y
pub told_more : (R : PageWork → PageWork → Type 0) (before works : List PageWork) (i : ℕ) (x y : PageWork) → i < length works → x ≡ get_or works i x → R x y
    → ((k : ℕ) → k < i → (d : PageWork) → R (get_or before k d) (get_or works k d))
    → ((k : ℕ) → i ≤ k → (d : PageWork) → get_or works k d ≡ get_or before k d)
    → (k : ℕ) → k < i + 1 → (d : PageWork) → R (get_or before k d) (get_or (set works i y) k d)
told_more R before works i x y within at rxy below rest =
    let P : ℕ → Type 0 = λ k. (d : PageWork) → R (get_or before k d) (get_or (set works i y) k d) in
    below_more P i
    (λ k h d.
    let ne : k ≢ i = omega arith in
    subst (λ b. R (get_or before k d) b) (sym (get_or-set_other works i k y d ne)) (below k h d))
    (λ d.
    let same : x ≡ get_or before i d = at ∙ get_or_default works i x d within ∙ rest i (omega arith) d in
    let now : y ≡ get_or (set works i y) i d = sym (get_or-set_same works i y d within) in
    subst (λ b. R (get_or before i d) b) now (subst (λ a. R a y) same rxy))

pub rest_more : (before works : List PageWork) (i : ℕ) (y : PageWork)
    → ((k : ℕ) → i ≤ k → (d : PageWork) → get_or works k d ≡ get_or before k d)
    → (k : ℕ) → i + 1 ≤ k → (d : PageWork) → get_or (set works i y) k d ≡ get_or before k d
rest_more before works i y rest k h d =
    let ne : k ≢ i = omega arith in
    get_or-set_other works i k y d ne ∙ rest k (omega arith) d

-- the list of all pages after the last of them was told
pub refill_all : (xs ws : List PageWork) → length ws ≡ length xs → refill (length xs) xs ws ≡ ws
refill_all xs ws long = ap (λ n. take n (ws ++ drop (length ws) xs)) (sym long) ∙ take-append_seam ws (drop (length ws) xs)

-- the pages of two lists, one by one
abbrev pub Found : (PageWork → PageWork → Type 0) → ℕ → Option PageWork → Option PageWork → Type 0
Found R p None None = Unit {0}
Found R p (Some x) (Some y) = R x y × (nat_eq x.fetch.page p ≡ true)
Found R p _ _ = ⊥

chosen : (R : PageWork → PageWork → Type 0) (p : ℕ) (x y : PageWork) (b c : Bool) (f g : Option PageWork) → nat_eq x.fetch.page p ≡ b → c ≡ b → R x y → Found R p f g → Found R p (cond b (Some x) f) (cond c (Some y) g)
chosen R p x y true true f g q e r h = (r, q)
chosen R p x y false false f g q e r h = h
chosen R p x y true false f g q e r h = absurd (false≢true e)
chosen R p x y false true f g q e r h = absurd (false≢true (sym e))

-- page p of two lists with the same pages
pub find_each : (R : PageWork → PageWork → Type 0) → ((x y : PageWork) → R x y → y.fetch.page ≡ x.fetch.page) → (p : ℕ) (before now : List PageWork) → length now ≡ length before
    → ((k : ℕ) → k < length before → (d : PageWork) → R (get_or before k d) (get_or now k d))
    → Found R p (find (λ w. nat_eq w.fetch.page p) before) (find (λ w. nat_eq w.fetch.page p) now)
find_each R keeps p [] [] long each = tt
find_each R keeps p [] (y ∷ ys) long each = absurd (omega arith)
find_each R keeps p (x ∷ xs) [] long each = absurd (omega arith)
find_each R keeps p (x ∷ xs) (y ∷ ys) long each =
    let r : R x y = each 0 (omega arith) x in
    let rest : Found R p (find (λ w. nat_eq w.fetch.page p) xs) (find (λ w. nat_eq w.fetch.page p) ys) = find_each R keeps p xs ys (omega arith) (λ k h d. each (suc k) (omega arith) d) in
    chosen R p x y (nat_eq x.fetch.page p) (nat_eq y.fetch.page p) _ _ refl (ap (λ n. nat_eq n p) (keeps x y r)) r rest

-- a page that takes part is told, and another stays
pub takes_page : (told : Told) (b : Bool) (x y : PageWork) → MatchBool b (Hears x told y) (y ≡ x) → y.fetch.page ≡ x.fetch.page
takes_page told true x y h = h.page
takes_page told false x y h = ap (λ (w : PageWork). w.fetch.page) h

-- page p of a plan that is told of its act
pub find_told : (page : ℕ) (joint : Bool) (told : Told) (before now : List PageWork) → length now ≡ length before → AllTake page joint told before now → (p : ℕ)
    → Found (Takes page joint told) p (find (λ w. nat_eq w.fetch.page p) before) (find (λ w. nat_eq w.fetch.page p) now)
find_told page joint told before now long each p = find_each (Takes page joint told) (λ x y h. takes_page told (is_in page joint x) x y h) p before now long each

pub tells : (A B : Type 0) (b : Bool) → b ≡ true → MatchBool b A B → A
tells A B true e h = h
tells A B false e h = absurd (false≢true e)

pub stays : (A B : Type 0) (b : Bool) → b ≡ false → MatchBool b A B → B
stays A B false e h = h
stays A B true e h = absurd (false≢true (sym e))

-- a page that takes no part
other : (page : ℕ) (joint : Bool) (told : Told) (p : ℕ) (o now : Option PageWork) → Found (Takes page joint told) p o now → option_map_or (is_in page joint) o false ≡ false → now ≡ o
other page joint told p None None f e = refl
other page joint told p None (Some y) f e = absurd f
other page joint told p (Some x) None f e = absurd f
other page joint told p (Some x) (Some y) f e = ap (λ w. Some w) (stays (Hears x told y) (y ≡ x) (is_in page joint x) e f.0)

-- a page that takes part
abbrev pub Heard : Told → ℕ → Option PageWork → Option PageWork → Type 0
Heard told p (Some x) (Some y) = Hears x told y × (nat_eq x.fetch.page p ≡ true)
Heard told p _ _ = ⊥

one : (page : ℕ) (joint : Bool) (told : Told) (p : ℕ) (o now : Option PageWork) → Found (Takes page joint told) p o now → option_map_or (is_in page joint) o false ≡ true → Heard told p o now
one page joint told p None None f e = absurd (false≢true e)
one page joint told p None (Some y) f e = absurd f
one page joint told p (Some x) None f e = absurd f
one page joint told p (Some x) (Some y) f e = (tells (Hears x told y) (y ≡ x) (is_in page joint x) e f.0, f.1)

pub others : (m : Progress) (told : Told) (now : List PageWork) → Turns told m.works now → (p : ℕ) → acts_on m p ≡ false → find (λ w. nat_eq w.fetch.page p) now ≡ work_of m p
others m told now t p e = go (next_of m.works) t.each t.none e
  where
    go : (o : Option PageWork) → ((turn : PageWork) → o ≡ Some turn → AllTake turn.fetch.page (is_joint turn.stage) told m.works now) → (o ≡ None → now ≡ m.works) → option_map_or (λ turn. option_map_or (takes_part turn) (work_of m p) false) o false ≡ false → find (λ w. nat_eq w.fetch.page p) now ≡ work_of m p
    go None each none e = ap (λ ws. find (λ (w : PageWork). nat_eq w.fetch.page p) ws) (none refl)
    go (Some turn) each none e = other turn.fetch.page (is_joint turn.stage) told p (work_of m p) _ (find_told turn.fetch.page (is_joint turn.stage) told m.works now t.long (each turn refl) p) e

pub heard : (m : Progress) (told : Told) (now : List PageWork) → Turns told m.works now → (p : ℕ) → acts_on m p ≡ true → Heard told p (work_of m p) (find (λ w. nat_eq w.fetch.page p) now)
heard m told now t p e = go (next_of m.works) t.each e
  where
    go : (o : Option PageWork) → ((turn : PageWork) → o ≡ Some turn → AllTake turn.fetch.page (is_joint turn.stage) told m.works now) → option_map_or (λ turn. option_map_or (takes_part turn) (work_of m p) false) o false ≡ true → Heard told p (work_of m p) (find (λ w. nat_eq w.fetch.page p) now)
    go None each e = absurd (false≢true e)
    go (Some turn) each e = one turn.fetch.page (is_joint turn.stage) told p (work_of m p) _ (find_told turn.fetch.page (is_joint turn.stage) told m.works now t.long (each turn refl) p) e
