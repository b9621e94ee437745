-- Lemmas on lists of fetches, of which no two are of one page.
use Rattle.std.proofs.Common.{◌≡◌, ◌≢◌, ◌<◌, ◌≤◌, ◌+◌, ◌++◌, ℕ, zero, suc, Bool, true, false, cond, Option, Some, None, List, [], ◌∷◌, length, set, get_or, slice_get, nat_eq, nat_lt, eqb-true, refl, sym, ◌∙◌, ap, subst, arith, length-set, length-append, get_or-set_same, get_or-set_other, option_map}
use Rattle.std.specs.Option.{option_or}
use Rattle.std.specs.List.{find, position, position_or_len, remove}
use Rattle.std.proofs.lemmas.List.{get_or_append_left, get_or_push, get_or_default}
use Rattle.std.proofs.lemmas.Option.{slice_get-get_or}
use Rattle.std.proofs.lemmas.List.Edits.{length-remove, get_or-remove_below, get_or-remove_above}
use Rattle.std.proofs.lemmas.List.Folds.{find_at, find-set, find_past, find-append}
use Rattle.std.proofs.lemmas.List.Quantifiers.{position-Some}
use Rattle.coherent_pool.specs.declared.works.FetchWork.{FetchWork}
use Rattle.coherent_pool.specs.Works.{is_of, work_at, AreApart, SetsWork}

-- a test that finds nothing fails at each place, and back
fails : {X : Type 0} (p : X → Bool) (xs : List X) (d : X) → find p xs ≡ None → (i : ℕ) → i < length xs → p (get_or xs i d) ≡ false
fails p [] d h i l = absurd (omega arith)
fails {X = X} p (x ∷ xs) d h i l = by (p x) refl h i l (fails p xs d)
  where
    by : (b : Bool) → p x ≡ b → cond b (Some x) (find p xs) ≡ None → (j : ℕ) → j < length (x ∷ xs) → (find p xs ≡ None → (k : ℕ) → k < length xs → p (get_or xs k d) ≡ false) → p (get_or (x ∷ xs) j d) ≡ false
    by true e g j m more = absurd (cc)
    by false e g zero m more = e
    by false e g (suc j) m more = more g j (omega arith)

finds_none : {X : Type 0} (p : X → Bool) (xs : List X) (d : X) → ((i : ℕ) → i < length xs → p (get_or xs i d) ≡ false) → find p xs ≡ None
finds_none p [] d h = refl
finds_none p (x ∷ xs) d h =
    let first : p x ≡ false = h 0 (omega arith) in
    rw first (finds_none p xs d (λ i l. h (suc i) (omega arith)))

differ : (p q : ℕ) → nat_eq p q ≡ false → p ≢ q
differ p q h = grind (arith, h)

same_key : (ws : List FetchWork) (i : ℕ) (d e : FetchWork) → i < length ws → (get_or ws i d).step.page ≡ (get_or ws i e).step.page
same_key ws i d e h = ap (λ (w : FetchWork). w.step.page) (get_or_default ws i d e h)

-- ---------------- one more fetch

pub apart_more : (ws : List FetchWork) (w : FetchWork) → AreApart ws → work_at ws w.step.page ≡ None → AreApart (ws ++ w ∷ [])
apart_more ws w h none i j d li lj same = by (nat_lt i (length ws)) refl (nat_lt j (length ws)) refl
  where
    long : length (ws ++ w ∷ []) ≡ length ws + 1
    long = length-append ws (w ∷ [])

    new : (k : ℕ) → k < length ws → (get_or ws k d).step.page ≢ w.step.page
    new k l = differ _ _ (fails (is_of w.step.page) ws d none k l)

    left : (k : ℕ) → k < length ws → get_or (ws ++ w ∷ []) k d ≡ get_or ws k d
    left k l = get_or_append_left ws (w ∷ []) d k l

    last : (k : ℕ) → k < length (ws ++ w ∷ []) → nat_lt k (length ws) ≡ false → k ≡ length ws
    last k l f = let e = long in grind (arith, f)

    at_last : (k : ℕ) → k ≡ length ws → get_or (ws ++ w ∷ []) k d ≡ w
    at_last k e = get_or_push ws w d k (sym e)

    page : FetchWork → ℕ
    page x = x.step.page

    by : (a : Bool) → nat_lt i (length ws) ≡ a → (b : Bool) → nat_lt j (length ws) ≡ b → i ≡ j
    by true e true f =
        let l : i < length ws = grind (arith, e) in
        let m : j < length ws = grind (arith, f) in
        h i j d l m (sym (ap (λ (x : FetchWork). x.step.page) (left i l)) ∙ same ∙ ap (λ (x : FetchWork). x.step.page) (left j m))
    by true e false f =
        let l : i < length ws = grind (arith, e) in
        absurd (new i l (sym (ap (λ (x : FetchWork). x.step.page) (left i l)) ∙ same ∙ ap (λ (x : FetchWork). x.step.page) (at_last j (last j lj f))))
    by false e true f =
        let m : j < length ws = grind (arith, f) in
        absurd (new j m (sym (ap (λ (x : FetchWork). x.step.page) (left j m)) ∙ sym same ∙ ap (λ (x : FetchWork). x.step.page) (at_last i (last i li e))))
    by false e false f = last i li e ∙ sym (last j lj f)

pub sets_more : (ws : List FetchWork) (w : FetchWork) → work_at ws w.step.page ≡ None → SetsWork w.step.page (Some w) ws (ws ++ w ∷ [])
sets_more ws w none = record {
  here = find-append (is_of w.step.page) ws (w ∷ []) ∙ rw none (found (nat_eq w.step.page w.step.page) (grind arith));
  beside = λ q ne. find-append (is_of q) ws (w ∷ []) ∙ other q (work_at ws q) (nat_eq w.step.page q) (grind arith);
}
  where
    found : (b : Bool) → b ≡ true → cond b (Some w) None ≡ Some w
    found true h = refl
    found false h = absurd (cc)

    other : (q : ℕ) (o : Option FetchWork) (b : Bool) → b ≡ false → option_or o (cond b (Some w) None) ≡ o
    other q None false h = refl
    other q (Some v) false h = refl
    other q o true h = absurd (cc)

-- ---------------- one fetch in its place

pub apart_set : (ws : List FetchWork) (k : ℕ) (w : FetchWork) → AreApart ws → k < length ws → w.step.page ≡ (get_or ws k w).step.page → AreApart (set ws k w)
apart_set ws k w h within same i j d li lj e = h i j d (omega (arith, length-set ws k w)) (omega (arith, length-set ws k w)) (sym (keeps i) ∙ e ∙ keeps j)
  where
    keeps : (m : ℕ) → (get_or (set ws k w) m d).step.page ≡ (get_or ws m d).step.page
    keeps m = by (nat_eq m k) refl
      where
        by : (b : Bool) → nat_eq m k ≡ b → (get_or (set ws k w) m d).step.page ≡ (get_or ws m d).step.page
        by true t =
            let at : m ≡ k = eqb-true m k t in
            subst (λ (z : ℕ). (get_or (set ws k w) z d).step.page ≡ (get_or ws z d).step.page) (sym at)
            (ap (λ (x : FetchWork). x.step.page) (get_or-set_same ws k w d within) ∙ same ∙ same_key ws k w d within)
        by false t = ap (λ (x : FetchWork). x.step.page) (get_or-set_other ws k m w d (differ m k t))

-- the fetch at the first place of page p becomes w, of the same page
pub sets_at : (ws : List FetchWork) (p i : ℕ) (w : FetchWork) → position (is_of p) ws ≡ Some i → w.step.page ≡ p → SetsWork p (Some w) ws (set ws i w)
sets_at ws p i w at same = record {
  here = find-set (is_of p) ws i w (place (nat_lt (position_or_len (is_of p) ws) (length ws)) at) found.0 (rw same (grind arith));
  beside = λ q ne. find_past (is_of q) ws i w w (let e : (get_or ws i w).step.page ≡ p = eqb-true _ _ found.1 in grind (arith, e)) (grind (arith, same));
}
  where
    found : (i < length ws) × (is_of p (get_or ws i w) ≡ true) × ((k : ℕ) → k < i → is_of p (get_or ws k w) ≡ false)
    found = position-Some (is_of p) ws i w at

    place : (b : Bool) → cond b (Some (position_or_len (is_of p) ws)) None ≡ Some i → i ≡ position_or_len (is_of p) ws
    place true h = cc
    place false h = absurd (cc)

-- the fetch of page p is the one at its first place
pub found_at : (ws : List FetchWork) (p i : ℕ) (d : FetchWork) → position (is_of p) ws ≡ Some i → work_at ws p ≡ Some (get_or ws i d)
found_at ws p i d at = find_at (is_of p) ws ∙ ap (λ (k : ℕ). slice_get ws k) (place (nat_lt (position_or_len (is_of p) ws) (length ws)) at) ∙ slice_get-get_or ws i d (position-Some (is_of p) ws i d at).0
  where
    place : (b : Bool) → cond b (Some (position_or_len (is_of p) ws)) None ≡ Some i → position_or_len (is_of p) ws ≡ i
    place true h = cc
    place false h = absurd (cc)

-- no page has a fetch at no place
pub found_none : (ws : List FetchWork) (p : ℕ) → position (is_of p) ws ≡ None → work_at ws p ≡ None
found_none ws p at = find_at (is_of p) ws ∙ past ws (position_or_len (is_of p) ws) (beyond (nat_lt (position_or_len (is_of p) ws) (length ws)) refl at)
  where
    beyond : (b : Bool) → nat_lt (position_or_len (is_of p) ws) (length ws) ≡ b → cond b (Some (position_or_len (is_of p) ws)) None ≡ None → length ws ≤ position_or_len (is_of p) ws
    beyond true e h = absurd (cc)
    beyond false e h = grind (arith, e)

    past : (vs : List FetchWork) (k : ℕ) → length vs ≤ k → slice_get vs k ≡ None
    past [] k l = refl
    past (v ∷ vs) zero l = absurd (omega arith)
    past (v ∷ vs) (suc k) l = past vs k (omega arith)

-- ---------------- one fetch less

pub apart_less : (ws : List FetchWork) (k : ℕ) → AreApart ws → k < length ws → AreApart (remove ws k)
apart_less ws k h within i j d li lj e = by (nat_lt i k) refl (nat_lt j k) refl
  where
    long : length (remove ws k) + 1 ≡ length ws
    long = length-remove ws k within

    low : (m : ℕ) → m < k → (get_or (remove ws k) m d).step.page ≡ (get_or ws m d).step.page
    low m l = ap (λ (x : FetchWork). x.step.page) (get_or-remove_below ws k d m l within)

    high : (m : ℕ) → k ≤ m → (get_or (remove ws k) m d).step.page ≡ (get_or ws (m + 1) d).step.page
    high m l = ap (λ (x : FetchWork). x.step.page) (get_or-remove_above ws k d m l within)

    by : (a : Bool) → nat_lt i k ≡ a → (b : Bool) → nat_lt j k ≡ b → i ≡ j
    by true a true b =
        let l : i < k = grind (arith, a) in
        let m : j < k = grind (arith, b) in
        h i j d (omega (arith, long)) (omega (arith, long)) (sym (low i l) ∙ e ∙ low j m)
    by true a false b =
        let l : i < k = grind (arith, a) in
        let m : k ≤ j = grind (arith, b) in
        let z : i ≡ j + 1 = h i (j + 1) d (omega (arith, long)) (omega (arith, long)) (sym (low i l) ∙ e ∙ high j m) in
        absurd (omega arith)
    by false a true b =
        let l : k ≤ i = grind (arith, a) in
        let m : j < k = grind (arith, b) in
        let z : i + 1 ≡ j = h (i + 1) j d (omega (arith, long)) (omega (arith, long)) (sym (high i l) ∙ e ∙ low j m) in
        absurd (omega arith)
    by false a false b =
        let l : k ≤ i = grind (arith, a) in
        let m : k ≤ j = grind (arith, b) in
        let z : i + 1 ≡ j + 1 = h (i + 1) (j + 1) d (omega (arith, long)) (omega (arith, long)) (sym (high i l) ∙ e ∙ high j m) in
        omega arith

keeps_front : (p : FetchWork → Bool) (ws : List FetchWork) (i : ℕ) (d : FetchWork) → i < length ws → p (get_or ws i d) ≡ false → find p (remove ws i) ≡ find p ws
keeps_front p [] i d l h = absurd (omega arith)
keeps_front p (w ∷ ws) zero d l h = rw h refl
keeps_front p (w ∷ ws) (suc i) d l h = ap (λ (o : Option FetchWork). cond (p w) (Some w) o) (keeps_front p ws i d (omega arith) h)

pub sets_less : (ws : List FetchWork) (p i : ℕ) (d : FetchWork) → AreApart ws → position (is_of p) ws ≡ Some i → SetsWork p None ws (remove ws i)
sets_less ws p i d h at = record {
  here = finds_none (is_of p) (remove ws i) d (λ j l. other j l);
  beside = λ q ne. keeps_front (is_of q) ws i d found.0 (grind (arith, page));
}
  where
    found : (i < length ws) × (is_of p (get_or ws i d) ≡ true) × ((k : ℕ) → k < i → is_of p (get_or ws k d) ≡ false)
    found = position-Some (is_of p) ws i d at

    page : (get_or ws i d).step.page ≡ p
    page = eqb-true _ _ found.1

    long : length (remove ws i) + 1 ≡ length ws
    long = length-remove ws i found.0

    apart : (k : ℕ) → k < length ws → k ≢ i → is_of p (get_or ws k d) ≡ false
    apart k l ne = by (is_of p (get_or ws k d)) refl
      where
        by : (b : Bool) → is_of p (get_or ws k d) ≡ b → b ≡ false
        by true t = absurd (ne (h k i d l found.0 (eqb-true _ _ t ∙ sym page)))
        by false t = refl

    other : (j : ℕ) → j < length (remove ws i) → is_of p (get_or (remove ws i) j d) ≡ false
    other j l = by (nat_lt j i) refl
      where
        by : (b : Bool) → nat_lt j i ≡ b → is_of p (get_or (remove ws i) j d) ≡ false
        by true t =
            let low : j < i = grind (arith, t) in
            ap (is_of p) (get_or-remove_below ws i d j low found.0) ∙ apart j (omega (arith, long)) (λ e. omega arith)
        by false t =
            let high : i ≤ j = grind (arith, t) in
            ap (is_of p) (get_or-remove_above ws i d j high found.0) ∙ apart (j + 1) (omega (arith, long)) (λ e. omega arith)

-- ---------------- as the code changes a fetch

-- the fetch that was found is of page p
pub page_at : (ws : List FetchWork) (p i : ℕ) (d : FetchWork) → position (is_of p) ws ≡ Some i → d ≡ get_or ws i d → d.step.page ≡ p
page_at ws p i d at is = ap (λ (w : FetchWork). w.step.page) is ∙ eqb-true _ _ (position-Some (is_of p) ws i d at).1

pub apart_by : (ws : List FetchWork) (p i : ℕ) (w : FetchWork) → AreApart ws → position (is_of p) ws ≡ Some i → w.step.page ≡ p → AreApart (set ws i w)
apart_by ws p i w h at page =
    let found : (i < length ws) × (is_of p (get_or ws i w) ≡ true) × ((k : ℕ) → k < i → is_of p (get_or ws k w) ≡ false) = position-Some (is_of p) ws i w at in
    apart_set ws i w h found.0 (page ∙ sym (eqb-true _ _ found.1))

pub sets_by : (f : FetchWork → FetchWork) (ws : List FetchWork) (p i : ℕ) (d w : FetchWork) → position (is_of p) ws ≡ Some i → d ≡ get_or ws i d → w ≡ f d → w.step.page ≡ p
    → SetsWork p (option_map f (work_at ws p)) ws (set ws i w)
sets_by f ws p i d w at is same page =
    let e : work_at ws p ≡ Some d = found_at ws p i d at ∙ ap Some (sym is) in
    let P : Option FetchWork → Type 0 = λ o. SetsWork p (option_map f o) ws (set ws i w) in
    let Q : FetchWork → Type 0 = λ x. SetsWork p (Some x) ws (set ws i w) in
    subst P (sym e) (subst Q same (sets_at ws p i w at page))

pub sets_none : (f : FetchWork → FetchWork) (ws : List FetchWork) (p : ℕ) → position (is_of p) ws ≡ None → SetsWork p (option_map f (work_at ws p)) ws ws
sets_none f ws p at =
    let e : work_at ws p ≡ None = found_none ws p at in
    record { here = e ∙ sym (ap (λ (o : Option FetchWork). option_map f o) e); beside = λ q ne. refl }

pub sets_gone : (ws : List FetchWork) (p : ℕ) → position (is_of p) ws ≡ None → SetsWork p None ws ws
sets_gone ws p at = record { here = found_none ws p at; beside = λ q ne. refl }
