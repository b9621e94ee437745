-- Lemmas on sets of numbers and their groups.
use Rattle.std.proofs.Common.{◌≡◌, ◌≢◌, ◌≤◌, ◌<◌, ◌+◌, ◌*◌, ◌/◌, ℕ, zero, suc, Bool, true, false, List, length, replicate, set, refl, sym, ◌∙◌, ap, arith, length-set, get_or-set_same, get_or-set_other, nat_eq, eqb-true}
use Rattle.std.proofs.lemmas.List.{length-replicate}
use Rattle.home_tables.specs.Numbers.{has, HasNone, AreMarked}

pub has_blank : (n x : ℕ) → has (replicate n false) x ≡ false
has_blank zero x = refl
has_blank (suc n) zero = refl
has_blank (suc n) (suc x) = has_blank n x

pub none_marked : (m n : ℕ) → m ≡ n * 128 → AreMarked (replicate m false) (replicate n false)
none_marked m n whole =
    record {
      marked = λ x h. absurd (let e = has_blank m x in cc);
      whole = length-replicate {A = Bool} m false ∙ (whole ∙ ap (λ (k : ℕ). k * 128) (sym (length-replicate {A = Bool} n false)));
    }

-- after one number changes, its group's mark says whether the group has a member
pub set_marked : (members groups : List Bool) (x : ℕ) (member some : Bool)
    → AreMarked members groups → x < length members
    → (some ≡ false → HasNone (set members x member) (x / 128 * 128) (x / 128 * 128 + 128))
    → AreMarked (set members x member) (set groups (x / 128) some)
set_marked members groups x member some old within none =
    record {
      marked = λ y h. by y h (nat_eq (y / 128) (x / 128)) refl some refl;
      whole = length-set {A = Bool} members x member ∙ (old.whole ∙ ap (λ (k : ℕ). k * 128) (sym (length-set {A = Bool} groups (x / 128) some)));
    }
  where
    inside : x / 128 < length groups
    inside = let w = old.whole in omega arith

    by : (y : ℕ) → has (set members x member) y ≡ true → (b : Bool) → nat_eq (y / 128) (x / 128) ≡ b → (s : Bool) → some ≡ s → has (set groups (x / 128) some) (y / 128) ≡ true
    by y h true t true e = let same : y / 128 ≡ x / 128 = eqb-true (y / 128) (x / 128) t in rw same (get_or-set_same groups (x / 128) some false inside ∙ e)
    by y h true t false e =
        let same : y / 128 ≡ x / 128 = eqb-true (y / 128) (x / 128) t in
        let low : x / 128 * 128 ≤ y = omega arith in
        let high : y < x / 128 * 128 + 128 = omega arith in
        absurd (let out = none e y low high in cc)
    by y h false t s e =
        let apart : y / 128 ≢ x / 128 = grind (arith, t) in
        let other : y ≢ x = λ same. apart (ap (λ (k : ℕ). k / 128) same) in
        get_or-set_other groups (x / 128) (y / 128) some false apart ∙ old.marked y (sym (get_or-set_other members x y member false other) ∙ h)

pub long_enough : (n : ℕ) (b : Bool) → length (replicate n b) ≡ n
long_enough n b = length-replicate {A = Bool} n b
