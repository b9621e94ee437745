-- A field that is read is spelled so, and a field that is spelled is read, whatever follows.
use Rattle.std.proofs.Common.{◌≡◌, ◌≢◌, ◌≤◌, ◌<◌, ◌-◌, ◌^◌, ℕ, true, false, cond, ltb, leb, List, [], ◌∷◌, ◌++◌, length, take, drop, Some, None, refl, sym, ap, subst, ◌∙◌, append_assoc, arith}
use Rattle.rm_base.specs.declared.limits.TheConstants.{PAGE_BYTES, PAGE_HEADER_BYTES}
use Rattle.std.specs.Prelude.{◌&&◌}
use Rattle.std.proofs.lemmas.Bool.{ltb-false, le-ltb, and_parts, eqb-true}
use Rattle.std.proofs.lemmas.Bool.Decides.{nat_tests}
use Rattle.std.proofs.lemmas.Option.{cond_some}
use Rattle.std.proofs.lemmas.List.{take_at, drop_at, take-append-drop, length-append, length-take, length-drop}
use Rattle.rm_base.specs.Fields.{field, number, AreBytes}
use Rattle.rm_base.proofs.FieldLaws.{length-field, number-field, number-lt, field-number}
use Rattle.page_image.specs.declared.kind.Kind.{Kind}
use Rattle.page_image.specs.declared.kind.Kind.TheVariants.{Unmade, Meta, Slots, Stamps, Leaf, Inner, Undo}
use Rattle.page_image.specs.Image.{kind_number, kind_with, LevelFits}
use Rattle.redo_record.specs.Spelling.{counted, FitsPage}
use Rattle.redo_record.specs.Reading.{byte_at, number_at, taken_at, page_number_at, kind_at, level_fits, counted_at}
use Rattle.redo_record.proofs.Steps.{bind_some, unless_some, then_some, Takes, Takes-then}

-- ---- one byte

pub byte_takes : (bytes : List ℕ) (x : ℕ × List ℕ) → byte_at bytes ≡ Some x → Takes bytes (x.0 ∷ []) x.1
byte_takes [] x e = absurd cc
byte_takes (b ∷ rest) x e =
    let is : (b, rest) ≡ x = cc in
    subst (λ (y : ℕ × List ℕ). Takes (b ∷ rest) (y.0 ∷ []) y.1) is (record { parts = λ _. refl; shorter = omega arith })

-- ---- numbers

pub number_takes : (n : ℕ) (bytes : List ℕ) (x : ℕ × List ℕ) → number_at n bytes ≡ Some x → Takes bytes (field n x.0) x.1 × (AreBytes bytes → x.0 < 256 ^ n)
number_takes n bytes x e =
    let g = unless_some (ltb (length bytes) n) (number n bytes, drop n bytes) x e in
    let long : n ≤ length bytes = ltb-false _ _ g.0 in
    let took : Takes bytes (field n (number n bytes)) (drop n bytes) =
    record {
      parts = λ fits. sym (take-append-drop n bytes) ∙ ap (λ (t : List ℕ). t ++ drop n bytes) (sym (field-number n bytes fits long));
      shorter = omega (arith, length-drop n bytes);
    } in
    subst (λ (y : ℕ × List ℕ). Takes bytes (field n y.0) y.1 × (AreBytes bytes → y.0 < 256 ^ n)) g.1 (took, number-lt n bytes)

pub number_again : (n x : ℕ) (rest : List ℕ) → x < 256 ^ n → number_at n (field n x ++ rest) ≡ Some (x, rest)
number_again n x rest lt =
    let long : ltb (length (field n x ++ rest)) n ≡ false = le-ltb _ _ (omega (arith, length-append (field n x) rest, length-field n x)) in
    rw (long, drop_at (field n x) rest n (length-field n x), number-field n x rest lt) refl

-- ---- bytes

pub taken_takes : (n : ℕ) (bytes : List ℕ) (x : List ℕ × List ℕ) → taken_at n bytes ≡ Some x → Takes bytes x.0 x.1 × (length x.0 ≡ n)
taken_takes n bytes x e =
    let g = unless_some (ltb (length bytes) n) (take n bytes, drop n bytes) x e in
    let long : n ≤ length bytes = ltb-false _ _ g.0 in
    let took : Takes bytes (take n bytes) (drop n bytes) =
    record { parts = λ _. sym (take-append-drop n bytes); shorter = omega (arith, length-drop n bytes) } in
    subst (λ (y : List ℕ × List ℕ). Takes bytes y.0 y.1 × (length y.0 ≡ n)) g.1 (took, omega (arith, length-take n bytes))

pub taken_again : (text rest : List ℕ) → taken_at (length text) (text ++ rest) ≡ Some (text, rest)
taken_again text rest =
    let long : ltb (length (text ++ rest)) (length text) ≡ false = le-ltb _ _ (omega (arith, length-append text rest)) in
    rw (long, take_at text rest (length text) refl, drop_at text rest (length text) refl) refl

-- ---- page numbers

le_true : (a b : ℕ) → leb a b ≡ true → a ≤ b
le_true a b e = grind (arith, nat_tests)

true_le : (a b : ℕ) → a ≤ b → leb a b ≡ true
true_le a b h = grind (arith, nat_tests)

pub page_takes : (bytes : List ℕ) (x : ℕ × List ℕ) → page_number_at bytes ≡ Some x → Takes bytes (field 4 x.0) x.1 × (x.0 ≤ 32767)
unfolding page_number_at
page_takes bytes x e =
    let a = bind_some (number_at 4 bytes) (λ n. cond (leb n.0 32767) (Some n) None) x e in
    let g = cond_some (leb a.0.0 32767) a.0 x a.2 in
    let took = number_takes 4 bytes a.0 a.1 in
    subst (λ (y : ℕ × List ℕ). Takes bytes (field 4 y.0) y.1 × (y.0 ≤ 32767)) g.1 (took.0, le_true _ _ g.0)

pub page_again : (p : ℕ) (rest : List ℕ) → p ≤ 32767 → page_number_at (field 4 p ++ rest) ≡ Some (p, rest)
unfolding page_number_at
page_again p rest h =
    let bound : p < 256 ^ 4 = omega arith in
    rw (number_again 4 p rest bound, true_le p 32767 h) refl

-- ---- kinds and levels

-- the numbers from 1 to 6 are those of the kinds that pages are made of
kind_with_is : (n : ℕ) → 1 ≤ n → n ≤ 6 → (n ≡ kind_number (kind_with n)) × (kind_with n ≢ Unmade)
kind_with_is n first last = grind (arith, nat_tests)

pub kind_takes : (bytes : List ℕ) (x : Kind × List ℕ) → kind_at bytes ≡ Some x → Takes bytes (kind_number x.0 ∷ []) x.1 × (x.0 ≢ Unmade)
unfolding kind_at
kind_takes bytes x e =
    let a = bind_some (byte_at bytes) (λ n. cond (leb 1 n.0 && leb n.0 6) (Some (kind_with n.0, n.1)) None) x e in
    let g = cond_some (leb 1 a.0.0 && leb a.0.0 6) (kind_with a.0.0, a.0.1) x a.2 in
    let within = and_parts _ _ g.0 in
    let is = kind_with_is a.0.0 (le_true _ _ within.0) (le_true _ _ within.1) in
    let took : Takes bytes (kind_number (kind_with a.0.0) ∷ []) a.0.1 =
    subst (λ (b : ℕ). Takes bytes (b ∷ []) a.0.1) is.0 (byte_takes bytes a.0 a.1) in
    subst (λ (y : Kind × List ℕ). Takes bytes (kind_number y.0 ∷ []) y.1 × (y.0 ≢ Unmade)) g.1 (took, is.1)

pub kind_again : (k : Kind) (rest : List ℕ) → k ≢ Unmade → kind_at (kind_number k ∷ rest) ≡ Some (k, rest)
unfolding kind_at
kind_again Unmade rest h = absurd (h refl)
kind_again Meta rest h = refl
kind_again Slots rest h = refl
kind_again Stamps rest h = refl
kind_again Leaf rest h = refl
kind_again Inner rest h = refl
kind_again Undo rest h = refl

pub level_is : (k : Kind) (level : ℕ) → level_fits k level ≡ true → LevelFits k level
level_is Unmade level e = eqb-true _ _ e
level_is Meta level e = eqb-true _ _ e
level_is Slots level e = eqb-true _ _ e
level_is Stamps level e = eqb-true _ _ e
level_is Leaf level e = eqb-true _ _ e
level_is Inner level e = let p = and_parts _ _ e in (le_true _ _ p.0, le_true _ _ p.1)
level_is Undo level e = eqb-true _ _ e

pub level_again : (k : Kind) (level : ℕ) → LevelFits k level → level_fits k level ≡ true
level_again Unmade level e = rw e refl
level_again Meta level e = rw e refl
level_again Slots level e = rw e refl
level_again Stamps level e = rw e refl
level_again Leaf level e = rw e refl
level_again Inner level e = rw (true_le 1 level e.0, true_le level 8 e.1) refl
level_again Undo level e = rw e refl

-- ---- counted bytes

pub counted_takes : (bytes : List ℕ) (x : List ℕ × List ℕ) → counted_at bytes ≡ Some x → Takes bytes (counted x.0) x.1 × FitsPage x.0
unfolding counted_at
counted_takes bytes x e =
    let a = bind_some (number_at 2 bytes) (λ n. cond (leb 1 n.0 && leb n.0 (PAGE_BYTES - PAGE_HEADER_BYTES)) (taken_at n.0 n.1) None) x e in
    let g = then_some (leb 1 a.0.0 && leb a.0.0 (PAGE_BYTES - PAGE_HEADER_BYTES)) (taken_at a.0.0 a.0.1) x a.2 in
    let within = and_parts _ _ g.0 in
    let long = number_takes 2 bytes a.0 a.1 in
    let new = taken_takes a.0.0 a.0.1 x g.1 in
    let took = Takes-then bytes (field 2 a.0.0) a.0.1 x.0 x.1 long.0 new.0 in
    let counts : Takes bytes (counted x.0) x.1 = subst (λ (n : ℕ). Takes bytes (field 2 n ++ x.0) x.1) (sym new.1) took in
    (counts, (rw new.1 (le_true _ _ within.0), rw new.1 (le_true _ _ within.1)))

pub counted_again : (bytes rest : List ℕ) → FitsPage bytes → counted_at (counted bytes ++ rest) ≡ Some (bytes, rest)
unfolding counted_at
counted_again bytes rest fits =
    let bound : length bytes < 256 ^ 2 = omega (arith, fits.1) in
    ap counted_at (append_assoc (field 2 (length bytes)) bytes rest)
    ∙ rw (number_again 2 (length bytes) (bytes ++ rest) bound, true_le 1 (length bytes) fits.0, true_le (length bytes) (PAGE_BYTES - PAGE_HEADER_BYTES) fits.1) (taken_again bytes rest)
