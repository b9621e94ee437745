-- Groups: what is read is spelled so, and what is spelled is read, whatever follows.
use Rattle.std.proofs.Common.{◌≡◌, ◌≤◌, ◌<◌, ◌+◌, ◌-◌, ◌*◌, ◌^◌, ℕ, Bool, true, false, cond, eqb, List, [], ◌∷◌, ◌++◌, length, take, drop, Result, Ok, Err, refl, sym, ap, subst, ◌∙◌, append_assoc, append-nil, arith}
use Rattle.std.specs.List.{AllByRecursion}
use Rattle.std.proofs.lemmas.Bool.{eqb-true}
use Rattle.std.proofs.lemmas.List.{nil_from_length, take_at, take-append-drop, length-append, length-take, length-drop, drop-drop}
use Rattle.rm_base.specs.Fields.{field, AreBytes}
use Rattle.rm_base.proofs.FieldLaws.{length-field, number-lt}
use Rattle.page_image.specs.Image.{kind_number}
use Rattle.redo_record.specs.declared.redo.Record.{Record}
use Rattle.redo_record.specs.declared.redo.Record.TheVariants.{Make, Patch, InsertSlot, RemoveSlot, Cut, Link}
use Rattle.redo_record.specs.declared.redo.Group.{Group}
use Rattle.redo_record.specs.Spelling.{counted, record_bytes, records_bytes, header_bytes, size_of, group_bytes, IsRecord, IsTyped, IsAdmitted, IsEncodable, IsGroup, BeginsWith}
use Rattle.redo_record.specs.Header.{Header, header_of, body_of, HasHeader}
use Rattle.redo_record.specs.Decoding.{has_header, records_at, group_of, group_at}
use Rattle.redo_record.proofs.RecordsReading.{bind_ok, ok_is, records_take, records_again}
use Rattle.redo_record.proofs.HeaderReading.{header_is, header_again, AreBytes-drop, AreBytes-take, header_parts, header_reads, rest_behind, length-header_bytes}

-- ---- sizes

length-counted : (bytes : List ℕ) → length (counted bytes) ≡ 2 + length bytes
length-counted bytes = omega (arith, length-append (field 2 (length bytes)) bytes, length-field 2 (length bytes))

-- a record has at most 4,073 bytes
pub record_bound : (r : Record) → IsAdmitted r → length (record_bytes r) ≤ 4073
record_bound (Make page kind level) h =
    omega (arith, length-append (field 4 page) (kind_number kind ∷ level ∷ []), length-field 4 page)
record_bound (Patch page at bytes) h =
    omega (arith, length-append (field 4 page) (field 2 at ++ counted bytes), length-append (field 2 at) (counted bytes), length-field 4 page, length-field 2 at, length-counted bytes, h.1)
record_bound (InsertSlot page index bytes) h =
    omega (arith, length-append (field 4 page) (field 2 index ++ counted bytes), length-append (field 2 index) (counted bytes), length-field 4 page, length-field 2 index, length-counted bytes, h.1)
record_bound (RemoveSlot page index) h = omega (arith, length-append (field 4 page) (field 2 index), length-field 4 page, length-field 2 index)
record_bound (Cut page from) h = omega (arith, length-append (field 4 page) (field 2 from), length-field 4 page, length-field 2 from)
record_bound (Link page next) h = omega (arith, length-append (field 4 page) (field 4 next), length-field 4 page, length-field 4 next)

pub records_bound : (rs : List Record) → AllByRecursion IsAdmitted rs → length (records_bytes rs) ≤ 4073 * length rs
records_bound [] each = omega arith
records_bound (r ∷ rs) each =
    omega (arith, length-append (record_bytes r) (records_bytes rs), record_bound r each.0, records_bound rs each.1)

-- records are of their types and admitted
pub both_each : (rs : List Record) → AllByRecursion IsTyped rs → AllByRecursion IsAdmitted rs → AllByRecursion IsRecord rs
both_each [] typed admitted = tt
both_each (r ∷ rs) typed admitted = ((typed.0, admitted.0), both_each rs typed.1 admitted.1)

admitted_each : (rs : List Record) → AllByRecursion IsRecord rs → AllByRecursion IsAdmitted rs
admitted_each [] each = tt
admitted_each (r ∷ rs) each = (each.0.1, admitted_each rs each.1)

typed_each : (rs : List Record) → AllByRecursion IsRecord rs → AllByRecursion IsTyped rs
typed_each [] each = tt
typed_each (r ∷ rs) each = (each.0.0, typed_each rs each.1)

-- the length of a group fits its field
pub size_bound : (g : Group) → IsEncodable g → size_of g < 2 ^ 32
size_bound g h = omega (arith, records_bound g.records h.each, h.most)

pub length-group_bytes : (g : Group) → length (group_bytes g) ≡ size_of g
length-group_bytes g =
    let header : List ℕ = header_bytes (size_of g) g.lsn (length g.records) in
    omega (arith, length-append header (records_bytes g.records), length-header_bytes (size_of g) g.lsn (length g.records))

-- ---- what is read is spelled so

pub when_ok : {A : Type 0} (b : Bool) (r : Result A ℕ) (d : ℕ) (y : A) → cond b r (Err d) ≡ Ok y → (b ≡ true) × (r ≡ Ok y)
when_ok true r d y e = (refl, e)
when_ok false r d y e = absurd cc

abbrev pub made_group : Header → List Record → Group × ℕ
made_group h records = (record { lsn = h.lsn; records = records }, h.size)

-- the body of a group and what follows the group
pub body_parts : (bytes : List ℕ) → HasHeader bytes → drop 14 bytes ≡ body_of bytes ++ drop (header_of bytes).size bytes
body_parts bytes h =
    let size : ℕ = (header_of bytes).size in
    let whole : 14 + (size - 14) ≡ size = omega (arith, h.long) in
    sym (take-append-drop (size - 14) (drop 14 bytes))
    ∙ ap (λ (t : List ℕ). body_of bytes ++ t) (drop-drop (size - 14) 14 bytes ∙ ap (λ (n : ℕ). drop n bytes) whole)

pub length-body_of : (bytes : List ℕ) → HasHeader bytes → 14 + length (body_of bytes) ≡ (header_of bytes).size
length-body_of bytes h =
    let size : ℕ = (header_of bytes).size in
    omega (arith, length-take (size - 14) (drop 14 bytes), length-drop 14 bytes, h.long, h.there)

group_was : (bytes : List ℕ) (h : HasHeader bytes) (rs : List Record) → AreBytes bytes → AllByRecursion IsRecord rs → length rs ≡ (header_of bytes).count → body_of bytes ≡ records_bytes rs
    → BeginsWith bytes (made_group (header_of bytes) rs).0 (header_of bytes).size
group_was bytes h rs fits each count body =
    let head : Header = header_of bytes in
    let g : Group = (made_group head rs).0 in
    let size : size_of g ≡ head.size = ap (λ (t : List ℕ). 14 + length t) (sym body) ∙ length-body_of bytes h in
    let named : header_bytes head.size head.lsn head.count ≡ header_bytes (size_of g) g.lsn (length g.records) =
    ap (λ (n : ℕ). header_bytes n head.lsn head.count) (sym size) ∙ ap (λ (n : ℕ). header_bytes (size_of g) head.lsn n) (sym count) in
    record {
      is_group =
          record {
            encodable =
                record {
                  first = h.first;
                  some = rw count h.some;
                  most = let few : head.count < 2 ^ 16 = number-lt 2 (drop 12 bytes) (AreBytes-drop 12 bytes fits) in omega (arith, count);
                  each = admitted_each rs each;
                };
            bound = number-lt 8 (drop 4 bytes) (AreBytes-drop 4 bytes fits);
            typed = typed_each rs each;
          };
      size = sym size ∙ sym (length-group_bytes g);
      parts =
          header_parts bytes fits h.whole
          ∙ ap (λ (t : List ℕ). t ++ drop 14 bytes) named
          ∙ ap (λ (t : List ℕ). header_bytes (size_of g) g.lsn (length g.records) ++ t) (body_parts bytes h ∙ ap (λ (t : List ℕ). t ++ drop head.size bytes) body)
          ∙ sym (append_assoc (header_bytes (size_of g) g.lsn (length g.records)) (records_bytes rs) (drop head.size bytes));
    }

pub group_takes : (bytes : List ℕ) (x : Group × ℕ) → AreBytes bytes → group_at bytes ≡ Ok x → BeginsWith bytes x.0 x.1
unfolding group_at group_of
group_takes bytes x fits e =
    let g = when_ok (has_header bytes) (group_of (header_of bytes) (body_of bytes)) 0 x e in
    let h = header_is bytes g.0 in
    let a = bind_ok (records_at (header_of bytes).size (header_of bytes).count (body_of bytes)) (λ read. cond (eqb (length read.1) 0) (Ok (made_group (header_of bytes) read.0)) (Err 0)) x g.1 in
    let none = when_ok (eqb (length a.0.1) 0) (Ok (made_group (header_of bytes) a.0.0)) 0 x a.2 in
    let t = records_take (header_of bytes).size (header_of bytes).count (body_of bytes) a.0 a.1 in
    let nothing : a.0.1 ≡ [] = nil_from_length a.0.1 (eqb-true _ _ none.0) in
    let body_fits : AreBytes (body_of bytes) = AreBytes-take ((header_of bytes).size - 14) (drop 14 bytes) (AreBytes-drop 14 bytes fits) in
    let body : body_of bytes ≡ records_bytes a.0.0 =
    t.took.parts body_fits ∙ ap (λ (r : List ℕ). records_bytes a.0.0 ++ r) nothing ∙ append-nil (records_bytes a.0.0) in
    subst (λ (y : Group × ℕ). BeginsWith bytes y.0 y.1) (ok_is (made_group (header_of bytes) a.0.0) x none.1) (group_was bytes h a.0.0 fits (t.each body_fits) t.count body)

-- ---- what is spelled is read

-- a header that is known, and a body that is known
pub group_at_is : (bytes : List ℕ) (h : Header) (body : List ℕ) → HasHeader bytes → header_of bytes ≡ h → body_of bytes ≡ body → group_at bytes ≡ group_of h body
unfolding group_at
group_at_is bytes h body has head is =
    ap (λ (b : Bool). cond b (group_of (header_of bytes) (body_of bytes)) (Err 0)) (header_again bytes has)
    ∙ ap (λ (k : Header). group_of k (body_of bytes)) head ∙ ap (group_of h) is

pub group_of_again : (h : Header) (rs : List Record) → AllByRecursion IsRecord rs → length rs ≡ h.count → group_of h (records_bytes rs) ≡ Ok (made_group h rs)
unfolding group_of
group_of_again h rs each count =
    let read : records_at h.size h.count (records_bytes rs) ≡ Ok (rs, []) =
    ap (λ (n : ℕ). records_at h.size n (records_bytes rs)) (sym count)
    ∙ ap (records_at h.size (length rs)) (sym (append-nil (records_bytes rs))) ∙ records_again h.size rs [] each in
    rw read refl

module _ (g : Group) (rest : List ℕ) (is_group : IsGroup g) where
  spelled : List ℕ
  spelled = header_bytes (size_of g) g.lsn (length g.records) ++ (records_bytes g.records ++ rest)

  spelled_head : header_of spelled ≡ record { size = size_of g; lsn = g.lsn; count = length g.records }
  unfolding spelled
  spelled_head =
      header_reads (size_of g) g.lsn (length g.records) (records_bytes g.records ++ rest) (size_bound g is_group.encodable) is_group.bound (omega (arith, is_group.encodable.most))

  spelled_body : body_of spelled ≡ records_bytes g.records
  unfolding spelled
  spelled_body =
      ap (λ (n : ℕ). take (n - 14) (drop 14 spelled)) (ap (λ (h : Header). h.size) spelled_head)
      ∙ ap (take (size_of g - 14)) (rest_behind (size_of g) g.lsn (length g.records) (records_bytes g.records ++ rest))
      ∙ take_at (records_bytes g.records) rest (size_of g - 14) (omega arith)

  spelled_has : HasHeader spelled
  unfolding spelled
  spelled_has =
      let len : length spelled ≡ size_of g + length rest =
      omega (arith, length-append (header_bytes (size_of g) g.lsn (length g.records)) (records_bytes g.records ++ rest), length-header_bytes (size_of g) g.lsn (length g.records), length-append (records_bytes g.records) rest) in
      let size : (header_of spelled).size ≡ size_of g = ap (λ (h : Header). h.size) spelled_head in
      let lsn : (header_of spelled).lsn ≡ g.lsn = ap (λ (h : Header). h.lsn) spelled_head in
      let count : (header_of spelled).count ≡ length g.records = ap (λ (h : Header). h.count) spelled_head in
      record {
        whole = omega (arith, len);
        long = omega (arith, size);
        there = omega (arith, size, len);
        first = omega (arith, lsn, is_group.encodable.first);
        some = omega (arith, count, is_group.encodable.some);
      }

  pub group_again : group_at (group_bytes g ++ rest) ≡ Ok (g, length (group_bytes g))
  unfolding spelled
  group_again =
      ap group_at (append_assoc (header_bytes (size_of g) g.lsn (length g.records)) (records_bytes g.records) rest)
      ∙ group_at_is spelled (record { size = size_of g; lsn = g.lsn; count = length g.records }) (records_bytes g.records) spelled_has spelled_head spelled_body
      ∙ group_of_again (record { size = size_of g; lsn = g.lsn; count = length g.records }) g.records (both_each g.records is_group.typed is_group.encodable.each) refl
      ∙ ap (λ (n : ℕ). Ok (g, n)) (sym (length-group_bytes g))
