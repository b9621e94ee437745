-- Where bytes are refused: the reading refuses at just the offset that the grammar says.
use Rattle.std.proofs.Common.{◌≡◌, ◌≢◌, ◌<◌, ◌-◌, ℕ, suc, Bool, true, false, cond, eqb, List, [], ◌∷◌, ◌++◌, length, drop, None, Result, Ok, Err, ◌⊎◌, inl, inr, refl, sym, ap, subst, ◌∙◌, arith}
use Rattle.std.specs.List.{AllByRecursion}
use Rattle.std.proofs.lemmas.Bool.Decides.{nat_tests}
use Rattle.std.proofs.lemmas.List.{length-append}
use Rattle.rm_base.specs.Fields.{AreBytes}
use Rattle.redo_record.specs.declared.redo.Record.{Record}
use Rattle.redo_record.specs.Spelling.{records_bytes, group_bytes, IsRecord}
use Rattle.redo_record.specs.Header.{Header, header_of, body_of, HasHeader}
use Rattle.redo_record.specs.Reading.{record_at}
use Rattle.redo_record.specs.Decoding.{has_header, records_at, group_of, group_at}
use Rattle.redo_record.specs.Refusal.{BeginsNoGroup, StartsWith, HasBadRecord, IsRefusedAt}
use Rattle.redo_record.proofs.Steps.{AreBytes-rest}
use Rattle.redo_record.proofs.RecordReading.{none_begins, none_read}
use Rattle.redo_record.proofs.RecordsReading.{bind_err, records_take, records_again, records_stop, Stops, records_bad}
use Rattle.redo_record.proofs.HeaderReading.{header_is, header_again, AreBytes-drop, AreBytes-take}
use Rattle.redo_record.proofs.GroupReading.{made_group, length-body_of, group_at_is, group_again}

when_err : {A : Type 0} (b : Bool) (r : Result A ℕ) (d e : ℕ) → cond b r (Err d) ≡ Err e → ((b ≡ true) × (r ≡ Err e)) ⊎ ((b ≡ false) × (d ≡ e))
when_err true r d e is = inl (refl, is)
when_err false r d e is = inr (refl, cc)

body_fits : (bytes : List ℕ) → AreBytes bytes → AreBytes (body_of bytes)
body_fits bytes fits = AreBytes-take ((header_of bytes).size - 14) (drop 14 bytes) (AreBytes-drop 14 bytes fits)

-- ---- a refusal of the reading is one of the grammar

bad_record : (bytes : List ℕ) (at : ℕ) → HasHeader bytes → Stops (header_of bytes).size (header_of bytes).count (body_of bytes) at → HasBadRecord bytes at
bad_record bytes at h stops =
    record {
      records = stops.records;
      rest = stops.rest;
      starts = record { header = h; each = stops.each; body = stops.bytes_are };
      fewer = stops.fewer;
      none = none_begins stops.rest stops.none;
      there = omega (arith, stops.there, length-body_of bytes h, ap length stops.bytes_are, length-append (records_bytes stops.records) stops.rest);
    }

not_nil : (rest : List ℕ) → eqb (length rest) 0 ≡ false → rest ≢ []
not_nil [] e is = absurd cc
not_nil (b ∷ rest) e is = absurd cc

pub refused_is : (bytes : List ℕ) (at : ℕ) → AreBytes bytes → group_at bytes ≡ Err at → IsRefusedAt bytes at
unfolding group_at group_of
refused_is bytes at fits e =
    elim (when_err (has_header bytes) (group_of (header_of bytes) (body_of bytes)) 0 at e) [
      | inr none ↦ inl (record { none = λ h. let has = header_again bytes h in absurd cc; there = sym none.1 })
      | inl there ↦
          let h = header_is bytes there.0 in
          inr (elim (bind_err (records_at (header_of bytes).size (header_of bytes).count (body_of bytes)) (λ read. cond (eqb (length read.1) 0) (Ok (made_group (header_of bytes) read.0)) (Err 0)) at there.1) [
            | inl bad ↦ inl (bad_record bytes at h (records_bad (header_of bytes).size (header_of bytes).count (body_of bytes) at (body_fits bytes fits) bad))
            | inr a ↦
                elim (when_err (eqb (length a.0.1) 0) (Ok (made_group (header_of bytes) a.0.0)) 0 at a.2) [
                  | inl never ↦ absurd cc
                  | inr over ↦
                      let t = records_take (header_of bytes).size (header_of bytes).count (body_of bytes) a.0 a.1 in
                      inr (record {
                        records = a.0.0;
                        rest = a.0.1;
                        starts = record { header = h; each = t.each (body_fits bytes fits); body = t.took.parts (body_fits bytes fits) };
                        all = t.count;
                        some = not_nil a.0.1 over.0;
                        there = sym over.1;
                      })
                ]
          ])
    ]

-- ---- a refusal of the grammar is one of the reading

no_header : (bytes : List ℕ) (b : Bool) → (HasHeader bytes → ⊥) → has_header bytes ≡ b → cond b (group_of (header_of bytes) (body_of bytes)) (Err 0) ≡ Err 0
no_header bytes true none e = absurd (none (header_is bytes e))
no_header bytes false none e = refl

rest_fits : (bytes : List ℕ) (records : List Record) (rest : List ℕ) → AreBytes bytes → StartsWith bytes records rest → AreBytes rest
rest_fits bytes records rest fits starts =
    let P : List ℕ → Type 0 = λ b. AreBytes b in
    AreBytes-rest (records_bytes records) rest (subst P starts.body (body_fits bytes fits))

not_zero : (n : ℕ) → eqb (suc n) 0 ≡ false
not_zero n = grind (arith, nat_tests)

length-nil : (rest : List ℕ) → rest ≢ [] → eqb (length rest) 0 ≡ false
length-nil [] some = absurd (some refl)
length-nil (b ∷ rest) some = not_zero (length rest)

over_left : (h : Header) (records : List Record) (rest : List ℕ) → AllByRecursion IsRecord records → length records ≡ h.count → rest ≢ []
    → group_of h (records_bytes records ++ rest) ≡ Err 0
unfolding group_of
over_left h records rest each count some =
    let read : records_at h.size h.count (records_bytes records ++ rest) ≡ Ok (records, rest) =
    ap (λ (n : ℕ). records_at h.size n (records_bytes records ++ rest)) (sym count) ∙ records_again h.size records rest each in
    rw (read, length-nil rest some) refl

stopped : (h : Header) (records : List Record) (rest : List ℕ) → AllByRecursion IsRecord records → record_at rest ≡ None → length records < h.count
    → group_of h (records_bytes records ++ rest) ≡ Err (h.size - length rest)
unfolding group_of
stopped h records rest each none fewer = rw (records_stop h.size h.count records rest each none fewer) refl

pub refused_again : (bytes : List ℕ) (at : ℕ) → AreBytes bytes → IsRefusedAt bytes at → group_at bytes ≡ Err at
unfolding group_at
refused_again bytes at fits (inl lacks) = no_header bytes (has_header bytes) lacks.none refl ∙ ap Err (sym lacks.there)
refused_again bytes at fits (inr (inl bad)) =
    let none = none_read bad.rest (rest_fits bytes bad.records bad.rest fits bad.starts) bad.none in
    let place : (header_of bytes).size - length bad.rest ≡ at =
    omega (arith, bad.there, length-body_of bytes bad.starts.header, ap length bad.starts.body, length-append (records_bytes bad.records) bad.rest) in
    group_at_is bytes (header_of bytes) (records_bytes bad.records ++ bad.rest) bad.starts.header refl bad.starts.body
    ∙ stopped (header_of bytes) bad.records bad.rest bad.starts.each none bad.fewer ∙ ap Err place
refused_again bytes at fits (inr (inr over)) =
    group_at_is bytes (header_of bytes) (records_bytes over.records ++ over.rest) over.starts.header refl over.starts.body
    ∙ over_left (header_of bytes) over.records over.rest over.starts.each over.all over.some ∙ ap Err (sym over.there)

-- bytes that are refused begin no group
pub refused_begins : (bytes : List ℕ) (at : ℕ) → group_at bytes ≡ Err at → BeginsNoGroup bytes
refused_begins bytes at e g rest is_group is =
    let read : group_at bytes ≡ Ok (g, length (group_bytes g)) = ap group_at is ∙ group_again g rest is_group in cc
