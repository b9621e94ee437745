-- Records one after the other: what is read is spelled so, what is spelled is read, and where the reading stops.
use Rattle.std.proofs.Common.{◌≡◌, ◌<◌, ◌-◌, ℕ, zero, suc, List, [], ◌∷◌, ◌++◌, length, Option, Some, None, Result, Ok, Err, ◌⊎◌, inl, inr, refl, sym, ap, subst, ◌∙◌, append_assoc, arith}
use Rattle.std.specs.Prelude.{ok_or}
use Rattle.std.specs.List.{AllByRecursion}
use Rattle.rm_base.specs.Fields.{AreBytes}
use Rattle.redo_record.specs.declared.redo.Record.{Record}
use Rattle.redo_record.specs.Spelling.{record_bytes, records_bytes, IsRecord}
use Rattle.redo_record.specs.Reading.{record_at}
use Rattle.redo_record.specs.Decoding.{◌>>=◌, records_at}
use Rattle.redo_record.proofs.Steps.{Takes, Takes-then, Takes-fits}
use Rattle.redo_record.proofs.RecordReading.{record_takes, record_again}

-- ---- steps

pub bind_ok : {A B : Type 0} (r : Result A ℕ) (f : A → Result B ℕ) (y : B) → (r >>= f) ≡ Ok y → (x : A) × (r ≡ Ok x) × (f x ≡ Ok y)
bind_ok (Ok x) f y e = (x, refl, e)
bind_ok (Err d) f y e = absurd cc

pub bind_err : {A B : Type 0} (r : Result A ℕ) (f : A → Result B ℕ) (d : ℕ) → (r >>= f) ≡ Err d → (r ≡ Err d) ⊎ ((x : A) × (r ≡ Ok x) × (f x ≡ Err d))
bind_err (Ok x) f d e = inr (x, refl, e)
bind_err (Err c) f d e = inl (let is : c ≡ d = cc in ap Err is)

pub ok_some : {A : Type 0} (o : Option A) (d : ℕ) (x : A) → ok_or o d ≡ Ok x → o ≡ Some x
ok_some None d x e = absurd cc
ok_some (Some y) d x e = let is : y ≡ x = cc in ap Some is

err_none : {A : Type 0} (o : Option A) (d c : ℕ) → ok_or o d ≡ Err c → (o ≡ None) × (d ≡ c)
err_none None d c e = (refl, cc)
err_none (Some y) d c e = absurd cc

abbrev pub ok : {A : Type 0} → A → Result A ℕ
ok x = Ok x

pub ok_is : {A : Type 0} (x y : A) → ok x ≡ ok y → x ≡ y
ok_is x y e = cc

-- ---- records

-- the records stood at the front, so many of them, and the rest is left
pub record TakesRecords (n : ℕ) (bytes : List ℕ) (x : List Record × List ℕ) : Type 0 where
  pub took : Takes bytes (records_bytes x.0) x.1
  pub count : length x.0 ≡ n
  pub each : AreBytes bytes → AllByRecursion IsRecord x.0

pub records_take : (end n : ℕ) (bytes : List ℕ) (x : List Record × List ℕ) → records_at end n bytes ≡ Ok x → TakesRecords n bytes x
unfolding records_at
records_take end zero bytes x e =
    subst (TakesRecords 0 bytes) (ok_is ([], bytes) x e)
    (record { took = record { parts = λ _. refl; shorter = omega arith }; count = refl; each = λ _. tt })
records_take end (suc n) bytes x e =
    let a = bind_ok (ok_or (record_at bytes) (end - length bytes)) (λ first. records_at end n first.1 >>= λ others. Ok (first.0 ∷ others.0, others.1)) x e in
    let b = bind_ok (records_at end n a.0.1) (λ others. Ok (a.0.0 ∷ others.0, others.1)) x a.2 in
    let first = record_takes bytes a.0 (ok_some (record_at bytes) (end - length bytes) a.0 a.1) in
    let others = records_take end n a.0.1 b.0 b.1 in
    let both = Takes-then bytes (record_bytes a.0.0) a.0.1 (records_bytes b.0.0) b.0.1 first.0 others.took in
    subst (TakesRecords (suc n) bytes) (ok_is (a.0.0 ∷ b.0.0, b.0.1) x b.2)
    (record {
      took = both;
      count = ap suc others.count;
      each = λ fits. (first.1 fits, others.each (Takes-fits bytes (record_bytes a.0.0) a.0.1 first.0 fits));
    })

one_more : (r : Record) (rs : List Record) (rest : List ℕ) → records_bytes (r ∷ rs) ++ rest ≡ record_bytes r ++ (records_bytes rs ++ rest)
one_more r rs rest = append_assoc (record_bytes r) (records_bytes rs) rest

pub records_again : (end : ℕ) (rs : List Record) (rest : List ℕ) → AllByRecursion IsRecord rs → records_at end (length rs) (records_bytes rs ++ rest) ≡ Ok (rs, rest)
unfolding records_at
records_again end [] rest each = refl
records_again end (r ∷ rs) rest each =
    ap (records_at end (suc (length rs))) (one_more r rs rest)
    ∙ rw (record_again r (records_bytes rs ++ rest) each.0, records_again end rs rest each.1) refl

-- after these records none is read
pub records_stop : (end n : ℕ) (rs : List Record) (rest : List ℕ) → AllByRecursion IsRecord rs → record_at rest ≡ None → length rs < n
    → records_at end n (records_bytes rs ++ rest) ≡ Err (end - length rest)
unfolding records_at
records_stop end zero rs rest each none fewer = absurd (omega arith)
records_stop end (suc n) [] rest each none fewer = rw none refl
records_stop end (suc n) (r ∷ rs) rest each none fewer =
    ap (records_at end (suc n)) (one_more r rs rest)
    ∙ rw (record_again r (records_bytes rs ++ rest) each.0, records_stop end n rs rest each.1 none (omega arith)) refl

-- where the reading of records stopped
pub record Stops (end n : ℕ) (bytes : List ℕ) (at : ℕ) : Type 0 where
  pub records : List Record
  pub rest : List ℕ
  pub each : AllByRecursion IsRecord records
  pub bytes_are : bytes ≡ records_bytes records ++ rest
  pub fewer : length records < n
  pub none : record_at rest ≡ None
  pub there : at ≡ end - length rest

pub records_bad : (end n : ℕ) (bytes : List ℕ) (at : ℕ) → AreBytes bytes → records_at end n bytes ≡ Err at → Stops end n bytes at
unfolding records_at
records_bad end zero bytes at fits e = absurd cc
records_bad end (suc n) bytes at fits e =
    elim (bind_err (ok_or (record_at bytes) (end - length bytes)) (λ first. records_at end n first.1 >>= λ others. Ok (first.0 ∷ others.0, others.1)) at e) [
      | inl bad ↦
          let none = err_none (record_at bytes) (end - length bytes) at bad in
          record { records = []; rest = bytes; each = tt; bytes_are = refl; fewer = omega arith; none = none.0; there = sym none.1 }
      | inr a ↦
          elim (bind_err (records_at end n a.0.1) (λ others. Ok (a.0.0 ∷ others.0, others.1)) at a.2) [
            | inl bad ↦
                let first = record_takes bytes a.0 (ok_some (record_at bytes) (end - length bytes) a.0 a.1) in
                let stops = records_bad end n a.0.1 at (Takes-fits bytes (record_bytes a.0.0) a.0.1 first.0 fits) bad in
                record {
                  records = a.0.0 ∷ stops.records;
                  rest = stops.rest;
                  each = (first.1 fits, stops.each);
                  bytes_are = first.0.parts fits ∙ ap (λ (t : List ℕ). record_bytes a.0.0 ++ t) stops.bytes_are ∙ sym (one_more a.0.0 stops.records stops.rest);
                  fewer = omega (arith, stops.fewer);
                  none = stops.none;
                  there = stops.there;
                }
            | inr b ↦ absurd cc
          ]
    ]
