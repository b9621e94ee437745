-- Reading records one after the other, as a loop does.
use Rattle.std.proofs.Common.{◌≡◌, ℕ, suc, ◌-◌, ◌+◌, ◌≤◌, ◌<◌, List, [], ◌∷◌, ◌++◌, length, Result, Ok, Err, refl, sym, ap, ◌∙◌, append_assoc, append-nil, arith}
use Rattle.std.specs.Prelude.{ok_or}
use Rattle.redo_record.specs.declared.redo.Record.{Record}
use Rattle.redo_record.specs.declared.decoding.Stop.{Stop}
use Rattle.redo_record.specs.declared.decoding.Stop.TheVariants.{BadRecord, WantOfMemory}
use Rattle.redo_record.specs.Reading.{record_at}
use Rattle.redo_record.specs.Decoding.{◌>>=◌, records_at}
use Rattle.redo_record.specs.Decodes.{DecodesFrom}
use Rattle.redo_record.proofs.RecordReading.{record_takes}
use Rattle.redo_record.proofs.RecordsReading.{ok_some}

-- what was read before, and what is still read
abbrev pub with_front : List Record → Result (List Record × List ℕ) ℕ → Result (List Record × List ℕ) ℕ
with_front front read = read >>= λ x. Ok (front ++ x.0, x.1)

-- what the loop keeps: `records` were read, and `left` is still to be read
pub record IsReading (end count counter : ℕ) (records : List Record) (left : List ℕ) (total : Result (List Record × List ℕ) ℕ) : Type 0 where
  pub room : length left ≤ end
  pub so_far : with_front records (records_at end (count - counter) left) ≡ total

none_before : (read : Result (List Record × List ℕ) ℕ) → with_front [] read ≡ read
none_before (Ok x) = refl
none_before (Err at) = refl

pub begins : (end count : ℕ) (bytes : List ℕ) → length bytes ≤ end → IsReading end count 0 [] bytes (records_at end count bytes)
begins end count bytes room =
    let whole : count - 0 ≡ count = omega arith in
    record { room = room; so_far = rw whole (none_before (records_at end count bytes)) }

regroup : (front : List Record) (r : Record) (read : Result (List Record × List ℕ) ℕ) → with_front front (read >>= λ x. Ok (r ∷ x.0, x.1)) ≡ with_front (front ++ r ∷ []) read
regroup front r (Ok x) = ap (λ (rs : List Record). Ok (rs, x.1)) (sym (append_assoc front (r ∷ []) x.0))
regroup front r (Err at) = refl

pub goes_on : (end count counter : ℕ) (front : List Record) (left : List ℕ) (r : Record) (after : List ℕ) (total : Result (List Record × List ℕ) ℕ)
    → counter < count → ok_or (record_at left) (end - length left) ≡ Ok (r, after)
    → IsReading end count counter front left total → IsReading end count (counter + 1) (front ++ r ∷ []) after total
unfolding records_at
goes_on end count counter front left r after total lt read reading =
    let k : count - counter ≡ suc (count - (counter + 1)) = omega arith in
    let one : with_front front (records_at end (count - counter) left) ≡ with_front (front ++ r ∷ []) (records_at end (count - (counter + 1)) after) =
    rw (k, read) (regroup front r (records_at end (count - (counter + 1)) after)) in
    let took = record_takes left (r, after) (ok_some (record_at left) (end - length left) (r, after) read) in
    record { room = omega (arith, took.0.shorter, reading.room); so_far = sym one ∙ reading.so_far }

pub ends : (e : Stop) (end count counter : ℕ) (front : List Record) (left after : List ℕ) (rest : List ℕ) (total : Result (List Record × List ℕ) ℕ)
    → counter < count → DecodesFrom {X = Record} (Err e) after (ok_or (record_at left) (end - length left))
    → IsReading end count counter front left total → DecodesFrom {X = List Record} (Err e) rest total
unfolding records_at
ends (BadRecord b) end count counter front left after rest total lt bad reading =
    let k : count - counter ≡ suc (count - (counter + 1)) = omega arith in
    let one : with_front front (records_at end (count - counter) left) ≡ Err b.at = rw (k, bad) refl in
    sym reading.so_far ∙ one
ends WantOfMemory end count counter front left after rest total lt bad reading = tt

pub is_done : (end count counter : ℕ) (front : List Record) (left : List ℕ) (total : Result (List Record × List ℕ) ℕ)
    → count ≤ counter → IsReading end count counter front left total → total ≡ Ok (front, left)
unfolding records_at
is_done end count counter front left total le reading =
    let k : count - counter ≡ 0 = omega arith in
    let one : with_front front (records_at end (count - counter) left) ≡ Ok (front, left) =
    rw k (ap (λ (rs : List Record). Ok (rs, left)) (append-nil front)) in
    sym reading.so_far ∙ one
