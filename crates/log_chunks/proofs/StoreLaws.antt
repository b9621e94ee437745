-- Groups by their LSN, and groups that join a log.
use Rattle.std.proofs.Common.{◌≡◌, ◌≢◌, ◌≤◌, ◌+◌, ℕ, zero, suc, Bool, true, false, cond, nat_eq, List, [], ◌∷◌, ◌++◌, length, Option, Some, None, MatchOption, Result, Ok, Err, is_err, OnOk, refl, sym, ap, subst, ◌∙◌, arith}
use Rattle.std.specs.List.{find, slice_get}
use Rattle.std.proofs.lemmas.Bool.Decides.{nat_tests}
use Rattle.redo_record.specs.declared.redo.Group.{Group}
use Rattle.redo_record.specs.Spelling.{log_bytes}
use Rattle.redo_record.specs.Effect.{CountsFrom}
use Rattle.redo_record.proofs.Logs.{log_bytes-append}
use Rattle.log_chunks.specs.Log.{AreLog, AreNext}
use Rattle.log_chunks.proofs.HistoryLaws.{AreLog-append}

equal : (m n : ℕ) → m ≡ n → nat_eq m n ≡ true
equal m n h = grind (arith, nat_tests)

other : (m n : ℕ) → m ≢ n → nat_eq m n ≡ false
other m n h = grind (arith, nat_tests)

-- the group with an LSN stands at the place that the LSN counts
pub find-counted : (n k lsn : ℕ) (gs : List Group) → lsn ≡ n + k + 1 → CountsFrom n gs → find (λ g. nat_eq g.lsn lsn) gs ≡ slice_get gs k
find-counted n k lsn [] is h = refl
find-counted n zero lsn (g ∷ gs) is h =
    let here : g.lsn ≡ lsn = omega (arith, h.0) in
    ap (λ (b : Bool). cond b (Some g) (find (λ g. nat_eq g.lsn lsn) gs)) (equal g.lsn lsn here)
find-counted n (suc k) lsn (g ∷ gs) is h =
    let later : g.lsn ≢ lsn = omega (arith, h.0) in
    ap (λ (b : Bool). cond b (Some g) (find (λ g. nat_eq g.lsn lsn) gs)) (other g.lsn lsn later)
    ∙ find-counted (n + 1) k lsn gs (omega arith) h.1

-- no group has an LSN before the first
pub find-before : (n lsn : ℕ) (gs : List Group) → lsn ≤ n → CountsFrom n gs → find (λ g. nat_eq g.lsn lsn) gs ≡ None
find-before n lsn [] le h = refl
find-before n lsn (g ∷ gs) le h =
    let later : g.lsn ≢ lsn = omega (arith, h.0) in
    ap (λ (b : Bool). cond b (Some g) (find (λ g. nat_eq g.lsn lsn) gs)) (other g.lsn lsn later)
    ∙ find-before (n + 1) lsn gs (omega arith) h.1

-- what is read goes on the log
pub found_next : (found : Option (List Group)) (P : Type 0) (n : ℕ) (bytes : List ℕ) (more : List Group) → found ≡ Some more
    → MatchOption found P (AreNext n bytes) → AreNext n bytes more
found_next None P n bytes more e h = absurd cc
found_next (Some gs) P n bytes more e h =
    let same : gs ≡ more = cc in
    subst (λ (q : List Group). AreNext n bytes q) same h

-- a log with the next groups
pub grown : (gs more : List Group) (bytes : List ℕ) → AreLog gs → AreNext (length gs) bytes more → AreLog (gs ++ more)
grown gs more bytes h next = AreLog-append gs more h next.spelled.groups_are next.counted

pub grown-bytes : (gs more : List Group) (bytes : List ℕ) → AreNext (length gs) bytes more → log_bytes gs ++ bytes ≡ log_bytes (gs ++ more)
grown-bytes gs more bytes next = ap (λ (b : List ℕ). log_bytes gs ++ b) next.spelled.bytes_are ∙ sym (log_bytes-append gs more)

-- an answer that is no error is Ok, and what is said of Ok holds
pub on_ok : {T E : Type 0} (r : Result T E) (P : Type 0) → is_err r ≡ false → OnOk r P → P
on_ok (Ok x) P e h = h
on_ok (Err f) P e h = cc
