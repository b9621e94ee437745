-- Reading bytes as groups with the next LSNs.
use Rattle.std.proofs.Common.{◌≡◌, ◌≢◌, ◌+◌, ℕ, List, [], ◌∷◌, ◌++◌, length, drop, Option, Some, None, MatchOption, sym, ap, subst, ◌∙◌, append_assoc, append-nil, length-append, arith}
use Rattle.redo_record.specs.declared.redo.Group.{Group}
use Rattle.redo_record.specs.Spelling.{group_bytes, log_bytes, BeginsWith}
use Rattle.redo_record.specs.Effect.{CountsFrom}
use Rattle.redo_record.proofs.GroupReading.{length-group_bytes}
use Rattle.redo_record.proofs.Logs.{no_prefix}
use Rattle.log_chunks.specs.Log.{AreNext, GoesOn, BeginsNext, BeginsNoNext}

-- so far these groups were read of the bytes, and the rest goes on from the LSN `before` exactly where all goes on from n
pub record Reads (n : ℕ) (bytes : List ℕ) (groups : List Group) (before : ℕ) (rest : List ℕ) : Type 0 where
  pub forth : (more : List Group) → AreNext before rest more → AreNext n bytes (groups ++ more)
  pub back : GoesOn n bytes → GoesOn before rest

pub reads_none : (n : ℕ) (bytes : List ℕ) → Reads n bytes [] n bytes
reads_none n bytes = record { forth = λ more h. h; back = λ h. h }

-- the group at the front joins those behind it
with_front : (before : ℕ) (rest : List ℕ) (g : Group) (size : ℕ) (more : List Group) → BeginsWith rest g size → g.lsn ≡ before + 1
    → AreNext g.lsn (drop size rest) more → AreNext before rest (g ∷ more)
with_front before rest g size more begins lsn h = record {
  spelled = record {
    groups_are = (begins.is_group, h.spelled.groups_are);
    bytes_are = begins.parts ∙ ap (λ (b : List ℕ). group_bytes g ++ b) h.spelled.bytes_are;
  };
  counted = (lsn, subst (λ (k : ℕ). CountsFrom k more) lsn h.counted);
}

no_bytes : (g : Group) (rest : List ℕ) → group_bytes g ++ rest ≡ [] → ⊥
no_bytes g rest e =
    let none : length (group_bytes g ++ rest) ≡ 0 = ap length e in
    absurd (omega (arith, none, length-append (group_bytes g) rest, length-group_bytes g))

-- behind the group at the front stand the others
without_front : (before : ℕ) (rest : List ℕ) (g : Group) (size : ℕ) (all : List Group) → BeginsWith rest g size → g.lsn ≡ before + 1
    → AreNext before rest all → GoesOn g.lsn (drop size rest)
without_front before rest g size [] begins lsn h = absurd (no_bytes g (drop size rest) (sym begins.parts ∙ h.spelled.bytes_are))
without_front before rest g size (k ∷ ks) begins lsn h =
    let same = no_prefix g k (drop size rest) (log_bytes ks) begins.is_group h.spelled.groups_are.0 (sym begins.parts ∙ h.spelled.bytes_are) in (
      ks,
      record {
        spelled = record { groups_are = h.spelled.groups_are.1; bytes_are = same.1 };
        counted = subst (λ (n : ℕ). CountsFrom n ks) (sym lsn) h.counted.1;
      },
    )

pub reads_more : (n : ℕ) (bytes : List ℕ) (groups : List Group) (before : ℕ) (rest : List ℕ) (g : Group) (size : ℕ) → Reads n bytes groups before rest
    → BeginsNext before rest g size → Reads n bytes (groups ++ g ∷ []) g.lsn (drop size rest)
reads_more n bytes groups before rest g size reads next = record {
  forth = λ more h.
      subst (λ (gs : List Group). AreNext n bytes gs) (sym (append_assoc groups (g ∷ []) more))
      (reads.forth (g ∷ more) (with_front before rest g size more next.begins next.next h));
  back = λ h. let there = reads.back h in without_front before rest g size there.0 next.begins next.next there.1;
}

-- no byte is left
pub reads_all : (n : ℕ) (bytes : List ℕ) (groups : List Group) (before : ℕ) (rest : List ℕ) → Reads n bytes groups before rest → rest ≡ [] → AreNext n bytes groups
reads_all n bytes groups before rest reads e =
    subst (λ (gs : List Group). AreNext n bytes gs) (append-nil groups)
    (reads.forth [] (record { spelled = record { groups_are = tt; bytes_are = e }; counted = tt }))

-- no group with the next LSN is at the front
pub reads_stopped : (n : ℕ) (bytes : List ℕ) (groups : List Group) (before : ℕ) (rest : List ℕ) → Reads n bytes groups before rest → rest ≢ []
    → BeginsNoNext before rest → GoesOn n bytes → ⊥
reads_stopped n bytes groups before rest reads some none h =
    let there = reads.back h in stopped there.0 there.1
  where
    stopped : (all : List Group) → AreNext before rest all → ⊥
    stopped [] a = some a.spelled.bytes_are
    stopped (g ∷ gs) a = none g (log_bytes gs) a.spelled.groups_are.0 a.counted.0 a.spelled.bytes_are

-- what was found at the front
pub on_none : (found : Option (Group × ℕ)) (last : ℕ) (bytes : List ℕ) → found ≡ None
    → MatchOption found (BeginsNoNext last bytes) (λ x. BeginsNext last bytes x.0 x.1) → BeginsNoNext last bytes
on_none None last bytes e h = h
on_none (Some x) last bytes e h = absurd cc

pub on_some : (found : Option (Group × ℕ)) (last : ℕ) (bytes : List ℕ) (x : Group × ℕ) → found ≡ Some x
    → MatchOption found (BeginsNoNext last bytes) (λ x. BeginsNext last bytes x.0 x.1) → BeginsNext last bytes x.0 x.1
on_some None last bytes x e h = absurd cc
on_some (Some y) last bytes x e h =
    let same : y ≡ x = cc in
    subst (λ (z : Group × ℕ). BeginsNext last bytes z.0 z.1) same h
