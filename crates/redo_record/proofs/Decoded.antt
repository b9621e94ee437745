-- What a decoding that gives what reading gives tells its caller.
use Rattle.std.proofs.Common.{◌≡◌, ℕ, List, ◌++◌, length, Result, Ok, Err, sym, ap, ◌∙◌}
use Rattle.redo_record.specs.declared.redo.Group.{Group}
use Rattle.redo_record.specs.declared.decoding.BadRecord.{BadRecord}
use Rattle.redo_record.specs.Spelling.{group_bytes, IsGroup}
use Rattle.redo_record.specs.Decoding.{group_at}
use Rattle.redo_record.proofs.RecordsReading.{ok_is}
use Rattle.redo_record.proofs.GroupReading.{group_again}
use Rattle.redo_record.proofs.Refusing.{refused_begins}

abbrev judged : Result (Group × ℕ) BadRecord → Result (Group × ℕ) BadRecord
judged r = r

-- the group that was read is the one that is spelled
pub read_again : (bytes : List ℕ) (read : Group × ℕ) → group_at bytes ≡ Ok read
    → (g : Group) (rest : List ℕ) → IsGroup g → bytes ≡ group_bytes g ++ rest → judged (Ok read) ≡ Ok (g, length (group_bytes g))
read_again bytes read e g rest is_group is =
    let same : read ≡ (g, length (group_bytes g)) = ok_is read (g, length (group_bytes g)) (sym e ∙ ap group_at is ∙ group_again g rest is_group) in
    ap (λ (x : Group × ℕ). judged (Ok x)) same

-- what was refused is spelled by no group
pub refused_again : (bytes : List ℕ) (bad : BadRecord) → group_at bytes ≡ Err bad.at
    → (g : Group) (rest : List ℕ) → IsGroup g → bytes ≡ group_bytes g ++ rest → judged (Err bad) ≡ Ok (g, length (group_bytes g))
refused_again bytes bad e g rest is_group is = absurd (refused_begins bytes bad.at e g rest is_group is)
