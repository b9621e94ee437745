-- The pages of a log.
use Rattle.std.proofs.Common.{◌≡◌, ◌≤◌, ◌<◌, ◌+◌, ℕ, List, [], ◌∷◌, length, sym, ap, ◌∙◌, append_assoc, append-nil, arith}
use Rattle.page_image.specs.Image.{unmade}
use Rattle.redo_record.specs.declared.redo.Record.{Record}
use Rattle.redo_record.specs.declared.redo.Group.{Group}
use Rattle.redo_record.specs.Effect.{after_records, after_groups, CountsFrom}
use Rattle.redo_record.proofs.Fold.{after_groups-append, after_groups-page, after_groups-lsn_le, CountsFrom-up_to}
use Rattle.page_store.specs.Stored.{Stored, groups_of, pages_of, next_lsn, with_group, all_kept, given_back}

pub page_number : (s : Stored) (p : ℕ) → (pages_of s p).page ≡ p
page_number s p = after_groups-page (groups_of s) (unmade p)

pub after_group : (s : Stored) (records : List Record) (p : ℕ) → pages_of (with_group s records) p ≡ after_records (next_lsn s) records (pages_of s p)
after_group s records p =
    let g : Group = record { lsn = next_lsn s; records = records } in
    ap (λ (gs : List Group). after_groups gs (unmade p)) (sym (append_assoc s.kept s.own (g ∷ [])))
    ∙ after_groups-append (groups_of s) (g ∷ []) (unmade p)

pub after_keep : (s : Stored) (p : ℕ) → pages_of (all_kept s) p ≡ pages_of s p
after_keep s p = ap (λ (gs : List Group). after_groups gs (unmade p)) (append-nil (groups_of s))

pub after_give_back : (s : Stored) (p : ℕ) → pages_of (given_back s) p ≡ after_groups s.kept (unmade p)
after_give_back s p = ap (λ (gs : List Group). after_groups gs (unmade p)) (append-nil s.kept)

pub page_bound : (s : Stored) (p : ℕ) → CountsFrom 0 (groups_of s) → (pages_of s p).lsn < next_lsn s
page_bound s p counted =
    let all : 0 + length (groups_of s) ≤ length (groups_of s) = omega arith in
    let le = after_groups-lsn_le (length (groups_of s)) (groups_of s) (unmade p) (CountsFrom-up_to 0 (length (groups_of s)) (groups_of s) all counted) (omega arith) in
    omega (arith, le)
