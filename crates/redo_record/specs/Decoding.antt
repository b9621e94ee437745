-- Stated: reading the group at the front of the bytes. A refusal carries an offset from the group's start.
use Rattle.std.specs.Prelude.{ℕ, zero, suc, ◌-◌, Bool, List, [], ◌∷◌, length, Result, Ok, Err, ok_or, nat_le, ◌==◌, ◌&&◌, if◌then◌else◌}
use Rattle.redo_record.specs.declared.redo.Record.{Record}
use Rattle.redo_record.specs.declared.redo.Group.{Group}
use Rattle.redo_record.specs.Header.{Header, header_of, body_of}
use Rattle.redo_record.specs.Reading.{record_at}

infixl 10 ◌>>=◌
abbrev pub ◌>>=◌ : {A B : Type 0} → Result A ℕ → (A → Result B ℕ) → Result B ℕ
(Ok x) >>= f = f x
(Err at) >>= f = Err at

-- the test of the header
abbrev pub has_header : List ℕ → Bool
has_header bytes =
    nat_le 14 (length bytes)
    && (nat_le 14 (header_of bytes).size
    && (nat_le (header_of bytes).size (length bytes)
    && (nat_le 1 (header_of bytes).lsn
    && nat_le 1 (header_of bytes).count)))

-- so many records; `end` is the offset at which the bytes end, so what is left begins at `end` less its length
unfoldable pub records_at : ℕ → ℕ → List ℕ → Result (List Record × List ℕ) ℕ
records_at end zero bytes = Ok ([], bytes)
records_at end (suc n) bytes = do
  first ← ok_or (record_at bytes) (end - length bytes)
  others ← records_at end n first.1
  Ok (first.0 ∷ others.0, others.1)

-- the group of a header and a body, and how many bytes it has; it starts at offset 0
unfoldable pub group_of : Header → List ℕ → Result (Group × ℕ) ℕ
group_of header body = do
  read ← records_at header.size header.count body
  if length read.1 == 0 then Ok (record { lsn = header.lsn; records = read.0 }, header.size) else Err 0

unfoldable pub group_at : List ℕ → Result (Group × ℕ) ℕ
group_at bytes = if has_header bytes then group_of (header_of bytes) (body_of bytes) else Err 0
