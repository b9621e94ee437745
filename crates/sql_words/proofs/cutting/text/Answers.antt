use Rattle.std.proofs.Common.{◌≡◌, ◌-◌, take, drop, length, arith}
use Rattle.std.proofs.lemmas.Grind.{common_steps}
use Rattle.std.proofs.lemmas.Str.{utf8_valid_len-IsUtf8}
use Rattle.std.proofs.lemmas.Slice.{between_to_end}
use Rattle.sql_words.specs.Front.{text_at}
use Rattle.sql_words.proofs.cutting.text.Goals as goal

pub returns-in-Ok : goal.returns-in-Ok
unfolding text_at
returns-in-Ok c =
    let bytes = c.args.bytes.now in
    let end : take (length bytes - 1) (drop 1 bytes) ≡ drop 1 bytes = between_to_end bytes 1 (length bytes) (omega arith) in
    let text = rw end at c.in-Ok.ensures.cases.1 in
    let whole = utf8_valid_len-IsUtf8 (take (c.in-Some.len - 1) (drop 1 bytes)) text in
    grind (arith, common_steps)
