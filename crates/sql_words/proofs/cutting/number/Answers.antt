use Rattle.sql_words.specs.Bytes.{is_digit}
use Rattle.sql_words.proofs.Runs.{prefix_passes}
use Rattle.sql_words.proofs.cutting.number.Goals as goal

pub number_in-requires : goal.number_in-requires
number_in-requires c = rw c.digits_len-len.ensures (prefix_passes is_digit c.args.bytes.now)
