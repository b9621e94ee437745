use Rattle.std.proofs.Common.{map, sym, ◌∙◌, ap}
use Rattle.sql_front.specs.ReadStmt.{statement}
use Rattle.sql_front.specs.Symbols.{symbol_of}
use Rattle.sql_front.proofs.Limits.{reads_ok}
use Rattle.sql_front.proofs.Statements.{read_to_end}
use Rattle.sql_front.proofs.parsing.read.Goals as goal

pub returns-in-Ok : goal.returns-in-Ok
returns-in-Ok c = read_to_end (map symbol_of c.args.tokens.now) c.in-Ok.stmt c.statement.new.input (ap statement (sym c.new-input.ensures) ∙ reads_ok (statement c.new-input.result) c.in-Ok.stmt c.statement.new.input c.in-Ok.ensures)
