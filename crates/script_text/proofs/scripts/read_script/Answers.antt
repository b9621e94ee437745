use Rattle.script_text.proofs.WholeLaws.{read_is}
use Rattle.script_text.proofs.scripts.read_script.Goals as goal

pub returns-clause-grammar : goal.returns-clause-grammar
returns-clause-grammar c = read_is c.args.bytes.now c.read_lines.result c.read_lines.ensures
