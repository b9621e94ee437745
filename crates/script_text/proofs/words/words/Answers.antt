use Rattle.std.proofs.Common.{rules}
use Rattle.script_text.proofs.WordLaws.{words-pushed, words-ended}
use Rattle.script_text.proofs.words.words.Goals as goal

pub words-preserved : goal.words-preserved
words-preserved c =
    words-pushed c.words.words c.push.new.self _ c.words.rest.now c.in-Some.field-0.before.now c.in-Some.field-0.behind.now
    c.words.invariant (search rules) c.in-Some.ensures.place c.in-Some.ensures.before c.in-Some.ensures.behind

pub returns-in-None : goal.returns-in-None
returns-in-None c = words-ended c.words.words c.push-in-None.new.self _ c.words.rest.now c.words.invariant (search rules) c.in-None.ensures.none
