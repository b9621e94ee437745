use Rattle.std.proofs.Common.{◌-◌, length, drop, sym, ◌∙◌, ap}
use Rattle.sql_front.proofs.Limits.{reads_limited, reads_over, reads_stop}
use Rattle.sql_front.proofs.reading.expression.Goals as goal
use Rattle.sql_front.proofs.reading.expression.Goals.{else-left-eq0-via-then-left-eq0+else-goes_on, else-left-eq0-via-else-left-eq0}

pub returns-then-goes_on : goal.returns-then-goes_on
returns-then-goes_on c =
    let count = c.pass.ensures ∙ ap (λ n. drop n c.args.input.now) (c.saturating_sub.ensures ∙ ap (λ n. n - c.len-left.result) c.len-len.ensures ∙ ap (λ n. length c.window-window.result - n) c.len-left.ensures) in
    reads_over c.args.input.now c.window-window.result c.whole-read.new.input c.pass.new.self c.window-window.ensures count c.in-Ok.expr c.in-Ok.ensures
    (sym c.len-left.ensures ∙ c.if-left-eq0.true) (sym c.goes_on.ensures ∙ c.if-goes_on.true)

pub returns-else-left-eq0 : goal.returns-else-left-eq0
returns-else-left-eq0 c =
    let count = c.pass.ensures ∙ ap (λ n. drop n c.args.input.now) (c.saturating_sub.ensures ∙ ap (λ n. n - c.len-left.result) c.len-len.ensures ∙ ap (λ n. length c.window-window.result - n) c.len-left.ensures) in
    reads_limited c.args.input.now c.window-window.result c.whole-read.new.input c.pass.new.self c.window-window.ensures count c.in-Ok.expr c.in-Ok.ensures
    (elim c.else-left-eq0.branch [
      | else-left-eq0-via-then-left-eq0+else-goes_on w ↦ λ h. sym w.goes_on.ensures ∙ w.if-goes_on.false
      | else-left-eq0-via-else-left-eq0 w ↦ λ h. absurd (w.if-left-eq0.false (c.len-left.ensures ∙ h))
    ])

pub returns-in-Err : goal.returns-in-Err
returns-in-Err c =
    let count = c.pass.ensures ∙ ap (λ n. drop n c.args.input.now) (c.saturating_sub.ensures ∙ ap (λ n. n - c.len-left.result) c.len-len.ensures ∙ ap (λ n. length c.window-window.result - n) c.len-left.ensures) in
    reads_stop c.args.input.now c.window-window.result c.whole-read.new.input c.pass.new.self c.window-window.ensures count c.in-Err.stop c.in-Err.ensures
