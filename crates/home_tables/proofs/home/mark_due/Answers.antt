use Rattle.std.proofs.Common.{◌≡◌, ◌≤◌, ◌+◌, ◌*◌, ℕ, Bool, List, length, length-set, sym, ◌∙◌, ap, subst, arith}
use Rattle.home_tables.specs.Numbers.{has_page}
use Rattle.home_tables.proofs.Marks.{mark_step}
use Rattle.home_tables.proofs.home.mark_due.Goals as goal

pub loop-number-preserved : goal.loop-number-preserved
loop-number-preserved c =
    let i = c.loop-number.invariant in
    let at : ℕ = c.loop-number.number * 32768 + c.args.page in
    let len : length c.mark_at.new.due ≡ length c.loop-number.due = ap (λ (q : List Bool). length q) c.mark_at.ensures ∙ length-set {A = Bool} c.loop-number.due at c.has_number-is_due.result in
    record {
      bound = len ∙ i.bound;
      room = subst (λ (n : ℕ). 524288 ≤ n) (sym len) i.room;
      small = i.small;
      marks = λ n q hn hq. ap (λ (d : List Bool). has_page d n q) c.mark_at.ensures
          ∙ mark_step c.args.due.now c.loop-number.due c.args.nodes.now c.loop-number.number c.args.page c.has_number-is_due.result (omega arith) i.small i.room c.has_number-is_due.ensures i.marks n q hn hq;
    }
