use Rattle.std.proofs.Common.{◌∙◌, sym, ap, ℕ, List, nat_lt}
use Rattle.std.specs.List.{list_all}
use Rattle.cluster_model.specs.declared.traces.Answered.{Answered}
use Rattle.trace_text.proofs.NamedLaws.{all_named}
use Rattle.trace_text.proofs.tests.are_named.Goals as goal

pub returns : goal.returns
returns c = λ h.
    all_named c.args.names.now c.args.trace.now c.args.trace.now.answered
    (ap (λ (n : ℕ). list_all (λ (a : Answered). nat_lt a.session n) c.args.trace.now.answered) (sym c.len.ensures)
    ∙ ap (λ (l : List Answered). list_all (λ (a : Answered). nat_lt a.session c.len.result) l) (sym c.as_slice.ensures)
    ∙ sym c.all_below.ensures ∙ h)
