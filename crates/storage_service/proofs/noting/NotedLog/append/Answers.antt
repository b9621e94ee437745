use Rattle.std.proofs.Common.{◌≡◌, ℕ, true, List, length, drop, sym, ap, subst, ◌∙◌}
use Rattle.log_chunks.specs.Log.{Log, GoesOn, answer_to, is_kept}
use Rattle.storage_service.specs.Noting.{last_for, noted_at}
use Rattle.storage_service.proofs.LastFor.{appended_noted}
use Rattle.storage_service.proofs.noting.NotedLog.append.Goals as goal

pub invariant_of-self-2 : goal.invariant_of-self-2
invariant_of-self-2 c =
    let old : Log = c.self.inside.store in
    let bytes : List ℕ = c.args.bytes.now in
    let view : old ≡ c.args.self.now = c.self.view_is in
    let goes : is_kept c.in_ok-appended.appended ≡ true → GoesOn (length old.groups) bytes = λ is.
    subst (λ (l : Log). GoesOn (length l.groups) bytes) (sym view)
    (c.requires (ap (λ (l : Log). is_kept (answer_to l c.args.epoch c.args.offset (length bytes))) (sym view) ∙ ap is_kept (sym c.in_ok-appended.ensures.answer) ∙ is)) in
    appended_noted old c.append.new.self c.self.inside.noted.items c.note_past.new.noted.items bytes c.in_ok-appended.appended c.self.invariant goes
    c.in_ok-appended.ensures.log c.note_past.ensures.all (λ k low.
    c.note_past.ensures.each k low
    ∙ ap (λ (n : ℕ). last_for k (noted_at c.self.inside.noted.items k) (drop n c.append.new.self.groups)) (c.number-before.ensures.value ∙ c.last.ensures))
