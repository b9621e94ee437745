use Rattle.std.proofs.Common.{◌≡◌, ℕ, true, length, cond, nat_lt, sym, ap, subst, ◌∙◌}
use Rattle.log_chunks.specs.Log.{Log, answer_to, is_kept}
use Rattle.storage_service.specs.Storage.{Parts, Brings}
use Rattle.storage_service.specs.Keeping.{IsKept}
use Rattle.storage_service.proofs.Appending.{appended_keeps}
use Rattle.storage_service.proofs.storage.StorageService.handle_append.Goals as goal

-- what is kept was promised
brings : (c : goal.After-appended_reply-2) → is_kept c.in_ok-appended.appended ≡ true → Brings c.self.inside.log.groups c.args.bytes.now
brings c is =
    let answer : c.in_ok-appended.appended ≡ answer_to c.self.inside.log c.args.token.now.epoch c.args.offset (length c.args.bytes.now) = c.in_ok-appended.ensures.answer in
    let log : c.self.inside.log ≡ c.args.self.now.log = ap (λ (P : Parts). P.log) c.self.view_is in
    let kept : is_kept (answer_to c.args.self.now.log c.args.token.now.epoch c.args.offset (length c.args.bytes.now)) ≡ true =
    ap (λ (l : Log). is_kept (answer_to l c.args.token.now.epoch c.args.offset (length c.args.bytes.now))) (sym log) ∙ ap is_kept (sym answer) ∙ is in
    subst (λ (l : Log). Brings l.groups c.args.bytes.now) (sym log) (c.requires.brings kept)

pub invariant_of-self-2 : goal.invariant_of-self-2
invariant_of-self-2 c =
    let epoch : c.keep.new.self.epoch ≡ c.self.inside.server.epoch = ap (λ s. s.epoch) c.keep.ensures in
    let count : c.behind_after-behind.result ≡ cond (nat_lt (length c.self.inside.log.groups) (length c.append.new.self.groups)) 128 c.self.inside.behind =
    c.behind_after-behind.ensures ∙ ap (λ (n : ℕ). cond (nat_lt n c.last.result) 128 c.self.inside.behind) c.last-before.ensures
    ∙ ap (λ (n : ℕ). cond (nat_lt (length c.self.inside.log.groups) n) 128 c.self.inside.behind) c.last.ensures in
    subst (λ (e : ℕ). IsKept e c.append.new.self c.self.inside.chunks.items c.behind_after-behind.result) (sym epoch)
    (subst (λ (n : ℕ). IsKept c.self.inside.server.epoch c.append.new.self c.self.inside.chunks.items n) (sym count)
    (appended_keeps c.self.inside.server.epoch c.self.inside.log c.append.new.self c.self.inside.chunks.items c.self.inside.behind c.args.bytes.now
    c.in_ok-appended.appended c.self.invariant (brings c) c.in_ok-appended.ensures.log))
