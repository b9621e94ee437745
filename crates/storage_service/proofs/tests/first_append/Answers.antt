use Rattle.std.proofs.Common.{◌≡◌, ◌++◌, ℕ, List, [], length, Option, MatchOption, refl, sym, ap, subst, ◌∙◌}
use Rattle.page_image.specs.Image.{unmade}
use Rattle.redo_record.specs.declared.redo.Group.{Group}
use Rattle.redo_record.specs.Effect.{GroupsApply}
use Rattle.redo_record.proofs.Logs.{one_list}
use Rattle.log_chunks.specs.Log.{AreNext, GoesOn}
use Rattle.storage_service.proofs.tests.first_append.Goals as goal

pub new-requires-2 : goal.new-requires-2
new-requires-2 c = ([], record { spelled = record { groups_are = tt; bytes_are = refl }; counted = tt }, λ p h. tt)

pub append-requires : goal.append-requires
append-requires c =
    let groups : List Group = c.in-Some.groups in
    let before : List Group = c.in_ok-storage.storage.log.groups in
    let empty : before ≡ [] = one_list [] before [] c.in_ok-storage.ensures.log (record { groups_are = tt; bytes_are = refl }) in
    let first : c.new.result ≡ length before = c.new.ensures ∙ sym (ap length empty) in
    let next : AreNext c.new.result c.args.log.now groups =
    subst (λ (o : Option (List Group)). MatchOption o (¬ GoesOn c.new.result c.args.log.now) (AreNext c.new.result c.args.log.now)) c.in-Some.is c.in_ok-groups.ensures in
    let joined : groups ≡ before ++ groups = sym (ap (λ (gs : List Group). gs ++ groups) empty) in
    λ new kept. (
      groups,
      subst (λ (n : ℕ). AreNext n c.args.log.now groups) first next,
      λ p h. subst (λ (gs : List Group). GroupsApply gs (unmade p)) joined (c.in_ok-all_apply.ensures.0 c.if-not-branch.false p h),
    )
