use Rattle.std.proofs.Common.{◌≡◌, ◌≤◌, ◌+◌, List, nat_eq, sym, ap, ◌∙◌, arith}
use Rattle.std.specs.List.{find, slice_get}
use Rattle.redo_record.specs.declared.redo.Group.{Group}
use Rattle.log_chunks.specs.Log.{Log}
use Rattle.log_chunks.proofs.StoreLaws.{find-counted, find-before}
use Rattle.log_chunks.proofs.store.LogStore.group.Goals as goal

pub returns-in-Some : goal.returns-in-Some
returns-in-Some c =
    let groups : List Group = c.self.inside.groups.items in
    let lsn : c.args.lsn ≡ 0 + c.in-Some.place + 1 = omega (arith, c.in-Some.ensures, c.number.ensures.value) in
    c.item_at.ensures ∙ ap (λ (q : List Group). slice_get q c.in-Some.place) c.as_slice-groups.ensures.value
    ∙ sym (find-counted 0 c.in-Some.place c.args.lsn groups lsn c.self.invariant.log.counted)
    ∙ ap (λ (q : Log). find (λ g. nat_eq g.lsn c.args.lsn) q.groups) c.self.view_is

pub returns-in-None : goal.returns-in-None
returns-in-None c =
    let none : c.args.lsn ≤ 0 = omega (arith, c.in-None.ensures, c.number.ensures.value) in
    sym (find-before 0 c.args.lsn c.self.inside.groups.items none c.self.invariant.log.counted)
    ∙ ap (λ (q : Log). find (λ g. nat_eq g.lsn c.args.lsn) q.groups) c.self.view_is
