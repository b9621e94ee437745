use Rattle.std.proofs.Common.{◌≡◌, ◌∙◌, false, Some, None, Option, sym, ap, subst, arith}
use Rattle.std.specs.Option.{is_some}
use Rattle.home_model.specs.Numbered.{put}
use Rattle.home_model.specs.Entry.{Entry as HomeEntry, registered}
use Rattle.home_tables.specs.Table.{address_number, entry_of}
use Rattle.home_tables.specs.Home.{HomeState, home_of, kept_in, kept, entry_at}
use Rattle.home_tables.specs.declared.entry.Entry.{Entry}
use Rattle.home_tables.proofs.Entries.{put_at, at_put, not_found, kept_added}
use Rattle.home_tables.proofs.home.Home.enter_new.Goals as goal

pub invariant_of-self : goal.invariant_of-self
invariant_of-self c = rw c.in_err-insert.ensures.err c.self.invariant

pub invariant_of-self-2 : goal.invariant_of-self-2
invariant_of-self-2 c =
    let es = c.self.inside.entries.entries in
    let absent = subst (λ (H : HomeState). is_some (kept H c.args.page) ≡ false) (sym c.self.view_is) c.requires in
    kept_added es c.insert.new.self.entries c.self.inside.idle c.self.inside.due c.args.page c.entered-entry.result c.self.invariant absent
    (at_put es c.insert.new.self.entries c.args.page (Some c.entered-entry.result) c.in_ok-insert.ensures.updates.0) c.entered-entry.ensures.busy c.entered-entry.ensures.nodes (omega arith)

pub returns-clause-entered : goal.returns-clause-entered
returns-clause-entered c =
    let es = c.self.inside.entries.entries in
    let new = c.insert.new.self.entries in
    let w = c.self.inside.watermark in
    let a = address_number c.args.fresh in
    let e = c.entered-entry.result in
    let absent = subst (λ (H : HomeState). is_some (kept H c.args.page) ≡ false) (sym c.self.view_is) c.requires in
    let none : kept_in es c.args.page ≡ None = not_found es c.args.page absent in
    let model : entry_of (Some e) ≡ registered (entry_of (kept_in es c.args.page)) c.args.floor a c.args.node = c.entered-entry.ensures.model ∙ ap (λ (o : Option Entry). registered (entry_of o) c.args.floor a c.args.node) (sym none) in
    subst (λ (H : HomeState). entry_at (home_of new w) ≡ put (entry_at H) c.args.page (registered (entry_at H c.args.page) c.args.floor a c.args.node)) c.self.view_is
    (put_at es new c.args.page (Some e) (at_put es new c.args.page (Some e) c.in_ok-insert.ensures.updates.0) ∙ ap (λ (E : HomeEntry). put (entry_at (home_of es w)) c.args.page E) model)
