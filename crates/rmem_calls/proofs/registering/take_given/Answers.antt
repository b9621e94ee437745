use Rattle.std.proofs.Common.{refl}
use Rattle.home_model.specs.Numbered.{put}
use Rattle.home_model.specs.Entry.{no_entry}
use Rattle.home_tables.specs.Table.{address_number}
use Rattle.home_tables.specs.Home.{kept, entry_at}
use Rattle.rmem_calls.proofs.Answers.{seated, given_answer}
use Rattle.rmem_calls.proofs.registering.take_given.Goals as goal

pub told-requires : goal.told-requires
told-requires c =
    let H = c.args.home.now in
    let g = c.in-Some.given in
    seated c.replace.new.self (put (entry_at H) g.page no_entry) (kept H c.args.page) c.args.page c.replace.new.self.watermark (address_number g.slot) c.args.node c.in_ok-replace.ensures.replaced.entries

pub returns-clause-answer : goal.returns-clause-answer
returns-clause-answer c =
    let H = c.args.home.now in
    let S = c.args.slabs.now in
    let g = c.in-Some.given in
    given_answer H c.replace.new.self S S c.args.node c.args.page g.page g.slot c.told.result
    (record { takes = c.requires.takes; full = c.requires.full; least = c.in-Some.ensures.least; page = c.in-Some.ensures.page; slot = c.in-Some.ensures.slot; entry = c.in_ok-replace.ensures.replaced; rest = refl })
    c.told.ensures
