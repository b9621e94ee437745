use Rattle.std.proofs.Common.{◌≡◌, ℕ, List, length, ap, subst, ◌∙◌}
use Rattle.redo_record.specs.Effect.{page_of}
use Rattle.page_chunks.specs.declared.entries.Entry.{Entry}
use Rattle.page_chunks.specs.Entries.{IsOutside, IsPlace}
use Rattle.page_chunks.proofs.TakenLaws.{length-taken, taken-outside, given_back}
use Rattle.page_chunks.proofs.taking.give_back.Goals as goal

pub returns-in-Some : goal.returns-in-Some
returns-in-Some c es lsn is =
    let now : List Entry = c.args.entries.now in
    let page : c.number.result ≡ page_of c.args.r.now = c.number.ensures.value ∙ c.page.ensures in
    let size : length now ≡ length es = ap length is ∙ length-taken c.args.first lsn c.args.r.now es in
    let at : IsPlace c.args.first (length es) (page_of c.args.r.now) c.in-Some.place =
    subst (λ (q : ℕ). IsPlace c.args.first (length es) q c.in-Some.place) page
    (subst (λ (n : ℕ). IsPlace c.args.first n c.number.result c.in-Some.place) size c.in-Some.ensures) in
    given_back c.args.first lsn c.in-Some.place c.args.r.now es now c.index-entries-place.result c.pop.new.self at is c.pop.ensures.base c.pop.ensures.pending

pub returns-in_default : goal.returns-in_default
returns-in_default c es lsn is =
    let page : c.number.result ≡ page_of c.args.r.now = c.number.ensures.value ∙ c.page.ensures in
    let size : length c.args.entries.now ≡ length es = ap length is ∙ length-taken c.args.first lsn c.args.r.now es in
    let out : IsOutside c.args.first (length es) (page_of c.args.r.now) =
    subst (λ (q : ℕ). IsOutside c.args.first (length es) q) page
    (subst (λ (n : ℕ). IsOutside c.args.first n c.number.result) size c.in_default.ensures) in
    is ∙ taken-outside c.args.first lsn c.args.r.now es out
