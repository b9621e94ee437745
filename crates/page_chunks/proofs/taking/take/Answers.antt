use Rattle.std.proofs.Common.{◌≡◌, ℕ, List, length, set, get_or, sym, ap, subst, ◌∙◌}
use Rattle.redo_record.specs.Effect.{page_of}
use Rattle.page_chunks.specs.declared.entries.Entry.{Entry}
use Rattle.page_chunks.specs.Entries.{taken, IsOutside, IsPlace}
use Rattle.page_chunks.proofs.TakenLaws.{pushed, taken-outside, taken-place, ok_of}
use Rattle.page_chunks.proofs.taking.take.Goals as goal

pub returns-in-Some-clause-ok : goal.returns-in-Some-clause-ok
returns-in-Some-clause-ok c =
    let es : List Entry = c.args.entries.now in
    let place : ℕ = c.in-Some.place in
    let d : Entry = c.index-entries-place.result in
    let page : c.number.result ≡ page_of c.args.r.now = c.number.ensures.value ∙ c.page.ensures in
    let at : IsPlace c.args.first (length es) (page_of c.args.r.now) place =
    subst (λ (q : ℕ). IsPlace c.args.first (length es) q place) page c.in-Some.ensures in
    ok_of c.push.result (c.push.new.self ≡ pushed c.args.lsn c.args.r.now (get_or es place d)) (set es place c.push.new.self ≡ taken c.args.first c.args.lsn c.args.r.now es)
    (λ is. ap (set es place) is ∙ sym (taken-place c.args.first c.args.lsn place c.args.r.now es d at)) c.push.ensures.ok

pub returns-in-None-clause-ok : goal.returns-in-None-clause-ok
returns-in-None-clause-ok c =
    let page : c.number.result ≡ page_of c.args.r.now = c.number.ensures.value ∙ c.page.ensures in
    let out : IsOutside c.args.first (length c.args.entries.now) (page_of c.args.r.now) =
    subst (λ (q : ℕ). IsOutside c.args.first (length c.args.entries.now) q) page c.in-None.ensures in
    sym (taken-outside c.args.first c.args.lsn c.args.r.now c.args.entries.now out)
