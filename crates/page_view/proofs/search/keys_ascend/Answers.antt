use Rattle.std.proofs.Common.{◌≡◌, length, arith, refl}
use Rattle.std.proofs.lemmas.List.{length-map}
use Rattle.page_view.specs.Keys.{key_in, keys_of}
use Rattle.page_view.proofs.SearchLaws.{ascend_from}
use Rattle.page_view.proofs.search.keys_ascend.Goals as goal

pub returns : goal.returns
returns c =
    let as_many : length (keys_of c.args.page.now.items) ≡ length c.args.page.now.items = length-map c.args.page.now.items key_in in
    (λ _. ascend_from (keys_of c.args.page.now.items) (λ k h. c.loop-next.invariant k (omega arith)), λ _. refl)
