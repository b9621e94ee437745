use Rattle.std.proofs.Common.{◌≡◌, ◌-◌, ◌++◌, ◌∷◌, ℕ, List, [], take, drop, get_or, slice_get, Some, arith, refl, ap, sym, ◌∙◌}
use Rattle.std.specs.Option.{option_copied}
use Rattle.std.proofs.lemmas.Option.{get_or_from_slice_get}
use Rattle.std.proofs.lemmas.List.{append_assoc}
use Rattle.redo_record.specs.declared.redo.Record.{Record}
use Rattle.redo_record.specs.declared.redo.Record.TheVariants.{InsertSlot}
use Rattle.tree_change.specs.Splits.{inserts}
use Rattle.tree_change.proofs.HalfLaws.{inserts_more}
use Rattle.tree_change.proofs.halves.move_items.Goals as goal

pub loop-i-preserved : goal.loop-i-preserved
loop-i-preserved c =
    let items : List (List ℕ) = c.args.page.now.items in
    let get : slice_get items c.from.result ≡ Some c.unwrap.result.now = sym c.item.ensures ∙ ap option_copied c.unwrap.ensures in
    let here : get_or items c.from.result [] ≡ c.unwrap.result.now = get_or_from_slice_get items c.from.result c.unwrap.result.now [] get in
    let at : get_or items c.loop-i.i [] ≡ c.unwrap.result.now = ap (λ (n : ℕ). get_or items n []) (sym c.from.ensures) ∙ here in
    let bytes : c.append.new.self ≡ c.unwrap.result.now =
    c.in_ok-append.ensures.ok ∙ ap (λ (l : List ℕ). l ++ c.unwrap.result.now) c.new-bytes.ensures in
    let pushed : c.push.new.self ≡ c.loop-i.records ++ InsertSlot c.args.new (c.loop-i.i - c.args.shift) c.unwrap.result.now ∷ [] =
    c.in_ok-push.ensures.ok ∙ ap (λ (x : List ℕ). c.loop-i.records ++ InsertSlot c.args.new (c.loop-i.i - c.args.shift) x ∷ []) bytes in
    let moved : List Record = inserts c.args.new (c.args.from - c.args.shift) (take (c.loop-i.i - c.args.from) (drop c.args.from items)) in
    pushed
    ∙ ap (λ (l : List Record). l ++ InsertSlot c.args.new (c.loop-i.i - c.args.shift) c.unwrap.result.now ∷ []) c.loop-i.invariant
    ∙ append_assoc c.args.records.now moved (InsertSlot c.args.new (c.loop-i.i - c.args.shift) c.unwrap.result.now ∷ [])
    ∙ ap (λ (l : List Record). c.args.records.now ++ l)
    (sym (inserts_more c.args.new c.args.from c.args.shift c.loop-i.i (c.loop-i.i - c.args.shift) items c.unwrap.result.now
    c.loop-i.auto.i (let within = c.requires.within in omega arith) c.requires.shift refl at))
