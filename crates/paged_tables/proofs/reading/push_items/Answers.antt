use Rattle.std.proofs.Common.{◌++◌, ℕ, List, map, sym, ap, ◌∙◌}
use Rattle.std.proofs.lemmas.List.{append-nil}
use Rattle.page_view.specs.Leaf.{leaf_bytes}
use Rattle.paged_tables.proofs.PlaceLaws.{none_before}
use Rattle.paged_tables.proofs.ReadLaws.{one_read}
use Rattle.paged_tables.proofs.reading.push_items.Goals as goal

pub loop-i-init : goal.loop-i-init
loop-i-init c =
    let before : List (List ℕ) = map leaf_bytes c.args.found.now in
    let none = none_before c.args.range.now.low c.args.range.now.high c.args.page.now.items c.first_place-first.result c.first_place-first.ensures.first in
    record { spelled = sym (ap (λ (xs : List (List ℕ)). before ++ xs) none ∙ append-nil before); are_leaves = λ old. old }

pub loop-i-preserved : goal.loop-i-preserved
loop-i-preserved c = record {
  spelled =
      one_read c.args.range.now c.args.page.now.items (map leaf_bytes c.loop-i.found) (map leaf_bytes c.args.found.now) (map leaf_bytes c.push_in_range.new.found) c.loop-i.i
      c.leaf_at.result c.leaf_at.ensures.spelled c.loop-i.invariant.spelled c.in_ok-push_in_range.ensures.spelled;
  are_leaves = λ old. c.in_ok-push_in_range.ensures.are_leaves c.leaf_at.ensures.is_leaf (c.loop-i.invariant.are_leaves old);
}
