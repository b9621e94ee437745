use Rattle.std.proofs.Common.{rules, ◌≡◌, ◌<◌, ◌+◌, ◌-◌, ◌/◌, ℕ, List, length, slice_index_or, Some, [], arith, ap, sym, ◌∙◌, Less, Greater}
use Rattle.std.proofs.lemmas.Option.{slice_get-get_or}
use Rattle.std.proofs.lemmas.Map.Lookups.{exact_bytes}
use Rattle.page_view.specs.Keys.{keys_of, key_cmp}
use Rattle.page_view.proofs.SearchLaws.{less_below, greater_from, halved_again, few_looks, looks_below}
use Rattle.page_view.proofs.search.halve.Goals as goal

pub loop-low-preserved-in-Less : goal.loop-low-preserved-in-Less
loop-low-preserved-in-Less c =
    let keys : List (List ℕ) = keys_of c.args.page.now.items in
    let size : ℕ = c.loop-low.high - c.loop-low.low in
    let middle : ℕ = c.loop-low.low + (c.loop-low.high - c.loop-low.low) / 2 in
    let within = c.loop-low.invariant.within in
    let inside : middle < length keys = omega arith in
    let less : key_cmp (slice_index_or keys middle []) c.args.key.now ≡ Less =
    ap (λ (k : List ℕ). key_cmp k c.args.key.now) (sym c.key_at.ensures) ∙ sym c.cmp.ensures ∙ c.in-Less.is in
    record {
      ordered = omega arith;
      within = within;
      less = less_below keys c.args.key.now middle c.requires inside less;
      greater = c.loop-low.invariant.greater;
      halved = halved_again size (c.loop-low.high - (middle + 1)) c.loop-low.looks (length c.args.page.now.items) (omega arith) c.loop-low.invariant.halved;
      few = (few_looks size c.loop-low.looks (length c.args.page.now.items) (omega arith) c.loop-low.invariant.halved).1;
    }

pub loop-low-preserved : goal.loop-low-preserved
loop-low-preserved c =
    let keys : List (List ℕ) = keys_of c.args.page.now.items in
    let size : ℕ = c.loop-low.high - c.loop-low.low in
    let middle : ℕ = c.loop-low.low + (c.loop-low.high - c.loop-low.low) / 2 in
    let within = c.loop-low.invariant.within in
    let greater : key_cmp (slice_index_or keys middle []) c.args.key.now ≡ Greater =
    ap (λ (k : List ℕ). key_cmp k c.args.key.now) (sym c.key_at.ensures) ∙ sym c.cmp.ensures ∙ c.in-Greater.is in
    record {
      ordered = omega arith;
      within = omega arith;
      less = c.loop-low.invariant.less;
      greater = greater_from keys c.args.key.now middle c.requires greater;
      halved = halved_again size (middle - c.loop-low.low) c.loop-low.looks (length c.args.page.now.items) (omega arith) c.loop-low.invariant.halved;
      few = (few_looks size c.loop-low.looks (length c.args.page.now.items) (omega arith) c.loop-low.invariant.halved).1;
    }

pub returns-in-Equal : goal.returns-in-Equal
returns-in-Equal c =
    let keys : List (List ℕ) = keys_of c.args.page.now.items in
    let size : ℕ = c.loop-low.high - c.loop-low.low in
    let middle : ℕ = c.loop-low.low + (c.loop-low.high - c.loop-low.low) / 2 in
    let within = c.loop-low.invariant.within in
    let inside : middle < length keys = omega arith in
    let same : c.key_at.result.now ≡ c.args.key.now =
    exact_bytes c.key_at.result.now c.args.key.now (sym c.cmp.ensures ∙ c.in-Equal.is) in
    record {
      found = slice_get-get_or keys middle [] inside ∙ ap Some (sym c.key_at.ensures ∙ same);
      looks = (few_looks size c.loop-low.looks (length c.args.page.now.items) (omega arith) c.loop-low.invariant.halved).1;
    }

pub overflow_add-looks : goal.overflow_add-looks
overflow_add-looks c =
    let size : ℕ = c.loop-low.high - c.loop-low.low in
    let below = looks_below size c.loop-low.looks (length c.args.page.now.items) (omega arith) c.loop-low.invariant.halved in
    let bound = c.slots.ensures.bound in
    let count = c.slots.ensures.value in
    search (rules, below, bound, count)
