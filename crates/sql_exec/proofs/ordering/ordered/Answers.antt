use Rattle.std.proofs.Common.{rules, ◌≡◌, List, subst, sym}
use Rattle.std.proofs.lemmas.Fn.{always_returns_same}
use Rattle.std.specs.Ordering.{is_lt}
use Rattle.sql_values.specs.declared.values.Value.{Value}
use Rattle.sql_exec.specs.Order.{IsOrdered, row_cmp}
use Rattle.sql_exec.proofs.OrderLaws.{row_weak}
use Rattle.sql_exec.proofs.ordering.ordered.Goals as goal

pub returns : goal.returns
returns c =
    let places = c.args.places.now in
    let compares = always_returns_same _ (λ a r. is_lt r ≡ is_lt (row_cmp places a.0.now a.1.0.now)) _ (λ a r q k. search rules) in
    let in_place : IsOrdered places c.into_vec-rows.result.items c.sort_by.new.self.items = record {
      permutation = c.in_ok-sort_by.ensures.permutation;
      sorted = c.in_ok-sort_by.ensures.sorted (λ r s. is_lt (row_cmp places r s)) (row_weak places) compares;
      stable = c.in_ok-sort_by.ensures.stable (λ r s. is_lt (row_cmp places r s)) (row_weak places) compares;
    } in
    subst (λ (rows : List (List Value)). IsOrdered places c.args.rows rows) (sym c.from_vec.ensures)
    (subst (λ (rows : List (List Value)). IsOrdered places rows c.sort_by.new.self.items) c.into_vec-rows.ensures in_place)
