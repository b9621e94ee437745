use Rattle.std.proofs.Common.{◌≡◌, ◌<◌, ℕ, true, false, ltb, ◌≤◌, length, ap, Bor, ◌∙◌, arith}
use Rattle.std.proofs.lemmas.Bool.Decides.{nat_tests}
use Rattle.std.proofs.lemmas.List.MinMax.{best_of_keeps, best_of_takes}
use Rattle.mini_transactions.specs.declared.page_work.PageWork.{PageWork}
use Rattle.mini_transactions.specs.Work.{is_before}
use Rattle.mini_transactions.proofs.mini.next_of.Goals as goal
use Rattle.mini_transactions.proofs.mini.next_of.Goals.{then-turn, else-turn}

earlier : (a b x y : ℕ) → a < b → a ≡ x → b ≡ y → ltb x y ≡ true
earlier a b x y h p q = grind (arith, nat_tests)

later : (a b x y : ℕ) → b ≤ a → a ≡ x → b ≡ y → ltb x y ≡ false
later a b x y h p q = grind (arith, nat_tests)

pub loop-work-preserved : goal.loop-work-preserved
loop-work-preserved c =
    let first = c.in_ok-first.first.now in
    let rest = c.in_ok-first.rest.now in
    let within : c.loop-work.work-index < length rest = omega arith in
    elim c.if-turn.branch [
      | then-turn w ↦
          let before : is_before c.work-item.result c.loop-work.next.now ≡ true = earlier _ _ _ _ w.if-turn.true c.turn.ensures c.turn-in-loop-work.ensures in
          let best = best_of_takes is_before first rest c.loop-work.work-index c.work-item.result c.loop-work.next.now within c.work-item.is c.loop-work.invariant before in
          ap (λ (b : Bor PageWork). b.now) w.next-is ∙ best
      | else-turn w ↦
          let before : is_before c.work-item.result c.loop-work.next.now ≡ false = later _ _ _ _ w.if-turn.false c.turn.ensures c.turn-in-loop-work.ensures in
          let best = best_of_keeps is_before first rest c.loop-work.work-index c.work-item.result c.loop-work.next.now within c.work-item.is c.loop-work.invariant before in
          ap (λ (b : Bor PageWork). b.now) w.next-is ∙ best
    ]
