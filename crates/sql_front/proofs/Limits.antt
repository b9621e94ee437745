-- What a window of 256 symbols does.
use Rattle.std.proofs.Common.{◌≡◌, ℕ, ◌-◌, ◌&&◌, true, false, cond, [], ◌∷◌, ◌++◌, length, take, drop, Ok, Err, refl, sym, ◌∙◌, ap, subst, arith, append_assoc, length-append, take-append-drop}
use Rattle.std.proofs.lemmas.List.{drop_at}
use Rattle.sql_statements.specs.declared.expressions.Expr.{Expr}
use Rattle.sql_front.specs.declared.levels.Level.TheVariants as level
use Rattle.sql_front.specs.declared.stopping.Stop.{Stop}
use Rattle.sql_front.specs.declared.stopping.Stop.TheVariants as stop
use Rattle.sql_front.specs.Expressions.{row}
use Rattle.sql_front.specs.Input.{Outcome, Reads}
use Rattle.sql_front.specs.ReadExpr as r
use Rattle.sql_front.specs.ReadExpr.{goes_on, is_end, limited, expression}
use Rattle.sql_front.specs.Symbols.{Input}
use Rattle.sql_front.proofs.Exact.{runs_to, Good, takes, stops}
use Rattle.sql_front.proofs.ExprReads.{part, good_whole}

pub reads_ok : {X : Type 0} (o : Outcome X) (x : X) (new : Input) → Reads o (Ok x) new → o ≡ Ok (x, new)
reads_ok (Ok p) x new h = ap (λ y. Ok (y, p.1)) (sym h.0) ∙ ap (λ q. Ok (x, q)) (sym h.1)
reads_ok (Err i) x new h = absurd h

pub reads_refused : {X : Type 0} (o : Outcome X) (new : Input) → Reads o (Err stop.Refused) new → o ≡ Err new
reads_refused (Ok p) new h = absurd h
reads_refused (Err i) new h = ap Err (sym h)

-- what is left is the end of what there was
pub left_ok : (n : ℕ) (w : Input) (x : Expr) (q : Input) → r.whole n w ≡ Ok (x, q) → (t : Input) × (w ≡ t ++ q)
left_ok n w x q h = by_case (good_whole n w) where
  same : (y : Expr) (d : Input) → r.whole n w ≡ Ok (y, d) → d ≡ q
  same y d g = ap (λ (p : Expr × Input). p.1) (inside (sym g ∙ h)) where
    inside : {a b : Expr × Input} → ◌≡◌ {A = Outcome Expr} (Ok a) (Ok b) → a ≡ b
    inside e = cc

  clash : (d : Input) → r.whole n w ≡ Err d → ⊥
  clash d g = absurd (apart (r.whole n w) h g) where
    apart : (o : Outcome Expr) → o ≡ Ok (x, q) → o ≡ Err d → ⊥
    apart o a b = cc

  by_case : Good (part (row level.Or)) (r.whole n) w → (t : Input) × (w ≡ t ++ q)
  by_case (takes y d u m) = (u.taken, u.whole ∙ ap (λ z. u.taken ++ z) (same y d (runs_to u)))
  by_case (stops d u more y m) = absurd (clash d (runs_to u))

pub left_err : (n : ℕ) (w q : Input) → r.whole n w ≡ Err q → (t : Input) × (w ≡ t ++ q)
left_err n w q h = by_case (good_whole n w) where
  same : (d : Input) → r.whole n w ≡ Err d → d ≡ q
  same d g = inside (sym g ∙ h) where
    inside : {a b : Input} → ◌≡◌ {A = Outcome Expr} (Err a) (Err b) → a ≡ b
    inside e = cc

  clash : (y : Expr) (d : Input) → r.whole n w ≡ Ok (y, d) → ⊥
  clash y d g = absurd (apart (r.whole n w) h g) where
    apart : (o : Outcome Expr) → o ≡ Err q → o ≡ Ok (y, d) → ⊥
    apart o a b = cc

  by_case : Good (part (row level.Or)) (r.whole n) w → (t : Input) × (w ≡ t ++ q)
  by_case (takes y d u m) = absurd (clash y d (runs_to u))
  by_case (stops d u more y m) = (u.taken, u.whole ∙ ap (λ z. u.taken ++ z) (same d (runs_to u)))

-- passing over what the window lost leaves what it kept and what is beyond it
pub passed : (i w t q : Input) → w ≡ take 256 i → w ≡ t ++ q → drop (length w - length q) i ≡ q ++ drop 256 i
passed i w t q e g =
    let size : length t ≡ length w - length q = omega (arith, ap length g, length-append t q) in
    let whole : i ≡ t ++ (q ++ drop 256 i) = sym (take-append-drop 256 i) ∙ ap (λ z. z ++ drop 256 i) (sym e ∙ g) ∙ append_assoc t q (drop 256 i) in
    ap (drop (length w - length q)) whole ∙ drop_at t (q ++ drop 256 i) (length w - length q) size

module _ (i w q new : Input) (e : w ≡ take 256 i) (pass : new ≡ drop (length w - length q) i) where
  expression-ok : (x : Expr) → r.whole 256 w ≡ Ok (x, q) → (length q ≡ 0 → goes_on new ≡ false) → expression i ≡ Ok (x, new)
  unfolding expression
  expression-ok x h ends =
      let t = left_ok 256 w x q h in
      let new_is : new ≡ q ++ drop 256 i = pass ∙ passed i w t.0 q e t.1 in
      ap (λ z. limited (r.whole 256 z) (drop 256 i)) (sym e) ∙ ap (λ o. limited o (drop 256 i)) h
      ∙ ap (λ b. cond b (Err (drop 256 i)) (Ok (x, q ++ drop 256 i))) (goes q new_is ends) ∙ ap (λ z. Ok (x, z)) (sym new_is)
    where
      goes : (q : Input) → new ≡ q ++ drop 256 i → (length q ≡ 0 → goes_on new ≡ false) → (is_end q && goes_on (drop 256 i)) ≡ false
      goes [] n f = ap goes_on (sym n) ∙ f refl
      goes (y ∷ q) n f = refl

  expression-over : (x : Expr) → r.whole 256 w ≡ Ok (x, q) → length q ≡ 0 → goes_on new ≡ true → expression i ≡ Err new
  unfolding expression
  expression-over x h none over =
      let t = left_ok 256 w x q h in
      let new_is : new ≡ q ++ drop 256 i = pass ∙ passed i w t.0 q e t.1 in
      ap (λ z. limited (r.whole 256 z) (drop 256 i)) (sym e) ∙ ap (λ o. limited o (drop 256 i)) h
      ∙ goes q new_is none
    where
      goes : (q : Input) → new ≡ q ++ drop 256 i → length q ≡ 0 → limited (Ok (x, q)) (drop 256 i) ≡ Err new
      goes [] n f = ap (λ b. cond b (Err (drop 256 i)) (Ok (x, drop 256 i))) (ap goes_on (sym n) ∙ over) ∙ ap Err (sym n)
      goes (y ∷ q) n f = absurd (omega arith)

  expression-err : r.whole 256 w ≡ Err q → expression i ≡ Err new
  unfolding expression
  expression-err h =
      let t = left_err 256 w q h in
      ap (λ z. limited (r.whole 256 z) (drop 256 i)) (sym e) ∙ ap (λ o. limited o (drop 256 i)) h
      ∙ ap Err (sym (pass ∙ passed i w t.0 q e t.1))

  pub reads_limited : (x : Expr) → Reads (r.whole 256 w) (Ok x) q → (length q ≡ 0 → goes_on new ≡ false) → Reads (expression i) (Ok x) new
  reads_limited x h ends = subst (λ o. Reads o (Ok x) new) (sym (expression-ok x (reads_ok _ x q h) ends)) (refl, refl)

  pub reads_over : (x : Expr) → Reads (r.whole 256 w) (Ok x) q → length q ≡ 0 → goes_on new ≡ true → Reads (expression i) (Err stop.Refused) new
  reads_over x h none over = subst (λ o. Reads o (Err stop.Refused) new) (sym (expression-over x (reads_ok _ x q h) none over)) refl

  pub reads_stop : (e : Stop) → Reads (r.whole 256 w) (Err e) q → Reads (expression i) (Err e) new
  reads_stop stop.Refused h = subst (λ o. Reads o (Err stop.Refused) new) (sym (expression-err (reads_refused _ q h))) refl
  reads_stop stop.Memory h = any (expression i) where
    any : (o : Outcome Expr) → Reads o (Err stop.Memory) new
    any (Ok p) = tt
    any (Err j) = tt
