-- An expression is read by its rule, up to 256 symbols.
use Rattle.std.proofs.Common.{◌≡◌, ℕ, zero, suc, ◌+◌, ◌-◌, ◌<◌, ◌≤◌, ◌⊎◌, inl, inr, ◌&&◌, ◌||◌, Bool, true, false, cond, List, [], ◌∷◌, ◌++◌, length, take, drop, Option, Some, None, Ok, Err, refl, sym, ◌∙◌, ap, subst, arith, append_assoc, append-nil, length-append, take-append-drop, length-take, length-drop}
use Rattle.std.proofs.Math.Seq.{take-append-add, drop-append-add}
use Rattle.std.proofs.lemmas.Bool.{cases_lt}
use Rattle.std.specs.Prelude.{is_some}
use Rattle.sql_words.specs.declared.reserved.Word.TheVariants as w
use Rattle.sql_words.specs.declared.signs.Sign.TheVariants as s
use Rattle.sql_statements.specs.declared.expressions.Expr.{Expr}
use Rattle.sql_front.specs.declared.levels.Level.TheVariants as level
use Rattle.sql_front.specs.Expressions.{Part, row, Means, operand, joined, negated, tested, summed, compared, is_null, is_not_null, a_number, a_negative, a_text, a_null, a_column, of_table, group, an_expression}
use Rattle.sql_front.specs.Expressions as e
use Rattle.sql_front.specs.Input.{Outcome}
use Rattle.sql_front.specs.ReadExpr as r
use Rattle.sql_front.specs.ReadExpr.{goes_on, is_end, limited, expression}
use Rattle.sql_front.specs.Symbols.{Symbol, word, sign, name, number, text, Input, sees}
use Rattle.sql_front.proofs.Exact.{SameHead, Good, takes, stops}
use Rattle.sql_front.proofs.ExprReads.{part, good_whole}
use Rattle.sql_front.proofs.ExprComplete.{EndsOr, complete, whole-row, not_empty}
use Rattle.sql_front.proofs.ExprRoom.{same_whole}
use Rattle.sql_front.proofs.Stable.{Took, Stopped, took, stopped}
use Rattle.sql_front.proofs.Follows.{Judged, reads, falls, Follows, Starting}

-- ---- what goes on with an expression

pub goes_on-none : goes_on [] ≡ false
unfolding goes_on r.operator r.comparison sees
goes_on-none = refl

goes_on-cons : (x : Symbol) (i j : Input) → goes_on (x ∷ i) ≡ goes_on (x ∷ j)
unfolding goes_on r.operator r.comparison sees
goes_on-cons x i j = refl

pub goes_on-same : (i j : Input) → SameHead i j → goes_on i ≡ goes_on j
goes_on-same [] [] h = refl
goes_on-same [] (y ∷ j) h = absurd h
goes_on-same (x ∷ i) [] h = absurd h
goes_on-same (x ∷ i) (y ∷ j) h = ap (λ z. goes_on (z ∷ i)) h ∙ goes_on-cons y i j

neither : (a b : Bool) → (a || b) ≡ false → (a ≡ false) × (b ≡ false)
neither true b h = absurd cc
neither false b h = (refl, h)

no_some : {X : Type 0} (o : Option X) → is_some o ≡ false → o ≡ None
no_some None h = refl
no_some (Some x) h = absurd cc

ends_or : (i : Input) → goes_on i ≡ false → EndsOr i
unfolding goes_on
ends_or i h =
    let dot = neither _ _ h in
    let product = neither _ _ dot.0 in
    let sum = neither _ _ product.0 in
    let tests = neither _ _ sum.0 in
    let sides = neither _ _ tests.0 in
    let rows = neither _ _ sides.0 in
    (no_some _ rows.0, (no_some _ rows.1, (no_some _ sides.1, tests.1, (no_some _ sum.1, (no_some _ product.1, dot.1)))))

-- ---- the window

take_none : (n : ℕ) → take {A = Symbol} n [] ≡ []
take_none zero = refl
take_none (suc n) = refl

-- behind what was taken, the window has the same next symbol
window_head : (t q b z : Input) (n : ℕ) → 256 ≡ length t + n → length t + length q ≤ 256 → (length b ≡ 0) ⊎ (length t + length q ≡ 256) → SameHead (q ++ b) z → SameHead q (take n z)
window_head t [] [] [] n e fits full h = subst (SameHead []) (sym (take_none n)) tt
window_head t [] [] (y ∷ z) n e fits full h = absurd h
window_head t [] (x ∷ b) z n e fits (inl g) h = absurd (omega arith)
window_head t [] (x ∷ b) z n e fits (inr g) h = let none : 0 ≡ n = omega arith in subst (λ m. SameHead [] (take m z)) none tt
window_head t (x ∷ q) b [] n e fits full h = absurd h
window_head t (x ∷ q) b (y ∷ z) zero e fits full h = absurd (omega arith)
window_head t (x ∷ q) b (y ∷ z) (suc n) e fits full h = h

flag_same : (q b z d v : Input) → SameHead q z → SameHead (q ++ b) v → z ++ d ≡ v → (is_end z && goes_on d) ≡ (is_end q && goes_on b)
flag_same [] b [] d v h g e = goes_on-same d b (sym-head d v b e g) where
  sym-head : (d v b : Input) → d ≡ v → SameHead b v → SameHead d b
  sym-head d v b e g = swap b d (subst (SameHead b) (sym e) g) where
    swap : (i j : Input) → SameHead i j → SameHead j i
    swap [] [] h = tt
    swap [] (y ∷ j) h = absurd h
    swap (x ∷ i) [] h = absurd h
    swap (x ∷ i) (y ∷ j) h = sym h
flag_same [] b (y ∷ z) d v h g e = absurd h
flag_same (x ∷ q) b [] d v h g e = absurd h
flag_same (x ∷ q) b (y ∷ z) d v h g e = refl

expression_at : (t z : Input) (n : ℕ) → 256 ≡ length t + n → expression (t ++ z) ≡ limited (r.whole 256 (t ++ take n z)) (drop n z)
unfolding expression
expression_at t z n e =
    let front : take 256 (t ++ z) ≡ t ++ take n z = ap (λ k. take k (t ++ z)) e ∙ take-append-add t z n in
    let back : drop 256 (t ++ z) ≡ drop n z = ap (λ k. drop k (t ++ z)) e ∙ drop-append-add t z n in
    ap (λ q. limited (r.whole 256 q) (drop 256 (t ++ z))) front ∙ ap (limited (r.whole 256 (t ++ take n z))) back

limited-ok : (x : Expr) (z d v : Input) → z ++ d ≡ v → (is_end z && goes_on d) ≡ false → limited (Ok (x, z)) d ≡ Ok (x, v)
limited-ok x z d v e h = ap (λ b. cond b (Err d) (Ok (x, z ++ d))) h ∙ ap (λ q. Ok (x, q)) e

limited-over : (x : Expr) (z d v : Input) → z ++ d ≡ v → (is_end z && goes_on d) ≡ true → limited (Ok (x, z)) d ≡ Err v
limited-over x z d v e h = ap (λ b. cond b (Err d) (Ok (x, z ++ d))) h ∙ ap Err (none z e h) where
  none : (z : Input) → z ++ d ≡ v → (is_end z && goes_on d) ≡ true → d ≡ v
  none [] e h = e
  none (y ∷ z) e h = absurd cc

-- what the window holds and what is beyond it
module _ (i : Input) where
  full : (length (drop 256 i) ≡ 0) ⊎ (length (take 256 i) ≡ 256)
  full = by_size (cases_lt (length i) 256) where
    by_size : (length i < 256) ⊎ (256 ≤ length i) → (length (drop 256 i) ≡ 0) ⊎ (length (take 256 i) ≡ 256)
    by_size (inl h) = inl (omega (arith, length-drop 256 i))
    by_size (inr h) = inr (omega (arith, length-take 256 i))

  module _ (t q : Input) (e : take 256 i ≡ t ++ q) where
    n : ℕ
    n = 256 - length t

    room : 256 ≡ length t + (256 - length t)
    room = omega (arith, length-take 256 i, ap length e, length-append t q)

    head : (z : Input) → SameHead (q ++ drop 256 i) z → SameHead q (take (256 - length t) z)
    head z h = window_head t q (drop 256 i) z (256 - length t) room (omega (arith, length-take 256 i, ap length e, length-append t q)) (by_side full) h where
      by_side : (length (drop 256 i) ≡ 0) ⊎ (length (take 256 i) ≡ 256) → (length (drop 256 i) ≡ 0) ⊎ (length t + length q ≡ 256)
      by_side (inl h) = inl h
      by_side (inr h) = inr (omega (arith, ap length e, length-append t q))

    whole : i ≡ t ++ (q ++ drop 256 i)
    whole = sym (take-append-drop 256 i) ∙ ap (λ z. z ++ drop 256 i) e ∙ append_assoc t q (drop 256 i)

    fits : (k : ℕ) → k ≡ length t → 256 < k → ⊥
    fits k h g = omega (arith, length-take 256 i, ap length e, length-append t q)

    good_err : ((z : Input) → SameHead q z → r.whole 256 (t ++ z) ≡ Err z) → (more : Input) (x : Expr) → Means (row level.Or) (t ++ more) x → Good an_expression expression i
    good_err again more x m = stops (q ++ drop 256 i) (record { taken = t; whole = whole; again = go }) more x (m, λ h. absurd (fits (length t) refl h)) where
      go : (z : Input) → SameHead (q ++ drop 256 i) z → expression (t ++ z) ≡ Err z
      go z h =
          expression_at t z (256 - length t) room
          ∙ ap (λ o. limited o (drop (256 - length t) z)) (again (take (256 - length t) z) (head z h))
          ∙ ap Err (take-append-drop (256 - length t) z)

    module _ (x : Expr) (again : (z : Input) → SameHead q z → r.whole 256 (t ++ z) ≡ Ok (x, z)) (m : Means (row level.Or) t x) where
      flag : (z : Input) → SameHead (q ++ drop 256 i) z → (is_end (take (256 - length t) z) && goes_on (drop (256 - length t) z)) ≡ (is_end q && goes_on (drop 256 i))
      flag z h = flag_same q (drop 256 i) (take (256 - length t) z) (drop (256 - length t) z) z (head z h) h (take-append-drop (256 - length t) z)

      start : (z : Input) → SameHead (q ++ drop 256 i) z → expression (t ++ z) ≡ limited (Ok (x, take (256 - length t) z)) (drop (256 - length t) z)
      start z h =
          expression_at t z (256 - length t) room
          ∙ ap (λ o. limited o (drop (256 - length t) z)) (again (take (256 - length t) z) (head z h))

      good_taken : (b : Bool) → (is_end q && goes_on (drop 256 i)) ≡ b → Good an_expression expression i
      good_taken true f = stops (q ++ drop 256 i) (record { taken = t; whole = whole; again = go }) [] x (subst (λ z. Means (row level.Or) z x) (sym (append-nil t)) m, λ h. absurd (fits (length t) refl h)) where
        go : (z : Input) → SameHead (q ++ drop 256 i) z → expression (t ++ z) ≡ Err z
        go z h = start z h ∙ limited-over x (take (256 - length t) z) (drop (256 - length t) z) z (take-append-drop (256 - length t) z) (flag z h ∙ f)
      good_taken false f = takes x (q ++ drop 256 i) (record { taken = t; whole = whole; again = go }) (λ k. (m, λ h. few)) where
        few : length t ≤ 256
        few = omega (arith, length-take 256 i, ap length e, length-append t q)

        go : (z : Input) → SameHead (q ++ drop 256 i) z → expression (t ++ z) ≡ Ok (x, z)
        go z h = start z h ∙ limited-ok x (take (256 - length t) z) (drop (256 - length t) z) z (take-append-drop (256 - length t) z) (flag z h ∙ f)

pub good_expression : (i : Input) → Good an_expression expression i
good_expression i = by_case (good_whole 256 (take 256 i)) where
  by_case : Good (part (row level.Or)) (r.whole 256) (take 256 i) → Good an_expression expression i
  by_case (takes x q u m) = good_taken i u.taken q u.whole x u.again (m 0) (is_end q && goes_on (drop 256 i)) refl
  by_case (stops q u more x m) = good_err i u.taken q u.whole u.again more x m

-- ---- what the rule says is read

goes_on-take : (n : ℕ) (i : Input) → goes_on i ≡ false → goes_on (take n i) ≡ false
goes_on-take zero i h = goes_on-none
goes_on-take (suc n) [] h = h
goes_on-take (suc n) (x ∷ i) h = goes_on-cons x (take n i) i ∙ h

whole_reads : (p : Input) (x : Expr) (n : ℕ) (z : Input) → Means (row level.Or) p x → length p ≤ n → goes_on z ≡ false → r.whole n (p ++ z) ≡ Ok (x, z)
whole_reads p x n z m fits h = whole-row n (p ++ z) (omega (arith, not_empty m)) ∙ complete m n fits z (ends_or z h)

flag_off : (z d v : Input) → z ++ d ≡ v → goes_on v ≡ false → (is_end z && goes_on d) ≡ false
flag_off [] d v e h = ap goes_on e ∙ h
flag_off (y ∷ z) d v e h = refl

different_rests : (o : Outcome Expr) (x y : Expr) (q z : Input) → o ≡ Ok (x, q) → o ≡ Ok (y, z) → length q ≡ length z
different_rests o x y q z h g = ap (λ (p : Expr × Input). length p.1) (inside (sym h ∙ g)) where
  inside : {a b : Expr × Input} → ◌≡◌ {A = Outcome Expr} (Ok a) (Ok b) → a ≡ b
  inside e = cc

no_both : (o : Outcome Expr) (x : Expr) (q z : Input) → o ≡ Ok (x, q) → o ≡ Err z → ⊥
no_both o x q z h g = cc

module _ (k : ℕ) (p : Input) (x : Expr) (z : Input) (m : Means (row level.Or) p x) (ends : goes_on z ≡ false) where
  few_read : length p ≤ 256 → expression (p ++ z) ≡ Ok (x, z)
  few_read fits =
      let n : ℕ = 256 - length p in
      let room : 256 ≡ length p + (256 - length p) = omega arith in
      expression_at p z (256 - length p) room
      ∙ ap (λ o. limited o (drop (256 - length p) z)) (whole_reads p x 256 (take (256 - length p) z) m fits (goes_on-take (256 - length p) z ends))
      ∙ limited-ok x (take (256 - length p) z) (drop (256 - length p) z) z (take-append-drop (256 - length p) z)
      (flag_off (take (256 - length p) z) (drop (256 - length p) z) z (take-append-drop (256 - length p) z) ends)

  -- the symbols within the limit and those beyond it
  module _ (w b : Input) (parts : p ≡ w ++ b) (most : length w ≡ 256) (some : 0 < length b) where
    all_read : r.whole (length p) (w ++ (b ++ z)) ≡ Ok (x, z)
    all_read = ap (r.whole (length p)) (sym (append_assoc w b z) ∙ ap (λ q. q ++ z) (sym parts)) ∙ whole_reads p x (length p) z m (omega arith) ends

    window_read : expression (p ++ z) ≡ limited (r.whole 256 w) (b ++ z)
    window_read =
        let room : 256 ≡ length w + 0 = omega arith in
        ap (λ q. expression (q ++ z)) parts ∙ ap expression (append_assoc w b z) ∙ expression_at w (b ++ z) 0 room ∙ ap (λ q. limited (r.whole 256 q) (b ++ z)) (append-nil w)

    more_room : r.whole (length p) w ≡ r.whole 256 w
    more_room = same_whole (length p) 256 w (omega (arith, ap length parts, length-append w b)) (omega arith)

    fall : expression (p ++ z) ≡ Err (b ++ z) → k ≤ 256 → Judged expression k p x z
    fall e less = by_rest b parts some e where
      by_rest : (b : Input) → p ≡ w ++ b → 0 < length b → expression (p ++ z) ≡ Err (b ++ z) → Judged expression k p x z
      by_rest [] parts some e = absurd (omega arith)
      by_rest (y ∷ b) parts some e = falls w y b parts (omega arith) e

    module _ (less : k ≤ 256) where
      by_ok : (y : Expr) (q : Input) → r.whole 256 w ≡ Ok (y, q) → Judged expression k p x z
      by_ok y q h = by_left (took (part (row level.Or)) (r.whole (length p)) (good_whole (length p)) w y q (more_room ∙ h)) where
        longer : (t : Input) (s : Symbol) (q : Input) → w ≡ t ++ s ∷ q → ((v : Input) → SameHead (s ∷ q) v → r.whole (length p) (t ++ v) ≡ Ok (y, v)) → ⊥
        longer t s q e again =
            let there : r.whole (length p) (w ++ (b ++ z)) ≡ Ok (y, s ∷ q ++ (b ++ z)) = ap (λ v. r.whole (length p) (v ++ (b ++ z))) e ∙ ap (r.whole (length p)) (append_assoc t (s ∷ q) (b ++ z)) ∙ again (s ∷ q ++ (b ++ z)) refl in
            absurd (omega (arith, different_rests _ x y z (s ∷ q ++ (b ++ z)) all_read there, length-append q (b ++ z), length-append b z))

        at_limit : (t : Input) → w ≡ t ++ [] → Means (row level.Or) t y → r.whole 256 w ≡ Ok (y, []) → (f : Bool) → goes_on (b ++ z) ≡ f → Judged expression k p x z
        at_limit t e n g true f = fall (window_read ∙ ap (λ o. limited o (b ++ z)) g ∙ ap (λ d. cond d (Err (b ++ z)) (Ok (y, b ++ z))) f) less
        at_limit t e n g false f =
            let here : Means (row level.Or) w y = subst (λ q. Means (row level.Or) q y) (sym (e ∙ append-nil t)) n in
            let there : r.whole (length p) (w ++ (b ++ z)) ≡ Ok (y, b ++ z) = whole_reads w y (length p) (b ++ z) here (omega (arith, ap length parts, length-append w b)) f in
            absurd (omega (arith, different_rests _ x y z (b ++ z) all_read there, length-append b z))

        by_left : Took (part (row level.Or)) (r.whole (length p)) w y q → Judged expression k p x z
        by_left u = by_rest q u.whole u.again h where
          by_rest : (q : Input) → w ≡ u.taken ++ q → ((v : Input) → SameHead q v → r.whole (length p) (u.taken ++ v) ≡ Ok (y, v)) → r.whole 256 w ≡ Ok (y, q) → Judged expression k p x z
          by_rest [] e again h = at_limit u.taken e (u.means 0) h (goes_on (b ++ z)) refl
          by_rest (s ∷ q) e again h = absurd (longer u.taken s q e again)

      by_err : (q : Input) → r.whole 256 w ≡ Err q → Judged expression k p x z
      by_err q h = by_left (stopped (part (row level.Or)) (r.whole (length p)) (good_whole (length p)) w q (more_room ∙ h)) where
        by_left : Stopped (part (row level.Or)) (r.whole (length p)) w q → Judged expression k p x z
        by_left u = by_rest q u.whole u.again h where
          by_rest : (q : Input) → w ≡ u.taken ++ q → ((v : Input) → SameHead q v → r.whole (length p) (u.taken ++ v) ≡ Err v) → r.whole 256 w ≡ Err q → Judged expression k p x z
          by_rest [] e again h = fall (window_read ∙ ap (λ o. limited o (b ++ z)) h) less
          by_rest (s ∷ q) e again h =
              let there : r.whole (length p) (w ++ (b ++ z)) ≡ Err (s ∷ q ++ (b ++ z)) = ap (λ v. r.whole (length p) (v ++ (b ++ z))) e ∙ ap (r.whole (length p)) (append_assoc u.taken (s ∷ q) (b ++ z)) ∙ again (s ∷ q ++ (b ++ z)) refl in
              absurd (no_both _ x z (s ∷ q ++ (b ++ z)) all_read there)

      many_fall : Judged expression k p x z
      many_fall = by_outcome (r.whole 256 w) refl where
        by_outcome : (o : Outcome Expr) → r.whole 256 w ≡ o → Judged expression k p x z
        by_outcome (Ok v) h = by_ok v.0 v.1 h
        by_outcome (Err q) h = by_err q h

judge_expression : (k : ℕ) (p : Input) (x : Expr) (z : Input) → an_expression k p x → goes_on z ≡ false → Judged expression k p x z
judge_expression k p x z m h = by_size (cases_lt 256 (length p)) where
  small : 256 < length p → (256 < k) ⊎ (k ≤ 256) → k ≤ 256
  small many (inl g) = let few = m.1 g in omega arith
  small many (inr g) = g

  by_size : (256 < length p) ⊎ (length p ≤ 256) → Judged expression k p x z
  by_size (inl many) = many_fall k p x z m.0 h (take 256 p) (drop 256 p) (sym (take-append-drop 256 p)) (omega (arith, length-take 256 p)) (omega (arith, length-drop 256 p)) (small many (cases_lt 256 k))
  by_size (inr few) = reads (few_read k p x z m.0 h few)

-- ---- what an expression begins with

pub data Starter : Symbol → Type 0 where
  not_word : Starter (word w.Not)
  null_word : Starter (word w.Null)
  minus_sign : Starter (sign s.Minus)
  open_sign : Starter (sign s.Open)
  its_name : {n : List ℕ} → Starter (name n)
  its_number : {n : ℕ} → Starter (number n)
  its_text : {t : List ℕ} → Starter (text t)

starting : {p : Part} {ts : Input} {x : Expr} → Means p ts x → (q : Input) → Starting Starter (ts ++ q)
starting (operand m) q = starting m q
starting (joined {a = a} {b = b} {t = t} j m n) q = subst (Starting Starter) (sym (append_assoc a (t ∷ b) q)) (starting m (t ∷ b ++ q))
starting (negated m) q = not_word
starting (tested m) q = starting m q
starting (summed m) q = starting m q
starting (compared {a = a} {b = b} {t = t} j m n) q = subst (Starting Starter) (sym (append_assoc a (t ∷ b) q)) (starting m (t ∷ b ++ q))
starting (is_null {a = a} m) q = subst (Starting Starter) (sym (append_assoc a (word w.Is ∷ word w.Null ∷ []) q)) (starting m (word w.Is ∷ word w.Null ∷ q))
starting (is_not_null {a = a} m) q = subst (Starting Starter) (sym (append_assoc a (word w.Is ∷ word w.Not ∷ word w.Null ∷ []) q)) (starting m (word w.Is ∷ word w.Not ∷ word w.Null ∷ q))
starting (a_number h) q = its_number
starting a_negative q = minus_sign
starting a_text q = its_text
starting a_null q = null_word
starting a_column q = its_name
starting of_table q = its_name
starting (e.minus b m) q = minus_sign
starting (group m) q = open_sign

-- what may stand behind an expression
abbrev pub EndsExpr : Input → Type 0
EndsExpr i = goes_on i ≡ false

pub follows_expression : Follows an_expression expression (Starting Starter) EndsExpr
follows_expression = record {
  good = good_expression;
  begins = (word w.Null ∷ [], _, (operand (operand (tested (summed (operand (operand a_null))))), λ h. absurd (omega arith)));
  judge = judge_expression;
  heads = λ k p x z m h. starting m.0 z;
}
