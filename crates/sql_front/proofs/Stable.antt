-- What a reader that follows a rule took, and that it does the same before other symbols.
use Rattle.std.proofs.Common.{◌≡◌, ℕ, ◌+◌, ◌≤◌, ◌++◌, length, Ok, Err, sym, ◌∙◌, ap, subst, arith}
use Rattle.std.proofs.lemmas.List.{append_cancel_right}
use Rattle.sql_front.specs.Input.{Outcome, Reader}
use Rattle.sql_front.specs.Rules.{Rule}
use Rattle.sql_front.specs.Symbols.{Input}
use Rattle.sql_front.proofs.Exact.{SameHead, runs_to, Good, takes, stops}

-- an outcome is one
pub both_ok : {X : Type 0} (o : Outcome X) (x y : X) (q r : Input) → o ≡ Ok (x, q) → o ≡ Ok (y, r) → (x ≡ y) × (q ≡ r)
both_ok {X} o x y q r e g = (ap (λ (p : X × Input). p.0) same, ap (λ (p : X × Input). p.1) same) where
  inside : {a b : X × Input} → ◌≡◌ {A = Outcome X} (Ok a) (Ok b) → a ≡ b
  inside h = cc

  same : ◌≡◌ {A = X × Input} (x, q) (y, r)
  same = inside (sym e ∙ g)

both_err : {X : Type 0} (o : Outcome X) (q r : Input) → o ≡ Err q → o ≡ Err r → q ≡ r
both_err o q r e g = cc

apart : {X : Type 0} (o : Outcome X) (x : X) (q r : Input) → o ≡ Ok (x, q) → o ≡ Err r → ⊥
apart o x q r e g = cc

-- what was taken of the input
pub record Took {X : Type 0} (R : Rule X) (P : Reader X) (i : Input) (x : X) (r : Input) : Type 0 where
  pub taken : Input
  pub whole : i ≡ taken ++ r
  pub means : (k : ℕ) → R k taken x
  pub again : (q : Input) → SameHead r q → P (taken ++ q) ≡ Ok (x, q)

-- what was taken before the reader stopped, and how it could have gone on
pub record Stopped {X : Type 0} (R : Rule X) (P : Reader X) (i : Input) (r : Input) : Type 0 where
  pub taken : Input
  pub whole : i ≡ taken ++ r
  pub more : Input
  pub value : X
  pub means : R (length taken) (taken ++ more) value
  pub again : (q : Input) → SameHead r q → P (taken ++ q) ≡ Err q

module _ {X : Type 0} (R : Rule X) (P : Reader X) (good : (i : Input) → Good R P i) where
  pub took : (i : Input) (x : X) (r : Input) → P i ≡ Ok (x, r) → Took R P i x r
  took i x r h = by_case (good i) where
    by_case : Good R P i → Took R P i x r
    by_case (takes y q u m) =
        let same = both_ok (P i) y x q r (runs_to u) h in
        record {
          taken = u.taken;
          whole = u.whole ∙ ap (λ z. u.taken ++ z) same.1;
          means = λ k. subst (R k u.taken) same.0 (m k);
          again = λ z s. u.again z (subst (λ d. SameHead d z) (sym same.1) s) ∙ ap (λ d. Ok (d, z)) same.0;
        }
    by_case (stops q u more y m) = absurd (apart (P i) x r q h (runs_to u))

  pub stopped : (i : Input) (r : Input) → P i ≡ Err r → Stopped R P i r
  stopped i r h = by_case (good i) where
    by_case : Good R P i → Stopped R P i r
    by_case (takes y q u m) = absurd (apart (P i) y q r (runs_to u) h)
    by_case (stops q u more y m) =
        let same = both_err (P i) q r (runs_to u) h in
        record {
          taken = u.taken;
          whole = u.whole ∙ ap (λ z. u.taken ++ z) same;
          more = more;
          value = y;
          means = m;
          again = λ z s. u.again z (subst (λ d. SameHead d z) (sym same) s);
        }

  -- the same before other symbols
  pub still_ok : (t r : Input) (x : X) → P (t ++ r) ≡ Ok (x, r) → (q : Input) → SameHead r q → P (t ++ q) ≡ Ok (x, q)
  still_ok t r x h q s =
      let u = took (t ++ r) x r h in
      let same : u.taken ≡ t = sym (append_cancel_right t u.taken r u.whole) in
      subst (λ z. P (z ++ q) ≡ Ok (x, q)) same (u.again q s)

  pub still_err : (t r : Input) → P (t ++ r) ≡ Err r → (q : Input) → SameHead r q → P (t ++ q) ≡ Err q
  still_err t r h q s =
      let u = stopped (t ++ r) r h in
      let same : u.taken ≡ t = sym (append_cancel_right t u.taken r u.whole) in
      subst (λ z. P (z ++ q) ≡ Err q) same (u.again q s)

-- readers by a bound that makes no difference where it is no less than the symbols
module _ {X : Type 0} (R : Rule X) (F : ℕ → Reader X) (good : (n : ℕ) (i : Input) → Good R (F n) i) (same : (n m : ℕ) (i : Input) → length i ≤ n → length i ≤ m → F n i ≡ F m i) where
  pub good_bounded : (i : Input) → Good R (λ j. F (length j) j) i
  good_bounded i = by_case (good (length i) i) where
    ok_again : (t r : Input) (x : X) → i ≡ t ++ r → F (length i) i ≡ Ok (x, r) → (q : Input) → SameHead r q → F (length (t ++ q)) (t ++ q) ≡ Ok (x, q)
    ok_again t r x e h q s =
        let n : ℕ = length i + length (t ++ q) in
        let there : F n (t ++ r) ≡ Ok (x, r) = ap (F n) (sym e) ∙ same n (length i) i (omega arith) (omega arith) ∙ h in
        same (length (t ++ q)) n (t ++ q) (omega arith) (omega arith) ∙ still_ok R (F n) (good n) t r x there q s

    err_again : (t r : Input) → i ≡ t ++ r → F (length i) i ≡ Err r → (q : Input) → SameHead r q → F (length (t ++ q)) (t ++ q) ≡ Err q
    err_again t r e h q s =
        let n : ℕ = length i + length (t ++ q) in
        let there : F n (t ++ r) ≡ Err r = ap (F n) (sym e) ∙ same n (length i) i (omega arith) (omega arith) ∙ h in
        same (length (t ++ q)) n (t ++ q) (omega arith) (omega arith) ∙ still_err R (F n) (good n) t r there q s

    by_case : Good R (F (length i)) i → Good R (λ j. F (length j) j) i
    by_case (takes x r u m) = takes x r (record { taken = u.taken; whole = u.whole; again = ok_again u.taken r x u.whole (runs_to u) }) m
    by_case (stops r u more y m) = stops r (record { taken = u.taken; whole = u.whole; again = err_again u.taken r u.whole (runs_to u) }) more y m
