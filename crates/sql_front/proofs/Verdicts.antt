-- What a parse answers.
use Rattle.std.proofs.Common.{◌≡◌, ℕ, ◌-◌, ◌<◌, ◌≤◌, ◌⊎◌, inl, inr, ◌↔◌, min, Bool, true, false, cond, ltb, List, [], ◌∷◌, ◌++◌, length, map, drop, Option, Some, None, Result, Ok, Err, refl, sym, ◌∙◌, ap, subst, arith, append_assoc, append-nil, length-append}
use Rattle.std.proofs.lemmas.Bool.{cases_lt, ltb-true, ltb-false}
use Rattle.std.proofs.lemmas.List.{length-map}
use Rattle.std.specs.Option.{unwrap_or}
use Rattle.std.specs.Prelude.{is_some}
use Rattle.sql_statements.specs.declared.statements.Stmt.{Stmt}
use Rattle.sql_words.specs.Lexed.{Lexed}
use Rattle.sql_words.specs.Tokens.{AreTokensOf, HasOneReading}
use Rattle.sql_front.specs.declared.parsing.Syntax.{Syntax}
use Rattle.sql_front.specs.Grammar.{IsStatement}
use Rattle.sql_front.specs.Input.{Outcome}
use Rattle.sql_front.specs.ReadStmt.{statement}
use Rattle.sql_front.specs.Sentences.{IsSql, BeginStatement, IsWrongAt, no_token, no_statement, unfinished, too_long, IsFirst, Reads, place, limited, ReadsAll}
use Rattle.sql_front.specs.Symbols.{Input, symbol_of}
use Rattle.sql_front.proofs.Statements.{all_read, passed_begin, stopped_ends, one_meaning, read_means, stop_rest, left_of}
use Rattle.sql_front.proofs.Texts.{end_of, in_order}

-- ---- lists

heads_equal : {X : Type 0} {x y : X} {xs ys : List X} → x ∷ xs ≡ y ∷ ys → x ≡ y
heads_equal e = cc

tails_equal : {X : Type 0} {x y : X} {xs ys : List X} → x ∷ xs ≡ y ∷ ys → xs ≡ ys
tails_equal e = cc

-- the shorter of two beginnings begins the other
parted : {X : Type 0} (a b d e : List X) → a ++ b ≡ d ++ e → length a ≤ length d → (m : List X) × (d ≡ a ++ m) × (b ≡ m ++ e)
parted [] b d e h less = (d, refl, h)
parted (x ∷ a) b [] e h less = absurd (omega arith)
parted (x ∷ a) b (y ∷ d) e h less =
    let p = parted a b d e (tails_equal h) (omega arith) in
    (p.0, ap (λ z. z ∷ d) (sym (heads_equal h)) ∙ ap (λ z. x ∷ z) p.1, p.2)

map_append : (a b : List Lexed) → map symbol_of (a ++ b) ≡ map symbol_of a ++ map symbol_of b
map_append [] b = refl
map_append (t ∷ a) b = ap (λ z. symbol_of t ∷ z) (map_append a b)

-- symbols of tokens that stand before others
parted_map : (ts : List Lexed) (u v : Input) → map symbol_of ts ≡ u ++ v → (a : List Lexed) × (b : List Lexed) × (ts ≡ a ++ b) × (map symbol_of a ≡ u) × (map symbol_of b ≡ v)
parted_map ts [] v h = ([], ts, refl, refl, h)
parted_map [] (x ∷ u) v h = absurd cc
parted_map (t ∷ ts) (x ∷ u) v h =
    let p = parted_map ts u v (tails_equal h) in
    (t ∷ p.0, p.1, ap (λ z. t ∷ z) p.2, ap (λ z. symbol_of t ∷ z) p.3 ∙ ap (λ z. z ∷ u) (heads_equal h), p.4)

-- ---- no text is both a statement and wrong

none_some : {X : Type 0} (x : X) → ◌≡◌ {A = Option X} None (Some x) → ⊥
none_some x e = cc

some_same : {X : Type 0} (x y : X) → ◌≡◌ {A = Option X} (Some x) (Some y) → x ≡ y
some_same x y e = cc

module _ (one : HasOneReading) (sql : List ℕ) where
  -- tokens up to one of them that are passed over begin a statement
  passed : (ts a b : List Lexed) (t : Lexed) → ts ≡ a ++ t ∷ b → length (left_of (statement (map symbol_of ts))) ≤ length b → BeginStatement (map symbol_of (a ++ t ∷ []))
  passed ts a b t e less =
      let whole : map symbol_of ts ≡ map symbol_of (a ++ t ∷ []) ++ map symbol_of b = ap (map symbol_of) (e ∙ sym (append_assoc a (t ∷ []) b)) ∙ map_append (a ++ t ∷ []) b in
      passed_begin (map symbol_of (a ++ t ∷ [])) (map symbol_of b)
      (omega (arith, less, ap (λ z. length (left_of (statement z))) whole, length-map b symbol_of))

  exclusive : (s : Stmt) (p : ℕ) → IsSql sql s → IsWrongAt sql p → ⊥
  exclusive s p q (no_token ts h) = none_some p (one sql q.tokens ts None (Some p) q.lexed h).1
  exclusive s p q (no_statement a b t f h none) =
      let same = (one sql q.tokens (a ++ t ∷ b) None f q.lexed h).0 in
      let read = all_read (map symbol_of q.tokens) s q.means in
      none (passed q.tokens a b t same (omega (arith, ap (λ o. length (left_of o)) read)))
  exclusive s p q (unfinished ts h none) =
      let same = (one sql q.tokens ts None None q.lexed h).0 in
      none s (subst (λ z. IsStatement (map symbol_of z) s) same q.means)
  exclusive s p q (too_long h) = let few = q.short in absurd (omega arith)

  one_statement : (s t : Stmt) → IsSql sql s → IsSql sql t → s ≡ t
  one_statement s t p q =
      let same = (one sql q.tokens p.tokens None None q.lexed p.lexed).0 in
      one_meaning (map symbol_of p.tokens) s t p.means (subst (λ z. IsStatement (map symbol_of z) t) same q.means)

  pub one_reading : (a b : Result Stmt ℕ) → Reads sql a → Reads sql b → a ≡ b
  one_reading (Ok s) (Ok t) p q = ap Ok (one_statement s t p q)
  one_reading (Ok s) (Err at) p q = absurd (exclusive s at p q.0)
  one_reading (Err at) (Ok s) p q = absurd (exclusive s at q p.0)
  one_reading (Err at) (Err to) p q = ap Err (let a = p.1 to q.0 in let b = q.1 at p.0 in omega arith)

  abbrev Parsed : Type 0
  Parsed = Result Stmt Syntax

  abbrev wrong : ℕ → Parsed
  wrong at = Err (record { at = at })

  abbrev right : Stmt → Parsed
  right s = Ok s

  ok_same : (s t : Stmt) → right s ≡ right t → s ≡ t
  ok_same s t e = cc

  ok_wrong : (s : Stmt) (p : ℕ) → right s ≡ wrong p → ⊥
  ok_wrong s p e = cc

  wrong_same : (p q : ℕ) → wrong p ≡ wrong q → p ≡ q
  wrong_same p q e = ap (λ (z : Syntax). z.at) (inside e) where
    inside : {a b : Syntax} → ◌≡◌ {A = Parsed} (Err a) (Err b) → a ≡ b
    inside e = cc

  -- the two clauses, where a parse gives a statement
  pub gives_right : (s : Stmt) → IsSql sql s → (t : Stmt) → (right s ≡ right t) ↔ IsSql sql t
  gives_right s q t = (λ e. subst (IsSql sql) (ok_same s t e) q, λ r. ap right (one_statement s t q r))

  pub right_refuses : (s : Stmt) → IsSql sql s → (p : ℕ) → (right s ≡ wrong p) ↔ IsFirst (IsWrongAt sql) p
  right_refuses s q p = (λ e. absurd (ok_wrong s p e), λ f. absurd (exclusive s p q f.0))

  -- and where it gives an offset
  pub wrong_gives : (p : ℕ) → IsFirst (IsWrongAt sql) p → (t : Stmt) → (wrong p ≡ right t) ↔ IsSql sql t
  wrong_gives p f t = (λ e. absurd (ok_wrong t p (sym e)), λ q. absurd (exclusive t p q f.0))

  pub refuses_wrong : (p : ℕ) → IsFirst (IsWrongAt sql) p → (q : ℕ) → (wrong p ≡ wrong q) ↔ IsFirst (IsWrongAt sql) q
  refuses_wrong p f q = (λ e. subst (IsFirst (IsWrongAt sql)) (wrong_same p q e) f, λ g. ap wrong (let a = f.1 q g.0 in let b = g.1 p f.0 in omega arith))

  -- ---- where a text is wrong

  module _ (ts : List Lexed) (fault : Option ℕ) (lexed : AreTokensOf sql ts fault) (end : ℕ) (ends : end ≡ unwrap_or fault (length sql)) where
    same_end : end_of fault 0 sql ≡ end
    same_end = by_fault fault ends where
      by_fault : (f : Option ℕ) → end ≡ unwrap_or f (length sql) → end_of f 0 sql ≡ end
      by_fault (Some p) e = sym e
      by_fault None e = omega (arith, e)

    ordered : (a b d : List Lexed) → ts ≡ a ++ (b ++ d) → place (b ++ d) end ≤ place d end
    ordered a b d e = subst (λ z. place (b ++ d) z ≤ place d z) same_end (in_order None 0 sql a b d fault (subst (λ z. AreTokensOf sql z fault) e lexed))

    -- where the reader leaves these tokens, the text is wrong nowhere before them, but for its length
    not_before : (a b : List Lexed) → ts ≡ a ++ b → length (left_of (statement (map symbol_of ts))) ≤ length b → (p : ℕ) → IsWrongAt sql p → (place b end ≤ p) ⊎ ((65536 < length sql) × (p ≡ 65536))
    not_before a b e less p (no_token us h) =
        let same : end ≡ p = ends ∙ ap (λ f. unwrap_or f (length sql)) (one sql ts us fault (Some p) lexed h).1 in
        let until = ordered a b [] (e ∙ ap (λ z. a ++ z) (sym (append-nil b))) in
        inl (omega (arith, same, until, ap (λ z. place z end) (append-nil b)))
    not_before a b e less p (unfinished us h none) =
        let same : end ≡ length sql = ends ∙ ap (λ f. unwrap_or f (length sql)) (one sql ts us fault None lexed h).1 in
        let until = ordered a b [] (e ∙ ap (λ z. a ++ z) (sym (append-nil b))) in
        inl (omega (arith, same, until, ap (λ z. place z end) (append-nil b)))
    not_before a b e less p (too_long h) = inr (h, refl)
    not_before a b e less p (no_statement before after t f h none) =
        let same = (one sql ts (before ++ t ∷ after) fault f lexed h).0 in
        by_side same (cases_lt (length before) (length a))
      where
        by_side : ts ≡ before ++ t ∷ after → (length before < length a) ⊎ (length a ≤ length before) → (place b end ≤ t.at) ⊎ ((65536 < length sql) × (t.at ≡ 65536))
        by_side same (inl h) = absurd (none (passed ts before after t same
            (omega (arith, less, h, ap length (sym same ∙ e), length-append before (t ∷ after), length-append a b))))
        by_side same (inr h) =
            let p = parted a b before (t ∷ after) (sym e ∙ same) h in
            inl (omega (arith, ordered a p.0 (t ∷ after) (e ∙ ap (λ z. a ++ z) p.2), ap (λ z. place z end) p.2))

    -- the first of the offsets
    first_of_all : (at : ℕ) → ((65536 < length sql → at ≤ 65536) → IsWrongAt sql at) → ((p : ℕ) → IsWrongAt sql p → (at ≤ p) ⊎ ((65536 < length sql) × (p ≡ 65536))) → IsFirst (IsWrongAt sql) (limited (length sql) at)
    unfolding limited
    first_of_all at here before = by_length (ltb 65536 (length sql)) refl where
      by_length : (l : Bool) → ltb 65536 (length sql) ≡ l → IsFirst (IsWrongAt sql) (cond l (min at 65536) at)
      by_length false e =
          let few = ltb-false 65536 (length sql) e in
          (here (λ h. absurd (omega arith)), λ p w. by_side p (before p w))
        where
          by_side : (p : ℕ) → (at ≤ p) ⊎ ((65536 < length sql) × (p ≡ 65536)) → at ≤ p
          by_side p (inl h) = h
          by_side p (inr h) = let few = ltb-false 65536 (length sql) e in absurd (omega (arith, h.0))
      by_length true e =
          let many = ltb-true 65536 (length sql) e in
          (by_place (cases_lt 65536 at), λ p w. by_side p (before p w))
        where
          by_place : (65536 < at) ⊎ (at ≤ 65536) → IsWrongAt sql (min at 65536)
          by_place (inl h) = let many = ltb-true 65536 (length sql) e in subst (IsWrongAt sql) (omega arith) (too_long many)
          by_place (inr h) = subst (IsWrongAt sql) (omega arith) (here (λ _. h))

          by_side : (p : ℕ) → (at ≤ p) ⊎ ((65536 < length sql) × (p ≡ 65536)) → min at 65536 ≤ p
          by_side p (inl h) = omega arith
          by_side p (inr h) = omega (arith, h.1)

    -- the tokens are a statement
    pub whole_statement : (s : Stmt) → ReadsAll (map symbol_of ts) (Ok s) → fault ≡ None → length sql ≤ 65536 → IsSql sql s
    whole_statement s h none short = record {
      tokens = ts;
      lexed = subst (AreTokensOf sql ts) none lexed;
      short = short;
      means = (read_means (map symbol_of ts) s [] h).0;
    }

    -- they are one, but the text has a fault behind them or is too long
    pub more_behind : (s : Stmt) → ReadsAll (map symbol_of ts) (Ok s) → ((fault ≡ None) → (length sql ≤ 65536) → ⊥) → IsFirst (IsWrongAt sql) (limited (length sql) end)
    more_behind s h not_both = first_of_all end here (not_before ts [] (sym (append-nil ts)) (omega (arith, ap (λ o. length (left_of o)) h))) where
      here : (65536 < length sql → end ≤ 65536) → IsWrongAt sql end
      here f = by_fault fault refl where
        by_fault : (g : Option ℕ) → fault ≡ g → IsWrongAt sql end
        by_fault (Some p) e = subst (IsWrongAt sql) (sym (ends ∙ ap (λ g. unwrap_or g (length sql)) e)) (no_token ts (subst (AreTokensOf sql ts) e lexed))
        by_fault None e =
            let same : end ≡ length sql = ends ∙ ap (λ g. unwrap_or g (length sql)) e in
            absurd (by_size same (cases_lt 65536 (length sql)))
          where
            by_size : end ≡ length sql → (65536 < length sql) ⊎ (length sql ≤ 65536) → ⊥
            by_size same (inl h) = let few = f h in absurd (omega arith)
            by_size same (inr h) = not_both e h

    -- the reader stops before the last so many
    pub stops_before : (left : ℕ) → ReadsAll (map symbol_of ts) (Err left) → IsFirst (IsWrongAt sql) (limited (length sql) (place (drop (length ts - left) ts) end))
    stops_before left h =
        let u = stop_rest (map symbol_of ts) h.0 h.1 in
        let v = parted_map ts u.0 h.0 u.1 in
        at_place v.0 v.1 v.2 v.3 v.4
      where
        rest_is : (a b : List Lexed) → ts ≡ a ++ b → map symbol_of b ≡ h.0 → drop (length ts - left) ts ≡ b
        rest_is a b e m =
            let size : length b ≡ left = sym (length-map b symbol_of) ∙ ap length m ∙ h.2 in
            let n : length ts - left ≡ length a = omega (arith, ap length e, length-append a b, size) in
            ap (λ k. drop k ts) n ∙ ap (drop (length a)) e ∙ drop_front a b
          where
            drop_front : (a b : List Lexed) → drop (length a) (a ++ b) ≡ b
            drop_front [] b = refl
            drop_front (x ∷ a) b = drop_front a b

        is_wrong : (a b : List Lexed) → ts ≡ a ++ b → map symbol_of b ≡ h.0 → IsWrongAt sql (place b end)
        is_wrong a (t ∷ b) e m = no_statement a b t fault (subst (λ z. AreTokensOf sql z fault) e lexed) ends_there where
          stop : statement (map symbol_of a ++ symbol_of t ∷ map symbol_of b) ≡ Err (symbol_of t ∷ map symbol_of b)
          stop = ap statement (sym (map_append a (t ∷ b))) ∙ ap (λ z. statement (map symbol_of z)) (sym e) ∙ h.1 ∙ ap Err (sym m)

          ends_there : BeginStatement (map symbol_of (a ++ t ∷ [])) → ⊥
          ends_there g = stopped_ends (map symbol_of a) (map symbol_of b) (symbol_of t) stop (subst BeginStatement (map_append a (t ∷ [])) g)
        is_wrong a [] e m = by_fault fault refl where
          clash : (o : Outcome Stmt) (s : Stmt) (q : Input) → o ≡ Err q → o ≡ Ok (s, []) → ⊥
          clash o s q f g = cc

          by_fault : (g : Option ℕ) → fault ≡ g → IsWrongAt sql end
          by_fault (Some p) f = subst (IsWrongAt sql) (sym (ends ∙ ap (λ g. unwrap_or g (length sql)) f)) (no_token ts (subst (AreTokensOf sql ts) f lexed))
          by_fault None f = subst (IsWrongAt sql) (sym (ends ∙ ap (λ g. unwrap_or g (length sql)) f))
              (unfinished ts (subst (AreTokensOf sql ts) f lexed) (λ s m. clash (statement (map symbol_of ts)) s h.0 h.1 (all_read (map symbol_of ts) s m)))

        at_place : (a b : List Lexed) → ts ≡ a ++ b → map symbol_of a ≡ (stop_rest (map symbol_of ts) h.0 h.1).0 → map symbol_of b ≡ h.0 → IsFirst (IsWrongAt sql) (limited (length sql) (place (drop (length ts - left) ts) end))
        at_place a b e l m =
            subst (λ z. IsFirst (IsWrongAt sql) (limited (length sql) (place z end))) (sym (rest_is a b e m))
            (first_of_all (place b end) (λ _. is_wrong a b e m)
            (not_before a b e (omega (arith, ap (λ o. length (left_of o)) h.1, ap length m, length-map b symbol_of))))

-- no more are left than there are
pub left_fits : (ts : List Lexed) (left : ℕ) → ReadsAll (map symbol_of ts) (Err left) → left ≤ length ts
left_fits ts left h =
    let u = stop_rest (map symbol_of ts) h.0 h.1 in
    omega (arith, h.2, ap length u.1, length-append u.0 h.0, length-map ts symbol_of)

pub is_none_of : (o : Option ℕ) → is_some o ≡ false → o ≡ None
is_none_of None h = refl
is_none_of (Some p) h = absurd cc

pub is_some_of : (o : Option ℕ) → is_some o ≡ true → o ≡ None → ⊥
is_some_of o h e = absurd (apart (sym (ap is_some e) ∙ h)) where
  apart : false ≡ true → ⊥
  apart g = cc

pub too_many : (n : ℕ) → 65536 < n → n ≤ 65536 → ⊥
too_many n h g = absurd (omega arith)
