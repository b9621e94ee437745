-- What a reader of one symbol does, by the class of the next token.
use Rattle.std.proofs.Common.{◌≡◌, ℕ, Bool, List, [], ◌∷◌, drop, Result, Ok, Err, IfOk, IfErr, refl, sym, ◌∙◌, ap, subst, cond, true, false, ◌++◌}
use Rattle.std.proofs.lemmas.Bool.{eqb-true}
use Rattle.sql_words.specs.declared.tokens.Class.{Class}
use Rattle.sql_words.specs.declared.tokens.Class.TheVariants as c
use Rattle.sql_words.specs.Bytes.{is_quote}
use Rattle.sql_words.specs.Front.{value_of}
use Rattle.sql_words.specs.Lexed.{Lexed}
use Rattle.sql_words.specs.Reserved.{lowered}
use Rattle.sql_words.specs.Tokens.{doubled, quoted}
use Rattle.sql_front.specs.declared.stopping.Stop.{Stop}
use Rattle.sql_front.specs.declared.stopping.Stop.TheVariants as stop
use Rattle.sql_front.specs.Input.{Outcome, Reads, named, numbered, texted}
use Rattle.sql_front.specs.Symbols.{Input, symbol_by, symbol_of, content_behind}

-- a call that answers the value, or that no memory is left, reads it
pub reads_value : {X : Type 0} (o : Outcome X) (x : X) (i : Input) (r : Result X Stop) → o ≡ Ok (x, i) → IfOk r (λ y. y ≡ x) → IfErr r (λ e. e ≡ stop.Memory) → Reads o r i
reads_value o x i (Ok y) e h g = subst (λ q. Reads q (Ok y) i) (sym e) (h, refl)
reads_value o x i (Err stop.Memory) e h g = subst (λ q. Reads q (Err stop.Memory) i) (sym e) tt
reads_value o x i (Err stop.Refused) e h g = absurd (cc)

pub reads_refusal : {X : Type 0} (o : Outcome X) (i : Input) → o ≡ Err i → Reads o (Err stop.Refused) i
reads_refusal o i e = subst (λ q. Reads q (Err stop.Refused) i) (sym e) refl

module _ (rest : Input) where
  name_by : (a : Class) (bytes : List ℕ) → a ≡ c.Name → named (symbol_by a bytes ∷ rest) ≡ Ok (lowered bytes, symbol_by a bytes ∷ rest)
  unfolding named
  name_by c.Name bytes h = refl
  name_by (c.Reserved x) bytes h = absurd cc
  name_by c.Number bytes h = absurd cc
  name_by c.Text bytes h = absurd cc
  name_by (c.Sign x) bytes h = absurd cc

  no_name_by : (a : Class) (bytes : List ℕ) → (a ≡ c.Name → ⊥) → named (symbol_by a bytes ∷ rest) ≡ Err (symbol_by a bytes ∷ rest)
  unfolding named
  no_name_by c.Name bytes h = absurd (h refl)
  no_name_by (c.Reserved x) bytes h = refl
  no_name_by c.Number bytes h = refl
  no_name_by c.Text bytes h = refl
  no_name_by (c.Sign x) bytes h = refl

  number_by : (a : Class) (bytes : List ℕ) → a ≡ c.Number → numbered (symbol_by a bytes ∷ rest) ≡ Ok (value_of bytes, symbol_by a bytes ∷ rest)
  unfolding numbered
  number_by c.Number bytes h = refl
  number_by (c.Reserved x) bytes h = absurd cc
  number_by c.Name bytes h = absurd cc
  number_by c.Text bytes h = absurd cc
  number_by (c.Sign x) bytes h = absurd cc

  no_number_by : (a : Class) (bytes : List ℕ) → (a ≡ c.Number → ⊥) → numbered (symbol_by a bytes ∷ rest) ≡ Err (symbol_by a bytes ∷ rest)
  unfolding numbered
  no_number_by c.Number bytes h = absurd (h refl)
  no_number_by (c.Reserved x) bytes h = refl
  no_number_by c.Name bytes h = refl
  no_number_by c.Text bytes h = refl
  no_number_by (c.Sign x) bytes h = refl

  text_by : (a : Class) (bytes : List ℕ) → a ≡ c.Text → texted (symbol_by a bytes ∷ rest) ≡ Ok (content_behind (drop 1 bytes), symbol_by a bytes ∷ rest)
  unfolding texted
  text_by c.Text bytes h = refl
  text_by (c.Reserved x) bytes h = absurd cc
  text_by c.Name bytes h = absurd cc
  text_by c.Number bytes h = absurd cc
  text_by (c.Sign x) bytes h = absurd cc

  no_text_by : (a : Class) (bytes : List ℕ) → (a ≡ c.Text → ⊥) → texted (symbol_by a bytes ∷ rest) ≡ Err (symbol_by a bytes ∷ rest)
  unfolding texted
  no_text_by c.Text bytes h = absurd (h refl)
  no_text_by (c.Reserved x) bytes h = refl
  no_text_by c.Name bytes h = refl
  no_text_by c.Number bytes h = refl
  no_text_by (c.Sign x) bytes h = refl

-- what stands behind the quote of a text is its content and a quote
pub content_of-quoted : (content : List ℕ) → content_behind (doubled content ++ (39 ∷ [])) ≡ content
content_of-quoted [] = refl
content_of-quoted (b ∷ content) = by_test (is_quote b) refl (content_of-quoted content) where
  by_test : (t : Bool) → is_quote b ≡ t → content_behind (doubled content ++ (39 ∷ [])) ≡ content
      → content_behind (cond t (39 ∷ 39 ∷ doubled content) (b ∷ doubled content) ++ (39 ∷ [])) ≡ b ∷ content
  by_test true e h = ap (λ q. q ∷ content_behind (doubled content ++ (39 ∷ []))) (sym (eqb-true b 39 e)) ∙ ap (λ q. b ∷ q) h
  by_test false e h = plain (doubled content) h where
    plain : (ds : List ℕ) → content_behind (ds ++ (39 ∷ [])) ≡ content → content_behind (b ∷ ds ++ (39 ∷ [])) ≡ b ∷ content
    plain [] g = ap (λ q. cond q (b ∷ content_behind []) (b ∷ content_behind (39 ∷ []))) e ∙ ap (λ q. b ∷ q) g
    plain (d ∷ ds) g = ap (λ q. cond q (b ∷ content_behind (ds ++ (39 ∷ []))) (b ∷ content_behind (d ∷ ds ++ (39 ∷ [])))) e ∙ ap (λ q. b ∷ q) g

module _ (t : Lexed) (i rest : Input) (e : i ≡ symbol_of t ∷ rest) where
  pub sees_name : t.class ≡ c.Name → named i ≡ Ok (lowered t.text, i)
  sees_name h = ap named e ∙ name_by rest t.class t.text h ∙ ap (λ q. Ok (lowered t.text, q)) (sym e)

  pub sees_no_name : (t.class ≡ c.Name → ⊥) → named i ≡ Err i
  sees_no_name h = ap named e ∙ no_name_by rest t.class t.text h ∙ ap Err (sym e)

  pub sees_number : t.class ≡ c.Number → numbered i ≡ Ok (value_of t.text, i)
  sees_number h = ap numbered e ∙ number_by rest t.class t.text h ∙ ap (λ q. Ok (value_of t.text, q)) (sym e)

  pub sees_no_number : (t.class ≡ c.Number → ⊥) → numbered i ≡ Err i
  sees_no_number h = ap numbered e ∙ no_number_by rest t.class t.text h ∙ ap Err (sym e)

  pub sees_text : (content : List ℕ) → t.class ≡ c.Text → t.text ≡ quoted content → texted i ≡ Ok (content, i)
  sees_text content h q =
      ap texted e ∙ text_by rest t.class t.text h ∙ ap (λ s. Ok (content_behind (drop 1 s), symbol_of t ∷ rest)) q
      ∙ ap (λ s. Ok (s, symbol_of t ∷ rest)) (content_of-quoted content) ∙ ap (λ s. Ok (content, s)) (sym e)

  pub sees_no_text : (t.class ≡ c.Text → ⊥) → texted i ≡ Err i
  sees_no_text h = ap texted e ∙ no_text_by rest t.class t.text h ∙ ap Err (sym e)
