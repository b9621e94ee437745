-- What is printed of a statement is that statement again.
use Rattle.std.proofs.Common.{◌≡◌, ℕ, inl, inr, false, List, [], ◌∷◌, map, length, None, refl, sym, subst, arith, append-nil}
use Rattle.sql_words.specs.declared.reserved.Word.{Word}
use Rattle.sql_words.specs.declared.reserved.Word.TheVariants as w
use Rattle.sql_words.specs.declared.signs.Sign.TheVariants as s
use Rattle.sql_statements.specs.declared.statements.Stmt.{Stmt}
use Rattle.sql_statements.specs.declared.statements.Stmt.TheVariants as stmt
use Rattle.sql_front.specs.Grammar as g
use Rattle.sql_front.specs.Grammar.{IsStatement}
use Rattle.sql_front.specs.Printed.{symbols, printed}
use Rattle.sql_front.specs.Rules.{Rule, nothing, the, Both, ◌or◌}
use Rattle.sql_front.specs.Sentences.{IsSql}
use Rattle.sql_front.specs.Short.{AreShort, KeepsLimits}
use Rattle.sql_front.specs.Symbols.{word, sign, Input, symbol_of}
use Rattle.sql_front.proofs.Again.{Said, out_insert, out_update, out_delete}
use Rattle.sql_front.proofs.CreateAgain.{out_create}
use Rattle.sql_front.proofs.Given.{Given, Out, front, back, out_both, out_last, out_the, out_nothing, out_left, out_right}
use Rattle.sql_front.proofs.Lexing.{tokens_sound, tokens, symbols_back, written_lexes}
use Rattle.sql_front.proofs.SelectAgain.{out_select}

abbrev Again : Rule Stmt → Stmt → Type 0
Again R x = AreShort x → Out R (symbols x) x

abbrev Behind : Word → Rule Stmt → Rule Stmt
Behind t R = Both (the (word t)) (λ _. R)

behind_word : (t : Word) (R : Rule Stmt) {k : ℕ} {i : Input} {x : Stmt} → Given k i → (m : Behind t R k i x) → Said R t x → Again (Behind t R) x
behind_word t R {x = x} d m f h = let v = f h in subst (λ z. Out (Behind t R) z x) (sym v.2) (out_both (out_the (word t) tt) v.1)

alone : (t : Word) (x y : Stmt) → x ≡ y → symbols x ≡ word t ∷ [] → Again (Both (the (word t)) (λ _. nothing x)) y
alone t x y e f = subst (Again (Both (the (word t)) (λ _. nothing x))) e (λ h. subst (λ z. Out (Both (the (word t)) (λ _. nothing x)) z x) (sym f) (out_last {f = λ _. x} tt (out_the (word t) tt)))

again_transaction : {k : ℕ} {i : Input} {x : Stmt} → g.a_transaction k i x → Again g.a_transaction x
again_transaction {x = x} (inl m) h = out_left (alone w.Begin stmt.Begin x m.second.1 refl h)
again_transaction {x = x} (inr (inl m)) h = out_right (out_left (alone w.Commit stmt.Commit x m.second.1 refl h))
again_transaction {x = x} (inr (inr m)) h = out_right (out_right (alone w.Rollback stmt.Rollback x m.second.1 refl h))

again_change : {k : ℕ} {i : Input} {x : Stmt} → Given k i → g.a_change k i x → Again g.a_change x
again_change d (inl m) h = out_left (behind_word w.Update g.an_update d m (out_update (back d m) m.second) h)
again_change d (inr (inl m)) h = out_right (out_left (behind_word w.Delete g.a_delete d m (out_delete (back d m) m.second) h))
again_change d (inr (inr m)) h = out_right (out_right (again_transaction m h))

again_command : {k : ℕ} {i : Input} {x : Stmt} → Given k i → g.a_command k i x → Again g.a_command x
again_command d (inl m) h = out_left (behind_word w.Create g.a_create d m (out_create (back d m) m.second) h)
again_command d (inr (inl m)) h = out_right (out_left (behind_word w.Insert g.an_insert d m (out_insert (back d m) m.second) h))
again_command d (inr (inr (inl m))) h = out_right (out_right (out_left (behind_word w.Select g.a_select d m (out_select (back d m) m.second) h)))
again_command d (inr (inr (inr m))) h = out_right (out_right (out_right (again_change d m h)))

abbrev Ending : Stmt → Rule Stmt
Ending y = (Both (the (sign s.Semicolon)) (λ _. nothing y)) or nothing y

-- with or without a semicolon it is the same statement
pub ending_same : {k : ℕ} {i : Input} {x : Stmt} (y : Stmt) → Ending y k i x → y ≡ x
ending_same y (inl m) = m.second.1
ending_same y (inr m) = m.1

again_statement : {k : ℕ} {i : Input} {x : Stmt} → Given k i → g.a_statement k i x → Again g.a_statement x
again_statement {x = x} d m h =
    let same = ending_same m.value m.second in
    let c = again_command (front d m) m.first in
    subst (Again g.a_statement) same (λ z. ended m.value (c z)) h
  where
    ended : (y : Stmt) → Out g.a_command (symbols y) y → Out g.a_statement (symbols y) y
    ended y o = subst (λ z. Out g.a_statement z y) (append-nil (symbols y)) (out_both o (out_right (out_nothing y)))

-- what a text says is said again by the printed form
pub printed_again : (sql : List ℕ) (x : Stmt) → IsSql sql x → KeepsLimits x → IsSql (printed x) x
printed_again sql x q h =
    let d : Given (length (map symbol_of q.tokens)) (map symbol_of q.tokens) = record { within = omega arith; sound = tokens_sound None 0 sql q.tokens None q.lexed } in
    let o = again_statement d q.means h.0 in
    record {
      tokens = tokens 0 (symbols x);
      lexed = written_lexes (symbols x) o.lexes;
      short = h.1;
      means = subst (λ z. IsStatement z x) (sym (symbols_back false 0 (symbols x) o.lexes)) (o.means (length (symbols x)));
    }

pub printed_so : (out : List ℕ) (x : Stmt) → out ≡ printed x → (sql : List ℕ) → IsSql sql x → KeepsLimits x → IsSql out x
printed_so out x e sql q h = subst (λ z. IsSql z x) (sym e) (printed_again sql x q h)
