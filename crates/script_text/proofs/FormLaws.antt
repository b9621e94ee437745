-- For the proofs: a line is read as what the grammar says of it.
use Rattle.std.proofs.Common.{◌≡◌, ◌≢◌, ℕ, Option, Some, None, List, [], ◌∷◌, refl, sym, ap, ◌∙◌, subst}
use Rattle.std.specs.Prelude.{◌↔◌}
use Rattle.script_text.specs.declared.forms.Form.{Form}
use Rattle.script_text.specs.declared.forms.Form.TheVariants as form
use Rattle.script_text.specs.Words.{words}
use Rattle.script_text.specs.Statements.{statement_of}
use Rattle.script_text.specs.Forms.{worded}
use Rattle.script_text.specs.Grammar.{IsForm, AreSpelled, pieces}
use Rattle.script_text.specs.Reading.{form_of}
use Rattle.script_text.proofs.Found.{OnFound, found-at}
use Rattle.script_text.proofs.WordedSound.{Says, worded-sound}
use Rattle.script_text.proofs.WordedComplete.{worded-complete}
use Rattle.script_text.proofs.StatementLaws.{Hands, statement-sound, statement-complete, statement-none, words-some}

words-form : (line : List ℕ) (f : Form) → Says (words line) f → IsForm line f
words-form line (form.Lone v) h = h
words-form line (form.Numbered v n) h = h
words-form line (form.OfNode v n) h = h
words-form line (form.OfSlab v k) h = h
words-form line (form.Evict n p) h = h
words-form line (form.Timeout a) h = h
words-form line (form.Until n k r) h = h
words-form line (form.Session a n) h = h
words-form line (form.Submit a text) h = absurd (none (words line) (words-some line) h) where
  none : (ws : List (List ℕ)) → ws ≢ [] → AreSpelled [] ws → ⊥
  none [] some h = some refl
  none (w ∷ ws) some h = h

-- what a line is read as is what it says
pub form-sound : (line : List ℕ) (f : Form) → form_of line ≡ Some f → IsForm line f
unfolding form_of OnFound
form-sound line f e = by_statement (statement_of line) (statement-sound line) e where
  hands-form : (g : Form) → Hands line g → g ≡ f → IsForm line f
  hands-form g s same = subst (IsForm line) (sym s.2 ∙ same) s.3

  by_statement : (o : Option Form) → OnFound (Hands line) o → elim o as (λ _. Option Form) [ Some g ↦ Some g | None ↦ worded (words line) ] ≡ Some f → IsForm line f
  by_statement (Some g) s h = hands-form g s (cc)
  by_statement None s h = words-form line f (found-at (Says (words line)) (worded (words line)) f (worded-sound (words line)) h)

behind : (o p : Option Form) (f : Form) → o ≡ None → p ≡ Some f → elim o as (λ _. Option Form) [ Some g ↦ Some g | None ↦ p ] ≡ Some f
behind o p f e h = ap (λ (q : Option Form). elim q as (λ _. Option Form) [ Some g ↦ Some g | None ↦ p ]) e ∙ h

by_words : (line : List ℕ) (f : Form) → AreSpelled (pieces f) (words line) → form_of line ≡ Some f
unfolding form_of
by_words line f h = behind (statement_of line) (worded (words line)) f (statement-none f line h) (worded-complete f (words line) (words-some line) h)

-- what a line says is what it is read as
pub form-complete : (line : List ℕ) (f : Form) → IsForm line f → form_of line ≡ Some f
unfolding form_of
form-complete line (form.Lone v) h = by_words line (form.Lone v) h
form-complete line (form.Numbered v n) h = by_words line (form.Numbered v n) h
form-complete line (form.OfNode v n) h = by_words line (form.OfNode v n) h
form-complete line (form.OfSlab v k) h = by_words line (form.OfSlab v k) h
form-complete line (form.Evict n p) h = by_words line (form.Evict n p) h
form-complete line (form.Timeout a) h = by_words line (form.Timeout a) h
form-complete line (form.Until n k r) h = by_words line (form.Until n k r) h
form-complete line (form.Session a n) h = by_words line (form.Session a n) h
form-complete line (form.Submit a text) h = ap (λ (q : Option Form). elim q as (λ _. Option Form) [ Some g ↦ Some g | None ↦ worded (words line) ]) (statement-complete line a text h)

pub form_exactly : (line : List ℕ) (f : Form) → (form_of line ≡ Some f) ↔ IsForm line f
form_exactly line f = (form-sound line f, form-complete line f)
