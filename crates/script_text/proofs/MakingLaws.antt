-- For the proofs: what one line makes of a draft.
use Rattle.std.proofs.Common.{◌≡◌, ◌⊎◌, inl, inr, ℕ, Bool, true, false, not, ◌&&◌, cond, Option, Some, None, Result, Ok, Err, List, refl, sym, ap, ◌∙◌}
use Rattle.cluster_model.specs.declared.scripts.Order.{Order}
use Rattle.cluster_model.specs.declared.shape.Shape.{Shape}
use Rattle.script_text.specs.declared.forms.Form.{Form}
use Rattle.script_text.specs.declared.reading.Draft.{Draft}
use Rattle.script_text.specs.declared.whys.Why.{Why}
use Rattle.script_text.specs.declared.whys.Why.TheVariants as why
use Rattle.script_text.specs.Built.{is_built}
use Rattle.script_text.specs.Grammar.{IsForm}
use Rattle.script_text.specs.Boots.{is_boot}
use Rattle.script_text.specs.Lines.{is_utf8, is_passed_over}
use Rattle.script_text.specs.Orders.{order_of}
use Rattle.script_text.specs.Words.{words}
use Rattle.script_text.specs.Reading.{form_of, with_form, with_filled, with_line, with_order, boots, is_empty}
use Rattle.script_text.specs.Scripts.{IsPassed, IsFilled, Asks, IsFault}
use Rattle.script_text.proofs.FormLaws.{form-sound, form-complete}

-- what the line makes of the draft is by what it is
abbrev pub Makes : Shape → Draft → ℕ → List ℕ → Result Draft Why → Type 0
Makes shape d n line (Ok longer) =
    (IsPassed line × (longer ≡ d))
    ⊎ ((f : Form) × (o : Order) × Asks shape d.names line f o × (longer ≡ with_order d n f o))
Makes shape d n line (Err w) = IsFault shape d.names (is_empty d.orders) line w

none_some : (line : List ℕ) → form_of line ≡ None → (f : Form) → IsForm line f → ⊥
none_some line e f h = absurd (apart (sym e ∙ form-complete line f h)) where
  apart : None ≡ Some f → ⊥
  apart h = cc

form-makes : (shape : Shape) (d : Draft) (n : ℕ) (line : List ℕ) (f : Form) → IsFilled line → IsForm line f → Makes shape d n line (with_form shape d n f)
unfolding with_form
form-makes shape d n line f filled says = by_order (order_of shape d.names f) refl where
  by_built : (o : Order) (b : Bool) → order_of shape d.names f ≡ Ok o → is_built f ≡ b → Makes shape d n line (cond b (Ok (with_order d n f o)) (Err why.Later))
  by_built o true e t = inr (f, o, (filled, says, e, t), refl)
  by_built o false e t = inr (inr (inr (filled, refl, (f, o, says, e, t))))

  by_order : (r : Result Order Why) → order_of shape d.names f ≡ r
      → Makes shape d n line (elim r as (λ _. Result Draft Why) [ Ok o ↦ cond (is_built f) (Ok (with_order d n f o)) (Err why.Later) | Err w ↦ Err w ])
  by_order (Ok o) e = by_built o (is_built f) e refl
  by_order (Err w) e = inr (inr (inl (filled, (f, says, e))))

filled-makes : (shape : Shape) (d : Draft) (n : ℕ) (line : List ℕ) → IsFilled line → Makes shape d n line (with_filled shape d n line)
unfolding with_filled boots
filled-makes shape d n line filled = by_form (form_of line) refl where
  by_boot : (b : Bool) → (is_empty d.orders && is_boot (words line)) ≡ b → form_of line ≡ None → Makes shape d n line (cond b (Err why.Later) (Err why.Form))
  by_boot true e none = inr (inl (filled, none_some line none, ap (λ (t : Bool). cond t why.Later why.Form) (sym e)))
  by_boot false e none = inr (inl (filled, none_some line none, ap (λ (t : Bool). cond t why.Later why.Form) (sym e)))

  by_form : (o : Option Form) → form_of line ≡ o
      → Makes shape d n line (elim o as (λ _. Result Draft Why) [ Some f ↦ with_form shape d n f | None ↦ cond (is_empty d.orders && is_boot (words line)) (Err why.Later) (Err why.Form) ])
  by_form (Some f) e = form-makes shape d n line f filled (form-sound line f e)
  by_form None e = by_boot (is_empty d.orders && is_boot (words line)) refl e

-- whatever a line is, it makes that of the draft
pub line-makes : (shape : Shape) (d : Draft) (n : ℕ) (line : List ℕ) → Makes shape d n line (with_line shape d n line)
unfolding with_line
line-makes shape d n line = by_tests (is_utf8 line) (is_passed_over line) refl refl where
  by_tests : (u p : Bool) → is_utf8 line ≡ u → is_passed_over line ≡ p
      → Makes shape d n line (cond (not u) (Err why.Form) (cond p (Ok d) (with_filled shape d n line)))
  by_tests false p e f = inl (e, refl)
  by_tests true true e f = inl ((e, f), refl)
  by_tests true false e f = filled-makes shape d n line (e, f)

pub passed-line : (shape : Shape) (d : Draft) (n : ℕ) (line : List ℕ) → IsPassed line → with_line shape d n line ≡ Ok d
unfolding with_line
passed-line shape d n line h =
    ap (λ (u : Bool). cond {A = Result Draft Why} (not u) (Err why.Form) (cond (is_passed_over line) (Ok d) (with_filled shape d n line))) h.0
    ∙ ap (λ (p : Bool). cond {A = Result Draft Why} p (Ok d) (with_filled shape d n line)) h.1

filled-line : (shape : Shape) (d : Draft) (n : ℕ) (line : List ℕ) → IsFilled line → with_line shape d n line ≡ with_filled shape d n line
unfolding with_line
filled-line shape d n line h =
    ap (λ (u : Bool). cond {A = Result Draft Why} (not u) (Err why.Form) (cond (is_passed_over line) (Ok d) (with_filled shape d n line))) h.0
    ∙ ap (λ (p : Bool). cond {A = Result Draft Why} p (Ok d) (with_filled shape d n line)) h.1

form-line : (shape : Shape) (d : Draft) (n : ℕ) (line : List ℕ) (f : Form) → IsFilled line → IsForm line f → with_line shape d n line ≡ with_form shape d n f
unfolding with_filled
form-line shape d n line f filled says =
    filled-line shape d n line filled
    ∙ ap (λ (o : Option Form). elim o as (λ _. Result Draft Why) [ Some f ↦ with_form shape d n f | None ↦ cond (boots d line) (Err why.Later) (Err why.Form) ]) (form-complete line f says)

order-line : (shape : Shape) (d : Draft) (n : ℕ) (f : Form) (r : Result Order Why) → order_of shape d.names f ≡ r
    → with_form shape d n f ≡ elim r as (λ _. Result Draft Why) [ Ok o ↦ cond (is_built f) (Ok (with_order d n f o)) (Err why.Later) | Err w ↦ Err w ]
unfolding with_form
order-line shape d n f r e = ap (λ (q : Result Order Why). elim q as (λ _. Result Draft Why) [ Ok o ↦ cond (is_built f) (Ok (with_order d n f o)) (Err why.Later) | Err w ↦ Err w ]) e

pub asks-line : (shape : Shape) (d : Draft) (n : ℕ) (line : List ℕ) (f : Form) (o : Order) → Asks shape d.names line f o → with_line shape d n line ≡ Ok (with_order d n f o)
asks-line shape d n line f o h =
    form-line shape d n line f h.0 h.1 ∙ order-line shape d n f (Ok o) h.2
    ∙ ap (λ (b : Bool). cond {A = Result Draft Why} b (Ok (with_order d n f o)) (Err why.Later)) h.3

form_none : (line : List ℕ) → ((f : Form) → IsForm line f → ⊥) → form_of line ≡ None
form_none line apart = by_form (form_of line) refl where
  by_form : (o : Option Form) → form_of line ≡ o → o ≡ None
  by_form (Some f) e = absurd (apart f (form-sound line f e))
  by_form None e = refl

boot-line : (b : Bool) → cond {A = Result Draft Why} b (Err why.Later) (Err why.Form) ≡ Err (cond b why.Later why.Form)
boot-line true = refl
boot-line false = refl

refuse : (v w : Why) → w ≡ v → ◌≡◌ {A = Result Draft Why} (Err v) (Err w)
refuse v w e = ap (λ (x : Why). Err x) (sym e)

-- a line with a fault is refused for it
pub fault-line : (shape : Shape) (d : Draft) (n : ℕ) (line : List ℕ) (w : Why) → IsFault shape d.names (is_empty d.orders) line w → with_line shape d n line ≡ Err w
unfolding with_line with_filled boots
fault-line shape d n line w (inl h) =
    ap (λ (u : Bool). cond {A = Result Draft Why} (not u) (Err why.Form) (cond (is_passed_over line) (Ok d) (with_filled shape d n line))) h.0 ∙ refuse why.Form w h.1
fault-line shape d n line w (inr (inl h)) =
    filled-line shape d n line h.0
    ∙ ap (λ (o : Option Form). elim o as (λ _. Result Draft Why) [ Some f ↦ with_form shape d n f | None ↦ cond (is_empty d.orders && is_boot (words line)) (Err why.Later) (Err why.Form) ]) (form_none line h.1)
    ∙ boot-line (is_empty d.orders && is_boot (words line)) ∙ refuse (cond (is_empty d.orders && is_boot (words line)) why.Later why.Form) w h.2
fault-line shape d n line w (inr (inr (inl h))) = form-line shape d n line h.1.0 h.0 h.1.1 ∙ order-line shape d n h.1.0 (Err w) h.1.2
fault-line shape d n line w (inr (inr (inr h))) =
    form-line shape d n line h.2.0 h.0 h.2.2 ∙ order-line shape d n h.2.0 (Ok h.2.1) h.2.3
    ∙ ap (λ (b : Bool). cond {A = Result Draft Why} b (Ok (with_order d n h.2.0 h.2.1)) (Err why.Later)) h.2.4 ∙ refuse why.Later w h.1
