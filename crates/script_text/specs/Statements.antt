-- For the proofs: lines in which a session hands in a statement, as a function.
use Rattle.std.specs.Prelude.{ℕ, not, ◌&&◌, ◌==◌, nat_lt, Option, Some, None, List, [], ◌∷◌, length, if◌then◌else◌}
use Rattle.std.specs.List.{position_or_len, before_first, after_first}
use Rattle.script_text.specs.declared.forms.Form.{Form}
use Rattle.script_text.specs.declared.forms.Form.TheVariants as form
use Rattle.script_text.specs.Names.{name_of}
use Rattle.script_text.specs.Words.{is_blank}
use Rattle.script_text.specs.Forms.{◌>>=◌}

-- behind a space, a text that is not blank
unfoldable pub text_of : List ℕ → Option (List ℕ)
text_of [] = None
text_of (b ∷ text) = if b == 32 && not (is_blank text) then Some text else None

-- a session's name before the first colon, and a text behind it
unfoldable pub statement_of : List ℕ → Option Form
statement_of line =
    if nat_lt (position_or_len (λ b. b == 58) line) (length line) then (do
      name ← name_of (before_first (λ b. b == 58) line)
      text ← text_of (after_first (λ b. b == 58) line)
      Some (form.Submit name text))
    else None
