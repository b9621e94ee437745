-- For the proofs: the script that bytes are, or the first line that is bad and the first thing that is wrong
-- with it, as a function.
use Rattle.std.specs.Prelude.{ℕ, ◌+◌, Bool, true, false, not, ◌&&◌, Option, Some, None, Result, Ok, Err, List, [], ◌∷◌, ◌++◌, if◌then◌else◌}
use Rattle.cluster_model.specs.declared.scripts.Line.{Line}
use Rattle.cluster_model.specs.declared.scripts.Order.{Order}
use Rattle.cluster_model.specs.declared.scripts.Script.{Script}
use Rattle.cluster_model.specs.declared.shape.Shape.{Shape}
use Rattle.script_text.specs.declared.forms.Form.{Form}
use Rattle.script_text.specs.declared.reading.Draft.{Draft}
use Rattle.script_text.specs.declared.whys.BadScript.{BadScript}
use Rattle.script_text.specs.declared.whys.Why.{Why}
use Rattle.script_text.specs.declared.whys.Why.TheVariants as why
use Rattle.script_text.specs.Built.{is_built, is_built_shape}
use Rattle.script_text.specs.Forms.{worded}
use Rattle.script_text.specs.Boots.{is_boot}
use Rattle.script_text.specs.Heads.{shape_of}
use Rattle.script_text.specs.Lines.{lines, is_utf8, is_passed_over}
use Rattle.script_text.specs.Orders.{order_of, names_after}
use Rattle.script_text.specs.Statements.{statement_of}
use Rattle.script_text.specs.Words.{words}

-- what a line says: a statement, or else its words
unfoldable pub form_of : List ℕ → Option Form
form_of line = elim (statement_of line) [ Some f ↦ Some f | None ↦ worded (words line) ]

-- nothing was declared, and nothing was asked for
abbrev pub empty : Draft
empty = record { names = []; orders = [] }

abbrev pub with_order : Draft → ℕ → Form → Order → Draft
with_order draft n f o = record { names = names_after draft.names f; orders = draft.orders ++ (record { line = n; order = o }) ∷ [] }

unfoldable pub with_form : Shape → Draft → ℕ → Form → Result Draft Why
with_form shape draft n f = elim (order_of shape draft.names f) [
  | Ok o ↦ (if is_built f then Ok (with_order draft n f o) else Err why.Later)
  | Err w ↦ Err w
]

abbrev pub is_empty : List Line → Bool
is_empty [] = true
is_empty (l ∷ ls) = false

-- a line that gives the log to start on stands right behind the first line
unfoldable pub boots : Draft → List ℕ → Bool
boots draft line = is_empty draft.orders && is_boot (words line)

unfoldable pub with_filled : Shape → Draft → ℕ → List ℕ → Result Draft Why
with_filled shape draft n line =
    elim (form_of line) [
      | Some f ↦ with_form shape draft n f
      | None ↦ (if boots draft line then Err why.Later else Err why.Form)
    ]

-- line n of a script makes this of what the lines before made
unfoldable pub with_line : Shape → Draft → ℕ → List ℕ → Result Draft Why
with_line shape draft n line =
    if not (is_utf8 line) then Err why.Form
    else (if is_passed_over line then Ok draft else with_filled shape draft n line)

-- the lines from number n on, behind those that made the draft
abbrev pub orders_read : Shape → Draft → ℕ → List (List ℕ) → Result Script BadScript
orders_read shape draft n [] = Ok (record { shape = shape; boot = None; orders = draft.orders })
orders_read shape draft n (line ∷ others) = elim (with_line shape draft n line) [
  | Ok longer ↦ orders_read shape longer (n + 1) others
  | Err w ↦ Err (record { line = n; why = w })
]

unfoldable pub shape_in : List ℕ → Result Shape Why
shape_in line = elim (shape_of (words line)) [
  | Some shape ↦ (if is_built_shape shape then Ok shape else Err why.Later)
  | None ↦ Err why.Shape
]

-- the lines from number n on, behind those that were passed over before the first
abbrev pub head_read : ℕ → List (List ℕ) → Result Script BadScript
head_read n [] = Err (record { line = n; why = why.Shape })
head_read n (line ∷ others) =
    if is_utf8 line && is_passed_over line then head_read (n + 1) others
    else elim (shape_in line) [
      | Ok shape ↦ orders_read shape empty (n + 1) others
      | Err w ↦ Err (record { line = n; why = w })
    ]

unfoldable pub script_of : List ℕ → Result Script BadScript
script_of bytes = head_read 1 (lines bytes)
