-- Stated: the grammar of scripts, and the first line that is bad.
use Rattle.std.specs.Prelude.{◌≡◌, ◌⊎◌, ℕ, ◌+◌, Bool, true, false, ◌&&◌, None, Ok, Err, List, [], ◌∷◌, codes, if◌then◌else◌}
use Rattle.cluster_model.specs.Limits.{IsInLimits}
use Rattle.cluster_model.specs.declared.scripts.Line.{Line}
use Rattle.cluster_model.specs.declared.scripts.Order.{Order}
use Rattle.cluster_model.specs.declared.scripts.Script.{Script}
use Rattle.cluster_model.specs.declared.shape.Shape.{Shape}
use Rattle.script_text.specs.declared.forms.Form.{Form}
use Rattle.script_text.specs.declared.whys.BadScript.{BadScript}
use Rattle.script_text.specs.declared.whys.Why.{Why}
use Rattle.script_text.specs.declared.whys.Why.TheVariants as why
use Rattle.script_text.specs.Built.{is_built, is_built_shape}
use Rattle.script_text.specs.Grammar.{Piece, Text, Number, AreSpelled, IsForm}
use Rattle.script_text.specs.Boots.{is_boot}
use Rattle.script_text.specs.Lines.{lines, is_utf8, is_passed_over}
use Rattle.script_text.specs.Orders.{order_of, names_after}
use Rattle.script_text.specs.Words.{words}

-- the line is UTF-8, and empty or a comment
abbrev pub IsPassed : List ℕ → Type 0
IsPassed line = (is_utf8 line ≡ true) × (is_passed_over line ≡ true)

-- the line is UTF-8, and neither empty nor a comment
abbrev pub IsFilled : List ℕ → Type 0
IsFilled line = (is_utf8 line ≡ true) × (is_passed_over line ≡ false)

-- the line asks for this order, and the cluster can do it
abbrev pub Asks : Shape → List (List ℕ) → List ℕ → Form → Order → Type 0
Asks shape names line f o = IsFilled line × IsForm line f × (order_of shape names f ≡ Ok o) × (is_built f ≡ true)

-- The lines from number n on ask for these orders, of a cluster of this shape in which the sessions of these
-- names were declared.
abbrev pub AreOrders : Shape → List (List ℕ) → ℕ → List (List ℕ) → List Line → Type 0
AreOrders shape names n [] orders = orders ≡ []
AreOrders shape names n (line ∷ others) orders =
    (IsPassed line × AreOrders shape names (n + 1) others orders)
    ⊎ ((f : Form) × (o : Order) × (rest : List Line) × Asks shape names line f o
    × (orders ≡ (record { line = n; order = o }) ∷ rest) × AreOrders shape (names_after names f) (n + 1) others rest)

-- the words of a first line
abbrev pub shape_pieces : Shape → List Piece
shape_pieces s =
    Text (codes "cluster") ∷ Text (codes "nodes") ∷ Number s.nodes ∷ Text (codes "slabs") ∷ Number s.slabs
    ∷ Text (codes "slots") ∷ Number s.slots ∷ Text (codes "cache") ∷ Number s.cache ∷ []

-- the line says that a cluster has this shape, which is within the limits
abbrev pub IsHead : List ℕ → Shape → Type 0
IsHead line shape = AreSpelled (shape_pieces shape) (words line) × IsInLimits shape

-- the line is not passed over
abbrev pub Stays : List ℕ → Type 0
Stays line = (is_utf8 line && is_passed_over line) ≡ false

-- the lines from number n on, with none but passed over before, are this script
abbrev pub IsScriptFrom : ℕ → List (List ℕ) → Script → Type 0
IsScriptFrom n [] s = ⊥
IsScriptFrom n (line ∷ others) s =
    (IsPassed line × IsScriptFrom (n + 1) others s)
    ⊎ (Stays line × IsHead line s.shape × (is_built_shape s.shape ≡ true) × (s.boot ≡ None) × AreOrders s.shape [] (n + 1) others s.orders)

-- the bytes are this script
abbrev pub IsScript : List ℕ → Script → Type 0
IsScript bytes s = IsScriptFrom 1 (lines bytes) s

-- What is wrong with a line behind the first one. `clear` says that no order stands between them.
abbrev pub IsFault : Shape → List (List ℕ) → Bool → List ℕ → Why → Type 0
IsFault shape names clear line w =
    ((is_utf8 line ≡ false) × (w ≡ why.Form))
    ⊎ ((IsFilled line × ((f : Form) → IsForm line f → ⊥) × (w ≡ (if clear && is_boot (words line) then why.Later else why.Form)))
    ⊎ ((IsFilled line × ((f : Form) × IsForm line f × (order_of shape names f ≡ Err w)))
    ⊎ (IsFilled line × (w ≡ why.Later) × ((f : Form) × (o : Order) × IsForm line f × (order_of shape names f ≡ Ok o) × (is_built f ≡ false)))))

-- of the lines from number n on this is the first that is bad
abbrev pub IsBadFrom : Shape → List (List ℕ) → Bool → ℕ → List (List ℕ) → BadScript → Type 0
IsBadFrom shape names clear n [] e = ⊥
IsBadFrom shape names clear n (line ∷ others) e =
    ((w : Why) × IsFault shape names clear line w × (e ≡ record { line = n; why = w }))
    ⊎ ((IsPassed line × IsBadFrom shape names clear (n + 1) others e)
    ⊎ ((f : Form) × (o : Order) × Asks shape names line f o × IsBadFrom shape (names_after names f) false (n + 1) others e))

-- the same, with no line but passed over before
abbrev pub IsBadHeadFrom : ℕ → List (List ℕ) → BadScript → Type 0
IsBadHeadFrom n [] e = e ≡ record { line = n; why = why.Shape }
IsBadHeadFrom n (line ∷ others) e =
    (IsPassed line × IsBadHeadFrom (n + 1) others e)
    ⊎ ((Stays line × ((shape : Shape) → IsHead line shape → ⊥) × (e ≡ record { line = n; why = why.Shape }))
    ⊎ ((Stays line × (e ≡ record { line = n; why = why.Later }) × ((shape : Shape) × IsHead line shape × (is_built_shape shape ≡ false)))
    ⊎ (Stays line × ((shape : Shape) × IsHead line shape × (is_built_shape shape ≡ true) × IsBadFrom shape [] true (n + 1) others e))))

-- the first line of the bytes that is bad, and what is wrong with it
abbrev pub IsBadScript : List ℕ → BadScript → Type 0
IsBadScript bytes e = IsBadHeadFrom 1 (lines bytes) e
