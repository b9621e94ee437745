-- Stated: what the cluster can do today. The rest of what a script may say comes later.
use Rattle.std.specs.Prelude.{Bool, true, false, ◌==◌}
use Rattle.cluster_model.specs.declared.shape.Shape.{Shape}
use Rattle.script_text.specs.declared.forms.Form.{Form}
use Rattle.script_text.specs.declared.forms.Form.TheVariants as form
use Rattle.script_text.specs.declared.verbs.NumberVerb.{NumberVerb}
use Rattle.script_text.specs.declared.verbs.NumberVerb.TheVariants as number
use Rattle.script_text.specs.declared.verbs.NodeVerb.{NodeVerb}
use Rattle.script_text.specs.declared.verbs.NodeVerb.TheVariants as node

-- one node
abbrev pub is_built_shape : Shape → Bool
is_built_shape shape = shape.nodes == 1

-- `drain`
abbrev pub is_built_number : NumberVerb → Bool
is_built_number number.Drain = true
is_built_number _ = false

-- a turn that goes well
abbrev pub is_built_node : NodeVerb → Bool
is_built_node node.Turn = true
is_built_node _ = false

-- sessions, statements, turns and rounds
abbrev pub is_built : Form → Bool
is_built (form.Session name n) = true
is_built (form.Submit name text) = true
is_built (form.Numbered verb n) = is_built_number verb
is_built (form.OfNode verb n) = is_built_node verb
is_built _ = false
