-- For the proofs: what a line says, as a function of its words.
use Rattle.std.specs.Prelude.{ℕ, ◌&&◌, Option, Some, None, List, [], ◌∷◌, if◌then◌else◌, codes, option_and_then}
use Rattle.script_text.specs.declared.forms.Form.{Form}
use Rattle.script_text.specs.declared.forms.Form.TheVariants as form
use Rattle.script_text.specs.declared.verbs.LoneVerb.TheVariants as lone
use Rattle.script_text.specs.declared.verbs.NumberVerb.TheVariants as number
use Rattle.script_text.specs.declared.verbs.NodeVerb.{NodeVerb}
use Rattle.script_text.specs.declared.verbs.NodeVerb.TheVariants as node
use Rattle.script_text.specs.Words.{is}
use Rattle.script_text.specs.Names.{name_of}
use Rattle.script_text.specs.Numbers.{node_of, number_of}
use Rattle.script_text.specs.Verbs.{lone_verb, delivery_verb, number_verb, node_verb, turn_verb, slab_verb, kind_of}

infixl 10 ◌>>=◌
abbrev pub ◌>>=◌ : {A B : Type 0} → Option A → (A → Option B) → Option B
o >>= f = option_and_then f o

unfoldable pub one : List ℕ → Option Form
one first = do
  verb ← lone_verb first
  Some (form.Lone verb)

unfoldable pub of_node : NodeVerb → List ℕ → Option Form
of_node verb second = do
  n ← node_of second
  Some (form.OfNode verb n)

-- `deliver last`, `deliver all`, `deliver 7`
unfoldable pub deliver : List ℕ → Option Form
deliver second = elim (delivery_verb second) [
  | Some verb ↦ Some (form.Lone verb)
  | None ↦ (do
    n ← number_of second
    Some (form.Numbered number.Deliver n))
]

-- `crash home`, `crash n2`
unfoldable pub crash : List ℕ → Option Form
crash second = if is second (codes "home") then Some (form.Lone lone.CrashHome) else of_node node.Crash second

-- `timeout a`
unfoldable pub timeout : List ℕ → Option Form
timeout second = do
  name ← name_of second
  Some (form.Timeout name)

unfoldable pub numbered : List ℕ → List ℕ → Option Form
numbered first second = do
  verb ← number_verb first
  n ← number_of second
  Some (form.Numbered verb n)

unfoldable pub two : List ℕ → List ℕ → Option Form
two first second =
    if is first (codes "deliver") then deliver second
    else (if is first (codes "crash") then crash second
    else (if is first (codes "timeout") then timeout second
    else elim (node_verb first) [ Some verb ↦ of_node verb second | None ↦ numbered first second ]))

-- `turn n1 lost`, `turn n1 unseen`
unfoldable pub turn : List ℕ → List ℕ → Option Form
turn second third = do
  verb ← turn_verb third
  of_node verb second

-- `evict n2 1028`
unfoldable pub evict : List ℕ → List ℕ → Option Form
evict second third = do
  n ← node_of second
  p ← number_of third
  Some (form.Evict n p)

-- `crash slab 1`
unfoldable pub of_slab : List ℕ → List ℕ → Option Form
of_slab first third = do
  verb ← slab_verb first
  k ← number_of third
  Some (form.OfSlab verb k)

unfoldable pub three : List ℕ → List ℕ → List ℕ → Option Form
three first second third =
    if is first (codes "turn") then turn second third
    else (if is first (codes "evict") then evict second third
    else (if is second (codes "slab") then of_slab first third
    else None))

-- `until n1 append 5000`
unfoldable pub until : List ℕ → List ℕ → List ℕ → Option Form
until second third fourth = do
  n ← node_of second
  kind ← kind_of third
  rounds ← number_of fourth
  Some (form.Until n kind rounds)

-- `session a on n1`
unfoldable pub session : List ℕ → List ℕ → Option Form
session second fourth = do
  name ← name_of second
  n ← node_of fourth
  Some (form.Session name n)

unfoldable pub four : List ℕ → List ℕ → List ℕ → List ℕ → Option Form
four first second third fourth =
    if is first (codes "until") then until second third fourth
    else (if is first (codes "session") && is third (codes "on") then session second fourth
    else None)

-- by how many words there are
abbrev pub worded : List (List ℕ) → Option Form
worded [] = None
worded (a ∷ []) = one a
worded (a ∷ b ∷ []) = two a b
worded (a ∷ b ∷ c ∷ []) = three a b c
worded (a ∷ b ∷ c ∷ d ∷ []) = four a b c d
worded (a ∷ b ∷ c ∷ d ∷ e ∷ more) = None
