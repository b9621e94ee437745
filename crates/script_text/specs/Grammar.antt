-- Stated: the grammar of a script's lines.
use Rattle.std.specs.Prelude.{◌≡◌, ℕ, false, Some, List, [], ◌∷◌, ◌++◌, codes}
use Rattle.cluster_model.specs.declared.events.ActKind.{ActKind}
use Rattle.cluster_model.specs.declared.events.ActKind.TheVariants as kind
use Rattle.script_text.specs.declared.forms.Form.{Form}
use Rattle.script_text.specs.declared.forms.Form.TheVariants as form
use Rattle.script_text.specs.declared.verbs.LoneVerb.{LoneVerb}
use Rattle.script_text.specs.declared.verbs.LoneVerb.TheVariants as lone
use Rattle.script_text.specs.declared.verbs.NumberVerb.{NumberVerb}
use Rattle.script_text.specs.declared.verbs.NumberVerb.TheVariants as number
use Rattle.script_text.specs.declared.verbs.NodeVerb.{NodeVerb}
use Rattle.script_text.specs.declared.verbs.NodeVerb.TheVariants as node
use Rattle.script_text.specs.declared.verbs.SlabVerb.{SlabVerb}
use Rattle.script_text.specs.declared.verbs.SlabVerb.TheVariants as slab
use Rattle.script_text.specs.Words.{words, is_blank}
use Rattle.script_text.specs.Names.{name_of}
use Rattle.script_text.specs.Numbers.{number_of, node_of}

-- what a word of a line may be: a text, a number, a node or a session's name
pub data Piece : Type 0 where
  Text : List ℕ → Piece
  Number : ℕ → Piece
  Node : ℕ → Piece
  Name : List ℕ → Piece

abbrev pub IsPiece : Piece → List ℕ → Type 0
IsPiece (Text t) word = word ≡ t
IsPiece (Number n) word = number_of word ≡ Some n
IsPiece (Node n) word = node_of word ≡ Some n
IsPiece (Name a) word = name_of word ≡ Some a

-- each word is the piece at its place
abbrev pub AreSpelled : List Piece → List (List ℕ) → Type 0
AreSpelled [] [] = Unit {0}
AreSpelled [] (w ∷ ws) = ⊥
AreSpelled (p ∷ ps) [] = ⊥
AreSpelled (p ∷ ps) (w ∷ ws) = IsPiece p w × AreSpelled ps ws

abbrev pub kind_word : ActKind → List ℕ
kind_word kind.Stamp = codes "stamp"
kind_word kind.Register = codes "register"
kind_word kind.Unregister = codes "unregister"
kind_word kind.Invalidate = codes "invalidate"
kind_word kind.Latch = codes "latch"
kind_word kind.Release = codes "release"
kind_word kind.Look = codes "look"
kind_word kind.Clean = codes "clean"
kind_word kind.Read = codes "read"
kind_word kind.Write = codes "write"
kind_word kind.Get = codes "get"
kind_word kind.Append = codes "append"
kind_word kind.Install = codes "install"
kind_word kind.Split = codes "split"
kind_word kind.Reply = codes "reply"

abbrev pub lone_pieces : LoneVerb → List Piece
lone_pieces lone.DeliverLast = Text (codes "deliver") ∷ Text (codes "last") ∷ []
lone_pieces lone.DeliverAll = Text (codes "deliver") ∷ Text (codes "all") ∷ []
lone_pieces lone.Home = Text (codes "home") ∷ []
lone_pieces lone.CrashHome = Text (codes "crash") ∷ Text (codes "home") ∷ []
lone_pieces lone.Renew = Text (codes "renew") ∷ []

abbrev pub number_word : NumberVerb → List ℕ
number_word number.Deliver = codes "deliver"
number_word number.Ship = codes "ship"
number_word number.Fold = codes "fold"
number_word number.Drain = codes "drain"

abbrev pub node_pieces : NodeVerb → ℕ → List Piece
node_pieces node.Turn n = Text (codes "turn") ∷ Node n ∷ []
node_pieces node.TurnLost n = Text (codes "turn") ∷ Node n ∷ Text (codes "lost") ∷ []
node_pieces node.TurnUnseen n = Text (codes "turn") ∷ Node n ∷ Text (codes "unseen") ∷ []
node_pieces node.Crash n = Text (codes "crash") ∷ Node n ∷ []
node_pieces node.Kick n = Text (codes "kick") ∷ Node n ∷ []
node_pieces node.Restart n = Text (codes "restart") ∷ Node n ∷ []
node_pieces node.Takeover n = Text (codes "takeover") ∷ Node n ∷ []

abbrev pub slab_word : SlabVerb → List ℕ
slab_word slab.Crash = codes "crash"
slab_word slab.Drop = codes "drop"
slab_word slab.Restart = codes "restart"

-- The words of each form. A statement is no list of words.
abbrev pub pieces : Form → List Piece
pieces (form.Lone verb) = lone_pieces verb
pieces (form.Numbered verb n) = Text (number_word verb) ∷ Number n ∷ []
pieces (form.OfNode verb n) = node_pieces verb n
pieces (form.OfSlab verb k) = Text (slab_word verb) ∷ Text (codes "slab") ∷ Number k ∷ []
pieces (form.Evict n p) = Text (codes "evict") ∷ Node n ∷ Number p ∷ []
pieces (form.Timeout a) = Text (codes "timeout") ∷ Name a ∷ []
pieces (form.Until n k rounds) = Text (codes "until") ∷ Node n ∷ Text (kind_word k) ∷ Number rounds ∷ []
pieces (form.Session a n) = Text (codes "session") ∷ Name a ∷ Text (codes "on") ∷ Node n ∷ []
pieces (form.Submit a text) = []

-- a session's name, a colon, a space, and a text that is not of spaces, tabs and CRs alone
abbrev pub IsStatement : List ℕ → List ℕ → List ℕ → Type 0
IsStatement line a text = (name_of a ≡ Some a) × (line ≡ a ++ 58 ∷ 32 ∷ text) × (is_blank text ≡ false)

-- the line says this
abbrev pub IsForm : List ℕ → Form → Type 0
IsForm line (form.Lone verb) = AreSpelled (pieces (form.Lone verb)) (words line)
IsForm line (form.Numbered verb n) = AreSpelled (pieces (form.Numbered verb n)) (words line)
IsForm line (form.OfNode verb n) = AreSpelled (pieces (form.OfNode verb n)) (words line)
IsForm line (form.OfSlab verb k) = AreSpelled (pieces (form.OfSlab verb k)) (words line)
IsForm line (form.Evict n p) = AreSpelled (pieces (form.Evict n p)) (words line)
IsForm line (form.Timeout a) = AreSpelled (pieces (form.Timeout a)) (words line)
IsForm line (form.Until n k rounds) = AreSpelled (pieces (form.Until n k rounds)) (words line)
IsForm line (form.Session a n) = AreSpelled (pieces (form.Session a n)) (words line)
IsForm line (form.Submit a text) = IsStatement line a text
