-- For the proofs: what can happen, by the words for it, as functions.
use Rattle.std.specs.Prelude.{ℕ, Option, Some, None, List, if◌then◌else◌, codes}
use Rattle.cluster_model.specs.declared.events.ActKind.{ActKind}
use Rattle.cluster_model.specs.declared.events.ActKind.TheVariants as kind
use Rattle.script_text.specs.declared.verbs.LoneVerb.{LoneVerb}
use Rattle.script_text.specs.declared.verbs.LoneVerb.TheVariants as lone
use Rattle.script_text.specs.declared.verbs.NumberVerb.{NumberVerb}
use Rattle.script_text.specs.declared.verbs.NumberVerb.TheVariants as number
use Rattle.script_text.specs.declared.verbs.NodeVerb.{NodeVerb}
use Rattle.script_text.specs.declared.verbs.NodeVerb.TheVariants as node
use Rattle.script_text.specs.declared.verbs.SlabVerb.{SlabVerb}
use Rattle.script_text.specs.declared.verbs.SlabVerb.TheVariants as slab
use Rattle.script_text.specs.Words.{is}

-- what happens, by its only word
unfoldable pub lone_verb : List ℕ → Option LoneVerb
lone_verb word =
    if is word (codes "home") then Some lone.Home
    else (if is word (codes "renew") then Some lone.Renew
    else None)

-- a delivery by its second word
unfoldable pub delivery_verb : List ℕ → Option LoneVerb
delivery_verb word =
    if is word (codes "last") then Some lone.DeliverLast
    else (if is word (codes "all") then Some lone.DeliverAll
    else None)

-- what happens with a number, by its first word
unfoldable pub number_verb : List ℕ → Option NumberVerb
number_verb word =
    if is word (codes "ship") then Some number.Ship
    else (if is word (codes "fold") then Some number.Fold
    else (if is word (codes "drain") then Some number.Drain
    else None))

-- what happens to a node, by its first word
unfoldable pub node_verb : List ℕ → Option NodeVerb
node_verb word =
    if is word (codes "turn") then Some node.Turn
    else (if is word (codes "kick") then Some node.Kick
    else (if is word (codes "restart") then Some node.Restart
    else (if is word (codes "takeover") then Some node.Takeover
    else None)))

-- a turn by its third word
unfoldable pub turn_verb : List ℕ → Option NodeVerb
turn_verb word =
    if is word (codes "lost") then Some node.TurnLost
    else (if is word (codes "unseen") then Some node.TurnUnseen
    else None)

-- what happens to a slab, by its first word
unfoldable pub slab_verb : List ℕ → Option SlabVerb
slab_verb word =
    if is word (codes "crash") then Some slab.Crash
    else (if is word (codes "drop") then Some slab.Drop
    else (if is word (codes "restart") then Some slab.Restart
    else None))

-- the other kinds
unfoldable pub later_kind_of : List ℕ → Option ActKind
later_kind_of word =
    if is word (codes "clean") then Some kind.Clean
    else (if is word (codes "read") then Some kind.Read
    else (if is word (codes "write") then Some kind.Write
    else (if is word (codes "get") then Some kind.Get
    else (if is word (codes "append") then Some kind.Append
    else (if is word (codes "install") then Some kind.Install
    else (if is word (codes "split") then Some kind.Split
    else (if is word (codes "reply") then Some kind.Reply
    else None)))))))

-- a kind of act by its word
unfoldable pub kind_of : List ℕ → Option ActKind
kind_of word =
    if is word (codes "stamp") then Some kind.Stamp
    else (if is word (codes "register") then Some kind.Register
    else (if is word (codes "unregister") then Some kind.Unregister
    else (if is word (codes "invalidate") then Some kind.Invalidate
    else (if is word (codes "latch") then Some kind.Latch
    else (if is word (codes "release") then Some kind.Release
    else (if is word (codes "look") then Some kind.Look
    else later_kind_of word))))))
