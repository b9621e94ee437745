-- For the proofs: what words are read as is spelled so.
use Rattle.std.proofs.Common.{◌≡◌, ℕ, Bool, true, false, cond, Option, Some, None, List, [], ◌∷◌, codes, refl, sym, subst, ◌&&◌}
use Rattle.cluster_model.specs.declared.events.ActKind.{ActKind}
use Rattle.cluster_model.specs.declared.events.ActKind.TheVariants as kind
use Rattle.script_text.specs.declared.forms.Form.{Form}
use Rattle.script_text.specs.declared.forms.Form.TheVariants as form
use Rattle.script_text.specs.declared.verbs.LoneVerb.{LoneVerb}
use Rattle.script_text.specs.declared.verbs.LoneVerb.TheVariants as lone
use Rattle.script_text.specs.declared.verbs.NumberVerb.{NumberVerb}
use Rattle.script_text.specs.declared.verbs.NumberVerb.TheVariants as number
use Rattle.script_text.specs.declared.verbs.NodeVerb.{NodeVerb}
use Rattle.script_text.specs.declared.verbs.NodeVerb.TheVariants as node
use Rattle.script_text.specs.declared.verbs.SlabVerb.{SlabVerb}
use Rattle.script_text.specs.declared.verbs.SlabVerb.TheVariants as slab
use Rattle.script_text.specs.Words.{is}
use Rattle.script_text.specs.Names.{name_of}
use Rattle.script_text.specs.Numbers.{number_of, node_of}
use Rattle.script_text.specs.Verbs.{lone_verb, delivery_verb, number_verb, node_verb, turn_verb, slab_verb, kind_of, later_kind_of}
use Rattle.script_text.specs.Forms.{one, two, three, four, worded, deliver, crash, timeout, of_node, numbered, turn, evict, of_slab, until, session}
use Rattle.script_text.specs.Grammar.{AreSpelled, pieces, lone_pieces, node_pieces, number_word, slab_word, kind_word}
use Rattle.script_text.proofs.Found.{OnFound, on-none, on-some, found, is-text, picked, row, mapped, forked}

-- the words are those of the form
abbrev pub Says : List (List ℕ) → Form → Type 0
Says ws f = AreSpelled (pieces f) ws

lone-is : (w : List ℕ) → OnFound (λ v. AreSpelled (lone_pieces v) (w ∷ [])) (lone_verb w)
unfolding lone_verb
lone-is w =
    let P : LoneVerb → Type 0 = λ v. AreSpelled (lone_pieces v) (w ∷ []) in
    row P w (codes "home") lone.Home _ (λ e. (e, tt)) (row P w (codes "renew") lone.Renew _ (λ e. (e, tt)) (on-none P))

delivery-is : (w : List ℕ) → OnFound (λ v. AreSpelled (lone_pieces v) (codes "deliver" ∷ w ∷ [])) (delivery_verb w)
unfolding delivery_verb
delivery-is w =
    let P : LoneVerb → Type 0 = λ v. AreSpelled (lone_pieces v) (codes "deliver" ∷ w ∷ []) in
    row P w (codes "last") lone.DeliverLast _ (λ e. (refl, (e, tt))) (row P w (codes "all") lone.DeliverAll _ (λ e. (refl, (e, tt))) (on-none P))

number-is : (w : List ℕ) → OnFound (λ v. w ≡ number_word v) (number_verb w)
unfolding number_verb
number-is w =
    let P : NumberVerb → Type 0 = λ v. w ≡ number_word v in
    row P w (codes "ship") number.Ship _ (λ e. e) (row P w (codes "fold") number.Fold _ (λ e. e) (row P w (codes "drain") number.Drain _ (λ e. e) (on-none P)))

node-is : (w x : List ℕ) → OnFound (λ v. (n : ℕ) → node_of x ≡ Some n → AreSpelled (node_pieces v n) (w ∷ x ∷ [])) (node_verb w)
unfolding node_verb
node-is w x =
    let P : NodeVerb → Type 0 = λ v. (n : ℕ) → node_of x ≡ Some n → AreSpelled (node_pieces v n) (w ∷ x ∷ []) in
    row P w (codes "turn") node.Turn _ (λ e n h. (e, (h, tt))) (row P w (codes "kick") node.Kick _ (λ e n h. (e, (h, tt)))
    (row P w (codes "restart") node.Restart _ (λ e n h. (e, (h, tt))) (row P w (codes "takeover") node.Takeover _ (λ e n h. (e, (h, tt))) (on-none P))))

turn-is : (x w : List ℕ) → OnFound (λ v. (n : ℕ) → node_of x ≡ Some n → AreSpelled (node_pieces v n) (codes "turn" ∷ x ∷ w ∷ [])) (turn_verb w)
unfolding turn_verb
turn-is x w =
    let P : NodeVerb → Type 0 = λ v. (n : ℕ) → node_of x ≡ Some n → AreSpelled (node_pieces v n) (codes "turn" ∷ x ∷ w ∷ []) in
    row P w (codes "lost") node.TurnLost _ (λ e n h. (refl, (h, (e, tt)))) (row P w (codes "unseen") node.TurnUnseen _ (λ e n h. (refl, (h, (e, tt)))) (on-none P))

slab-is : (w : List ℕ) → OnFound (λ v. w ≡ slab_word v) (slab_verb w)
unfolding slab_verb
slab-is w =
    let P : SlabVerb → Type 0 = λ v. w ≡ slab_word v in
    row P w (codes "crash") slab.Crash _ (λ e. e) (row P w (codes "drop") slab.Drop _ (λ e. e) (row P w (codes "restart") slab.Restart _ (λ e. e) (on-none P)))

kind-is : (w : List ℕ) → OnFound (λ v. w ≡ kind_word v) (kind_of w)
unfolding kind_of later_kind_of
kind-is w =
    let P : ActKind → Type 0 = λ v. w ≡ kind_word v in
    row P w (codes "stamp") kind.Stamp _ (λ e. e) (row P w (codes "register") kind.Register _ (λ e. e)
    (row P w (codes "unregister") kind.Unregister _ (λ e. e) (row P w (codes "invalidate") kind.Invalidate _ (λ e. e)
    (row P w (codes "latch") kind.Latch _ (λ e. e) (row P w (codes "release") kind.Release _ (λ e. e)
    (row P w (codes "look") kind.Look _ (λ e. e) (row P w (codes "clean") kind.Clean _ (λ e. e)
    (row P w (codes "read") kind.Read _ (λ e. e) (row P w (codes "write") kind.Write _ (λ e. e)
    (row P w (codes "get") kind.Get _ (λ e. e) (row P w (codes "append") kind.Append _ (λ e. e)
    (row P w (codes "install") kind.Install _ (λ e. e) (row P w (codes "split") kind.Split _ (λ e. e)
    (row P w (codes "reply") kind.Reply _ (λ e. e) (on-none P)))))))))))))))

of_node-is : (P : Form → Type 0) (v : NodeVerb) (x : List ℕ) → ((n : ℕ) → node_of x ≡ Some n → P (form.OfNode v n)) → OnFound P (of_node v x)
unfolding of_node
of_node-is P v x h = mapped P (λ n. node_of x ≡ Some n) (node_of x) _ (found (node_of x)) (λ n e. on-some P (form.OfNode v n) (h n e))

one-sound : (a : List ℕ) → OnFound (Says (a ∷ [])) (one a)
unfolding one
one-sound a = mapped (Says (a ∷ [])) (λ v. AreSpelled (lone_pieces v) (a ∷ [])) (lone_verb a) _ (lone-is a) (λ v h. on-some (Says (a ∷ [])) (form.Lone v) h)

deliver-sound : (b : List ℕ) → OnFound (Says (codes "deliver" ∷ b ∷ [])) (deliver b)
unfolding deliver
deliver-sound b =
    let P : Form → Type 0 = Says (codes "deliver" ∷ b ∷ []) in
    forked P (λ v. AreSpelled (lone_pieces v) (codes "deliver" ∷ b ∷ [])) (delivery_verb b) _ _ (delivery-is b) (λ v h. on-some P (form.Lone v) h)
    (mapped P (λ n. number_of b ≡ Some n) (number_of b) _ (found (number_of b)) (λ n e. on-some P (form.Numbered number.Deliver n) (refl, (e, tt))))

crash-sound : (b : List ℕ) → OnFound (Says (codes "crash" ∷ b ∷ [])) (crash b)
unfolding crash
crash-sound b =
    let P : Form → Type 0 = Says (codes "crash" ∷ b ∷ []) in
    row P b (codes "home") (form.Lone lone.CrashHome) _ (λ e. (refl, (e, tt))) (of_node-is P node.Crash b (λ n e. (refl, (e, tt))))

timeout-sound : (b : List ℕ) → OnFound (Says (codes "timeout" ∷ b ∷ [])) (timeout b)
unfolding timeout
timeout-sound b =
    let P : Form → Type 0 = Says (codes "timeout" ∷ b ∷ []) in
    mapped P (λ a. name_of b ≡ Some a) (name_of b) _ (found (name_of b)) (λ a e. on-some P (form.Timeout a) (refl, (e, tt)))

numbered-sound : (a b : List ℕ) → OnFound (Says (a ∷ b ∷ [])) (numbered a b)
unfolding numbered
numbered-sound a b =
    let P : Form → Type 0 = Says (a ∷ b ∷ []) in
    mapped P (λ v. a ≡ number_word v) (number_verb a) _ (number-is a) (λ v e.
    mapped P (λ n. number_of b ≡ Some n) (number_of b) _ (found (number_of b)) (λ n k. on-some P (form.Numbered v n) (e, (k, tt))))

-- a fact of a first word that is a text
first-is : (a t : List ℕ) (others : List (List ℕ)) (o : Option Form) → OnFound (Says (t ∷ others)) o → a ≡ t → OnFound (Says (a ∷ others)) o
first-is a t others o h e = let P : List ℕ → Type 0 = λ w. OnFound (Says (w ∷ others)) o in subst P (sym e) h

two-sound : (a b : List ℕ) → OnFound (Says (a ∷ b ∷ [])) (two a b)
unfolding two
two-sound a b =
    let P : Form → Type 0 = Says (a ∷ b ∷ []) in
    picked P a (codes "deliver") _ _ (first-is a (codes "deliver") (b ∷ []) (deliver b) (deliver-sound b))
    (picked P a (codes "crash") _ _ (first-is a (codes "crash") (b ∷ []) (crash b) (crash-sound b))
    (picked P a (codes "timeout") _ _ (first-is a (codes "timeout") (b ∷ []) (timeout b) (timeout-sound b))
    (forked P (λ v. (n : ℕ) → node_of b ≡ Some n → AreSpelled (node_pieces v n) (a ∷ b ∷ [])) (node_verb a) _ _ (node-is a b)
    (λ v h. of_node-is P v b h) (numbered-sound a b))))

turn-sound : (b c : List ℕ) → OnFound (Says (codes "turn" ∷ b ∷ c ∷ [])) (turn b c)
unfolding turn
turn-sound b c =
    let P : Form → Type 0 = Says (codes "turn" ∷ b ∷ c ∷ []) in
    mapped P (λ v. (n : ℕ) → node_of b ≡ Some n → AreSpelled (node_pieces v n) (codes "turn" ∷ b ∷ c ∷ [])) (turn_verb c) _ (turn-is b c) (λ v h. of_node-is P v b h)

evict-sound : (b c : List ℕ) → OnFound (Says (codes "evict" ∷ b ∷ c ∷ [])) (evict b c)
unfolding evict
evict-sound b c =
    let P : Form → Type 0 = Says (codes "evict" ∷ b ∷ c ∷ []) in
    mapped P (λ n. node_of b ≡ Some n) (node_of b) _ (found (node_of b)) (λ n e.
    mapped P (λ p. number_of c ≡ Some p) (number_of c) _ (found (number_of c)) (λ p k. on-some P (form.Evict n p) (refl, (e, (k, tt)))))

slab-sound : (a b c : List ℕ) → b ≡ codes "slab" → OnFound (Says (a ∷ b ∷ c ∷ [])) (of_slab a c)
unfolding of_slab
slab-sound a b c e =
    let P : Form → Type 0 = Says (a ∷ b ∷ c ∷ []) in
    mapped P (λ v. a ≡ slab_word v) (slab_verb a) _ (slab-is a) (λ v w.
    mapped P (λ k. number_of c ≡ Some k) (number_of c) _ (found (number_of c)) (λ k h. on-some P (form.OfSlab v k) (w, (e, (h, tt)))))

three-sound : (a b c : List ℕ) → OnFound (Says (a ∷ b ∷ c ∷ [])) (three a b c)
unfolding three
three-sound a b c =
    let P : Form → Type 0 = Says (a ∷ b ∷ c ∷ []) in
    picked P a (codes "turn") _ _ (first-is a (codes "turn") (b ∷ c ∷ []) (turn b c) (turn-sound b c))
    (picked P a (codes "evict") _ _ (first-is a (codes "evict") (b ∷ c ∷ []) (evict b c) (evict-sound b c))
    (picked P b (codes "slab") _ _ (slab-sound a b c) (on-none P)))

until-sound : (b c d : List ℕ) → OnFound (Says (codes "until" ∷ b ∷ c ∷ d ∷ [])) (until b c d)
unfolding until
until-sound b c d =
    let P : Form → Type 0 = Says (codes "until" ∷ b ∷ c ∷ d ∷ []) in
    mapped P (λ n. node_of b ≡ Some n) (node_of b) _ (found (node_of b)) (λ n e.
    mapped P (λ k. c ≡ kind_word k) (kind_of c) _ (kind-is c) (λ k w.
    mapped P (λ r. number_of d ≡ Some r) (number_of d) _ (found (number_of d)) (λ r h. on-some P (form.Until n k r) (refl, (e, (w, (h, tt)))))))

session-sound : (b c d : List ℕ) → c ≡ codes "on" → OnFound (Says (codes "session" ∷ b ∷ c ∷ d ∷ [])) (session b d)
unfolding session
session-sound b c d e =
    let P : Form → Type 0 = Says (codes "session" ∷ b ∷ c ∷ d ∷ []) in
    mapped P (λ a. name_of b ≡ Some a) (name_of b) _ (found (name_of b)) (λ a h.
    mapped P (λ n. node_of d ≡ Some n) (node_of d) _ (found (node_of d)) (λ n k. on-some P (form.Session a n) (refl, (h, (e, (k, tt))))))

-- two tests in one
both-picked : (P : Form → Type 0) (a t c u : List ℕ) (x : Option Form) → (a ≡ t → c ≡ u → OnFound P x) → OnFound P (cond (is a t && is c u) x None)
both-picked P a t c u x then_found = by_test (is a t) (is c u) refl refl where
  by_test : (p q : Bool) → is a t ≡ p → is c u ≡ q → OnFound P (cond (p && q) x None)
  by_test true true e f = then_found (is-text a t e) (is-text c u f)
  by_test true false e f = on-none P
  by_test false q e f = on-none P

four-sound : (a b c d : List ℕ) → OnFound (Says (a ∷ b ∷ c ∷ d ∷ [])) (four a b c d)
unfolding four
four-sound a b c d =
    let P : Form → Type 0 = Says (a ∷ b ∷ c ∷ d ∷ []) in
    picked P a (codes "until") _ _ (first-is a (codes "until") (b ∷ c ∷ d ∷ []) (until b c d) (until-sound b c d))
    (both-picked P a (codes "session") c (codes "on") (session b d) (λ e f. first-is a (codes "session") (b ∷ c ∷ d ∷ []) (session b d) (session-sound b c d f) e))

-- what words are read as is spelled so
pub worded-sound : (ws : List (List ℕ)) → OnFound (Says ws) (worded ws)
worded-sound [] = on-none (Says [])
worded-sound (a ∷ []) = one-sound a
worded-sound (a ∷ b ∷ []) = two-sound a b
worded-sound (a ∷ b ∷ c ∷ []) = three-sound a b c
worded-sound (a ∷ b ∷ c ∷ d ∷ []) = four-sound a b c d
worded-sound (a ∷ b ∷ c ∷ d ∷ e ∷ more) = on-none (Says (a ∷ b ∷ c ∷ d ∷ e ∷ more))
