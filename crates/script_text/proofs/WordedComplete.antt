-- For the proofs: words that spell a form are read as it.
use Rattle.std.proofs.Common.{◌≡◌, ◌≢◌, ℕ, Bool, cond, Option, Some, None, List, [], ◌∷◌, codes, refl, sym, ap, ◌∙◌}
use Rattle.std.specs.Option.{option_and_then}
use Rattle.cluster_model.specs.declared.events.ActKind.{ActKind}
use Rattle.cluster_model.specs.declared.events.ActKind.TheVariants as kind
use Rattle.sql_words.specs.Bytes.{is_digit}
use Rattle.script_text.specs.declared.forms.Form.{Form}
use Rattle.script_text.specs.declared.forms.Form.TheVariants as form
use Rattle.script_text.specs.declared.verbs.LoneVerb.{LoneVerb}
use Rattle.script_text.specs.declared.verbs.LoneVerb.TheVariants as lone
use Rattle.script_text.specs.declared.verbs.NumberVerb.{NumberVerb}
use Rattle.script_text.specs.declared.verbs.NumberVerb.TheVariants as number
use Rattle.script_text.specs.declared.verbs.NodeVerb.{NodeVerb}
use Rattle.script_text.specs.declared.verbs.NodeVerb.TheVariants as node
use Rattle.script_text.specs.declared.verbs.SlabVerb.{SlabVerb}
use Rattle.script_text.specs.declared.verbs.SlabVerb.TheVariants as slab
use Rattle.script_text.specs.Words.{is}
use Rattle.script_text.specs.Names.{name_of}
use Rattle.script_text.specs.Numbers.{is_number, number_of, node_of}
use Rattle.script_text.specs.Verbs.{lone_verb, delivery_verb, number_verb, node_verb, turn_verb, slab_verb, kind_of, later_kind_of}
use Rattle.script_text.specs.Forms.{one, two, three, four, worded, deliver, crash, timeout, of_node, numbered, turn, evict, of_slab, until, session}
use Rattle.script_text.specs.Grammar.{Piece, Text, Number, Node, Name, IsPiece, AreSpelled, pieces, lone_pieces, node_pieces, number_word, slab_word, kind_word}
use Rattle.script_text.proofs.Found.{is-not}

one_word : (p : Piece) (ws : List (List ℕ)) (R : List (List ℕ) → Type 0)
    → ((a : List ℕ) → IsPiece p a → R (a ∷ [])) → AreSpelled (p ∷ []) ws → R ws
one_word p [] R k h = absurd h
one_word p (a ∷ []) R k h = k a h.0
one_word p (a ∷ b ∷ ws) R k h = absurd h.1

two_words : (p q : Piece) (ws : List (List ℕ)) (R : List (List ℕ) → Type 0)
    → ((a b : List ℕ) → IsPiece p a → IsPiece q b → R (a ∷ b ∷ [])) → AreSpelled (p ∷ q ∷ []) ws → R ws
two_words p q [] R k h = absurd h
two_words p q (a ∷ []) R k h = absurd h.1
two_words p q (a ∷ b ∷ []) R k h = k a b h.0 h.1.0
two_words p q (a ∷ b ∷ c ∷ ws) R k h = absurd h.1.1

three_words : (p q r : Piece) (ws : List (List ℕ)) (R : List (List ℕ) → Type 0)
    → ((a b c : List ℕ) → IsPiece p a → IsPiece q b → IsPiece r c → R (a ∷ b ∷ c ∷ [])) → AreSpelled (p ∷ q ∷ r ∷ []) ws → R ws
three_words p q r [] R k h = absurd h
three_words p q r (a ∷ []) R k h = absurd h.1
three_words p q r (a ∷ b ∷ []) R k h = absurd h.1.1
three_words p q r (a ∷ b ∷ c ∷ []) R k h = k a b c h.0 h.1.0 h.1.1.0
three_words p q r (a ∷ b ∷ c ∷ d ∷ ws) R k h = absurd h.1.1.1

four_words : (p q r s : Piece) (ws : List (List ℕ)) (R : List (List ℕ) → Type 0)
    → ((a b c d : List ℕ) → IsPiece p a → IsPiece q b → IsPiece r c → IsPiece s d → R (a ∷ b ∷ c ∷ d ∷ [])) → AreSpelled (p ∷ q ∷ r ∷ s ∷ []) ws → R ws
four_words p q r s [] R k h = absurd h
four_words p q r s (a ∷ []) R k h = absurd h.1
four_words p q r s (a ∷ b ∷ []) R k h = absurd h.1.1
four_words p q r s (a ∷ b ∷ c ∷ []) R k h = absurd h.1.1.1
four_words p q r s (a ∷ b ∷ c ∷ d ∷ []) R k h = k a b c d h.0 h.1.0 h.1.1.0 h.1.1.1.0
four_words p q r s (a ∷ b ∷ c ∷ d ∷ e ∷ ws) R k h = absurd h.1.1.1.1

none_is_some : (n : ℕ) → None ≡ Some n → ⊥
none_is_some n e = cc

last-none : number_of (codes "last") ≡ None
unfolding number_of is_number is_digit
last-none = refl

all-none : number_of (codes "all") ≡ None
unfolding number_of is_number is_digit
all-none = refl

home-none : node_of (codes "home") ≡ None
unfolding node_of
home-none = refl

-- a number is no word of a delivery
no_delivery : (b : List ℕ) (n : ℕ) → number_of b ≡ Some n → delivery_verb b ≡ None
unfolding delivery_verb
no_delivery b n e =
    let last = is-not b (codes "last") (λ h. none_is_some n (sym last-none ∙ ap number_of (sym h) ∙ e)) in
    let all = is-not b (codes "all") (λ h. none_is_some n (sym all-none ∙ ap number_of (sym h) ∙ e)) in
    ap (λ (t : Bool). cond t (Some lone.DeliverLast) (cond (is b (codes "all")) (Some lone.DeliverAll) None)) last
    ∙ ap (λ (t : Bool). cond t (Some lone.DeliverAll) None) all

lone-one : (v : LoneVerb) (ws : List (List ℕ)) → AreSpelled (lone_pieces v) ws → worded ws ≡ Some (form.Lone v)
unfolding one two deliver crash lone_verb delivery_verb
lone-one lone.DeliverLast ws h = two_words (Text (codes "deliver")) (Text (codes "last")) ws (λ q. worded q ≡ Some (form.Lone lone.DeliverLast)) (λ a b e f. ap (λ (w : List ℕ). two w b) e ∙ ap deliver f) h
lone-one lone.DeliverAll ws h = two_words (Text (codes "deliver")) (Text (codes "all")) ws (λ q. worded q ≡ Some (form.Lone lone.DeliverAll)) (λ a b e f. ap (λ (w : List ℕ). two w b) e ∙ ap deliver f) h
lone-one lone.Home ws h = one_word (Text (codes "home")) ws (λ q. worded q ≡ Some (form.Lone lone.Home)) (λ a e. ap one e) h
lone-one lone.CrashHome ws h = two_words (Text (codes "crash")) (Text (codes "home")) ws (λ q. worded q ≡ Some (form.Lone lone.CrashHome)) (λ a b e f. ap (λ (w : List ℕ). two w b) e ∙ ap crash f) h
lone-one lone.Renew ws h = one_word (Text (codes "renew")) ws (λ q. worded q ≡ Some (form.Lone lone.Renew)) (λ a e. ap one e) h

deliver-number : (b : List ℕ) (n : ℕ) → number_of b ≡ Some n → deliver b ≡ Some (form.Numbered number.Deliver n)
unfolding deliver
deliver-number b n e =
    ap (λ (o : Option LoneVerb). elim o as (λ _. Option Form) [ Some verb ↦ Some (form.Lone verb) | None ↦ option_and_then (λ m. Some (form.Numbered number.Deliver m)) (number_of b) ]) (no_delivery b n e)
    ∙ ap (option_and_then (λ m. Some (form.Numbered number.Deliver m))) e

numbered-two : (v : NumberVerb) (b : List ℕ) (n : ℕ) → number_of b ≡ Some n → two (number_word v) b ≡ Some (form.Numbered v n)
unfolding two numbered number_verb node_verb
numbered-two number.Deliver b n e = deliver-number b n e
numbered-two number.Ship b n e = ap (option_and_then (λ m. Some (form.Numbered number.Ship m))) e
numbered-two number.Fold b n e = ap (option_and_then (λ m. Some (form.Numbered number.Fold m))) e
numbered-two number.Drain b n e = ap (option_and_then (λ m. Some (form.Numbered number.Drain m))) e

of_node-some : (v : NodeVerb) (b : List ℕ) (n : ℕ) → node_of b ≡ Some n → of_node v b ≡ Some (form.OfNode v n)
unfolding of_node
of_node-some v b n e = ap (option_and_then (λ m. Some (form.OfNode v m))) e

crash-node : (b : List ℕ) (n : ℕ) → node_of b ≡ Some n → crash b ≡ Some (form.OfNode node.Crash n)
unfolding crash
crash-node b n e =
    let home = is-not b (codes "home") (λ h. none_is_some n (sym home-none ∙ ap node_of (sym h) ∙ e)) in
    ap (λ (t : Bool). cond t (Some (form.Lone lone.CrashHome)) (of_node node.Crash b)) home ∙ of_node-some node.Crash b n e

node-one : (v : NodeVerb) (n : ℕ) (ws : List (List ℕ)) → AreSpelled (node_pieces v n) ws → worded ws ≡ Some (form.OfNode v n)
unfolding two three turn node_verb turn_verb
node-one node.Turn n ws h = two_words (Text (codes "turn")) (Node n) ws (λ q. worded q ≡ Some (form.OfNode node.Turn n)) (λ a b e f. ap (λ (w : List ℕ). two w b) e ∙ of_node-some node.Turn b n f) h
node-one node.TurnLost n ws h = three_words (Text (codes "turn")) (Node n) (Text (codes "lost")) ws (λ q. worded q ≡ Some (form.OfNode node.TurnLost n)) (λ a b c e f g. ap (λ (w : List ℕ). three w b c) e ∙ ap (turn b) g ∙ of_node-some node.TurnLost b n f) h
node-one node.TurnUnseen n ws h = three_words (Text (codes "turn")) (Node n) (Text (codes "unseen")) ws (λ q. worded q ≡ Some (form.OfNode node.TurnUnseen n)) (λ a b c e f g. ap (λ (w : List ℕ). three w b c) e ∙ ap (turn b) g ∙ of_node-some node.TurnUnseen b n f) h
node-one node.Crash n ws h = two_words (Text (codes "crash")) (Node n) ws (λ q. worded q ≡ Some (form.OfNode node.Crash n)) (λ a b e f. ap (λ (w : List ℕ). two w b) e ∙ crash-node b n f) h
node-one node.Kick n ws h = two_words (Text (codes "kick")) (Node n) ws (λ q. worded q ≡ Some (form.OfNode node.Kick n)) (λ a b e f. ap (λ (w : List ℕ). two w b) e ∙ of_node-some node.Kick b n f) h
node-one node.Restart n ws h = two_words (Text (codes "restart")) (Node n) ws (λ q. worded q ≡ Some (form.OfNode node.Restart n)) (λ a b e f. ap (λ (w : List ℕ). two w b) e ∙ of_node-some node.Restart b n f) h
node-one node.Takeover n ws h = two_words (Text (codes "takeover")) (Node n) ws (λ q. worded q ≡ Some (form.OfNode node.Takeover n)) (λ a b e f. ap (λ (w : List ℕ). two w b) e ∙ of_node-some node.Takeover b n f) h

slab-three : (v : SlabVerb) (c : List ℕ) (k : ℕ) → number_of c ≡ Some k → three (slab_word v) (codes "slab") c ≡ Some (form.OfSlab v k)
unfolding three of_slab slab_verb
slab-three slab.Crash c k e = ap (option_and_then (λ m. Some (form.OfSlab slab.Crash m))) e
slab-three slab.Drop c k e = ap (option_and_then (λ m. Some (form.OfSlab slab.Drop m))) e
slab-three slab.Restart c k e = ap (option_and_then (λ m. Some (form.OfSlab slab.Restart m))) e

kind-some : (k : ActKind) → kind_of (kind_word k) ≡ Some k
unfolding kind_of later_kind_of
kind-some kind.Stamp = refl
kind-some kind.Register = refl
kind-some kind.Unregister = refl
kind-some kind.Invalidate = refl
kind-some kind.Latch = refl
kind-some kind.Release = refl
kind-some kind.Look = refl
kind-some kind.Clean = refl
kind-some kind.Read = refl
kind-some kind.Write = refl
kind-some kind.Get = refl
kind-some kind.Append = refl
kind-some kind.Install = refl
kind-some kind.Split = refl
kind-some kind.Reply = refl

evict-some : (b c : List ℕ) (n p : ℕ) → node_of b ≡ Some n → number_of c ≡ Some p → evict b c ≡ Some (form.Evict n p)
unfolding evict
evict-some b c n p e f =
    ap (option_and_then (λ m. option_and_then (λ q. Some (form.Evict m q)) (number_of c))) e
    ∙ ap (option_and_then (λ q. Some (form.Evict n q))) f

until-some : (b c d : List ℕ) (n : ℕ) (k : ActKind) (r : ℕ) → node_of b ≡ Some n → c ≡ kind_word k → number_of d ≡ Some r → until b c d ≡ Some (form.Until n k r)
unfolding until
until-some b c d n k r e f g =
    ap (option_and_then (λ m. option_and_then (λ v. option_and_then (λ q. Some (form.Until m v q)) (number_of d)) (kind_of c))) e
    ∙ ap (option_and_then (λ v. option_and_then (λ q. Some (form.Until n v q)) (number_of d))) (ap kind_of f ∙ kind-some k)
    ∙ ap (option_and_then (λ q. Some (form.Until n k q))) g

session-some : (b d a : List ℕ) (n : ℕ) → name_of b ≡ Some a → node_of d ≡ Some n → session b d ≡ Some (form.Session a n)
unfolding session
session-some b d a n e f =
    ap (option_and_then (λ m. option_and_then (λ q. Some (form.Session m q)) (node_of d))) e
    ∙ ap (option_and_then (λ q. Some (form.Session a q))) f

timeout-some : (b a : List ℕ) → name_of b ≡ Some a → timeout b ≡ Some (form.Timeout a)
unfolding timeout
timeout-some b a e = ap (option_and_then (λ m. Some (form.Timeout m))) e

-- words that spell a form are read as it
pub worded-complete : (f : Form) (ws : List (List ℕ)) → ws ≢ [] → AreSpelled (pieces f) ws → worded ws ≡ Some f
unfolding two three four
worded-complete (form.Lone v) ws some h = lone-one v ws h
worded-complete (form.Numbered v n) ws some h = two_words (Text (number_word v)) (Number n) ws (λ q. worded q ≡ Some (form.Numbered v n)) (λ a b e f. ap (λ (w : List ℕ). two w b) e ∙ numbered-two v b n f) h
worded-complete (form.OfNode v n) ws some h = node-one v n ws h
worded-complete (form.OfSlab v k) ws some h = three_words (Text (slab_word v)) (Text (codes "slab")) (Number k) ws (λ q. worded q ≡ Some (form.OfSlab v k)) (λ a b c e f g. ap (λ (w : List ℕ). three w b c) e ∙ ap (λ (w : List ℕ). three (slab_word v) w c) f ∙ slab-three v c k g) h
worded-complete (form.Evict n p) ws some h = three_words (Text (codes "evict")) (Node n) (Number p) ws (λ q. worded q ≡ Some (form.Evict n p)) (λ a b c e f g. ap (λ (w : List ℕ). three w b c) e ∙ evict-some b c n p f g) h
worded-complete (form.Timeout a) ws some h = two_words (Text (codes "timeout")) (Name a) ws (λ q. worded q ≡ Some (form.Timeout a)) (λ w b e f. ap (λ (x : List ℕ). two x b) e ∙ timeout-some b a f) h
worded-complete (form.Until n k r) ws some h = four_words (Text (codes "until")) (Node n) (Text (kind_word k)) (Number r) ws (λ q. worded q ≡ Some (form.Until n k r)) (λ a b c d e f g i. ap (λ (w : List ℕ). four w b c d) e ∙ until-some b c d n k r f g i) h
worded-complete (form.Session a n) ws some h = four_words (Text (codes "session")) (Name a) (Text (codes "on")) (Node n) ws (λ q. worded q ≡ Some (form.Session a n)) (λ w b c d e f g i. ap (λ (x : List ℕ). four x b c d) e ∙ ap (λ (x : List ℕ). four (codes "session") b x d) g ∙ session-some b d a n f i) h
worded-complete (form.Submit a t) [] some h = absurd (some refl)
worded-complete (form.Submit a t) (w ∷ ws) some h = absurd h
