-- A change of one node at one page is a change of one part of one page.
use Rattle.std.proofs.Common.{◌≡◌, ◌≢◌, ℕ, Bool, true, false, nat_eq, eqb-true, if◌then◌else◌, refl, sym, subst, ap, ◌∙◌, arith}
use Rattle.node_model.specs.Call.{Call}
use Rattle.node_model.specs.Node.{Node}
use Rattle.page_coherence.specs.Page.{Page, set_node}
use Rattle.coherent_pool.specs.declared.node.PoolNode.{PoolNode}
use Rattle.coherent_pool.specs.Node.{node_at, Others}
use Rattle.coherent_pool.specs.Joined.{SeesNode, NodeChanges}

-- a choice by a test that holds, or does not
pub chosen : {A : Type 0} (b : Bool) (x y : A) → b ≡ true → (if b then x else y) ≡ x
chosen true x y h = refl
chosen false x y h = absurd (cc)

pub unchosen : {A : Type 0} (b : Bool) (x y : A) → b ≡ false → (if b then x else y) ≡ y
unchosen false x y h = refl
unchosen true x y h = absurd (cc)

pub itself : (n : ℕ) → nat_eq n n ≡ true
itself n = grind arith

pub apart : (m n : ℕ) → m ≢ n → nat_eq m n ≡ false
apart m n h = grind arith

pub unequal : (m n : ℕ) → nat_eq m n ≡ false → m ≢ n
unequal m n h = grind (arith, h)

own_at : (n p : ℕ) (N M : PoolNode) (calls after : ℕ → Call) (pages : ℕ → Page) (X : Node) → ((q : ℕ) → q ≢ p → after q ≡ calls q)
    → SeesNode n N calls pages → Others p N M → node_at M p (after p) ≡ X
    → (q : ℕ) (b : Bool) → nat_eq q p ≡ b → (let Q : Page = if b then set_node (pages p) n X else pages q in Q.node n) ≡ node_at M q (after q)
own_at n p N M calls after pages X same sees others is q true t =
    let here : q ≡ p = eqb-true q p t in
    chosen (nat_eq n n) X ((pages p).node n) (itself n) ∙ (sym is ∙ subst (λ (z : ℕ). node_at M p (after p) ≡ node_at M z (after z)) (sym here) refl)
own_at n p N M calls after pages X same sees others is q false t =
    let ne : q ≢ p = unequal q p t in
    sees.each q ∙ (ap (λ (c : Call). node_at N q c) (sym (same q ne)) ∙ sym (others.each q (after q) ne))

theirs_at : (n p m : ℕ) (K : PoolNode) (theirs : ℕ → Call) (pages : ℕ → Page) (X : Node) → m ≢ n → SeesNode m K theirs pages
    → (q : ℕ) (b : Bool) → nat_eq q p ≡ b → (let Q : Page = if b then set_node (pages p) n X else pages q in Q.node m) ≡ node_at K q (theirs q)
theirs_at n p m K theirs pages X ne sees q true t =
    let here : q ≡ p = eqb-true q p t in
    unchosen (nat_eq m n) X ((pages p).node m) (apart m n ne) ∙ (sees.each p ∙ subst (λ (z : ℕ). node_at K p (theirs p) ≡ node_at K z (theirs z)) (sym here) refl)
theirs_at n p m K theirs pages X ne sees q false t = sees.each q

pub node_changes : (n p : ℕ) (N M : PoolNode) (calls : ℕ → Call) (pages : ℕ → Page) (X : Node) → NodeChanges n p N M calls pages X
node_changes n p N M calls pages X = record {
  own = λ after same sees others is. record { each = λ q. own_at n p N M calls after pages X same sees others is q (nat_eq q p) refl };
  others = λ m K theirs ne sees. record { each = λ q. theirs_at n p m K theirs pages X ne sees q (nat_eq q p) refl };
}
