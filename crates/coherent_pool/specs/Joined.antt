-- Stated: pages of the law that have what a node keeps of them, and what one change at one page makes of them.
use Rattle.std.specs.Prelude.{◌≡◌, ◌≢◌, ℕ}
use Rattle.home_model.specs.Numbered.{put}
use Rattle.home_tables.specs.Home.{HomeState, entry_at}
use Rattle.node_model.specs.Call.{Call, is_of_work}
use Rattle.node_model.specs.Node.{Node}
use Rattle.node_model.specs.Learning.{calls as with_call}
use Rattle.page_coherence.specs.Page.{Page, set_node}
use Rattle.coherent_pool.specs.declared.node.PoolNode.{PoolNode}
use Rattle.coherent_pool.specs.Node.{node_at, Others}

-- each page has of node n what N keeps of it, where the messages show these calls of the node about it
pub record SeesNode (n : ℕ) (N : PoolNode) (calls : ℕ → Call) (pages : ℕ → Page) : Type 0 where
  pub each : (p : ℕ) → (pages p).node n ≡ node_at N p (calls p)

-- what node n keeps of page p is X, and all else stays
abbrev pub node_changed : (ℕ → Page) → (p n : ℕ) → Node → ℕ → Page
node_changed pages p n X = put pages p (set_node (pages p) n X)

-- a node that changes at one page changes its part of that page, and no other node's
pub record NodeChanges (n p : ℕ) (before now : PoolNode) (calls : ℕ → Call) (pages : ℕ → Page) (X : Node) : Type 0 where
  -- the node's call about the page may be another one then
  pub own : (after : ℕ → Call) → ((q : ℕ) → q ≢ p → after q ≡ calls q)
      → SeesNode n before calls pages → Others p before now → node_at now p (after p) ≡ X
      → SeesNode n now after (node_changed pages p n X)
  pub others : (m : ℕ) (other : PoolNode) (theirs : ℕ → Call) → m ≢ n → SeesNode m other theirs pages
      → SeesNode m other theirs (node_changed pages p n X)

-- ---------------- the home's part

-- each page has the entry that the home has of it
pub record SeesHome (H : HomeState) (pages : ℕ → Page) : Type 0 where
  pub each : (p : ℕ) → (pages p).entry ≡ entry_at H p

-- page p becomes Q, and every other page stays
abbrev pub page_changed : (ℕ → Page) → ℕ → Page → ℕ → Page
page_changed pages p Q = put pages p Q

-- the home changes its entry of page p alone, to the one of Q
abbrev pub EntryBecomes : (p : ℕ) → HomeState → HomeState → Page → Type 0
EntryBecomes p before now Q = entry_at now ≡ put (entry_at before) p Q.entry

-- what node m keeps of the page is in Q as it is in P
abbrev pub SameFor : ℕ → Page → Page → Type 0
SameFor m P Q = Q.node m ≡ P.node m

-- the call of node n about the page has this answer in Q, and nothing else of the node changed
abbrev pub IsAnswered : ℕ → Call → Page → Page → Type 0
IsAnswered n told P Q = Q.node n ≡ with_call (P.node n) told

-- the home handled a call of node n about page p, which became Q
pub record HomeChanges (n p : ℕ) (before now : HomeState) (pages : ℕ → Page) (Q : Page) : Type 0 where
  pub own : page_changed pages p Q p ≡ Q
  pub own_at : SeesHome before pages → EntryBecomes p before now Q → SeesHome now (page_changed pages p Q)
  -- the nodes that did not ask
  pub nodes : (m : ℕ) (other : PoolNode) (theirs : ℕ → Call) → SameFor m (pages p) Q → SeesNode m other theirs pages
      → SeesNode m other theirs (page_changed pages p Q)
  -- the node that asked: its call has the answer, and it keeps what it kept
  pub asker : (N : PoolNode) (calls : ℕ → Call) (told : Call) → is_of_work told ≡ is_of_work (calls p)
      → IsAnswered n told (pages p) Q → SeesNode n N calls pages → SeesNode n N (put calls p told) (page_changed pages p Q)
  pub rest : (q : ℕ) → q ≢ p → page_changed pages p Q q ≡ pages q
