-- Stated: one page as all parts of the cluster see it.
use Rattle.std.specs.Prelude.{◌≡◌, ◌≢◌, ℕ, Bool, true, false, Some, List, []}
use Rattle.home_model.specs.Numbered.{put, nobody}
use Rattle.home_model.specs.Entry.{Entry, no_entry}
use Rattle.page_image.specs.Image.{Image, unmade}
use Rattle.node_model.specs.Call.{Call.Quiet}
use Rattle.node_model.specs.Node.{Node, blank}
use Rattle.page_coherence.specs.History.{current}

pub record Page : Type 0 where
  pub number : ℕ
  pub entry : Entry  -- the home's
  pub slot : Image  -- what stands at the entry's address
  pub dead : ℕ → Bool  -- the addresses whose slab went down
  pub log : List Image  -- its history in the RW's log
  pub node : ℕ → Node  -- what each node keeps of it

-- the image that is current
abbrev pub latest : Page → Image
latest P = current P.number P.log

abbrev pub HasX : Page → ℕ → Type 0
HasX P n = P.entry.latch.exclusive ≡ Some n

abbrev pub HasS : Page → ℕ → Type 0
HasS P n = P.entry.latch.shared n ≡ true

-- the slot at the address that the node keeps is there
abbrev pub Alive : Page → Node → Type 0
Alive P N = (a : ℕ) × (N.address ≡ Some a) × (P.dead a ≡ false)

-- something holds where that slot is there
abbrev pub WhereAlive : Page → Node → Type 0 → Type 0
WhereAlive P N X = (a : ℕ) → N.address ≡ Some a → P.dead a ≡ false → X

-- no node but n keeps a copy that it would use without a look
abbrev pub OthersStale : Page → ℕ → Type 0
OthersStale P n = (m : ℕ) → m ≢ n → (P.node m).kept ≡ true → (P.node m).stale ≡ true

-- what one node keeps is changed alone
abbrev pub set_node : Page → ℕ → Node → Page
set_node P n N = record P { node = put P.node n N }

-- the entry alone is changed
abbrev pub set_entry : Page → Entry → Page
set_entry P E = record P { entry = E }

-- page p before anybody registered it
abbrev pub new_page : ℕ → Page
new_page p = record {
  number = p;
  entry = no_entry;
  slot = unmade p;
  dead = nobody;
  log = [];
  node = λ n. blank true Quiet;
}
