-- Stated: the RW's log, its append in flight and the log store, over crashes and takeovers.
use Rattle.std.specs.Prelude.{◌≡◌, ◌≢◌, ℕ, ◌+◌, ◌<◌, List, [], ◌∷◌, ◌++◌, if◌then◌else◌, sum_by, ◌⊎◌}
use Rattle.redo_durability.specs.Store.{Store, tail_of, Answer, answer_to, is_kept, received}

-- the append of the RW: none, one that the store has not handled yet, one that it has answered
pub data Append (G : Type 0) : Type 0 where
  NoAppend : Append G
  Sent : (epoch offset : ℕ) → List G → Append G
  Answered : List G → Answer → Append G

-- the RW is up; it is down; a fence has stopped all nodes; the next RW has learnt where the log ends
pub data Phase : Type 0 where
  Open : Phase
  Down : Phase
  Stopped : Phase
  Tailed : Phase

pub record State (G : Type 0) : Type 0 where
  pub store : Store G
  pub phase : Phase
  -- the RW's epoch
  pub epoch : ℕ
  -- the RW's log: what it began with and each group that it made
  pub made : List G
  -- the groups that are not sent yet, and where the next append is to begin
  pub buffer : List G
  pub next : ℕ
  pub append : Append G
  -- the groups that a RW knows to be in the store
  pub acknowledged : List G

abbrev pub start : {G : Type 0} → (G → ℕ) → List G → State G
start size log = record {
  store = record { epoch = 1; groups = log };
  phase = Open;
  epoch = 1;
  made = log;
  buffer = [];
  next = sum_by size log;
  append = NoAppend;
  acknowledged = log;
}

-- the groups of an append that the store has not handled
abbrev pub pending : {G : Type 0} → Append G → List G
pending NoAppend = []
pending (Sent e o groups) = groups
pending (Answered groups a) = []

pub data Event (G : Type 0) : Type 0 where
  -- the RW makes a group
  Install : G → Event G
  -- it sends what is in its buffer
  Send : Event G
  -- the store handles the append, whether its sender is up or not
  Handle : Event G
  -- an append of an older epoch reaches the store
  Late : (epoch offset : ℕ) → List G → Event G
  -- the RW accepts the answer
  Accept : Event G
  Crash : Event G
  -- the append of a RW that is down is handled no more
  End : Event G
  Fence : (epoch : ℕ) → Event G
  Tail : Event G
  Sweep : Event G

abbrev pub installed : {G : Type 0} → State G → G → State G
installed s g = record s { made = s.made ++ (g ∷ []); buffer = s.buffer ++ (g ∷ []) }

abbrev pub sending : {G : Type 0} → (G → ℕ) → State G → State G
sending size s = record s { append = Sent s.epoch s.next s.buffer; next = s.next + sum_by size s.buffer; buffer = [] }

abbrev pub handling : {G : Type 0} → (G → ℕ) → State G → (epoch offset : ℕ) → List G → State G
handling size s e o groups =
    record s { store = received size s.store e o groups; append = Answered groups (answer_to size s.store e o groups) }

abbrev pub accepting : {G : Type 0} → State G → List G → Answer → State G
accepting s groups a =
    record s { append = NoAppend; acknowledged = if is_kept a then s.acknowledged ++ groups else s.acknowledged }

abbrev pub crashed : {G : Type 0} → State G → State G
crashed s = record s { phase = Down; buffer = [] }

abbrev pub ended : {G : Type 0} → State G → State G
ended s = record s { append = NoAppend }

abbrev pub fenced : {G : Type 0} → State G → ℕ → State G
fenced s e = record s { store = record s.store { epoch = e }; phase = Stopped; buffer = []; append = NoAppend }

-- the RW's log is from here on what the store has
abbrev pub tailed : {G : Type 0} → State G → State G
tailed s = record s { phase = Tailed; made = s.store.groups; acknowledged = s.store.groups }

abbrev pub swept : {G : Type 0} → (G → ℕ) → State G → State G
swept size s = record s { phase = Open; epoch = s.store.epoch; next = tail_of size s.store }

-- an event leads from s to t
abbrev pub Happens : {G : Type 0} → (G → ℕ) → Event G → State G → State G → Type 0
Happens size (Install g) s t = (s.phase ≡ Open) × (t ≡ installed s g)
Happens size Send s t = (s.phase ≡ Open) × (s.append ≡ NoAppend) × (s.buffer ≢ []) × (t ≡ sending size s)
Happens {G = G} size Handle s t =
    (e : ℕ) × (o : ℕ) × (groups : List G) × (s.append ≡ Sent e o groups) × (t ≡ handling size s e o groups)
Happens size (Late e o groups) s t = (e < s.store.epoch) × (t ≡ record s { store = received size s.store e o groups })
Happens {G = G} size Accept s t =
    (s.phase ≡ Open) × (groups : List G) × (a : Answer) × (s.append ≡ Answered groups a) × (t ≡ accepting s groups a)
Happens size Crash s t = (s.phase ≡ Open) × (t ≡ crashed s)
Happens size End s t = (s.phase ≡ Down) × (t ≡ ended s)
Happens size (Fence e) s t = (s.store.epoch < e) × (t ≡ fenced s e)
Happens size Tail s t = ((s.phase ≡ Stopped) ⊎ (s.phase ≡ Tailed)) × (t ≡ tailed s)
Happens size Sweep s t = (s.phase ≡ Tailed) × (t ≡ swept size s)

-- a list of events leads from s to t
abbrev pub Run : {G : Type 0} → (G → ℕ) → State G → List (Event G) → State G → Type 0
Run size s [] t = t ≡ s
Run {G = G} size s (e ∷ es) t = (mid : State G) × Happens size e s mid × Run size mid es t
