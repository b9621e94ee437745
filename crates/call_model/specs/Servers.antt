-- Stated: what a server keeps of each node, which calls it admits, and what its calls do to it.
use Rattle.std.specs.Prelude.{ℕ, Option, Some, None, if◌then◌else◌, nat_eq, nat_lt}
use Rattle.call_model.specs.Callers.{Label}

-- f with the value v at n
abbrev pub put : {A : Type 0} → (ℕ → A) → ℕ → A → ℕ → A
put f n v = λ m. if nat_eq m n then v else f m

-- what a server keeps of a node: the newest incarnation that it knows, and the last call of it that it handled, with
-- its reply; number 0 and no reply where it handled none
pub record Memory (R : Type 0) : Type 0 where
  pub incarnation : ℕ
  pub number : ℕ
  pub reply : Option R

pub record Server (R : Type 0) : Type 0 where
  pub epoch : ℕ
  pub memory : ℕ → Memory R

-- what a server says to a call: it is of an older epoch than the server's; it is of an older incarnation or number;
-- it is the last one that was handled; it is new
pub data Admission : Type 0 where
  Fenced : (epoch : ℕ) → Admission
  Old : Admission
  Again : Admission
  New : Admission

-- by the number, in the incarnation that is known
abbrev pub by_number : {R : Type 0} → Option R → (last number : ℕ) → Admission
by_number None last k = New
by_number (Some r) last k = if nat_lt k last then Old else (if nat_eq k last then Again else New)

-- by the incarnation, in an epoch that is not older
abbrev pub by_incarnation : {R : Type 0} → Memory R → Label → Admission
by_incarnation m l =
    if nat_lt l.incarnation m.incarnation then Old else
    (if nat_eq l.incarnation m.incarnation then by_number m.reply m.number l.number else New)

abbrev pub admit : {R : Type 0} → Server R → Label → Admission
admit s l = if nat_lt l.epoch s.epoch then Fenced s.epoch else by_incarnation (s.memory l.node) l

abbrev pub nothing_of : {R : Type 0} → ℕ → Memory R
nothing_of i = record { incarnation = i; number = 0; reply = None }

abbrev pub new_server : {R : Type 0} → ℕ → Server R
new_server e = record { epoch = e; memory = λ n. nothing_of 0 }

-- the call was handled with this reply
abbrev pub keeping : {R : Type 0} → Server R → Label → R → Server R
keeping s l r =
    record s { memory = put s.memory l.node (record { incarnation = l.incarnation; number = l.number; reply = Some r }) }

abbrev pub fenced : {R : Type 0} → Server R → ℕ → Server R
fenced s e = record s { epoch = e }

-- a newer incarnation of the node is known, of which nothing was handled
abbrev pub forgetting : {R : Type 0} → Server R → (n incarnation : ℕ) → Server R
forgetting s n i = record s { memory = put s.memory n (nothing_of i) }
