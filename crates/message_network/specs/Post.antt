-- Stated: the messages that were sent, by their numbers, and those that are not noted as delivered.
use Rattle.std.specs.Prelude.{◌≡◌, ◌≤◌, ◌+◌, ℕ, zero, suc, Bool, true, Option, None, List, [], ◌∷◌, ◌++◌, length, slice_get, map, IfSome}
use Rattle.std.specs.List.{list_any}
use Rattle.std.specs.Ordering.{nat_cmp}
use Rattle.std.specs.BTreeMap.{is_at}
use Rattle.message_network.specs.declared.messages.Draft.{Draft}
use Rattle.message_network.specs.declared.messages.Message.{Message}

-- the messages in the order of sending, and the numbers of those that are not noted
pub record Post : Type 0 where
  pub messages : List Message
  pub fresh : List ℕ

-- how many were sent
abbrev pub count_of : Post → ℕ
count_of post = length post.messages

-- number k was sent: numbers begin at 1 and have no gaps
abbrev pub IsSent : Post → ℕ → Type 0
IsSent post k = (1 ≤ k) × (k ≤ count_of post)

-- message number k
abbrev pub message_at : Post → ℕ → Option Message
message_at post zero = None
message_at post (suc i) = slice_get post.messages i

-- the messages after this one was sent with number k
abbrev pub with_message : Post → ℕ → Draft → List Message
with_message post k draft = post.messages ++ record { no = k; draft = draft } ∷ []

-- number k is one of a sent message that is not noted as delivered
abbrev pub is_new : Post → ℕ → Bool
is_new post k = list_any (is_at (nat_cmp k)) post.fresh

-- k is the least number from `from` on of a message that is not noted
pub record IsNextNew (post : Post) (from k : ℕ) : Type 0 where
  pub new : is_new post k ≡ true
  pub above : from ≤ k
  pub least : (j : ℕ) → from ≤ j → is_new post j ≡ true → k ≤ j

abbrev pub draft_of : Message → Draft
draft_of m = m.draft

-- what was sent, in the order of sending
abbrev pub drafts_of : Post → List Draft
drafts_of post = map draft_of post.messages

-- the one with number k
abbrev pub draft_at : List Draft → ℕ → Option Draft
draft_at drafts zero = None
draft_at drafts (suc i) = slice_get drafts i

-- each message carries its number, and only sent messages are not noted
pub record IsPost (messages : List Message) (fresh : List ℕ) : Type 0 where
  pub numbered : (i : ℕ) → IfSome (slice_get messages i) (λ m. m.no ≡ i + 1)
  pub sent : (k : ℕ) → list_any (is_at (nat_cmp k)) fresh ≡ true → (1 ≤ k) × (k ≤ length messages)
