-- Stated: the calls of a node to the home and to storage, as the model of calls has them, and what they ask.
use Rattle.std.specs.Prelude.{◌≡◌, ℕ, Bool, List, Option}
use Rattle.rm_base.specs.declared.places.Token.{Token}
use Rattle.call_model.specs.Callers.{Caller as Asking}
use Rattle.message_network.specs.CallerView.{caller_of, token_of}
use Rattle.message_network.specs.declared.calls.Ask.{Ask}
use Rattle.message_network.specs.declared.calls.Ask.TheVariants.{Register as AskRegister, Unregister as AskUnregister, Invalidate, Append, Get}
use Rattle.message_network.specs.declared.messages.Body.TheVariants.{Ask as Asked}
use Rattle.message_network.specs.declared.messages.Draft.{Draft}
use Rattle.message_network.specs.declared.messages.Party.TheVariants.{Node, Home, Storage}
use Rattle.coherent_pool.specs.declared.calls.NodeCalls.{NodeCalls}
use Rattle.coherent_pool.specs.declared.calls.PageAsk.{PageAsk}
use Rattle.coherent_pool.specs.declared.calls.HomeAsk.{HomeAsk}
use Rattle.coherent_pool.specs.declared.calls.HomeAsk.TheVariants.{Register, Unregister}

-- the node's caller of the home, and that of storage
abbrev pub home_of : NodeCalls → Asking
home_of c = caller_of c.home

abbrev pub storage_of : NodeCalls → Asking
storage_of c = caller_of c.storage

-- what the unanswered call asks
abbrev pub home_ask_of : NodeCalls → Option HomeAsk
home_ask_of c = c.home_ask

abbrev pub page_ask_of : NodeCalls → Option PageAsk
page_ask_of c = c.page_ask

-- the unanswered call to the home asks to invalidate pages
abbrev pub invalidates_in : NodeCalls → Bool
invalidates_in c = c.invalidates

-- where the bytes of the unanswered append are to stand in the log
abbrev pub append_of : NodeCalls → Option ℕ
append_of c = c.append

-- who asks
abbrev pub token_in : NodeCalls → Token
token_in c = token_of c.home

abbrev pub token_of_storage : NodeCalls → Token
token_of_storage c = token_of c.storage

-- ---------------- what is sent

abbrev pub asked_of : HomeAsk → Ask
asked_of (Register page) = AskRegister page
asked_of (Unregister page) = AskUnregister page

abbrev pub home_draft : Token → ℕ → HomeAsk → Draft
home_draft token number ask =
    record { from = Node token.node; to = Home; token = token; call = number; body = Asked (asked_of ask) }

abbrev pub page_draft : Token → ℕ → (page floor : ℕ) → Draft
page_draft token number page floor =
    record { from = Node token.node; to = Storage; token = token; call = number; body = Asked (Get page floor) }

abbrev pub invalidate_draft : Token → ℕ → List ℕ → Draft
invalidate_draft token number pages =
    record { from = Node token.node; to = Home; token = token; call = number; body = Asked (Invalidate pages) }

abbrev pub append_draft : Token → ℕ → ℕ → List ℕ → Draft
append_draft token number offset bytes =
    record { from = Node token.node; to = Storage; token = token; call = number; body = Asked (Append offset bytes) }

-- ---------------- what stays

pub record SameStorage (before now : NodeCalls) : Type 0 where
  pub caller : storage_of now ≡ storage_of before
  pub ask : page_ask_of now ≡ page_ask_of before
  pub append : append_of now ≡ append_of before
  pub token : token_of_storage now ≡ token_of_storage before

pub record SameHome (before now : NodeCalls) : Type 0 where
  pub caller : home_of now ≡ home_of before
  pub ask : home_ask_of now ≡ home_ask_of before
  pub invalidates : invalidates_in now ≡ invalidates_in before
  pub token : token_in now ≡ token_in before
