-- Stated: the calls that the home handles change the entry of one page, and of what nodes keep only the call of the node that asked.
use Rattle.std.specs.Prelude.{◌≡◌, ◌≢◌, ℕ, true, false}
use Rattle.page_image.specs.Image.{Image}
use Rattle.home_model.specs.Entry.{Entry, registered, unregistered, invalidated, told_address}
use Rattle.node_model.specs.Call.{Call, Call.ToldRegistered, Call.ToldUnregistered, Call.ToldDone, Call.ToldStarted}
use Rattle.page_coherence.specs.Page.{Page}
use Rattle.page_coherence.specs.Moves.{handled_register, handled_unregister, handled_invalidate, fresh_of}
use Rattle.coherent_pool.specs.Joined.{SameFor, IsAnswered}

-- the entry is E in Q, the call of node n has this answer, and no other node's part changed
pub record Answers (n : ℕ) (told : Call) (E : Entry) (P Q : Page) : Type 0 where
  pub entry : Q.entry ≡ E
  pub asker : IsAnswered n told P Q
  pub others : (m : ℕ) → m ≢ n → SameFor m P Q

pub record HomeAnswers (n : ℕ) (P : Page) : Type 0 where
  pub register : (w fresh : ℕ) (image : Image)
      → Answers n (ToldRegistered (told_address P.entry fresh)) (registered P.entry w fresh n) P (handled_register P w fresh image n)
  pub unregister : Answers n ToldUnregistered (unregistered P.entry n) P (handled_unregister P n)
  pub done : Answers n ToldDone (invalidated P.entry (fresh_of P) n) P (handled_invalidate P n true)
  pub started : Answers n ToldStarted (invalidated P.entry (fresh_of P) n) P (handled_invalidate P n false)
