-- For the proofs: the laws, from what holds in every state.
use Rattle.std.proofs.Common.{ℕ, List, [], ◌∷◌, ◌++◌, sym, ◌∙◌, ap, append_assoc, append-nil}
use Rattle.redo_durability.specs.Store.{Store}
use Rattle.redo_durability.specs.Machine.{State, start, pending, Event, Event.Install, Event.Send, Event.Handle, Event.Late, Event.Accept, Event.Crash, Event.End, Event.Fence, Event.Tail, Event.Sweep, Happens}
use Rattle.redo_durability.specs.Laws.{IsFront, Reaches, StoreIsAFront, OpenLogIsWhole, NoneIsRefused, OlderChangeNothing, StoreGrows, AcknowledgedLasts}
use Rattle.redo_durability.proofs.Durable.{Durable, durable-start, durable-run, right-answer, older-received, received-grows}

module _ {G : Type 0} where
  front-itself : (xs : List G) → IsFront xs xs
  front-itself xs = ([], sym (append-nil xs))

  front-on : (xs ys zs : List G) → IsFront xs ys → IsFront ys zs → IsFront xs zs
  front-on xs ys zs a b = (a.0 ++ b.0, b.1 ∙ ap (λ (x : List G). x ++ b.0) a.1 ∙ append_assoc xs a.0 b.0)

  holds : (size : G → ℕ) (log : List G) (events : List (Event G)) (s : State G) → Reaches size log events s → Durable size s
  holds size log events s r = durable-run size (start size log) s events (durable-start size log) r

  front-of : (size : G → ℕ) (s : State G) → Durable size s → IsFront s.store.groups s.made
  front-of size s d = (pending s.append ++ d.front.0, d.front.1)

  pub store_is_a_front : StoreIsAFront G
  store_is_a_front size log events s r = front-of size s (holds size log events s r)

  pub open_log_is_whole : OpenLogIsWhole G
  open_log_is_whole size log events s r = (holds size log events s r).whole

  pub none_is_refused : NoneIsRefused G
  none_is_refused size log events s r =
      let d = holds size log events s r in
      (λ e o gs h. let t = d.sent e o gs h in right-answer size s.store e o gs t.0 t.1, λ gs a h. (d.answered gs a h).0)

  pub older_change_nothing : OlderChangeNothing G
  older_change_nothing size s t e o gs h = h.1 ∙ ap (λ (x : Store G). record s { store = x }) (older-received size s.store e o gs h.0)

  -- ---- the store grows
  grows : (size : G → ℕ) (e : Event G) (s t : State G) → Happens size e s t → IsFront s.store.groups t.store.groups
  grows size (Install g) s t h = rw h.1 (front-itself s.store.groups)
  grows size Send s t h = rw h.3 (front-itself s.store.groups)
  grows size Handle s t h = rw h.4 (received-grows size s.store h.0 h.1 h.2)
  grows size (Late e o gs) s t h = rw h.1 (received-grows size s.store e o gs)
  grows size Accept s t h = rw h.4 (front-itself s.store.groups)
  grows size Crash s t h = rw h.1 (front-itself s.store.groups)
  grows size End s t h = rw h.1 (front-itself s.store.groups)
  grows size (Fence e) s t h = rw h.1 (front-itself s.store.groups)
  grows size Tail s t h = rw h.1 (front-itself s.store.groups)
  grows size Sweep s t h = rw h.1 (front-itself s.store.groups)

  pub store_grows : StoreGrows G
  store_grows size s t [] h = rw h (front-itself s.store.groups)
  store_grows size s t (e ∷ es) h =
      front-on s.store.groups h.0.store.groups t.store.groups (grows size e s h.0 h.1) (store_grows size h.0 t es h.2)

  pub acknowledged_lasts : AcknowledgedLasts G
  acknowledged_lasts size log events more s t r h =
      let d = holds size log events s r in
      let a = front-on s.acknowledged s.store.groups t.store.groups d.known (store_grows size s t more h) in
      (a, front-on s.acknowledged t.store.groups t.made a (front-of size t (durable-run size s t more d h)))
