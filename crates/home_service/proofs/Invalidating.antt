-- `invalidate` in the words of the laws of the pool.
use Rattle.std.proofs.Common.{◌≡◌, ◌<◌, ℕ, suc, Bool, true, false, cond, nat_eq, eqb-true, ◌||◌, List, [], ◌∷◌, length, get_or, refl, sym, ap, subst, ◌∙◌, arith}
use mathlib.Core.Path.{fun_ext}
use Rattle.call_model.specs.Callers.{Label}
use Rattle.call_model.specs.Stages.{Effect.Handles as HandlesCall}
use Rattle.message_network.specs.declared.calls.Reply.{Reply}
use Rattle.message_network.specs.declared.calls.Reply.TheVariants.{Registered, PoolFull, Unregistered, Started, Done, Appended, Got, Fenced}
use Rattle.home_model.specs.Entry.{Entry as HomeEntry, invalidated, due_beside}
use Rattle.page_latches.specs.Set.{has}
use Rattle.slab_node.specs.Slab.{SlabState}
use Rattle.home_tables.specs.Home.{entry_at}
use Rattle.rmem_calls.specs.Invalidating.{invalidated_all, is_among, AreApart, due_pairs, InvalidateAnswers}
use Rattle.rmem_calls.proofs.EachPage.{others_stay, each_changes, none_due}
use Rattle.page_coherence.specs.Moves.{fresh_of, handled_invalidate}
use Rattle.page_coherence.specs.Cluster.{State as Pages}
use Rattle.pool_laws.specs.Calls.{HomeCall.InvalidatePages}
use Rattle.pool_laws.specs.Serving.{at_pages, Serves}
use Rattle.home_service.specs.HomeSide.{HomeSide}
use Rattle.home_service.specs.Serving.{HandlesInvalidate}
use Rattle.home_service.specs.Joining.{AreParts, Sees, AreClear, among, answer_as, is_done}

-- the place of a page among pages
pub record IsAt (q : ℕ) (pages : List ℕ) : Type 0 where
  pub place : ℕ
  pub within : place < length pages
  pub page : get_or pages place 0 ≡ q

pub place_of : (q : ℕ) (pages : List ℕ) → is_among q pages ≡ true → IsAt q pages
place_of q [] h = absurd cc
place_of q (p ∷ pages) h = by (λ k. place_of q pages k) (nat_eq q p) refl h
  where
    by : (is_among q pages ≡ true → IsAt q pages) → (b : Bool) → nat_eq q p ≡ b → (b || is_among q pages) ≡ true → IsAt q (p ∷ pages)
    by later true same h = record { place = 0; within = omega arith; page = sym (eqb-true q p same) }
    by later false other h =
        let rest = later h in
        let within = rest.within in
        record { place = suc rest.place; within = omega arith; page = rest.page }

-- what a page of the call becomes
changed : (s : Pages) (S T : HomeSide) (l : Label) (pages : List ℕ) (clear : List (List ℕ)) (r : Reply) (q : ℕ) → Sees s S → AreApart pages
    → AreClear s pages clear → HandlesInvalidate l pages clear S r T → is_among q pages ≡ true
    → entry_at T.home q ≡ invalidated (s.page q).entry (fresh_of (s.page q)) l.node
changed s S T l pages clear r q sees apart beside h is =
    let at = place_of q pages is in
    let each = each_changes (entry_at S.home) l.node pages clear at.place apart beside.size at.within in
    ap (λ (g : ℕ → HomeEntry). g q) h.entries
    ∙ ap (invalidated_all (entry_at S.home) l.node pages clear) (sym at.page)
    ∙ each
    ∙ ap (λ (k : ℕ). invalidated (entry_at S.home k) (has (get_or clear at.place [])) l.node) at.page
    ∙ ap (λ (fresh : ℕ → Bool). invalidated (entry_at S.home q) fresh l.node) (fun_ext (λ m. beside.each at.place m at.within) ∙ ap (λ (k : ℕ). fresh_of (s.page k)) at.page)
    ∙ ap (λ (E : HomeEntry). invalidated E (fresh_of (s.page q)) l.node) (sym (sees.entries q))

there_all : (s : Pages) (S : HomeSide) (pages : List ℕ) → Sees s S → ((i : ℕ) → i < length pages → (entry_at S.home (get_or pages i 0)).there ≡ true)
    → (q : ℕ) → is_among q pages ≡ true → (s.page q).entry.there ≡ true
there_all s S pages sees there q is =
    let at = place_of q pages is in
    ap (λ (E : HomeEntry). E.there) (sees.entries q) ∙ ap (λ (k : ℕ). (entry_at S.home k).there) (sym at.page) ∙ there at.place at.within

none_left : (s : Pages) (S T : HomeSide) (l : Label) (pages : List ℕ) (clear : List (List ℕ)) (r : Reply) → Sees s S → AreApart pages → AreClear s pages clear
    → HandlesInvalidate l pages clear S r T → due_pairs T.home pages ≡ 0
    → (q m : ℕ) → is_among q pages ≡ true → due_beside (s.page q).entry (fresh_of (s.page q)) l.node m ≡ false
none_left s S T l pages clear r sees apart beside h none q m is =
    let at = place_of q pages is in
    let due : (entry_at T.home q).due m ≡ false = ap (λ (k : ℕ). (entry_at T.home k).due m) (sym at.page) ∙ none_due T.home pages at.place m none at.within in
    sym (ap (λ (E : HomeEntry). E.due m) (changed s S T l pages clear r q sees apart beside h is)) ∙ due

serves_by : (s : Pages) (S T : HomeSide) (l : Label) (pages : List ℕ) (clear : List (List ℕ)) (r : Reply) → Sees s S → AreApart pages → AreClear s pages clear
    → HandlesInvalidate l pages clear S r T → ((i : ℕ) → i < length pages → (entry_at S.home (get_or pages i 0)).there ≡ true)
    → InvalidateAnswers (due_pairs T.home pages) r
    → Serves (HandlesCall l.node (InvalidatePages (among pages)) (answer_as r)) s (at_pages (among pages) (λ P. handled_invalidate P l.node (is_done r)) s)
serves_by s S T l pages clear Done sees apart beside h there answer = (
  (λ q is. (there_all s S pages sees there q is, λ m. none_left s S T l pages clear Done sees apart beside h answer q m is)),
  refl,
)
serves_by s S T l pages clear (Started count) sees apart beside h there answer = (there_all s S pages sees there, refl)
serves_by s S T l pages clear (Registered a bit floor) sees apart beside h there answer = absurd answer
serves_by s S T l pages clear (PoolFull slots) sees apart beside h there answer = absurd answer
serves_by s S T l pages clear Unregistered sees apart beside h there answer = absurd answer
serves_by s S T l pages clear (Appended reply) sees apart beside h there answer = absurd answer
serves_by s S T l pages clear (Got reply) sees apart beside h there answer = absurd answer
serves_by s S T l pages clear (Fenced epoch) sees apart beside h there answer = absurd answer

pub invalidate_serves : (s : Pages) (S T : HomeSide) (l : Label) (pages : List ℕ) (clear : List (List ℕ)) (r : Reply) → Sees s S → AreApart pages → AreClear s pages clear
    → ((i : ℕ) → i < length pages → (entry_at S.home (get_or pages i 0)).there ≡ true) → HandlesInvalidate l pages clear S r T
    → Serves (HandlesCall l.node (InvalidatePages (among pages)) (answer_as r)) s (at_pages (among pages) (λ P. handled_invalidate P l.node (is_done r)) s)
    × Sees (at_pages (among pages) (λ P. handled_invalidate P l.node (is_done r)) s) T
invalidate_serves s S T l pages clear r sees apart beside there h = (
  serves_by s S T l pages clear r sees apart beside h there h.answer,
  record {
    entries = λ q. by q (is_among q pages) refl;
    watermark = sees.watermark ∙ sym h.watermark;
    parts = subst (λ (slabs : List SlabState). AreParts slabs s.slots) (sym h.slabs) sees.parts;
  },
)
  where
    by : (q : ℕ) (b : Bool) → is_among q pages ≡ b → (cond b (handled_invalidate (s.page q) l.node (is_done r)) (s.page q)).entry ≡ entry_at T.home q
    by q true is = sym (changed s S T l pages clear r q sees apart beside h is)
    by q false is = sees.entries q ∙ sym (others_stay (entry_at S.home) l.node pages clear q is) ∙ ap (λ (g : ℕ → HomeEntry). g q) (sym h.entries)
