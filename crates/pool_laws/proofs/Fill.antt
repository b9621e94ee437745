-- For the proofs: pages and logs with and without what the messages say.
use Rattle.std.proofs.Common.{◌≡◌, ℕ, Bool, true, false, if◌then◌else◌, nat_eq, refl, sym, ap, ◌∙◌, eqb-true}
use mathlib.Core.Path.{fun_ext}
use Rattle.home_model.specs.Numbered.{put}
use Rattle.node_model.specs.Call.{Call, Call.Quiet}
use Rattle.node_model.specs.Node.{Node}
use Rattle.node_model.specs.Learning.{calls}
use Rattle.page_coherence.specs.Page.{Page, set_node}
use Rattle.page_coherence.specs.Cluster.{State as Pages}
use Rattle.call_model.specs.Laws.{stage_of}
use Rattle.pool_laws.specs.Calls.{call_seen, append_seen}
use Rattle.pool_laws.specs.Pool.{Pool, with_calls, no_calls, with_append, pages_seen, log_seen, bare}
use Rattle.pool_laws.specs.Serving.{at_pages}

-- pages with the calls that they have
pub with_calls-own : (s : Pages) (c : ℕ → ℕ → Call) → ((p n : ℕ) → ((s.page p).node n).call ≡ c p n) → with_calls c s ≡ s
with_calls-own s c h =
    let e : c ≡ (λ p n. ((s.page p).node n).call) = fun_ext (λ p. fun_ext (λ n. sym (h p n))) in
    ap (λ (d : ℕ → ℕ → Call). with_calls d s) e

module _ {G : Type 0} where
  -- what is seen of a pool whose pages are those of t up to the calls, and whose messages say the calls of t
  pub pages_seen-as : (z : Pool G) (t : Pages) → with_calls no_calls z.pages ≡ with_calls no_calls t
      → ((p n : ℕ) → ((t.page p).node n).call ≡ call_seen p (stage_of z.home n) (stage_of z.storage n)) → pages_seen (bare z) ≡ t
  pages_seen-as z t q h =
      let c : ℕ → ℕ → Call = λ p n. call_seen p (stage_of z.home n) (stage_of z.storage n) in
      let e : with_calls c (with_calls no_calls z.pages) ≡ with_calls c (with_calls no_calls t) = ap (λ (s : Pages). with_calls c s) q in
      let f : with_calls c t ≡ t = with_calls-own t c h in
      e ∙ f

  pub log_seen-as : (z : Pool G) → z.log.append ≡ append_seen z.log.epoch (stage_of z.storage z.pages.rw) → log_seen (bare z) ≡ z.log
  log_seen-as z e = ap (λ a. with_append a z.log) (sym e)

-- a change of a call alone is not seen without the calls
quiet_node : (P : Page) (n : ℕ) (k : Call) (m : ℕ) (b : Bool) → nat_eq m n ≡ b
    → (let N : Node = if b then calls (P.node n) k else P.node m in record N { call = Quiet }) ≡ (let N : Node = P.node m in record N { call = Quiet })
quiet_node P n k m true e = ap (λ (z : ℕ). let N : Node = P.node z in record N { call = Quiet }) (sym (eqb-true m n e))
quiet_node P n k m false e = refl

abbrev quiet : Page → Page
quiet P = record P { node = λ m. record (P.node m) { call = Quiet } }

quiet_page : (P : Page) (n : ℕ) (k : Call) → quiet (set_node P n (calls (P.node n) k)) ≡ quiet P
quiet_page P n k = ap (λ (g : ℕ → Node). record P { node = g }) (fun_ext (λ m. quiet_node P n k m (nat_eq m n) refl))

pub quiet-at : (ps : ℕ → Bool) (n : ℕ) (k : Page → Call) (s : Pages)
    → with_calls no_calls (at_pages ps (λ P. set_node P n (calls (P.node n) (k P))) s) ≡ with_calls no_calls s
quiet-at ps n k s = ap (λ (g : ℕ → Page). record s { page = g }) (fun_ext (λ p. chosen p (ps p)))
  where
    chosen : (p : ℕ) (b : Bool) → quiet (if b then set_node (s.page p) n (calls ((s.page p).node n) (k (s.page p))) else s.page p) ≡ quiet (s.page p)
    chosen p true = quiet_page (s.page p) n (k (s.page p))
    chosen p false = refl

-- a change at one page is the change at the pages that are this one
pub put-at : (s : Pages) (p : ℕ) (f : Page → Page) → record s { page = put s.page p (f (s.page p)) } ≡ at_pages (λ q. nat_eq q p) f s
put-at s p f = ap (λ (g : ℕ → Page). record s { page = g }) (fun_ext (λ q. chosen q (nat_eq q p) refl))
  where
    chosen : (q : ℕ) (b : Bool) → nat_eq q p ≡ b → (if b then f (s.page p) else s.page q) ≡ (if b then f (s.page q) else s.page q)
    chosen q true e = ap (λ z. f (s.page z)) (sym (eqb-true q p e))
    chosen q false e = refl
