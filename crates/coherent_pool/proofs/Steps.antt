-- What a node learns at one page, and that its rules stay.
use Rattle.std.proofs.Common.{◌≡◌, ◌≢◌, ℕ, Bool, true, false, nat_eq, eqb-true, refl, sym, ◌∙◌, ap, subst, arith}
use Rattle.page_image.specs.Image.{Image}
use Rattle.node_model.specs.Call.{Call, is_of_work}
use Rattle.fetch_steps.specs.declared.acts.Told.{Told}
use Rattle.coherent_pool.specs.declared.node.PoolNode.{PoolNode}
use Rattle.coherent_pool.specs.Node.{PageState, no_state, state_at, node_of, node_at, Changes, Others}
use Rattle.coherent_pool.specs.Keeping.{Agrees, IsNode}
use Rattle.coherent_pool.specs.Hearing.{heard, Hears}

pub kept_at : (p : ℕ) (T : PageState) (a b : PoolNode) → Changes p T a b → IsNode a → Agrees a.writer T → IsNode b
kept_at p T a b h old new q = by (nat_eq q p) refl
  where
    by : (t : Bool) → nat_eq q p ≡ t → Agrees b.writer (state_at b q)
    by true t =
        let z : q ≡ p = eqb-true q p t in
        subst (λ (m : ℕ). Agrees b.writer (state_at b m)) (sym z)
        (subst (λ (w : Bool). Agrees w (state_at b p)) (sym h.writer) (subst (λ (S : PageState). Agrees a.writer S) (sym h.here) new))
    by false t =
        let ne : q ≢ p = grind (arith, t) in
        subst (λ (w : Bool). Agrees w (state_at b q)) (sym h.writer) (subst (λ (S : PageState). Agrees a.writer S) (sym (h.beside q ne)) (old q))

pub others_at : (p : ℕ) (T : PageState) (a b : PoolNode) → Changes p T a b → Others p a b
others_at p T a b h = record {
  each = λ q call ne. ap (λ (S : PageState). node_of b.up S call) (h.beside q ne) ∙ ap (λ (up : Bool). node_of up (state_at a q) call) h.up;
  up = h.up;
  writer = h.writer;
}

pub node_here : (p : ℕ) (T : PageState) (a b : PoolNode) (call : Call) → Changes p T a b → node_at b p call ≡ node_of a.up T call
node_here p T a b call h = ap (λ (S : PageState). node_of b.up S call) h.here ∙ ap (λ (up : Bool). node_of up T call) h.up

pub hears_at : (p : ℕ) (T : PageState) (a b : PoolNode) (told : Told) (v : Image) → Changes p T a b
    → ((r n : ℕ) (call : Call) → nat_eq n r ≡ a.writer → is_of_work call ≡ false → node_of a.up T call ≡ heard r n told v (node_of a.up (state_at a p) call))
    → Hears p told v a b
hears_at p T a b told v h move r n call e q = node_here p T a b call h ∙ move r n call e q

pub then_changes : (p : ℕ) (f : PageState → PageState) (S : PageState) (a b c : PoolNode) → Changes p S a b → Changes p (f (state_at b p)) b c → Changes p (f S) a c
then_changes p f S a b c h g = record {
  here = g.here ∙ ap f h.here;
  beside = λ q ne. g.beside q ne ∙ h.beside q ne;
  up = g.up ∙ h.up;
  writer = g.writer ∙ h.writer;
}

-- a node that knows of no page
pub new_agrees : (writer : Bool) (S : PageState) → S ≡ no_state → Agrees writer S
new_agrees writer S h = subst (λ (T : PageState). Agrees writer T) (sym h) (record { pins = tt; work = tt })
