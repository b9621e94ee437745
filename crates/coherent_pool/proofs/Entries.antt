-- A change of one entry of the home is a change of one part of one page.
use Rattle.std.proofs.Common.{◌≡◌, ◌≢◌, ℕ, Bool, true, false, Option, Some, None, nat_eq, eqb-true, if◌then◌else◌, refl, sym, subst, ap, ◌∙◌}
use Rattle.home_model.specs.Numbered.{put}
use Rattle.home_model.specs.Entry.{Entry, told_address}
use Rattle.home_tables.specs.Home.{HomeState, entry_at}
use Rattle.node_model.specs.Call.{Call, Call.ToldRegistered, Call.ToldUnregistered, Call.ToldDone, Call.ToldStarted, is_of_work}
use Rattle.node_model.specs.Step.{Step}
use Rattle.node_model.specs.Node.{Node}
use Rattle.node_model.specs.Learning.{calls as with_call}
use Rattle.page_coherence.specs.Page.{Page}
use Rattle.coherent_pool.specs.declared.node.PoolNode.{PoolNode}
use Rattle.coherent_pool.specs.declared.works.FetchWork.{FetchWork}
use Rattle.coherent_pool.specs.Node.{PageState, node_of, node_at, state_at, step_in, step_at, image_of}
use Rattle.coherent_pool.specs.Joined.{SeesNode, SeesHome, SameFor, IsAnswered, HomeChanges}
use Rattle.coherent_pool.specs.Handling.{HomeAnswers}
use Rattle.coherent_pool.proofs.Joining.{chosen, unchosen, itself, apart}

entry_there : (p : ℕ) (H : HomeState) (pages : ℕ → Page) (Q : Page) → SeesHome H pages
    → (q : ℕ) (b : Bool) → nat_eq q p ≡ b → (let Z : Page = if b then Q else pages q in Z.entry) ≡ (if b then Q.entry else entry_at H q)
entry_there p H pages Q sees q true t = refl
entry_there p H pages Q sees q false t = sees.each q

same_there : (p m : ℕ) (K : PoolNode) (theirs : ℕ → Call) (pages : ℕ → Page) (Q : Page) → SameFor m (pages p) Q → SeesNode m K theirs pages
    → (q : ℕ) (b : Bool) → nat_eq q p ≡ b → (let Z : Page = if b then Q else pages q in Z.node m) ≡ node_at K q (theirs q)
same_there p m K theirs pages Q same sees q true t =
    let here : q ≡ p = eqb-true q p t in
    same ∙ (sees.each p ∙ subst (λ (z : ℕ). node_at K p (theirs p) ≡ node_at K z (theirs z)) (sym here) refl)
same_there p m K theirs pages Q same sees q false t = sees.each q

-- a call of the same kind leaves the node where it stands
step_kind : (work : Option FetchWork) (c told : Call) → is_of_work told ≡ is_of_work c → step_in work c ≡ step_in work told
step_kind None c told kind = refl
step_kind (Some w) c told kind = ap (λ (b : Bool). step_at w.stage w.step (image_of w) b) (sym kind)

told_node : (up : Bool) (S : PageState) (c told : Call) → is_of_work told ≡ is_of_work c → with_call (node_of up S c) told ≡ node_of up S told
told_node up S c told kind = ap (λ (s : Step). let M : Node = record (node_of up S told) { step = s } in M) (step_kind S.work c told kind)

asked_there : (n p : ℕ) (N : PoolNode) (calls : ℕ → Call) (told : Call) (pages : ℕ → Page) (Q : Page) → is_of_work told ≡ is_of_work (calls p)
    → IsAnswered n told (pages p) Q → SeesNode n N calls pages
    → (q : ℕ) (b : Bool) → nat_eq q p ≡ b → (let Z : Page = if b then Q else pages q in Z.node n) ≡ node_at N q (if b then told else calls q)
asked_there n p N calls told pages Q kind answer sees q true t =
    let here : q ≡ p = eqb-true q p t in
    answer ∙ (ap (λ (x : Node). with_call x told) (sees.each p)
    ∙ (told_node N.up (state_at N p) (calls p) told kind ∙ subst (λ (z : ℕ). node_at N p told ≡ node_at N z told) (sym here) refl))
asked_there n p N calls told pages Q kind answer sees q false t = sees.each q

pub home_changes : (n p : ℕ) (H K : HomeState) (pages : ℕ → Page) (Q : Page) → HomeChanges n p H K pages Q
home_changes n p H K pages Q = record {
  own = chosen (nat_eq p p) Q (pages p) (itself p);
  own_at = λ sees becomes. record {
    each = λ q. entry_there p H pages Q sees q (nat_eq q p) refl ∙ sym (ap (λ (f : ℕ → Entry). f q) becomes);
  };
  nodes = λ m other theirs same sees. record { each = λ q. same_there p m other theirs pages Q same sees q (nat_eq q p) refl };
  asker = λ N calls told kind answer sees. record { each = λ q. asked_there n p N calls told pages Q kind answer sees q (nat_eq q p) refl };
  rest = λ q ne. unchosen (nat_eq q p) Q (pages q) (apart q p ne);
}

-- what a call makes of the nodes: of the one that asked, and of the others
at_asker : (n : ℕ) (N : Node) (rest : ℕ → Node) → put rest n N n ≡ N
at_asker n N rest = chosen (nat_eq n n) N (rest n) (itself n)

at_others : (n m : ℕ) (N : Node) (rest : ℕ → Node) → m ≢ n → put rest n N m ≡ rest m
at_others n m N rest ne = unchosen (nat_eq m n) N (rest m) (apart m n ne)

pub home_answers : (n : ℕ) (P : Page) → HomeAnswers n P
home_answers n P = record {
  register = λ w fresh image. record {
    entry = refl;
    asker = at_asker n (with_call (P.node n) (ToldRegistered (told_address P.entry fresh))) P.node;
    others = λ m ne. at_others n m (with_call (P.node n) (ToldRegistered (told_address P.entry fresh))) P.node ne;
  };
  unregister = record {
    entry = refl;
    asker = at_asker n (with_call (P.node n) ToldUnregistered) P.node;
    others = λ m ne. at_others n m (with_call (P.node n) ToldUnregistered) P.node ne;
  };
  done = record {
    entry = refl;
    asker = at_asker n (with_call (P.node n) ToldDone) P.node;
    others = λ m ne. at_others n m (with_call (P.node n) ToldDone) P.node ne;
  };
  started = record {
    entry = refl;
    asker = at_asker n (with_call (P.node n) ToldStarted) P.node;
    others = λ m ne. at_others n m (with_call (P.node n) ToldStarted) P.node ne;
  };
}
