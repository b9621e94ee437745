-- Storage where one chunk has changed.
use Rattle.std.proofs.Common.{◌≡◌, ◌≢◌, ◌≤◌, ◌<◌, ◌+◌, ◌-◌, ℕ, zero, suc, Bool, true, false, not, IsTrue, ◌↔◌, Result, Ok, Err, OnOk, OnErr, cond, nat_eq, nat_lt, eqb-true, List, [], ◌++◌, length, set, length-set, take, append-nil, append_assoc, refl, sym, ap, subst, ◌∙◌, arith}
use Rattle.std.proofs.lemmas.Bool.{ltb-true, ltb-false}
use mathlib.Core.Path.{fun_ext}
use Rattle.call_model.specs.Servers.{Server, put}
use Rattle.message_network.specs.declared.calls.Reply.{Reply}
use Rattle.redo_record.specs.declared.redo.Group.{Group}
use Rattle.log_chunks.specs.Log.{Log}
use Rattle.page_chunks.specs.Chunk.{Chunk, InChunk, HasGot, waiting, AnswersSame}
use Rattle.storage_service.specs.Storage.{Storage, chunk_of, no_chunk, chunk_at, applied_in, waiting_in, storage_with}
use Rattle.storage_service.specs.Shipping.{records_between, shipped, one_more, ShipsAt, IsForward, folded}
use Rattle.storage_service.specs.Keeping.{IsFront, IsKept, IsBrought, count_behind}
use Rattle.storage_service.proofs.Fronts.{records_none, records_more}
use Rattle.storage_service.proofs.Rows.{chunk_here, chunk_beside, each_set, count_shipped, count_same, some_behind, one_behind}
use Rattle.std.proofs.lemmas.List.{length-take, get_or_past, set-get_or}

-- a page is one of its chunk's
pub in_its_chunk : (chunk : Chunk) (p : ℕ) → chunk.number ≡ chunk_of p → InChunk chunk p
in_its_chunk chunk p is = record { from = omega arith; within = omega arith }

-- what a chunk has got is no more than the log
pub front_fits : (groups : List Group) (n : ℕ) (chunk : Chunk) → chunk.applied ≡ n → HasGot chunk (take n groups) → n ≤ length groups
front_fits groups n chunk is has = let size = length-take n groups in let at = has.applied in omega arith

pub fits : (e : ℕ) (log : Log) (cs : List Chunk) (behind c : ℕ) → IsKept e log cs behind → c < 128 → (chunk_at cs c).applied ≤ length log.groups
fits e log cs behind c is within = front_fits log.groups (chunk_at cs c).applied (chunk_at cs c) refl (is.each c within).got

past_end : (cs : List Chunk) (c : ℕ) → length cs ≤ c → chunk_at cs c ≡ no_chunk
past_end cs c h = get_or_past cs c no_chunk h

pub fits_all : (e : ℕ) (log : Log) (cs : List Chunk) (behind c : ℕ) → IsKept e log cs behind → applied_in cs c ≤ length log.groups
fits_all e log cs behind c is = by (nat_lt c 128) refl
  where
    by : (b : Bool) → nat_lt c 128 ≡ b → applied_in cs c ≤ length log.groups
    by true h = fits e log cs behind c is (ltb-true c 128 h)
    by false h =
        let far : 128 ≤ c = ltb-false c 128 h in
        let size = is.all in
        let none : applied_in cs c ≡ 0 = ap (λ (k : Chunk). k.applied) (past_end cs c (omega arith)) in
        omega arith

-- ---- a chunk gets more

pub brought_front : (e : ℕ) (log : Log) (cs : List Chunk) (behind c to : ℕ) (x : Chunk) → IsKept e log cs behind → c < 128 → IsBrought log.groups (chunk_at cs c) to x
    → IsFront log.groups c x
brought_front e log cs behind c to x is within b = record {
  number = b.number ∙ (is.each c within).number;
  got = subst (λ (n : ℕ). HasGot x (take n log.groups)) (sym b.applied) b.got;
}

pub set_keeps : (e : ℕ) (log : Log) (cs : List Chunk) (behind behind' c : ℕ) (x : Chunk) → IsKept e log cs behind → c < 128 → IsFront log.groups c x
    → behind' ≡ count_behind (length log.groups) (set cs c x) → IsKept e log (set cs c x) behind'
set_keeps e log cs behind behind' c x is within front count =
    let size = is.all in
    record {
      epochs = is.epochs;
      are = is.are;
      applies = is.applies;
      all = length-set {A = Chunk} cs c x ∙ is.all;
      each = each_set (IsFront log.groups) cs c 128 x (omega arith) is.each front;
      count = count;
    }

pub shipped_keeps : (e : ℕ) (log : Log) (cs : List Chunk) (behind last c to : ℕ) (x : Chunk) → IsKept e log cs behind → c < 128 → last ≡ length log.groups
    → (chunk_at cs c).applied < length log.groups → IsBrought log.groups (chunk_at cs c) to x
    → IsKept e log (set cs c x) (cond (nat_lt x.applied last) behind (behind - 1))
shipped_keeps e log cs behind last c to x is within end was b =
    let size = is.all in
    set_keeps e log cs behind (cond (nat_lt x.applied last) behind (behind - 1)) c x is within (brought_front e log cs behind c to x is within b)
    (ap (λ (n : ℕ). cond (nat_lt x.applied n) behind (behind - 1)) end
    ∙ ap (λ (n : ℕ). cond (nat_lt x.applied (length log.groups)) n (n - 1)) is.count
    ∙ count_shipped (length log.groups) cs c x (omega arith) was)

pub view_shipped : (srv : Server Reply) (e : ℕ) (log : Log) (cs : List Chunk) (behind c to : ℕ) (x : Chunk) → IsKept e log cs behind → c < 128
    → IsBrought log.groups (chunk_at cs c) to x → storage_with srv log (set cs c x) ≡ shipped (storage_with srv log cs) (put (applied_in cs) c to)
view_shipped srv e log cs behind c to x is within b =
    ap (λ (f : ℕ → ℕ). of f (waiting_in (set cs c x))) (fun_ext (λ d. applied d (nat_eq d c) refl))
    ∙ ap (λ (w : ℕ → List Group). of (put (applied_in cs) c to) w) (fun_ext (λ p. waits p (nat_eq (chunk_of p) c) refl))
  where
    of : (ℕ → ℕ) → (ℕ → List Group) → Storage
    of f w = record { server = srv; log = log; applied = f; waiting = w }

    inside : c < length cs
    inside = let size = is.all in omega arith

    applied : (d : ℕ) (q : Bool) → nat_eq d c ≡ q → applied_in (set cs c x) d ≡ cond q to (applied_in cs d)
    applied d true h = ap (λ (k : Chunk). k.applied) (chunk_here cs c d x inside (eqb-true d c h)) ∙ b.applied
    applied d false h = let apart : d ≢ c = grind (arith, h) in ap (λ (k : Chunk). k.applied) (chunk_beside cs c d x apart)

    waits : (p : ℕ) (q : Bool) → nat_eq (chunk_of p) c ≡ q
        → waiting_in (set cs c x) p ≡ waiting_in cs p ++ records_between log.groups (applied_in cs (chunk_of p)) (cond q to (applied_in cs (chunk_of p))) p
    waits p true h =
        let here : chunk_of p ≡ c = eqb-true (chunk_of p) c h in
        let number : (chunk_at cs c).number ≡ chunk_of p = (is.each c within).number ∙ sym here in
        ap (λ (k : Chunk). waiting k p) (chunk_here cs c (chunk_of p) x inside here)
        ∙ b.waits p (in_its_chunk (chunk_at cs c) p number)
        ∙ ap (λ (d : ℕ). waiting (chunk_at cs d) p ++ records_between log.groups (chunk_at cs d).applied to p) (sym here)
    waits p false h =
        let apart : chunk_of p ≢ c = grind (arith, h) in
        ap (λ (k : Chunk). waiting k p) (chunk_beside cs c (chunk_of p) x apart)
        ∙ sym (append-nil (waiting_in cs p))
        ∙ ap (λ (xs : List Group). waiting_in cs p ++ xs) (sym (records_none log.groups (applied_in cs (chunk_of p)) p (fits_all e log cs behind (chunk_of p) is)))

-- ---- a page is folded

-- what folding a page says
pub record IsFolded (old : Chunk) (p : ℕ) (new : Chunk) : Type 0 where
  pub same : AnswersSame old new
  pub none : waiting new p ≡ []
  pub others : (q : ℕ) → InChunk old q → q ≢ p → waiting new q ≡ waiting old q
  pub got : (groups : List Group) → HasGot old groups → HasGot new groups

pub folded_keeps : (e : ℕ) (log : Log) (cs : List Chunk) (behind c p : ℕ) (x : Chunk) → IsKept e log cs behind → c < 128 → IsFolded (chunk_at cs c) p x
    → IsKept e log (set cs c x) behind
folded_keeps e log cs behind c p x is within f =
    let size = is.all in
    let front : IsFront log.groups c x = record {
      number = f.same.number ∙ (is.each c within).number;
      got = subst (λ (n : ℕ). HasGot x (take n log.groups)) (sym f.same.applied) (f.got (take (chunk_at cs c).applied log.groups) (is.each c within).got);
    } in
    set_keeps e log cs behind behind c x is within front (is.count ∙ sym (count_same (length log.groups) cs c x (omega arith) f.same.applied))

pub view_folded : (srv : Server Reply) (e : ℕ) (log : Log) (cs : List Chunk) (behind p : ℕ) (x : Chunk) → IsKept e log cs behind → chunk_of p < 128
    → IsFolded (chunk_at cs (chunk_of p)) p x → storage_with srv log (set cs (chunk_of p) x) ≡ folded (storage_with srv log cs) p
view_folded srv e log cs behind p x is within f =
    ap (λ (g : ℕ → ℕ). of g (waiting_in (set cs (chunk_of p) x))) (fun_ext (λ d. applied d (nat_eq d (chunk_of p)) refl))
    ∙ ap (λ (w : ℕ → List Group). of (applied_in cs) w) (fun_ext (λ q. waits q (nat_eq q p) refl (nat_eq (chunk_of q) (chunk_of p)) refl))
  where
    of : (ℕ → ℕ) → (ℕ → List Group) → Storage
    of g w = record { server = srv; log = log; applied = g; waiting = w }

    inside : chunk_of p < length cs
    inside = let size = is.all in omega arith

    applied : (d : ℕ) (b : Bool) → nat_eq d (chunk_of p) ≡ b → applied_in (set cs (chunk_of p) x) d ≡ applied_in cs d
    applied d true h =
        let here : d ≡ chunk_of p = eqb-true d (chunk_of p) h in
        ap (λ (k : Chunk). k.applied) (chunk_here cs (chunk_of p) d x inside here) ∙ f.same.applied ∙ ap (applied_in cs) (sym here)
    applied d false h = let apart : d ≢ chunk_of p = grind (arith, h) in ap (λ (k : Chunk). k.applied) (chunk_beside cs (chunk_of p) d x apart)

    waits : (q : ℕ) (b : Bool) → nat_eq q p ≡ b → (d : Bool) → nat_eq (chunk_of q) (chunk_of p) ≡ d → waiting_in (set cs (chunk_of p) x) q ≡ cond b [] (waiting_in cs q)
    waits q true h d is_d =
        let same : q ≡ p = eqb-true q p h in
        ap (λ (k : ℕ). waiting_in (set cs (chunk_of p) x) k) same
        ∙ ap (λ (k : Chunk). waiting k p) (chunk_here cs (chunk_of p) (chunk_of p) x inside refl) ∙ f.none
    waits q false h true is_d =
        let here : chunk_of q ≡ chunk_of p = eqb-true (chunk_of q) (chunk_of p) is_d in
        let apart : q ≢ p = grind (arith, h) in
        let number : (chunk_at cs (chunk_of p)).number ≡ chunk_of q = (is.each (chunk_of p) within).number ∙ sym here in
        ap (λ (k : Chunk). waiting k q) (chunk_here cs (chunk_of p) (chunk_of q) x inside here)
        ∙ f.others q (in_its_chunk (chunk_at cs (chunk_of p)) q number) apart
        ∙ ap (λ (k : ℕ). waiting (chunk_at cs k) q) (sym here)
    waits q false h false is_d =
        let apart : chunk_of q ≢ chunk_of p = grind (arith, is_d) in
        ap (λ (k : Chunk). waiting k q) (chunk_beside cs (chunk_of p) (chunk_of q) x apart)

-- ---- as the calls of storage meet it

pub ship_view : (srv : Server Reply) (e : ℕ) (log : Log) (cs : List Chunk) (behind c place : ℕ) (old x : Chunk) → IsKept e log cs behind → c < 128 → place ≡ c
    → old ≡ chunk_at cs place → IsBrought log.groups old (old.applied + 1) x
    → storage_with srv log (set cs place x) ≡ shipped (storage_with srv log cs) (one_more (storage_with srv log cs) c)
ship_view srv e log cs behind c place old x is within at read b =
    let brought : IsBrought log.groups (chunk_at cs place) ((chunk_at cs place).applied + 1) x = subst (λ (k : Chunk). IsBrought log.groups k (k.applied + 1) x) read b in
    view_shipped srv e log cs behind place ((chunk_at cs place).applied + 1) x is (omega arith) brought
    ∙ ap (λ (d : ℕ). shipped (storage_with srv log cs) (one_more (storage_with srv log cs) d)) at

pub ship_keeps : (e : ℕ) (log : Log) (cs : List Chunk) (behind last c place : ℕ) (old x now : Chunk) → IsKept e log cs behind → c < 128 → place ≡ c → last ≡ length log.groups
    → applied_in cs c < length log.groups → old ≡ chunk_at cs place → now ≡ chunk_at (set cs place x) place → IsBrought log.groups old (old.applied + 1) x
    → IsKept e log (set cs place x) (cond (nat_lt now.applied last) behind (behind - 1))
ship_keeps e log cs behind last c place old x now is within at end was read read_now b =
    let size = is.all in
    let inside : place < length cs = omega arith in
    let same : now ≡ x = read_now ∙ chunk_here cs place place x inside refl in
    let brought : IsBrought log.groups (chunk_at cs place) ((chunk_at cs place).applied + 1) x = subst (λ (k : Chunk). IsBrought log.groups k (k.applied + 1) x) read b in
    let was_there : (chunk_at cs place).applied < length log.groups = subst (λ (d : ℕ). applied_in cs d < length log.groups) (sym at) was in
    subst (λ (k : Chunk). IsKept e log (set cs place x) (cond (nat_lt k.applied last) behind (behind - 1))) (sym same)
    (shipped_keeps e log cs behind last place ((chunk_at cs place).applied + 1) x is (omega arith) end was_there brought)

set_old : (cs : List Chunk) (place : ℕ) (old x : Chunk) → x ≡ old → old ≡ chunk_at cs place → set cs place x ≡ cs
set_old cs place old x same read = ap (set cs place) (same ∙ read) ∙ set-get_or cs place no_chunk

pub fold_keeps : {T E : Type 0} (r : Result T E) (e : ℕ) (log : Log) (cs : List Chunk) (behind place p : ℕ) (old x : Chunk) → IsKept e log cs behind → place < 128
    → old ≡ chunk_at cs place → OnOk r (AnswersSame old x) → OnOk r (waiting x p ≡ []) → ((q : ℕ) → InChunk old q → q ≢ p → waiting x q ≡ waiting old q)
    → OnErr r (x ≡ old) → OnOk r ((groups : List Group) → HasGot old groups → HasGot x groups) → IsKept e log (set cs place x) behind
fold_keeps (Ok y) e log cs behind place p old x is within read same none others err got =
    folded_keeps e log cs behind place p x is within
    (subst (λ (k : Chunk). IsFolded k p x) read (record { same = same; none = none; others = others; got = got }))
fold_keeps (Err y) e log cs behind place p old x is within read same none others err got =
    subst (λ (ks : List Chunk). IsKept e log ks behind) (sym (set_old cs place old x err read)) is

pub fold_view : {T E : Type 0} (r : Result T E) (srv : Server Reply) (e : ℕ) (log : Log) (cs : List Chunk) (behind place p : ℕ) (old x : Chunk) → IsKept e log cs behind
    → place < 128 → place ≡ chunk_of p → old ≡ chunk_at cs place → OnOk r (AnswersSame old x) → OnOk r (waiting x p ≡ [])
    → ((q : ℕ) → InChunk old q → q ≢ p → waiting x q ≡ waiting old q) → OnOk r ((groups : List Group) → HasGot old groups → HasGot x groups)
    → OnOk r (storage_with srv log (set cs place x) ≡ folded (storage_with srv log cs) p)
fold_view (Ok y) srv e log cs behind place p old x is within at read same none others got =
    let f : IsFolded (chunk_at cs (chunk_of p)) p x =
    subst (λ (d : ℕ). IsFolded (chunk_at cs d) p x) at (subst (λ (k : Chunk). IsFolded k p x) read (record { same = same; none = none; others = others; got = got })) in
    ap (λ (d : ℕ). storage_with srv log (set cs d x)) at ∙ view_folded srv e log cs behind p x is (omega arith) f
fold_view (Err y) srv e log cs behind place p old x is within at read same none others got = tt

pub fold_same : {T E : Type 0} (r : Result T E) (cs : List Chunk) (place : ℕ) (old x : Chunk) → old ≡ chunk_at cs place → OnErr r (x ≡ old) → OnErr r (set cs place x ≡ cs)
fold_same (Ok y) cs place old x read err = tt
fold_same (Err y) cs place old x read err = set_old cs place old x err read

pub behind_when : (e : ℕ) (log : Log) (cs : List Chunk) (behind : ℕ) → IsKept e log cs behind
    → IsTrue (not (nat_eq behind 0)) ↔ ((c : ℕ) × (c < 128) × (applied_in cs c < length log.groups))
behind_when e log cs behind is =
    let size = is.all in
    let count = is.count in (
      (λ t.
          let some : 0 < behind = positive behind t in
          let found = some_behind (length log.groups) cs (omega arith) in
          (found.0, (let within = found.1 in omega arith), found.2)),
      (λ h.
          let within = h.1 in
          let some : 0 < count_behind (length log.groups) cs = one_behind (length log.groups) cs h.0 (omega arith) h.2 in
          nonzero behind (omega arith)),
    )
  where
    positive : (n : ℕ) → IsTrue (not (nat_eq n 0)) → 0 < n
    positive zero t = absurd cc
    positive (suc n) t = omega arith

    nonzero : (n : ℕ) → 0 < n → IsTrue (not (nat_eq n 0))
    nonzero zero h = absurd (omega arith)
    nonzero (suc n) h = let no : nat_eq (suc n) 0 ≡ false = grind arith in ap not no

-- ---- a chunk gets the rest

pub ships_at : (srv : Server Reply) (e : ℕ) (log : Log) (cs : List Chunk) (behind c place : ℕ) (old x : Chunk) → IsKept e log cs behind → c < 128 → place ≡ c
    → old ≡ chunk_at cs place → IsBrought log.groups old x.applied x → ShipsAt c (storage_with srv log cs) (storage_with srv log (set cs place x))
ships_at srv e log cs behind c place old x is within at read b =
    let size = is.all in
    let inside : place < length cs = omega arith in
    let now : applied_in (set cs place x) c ≡ x.applied = ap (λ (k : Chunk). k.applied) (chunk_here cs place c x inside (sym at)) in
    let was : applied_in cs c ≡ old.applied = ap (applied_in cs) (sym at) ∙ ap (λ (k : Chunk). k.applied) (sym read) in
    let brought : IsBrought log.groups (chunk_at cs place) x.applied x = subst (λ (k : Chunk). IsBrought log.groups k x.applied x) read b in
    record {
      after = view_shipped srv e log cs behind place x.applied x is (omega arith) brought
          ∙ ap (λ (d : ℕ). shipped (storage_with srv log cs) (put (applied_in cs) d x.applied)) at
          ∙ ap (λ (n : ℕ). shipped (storage_with srv log cs) (put (applied_in cs) c n)) (sym now);
      from = let from = b.from in omega arith;
      upto = let upto = b.upto in omega arith;
    }

-- storage stays, where the chunk had the whole log
pub ships_none : (srv : Server Reply) (e : ℕ) (log : Log) (cs : List Chunk) (behind c : ℕ) → IsKept e log cs behind → ShipsAt c (storage_with srv log cs) (storage_with srv log cs)
ships_none srv e log cs behind c is = record {
  after = ap (λ (w : ℕ → List Group). of (applied_in cs) w) (fun_ext (λ p. none p)) ∙ ap (shipped (storage_with srv log cs)) (fun_ext (λ d. same d (nat_eq d c) refl));
  from = omega arith;
  upto = fits_all e log cs behind c is;
}
  where
    of : (ℕ → ℕ) → (ℕ → List Group) → Storage
    of g w = record { server = srv; log = log; applied = g; waiting = w }

    none : (p : ℕ) → waiting_in cs p ≡ waiting_in cs p ++ records_between log.groups (applied_in cs (chunk_of p)) (applied_in cs (chunk_of p)) p
    none p =
        sym (append-nil (waiting_in cs p))
        ∙ ap (λ (xs : List Group). waiting_in cs p ++ xs) (sym (records_none log.groups (applied_in cs (chunk_of p)) p (fits_all e log cs behind (chunk_of p) is)))

    same : (d : ℕ) (b : Bool) → nat_eq d c ≡ b → applied_in cs d ≡ cond b (applied_in cs c) (applied_in cs d)
    same d true h = ap (applied_in cs) (eqb-true d c h)
    same d false h = refl

pub rest_keeps : (e : ℕ) (log : Log) (cs : List Chunk) (behind last c place : ℕ) (old x now : Chunk) → IsKept e log cs behind → c < 128 → place ≡ c → last ≡ length log.groups
    → old.applied < length log.groups → old ≡ chunk_at cs place → now ≡ chunk_at (set cs place x) place → IsBrought log.groups old x.applied x
    → IsKept e log (set cs place x) (cond (nat_lt now.applied last) behind (behind - 1))
rest_keeps e log cs behind last c place old x now is within at end was read read_now b =
    let size = is.all in
    let inside : place < length cs = omega arith in
    let same : now ≡ x = read_now ∙ chunk_here cs place place x inside refl in
    let brought : IsBrought log.groups (chunk_at cs place) x.applied x = subst (λ (k : Chunk). IsBrought log.groups k x.applied x) read b in
    let was_there : (chunk_at cs place).applied < length log.groups = subst (λ (k : Chunk). k.applied < length log.groups) read was in
    subst (λ (k : Chunk). IsKept e log (set cs place x) (cond (nat_lt k.applied last) behind (behind - 1))) (sym same)
    (shipped_keeps e log cs behind last place x.applied x is (omega arith) end was_there brought)

-- ---- one chunk after the other

shipped_twice : (S : Storage) (g f : ℕ → ℕ) → ((d : ℕ) → S.applied d ≤ g d) → ((d : ℕ) → g d ≤ f d) → ((d : ℕ) → f d ≤ length S.log.groups)
    → shipped (shipped S g) f ≡ shipped S f
shipped_twice S g f low high upto =
    ap (λ (w : ℕ → List Group). let T : Storage = record { server = S.server; log = S.log; applied = f; waiting = w } in T) (fun_ext (λ p.
    append_assoc (S.waiting p) (records_between S.log.groups (S.applied (chunk_of p)) (g (chunk_of p)) p) (records_between S.log.groups (g (chunk_of p)) (f (chunk_of p)) p)
    ∙ ap (λ (xs : List Group). S.waiting p ++ xs)
    (sym (records_more S.log.groups (S.applied (chunk_of p)) (g (chunk_of p)) (f (chunk_of p)) p (low (chunk_of p)) (high (chunk_of p)) (upto (chunk_of p))))))

pub forward_none : (srv : Server Reply) (e : ℕ) (log : Log) (cs : List Chunk) (behind : ℕ) → IsKept e log cs behind → IsForward (storage_with srv log cs) (storage_with srv log cs)
forward_none srv e log cs behind is = record {
  after = ap (λ (w : ℕ → List Group). let T : Storage = record { server = srv; log = log; applied = applied_in cs; waiting = w } in T) (fun_ext (λ p.
      sym (append-nil (waiting_in cs p))
      ∙ ap (λ (xs : List Group). waiting_in cs p ++ xs) (sym (records_none log.groups (applied_in cs (chunk_of p)) p (fits_all e log cs behind (chunk_of p) is)))));
  from = λ c. omega arith;
  upto = λ c. fits_all e log cs behind c is;
}

pub forward_on : (S T U : Storage) (c : ℕ) → IsForward S T → ShipsAt c T U → IsForward S U
forward_on S T U c first next =
    let log : T.log ≡ S.log = ap (λ (x : Storage). x.log) first.after in
    let f : ℕ → ℕ = put T.applied c (U.applied c) in
    let applied : U.applied ≡ f = ap (λ (x : Storage). x.applied) next.after in
    let fits_log : U.applied c ≤ length S.log.groups = subst (λ (l : Log). U.applied c ≤ length l.groups) log next.upto in
    let high : (d : ℕ) → T.applied d ≤ f d = λ d. grows d (nat_eq d c) refl in
    let upto : (d : ℕ) → f d ≤ length S.log.groups = λ d. bounds d (nat_eq d c) (first.upto d) fits_log in
    let whole : U ≡ shipped S f = next.after ∙ ap (λ (x : Storage). shipped x f) first.after ∙ shipped_twice S T.applied f first.from high upto in
    record {
      after = whole ∙ ap (shipped S) (sym applied);
      from = λ d. subst (λ (g : ℕ → ℕ). S.applied d ≤ g d) (sym applied) (let low = first.from d in let more = high d in omega arith);
      upto = λ d. subst (λ (g : ℕ → ℕ). g d ≤ length S.log.groups) (sym applied) (upto d);
    }
  where
    grows : (d : ℕ) (b : Bool) → nat_eq d c ≡ b → T.applied d ≤ cond b (U.applied c) (T.applied d)
    grows d true h = subst (λ (k : ℕ). T.applied k ≤ U.applied c) (sym (eqb-true d c h)) next.from
    grows d false h = omega arith

    bounds : (d : ℕ) (b : Bool) → T.applied d ≤ length S.log.groups → U.applied c ≤ length S.log.groups → cond b (U.applied c) (T.applied d) ≤ length S.log.groups
    bounds d true low high = high
    bounds d false low high = low

pub done_on : (S T U : Storage) (c : ℕ) → IsForward S T → ShipsAt c T U → U.applied c ≡ length T.log.groups → ((d : ℕ) → d < c → T.applied d ≡ length S.log.groups)
    → (d : ℕ) → d < c + 1 → U.applied d ≡ length S.log.groups
done_on S T U c first next end below d less =
    ap (λ (g : ℕ → ℕ). g d) (ap (λ (x : Storage). x.applied) next.after) ∙ by (nat_eq d c) refl
  where
    by : (b : Bool) → nat_eq d c ≡ b → cond b (U.applied c) (T.applied d) ≡ length S.log.groups
    by true h = end ∙ ap (λ (x : Storage). length x.log.groups) first.after
    by false h = let apart : d ≢ c = grind (arith, h) in below d (omega arith)

pub none_behind : (e : ℕ) (log : Log) (cs : List Chunk) (behind : ℕ) → IsKept e log cs behind → behind ≡ 0 → (c : ℕ) → c < 128 → applied_in cs c ≡ length log.groups
none_behind e log cs behind is zero_is c within = by (nat_lt (applied_in cs c) (length log.groups)) refl
  where
    by : (b : Bool) → nat_lt (applied_in cs c) (length log.groups) ≡ b → applied_in cs c ≡ length log.groups
    by true h =
        let size = is.all in
        let count = is.count in
        let some = one_behind (length log.groups) cs c (omega arith) (ltb-true (applied_in cs c) (length log.groups) h) in
        absurd (omega arith)
    by false h =
        let most = ltb-false (applied_in cs c) (length log.groups) h in
        let few = fits e log cs behind c is within in
        omega arith
