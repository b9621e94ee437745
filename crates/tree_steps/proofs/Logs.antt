-- The pages that a log leaves, LSN by LSN, are a timeline.
use Rattle.std.proofs.Common.{◌≡◌, ◌<◌, ◌≤◌, ◌+◌, ℕ, zero, suc, true, List, [], ◌∷◌, ◌++◌, length, refl, sym, ap, subst, ◌∙◌, arith, inl, inr, append_assoc}
use Rattle.std.specs.Prelude.{◌⊎◌}
use Rattle.page_image.specs.Image.{Image}
use Rattle.redo_record.proofs.Fold.{page_at-past, page_at-all, page_at-one_more, CountsFrom-up_to}
use Rattle.redo_record.specs.Effect.{after_records, page_at, ArePast, CountsFrom}
use Rattle.redo_record.specs.declared.redo.Group.{Group}
use Rattle.bplus_tree.specs.Tree.{Tree, is_leaf}
use Rattle.tree_change.specs.Effects.{pages_after}
use Rattle.tree_timeline.specs.Steps.{Step}
use Rattle.tree_timeline.specs.Timeline.{Timeline}
use Rattle.tree_timeline.specs.Types.{Pages, ItemsAt}
use Rattle.tree_steps.specs.Groups.{left_at}
use Rattle.tree_steps.proofs.Structures.{page_structure}

counts_split : (n : ℕ) (gs hs : List Group) → CountsFrom n (gs ++ hs)
    → CountsFrom n gs × CountsFrom (n + length gs) hs
counts_split n [] hs c = (tt, subst (λ (k : ℕ). CountsFrom k hs) (omega arith) c)
counts_split n (g ∷ gs) hs c =
    let r = counts_split (n + 1) gs hs c.1 in
    let e : (n + 1) + length gs ≡ n + length (g ∷ gs) = omega arith in
    ((c.0, r.0), subst (λ (k : ℕ). CountsFrom k hs) e r.1)

counts_past : (m n : ℕ) (gs : List Group) → m ≤ n → CountsFrom n gs → ArePast m gs
counts_past m n [] h c = tt
counts_past m n (g ∷ gs) h c =
    ((let e = c.0 in omega (arith, e, h)), counts_past m (n + 1) gs (omega (arith, h)) c.1)

pub one_group : (gs : List Group) (g : Group) (hs : List Group) (p : ℕ)
    → CountsFrom 0 (gs ++ (g ∷ hs))
    → page_at (gs ++ (g ∷ hs)) p (suc (length gs))
    ≡ after_records (suc (length gs)) g.records (page_at (gs ++ (g ∷ hs)) p (length gs))
one_group gs g hs p c =
    let n : ℕ = length gs in
    let s = counts_split 0 gs (g ∷ hs) c in
    let own : g.lsn ≡ suc n = (let e = s.1.0 in omega (arith, e)) in
    let late : ArePast (suc n) hs = counts_past (suc n) ((0 + n) + 1) hs (omega arith) s.1.1 in
    let all : ArePast n (g ∷ hs) = counts_past n (0 + n) (g ∷ hs) (omega arith) s.1 in
    let now : page_at gs p (suc n) ≡ page_at gs p n =
    page_at-all gs p (suc n) (CountsFrom-up_to 0 (suc n) gs (omega arith) s.0)
    ∙ sym (page_at-all gs p n (CountsFrom-up_to 0 n gs (omega arith) s.0)) in
    ap (λ (x : List Group). page_at x p (suc n)) (sym (append_assoc gs (g ∷ []) hs))
    ∙ (page_at-past (gs ++ g ∷ []) hs p (suc n) late
    ∙ (page_at-one_more gs g p (suc n) (omega (arith, own))
    ∙ (ap (λ (k : ℕ). after_records k g.records (page_at gs p (suc n))) own
    ∙ (ap (after_records (suc n) g.records) (now ∙ sym (page_at-past gs (g ∷ hs) p n all))))))

pub ext : (f g : Pages) → ((q : ℕ) → f q ≡ g q) → f ≡ g
ext f g h = λ i q. h q i

cut_log : (gs : List Group) (n : ℕ) → n < length gs
    → (xs : List Group) × (g : Group) × (ys : List Group) × (gs ≡ xs ++ (g ∷ ys)) × (length xs ≡ n)
cut_log [] n h = absurd (omega (arith, h))
cut_log (g ∷ gs) zero h = ([], g, gs, refl, refl)
cut_log (g ∷ gs) (suc n) h =
    let c = cut_log gs n (omega (arith, h)) in
    (g ∷ c.0, c.1, c.2, ap (λ (l : List Group). g ∷ l) c.3, ap suc c.4)

pub log_timeline : (log : List Group) (root from : ℕ) (items : ItemsAt) → CountsFrom 0 log
    → (trees : (t : ℕ) → Tree (left_at log from t) root (items t))
    → ((before : List Group) (g : Group) (behind : List Group) → log ≡ before ++ (g ∷ behind)
    → (t : ℕ) → from + t ≡ length before
    → Step (left_at log from t) (pages_after (from + suc t) g.records (left_at log from t)) root
    (trees t).nodes (from + suc t))
    → Timeline (left_at log from) root from items
log_timeline log root from items counts trees steps = record {
  tree = trees;
  step = λ t. go t (within (from + t) (length log));
  stamped = λ t q. page_structure log q (from + t);
}
  where
    within : (a b : ℕ) → (a < b) ⊎ (b ≤ a)
    within a b = grind arith

    go : (t : ℕ) → (from + t < length log) ⊎ (length log ≤ from + t)
        → Step (left_at log from t) (left_at log from (suc t)) root (trees t).nodes (from + suc t)
    go t (inl less) =
        let c = cut_log log (from + t) less in
        let n : from + t ≡ length c.0 = sym c.4 in
        let m : suc (length c.0) ≡ from + suc t = omega (arith, n) in
        let own : CountsFrom 0 (c.0 ++ (c.1 ∷ c.2)) = subst (CountsFrom 0) c.3 counts in
        let one : (q : ℕ)
        → page_at log q (from + suc t)
        ≡ after_records (from + suc t) c.1.records (page_at log q (from + t)) =
        λ q.
        subst
        (λ (k : ℕ). page_at log q (from + suc t)
        ≡ after_records (from + suc t) c.1.records (page_at log q k)) (sym n)
        (subst
        (λ (k : ℕ). page_at log q k
        ≡ after_records k c.1.records (page_at log q (length c.0))) m
        (subst
        (λ (l : List Group). page_at l q (suc (length c.0))
        ≡ after_records (suc (length c.0)) c.1.records (page_at l q (length c.0))) (sym c.3)
        (one_group c.0 c.1 c.2 q own))) in
        subst (λ (o : Pages). Step (left_at log from t) o root (trees t).nodes (from + suc t))
        (sym
        (ext (left_at log from (suc t))
        (pages_after (from + suc t) c.1.records (left_at log from t)) one))
        (steps c.0 c.1 c.2 c.3 t n)
    go t (inr past) =
        let same : (q : ℕ) → left_at log from (suc t) q ≡ left_at log from t q =
        λ q.
        page_at-all log q (from + suc t)
        (CountsFrom-up_to 0 (from + suc t) log (omega (arith, past)) counts)
        ∙ sym
        (page_at-all log q (from + t)
        (CountsFrom-up_to 0 (from + t) log (omega (arith, past)) counts)) in
        inl (record {
          inner = λ q c e. same q;
          leaf =
              λ q c e. (
                subst (λ (i : Image). is_leaf i.kind ≡ true) (sym (same q)) e,
                ap (λ (i : Image). i.structure) (same q),
              );
        })
