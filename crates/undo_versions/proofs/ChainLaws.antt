-- For the proofs: the walk and the chain of versions.
use Rattle.std.proofs.Common.{◌≡◌, ◌+◌, ℕ, zero, suc, Bool, true, false, List, [], ◌∷◌, length, Option, Some, None, refl, sym, ◌∙◌, ap, arith}
use Rattle.std.specs.Prelude.{if◌then◌else◌}
use Rattle.rm_base.specs.declared.places.UndoPtr.{UndoPtr}
use Rattle.page_image.specs.Image.{Image}
use Rattle.page_view.specs.declared.leaf.LeafItem.{LeafItem}
use Rattle.undo_versions.specs.declared.walk.ChainWant.TheVariants.{Need, End}
use Rattle.undo_versions.specs.Walking.{Walk, is_page, replaced, at_version, at_old, want_of, want_by}
use Rattle.undo_versions.specs.Chains.{version_before, versions, versions_of, IsChain, GoesOn, stepped, told, told_by, walked, GivesVersions, GivesChain, EndsWithChain, OneChain}

-- ---- a walk behind its last version

-- at its end a walk has no version, and wants none
record IsOver (walk : Walk) : Type 0 where
  version : walk.version ≡ None
  next : is_page walk.next.page ≡ false

told_over : (pages : ℕ → Image) (n : ℕ) (walk : Walk) → IsOver walk → told pages n walk ≡ []
told_over pages zero walk over = refl
told_over pages (suc n) walk over = ap (told_by (told pages n (stepped pages walk))) over.version

wants_none : (walk : Walk) → IsOver walk → want_of walk ≡ End
wants_none walk over =
    ap (λ (v : Option LeafItem). want_by v walk.next) over.version ∙ ap (λ (b : Bool). if b then Need walk.next.page else End) over.next

-- ---- one step

-- a walk at the older version, or over where there is none
abbrev Behind : Walk → Option LeafItem → Type 0
Behind walk None = IsOver walk
Behind walk (Some old) = walk ≡ at_version old

behind_by : (b : Bool) (found : Option LeafItem) (at : UndoPtr) → is_page at.page ≡ b
    → Behind (if b then at_old found else record { version = None; next = at }) (if b then found else None)
behind_by false found at past = record { version = refl; next = past }
behind_by true None at is = record { version = refl; next = refl }
behind_by true (Some old) at is = refl

behind : (pages : ℕ → Image) (item : LeafItem) → Behind (stepped pages (at_version item)) (version_before pages item)
behind pages item = behind_by (is_page item.older.page) (replaced (pages item.older.page) item.older) item.older refl

-- ---- the laws

told_rest : (pages : ℕ → Image) (n : ℕ) (walk : Walk) (old : Option LeafItem) → Behind walk old
    → ((v : LeafItem) → told pages n (at_version v) ≡ versions pages n v) → told pages n walk ≡ versions_of (λ v. versions pages n v) old
told_rest pages n walk None over rest = told_over pages n walk over
told_rest pages n walk (Some old) at rest = ap (told pages n) at ∙ rest old

pub gives_versions : GivesVersions
gives_versions pages zero item = refl
gives_versions pages (suc n) item =
    ap (λ (rest : List LeafItem). item ∷ rest) (told_rest pages n (stepped pages (at_version item)) (version_before pages item) (behind pages item) (λ v. gives_versions pages n v))

chain_rest : (pages : ℕ → Image) (n : ℕ) (vs : List LeafItem) (walk : Walk) (old : Option LeafItem) → Behind walk old
    → GoesOn (λ v. IsChain pages v vs) (vs ≡ []) old → ((v : LeafItem) → IsChain pages v vs → told pages n (at_version v) ≡ vs) → told pages n walk ≡ vs
chain_rest pages n vs walk None over none rest = told_over pages n walk over ∙ sym none
chain_rest pages n vs walk (Some old) at more rest = ap (told pages n) at ∙ rest old more

pub gives_chain : GivesChain
gives_chain pages item [] more h = absurd h
gives_chain pages item (v ∷ vs) more h =
    let count : suc (length vs) + more ≡ suc (length vs + more) = omega arith in
    ap (λ (n : ℕ). told pages n (at_version item)) count
    ∙ ap (λ (first : LeafItem). first ∷ told pages (length vs + more) (stepped pages (at_version item))) (sym h.0)
    ∙ ap (λ (rest : List LeafItem). v ∷ rest) (chain_rest pages (length vs + more) vs (stepped pages (at_version item)) (version_before pages item) (behind pages item) h.1
    (λ old is. gives_chain pages old vs more is))

ends_rest : (pages : ℕ → Image) (vs : List LeafItem) (walk : Walk) (old : Option LeafItem) → Behind walk old
    → GoesOn (λ v. IsChain pages v vs) (vs ≡ []) old → ((v : LeafItem) → IsChain pages v vs → want_of (walked pages (length vs) (at_version v)) ≡ End)
    → want_of (walked pages (length vs) walk) ≡ End
ends_rest pages vs walk None over none rest = ap (λ (ws : List LeafItem). want_of (walked pages (length ws) walk)) none ∙ wants_none walk over
ends_rest pages vs walk (Some old) at more rest = ap (λ (w : Walk). want_of (walked pages (length vs) w)) at ∙ rest old more

pub ends_with_chain : EndsWithChain
ends_with_chain pages item [] h = absurd h
ends_with_chain pages item (v ∷ vs) h =
    ends_rest pages vs (stepped pages (at_version item)) (version_before pages item) (behind pages item) h.1 (λ old is. ends_with_chain pages old vs is)

one_rest : (pages : ℕ → Image) (vs ws : List LeafItem) (old : Option LeafItem) → GoesOn (λ v. IsChain pages v vs) (vs ≡ []) old
    → GoesOn (λ v. IsChain pages v ws) (ws ≡ []) old → ((v : LeafItem) → IsChain pages v vs → IsChain pages v ws → vs ≡ ws) → vs ≡ ws
one_rest pages vs ws None a b rest = a ∙ sym b
one_rest pages vs ws (Some old) a b rest = rest old a b

pub one_chain : OneChain
one_chain pages item [] ws a b = absurd a
one_chain pages item (v ∷ vs) [] a b = absurd b
one_chain pages item (v ∷ vs) (w ∷ ws) a b =
    ap (λ (first : LeafItem). first ∷ vs) (a.0 ∙ sym b.0)
    ∙ ap (λ (rest : List LeafItem). w ∷ rest) (one_rest pages vs ws (version_before pages item) a.1 b.1 (λ old p q. one_chain pages old vs ws p q))
