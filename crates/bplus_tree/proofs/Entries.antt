-- The entries and items of a page at a place.
use Rattle.std.proofs.Common.{◌≡◌, ◌<◌, ℕ, zero, suc, List, [], ◌∷◌, length, map, slice_get, slice_index_or, Option, Some, None, refl, sym, ◌∙◌, ap, subst, arith, IsSome}
use Rattle.std.specs.List.{AllByRecursion}
use Rattle.page_view.specs.Inner.{InnerItem, inner_bytes, IsInner}
use Rattle.rm_base.specs.Fields.{field}
use Rattle.std.proofs.Math.Seq.{take-append_seam}
use Rattle.page_view.specs.Keys.{key_in, keys_of}
use Rattle.page_view.specs.Views.{IsPartOrNone}

-- at each place of a page with entries stands the spelling of one
pub entry_at : (entries : List InnerItem) (place : ℕ) → place < length (keys_of (map inner_bytes entries)) → AllByRecursion IsInner entries
    → (entry : InnerItem) × IsInner entry × (slice_get (map inner_bytes entries) place ≡ Some (inner_bytes entry))
entry_at [] place h each = absurd (omega arith)
entry_at (entry ∷ rest) zero h each = (entry, each.0, refl)
entry_at (entry ∷ rest) (suc place) h each = entry_at rest place (omega arith) each.1

-- so it is lent
pub entry_lent : (entries : List InnerItem) (place : ℕ) (items : List (List ℕ)) (lent : Option InnerItem) → items ≡ map inner_bytes entries
    → place < length (keys_of items) → AllByRecursion IsInner entries → IsPartOrNone IsInner inner_bytes items place lent → IsSome lent
entry_lent entries place items lent has h each part = go lent part
  where
    found : (entry : InnerItem) × IsInner entry × (slice_get items place ≡ Some (inner_bytes entry))
    found = subst (λ (xs : List (List ℕ)). (entry : InnerItem) × IsInner entry × (slice_get xs place ≡ Some (inner_bytes entry))) (sym has)
        (entry_at entries place (subst (λ (xs : List (List ℕ)). place < length (keys_of xs)) has h) each)

    go : (lent : Option InnerItem) → IsPartOrNone IsInner inner_bytes items place lent → IsSome lent
    go None none = absurd (none found.0 found.1 found.2)
    go (Some entry) p = cc

-- the key of an entry is that of its spelling
pub key_of_entry : (entry : InnerItem) → key_in (inner_bytes entry) ≡ entry.key
key_of_entry entry = take-append_seam entry.key (field 4 entry.child)

pub lengths : (entries : List InnerItem) → length (keys_of (map inner_bytes entries)) ≡ length entries
lengths [] = refl
lengths (entry ∷ rest) = ap suc (lengths rest)

-- the key at a place is that of the entry there
pub key_at : (entries : List InnerItem) (place : ℕ) (entry : InnerItem) → slice_get entries place ≡ Some entry
    → (place < length entries) × (slice_index_or (keys_of (map inner_bytes entries)) place [] ≡ entry.key) × (slice_get (map inner_bytes entries) place ≡ Some (inner_bytes entry))
key_at [] place entry e = absurd (nothing e)
  where
    nothing : None ≡ Some entry → ⊥
    nothing q = cc
key_at (first ∷ rest) zero entry e =
    let same : first ≡ entry = only e in (omega arith, key_of_entry first ∙ ap (λ (x : InnerItem). x.key) same, ap (λ (x : InnerItem). Some (inner_bytes x)) same)
  where
    only : Some first ≡ Some entry → first ≡ entry
    only q = cc
key_at (first ∷ rest) (suc place) entry e =
    let r = key_at rest place entry e in (omega (arith, r.0), r.1, r.2)

-- an entry that stands at a place is one of which each holds
pub each_at : (P : InnerItem → Type 0) (entries : List InnerItem) (place : ℕ) (entry : InnerItem) → slice_get entries place ≡ Some entry
    → AllByRecursion P entries → P entry
each_at P [] place entry e all = absurd (nothing e)
  where
    nothing : None ≡ Some entry → ⊥
    nothing q = cc
each_at P (first ∷ rest) zero entry e all = subst P (only e) all.0
  where
    only : Some first ≡ Some entry → first ≡ entry
    only q = cc
each_at P (first ∷ rest) (suc place) entry e all = each_at P rest place entry e all.1
