-- For the proofs: the items with a key, beside the store's rows of it.
use Rattle.std.proofs.Common.{◌≡◌, ℕ, Bool, true, false, cond, List, [], ◌∷◌, inl, inr, refl, sym, ◌∙◌}
use Rattle.std.specs.Prelude.{if◌then◌else◌}
use Rattle.std.specs.Ordering.{is_eq}
use Rattle.std.specs.Str.{bytes_eq}
use Rattle.std.proofs.lemmas.Map.Text.{is_eq-slice_cmp}
use Rattle.page_image.specs.Image.{Image}
use Rattle.page_view.specs.declared.leaf.LeafItem.{LeafItem}
use Rattle.page_view.specs.Keys.{key_cmp, key_in}
use Rattle.page_view.specs.Leaf.{leaf_of}
use Rattle.version_store.specs.Versions.{Version}
use Rattle.version_store.proofs.Places.{bytes_apart, bytes_of, either_name}
use Rattle.held_versions.specs.Versions.{Versions, VersionsAt, of_key}

pub bytes_turned : (a b : List ℕ) → bytes_eq a b ≡ bytes_eq b a
bytes_turned a b =
    elim (either_name a b) [
      | inl e ↦ bytes_of a b e ∙ sym (bytes_of b a (sym e))
      | inr ne ↦ bytes_apart a b ne ∙ sym (bytes_apart b a (λ e. ne (sym e)))
    ]

-- an item has the key exactly where the store's test says so
pub key_test : (x k : List ℕ) → is_eq (key_cmp (key_in x) k) ≡ bytes_eq k (key_in x)
key_test x k = is_eq-slice_cmp (key_in x) k ∙ bytes_turned (key_in x) k

-- one item, and its versions
pub one_item : (Says : LeafItem → Version → Type 0) (pages : ℕ → Image) (x k : List ℕ)
    (vs : List Version) → Versions Says pages (leaf_of x) vs
    → VersionsAt Says pages (of_key k (x ∷ [])) (if bytes_eq k (key_in x) then vs else [])
one_item Says pages x k vs h =
    by_test (is_eq (key_cmp (key_in x) k)) (bytes_eq k (key_in x)) (key_test x k)
  where
    by_test : (a b : Bool) → a ≡ b
        → VersionsAt Says pages (cond a (x ∷ []) []) (if b then vs else [])
    by_test true true e = h
    by_test false false e = refl
    by_test true false e = absurd cc
    by_test false true e = absurd cc
