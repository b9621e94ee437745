-- What is found first under a name spells a table.
use Rattle.std.proofs.Common.{◌≡◌, ◌≤◌, ℕ, List, [], ◌∷◌, Option, Some, sym, subst, inl, inr, le_trans}
use Rattle.page_view.specs.declared.leaf.LeafItem.{LeafItem}
use Rattle.range_reader.specs.Uses.{FoundBy}
use Rattle.sql_values.specs.declared.schemas.Schema.{Schema}
use Rattle.tree_timeline.specs.Types.{Items, Key, PagesAt}
use Rattle.tree_timeline.specs.Walks.{Visit}
use Rattle.version_store.specs.Contents.{Content}
use Rattle.version_store.specs.Stores.{Store, catalog}
use Rattle.version_store.specs.Versions.{Version}
use Rattle.held_versions.specs.Tables.{SpellsTable}
use Rattle.snapshot_reads.specs.Keeping.{Keeps}
use Rattle.snapshot_reads.specs.Pasts.{Past}
use Rattle.snapshot_reads.specs.Times.{Latched, Rises, image_at}
use Rattle.snapshot_reads.proofs.Naming.{Named, named, names_told}

pub entry_spelled : (at : PagesAt) (items : ℕ → ℕ → Items) (S : ℕ → Store) (base end n : ℕ)
    (own : Option ℕ) (f : Content) (keeps : Keeps at items S base end)
    (past : Past S base end n own f)
    (from m : ℕ) → base ≤ from → from ≤ m → m ≤ end → n ≤ (S from).last → (a : Key)
    (us : List Visit) (entry : LeafItem) (others : List LeafItem)
    → FoundBy (image_at at) n own catalog (Some a) (Some a) us (entry ∷ others) → Rises m from us
    → Latched at us → (s : Schema) × (root : ℕ) × SpellsTable entry s root
entry_spelled at items S base end n own f keeps past from m b fm me low a us entry others found rise
    latched =
    go (named at items S base end n own f keeps past from m b me low a (entry ∷ others)
    (names_told at items S base end n own f keeps past from m b (le_trans fm me) me low a us
    (entry ∷ others) found rise latched))
  where
    first : (x y : LeafItem) (xs ys : List LeafItem) → x ∷ xs ≡ y ∷ ys → x ≡ y
    first x y xs ys e = cc

    go : Named at items S base end n own f keeps past from m a (entry ∷ others)
        → (s : Schema) × (root : ℕ) × SpellsTable entry s root
    go (inl (none, no_item)) = absurd (let x : entry ∷ others ≡ [] = no_item in cc)
    go (inr (item, more, is, j, lo, hi, shows)) = (
      shows.says.schema,
      Version.root shows.version,
      subst (λ i. SpellsTable i shows.says.schema (Version.root shows.version))
          (sym (first entry item others more is)) shows.says.spells,
    )
