-- What is met in a key's item is what the store has of its newest version.
use Rattle.std.proofs.Common.{◌≡◌, ◌≤◌, ◌&&◌, ◌||◌, ℕ, Bool, true, false, not, is_some, nat_eq, nat_le, List, [], ◌∷◌, Option, Some, None, inl, inr, refl, sym, ◌∙◌, ap}
use Rattle.rm_base.specs.declared.limits.TheConstants.{MAX_TRX_ID}
use Rattle.page_image.specs.Image.{Image}
use Rattle.page_view.specs.declared.leaf.LeafItem.{LeafItem}
use Rattle.commit_stamps.specs.Stamping.{stamp_in, stamp_page, visible}
use Rattle.sql_values.specs.declared.schemas.Schema.{Schema}
use Rattle.version_store.specs.Stores.{Store}
use Rattle.version_store.specs.Versions.{Version, is_own}
use Rattle.history.specs.Clusters.{in_the_way}
use Rattle.range_reader.specs.declared.fetch.Snapshot.{Snapshot}
use Rattle.range_reader.specs.Uses.{LooksUp}
use Rattle.held_versions.specs.Counting.{HasStamps}
use Rattle.held_versions.specs.Tables.{SaysRow, SaysTable}
use Rattle.held_versions.specs.Undoing.{first_of}
use Rattle.held_versions.specs.Versions.{Has, VersionsAt}
use Rattle.key_conflicts.specs.declared.verdict.Met.{Met}
use Rattle.key_conflicts.specs.Judged.{Meets}
use Rattle.key_conflicts.specs.Testing.{Key, met}
use Rattle.held_conflicts.specs.Verdicts.{Stand, has_row}

-- ---- the item of a key, and the newest of its versions

pub record Newest (Says : LeafItem → Version → Type 0) (pages : ℕ → Image) (item : LeafItem) (vs : List Version) : Type 0 where
  pub version : Version
  pub older : List Version
  pub are : vs ≡ version ∷ older
  pub has : Has Says pages item version

abbrev pub IsNewest : (LeafItem → Version → Type 0) → (ℕ → Image) → Option LeafItem → List Version → Type 0
IsNewest Says pages None vs = vs ≡ []
IsNewest Says pages (Some item) vs = Newest Says pages item vs

pub newest : (Says : LeafItem → Version → Type 0) (pages : ℕ → Image) (xs : List Key) (vs : List Version) → VersionsAt Says pages xs vs
    → IsNewest Says pages (first_of xs) vs
newest Says pages [] vs h = h
newest Says pages (x ∷ []) [] h = absurd h
newest Says pages (x ∷ []) (v ∷ vs) h = record { version = v; older = vs; are = refl; has = h.0 }
newest Says pages (x ∷ (y ∷ rest)) vs h = absurd h

-- it has a row where the item is not deleted
abbrev pub SaysLife : (LeafItem → Version → Type 0) → Type 0
SaysLife Says = (item : LeafItem) (v : Version) → Says item v → not item.deleted ≡ is_some v.row

pub table_lives : SaysLife SaysTable
table_lives item v h = ap not h.lives ∙ sym (ap is_some h.row)

pub row_lives : (s : Schema) → SaysLife (SaysRow s)
row_lives s item v (inl h) = ap not h.0 ∙ sym (ap is_some h.1)
row_lives s item v (inr h) = ap not h.0 ∙ sym (ap is_some h.1.2)

-- ---- what is met

none_way : (own : Bool) (b : Bool) → own ≡ true → (not own && b) ≡ false
none_way own b e = ap (λ (o : Bool). not o && b) e

-- a stamp is not seen where there is none, or one past the snapshot
unseen : (a b c : Bool) → (not a && b) ≡ not c → c ≡ (a || not b)
unseen true b true e = refl
unseen true b false e = let apart : false ≡ true = e in absurd cc
unseen false true true e = let apart : true ≡ false = e in absurd cc
unseen false true false e = refl
unseen false false true e = refl
unseen false false false e = let apart : false ≡ true = e in absurd cc

pub record IsMet (S : Store) (s : Snapshot) (vs : List Version) (m : Met) : Type 0 where
  pub clash : m.clash ≡ in_the_way vs S.stamp s.stamp s.own
  pub there : m.there ≡ has_row vs

nothing : (S : Store) (s : Snapshot) (vs : List Version) (m : Met) → vs ≡ [] → m ≡ met false false → IsMet S s vs m
nothing S s vs m e h =
    record {
      clash = ap (λ (x : Met). x.clash) h ∙ sym (ap (λ (xs : List Version). in_the_way xs S.stamp s.stamp s.own) e);
      there = ap (λ (x : Met). x.there) h ∙ sym (ap has_row e);
    }

stands_in : (pages : ℕ → Image) (S : Store) → HasStamps pages S → (u : Image) (t : ℕ) → u ≡ pages u.page → u.page ≡ stamp_page t → 1 ≤ t → t ≤ MAX_TRX_ID
    → stamp_in u t ≡ S.stamp t
stands_in pages S h u t stands page some most =
    ap (λ (im : Image). stamp_in im t) (stands ∙ ap pages page) ∙ sym (h.stamps t some most)

pub meets_newest : (Says : LeafItem → Version → Type 0) → SaysLife Says → (pages : ℕ → Image) (S : Store) → HasStamps pages S
    → (s : Snapshot) (o : Option LeafItem) (vs : List Version) (us : List Image) (m : Met) → IsNewest Says pages o vs → Stand pages us
    → Meets s o us m → IsMet S s vs m
meets_newest Says life pages S stamps s None vs us m h stand met = nothing S s vs m h met.1
meets_newest Says life pages S stamps s (Some item) vs [] m h stand met =
    let own : is_own s.own h.version.trx ≡ true = ap (is_own s.own) h.has.trx ∙ met.0 in
    record {
      clash =
          ap (λ (x : Met). x.clash) met.1
          ∙ sym (ap (λ (xs : List Version). in_the_way xs S.stamp s.stamp s.own) h.are
          ∙ none_way (is_own s.own h.version.trx) (nat_eq (S.stamp h.version.trx) 0 || not (nat_le (S.stamp h.version.trx) s.stamp)) own);
      there = ap (λ (x : Met). x.there) met.1 ∙ (life item h.version h.has.says ∙ sym (ap has_row h.are));
    }
meets_newest Says life pages S stamps s (Some item) vs (u ∷ us) m h stand met =
    let up : LooksUp u s.stamp s.own item (not m.clash) = met.1 in
    let stamp : stamp_in u item.trx ≡ S.stamp item.trx =
    stands_in pages S stamps u item.trx stand.0 up.page.number h.has.some h.has.most in
    let seen : visible (S.stamp item.trx) s.stamp ≡ not m.clash = ap (λ (x : ℕ). visible x s.stamp) (sym stamp) ∙ up.shown in
    let way : m.clash ≡ (nat_eq (S.stamp item.trx) 0 || not (nat_le (S.stamp item.trx) s.stamp)) =
    unseen (nat_eq (S.stamp item.trx) 0) (nat_le (S.stamp item.trx) s.stamp) m.clash seen in
    let there : ℕ → Bool = λ t. not (is_own s.own t) && (nat_eq (S.stamp t) 0 || not (nat_le (S.stamp t) s.stamp)) in
    record {
      clash =
          way
          ∙ (sym (ap (λ (o : Bool). not o && (nat_eq (S.stamp item.trx) 0 || not (nat_le (S.stamp item.trx) s.stamp))) up.other)
          ∙ (ap there (sym h.has.trx) ∙ sym (ap (λ (xs : List Version). in_the_way xs S.stamp s.stamp s.own) h.are)));
      there = met.2 ∙ (life item h.version h.has.says ∙ sym (ap has_row h.are));
    }
