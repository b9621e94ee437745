-- What each state of a log gives a reader: stamps, numbers, and what it knows of a table.
use Rattle.std.proofs.Common.{◌≡◌, ◌≢◌, ◌≤◌, ℕ, Bool, true, false, List, [], ◌∷◌, if◌then◌else◌, ◌||◌, Option, Some, None, refl, sym, ap, ◌∙◌, ◌⊎◌, inl, inr}
use Rattle.tree_timeline.specs.Types.{Items, Key, PagesAt}
use Rattle.sql_values.specs.declared.schemas.Schema.{Schema}
use Rattle.version_store.specs.Contents.{Content, catalog_name}
use Rattle.version_store.specs.Rooted.{IsLone}
use Rattle.version_store.specs.Stores.{Store, catalog}
use Rattle.version_store.specs.Versions.{Row, Version, is_own, seen, seen_root, visible}
use Rattle.version_store.proofs.NameLaws.{chain_word}
use Rattle.version_store.proofs.Places.{bytes_self}
use Rattle.held_versions.specs.Tables.{SaysTable}
use Rattle.held_versions.specs.Versions.{VersionsAt}
use Rattle.snapshot_reads.specs.Keeping.{Keeps}
use Rattle.snapshot_reads.specs.Pasts.{IsFixed, Past, StampsLater}
use Rattle.snapshot_reads.specs.Tables.{Knows}
use Rattle.snapshot_reads.proofs.Chains.{Numbered, StampsOf}

-- the only version of a row that is seen
pub record Only (vs : List Version) (stamp : ℕ → ℕ) (n : ℕ) (own : Option ℕ) (row : Row)
    : Type 0 where
  pub version : Version
  pub only : vs ≡ version ∷ []
  pub row_is : version.row ≡ Some row
  pub fixed : (stamp version.trx ≢ 0) ⊎ (is_own own version.trx ≡ true)
  pub root : seen_root vs stamp n own ≡ Some version.root

stamped : (stamp n : ℕ) → visible stamp n ≡ true → stamp ≢ 0
stamped stamp n e z = let x : false ≡ true = sym (ap (λ s. visible s n) z) ∙ e in cc

pub only_version : (vs : List Version) (stamp : ℕ → ℕ) (n : ℕ) (own : Option ℕ) (row : Row)
    → IsLone vs → seen vs stamp n own ≡ Some row → Only vs stamp n own row
only_version [] stamp n own row l h = absurd (let x : None ≡ Some row = h in cc)
only_version (v ∷ (w ∷ vs)) stamp n own row l h = absurd l
only_version (v ∷ []) stamp n own row l h =
    by_tests (is_own own v.trx) refl (visible (stamp v.trx) n) refl
  where
    by : (b : Bool) → (is_own own v.trx || visible (stamp v.trx) n) ≡ b
        → (if b then v.row else None) ≡ Some row
    by b e = sym (ap (λ c. if c then v.row else None) e) ∙ h

    rooted : (b : Bool) → (is_own own v.trx || visible (stamp v.trx) n) ≡ b
        → (if b then Some v.root else None) ≡ seen_root (v ∷ []) stamp n own
    rooted b e = sym (ap (λ c. if c then Some v.root else None) e)

    by_tests : (b : Bool) → is_own own v.trx ≡ b → (c : Bool) → visible (stamp v.trx) n ≡ c
        → Only (v ∷ []) stamp n own row
    by_tests true e c f =
        let x : (is_own own v.trx || visible (stamp v.trx) n) ≡ true =
        ap (λ d. d || visible (stamp v.trx) n) e in
        record {
          version = v;
          only = refl;
          row_is = by true x;
          fixed = inr e;
          root = sym (rooted true x);
        }
    by_tests false e true f =
        let x : (is_own own v.trx || visible (stamp v.trx) n) ≡ true =
        ap (λ d. d || visible (stamp v.trx) n) e ∙ f in
        record {
          version = v;
          only = refl;
          row_is = by true x;
          fixed = inl (stamped (stamp v.trx) n f);
          root = sym (rooted true x);
        }
    by_tests false e false f =
        absurd (let x : None ≡ Some row = by false (ap (λ d. d || visible (stamp v.trx) n) e ∙ f) in
        cc)

-- the root of a table in the catalog is a page that there is
pub low_root : (pages : PagesAt) (j : ℕ) (xs : Items) (v : Version)
    → VersionsAt SaysTable (pages j) xs (v ∷ []) → v.root ≤ 32767
low_root pages j [] v held = absurd (let x : v ∷ [] ≡ [] = held in cc)
low_root pages j (x ∷ []) v held = held.0.says.spells.bounded.page
low_root pages j (x ∷ (y ∷ xs)) v held = absurd held

module _ (at : PagesAt) (items : ℕ → ℕ → Items) (S : ℕ → Store) (base end n : ℕ) (own : Option ℕ)
    (f : Content) (keeps : Keeps at items S base end) (past : Past S base end n own f)
  where
    pub stamps_of : StampsOf at S base end
    stamps_of j t b l some most = (keeps.holds j b l).stamps.stamps t some most

    pub numbered_by : Numbered at base end
    numbered_by j q b l = (keeps.holds j b l).counters.numbered q

    stays_fixed : (S R : Store) (v : Version) → StampsLater S R v.trx → IsFixed S own v
        → IsFixed R own v
    stays_fixed S R v (inl e) (inl s) = inl (λ z. s (sym e ∙ z))
    stays_fixed S R v (inr p) (inl s) = absurd (s p.0)
    stays_fixed S R v l (inr o) = inr o

    pub stays_known : (i j : ℕ) → base ≤ i → i ≤ j → j ≤ end → (a : Key) (s : Schema) (root : ℕ)
        → Knows (S i) own a s root → Knows (S j) own a s root
    stays_known i j b le l a s root k = record {
      version = k.version;
      only = past.lasts i j b le l a k.version k.only k.fixed;
      fixed = stays_fixed (S i) (S j) k.version
          (past.later i j (Version.trx k.version) b le l) k.fixed;
      root_is = k.root_is;
      row_is = k.row_is;
    }

    -- the name of a table
    pub seen_names : (j : ℕ) → base ≤ j → j ≤ end → n ≤ (S j).last → (a : Key)
        → seen ((S j).rows catalog a) (S j).stamp n own ≡ f catalog_name a
    seen_names j b l m a =
        ap (λ vs. seen vs (S j).stamp n own)
        (sym (chain_word (S j) catalog_name a (bytes_self catalog_name)))
        ∙ past.read j b l m catalog_name a
