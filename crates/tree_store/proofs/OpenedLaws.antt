-- The trees of a new store: one, which is empty.
use Rattle.std.proofs.Common.{◌≡◌, ℕ, [], ◌∷◌, refl, sym, subst, arith}
use Rattle.rm_base.specs.declared.limits.TheConstants.{CATALOG_ROOT_PAGE_ID, FIRST_FREE_PAGE_ID}
use Rattle.page_store.specs.Stored.{pages_of}
use Rattle.page_store.specs.Opening.{opened}
use Rattle.page_store.proofs.StoredLaws.{page_number}
use Rattle.page_store.proofs.OpeningLaws.{opened_root, opened_meta, opened_count, opened_unmade}
use Rattle.page_image.specs.Meta.{page_count}
use Rattle.tree_change.proofs.MemberLaws.{member_has}
use Rattle.tree_change.proofs.BeginLaws.{empty_tree}
use Rattle.bplus_tree.specs.Forest.{Forest, Owns}

opened_owns : Owns (pages_of opened) (λ q. CATALOG_ROOT_PAGE_ID) CATALOG_ROOT_PAGE_ID []
opened_owns = record { tree = (empty_tree (pages_of opened) CATALOG_ROOT_PAGE_ID 1 opened_root).tree; owned = λ q k. refl }

pub opened_forest : Forest (pages_of opened) (CATALOG_ROOT_PAGE_ID ∷ []) (λ root. [])
opened_forest =
    let count : page_count (pages_of opened 0) ≡ FIRST_FREE_PAGE_ID = opened_count in
    record {
      meta = record { kind = opened_meta; number = page_number opened 0 };
      low = omega (arith, count);
      high = omega (arith, count);
      free = λ q past. opened_unmade q (omega (arith, count, past));
      numbered = page_number opened;
      owner = λ q. CATALOG_ROOT_PAGE_ID;
      trees = λ r d.
          let is : r ≡ CATALOG_ROOT_PAGE_ID = member_has (λ q. q ≡ CATALOG_ROOT_PAGE_ID) (CATALOG_ROOT_PAGE_ID ∷ []) r (refl, tt) d in
          subst (λ (p : ℕ). Owns (pages_of opened) (λ q. CATALOG_ROOT_PAGE_ID) p []) (sym is) opened_owns;
    }
