-- Stated: what a reader finds under a table's name and a key.
use Rattle.std.specs.Prelude.{ℕ, Option, Some, None, List, [], ◌∷◌, if◌then◌else◌, bytes_eq, codes}
use Rattle.version_store.specs.Stores.{Store, catalog}
use Rattle.version_store.specs.Versions.{Row, Version, seen, seen_root}

-- for each table's name and each key the row or none; the catalog stands under a name of its own
abbrev pub Content : Type 0
Content = List ℕ → List ℕ → Option Row

unfoldable pub catalog_name : List ℕ
catalog_name = codes "table"

abbrev pub at_root : (ℕ → List ℕ → List Version) → Option ℕ → List ℕ → List Version
at_root rows None k = []
at_root rows (Some r) k = rows r k

-- the versions under a name and key, by the root in the catalog's row as the reader sees it
abbrev pub found : Store → ℕ → Option ℕ → List ℕ → List ℕ → List Version
found S n own a k =
    if bytes_eq a catalog_name then S.rows catalog k
    else at_root S.rows (seen_root (S.rows catalog a) S.stamp n own) k

-- what a reader sees: with its own transaction's changes, if it has one, and the commits up to a number
abbrev pub content : Store → ℕ → Option ℕ → Content
content S n own a k = seen (found S n own a k) S.stamp n own

-- the root of the table of that name, in the newest version of its row in the catalog
abbrev pub newest_root : List Version → Option ℕ
newest_root [] = None
newest_root (v ∷ vs) = Some v.root

abbrev pub root_of : Store → List ℕ → Option ℕ
root_of S a = newest_root (S.rows catalog a)

-- the versions by name and key, whoever reads
abbrev pub chain_of : Store → List ℕ → List ℕ → List Version
chain_of S a k = if bytes_eq a catalog_name then S.rows catalog k else at_root S.rows (root_of S a) k
