-- Stated: a table that is made and undone, and made again with a row that is committed.
use Rattle.std.specs.Prelude.{◌≡◌, ℕ, List, [], ◌∷◌, Some, None, codes}
use Rattle.sql_values.specs.declared.values.Value.TheVariants.{Null}
use Rattle.version_store.specs.Contents.{content, root_of}
use Rattle.version_store.specs.Groups.{AllMake, Group, begins, commits, creates, frees, undoes, writes}
use Rattle.version_store.specs.Stores.{Store, begun, blank, catalog, changed, created, freed, stamped, undone}
use Rattle.version_store.specs.Versions.{Row}

abbrev pub name : List ℕ
name = codes "t"

abbrev pub key : List ℕ
key = codes "k"

abbrev pub row : Row
row = Null ∷ []

-- transaction 1 makes the table
abbrev pub made : Store
made = created (begun blank 0) 0 1 name (Some row)

-- and is undone
abbrev pub back : Store
back = freed (undone made 0 catalog name []) 0

-- transaction 2 makes it again, with a row
abbrev pub again : Store
again = created (begun back 0) 0 2 name (Some row)

abbrev pub filled : Store
filled = changed again 0 2 1029 key (Some row)

-- and is committed
abbrev pub done : Store
done = stamped filled 0 2

abbrev pub groups : List Group
groups =
    begins 0 ∷ (creates 0 name row ∷ (undoes 0 ∷ (frees 0
    ∷ (begins 0 ∷ (creates 0 name row ∷ (writes 0 name key (Some row) ∷ (commits 0 ∷ [])))))))

-- the root that was used is not used again; the transaction sees its row, no other does until it is committed,
-- and no reader at a lesser number then
pub record ExampleReads : Type 0 where
  pub log : AllMake groups blank done
  pub first : root_of made name ≡ Some 1028
  pub gone : root_of back name ≡ None
  pub second : root_of again name ≡ Some 1029
  pub own : content filled 0 (Some 2) name key ≡ Some row
  pub other : content filled 0 None name key ≡ None
  pub committed : content done 1 None name key ≡ Some row
  pub before : content done 0 None name key ≡ None
