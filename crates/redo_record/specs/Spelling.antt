-- Stated: the one spelling of each record, group and log in bytes. Numbers have their highest byte first.
use Rattle.std.specs.Prelude.{◌≡◌, ◌≢◌, ◌≤◌, ◌<◌, ◌+◌, ◌-◌, ◌^◌, ℕ, List, [], ◌∷◌, ◌++◌, length, drop}
use Rattle.rm_base.specs.declared.limits.TheConstants.{MAX_PAGE_ID, PAGE_BYTES, PAGE_HEADER_BYTES}
use Rattle.std.specs.List.{flat_map, AllByRecursion}
use Rattle.rm_base.specs.Fields.{field, AreBytes}
use Rattle.page_image.specs.declared.kind.Kind.TheVariants.{Unmade}
use Rattle.page_image.specs.Image.{kind_number, LevelFits}
use Rattle.redo_record.specs.declared.redo.Record.{Record}
use Rattle.redo_record.specs.declared.redo.Record.TheVariants.{Make, Patch, InsertSlot, RemoveSlot, Cut, Link}
use Rattle.redo_record.specs.declared.redo.Group.{Group}

-- bytes behind their number
abbrev pub counted : List ℕ → List ℕ
counted bytes = field 2 (length bytes) ++ bytes

-- a record: the byte of what it does, its page, and its own fields
abbrev pub record_bytes : Record → List ℕ
record_bytes (Make page kind level) = 1 ∷ (field 4 page ++ (kind_number kind ∷ level ∷ []))
record_bytes (Patch page at bytes) = 2 ∷ (field 4 page ++ (field 2 at ++ counted bytes))
record_bytes (InsertSlot page index bytes) = 3 ∷ (field 4 page ++ (field 2 index ++ counted bytes))
record_bytes (RemoveSlot page index) = 4 ∷ (field 4 page ++ field 2 index)
record_bytes (Cut page from) = 5 ∷ (field 4 page ++ field 2 from)
record_bytes (Link page next) = 6 ∷ (field 4 page ++ field 4 next)

-- records one after the other
abbrev pub records_bytes : List Record → List ℕ
records_bytes records = flat_map record_bytes records

-- the bytes of a group before its records: the length of the whole group, its LSN, and how many records it has
abbrev pub header_bytes : ℕ → ℕ → ℕ → List ℕ
header_bytes size lsn count = field 4 size ++ (field 8 lsn ++ field 2 count)

-- how many bytes a group has
abbrev pub size_of : Group → ℕ
size_of g = 14 + length (records_bytes g.records)

-- a group: its header and its records
abbrev pub group_bytes : Group → List ℕ
group_bytes g = header_bytes (size_of g) g.lsn (length g.records) ++ records_bytes g.records

-- groups one after the other
abbrev pub log_bytes : List Group → List ℕ
log_bytes groups = flat_map group_bytes groups

-- a patch and an item have at least one byte, and fit a page beside its header
abbrev pub FitsPage : List ℕ → Type 0
FitsPage bytes = (1 ≤ length bytes) × (length bytes ≤ PAGE_BYTES - PAGE_HEADER_BYTES)

-- what decoding asks of a record, beside that its fields are of their types
abbrev pub IsAdmitted : Record → Type 0
IsAdmitted (Make page kind level) = (kind ≢ Unmade) × LevelFits kind level
IsAdmitted (Patch page at bytes) = FitsPage bytes
IsAdmitted (InsertSlot page index bytes) = FitsPage bytes
IsAdmitted (RemoveSlot page index) = Unit {0}
IsAdmitted (Cut page from) = Unit {0}
IsAdmitted (Link page next) = next ≤ MAX_PAGE_ID

-- each field is of its type: of any record that the program has, this holds
abbrev pub IsTyped : Record → Type 0
IsTyped (Make page kind level) = page ≤ MAX_PAGE_ID
IsTyped (Patch page at bytes) = (page ≤ MAX_PAGE_ID) × (at < 2 ^ 16) × AreBytes bytes
IsTyped (InsertSlot page index bytes) = (page ≤ MAX_PAGE_ID) × (index < 2 ^ 16) × AreBytes bytes
IsTyped (RemoveSlot page index) = (page ≤ MAX_PAGE_ID) × (index < 2 ^ 16)
IsTyped (Cut page from) = (page ≤ MAX_PAGE_ID) × (from < 2 ^ 16)
IsTyped (Link page next) = page ≤ MAX_PAGE_ID

-- what is read as a record
abbrev pub IsRecord : Record → Type 0
IsRecord r = IsTyped r × IsAdmitted r

-- what decoding asks of a group, beside that its fields are of their types
pub record IsEncodable (g : Group) : Type 0 where
  pub first : 1 ≤ g.lsn
  pub some : 1 ≤ length g.records
  pub most : length g.records ≤ 65535
  pub each : AllByRecursion IsAdmitted g.records

-- what is read as a group
pub record IsGroup (g : Group) : Type 0 where
  pub encodable : IsEncodable g
  pub bound : g.lsn < 2 ^ 64
  pub typed : AllByRecursion IsTyped g.records

-- what is read as a log
abbrev pub IsLog : List Group → Type 0
IsLog groups = AllByRecursion IsGroup groups

-- the redo grammar: the bytes are the spelling of these groups
pub record Spells (bytes : List ℕ) (groups : List Group) : Type 0 where
  pub groups_are : IsLog groups
  pub bytes_are : bytes ≡ log_bytes groups

-- the first n bytes are the spelling of the group
pub record BeginsWith (bytes : List ℕ) (g : Group) (n : ℕ) : Type 0 where
  pub is_group : IsGroup g
  pub size : n ≡ length (group_bytes g)
  pub parts : bytes ≡ group_bytes g ++ drop n bytes
