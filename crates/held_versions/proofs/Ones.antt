-- For the proofs: pages hold one store alone.
use Rattle.std.proofs.Common.{◌≡◌, ◌≤◌, ◌<◌, ℕ, Bool, true, false, List, [], ◌∷◌, map, Option, Some, None, inl, inr, refl, sym, ap, subst, ◌∙◌, arith}
use Rattle.std.specs.Prelude.{nat_lt}
use Rattle.std.proofs.lemmas.Bool.{ltb-true}
use Rattle.rm_base.specs.declared.places.UndoPtr.{UndoPtr}
use Rattle.page_image.specs.Image.{Image}
use Rattle.page_view.specs.declared.leaf.LeafItem.{LeafItem}
use Rattle.page_view.specs.Leaf.{leaf_of}
use Rattle.sql_values.specs.declared.schemas.Schema.{Schema}
use Rattle.row_codec.proofs.ReadingLaws.{one_row}
use Rattle.sql_catalog.specs.Catalog.{catalog_row}
use Rattle.sql_catalog.proofs.Spelled.{one_table}
use Rattle.sql_database.specs.Catalog.{schema_of, schema_row}
use Rattle.commit_stamps.specs.Fields.{slot_of}
use Rattle.undo_versions.specs.declared.items.UndoItem.{UndoItem}
use Rattle.undo_versions.specs.Chains.{GoesOn, version_before}
use Rattle.undo_versions.specs.Walking.{is_page}
use Rattle.version_store.specs.Stores.{Store, UndoEntry, catalog}
use Rattle.version_store.specs.Versions.{Row, Version}
use Rattle.held_versions.specs.Counting.{sessions}
use Rattle.held_versions.specs.Holds.{Holds}
use Rattle.held_versions.specs.Single.{SayTheSame, told}
use Rattle.held_versions.specs.Tables.{SaysRow, SaysTable, catalog_schema}
use Rattle.held_versions.specs.Undoing.{Current, UndoList, current, with_item}
use Rattle.held_versions.specs.Versions.{Versions, VersionsAt, of_key}

-- ---- what an item says is one version

abbrev version_with : ℕ → Option Row → ℕ → Version
version_with trx row root = record { trx = trx; row = row; root = root }

-- a table's item says one version
table_one : (x : LeafItem) (v w : Version) → SaysTable x v → SaysTable x w → v.trx ≡ w.trx → v ≡ w
table_one x v w a b trx =
    let spelt : catalog_row a.schema v.root ≡ catalog_row b.schema w.root =
    one_row catalog_schema (catalog_row a.schema v.root) (catalog_row b.schema w.root) x.key x.value
    a.spells.spelt b.spells.spelt in
    let same = one_table a.schema b.schema v.root w.root a.spells.bounded b.spells.bounded spelt in
    let rows : v.row ≡ w.row =
    a.row ∙ ap (λ (s : Schema). Some (schema_row s)) same.0 ∙ sym b.row in
    ap (λ (t : ℕ). version_with t v.row v.root) trx
    ∙ ap (λ (r : Option Row). version_with w.trx r v.root) rows
    ∙ ap (version_with w.trx w.row) same.1

abbrev told_with : ℕ → Option Row → ℕ × Option Row
told_with trx row = (trx, row)

row_one : (s : Schema) (x : LeafItem) (v w : Version) → SaysRow s x v → SaysRow s x w → v.row ≡ w.row
row_one s x v w (inl a) (inl b) = a.1 ∙ sym b.1
row_one s x v w (inl a) (inr b) = (let both : true ≡ false = sym a.0 ∙ b.0 in absurd cc)
row_one s x v w (inr a) (inl b) = (let both : true ≡ false = sym b.0 ∙ a.0 in absurd cc)
row_one s x v w (inr a) (inr b) =
    a.1.2 ∙ ap Some (one_row s a.1.0 b.1.0 x.key x.value a.1.1 b.1.1) ∙ sym b.1.2

told_one : (s : Schema) (x : LeafItem) (v w : Version) → SaysRow s x v → SaysRow s x w
    → v.trx ≡ w.trx → told v ≡ told w
told_one s x v w a b trx =
    ap (λ (t : ℕ). told_with t v.row) trx ∙ ap (told_with w.trx) (row_one s x v w a b)

-- ---- chains

-- a fact of two versions that one item says
abbrev Alike : {A : Type 0} → (LeafItem → Version → Type 0) → (Version → A) → Type 0
Alike Says f = (x : LeafItem) (v w : Version) → Says x v → Says x w → v.trx ≡ w.trx → f v ≡ f w

rest_one : (P Q : LeafItem → Type 0) (M N R : Type 0) (o : Option LeafItem)
    → ((x : LeafItem) → P x → Q x → R) → (M → N → R) → GoesOn P M o → GoesOn Q N o → R
rest_one P Q M N R None f g a b = g a b
rest_one P Q M N R (Some x) f g a b = f x a b

chain_one : (A : Type 0) (Says : LeafItem → Version → Type 0) (f : Version → A) (pages : ℕ → Image)
    → Alike Says f → (item : LeafItem) (vs ws : List Version) → Versions Says pages item vs
    → Versions Says pages item ws → map f vs ≡ map f ws
chain_one A Says f pages alike item [] ws a b = absurd a
chain_one A Says f pages alike item (v ∷ vs) [] a b = absurd b
chain_one A Says f pages alike item (v ∷ vs) (w ∷ ws) a b =
    let first : f v ≡ f w = alike item v w a.0.says b.0.says (a.0.trx ∙ sym b.0.trx) in
    let rest : map f vs ≡ map f ws =
    rest_one (λ x. Versions Says pages x vs) (λ x. Versions Says pages x ws) (vs ≡ []) (ws ≡ [])
    (map f vs ≡ map f ws) (version_before pages item)
    (λ x p q. chain_one A Says f pages alike x vs ws p q) (λ p q. ap (map f) (p ∙ sym q)) a.1 b.1 in
    ap (λ (y : A). y ∷ map f vs) first ∙ ap (λ (l : List A). f w ∷ l) rest

key_one : (A : Type 0) (Says : LeafItem → Version → Type 0) (f : Version → A) (pages : ℕ → Image)
    → Alike Says f → (xs : List (List ℕ)) (vs ws : List Version) → VersionsAt Says pages xs vs
    → VersionsAt Says pages xs ws → map f vs ≡ map f ws
key_one A Says f pages alike [] vs ws a b = ap (map f) (a ∙ sym b)
key_one A Says f pages alike (x ∷ []) vs ws a b =
    chain_one A Says f pages alike (leaf_of x) vs ws a b
key_one A Says f pages alike (x ∷ (y ∷ rest)) vs ws a b = absurd a

map_itself : (vs : List Version) → map (λ v. v) vs ≡ vs
map_itself [] = refl
map_itself (v ∷ vs) = ap (λ (rest : List Version). v ∷ rest) (map_itself vs)

-- ---- undo lists

some_one : (a b : UndoItem) → Some a ≡ Some b → a ≡ b
some_one a b e = cc

no_place : (at : UndoPtr) → at.page ≡ 0 → is_page at.page ≡ true → ⊥
no_place at none is = let both : false ≡ true = sym (ap is_page none) ∙ is in cc

abbrev entry_with : ℕ → List ℕ → UndoEntry
entry_with root key = record { root = root; key = key }

list_one : (pages : ℕ → Image) (t u : ℕ) (items : Current) (at : UndoPtr) (es fs : List UndoEntry)
    → UndoList pages t items at es → UndoList pages u items at fs → es ≡ fs
list_one pages t u items at [] [] a b = refl
list_one pages t u items at [] (f ∷ fs) a b = absurd (no_place at a b.0.stands.page)
list_one pages t u items at (e ∷ es) [] a b = absurd (no_place at b a.0.stands.page)
list_one pages t u items at (e ∷ es) (f ∷ fs) a b =
    let same : b.0.undo ≡ a.0.undo =
    some_one b.0.undo a.0.undo (sym b.0.stands.item ∙ a.0.stands.item) in
    let entry : f ≡ e =
    ap (λ (r : ℕ). entry_with r f.key) (b.0.root ∙ ap (λ (x : UndoItem). x.root) same ∙ sym a.0.root)
    ∙ ap (entry_with e.root) (b.0.key ∙ ap (λ (x : UndoItem). x.key) same ∙ sym a.0.key) in
    let rest : UndoList pages u (with_item items e.root e.key a.0.undo.old) a.0.undo.before fs =
    subst (λ (x : UndoItem). UndoList pages u (with_item items e.root e.key x.old) x.before fs) same
    (subst (λ (g : UndoEntry). UndoList pages u (with_item items g.root g.key b.0.undo.old) b.0.undo.before fs) entry b.1) in
    ap (λ (g : UndoEntry). g ∷ es) (sym entry)
    ∙ ap (λ (gs : List UndoEntry). f ∷ gs)
    (list_one pages t u (with_item items e.root e.key a.0.undo.old) a.0.undo.before es fs a.1 rest)

-- ---- stores

module _ (items : ℕ → List (List ℕ)) (pages : ℕ → Image) (S T : Store) (h : Holds items pages S)
    (g : Holds items pages T) where
  slots : (s : ℕ) → S.slot s ≡ T.slot s
  slots s = by_test (nat_lt s sessions) refl
    where
      by_test : (b : Bool) → nat_lt s sessions ≡ b → S.slot s ≡ T.slot s
      by_test true e =
          (let low : s < sessions = ltb-true s sessions e in
          h.slots.slots s low ∙ sym (g.slots.slots s low))
      by_test false e =
          (let past : sessions ≤ s = grind arith in h.slots.others s past ∙ sym (g.slots.others s past))

  names : (k : List ℕ) → S.rows catalog k ≡ T.rows catalog k
  names k =
      sym (map_itself (S.rows catalog k))
      ∙ key_one Version SaysTable (λ v. v) pages table_one (of_key k (items catalog))
      (S.rows catalog k) (T.rows catalog k) (h.tables k) (g.tables k)
      ∙ map_itself (T.rows catalog k)

  pub one_store : SayTheSame S T
  one_store = record {
    stamps = λ t some most. h.stamps.stamps t some most ∙ sym (g.stamps.stamps t some most);
    last = h.counters.last_is ∙ sym g.counters.last_is;
    next = h.counters.next_is ∙ sym g.counters.next_is;
    pages = h.counters.pages_are ∙ sym g.counters.pages_are;
    slots = slots;
    undo = λ s t low is.
        list_one pages t t (current items) (slot_of (pages 1) s).last (S.undo s) (T.undo s)
        (h.undo s t low is) (g.undo s t low (sym (slots s) ∙ is));
    names = names;
    rows = λ a k v row one is.
        key_one (ℕ × Option Row) (SaysRow (schema_of row)) told pages (told_one (schema_of row))
        (of_key k (items v.root)) (S.rows v.root k) (T.rows v.root k) (h.rows a k v row one is)
        (g.rows a k v row (sym (names a) ∙ one) is);
  }
