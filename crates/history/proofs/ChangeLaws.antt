-- A change of a content and of the database that it stands for.
use Rattle.std.proofs.Common.{◌≡◌, ℕ, zero, suc, ◌≤◌, ◌+◌, ◌-◌, Bool, true, false, Option, Some, None, List, [], ◌∷◌, ◌++◌, if◌then◌else◌, ◌&&◌, arith, ◌⊎◌, inl, inr, refl, sym, subst, ap, ◌∙◌, option_map}
use Rattle.std.specs.Str.{bytes_eq}
use Rattle.std.proofs.Math.Path.{fun_ext}
use Rattle.std.specs.Option.{option_map_or}
use Rattle.sql_values.specs.Tables.{table_named}
use Rattle.sql_values.specs.declared.schemas.Schema.{Schema}
use Rattle.row_codec.specs.Keys.{key_bytes}
use Rattle.row_codec.specs.Records.{key_cell}
use Rattle.history.proofs.PlaceLaws.{over_or_else}
use Rattle.history.proofs.RowLaws.{placed_ascends, placed_under}
use Rattle.history.specs.Databases.{AreRows, StandsFor}
use Rattle.history.specs.Fitting.{after, FitsAll, FitsTimeline, Fits}
use Rattle.history.specs.Places.{is_at, says, over}
use Rattle.history.specs.Timelines.{timeline_of, content_after, content_at}
use Rattle.sql_database.specs.Applied.{placed, with_table, with_row, with_catalog, applied}
use Rattle.sql_database.specs.Catalog.{is_of_catalog, schema_of}
use Rattle.sql_database.specs.Database.{key_place, row_key, Database}
use Rattle.sql_database.specs.declared.changes.Change.{Change}
use Rattle.table_machine.specs.Machine.{after_commits, committed, Machine}
use Rattle.version_store.proofs.Places.{bytes_apart, bytes_differ, bytes_of, bytes_same, bytes_self, either_name}
use Rattle.version_store.specs.Contents.{Content, catalog_name}
use Rattle.version_store.specs.Versions.{Row}
use Rattle.sql_database.specs.Applied.{changed}

-- ---- one change, on both sides

pub catalog_word : (c : Change) → is_of_catalog c ≡ bytes_eq c.table catalog_name
unfolding catalog_name
catalog_word c = refl

abbrev or_new : Option Schema → Schema → Option Schema
or_new None s = Some s
or_new (Some y) s = Some y

named_append : (ss : List Schema) (s : Schema) (a : List ℕ)
    → table_named (ss ++ s ∷ []) a ≡ (if bytes_eq s.table a then or_new (table_named ss a) s else table_named ss a)
named_append [] s a = by_test (bytes_eq s.table a)
  where
    by_test : (b : Bool) → (if b then Some s else None) ≡ (if b then Some s else None)
    by_test b = refl
named_append (x ∷ ss) s a = by_test (bytes_eq x.table a) (bytes_eq s.table a) (named_append ss s a)
  where
    by_test : (b c : Bool)
        → table_named (ss ++ s ∷ []) a ≡ (if c then or_new (table_named ss a) s else table_named ss a)
        → (if b then Some x else table_named (ss ++ s ∷ []) a) ≡
        (if c then or_new (if b then Some x else table_named ss a) s else
        (if b then Some x else table_named ss a))
    by_test true true e = refl
    by_test true false e = refl
    by_test false c e = e

named_new : (ss : List Schema) (s : Schema) (a : List ℕ) → bytes_eq s.table a ≡ true → table_named ss a ≡ None
    → table_named (ss ++ s ∷ []) a ≡ Some s
named_new ss s a e n = named_append ss s a ∙ ap (λ b. if b then or_new (table_named ss a) s else table_named ss a) e
    ∙ ap (λ o. or_new o s) n

named_old : (ss : List Schema) (s : Schema) (a : List ℕ) → bytes_eq s.table a ≡ false
    → table_named (ss ++ s ∷ []) a ≡ table_named ss a
named_old ss s a e = named_append ss s a ∙ ap (λ b. if b then or_new (table_named ss a) s else table_named ss a) e

after_at : (f : Content) (c : Change) (a k : List ℕ) → c.table ≡ a → c.key ≡ k → after f c a k ≡ c.row
after_at f c a k e g = let p = bytes_of c.table a e in let q = bytes_of c.key k g in grind arith

after_apart : (f : Content) (c : Change) (a k : List ℕ) → bytes_eq c.table a ≡ false → after f c a k ≡ f a k
after_apart f c a k e = grind arith

after_other : (f : Content) (c : Change) (a k : List ℕ) → bytes_eq c.key k ≡ false → after f c a k ≡ f a k
after_other f c a k e = by_test (bytes_eq c.table a)
  where
    by_test : (b : Bool) → (if b && bytes_eq c.key k then c.row else f a k) ≡ f a k
    by_test true = ap (λ b. if b then c.row else f a k) e
    by_test false = refl

flip : (a b : List ℕ) → bytes_eq a b ≡ false → bytes_eq b a ≡ false
flip a b e = bytes_apart b a (λ s. bytes_differ a b e (sym s))

module _ (f : Content) (d : Database) (c : Change) (g : StandsFor f d) where
  is_created : bytes_eq c.table catalog_name ≡ true → (row : Row) → c.row ≡ Some row → (schema_of row).table ≡ c.key
      → f catalog_name c.key ≡ None → bytes_eq c.key catalog_name ≡ false
      → StandsFor (after f c) (with_table d (schema_of row))
  is_created w row cr named none kw = record {
    free = after_other f c catalog_name catalog_name kw ∙ g.free;
    bare = ap (λ b. if b then [] else d.tables catalog_name)
        (flip (schema_of row).table catalog_name (subst (λ z. bytes_eq z catalog_name ≡ false) (sym named) kw))
        ∙ g.bare;
    tables = λ a. tables a (either_name c.key a);
    rows = λ a nw. rows a nw (either_name c.key a);
    none = λ a k nw e. same a k nw ∙ g.none a k nw (gone a (either_name c.key a) e);
  }
    where
      s : Schema
      s = schema_of row

      ct : c.table ≡ catalog_name
      ct = bytes_same c.table catalog_name w

      none_of : table_named d.schemas c.key ≡ None
      none_of = g.tables c.key ∙ ap (option_map schema_of) none

      same : (a k : List ℕ) → bytes_eq a catalog_name ≡ false → after f c a k ≡ f a k
      same a k nw = after_apart f c a k (flip a c.table (ap (bytes_eq a) ct ∙ nw))

      new_name : (a : List ℕ) → c.key ≡ a → bytes_eq s.table a ≡ true
      new_name a e = bytes_of s.table a (named ∙ e)

      old_name : (a : List ℕ) → (c.key ≡ a → ⊥) → bytes_eq s.table a ≡ false
      old_name a ne = bytes_apart s.table a (λ e. ne (sym named ∙ e))

      old_table : (a : List ℕ) → (c.key ≡ a → ⊥) → table_named (d.schemas ++ s ∷ []) a ≡ table_named d.schemas a
      old_table a ne = named_old d.schemas s a (old_name a ne)

      tables : (a : List ℕ) → (c.key ≡ a) ⊎ (c.key ≡ a → ⊥)
          → table_named (d.schemas ++ s ∷ []) a ≡ option_map schema_of (after f c catalog_name a)
      tables a (inl e) = named_new d.schemas s a (new_name a e) (ap (table_named d.schemas) (sym e) ∙ none_of)
          ∙ sym (ap (option_map schema_of) (after_at f c catalog_name a ct e ∙ cr))
      tables a (inr ne) = old_table a ne ∙ g.tables a
          ∙ sym (ap (option_map schema_of) (after_other f c catalog_name a (bytes_apart c.key a ne)))

      gone : (a : List ℕ) → (c.key ≡ a) ⊎ (c.key ≡ a → ⊥) → after f c catalog_name a ≡ None
          → f catalog_name a ≡ None
      gone a (inl e) h = let z : Some row ≡ None = sym cr ∙ sym (after_at f c catalog_name a ct e) ∙ h in
          absurd (grind arith)
      gone a (inr ne) h = sym (after_other f c catalog_name a (bytes_apart c.key a ne)) ∙ h

      rows : (a : List ℕ) → bytes_eq a catalog_name ≡ false → (c.key ≡ a) ⊎ (c.key ≡ a → ⊥)
          → AreRows (row_key (with_table d s) a) (after f c a) ((with_table d s).tables a)
      rows a nw (inl e) =
          let z : (with_table d s).tables a ≡ [] = ap (λ b. if b then [] else d.tables a)
          (bytes_of a s.table (sym (named ∙ e))) in
          subst (λ rs. AreRows (row_key (with_table d s) a) (after f c a) rs) (sym z)
          (tt, λ k. sym (same a k nw ∙ g.none a k nw (ap (f catalog_name) (sym e) ∙ none)))
      rows a nw (inr ne) =
          let z : (with_table d s).tables a ≡ d.tables a = ap (λ b. if b then [] else d.tables a)
          (flip s.table a (old_name a ne)) in
          let place : key_place (with_table d s) a ≡ key_place d a = ap (λ o. option_map_or (λ s. s.key) o 0)
          (old_table a ne) in
          let old : AreRows (row_key d a) (f a) (d.tables a) = g.rows a nw in
          subst (λ rs. AreRows (row_key (with_table d s) a) (after f c a) rs) (sym z)
          (subst (λ p. AreRows (λ row. key_bytes (key_cell p row)) (after f c a) (d.tables a)) (sym place)
          (old.0, λ k. old.1 k ∙ sym (same a k nw)))

  is_placed : bytes_eq c.table catalog_name ≡ false → (def : Row) → f catalog_name c.table ≡ Some def
      → ((r : Row) → c.row ≡ Some r → key_bytes (key_cell (schema_of def).key r) ≡ c.key)
      → StandsFor (after f c) (with_row d c)
  is_placed nw def there keys = record {
    free = after_apart f c catalog_name catalog_name nw ∙ g.free;
    bare = ap (λ b. if b then placed (row_key d c.table) c.key c.row (d.tables c.table) else d.tables catalog_name)
        (flip c.table catalog_name nw) ∙ g.bare;
    tables = λ a. g.tables a ∙ sym (ap (option_map schema_of) (cat a));
    rows = λ a na. rows a na (either_name a c.table);
    none = λ a k na e. none a k na (sym (cat a) ∙ e) (either_name a c.table);
  }
    where
      cat : (a : List ℕ) → after f c catalog_name a ≡ f catalog_name a
      cat a = after_apart f c catalog_name a nw

      place : key_place d c.table ≡ (schema_of def).key
      place = ap (λ o. option_map_or (λ s. s.key) o 0) (g.tables c.table ∙ ap (option_map schema_of) there)

      is_key : (r : Row) → c.row ≡ Some r → row_key d c.table r ≡ c.key
      is_key r e = ap (λ p. key_bytes (key_cell p r)) place ∙ keys r e

      none : (a k : List ℕ) → bytes_eq a catalog_name ≡ false → f catalog_name a ≡ None
          → (a ≡ c.table) ⊎ (a ≡ c.table → ⊥) → after f c a k ≡ None
      none a k na e (inl s) = let z : Some def ≡ None = sym there ∙ ap (f catalog_name) (sym s) ∙ e in
          absurd (grind arith)
      none a k na e (inr ne) = after_apart f c a k (bytes_apart c.table a (λ s. ne (sym s))) ∙ g.none a k na e

      at_key : (k : List ℕ) → after f c c.table k ≡ (if bytes_eq c.key k then c.row else f c.table k)
      at_key k = ap (λ b. if b && bytes_eq c.key k then c.row else f c.table k) (bytes_self c.table)

      here : AreRows (row_key d c.table) (after f c c.table)
          (placed (row_key d c.table) c.key c.row (d.tables c.table))
      here = let old : AreRows (row_key d c.table) (f c.table) (d.tables c.table) = g.rows c.table nw in (
        placed_ascends (row_key d c.table) c.key c.row is_key (d.tables c.table) old.0,
        λ k. placed_under (row_key d c.table) c.key c.row is_key (d.tables c.table) k old.0
            ∙ ap (λ o. if bytes_eq c.key k then c.row else o) (old.1 k) ∙ sym (at_key k),
      )

      rows : (a : List ℕ) → bytes_eq a catalog_name ≡ false → (a ≡ c.table) ⊎ (a ≡ c.table → ⊥)
          → AreRows (row_key (with_row d c) a) (after f c a) ((with_row d c).tables a)
      rows a na (inl e) =
          subst (λ b. AreRows (row_key d b) (after f c b) ((with_row d c).tables b)) (sym e)
          (subst (λ rs. AreRows (row_key d c.table) (after f c c.table) rs)
          (sym (ap (λ b. if b then placed (row_key d c.table) c.key c.row
          (d.tables c.table) else d.tables c.table) (bytes_self c.table))) here)
      rows a na (inr ne) =
          let z : (with_row d c).tables a ≡ d.tables a = ap
          (λ b. if b then placed (row_key d c.table) c.key c.row (d.tables c.table) else d.tables a)
          (bytes_apart a c.table ne) in
          let old : AreRows (row_key d a) (f a) (d.tables a) = g.rows a na in
          subst (λ rs. AreRows (row_key d a) (after f c a) rs) (sym z)
          (old.0, λ k. old.1 k ∙ sym (after_apart f c a k (bytes_apart c.table a (λ s. ne (sym s)))))

  pub is_changed : Fits f c → StandsFor (after f c) (changed d c)
  is_changed h = by_test (bytes_eq c.table catalog_name) refl
    where
      by_test : (b : Bool) → bytes_eq c.table catalog_name ≡ b → StandsFor (after f c) (changed d c)
      by_test true e = let m = h.makes e in
          subst (λ x. StandsFor (after f c) x)
          (sym (ap (λ b. if b then with_catalog d c.row else with_row d c) (catalog_word c ∙ e)
          ∙ ap (with_catalog d) m.1)) (is_created e m.0 m.1 m.2 m.3 m.4)
      by_test false e = let p = h.places e in
          subst (λ x. StandsFor (after f c) x)
          (sym (ap (λ b. if b then with_catalog d c.row else with_row d c) (catalog_word c ∙ e)))
          (is_placed e p.0 p.1 p.2)

-- ---- lists of changes

pub after_says : (f : Content) (c : Change) (cs : List Change) (a k : List ℕ)
    → over (says cs a k) (after f c a k) ≡ over (says (c ∷ cs) a k) (f a k)
after_says f c cs a k = ap (over (says cs a k)) (one (is_at c a k))
    ∙ sym (over_or_else (says cs a k) (if is_at c a k then Some c.row else None) (f a k))
  where
    one : (b : Bool) → (if b then c.row else f a k) ≡ over (if b then Some c.row else None) (f a k)
    one true = refl
    one false = refl

pub is_applied : (cs : List Change) (f : Content) (d : Database) → StandsFor f d → FitsAll f cs
    → StandsFor (λ a k. over (says cs a k) (f a k)) (applied d cs)
is_applied [] f d g h = g
is_applied (c ∷ cs) f d g h =
    subst (λ x. StandsFor x (applied (changed d c) cs)) (fun_ext (λ a. fun_ext (λ k. after_says f c cs a k)))
    (is_applied cs (after f c) (changed d c) (is_changed f d c g h.0) h.1)

is_stood : (was : Content) (m : Machine) (upto n : ℕ) → StandsFor was m.base
    → FitsTimeline (timeline_of was m.first m.changes) upto → m.first + n ≤ upto
    → StandsFor (content_after was m.changes m.first n) (after_commits m.base m.changes m.first n)
unfolding after_commits
is_stood was m upto zero g h l = g
is_stood was m upto (suc n) g h l =
    is_applied (m.changes (m.first + suc n)) (content_after was m.changes m.first n)
    (after_commits m.base m.changes m.first n) (is_stood was m upto n g h (omega (arith, l)))
    (subst (λ i. FitsAll (content_after was m.changes m.first i) (m.changes (m.first + suc n)))
    (let e : (m.first + n) - m.first ≡ n = omega arith in e)
    (subst (λ i. FitsAll (content_at (timeline_of was m.first m.changes) (m.first + n)) (m.changes i))
    (let e : suc (m.first + n) ≡ m.first + suc n = omega arith in e)
    (h (m.first + n) (omega arith) (omega (arith, l)))))

-- the content at a number stands for the database at that number
pub is_committed : (was : Content) (m : Machine) (upto n : ℕ) → StandsFor was m.base
    → FitsTimeline (timeline_of was m.first m.changes) upto → n ≤ upto → m.first ≤ n
    → StandsFor (content_at (timeline_of was m.first m.changes) n) (committed m n)
is_committed was m upto n g h l f = is_stood was m upto (n - m.first) g h (omega (arith, l, f))
