-- Stated: a store of versions in trees, and what each group of the log makes of it.
use Rattle.std.specs.Prelude.{ℕ, suc, Option, Some, None, List, [], ◌∷◌, if◌then◌else◌, nat_eq, ◌&&◌, bytes_eq}
use Rattle.version_store.specs.Versions.{Row, Version, older}

-- an entry of an undo list: where a transaction wrote a version
pub record UndoEntry : Type 0 where
  pub root : ℕ
  pub key : List ℕ

-- `rows` has the versions under a key of the tree with a root. A transaction has a slot of its session until it
-- is committed or undone, and an undo list of what it changed. No page from `pages` on is made yet.
pub record Store : Type 0 where
  pub rows : ℕ → List ℕ → List Version
  pub stamp : ℕ → ℕ
  pub last : ℕ  -- the last stamp
  pub next : ℕ  -- the next transaction's number
  pub pages : ℕ
  pub slot : ℕ → Option ℕ
  pub undo : ℕ → List UndoEntry  -- newest first

-- the root of the catalog's tree
abbrev pub catalog : ℕ
catalog = 1026

-- a store with nothing in it: the pages that every log begins with are made
abbrev pub blank : Store
blank = record {
  rows = λ r k. [];
  stamp = λ t. 0;
  last = 0;
  next = 1;
  pages = 1028;
  slot = λ s. None;
  undo = λ s. [];
}

-- a function with one value changed
abbrev pub put : {A : Type 0} → (ℕ → A) → ℕ → A → ℕ → A
put f n v = λ k. if nat_eq k n then v else f k

abbrev pub put_row : (ℕ → List ℕ → List Version) → ℕ → List ℕ → List Version → ℕ → List ℕ → List Version
put_row rows r k vs = λ q j. if nat_eq q r && bytes_eq j k then vs else rows q j

-- ---- what a group makes of a store

-- a transaction takes a session's slot
abbrev pub begun : Store → ℕ → Store
begun S s = record S { slot = put S.slot s (Some S.next); undo = put S.undo s []; next = suc S.next }

-- a version more, with pages that were made for it
abbrev pub pushed : Store → ℕ → ℕ → List ℕ → Version → ℕ → Store
pushed S s r k v pages = record S {
  rows = put_row S.rows r k (v ∷ S.rows r k);
  undo = put S.undo s (record { root = r; key = k } ∷ S.undo s);
  pages = pages;
}

-- the version of a row of a table
abbrev pub written : ℕ → Option Row → Version
written t row = record { trx = t; row = row; root = 0 }

-- the version of a table's row in the catalog: its root is the next page
abbrev pub naming : Store → ℕ → Option Row → Version
naming S t row = record { trx = t; row = row; root = S.pages }

-- a row of a table is written: splits have groups of their own
abbrev pub changed : Store → ℕ → ℕ → ℕ → List ℕ → Option Row → Store
changed S s t r k row = pushed S s r k (written t row) S.pages

-- a table is made
abbrev pub created : Store → ℕ → ℕ → List ℕ → Option Row → Store
created S s t name row = pushed S s catalog name (naming S t row) (suc S.pages)

-- the newest entry of an undo list is undone
abbrev pub undone : Store → ℕ → ℕ → List ℕ → List UndoEntry → Store
undone S s r k us = record S { undo = put S.undo s us; rows = put_row S.rows r k (older (S.rows r k)) }

-- a transaction is committed: it has the next stamp, and gives its slot back
abbrev pub stamped : Store → ℕ → ℕ → Store
stamped S s t = record S { stamp = put S.stamp t (suc S.last); last = suc S.last; slot = put S.slot s None }

-- a slot whose changes are undone is given back
abbrev pub freed : Store → ℕ → Store
freed S s = record S { slot = put S.slot s None }

-- a page is split, or an undo page is made
abbrev pub split : Store → ℕ → Store
split S pages = record S { pages = pages }
