-- From one range of a statement to the next.
use Rattle.std.proofs.Common.{◌≡◌, ◌<◌, ◌≤◌, ◌+◌, ℕ, zero, suc, Bool, true, false, List, [], ◌∷◌, ◌++◌, length, drop, slice_get, Option, Some, None, IsSome, refl, sym, ◌∙◌, ap, subst, arith}
use Rattle.rm_base.specs.declared.limits.TheConstants.{CATALOG_ROOT_PAGE_ID}
use Rattle.std.specs.Prelude.{is_some, Result, Ok, Err, IfOk}
use Rattle.rm_base.specs.declared.key_range.KeyRange.{KeyRange}
use Rattle.page_view.specs.declared.leaf.LeafItem.{LeafItem}
use Rattle.sql_statements.specs.declared.statements.Stmt.{Stmt}
use Rattle.sql_meaning.specs.Ranges.{ranges}
use Rattle.sql_exec.specs.Answer.{is_join}
use Rattle.question_tree.specs.Questions.{tells, stops, wanted, told, then_on}
use Rattle.range_reader.specs.declared.fetch.Fetch.{Fetch}
use Rattle.range_reader.specs.declared.fetch.Snapshot.{Snapshot}
use Rattle.range_reader.specs.declared.reader.RangeReader.{RangeReader}
use Rattle.range_reader.specs.Finding.{Finding, find}
use Rattle.range_reader.specs.Machine.{finding_of, is_settled}
use Rattle.statement_reader.specs.declared.progress.Progress.{Progress}
use Rattle.statement_reader.specs.declared.progress.Stage.{Stage}
use Rattle.statement_reader.specs.declared.progress.Stage.TheVariants as stage
use Rattle.statement_reader.specs.declared.tables.Table.{Table}
use Rattle.statement_reader.specs.declared.tables.Found.{Found}
use Rattle.statement_reader.specs.Decoding.{Row, Decoder}
use Rattle.statement_reader.specs.Question.{Reading, told_table, named, left_range, right_range, schemas_of, over, over_table, each_row, joined, question}
use Rattle.statement_reader.specs.Machine.{finding_in, after_right, after_left, after_lefts, rows_from, rows_left, after_row, over_from, lefts_left, rights_left, rows_with, row_begun, stage_with, stage_of, reads, is_end, is_naming, IsAsking, Ready, rows_by, root_in, find_at, Begins, BeginsRight}
use Rattle.statement_reader.proofs.DecodingLaws.{drop_item, drop_none}

at_stage : (d : Decoder) (st : Stmt) (p : Progress) (o : Option RangeReader) (t : Stage) → p.stage ≡ t → stage_of d st p o ≡ stage_with d st t p (finding_in o)
unfolding stage_of
at_stage d st p o t e = ap (λ (x : Stage). stage_with d st x p (finding_in o)) e

-- ---- ends

pub stopped : (d : Decoder) (st : Stmt) (p : Progress) (o : Option RangeReader) → p.stage ≡ stage.Stopped → stage_of d st p o ≡ stops
unfolding stage_with
stopped d st p o e = at_stage d st p o stage.Stopped e

pub stopped_ready : (p : Progress) → p.stage ≡ stage.Stopped → Ready p None
unfolding Ready
stopped_ready p e = ap is_end e

pub done_ready : (p : Progress) → p.stage ≡ stage.Done → Ready p None
unfolding Ready
done_ready p e = ap is_end e

some_of : {A : Type 0} (o : Option A) (a : A) → o ≡ Some a → IsSome o
some_of o a e = subst IsSome (sym e) refl

naming_reads : (t : Stage) (left right : Option Table) → is_naming t ≡ true → reads t left right ≡ true
naming_reads stage.Left left right e = refl
naming_reads stage.Right left right e = refl
naming_reads stage.Lefts left right e = absurd (apart e)
  where
    apart : false ≡ true → ⊥
    apart q = cc
naming_reads stage.Rights left right e = absurd (apart e)
  where
    apart : false ≡ true → ⊥
    apart q = cc
naming_reads stage.Done left right e = absurd (apart e)
  where
    apart : false ≡ true → ⊥
    apart q = cc
naming_reads stage.Stopped left right e = absurd (apart e)
  where
    apart : false ≡ true → ⊥
    apart q = cc

pub looked_ready : (p : Progress) (f : RangeReader) (q : Fetch) → is_naming p.stage ≡ true → is_settled f ≡ true → wanted (finding_of f) ≡ Some q → Ready p (Some f)
unfolding Ready
looked_ready p f q n s w = (s, some_of (wanted (finding_of f)) q w, naming_reads p.stage p.left p.right n)

-- ---- names

looked : (d : Decoder) (st : Stmt) (p : Progress) (o : Option RangeReader) (range : KeyRange) (t : Stage) (k : Option Table → Reading Found) (x : Option KeyRange)
    → finding_in o ≡ find p.snapshot CATALOG_ROOT_PAGE_ID range → Some range ≡ x → then_on (then_on (finding_in o) (told_table d)) k ≡ named d p.snapshot x k
looked d st p o range t k x f e =
    ap (λ (m : Finding). then_on (then_on m (told_table d)) k) f ∙ ap (λ (y : Option KeyRange). named d p.snapshot y k) e

pub begins_named : (d : Decoder) (st : Stmt) (p q : Progress) (o : Option RangeReader) (range : KeyRange)
    → finding_in o ≡ find p.snapshot CATALOG_ROOT_PAGE_ID range → q ≡ record p { stage = stage.Left } → Some range ≡ left_range st
    → stage_of d st q o ≡ question d p.snapshot st
unfolding stage_of stage_with question
begins_named d st p q o range f e n =
    ap (λ (x : Progress). stage_of d st x o) e ∙ looked d st p o range stage.Left (after_left d st p.snapshot) (left_range st) f n

pub begins_unnamed : (d : Decoder) (st : Stmt) (p mid q : Progress) (o : Option RangeReader) → None ≡ left_range st → mid.left ≡ None → mid.snapshot ≡ p.snapshot
    → stage_of d st q o ≡ after_left d st mid.snapshot mid.left → stage_of d st q o ≡ question d p.snapshot st
unfolding question
begins_unnamed d st p mid q o n l s is =
    is ∙ (ap (λ (x : Snapshot). after_left d st x mid.left) s ∙ (ap (after_left d st p.snapshot) l
    ∙ ap (λ (y : Option KeyRange). named d p.snapshot y (after_left d st p.snapshot)) n))

pub right_named : (d : Decoder) (st : Stmt) (p q : Progress) (o : Option RangeReader) (range : KeyRange)
    → finding_in o ≡ find p.snapshot CATALOG_ROOT_PAGE_ID range → q ≡ record p { stage = stage.Right } → Some range ≡ right_range st
    → stage_of d st q o ≡ after_left d st p.snapshot p.left
unfolding stage_of stage_with
right_named d st p q o range f e n =
    ap (λ (x : Progress). stage_of d st x o) e ∙ looked d st p o range stage.Right (after_right d st p.snapshot p.left) (right_range st) f n

pub right_unnamed : (d : Decoder) (st : Stmt) (p mid q : Progress) (o : Option RangeReader) → None ≡ right_range st → mid.right ≡ None
    → mid.snapshot ≡ p.snapshot → mid.left ≡ p.left → stage_of d st q o ≡ after_right d st mid.snapshot mid.left mid.right
    → stage_of d st q o ≡ after_left d st p.snapshot p.left
right_unnamed d st p mid q o n r s l is =
    is ∙ (ap (λ (x : Snapshot). after_right d st x mid.left mid.right) s ∙ (ap (λ (x : Option Table). after_right d st p.snapshot x mid.right) l
    ∙ (ap (after_right d st p.snapshot p.left) r
    ∙ ap (λ (y : Option KeyRange). named d p.snapshot y (after_right d st p.snapshot p.left)) n)))

-- what the items under a name say
pub left_stops : (d : Decoder) (st : Stmt) (p q : Progress) (o : Option RangeReader) (items : List LeafItem) → stops ≡ told_table d items
    → stage_of d st q o ≡ stops → stage_of d st q o ≡ then_on (told_table d items) (after_left d st p.snapshot)
left_stops d st p q o items e is = is ∙ ap (λ (m : Reading (Option Table)). then_on m (after_left d st p.snapshot)) e

pub left_goes_on : (d : Decoder) (st : Stmt) (p mid q : Progress) (o : Option RangeReader) (items : List LeafItem) (t : Option Table)
    → tells t ≡ told_table d items → mid.left ≡ t → mid.snapshot ≡ p.snapshot → stage_of d st q o ≡ after_left d st mid.snapshot mid.left
    → stage_of d st q o ≡ then_on (told_table d items) (after_left d st p.snapshot)
left_goes_on d st p mid q o items t e l s is =
    is ∙ (ap (λ (x : Snapshot). after_left d st x mid.left) s ∙ (ap (after_left d st p.snapshot) l
    ∙ ap (λ (m : Reading (Option Table)). then_on m (after_left d st p.snapshot)) e))

pub right_stops : (d : Decoder) (st : Stmt) (p q : Progress) (o : Option RangeReader) (items : List LeafItem) → stops ≡ told_table d items
    → stage_of d st q o ≡ stops → stage_of d st q o ≡ then_on (told_table d items) (after_right d st p.snapshot p.left)
right_stops d st p q o items e is = is ∙ ap (λ (m : Reading (Option Table)). then_on m (after_right d st p.snapshot p.left)) e

pub right_goes_on : (d : Decoder) (st : Stmt) (p mid q : Progress) (o : Option RangeReader) (items : List LeafItem) (t : Option Table)
    → tells t ≡ told_table d items → mid.right ≡ t → mid.snapshot ≡ p.snapshot → mid.left ≡ p.left
    → stage_of d st q o ≡ after_right d st mid.snapshot mid.left mid.right
    → stage_of d st q o ≡ then_on (told_table d items) (after_right d st p.snapshot p.left)
right_goes_on d st p mid q o items t e r s l is =
    is ∙ (ap (λ (x : Snapshot). after_right d st x mid.left mid.right) s ∙ (ap (λ (x : Option Table). after_right d st p.snapshot x mid.right) l
    ∙ (ap (after_right d st p.snapshot p.left) r ∙ ap (λ (m : Reading (Option Table)). then_on m (after_right d st p.snapshot p.left)) e)))

-- ---- ranges of a table

no_root : (o : Option Table) → None ≡ root_in o → o ≡ None
no_root None e = refl
no_root (Some t) e = absurd (apart e)
  where
    apart : None ≡ Some t.root → ⊥
    apart q = cc

record Rooted (o : Option Table) (root : ℕ) : Type 0 where
  table : Table
  is : o ≡ Some table
  at : root ≡ table.root

a_root : (o : Option Table) (root : ℕ) → Some root ≡ root_in o → Rooted o root
a_root None root e = absurd (apart e)
  where
    apart : Some root ≡ None → ⊥
    apart q = cc
a_root (Some t) root e = record { table = t; is = refl; at = same e }
  where
    same : Some root ≡ Some t.root → root ≡ t.root
    same q = cc

root_some : (o : Option Table) (root : ℕ) → Some root ≡ root_in o → is_some o ≡ true
root_some o root e = ap is_some (a_root o root e).is

no_item : {A : Type 0} (xs : List A) (i : ℕ) → slice_get xs i ≡ None → i < length xs → ⊥
no_item [] i e l = omega (arith, l)
no_item {A} (y ∷ ys) zero e l = apart e
  where
    apart : Some y ≡ None → ⊥
    apart q = cc
no_item (y ∷ ys) (suc i) e l = no_item ys i e (omega (arith, l))

-- one range is read, and then those behind it
one_range : (d : Decoder) (s : Snapshot) (o : Option Table) (k : List Row → Reading Found) (rows : List Row) (rs : List KeyRange) (at root : ℕ) (m : Finding)
    → Some root ≡ root_in o → at < length rs → m ≡ find_at s root (slice_get rs at)
    → rows_with d s o k rows (drop (at + 1) rs) m ≡ over_from d s o k rows (drop at rs)
unfolding over
one_range d s o k rows rs at root m e l f = go (slice_get rs at) refl
  where
    t : Rooted o root
    t = a_root o root e

    go : (x : Option KeyRange) → slice_get rs at ≡ x → rows_with d s o k rows (drop (at + 1) rs) m ≡ over_from d s o k rows (drop at rs)
    go None g = absurd (no_item rs at g l)
    go (Some r) g =
        ap (λ (y : Option Table). rows_with d s y k rows (drop (at + 1) rs) m) t.is
        ∙ (ap (rows_with d s (Some t.table) k rows (drop (at + 1) rs)) (f ∙ (ap (find_at s root) g ∙ ap (λ (n : ℕ). find s n r) t.at))
        ∙ (ap (over_from d s (Some t.table) k rows) (sym (drop_item rs at r g))
        ∙ ap (λ (y : Option Table). over_from d s y k rows (drop at rs)) (sym t.is)))

-- no range is left
no_range : (d : Decoder) (s : Snapshot) (o : Option Table) (k : List Row → Reading Found) (rows : List Row) (rs : List KeyRange) (at root : ℕ)
    → Some root ≡ root_in o → length rs ≤ at → k rows ≡ over_from d s o k rows (drop at rs)
unfolding over
no_range d s o k rows rs at root e l =
    let t = a_root o root e in
    ap (over_from d s (Some t.table) k rows) (sym (drop_none rs at l)) ∙ ap (λ (y : Option Table). over_from d s y k rows (drop at rs)) (sym t.is)

-- from the first range on
from_start : (d : Decoder) (s : Snapshot) (o : Option Table) (k : List Row → Reading Found) (rows : List Row) (rs : List KeyRange) (at root : ℕ)
    → Some root ≡ root_in o → at ≡ 0 → rows ≡ [] → over_from d s o k rows (drop at rs) ≡ over_table d s o k rs
from_start d s o k rows rs at root e z r =
    let t = a_root o root e in
    ap (λ (y : Option Table). over_from d s y k rows (drop at rs)) t.is
    ∙ (ap (λ (n : ℕ). over_from d s (Some t.table) k rows (drop n rs)) z
    ∙ (ap (λ (xs : List Row). over_from d s (Some t.table) k xs rs) r ∙ ap (λ (y : Option Table). over_table d s y k rs) (sym t.is)))

-- ---- left rows

pub no_left : (d : Decoder) (st : Stmt) (p mid q : Progress) (o : Option RangeReader) (lefts : List Row) → None ≡ root_in mid.left
    → mid.snapshot ≡ p.snapshot → mid.left ≡ p.left → mid.right ≡ p.right → mid.schemas ≡ schemas_of p.left p.right → lefts ≡ []
    → stage_of d st q o ≡ after_lefts d st mid lefts → stage_of d st q o ≡ after_right d st p.snapshot p.left p.right
no_left d st p mid q o lefts n s l r c e is =
    let none : p.left ≡ None = sym l ∙ no_root mid.left n in
    is ∙ (rw (s, l, r, c, e) (ap (λ (y : Option Table). over_table d p.snapshot y
    (joined (is_join st) d p.snapshot st p.left p.right (schemas_of p.left p.right)) (ranges (schemas_of p.left p.right) st None)) (sym none)))

pub some_left : (d : Decoder) (st : Stmt) (p mid q : Progress) (o : Option RangeReader) (root : ℕ) → Some root ≡ root_in mid.left
    → mid.snapshot ≡ p.snapshot → mid.left ≡ p.left → mid.right ≡ p.right → mid.schemas ≡ schemas_of p.left p.right
    → mid.ranges ≡ ranges mid.schemas st None → mid.at ≡ 0 → mid.rows ≡ []
    → stage_of d st q o ≡ lefts_left d st mid → stage_of d st q o ≡ after_right d st p.snapshot p.left p.right
unfolding lefts_left
some_left d st p mid q o root e s l r c g z w is =
    is ∙ (from_start d mid.snapshot mid.left (after_lefts d st mid) mid.rows mid.ranges mid.at root e z w ∙ (rw g (rw (s, l, r, c) refl)))

pub lefts_end : (d : Decoder) (st : Stmt) (p mid q : Progress) (o : Option RangeReader) (root : ℕ) (rows : List Row) → Some root ≡ root_in p.left
    → length p.ranges ≤ p.at → rows ≡ p.rows → mid.snapshot ≡ p.snapshot → mid.left ≡ p.left → mid.right ≡ p.right → mid.schemas ≡ p.schemas
    → stage_of d st q o ≡ after_lefts d st mid rows → stage_of d st q o ≡ lefts_left d st p
unfolding lefts_left
lefts_end d st p mid q o root rows e l w s a r c is =
    is ∙ (rw (s, a, r, c, w) (no_range d p.snapshot p.left (after_lefts d st p) p.rows p.ranges p.at root e l))

pub lefts_go_on : (d : Decoder) (st : Stmt) (p q : Progress) (f : RangeReader) (root : ℕ) → Some root ≡ root_in p.left → p.at < length p.ranges
    → finding_of f ≡ find_at p.snapshot root (slice_get p.ranges p.at) → q.stage ≡ stage.Lefts → q.at ≡ p.at + 1
    → q.snapshot ≡ p.snapshot → q.left ≡ p.left → q.right ≡ p.right → q.schemas ≡ p.schemas → q.rows ≡ p.rows → q.ranges ≡ p.ranges
    → stage_of d st q (Some f) ≡ lefts_left d st p
unfolding stage_with lefts_left
lefts_go_on d st p q f root e l m t a s x r c w g =
    at_stage d st q (Some f) stage.Lefts t
    ∙ (rw (s, x, r, c, w, g, a) (one_range d p.snapshot p.left (after_lefts d st p) p.rows p.ranges p.at root (finding_of f) e l m))

pub lefts_ready : (q : Progress) (f : RangeReader) (root : ℕ) → q.stage ≡ stage.Lefts → Some root ≡ root_in q.left → is_settled f ≡ true → IsAsking f → Ready q (Some f)
unfolding Ready
lefts_ready q f root t e s w = (s, w, ap (λ (x : Stage). reads x q.left q.right) t ∙ root_some q.left root e)

-- ---- right rows

pub alone : (d : Decoder) (st : Stmt) (p q : Progress) (lefts : List Row) → is_join st ≡ false → q.stage ≡ stage.Done → q.lists ≡ [] → q.lefts ≡ lefts
    → q.left ≡ p.left → q.right ≡ p.right → q.schemas ≡ p.schemas → stage_of d st q None ≡ after_lefts d st p lefts
unfolding stage_with
alone d st p q lefts j t n f l r c =
    at_stage d st q None stage.Done t
    ∙ (rw (n, f, l, r, c) (ap (λ (b : Bool). joined b d p.snapshot st p.left p.right p.schemas lefts) (sym j)))

pub paired : (d : Decoder) (st : Stmt) (p mid q : Progress) (o : Option RangeReader) (lefts : List Row) → is_join st ≡ true
    → mid.lefts ≡ lefts → mid.lists ≡ [] → mid.next ≡ 0 → mid.snapshot ≡ p.snapshot → mid.left ≡ p.left → mid.right ≡ p.right → mid.schemas ≡ p.schemas
    → stage_of d st q o ≡ rows_left d st mid → stage_of d st q o ≡ after_lefts d st p lefts
unfolding rows_left
paired d st p mid q o lefts j f n z s l r c is =
    is ∙ (rw (f, n, z, s, l, r, c) (ap (λ (b : Bool). joined b d p.snapshot st p.left p.right p.schemas lefts) (sym j)))

pub rows_end : (d : Decoder) (st : Stmt) (p q : Progress) (x : Reading Found) → length p.lefts ≤ p.next → q.stage ≡ stage.Done
    → q.left ≡ p.left → q.right ≡ p.right → q.schemas ≡ p.schemas → q.lefts ≡ p.lefts → q.lists ≡ p.lists
    → rows_left d st p ≡ x → stage_of d st q None ≡ x
unfolding stage_with rows_left each_row
rows_end d st p q x l t a r c f n is =
    at_stage d st q None stage.Done t
    ∙ (rw (a, r, c, f, n) (ap (rows_from d st p p.lists) (sym (drop_none p.lefts p.next l))) ∙ is)

-- a left row
begun_row : (d : Decoder) (st : Stmt) (p mid : Progress) (l : Row) → slice_get p.lefts p.next ≡ Some l
    → mid.ranges ≡ ranges p.schemas st (Some l) → mid.next ≡ p.next + 1
    → mid.snapshot ≡ p.snapshot → mid.left ≡ p.left → mid.right ≡ p.right → mid.schemas ≡ p.schemas → mid.lefts ≡ p.lefts → mid.lists ≡ p.lists
    → row_begun d st mid ≡ rows_left d st p
unfolding rows_left row_begun each_row
begun_row d st p mid l e g n s a r c f x =
    rw (g, n, s, a, r, c, f, x) (ap (rows_from d st p p.lists) (sym (drop_item p.lefts p.next l e)))

pub row_begins : (d : Decoder) (st : Stmt) (p mid q : Progress) (o : Option RangeReader) (l : Row) → slice_get p.lefts p.next ≡ Some l
    → mid.ranges ≡ ranges p.schemas st (Some l) → mid.next ≡ p.next + 1
    → mid.snapshot ≡ p.snapshot → mid.left ≡ p.left → mid.right ≡ p.right → mid.schemas ≡ p.schemas → mid.lefts ≡ p.lefts → mid.lists ≡ p.lists
    → BeginsRight d st mid q o → Begins d st p q o
row_begins d st p mid q None l e g n s a r c f x is = is ∙ begun_row d st p mid l e g n s a r c f x
row_begins d st p mid q (Some h) l e g n s a r c f x is = is ∙ begun_row d st p mid l e g n s a r c f x

pub right_absent : (d : Decoder) (st : Stmt) (p q : Progress) → None ≡ root_in p.right → q.lists ≡ p.lists ++ [] ∷ []
    → q.snapshot ≡ p.snapshot → q.left ≡ p.left → q.right ≡ p.right → q.schemas ≡ p.schemas → q.lefts ≡ p.lefts → q.next ≡ p.next
    → rows_left d st q ≡ row_begun d st p
unfolding rows_left row_begun
right_absent d st p q e x s a r c f n =
    rw (x, s, a, r, c, f, n) (ap (λ (y : Option Table). over_table d p.snapshot y (after_row d st p) p.ranges) (sym (no_root p.right e)))

pub right_empty : (d : Decoder) (st : Stmt) (p q : Progress) (root : ℕ) → Some root ≡ root_in p.right → length p.ranges ≤ p.at → p.at ≡ 0 → q.lists ≡ p.lists ++ [] ∷ []
    → q.snapshot ≡ p.snapshot → q.left ≡ p.left → q.right ≡ p.right → q.schemas ≡ p.schemas → q.lefts ≡ p.lefts → q.next ≡ p.next
    → rows_left d st q ≡ row_begun d st p
unfolding rows_left row_begun
right_empty d st p q root e l z x s a r c f n =
    rw (x, s, a, r, c, f, n) (no_range d p.snapshot p.right (after_row d st p) [] p.ranges p.at root e l
    ∙ from_start d p.snapshot p.right (after_row d st p) [] p.ranges p.at root e z refl)

pub right_begins : (d : Decoder) (st : Stmt) (p q : Progress) (f : RangeReader) (root : ℕ) → Some root ≡ root_in p.right → p.at < length p.ranges
    → p.at ≡ 0 → p.rows ≡ [] → finding_of f ≡ find_at p.snapshot root (slice_get p.ranges p.at) → q.stage ≡ stage.Rights → q.at ≡ p.at + 1
    → q.snapshot ≡ p.snapshot → q.left ≡ p.left → q.right ≡ p.right → q.schemas ≡ p.schemas → q.lefts ≡ p.lefts → q.lists ≡ p.lists → q.next ≡ p.next
    → q.rows ≡ p.rows → q.ranges ≡ p.ranges → stage_of d st q (Some f) ≡ row_begun d st p
unfolding stage_with row_begun
right_begins d st p q f root e l z w m t a s x r c y n i v g =
    at_stage d st q (Some f) stage.Rights t
    ∙ (rw (s, x, r, c, y, n, i, v, g, a) (one_range d p.snapshot p.right (after_row d st p) p.rows p.ranges p.at root (finding_of f) e l m
    ∙ from_start d p.snapshot p.right (after_row d st p) p.rows p.ranges p.at root e z w))

pub rights_ready : (q : Progress) (f : RangeReader) (root : ℕ) → q.stage ≡ stage.Rights → Some root ≡ root_in q.right → is_settled f ≡ true → IsAsking f → Ready q (Some f)
unfolding Ready
rights_ready q f root t e s w = (s, w, ap (λ (x : Stage). reads x q.left q.right) t ∙ root_some q.right root e)

pub rights_end : (d : Decoder) (st : Stmt) (p mid q : Progress) (o : Option RangeReader) (root : ℕ) (rows : List Row) → Some root ≡ root_in p.right
    → length p.ranges ≤ p.at → rows ≡ p.rows → mid.lists ≡ p.lists ++ rows ∷ []
    → mid.snapshot ≡ p.snapshot → mid.left ≡ p.left → mid.right ≡ p.right → mid.schemas ≡ p.schemas → mid.lefts ≡ p.lefts → mid.next ≡ p.next
    → stage_of d st q o ≡ rows_left d st mid → stage_of d st q o ≡ rights_left d st p
unfolding rows_left rights_left
rights_end d st p mid q o root rows e l w x s a r c f n is =
    is ∙ (rw (x, w, s, a, r, c, f, n) (no_range d p.snapshot p.right (after_row d st p) p.rows p.ranges p.at root e l))

pub rights_go_on : (d : Decoder) (st : Stmt) (p q : Progress) (f : RangeReader) (root : ℕ) → Some root ≡ root_in p.right → p.at < length p.ranges
    → finding_of f ≡ find_at p.snapshot root (slice_get p.ranges p.at) → q.stage ≡ stage.Rights → q.at ≡ p.at + 1
    → q.snapshot ≡ p.snapshot → q.left ≡ p.left → q.right ≡ p.right → q.schemas ≡ p.schemas → q.lefts ≡ p.lefts → q.lists ≡ p.lists → q.next ≡ p.next
    → q.rows ≡ p.rows → q.ranges ≡ p.ranges → stage_of d st q (Some f) ≡ rights_left d st p
unfolding stage_with rights_left
rights_go_on d st p q f root e l m t a s x r c y n i v g =
    at_stage d st q (Some f) stage.Rights t
    ∙ (rw (s, x, r, c, y, n, i, v, g, a) (one_range d p.snapshot p.right (after_row d st p) p.rows p.ranges p.at root (finding_of f) e l m))

-- ---- what was found in a range

pub at_left : (d : Decoder) (st : Stmt) (p : Progress) (items : List LeafItem) (x : Reading Found) → p.stage ≡ stage.Left
    → x ≡ then_on (told_table d items) (after_left d st p.snapshot) → x ≡ stage_with d st p.stage p (tells items)
unfolding stage_with
at_left d st p items x t is = is ∙ ap (λ (y : Stage). stage_with d st y p (tells items)) (sym t)

pub at_right : (d : Decoder) (st : Stmt) (p : Progress) (items : List LeafItem) (x : Reading Found) → p.stage ≡ stage.Right
    → x ≡ then_on (told_table d items) (after_right d st p.snapshot p.left) → x ≡ stage_with d st p.stage p (tells items)
unfolding stage_with
at_right d st p items x t is = is ∙ ap (λ (y : Stage). stage_with d st y p (tells items)) (sym t)

pub at_lefts : (d : Decoder) (st : Stmt) (p : Progress) (items : List LeafItem) (x : Reading Found) → p.stage ≡ stage.Lefts
    → x ≡ rows_with d p.snapshot p.left (after_lefts d st p) p.rows (drop p.at p.ranges) (tells items) → x ≡ stage_with d st p.stage p (tells items)
unfolding stage_with
at_lefts d st p items x t is = is ∙ ap (λ (y : Stage). stage_with d st y p (tells items)) (sym t)

pub at_rights : (d : Decoder) (st : Stmt) (p : Progress) (items : List LeafItem) (x : Reading Found) → p.stage ≡ stage.Rights
    → x ≡ rows_with d p.snapshot p.right (after_row d st p) p.rows (drop p.at p.ranges) (tells items) → x ≡ stage_with d st p.stage p (tells items)
unfolding stage_with
at_rights d st p items x t is = is ∙ ap (λ (y : Stage). stage_with d st y p (tells items)) (sym t)

pub at_done : (d : Decoder) (st : Stmt) (p : Progress) (m : Finding) → p.stage ≡ stage.Done → stage_of d st p None ≡ stage_with d st p.stage p m
unfolding stage_with
at_done d st p m t = at_stage d st p None stage.Done t ∙ ap (λ (y : Stage). stage_with d st y p m) (sym t)

pub at_stopped : (d : Decoder) (st : Stmt) (p : Progress) (m : Finding) → p.stage ≡ stage.Stopped → stage_of d st p None ≡ stage_with d st p.stage p m
unfolding stage_with
at_stopped d st p m t = at_stage d st p None stage.Stopped t ∙ ap (λ (y : Stage). stage_with d st y p m) (sym t)

pub rows_absent : (d : Decoder) (s : Snapshot) (o : Option Table) (k : List Row → Reading Found) (rows : List Row) (rs : List KeyRange) (m : Finding) (x : Reading Found)
    → None ≡ root_in o → x ≡ stops → x ≡ rows_with d s o k rows rs m
rows_absent d s o k rows rs m x e is = is ∙ ap (λ (y : Option Table). rows_with d s y k rows rs m) (sym (no_root o e))

pub rows_stop : (d : Decoder) (s : Snapshot) (o : Option Table) (k : List Row → Reading Found) (rows : List Row) (rs : List KeyRange) (items : List LeafItem) (x : Reading Found)
    → stops ≡ rows_by d o rows items → x ≡ stops → x ≡ rows_with d s o k rows rs (tells items)
rows_stop d s None k rows rs items x e is = is
rows_stop d s (Some t) k rows rs items x e is = is ∙ ap (λ (m : Reading (List Row)). then_on m (λ now. over d s t k now rs)) e

rows_taken : (d : Decoder) (s : Snapshot) (o : Option Table) (k : List Row → Reading Found) (rows now : List Row) (rs : List KeyRange) (items : List LeafItem)
    → tells now ≡ rows_by d o rows items → over_from d s o k now rs ≡ rows_with d s o k rows rs (tells items)
rows_taken d s None k rows now rs items e = absurd (apart (ap told e))
  where
    apart : Some now ≡ None → ⊥
    apart q = cc
rows_taken d s (Some t) k rows now rs items e = ap (λ (m : Reading (List Row)). then_on m (λ xs. over d s t k xs rs)) e

pub lefts_taken : (d : Decoder) (st : Stmt) (p mid q : Progress) (o : Option RangeReader) (items : List LeafItem) (now : List Row)
    → tells now ≡ rows_by d p.left p.rows items → mid.rows ≡ now
    → mid.snapshot ≡ p.snapshot → mid.left ≡ p.left → mid.right ≡ p.right → mid.schemas ≡ p.schemas → mid.ranges ≡ p.ranges → mid.at ≡ p.at
    → stage_of d st q o ≡ lefts_left d st mid
    → stage_of d st q o ≡ rows_with d p.snapshot p.left (after_lefts d st p) p.rows (drop p.at p.ranges) (tells items)
unfolding lefts_left
lefts_taken d st p mid q o items now e w s a r c g n is =
    is ∙ (rw (w, s, a, r, c, g, n) (rows_taken d p.snapshot p.left (after_lefts d st p) p.rows now (drop p.at p.ranges) items e))

pub rights_taken : (d : Decoder) (st : Stmt) (p mid q : Progress) (o : Option RangeReader) (items : List LeafItem) (now : List Row)
    → tells now ≡ rows_by d p.right p.rows items → mid.rows ≡ now
    → mid.snapshot ≡ p.snapshot → mid.left ≡ p.left → mid.right ≡ p.right → mid.schemas ≡ p.schemas → mid.ranges ≡ p.ranges → mid.at ≡ p.at
    → mid.lefts ≡ p.lefts → mid.lists ≡ p.lists → mid.next ≡ p.next
    → stage_of d st q o ≡ rights_left d st mid
    → stage_of d st q o ≡ rows_with d p.snapshot p.right (after_row d st p) p.rows (drop p.at p.ranges) (tells items)
unfolding rights_left
rights_taken d st p mid q o items now e w s a r c g n f x i is =
    is ∙ (rw (w, s, a, r, c, g, n, f, x, i) (rows_taken d p.snapshot p.right (after_row d st p) p.rows now (drop p.at p.ranges) items e))

-- ---- what is returned by the next step

pub ok_same : {E : Type 0} (x y : Reading Found) (d : Decoder) (st : Stmt) (q : Progress) (r : Result (Option RangeReader) E) → x ≡ y
    → IfOk r (λ o. stage_of d st q o ≡ x) → IfOk r (λ o. stage_of d st q o ≡ y)
ok_same x y d st q (Ok o) e h = h ∙ e
ok_same x y d st q (Err f) e h = tt

pub lefts_end_is : (d : Decoder) (st : Stmt) (p mid : Progress) (root : ℕ) (rows : List Row) → Some root ≡ root_in p.left
    → length p.ranges ≤ p.at → rows ≡ p.rows → mid.snapshot ≡ p.snapshot → mid.left ≡ p.left → mid.right ≡ p.right → mid.schemas ≡ p.schemas
    → after_lefts d st mid rows ≡ lefts_left d st p
unfolding lefts_left
lefts_end_is d st p mid root rows e l w s a r c =
    rw (s, a, r, c, w) (no_range d p.snapshot p.left (after_lefts d st p) p.rows p.ranges p.at root e l)

pub rights_end_is : (d : Decoder) (st : Stmt) (p mid : Progress) (root : ℕ) (rows : List Row) → Some root ≡ root_in p.right
    → length p.ranges ≤ p.at → rows ≡ p.rows → mid.lists ≡ p.lists ++ rows ∷ []
    → mid.snapshot ≡ p.snapshot → mid.left ≡ p.left → mid.right ≡ p.right → mid.schemas ≡ p.schemas → mid.lefts ≡ p.lefts → mid.next ≡ p.next
    → rows_left d st mid ≡ rights_left d st p
unfolding rows_left rights_left
rights_end_is d st p mid root rows e l w x s a r c f n =
    rw (x, w, s, a, r, c, f, n) (no_range d p.snapshot p.right (after_row d st p) p.rows p.ranges p.at root e l)

pub paired_is : (d : Decoder) (st : Stmt) (p mid : Progress) (lefts : List Row) → is_join st ≡ true
    → mid.lefts ≡ lefts → mid.lists ≡ [] → mid.next ≡ 0 → mid.snapshot ≡ p.snapshot → mid.left ≡ p.left → mid.right ≡ p.right → mid.schemas ≡ p.schemas
    → rows_left d st mid ≡ after_lefts d st p lefts
unfolding rows_left
paired_is d st p mid lefts j f n z s l r c =
    rw (f, n, z, s, l, r, c) (ap (λ (b : Bool). joined b d p.snapshot st p.left p.right p.schemas lefts) (sym j))

pub some_left_is : (d : Decoder) (st : Stmt) (p mid : Progress) (root : ℕ) → Some root ≡ root_in mid.left
    → mid.snapshot ≡ p.snapshot → mid.left ≡ p.left → mid.right ≡ p.right → mid.schemas ≡ schemas_of p.left p.right
    → mid.ranges ≡ ranges mid.schemas st None → mid.at ≡ 0 → mid.rows ≡ []
    → lefts_left d st mid ≡ after_right d st p.snapshot p.left p.right
unfolding lefts_left
some_left_is d st p mid root e s l r c g z w =
    from_start d mid.snapshot mid.left (after_lefts d st mid) mid.rows mid.ranges mid.at root e z w ∙ (rw g (rw (s, l, r, c) refl))

pub begins_unnamed_is : (d : Decoder) (st : Stmt) (p : Progress) → None ≡ left_range st → after_left d st p.snapshot None ≡ question d p.snapshot st
unfolding question
begins_unnamed_is d st p n = ap (λ (y : Option KeyRange). named d p.snapshot y (after_left d st p.snapshot)) n

pub lefts_taken_is : (d : Decoder) (st : Stmt) (p mid : Progress) (items : List LeafItem) (now : List Row)
    → tells now ≡ rows_by d p.left p.rows items → mid.rows ≡ now
    → mid.snapshot ≡ p.snapshot → mid.left ≡ p.left → mid.right ≡ p.right → mid.schemas ≡ p.schemas → mid.ranges ≡ p.ranges → mid.at ≡ p.at
    → lefts_left d st mid ≡ rows_with d p.snapshot p.left (after_lefts d st p) p.rows (drop p.at p.ranges) (tells items)
unfolding lefts_left
lefts_taken_is d st p mid items now e w s a r c g n =
    rw (w, s, a, r, c, g, n) (rows_taken d p.snapshot p.left (after_lefts d st p) p.rows now (drop p.at p.ranges) items e)

pub rights_taken_is : (d : Decoder) (st : Stmt) (p mid : Progress) (items : List LeafItem) (now : List Row)
    → tells now ≡ rows_by d p.right p.rows items → mid.rows ≡ now
    → mid.snapshot ≡ p.snapshot → mid.left ≡ p.left → mid.right ≡ p.right → mid.schemas ≡ p.schemas → mid.ranges ≡ p.ranges → mid.at ≡ p.at
    → mid.lefts ≡ p.lefts → mid.lists ≡ p.lists → mid.next ≡ p.next
    → rights_left d st mid ≡ rows_with d p.snapshot p.right (after_row d st p) p.rows (drop p.at p.ranges) (tells items)
unfolding rights_left
rights_taken_is d st p mid items now e w s a r c g n f x i =
    rw (w, s, a, r, c, g, n, f, x, i) (rows_taken d p.snapshot p.right (after_row d st p) p.rows now (drop p.at p.ranges) items e)

-- the same of a left row that is begun
pub ok_begun : {E : Type 0} (d : Decoder) (st : Stmt) (p mid q : Progress) (r : Result (Option RangeReader) E) (l : Row) → slice_get p.lefts p.next ≡ Some l
    → mid.ranges ≡ ranges p.schemas st (Some l) → mid.next ≡ p.next + 1
    → mid.snapshot ≡ p.snapshot → mid.left ≡ p.left → mid.right ≡ p.right → mid.schemas ≡ p.schemas → mid.lefts ≡ p.lefts → mid.lists ≡ p.lists
    → IfOk r (BeginsRight d st mid q) → IfOk r (Begins d st p q)
ok_begun d st p mid q (Ok o) l e g n s a r c f x h = row_begins d st p mid q o l e g n s a r c f x h
ok_begun d st p mid q (Err e) l _ g n s a r c f x h = tt
