-- What a reader of a statement does to the work that is left to it.
use Rattle.std.proofs.Common.{◌≡◌, Bool, true, false, List, Option, Some, None, IsSome, IsTrue, ◌↔◌, refl, sym, ◌∙◌, ap, subst}
use Rattle.std.specs.Prelude.{is_some, Result, Ok, Err, OnOk}
use Rattle.rm_base.specs.declared.key_range.KeyRange.{KeyRange}
use Rattle.page_image.specs.Image.{Image}
use Rattle.page_view.specs.declared.leaf.LeafItem.{LeafItem}
use Rattle.sql_statements.specs.declared.statements.Stmt.{Stmt}
use Rattle.question_tree.specs.Questions.{tells, asks, stops, wanted, told, after}
use Rattle.question_tree.proofs.QuestionLaws.{is_tells, is_stops}
use Rattle.range_reader.specs.declared.fetch.Fetch.{Fetch}
use Rattle.range_reader.specs.declared.fetch.Snapshot.{Snapshot}
use Rattle.range_reader.specs.declared.reader.RangeReader.{RangeReader}
use Rattle.range_reader.specs.Finding.{Finding, Asked}
use Rattle.range_reader.specs.Machine.{finding_of, is_settled}
use Rattle.statement_reader.specs.declared.progress.Progress.{Progress}
use Rattle.statement_reader.specs.declared.progress.Stage.{Stage}
use Rattle.statement_reader.specs.declared.progress.Stage.TheVariants as stage
use Rattle.statement_reader.specs.declared.tables.Table.{Table}
use Rattle.statement_reader.specs.declared.tables.Found.{Found}
use Rattle.statement_reader.specs.Decoding.{Row, Decoder}
use Rattle.statement_reader.specs.Question.{Reading}
use Rattle.statement_reader.specs.Machine.{finding_in, rows_with, stage_with, stage_of, reads, is_end, Ready, Open, found_at, found_by}

-- ---- a stage that asks, stops or tells

false_true : {A : Type 0} → false ≡ true → A
false_true e = absurd (apart e)
  where
    apart : false ≡ true → ⊥
    apart q = cc

rows_ask : (d : Decoder) (s : Snapshot) (o : Option Table) (k : List Row → Reading Found) (rows : List Row) (rs : List KeyRange) (q : Fetch) (n : Image → Finding)
    → is_some o ≡ true → rows_with d s o k rows rs (asks q n) ≡ asks q (λ im. rows_with d s o k rows rs (n im))
rows_ask d s None k rows rs q n e = false_true e
rows_ask d s (Some t) k rows rs q n e = refl

stage_asks : (d : Decoder) (st : Stmt) (t : Stage) (p : Progress) (q : Fetch) (n : Image → Finding) → reads t p.left p.right ≡ true
    → stage_with d st t p (asks q n) ≡ asks q (λ im. stage_with d st t p (n im))
unfolding stage_with
stage_asks d st stage.Left p q n e = refl
stage_asks d st stage.Right p q n e = refl
stage_asks d st stage.Lefts p q n e = rows_ask d p.snapshot p.left _ p.rows _ q n e
stage_asks d st stage.Rights p q n e = rows_ask d p.snapshot p.right _ p.rows _ q n e
stage_asks d st stage.Done p q n e = false_true e
stage_asks d st stage.Stopped p q n e = false_true e

rows_stop : (d : Decoder) (s : Snapshot) (o : Option Table) (k : List Row → Reading Found) (rows : List Row) (rs : List KeyRange)
    → rows_with d s o k rows rs stops ≡ stops
rows_stop d s None k rows rs = refl
rows_stop d s (Some t) k rows rs = refl

stage_stops : (d : Decoder) (st : Stmt) (t : Stage) (p : Progress) → reads t p.left p.right ≡ true → stage_with d st t p stops ≡ stops
unfolding stage_with
stage_stops d st stage.Left p e = refl
stage_stops d st stage.Right p e = refl
stage_stops d st stage.Lefts p e = rows_stop d p.snapshot p.left _ p.rows _
stage_stops d st stage.Rights p e = rows_stop d p.snapshot p.right _ p.rows _
stage_stops d st stage.Done p e = false_true e
stage_stops d st stage.Stopped p e = false_true e

-- a work that wants a page asks
record Asking (m : Finding) : Type 0 where
  fetch : Fetch
  next : Image → Finding
  is : m ≡ asks fetch next

asking : (m : Finding) → IsSome (wanted m) → Asking m
asking (tells a) h = false_true h
asking (asks q n) h = record { fetch = q; next = n; is = refl }
asking stops h = false_true h

-- ---- readiness

pub settled_in : (p : Progress) (o : Option RangeReader) (f : RangeReader) → o ≡ Some f → Ready p o → is_settled f ≡ true
unfolding Ready
settled_in p o f e h = let P : Option RangeReader → Type 0 = λ x. Ready p x in (subst P e h).0

ready_some : (p : Progress) (o : Option RangeReader) (f : RangeReader) → o ≡ Some f → Ready p o
    → (is_settled f ≡ true) × IsSome (wanted (finding_of f)) × (reads p.stage p.left p.right ≡ true)
unfolding Ready
ready_some p o f e h = let P : Option RangeReader → Type 0 = λ x. Ready p x in subst P e h

ready_none : (p : Progress) (o : Option RangeReader) → o ≡ None → Ready p o → is_end p.stage ≡ true
unfolding Ready
ready_none p o e h = let P : Option RangeReader → Type 0 = λ x. Ready p x in subst P e h

open_some : (p : Progress) (o : Option RangeReader) (f : RangeReader) → o ≡ Some f → Open p o → (is_settled f ≡ true) × (reads p.stage p.left p.right ≡ true)
unfolding Open
open_some p o f e h = let P : Option RangeReader → Type 0 = λ x. Open p x in subst P e h

pub open_settled : (p : Progress) (o : Option RangeReader) (f : RangeReader) → o ≡ Some f → Open p o → is_settled f ≡ true
open_settled p o f e h = (open_some p o f e h).0

-- ---- what is wanted

pub present_wants : (o : Option RangeReader) (f : RangeReader) → o ≡ Some f → wanted (finding_of f) ≡ wanted (finding_in o)
present_wants o f e = ap (λ (x : Option RangeReader). wanted (finding_in x)) (sym e)

pub none_wants : (o : Option RangeReader) → o ≡ None → None ≡ wanted (finding_in o)
none_wants o e = ap (λ (x : Option RangeReader). wanted (finding_in x)) (sym e)

stage_of_some : (d : Decoder) (st : Stmt) (p : Progress) (o : Option RangeReader) (f : RangeReader) → o ≡ Some f → stage_of d st p o ≡ stage_with d st p.stage p (finding_of f)
unfolding stage_of
stage_of_some d st p o f e = ap (λ (x : Option RangeReader). stage_with d st p.stage p (finding_in x)) e

stage_of_ask : (d : Decoder) (st : Stmt) (p : Progress) (o : Option RangeReader) (f : RangeReader) (q : Fetch) (n : Image → Finding) → o ≡ Some f
    → finding_of f ≡ asks q n → reads p.stage p.left p.right ≡ true → stage_of d st p o ≡ asks q (λ im. stage_with d st p.stage p (n im))
stage_of_ask d st p o f q n e is r =
    stage_of_some d st p o f e ∙ (ap (stage_with d st p.stage p) is ∙ stage_asks d st p.stage p q n r)

pub reading_wants : (d : Decoder) (st : Stmt) (p : Progress) (o : Option RangeReader) (f : RangeReader) → o ≡ Some f → Ready p o
    → wanted (finding_of f) ≡ wanted (stage_of d st p o)
reading_wants d st p o f e h =
    let r = ready_some p o f e h in
    let a = asking (finding_of f) r.1 in
    ap wanted a.is ∙ ap wanted (sym (stage_of_ask d st p o f a.fetch a.next e a.is r.2))

end_wants : (d : Decoder) (st : Stmt) (t : Stage) (p : Progress) (m : Finding) → is_end t ≡ true → None ≡ wanted (stage_with d st t p m)
unfolding stage_with
end_wants d st stage.Left p m e = false_true e
end_wants d st stage.Right p m e = false_true e
end_wants d st stage.Lefts p m e = false_true e
end_wants d st stage.Rights p m e = false_true e
end_wants d st stage.Done p m e = refl
end_wants d st stage.Stopped p m e = refl

pub reading_wants_none : (d : Decoder) (st : Stmt) (p : Progress) (o : Option RangeReader) → o ≡ None → Ready p o → None ≡ wanted (stage_of d st p o)
unfolding stage_of
reading_wants_none d st p o e h = end_wants d st p.stage p (finding_in o) (ready_none p o e h)

-- ---- which page is asked for

pub asked_in : (o : Option RangeReader) (f : RangeReader) (im : Image) → o ≡ Some f → Asked (finding_in o) im → Asked (finding_of f) im
asked_in o f im e h = let P : Option RangeReader → Type 0 = λ x. Asked (finding_in x) im in subst P e h

asked_out : (o : Option RangeReader) (f : RangeReader) (im : Image) → o ≡ Some f → Asked (finding_of f) im → Asked (finding_in o) im
asked_out o f im e h = let P : Option RangeReader → Type 0 = λ x. Asked (finding_in x) im in subst P (sym e) h

pub nothing_present : (o : Option RangeReader) (im : Image) → o ≡ None → Asked (finding_in o) im → ⊥
nothing_present o im e h = let P : Option RangeReader → Type 0 = λ x. Asked (finding_in x) im in subst P e h

pub present_asks : (o : Option RangeReader) (f : RangeReader) (im : Image) (b : Bool) → o ≡ Some f → (IsTrue b ↔ Asked (finding_of f) im) → (IsTrue b ↔ Asked (finding_in o) im)
present_asks o f im b e h = ((λ t. asked_out o f im e (h.0 t)), (λ a. h.1 (asked_in o f im e a)))

pub none_asks : (o : Option RangeReader) (im : Image) → o ≡ None → (IsTrue false ↔ Asked (finding_in o) im)
none_asks o im e = ((λ t. false_true t), (λ a. absurd (nothing_present o im e a)))

pub reading_asks : (d : Decoder) (st : Stmt) (p : Progress) (o : Option RangeReader) (f : RangeReader) (im : Image) (b : Bool) → o ≡ Some f → Ready p o
    → (IsTrue b ↔ Asked (finding_of f) im) → (IsTrue b ↔ Asked (stage_of d st p o) im)
reading_asks d st p o f im b e h i =
    let r = ready_some p o f e h in
    let a = asking (finding_of f) r.1 in
    let P : Finding → Type 0 = λ m. Asked m im in
    let Q : Reading Found → Type 0 = λ m. Asked m im in
    let whole = stage_of_ask d st p o f a.fetch a.next e a.is r.2 in
    ((λ t. subst Q (sym whole) (subst P a.is (i.0 t))), (λ g. i.1 (subst P (sym a.is) (subst Q whole g))))

end_asks : (d : Decoder) (st : Stmt) (t : Stage) (p : Progress) (m : Finding) (im : Image) → is_end t ≡ true → Asked (stage_with d st t p m) im → ⊥
unfolding stage_with
end_asks d st stage.Left p m im e h = false_true e
end_asks d st stage.Right p m im e h = false_true e
end_asks d st stage.Lefts p m im e h = false_true e
end_asks d st stage.Rights p m im e h = false_true e
end_asks d st stage.Done p m im e h = h
end_asks d st stage.Stopped p m im e h = h

pub reading_asks_none : (d : Decoder) (st : Stmt) (p : Progress) (o : Option RangeReader) (im : Image) → o ≡ None → Ready p o → (IsTrue false ↔ Asked (stage_of d st p o) im)
unfolding stage_of
reading_asks_none d st p o im e h =
    ((λ t. false_true t), (λ a. absurd (end_asks d st p.stage p (finding_in o) im (ready_none p o e h) a)))

-- a statement that asks for a page does so by the range that is read
pub asked_now : (d : Decoder) (st : Stmt) (p : Progress) (o : Option RangeReader) (im : Image) → Ready p o → Asked (stage_of d st p o) im → Asked (finding_in o) im
asked_now d st p None im h a = false_true ((reading_asks_none d st p None im refl h).1 a)
asked_now d st p (Some f) im h g =
    let r = ready_some p (Some f) f refl h in
    let a = asking (finding_of f) r.1 in
    let P : Finding → Type 0 = λ m. Asked m im in
    let Q : Reading Found → Type 0 = λ m. Asked m im in
    subst P (sym a.is) (subst Q (stage_of_ask d st p (Some f) f a.fetch a.next refl a.is r.2) g)

-- ---- a page is given

pub handed : (d : Decoder) (st : Stmt) (p : Progress) (o : Option RangeReader) (f g : RangeReader) (im : Image) → o ≡ Some f → Ready p o
    → finding_of g ≡ after (finding_of f) im → stage_of d st p (Some g) ≡ after (stage_of d st p o) im
handed d st p o f g im e h is =
    let r = ready_some p o f e h in
    let a = asking (finding_of f) r.1 in
    stage_of_some d st p (Some g) g refl
    ∙ (ap (stage_with d st p.stage p) (is ∙ ap (λ (m : Finding). after m im) a.is)
    ∙ ap (λ (m : Reading Found). after m im) (sym (stage_of_ask d st p o f a.fetch a.next e a.is r.2)))

pub handed_open : (p : Progress) (o : Option RangeReader) (f g : RangeReader) → o ≡ Some f → Ready p o → is_settled g ≡ true → Open p (Some g)
unfolding Open
handed_open p o f g e h s = (s, (ready_some p o f e h).2)

-- ---- the end of a range

pub waits_ready : (p : Progress) (o : Option RangeReader) → Open p o → is_some (wanted (finding_in o)) ≡ true → Ready p o
unfolding Open Ready
waits_ready p None h w = absurd h
waits_ready p (Some f) h w = (h.0, w, h.1)

no_want : {A : Type 0} (w : Option A) → is_some w ≡ false → w ≡ None
no_want None e = refl
no_want (Some x) e = false_true (sym e)

open_reads : (p : Progress) (o : Option RangeReader) → Open p o → reads p.stage p.left p.right ≡ true
unfolding Open
open_reads p None h = absurd h
open_reads p (Some f) h = h.1

pub range_stops : (d : Decoder) (st : Stmt) (p q : Progress) (o now : Option RangeReader) → Open p o → is_some (wanted (finding_in o)) ≡ false
    → None ≡ told (finding_in o) → stage_of d st q now ≡ stops → stage_of d st q now ≡ stage_of d st p o
unfolding stage_of
range_stops d st p q o now h w t is =
    is ∙ sym (ap (stage_with d st p.stage p) (is_stops (finding_in o) (no_want (wanted (finding_in o)) w) (sym t)) ∙ stage_stops d st p.stage p (open_reads p o h))

pub range_ends : (d : Decoder) (st : Stmt) (p q : Progress) (o now : Option RangeReader) (items : List LeafItem) → Some items ≡ told (finding_in o)
    → stage_of d st q now ≡ stage_with d st p.stage p (tells items) → stage_of d st q now ≡ stage_of d st p o
unfolding stage_of
range_ends d st p q o now items t is =
    is ∙ sym (ap (stage_with d st p.stage p) (is_tells (finding_in o) items (sym t)))

-- ---- what is told

end_tells : (d : Decoder) (st : Stmt) (t : Stage) (p : Progress) (m : Finding) → is_end t ≡ true → found_at t p ≡ told (stage_with d st t p m)
unfolding stage_with
end_tells d st stage.Left p m e = false_true e
end_tells d st stage.Right p m e = false_true e
end_tells d st stage.Lefts p m e = false_true e
end_tells d st stage.Rights p m e = false_true e
end_tells d st stage.Done p m e = refl
end_tells d st stage.Stopped p m e = refl

not_found : (t : Stage) (p : Progress) (left right : Option Table) → reads t left right ≡ true → found_at t p ≡ None
not_found stage.Left p left right e = refl
not_found stage.Right p left right e = refl
not_found stage.Lefts p left right e = refl
not_found stage.Rights p left right e = refl
not_found stage.Done p left right e = false_true e
not_found stage.Stopped p left right e = refl

found_end : (d : Decoder) (st : Stmt) (p : Progress) (o : Option RangeReader) → o ≡ None → Ready p o → found_by p ≡ told (stage_of d st p o)
unfolding stage_of
found_end d st p o e h = end_tells d st p.stage p (finding_in o) (ready_none p o e h)

pub found_told : (d : Decoder) (st : Stmt) (p : Progress) (o : Option RangeReader) → Ready p o → found_by p ≡ told (stage_of d st p o)
found_told d st p None h = found_end d st p None refl h
found_told d st p (Some f) h =
    let r = ready_some p (Some f) f refl h in
    let a = asking (finding_of f) r.1 in
    not_found p.stage p p.left p.right r.2 ∙ ap told (sym (stage_of_ask d st p (Some f) f a.fetch a.next refl a.is r.2))

pub open_if_ok : {A E : Type 0} (r : Result A E) (p : Progress) (o : Option RangeReader) (f g : RangeReader) → o ≡ Some f → Ready p o
    → OnOk r (is_settled g ≡ true) → OnOk r (Open p (Some g))
open_if_ok (Ok x) p o f g e h s = handed_open p o f g e h s
open_if_ok (Err x) p o f g e h s = tt
