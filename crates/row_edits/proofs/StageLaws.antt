-- What is left at each stage.
use Rattle.std.proofs.Common.{◌≡◌, ◌≢◌, ◌<◌, ◌-◌, ℕ, zero, suc, Bool, true, false, List, [], Option, Some, None, refl, sym, ◌∙◌, ap, subst, arith}
use Rattle.page_image.specs.declared.kind.Kind.TheVariants as kind
use Rattle.page_image.specs.Image.{Image}
use Rattle.page_image.specs.Meta.{counters_of}
use Rattle.question_tree.specs.Questions.{Ask, tells, asks, stops, after, told}
use Rattle.row_edits.specs.declared.changes.RowChange.{RowChange}
use Rattle.row_edits.specs.declared.wishes.Edited.{Edited}
use Rattle.row_edits.specs.declared.wishes.Act.TheVariants as act
use Rattle.row_edits.specs.declared.wishes.Fetch.TheVariants as fetch
use Rattle.row_edits.specs.Rooms.{by}
use Rattle.row_edits.specs.RowEdits.{RowWork, arrived, is_page, row, slots_wanted, undo_fetch, undo_wanted}
use Rattle.row_edits.specs.Ways.{way}
use Rattle.row_edits.specs.Wishes.{Wish, Input, Handed, Ran, ReadsUndo, Asked, Does, page_in}

pub row_stops : (n : ℕ) (change : RowChange) → n ≡ 0 → stops ≡ row n change
unfolding row
row_stops n change e = rw e refl

pub row_begins : (n m : ℕ) (change : RowChange) → n ≢ 0 → m ≡ n - 1 → way 9 change.item.key [] change.root (arrived (row m change) change) ≡ row n change
unfolding row
row_begins zero m change z e = absurd (z refl)
row_begins (suc n) m change z e = let s : m ≡ n = omega (arith, e) in rw s refl

-- ---- the undo page

undo_by : Bool → RowChange → List Image → Image → RowWork
undo_by b change path meta = by b (asks (ReadsUndo (counters_of meta).undo_page) (λ x. slots_wanted change path meta (page_in x))) stops

given_by : (b : Bool) (change : RowChange) (path : List Image) (meta im : Image) → Asked (undo_by b change path meta) (Handed im)
    → (im.kind ≡ kind.Undo) × (slots_wanted change path meta im ≡ after (undo_by b change path meta) (Handed im))
unfolding undo_by
given_by true change path meta im h = (h.1, refl)
given_by false change path meta im h = absurd h

pub undo_given : (change : RowChange) (path : List Image) (meta im : Image) → Asked (undo_wanted change path meta) (Handed im)
    → slots_wanted change path meta im ≡ after (undo_wanted change path meta) (Handed im)
unfolding undo_by
undo_given change path meta im h = (given_by (is_page (counters_of meta).undo_page) change path meta im h).1

pub undo_is : (change : RowChange) (path : List Image) (meta im : Image) → Asked (undo_wanted change path meta) (Handed im) → im.kind ≡ kind.Undo
unfolding undo_by
undo_is change path meta im h = (given_by (is_page (counters_of meta).undo_page) change path meta im h).0

not_run_by : (b : Bool) (change : RowChange) (path : List Image) (meta : Image) → Asked (undo_by b change path meta) Ran → ⊥
unfolding undo_by
not_run_by true change path meta h = h
not_run_by false change path meta h = h

pub undo_not_run : (change : RowChange) (path : List Image) (meta : Image) → Asked (undo_wanted change path meta) Ran → ⊥
unfolding undo_by
undo_not_run change path meta h = not_run_by (is_page (counters_of meta).undo_page) change path meta h

does_by : (b : Bool) (change : RowChange) (path : List Image) (meta : Image)
    → Does (undo_by b change path meta) (by b (Some (act.Fetch (fetch.Undo (counters_of meta).undo_page))) None)
unfolding undo_by
does_by true change path meta = refl
does_by false change path meta = refl

pub undo_does : (change : RowChange) (path : List Image) (meta : Image) → Does (undo_wanted change path meta) (undo_fetch meta)
unfolding undo_by
undo_does change path meta = does_by (is_page (counters_of meta).undo_page) change path meta

untold_by : (b : Bool) (change : RowChange) (path : List Image) (meta : Image) → None ≡ told (undo_by b change path meta)
unfolding undo_by
untold_by true change path meta = refl
untold_by false change path meta = refl

pub undo_untold : (change : RowChange) (path : List Image) (meta : Image) → None ≡ told (undo_wanted change path meta)
unfolding undo_by
undo_untold change path meta = untold_by (is_page (counters_of meta).undo_page) change path meta
