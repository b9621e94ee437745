-- What is left at each stage of an undo.
use Rattle.std.proofs.Common.{◌≡◌, ◌≢◌, ◌<◌, ◌-◌, ℕ, zero, suc, Bool, true, false, List, [], Option, Some, None, refl, sym, ◌∙◌, ap, subst, arith}
use Rattle.std.specs.Prelude.{IfOk, Result}
use Rattle.rm_base.specs.declared.places.UndoPtr.{UndoPtr}
use Rattle.page_image.specs.Image.{Image}
use Rattle.page_image.specs.Meta.{IsMeta}
use Rattle.page_view.specs.declared.leaf.LeafItem.{LeafItem}
use Rattle.question_tree.specs.Questions.{Ask, tells, asks, stops, after, told}
use Rattle.undo_versions.specs.declared.items.UndoItem.{UndoItem}
use Rattle.row_edits.specs.declared.back_stages.BackStage.{BackStage}
use Rattle.row_edits.specs.declared.room.Room.{Room}
use Rattle.row_edits.specs.declared.room.Room.TheVariants as room
use Rattle.row_edits.specs.declared.wishes.Act.TheVariants as act
use Rattle.row_edits.specs.declared.wishes.Fetch.TheVariants as fetch
use Rattle.row_edits.specs.declared.wishes.Taken.TheVariants as taken
use Rattle.row_edits.specs.Rooms.{by}
use Rattle.row_edits.specs.BackEdits.{BackWork, back, by_room, lacking, landed, look_fetch, older, room_back, splitting, undo_read, undo_wanted}
use Rattle.row_edits.specs.BackStages.{work_of}
use Rattle.row_edits.specs.RowEdits.{is_page}
use Rattle.row_edits.specs.Ways.{way}
use Rattle.row_edits.specs.Wishes.{Wish, Input, Handed, Ran, ReadsUndo, Asked, Does, page_in}

pub back_stops : (n session : ℕ) (undo : UndoItem) → n ≡ 0 → stops ≡ back n session undo
unfolding back
back_stops n session undo e = rw e refl

pub back_begins : (n m session : ℕ) (undo : UndoItem) → n ≢ 0 → m ≡ n - 1
    → way 9 undo.key [] undo.root (landed (back m session undo) session undo) ≡ back n session undo
unfolding back
back_begins zero m session undo z e = absurd (z refl)
back_begins (suc n) m session undo z e = let s : m ≡ n = omega (arith, e) in rw s refl

-- ---- the undo item

look_by : Bool → ℕ → UndoPtr → BackWork
look_by b session at = by b (asks (ReadsUndo at.page) (λ x. undo_read session (older (page_in x) at))) stops

given_by : (b : Bool) (session : ℕ) (at : UndoPtr) (im : Image) → Asked (look_by b session at) (Handed im)
    → undo_read session (older im at) ≡ after (look_by b session at) (Handed im)
unfolding look_by
given_by true session at im h = refl
given_by false session at im h = absurd h

pub look_given : {E : Type 0} (session : ℕ) (at : UndoPtr) (im : Image) (r : Result BackStage E) → Asked (undo_wanted session at) (Handed im)
    → IfOk r (λ next. work_of next ≡ undo_read session (older im at)) → IfOk r (λ next. work_of next ≡ after (undo_wanted session at) (Handed im))
unfolding look_by
look_given session at im r h e =
    subst (λ (w : BackWork). IfOk r (λ next. work_of next ≡ w)) (given_by (is_page at.page) session at im h) e

not_run_by : (b : Bool) (session : ℕ) (at : UndoPtr) → Asked (look_by b session at) Ran → ⊥
unfolding look_by
not_run_by true session at h = h
not_run_by false session at h = h

pub look_not_run : (session : ℕ) (at : UndoPtr) → Asked (undo_wanted session at) Ran → ⊥
unfolding look_by
look_not_run session at h = not_run_by (is_page at.page) session at h

does_by : (b : Bool) (session : ℕ) (at : UndoPtr) → Does (look_by b session at) (by b (Some (act.Fetch (fetch.Undo at.page))) None)
unfolding look_by
does_by true session at = refl
does_by false session at = refl

pub look_does : (session : ℕ) (at : UndoPtr) → Does (undo_wanted session at) (look_fetch at)
unfolding look_by
look_does session at = does_by (is_page at.page) session at

untold_by : (b : Bool) (session : ℕ) (at : UndoPtr) → None ≡ told (look_by b session at)
unfolding look_by
untold_by true session at = refl
untold_by false session at = refl

pub look_untold : (session : ℕ) (at : UndoPtr) → None ≡ told (undo_wanted session at)
unfolding look_by
look_untold session at = untold_by (is_page at.page) session at

-- ---- a leaf that lacks room

lacks : (again : BackWork) (old : Option LeafItem) (path : List Image) (im : Image) (r : Room) → Asked (lacking again old path) (Handed im)
    → room_back old path im ≡ r → by_room r again old path im ≡ after (lacking again old path) (Handed im)
lacks again None path im r h e = absurd h
lacks again (Some old) path im r h e = ap (λ (q : Room). by_room q again (Some old) path im) (sym e)

pub lacks_enough : (again : BackWork) (old : Option LeafItem) (path : List Image) (im : Image) → Asked (lacking again old path) (Handed im)
    → room_back old path im ≡ room.Enough → stops ≡ after (lacking again old path) (Handed im)
lacks_enough again old path im h e = lacks again old path im room.Enough h e

pub lacks_split : (again : BackWork) (old : Option LeafItem) (path : List Image) (im : Image) → Asked (lacking again old path) (Handed im)
    → room_back old path im ≡ room.Split → splitting again old path im ≡ after (lacking again old path) (Handed im)
lacks_split again old path im h e = lacks again old path im room.Split h e

pub lacks_full : (again : BackWork) (old : Option LeafItem) (path : List Image) (im : Image) → Asked (lacking again old path) (Handed im)
    → room_back old path im ≡ room.Full → tells taken.Again ≡ after (lacking again old path) (Handed im)
lacks_full again old path im h e = lacks again old path im room.Full h e

pub lacking_meta : (again : BackWork) (old : Option LeafItem) (path : List Image) (im : Image) → Asked (lacking again old path) (Handed im) → IsMeta im
lacking_meta again None path im h = absurd h
lacking_meta again (Some old) path im h = h

pub lacking_not_run : (again : BackWork) (old : Option LeafItem) (path : List Image) → Asked (lacking again old path) Ran → ⊥
lacking_not_run again None path h = h
lacking_not_run again (Some old) path h = h

pub lacking_untold : (again : BackWork) (old : Option LeafItem) (path : List Image) → None ≡ told (lacking again old path)
lacking_untold again None path = refl
lacking_untold again (Some old) path = refl

pub split_ran : (again : BackWork) (old : Option LeafItem) (path : List Image) (meta : Image) → Asked (splitting again old path meta) Ran
    → again ≡ after (splitting again old path meta) Ran
split_ran again None path meta h = absurd h
split_ran again (Some old) path meta h = refl

pub split_not_given : (again : BackWork) (old : Option LeafItem) (path : List Image) (meta im : Image) → Asked (splitting again old path meta) (Handed im) → ⊥
split_not_given again None path meta im h = h
split_not_given again (Some old) path meta im h = h

pub splitting_untold : (again : BackWork) (old : Option LeafItem) (path : List Image) (meta : Image) → None ≡ told (splitting again old path meta)
splitting_untold again None path meta = refl
splitting_untold again (Some old) path meta = refl
