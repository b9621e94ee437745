use Rattle.std.proofs.Common.{◌≡◌, ◌+◌, ◌∷◌, [], ℕ, List, drop, subst, sym, ◌∙◌, Result, Ok, Err, OnOk, IsOk, is_err, false, refl}
use Rattle.page_image.specs.Image.{Image}
use Rattle.redo_record.specs.declared.redo.Group.{Group}
use Rattle.redo_record.specs.Effect.{after_groups}
use Rattle.materialiser.specs.Merging.{between}
use Rattle.materialiser.proofs.MergeLaws.{Merges, advanced, here}
use Rattle.materialiser.proofs.merging.try_merge.Goals as goal

-- an answer that is no error is Ok, and what is said of Ok holds
on_ok : {T E : Type 0} (r : Result T E) (P : Type 0) → is_err r ≡ false → OnOk r P → P
on_ok (Ok x) P e h = h
on_ok (Err f) P e h = cc

is_ok_of : {T E : Type 0} (r : Result T E) → is_err r ≡ false → IsOk r
is_ok_of (Ok x) e = refl
is_ok_of (Err f) e = cc

pub loop-group-preserved : goal.loop-group-preserved
loop-group-preserved c =
    let gs : List Group = c.as_slice-group-items.result.now in
    let i : ℕ = c.loop-group.group-index in
    let g : Group = c.group-item.result in
    let no_error : is_err c.replay_between.result ≡ false = sym c.is_err.ensures.value ∙ c.if-is_err.false in
    let Left : List Group → Type 0 = λ q. Merges c.lsn-from.result c.args.upto gs c.args.base.now q c.loop-group.page in
    let Next : Image → Type 0 = λ im. Merges c.lsn-from.result c.args.upto gs c.args.base.now (drop (i + 1) gs) im in
    let page = on_ok c.replay_between.result (c.replay_between.new.page ≡ after_groups (between c.lsn-from.result c.args.upto (g ∷ [])) c.loop-group.page) no_error c.replay_between.ensures.ok in
    subst Next (sym page)
    (advanced c.lsn-from.result c.args.upto gs c.args.base.now g (drop (i + 1) gs) c.loop-group.page
    (subst Left (here gs i g c.loop-group-test.true c.group-item.is) c.loop-group.invariant)
    (c.replay_between.ensures.applies.0 (is_ok_of c.replay_between.result no_error)))
