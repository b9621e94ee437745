use Rattle.std.proofs.Common.{rules, ◌≡◌, ◌-◌, ℕ, List, length, take, drop, slice_index, subst, sym, arith}
use Rattle.std.proofs.lemmas.Slice.{between_to_end}
use Rattle.page_view.specs.Undo.{HoldsOld}
use Rattle.page_view.proofs.undo.holds_undo.Goals as goal

pub returns-then-get_u32-le-MAX_PAGE_ID : goal.returns-then-get_u32-le-MAX_PAGE_ID
returns-then-get_u32-le-MAX_PAGE_ID c =
    let item : List ℕ = c.args.item.now in
    let whole : take (length item - 19) (drop 19 item) ≡ drop 19 item = between_to_end item 19 (length item) (omega arith) in
    let Old : List ℕ → Type 0 = λ old. HoldsOld (slice_index item 18) old in (
      λ t. record { long = search rules; root = search rules; old = subst Old whole (c.holds_old.ensures.0 t) },
      λ h. c.holds_old.ensures.1 (subst Old (sym whole) h.old),
    )
