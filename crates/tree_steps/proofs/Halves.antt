-- The halves of an inner page have its entries.
use Rattle.std.proofs.Common.{◌≡◌, ℕ, zero, suc, false, List, [], ◌∷◌, ◌++◌, length, take, refl, ap, subst, ◌∙◌, arith}
use Rattle.std.proofs.lemmas.List.{length-map}
use Rattle.page_image.specs.Image.{Image, structure_after}
use Rattle.page_image.specs.declared.kind.Kind.TheVariants.{Inner}
use Rattle.page_view.specs.Inner.{InnerItem, inner_bytes, IsInner}
use Rattle.bplus_tree.specs.Tree.{IsInnerPage, Stands, is_leaf}
use Rattle.tree_change.proofs.ListLaws.{all_front, all_back}
use Rattle.tree_change.proofs.SplitTree.{cut_entries, cut_items}
use Rattle.tree_change.proofs.WayLaws.{at}
use Rattle.tree_change.specs.Splits.{IsSplitPlace, right_half, separator}
use Rattle.tree_timeline.specs.Fences.{entries_in}
use Rattle.tree_timeline.specs.Steps.{Halved}
use Rattle.tree_timeline.specs.Types.{Bound, Items, Pages}
use Rattle.tree_timeline.proofs.Heights.{true_false}
use Rattle.tree_timeline.proofs.Rows.{entries_are}

pub page_entries : (pages : Pages) (l page : ℕ) (lo hi : Bound) (mid : Items) (own : List ℕ)
    → Stands pages l page lo hi mid own
    → is_leaf (pages page).kind ≡ false
    → (m : ℕ) × (es : List InnerItem) × IsInnerPage (pages page) page m es
page_entries pages zero page lo hi mid own h inner =
    absurd (true_false (is_leaf (pages page).kind) (ap is_leaf h.0.kind) inner)
page_entries pages (suc l) page lo hi mid own h inner = (suc l, h.0, h.2)

pub halved_of : (im lm rm : Image) (page m at : ℕ) (es : List InnerItem) → IsInnerPage im page m es
    → IsSplitPlace im.items at
    → lm.items ≡ take at im.items → rm.items ≡ right_half im at
    → Halved (entries_in im) (entries_in lm) (entries_in rm) (separator im at)
halved_of im lm rm page m at es ip place left right =
    let long : length im.items ≡ length es = ap length ip.has ∙ length-map es inner_bytes in
    let c =
    cut_entries es at place.some (let within = place.within in omega (arith, long, within)) in
    let ip' : IsInnerPage im page m ((c.x ∷ c.us) ++ (c.y ∷ c.vs)) =
    subst (λ (k : List InnerItem). IsInnerPage im page m k) c.are ip in
    let items = cut_items im at c.x c.us c.y c.vs ip.kind ip'.has c.count in
    let front = all_front IsInner (c.x ∷ c.us) (c.y ∷ c.vs) ip'.each in
    let back = all_back IsInner (c.x ∷ c.us) (c.y ∷ c.vs) ip'.each in
    let child = back.0.child in
    let first : InnerItem = record { key = []; child = c.y.child } in
    let first_is : IsInner first = record { short_key = omega arith; child = child } in
    record {
      first = c.x;
      front = c.us;
      middle = c.y;
      back = c.vs;
      whole_is = entries_are im es ip.has ip.each ∙ c.are;
      left_is = entries_are lm (c.x ∷ c.us) (left ∙ items.taken) front;
      right_is = entries_are rm (first ∷ c.vs) (right ∙ items.right) (first_is, back.1);
      separator_is = items.sep;
    }

pub structure_inner : (im : Image) (lsn : ℕ) → im.kind ≡ Inner → structure_after im lsn ≡ lsn
structure_inner im lsn e = rw e refl
