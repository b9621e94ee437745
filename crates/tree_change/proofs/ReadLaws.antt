-- Pages that a search can be told of are pages of a tree.
use Rattle.std.proofs.Common.{◌≡◌, List, [], ◌∷◌, map, sym, subst, ◌∙◌, arith, inl, inr}
use Rattle.std.specs.List.{AllByRecursion}
use Rattle.std.proofs.lemmas.List.{length-append}
use Rattle.std.proofs.lemmas.Option.{slice_get_within}
use Rattle.rm_base.specs.Fields.{field}
use Rattle.rm_base.proofs.FieldLaws.{length-field}
use Rattle.page_image.specs.declared.kind.Kind.TheVariants.{Leaf, Inner}
use Rattle.page_image.specs.Image.{Image}
use Rattle.page_view.specs.Inner.{InnerItem, inner_bytes, IsInner}
use Rattle.page_view.specs.Keys.{keys_of}
use Rattle.page_view.proofs.InnerLaws.{inner_holds}
use Rattle.bplus_tree.specs.Walk.{IsToRead}
use Rattle.tree_change.specs.Pages.{HasRows, HoldsChild, HasChildren, IsTreePage}
use Rattle.tree_change.proofs.PlaceLaws.{as_many}

child_read : (es : List InnerItem) → AllByRecursion IsInner es → AllByRecursion HoldsChild (map inner_bytes es)
child_read [] all = tt
child_read (e ∷ es) all = (
  record {
    inner = inner_holds e all.0;
    short = (let l = length-append e.key (field 4 e.child) in let f = length-field 4 e.child in let s = all.0.short_key in omega (arith, l, f, s));
  },
  child_read es all.1,
)

pub tree_page_read : (im : Image) → IsToRead im → IsTreePage im
tree_page_read im (inl h) = inl (record { kind = h.kind; items = h.each; ascend = h.ascend })
tree_page_read im (inr h) = inr (record {
  kind = h.kind;
  items = subst (AllByRecursion HoldsChild) (sym h.has) (child_read h.entries h.each);
  some = (let w = slice_get_within (keys_of im.items) 0 [] h.least in let long = as_many im.items in omega (arith, w, long));
  ascend = h.ascend;
  least = h.least;
})

pub rows_read : (im : Image) → IsToRead im → im.kind ≡ Leaf → HasRows im
rows_read im (inl h) e = record { kind = h.kind; items = h.each; ascend = h.ascend }
rows_read im (inr h) e = absurd (let k : Leaf ≡ Inner = sym e ∙ h.kind in cc)

pub children_read : (im : Image) → IsToRead im → im.kind ≡ Inner → HasChildren im
children_read im (inr h) e = record {
  kind = h.kind;
  items = subst (AllByRecursion HoldsChild) (sym h.has) (child_read h.entries h.each);
  some = (let w = slice_get_within (keys_of im.items) 0 [] h.least in let long = as_many im.items in omega (arith, w, long));
  ascend = h.ascend;
  least = h.least;
}
children_read im (inl h) e = absurd (let k : Inner ≡ Leaf = sym e ∙ h.kind in cc)
