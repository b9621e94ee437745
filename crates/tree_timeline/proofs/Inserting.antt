-- One page more in a layer.
use Rattle.std.proofs.Common.{◌≡◌, ℕ, List, [], ◌∷◌, ◌++◌, map, Some, refl, sym, ap, ◌∙◌, append_assoc, inl, inr}
use Rattle.std.specs.Prelude.{◌⊎◌}
use Rattle.std.proofs.lemmas.List.{map-append}
use Rattle.page_view.specs.Inner.{InnerItem}
use Rattle.tree_timeline.specs.Fences.{Fence, fence_of, cut, low_after}
use Rattle.tree_timeline.specs.Steps.{Halved}
use Rattle.tree_timeline.specs.Types.{Key, Bound}
use Rattle.tree_timeline.proofs.Places.{Parted, parted}

-- the fences with a new one behind one of them
pub record Inserted (old now : List Fence) (page : ℕ) (sep : Key) (new : ℕ) : Type 0 where
  pub left : List Fence
  pub own : Fence
  pub right : List Fence
  pub was : old ≡ left ++ (own ∷ right)
  pub is : now ≡ left ++ (own ∷ (record { low = Some sep; page = new } ∷ right))
  pub page_is : own.page ≡ page

cut_append : (low : Bound) (x : InnerItem) (us ys : List InnerItem)
    → cut low ((x ∷ us) ++ ys) ≡ cut low (x ∷ us) ++ map fence_of ys
cut_append low x us ys =
    ap (λ (l : List Fence). record { low = low; page = x.child } ∷ l) (map-append fence_of us ys)

-- the part of a page, with one more entry
pub cut_more : (low : Bound) (xs : List InnerItem) (entry e : InnerItem) (ys : List InnerItem)
    → Inserted (cut low (xs ++ (entry ∷ ys)))
    (cut low (xs ++ (entry ∷ (e ∷ ys)))) entry.child e.key e.child
cut_more low [] entry e ys =
    record {
      left = [];
      own = record { low = low; page = entry.child };
      right = map fence_of ys;
      was = refl;
      is = refl;
      page_is = refl;
    }
cut_more low (x ∷ xs) entry e ys =
    record {
      left = cut low (x ∷ xs);
      own = fence_of entry;
      right = map fence_of ys;
      was = cut_append low x xs (entry ∷ ys);
      is = cut_append low x xs (entry ∷ (e ∷ ys));
      page_is = refl;
    }

pub insert_between : (a b : List Fence) (old now : List Fence) (page : ℕ) (sep : Key) (new : ℕ)
    → Inserted old now page sep new → Inserted (a ++ (old ++ b)) (a ++ (now ++ b)) page sep new
insert_between a b old now page sep new i =
    let g : Fence = record { low = Some sep; page = new } in
    record {
      left = a ++ i.left;
      own = i.own;
      right = i.right ++ b;
      was =
          ap (λ (x : List Fence). a ++ (x ++ b)) i.was
          ∙ (ap (λ (x : List Fence). a ++ x) (append_assoc i.left (i.own ∷ i.right) b)
          ∙ sym (append_assoc a i.left (i.own ∷ (i.right ++ b))));
      is = ap (λ (x : List Fence). a ++ (x ++ b)) i.is
          ∙ (ap (λ (x : List Fence). a ++ x) (append_assoc i.left (i.own ∷ (g ∷ i.right)) b)
          ∙ sym (append_assoc a i.left (i.own ∷ (g ∷ (i.right ++ b)))));
      page_is = i.page_is;
    }

-- the parts of the two halves are those of the whole
pub halves_join : (low : Bound) (whole left right : List InnerItem) (sep : Key)
    → Halved whole left right sep → cut low left ++ cut (Some sep) right ≡ cut low whole
halves_join low whole left right sep h =
    let m : InnerItem = record { key = []; child = h.middle.child } in
    ap (λ (l : List InnerItem). cut low l ++ cut (Some sep) right) h.left_is
    ∙ (ap (λ (r : List InnerItem). cut low (h.first ∷ h.front) ++ cut (Some sep) r) h.right_is
    ∙ (ap (λ (k : Key). cut low (h.first ∷ h.front) ++ cut (Some k) (m ∷ h.back)) h.separator_is
    ∙ (sym (cut_append low h.first h.front (h.middle ∷ h.back)) ∙ ap (cut low) (sym h.whole_is))))

-- what is right of a fence: it begins as it did, or the fence is the one that was split and the new
-- one stands there
abbrev pub Ahead : List Fence → List Fence → Fence → ℕ → List ℕ → ℕ → Type 0
Ahead right right' f page sep new =
    (low_after right' ≡ low_after right)
    ⊎ ((f.page ≡ page) × (right' ≡ record { low = Some sep; page = new } ∷ right))

-- the layer has a page more: what that does to the range of one page
pub inserted_covers : (old now : List Fence) (page : ℕ) (sep : Key) (new : ℕ)
    → Inserted old now page sep new
    → (left : List Fence) (f : Fence) (right : List Fence) → old ≡ left ++ (f ∷ right)
    → (left' : List Fence) × (right' : List Fence) × (now ≡ left' ++ (f ∷ right'))
    × Ahead right right' f page sep new
inserted_covers old now page sep new i left f right e =
    go (parted left f right i.left i.own i.right (sym e ∙ i.was))
  where
    g : Fence
    g = record { low = Some sep; page = new }

    after : (m : List Fence)
        → low_after (m ++ (i.own ∷ (g ∷ i.right))) ≡ low_after (m ++ (i.own ∷ i.right))
    after [] = refl
    after (x ∷ m) = refl

    go : Parted left f right i.left i.own i.right
        → (left' : List Fence) × (right' : List Fence) × (now ≡ left' ++ (f ∷ right'))
        × Ahead right right' f page sep new
    go (inl (m, p, q)) = (
      left,
      m ++ (i.own ∷ (g ∷ i.right)),
      i.is
          ∙ (ap (λ (l : List Fence). l ++ (i.own ∷ (g ∷ i.right))) p
          ∙ append_assoc left (f ∷ m) (i.own ∷ (g ∷ i.right))),
      inl (after m ∙ ap low_after (sym q)),
    )
    go (inr (inl (p, q, r))) = (
      i.left,
      g ∷ i.right,
      i.is ∙ ap (λ (o : Fence). i.left ++ (o ∷ (g ∷ i.right))) (sym q),
      inr (ap (λ (o : Fence). o.page) q ∙ i.page_is, ap (λ (l : List Fence). g ∷ l) (sym r)),
    )
    go (inr (inr (m, p, q))) = (
      i.left ++ (i.own ∷ (g ∷ m)),
      right,
      i.is
          ∙ (ap (λ (r : List Fence). i.left ++ (i.own ∷ (g ∷ r))) q
          ∙ sym (append_assoc i.left (i.own ∷ (g ∷ m)) (f ∷ right))),
      inl refl,
    )
