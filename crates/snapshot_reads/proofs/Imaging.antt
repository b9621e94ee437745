-- What is found over the images of uses is found over the uses.
use Rattle.std.proofs.Common.{◌≡◌, ℕ, List, [], ◌∷◌, ◌++◌, map, Option, Some, None, refl, sym, ap, subst, ◌∙◌}
use Rattle.rm_base.specs.declared.key_range.KeyRange.{KeyRange}
use Rattle.page_image.specs.Image.{Image}
use Rattle.page_view.specs.declared.leaf.LeafItem.{LeafItem}
use Rattle.page_view.specs.Leaf.{leaf_of}
use Rattle.bplus_tree.specs.Walk.{IsToRead, Walking, start, wanted}
use Rattle.undo_versions.specs.Chains.{GoesOn}
use Rattle.undo_versions.specs.Walking.{replaced}
use Rattle.tree_timeline.specs.Types.{Bound, Items, Key}
use Rattle.sql_values.specs.declared.schemas.Schema.{Schema}
use Rattle.version_store.specs.Stores.{catalog}
use Rattle.version_store.specs.Versions.{Row}
use Rattle.snapshot_reads.specs.Tables.{NoTableFound, RowsFound, TableFound}
use Rattle.snapshot_reads.specs.Times.{itself}
use Rattle.range_reader.specs.Uses.{FoundBy, Looks, LooksEach, Step, Steps, found_of, uses_of}
use Rattle.range_reader.specs.Walked.{taken, walked}

-- uses whose images stand in two parts
pub record Parted {U : Type 0} (image : U → Image) (us : List U) (xs ys : List Image) : Type 0 where
  pub left : List U
  pub right : List U
  pub whole : us ≡ left ++ right
  pub left_is : map image left ≡ xs
  pub right_is : map image right ≡ ys

heads : (a b : Image) (xs ys : List Image) → a ∷ xs ≡ b ∷ ys → (a ≡ b) × (xs ≡ ys)
heads a b xs ys q = (cc, cc)

module _ {U : Type 0} (image : U → Image) (n : ℕ) (own : Option ℕ) where
  pub parted : (us : List U) (xs ys : List Image) → map image us ≡ xs ++ ys
      → Parted image us xs ys
  parted us [] ys e = record {
    left = [];
    right = us;
    whole = refl;
    left_is = refl;
    right_is = e;
  }
  parted [] (x ∷ xs) ys e = absurd (let q : [] ≡ x ∷ (xs ++ ys) = e in cc)
  parted (u ∷ us) (x ∷ xs) ys e =
      let h = heads (image u) x (map image us) (xs ++ ys) e in
      let p = parted us xs ys h.1 in
      record {
        left = u ∷ p.left;
        right = p.right;
        whole = ap (λ vs. u ∷ vs) p.whole;
        left_is = ap (λ y. y ∷ map image p.left) h.0 ∙ ap (λ zs. x ∷ zs) p.left_is;
        right_is = p.right_is;
      }

  pub empty_uses : (vs : List U) → map image vs ≡ [] → vs ≡ []
  empty_uses [] e = refl
  empty_uses (v ∷ vs) e = absurd (let q : image v ∷ map image vs ≡ [] = e in cc)

  looks_of : (us : List U) (item : LeafItem) (r : Option LeafItem)
      → Looks itself n own item (map image us) r → Looks image n own item us r
  looks_of [] item r h = h
  looks_of (u ∷ []) item r h = h
  looks_of (u ∷ (v ∷ us)) item r (hidden, some, page, olds) = (
    hidden,
    some,
    page,
    go (replaced (image v) item.older) olds (λ old h. looks_of us old r h),
  )
    where
      go : (o : Option LeafItem)
          → GoesOn (λ old. Looks itself n own old (map image us) r)
          ((map image us ≡ []) × (r ≡ None)) o
          → ((old : LeafItem) → Looks itself n own old (map image us) r
          → Looks image n own old us r)
          → GoesOn (λ old. Looks image n own old us r) ((us ≡ []) × (r ≡ None)) o
      go None (ends, is) rec = (empty_uses us ends, is)
      go (Some old) h rec = rec old h

  each_of : (xs : Items) (us : List U) (found : List LeafItem)
      → LooksEach itself n own xs (map image us) found → LooksEach image n own xs us found
  each_of [] us found (none, is) = (empty_uses us none, is)
  each_of (x ∷ xs) us found (here, rest, r, more, parts, look, others, is) =
      let p = parted us here rest parts in (
        p.left,
        p.right,
        r,
        more,
        p.whole,
        looks_of p.left (leaf_of x) r
            (subst (λ vs. Looks itself n own (leaf_of x) vs r) (sym p.left_is) look),
        each_of xs p.right more (subst (λ vs. LooksEach itself n own xs vs more)
            (sym p.right_is) others),
        is,
      )

  pub record Lifted (low high : Bound) (w : Walking) (us : List U) (found : List LeafItem)
      : Type 0 where
    pub steps : List (Step U)
    pub goes : Steps image n own low high w steps
    pub used : us ≡ uses_of steps
    pub seen : found ≡ found_of steps

  lifted : (low high : Bound) (steps : List (Step Image)) (w : Walking) (us : List U)
      → Steps itself n own low high w steps → map image us ≡ uses_of steps
      → Lifted low high w us (found_of steps)
  lifted low high [] w [] goes used = record { steps = []; goes = goes; used = refl; seen = refl }
  lifted low high [] w (u ∷ us) goes used =
      absurd (let q : image u ∷ map image us ≡ [] = used in cc)
  lifted low high (p ∷ rest) w [] goes used =
      absurd (let q : [] ≡ p.use_of ∷ (p.asides ++ uses_of rest) = used in cc)
  lifted low high (p ∷ rest) w (u ∷ us) (wants, read, looks, goes) used =
      let h = heads (image u) p.use_of (map image us) (p.asides ++ uses_of rest) used in
      let parts = parted us p.asides (uses_of rest) h.1 in
      let ih = lifted low high rest (walked w (image u)) parts.right
      (subst (λ i. Steps itself n own low high (walked w i) rest) (sym h.0) goes)
      parts.right_is in
      let step : Step U = record { use_of = u; asides = parts.left; found = p.found } in
      record {
        steps = step ∷ ih.steps;
        goes = (
          subst (λ i. wanted w.want ≡ Some (Image.page i)) (sym h.0) wants,
          subst (λ i. IsToRead i) (sym h.0) read,
          each_of (taken low high (image u)) parts.left p.found
              (subst (λ vs. LooksEach itself n own (taken low high (image u)) vs p.found)
              (sym parts.left_is)
              (subst (λ i. LooksEach itself n own (taken low high i) p.asides p.found)
              (sym h.0) looks)),
          ih.goes,
        );
        used = ap (λ vs. u ∷ vs) (parts.whole ∙ ap (λ vs. parts.left ++ vs) ih.used);
        seen = ap (λ fs. p.found ++ fs) ih.seen;
      }

  pub found_over : (root : ℕ) (low high : Bound) (us : List U) (found : List LeafItem)
      → FoundBy itself n own root low high (map image us) found
      → FoundBy image n own root low high us found
  found_over root low high us found f =
      let l = lifted low high f.steps (start root low high) us f.goes f.used in
      record { steps = l.steps; goes = l.goes; used = l.used; seen = f.seen ∙ l.seen }

  pub table_over : (a : Key) (us : List U) (s : Schema) (root : ℕ)
      → TableFound itself n own a (map image us) s root → TableFound image n own a us s root
  table_over a us s root t = record {
    entry = t.entry;
    others = t.others;
    found = found_over catalog (Some a) (Some a) us (t.entry ∷ t.others) t.found;
    spells = t.spells;
  }

  pub no_table_over : (a : Key) (us : List U) → NoTableFound itself n own a (map image us)
      → NoTableFound image n own a us
  no_table_over a us t = found_over catalog (Some a) (Some a) us [] t

  pub rows_over : (root : ℕ) (s : Schema) (range : KeyRange) (us : List U) (rows : List Row)
      → RowsFound itself n own root s range (map image us) rows
      → RowsFound image n own root s range us rows
  rows_over root s range us rows t = record {
    items = t.items;
    found = found_over root range.low range.high us t.items t.found;
    decoded = t.decoded;
  }
