-- Rows under ascending keys of a range are the rows of a table in the range.
use Rattle.std.proofs.Common.{◌≡◌, ◌≢◌, ◌<◌, ℕ, suc, Bool, true, false, List, [], ◌∷◌, ◌++◌, length, slice_index_or, filter, if◌then◌else◌, ◌&&◌, ◌||◌, option_to_list, Option, Some, None, refl, sym, ap, subst, ◌∙◌, arith}
use Rattle.std.specs.List.{AllByRecursion}
use Rattle.std.specs.Ordering.{is_le}
use Rattle.std.specs.Str.{bytes_eq}
use Rattle.std.specs.declared.cmp.Ordering.{Ordering}
use Rattle.std.specs.declared.cmp.Ordering.TheVariants.{Less, Equal, Greater}
use Rattle.rm_base.specs.declared.key_range.KeyRange.{KeyRange}
use Rattle.page_view.specs.Keys.{Ascend, key_cmp}
use Rattle.bplus_tree.specs.Tree.{NotBelow}
use Rattle.tree_timeline.specs.Found.{InRange, NotOver}
use Rattle.tree_timeline.specs.Types.{Bound, Key}
use Rattle.sql_values.specs.Order.{text_cmp}
use Rattle.sql_meaning.specs.Ranges.{in_range, is_before, is_past}
use Rattle.version_store.specs.Versions.{Row}
use Rattle.version_store.proofs.Places.{bytes_differ, bytes_same}
use Rattle.history.specs.Databases.{AllAbove, AreRows, Ascends, under}
use Rattle.history.proofs.ContentLaws.{above_not_under, same_lists}
use Rattle.snapshot_reads.specs.Tables.{AreRowsOf}
use Rattle.snapshot_reads.proofs.Rows.{rows_by}

-- ---- ranges, as a fact and as a test

le_of : (o : Ordering) → o ≢ Greater → is_le o ≡ true
le_of Less h = refl
le_of Equal h = refl
le_of Greater h = absurd (h refl)

of_le : (o : Ordering) → is_le o ≡ true → o ≢ Greater
of_le Less e = λ f. cc
of_le Equal e = λ f. cc
of_le Greater e = λ f. cc

both : (a b : Bool) → a ≡ true → b ≡ true → (a && b) ≡ true
both a b p q = rw (p, q) refl

first : (a b : Bool) → (a && b) ≡ true → a ≡ true
first true b h = refl
first false b h = h

second : (a b : Bool) → (a && b) ≡ true → b ≡ true
second true b h = h
second false b h = absurd (let x : false ≡ true = h in cc)

pub is_in : (range : KeyRange) (k : Key) → InRange range.low range.high k → in_range k range ≡ true
is_in range k (low, high) =
    both (is_past range.low k) (is_before k range.high) (lows range.low low) (highs range.high high)
  where
    lows : (o : Bound) → NotBelow o k → is_past o k ≡ true
    lows None h = refl
    lows (Some l) h = le_of (text_cmp l k) h

    highs : (o : Bound) → NotOver o k → is_before k o ≡ true
    highs None h = refl
    highs (Some l) h = le_of (text_cmp k l) h

pub in_is : (range : KeyRange) (k : Key) → in_range k range ≡ true → InRange range.low range.high k
in_is range k e = (
  lows range.low (first (is_past range.low k) (is_before k range.high) e),
  highs range.high (second (is_past range.low k) (is_before k range.high) e),
)
  where
    lows : (o : Bound) → is_past o k ≡ true → NotBelow o k
    lows None h = tt
    lows (Some l) h = of_le (text_cmp l k) h

    highs : (o : Bound) → is_before k o ≡ true → NotOver o k
    highs None h = tt
    highs (Some l) h = of_le (text_cmp k l) h

-- ---- keys that ascend

abbrev AllAfter : Key → List Key → Type 0
AllAfter k keys = AllByRecursion (λ other. text_cmp k other ≡ Less) keys

abbrev Rising : List Key → Type 0
Rising [] = Unit {0}
Rising (k ∷ keys) = AllAfter k keys × Rising keys

rising : (keys : List Key) → Ascend keys → Rising keys
rising [] asc = tt
rising (k ∷ keys) asc = (
  more keys (λ i h. asc 0 (suc i) (omega arith) (omega (arith, h))),
  rising keys (λ i j l h. asc (suc i) (suc j) (omega (arith, l)) (omega (arith, h))),
)
  where
    more : (ys : List Key) → ((i : ℕ) → i < length ys → key_cmp k (slice_index_or ys i []) ≡ Less)
        → AllAfter k ys
    more [] f = tt
    more (y ∷ ys) f = (f 0 (omega arith), more ys (λ i h. f (suc i) (omega (arith, h))))

abbrev has : Key → List Key → Bool
has k [] = false
has k (other ∷ keys) = bytes_eq other k || has k keys

none_there : (k : Key) (keys : List Key) → has k keys ≡ false
    → AllByRecursion (λ other. other ≢ k) keys
none_there k [] h = tt
none_there k (x ∷ keys) h = (
  bytes_differ x k (left (bytes_eq x k) (has k keys) h),
  none_there k keys (right (bytes_eq x k) (has k keys) h),
)
  where
    left : (a b : Bool) → (a || b) ≡ false → a ≡ false
    left true b e = e
    left false b e = refl

    right : (a b : Bool) → (a || b) ≡ false → b ≡ false
    right true b e = absurd (let x : true ≡ false = e in cc)
    right false b e = e

-- ---- rows by keys

no_row : (b : Bool) (o : Option Row) → o ≡ None → o ≡ (if b then o else None)
no_row true o e = refl
no_row false o e = e

module _ (key_of : Row → Key) where
  under_key : (k : Key) (rs : List Row) (r : Row) → under key_of k rs ≡ Some r → key_of r ≡ k
  under_key k [] r e = absurd (let x : None ≡ Some r = e in cc)
  under_key k (s ∷ rs) r e = go (under_key k rs r) (bytes_eq (key_of s) k) refl e
    where
      go : (under key_of k rs ≡ Some r → key_of r ≡ k) → (b : Bool) → bytes_eq (key_of s) k ≡ b
          → (if b then Some s else under key_of k rs) ≡ Some r → key_of r ≡ k
      go ih true t f =
          let x : s ≡ r = grind arith in ap key_of (sym x) ∙ bytes_same (key_of s) k t
      go ih false t f = ih f

  module _ (row : Key → Option Row) (keyed : (k : Key) (r : Row) → row k ≡ Some r → key_of r ≡ k)
    where
      by_above : (k : Key) (keys : List Key) → AllAfter k keys
          → AllAbove key_of k (rows_by row keys)
      by_above k [] a = tt
      by_above k (x ∷ keys) a = go (by_above k keys a.1) (row x) refl
        where
          go : AllAbove key_of k (rows_by row keys) → (o : Option Row) → row x ≡ o
              → AllAbove key_of k (option_to_list o ++ rows_by row keys)
          go ih None e = ih
          go ih (Some r) e = (ap (text_cmp k) (keyed x r e) ∙ a.0, ih)

      by_ascends : (keys : List Key) → Rising keys → Ascends key_of (rows_by row keys)
      by_ascends [] s = tt
      by_ascends (x ∷ keys) s = go (by_ascends keys s.1) (row x) refl
        where
          go : Ascends key_of (rows_by row keys) → (o : Option Row) → row x ≡ o
              → Ascends key_of (option_to_list o ++ rows_by row keys)
          go ih None e = ih
          go ih (Some r) e = (
            subst (λ k. AllAbove key_of k (rows_by row keys)) (sym (keyed x r e))
                (by_above x keys s.0),
            ih,
          )

      by_under : (k : Key) (keys : List Key) → Rising keys
          → under key_of k (rows_by row keys) ≡ (if has k keys then row k else None)
      by_under k [] s = refl
      by_under k (x ∷ keys) s = go (by_under k keys s.1) (bytes_eq x k) refl (row x) refl
        where
          go : under key_of k (rows_by row keys) ≡ (if has k keys then row k else None)
              → (b : Bool) → bytes_eq x k ≡ b → (o : Option Row) → row x ≡ o
              → under key_of k (option_to_list o ++ rows_by row keys)
              ≡ (if b || has k keys then row k else None)
          go ih true t None e =
              let same : x ≡ k = bytes_same x k t in
              subst (λ j. under key_of j (rows_by row keys) ≡ None) same
              (above_not_under key_of x (rows_by row keys) (by_above x keys s.0))
              ∙ sym (sym (ap row same) ∙ e)
          go ih true t (Some r) e =
              let same : x ≡ k = bytes_same x k t in
              ap (λ b. if b then Some r else under key_of k (rows_by row keys))
              (ap (λ j. bytes_eq j k) (keyed x r e) ∙ t)
              ∙ sym (sym (ap row same) ∙ e)
          go ih false t None e = ih
          go ih false t (Some r) e =
              ap (λ b. if b then Some r else under key_of k (rows_by row keys))
              (ap (λ j. bytes_eq j k) (keyed x r e) ∙ t) ∙ ih

  filter_above : (p : Key → Bool) (k : Key) (rs : List Row) → AllAbove key_of k rs
      → AllAbove key_of k (filter (λ r. p (key_of r)) rs)
  filter_above p k [] a = tt
  filter_above p k (r ∷ rs) a = go (filter_above p k rs a.1) (p (key_of r)) refl
    where
      go : AllAbove key_of k (filter (λ r. p (key_of r)) rs) → (b : Bool) → p (key_of r) ≡ b
          → AllAbove key_of k (filter (λ r. p (key_of r)) (r ∷ rs))
      go ih true e = rw e (a.0, ih)
      go ih false e = rw e ih

  filter_ascends : (p : Key → Bool) (rs : List Row) → Ascends key_of rs
      → Ascends key_of (filter (λ r. p (key_of r)) rs)
  filter_ascends p [] a = tt
  filter_ascends p (r ∷ rs) a = go (filter_ascends p rs a.1) (p (key_of r)) refl
    where
      go : Ascends key_of (filter (λ r. p (key_of r)) rs) → (b : Bool) → p (key_of r) ≡ b
          → Ascends key_of (filter (λ r. p (key_of r)) (r ∷ rs))
      go ih true e = rw e (filter_above p (key_of r) rs a.0, ih)
      go ih false e = rw e ih

  filter_under : (p : Key → Bool) (k : Key) (rs : List Row)
      → under key_of k (filter (λ r. p (key_of r)) rs) ≡ (if p k then under key_of k rs else None)
  filter_under p k [] = no_row (p k) None refl
  filter_under p k (r ∷ rs) =
      go (filter_under p k rs) (p (key_of r)) refl (bytes_eq (key_of r) k) refl (p k) refl
    where
      kept : List Row
      kept = filter (λ r. p (key_of r)) rs

      go : under key_of k (filter (λ r. p (key_of r)) rs) ≡
          (if p k then under key_of k rs else None)
          → (b : Bool) → p (key_of r) ≡ b → (c : Bool) → bytes_eq (key_of r) k ≡ c
          → (d : Bool) → p k ≡ d
          → under key_of k
          (if b then r ∷ filter (λ r. p (key_of r)) rs else filter (λ r. p (key_of r)) rs)
          ≡ (if d then (if c then Some r else under key_of k rs) else None)
      go ih true e true f true h =
          ap (λ b. if b then Some r else under key_of k (filter (λ r. p (key_of r)) rs)) f
      go ih true e true f false h =
          absurd (let x : true ≡ false = sym e ∙ (ap p (bytes_same (key_of r) k f) ∙ h) in cc)
      go ih false e true f true h =
          absurd (let x : false ≡ true = sym e ∙ (ap p (bytes_same (key_of r) k f) ∙ h) in cc)
      go ih false e true f false h = ih ∙ ap (λ b. if b then under key_of k rs else None) h
      go ih true e false f d h =
          ap (λ b. if b then Some r else under key_of k (filter (λ r. p (key_of r)) rs)) f
          ∙ (ih ∙ ap (λ b. if b then under key_of k rs else None) h)
      go ih false e false f d h = ih ∙ ap (λ b. if b then under key_of k rs else None) h

  has_inside : (range : KeyRange) (k : Key) (keys : List Key)
      → AllByRecursion (InRange range.low range.high) keys → has k keys ≡ true
      → in_range k range ≡ true
  has_inside range k [] a h = absurd (let x : false ≡ true = h in cc)
  has_inside range k (x ∷ keys) a h = go (has_inside range k keys a.1) (bytes_eq x k) refl h
    where
      go : (has k keys ≡ true → in_range k range ≡ true) → (b : Bool) → bytes_eq x k ≡ b
          → (b || has k keys) ≡ true → in_range k range ≡ true
      go ih true e f =
          sym (ap (λ j. in_range j range) (bytes_same x k e)) ∙ is_in range x a.0
      go ih false e f = ih f

  -- the rows of a range are those of the table in it
  pub rows_in : (range : KeyRange) (row : Key → Option Row) (rs found : List Row)
      → AreRows key_of row rs → AreRowsOf row range.low range.high found
      → found ≡ filter (λ r. in_range (key_of r) range) rs
  rows_in range row rs found l a =
      a.rows_are
      ∙ same_lists key_of (rows_by row a.keys) (filter (λ r. in_range (key_of r) range) rs)
      (by_ascends row keyed a.keys up)
      (filter_ascends (λ k. in_range k range) rs l.0)
      (λ k. by_under row keyed k a.keys up
      ∙ (go k (in_range k range) refl (has k a.keys) refl
      ∙ sym (filter_under (λ k. in_range k range) k rs)))
    where
      up : Rising a.keys
      up = rising a.keys a.ascend

      keyed : (k : Key) (r : Row) → row k ≡ Some r → key_of r ≡ k
      keyed k r e = under_key k rs r (l.1 k ∙ e)

      go : (k : Key) (b : Bool) → in_range k range ≡ b → (c : Bool) → has k a.keys ≡ c
          → (if has k a.keys then row k else None)
          ≡ (if in_range k range then under key_of k rs else None)
      go k true e true f =
          ap (λ c. if c then row k else None) f
          ∙ (sym (l.1 k) ∙ sym (ap (λ c. if c then under key_of k rs else None) e))
      go k true e false f =
          ap (λ c. if c then row k else None) f
          ∙ (sym (a.absent k (in_is range k e) (none_there k a.keys f))
          ∙ (sym (l.1 k) ∙ sym (ap (λ c. if c then under key_of k rs else None) e)))
      go k false e true f =
          absurd (let x : false ≡ true = sym e ∙ has_inside range k a.keys a.inside f in cc)
      go k false e false f =
          ap (λ c. if c then row k else None) f
          ∙ sym (ap (λ c. if c then under key_of k rs else None) e)
