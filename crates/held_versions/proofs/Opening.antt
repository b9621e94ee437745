-- For the proofs: the pages of the opening group hold the store with nothing in it.
use Rattle.std.proofs.Common.{◌≡◌, ◌≢◌, ◌≤◌, ◌+◌, ◌-◌, ◌*◌, ℕ, false, List, [], ◌∷◌, ◌++◌, drop, replicate, Some, None, inl, inr, refl, sym, ap, subst, ◌∙◌, arith}
use Rattle.rm_base.specs.declared.limits.TheConstants.{CATALOG_ROOT_PAGE_ID, FIRST_UNDO_PAGE_ID, META_PAGE_ID, SLOTS_PAGE_ID}
use Rattle.std.specs.Prelude.{if◌then◌else◌, nat_eq}
use Rattle.std.specs.List.{IsDistinct}
use Rattle.std.proofs.lemmas.Bool.{ne_eqb}
use Rattle.std.proofs.lemmas.List.{drop-replicate, replicate-append-replicate}
use Rattle.rm_base.proofs.FieldLaws.{number-field}
use Rattle.rm_base.specs.Fields.{field, number}
use Rattle.page_image.specs.Image.{Image, unmade, zeros}
use Rattle.redo_record.specs.Opening.{opening_records}
use Rattle.redo_record.proofs.Fold.{after_records-other, after_records-page}
use Rattle.bplus_tree.specs.Tree.{IsLeafPage, Tree}
use Rattle.page_image.specs.Meta.{counters_of}
use Rattle.commit_stamps.specs.Stamping.{stamp_in, stamp_page}
use Rattle.version_store.specs.Stores.{blank, catalog}
use Rattle.held_versions.specs.Counting.{HasCounters, HasSlots, HasStamps}
use Rattle.held_versions.specs.Holds.{Holds}
use Rattle.held_versions.specs.Keeping.{grown}
use Rattle.held_versions.specs.Laws.{no_items}
use Rattle.held_versions.specs.Trees.{HasTrees, IsRoot}
use Rattle.held_versions.proofs.Begins.{unstamped}

abbrev opened : ℕ → Image
opened = grown 1 opening_records unmade

-- every other page is unmade still
others : (q : ℕ) → q ≢ 0 → q ≢ 1 → q ≢ 1026 → q ≢ 1027 → opened q ≡ unmade q
others q a b c d =
    let meta : nat_eq META_PAGE_ID q ≡ false = ne_eqb 0 q (λ e. a (sym e)) in
    let slots : nat_eq SLOTS_PAGE_ID q ≡ false = ne_eqb 1 q (λ e. b (sym e)) in
    let root : nat_eq CATALOG_ROOT_PAGE_ID q ≡ false = ne_eqb 1026 q (λ e. c (sym e)) in
    let undo : nat_eq FIRST_UNDO_PAGE_ID q ≡ false = ne_eqb 1027 q (λ e. d (sym e)) in
    after_records-other 1 opening_records (unmade q) (simp (meta, slots, root, undo))

-- ---- counters

count_is : (counters_of (opened 0)).pages ≡ 1028
unfolding number field
count_is = refl

undo_is : (counters_of (opened 0)).undo_page ≡ 1027
unfolding number field
undo_is = refl

next_is : (counters_of (opened 0)).next ≡ 1
unfolding number field
next_is = refl

last_is : (counters_of (opened 0)).last ≡ 0
unfolding number field
last_is = refl

counters : HasCounters opened blank
counters = record {
  meta = record { kind = refl; number = refl };
  pages_are = sym count_is;
  next_is = sym next_is;
  last_is = sym last_is;
  numbered = λ q. after_records-page 1 opening_records (unmade q);
  low = omega arith;
  high = omega arith;
  free = λ q past.
      others q (λ e. omega arith) (λ e. omega arith) (λ e. omega arith) (λ e. omega arith);
  undo_made = ap (λ (q : ℕ). (opened q).kind) undo_is;
}

-- ---- stamps

stamps : HasStamps opened blank
stamps = record {
  first = omega arith;
  within = omega arith;
  stamps = λ t some most.
      sym (ap (λ (page : Image). stamp_in page t) (none t most) ∙ unstamped (stamp_page t) t);
  made = λ t some less. absurd (omega arith);
  free = λ t past most first. none t most;
}
  where
    none : (t : ℕ) → t ≤ 520192 → opened (stamp_page t) ≡ unmade (stamp_page t)
    none t most =
        others (stamp_page t) (λ e. omega arith) (λ e. omega arith) (λ e. omega arith)
        (λ e. omega arith)

-- ---- slots

field_of_zero : field 8 0 ≡ replicate 8 0
unfolding field
field_of_zero = refl

-- bytes that are zeros give the number 0
zeros_say : (n : ℕ) → 8 ≤ n → number 8 (replicate n 0) ≡ 0
zeros_say n long =
    let rest : ℕ = n - 8 in
    let parts : 8 + rest ≡ n = omega arith in
    ap (number 8)
    (ap (λ (k : ℕ). replicate k 0) (sym parts) ∙ sym (replicate-append-replicate 8 rest 0)
    ∙ ap (λ (bytes : List ℕ). bytes ++ replicate rest 0) (sym field_of_zero))
    ∙ number-field 8 0 (replicate rest 0) (omega arith)

pub zeros_from : (n k : ℕ) → k + 8 ≤ n → number 8 (drop k (zeros n)) ≡ 0
unfolding zeros
zeros_from n k within = ap (number 8) (drop-replicate k n 0) ∙ zeros_say (n - k) (omega arith)

slots : HasSlots opened blank
slots = record {
  page = record { kind = refl; number = refl };
  slots = λ s low.
      sym (ap (λ (t : ℕ). if nat_eq t 0 then None else Some t) (zeros_from 4064 (16 * s) (omega arith)));
  others = λ s past. refl;
}

-- ---- the catalog's tree

empty_root : IsLeafPage (opened catalog) catalog None None []
empty_root = record {
  kind = refl;
  number = refl;
  has = refl;
  each = tt;
  ascend = λ i j less within. absurd (omega arith);
  from = tt;
  below = tt;
}

alone : IsDistinct nat_eq (catalog ∷ [])
unfolding IsDistinct
alone = (tt, tt)

pub catalog_tree : Tree opened catalog []
catalog_tree = record {
  level = 0;
  nodes = catalog ∷ [];
  low_enough = omega arith;
  stands = (empty_root, refl);
  linked = refl;
  apart = alone;
}

-- no name has a root
only_catalog : (r : ℕ) → IsRoot blank r → r ≡ catalog
only_catalog r (inl is) = is
only_catalog r (inr named) = let none : None ≡ Some r = named.1 in absurd cc

trees : HasTrees no_items opened blank
trees = record {
  trees = λ r a. subst (λ (q : ℕ). Tree opened q []) (sym (only_catalog r a)) catalog_tree;
  apart = λ p q r a b c d. only_catalog q a ∙ sym (only_catalog r b);
}

pub opening_is_blank : Holds no_items (grown 1 opening_records unmade) blank
opening_is_blank = record {
  counters = counters;
  stamps = stamps;
  slots = slots;
  undo = λ s t low is. (let none : None ≡ Some t = is in absurd cc);
  trees = trees;
  tables = λ k. refl;
  rows = λ a k v row one is. (let none : [] ≡ v ∷ [] = one in absurd cc);
}
