-- The groups keep slots, stamps and undo lists.
use Rattle.std.proofs.Common.{◌≡◌, ℕ, suc, ◌≢◌, Bool, true, false, Some, None, List, [], ◌∷◌, if◌then◌else◌, nat_eq, arith, refl, sym, subst, ap, ◌∙◌}
use Rattle.version_store.specs.Versions.{Version, older}
use Rattle.version_store.specs.Stores.{UndoEntry, Store, put, put_row, begun, pushed, undone, stamped, freed, split}
use Rattle.version_store.specs.Held.{none_of, newest_of, IsLedBy, IsOwned, count, Held}
use Rattle.version_store.proofs.Versions.{newest_of_beside, newest_of_led, newest_of_other, newest_of_pop, none_of_pop, owned_freed, owned_pop, owned_slot, owned_stamped}
use Rattle.version_store.proofs.Places.{count_here, count_there, put_all, put_row_all}

-- ---- slots, stamps and undo lists

pub held_begun : (S : Store) (s : ℕ) → Held S → S.slot s ≡ None → Held (begun S s)
held_begun S s g h = record {
  bound = g.bound;
  fresh = λ t l. g.fresh t (omega arith);
  unused = λ t r k l. g.unused t r k (omega arith);
  open_stamp = λ u t e. let a = g.open_stamp u t in let b = g.fresh S.next (omega arith) in grind arith;
  open_below = λ u t e. let a = g.open_below u t in grind arith;
  unique = λ u v t e f. let a = g.unique u v t in let b = g.open_below u t in let c = g.open_below v t in
      grind arith;
  owned = λ r k. owned_slot (S.rows r k) S.slot (put S.slot s (Some S.next)) S.stamp (λ u t e. grind arith)
      (g.owned r k);
  undoes = λ u t r k e. by_test u t r k (nat_eq u s) refl e;
}
  where
    by_test : (u t r : ℕ) (k : List ℕ) (b : Bool) → nat_eq u s ≡ b → (if b then Some S.next else S.slot u) ≡ Some t
        → newest_of t (count r k (if b then [] else S.undo u)) (S.rows r k) ≡ true
    by_test u t r k true q e = let z = g.unused S.next r k (omega arith) in let tn : t ≡ S.next = grind arith in
        rw tn z
    by_test u t r k false q e = g.undoes u t r k e

pub held_pushed : (S : Store) (s t r : ℕ) (k : List ℕ) (x : Version) (pages : ℕ) → Held S → S.slot s ≡ Some t
    → x.trx ≡ t
    → ((u v : ℕ) → u ≢ s → S.slot u ≡ Some v → none_of v (S.rows r k) ≡ true) → Held (pushed S s r k x pages)
held_pushed S s t r k x pages g h xt free = let z = g.open_stamp s t h in let b = g.open_below s t h in record {
  bound = g.bound;
  fresh = g.fresh;
  unused = λ u q j l. put_row_all (λ q j vs. none_of u vs ≡ true) S.rows r k (x ∷ S.rows r k)
      (let gu = g.unused u r k l in grind arith) (λ q j ne. g.unused u q j l) q j;
  open_stamp = g.open_stamp;
  open_below = g.open_below;
  unique = g.unique;
  owned = λ q j. put_row_all (λ q j vs. IsOwned S.slot S.stamp vs) S.rows r k (x ∷ S.rows r k)
      ((λ e. (s, h ∙ ap (λ n. Some n) (sym xt))), g.owned r k) (λ q j ne. g.owned q j) q j;
  undoes = λ u v q j e. put_all
      (λ w us. (v : ℕ) → S.slot w ≡ Some v → (q : ℕ) (j : List ℕ)
      → newest_of v (count q j us) (put_row S.rows r k (x ∷ S.rows r k) q j) ≡ true) S.undo s
      (record { root = r; key = k } ∷ S.undo s)
      (λ v e q j. let vt : v ≡ t = grind arith in
      subst (λ n. newest_of n (count q j (record { root = r; key = k } ∷ S.undo s))
      (put_row S.rows r k (x ∷ S.rows r k) q j) ≡ true) (sym vt) (own q j))
      (λ w ne v e q j. put_row_all (λ q j vs. newest_of v (count q j (S.undo w)) vs ≡ true) S.rows r k
      (x ∷ S.rows r k)
      (newest_of_beside (S.rows r k) x t v (count r k (S.undo w)) xt
      (λ i. ne (g.unique w s v e (h ∙ ap (λ n. Some n) i))) (free w v ne e) (g.undoes w v r k e))
      (λ q j nj. g.undoes w v q j e) q j)
      u v e q j;
}
  where
    own : (q : ℕ) (j : List ℕ)
        → newest_of t (count q j (record { root = r; key = k } ∷ S.undo s))
        (put_row S.rows r k (x ∷ S.rows r k) q j) ≡ true
    own q j = put_row_all
        (λ q j vs. newest_of t (count q j (record { root = r; key = k } ∷ S.undo s)) vs ≡ true) S.rows r k
        (x ∷ S.rows r k)
        (subst (λ n. newest_of t n (x ∷ S.rows r k) ≡ true) (sym (count_here r k (S.undo s)))
        (let m = g.undoes s t r k h in grind arith))
        (λ q j ne. subst (λ n. newest_of t n (S.rows q j) ≡ true) (sym (count_there r k q j (S.undo s) ne))
        (g.undoes s t q j h)) q j

-- the newest version at the head of the undo list is the transaction's
pub undo_mine : (S : Store) (s t : ℕ) (u : UndoEntry) (us : List UndoEntry) → Held S → S.slot s ≡ Some t
    → S.undo s ≡ u ∷ us → newest_of t (suc (count u.root u.key us)) (S.rows u.root u.key) ≡ true
undo_mine S s t u us g h e =
    subst (λ n. newest_of t n (S.rows u.root u.key) ≡ true) (ap (count u.root u.key) e ∙ count_here u.root u.key us)
    (g.undoes s t u.root u.key h)

pub undo_led : (S : Store) (s t : ℕ) (u : UndoEntry) (us : List UndoEntry) → Held S → S.slot s ≡ Some t
    → S.undo s ≡ u ∷ us → IsLedBy t (S.rows u.root u.key)
undo_led S s t u us g h e =
    newest_of_led (S.rows u.root u.key) t (count u.root u.key us) (undo_mine S s t u us g h e)

pub undo_apart : (S : Store) (s t : ℕ) (u : UndoEntry) (us : List UndoEntry) (q : ℕ) (j : List ℕ) → Held S
    → S.slot s ≡ Some t → S.undo s ≡ u ∷ us → (q ≡ u.root → j ≡ u.key → ⊥)
    → newest_of t (count q j us) (S.rows q j) ≡ true
undo_apart S s t u us q j g h e ne =
    subst (λ n. newest_of t n (S.rows q j) ≡ true) (ap (count q j) e ∙ count_there u.root u.key q j us ne)
    (g.undoes s t q j h)

pub held_undone : (S : Store) (s t : ℕ) (u : UndoEntry) (us : List UndoEntry) → Held S → S.slot s ≡ Some t
    → S.undo s ≡ u ∷ us → Held (undone S s u.root u.key us)
held_undone S s t u us g h un = let z = g.open_stamp s t h in record {
  bound = g.bound;
  fresh = g.fresh;
  unused = λ v q j l. put_row_all (λ q j vs. none_of v vs ≡ true) S.rows u.root u.key (older (S.rows u.root u.key))
      (none_of_pop (S.rows u.root u.key) v (g.unused v u.root u.key l)) (λ q j ne. g.unused v q j l) q j;
  open_stamp = g.open_stamp;
  open_below = g.open_below;
  unique = g.unique;
  owned = λ q j. put_row_all (λ q j vs. IsOwned S.slot S.stamp vs) S.rows u.root u.key (older (S.rows u.root u.key))
      (owned_pop (S.rows u.root u.key) S.slot S.stamp (g.owned u.root u.key)) (λ q j ne. g.owned q j) q j;
  undoes = λ w v q j e. put_all
      (λ w xs. (v : ℕ) → S.slot w ≡ Some v → (q : ℕ) (j : List ℕ)
      → newest_of v (count q j xs)
      (put_row S.rows u.root u.key (older (S.rows u.root u.key)) q j) ≡ true) S.undo s us
      (λ v e q j. let vt : v ≡ t = grind arith in
      subst (λ n. newest_of n (count q j us)
      (put_row S.rows u.root u.key (older (S.rows u.root u.key)) q j) ≡ true) (sym vt) (own q j))
      (λ w ne v e q j. put_row_all (λ q j vs. newest_of v (count q j (S.undo w)) vs ≡ true) S.rows u.root u.key
      (older (S.rows u.root u.key))
      (newest_of_other (S.rows u.root u.key) t v (count u.root u.key (S.undo w))
      (λ i. ne (g.unique w s v e (h ∙ ap (λ n. Some n) i))) (undo_led S s t u us g h un)
      (g.undoes w v u.root u.key e))
      (λ q j nj. g.undoes w v q j e) q j)
      w v e q j;
}
  where
    own : (q : ℕ) (j : List ℕ)
        → newest_of t (count q j us) (put_row S.rows u.root u.key (older (S.rows u.root u.key)) q j) ≡ true
    own q j = put_row_all (λ q j vs. newest_of t (count q j us) vs ≡ true) S.rows u.root u.key
        (older (S.rows u.root u.key))
        (newest_of_pop (S.rows u.root u.key) t (count u.root u.key us) (undo_mine S s t u us g h un))
        (λ q j ne. undo_apart S s t u us q j g h un ne) q j

pub held_stamped : (S : Store) (s t : ℕ) → Held S → S.slot s ≡ Some t → Held (stamped S s t)
held_stamped S s t g h = let z = g.open_stamp s t h in record {
  bound = λ u. let b = g.bound u in grind arith;
  fresh = λ u l. let b = g.open_below s t h in let f = g.fresh u l in grind arith;
  unused = g.unused;
  open_stamp = λ u v e. let q : S.slot u ≡ Some v = grind arith in let zz = g.open_stamp u v q in
      let un = g.unique s u t h in grind arith;
  open_below = λ u v e. g.open_below u v (grind arith);
  unique = λ u v w e f. g.unique u v w (grind arith) (grind arith);
  owned = λ r k. owned_stamped (S.rows r k) S.slot S.stamp s t S.last h (g.owned r k);
  undoes = λ u v r k e. g.undoes u v r k (grind arith);
}

pub held_freed : (S : Store) (s t : ℕ) → Held S → S.slot s ≡ Some t → S.undo s ≡ [] → Held (freed S s)
held_freed S s t g h un = let a : (r : ℕ) (k : List ℕ)
    → none_of t (S.rows r k) ≡ true =
    λ r k. subst (λ us. newest_of t (count r k us) (S.rows r k) ≡ true) un (g.undoes s t r k h) in record {
      bound = g.bound;
      fresh = g.fresh;
      unused = g.unused;
      open_stamp = λ u v e. g.open_stamp u v (grind arith);
      open_below = λ u v e. g.open_below u v (grind arith);
      unique = λ u v w e f. g.unique u v w (grind arith) (grind arith);
      owned = λ r k. owned_freed (S.rows r k) S.slot S.stamp s t h (a r k) (g.owned r k);
      undoes = λ u v r k e. g.undoes u v r k (grind arith);
    }

pub held_split : (S : Store) (pages : ℕ) → Held S → Held (split S pages)
held_split S pages g =
    record {
      bound = g.bound;
      fresh = g.fresh;
      unused = g.unused;
      open_stamp = g.open_stamp;
      open_below = g.open_below;
      unique = g.unique;
      owned = g.owned;
      undoes = g.undoes;
    }
