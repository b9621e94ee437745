-- What a writer's own transaction sees stays while other sessions' groups are written.
use Rattle.std.proofs.Common.{◌≡◌, ◌≢◌, ◌≤◌, ◌<◌, ℕ, suc, Bool, true, false, nat_eq, List, [], ◌∷◌, if◌then◌else◌, ◌&&◌, ◌||◌, Option, Some, None, refl, sym, ap, subst, ◌∙◌, arith, eqb-true, ◌⊎◌, inl, inr}
use Rattle.std.specs.Str.{bytes_eq}
use Rattle.std.proofs.lemmas.Bool.{ne_eqb}
use Rattle.version_store.specs.Contents.{Content, catalog_name, chain_of}
use Rattle.version_store.specs.Groups.{Group, IsPopped, Makes, begins, commits, creates, frees, splits, undoes, writes}
use Rattle.version_store.specs.Held.{Held, IsLedBy}
use Rattle.version_store.specs.Rooted.{IsLone, Rooted}
use Rattle.version_store.specs.Stores.{Store, UndoEntry, begun, catalog, changed, created, freed, naming, put, split, stamped, undone, written}
use Rattle.version_store.specs.Versions.{Row, Version, older, seen, visible}
use Rattle.version_store.proofs.GroupLaws.{groups_keep, groups_move}
use Rattle.version_store.proofs.HeldLaws.{undo_led}
use Rattle.version_store.proofs.NameLaws.{changed_catalog}
use Rattle.version_store.proofs.Places.{either_name, put_all, put_row_all}
use Rattle.version_store.proofs.RootedLaws.{created_there}
use Rattle.snapshot_reads.specs.Pasts.{IsFixed, PastStep}
use Rattle.snapshot_reads.specs.Writing.{OthersLeavePast, session_of}

-- a stamp that is given past n to another transaction is not seen at n
other_stamped : (vs : List Version) (stamp : ℕ → ℕ) (n t u i : ℕ) → stamp u ≡ 0 → n < i
    → seen vs (put stamp u i) n (Some t) ≡ seen vs stamp n (Some t)
other_stamped [] stamp n t u i z l = refl
other_stamped (v ∷ vs) stamp n t u i z l =
    by_test (nat_eq t v.trx) (other_stamped vs stamp n t u i z l)
  where
    shown : visible (put stamp u i v.trx) n ≡ visible (stamp v.trx) n
    shown = put_all (λ m x. visible x n ≡ visible (stamp m) n) stamp u i
        (let a : visible i n ≡ false = grind (arith, l) in
        let b : visible (stamp u) n ≡ false = ap (λ x. visible x n) z in
        a ∙ sym b) (λ m ne. refl) v.trx

    by_test : (b : Bool) → seen vs (put stamp u i) n (Some t) ≡ seen vs stamp n (Some t)
        → (if b || visible (put stamp u i v.trx) n then v.row
        else seen vs (put stamp u i) n (Some t))
        ≡ (if b || visible (stamp v.trx) n then v.row else seen vs stamp n (Some t))
    by_test true ih = refl
    by_test false ih =
        ap (λ c. if c then v.row else seen vs (put stamp u i) n (Some t)) shown
        ∙ ap (λ r. if visible (stamp v.trx) n then v.row else r) ih

module _ (S : Store) (s t n : ℕ) (f : Content) (held : Held S) (rooted : Rooted S)
    (mine : S.slot s ≡ Some t) (low : n ≤ S.last)
    (read : (a k : List ℕ) → seen (chain_of S a k) S.stamp n (Some t) ≡ f a k)
  where
    -- the transaction of another session
    apart : (w u : ℕ) → w ≢ s → S.slot w ≡ Some u → u ≢ t
    apart w u ne slot e =
        ne (held.unique w s t (slot ∙ ap Some e) mine)

    -- its newest version is not seen
    unseen : (v : Version) (vs : List Version) → v.trx ≢ t → S.stamp v.trx ≡ 0
        → seen (v ∷ vs) S.stamp n (Some t) ≡ seen vs S.stamp n (Some t)
    unseen v vs ne z =
        ap (λ b. if b then v.row else seen vs S.stamp n (Some t))
        (ap (λ b. b || visible (S.stamp v.trx) n) (ne_eqb t v.trx (λ e. ne (sym e)))
        ∙ ap (λ x. visible x n) z)

    put_unseen : (b : Bool) (v : Version) (vs : List Version) → v.trx ≢ t → S.stamp v.trx ≡ 0
        → seen (if b then v ∷ vs else vs) S.stamp n (Some t) ≡ seen vs S.stamp n (Some t)
    put_unseen true v vs ne z = unseen v vs ne z
    put_unseen false v vs ne z = refl

    popped : (u : ℕ) (new old : List Version) → u ≢ t → S.stamp u ≡ 0 → IsPopped u new old
        → seen new S.stamp n (Some t) ≡ seen old S.stamp n (Some t)
    popped u new old ne z (inl e) = ap (λ vs. seen vs S.stamp n (Some t)) e
    popped u new old ne z (inr (e, led)) =
        ap (λ vs. seen vs S.stamp n (Some t)) e ∙ by_list old led
      where
        by_list : (vs : List Version) → IsLedBy u vs
            → seen (older vs) S.stamp n (Some t) ≡ seen vs S.stamp n (Some t)
        by_list [] l = absurd l
        by_list (v ∷ vs) l =
            sym (unseen v vs (λ q. ne (sym l ∙ q)) (ap S.stamp l ∙ z))

    -- a version that is kept is not of another open transaction
    not_led : (v : Version) (vs : List Version) (w u : ℕ) → w ≢ s → S.slot w ≡ Some u
        → IsFixed S (Some t) v → IsLedBy u vs → vs ≡ v ∷ [] → ⊥
    not_led v vs w u ne slot fixed led is = go fixed
      where
        trx : v.trx ≡ u
        trx = subst (λ xs. IsLedBy u xs) is led

        go : IsFixed S (Some t) v → ⊥
        go (inl h) = h (ap S.stamp trx ∙ held.open_stamp w u slot)
        go (inr o) = apart w u ne slot (sym trx ∙ sym (eqb-true t v.trx o))

    lone_of : (g : Group) (R : Store) → Makes g S R → (a : List ℕ) → IsLone (R.rows catalog a)
    lone_of g R m a = (groups_keep g S R m held rooted).1.lone a

    after_begin : (w : ℕ) → S.slot w ≡ None → PastStep S (begun S w) n (Some t) f
    after_begin w none = record {
      read = λ a k.
          ap (λ vs. seen vs S.stamp n (Some t))
          (groups_move (begins w) S (begun S w) (none, refl) held rooted a k) ∙ read a k;
      rises = omega arith;
      later = λ u. inl refl;
      lasts = λ a v only fixed. only;
      lone = lone_of (begins w) (begun S w) (none, refl);
    }

    after_write : (w : ℕ) (a k : List ℕ) (row : Option Row) (u r : ℕ) → w ≢ s
        → Makes (writes w a k row) S (changed S w u r k row) → S.slot w ≡ Some u
        → ((b : List ℕ) → (changed S w u r k row).rows catalog b ≡ S.rows catalog b)
        → PastStep S (changed S w u r k row) n (Some t) f
    after_write w a k row u r ne m slot same = record {
      read = λ b j.
          ap (λ vs. seen vs S.stamp n (Some t))
          (groups_move (writes w a k row) S (changed S w u r k row) m held rooted u slot b j)
          ∙ (put_unseen (bytes_eq b a && bytes_eq j k) (written u row) (chain_of S b j)
          (apart w u ne slot) (held.open_stamp w u slot) ∙ read b j);
      rises = omega arith;
      later = λ x. inl refl;
      lasts = λ b v only fixed. same b ∙ only;
      lone = lone_of (writes w a k row) (changed S w u r k row) m;
    }

    after_create : (w : ℕ) (a : List ℕ) (row : Row) (u : ℕ) → w ≢ s → S.slot w ≡ Some u
        → S.rows catalog a ≡ [] → PastStep S (created S w u a (Some row)) n (Some t) f
    after_create w a row u ne slot none = record {
      read = λ b j.
          ap (λ vs. seen vs S.stamp n (Some t))
          (groups_move (creates w a row) S (created S w u a (Some row)) (u, slot, none, refl) held
          rooted u slot b j)
          ∙ (put_unseen (bytes_eq b catalog_name && bytes_eq j a)
          (naming S u (Some row)) (chain_of S b j) (apart w u ne slot) (held.open_stamp w u slot)
          ∙ read b j);
      rises = omega arith;
      later = λ x. inl refl;
      lasts = λ b v only fixed. kept b v only (either_name b a);
      lone = lone_of (creates w a row) (created S w u a (Some row)) (u, slot, none, refl);
    }
      where
        kept : (b : List ℕ) (v : Version) → S.rows catalog b ≡ v ∷ []
            → (b ≡ a) ⊎ (b ≡ a → ⊥) → (created S w u a (Some row)).rows catalog b ≡ v ∷ []
        kept b v only (inl e) =
            absurd (let x : [] ≡ v ∷ [] = sym none ∙ (ap (S.rows catalog) (sym e) ∙ only) in cc)
        kept b v only (inr h) = created_there S w u a b (Some row) h ∙ only

    after_undo : (w u : ℕ) (x : UndoEntry) (us : List UndoEntry) → w ≢ s → S.slot w ≡ Some u
        → S.undo w ≡ x ∷ us → PastStep S (undone S w x.root x.key us) n (Some t) f
    after_undo w u x us ne slot list = record {
      read = λ a k.
          popped u (chain_of (undone S w x.root x.key us) a k) (chain_of S a k) (apart w u ne slot)
          (held.open_stamp w u slot)
          (groups_move (undoes w) S (undone S w x.root x.key us) (u, x, us, slot, list, refl) held
          rooted u slot a k) ∙ read a k;
      rises = omega arith;
      later = λ y. inl refl;
      lasts = λ b v only fixed.
          put_row_all (λ q j vs. q ≡ catalog → j ≡ b → vs ≡ v ∷ []) S.rows x.root x.key
          (older (S.rows x.root x.key))
          (λ e h. absurd (not_led v (S.rows x.root x.key) w u ne slot fixed
          (undo_led S w u x us held slot list)
          (ap (λ q. S.rows q x.key) e ∙ (ap (S.rows catalog) h ∙ only))))
          (λ q j no e h. ap (λ p. S.rows p j) e
          ∙ (ap (S.rows catalog) h ∙ only)) catalog b refl refl;
      lone = lone_of (undoes w) (undone S w x.root x.key us) (u, x, us, slot, list, refl);
    }

    after_commit : (w u : ℕ) → w ≢ s → S.slot w ≡ Some u → PastStep S (stamped S w u) n (Some t) f
    after_commit w u ne slot = record {
      read = λ a k.
          other_stamped (chain_of (stamped S w u) a k) S.stamp n t u (suc S.last)
          (held.open_stamp w u slot) (omega (arith, low))
          ∙ (ap (λ vs. seen vs S.stamp n (Some t))
          (groups_move (commits w) S (stamped S w u) (u, slot, refl) held rooted a k) ∙ read a k);
      rises = omega arith;
      later = put_all (λ m x. (x ≡ S.stamp m) ⊎ ((S.stamp m ≡ 0) × (S.last < x))) S.stamp u
          (suc S.last) (inr (held.open_stamp w u slot, omega arith)) (λ m no. inl refl);
      lasts = λ b v only fixed. only;
      lone = lone_of (commits w) (stamped S w u) (u, slot, refl);
    }

    after_free : (w u : ℕ) → S.slot w ≡ Some u → S.undo w ≡ []
        → PastStep S (freed S w) n (Some t) f
    after_free w u slot none = record {
      read = λ a k.
          ap (λ vs. seen vs S.stamp n (Some t))
          (groups_move (frees w) S (freed S w) (u, slot, none, refl) held rooted a k) ∙ read a k;
      rises = omega arith;
      later = λ x. inl refl;
      lasts = λ a v only fixed. only;
      lone = lone_of (frees w) (freed S w) (u, slot, none, refl);
    }

    after_split : (pages : ℕ) → S.pages ≤ pages → PastStep S (split S pages) n (Some t) f
    after_split pages le = record {
      read = λ a k.
          ap (λ vs. seen vs S.stamp n (Some t))
          (groups_move (splits pages) S (split S pages) (le, refl) held rooted a k) ∙ read a k;
      rises = omega arith;
      later = λ x. inl refl;
      lasts = λ a v only fixed. only;
      lone = lone_of (splits pages) (split S pages) (le, refl);
    }

    other : (w : ℕ) → Some w ≢ Some s → w ≢ s
    other w ne e = ne (ap Some e)

    stepped : (R T : Store) → R ≡ T → PastStep S T n (Some t) f → PastStep S R n (Some t) f
    stepped R T e p = subst (λ Q. PastStep S Q n (Some t) f) (sym e) p

    pub leaves : (g : Group) (R : Store) → Makes g S R → session_of g ≢ Some s
        → PastStep S R n (Some t) f
    leaves (begins w) R (none, is) ne = stepped R (begun S w) is (after_begin w none)
    leaves (writes w a k row) R (u, r, can, free, is) ne =
        stepped R (changed S w u r k row) is
        (after_write w a k row u r (other w ne) (u, r, can, free, refl) can.slot
        (λ b. changed_catalog S w u r a k row rooted can.root b))
    leaves (creates w a row) R (u, slot, none, is) ne =
        stepped R (created S w u a (Some row)) is (after_create w a row u (other w ne) slot none)
    leaves (undoes w) R (u, x, us, slot, list, is) ne =
        stepped R (undone S w x.root x.key us) is (after_undo w u x us (other w ne) slot list)
    leaves (commits w) R (u, slot, is) ne =
        stepped R (stamped S w u) is (after_commit w u (other w ne) slot)
    leaves (frees w) R (u, slot, none, is) ne = stepped R (freed S w) is (after_free w u slot none)
    leaves (splits pages) R (le, is) ne = stepped R (split S pages) is (after_split pages le)

pub others_leave : OthersLeavePast
others_leave S R g s t n f held rooted mine low m ne read =
    leaves S s t n f held rooted mine low read g R m ne
