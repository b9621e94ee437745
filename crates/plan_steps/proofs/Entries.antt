-- For the proofs: what open transactions changed stands in trees that there are.
use Rattle.std.proofs.Common.{◌≡◌, ◌≢◌, ℕ, zero, suc, Bool, true, false, nat_eq, List, [], ◌∷◌, Option, Some, None, ◌⊎◌, inl, inr, refl, sym, ap, subst, ◌∙◌, arith, eqb-true}
use Rattle.std.specs.Prelude.{◌&&◌, if◌then◌else◌, bytes_eq}
use Rattle.std.specs.List.{AllByRecursion}
use Rattle.std.proofs.lemmas.Bool.{and_parts, cases_eq, ne_eqb}
use Rattle.version_store.specs.Contents.{newest_root, root_of}
use Rattle.version_store.specs.Groups.{Group, Makes, begins, writes, creates, undoes, commits, frees, splits}
use Rattle.version_store.specs.Held.{Held, all_of, count, newest_of}
use Rattle.version_store.specs.Rooted.{IsInOrder, IsOpenBy, Rooted}
use Rattle.version_store.specs.Stores.{Store, UndoEntry, begun, catalog, changed, created, freed, naming, put, stamped, undone, written}
use Rattle.version_store.specs.Versions.{Row, Version}
use Rattle.version_store.specs.Versions as versions
use Rattle.version_store.proofs.Places.{count_here, put_row_apart}
use Rattle.held_versions.specs.Trees.{IsRoot}
use Rattle.held_versions.proofs.Parts.{put_elsewhere, put_there}
use Rattle.bplus_tree.proofs.Order.{all_map}
use Rattle.plan_steps.specs.Entries.{EntriesRooted, EntriesStayRooted, NoneStayBehind}

abbrev Rootable : Store → List UndoEntry → Type 0
Rootable S us = AllByRecursion (λ (u : UndoEntry). IsRoot S u.root) us

-- ---- roots that stay

root_stays : (S T : Store) → ((a : List ℕ) (r : ℕ) → root_of S a ≡ Some r → root_of T a ≡ Some r)
    → (r : ℕ) → IsRoot S r → IsRoot T r
root_stays S T stays r (inl e) = inl e
root_stays S T stays r (inr (a, e)) = inr (a, stays a r e)

all_stay : (S T : Store) → ((a : List ℕ) (r : ℕ) → root_of S a ≡ Some r → root_of T a ≡ Some r)
    → (us : List UndoEntry) → Rootable S us → Rootable T us
all_stay S T stays us all =
    all_map (λ (u : UndoEntry). IsRoot S u.root) (λ (u : UndoEntry). IsRoot T u.root) us
    (λ u is. root_stays S T stays u.root is) all

-- the slots and the lists of all sessions but one are as they were
lists_stay : (S T : Store) (s : ℕ) (us : List UndoEntry) → T.undo ≡ put S.undo s us
    → ((v t : ℕ) → v ≢ s → T.slot v ≡ Some t → S.slot v ≡ Some t)
    → ((v t : ℕ) → v ≢ s → S.slot v ≡ Some t → Rootable T (S.undo v))
    → ((t : ℕ) → T.slot s ≡ Some t → Rootable T us) → EntriesRooted T
lists_stay S T s us undo slots others own v t e = by_session (cases_eq v s)
  where
    by_session : (v ≡ s) ⊎ (v ≢ s) → Rootable T (T.undo v)
    by_session (inl same) =
        subst (Rootable T)
        (sym (ap T.undo same ∙ (ap (λ (f : ℕ → List UndoEntry). f s) undo ∙ put_there S.undo s us)))
        (own t (ap T.slot (sym same) ∙ e))
    by_session (inr ne) =
        subst (Rootable T)
        (sym (ap (λ (f : ℕ → List UndoEntry). f v) undo ∙ put_elsewhere S.undo s us v ne))
        (others v t ne (slots v t ne e))

-- ---- an undo list of which the newest entry goes

-- entries beside a root that goes
beside_root : (S T : Store) (gone : ℕ)
    → ((r : ℕ) → r ≢ gone → IsRoot S r → IsRoot T r) → (us : List UndoEntry) → Rootable S us
    → ((k : List ℕ) → count gone k us ≡ 0) → Rootable T us
beside_root S T gone stays [] all none = tt
beside_root S T gone stays (u ∷ us) all none =
    (stays u.root apart all.0, beside_root S T gone stays us all.1 (λ k. rest k (none k)))
  where
    apart : u.root ≢ gone
    apart e =
        let counted : count gone u.key (u ∷ us) ≡ suc (count gone u.key us) =
        subst (λ (r : ℕ). count r u.key (u ∷ us) ≡ suc (count r u.key us)) e
        (count_here u.root u.key us) in
        let zero_is = none u.key in omega (arith, counted, zero_is)

    rest : (k : List ℕ) → count gone k (u ∷ us) ≡ 0 → count gone k us ≡ 0
    rest k zero_is =
        let f : nat_eq u.root gone ≡ false = ne_eqb u.root gone apart in
        ap (λ (b : Bool). if b && bytes_eq u.key k then suc (count gone k us) else count gone k us)
        (sym f) ∙ zero_is

-- a place whose versions are all of one transaction has no entry of another
all_none : (t v n : ℕ) (ws : List Version) → all_of t ws ≡ true → newest_of v n ws ≡ true → t ≢ v
    → n ≡ 0
all_none t v zero ws a b ne = refl
all_none t v (suc n) [] a b ne = absurd (let f : false ≡ true = b in cc)
all_none t v (suc n) (x ∷ xs) a b ne =
    let p = and_parts (nat_eq x.trx t) (all_of t xs) a in
    let q = and_parts (nat_eq x.trx v) (newest_of v n xs) b in
    absurd (ne (sym (eqb-true x.trx t p.0) ∙ eqb-true x.trx v q.0))

-- the newest version is of the transaction that has an entry of its place
newest_open : (stamp : ℕ → ℕ) (t n : ℕ) (ws : List Version) → stamp t ≡ 0
    → newest_of t (suc n) ws ≡ true → IsOpenBy stamp t ws
newest_open stamp t n [] none b = absurd (let f : false ≡ true = b in cc)
newest_open stamp t n (x ∷ xs) none b =
    (eqb-true x.trx t (and_parts (nat_eq x.trx t) (newest_of t n xs) b).0, none)

older_names : (S T : Store) (s r : ℕ) (k : List ℕ) (us : List UndoEntry) → T ≡ undone S s r k us
    → r ≢ catalog → (a : List ℕ) (q : ℕ) → root_of S a ≡ Some q → root_of T a ≡ Some q
older_names S T s r k us is ne a q e =
    ap (λ (x : Store). root_of x a) is
    ∙ (ap newest_root (put_row_apart S.rows r k (versions.older (S.rows r k)) catalog a
    (λ f _. ne (sym f))) ∙ e)

module _ (S : Store) (held : Held S) (rooted : Rooted S) (entries : EntriesRooted S) (s t : ℕ)
    (u : UndoEntry) (us : List UndoEntry) (slot : S.slot s ≡ Some t) (list : S.undo s ≡ u ∷ us) where
  abbrev T : Store
  T = undone S s u.root u.key us

  rest : Rootable S us
  rest = (subst (Rootable S) list (entries s t slot)).1

  -- a change of a table's row
  row_gone : u.root ≢ catalog → EntriesRooted T
  row_gone ne =
      lists_stay S T s us refl (λ v w _ e. e)
      (λ v w _ e. all_stay S T (older_names S T s u.root u.key us refl ne) (S.undo v) (entries v w e))
      (λ w e. all_stay S T (older_names S T s u.root u.key us refl ne) us rest)

  -- a table's name: other names keep their roots
  name_gone : u.root ≡ catalog → EntriesRooted T
  name_gone at = by_root (root_of S u.key) refl
    where
      counted : (n : ℕ) × (count catalog u.key (S.undo s) ≡ suc n)
      counted = (
        count catalog u.key us,
        ap (count catalog u.key) list
            ∙ subst (λ (r : ℕ). count r u.key (u ∷ us) ≡ suc (count r u.key us)) at
            (count_here u.root u.key us),
      )

      open_name : IsOpenBy S.stamp t (S.rows catalog u.key)
      open_name =
          newest_open S.stamp t counted.0 (S.rows catalog u.key) (held.open_stamp s t slot)
          (subst (λ (n : ℕ). newest_of t n (S.rows catalog u.key) ≡ true) counted.1
          (held.undoes s t catalog u.key slot))

      others_stay : (a : List ℕ) (r : ℕ) → (a ≡ u.key → ⊥) → root_of S a ≡ Some r
          → root_of T a ≡ Some r
      others_stay a r ne e =
          ap newest_root (put_row_apart S.rows u.root u.key
          (versions.older (S.rows u.root u.key)) catalog a (λ _ f. ne f)) ∙ e

      by_root : (o : Option ℕ) → root_of S u.key ≡ o → EntriesRooted T
      by_root None e =
          lists_stay S T s us refl (λ v w _ f. f)
          (λ v w _ f. all_stay S T stays (S.undo v) (entries v w f))
          (λ w f. all_stay S T stays us rest)
        where
          stays : (a : List ℕ) (r : ℕ) → root_of S a ≡ Some r → root_of T a ≡ Some r
          stays a r f =
              others_stay a r
              (λ same. (let g : None ≡ Some r = sym e ∙ (ap (root_of S) (sym same) ∙ f) in absurd cc)) f
      by_root (Some gone) e =
          lists_stay S T s us refl (λ v w _ f. f)
          (λ v w ne f. beside_root S T gone stays (S.undo v) (entries v w f)
          (λ k.
          all_none t w (count gone k (S.undo v)) (S.rows gone k)
          (rooted.closed u.key k gone t e open_name) (held.undoes v w gone k f)
          (λ same. ne (held.unique v s w f (slot ∙ ap (λ (x : ℕ). Some x) same)))))
          (λ w f. beside_root S T gone stays us rest in_order)
        where
          stays : (r : ℕ) → r ≢ gone → IsRoot S r → IsRoot T r
          stays r ne (inl f) = inl f
          stays r ne (inr (a, f)) =
              inr (
                a,
                others_stay a r
                    (λ same.
                    (let g : Some gone ≡ Some r = sym e ∙ (ap (root_of S) (sym same) ∙ f) in
                    let h : gone ≡ r = cc in ne (sym h))) f,
              )

          in_order : (k : List ℕ) → count gone k us ≡ 0
          in_order k =
              (subst (IsInOrder (root_of S)) list (rooted.order s t slot)).0 at gone e k

  pub entry_gone : EntriesRooted T
  entry_gone = by_root (cases_eq u.root catalog)
    where
      by_root : (u.root ≡ catalog) ⊎ (u.root ≢ catalog) → EntriesRooted T
      by_root (inl e) = name_gone e
      by_root (inr ne) = row_gone ne

-- ---- each group

written_names : (S : Store) (s t r : ℕ) (k : List ℕ) (row : Option Row) → r ≢ catalog
    → (a : List ℕ) (q : ℕ) → root_of S a ≡ Some q → root_of (changed S s t r k row) a ≡ Some q
written_names S s t r k row ne a q e =
    ap newest_root (put_row_apart S.rows r k (written t row ∷ S.rows r k) catalog a
    (λ f _. ne (sym f))) ∙ e

created_names : (S : Store) (s t : ℕ) (name : List ℕ) (row : Row) → S.rows catalog name ≡ []
    → (a : List ℕ) (q : ℕ) → root_of S a ≡ Some q
    → root_of (created S s t name (Some row)) a ≡ Some q
created_names S s t name row none a q e =
    ap newest_root (put_row_apart S.rows catalog name
    (naming S t (Some row) ∷ S.rows catalog name) catalog a (λ _ f. apart f)) ∙ e
  where
    apart : a ≡ name → ⊥
    apart same =
        let f : None ≡ Some q =
        ap newest_root (sym (ap (S.rows catalog) same ∙ none)) ∙ e in cc

given_up : (S : Store) (s v t : ℕ) → v ≢ s → put S.slot s None v ≡ Some t → S.slot v ≡ Some t
given_up S s v t ne e = sym (put_elsewhere S.slot s None v ne) ∙ e

none_held : (S : Store) (s t : ℕ) → put S.slot s None s ≡ Some t → ⊥
none_held S s t e = let f : None ≡ Some t = sym (put_there S.slot s None) ∙ e in cc

same_list : (S : Store) (s : ℕ) → S.undo ≡ put S.undo s (S.undo s)
same_list S s = λ i v. by_case v (cases_eq v s) i
  where
    by_case : (v : ℕ) → (v ≡ s) ⊎ (v ≢ s) → S.undo v ≡ put S.undo s (S.undo s) v
    by_case v (inl e) =
        ap S.undo e ∙ (sym (put_there S.undo s (S.undo s)) ∙ ap (put S.undo s (S.undo s)) (sym e))
    by_case v (inr ne) = sym (put_elsewhere S.undo s (S.undo s) v ne)

keep : (g : Group) (old new : Store) → Makes g old new → Held old → Rooted old
    → EntriesRooted old → EntriesRooted new
keep (begins s) old new (free, is) held rooted all =
    subst EntriesRooted (sym is)
    (lists_stay old (begun old s) s [] refl
    (λ v t ne e. sym (put_elsewhere old.slot s (Some old.next) v ne) ∙ e) (λ v t ne e. all v t e)
    (λ t e. tt))
keep (writes s a k row) old new (t, r, w, plain, is) held rooted all =
    subst EntriesRooted (sym is)
    (lists_stay old (changed old s t r k row) s (record { root = r; key = k } ∷ old.undo s) refl
    (λ v u ne e. e)
    (λ v u ne e. all_stay old (changed old s t r k row) stays (old.undo v) (all v u e))
    (λ u e. (
      root_stays old (changed old s t r k row) stays r (inr (a, w.root)),
      all_stay old (changed old s t r k row) stays (old.undo s) (all s t w.slot),
    )))
  where
    stays : (b : List ℕ) (q : ℕ) → root_of old b ≡ Some q
        → root_of (changed old s t r k row) b ≡ Some q
    stays =
        written_names old s t r k row
        (λ e. (let m = rooted.made a r w.root in omega (arith, e, m.0)))
keep (creates s a row) old new (t, slot, none, is) held rooted all =
    subst EntriesRooted (sym is)
    (lists_stay old (created old s t a (Some row)) s (record { root = catalog; key = a } ∷ old.undo s)
    refl (λ v u ne e. e)
    (λ v u ne e. all_stay old (created old s t a (Some row)) stays (old.undo v) (all v u e))
    (λ u e. (inl refl, all_stay old (created old s t a (Some row)) stays (old.undo s) (all s t slot))))
  where
    stays : (b : List ℕ) (q : ℕ) → root_of old b ≡ Some q
        → root_of (created old s t a (Some row)) b ≡ Some q
    stays = created_names old s t a row none
keep (undoes s) old new (t, u, us, slot, list, is) held rooted all =
    subst EntriesRooted (sym is) (entry_gone old held rooted all s t u us slot list)
keep (commits s) old new (t, slot, is) held rooted all =
    subst EntriesRooted (sym is)
    (lists_stay old (stamped old s t) s (old.undo s) (same_list old s) (given_up old s)
    (λ v u ne e. all v u e) (λ u e. absurd (none_held old s u e)))
keep (frees s) old new (t, slot, none, is) held rooted all =
    subst EntriesRooted (sym is)
    (lists_stay old (freed old s) s (old.undo s) (same_list old s) (given_up old s)
    (λ v u ne e. all v u e) (λ u e. absurd (none_held old s u e)))
keep (splits pages) old new (more, is) held rooted all = subst EntriesRooted (sym is) all

pub entries_stay_rooted : EntriesStayRooted
entries_stay_rooted = record {
  first = λ s t e. absurd (let f : None ≡ Some t = e in cc);
  keep = keep;
}

pub none_stay_behind : NoneStayBehind
none_stay_behind items S T root now below more none r past =
    put_elsewhere items root now r (λ e. omega (arith, e, below, more, past))
    ∙ none r (omega (arith, past, more))
