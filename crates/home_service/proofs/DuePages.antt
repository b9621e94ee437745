-- The nodes at which a page may be due.
use Rattle.std.proofs.Common.{◌≡◌, ◌≤◌, ◌<◌, ◌+◌, inl, inr, ℕ, suc, Bool, true, false, cond, not, ◌&&◌, ◌||◌, nat_eq, nat_lt, eqb-true, List, [], ◌∷◌, ◌++◌, length, get_or, Option, Some, None, IfSome, IsNone, refl, sym, ap, subst, ◌∙◌, arith}
use Rattle.std.proofs.lemmas.Bool.{true≢false, ltb-true, ltb-false}
use Rattle.std.proofs.lemmas.List.{get_or_read}
use Rattle.home_model.specs.Numbered.{put, nobody}
use Rattle.home_model.specs.Entry.{Entry as HomeEntry, no_entry, registered, address_or, invalidated, struck}
use Rattle.page_latches.specs.Set.{has}
use Rattle.page_latches.specs.declared.latch.Mode.{Mode}
use Rattle.page_latches.specs.declared.latch.Mode.TheVariants.{S, X}
use Rattle.page_latches.specs.declared.latch.Latch.{Latch as Answer}
use Rattle.page_latches.specs.declared.latch.Latch.TheVariants.{Granted, Busy}
use Rattle.slab_node.specs.Slab.{SlabState}
use Rattle.home_tables.specs.Access.{taken_by}
use Rattle.home_tables.specs.Table.{address_number}
use Rattle.home_tables.specs.Home.{HomeState, entry_at, ChangesAt}
use Rattle.home_tables.specs.Order.{due_among}
use Rattle.home_tables.specs.Pairs.{IsFirst}
use Rattle.home_tables.specs.Trying.{Tries}
use Rattle.message_network.specs.declared.calls.Reply.{Reply}
use Rattle.message_network.specs.declared.calls.Reply.TheVariants.{Registered, PoolFull, Unregistered, Started, Done, Appended, Got, Fenced}
use Rattle.rmem_calls.specs.Registering.{RegisterAnswers}
use Rattle.rmem_calls.specs.Invalidating.{invalidated_all, is_among, due_pairs, InvalidateAnswers}
use Rattle.rmem_calls.proofs.EachPage.{others_stay, none_due}
use Rattle.home_service.specs.Joining.{is_done}
use Rattle.home_service.specs.Keeping.{Includes, Expects}
use Rattle.home_service.proofs.Invalidating.{place_of}

-- ---- sets of nodes

pub has_one_more : (ns : List ℕ) (m q : ℕ) → has (ns ++ m ∷ []) q ≡ (has ns q || nat_eq m q)
has_one_more [] m q = grind arith
has_one_more (k ∷ ns) m q = grind (arith, has_one_more ns m q)

turned : (m n : ℕ) → nat_eq m n ≡ nat_eq n m
turned m n = grind arith

or_true : (b : Bool) → (b || true) ≡ true
or_true true = refl
or_true false = refl

or_false : (b : Bool) → (b || false) ≡ b
or_false true = refl
or_false false = refl

-- the sets after one node more of the other
pub joined_more : (old : Bool) (done : List ℕ) (f : ℕ → Bool) (m n : ℕ) → f n ≡ (old || has done n) → put f m true n ≡ (old || has (done ++ m ∷ []) n)
joined_more old done f m n h =
    ap (λ (b : Bool). cond b true (f n)) (sym (turned m n)) ∙ ap (λ (x : Bool). cond (nat_eq m n) true x) h ∙ by (nat_eq m n) old (has done n)
    ∙ sym (ap (λ (x : Bool). old || x) (has_one_more done m n))
  where
    by : (b o d : Bool) → cond b true (o || d) ≡ (o || (d || b))
    by true o d = sym (ap (λ (x : Bool). o || x) (or_true d) ∙ or_true o)
    by false o d = ap (λ (x : Bool). o || x) (sym (or_false d))

pub taken_more : (old : Bool) (done : List ℕ) (f : ℕ → Bool) (m n : ℕ) → f n ≡ (old && not (has done n)) → put f m false n ≡ (old && not (has (done ++ m ∷ []) n))
taken_more old done f m n h =
    ap (λ (b : Bool). cond b false (f n)) (sym (turned m n)) ∙ ap (λ (x : Bool). cond (nat_eq m n) false x) h ∙ by (nat_eq m n) old (has done n)
    ∙ sym (ap (λ (x : Bool). old && not x) (has_one_more done m n))
  where
    by : (b o d : Bool) → cond b false (o && not d) ≡ (o && not (d || b))
    by true true true = refl
    by true true false = refl
    by true false d = refl
    by false o true = refl
    by false o false = refl

pub both_more : (done : List ℕ) (other f g : ℕ → Bool) (m n : ℕ) → g ≡ cond (other m) (put f m true) f → f n ≡ (has done n && other n) → g n ≡ (has (done ++ m ∷ []) n && other n)
both_more done other f g m n is h =
    ap (λ (k : ℕ → Bool). k n) is ∙ by (other m) refl (nat_eq n m) refl ∙ sym (ap (λ (x : Bool). x && other n) (has_one_more done m n ∙ ap (λ (x : Bool). has done n || x) (turned m n)))
  where
    last : (d o : Bool) → (d && o) ≡ ((d || false) && o)
    last true o = refl
    last false o = refl

    first : (d o : Bool) → o ≡ true → true ≡ ((d || true) && o)
    first true o e = sym e
    first false o e = sym e

    none : (d o : Bool) → o ≡ false → (d && o) ≡ ((d || true) && o)
    none true o e = refl
    none false o e = sym e

    by : (b : Bool) → other m ≡ b → (c : Bool) → nat_eq n m ≡ c → cond b (put f m true) f n ≡ ((has done n || c) && other n)
    by true t true same =
        ap (λ (x : Bool). cond x true (f n)) same ∙ first (has done n) (other n) (ap other (eqb-true n m same) ∙ t)
    by true t false apart = ap (λ (x : Bool). cond x true (f n)) apart ∙ h ∙ last (has done n) (other n)
    by false t true same = h ∙ none (has done n) (other n) (ap other (eqb-true n m same) ∙ t)
    by false t false apart = h ∙ last (has done n) (other n)

or_left : (a b : Bool) → a ≡ true → (a || b) ≡ true
or_left a b h = ap (λ (x : Bool). x || b) h

or_right : (a b : Bool) → b ≡ true → (a || b) ≡ true
or_right a b h = ap (λ (x : Bool). a || x) h ∙ or_true a

pub joined_old : (nodes new item old : List ℕ) → ((n : ℕ) → has new n ≡ (has nodes n || has item n)) → Includes nodes old → Includes new old
joined_old nodes new item old joined all n h = joined n ∙ or_left (has nodes n) (has item n) (all n h)

pub joined_each : (sets : List (List ℕ)) (nodes new item : List ℕ) (j : ℕ) → j < length sets → item ≡ get_or sets j item
    → ((n : ℕ) → has new n ≡ (has nodes n || has item n)) → ((i : ℕ) → i < j → Includes nodes (get_or sets i [])) → (i : ℕ) → i < j + 1 → Includes new (get_or sets i [])
joined_each sets nodes new item j inside is joined each i low n h = by (nat_lt i j) refl
  where
    by : (b : Bool) → nat_lt i j ≡ b → has new n ≡ true
    by true less = joined n ∙ or_left (has nodes n) (has item n) (each i (ltb-true i j less) n h)
    by false more =
        let most : j ≤ i = ltb-false i j more in
        let same : i ≡ j = omega arith in
        let read : item ≡ get_or sets j [] = get_or_read sets j item inside is [] in
        joined n
        ∙ or_right (has nodes n) (has item n)
        (ap (λ (xs : List ℕ). has xs n) read ∙ ap (λ (k : ℕ). has (get_or sets k []) n) (sym same) ∙ h)

-- ---- entries

put_over : (f g : ℕ → HomeEntry) (p : ℕ) (E : HomeEntry) → ((m : ℕ) → E.due m ≡ true → (g p).due m ≡ true)
    → ((q m : ℕ) → (f q).due m ≡ true → (g q).due m ≡ true) → (q m : ℕ) → (put f p E q).due m ≡ true → (g q).due m ≡ true
put_over f g p E here beside q m = by (nat_eq q p) refl
  where
    by : (b : Bool) → nat_eq q p ≡ b → (cond b E (f q)).due m ≡ true → (g q).due m ≡ true
    by true h is = subst (λ (k : ℕ). (g k).due m ≡ true) (sym (eqb-true q p h)) (here m is)
    by false h is = beside q m is

put_fewer : (f : ℕ → HomeEntry) (p : ℕ) (E : HomeEntry) → ((m : ℕ) → E.due m ≡ true → (f p).due m ≡ true) → (q m : ℕ) → (put f p E q).due m ≡ true → (f q).due m ≡ true
put_fewer f p E here = put_over f f p E here (λ q m h. h)

-- where nobody is due anew, the same nodes are expected
pub fewer_due : (H H' : HomeState) (nodes : List ℕ) → ((q m : ℕ) → (entry_at H' q).due m ≡ true → (entry_at H q).due m ≡ true) → Expects H nodes → Expects H' nodes
fewer_due H H' nodes old all q m low few h = all q m low few (old q m h)

pub changes_due : (H H' : HomeState) (nodes : List ℕ) (p : ℕ) (f : HomeEntry → HomeEntry) → ((E : HomeEntry) (m : ℕ) → (f E).due m ≡ true → E.due m ≡ true)
    → ChangesAt H H' p f → Expects H nodes → Expects H' nodes
changes_due H H' nodes p f here change = fewer_due H H' nodes (λ q m. by q m (entry_at H p).there refl)
  where
    by : (q m : ℕ) (b : Bool) → (entry_at H p).there ≡ b → (entry_at H' q).due m ≡ true → (entry_at H q).due m ≡ true
    by q m true h is = put_fewer (entry_at H) p (f (entry_at H p)) (here (entry_at H p)) q m (sym (ap (λ (g : ℕ → HomeEntry). (g q).due m) (change.there h)) ∙ is)
    by q m false h is = subst (λ (x : HomeState). (entry_at x q).due m ≡ true) (change.none h) is

pub struck_due : (n : ℕ) (E : HomeEntry) (m : ℕ) → (struck E n).due m ≡ true → E.due m ≡ true
struck_due n E m = by (nat_eq m n)
  where
    by : (b : Bool) → cond b false (E.due m) ≡ true → E.due m ≡ true
    by true h = absurd (true≢false (sym h))
    by false h = h

pub turn_due : (o : Option (ℕ × ℕ)) (H H' : HomeState) (nodes : List ℕ) → IfSome o (λ pair. ChangesAt H H' pair.0 (λ E. struck E pair.1))
    → (IsNone o → H' ≡ H) → Expects H nodes → Expects H' nodes
turn_due None H H' nodes struck_one same all = subst (λ (x : HomeState). Expects x nodes) (sym (same refl)) all
turn_due (Some pair) H H' nodes struck_one same all = changes_due H H' nodes pair.0 (λ E. struck E pair.1) (struck_due pair.1) struck_one all

taken_due : (mode : Mode) (E : HomeEntry) (n m : ℕ) → (taken_by mode E n).due m ≡ true → E.due m ≡ true
taken_due S E n m h = h
taken_due X E n m h = h

tries_due : (H H' : HomeState) (nodes : List ℕ) (p n : ℕ) (mode : Mode) (answer : Answer) → Tries H H' p n mode answer → Expects H nodes → Expects H' nodes
tries_due H H' nodes p n mode Granted tries =
    fewer_due H H' nodes (λ q m is.
    put_fewer (entry_at H) p (taken_by mode (entry_at H p) n) (taken_due mode (entry_at H p) n) q m (sym (ap (λ (g : ℕ → HomeEntry). (g q).due m) tries.taken) ∙ is))
tries_due H H' nodes p n mode (Busy holders) tries =
    fewer_due H H' nodes (λ q m is. sym (ap (λ (g : ℕ → HomeEntry). (g q).due m) tries.stays) ∙ is)

pub latch_due : (o : Option Answer) (H H' : HomeState) (nodes : List ℕ) (p n : ℕ) (mode : Mode) → IfSome o (λ answer. Tries H H' p n mode answer)
    → (IsNone o → H' ≡ H) → Expects H nodes → Expects H' nodes
latch_due None H H' nodes p n mode tried same all = subst (λ (x : HomeState). Expects x nodes) (sym (same refl)) all
latch_due (Some answer) H H' nodes p n mode tried same all = tries_due H H' nodes p n mode answer tried all

pub none_expected : (H : HomeState) (nodes : List ℕ) → H.entries ≡ [] → Expects H nodes
none_expected H nodes none q m low few is =
    absurd (true≢false (sym is ∙ ap (λ es. let K : HomeState = record { entries = es; watermark = H.watermark } in (entry_at K q).due m) none))

-- ---- `register`

abbrev kept_entry : HomeEntry → ℕ → HomeEntry
kept_entry E fresh = record E { address = Some (address_or E.address fresh) }

abbrev new_entry : HomeEntry → (watermark fresh : ℕ) → HomeEntry
new_entry E watermark fresh = record {
  there = true;
  address = Some fresh;
  bit = true;
  lsn = 0;
  floor = watermark;
  refs = nobody;
  due = nobody;
  latch = E.latch;
}

entered_due : (E : HomeEntry) (watermark fresh m : ℕ) (b : Bool) → (cond b (kept_entry E fresh) (new_entry E watermark fresh)).due m ≡ true → E.due m ≡ true
entered_due E watermark fresh m true h = h
entered_due E watermark fresh m false h = absurd (true≢false (sym h))

registered_due : (E : HomeEntry) (watermark fresh n m : ℕ) → (registered E watermark fresh n).due m ≡ true → E.due m ≡ true
registered_due E watermark fresh n m h = entered_due E watermark fresh m E.there h

entered_at : (H H' : HomeState) (nodes : List ℕ) (f : ℕ → HomeEntry) (p watermark fresh n : ℕ) → ((q m : ℕ) → (f q).due m ≡ true → (entry_at H q).due m ≡ true)
    → entry_at H' ≡ put f p (registered (entry_at H p) watermark fresh n) → Expects H nodes → Expects H' nodes
entered_at H H' nodes f p watermark fresh n beside is =
    fewer_due H H' nodes (λ q m h.
    put_over f (entry_at H) p (registered (entry_at H p) watermark fresh n) (registered_due (entry_at H p) watermark fresh n) beside q m
    (sym (ap (λ (g : ℕ → HomeEntry). (g q).due m) is) ∙ h))

given_due : (f : ℕ → HomeEntry) (given q m : ℕ) → (put f given no_entry q).due m ≡ true → (f q).due m ≡ true
given_due f given = put_fewer f given no_entry (λ m h. absurd (true≢false (sym h)))

pub register_due : (H H' : HomeState) (slabs slabs' : List SlabState) (nodes : List ℕ) (n p : ℕ) (r : Reply) → RegisterAnswers H H' slabs slabs' n p r → Expects H nodes → Expects H' nodes
register_due H H' slabs slabs' nodes n p (Registered a bit floor) answer all =
    elim answer.0 [
      | inl joins ↦ entered_at H H' nodes (entry_at H) p H.watermark 0 n (λ q m h. h) joins.entry all
      | inr takes ↦ elim takes [
        | inl free ↦ entered_at H H' nodes (entry_at H) p H.watermark (address_number free.0) n (λ q m h. h) free.1.entry all
        | inr given ↦ entered_at H H' nodes (put (entry_at H) given.0 no_entry) p H'.watermark (address_number given.1) n (given_due (entry_at H) given.0) given.2.entry.entries all
      ]
    ]
register_due H H' slabs slabs' nodes n p (PoolFull slots) answer all = subst (λ (x : HomeState). Expects x nodes) (sym answer.home) all
register_due H H' slabs slabs' nodes n p Unregistered answer all = absurd answer
register_due H H' slabs slabs' nodes n p (Started due) answer all = absurd answer
register_due H H' slabs slabs' nodes n p Done answer all = absurd answer
register_due H H' slabs slabs' nodes n p (Appended reply) answer all = absurd answer
register_due H H' slabs slabs' nodes n p (Got reply) answer all = absurd answer
register_due H H' slabs slabs' nodes n p (Fenced epoch) answer all = absurd answer

-- ---- `invalidate`

and_last : (a b c : Bool) → (a && b && c) ≡ true → c ≡ true
and_last true true c h = h
and_last true false c h = absurd (true≢false (sym h))
and_last false b c h = absurd (true≢false (sym h))

-- who is due after it was due before, or stands beside a page
beside_due : (E : ℕ → HomeEntry) (n : ℕ) (pages : List ℕ) (clear : List (List ℕ)) (nodes : List ℕ) (m : ℕ) → ((i : ℕ) → i < length clear → Includes nodes (get_or clear i []))
    → ((q : ℕ) → q < 32768 → (E q).due m ≡ true → has nodes m ≡ true) → (q : ℕ) → q < 32768 → (invalidated_all E n pages clear q).due m ≡ true → has nodes m ≡ true
beside_due E n [] clear nodes m each old q low h = old q low h
beside_due E n (p ∷ pages) [] nodes m each old q low h = old q low h
beside_due E n (p ∷ pages) (fresh ∷ clear) nodes m each old q low h =
    beside_due (put E p (invalidated (E p) (has fresh) n)) n pages clear nodes m (λ i small. each (suc i) (omega arith)) (λ k few. by k few (nat_eq k p)) q low h
  where
    by : (k : ℕ) → k < 32768 → (b : Bool) → (cond b (invalidated (E p) (has fresh) n) (E k)).due m ≡ true → has nodes m ≡ true
    by k few true is = each 0 (omega arith) m (and_last ((E p).refs m) (not (nat_eq m n)) (has fresh m) is)
    by k few false is = old k few is

done_none : (due : ℕ) (r : Reply) → InvalidateAnswers due r → is_done r ≡ true → due ≡ 0
done_none due Done answer is = answer
done_none due (Started count) answer is = absurd (true≢false (sym is))
done_none due (Registered a bit floor) answer is = absurd answer
done_none due (PoolFull slots) answer is = absurd answer
done_none due Unregistered answer is = absurd answer
done_none due (Appended reply) answer is = absurd answer
done_none due (Got reply) answer is = absurd answer
done_none due (Fenced epoch) answer is = absurd answer

-- where the pages have no pair that is due, who is due was due before
nobody_anew : (H H' : HomeState) (n : ℕ) (pages : List ℕ) (clear : List (List ℕ)) → entry_at H' ≡ invalidated_all (entry_at H) n pages clear → due_pairs H' pages ≡ 0
    → (q m : ℕ) → (entry_at H' q).due m ≡ true → (entry_at H q).due m ≡ true
nobody_anew H H' n pages clear is none q m h = by (is_among q pages) refl
  where
    by : (b : Bool) → is_among q pages ≡ b → (entry_at H q).due m ≡ true
    by true among =
        let at = place_of q pages among in
        absurd (true≢false (sym (ap (λ (k : ℕ). (entry_at H' k).due m) at.page ∙ h) ∙ none_due H' pages at.place m none at.within))
    by false beside = sym (ap (λ (g : ℕ → HomeEntry). (g q).due m) is ∙ ap (λ (E : HomeEntry). E.due m) (others_stay (entry_at H) n pages clear q beside)) ∙ h

pub invalidated_due : (H H' : HomeState) (nodes nodes' : List ℕ) (n : ℕ) (pages : List ℕ) (clear : List (List ℕ)) (r : Reply)
    → entry_at H' ≡ invalidated_all (entry_at H) n pages clear → InvalidateAnswers (due_pairs H' pages) r → Includes nodes' nodes
    → (is_done r ≡ false → (i : ℕ) → i < length clear → Includes nodes' (get_or clear i [])) → Expects H nodes → Expects H' nodes'
invalidated_due H H' nodes nodes' n pages clear r is answer more each all = by (is_done r) refl
  where
    by : (b : Bool) → is_done r ≡ b → Expects H' nodes'
    by true done q m low few h = more m (all q m low few (nobody_anew H H' n pages clear is (done_none (due_pairs H' pages) r answer done) q m h))
    by false started q m low few h =
        beside_due (entry_at H) n pages clear nodes' m (each started) (λ p small due. more m (all p m small few due)) q low
        (sym (ap (λ (g : ℕ → HomeEntry). (g q).due m) is) ∙ h)

-- ---- a turn

-- the first of what holds, where what holds in range is the same
same_first : (D E : ℕ → ℕ → Bool) (o : Option (ℕ × ℕ)) → ((p n : ℕ) → D p n ≡ true → E p n ≡ true)
    → ((p n : ℕ) → p < 32768 → n < 16 → E p n ≡ true → D p n ≡ true) → IsFirst D o → IsFirst E o
same_first D E None on back first = λ p n low few. by p n low few (E p n) refl
  where
    by : (p n : ℕ) → p < 32768 → n < 16 → (b : Bool) → E p n ≡ b → E p n ≡ false
    by p n low few true h = absurd (true≢false (sym (back p n low few h) ∙ first p n low few))
    by p n low few false h = h
same_first D E (Some pair) on back first = (on pair.0 pair.1 first.0, λ p n low few is. first.1 p n low few (back p n low few is))

and_left : (a b : Bool) → (a && b) ≡ true → a ≡ true
and_left true b h = refl
and_left false b h = h

and_right : (a b : Bool) → (a && b) ≡ true → b ≡ true
and_right true b h = h
and_right false b h = absurd (true≢false (sym h))

and_both : (a b : Bool) → a ≡ true → b ≡ true → (a && b) ≡ true
and_both a b h k = ap (λ (x : Bool). x && b) h ∙ k

-- a turn for the nodes that are expected is one for all
pub expected_first : (H : HomeState) (up nodes asked : List ℕ) (o : Option (ℕ × ℕ)) → ((n : ℕ) → has asked n ≡ (has up n && has nodes n)) → Expects H nodes
    → IsFirst (due_among H asked) o → IsFirst (due_among H up) o
expected_first H up nodes asked o is all =
    same_first (due_among H asked) (due_among H up) o
    (λ p n h. and_both (has up n) ((entry_at H p).due n)
    (and_left (has up n) (has nodes n) (sym (is n) ∙ and_left (has asked n) ((entry_at H p).due n) h)) (and_right (has asked n) ((entry_at H p).due n) h))
    (λ p n low few h.
    let due : (entry_at H p).due n ≡ true = and_right (has up n) ((entry_at H p).due n) h in
    and_both (has asked n) ((entry_at H p).due n)
    (is n ∙ and_both (has up n) (has nodes n) (and_left (has up n) ((entry_at H p).due n) h) (all p n low few due)) due)

-- where a turn found none, none of those that it asked for is expected any longer
pub fewer_expected : (H : HomeState) (nodes asked nodes' : List ℕ) → ((p n : ℕ) → p < 32768 → n < 16 → due_among H asked p n ≡ false)
    → ((n : ℕ) → has nodes' n ≡ (has nodes n && not (has asked n))) → Expects H nodes → Expects H nodes'
fewer_expected H nodes asked nodes' none is all q m low few due =
    is m ∙ and_both (has nodes m) (not (has asked m)) (all q m low few due) (by (has asked m) refl)
  where
    by : (b : Bool) → has asked m ≡ b → not (has asked m) ≡ true
    by true h = absurd (true≢false (sym (and_both (has asked m) ((entry_at H q).due m) h due) ∙ none q m low few))
    by false h = ap not h
