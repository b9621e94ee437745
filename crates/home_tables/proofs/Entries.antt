-- Lemmas on the entries after one of them changed, and on the sets beside them.
use Rattle.std.proofs.Common.{◌≡◌, ◌≤◌, ◌<◌, ◌+◌, ◌*◌, ℕ, Bool, true, false, cond, ◌&&◌, List, [], ◌∷◌, length, Option, Some, None, if◌then◌else◌, nat_eq, eqb-true, refl, sym, ◌∙◌, ap, subst, arith}
use Rattle.std.specs.Map.{set_value}
use mathlib.Core.Path.{fun_ext}
use Rattle.rm_base.specs.declared.places.Addr.{Addr}
use Rattle.std.specs.Option.{option_map, is_some}
use Rattle.home_model.specs.Numbered.{put, nobody}
use Rattle.home_model.specs.Entry.{Entry as HomeEntry, takes_slot}
use Rattle.page_latches.specs.Set.{has as has_node}
use Rattle.home_tables.specs.Numbers.{has, has_page}
use Rattle.home_tables.specs.Table.{entry_of, address_number, is_idle_on, is_idle, is_on}
use Rattle.home_tables.specs.Home.{kept_in, AreKept}
use Rattle.home_tables.specs.declared.entry.Entry.{Entry}

same_choice : (b : Bool) (x y z : Option Entry) → cond b x y ≡ (if b then x else cond b z y)
same_choice true x y z = refl
same_choice false x y z = refl

apart_choices : (b c : Bool) (x y z : Option Entry) → (b ≡ true → c ≡ true → ⊥) → cond b x (if c then y else z) ≡ (if c then y else cond b x z)
apart_choices true true x y z apart = absurd (apart refl refl)
apart_choices true false x y z apart = refl
apart_choices false true x y z apart = refl
apart_choices false false x y z apart = refl

two_keys : (p q k : ℕ) → nat_eq p k ≡ false → nat_eq q k ≡ true → nat_eq q p ≡ true → ⊥
two_keys p q k apart here there = grind (arith, apart, here, there)

pub at_changed : (es : List (ℕ × Entry)) (p q : ℕ) (e e' : Entry) → kept_in es p ≡ Some e → kept_in (set_value (nat_eq p) es e') q ≡ (if nat_eq q p then Some e' else kept_in es q)
at_changed [] p q e e' h = absurd cc
at_changed (f ∷ es) p q e e' h = by (nat_eq p f.0) refl h (at_changed es p q e e')
  where
    by : (b : Bool) → nat_eq p f.0 ≡ b → cond b (Some f.1) (kept_in es p) ≡ Some e
        → (kept_in es p ≡ Some e → kept_in (set_value (nat_eq p) es e') q ≡ (if nat_eq q p then Some e' else kept_in es q))
        → kept_in (cond b ((f.0, e') ∷ es) (f ∷ set_value (nat_eq p) es e')) q ≡ (if nat_eq q p then Some e' else cond (nat_eq q f.0) (Some f.1) (kept_in es q))
    by true t found more =
        let same : p ≡ f.0 = eqb-true p f.0 t in
        subst (λ (k : ℕ). cond (nat_eq q f.0) (Some e') (kept_in es q) ≡ (if nat_eq q k then Some e' else cond (nat_eq q f.0) (Some f.1) (kept_in es q))) (sym same) (same_choice (nat_eq q f.0) (Some e') (kept_in es q) (Some f.1))
    by false t found more =
        ap (λ (o : Option Entry). cond (nat_eq q f.0) (Some f.1) o) (more found)
        ∙ apart_choices (nat_eq q f.0) (nat_eq q p) (Some f.1) (Some e') (kept_in es q) (two_keys p q f.0 t)

-- the entries as the model has them, after the entry of page p changed by f
pub changed_at : (es : List (ℕ × Entry)) (p : ℕ) (e e' : Entry) (f : HomeEntry → HomeEntry) → kept_in es p ≡ Some e → entry_of (Some e') ≡ f (entry_of (Some e))
    → ◌≡◌ {A = ℕ → HomeEntry} (λ q. entry_of (kept_in (set_value (nat_eq p) es e') q)) (put (λ q. entry_of (kept_in es q)) p (f (entry_of (kept_in es p))))
changed_at es p e e' f found step = fun_ext (λ q. ap entry_of (at_changed es p q e e' found) ∙ by q (nat_eq q p))
  where
    by : (q : ℕ) (b : Bool) → entry_of (if b then Some e' else kept_in es q) ≡ (if b then f (entry_of (kept_in es p)) else entry_of (kept_in es q))
    by q true = step ∙ ap (λ (o : Option Entry). f (entry_of o)) (sym found)
    by q false = refl

-- the entries as the model has them, after the entry of page p became o
pub put_at : (es es' : List (ℕ × Entry)) (p : ℕ) (o : Option Entry) → ((q : ℕ) → kept_in es' q ≡ (if nat_eq q p then o else kept_in es q))
    → ◌≡◌ {A = ℕ → HomeEntry} (λ q. entry_of (kept_in es' q)) (put (λ q. entry_of (kept_in es q)) p (entry_of o))
put_at es es' p o at = fun_ext (λ q. ap entry_of (at q) ∙ by q (nat_eq q p))
  where
    by : (q : ℕ) (b : Bool) → entry_of (if b then o else kept_in es q) ≡ (if b then entry_of o else entry_of (kept_in es q))
    by q true = refl
    by q false = refl

-- the sets beside the entries, after the entry of page p became o and the page was marked in them
pub kept_put : (es es' : List (ℕ × Entry)) (idle idle' due due' : List Bool) (p : ℕ) (o : Option Entry) → AreKept es idle due
    → ((q : ℕ) → kept_in es' q ≡ (if nat_eq q p then o else kept_in es q))
    → ((s q : ℕ) → s < 16 → q < 32768 → has_page idle' s q ≡ (if nat_eq q p then is_idle_on s o else has_page idle s q))
    → ((n q : ℕ) → n < 16 → q < 32768 → has_page due' n q ≡ (if nat_eq q p then (entry_of o).due n else has_page due n q))
    → 524288 ≤ length idle' → 524288 ≤ length due' → (32768 ≤ p → o ≡ None)
    → AreKept es' idle' due'
kept_put es es' idle idle' due due' p o old at idle_marks due_marks idle_room due_room far =
    record {
      idle_pages = λ s q hs hq. idle_marks s q hs hq ∙ (in_idle s q hs hq (nat_eq q p) ∙ ap (is_idle_on s) (sym (at q)));
      due_pages = λ n q hn hq. due_marks n q hn hq ∙ (in_due n q hn hq (nat_eq q p) ∙ ap (λ (k : Option Entry). (entry_of k).due n) (sym (at q)));
      room = (idle_room, due_room);
      few = λ q hq. at q ∙ in_few q hq (nat_eq q p) refl;
    }
  where
    in_few : (q : ℕ) → 32768 ≤ q → (b : Bool) → nat_eq q p ≡ b → (if b then o else kept_in es q) ≡ None
    in_few q hq true t = far (subst (λ (n : ℕ). 32768 ≤ n) (eqb-true q p t) hq)
    in_few q hq false t = old.few q hq

    in_idle : (s q : ℕ) → s < 16 → q < 32768 → (b : Bool) → (if b then is_idle_on s o else has_page idle s q) ≡ is_idle_on s (if b then o else kept_in es q)
    in_idle s q hs hq true = refl
    in_idle s q hs hq false = old.idle_pages s q hs hq

    in_due : (n q : ℕ) → n < 16 → q < 32768 → (b : Bool) → (if b then (entry_of o).due n else has_page due n q) ≡ (entry_of (if b then o else kept_in es q)).due n
    in_due n q hn hq true = refl
    in_due n q hn hq false = old.due_pages n q hn hq

-- a page that is there has a number below 32,768
near : (es : List (ℕ × Entry)) (idle due : List Bool) (p : ℕ) (e : Entry) (o : Option Entry) → AreKept es idle due → kept_in es p ≡ Some e → 32768 ≤ p → o ≡ None
near es idle due p e o old found far = absurd (let none = old.few p far in cc)

-- the bit of page p in the set of slab s, where its slot stays and the set of its slab was marked
idle_here : (s : ℕ) (e e' : Entry) (was : Bool) → e'.addr ≡ e.addr → was ≡ is_idle_on s (Some e) → (if is_on s e'.addr then is_idle e' else was) ≡ is_idle_on s (Some e')
idle_here s e e' was slot held = by (is_on s e'.addr) refl
  where
    by : (b : Bool) → is_on s e'.addr ≡ b → (if b then is_idle e' else was) ≡ (b && is_idle e')
    by true on = refl
    by false on = held ∙ ap (λ (b : Bool). b && is_idle e) (ap (λ (a : Option Addr). is_on s a) (sym slot) ∙ on)

-- the marks in the sets of all slabs, where the slot stays and the page was marked in the set of its slab
pub idle_marked : (es : List (ℕ × Entry)) (idle idle' due : List Bool) (p : ℕ) (e e' : Entry) → AreKept es idle due → kept_in es p ≡ Some e → e'.addr ≡ e.addr
    → ((s q : ℕ) → s < 16 → q < 32768 → has_page idle' s q ≡ (if (nat_eq q p && is_on s e'.addr) then is_idle e' else has_page idle s q))
    → (s q : ℕ) → s < 16 → q < 32768 → has_page idle' s q ≡ (if nat_eq q p then is_idle_on s (Some e') else has_page idle s q)
idle_marked es idle idle' due p e e' old found slot marks s q hs hq = marks s q hs hq ∙ by (nat_eq q p) refl
  where
    by : (b : Bool) → nat_eq q p ≡ b → (if (b && is_on s e'.addr) then is_idle e' else has_page idle s q) ≡ (if b then is_idle_on s (Some e') else has_page idle s q)
    by true t =
        let here : q ≡ p = eqb-true q p t in
        idle_here s e e' (has_page idle s q) slot (old.idle_pages s q hs hq ∙ ap (λ (k : ℕ). is_idle_on s (kept_in es k)) here ∙ ap (is_idle_on s) found)
    by false t = refl

-- a set that needs no new marks, where the bits of page p are as before
pub idle_unmarked : (es : List (ℕ × Entry)) (idle due : List Bool) (p : ℕ) (o : Option Entry) → AreKept es idle due → ((s : ℕ) → is_idle_on s o ≡ is_idle_on s (kept_in es p))
    → (s q : ℕ) → s < 16 → q < 32768 → has_page idle s q ≡ (if nat_eq q p then is_idle_on s o else has_page idle s q)
idle_unmarked es idle due p o old same s q hs hq = by (nat_eq q p) refl
  where
    by : (b : Bool) → nat_eq q p ≡ b → has_page idle s q ≡ (if b then is_idle_on s o else has_page idle s q)
    by true t = let here : q ≡ p = eqb-true q p t in old.idle_pages s q hs hq ∙ ap (λ (k : ℕ). is_idle_on s (kept_in es k)) here ∙ sym (same s)
    by false t = refl

pub due_unmarked : (es : List (ℕ × Entry)) (idle due : List Bool) (p : ℕ) (o : Option Entry) → AreKept es idle due → ((n : ℕ) → (entry_of o).due n ≡ (entry_of (kept_in es p)).due n)
    → (n q : ℕ) → n < 16 → q < 32768 → has_page due n q ≡ (if nat_eq q p then (entry_of o).due n else has_page due n q)
due_unmarked es idle due p o old same n q hn hq = by (nat_eq q p) refl
  where
    by : (b : Bool) → nat_eq q p ≡ b → has_page due n q ≡ (if b then (entry_of o).due n else has_page due n q)
    by true t = let here : q ≡ p = eqb-true q p t in old.due_pages n q hn hq ∙ ap (λ (k : ℕ). (entry_of (kept_in es k)).due n) here ∙ sym (same n)
    by false t = refl

-- after the entry of page p changed, keeping its slot and who is due, and the page was marked in the set of its slab
pub kept_marked : (es : List (ℕ × Entry)) (idle idle' due : List Bool) (p : ℕ) (e e' : Entry) → AreKept es idle due → kept_in es p ≡ Some e → e'.addr ≡ e.addr
    → has_node e'.due ≡ has_node e.due
    → ((s q : ℕ) → s < 16 → q < 32768 → has_page idle' s q ≡ (if (nat_eq q p && is_on s e'.addr) then is_idle e' else has_page idle s q))
    → length idle' ≡ length idle
    → AreKept (set_value (nat_eq p) es e') idle' due
kept_marked es idle idle' due p e e' old found slot nodes marks bound =
    let room = old.room in
    kept_put es (set_value (nat_eq p) es e') idle idle' due due p (Some e') old (λ q. at_changed es p q e e' found) (idle_marked es idle idle' due p e e' old found slot marks)
    (due_unmarked es idle due p (Some e') old (λ n. ap (λ (f : ℕ → Bool). f n) nodes ∙ ap (λ (k : Option Entry). (entry_of k).due n) (sym found)))
    (subst (λ (n : ℕ). 524288 ≤ n) (sym bound) room.0) room.1 (near es idle due p e (Some e') old found)

-- after the entry of page p changed, keeping its slot and whether it may be given away, and the page was marked in the sets of all nodes
pub kept_due : (es : List (ℕ × Entry)) (idle due due' : List Bool) (p : ℕ) (e e' : Entry) → AreKept es idle due → kept_in es p ≡ Some e → e'.addr ≡ e.addr
    → is_idle e' ≡ is_idle e
    → ((n q : ℕ) → n < 16 → q < 32768 → has_page due' n q ≡ (if nat_eq q p then has_node e'.due n else has_page due n q))
    → length due' ≡ length due
    → AreKept (set_value (nat_eq p) es e') idle due'
kept_due es idle due due' p e e' old found slot same marks bound =
    let room = old.room in
    kept_put es (set_value (nat_eq p) es e') idle idle due due' p (Some e') old (λ q. at_changed es p q e e' found)
    (idle_unmarked es idle due p (Some e') old (λ s. ap (λ (a : Option Addr). is_on s a && is_idle e') slot ∙ (ap (λ (b : Bool). is_on s e.addr && b) same ∙ ap (is_idle_on s) (sym found))))
    marks room.0 (subst (λ (n : ℕ). 524288 ≤ n) (sym bound) room.1) (near es idle due p e (Some e') old found)

-- no entries, and no marks
pub kept_none : (es : List (ℕ × Entry)) (idle due : List Bool) → es ≡ [] → ((x : ℕ) → has idle x ≡ false) → ((x : ℕ) → has due x ≡ false) → 524288 ≤ length idle → 524288 ≤ length due → AreKept es idle due
kept_none es idle due none no_idle no_due idle_room due_room =
    record {
      idle_pages = λ s p hs hp. no_idle (s * 32768 + p) ∙ ap (λ (q : List (ℕ × Entry)). is_idle_on s (kept_in q p)) (sym none);
      due_pages = λ n p hn hp. no_due (n * 32768 + p) ∙ ap (λ (q : List (ℕ × Entry)). (entry_of (kept_in q p)).due n) (sym none);
      room = (idle_room, due_room);
      few = λ p far. sym (ap (λ (q : List (ℕ × Entry)). kept_in q p) (sym none));
    }

swapped : (p q : ℕ) → nat_eq p q ≡ nat_eq q p
swapped p q = grind arith

-- what a look-up finds, where the map says it by the key that changed
pub at_put : (es es' : List (ℕ × Entry)) (p : ℕ) (o : Option Entry) → ((q : ℕ) → kept_in es' q ≡ cond (nat_eq p q) o (kept_in es q)) → (q : ℕ) → kept_in es' q ≡ (if nat_eq q p then o else kept_in es q)
at_put es es' p o h q = h q ∙ ap (λ (b : Bool). cond b o (kept_in es q)) (swapped p q)

and_false : (b : Bool) → (b && false) ≡ false
and_false true = refl
and_false false = refl

never_idle : (s : ℕ) (e : Entry) → is_idle e ≡ false → is_idle_on s (Some e) ≡ false
never_idle s e busy = ap (λ (b : Bool). is_on s e.addr && b) busy ∙ and_false (is_on s e.addr)

lost : (o : Option Addr) (E : HomeEntry) → takes_slot (record E { there = true; address = option_map address_number o }) ≡ true → o ≡ None
lost None E h = refl
lost (Some a) E h = absurd cc

pub lost_slot : (e : Entry) → takes_slot (entry_of (Some e)) ≡ true → e.addr ≡ None
lost_slot e h = lost e.addr (entry_of (Some e)) h

-- after page p got a slot, which had lost its own
pub kept_entered : (es : List (ℕ × Entry)) (idle due : List Bool) (p : ℕ) (e e' : Entry) → AreKept es idle due → kept_in es p ≡ Some e → e.addr ≡ None → is_idle e' ≡ false → has_node e'.due ≡ has_node e.due
    → AreKept (set_value (nat_eq p) es e') idle due
kept_entered es idle due p e e' old found slot busy nodes =
    kept_put es (set_value (nat_eq p) es e') idle idle due due p (Some e') old (λ q. at_changed es p q e e' found)
    (idle_unmarked es idle due p (Some e') old (λ s. never_idle s e' busy ∙ sym (ap (is_idle_on s) found ∙ ap (λ (a : Option Addr). is_on s a && is_idle e) slot)))
    (due_unmarked es idle due p (Some e') old (λ n. ap (λ (f : ℕ → Bool). f n) nodes ∙ ap (λ (k : Option Entry). (entry_of k).due n) (sym found)))
    old.room.0 old.room.1 (near es idle due p e (Some e') old found)

none_found : (o : Option Entry) → is_some o ≡ false → o ≡ None
none_found None h = refl
none_found (Some e) h = absurd cc

pub not_found : (es : List (ℕ × Entry)) (p : ℕ) → is_some (kept_in es p) ≡ false → kept_in es p ≡ None
not_found es p h = none_found (kept_in es p) h

-- after page p got an entry
pub kept_added : (es es' : List (ℕ × Entry)) (idle due : List Bool) (p : ℕ) (e : Entry) → AreKept es idle due → is_some (kept_in es p) ≡ false
    → ((q : ℕ) → kept_in es' q ≡ (if nat_eq q p then Some e else kept_in es q)) → is_idle e ≡ false → has_node e.due ≡ nobody → p ≤ 32767
    → AreKept es' idle due
kept_added es es' idle due p e old absent at busy nodes small =
    let none : kept_in es p ≡ None = not_found es p absent in
    kept_put es es' idle idle due due p (Some e) old at (idle_unmarked es idle due p (Some e) old (λ s. never_idle s e busy ∙ ap (is_idle_on s) (sym none)))
    (due_unmarked es idle due p (Some e) old (λ n. ap (λ (f : ℕ → Bool). f n) nodes ∙ ap (λ (k : Option Entry). (entry_of k).due n) (sym none))) old.room.0 old.room.1 (λ far. absurd (omega arith))

-- after the entry of page p went, and its marks
pub kept_removed : (es es' : List (ℕ × Entry)) (idle idle' due due' : List Bool) (p : ℕ) (e : Entry) (nodes : List ℕ) → AreKept es idle due → kept_in es p ≡ Some e
    → ((q : ℕ) → kept_in es' q ≡ (if nat_eq q p then None else kept_in es q))
    → ((s q : ℕ) → s < 16 → q < 32768 → has_page idle' s q ≡ (if (nat_eq q p && is_on s e.addr) then false else has_page idle s q)) → length idle' ≡ length idle
    → has_node nodes ≡ nobody → ((n q : ℕ) → n < 16 → q < 32768 → has_page due' n q ≡ (if nat_eq q p then has_node nodes n else has_page due n q)) → length due' ≡ length due
    → AreKept es' idle' due'
kept_removed es es' idle idle' due due' p e nodes old found at idle_marks idle_bound empty due_marks due_bound =
    kept_put es es' idle idle' due due' p None old at (λ s q hs hq. idle_marks s q hs hq ∙ gone s q hs hq (nat_eq q p) refl (is_on s e.addr) refl)
    (λ n q hn hq. due_marks n q hn hq ∙ ap (λ (f : ℕ → Bool). if nat_eq q p then f n else has_page due n q) empty)
    (subst (λ (n : ℕ). 524288 ≤ n) (sym idle_bound) old.room.0) (subst (λ (n : ℕ). 524288 ≤ n) (sym due_bound) old.room.1) (λ far. refl)
  where
    gone : (s q : ℕ) → s < 16 → q < 32768 → (b : Bool) → nat_eq q p ≡ b → (o : Bool) → is_on s e.addr ≡ o → (if (b && o) then false else has_page idle s q) ≡ (if b then false else has_page idle s q)
    gone s q hs hq true t true on = refl
    gone s q hs hq true t false on =
        let here : q ≡ p = eqb-true q p t in
        old.idle_pages s q hs hq ∙ ap (λ (k : ℕ). is_idle_on s (kept_in es k)) here ∙ ap (is_idle_on s) found ∙ ap (λ (b : Bool). b && is_idle e) on
    gone s q hs hq false t o on = refl

-- the marks in the sets of all slabs, where the page was marked with b in the set of the slab that it had its slot on
pub idle_became : (es : List (ℕ × Entry)) (idle idle' due : List Bool) (p : ℕ) (e : Entry) (a : Option Addr) (b : Bool) (o : Option Entry) → AreKept es idle due → kept_in es p ≡ Some e
    → ((s : ℕ) → (if is_on s a then b else is_idle_on s (Some e)) ≡ is_idle_on s o)
    → ((s q : ℕ) → s < 16 → q < 32768 → has_page idle' s q ≡ (if (nat_eq q p && is_on s a) then b else has_page idle s q))
    → (s q : ℕ) → s < 16 → q < 32768 → has_page idle' s q ≡ (if nat_eq q p then is_idle_on s o else has_page idle s q)
idle_became es idle idle' due p e a b o old found same marks s q hs hq = marks s q hs hq ∙ by (nat_eq q p) refl
  where
    by : (t : Bool) → nat_eq q p ≡ t → (if (t && is_on s a) then b else has_page idle s q) ≡ (if t then is_idle_on s o else has_page idle s q)
    by true t =
        let here : q ≡ p = eqb-true q p t in
        ap (λ (was : Bool). if is_on s a then b else was) (old.idle_pages s q hs hq ∙ ap (λ (k : ℕ). is_idle_on s (kept_in es k)) here ∙ ap (is_idle_on s) found) ∙ same s
    by false t = refl

-- after the entry of page p changed, keeping its slot, and the page was marked in all sets
pub kept_both : (es : List (ℕ × Entry)) (idle idle' due due' : List Bool) (p : ℕ) (e e' : Entry) → AreKept es idle due → kept_in es p ≡ Some e → e'.addr ≡ e.addr
    → ((s q : ℕ) → s < 16 → q < 32768 → has_page idle' s q ≡ (if (nat_eq q p && is_on s e'.addr) then is_idle e' else has_page idle s q)) → length idle' ≡ length idle
    → ((n q : ℕ) → n < 16 → q < 32768 → has_page due' n q ≡ (if nat_eq q p then has_node e'.due n else has_page due n q)) → length due' ≡ length due
    → AreKept (set_value (nat_eq p) es e') idle' due'
kept_both es idle idle' due due' p e e' old found slot idle_marks idle_bound due_marks due_bound =
    kept_put es (set_value (nat_eq p) es e') idle idle' due due' p (Some e') old (λ q. at_changed es p q e e' found) (idle_marked es idle idle' due p e e' old found slot idle_marks) due_marks
    (subst (λ (n : ℕ). 524288 ≤ n) (sym idle_bound) old.room.0) (subst (λ (n : ℕ). 524288 ≤ n) (sym due_bound) old.room.1) (near es idle due p e (Some e') old found)

-- whether the page may be given away for a slot of slab s, where the page lost its slot if that was on slab k
lost_bit : (s k : ℕ) (e e' : Entry) (b on : Bool) → is_on k e.addr ≡ on → e'.addr ≡ (if on then None else e.addr) → is_idle e' ≡ is_idle e → b ≡ (is_some e'.addr && is_idle e')
    → (if is_on s e.addr then b else is_idle_on s (Some e)) ≡ is_idle_on s (Some e')
lost_bit s k e e' b true here slot same bit = rw slot (in_case (is_on s e.addr) (is_idle e) (bit ∙ ap (λ (a : Option Addr). is_some a && is_idle e') slot))
  where
    in_case : (on idle : Bool) → b ≡ false → (if on then b else (on && idle)) ≡ false
    in_case true idle h = h
    in_case false idle h = refl
lost_bit s k e e' b false here slot same bit = in_case e.addr slot
  where
    in_case : (a : Option Addr) → e'.addr ≡ a → (if is_on s a then b else (is_on s a && is_idle e)) ≡ (is_on s e'.addr && is_idle e')
    in_case None h = sym (ap (λ (a : Option Addr). is_on s a && is_idle e') h)
    in_case (Some a) h = by (nat_eq a.slab s) refl
      where
        by : (on : Bool) → nat_eq a.slab s ≡ on → (if on then b else (on && is_idle e)) ≡ (is_on s e'.addr && is_idle e')
        by true t = bit ∙ ap (λ (o : Option Addr). is_some o && is_idle e') h ∙ sym (ap (λ (o : Option Addr). is_on s o && is_idle e') h ∙ ap (λ (c : Bool). c && is_idle e') t)
        by false t = sym (ap (λ (o : Option Addr). is_on s o && is_idle e') h ∙ ap (λ (c : Bool). c && is_idle e') t)

-- after page p lost its slot where that was on slab k, and was marked in the set of the slab that it had its slot on
pub kept_lost : (es : List (ℕ × Entry)) (idle idle' due : List Bool) (p k : ℕ) (e e' : Entry) (b : Bool) → AreKept es idle due → kept_in es p ≡ Some e
    → e'.addr ≡ (if is_on k e.addr then None else e.addr) → is_idle e' ≡ is_idle e → has_node e'.due ≡ has_node e.due → b ≡ (is_some e'.addr && is_idle e')
    → ((s q : ℕ) → s < 16 → q < 32768 → has_page idle' s q ≡ (if (nat_eq q p && is_on s e.addr) then b else has_page idle s q)) → length idle' ≡ length idle
    → AreKept (set_value (nat_eq p) es e') idle' due
kept_lost es idle idle' due p k e e' b old found slot same nodes bit marks bound =
    kept_put es (set_value (nat_eq p) es e') idle idle' due due p (Some e') old (λ q. at_changed es p q e e' found)
    (idle_became es idle idle' due p e e.addr b (Some e') old found (λ s. lost_bit s k e e' b (is_on k e.addr) refl slot same bit) marks)
    (due_unmarked es idle due p (Some e') old (λ n. ap (λ (f : ℕ → Bool). f n) nodes ∙ ap (λ (o : Option Entry). (entry_of o).due n) (sym found)))
    (subst (λ (n : ℕ). 524288 ≤ n) (sym bound) old.room.0) old.room.1 (near es idle due p e (Some e') old found)
