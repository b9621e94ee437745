-- A work tells what is found over its uses.
use Rattle.std.proofs.Common.{◌≡◌, ◌==◌, inl, inr, ℕ, zero, suc, Bool, true, false, List, [], ◌∷◌, ◌++◌, map, Option, Some, None, refl, sym, ◌∙◌, ap, subst, append_assoc, append-nil}
use Rattle.rm_base.specs.declared.key_range.KeyRange.{KeyRange}
use Rattle.page_image.specs.Image.{Image}
use Rattle.page_view.specs.declared.leaf.LeafItem.{LeafItem}
use Rattle.page_view.specs.Leaf.{leaf_of}
use Rattle.bplus_tree.specs.declared.want.Want.{Want}
use Rattle.bplus_tree.specs.declared.want.Want.TheVariants as want
use Rattle.bplus_tree.specs.Walk.{Walking, start, IsToRead}
use Rattle.bplus_tree.specs.Walk as tree
use Rattle.commit_stamps.specs.Stamping.{IsStampPage, stamp_in, visible}
use Rattle.undo_versions.specs.Chains.{GoesOn}
use Rattle.undo_versions.specs.Walking.{is_page, replaced}
use Rattle.version_store.specs.Versions.{is_own}
use Rattle.question_tree.specs.Questions.{collect, Gives, GivesAll}
use Rattle.question_tree.proofs.QuestionLaws.{collected}
use Rattle.range_reader.specs.declared.fetch.Snapshot.{Snapshot}
use Rattle.range_reader.specs.declared.fetch.TheConstants.{MOST_FETCHES, MOST_VERSIONS}
use Rattle.range_reader.specs.Uses.{LooksUp, Looks, LooksEach, Step, Steps, uses_of, found_of, live}
use Rattle.range_reader.specs.Walked.{taken, walked}
use Rattle.range_reader.specs.Finding.{Finding, Fits, look, look_by, look_at, has_stamp, stamp_by, judged_by, older_by, back_to, walk, go_on, end_at, items_in, find, fetch_at, down_to}
use Rattle.range_reader.specs.Laws.{TellsFound}
use Rattle.range_reader.proofs.VersionLaws.{stamp_some}

abbrev itself : Image → Image
itself im = im

-- ---- one item

abbrev LookedAt : Snapshot → LeafItem → List Image → List LeafItem → Type 0
LookedAt s item us found = (r : Option LeafItem) × Looks itself s.stamp s.own item us r × (found ≡ live r)

abbrev Rest : Snapshot → (LeafItem → Finding) → Type 0
Rest s k = (old : LeafItem) (us : List Image) (found : List LeafItem) → Gives Fits (k old) us found → LookedAt s old us found

-- the version before one was looked up, where there is one
abbrev OldLooks : Snapshot → List Image → Option LeafItem → Option LeafItem → Type 0
OldLooks s us r o = GoesOn (λ old. Looks itself s.stamp s.own old us r) ((us ≡ []) × (r ≡ None)) o

back : (s : Snapshot) (item : LeafItem) (k : LeafItem → Finding) (u im : Image) (us : List Image) (found : List LeafItem)
    → LooksUp u s.stamp s.own item false → is_page item.older.page ≡ true → im.page ≡ item.older.page → Rest s k
    → (o : Option LeafItem) → replaced im item.older ≡ o → Gives Fits (back_to k o) us found → LookedAt s item (u ∷ (im ∷ us)) found
back s item k u im [] found up page num rec None e h =
    (None, (up, page, num, subst (OldLooks s [] None) (sym e) (refl, refl)), sym h)
back s item k u im (v ∷ us) found up page num rec None e h = absurd h
back s item k u im us found up page num rec (Some old) e h =
    let r = rec old us found h in
    (r.0, (up, page, num, subst (OldLooks s us r.0) (sym e) r.1), r.2)

older : (s : Snapshot) (item : LeafItem) (k : LeafItem → Finding) (u : Image) (us : List Image) (found : List LeafItem)
    → LooksUp u s.stamp s.own item false → Rest s k
    → (b : Bool) → is_page item.older.page ≡ b → Gives Fits (older_by b k item) us found → LookedAt s item (u ∷ us) found
older s item k u [] found up rec true e h = absurd h
older s item k u (im ∷ us) found up rec true e h = back s item k u im us found up e h.0.0 rec (replaced im item.older) refl h.1
older s item k u [] found up rec false e h = (None, inr (up, e, refl), sym h)
older s item k u (im ∷ us) found up rec false e h = absurd h

judge : (s : Snapshot) (item : LeafItem) (k : LeafItem → Finding) (u : Image) (us : List Image) (found : List LeafItem)
    → is_own s.own item.trx ≡ false → IsStampPage u item.trx → Rest s k
    → (b : Bool) → visible (stamp_in u item.trx) s.stamp ≡ b → Gives Fits (judged_by b k item) us found → LookedAt s item (u ∷ us) found
judge s item k u [] found o p rec true e h = (Some item, inl (record { other = o; page = p; shown = e }, refl), sym h)
judge s item k u (im ∷ us) found o p rec true e h = absurd h
judge s item k u us found o p rec false e h =
    older s item k u us found (record { other = o; page = p; shown = e }) rec (is_page item.older.page) refl h

stamp : (s : Snapshot) (item : LeafItem) (k : LeafItem → Finding) (us : List Image) (found : List LeafItem)
    → is_own s.own item.trx ≡ false → Rest s k
    → (b : Bool) → has_stamp item.trx ≡ b → Gives Fits (stamp_by b k s item) us found → LookedAt s item us found
stamp s item k us found o rec false e h = absurd h
stamp s item k [] found o rec true e h = absurd h
stamp s item k (u ∷ us) found o rec true e h =
    judge s item k u us found o (record { some = stamp_some item.trx e; kind = h.0.1; number = h.0.0 }) rec
    (visible (stamp_in u item.trx) s.stamp) refl h.1

own : (s : Snapshot) (item : LeafItem) (k : LeafItem → Finding) (us : List Image) (found : List LeafItem) → Rest s k
    → (b : Bool) → is_own s.own item.trx ≡ b → Gives Fits (look_by b k s item) us found → LookedAt s item us found
own s item k [] found rec true e h = (Some item, (e, refl), sym h)
own s item k (u ∷ us) found rec true e h = absurd h
own s item k us found rec false e h = stamp s item k us found e rec (has_stamp item.trx) refl h

looked : (m : ℕ) (s : Snapshot) (item : LeafItem) (us : List Image) (found : List LeafItem) → Gives Fits (look m s item) us found → LookedAt s item us found
unfolding look
looked zero s item us found h = absurd h
looked (suc m) s item us found h =
    own s item (look m s) us found (λ old vs more g. looked m s old vs more g) (is_own s.own item.trx) refl h

each : (m : ℕ) (s : Snapshot) (xs : List (List ℕ)) (us : List Image) (found : List LeafItem)
    → GivesAll Fits (look m s) (map leaf_of xs) us found → LooksEach itself s.stamp s.own xs us found
each m s [] us found h = h
each m s (x ∷ xs) us found (here, rest, first, more, parts, gives, others, is) =
    let l = looked m s (leaf_of x) here first gives in
    (here, rest, l.0, more, parts, l.1, each m s xs rest more others, is ∙ ap (λ (f : List LeafItem). f ++ more) l.2)

-- ---- page after page

-- what a search finds from here on
record From (s : Snapshot) (range : KeyRange) (w : Walking) (us : List Image) (seen items : List LeafItem) : Type 0 where
  steps : List (Step Image)
  goes : Steps itself s.stamp s.own range.low range.high w steps
  used : us ≡ uses_of steps
  found : items ≡ seen ++ found_of steps

at_end : (s : Snapshot) (range : KeyRange) (w : Walking) (seen a : List LeafItem) → w.want ≡ want.Finished → seen ≡ a → From s range w [] seen a
at_end s range w seen a e h = record { steps = []; goes = e; used = refl; found = sym h ∙ sym (append-nil seen) }

fits_down : (p : ℕ) (b : Bool) (im : Image) → Fits (down_to p b) im → (Some p ≡ Some im.page) × IsToRead im
fits_down p true im f = (ap Some (sym f.0), f.1)
fits_down p false im f = (ap Some (sym f.0), f.1)

one_more : (s : Snapshot) (range : KeyRange) (w : Walking) (im : Image) (us : List Image) (seen a found : List LeafItem) (vs ws : List Image)
    → tree.wanted w.want ≡ Some im.page → IsToRead im → us ≡ vs ++ ws → LooksEach itself s.stamp s.own (taken range.low range.high im) vs found
    → From s range (walked w im) ws (seen ++ found) a → From s range w (im ∷ us) seen a
one_more s range w im us seen a found vs ws named read parts sees rest =
    let first : Step Image = record { use_of = im; asides = vs; found = found } in
    record {
      steps = first ∷ rest.steps;
      goes = (named, read, sees, rest.goes);
      used = ap (λ (xs : List Image). im ∷ xs) (parts ∙ ap (λ (xs : List Image). vs ++ xs) rest.used);
      found = rest.found ∙ append_assoc seen found (found_of rest.steps);
    }

goes : (n : ℕ) (s : Snapshot) (range : KeyRange) (w : Walking) (seen : List LeafItem) (us : List Image) (a : List LeafItem)
    → Gives Fits (walk n s range w seen) us a → From s range w us seen a
unfolding walk
goes zero s range w seen us a h = over w.want refl us h
  where
    over : (v : Want) → w.want ≡ v → (us : List Image) → Gives Fits (end_at v seen) us a → From s range w us seen a
    over (want.Need p) e us h = absurd h
    over (want.Leaf p) e us h = absurd h
    over want.Finished e [] h = at_end s range w seen a e h
    over want.Finished e (u ∷ us) h = absurd h
goes (suc n) s range w seen us a h = at w.want refl us h (λ im xs vs g. goes n s range (walked w im) xs vs a g)
  where
    next : Image → Finding
    next im = collect (look_at s) (walk n s range (walked w im)) seen (items_in range im)

    step : (im : Image) (us : List Image) → tree.wanted w.want ≡ Some im.page → IsToRead im → Gives Fits (next im) us a
        → ((im : Image) (xs : List LeafItem) (vs : List Image) → Gives Fits (walk n s range (walked w im) xs) vs a → From s range (walked w im) vs xs a)
        → From s range w (im ∷ us) seen a
    step im us named read g rec =
        let r = collected Fits (look_at s) (walk n s range (walked w im)) seen (items_in range im) us a g in
        one_more s range w im us seen a r.2 r.0 r.1 named read r.3
        (each MOST_VERSIONS s (taken range.low range.high im) r.0 r.2 r.4) (rec im (seen ++ r.2) r.1 r.5)

    at : (v : Want) → w.want ≡ v → (us : List Image) → Gives Fits (go_on (fetch_at v (suc n)) next seen) us a
        → ((im : Image) (xs : List LeafItem) (vs : List Image) → Gives Fits (walk n s range (walked w im) xs) vs a → From s range (walked w im) vs xs a)
        → From s range w us seen a
    at (want.Need p) e [] h rec = absurd h
    at (want.Need p) e (im ∷ us) h rec =
        let f = fits_down p (suc n == MOST_FETCHES) im h.0 in
        step im us (ap tree.wanted e ∙ f.0) f.1 h.1 rec
    at (want.Leaf p) e [] h rec = absurd h
    at (want.Leaf p) e (im ∷ us) h rec = step im us (ap tree.wanted e ∙ ap Some (sym h.0.0)) h.0.1 h.1 rec
    at want.Finished e [] h rec = at_end s range w seen a e h
    at want.Finished e (u ∷ us) h rec = absurd h

pub tells_found : TellsFound
unfolding find
tells_found s root range us items h =
    let f = goes MOST_FETCHES s range (start root range.low range.high) [] us items h in
    record { steps = f.steps; goes = f.goes; used = f.used; seen = f.found }
