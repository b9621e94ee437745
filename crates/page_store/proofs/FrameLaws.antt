-- Pages in memory, after each change of their frames.
use Rattle.std.proofs.Common.{◌≡◌, ◌≢◌, ◌≤◌, ◌<◌, ℕ, zero, suc, Bool, true, false, cond, nat_eq, List, [], ◌∷◌, ◌++◌, length, set, get_or, Option, Some, None, inl, inr, refl, sym, ap, subst, ◌∙◌, arith}
use Rattle.std.specs.Prelude.{IsSome, is_some, unwrap_or, Contains}
use Rattle.std.proofs.lemmas.Bool.{cases_eq}
use Rattle.std.proofs.lemmas.Bool.Decides.{nat_tests}
use Rattle.std.proofs.lemmas.List.{length-set, get_or-set_same, get_or-set_other, get_or_read, get_or_past}
use Rattle.std.proofs.lemmas.List.Elements.{All-push, Contains-push, Contains-push_cases, Contains-append_left}
use Rattle.page_image.specs.Image.{Image, unmade}
use Rattle.redo_record.specs.declared.redo.Record.{Record}
use Rattle.redo_record.specs.Effect.{page_of, effect, step}
use Rattle.page_store.specs.declared.frame.Frame.{Frame}
use Rattle.page_store.specs.Frames.{empty, kept_of, page_in, settled, unchanged, frame_at, kept_at, page_at, HasCopy, SameKept, SamePages, SameCopies, AreFrames, Ends}

-- ---- frames

pub frame_push : (frames : List Frame) (p : ℕ) → frame_at (frames ++ empty ∷ []) p ≡ frame_at frames p
frame_push [] zero = refl
frame_push [] (suc p) = refl
frame_push (f ∷ frames) zero = refl
frame_push (f ∷ frames) (suc p) = frame_push frames p

-- a page with a working copy has a frame
pub copy_within : (frames : List Frame) (p : ℕ) → HasCopy frames p → p < length frames
copy_within [] p h = absurd cc
copy_within (f ∷ frames) zero h = omega arith
copy_within (f ∷ frames) (suc p) h = omega (arith, copy_within frames p h)

-- a page past the frames is not made
pub page_past : (frames : List Frame) (p : ℕ) → length frames ≤ p → page_at frames p ≡ unmade p
page_past frames p le = ap (page_in p) (get_or_past frames p empty le)

-- the frame that was read at a place
pub frame_read : (frames : List Frame) (place : ℕ) (f : Frame) → place < length frames → f ≡ get_or frames place f → f ≡ frame_at frames place
frame_read frames place f lt read = get_or_read frames place f lt read empty

-- ---- the same frames, and more of them

pub same_kept : (old new : List Frame) → ((p : ℕ) → frame_at new p ≡ frame_at old p) → SameKept old new
same_kept old new same p = ap (kept_of p) (same p)

pub same_pages : (old new : List Frame) → ((p : ℕ) → frame_at new p ≡ frame_at old p) → SamePages old new
same_pages old new same p = ap (page_in p) (same p)

pub same_copies : (old new : List Frame) → ((p : ℕ) → frame_at new p ≡ frame_at old p) → SameCopies old new
same_copies old new same p h = ap (λ (f : Frame). is_some f.working) (same p) ∙ h

pub grown_frames : (old new : List Frame) (changed : List ℕ) → AreFrames old changed → ((p : ℕ) → frame_at new p ≡ frame_at old p)
    → length old ≤ length new → AreFrames new changed
grown_frames old new changed are same longer = record {
  within = λ k d lt. omega (arith, are.within k d lt);
  listed = λ p h. are.listed p (ap (λ (f : Frame). is_some f.working) (sym (same p)) ∙ h);
}

-- ---- a working copy is made

pub record Copied (p : ℕ) (old new : List Frame) : Type 0 where
  pub kept : SameKept old new
  pub pages : SamePages old new
  pub copies : SameCopies old new
  pub ok : HasCopy new p

not_some : {A : Type 0} (o : Option A) → is_some o ≡ false → o ≡ None
not_some None h = refl
not_some (Some x) h = absurd cc

abbrev with_copy : Frame → Image → Frame
with_copy f page = record f { working = Some page }

frame_set_same : (frames : List Frame) (place : ℕ) (f : Frame) → place < length frames → frame_at (set frames place f) place ≡ f
frame_set_same frames place f lt = get_or-set_same frames place f empty lt

frame_set_other : (frames : List Frame) (place p : ℕ) (f : Frame) → p ≢ place → frame_at (set frames place f) p ≡ frame_at frames p
frame_set_other frames place p f ne = get_or-set_other frames place p f empty ne

-- at each page, a fact of its frame: at the page whose frame was set, and at the others
at_set : (frames : List Frame) (place : ℕ) (f : Frame) (P : ℕ → Frame → Type 0) → place < length frames → P place f
    → ((p : ℕ) → p ≢ place → P p (frame_at frames p)) → (p : ℕ) → P p (frame_at (set frames place f) p)
at_set frames place f P lt here others p =
    elim (cases_eq p place) [
      | inl same ↦
          subst (λ (q : ℕ). P q (frame_at (set frames place f) q)) (sym same)
          (subst (λ (x : Frame). P place x) (sym (frame_set_same frames place f lt)) here)
      | inr other ↦ subst (λ (x : Frame). P p x) (sym (frame_set_other frames place p f other)) (others p other)
    ]

page_without : (p : ℕ) (f : Frame) → is_some f.working ≡ false → page_in p f ≡ kept_of p f
page_without p f none = ap (λ (o : Option Image). unwrap_or o (kept_of p f)) (not_some f.working none)

pub copied : (frames : List Frame) (p : ℕ) (f : Frame) (page : Image) → p < length frames → f ≡ frame_at frames p → is_some f.working ≡ false
    → page ≡ kept_of p f → Copied p frames (set frames p (with_copy f page))
copied frames p f page lt is none made =
    let new : List Frame = set frames p (with_copy f page) in
    record {
      kept = at_set frames p (with_copy f page) (λ (q : ℕ) (x : Frame). kept_of q x ≡ kept_at frames q) lt (ap (kept_of p) is) (λ q ne. refl);
      pages = at_set frames p (with_copy f page) (λ (q : ℕ) (x : Frame). page_in q x ≡ page_at frames q) lt
          (made ∙ sym (page_without p f none) ∙ ap (page_in p) is) (λ q ne. refl);
      copies = at_set frames p (with_copy f page) (λ (q : ℕ) (x : Frame). HasCopy frames q → IsSome x.working) lt (λ h. refl) (λ q ne h. h);
      ok = ap (λ (x : Frame). is_some x.working) (frame_set_same frames p (with_copy f page) lt);
    }

pub copied_frames : (frames : List Frame) (changed : List ℕ) (p : ℕ) (f : Frame) → AreFrames frames changed → p < length frames
    → AreFrames (set frames p f) (changed ++ p ∷ [])
copied_frames frames changed p f are lt = record {
  within = All-push (λ (q : ℕ). q < length (set frames p f)) changed p (λ k d h. omega (arith, are.within k d h, length-set frames p f)) (omega (arith, length-set frames p f));
  listed = at_set frames p f (λ (q : ℕ) (x : Frame). IsSome x.working → Contains (changed ++ p ∷ []) q) lt
      (λ h. Contains-push changed p) (λ q ne h. Contains-append_left changed (p ∷ []) q (are.listed q h));
}

-- ---- a record is done

pub record Changed (r : Record) (lsn : ℕ) (old new : List Frame) : Type 0 where
  pub kept : SameKept old new
  pub pages : (p : ℕ) → (page_at old p).page ≡ p → page_at new p ≡ step lsn (page_at old p) r
  pub copies : SameCopies old new
  pub size : length new ≡ length old

some_of : {A : Type 0} (o : Option A) → IsSome o → (x : A) × (o ≡ Some x)
some_of None h = absurd cc
some_of (Some x) h = (x, refl)

equal : (m n : ℕ) → m ≡ n → nat_eq m n ≡ true
equal m n h = grind (arith, nat_tests)

different : (m n : ℕ) → m ≢ n → nat_eq m n ≡ false
different m n h = grind (arith, nat_tests)

step_mine : (lsn : ℕ) (page : Image) (r : Record) → page_of r ≡ page.page → step lsn page r ≡ effect r lsn page
step_mine lsn page r is = ap (λ (b : Bool). cond b (effect r lsn page) page) (equal (page_of r) page.page is)

step_other : (lsn : ℕ) (page : Image) (r : Record) → page_of r ≢ page.page → step lsn page r ≡ page
step_other lsn page r ne = ap (λ (b : Bool). cond b (effect r lsn page) page) (different (page_of r) page.page ne)

pub changed_at : (frames : List Frame) (place lsn : ℕ) (r : Record) (f new : Frame) → f ≡ frame_at frames place → place ≡ page_of r
    → HasCopy frames (page_of r) → page_of r ≡ (page_at frames (page_of r)).page
    → ((page : Image) → f.working ≡ Some page → new ≡ with_copy f (effect r lsn page)) → Changed r lsn frames (set frames place new)
changed_at frames place lsn r f new is at copy mine done =
    let has : HasCopy frames place = subst (HasCopy frames) (sym at) copy in
    let lt : place < length frames = copy_within frames place has in
    let some = some_of f.working (ap (λ (x : Frame). is_some x.working) is ∙ has) in
    let page : Image = some.0 in
    let there : f.working ≡ Some page = some.1 in
    let after : new ≡ with_copy f (effect r lsn page) = done page there in
    let now : page_at frames place ≡ page =
    ap (page_in place) (sym is) ∙ ap (λ (o : Option Image). unwrap_or o (kept_of place f)) there in
    let number : page_of r ≡ page.page = mine ∙ ap (λ (q : ℕ). (page_at frames q).page) (sym at) ∙ ap (λ (im : Image). im.page) now in
    record {
      kept = at_set frames place new (λ (q : ℕ) (x : Frame). kept_of q x ≡ kept_at frames q) lt
          (ap (kept_of place) after ∙ ap (kept_of place) is) (λ q ne. refl);
      pages = at_set frames place new (λ (q : ℕ) (x : Frame). (page_at frames q).page ≡ q → page_in q x ≡ step lsn (page_at frames q) r) lt
          (λ e. ap (page_in place) after ∙ sym (ap (λ (im : Image). step lsn im r) now ∙ step_mine lsn page r number))
          (λ q ne e. sym (step_other lsn (page_at frames q) r (λ same. ne (sym (at ∙ same ∙ e)))));
      copies = at_set frames place new (λ (q : ℕ) (x : Frame). HasCopy frames q → IsSome x.working) lt
          (λ h. ap (λ (x : Frame). is_some x.working) after) (λ q ne h. h);
      size = length-set frames place new;
    }

pub changed_frames : (frames : List Frame) (changed : List ℕ) (place : ℕ) (f new : Frame) → AreFrames frames changed → f ≡ frame_at frames place
    → IsSome f.working → AreFrames (set frames place new) changed
changed_frames frames changed place f new are is some =
    let has : HasCopy frames place = ap (λ (x : Frame). is_some x.working) (sym is) ∙ some in
    let lt : place < length frames = copy_within frames place has in
    record {
      within = λ k d h. omega (arith, are.within k d h, length-set frames place new);
      listed = at_set frames place new (λ (q : ℕ) (x : Frame). IsSome x.working → Contains changed q) lt (λ h. are.listed place has) (λ q ne h. are.listed q h);
    }

-- ---- the changes end: they are kept, or given back

-- an end of changes leaves no working copy, and a frame without one as it is
pub record IsEnd (end : Frame → Frame) : Type 0 where
  pub none : (f : Frame) → (end f).working ≡ None
  pub stays : (f : Frame) → f.working ≡ None → end f ≡ f

abbrev frame_of : Option Image → Option Image → Frame
frame_of kept working = record { kept = kept; working = working }

settled_none : (kept working : Option Image) → working ≡ None → settled (frame_of kept working) ≡ frame_of kept working
settled_none kept None h = refl
settled_none kept (Some page) h = absurd cc

pub settled_end : IsEnd settled
settled_end = record { none = λ f. refl; stays = λ f h. settled_none f.kept f.working h }

pub unchanged_end : IsEnd unchanged
unchanged_end = record { none = λ f. refl; stays = λ f h. ap (λ (o : Option Image). frame_of f.kept o) (sym h) }

-- the changes of these pages are ended
pub record Ended (end : Frame → Frame) (pages : List ℕ) (old new : List Frame) : Type 0 where
  pub same : (p : ℕ) → end (frame_at new p) ≡ end (frame_at old p)
  pub none : (p : ℕ) → Contains pages p → (frame_at new p).working ≡ None
  pub stays : (p : ℕ) → (frame_at old p).working ≡ None → (frame_at new p).working ≡ None
  pub size : length new ≡ length old

pub none_ended : (end : Frame → Frame) (frames : List Frame) → Ended end [] frames frames
none_ended end frames = record {
  same = λ p. refl;
  none = λ p h. absurd (omega (arith, h.1));
  stays = λ p h. h;
  size = refl;
}

pub one_ended : (end : Frame → Frame) (pages : List ℕ) (old now : List Frame) (place : ℕ) (new : Frame) → IsEnd end → Ended end pages old now
    → place < length now → new ≡ end (frame_at now place) → Ended end (pages ++ place ∷ []) old (set now place new)
one_ended end pages old now place new is ended lt made = record {
  same = at_set now place new (λ (q : ℕ) (x : Frame). end x ≡ end (frame_at old q)) lt
      (ap end made ∙ is.stays (end (frame_at now place)) (is.none (frame_at now place)) ∙ ended.same place) (λ q ne. ended.same q);
  none = at_set now place new (λ (q : ℕ) (x : Frame). Contains (pages ++ place ∷ []) q → x.working ≡ None) lt
      (λ h. ap (λ (f : Frame). f.working) made ∙ is.none (frame_at now place))
      (λ q ne h. elim (Contains-push_cases pages place q h) [ inl there ↦ ended.none q there | inr here ↦ absurd (ne (sym here)) ]);
  stays = at_set now place new (λ (q : ℕ) (x : Frame). (frame_at old q).working ≡ None → x.working ≡ None) lt
      (λ h. ap (λ (f : Frame). f.working) made ∙ is.none (frame_at now place)) (λ q ne h. ended.stays q h);
  size = length-set now place new ∙ ended.size;
}

no_copy : (pages : List ℕ) (old new : List Frame) (p : ℕ) (working : Option Image) → (frame_at old p).working ≡ working
    → (IsSome working → Contains pages p) → (Contains pages p → (frame_at new p).working ≡ None)
    → ((frame_at old p).working ≡ None → (frame_at new p).working ≡ None) → (frame_at new p).working ≡ None
no_copy pages old new p None is listed none stays = stays is
no_copy pages old new p (Some page) is listed none stays = none (listed refl)

pub all_ended : (end : Frame → Frame) (pages : List ℕ) (old new : List Frame) → IsEnd end → Ended end pages old new → Ends end pages old new
all_ended end pages old new is ended = record {
  frames = λ listed p.
      let none : (frame_at new p).working ≡ None = no_copy pages old new p (frame_at old p).working refl (listed p) (ended.none p) (ended.stays p) in
      sym (is.stays (frame_at new p) none) ∙ ended.same p;
  size = ended.size;
}

settled_kept : (p : ℕ) (kept working : Option Image) → kept_of p (settled (frame_of kept working)) ≡ page_in p (frame_of kept working)
settled_kept p kept None = refl
settled_kept p kept (Some page) = refl

-- what ended changes leave of each page
pub kept_settled : (old new : List Frame) → ((p : ℕ) → frame_at new p ≡ settled (frame_at old p)) → (p : ℕ) → kept_at new p ≡ page_at old p
kept_settled old new all p = ap (kept_of p) (all p) ∙ settled_kept p (frame_at old p).kept (frame_at old p).working

pub pages_settled : (old new : List Frame) → ((p : ℕ) → frame_at new p ≡ settled (frame_at old p)) → SamePages old new
pages_settled old new all p = ap (page_in p) (all p) ∙ settled_kept p (frame_at old p).kept (frame_at old p).working

pub kept_unchanged : (old new : List Frame) → ((p : ℕ) → frame_at new p ≡ unchanged (frame_at old p)) → SameKept old new
kept_unchanged old new all p = ap (kept_of p) (all p)

pub pages_unchanged : (old new : List Frame) → ((p : ℕ) → frame_at new p ≡ unchanged (frame_at old p)) → (p : ℕ) → page_at new p ≡ kept_at old p
pages_unchanged old new all p = ap (page_in p) (all p)

none_some : {A : Type 0} (o : Option A) → o ≡ None → IsSome o → ⊥
none_some None e h = absurd cc
none_some (Some x) e h = absurd cc

pub ended_frames : (end : Frame → Frame) (old new : List Frame) (none : List ℕ) → IsEnd end → ((p : ℕ) → frame_at new p ≡ end (frame_at old p))
    → none ≡ [] → AreFrames new none
ended_frames end old new none is all empty =
    subst (λ (pages : List ℕ). AreFrames new pages) (sym empty)
    record {
      within = λ k d h. absurd (omega arith);
      listed = λ p h. absurd (none_some (frame_at new p).working (ap (λ (f : Frame). f.working) (all p) ∙ is.none (frame_at old p)) h);
    }
