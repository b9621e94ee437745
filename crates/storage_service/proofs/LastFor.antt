-- The last group with a record for a chunk.
use Rattle.std.proofs.Common.{◌≡◌, ◌≢◌, ◌≤◌, ◌<◌, ◌+◌, ℕ, zero, suc, Bool, true, false, cond, nat_eq, eqb-true, ◌||◌, List, [], ◌∷◌, ◌++◌, length, length-append, add-zero, append-nil, map, filter, take, drop, Some, set, get_or-set_same, get_or-set_other, refl, sym, ap, subst, ◌∙◌, arith}
use Rattle.std.specs.List.{list_any}
use Rattle.std.proofs.lemmas.Bool.{true≢false}
use Rattle.redo_record.specs.declared.redo.Record.{Record}
use Rattle.redo_record.specs.declared.redo.Group.{Group}
use Rattle.redo_record.specs.Effect.{page_of, CountsFrom, LeaveAlone}
use Rattle.std.proofs.Math.Seq.{take-length}
use Rattle.std.proofs.lemmas.List.{length-take-le, take-append-drop, drop_at}
use Rattle.std.proofs.lemmas.List.Concat.{flat_map-cons}
use Rattle.std.proofs.lemmas.Option.{slice_get_within}
use Rattle.std.specs.List.{slice_get, flat_map}
use Rattle.message_model.specs.declared.Appended.{Appended}
use Rattle.message_model.specs.declared.Appended.TheVariants.{Kept, WrongOffset, Fenced}
use Rattle.log_chunks.specs.Log.{Log, GoesOn, is_kept, Appends}
use Rattle.page_chunks.specs.Entries.{single, records_for}
use Rattle.page_chunks.specs.Chunk.{Chunk, HasGot, PassBy, skipped, waiting}
use Rattle.storage_service.specs.Keeping.{IsBrought}
use Rattle.storage_service.specs.Storage.{chunk_of}
use Rattle.storage_service.proofs.Fronts.{between_more, between_one, front_of_front}
use Rattle.storage_service.proofs.Bringing.{brought_on}
use Rattle.storage_service.specs.Noting.{some_for, last_for, noted_at, AreNoted}

pub last_for-append : (c before : ℕ) (gs hs : List Group) → last_for c before (gs ++ hs) ≡ last_for c (last_for c before gs) hs
last_for-append c before [] hs = refl
last_for-append c before (g ∷ gs) hs = last_for-append c (cond (some_for c g.records) g.lsn before) gs hs

-- it never falls
grows : (c m before : ℕ) (gs : List Group) → CountsFrom m gs → before ≤ m → before ≤ last_for c before gs
grows c m before [] counts low = omega arith
grows c m before (g ∷ gs) counts low = by (some_for c g.records) (λ b h. grows c (m + 1) b gs counts.1 h)
  where
    by : (b : Bool) → ((k : ℕ) → k ≤ m + 1 → k ≤ last_for c k gs) → before ≤ last_for c (cond b g.lsn before) gs
    by true later = let lsn = counts.0 in let more = later g.lsn (omega arith) in omega arith
    by false later = later before (omega arith)

either : (b d : Bool) → (b || d) ≡ false → (b ≡ false) × (d ≡ false)
either true d h = absurd (true≢false h)
either false d h = (refl, h)

-- who has no record for the chunk has none for a page of it
none_for_page : (c p : ℕ) (rs : List Record) → chunk_of p ≡ c → some_for c rs ≡ false → list_any (λ r. nat_eq (page_of r) p) rs ≡ false
none_for_page c p [] at h = refl
none_for_page c p (r ∷ rs) at h =
    let parts = either (nat_eq (chunk_of (page_of r)) c) (some_for c rs) h in
    by (nat_eq (page_of r) p) refl parts.0 (none_for_page c p rs at parts.1)
  where
    same : nat_eq c c ≡ true
    same = grind arith

    by : (b : Bool) → nat_eq (page_of r) p ≡ b → nat_eq (chunk_of (page_of r)) c ≡ false → list_any (λ r. nat_eq (page_of r) p) rs ≡ false
        → (b || list_any (λ r. nat_eq (page_of r) p) rs) ≡ false
    by true is none rest =
        let here : chunk_of (page_of r) ≡ c = ap chunk_of (eqb-true (page_of r) p is) ∙ at in
        absurd (true≢false (sym same ∙ ap (λ (k : ℕ). nat_eq k c) (sym here) ∙ none))
    by false is none rest = rest

-- where the last such group is not past the first ones, none of the others has one
none_past : (c p m before : ℕ) (gs : List Group) → chunk_of p ≡ c → CountsFrom m gs → before ≤ m → last_for c before gs ≤ m → LeaveAlone p gs
none_past c p m before [] at counts low most = tt
none_past c p m before (g ∷ gs) at counts low most =
    by (some_for c g.records) refl most (grows c (m + 1) g.lsn gs counts.1 (let lsn = counts.0 in omega arith))
    (λ h. none_past c p (m + 1) before gs at counts.1 (omega arith) h)
  where
    by : (b : Bool) → some_for c g.records ≡ b → last_for c (cond b g.lsn before) gs ≤ m → g.lsn ≤ last_for c g.lsn gs
        → (last_for c before gs ≤ m + 1 → LeaveAlone p gs) → LeaveAlone p (g ∷ gs)
    by true is small grown later = let lsn = counts.0 in absurd (omega arith)
    by false is small grown later = (none_for_page c p g.records at is, later (omega arith))

pub leaves_alone : (c p m before n : ℕ) (gs : List Group) → chunk_of p ≡ c → CountsFrom m gs → before ≤ m → last_for c before gs ≤ m + n → LeaveAlone p (drop n gs)
leaves_alone c p m before zero gs at counts low most = none_past c p m before gs at counts low (omega arith)
leaves_alone c p m before (suc n) [] at counts low most = tt
leaves_alone c p m before (suc n) (g ∷ gs) at counts low most =
    leaves_alone c p (m + 1) (cond (some_for c g.records) g.lsn before) n gs at counts.1 (bound (some_for c g.records)) (omega arith)
  where
    bound : (b : Bool) → cond b g.lsn before ≤ m + 1
    bound true = let lsn = counts.0 in omega arith
    bound false = omega arith

-- ---- noting the records of a group

-- the last record of those that are done
any_more : (c : ℕ) (rs : List Record) (r : Record) → some_for c (rs ++ r ∷ []) ≡ (some_for c rs || nat_eq (chunk_of (page_of r)) c)
any_more c [] r = either_way (nat_eq (chunk_of (page_of r)) c)
  where
    either_way : (b : Bool) → (b || false) ≡ b
    either_way true = refl
    either_way false = refl
any_more c (x ∷ rs) r = by (nat_eq (chunk_of (page_of x)) c) (any_more c rs r)
  where
    by : (b : Bool) → some_for c (rs ++ r ∷ []) ≡ (some_for c rs || nat_eq (chunk_of (page_of r)) c)
        → (b || some_for c (rs ++ r ∷ [])) ≡ ((b || some_for c rs) || nat_eq (chunk_of (page_of r)) c)
    by true h = refl
    by false h = h

pub note_one : (noted : List ℕ) (c place lsn old : ℕ) (rs : List Record) (r : Record) → place < length noted → place ≡ chunk_of (page_of r)
    → noted_at noted c ≡ cond (some_for c rs) lsn old → noted_at (set noted place lsn) c ≡ cond (some_for c (rs ++ r ∷ [])) lsn old
note_one noted c place lsn old rs r inside at before = by (nat_eq place c) refl
  where
    done : (b d : Bool) → d ≡ true → cond (b || d) lsn old ≡ lsn
    done true d h = refl
    done false d h = ap (λ (x : Bool). cond x lsn old) h

    still : (b d : Bool) → d ≡ false → cond (b || d) lsn old ≡ cond b lsn old
    still true d h = refl
    still false d h = ap (λ (x : Bool). cond x lsn old) h

    by : (b : Bool) → nat_eq place c ≡ b → noted_at (set noted place lsn) c ≡ cond (some_for c (rs ++ r ∷ [])) lsn old
    by true h =
        let same : c ≡ place = sym (eqb-true place c h) in
        ap (noted_at (set noted place lsn)) same ∙ get_or-set_same noted place lsn 0 inside
        ∙ sym (ap (λ (x : Bool). cond x lsn old) (any_more c rs r)
        ∙ done (some_for c rs) (nat_eq (chunk_of (page_of r)) c) (ap (λ (k : ℕ). nat_eq k c) (sym at) ∙ h))
    by false h =
        let apart : c ≢ place = grind (arith, h) in
        get_or-set_other noted place c lsn 0 apart ∙ before
        ∙ sym (ap (λ (x : Bool). cond x lsn old) (any_more c rs r)
        ∙ still (some_for c rs) (nat_eq (chunk_of (page_of r)) c) (ap (λ (k : ℕ). nat_eq k c) (sym at) ∙ h))

-- ---- noting the groups of a log

pub noted_more : (gs : List Group) (before place k old : ℕ) (g : Group) → before ≤ place → slice_get gs place ≡ Some g
    → last_for k old (drop before (take (place + 1) gs)) ≡ cond (some_for k g.records) g.lsn (last_for k old (drop before (take place gs)))
noted_more gs before place k old g low is =
    let within : place < length gs = slice_get_within gs place g is in
    ap (last_for k old) (between_more gs before place (place + 1) low (omega arith) (omega arith)
    ∙ ap (λ (xs : List Group). drop before (take place gs) ++ xs) (between_one gs place g is))
    ∙ last_for-append k old (drop before (take place gs)) (g ∷ [])

pub last_bound : (c m before : ℕ) (gs : List Group) → CountsFrom m gs → before ≤ m → last_for c before gs ≤ m + length gs
last_bound c m before [] counts low = omega arith
last_bound c m before (g ∷ gs) counts low = by (some_for c g.records) (λ b h. last_bound c (m + 1) b gs counts.1 h)
  where
    by : (b : Bool) → ((k : ℕ) → k ≤ m + 1 → last_for c k gs ≤ (m + 1) + length gs) → last_for c (cond b g.lsn before) gs ≤ m + length (g ∷ gs)
    by true later = let lsn = counts.0 in let most = later g.lsn (omega arith) in omega arith
    by false later = let most = later before (omega arith) in omega arith

longer_noted : (gs more : List Group) (noted noted' : List ℕ) → AreNoted gs noted → length noted' ≡ 128
    → ((c : ℕ) → c < 128 → noted_at noted' c ≡ last_for c (noted_at noted c) (drop (length gs) (gs ++ more))) → AreNoted (gs ++ more) noted'
longer_noted gs more noted noted' are size each = record {
  all = size;
  each = λ c low.
      each c low ∙ ap (last_for c (noted_at noted c)) (drop_at gs more (length gs) refl)
      ∙ ap (λ (k : ℕ). last_for c k more) (are.each c low) ∙ sym (last_for-append c 0 gs more);
}

same_noted : (old new : Log) (noted noted' : List ℕ) → new ≡ old → AreNoted old.groups noted → length noted' ≡ 128
    → ((c : ℕ) → c < 128 → noted_at noted' c ≡ last_for c (noted_at noted c) (drop (length old.groups) new.groups)) → AreNoted new.groups noted'
same_noted old new noted noted' same are size each =
    let whole : new.groups ≡ old.groups ++ [] = ap (λ (l : Log). l.groups) same ∙ sym (append-nil old.groups) in
    subst (λ (gs : List Group). AreNoted gs noted') (sym whole) (longer_noted old.groups [] noted noted' are size (λ c low.
    each c low ∙ ap (λ (gs : List Group). last_for c (noted_at noted c) (drop (length old.groups) gs)) whole))

pub appended_noted : (old new : Log) (noted noted' bytes : List ℕ) (a : Appended) → AreNoted old.groups noted → (is_kept a ≡ true → GoesOn (length old.groups) bytes)
    → Appends old bytes new a → length noted' ≡ 128
    → ((c : ℕ) → c < 128 → noted_at noted' c ≡ last_for c (noted_at noted c) (drop (length old.groups) new.groups)) → AreNoted new.groups noted'
appended_noted old new noted noted' bytes (Kept tail) are goes h size each =
    let more = goes refl in
    let whole : new.groups ≡ old.groups ++ more.0 = ap (λ (l : Log). l.groups) (h more.0 more.1.spelled) in
    subst (λ (gs : List Group). AreNoted gs noted') (sym whole) (longer_noted old.groups more.0 noted noted' are size (λ c low.
    each c low ∙ ap (λ (gs : List Group). last_for c (noted_at noted c) (drop (length old.groups) gs)) whole))
appended_noted old new noted noted' bytes (WrongOffset tail) are goes h size each = same_noted old new noted noted' h are size each
appended_noted old new noted noted' bytes (Fenced epoch) are goes h size each = same_noted old new noted noted' h are size each

-- ---- passing over the rest

filter_none : (p : ℕ) (rs : List Record) → list_any (λ r. nat_eq (page_of r) p) rs ≡ false → filter (λ r. nat_eq (page_of r) p) rs ≡ []
filter_none p [] h = refl
filter_none p (r ∷ rs) h =
    let parts = either (nat_eq (page_of r) p) (list_any (λ r. nat_eq (page_of r) p) rs) h in
    ap (λ (b : Bool). cond b (r ∷ filter (λ r. nat_eq (page_of r) p) rs) (filter (λ r. nat_eq (page_of r) p) rs)) parts.0 ∙ filter_none p rs parts.1

no_records : (p : ℕ) (gs : List Group) → LeaveAlone p gs → flat_map (records_for p) gs ≡ []
no_records p [] h = refl
no_records p (g ∷ gs) h =
    flat_map-cons (records_for p) g gs
    ∙ ap (λ (xs : List Group). xs ++ flat_map (records_for p) gs) (ap (map (single g.lsn)) (filter_none p g.records h.0))
    ∙ no_records p gs h.1

counts_rest : (m n : ℕ) (gs : List Group) → CountsFrom m gs → CountsFrom (m + n) (drop n gs)
counts_rest m zero gs h = subst (λ (k : ℕ). CountsFrom k gs) (sym (add-zero m)) h
counts_rest m (suc n) [] h = tt
counts_rest m (suc n) (g ∷ gs) h =
    let sum : (m + 1) + n ≡ m + suc n = omega arith in
    subst (λ (k : ℕ). CountsFrom k (drop n gs)) sum (counts_rest (m + 1) n gs h.1)

counts_front : (m k : ℕ) (gs : List Group) → CountsFrom m gs → CountsFrom m (take k gs)
counts_front m zero gs h = tt
counts_front m (suc k) [] h = tt
counts_front m (suc k) (g ∷ gs) h = (h.0, counts_front (m + 1) k gs h.1)

leave_front : (p : ℕ) (gs hs : List Group) → LeaveAlone p (gs ++ hs) → LeaveAlone p gs
leave_front p [] hs h = tt
leave_front p (g ∷ gs) hs h = (h.0, leave_front p gs hs h.1)

pub skip_to : (gs : List Group) (x new : Chunk) (to : ℕ) → CountsFrom 0 gs → HasGot x (take x.applied gs) → x.applied ≤ to → to ≤ length gs
    → last_for x.number 0 gs ≤ x.applied → new ≡ skipped x to
    → ((groups more : List Group) → HasGot x groups → CountsFrom (length groups) more → PassBy x more → length groups + length more ≡ to → HasGot new (groups ++ more))
    → IsBrought gs x to new
skip_to gs x new to counts has low fits most is got =
    let n : ℕ = x.applied in
    let rest : List Group = drop n (take to gs) in
    let size : length (take n gs) ≡ n = length-take-le n gs (omega arith) in
    let whole : take n gs ++ rest ≡ take to gs = ap (λ (xs : List Group). xs ++ rest) (sym (front_of_front gs n to low fits)) ∙ take-append-drop n (take to gs) in
    let past : List Group = drop to (take (length gs) gs) in
    let parts : drop n gs ≡ rest ++ past = ap (drop n) (sym (take-length gs)) ∙ between_more gs n to (length gs) low fits (omega arith) in
    let pass : PassBy x rest = λ p h.
    let from = h.from in
    let within = h.within in
    leave_front p rest past (subst (λ (xs : List Group). LeaveAlone p xs) parts (leaves_alone x.number p 0 0 n gs (omega arith) counts (omega arith) (omega arith))) in
    let first : 0 + n ≡ length (take n gs) = omega arith in
    let counts_on : CountsFrom (length (take n gs)) rest = subst (λ (k : ℕ). CountsFrom k rest) first (counts_rest 0 n (take to gs) (counts_front 0 to gs counts)) in
    let sum : length (take n gs) + length rest ≡ to = sym (length-append (take n gs) rest) ∙ ap length whole ∙ length-take-le to gs fits in
    record {
      number = ap (λ (k : Chunk). k.number) is;
      applied = ap (λ (k : Chunk). k.applied) is;
      from = low;
      upto = fits;
      got = subst (λ (xs : List Group). HasGot new xs) whole (got (take n gs) rest has counts_on pass sum);
      waits = λ p h.
          ap (λ (k : Chunk). waiting k p) is
          ∙ sym (append-nil (waiting x p))
          ∙ ap (λ (xs : List Group). waiting x p ++ xs) (sym (no_records p rest (pass p h)));
    }

pub skip_rest : (gs : List Group) (old x new : Chunk) → CountsFrom 0 gs → IsBrought gs old x.applied x → last_for x.number 0 gs ≤ x.applied → new ≡ skipped x (length gs)
    → ((groups more : List Group) → HasGot x groups → CountsFrom (length groups) more → PassBy x more → length groups + length more ≡ length gs → HasGot new (groups ++ more))
    → IsBrought gs old (length gs) new
skip_rest gs old x new counts b most is got =
    brought_on gs old x new x.applied (length gs) b (skip_to gs x new (length gs) counts b.got b.upto (omega arith) most is got)
