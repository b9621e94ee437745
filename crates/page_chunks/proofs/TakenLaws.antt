-- A list of entries after records.
use Rattle.std.proofs.Common.{◌≡◌, ◌≢◌, ◌<◌, ◌+◌, ℕ, zero, suc, Bool, true, false, cond, nat_eq, List, [], ◌∷◌, ◌++◌, length, set, get_or, Option, Result, Ok, Err, OnOk, OnErr, is_err, refl, ap, ◌∙◌, arith}
use Rattle.std.proofs.lemmas.Bool.Decides.{nat_tests}
use Rattle.std.proofs.lemmas.List.{set-set, set-get_or, get_or-set_same}
use Rattle.page_image.specs.Image.{Image}
use Rattle.redo_record.specs.declared.redo.Record.{Record}
use Rattle.redo_record.specs.declared.redo.Group.{Group}
use Rattle.redo_record.specs.Effect.{page_of}
use Rattle.page_chunks.specs.declared.entries.Entry.{Entry}
use Rattle.page_chunks.specs.Entries.{single, with_record, taken, taken_all, IsOutside, IsPlace}
use Rattle.page_chunks.proofs.EntryLaws.{with_records}

abbrev pub pushed : ℕ → Record → Entry → Entry
pushed lsn r e = record e { pending = e.pending ++ single lsn r ∷ [] }

here : (b : Bool) (lsn : ℕ) (r : Record) (e : Entry) → b ≡ true → cond b (pushed lsn r e) e ≡ pushed lsn r e
here true lsn r e h = refl
here false lsn r e h = absurd cc

apart : (b : Bool) (lsn : ℕ) (r : Record) (e : Entry) → b ≡ false → cond b (pushed lsn r e) e ≡ e
apart true lsn r e h = absurd cc
apart false lsn r e h = refl

equal : (m n : ℕ) → m ≡ n → nat_eq m n ≡ true
equal m n h = grind (arith, nat_tests)

other : (m n : ℕ) → m ≢ n → nat_eq m n ≡ false
other m n h = grind (arith, nat_tests)

pub length-taken : (first lsn : ℕ) (r : Record) (es : List Entry) → length (taken first lsn r es) ≡ length es
length-taken first lsn r [] = refl
length-taken first lsn r (e ∷ es) = ap suc (length-taken (first + 1) lsn r es)

pub length-taken_all : (first lsn : ℕ) (rs : List Record) (es : List Entry) → length (taken_all first lsn rs es) ≡ length es
length-taken_all first lsn [] es = refl
length-taken_all first lsn (r ∷ rs) es = length-taken_all first lsn rs (taken first lsn r es) ∙ length-taken first lsn r es

-- a record for no page among them changes nothing
pub taken-outside : (first lsn : ℕ) (r : Record) (es : List Entry) → IsOutside first (length es) (page_of r) → taken first lsn r es ≡ es
taken-outside first lsn r [] h = refl
taken-outside first lsn r (e ∷ es) h =
    let away : page_of r ≢ first = λ is. let below = h.apart (omega arith) in absurd (omega arith) in
    let rest : IsOutside (first + 1) (length es) (page_of r) = record { apart = λ lt. let below = h.apart (omega arith) in omega arith } in
    ap (λ (x : Entry). x ∷ taken (first + 1) lsn r es) (apart (nat_eq (page_of r) first) lsn r e (other (page_of r) first away))
    ∙ ap (λ (xs : List Entry). e ∷ xs) (taken-outside (first + 1) lsn r es rest)

-- a record for the page at a place changes the entry there
pub taken-place : (first lsn place : ℕ) (r : Record) (es : List Entry) (d : Entry) → IsPlace first (length es) (page_of r) place
    → taken first lsn r es ≡ set es place (pushed lsn r (get_or es place d))
taken-place first lsn place r [] d h = absurd (let out = h.within in omega arith)
taken-place first lsn zero r (e ∷ es) d h =
    let out : IsOutside (first + 1) (length es) (page_of r) = record { apart = λ lt. let is = h.is in omega arith } in
    ap (λ (x : Entry). x ∷ taken (first + 1) lsn r es) (here (nat_eq (page_of r) first) lsn r e (equal (page_of r) first (let is = h.is in omega arith)))
    ∙ ap (λ (xs : List Entry). pushed lsn r e ∷ xs) (taken-outside (first + 1) lsn r es out)
taken-place first lsn (suc place) r (e ∷ es) d h =
    let away : page_of r ≢ first = λ same. let is = h.is in absurd (omega arith) in
    let rest : IsPlace (first + 1) (length es) (page_of r) place = record { within = (let w = h.within in omega arith); is = (let is = h.is in omega arith) } in
    ap (λ (x : Entry). x ∷ taken (first + 1) lsn r es) (apart (nat_eq (page_of r) first) lsn r e (other (page_of r) first away))
    ∙ ap (λ (xs : List Entry). e ∷ xs) (taken-place (first + 1) lsn place r es d rest)

same_entry : (a b : Entry) → a.base ≡ b.base → a.pending ≡ b.pending → a ≡ b
same_entry a b base pending =
    ap (λ (x : Option Image). let e : Entry = record { base = x; pending = a.pending } in e) base
    ∙ ap (λ (x : List Group). let e : Entry = record { base = b.base; pending = x } in e) pending

-- what was taken last is given back: the entry at the place without its last record
pub given_back : (first lsn place : ℕ) (r : Record) (es now : List Entry) (d back : Entry) → IsPlace first (length es) (page_of r) place → now ≡ taken first lsn r es
    → back.base ≡ (get_or now place d).base
    → ((gs : List Group) (g : Group) → (get_or now place d).pending ≡ gs ++ g ∷ [] → back.pending ≡ gs)
    → set now place back ≡ es
given_back first lsn place r es now d back h is base pending =
    let old : Entry = get_or es place d in
    let put : now ≡ set es place (pushed lsn r old) = is ∙ taken-place first lsn place r es d h in
    let there : get_or now place d ≡ pushed lsn r old = ap (λ (xs : List Entry). get_or xs place d) put ∙ get_or-set_same es place (pushed lsn r old) d h.within in
    let same_pending : back.pending ≡ old.pending = pending old.pending (single lsn r) (ap (λ (e : Entry). e.pending) there) in
    let same_base : back.base ≡ old.base = base ∙ ap (λ (e : Entry). e.base) there in
    let same : back ≡ old = same_entry back old same_base same_pending in
    ap (λ (xs : List Entry). set xs place back) put ∙ set-set es place (pushed lsn r old) back
    ∙ ap (set es place) same ∙ set-get_or es place d

-- records one after the other
pub taken_all-push : (first lsn : ℕ) (rs : List Record) (r : Record) (es : List Entry) → taken_all first lsn (rs ++ r ∷ []) es ≡ taken first lsn r (taken_all first lsn rs es)
taken_all-push first lsn [] r es = refl
taken_all-push first lsn (x ∷ rs) r es = taken_all-push first lsn rs r (taken first lsn x es)

-- ---- the entry at a place

pub entry-taken : (first lsn i : ℕ) (r : Record) (es : List Entry) (d : Entry) → i < length es
    → get_or (taken first lsn r es) i d ≡ with_record (first + i) lsn r (get_or es i d)
entry-taken first lsn i r [] d lt = absurd (omega arith)
entry-taken first lsn zero r (e ∷ es) d lt =
    let at : first ≡ first + 0 = omega arith in ap (λ (p : ℕ). with_record p lsn r e) at
entry-taken first lsn (suc i) r (e ∷ es) d lt =
    let at : (first + 1) + i ≡ first + suc i = omega arith in
    entry-taken (first + 1) lsn i r es d (omega arith) ∙ ap (λ (p : ℕ). with_record p lsn r (get_or es i d)) at

pub entry-taken_all : (first lsn i : ℕ) (rs : List Record) (es : List Entry) (d : Entry) → i < length es
    → get_or (taken_all first lsn rs es) i d ≡ with_records (first + i) lsn rs (get_or es i d)
entry-taken_all first lsn i [] es d lt = refl
entry-taken_all first lsn i (r ∷ rs) es d lt =
    let still : i < length (taken first lsn r es) = omega (arith, length-taken first lsn r es) in
    entry-taken_all first lsn i rs (taken first lsn r es) d still
    ∙ ap (with_records (first + i) lsn rs) (entry-taken first lsn i r es d lt)

-- what is said of an Ok goes on
pub ok_of : {T E : Type 0} (r : Result T E) (P Q : Type 0) → (P → Q) → OnOk r P → OnOk r Q
ok_of (Ok x) P Q f h = f h
ok_of (Err e) P Q f h = tt

-- an answer that is an error, and what is said of it
pub on_err : {T E : Type 0} (r : Result T E) (P : Type 0) → is_err r ≡ true → OnErr r P → P
on_err (Ok x) P e h = cc
on_err (Err f) P e h = h
