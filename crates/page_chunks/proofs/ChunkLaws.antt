-- A chunk's entries together.
use Rattle.std.proofs.Common.{◌≡◌, ◌≢◌, ◌<◌, ◌+◌, ◌-◌, ℕ, Bool, true, false, not, nat_eq, IsTrue, List, [], ◌∷◌, length, set, get_or, Result, Ok, Err, IfOk, OnOk, OnErr, ◌↔◌, refl, sym, ap, subst, ◌∙◌, inl, inr, arith}
use Rattle.std.specs.List.{list_any}
use Rattle.std.proofs.lemmas.Bool.{or_parts, cases_eq}
use Rattle.std.proofs.lemmas.Bool.Decides.{nat_tests}
use Rattle.std.proofs.lemmas.List.{length-set, get_or-set_same, get_or-set_other, get_or_read}
use Rattle.page_image.specs.Image.{Image}
use Rattle.redo_record.specs.declared.redo.Record.{Record}
use Rattle.redo_record.specs.declared.redo.Group.{Group}
use Rattle.redo_record.specs.Effect.{page_of, step, past, RecordsApply}
use Rattle.page_chunks.specs.declared.entries.Entry.{Entry}
use Rattle.page_chunks.specs.Entries.{empty, base_of, image_of, taken_all, Stands, entry_at, EachApplies}
use Rattle.page_chunks.specs.Chunk.{Chunk, first_page, InChunk, kept_of, waiting, IsChunk, CanShip, IsShipped}
use Rattle.page_chunks.proofs.EntryLaws.{TakenAll, with_records, stands_later, taken_records, folded-stands, not_here}
use Rattle.page_chunks.proofs.TakenLaws.{length-taken_all, entry-taken_all}

-- what is kept of a page of the chunk stands
pub kept-stands : (chunk : Chunk) (p : ℕ) → IsChunk chunk → InChunk chunk p → Stands p chunk.applied (kept_of chunk p)
kept-stands chunk p is h =
    let from = h.from in
    let within = h.within in
    let all = is.all in
    let inside : p - first_page chunk < length chunk.entries = omega arith in
    let at : first_page chunk + (p - first_page chunk) ≡ p = omega arith in
    subst (λ (q : ℕ). Stands q chunk.applied (kept_of chunk p)) at (is.each (p - first_page chunk) inside)

-- the entry that was read at the page's place
pub read_entry : (chunk : Chunk) (p place : ℕ) (e : Entry) → IsChunk chunk → InChunk chunk p → place ≡ p - first_page chunk → e ≡ get_or chunk.entries place e → e ≡ kept_of chunk p
read_entry chunk p place e is h at read =
    let from = h.from in
    let within = h.within in
    let all = is.all in
    let inside : place < length chunk.entries = omega arith in
    get_or_read chunk.entries place e inside read empty ∙ ap (λ (k : ℕ). get_or chunk.entries k empty) at

-- ---- a group is shipped

pub one_shipped : (old : Chunk) (g : Group) (p : ℕ) → IsChunk old → CanShip old g → InChunk old p
    → TakenAll p g.lsn g.records (kept_of old p) (entry_at (taken_all (first_page old) g.lsn g.records old.entries) (p - first_page old))
one_shipped old g p is can h =
    let from = h.from in
    let within = h.within in
    let all = is.all in
    let next = can.next in
    let first : ℕ = first_page old in
    let inside : p - first < length old.entries = omega arith in
    let at : first + (p - first) ≡ p = omega arith in
    let s : Stands p old.applied (kept_of old p) = kept-stands old p is h in
    let low = s.bound in
    let done = taken_records p g.lsn g.records (kept_of old p) (stands_later p old.applied g.lsn (kept_of old p) (omega arith) s) (omega arith) (can.apply p h) in
    let there : entry_at (taken_all first g.lsn g.records old.entries) (p - first) ≡ with_records p g.lsn g.records (kept_of old p) =
    entry-taken_all first g.lsn (p - first) g.records old.entries empty inside
    ∙ ap (λ (q : ℕ). with_records q g.lsn g.records (kept_of old p)) at in
    subst (λ (e : Entry). TakenAll p g.lsn g.records (kept_of old p) e) (sym there) done

abbrev pub after_ship : Chunk → Group → List Entry → Chunk
after_ship old g entries = record { number = old.number; applied = g.lsn; entries = entries }

pub shipped-chunk : (old : Chunk) (g : Group) (es : List Entry) → IsChunk old → CanShip old g → es ≡ taken_all (first_page old) g.lsn g.records old.entries → IsChunk (after_ship old g es)
shipped-chunk old g es is can taken =
    let size : length es ≡ length old.entries = ap length taken ∙ length-taken_all (first_page old) g.lsn g.records old.entries in
    let all = is.all in
    record {
      bound = is.bound;
      all = size ∙ is.all;
      each = λ i lt.
          let first : ℕ = first_page old in
          let h : InChunk old (first + i) = record { from = omega arith; within = omega arith } in
          let at : (first + i) - first ≡ i = omega arith in
          let done = (one_shipped old g (first + i) is can h).stands in
          let here : Stands (first + i) g.lsn (entry_at (taken_all first g.lsn g.records old.entries) i) =
          subst (λ (k : ℕ). Stands (first + i) g.lsn (entry_at (taken_all first g.lsn g.records old.entries) k)) at done in
          subst (λ (xs : List Entry). Stands (first + i) g.lsn (entry_at xs i)) (sym taken) here;
    }

pub shipped-images : (old : Chunk) (g : Group) (es : List Entry) → IsChunk old → CanShip old g → es ≡ taken_all (first_page old) g.lsn g.records old.entries
    → IsShipped old g (after_ship old g es)
shipped-images old g es is can taken = record {
  number = refl;
  applied = refl;
  images = λ p h.
      ap (λ (xs : List Entry). image_of p (entry_at xs (p - first_page old))) taken ∙ (one_shipped old g p is can h).image;
}

-- ---- a page is folded

pub folded_any : {T E : Type 0} (r : Result T E) (p applied : ℕ) (old new : Entry) → Stands p applied old → OnOk r (base_of p new ≡ image_of p old)
    → OnOk r (new.pending ≡ []) → OnErr r (new ≡ old) → Stands p applied new
folded_any (Ok x) p applied old new s base none err = folded-stands p applied old new s base none
folded_any (Err e) p applied old new s base none err = subst (λ (x : Entry). Stands p applied x) (sym err) s

abbrev pub after_fold : Chunk → ℕ → Entry → Chunk
after_fold old place e = record { number = old.number; applied = old.applied; entries = set old.entries place e }

pub folded-chunk : (old : Chunk) (p place : ℕ) (e : Entry) → IsChunk old → InChunk old p → place ≡ p - first_page old → Stands p old.applied e → IsChunk (after_fold old place e)
folded-chunk old p place e is h at s =
    let from = h.from in
    let within = h.within in
    let all = is.all in
    let inside : place < length old.entries = omega arith in
    let page : first_page old + place ≡ p = omega arith in
    record {
      bound = is.bound;
      all = length-set old.entries place e ∙ is.all;
      each = λ i lt.
          let low : i < length old.entries = omega (arith, length-set old.entries place e) in
          elim (cases_eq i place) [
            | inl same ↦
                let there : entry_at (set old.entries place e) i ≡ e = ap (entry_at (set old.entries place e)) same ∙ get_or-set_same old.entries place e empty inside in
                let here : p ≡ first_page old + i = omega arith in
                subst (λ (x : Entry). Stands (first_page old + i) old.applied x) (sym there) (subst (λ (q : ℕ). Stands q old.applied e) here s)
            | inr other ↦
                subst (λ (x : Entry). Stands (first_page old + i) old.applied x) (sym (get_or-set_other old.entries place i e empty other)) (is.each i low)
          ];
    }

-- the records that wait for other pages stay
pub others-wait : (old : Chunk) (p q place : ℕ) (e : Entry) → InChunk old p → InChunk old q → q ≢ p → place ≡ p - first_page old → waiting (after_fold old place e) q ≡ waiting old q
others-wait old p q place e h i differ at =
    let from = h.from in
    let start = i.from in
    let apart : (q - first_page old) ≢ place = λ same. differ (omega arith) in
    ap (λ (x : Entry). past (base_of q x).lsn x.pending) (get_or-set_other old.entries place (q - first_page old) e empty apart)

-- ---- whether records wait

pub waits : (b : Bool) (waiting pending : List Group) → waiting ≡ pending → (IsTrue b → pending ≡ []) → (pending ≡ [] → IsTrue b) → IsTrue (not b) → waiting ≢ []
waits true waiting pending same nil is h none = absurd cc
waits false waiting pending same nil is h none = let no : IsTrue false = is (sym same ∙ none) in absurd cc

pub waits_not : (b : Bool) (waiting pending : List Group) → waiting ≡ pending → (IsTrue b → pending ≡ []) → (pending ≡ [] → IsTrue b) → waiting ≢ [] → IsTrue (not b)
waits_not true waiting pending same nil is some = absurd (some (same ∙ nil refl))
waits_not false waiting pending same nil is some = refl

-- ---- whether a group can be shipped

equal : (m n : ℕ) → m ≡ n → nat_eq m n ≡ true
equal m n h = grind (arith, nat_tests)

-- records for other pages apply
pub records_elsewhere : (lsn : ℕ) (rs : List Record) (im : Image) → list_any (λ r. nat_eq (page_of r) im.page) rs ≡ false → RecordsApply lsn rs im
records_elsewhere lsn [] im e = tt
records_elsewhere lsn (r ∷ rs) im e =
    let none = or_parts (nat_eq (page_of r) im.page) (list_any (λ r. nat_eq (page_of r) im.page) rs) e in
    let still : step lsn im r ≡ im = not_here (nat_eq (page_of r) im.page) r lsn im none.0 in (
      (λ is. let here = equal (page_of r) im.page is in let no = none.0 in absurd cc),
      subst (λ (q : Image). RecordsApply lsn rs q) (sym still) (records_elsewhere lsn rs im none.1),
    )

-- the records apply to each page of the chunk where they apply at each place
pub can-ship : (chunk : Chunk) (g : Group) → IsChunk chunk → g.lsn ≡ chunk.applied + 1 → EachApplies (first_page chunk) g chunk.entries → CanShip chunk g
can-ship chunk g is next each =
    let all = is.all in
    record {
      next = next;
      apply = λ p h.
          let from = h.from in
          let within = h.within in
          let inside : p - first_page chunk < length chunk.entries = omega arith in
          let at : first_page chunk + (p - first_page chunk) ≡ p = omega arith in
          subst (λ (q : ℕ). RecordsApply g.lsn g.records (image_of q (kept_of chunk p))) at (each (p - first_page chunk) inside);
    }

pub each-applies : (chunk : Chunk) (g : Group) → IsChunk chunk → CanShip chunk g → EachApplies (first_page chunk) g chunk.entries
each-applies chunk g is can i lt =
    let all = is.all in
    let h : InChunk chunk (first_page chunk + i) = record { from = omega arith; within = omega arith } in
    let at : (first_page chunk + i) - first_page chunk ≡ i = omega arith in
    subst (λ (k : ℕ). RecordsApply g.lsn g.records (image_of (first_page chunk + i) (entry_at chunk.entries k))) at (can.apply (first_page chunk + i) h)

-- a test of one fact is a test of another that holds with it
pub tests : {E : Type 0} (r : Result Bool E) (P Q : Type 0) → (P → Q) → (Q → P) → IfOk r (λ b. IsTrue b ↔ P) → IfOk r (λ b. IsTrue b ↔ Q)
tests (Ok b) P Q f g h = ((λ t. f (h.0 t)), (λ q. h.1 (g q)))
tests (Err e) P Q f g h = tt
