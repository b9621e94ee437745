-- Pages in memory that are those of a log, after a group more.
use Rattle.std.proofs.Common.{◌≡◌, ℕ, List, [], ◌∷◌, ◌++◌, sym, ap, subst, ◌∙◌, arith}
use Rattle.page_image.specs.Image.{Image, Follows}
use Rattle.redo_record.specs.declared.redo.Record.{Record}
use Rattle.redo_record.specs.declared.redo.Group.{Group}
use Rattle.redo_record.specs.Effect.{after_records, CountsFrom}
use Rattle.page_store.specs.declared.frame.Frame.{Frame}
use Rattle.page_store.specs.Stored.{Stored, groups_of, pages_of, next_lsn, with_group}
use Rattle.page_store.specs.Frames.{page_at, SameKept, SamePages}
use Rattle.page_store.specs.Holding.{Holds}
use Rattle.page_store.proofs.StoredLaws.{page_number, after_group, page_bound}

pub held_number : (frames prepared : List Frame) (s : Stored) → Holds frames s → SamePages frames prepared → (p : ℕ) → (page_at prepared p).page ≡ p
held_number frames prepared s holds same p = ap (λ (im : Image). im.page) (same p ∙ holds.pages p) ∙ page_number s p

-- the next group follows each page
pub held_follows : (frames prepared : List Frame) (s : Stored) (lsn : ℕ) → Holds frames s → SamePages frames prepared → CountsFrom 0 (groups_of s)
    → lsn ≡ next_lsn s → (p : ℕ) → Follows (page_at prepared p) lsn
held_follows frames prepared s lsn holds same counted next p =
    let below = page_bound s p counted in
    let is : (page_at prepared p).lsn ≡ (pages_of s p).lsn = ap (λ (im : Image). im.lsn) (same p ∙ holds.pages p) in
    record { some = omega arith; later = omega arith }

pub held_more : (frames prepared new : List Frame) (s t : Stored) (lsn : ℕ) (records : List Record) → Holds frames s → SameKept frames prepared → SamePages frames prepared
    → SameKept prepared new → ((p : ℕ) → page_at new p ≡ after_records lsn records (page_at prepared p)) → lsn ≡ next_lsn s
    → t ≡ record { kept = s.kept; own = s.own ++ record { lsn = lsn; records = records } ∷ [] } → Holds new t
held_more frames prepared new s t lsn records holds kept pages still done next is =
    let group : ℕ → Group = λ n. record { lsn = n; records = records } in
    let after : t ≡ with_group s records = is ∙ ap (λ (n : ℕ). let u : Stored = record { kept = s.kept; own = s.own ++ group n ∷ [] } in u) next in
    subst (λ (u : Stored). Holds new u) (sym after)
    record {
      kept = λ p. still p ∙ kept p ∙ holds.kept p;
      pages = λ p.
          done p
          ∙ ap (λ (n : ℕ). after_records n records (page_at prepared p)) next
          ∙ ap (after_records (next_lsn s) records) (pages p ∙ holds.pages p)
          ∙ sym (after_group s records p);
    }
