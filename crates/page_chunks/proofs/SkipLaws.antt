-- A chunk passes over groups that have no record for its pages.
use Rattle.std.proofs.Common.{◌≡◌, ◌+◌, ℕ, List, [], ◌∷◌, ◌++◌, length, map, length-append, append-nil, append_assoc, refl, sym, ap, subst, ◌∙◌, arith}
use Rattle.page_image.specs.Image.{Image}
use Rattle.std.specs.List.{list_any}
use Rattle.std.proofs.Common.{nat_eq, false}
use Rattle.redo_record.specs.declared.redo.Group.{Group}
use Rattle.redo_record.specs.Effect.{page_of, CountsFrom}
use Rattle.redo_record.proofs.Fold.{page_at-page, after_records-other}
use Rattle.page_chunks.specs.Chunk.{Chunk, InChunk, HasGot, CanShip, IsShipped, skipped, PassBy, image_at}
use Rattle.page_chunks.specs.Moves.{ship, Runs}
use Rattle.page_chunks.proofs.ChunkLaws.{records_elsewhere}
use Rattle.page_chunks.proofs.MoveLaws.{in_old, got_more}

-- no record of the group is for the page that the chunk has
elsewhere : (chunk : Chunk) (groups more : List Group) (g : Group) (p : ℕ) → HasGot chunk groups → PassBy chunk (g ∷ more) → InChunk chunk p
    → list_any (λ r. nat_eq (page_of r) (image_at chunk p).page) g.records ≡ false
elsewhere chunk groups more g p has pass h =
    let page : (image_at chunk p).page ≡ p = ap (λ (im : Image). im.page) (has.images p h) ∙ page_at-page groups p (length groups) in
    ap (λ (q : ℕ). list_any (λ r. nat_eq (page_of r) q) g.records) page ∙ (pass p h).0

-- one such group can be shipped, and that changes the LSN alone
pub passed : (chunk : Chunk) (groups more : List Group) (g : Group) → HasGot chunk groups → g.lsn ≡ length groups + 1 → PassBy chunk (g ∷ more)
    → CanShip chunk g × IsShipped chunk g (skipped chunk g.lsn)
passed chunk groups more g has next pass = (
  record {
    next = next ∙ ap (λ (n : ℕ). n + 1) (sym has.applied);
    apply = λ p h. records_elsewhere g.lsn g.records (image_at chunk p) (elsewhere chunk groups more g p has pass h);
  },
  record {
    number = refl;
    applied = refl;
    images = λ p h. sym (after_records-other g.lsn g.records (image_at chunk p) (elsewhere chunk groups more g p has pass h));
  },
)

counts_on : (groups more : List Group) (g : Group) → CountsFrom (length groups + 1) more → CountsFrom (length (groups ++ g ∷ [])) more
counts_on groups more g counts =
    let count : length groups + 1 ≡ length (groups ++ g ∷ []) = sym (length-append groups (g ∷ [])) in
    subst (λ (n : ℕ). CountsFrom n more) count counts

got_one : (chunk : Chunk) (groups more : List Group) (g : Group) → HasGot chunk groups → g.lsn ≡ length groups + 1 → PassBy chunk (g ∷ more)
    → HasGot (skipped chunk g.lsn) (groups ++ g ∷ [])
got_one chunk groups more g has next pass =
    let one = passed chunk groups more g has next pass in
    got_more chunk (skipped chunk g.lsn) g groups has one.0.next one.1

pass_on : (chunk : Chunk) (more : List Group) (g : Group) → PassBy chunk (g ∷ more) → PassBy (skipped chunk g.lsn) more
pass_on chunk more g pass p h = (pass p (in_old chunk (skipped chunk g.lsn) p refl h)).1

pub got_skipped : (chunk : Chunk) (groups more : List Group) (to : ℕ) → HasGot chunk groups → CountsFrom (length groups) more → PassBy chunk more
    → length groups + length more ≡ to → HasGot (skipped chunk to) (groups ++ more)
got_skipped chunk groups [] to has counts pass sum =
    let same : chunk.applied ≡ to = omega (arith, has.applied) in
    subst (λ (gs : List Group). HasGot (skipped chunk to) gs) (sym (append-nil groups)) (subst (λ (n : ℕ). HasGot (skipped chunk n) groups) same has)
got_skipped chunk groups (g ∷ more) to has counts pass sum =
    let count : length (groups ++ g ∷ []) ≡ length groups + 1 = length-append groups (g ∷ []) in
    let rest : length (groups ++ g ∷ []) + length more ≡ to = omega arith in
    subst (λ (gs : List Group). HasGot (skipped chunk to) gs) (append_assoc groups (g ∷ []) more)
    (got_skipped (skipped chunk g.lsn) (groups ++ g ∷ []) more to (got_one chunk groups more g has counts.0 pass) (counts_on groups more g counts.1)
    (pass_on chunk more g pass) rest)

pub skips_run : (chunk : Chunk) (groups more : List Group) → HasGot chunk groups → CountsFrom (length groups) more → PassBy chunk more
    → Runs chunk (map ship more) (skipped chunk (length groups + length more))
skips_run chunk groups [] has counts pass =
    let same : length groups + 0 ≡ chunk.applied = omega (arith, has.applied) in
    ap (skipped chunk) same
skips_run chunk groups (g ∷ more) has counts pass =
    let one = passed chunk groups more g has counts.0 pass in
    let count : length (groups ++ g ∷ []) + length more ≡ length groups + length (g ∷ more) = omega (arith, length-append groups (g ∷ [])) in
    let rest : Runs (skipped chunk g.lsn) (map ship more) (skipped chunk (length groups + length (g ∷ more))) =
    subst (λ (n : ℕ). Runs (skipped chunk g.lsn) (map ship more) (skipped chunk n)) count
    (skips_run (skipped chunk g.lsn) (groups ++ g ∷ []) more (got_one chunk groups more g has counts.0 pass) (counts_on groups more g counts.1) (pass_on chunk more g pass)) in
    (skipped chunk g.lsn, one, rest)
