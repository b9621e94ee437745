-- Fronts of a log: its first groups.
use Rattle.std.proofs.Common.{◌≡◌, ◌≤◌, ◌<◌, ◌+◌, ℕ, zero, suc, List, [], ◌∷◌, ◌++◌, length, take, drop, get_or, Option, Some, unwrap_or, sym, ap, subst, ◌∙◌, append-nil, arith}
use Rattle.std.specs.List.{slice_get, flat_map}
use Rattle.std.proofs.lemmas.List.{take_more, length-take-le, take-append-drop, take-append-le, drop-append-le, drop_at, drop_all}
use Rattle.std.proofs.lemmas.Grind.{flat_map-append}
use Rattle.std.proofs.lemmas.Option.{slice_get_within, unwrap_or-slice_get}
use Rattle.page_image.specs.Image.{Image, unmade}
use Rattle.redo_record.specs.declared.redo.Group.{Group}
use Rattle.redo_record.specs.Effect.{after_groups, page_at, CountsFrom, RecordsApply, GroupsApply}
use Rattle.redo_record.proofs.Fold.{GroupsApply-first, GroupsApply-rest, CountsFrom-up_to, page_at-all}
use Rattle.page_chunks.specs.Entries.{records_for}
use Rattle.storage_service.specs.Shipping.{records_between}

-- the group at a place has the LSN that the place counts
pub lsn_at : (n k : ℕ) (gs : List Group) (g : Group) → CountsFrom n gs → slice_get gs k ≡ Some g → g.lsn ≡ n + k + 1
lsn_at n k [] g h is = absurd cc
lsn_at n zero (x ∷ gs) g h is =
    let same : x ≡ g = cc in
    let lsn : x.lsn ≡ g.lsn = ap (λ (y : Group). y.lsn) same in omega (arith, h.0)
lsn_at n (suc k) (x ∷ gs) g h is = let more = lsn_at (n + 1) k gs g h.1 is in omega arith

pub front_more : (gs : List Group) (n : ℕ) (g : Group) → slice_get gs n ≡ Some g → take (n + 1) gs ≡ take n gs ++ g ∷ []
front_more gs n g is =
    let within : n < length gs = slice_get_within gs n g is in
    let at : get_or gs n g ≡ g = sym (unwrap_or-slice_get gs n g) ∙ ap (λ (o : Option Group). unwrap_or o g) is in
    take_more gs n g within ∙ ap (λ (x : Group). take n gs ++ x ∷ []) at

pub front_of_front : (gs : List Group) (m k : ℕ) → m ≤ k → k ≤ length gs → take m (take k gs) ≡ take m gs
front_of_front gs m k le fits =
    let size : length (take k gs) ≡ k = length-take-le k gs fits in
    let inside : m ≤ length (take k gs) = omega arith in
    sym (take-append-le m (take k gs) (drop k gs) inside) ∙ ap (take m) (take-append-drop k gs)

-- the groups past n up to k are those up to m, and then those past m
pub between_more : (gs : List Group) (n m k : ℕ) → n ≤ m → m ≤ k → k ≤ length gs → drop n (take k gs) ≡ drop n (take m gs) ++ drop m (take k gs)
between_more gs n m k low high fits =
    let parts : take m gs ++ drop m (take k gs) ≡ take k gs =
    ap (λ (xs : List Group). xs ++ drop m (take k gs)) (sym (front_of_front gs m k high fits)) ∙ take-append-drop m (take k gs) in
    let size : length (take m gs) ≡ m = length-take-le m gs (omega arith) in
    let inside : n ≤ length (take m gs) = omega arith in
    ap (drop n) (sym parts) ∙ drop-append-le n (take m gs) (drop m (take k gs)) inside

pub between_none : (gs : List Group) (n : ℕ) → n ≤ length gs → drop n (take n gs) ≡ []
between_none gs n fits =
    let size : length (take n gs) ≡ n = length-take-le n gs fits in
    drop_all n (take n gs) (omega arith)

pub between_one : (gs : List Group) (n : ℕ) (g : Group) → slice_get gs n ≡ Some g → drop n (take (n + 1) gs) ≡ g ∷ []
between_one gs n g is =
    let within : n < length gs = slice_get_within gs n g is in
    ap (drop n) (front_more gs n g is) ∙ drop_at (take n gs) (g ∷ []) n (length-take-le n gs (omega arith))

pub records_more : (gs : List Group) (n m k p : ℕ) → n ≤ m → m ≤ k → k ≤ length gs → records_between gs n k p ≡ records_between gs n m p ++ records_between gs m k p
records_more gs n m k p low high fits =
    ap (flat_map (records_for p)) (between_more gs n m k low high fits) ∙ flat_map-append (records_for p) (drop n (take m gs)) (drop m (take k gs))

pub records_none : (gs : List Group) (n p : ℕ) → n ≤ length gs → records_between gs n n p ≡ []
records_none gs n p fits = ap (flat_map (records_for p)) (between_none gs n fits)

pub records_one : (gs : List Group) (n p : ℕ) (g : Group) → slice_get gs n ≡ Some g → records_between gs n (n + 1) p ≡ records_for p g
records_one gs n p g is = ap (flat_map (records_for p)) (between_one gs n g is) ∙ append-nil (records_for p g)

-- the records of the next group apply to the page that the groups before leave
pub next_applies : (gs : List Group) (n p : ℕ) (g : Group) → CountsFrom 0 (take n gs) → slice_get gs n ≡ Some g → GroupsApply gs (unmade p)
    → RecordsApply g.lsn g.records (page_at (take n gs) p (length (take n gs)))
next_applies gs n p g counts is all =
    let whole : (take n gs ++ g ∷ []) ++ drop (n + 1) gs ≡ gs =
    ap (λ (xs : List Group). xs ++ drop (n + 1) gs) (sym (front_more gs n g is)) ∙ take-append-drop (n + 1) gs in
    let front = GroupsApply-first (take n gs ++ g ∷ []) (drop (n + 1) gs) (unmade p) (subst (λ (xs : List Group). GroupsApply xs (unmade p)) (sym whole) all) in
    let next = GroupsApply-rest (take n gs) (g ∷ []) (unmade p) front in
    let end : length (take n gs) ≤ length (take n gs) = omega arith in
    let left : page_at (take n gs) p (length (take n gs)) ≡ after_groups (take n gs) (unmade p) =
    page_at-all (take n gs) p (length (take n gs)) (CountsFrom-up_to 0 (length (take n gs)) (take n gs) (omega arith) counts) in
    subst (λ (im : Image). RecordsApply g.lsn g.records im) (sym left) next.0
