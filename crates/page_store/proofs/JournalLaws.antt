-- A log as bytes, of which the first are kept.
use Rattle.std.proofs.Common.{◌≡◌, ◌≤◌, ◌+◌, ℕ, zero, suc, List, [], ◌∷◌, ◌++◌, length, take, drop, Result, refl, sym, ap, subst, ◌∙◌, append_assoc, append-nil, length-append, arith}
use Rattle.std.proofs.lemmas.List.{drop_at, drop_all, take_all, length-take-le, take-append-le, drop-append-le, take-append-drop}
use Rattle.redo_record.specs.declared.redo.Group.{Group}
use Rattle.redo_record.specs.Spelling.{group_bytes, log_bytes, IsGroup, IsLog, Spells}
use Rattle.redo_record.specs.Decoding.{group_at}
use Rattle.redo_record.specs.Effect.{CountsFrom}
use Rattle.redo_record.proofs.GroupReading.{group_again, length-group_bytes}
use Rattle.redo_record.proofs.Logs.{log_bytes-append, IsLog-append, log_grows}
use Rattle.redo_record.proofs.Fold.{CountsFrom-append}
use Rattle.page_store.specs.Stored.{Stored, next_lsn, all_kept, given_back}
use Rattle.page_store.specs.Journal.{read_on, groups_from, groups_in, IsJournal}

-- ---- what a log's bytes are read as

none_read : (n : ℕ) → groups_from n [] ≡ []
unfolding group_at
none_read zero = refl
none_read (suc n) = refl

length_le : (gs : List Group) → length gs ≤ length (log_bytes gs)
length_le [] = omega arith
length_le (g ∷ gs) = omega (arith, length_le gs, length-append (group_bytes g) (log_bytes gs), length-group_bytes g)

log_read : (n : ℕ) (gs : List Group) → length gs ≤ n → IsLog gs → groups_from n (log_bytes gs) ≡ gs
log_read n [] le h = none_read n
log_read zero (g ∷ gs) le h = absurd (omega arith)
log_read (suc n) (g ∷ gs) le h =
    let bytes : List ℕ = group_bytes g ++ log_bytes gs in
    ap (λ (r : Result (Group × ℕ) ℕ). read_on r (groups_from n) bytes) (group_again g (log_bytes gs) h.0)
    ∙ ap (λ (rest : List ℕ). g ∷ groups_from n rest) (drop_at (group_bytes g) (log_bytes gs) (length (group_bytes g)) refl)
    ∙ ap (λ (others : List Group). g ∷ others) (log_read n gs (omega arith) h.1)

-- bytes are read as the groups that they spell
pub groups_spelled : (bytes : List ℕ) (gs : List Group) → Spells bytes gs → groups_in bytes ≡ gs
unfolding groups_in
groups_spelled bytes gs h =
    ap (λ (b : List ℕ). groups_from (length b) b) h.bytes_are ∙ log_read (length (log_bytes gs)) gs (length_le gs) h.groups_are

pub spelled_nil : Spells [] []
spelled_nil = record { groups_are = tt; bytes_are = refl }

pub groups_nil : groups_in [] ≡ []
groups_nil = groups_spelled [] [] spelled_nil

-- ---- a group more

pub groups_grown : (own : List ℕ) (g : Group) → Spells own (groups_in own) → IsGroup g → groups_in (own ++ group_bytes g) ≡ groups_in own ++ g ∷ []
groups_grown own g h is = groups_spelled (own ++ group_bytes g) (groups_in own ++ g ∷ []) (log_grows own (groups_in own) g h is)

at_end : (n : ℕ) (gs : List Group) (g : Group) → CountsFrom n gs → g.lsn ≡ 1 + (n + length gs) → CountsFrom n (gs ++ g ∷ [])
at_end n gs g counted next = CountsFrom-append n gs (g ∷ []) counted (omega arith, tt)

pub appended : (kept own : List ℕ) (kept_last last : ℕ) (g : Group) → IsJournal kept own kept_last last → IsGroup g
    → g.lsn ≡ 1 + length (groups_in kept ++ groups_in own) → IsJournal kept (own ++ group_bytes g) kept_last g.lsn
appended kept own kept_last last g j is next =
    let read : groups_in (own ++ group_bytes g) ≡ groups_in own ++ g ∷ [] = groups_grown own g j.own_spelled is in
    let all : groups_in kept ++ groups_in (own ++ group_bytes g) ≡ (groups_in kept ++ groups_in own) ++ g ∷ [] =
    ap (λ (gs : List Group). groups_in kept ++ gs) read ∙ sym (append_assoc (groups_in kept) (groups_in own) (g ∷ [])) in
    record {
      kept_spelled = j.kept_spelled;
      own_spelled = subst (λ (gs : List Group). Spells (own ++ group_bytes g) gs) (sym read) (log_grows own (groups_in own) g j.own_spelled is);
      counted = subst (λ (gs : List Group). CountsFrom 0 gs) (sym all) (at_end 0 (groups_in kept ++ groups_in own) g j.counted (omega arith));
      kept_last_is = j.kept_last_is;
      last_is = omega (arith, ap length all, length-append (groups_in kept ++ groups_in own) (g ∷ []));
    }

-- ---- all groups kept

pub spelled_whole : (kept own : List ℕ) (kept_last last : ℕ) → IsJournal kept own kept_last last → Spells (kept ++ own) (groups_in kept ++ groups_in own)
spelled_whole kept own kept_last last j = record {
  groups_are = IsLog-append (groups_in kept) (groups_in own) j.kept_spelled.groups_are j.own_spelled.groups_are;
  bytes_are =
      ap (λ (b : List ℕ). b ++ own) j.kept_spelled.bytes_are
      ∙ ap (λ (b : List ℕ). log_bytes (groups_in kept) ++ b) j.own_spelled.bytes_are
      ∙ sym (log_bytes-append (groups_in kept) (groups_in own));
}

pub groups_whole : (kept own : List ℕ) (kept_last last : ℕ) → IsJournal kept own kept_last last → groups_in (kept ++ own) ≡ groups_in kept ++ groups_in own
groups_whole kept own kept_last last j = groups_spelled (kept ++ own) (groups_in kept ++ groups_in own) (spelled_whole kept own kept_last last j)

-- nothing behind the kept bytes
settled : (kept : List ℕ) (last : ℕ) → Spells kept (groups_in kept) → CountsFrom 0 (groups_in kept) → last ≡ length (groups_in kept) → IsJournal kept [] last last
settled kept last spelled counted is =
    let all : groups_in kept ++ groups_in [] ≡ groups_in kept = ap (λ (gs : List Group). groups_in kept ++ gs) groups_nil ∙ append-nil (groups_in kept) in
    record {
      kept_spelled = spelled;
      own_spelled = subst (λ (gs : List Group). Spells [] gs) (sym groups_nil) spelled_nil;
      counted = subst (λ (gs : List Group). CountsFrom 0 gs) (sym all) counted;
      kept_last_is = is;
      last_is = is ∙ ap length (sym all);
    }

pub kept_whole : (kept own : List ℕ) (kept_last last : ℕ) → IsJournal kept own kept_last last → IsJournal (kept ++ own) [] last last
kept_whole kept own kept_last last j =
    let all : groups_in (kept ++ own) ≡ groups_in kept ++ groups_in own = groups_whole kept own kept_last last j in
    settled (kept ++ own) last
    (subst (λ (gs : List Group). Spells (kept ++ own) gs) (sym all) (spelled_whole kept own kept_last last j))
    (subst (λ (gs : List Group). CountsFrom 0 gs) (sym all) j.counted)
    (j.last_is ∙ ap length (sym all))

-- ---- the groups behind the kept ones given back

counted_first : (n : ℕ) (gs hs : List Group) → CountsFrom n (gs ++ hs) → CountsFrom n gs
counted_first n [] hs h = tt
counted_first n (g ∷ gs) hs h = (h.0, counted_first (n + 1) gs hs h.1)

pub kept_alone : (kept own : List ℕ) (kept_last last : ℕ) → IsJournal kept own kept_last last → IsJournal kept [] kept_last kept_last
kept_alone kept own kept_last last j = settled kept kept_last j.kept_spelled (counted_first 0 (groups_in kept) (groups_in own) j.counted) j.kept_last_is

-- ---- the same of bytes that are parted at a place

-- what is seen of bytes that are parted there
abbrev pub seen : ℕ → List ℕ → Stored
seen split bytes = record { kept = groups_in (take split bytes); own = groups_in (drop split bytes) }

-- the bytes can be parted there
abbrev pub IsParted : List ℕ → ℕ → ℕ → ℕ → Type 0
IsParted bytes split kept_last last = IsJournal (take split bytes) (drop split bytes) kept_last last × (split ≤ length bytes)

pub new_parted : (bytes : List ℕ) (kept_last last : ℕ) → bytes ≡ [] → kept_last ≡ 0 → last ≡ 0 → IsParted bytes 0 kept_last last
new_parted bytes kept_last last none kept_is last_is =
    let nothing : IsJournal [] [] 0 0 = settled [] 0 (subst (λ (gs : List Group). Spells [] gs) (sym groups_nil) spelled_nil) (subst (λ (gs : List Group). CountsFrom 0 gs) (sym groups_nil) tt) (sym (ap length groups_nil)) in (
      subst (λ (b : List ℕ). IsJournal [] b kept_last last) (sym none)
          (subst (λ (k : ℕ). IsJournal [] [] k last) (sym kept_is) (subst (λ (k : ℕ). IsJournal [] [] 0 k) (sym last_is) nothing)),
      omega arith,
    )

pub new_seen : (bytes : List ℕ) → bytes ≡ [] → seen 0 bytes ≡ record { kept = []; own = [] }
new_seen bytes none =
    ap (λ (b : List ℕ). seen 0 b) none ∙ ap (λ (gs : List Group). let s : Stored = record { kept = gs; own = gs } in s) groups_nil

pub grown_parted : (bytes new : List ℕ) (split kept_last last : ℕ) (g : Group) → IsParted bytes split kept_last last → IsGroup g
    → g.lsn ≡ next_lsn (seen split bytes) → new ≡ bytes ++ group_bytes g → IsParted new split kept_last g.lsn
grown_parted bytes new split kept_last last g parted is next more =
    let front : take split new ≡ take split bytes = ap (take split) more ∙ take-append-le split bytes (group_bytes g) parted.1 in
    let rest : drop split new ≡ drop split bytes ++ group_bytes g = ap (drop split) more ∙ drop-append-le split bytes (group_bytes g) parted.1 in (
      subst (λ (b : List ℕ). IsJournal b (drop split new) kept_last g.lsn) (sym front)
          (subst (λ (b : List ℕ). IsJournal (take split bytes) b kept_last g.lsn) (sym rest)
          (appended (take split bytes) (drop split bytes) kept_last last g parted.0 is next)),
      omega (arith, parted.1, ap length more, length-append bytes (group_bytes g)),
    )

pub grown_seen : (bytes new : List ℕ) (split kept_last last : ℕ) (g : Group) → IsParted bytes split kept_last last → IsGroup g
    → new ≡ bytes ++ group_bytes g → seen split new ≡ record { kept = (seen split bytes).kept; own = (seen split bytes).own ++ g ∷ [] }
grown_seen bytes new split kept_last last g parted is more =
    let front : take split new ≡ take split bytes = ap (take split) more ∙ take-append-le split bytes (group_bytes g) parted.1 in
    let rest : drop split new ≡ drop split bytes ++ group_bytes g = ap (drop split) more ∙ drop-append-le split bytes (group_bytes g) parted.1 in
    ap (λ (b : List ℕ). let s : Stored = record { kept = groups_in b; own = groups_in (drop split new) } in s) front
    ∙ ap (λ (gs : List Group). let s : Stored = record { kept = groups_in (take split bytes); own = gs } in s)
    (ap groups_in rest ∙ groups_grown (drop split bytes) g parted.0.own_spelled is)

pub kept_parted : (bytes : List ℕ) (split n kept_last last : ℕ) → IsParted bytes split kept_last last → n ≡ length bytes → IsParted bytes n last last
kept_parted bytes split n kept_last last parted is =
    let whole : take split bytes ++ drop split bytes ≡ take n bytes = take-append-drop split bytes ∙ sym (take_all n bytes (omega arith)) in
    let none : drop n bytes ≡ [] = drop_all n bytes (omega arith) in (
      subst (λ (b : List ℕ). IsJournal (take n bytes) b last last) (sym none)
          (subst (λ (b : List ℕ). IsJournal b [] last last) whole (kept_whole (take split bytes) (drop split bytes) kept_last last parted.0)),
      omega arith,
    )

pub kept_seen : (bytes : List ℕ) (split n kept_last last : ℕ) → IsParted bytes split kept_last last → n ≡ length bytes → seen n bytes ≡ all_kept (seen split bytes)
kept_seen bytes split n kept_last last parted is =
    let whole : take split bytes ++ drop split bytes ≡ take n bytes = take-append-drop split bytes ∙ sym (take_all n bytes (omega arith)) in
    let none : drop n bytes ≡ [] = drop_all n bytes (omega arith) in
    ap (λ (gs : List Group). let s : Stored = record { kept = gs; own = groups_in (drop n bytes) } in s)
    (ap groups_in (sym whole) ∙ groups_whole (take split bytes) (drop split bytes) kept_last last parted.0)
    ∙ ap (λ (gs : List Group). let s : Stored = record { kept = groups_in (take split bytes) ++ groups_in (drop split bytes); own = gs } in s)
    (ap groups_in none ∙ groups_nil)

pub cut_parted : (bytes new : List ℕ) (split kept_last last : ℕ) → IsParted bytes split kept_last last → new ≡ take split bytes → IsParted new split kept_last kept_last
cut_parted bytes new split kept_last last parted cut =
    let size : length new ≡ split = ap length cut ∙ length-take-le split bytes parted.1 in
    let front : take split new ≡ take split bytes = take_all split new (omega arith) ∙ cut in
    let none : drop split new ≡ [] = drop_all split new (omega arith) in (
      subst (λ (b : List ℕ). IsJournal b (drop split new) kept_last kept_last) (sym front)
          (subst (λ (b : List ℕ). IsJournal (take split bytes) b kept_last kept_last) (sym none)
          (kept_alone (take split bytes) (drop split bytes) kept_last last parted.0)),
      omega arith,
    )

pub cut_seen : (bytes new : List ℕ) (split kept_last last : ℕ) → IsParted bytes split kept_last last → new ≡ take split bytes → seen split new ≡ given_back (seen split bytes)
cut_seen bytes new split kept_last last parted cut =
    let size : length new ≡ split = ap length cut ∙ length-take-le split bytes parted.1 in
    let front : take split new ≡ take split bytes = take_all split new (omega arith) ∙ cut in
    let none : drop split new ≡ [] = drop_all split new (omega arith) in
    ap (λ (b : List ℕ). let s : Stored = record { kept = groups_in b; own = groups_in (drop split new) } in s) front
    ∙ ap (λ (gs : List Group). let s : Stored = record { kept = groups_in (take split bytes); own = gs } in s)
    (ap groups_in none ∙ groups_nil)
