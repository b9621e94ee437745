-- The grammar of logs: one list of groups for each log, and no group that begins another.
use Rattle.std.proofs.Common.{◌≡◌, ℕ, List, [], ◌∷◌, ◌++◌, length, drop, Result, Ok, Err, ◌⊎◌, inl, inr, refl, sym, ap, ◌∙◌, append_assoc, append-nil, length-append, arith}
use Rattle.std.proofs.lemmas.List.{drop_at}
use Rattle.std.proofs.lemmas.Grind.{flat_map-append}
use Rattle.rm_base.specs.Fields.{AreBytes}
use Rattle.redo_record.specs.declared.redo.Group.{Group}
use Rattle.redo_record.specs.Spelling.{group_bytes, log_bytes, IsGroup, IsLog, Spells, BeginsWith}
use Rattle.redo_record.specs.Decoding.{group_at}
use Rattle.redo_record.specs.Refusal.{BeginsNoGroup, IsRefusedAt}
use Rattle.redo_record.proofs.RecordsReading.{ok_is}
use Rattle.redo_record.proofs.GroupReading.{group_takes, group_again, length-group_bytes}
use Rattle.redo_record.proofs.Refusing.{refused_is, refused_again, refused_begins}

same_rest : (a x y : List ℕ) → a ++ x ≡ a ++ y → x ≡ y
same_rest a x y e = sym (drop_at a x (length a) refl) ∙ ap (drop (length a)) e ∙ drop_at a y (length a) refl

-- no group's spelling begins that of another
pub no_prefix : (g h : Group) (x y : List ℕ) → IsGroup g → IsGroup h → group_bytes g ++ x ≡ group_bytes h ++ y → (g ≡ h) × (x ≡ y)
no_prefix g h x y is_g is_h e =
    let read = sym (group_again g x is_g) ∙ ap group_at e ∙ group_again h y is_h in
    let both : (g, length (group_bytes g)) ≡ (h, length (group_bytes h)) = ok_is (g, length (group_bytes g)) (h, length (group_bytes h)) read in
    let same : g ≡ h = ap (λ (p : Group × ℕ). p.0) both in
    (same, same_rest (group_bytes g) x y (e ∙ ap (λ (k : Group). group_bytes k ++ y) (sym same)))

group_not_nil : (g : Group) (rest : List ℕ) → group_bytes g ++ rest ≡ [] → ⊥
group_not_nil g rest e =
    let none : length (group_bytes g ++ rest) ≡ 0 = ap length e in
    absurd (omega (arith, none, length-append (group_bytes g) rest, length-group_bytes g))

-- a log that begins with another's spelling begins with its groups
pub log_begins : (gs hs : List Group) (x : List ℕ) → IsLog gs → IsLog hs → log_bytes gs ++ x ≡ log_bytes hs
    → (more : List Group) × (hs ≡ gs ++ more) × (x ≡ log_bytes more)
log_begins [] hs x is_gs is_hs e = (hs, refl, e)
log_begins (g ∷ gs) [] x is_gs is_hs e = absurd (group_not_nil g (log_bytes gs ++ x) (sym (append_assoc (group_bytes g) (log_bytes gs) x) ∙ e))
log_begins (g ∷ gs) (h ∷ hs) x is_gs is_hs e =
    let first = no_prefix g h (log_bytes gs ++ x) (log_bytes hs) is_gs.0 is_hs.0 (sym (append_assoc (group_bytes g) (log_bytes gs) x) ∙ e) in
    let rest = log_begins gs hs x is_gs.1 is_hs.1 first.1 in
    (rest.0, ap (λ (k : Group). k ∷ hs) (sym first.0) ∙ ap (λ (ks : List Group). g ∷ ks) rest.1, rest.2)

no_more : (more : List Group) → [] ≡ log_bytes more → more ≡ []
no_more [] e = refl
no_more (g ∷ gs) e = absurd (group_not_nil g (log_bytes gs) (sym e))

-- bytes spell at most one list of groups
pub one_list : (bytes : List ℕ) (gs hs : List Group) → Spells bytes gs → Spells bytes hs → gs ≡ hs
one_list bytes gs hs a b =
    let m = log_begins gs hs [] a.groups_are b.groups_are (append-nil (log_bytes gs) ∙ sym a.bytes_are ∙ b.bytes_are) in
    sym (m.1 ∙ ap (λ (ks : List Group). gs ++ ks) (no_more m.0 m.2) ∙ append-nil gs)

pub log_bytes-append : (gs hs : List Group) → log_bytes (gs ++ hs) ≡ log_bytes gs ++ log_bytes hs
log_bytes-append gs hs = flat_map-append group_bytes gs hs

pub IsLog-append : (gs hs : List Group) → IsLog gs → IsLog hs → IsLog (gs ++ hs)
IsLog-append [] hs a b = b
IsLog-append (g ∷ gs) hs a b = (a.0, IsLog-append gs hs a.1 b)

-- a group joins a log
pub log_grows : (bytes : List ℕ) (gs : List Group) (g : Group) → Spells bytes gs → IsGroup g → Spells (bytes ++ group_bytes g) (gs ++ g ∷ [])
log_grows bytes gs g a is_g =
    record {
      groups_are = IsLog-append gs (g ∷ []) a.groups_are (is_g, tt);
      bytes_are =
          ap (λ (b : List ℕ). b ++ group_bytes g) a.bytes_are
          ∙ ap (λ (b : List ℕ). log_bytes gs ++ b) (sym (append-nil (group_bytes g)))
          ∙ sym (log_bytes-append gs (g ∷ []));
    }

judged : (bytes : List ℕ) (found : Result (Group × ℕ) ℕ) → AreBytes bytes → group_at bytes ≡ found
    → ((g : Group) × (n : ℕ) × BeginsWith bytes g n) ⊎ ((at : ℕ) × IsRefusedAt bytes at)
judged bytes (Ok x) fits e = inl (x.0, x.1, group_takes bytes x fits e)
judged bytes (Err at) fits e = inr (at, refused_is bytes at fits e)

-- bytes begin with a group or are refused
pub either_way : (bytes : List ℕ) → AreBytes bytes → ((g : Group) × (n : ℕ) × BeginsWith bytes g n) ⊎ ((at : ℕ) × IsRefusedAt bytes at)
either_way bytes fits = judged bytes (group_at bytes) fits refl

-- and not both
pub refused_none : (bytes : List ℕ) (at : ℕ) → AreBytes bytes → IsRefusedAt bytes at → BeginsNoGroup bytes
refused_none bytes at fits h = refused_begins bytes at (refused_again bytes at fits h)

abbrev refused : ℕ → Result (Group × ℕ) ℕ
refused at = Err at

refused_same : (m n : ℕ) → refused m ≡ refused n → m ≡ n
refused_same m n e = cc

-- at one offset
pub one_offset : (bytes : List ℕ) (m n : ℕ) → AreBytes bytes → IsRefusedAt bytes m → IsRefusedAt bytes n → m ≡ n
one_offset bytes m n fits a b = refused_same m n (sym (refused_again bytes m fits a) ∙ refused_again bytes n fits b)
