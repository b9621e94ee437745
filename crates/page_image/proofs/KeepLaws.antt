-- A page keeps all rules.
use Rattle.std.proofs.Common.{◌≡◌, ◌≤◌, ◌<◌, ◌+◌, ◌-◌, ◌*◌, ◌==◌, ℕ, Bool, true, false, cond, List, [], ◌∷◌, ◌++◌, length, take, drop, get_or, slice_index, nat_lt, nat_le, Option, None, Some, refl, sym, ◌∙◌, ap, ⊎_elim, arith, append_assoc, length-append}
use Rattle.std.specs.Option.{option_or, option_map}
use Rattle.std.proofs.lemmas.List.{take_more, take_all, get_or_append_left, get_or-append_right}
use Rattle.std.proofs.lemmas.List.Elements.{All-get_or}
use Rattle.std.proofs.lemmas.Bool.{cases_Bool, and_from, lt-ltb, le-leb, eq-eqb}
use Rattle.page_image.specs.declared.header.Header.{Header}
use Rattle.page_image.specs.declared.kind.Kind.{Kind}
use Rattle.page_image.specs.declared.kind.Kind.TheVariants.{Unmade, Meta, Slots, Stamps, Leaf, Inner, Undo}
use Rattle.page_image.specs.Image.{Image, kind_number, is_slotted, has_body, used, zeros}
use Rattle.page_image.specs.Layout.{header_bytes, header_at, header_of, packed, slot_bytes, end_of, rest_bytes, page_bytes, image_of}
use Rattle.page_image.specs.Rules.{IsImage, IsPage}
use Rattle.page_image.specs.Faults.{slots_hold, lsn_holds, next_holds, low_holds, level_holds, first_broken, header_rules, slot_holds, slot_fault, zero_end, byte_fault, fault}
use Rattle.page_image.proofs.HeaderLaws.{length-header_bytes, header-first, header-second, header-last}
use Rattle.page_image.proofs.ItemLaws.{used_is, length-slot_bytes, packed-append}
use Rattle.page_image.proofs.PageLaws.{end_of-page_bytes, rest-slotted, rest-unmade, length-zeros}
use Rattle.page_image.proofs.InsertLaws.{packed_both}
use Rattle.page_image.proofs.FaultLaws.{pass_all}
use Rattle.page_image.proofs.ReadLaws.{get_or-zeros}
use Rattle.page_image.proofs.RuleLaws.{HeaderHolds, lsn_said, level_said}

kind_small : (k : Kind) → kind_number k ≤ 6
kind_small Unmade = omega arith
kind_small Meta = omega arith
kind_small Slots = omega arith
kind_small Stamps = omega arith
kind_small Leaf = omega arith
kind_small Inner = omega arith
kind_small Undo = omega arith

-- both sides of a choice hold
both_hold : (b x y : Bool) → (b ≡ true → x ≡ true) → (b ≡ false → y ≡ true) → cond b x y ≡ true
both_hold true x y left right = left refl
both_hold false x y left right = right refl

first_of : (im : Image) → slice_index (page_bytes im) 0 ≡ kind_number im.kind
unfolding page_bytes
first_of im = header-first (header_of im) (rest_bytes im)

second_of : (im : Image) → slice_index (page_bytes im) 1 ≡ 0
unfolding page_bytes
second_of im = header-second (header_of im) (rest_bytes im)

last_of : (im : Image) → slice_index (page_bytes im) 31 ≡ 0
unfolding page_bytes
last_of im = header-last (header_of im) (rest_bytes im)

-- where the lowest item begins
lowest : (im : Image) (bytes : List ℕ) → bytes ≡ page_bytes im → is_slotted im.kind ≡ true → end_of bytes (length im.items) ≡ 4096 - length (packed im.items)
lowest im bytes spelled slotted =
    ap (λ (q : List ℕ). end_of q (length im.items)) spelled ∙ end_of-page_bytes im (length im.items) slotted (omega arith)
    ∙ ap (λ (q : List (List ℕ)). 4096 - length (packed q)) (take_all (length im.items) im.items (omega arith))

-- the header keeps its rules
header_holds : (bytes : List ℕ) → IsPage bytes → HeaderHolds bytes
header_holds bytes page =
    let im : Image = image_of bytes in
    let h : Header = header_at bytes in
    let good : IsImage im = page.good in
    let count : h.slots ≡ length im.items = page.count in
    let head : slice_index bytes 0 ≡ kind_number im.kind = ap (λ (q : List ℕ). slice_index q 0) page.spelled ∙ first_of im in
    let low : h.low ≡ cond (is_slotted h.kind) (4096 - length (packed im.items)) 0 = ap (λ (q : Header). q.low) page.header_is in
    record {
      kind = omega (arith, kind_small im.kind);
      first = ap (λ (q : List ℕ). slice_index q 1) page.spelled ∙ second_of im;
      slots = both_hold (is_slotted h.kind) (nat_le h.slots 1354) (h.slots == 0)
          (λ slotted. le-leb h.slots 1354 page.slots_bound)
          (λ plain. eq-eqb h.slots 0 (count ∙ ap (λ (q : List (List ℕ)). length q) (good.no_items plain)));
      page = good.page_bound;
      lsn = lsn_said h.kind h.lsn good.unmade_only;
      structure = good.structure_bound;
      next = both_hold (is_slotted h.kind) (nat_le h.next 32767) (h.next == 0)
          (λ slotted. le-leb h.next 32767 good.next_bound)
          (λ plain. eq-eqb h.next 0 (good.next_of_items plain));
      low = both_hold (is_slotted h.kind) (h.low == end_of bytes h.slots) (h.low == 0)
          (λ slotted. eq-eqb h.low (end_of bytes h.slots)
          (low ∙ ap (λ (b : Bool). cond b (4096 - length (packed im.items)) 0) slotted
          ∙ sym (lowest im bytes page.spelled slotted) ∙ ap (end_of bytes) (sym count)))
          (λ plain. eq-eqb h.low 0 (low ∙ ap (λ (b : Bool). cond b (4096 - length (packed im.items)) 0) plain));
      level = level_said h.kind h.level good.level_fits;
      last = ap (λ (q : List ℕ). slice_index q 31) page.spelled ∙ last_of im;
    }

rule_kept : (holds : Bool) (at : ℕ) (rest : Option ℕ) → holds ≡ true → rest ≡ None → cond holds rest (Some at) ≡ None
rule_kept holds at rest e none = ap (λ (b : Bool). cond b rest (Some at)) e ∙ none

header_kept : (bytes : List ℕ) → HeaderHolds bytes → first_broken (header_rules bytes) ≡ None
header_kept bytes s =
    let h : Header = header_at bytes in
    rule_kept (nat_le (slice_index bytes 0) 6) 0 _ (le-leb (slice_index bytes 0) 6 s.kind)
    (rule_kept (slice_index bytes 1 == 0) 1 _ (eq-eqb (slice_index bytes 1) 0 s.first)
    (rule_kept (slots_hold h) 2 _ s.slots
    (rule_kept (nat_le h.page 32767) 4 _ (le-leb h.page 32767 s.page)
    (rule_kept (lsn_holds h) 8 _ s.lsn
    (rule_kept (nat_le h.structure h.lsn) 16 _ (le-leb h.structure h.lsn s.structure)
    (rule_kept (next_holds h) 24 _ s.next
    (rule_kept (low_holds bytes h) 28 _ s.low
    (rule_kept (level_holds h) 30 _ s.level
    (rule_kept (slice_index bytes 31 == 0) 31 None (eq-eqb (slice_index bytes 31) 0 s.last) refl)))))))))

has_items : (im : Image) (k : ℕ) → IsImage im → k < length im.items → is_slotted im.kind ≡ true
has_items im k good within =
    ⊎_elim (λ slotted. slotted) (λ plain. absurd (omega (arith, ap (λ (q : List (List ℕ)). length q) (good.no_items plain)))) (cases_Bool (is_slotted im.kind))

-- each slot keeps its rules
slot_kept : (im : Image) (bytes : List ℕ) (k : ℕ) → IsImage im → bytes ≡ page_bytes im → k < length im.items → slot_holds bytes (length im.items) k ≡ true
slot_kept im bytes k good spelled within =
    let slotted : is_slotted im.kind ≡ true = has_items im k good within in
    let item : List ℕ = get_or im.items k [] in
    let here : end_of bytes k ≡ 4096 - length (packed (take k im.items)) = ap (λ (q : List ℕ). end_of q k) spelled ∙ end_of-page_bytes im k slotted (omega arith) in
    let next : end_of bytes (k + 1) ≡ 4096 - length (packed (take (k + 1) im.items)) = ap (λ (q : List ℕ). end_of q (k + 1)) spelled ∙ end_of-page_bytes im (k + 1) slotted (omega arith) in
    let more : length (packed (take (k + 1) im.items)) ≡ length item + length (packed (take k im.items)) =
    ap (λ (q : List (List ℕ)). length (packed q)) (take_more im.items k [] within) ∙ ap (λ (q : List ℕ). length q) (packed-append (take k im.items) (item ∷ [])) ∙ length-append item (packed (take k im.items)) in
    let some : 1 ≤ length item = All-get_or (λ (x : List ℕ). 1 ≤ length x) im.items k [] within good.some_bytes in
    let room : length (packed im.items) + 2 * length im.items ≤ 4064 = omega (arith, used_is im.items, good.room) in
    let all : length (packed im.items) ≡ length (packed (drop (k + 1) im.items)) + length (packed (take (k + 1) im.items)) = packed_both im.items (k + 1) in
    and_from (nat_lt (end_of bytes (k + 1)) (end_of bytes k)) (nat_le (32 + 2 * length im.items) (end_of bytes (k + 1)))
    (lt-ltb (end_of bytes (k + 1)) (end_of bytes k) (omega arith))
    (le-leb (32 + 2 * length im.items) (end_of bytes (k + 1)) (omega arith))

group_zeros : (f a z p : List ℕ) → f ++ (a ++ (z ++ p)) ≡ (f ++ a) ++ (z ++ p)
group_zeros f a z p = simp append_assoc

whole : (im : Image) → page_bytes im ≡ header_bytes (header_of im) ++ rest_bytes im
unfolding page_bytes
whole im = refl

-- the bytes between slots and items are zero
gap_clear : (im : Image) (bytes : List ℕ) (k : ℕ) → IsImage im → bytes ≡ page_bytes im → is_slotted im.kind ≡ true → 32 + 2 * length im.items ≤ k → k < 4096 - length (packed im.items) → slice_index bytes k ≡ 0
gap_clear im bytes k good spelled slotted low high =
    let f : List ℕ = header_bytes (header_of im) in
    let a : List ℕ = slot_bytes 4096 im.items in
    let z : List ℕ = zeros (4064 - used im.items) in
    let parts : bytes ≡ (f ++ a) ++ (z ++ packed im.items) =
    spelled ∙ whole im ∙ ap (λ (q : List ℕ). f ++ q) (rest-slotted im slotted) ∙ group_zeros f a z (packed im.items) in
    let front : length (f ++ a) ≡ 32 + 2 * length im.items = length-append f a ∙ omega (arith, length-header_bytes (header_of im), length-slot_bytes 4096 im.items) in
    let inside : k - (32 + 2 * length im.items) < length z = omega (arith, length-zeros (4064 - used im.items), used_is im.items, good.room) in
    ap (λ (q : List ℕ). get_or q k 0) parts
    ∙ get_or-append_right (f ++ a) (z ++ packed im.items) (32 + 2 * length im.items) k 0 front low
    ∙ get_or_append_left z (packed im.items) 0 (k - (32 + 2 * length im.items)) inside
    ∙ get_or-zeros (4064 - used im.items) (k - (32 + 2 * length im.items))

-- an unmade page is zero behind its header
unmade_clear : (im : Image) (bytes : List ℕ) (k : ℕ) → bytes ≡ page_bytes im → is_slotted im.kind ≡ false → has_body im.kind ≡ false → 32 ≤ k → slice_index bytes k ≡ 0
unmade_clear im bytes k spelled plain none low =
    let f : List ℕ = header_bytes (header_of im) in
    ap (λ (q : List ℕ). get_or q k 0) (spelled ∙ whole im ∙ ap (λ (q : List ℕ). f ++ q) (rest-unmade im plain none))
    ∙ get_or-append_right f (zeros 4064) 32 k 0 (length-header_bytes (header_of im)) low
    ∙ get_or-zeros 4064 (k - 32)

-- the bytes that should be zero are
bytes_kept : (bytes : List ℕ) → IsPage bytes → (k : ℕ) → 32 + 2 * (header_at bytes).slots ≤ k → k < 32 + 2 * (header_at bytes).slots + (zero_end (header_at bytes) - (32 + 2 * (header_at bytes).slots)) → (slice_index bytes k == 0) ≡ true
bytes_kept bytes page k low high =
    let im : Image = image_of bytes in
    let h : Header = header_at bytes in
    let count : h.slots ≡ length im.items = page.count in
    let lowest_is : h.low ≡ cond (is_slotted h.kind) (4096 - length (packed im.items)) 0 = ap (λ (q : Header). q.low) page.header_is in
    eq-eqb (slice_index bytes k) 0 (
    ⊎_elim (λ slotted.
    let end : zero_end h ≡ 4096 - length (packed im.items) =
    ap (λ (b : Bool). cond b h.low (cond (has_body h.kind) 32 4096)) slotted ∙ lowest_is ∙ ap (λ (b : Bool). cond b (4096 - length (packed im.items)) 0) slotted in
    gap_clear im bytes k page.good page.spelled slotted (omega arith) (omega arith))
    (λ plain. ⊎_elim (λ body.
    let end : zero_end h ≡ 32 = ap (λ (b : Bool). cond b h.low (cond (has_body h.kind) 32 4096)) plain ∙ ap (λ (b : Bool). cond b 32 4096) body in
    absurd (omega arith))
    (λ none. unmade_clear im bytes k page.spelled plain none (omega arith))
    (cases_Bool (has_body h.kind)))
    (cases_Bool (is_slotted h.kind)))

-- a page has no fault
pub rules_from_page : (bytes : List ℕ) → IsPage bytes → fault bytes ≡ None
rules_from_page bytes page =
    let im : Image = image_of bytes in
    let h : Header = header_at bytes in
    let count : h.slots ≡ length im.items = page.count in
    let front : first_broken (header_rules bytes) ≡ None = header_kept bytes (header_holds bytes page) in
    let slots : slot_fault bytes h.slots ≡ None =
    ap (option_map (λ (i : ℕ). 32 + 2 * i)) (pass_all (slot_holds bytes h.slots) 0 h.slots (λ k low high.
    ap (λ (q : ℕ). slot_holds bytes q k) count ∙ slot_kept im bytes k page.good page.spelled (omega arith))) in
    let clear : byte_fault bytes (32 + 2 * h.slots) (zero_end h) ≡ None =
    pass_all (λ (k : ℕ). slice_index bytes k == 0) (32 + 2 * h.slots) (zero_end h - (32 + 2 * h.slots)) (bytes_kept bytes page) in
    rule_kept (length bytes == 4096) 4096 _ (eq-eqb (length bytes) 4096 page.length_is)
    (ap (λ (q : Option ℕ). option_or q (option_or (slot_fault bytes h.slots) (byte_fault bytes (32 + 2 * h.slots) (zero_end h)))) front
    ∙ ap (λ (q : Option ℕ). option_or q (byte_fault bytes (32 + 2 * h.slots) (zero_end h))) slots
    ∙ clear)
