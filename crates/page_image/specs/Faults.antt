-- Stated: where bytes break the rules of a page: at the first of them, in the order in which the rules stand here.
use Rattle.std.specs.Prelude.{◌==◌, ◌&&◌, ◌||◌, ℕ, zero, suc, ◌+◌, ◌-◌, ◌*◌, Bool, List, [], ◌∷◌, length, Option, None, Some, slice_index, nat_lt, nat_le, if◌then◌else◌}
use Rattle.rm_base.specs.declared.limits.TheConstants.{MAX_PAGE_ID, PAGE_BYTES, PAGE_HEADER_BYTES}
use Rattle.std.specs.Option.{option_or, option_map}
use Rattle.page_image.specs.declared.header.Header.{Header}
use Rattle.page_image.specs.Image.{is_slotted, is_inner, has_body}
use Rattle.page_image.specs.Layout.{header_at, end_of}

-- the number of slots: at most 1,354 on a page with items, 0 on others
abbrev pub slots_hold : Header → Bool
slots_hold h = if is_slotted h.kind then nat_le h.slots 1354 else h.slots == 0

-- the LSN is 0 before the page is made, and not after
abbrev pub lsn_holds : Header → Bool
lsn_holds h = if is_slotted h.kind || has_body h.kind then nat_lt 0 h.lsn else h.lsn == 0

-- a page with items links to a page or to none, others to none
abbrev pub next_holds : Header → Bool
next_holds h = if is_slotted h.kind then nat_le h.next MAX_PAGE_ID else h.next == 0

-- `low` is the offset of the last item, or the page's end without one, and 0 on a page without items
abbrev pub low_holds : List ℕ → Header → Bool
low_holds bytes h = if is_slotted h.kind then h.low == end_of bytes h.slots else h.low == 0

-- an inner page is at level 1 to 8, every other at 0
abbrev pub level_holds : Header → Bool
level_holds h = if is_inner h.kind then nat_le 1 h.level && nat_le h.level 8 else h.level == 0

-- the first offset whose rule does not hold
abbrev pub first_broken : List (ℕ × Bool) → Option ℕ
first_broken [] = None
first_broken (rule ∷ rules) = if rule.1 then first_broken rules else Some rule.0

-- the rules of the header's fields, each at its offset
abbrev pub header_rules : List ℕ → List (ℕ × Bool)
header_rules bytes =
    let h = header_at bytes in
    (0, nat_le (slice_index bytes 0) 6)
    ∷ (1, slice_index bytes 1 == 0)
    ∷ (2, slots_hold h)
    ∷ (4, nat_le h.page MAX_PAGE_ID)
    ∷ (8, lsn_holds h)
    ∷ (16, nat_le h.structure h.lsn)
    ∷ (24, next_holds h)
    ∷ (28, low_holds bytes h)
    ∷ (30, level_holds h)
    ∷ (31, slice_index bytes 31 == 0)
    ∷ []

-- the first number that fails the test, of n numbers from `from` on
abbrev pub first_failing : (ℕ → Bool) → ℕ → ℕ → Option ℕ
first_failing test from zero = None
first_failing test from (suc n) = if test from then first_failing test (suc from) n else Some from

-- item i, one of `count`, has a byte and does not reach into the slots
abbrev pub slot_holds : List ℕ → ℕ → ℕ → Bool
slot_holds bytes count i = nat_lt (end_of bytes (i + 1)) (end_of bytes i) && nat_le (PAGE_HEADER_BYTES + 2 * count) (end_of bytes (i + 1))

-- the offset of the first slot that breaks its rules
abbrev pub slot_fault : List ℕ → ℕ → Option ℕ
slot_fault bytes count = option_map (λ i. PAGE_HEADER_BYTES + 2 * i) (first_failing (slot_holds bytes count) 0 count)

-- the bytes past the slots that are zero reach up to here: to the lowest item, or on an unmade page to the end
abbrev pub zero_end : Header → ℕ
zero_end h = if is_slotted h.kind then h.low else (if has_body h.kind then PAGE_HEADER_BYTES else PAGE_BYTES)

-- the first byte from `from` up to `to` that is not zero
abbrev pub byte_fault : List ℕ → ℕ → ℕ → Option ℕ
byte_fault bytes from to = first_failing (λ k. slice_index bytes k == 0) from (to - from)

-- where bytes are no page: the header's fields first, then the slots, then the bytes that should be zero. Bytes of another length break at 4,096
abbrev pub fault : List ℕ → Option ℕ
fault bytes =
    let h = header_at bytes in
    if length bytes == PAGE_BYTES then
    option_or (first_broken (header_rules bytes))
    (option_or (slot_fault bytes h.slots) (byte_fault bytes (PAGE_HEADER_BYTES + 2 * h.slots) (zero_end h)))
    else Some PAGE_BYTES
