-- A header is written field by field, and read back as it was written.
use Rattle.std.proofs.Common.{◌≡◌, ◌≤◌, ◌<◌, ◌+◌, ◌^◌, ℕ, List, [], ◌∷◌, ◌++◌, length, drop, set, slice_index, refl, sym, ◌∙◌, ap, arith, append_assoc, length-append}
use Rattle.std.proofs.lemmas.List.{take_at, drop_at, drop-drop, set_at, drop_more, get_or-drop}
use Rattle.rm_base.specs.Fields.{field, number, with_field}
use Rattle.rm_base.proofs.FieldLaws.{length-field, number-field}
use Rattle.page_image.specs.declared.header.Header.{Header}
use Rattle.page_image.specs.declared.kind.Kind.{Kind}
use Rattle.page_image.specs.declared.kind.Kind.TheVariants.{Unmade, Meta, Slots, Stamps, Leaf, Inner, Undo}
use Rattle.page_image.specs.Image.{kind_number, kind_with}
use Rattle.page_image.specs.Layout.{header_bytes, header_at}

drop-past : (at n : ℕ) (p old : List ℕ) → length p ≡ at → drop (at + n) (p ++ drop at old) ≡ drop (at + n) old
drop-past at n p old there =
    sym (drop-drop n at (p ++ drop at old)) ∙ ap (drop n) (drop_at p (drop at old) at there) ∙ drop-drop n at old

-- one more field after the bytes that are written
pub next_field : (n at x : ℕ) (p old was now : List ℕ) → length p ≡ at → was ≡ p ++ drop at old → now ≡ with_field n was at x → now ≡ (p ++ field n x) ++ drop (at + n) old
next_field n at x p old was now there before e =
    e ∙ ap (λ (w : List ℕ). with_field n w at x) before
    ∙ ap (λ (q : List ℕ). q ++ (field n x ++ drop (at + n) (p ++ drop at old))) (take_at p (drop at old) at there)
    ∙ ap (λ (q : List ℕ). p ++ (field n x ++ q)) (drop-past at n p old there)
    ∙ sym (append_assoc p (field n x) (drop (at + n) old))

-- one more byte after the bytes that are written
pub next_byte : (at x : ℕ) (p old was : List ℕ) → length p ≡ at → at < length old → was ≡ p ++ drop at old → set was at x ≡ (p ++ x ∷ []) ++ drop (at + 1) old
next_byte at x p old was there within before =
    ap (λ (w : List ℕ). set w at x) (before ∙ ap (λ (q : List ℕ). p ++ q) (drop_more old at 0 within))
    ∙ set_at p (slice_index old at) (drop (at + 1) old) x at there
    ∙ sym (append_assoc p (x ∷ []) (drop (at + 1) old))

regroup : (k z s p l t n w v y : List ℕ) → (((((((((k ++ z) ++ s) ++ p) ++ l) ++ t) ++ n) ++ w) ++ v) ++ y) ≡ (k ++ z) ++ (s ++ (p ++ (l ++ (t ++ (n ++ (w ++ (v ++ y)))))))
regroup k z s p l t n w v y = simp append_assoc

-- what the writes of all fields leave, one after another
pub written : (h : Header) (k : ℕ) (old b2 b4 b8 b16 b24 b28 : List ℕ) → 32 ≤ length old → k ≡ kind_number h.kind
    → b2 ≡ with_field 2 (set (set old 0 k) 1 0) 2 h.slots
    → b4 ≡ with_field 4 b2 4 h.page
    → b8 ≡ with_field 8 b4 8 h.lsn
    → b16 ≡ with_field 8 b8 16 h.structure
    → b24 ≡ with_field 4 b16 24 h.next
    → b28 ≡ with_field 2 b24 28 h.low
    → set (set b28 30 h.level) 31 0 ≡ header_bytes h ++ drop 32 old
unfolding header_bytes
written h k old b2 b4 b8 b16 b24 b28 room same e2 e4 e8 e16 e24 e28 =
    let p1 : List ℕ = k ∷ [] in
    let p2 : List ℕ = p1 ++ 0 ∷ [] in
    let p4 : List ℕ = p2 ++ field 2 h.slots in
    let p8 : List ℕ = p4 ++ field 4 h.page in
    let p16 : List ℕ = p8 ++ field 8 h.lsn in
    let p24 : List ℕ = p16 ++ field 8 h.structure in
    let p28 : List ℕ = p24 ++ field 4 h.next in
    let p30 : List ℕ = p28 ++ field 2 h.low in
    let l4 : length p4 ≡ 4 = length-append p2 (field 2 h.slots) ∙ omega (arith, length-field 2 h.slots) in
    let l8 : length p8 ≡ 8 = length-append p4 (field 4 h.page) ∙ omega (arith, length-field 4 h.page) in
    let l16 : length p16 ≡ 16 = length-append p8 (field 8 h.lsn) ∙ omega (arith, length-field 8 h.lsn) in
    let l24 : length p24 ≡ 24 = length-append p16 (field 8 h.structure) ∙ omega (arith, length-field 8 h.structure) in
    let l28 : length p28 ≡ 28 = length-append p24 (field 4 h.next) ∙ omega (arith, length-field 4 h.next) in
    let l30 : length p30 ≡ 30 = length-append p28 (field 2 h.low) ∙ omega (arith, length-field 2 h.low) in
    let l31 : length (p30 ++ h.level ∷ []) ≡ 31 = length-append p30 (h.level ∷ []) ∙ omega arith in
    let s1 : set old 0 k ≡ p1 ++ drop 1 old = next_byte 0 k [] old old refl (omega arith) refl in
    let s2 : set (set old 0 k) 1 0 ≡ p2 ++ drop 2 old = next_byte 1 0 p1 old (set old 0 k) refl (omega arith) s1 in
    let s4 : b2 ≡ p4 ++ drop 4 old = next_field 2 2 h.slots p2 old (set (set old 0 k) 1 0) b2 refl s2 e2 in
    let s8 : b4 ≡ p8 ++ drop 8 old = next_field 4 4 h.page p4 old b2 b4 l4 s4 e4 in
    let s16 : b8 ≡ p16 ++ drop 16 old = next_field 8 8 h.lsn p8 old b4 b8 l8 s8 e8 in
    let s24 : b16 ≡ p24 ++ drop 24 old = next_field 8 16 h.structure p16 old b8 b16 l16 s16 e16 in
    let s28 : b24 ≡ p28 ++ drop 28 old = next_field 4 24 h.next p24 old b16 b24 l24 s24 e24 in
    let s30 : b28 ≡ p30 ++ drop 30 old = next_field 2 28 h.low p28 old b24 b28 l28 s28 e28 in
    let s31 : set b28 30 h.level ≡ (p30 ++ h.level ∷ []) ++ drop 31 old = next_byte 30 h.level p30 old b28 l30 (omega arith) s30 in
    let s32 : set (set b28 30 h.level) 31 0 ≡ ((p30 ++ h.level ∷ []) ++ 0 ∷ []) ++ drop 32 old = next_byte 31 0 (p30 ++ h.level ∷ []) old (set b28 30 h.level) l31 (omega arith) s31 in
    s32
    ∙ ap (λ (q : List ℕ). q ++ drop 32 old) (regroup (k ∷ []) (0 ∷ []) (field 2 h.slots) (field 4 h.page) (field 8 h.lsn) (field 8 h.structure) (field 4 h.next) (field 2 h.low) (h.level ∷ []) (0 ∷ [])
    ∙ ap (λ (q : ℕ). q ∷ 0 ∷ [] ++ (field 2 h.slots ++ (field 4 h.page ++ (field 8 h.lsn ++ (field 8 h.structure ++ (field 4 h.next ++ (field 2 h.low ++ h.level ∷ 0 ∷ []))))))) same)

unfoldable header_with : Kind → ℕ → ℕ → ℕ → ℕ → ℕ → ℕ → ℕ → Header
header_with k s p l t n w v = record { kind = k; slots = s; page = p; lsn = l; structure = t; next = n; low = w; level = v }

same_parts : (k k' : Kind) (s s' p p' l l' t t' n n' w w' v v' : ℕ) → k ≡ k' → s ≡ s' → p ≡ p' → l ≡ l' → t ≡ t' → n ≡ n' → w ≡ w' → v ≡ v'
    → header_with k s p l t n w v ≡ header_with k' s' p' l' t' n' w' v'
same_parts k k' s s' p p' l l' t t' n n' w w' v v' e1 e2 e3 e4 e5 e6 e7 e8 = cc

-- headers with the same fields are the same
pub same_headers : (h g : Header) → h.kind ≡ g.kind → h.slots ≡ g.slots → h.page ≡ g.page → h.lsn ≡ g.lsn → h.structure ≡ g.structure → h.next ≡ g.next → h.low ≡ g.low → h.level ≡ g.level → h ≡ g
unfolding header_with
same_headers h g = same_parts h.kind g.kind h.slots g.slots h.page g.page h.lsn g.lsn h.structure g.structure h.next g.next h.low g.low h.level g.level

-- a kind is read back from its number
pub kind_with-kind_number : (k : Kind) → kind_with (kind_number k) ≡ k
kind_with-kind_number Unmade = refl
kind_with-kind_number Meta = refl
kind_with-kind_number Slots = refl
kind_with-kind_number Stamps = refl
kind_with-kind_number Leaf = refl
kind_with-kind_number Inner = refl
kind_with-kind_number Undo = refl

-- the numbers of a header have room in their fields
pub record HeaderFits (h : Header) : Type 0 where
  pub slots_fit : h.slots < 2 ^ 16
  pub page_fits : h.page < 2 ^ 32
  pub lsn_fits : h.lsn < 2 ^ 64
  pub structure_fits : h.structure < 2 ^ 64
  pub next_fits : h.next < 2 ^ 32
  pub low_fits : h.low < 2 ^ 16

past_field : (n at x : ℕ) (bytes t : List ℕ) → drop at bytes ≡ field n x ++ t → drop (at + n) bytes ≡ t
past_field n at x bytes t e = sym (drop-drop n at bytes) ∙ ap (drop n) e ∙ drop_at (field n x) t n (length-field n x)

read_field : (n at x : ℕ) (bytes t : List ℕ) → x < 256 ^ n → drop at bytes ≡ field n x ++ t → number n (drop at bytes) ≡ x
read_field n at x bytes t small e = ap (number n) e ∙ number-field n x t small

open_up : (s p l t n w v rest : List ℕ) → (s ++ (p ++ (l ++ (t ++ (n ++ (w ++ v)))))) ++ rest ≡ s ++ (p ++ (l ++ (t ++ (n ++ (w ++ (v ++ rest))))))
open_up s p l t n w v rest = simp append_assoc

-- a header is read back, whatever follows it
pub header_at-header_bytes : (h : Header) (rest : List ℕ) → HeaderFits h → header_at (header_bytes h ++ rest) ≡ h
unfolding header_bytes
header_at-header_bytes h rest fits =
    let bytes : List ℕ = header_bytes h ++ rest in
    let t30 : List ℕ = h.level ∷ 0 ∷ rest in
    let t28 : List ℕ = field 2 h.low ++ t30 in
    let t24 : List ℕ = field 4 h.next ++ t28 in
    let t16 : List ℕ = field 8 h.structure ++ t24 in
    let t8 : List ℕ = field 8 h.lsn ++ t16 in
    let t4 : List ℕ = field 4 h.page ++ t8 in
    let d2 : drop 2 bytes ≡ field 2 h.slots ++ t4 =
    open_up (field 2 h.slots) (field 4 h.page) (field 8 h.lsn) (field 8 h.structure) (field 4 h.next) (field 2 h.low) (h.level ∷ 0 ∷ []) rest in
    let d4 : drop 4 bytes ≡ t4 = past_field 2 2 h.slots bytes t4 d2 in
    let d8 : drop 8 bytes ≡ t8 = past_field 4 4 h.page bytes t8 d4 in
    let d16 : drop 16 bytes ≡ t16 = past_field 8 8 h.lsn bytes t16 d8 in
    let d24 : drop 24 bytes ≡ t24 = past_field 8 16 h.structure bytes t24 d16 in
    let d28 : drop 28 bytes ≡ t28 = past_field 4 24 h.next bytes t28 d24 in
    let d30 : drop 30 bytes ≡ t30 = past_field 2 28 h.low bytes t30 d28 in
    let level_is : slice_index bytes 30 ≡ h.level = sym (get_or-drop 30 bytes 0 0) ∙ ap (λ (q : List ℕ). slice_index q 0) d30 in
    same_headers (header_at bytes) h
    (kind_with-kind_number h.kind)
    (read_field 2 2 h.slots bytes t4 fits.slots_fit d2)
    (read_field 4 4 h.page bytes t8 fits.page_fits d4)
    (read_field 8 8 h.lsn bytes t16 fits.lsn_fits d8)
    (read_field 8 16 h.structure bytes t24 fits.structure_fits d16)
    (read_field 4 24 h.next bytes t28 fits.next_fits d24)
    (read_field 2 28 h.low bytes t30 fits.low_fits d28)
    level_is

-- a header has 32 bytes
pub length-header_bytes : (h : Header) → length (header_bytes h) ≡ 32
unfolding header_bytes
length-header_bytes h =
    simp length-append (simp length-field refl)

-- the last two bytes of a header
pub drop-header_bytes : (h : Header) (rest : List ℕ) → drop 30 (header_bytes h ++ rest) ≡ h.level ∷ 0 ∷ rest
unfolding header_bytes
drop-header_bytes h rest =
    let bytes : List ℕ = header_bytes h ++ rest in
    let t30 : List ℕ = h.level ∷ 0 ∷ rest in
    let t28 : List ℕ = field 2 h.low ++ t30 in
    let t24 : List ℕ = field 4 h.next ++ t28 in
    let t16 : List ℕ = field 8 h.structure ++ t24 in
    let t8 : List ℕ = field 8 h.lsn ++ t16 in
    let t4 : List ℕ = field 4 h.page ++ t8 in
    let d2 : drop 2 bytes ≡ field 2 h.slots ++ t4 =
    open_up (field 2 h.slots) (field 4 h.page) (field 8 h.lsn) (field 8 h.structure) (field 4 h.next) (field 2 h.low) (h.level ∷ 0 ∷ []) rest in
    let d4 : drop 4 bytes ≡ t4 = past_field 2 2 h.slots bytes t4 d2 in
    let d8 : drop 8 bytes ≡ t8 = past_field 4 4 h.page bytes t8 d4 in
    let d16 : drop 16 bytes ≡ t16 = past_field 8 8 h.lsn bytes t16 d8 in
    let d24 : drop 24 bytes ≡ t24 = past_field 8 16 h.structure bytes t24 d16 in
    let d28 : drop 28 bytes ≡ t28 = past_field 4 24 h.next bytes t28 d24 in
    past_field 2 28 h.low bytes t30 d28

-- the bytes of a header that are no numbers
pub header-first : (h : Header) (rest : List ℕ) → slice_index (header_bytes h ++ rest) 0 ≡ kind_number h.kind
unfolding header_bytes
header-first h rest = refl

pub header-second : (h : Header) (rest : List ℕ) → slice_index (header_bytes h ++ rest) 1 ≡ 0
unfolding header_bytes
header-second h rest = refl

pub header-last : (h : Header) (rest : List ℕ) → slice_index (header_bytes h ++ rest) 31 ≡ 0
header-last h rest = sym (get_or-drop 30 (header_bytes h ++ rest) 1 0) ∙ ap (λ (q : List ℕ). slice_index q 1) (drop-header_bytes h rest)
