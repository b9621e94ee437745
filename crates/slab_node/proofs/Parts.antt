-- A slab's memory stays a part of the memory of all slots.
use Rattle.std.proofs.Common.{◌≡◌, ◌≢◌, ◌≤◌, ◌<◌, ◌+◌, replicate, ℕ, zero, suc, Bool, true, false, ◌||◌, List, [], ◌∷◌, length, Some, slice_get, set, nat_eq, eqb-true, refl, sym, ◌∙◌, ap, subst, arith, length-set}
use Rattle.std.proofs.lemmas.List.{length-replicate}
use Rattle.std.proofs.lemmas.Bool.{eq-eqb, ne_eqb, true≢false}
use Rattle.page_image.specs.Image.{Image, unmade}
use Rattle.home_model.specs.Numbered.{put}
use Rattle.node_model.specs.Slots.{Slots, address_number, died, empty_slots, written as memory_written}
use Rattle.slab_node.specs.Slab.{SlabState, IsPart, written, crashed, restarted, spans}

put_same : {A : Type 0} (f : ℕ → A) (n : ℕ) (v : A) → put f n v n ≡ v
put_same f n v = rw (eq-eqb n n refl) refl

put_other : {A : Type 0} (f : ℕ → A) (n m : ℕ) (v : A) → m ≢ n → put f n v m ≡ f m
put_other f n m v apart = rw (ne_eqb m n apart) refl

set_here : {A : Type 0} (xs : List A) (i : ℕ) (v : A) → i < length xs → slice_get (set xs i v) i ≡ Some v
set_here [] i v h = absurd (omega arith)
set_here (x ∷ xs) zero v h = refl
set_here (x ∷ xs) (suc i) v h = set_here xs i v (omega arith)

set_beside : {A : Type 0} (xs : List A) (i j : ℕ) (v : A) → j ≢ i → slice_get (set xs i v) j ≡ slice_get xs j
set_beside [] i j v h = refl
set_beside (x ∷ xs) zero zero v h = absurd (h refl)
set_beside (x ∷ xs) zero (suc j) v h = refl
set_beside (x ∷ xs) (suc i) zero v h = refl
set_beside (x ∷ xs) (suc i) (suc j) v h = set_beside xs i j v (λ e. h (ap suc e))

inside : {A : Type 0} (xs : List A) (i : ℕ) (v : A) → slice_get xs i ≡ Some v → i < length xs
inside [] i v h = absurd cc
inside (x ∷ xs) zero v h = omega arith
inside (x ∷ xs) (suc i) v h = let l = inside xs i v h in omega arith

slots_apart : (a i s t : ℕ) → t ≢ s → address_number a i t ≢ address_number a i s
slots_apart a i s t apart same = apart (omega arith)

-- no slot of a later incarnation has the address of one of this incarnation
later_apart : (a i j s t : ℕ) → i < j → s < 65536 → address_number a j t ≢ address_number a i s
later_apart a i j s t less small same = omega arith

-- a write through the slab is a write of the memory at that address
pub write_part : (S : SlabState) (M : Slots) (s : ℕ) (image : Image) → IsPart S M → s < length S.pages → length S.pages ≤ 65536
    → IsPart (written S s image) (memory_written M (address_number S.id S.incarnation s) image)
write_part S M s image part within few =
    record {
      holds = λ up t im h. by up t im h (nat_eq t s) refl;
      live = λ up t l. part.live up t (subst (λ (n : ℕ). t < n) (length-set {A = Image} S.pages s image) l);
      past = λ i t first e l. part.past i t first e (subst (λ (n : ℕ). t < n) (length-set {A = Image} S.pages s image) l);
      down = λ off t l. part.down off t (subst (λ (n : ℕ). t < n) (length-set {A = Image} S.pages s image) l);
      unwritten = λ i t later l.
          put_other M.holds (address_number S.id S.incarnation s) (address_number S.id i t) image (later_apart S.id S.incarnation i s t later (omega arith))
          ∙ part.unwritten i t later (subst (λ (n : ℕ). t < n) (length-set {A = Image} S.pages s image) l);
      unlost = λ i t later l. part.unlost i t later (subst (λ (n : ℕ). t < n) (length-set {A = Image} S.pages s image) l);
    }
  where
    by : S.up ≡ true → (t : ℕ) (im : Image) → slice_get (set S.pages s image) t ≡ Some im → (b : Bool) → nat_eq t s ≡ b
        → put M.holds (address_number S.id S.incarnation s) image (address_number S.id S.incarnation t) ≡ im
    by up t im h true e =
        let here : t ≡ s = eqb-true t s e in
        let there : slice_get (set S.pages s image) s ≡ Some im = subst (λ (k : ℕ). slice_get (set S.pages s image) k ≡ Some im) here h in
        let both : Some image ≡ Some im = sym (set_here S.pages s image within) ∙ there in
        let same : image ≡ im = cc in
        subst (λ (k : ℕ). put M.holds (address_number S.id S.incarnation s) image (address_number S.id S.incarnation k) ≡ im) (sym here)
        (put_same M.holds (address_number S.id S.incarnation s) image ∙ same)
    by up t im h false e =
        let apart : t ≢ s = grind (arith, e) in
        put_other M.holds (address_number S.id S.incarnation s) (address_number S.id S.incarnation t) image (slots_apart S.id S.incarnation s t apart)
        ∙ part.holds up t im (sym (set_beside S.pages s t image apart) ∙ h)

-- a write at an address of another slab, or of another incarnation, leaves it a part
pub beside_part : (S : SlabState) (M : Slots) (a : ℕ) (image : Image) → IsPart S M → ((i s : ℕ) → S.incarnation ≤ i → s < length S.pages → address_number S.id i s ≢ a)
    → IsPart S (memory_written M a image)
beside_part S M a image part apart =
    record {
      holds = λ up t im h. put_other M.holds a (address_number S.id S.incarnation t) image (apart S.incarnation t (omega arith) (inside S.pages t im h)) ∙ part.holds up t im h;
      live = part.live;
      past = part.past;
      down = part.down;
      unwritten = λ i t later l. put_other M.holds a (address_number S.id i t) image (apart i t (omega arith) l) ∙ part.unwritten i t later l;
      unlost = part.unlost;
    }

stays_dead : (dead span : Bool) → dead ≡ true → (dead || span) ≡ true
stays_dead dead span h = rw h refl

is_dead : (dead span : Bool) → span ≡ true → (dead || span) ≡ true
is_dead true span h = refl
is_dead false span h = h

spans_slot : (S : SlabState) (s : ℕ) → s < 65536 → spans S (address_number S.id S.incarnation s) ≡ true
spans_slot S s small = grind arith

-- a slot of a later incarnation is not among those of this one
spans_later : (S : SlabState) (i s : ℕ) → S.incarnation < i → spans S (address_number S.id i s) ≡ false
spans_later S i s later = grind arith

neither_lost : (dead span : Bool) → dead ≡ false → span ≡ false → (dead || span) ≡ false
neither_lost dead span hd hs = rw (hd, hs) refl

-- a crash loses the addresses of the slab's incarnation
pub crash_part : (S : SlabState) (M : Slots) → IsPart S M → length S.pages ≤ 65536 → IsPart (crashed S) (died M (spans S))
crash_part S M part few =
    record {
      holds = λ up. absurd (true≢false (sym up));
      live = λ up. absurd (true≢false (sym up));
      past = λ i s first e l. stays_dead (M.dead (address_number S.id i s)) (spans S (address_number S.id i s)) (part.past i s first e l);
      down = λ off s l. is_dead (M.dead (address_number S.id S.incarnation s)) (spans S (address_number S.id S.incarnation s)) (spans_slot S s (omega arith));
      unwritten = part.unwritten;
      unlost = λ i s later l. neither_lost (M.dead (address_number S.id i s)) (spans S (address_number S.id i s)) (part.unlost i s later l) (spans_later S i s later);
    }

same_copies : (n s : ℕ) (v image : Image) → slice_get (replicate n v) s ≡ Some image → v ≡ image
same_copies zero s v image h = absurd cc
same_copies (suc n) zero v image h = cc
same_copies (suc n) (suc s) v image h = same_copies n s v image h

within_copies : (n s : ℕ) (v : Image) → s < length (replicate n v) → s < n
within_copies n s v h = subst (λ (k : ℕ). s < k) (length-replicate {A = Image} n v) h

pub first_part : (S : SlabState) (n : ℕ) → S.incarnation ≡ 1 → S.up ≡ true → S.pages ≡ replicate n (unmade 0) → IsPart S empty_slots
first_part S n first up blank =
    record {
      holds = λ is_up s image h. same_copies n s (unmade 0) image (subst (λ (pages : List Image). slice_get pages s ≡ Some image) blank h);
      live = λ is_up s l. refl;
      past = λ i s least e l. absurd (omega arith);
      down = λ off s l. absurd (true≢false (sym up ∙ off));
      unwritten = λ i s later l. refl;
      unlost = λ i s later l. refl;
    }

-- a restart of a slab that is down changes nothing of the memory
pub restart_part : (S : SlabState) (M : Slots) → IsPart S M → S.up ≡ false → IsPart (restarted S) M
restart_part S M part off =
    record {
      holds = λ up s image h.
          part.unwritten (S.incarnation + 1) s (omega arith) (within_copies (length S.pages) s (unmade 0) (inside (replicate (length S.pages) (unmade 0)) s image h))
          ∙ same_copies (length S.pages) s (unmade 0) image h;
      live = λ up s l. part.unlost (S.incarnation + 1) s (omega arith) (within_copies (length S.pages) s (unmade 0) l);
      past = λ i s first e l. lost i s first e (within_copies (length S.pages) s (unmade 0) l) (nat_eq i S.incarnation) refl;
      down = λ up. absurd (true≢false up);
      unwritten = λ i s later l. part.unwritten i s (omega arith) (within_copies (length S.pages) s (unmade 0) l);
      unlost = λ i s later l. part.unlost i s (omega arith) (within_copies (length S.pages) s (unmade 0) l);
    }
  where
    lost : (i s : ℕ) → 0 < i → i < S.incarnation + 1 → s < length S.pages → (b : Bool) → nat_eq i S.incarnation ≡ b → M.dead (address_number S.id i s) ≡ true
    lost i s first e l true t = ap (λ (k : ℕ). M.dead (address_number S.id k s)) (eqb-true i S.incarnation t) ∙ part.down off s l
    lost i s first e l false t = let apart : i ≢ S.incarnation = grind (arith, t) in part.past i s first (omega arith) l
