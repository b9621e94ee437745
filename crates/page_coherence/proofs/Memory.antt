-- The slots stay one memory.
use Rattle.std.proofs.Common.{◌≡◌, ℕ, ◌≢◌, Bool, true, false, Some, None, if◌then◌else◌, arith, ◌⊎◌, inl, refl, sym, subst, ap, ◌∙◌}
use Rattle.home_model.specs.Numbered.{put}
use Rattle.home_model.specs.Entry.{Entry, takes_slot, registered}
use Rattle.page_image.specs.Image.{Image}
use Rattle.node_model.specs.Slots.{Slots, written, died, lost}
use Rattle.page_coherence.specs.Page.{Page}
use Rattle.page_coherence.specs.Moves.{handled_register}
use Rattle.page_coherence.specs.Coherence.{OneMemory}
use Rattle.page_coherence.proofs.Beside.{by_node, put_at, put_off}

-- the page has the place that it had, or none
abbrev pub KeepsPlace : Page → Page → Type 0
KeepsPlace P Q = ((Q.entry.address ≡ P.entry.address) ⊎ (Q.entry.address ≡ None)) × (Q.slot ≡ P.slot) × (Q.dead ≡ P.dead) × (Q.number ≡ P.number)

-- the same, where addresses are lost
abbrev pub LosesPlace : (ℕ → Bool) → Page → Page → Type 0
LosesPlace ds P Q = ((Q.entry.address ≡ P.entry.address) ⊎ (Q.entry.address ≡ None)) × (Q.slot ≡ P.slot) × (Q.dead ≡ lost P.dead ds) × (Q.number ≡ P.number)

pub placed : (slots : Slots) (old new : ℕ → Page) → OneMemory slots old → ((p : ℕ) → KeepsPlace (old p) (new p)) → OneMemory slots new
placed slots old new g k = record {
  slot = λ p a e d. let kp = k p in let gp = g.slot p a in grind arith;
  apart = λ p q a e f d. let kp = k p in let kq = k q in g.apart p q a (grind arith) (grind arith) d;
  dead = λ p. (k p).2 ∙ g.dead p;
  number = λ p. (k p).3 ∙ g.number p;
}

pub placed_lost : (slots : Slots) (ds : ℕ → Bool) (old new : ℕ → Page) → OneMemory slots old → ((p : ℕ) → LosesPlace ds (old p) (new p)) → OneMemory (died slots ds) new
placed_lost slots ds old new g k = record {
  slot = λ p a e d. let kp = k p in let gp = g.slot p a in let live : slots.dead a ≡ false = grind arith in grind arith;
  apart = λ p q a e f d. let kp = k p in let kq = k q in g.apart p q a (grind arith) (grind arith) (grind arith);
  dead = λ p. (k p).2 ∙ ap (λ f. lost f ds) (g.dead p);
  number = λ p. (k p).3 ∙ g.number p;
}

-- a write at the address that page p has
pub writes_memory : (slots : Slots) (old : ℕ → Page) (p a : ℕ) (v : Image) → OneMemory slots old → (old p).entry.address ≡ Some a → slots.dead a ≡ false
    → OneMemory (written slots a v) (put old p (record (old p) { slot = v }))
writes_memory slots old p a v g here d = record {
  slot = λ q b e db. (let gq = g.slot q b in let apart = g.apart q p b in grind arith);
  apart = λ q r b e f db. g.apart q r b (grind arith) (grind arith) db;
  dead = λ q. (let e = g.dead q in let f = g.dead p in grind arith);
  number = λ q. (let e = g.number q in let f = g.number p in grind arith);
}

-- page p takes a free address
takes_memory : (slots : Slots) (old : ℕ → Page) (p a : ℕ) (Q : Page) → OneMemory slots old → ((q : ℕ) → (old q).entry.address ≢ Some a)
    → Q.entry.address ≡ Some a → Q.slot ≡ slots.holds a → Q.dead ≡ (old p).dead → Q.number ≡ (old p).number → OneMemory slots (put old p Q)
takes_memory slots old p a Q g free at holds dead number = record {
  slot = λ q c e dc. (let gq = g.slot q c in let fq = free q in grind arith);
  apart = λ q r c e f dc. (let gqr = g.apart q r c in let fq = free q in let fr = free r in grind arith);
  dead = λ q. (let e = g.dead q in let f = g.dead p in grind arith);
  number = λ q. (let e = g.number q in let f = g.number p in grind arith);
}

taken : (E : Entry) (w a n : ℕ) → takes_slot E ≡ true → (registered E w a n).address ≡ Some a
taken E w a n t = grind arith

not_taken : (E : Entry) (w a n : ℕ) → takes_slot E ≡ false → (registered E w a n).address ≡ E.address
not_taken E w a n t = grind arith

pub enters_memory : (slots : Slots) (old : ℕ → Page) (p a n w : ℕ) → OneMemory slots old
    → (takes_slot (old p).entry ≡ true → (slots.dead a ≡ false) × ((q : ℕ) → (old q).entry.address ≢ Some a))
    → OneMemory slots (put old p (handled_register (old p) w a (slots.holds a) n))
enters_memory slots old p a n w g may = by_test (takes_slot (old p).entry) refl
  where
    by_test : (b : Bool) → takes_slot (old p).entry ≡ b → OneMemory slots (put old p (handled_register (old p) w a (slots.holds a) n))
    by_test true e = takes_memory slots old p a (handled_register (old p) w a (slots.holds a) n) g (may e).1 (taken (old p).entry w a n e) (ap (λ b. if b then slots.holds a else (old p).slot) e) refl refl
    by_test false e = placed slots old (put old p (handled_register (old p) w a (slots.holds a) n)) g
        (by_node (λ q. KeepsPlace (old q) (put old p (handled_register (old p) w a (slots.holds a) n) q)) p
        (subst (λ Z. KeepsPlace (old p) Z) (sym (put_at old p (handled_register (old p) w a (slots.holds a) n))) (inl (not_taken (old p).entry w a n e), ap (λ b. if b then slots.holds a else (old p).slot) e, refl, refl))
        (λ q ne. subst (λ Z. KeepsPlace (old q) Z) (sym (put_off old p (handled_register (old p) w a (slots.holds a) n) q ne)) (inl refl, refl, refl, refl)))
