-- For the proofs: lines that hand in a statement.
use Rattle.std.proofs.Common.{◌≡◌, ◌≢◌, ℕ, ◌+◌, ◌<◌, ◌==◌, eqb, ◌&&◌, ◌||◌, Bool, true, false, not, cond, nat_lt, nat_le, Option, Some, None, List, [], ◌∷◌, ◌++◌, length, take, drop, get_or, refl, sym, subst, ap, ◌∙◌, arith, append_assoc, length-append, All}
use Rattle.std.specs.Option.{option_and_then}
use Rattle.std.specs.List.{list_all, position_or_len, before_first, after_first, prefix_len, slice_split}
use Rattle.std.proofs.Math.Seq.{take-append_seam, drop-append_seam}
use Rattle.std.proofs.lemmas.Bool.{eqb-true, ne_eqb}
use Rattle.std.proofs.lemmas.Bool.Decides.{nat_tests}
use Rattle.std.proofs.lemmas.List.{get_or_default}
use Rattle.std.proofs.lemmas.List.Sums.{passes_at_first, split_at_first}
use Rattle.std.proofs.lemmas.List.Splits.{slice_split_at, length-slice_split}
use Rattle.sql_words.specs.Bytes.{is_digit}
use Rattle.sql_words.proofs.Runs.{each_passes}
use Rattle.script_text.specs.declared.forms.Form.{Form}
use Rattle.script_text.specs.declared.forms.Form.TheVariants as form
use Rattle.script_text.specs.declared.verbs.LoneVerb.TheVariants as lone
use Rattle.script_text.specs.declared.verbs.NumberVerb.TheVariants as number
use Rattle.script_text.specs.declared.verbs.NodeVerb.TheVariants as node
use Rattle.script_text.specs.declared.verbs.SlabVerb.TheVariants as slab
use Rattle.script_text.specs.Words.{words, is_blank}
use Rattle.script_text.specs.Names.{is_lower, is_name_byte, is_name, name_of}
use Rattle.script_text.specs.Statements.{text_of, statement_of}
use Rattle.script_text.specs.Grammar.{IsStatement, AreSpelled, pieces}
use Rattle.script_text.proofs.NumberLaws.{both}
use Rattle.script_text.proofs.Found.{OnFound, on-none, on-some, found, mapped}

abbrev is_colon : ℕ → Bool
is_colon b = b == 58

-- bytes of a name
lower-byte : (b : ℕ) → is_lower b ≡ true → is_name_byte b ≡ true
unfolding is_name_byte
lower-byte b h = ap (λ (t : Bool). t || is_digit b) h

pub name-bytes : (a : List ℕ) → is_name a ≡ true → list_all is_name_byte a ≡ true
unfolding is_name
name-bytes [] h = cc
name-bytes (b ∷ others) h =
    let t = both (is_lower b) (nat_le (length others) 7 && list_all is_name_byte others) h in
    let more = (both (nat_le (length others) 7) (list_all is_name_byte others) t.1).1 in
    ap (λ (p : Bool). p && list_all is_name_byte others) (lower-byte b t.0) ∙ more

colon-no : is_name_byte 58 ≡ false
unfolding is_name_byte is_lower is_digit
colon-no = refl

space-no : is_name_byte 32 ≡ false
unfolding is_name_byte is_lower is_digit
space-no = refl

true_is_false : true ≡ false → ⊥
true_is_false e = cc

byte-not : (b c : ℕ) → is_name_byte b ≡ true → is_name_byte c ≡ false → eqb b c ≡ false
byte-not b c h n = ne_eqb b c (λ e. true_is_false (sym h ∙ ap is_name_byte e ∙ n))

-- what is no byte of a name is not in one
none-in : (c : ℕ) (a : List ℕ) → is_name_byte c ≡ false → list_all is_name_byte a ≡ true → list_all (λ b. not (eqb b c)) a ≡ true
none-in c [] n h = refl
none-in c (b ∷ a) n h =
    let t = both (is_name_byte b) (list_all is_name_byte a) h in
    ap (λ (p : Bool). not p && list_all (λ b. not (eqb b c)) a) (byte-not b c t.0 n) ∙ none-in c a n t.1

-- the first such byte is right behind bytes without it
place-behind : (c : ℕ) (a rest : List ℕ) → list_all (λ b. not (eqb b c)) a ≡ true → prefix_len (λ b. not (eqb b c)) (a ++ c ∷ rest) ≡ length a
place-behind c [] rest h = let same : eqb c c ≡ true = grind (arith, nat_tests) in rw same refl
place-behind c (b ∷ a) rest h =
    let t = both (not (eqb b c)) (list_all (λ b. not (eqb b c)) a) h in
    let more : prefix_len (λ b. not (eqb b c)) (a ++ c ∷ rest) ≡ length a = place-behind c a rest t.1 in
    let here : not (eqb b c) ≡ true = t.0 in
    rw here (omega arith)

all-push : (p : ℕ → Bool) (xs : List ℕ) (y : ℕ) → list_all p xs ≡ true → p y ≡ true → list_all p (xs ++ y ∷ []) ≡ true
all-push p [] y h e = ap (λ (t : Bool). t && true) e
all-push p (x ∷ xs) y h e =
    let t = both (p x) (list_all p xs) h in
    ap (λ (q : Bool). q && list_all p (xs ++ y ∷ [])) t.0 ∙ all-push p xs y t.1 e

not-true : (b : Bool) → not b ≡ true → b ≡ false
not-true true h = cc
not-true false h = refl

all-none : (c : ℕ) (xs : List ℕ) → list_all (λ b. not (eqb b c)) xs ≡ true → All (λ (b : ℕ). eqb b c ≡ false) xs
all-none c xs h = λ k d below. ap (λ (x : ℕ). eqb x c) (get_or_default xs k d 0 below) ∙ not-true (eqb (get_or xs k 0) c) (each_passes (λ b. not (eqb b c)) xs k h below)

-- a name is the word that it is read of
pub name_of-same : (w a : List ℕ) → name_of w ≡ Some a → w ≡ a
unfolding name_of
name_of-same w a e = by_test (is_name w) e where
  by_test : (b : Bool) → cond b (Some w) None ≡ Some a → w ≡ a
  by_test true h = cc
  by_test false h = cc

name_of-is : (w a : List ℕ) → name_of w ≡ Some a → is_name w ≡ true
unfolding name_of
name_of-is w a e = by_test (is_name w) refl e where
  by_test : (b : Bool) → is_name w ≡ b → cond b (Some w) None ≡ Some a → is_name w ≡ true
  by_test true t h = t
  by_test false t h = cc

text_of-is : (back text : List ℕ) → text_of back ≡ Some text → (back ≡ 32 ∷ text) × (is_blank text ≡ false)
unfolding text_of
text_of-is [] text e = cc
text_of-is (b ∷ rest) text e = by_test (eqb b 32) (is_blank rest) refl refl e where
  by_test : (p q : Bool) → eqb b 32 ≡ p → is_blank rest ≡ q → cond (p && not q) (Some rest) None ≡ Some text → ((b ∷ rest) ≡ 32 ∷ text) × (is_blank text ≡ false)
  by_test true false s n h = let same : rest ≡ text = cc in (ap (λ x. x ∷ rest) (eqb-true b 32 s) ∙ ap (λ x. 32 ∷ x) same, ap is_blank (sym same) ∙ n)
  by_test true true s n h = cc
  by_test false q s n h = cc

text_of-some : (text : List ℕ) → is_blank text ≡ false → text_of (32 ∷ text) ≡ Some text
unfolding text_of
text_of-some text n = ap (λ (q : Bool). cond (not q) (Some text) None) n

-- a statement is handed in by the line
abbrev pub Hands : List ℕ → Form → Type 0
Hands line f = (a : List ℕ) × (text : List ℕ) × (f ≡ form.Submit a text) × IsStatement line a text

colon-cut : (line : List ℕ) → position_or_len is_colon line < length line → line ≡ before_first is_colon line ++ 58 ∷ after_first is_colon line
colon-cut line h =
    split_at_first is_colon line 0 h
    ∙ ap (λ x. before_first is_colon line ++ x ∷ after_first is_colon line) (eqb-true (get_or line (position_or_len is_colon line) 0) 58 (passes_at_first is_colon line 0 h))

-- what is read as a statement is one
pub statement-sound : (line : List ℕ) → OnFound (Hands line) (statement_of line)
unfolding statement_of
statement-sound line = by_test (nat_lt (position_or_len is_colon line) (length line)) refl where
  made : (a text : List ℕ) → position_or_len is_colon line < length line → name_of (before_first is_colon line) ≡ Some a → text_of (after_first is_colon line) ≡ Some text → Hands line (form.Submit a text)
  made a text h e f =
      let t = text_of-is (after_first is_colon line) text f in
      let same = name_of-same (before_first is_colon line) a e in
      (a, text, refl, (ap name_of (sym same) ∙ e, colon-cut line h ∙ ap (λ q. q ++ 58 ∷ after_first is_colon line) same ∙ ap (λ q. a ++ 58 ∷ q) t.0, t.1))

  by_test : (b : Bool) → nat_lt (position_or_len is_colon line) (length line) ≡ b
      → OnFound (Hands line) (cond b (option_and_then (λ name. option_and_then (λ text. Some (form.Submit name text)) (text_of (after_first is_colon line))) (name_of (before_first is_colon line))) None)
  by_test true s =
      let h : position_or_len is_colon line < length line = grind (arith, nat_tests) in
      mapped (Hands line) (λ a. name_of (before_first is_colon line) ≡ Some a) (name_of (before_first is_colon line)) _ (found (name_of (before_first is_colon line))) (λ a e.
      mapped (Hands line) (λ text. text_of (after_first is_colon line) ≡ Some text) (text_of (after_first is_colon line)) _ (found (text_of (after_first is_colon line))) (λ text f.
      on-some (Hands line) (form.Submit a text) (made a text h e f)))
  by_test false s = on-none (Hands line)

-- a statement is read as it
pub statement-complete : (line a text : List ℕ) → IsStatement line a text → statement_of line ≡ Some (form.Submit a text)
unfolding statement_of
statement-complete line a text h = ap statement_of h.1 ∙ here where
  none : list_all (λ b. not (eqb b 58)) a ≡ true
  none = none-in 58 a colon-no (name-bytes a (name_of-is a a h.0))

  place : position_or_len is_colon (a ++ 58 ∷ 32 ∷ text) ≡ length a
  place = place-behind 58 a (32 ∷ text) none

  front : before_first is_colon (a ++ 58 ∷ 32 ∷ text) ≡ a
  front = ap (λ n. take n (a ++ 58 ∷ 32 ∷ text)) place ∙ take-append_seam a (58 ∷ 32 ∷ text)

  longer : length (a ++ 58 ∷ []) ≡ length a + 1
  longer = length-append a (58 ∷ [])

  back : after_first is_colon (a ++ 58 ∷ 32 ∷ text) ≡ 32 ∷ text
  back = ap (λ n. drop (n + 1) (a ++ 58 ∷ 32 ∷ text)) place ∙ ap (λ n. drop n (a ++ 58 ∷ 32 ∷ text)) (sym longer)
      ∙ ap (drop (length (a ++ 58 ∷ []))) (sym (append_assoc a (58 ∷ []) (32 ∷ text))) ∙ drop-append_seam (a ++ 58 ∷ []) (32 ∷ text)

  within : nat_lt (position_or_len is_colon (a ++ 58 ∷ 32 ∷ text)) (length (a ++ 58 ∷ 32 ∷ text)) ≡ true
  within = let n = place in let l = length-append a (58 ∷ 32 ∷ text) in grind (arith, nat_tests)

  here : statement_of (a ++ 58 ∷ 32 ∷ text) ≡ Some (form.Submit a text)
  here =
      ap (λ (b : Bool). cond b (option_and_then (λ name. option_and_then (λ t. Some (form.Submit name t)) (text_of (after_first is_colon (a ++ 58 ∷ 32 ∷ text)))) (name_of (before_first is_colon (a ++ 58 ∷ 32 ∷ text)))) None) within
      ∙ ap (λ q. option_and_then (λ name. option_and_then (λ t. Some (form.Submit name t)) (text_of (after_first is_colon (a ++ 58 ∷ 32 ∷ text)))) (name_of q)) front
      ∙ ap (option_and_then (λ name. option_and_then (λ t. Some (form.Submit name t)) (text_of (after_first is_colon (a ++ 58 ∷ 32 ∷ text))))) h.0
      ∙ ap (λ q. option_and_then (λ t. Some (form.Submit a t)) (text_of q)) back
      ∙ ap (option_and_then (λ t. Some (form.Submit a t))) (text_of-some text h.2)

-- the first word of a statement ends in a colon
first-word : (line a text : List ℕ) → IsStatement line a text → words line ≡ (a ++ 58 ∷ []) ∷ words text
unfolding words
first-word line a text h =
    ap (slice_split (λ b. b == 32)) (h.1 ∙ sym (append_assoc a (58 ∷ []) (32 ∷ text)))
    ∙ slice_split_at (λ b. b == 32) (a ++ 58 ∷ []) 32 text (all-none 32 (a ++ 58 ∷ []) (all-push (λ b. not (eqb b 32)) a 58 (none-in 32 a space-no (name-bytes a (name_of-is a a h.0))) refl)) refl

abbrev ends_in_colon : List ℕ → Bool
ends_in_colon [] = false
ends_in_colon (b ∷ []) = b == 58
ends_in_colon (b ∷ c ∷ l) = ends_in_colon (c ∷ l)

ends : (a : List ℕ) → ends_in_colon (a ++ 58 ∷ []) ≡ true
ends [] = refl
ends (b ∷ []) = refl
ends (b ∷ c ∷ l) = ends (c ∷ l)

-- and that of no other form does
text-ends : (f : Form) (w : List ℕ) (ws : List (List ℕ)) → AreSpelled (pieces f) (w ∷ ws) → ends_in_colon w ≡ false
text-ends (form.Lone lone.DeliverLast) w ws h = ap ends_in_colon h.0
text-ends (form.Lone lone.DeliverAll) w ws h = ap ends_in_colon h.0
text-ends (form.Lone lone.Home) w ws h = ap ends_in_colon h.0
text-ends (form.Lone lone.CrashHome) w ws h = ap ends_in_colon h.0
text-ends (form.Lone lone.Renew) w ws h = ap ends_in_colon h.0
text-ends (form.Numbered number.Deliver n) w ws h = ap ends_in_colon h.0
text-ends (form.Numbered number.Ship n) w ws h = ap ends_in_colon h.0
text-ends (form.Numbered number.Fold n) w ws h = ap ends_in_colon h.0
text-ends (form.Numbered number.Drain n) w ws h = ap ends_in_colon h.0
text-ends (form.OfNode node.Turn n) w ws h = ap ends_in_colon h.0
text-ends (form.OfNode node.TurnLost n) w ws h = ap ends_in_colon h.0
text-ends (form.OfNode node.TurnUnseen n) w ws h = ap ends_in_colon h.0
text-ends (form.OfNode node.Crash n) w ws h = ap ends_in_colon h.0
text-ends (form.OfNode node.Kick n) w ws h = ap ends_in_colon h.0
text-ends (form.OfNode node.Restart n) w ws h = ap ends_in_colon h.0
text-ends (form.OfNode node.Takeover n) w ws h = ap ends_in_colon h.0
text-ends (form.OfSlab slab.Crash k) w ws h = ap ends_in_colon h.0
text-ends (form.OfSlab slab.Drop k) w ws h = ap ends_in_colon h.0
text-ends (form.OfSlab slab.Restart k) w ws h = ap ends_in_colon h.0
text-ends (form.Evict n p) w ws h = ap ends_in_colon h.0
text-ends (form.Timeout a) w ws h = ap ends_in_colon h.0
text-ends (form.Until n k r) w ws h = ap ends_in_colon h.0
text-ends (form.Session a n) w ws h = ap ends_in_colon h.0
text-ends (form.Submit a text) w ws h = absurd h

-- a line of words that are a form hands in no statement
pub statement-none : (f : Form) (line : List ℕ) → AreSpelled (pieces f) (words line) → statement_of line ≡ None
unfolding OnFound
statement-none f line h = by_found (statement_of line) refl (statement-sound line) where
  apart : (g : Form) → Hands line g → ⊥
  apart g s =
      let e = first-word line s.0 s.1 s.3 in
      let spelled = subst (AreSpelled (pieces f)) e h in
      true_is_false (sym (ends s.0) ∙ text-ends f (s.0 ++ 58 ∷ []) (words s.1) spelled)

  by_found : (o : Option Form) → statement_of line ≡ o → OnFound (Hands line) o → o ≡ None
  by_found None e s = refl
  by_found (Some g) e s = absurd (apart g s)

-- a line has a word
pub words-some : (line : List ℕ) → words line ≢ []
unfolding words
words-some line e = let n = length-slice_split (λ b. b == 32) line in let z : length (slice_split (λ b. b == 32) line) ≡ 0 = ap length e in omega arith
