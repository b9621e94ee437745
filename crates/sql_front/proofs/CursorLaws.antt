-- What a cursor over tokens shows.
use Rattle.std.proofs.Common.{◌≡◌, ℕ, zero, suc, ◌+◌, ◌-◌, ◌<◌, ◌≤◌, false, List, [], ◌∷◌, map, length, take, drop, get_or, refl, sym, ◌∙◌, ap, subst, arith, length-take, length-drop}
use Rattle.std.proofs.Math.Seq.{drop-cons, take-length}
use Rattle.std.proofs.lemmas.List.{length-map, get_or-take, drop-drop, drop-map, drop-take, take-take, take_all}
use Rattle.std.specs.List.{take-map}
use Rattle.sql_words.specs.declared.tokens.Class.{Class}
use Rattle.sql_words.specs.Lexed.{Lexed}
use Rattle.sql_front.specs.Good.{IsGood, AreGood}
use Rattle.sql_front.specs.Cursor.{symbols_left}
use Rattle.sql_front.specs.Symbols.{Symbol, symbol_of, sees, same_class, behind}
use Rattle.sql_front.proofs.Classes.{class_of_symbol}

pub length-symbols_left : (ts : List Lexed) (at end : ℕ) → end ≤ length ts → length (symbols_left ts at end) ≡ end - at
unfolding symbols_left
length-symbols_left ts at end h = length-map (drop at (take end ts)) symbol_of ∙ omega (arith, length-drop at (take end ts), length-take end ts)

pub whole : (ts : List Lexed) → symbols_left ts 0 (length ts) ≡ map symbol_of ts
unfolding symbols_left
whole ts = ap (map symbol_of) (take-length ts)

-- the next token, and the others behind it
pub symbols_left-cons : (ts : List Lexed) (at end : ℕ) (t : Lexed) → at < end → end ≤ length ts → t ≡ get_or ts at t
    → symbols_left ts at end ≡ symbol_of t ∷ symbols_left ts (at + 1) end
unfolding symbols_left
symbols_left-cons ts at end t h g e =
    let there : at < length (take end ts) = omega (arith, length-take end ts) in
    let same : get_or (take end ts) at t ≡ t = get_or-take end ts at t h ∙ sym e in
    let next : suc at ≡ at + 1 = omega arith in
    ap (map symbol_of) (drop-cons (take end ts) at t there)
    ∙ ap (λ x. symbol_of x ∷ map symbol_of (drop (suc at) (take end ts))) same
    ∙ ap (λ k. symbol_of t ∷ map symbol_of (drop k (take end ts))) next

pub symbols_left-nil : (ts : List Lexed) (at end : ℕ) → end ≤ at → symbols_left ts at end ≡ []
unfolding symbols_left
symbols_left-nil ts at end h = none (drop at (take end ts)) (omega (arith, length-drop at (take end ts), length-take end ts)) where
  none : (xs : List Lexed) → length xs ≡ 0 → map symbol_of xs ≡ []
  none [] e = refl
  none (x ∷ xs) e = absurd (omega arith)

pub sees_next : (c : Class) (ts : List Lexed) (at end : ℕ) (t : Lexed) → at < end → end ≤ length ts → t ≡ get_or ts at t
    → sees c (symbols_left ts at end) ≡ same_class c t.class
unfolding sees
sees_next c ts at end t h g e = ap (sees c) (symbols_left-cons ts at end t h g e) ∙ ap (same_class c) (class_of_symbol t)

pub sees_none : (c : Class) (ts : List Lexed) (at end : ℕ) → end ≤ at → sees c (symbols_left ts at end) ≡ false
unfolding sees
sees_none c ts at end h = ap (sees c) (symbols_left-nil ts at end h)

behind_drop : (at : ℕ) (xs : List Lexed) → behind (map symbol_of (drop at xs)) ≡ map symbol_of (drop (suc at) xs)
behind_drop zero [] = refl
behind_drop zero (x ∷ xs) = refl
behind_drop (suc at) [] = refl
behind_drop (suc at) (x ∷ xs) = behind_drop at xs

pub behind_next : (ts : List Lexed) (at end : ℕ) → behind (symbols_left ts at end) ≡ symbols_left ts (at + 1) end
unfolding symbols_left
behind_next ts at end = let next : suc at ≡ at + 1 = omega arith in behind_drop at (take end ts) ∙ ap (λ k. map symbol_of (drop k (take end ts))) next

good_at : (ts : List Lexed) (at : ℕ) (t : Lexed) → AreGood ts → at < length ts → t ≡ get_or ts at t → IsGood t.class t.text
good_at [] at t h g e = absurd (omega arith)
good_at (x ∷ ts) zero t h g e = subst (λ (y : Lexed). IsGood y.class y.text) (sym e) h.0
good_at (x ∷ ts) (suc at) t h g e = good_at ts at t h.1 (omega arith) e

-- the next token and what is behind it
pub first_some : (ts : List Lexed) (at end : ℕ) (t : Lexed) → at < end → end ≤ length ts → t ≡ get_or ts at t
    → symbols_left ts at end ≡ symbol_of t ∷ behind (symbols_left ts at end)
first_some ts at end t h g e =
    let e = symbols_left-cons ts at end t h g e in
    e ∙ ap (λ i. symbol_of t ∷ i) (sym (ap behind e))

pub first_good : (ts : List Lexed) (at end : ℕ) (t : Lexed) → AreGood ts → at < end → end ≤ length ts → t ≡ get_or ts at t → IsGood t.class t.text
first_good ts at end t h l g e = good_at ts at t h (omega arith) e

pub symbols_left-pass : (ts : List Lexed) (at end n : ℕ) → symbols_left ts (at + n) end ≡ drop n (symbols_left ts at end)
unfolding symbols_left
symbols_left-pass ts at end n = ap (map symbol_of) (sym (drop-drop n at (take end ts))) ∙ sym (drop-map symbol_of n (drop at (take end ts)))

pub symbols_left-passed : (ts : List Lexed) (at end n : ℕ) → end ≤ length ts → end - at ≤ n → symbols_left ts end end ≡ drop n (symbols_left ts at end)
symbols_left-passed ts at end n within h =
    symbols_left-nil ts end end (omega arith) ∙ sym (none (drop n (symbols_left ts at end)) (omega (arith, length-drop n (symbols_left ts at end), length-symbols_left ts at end within))) where
      none : (xs : List Symbol) → length xs ≡ 0 → xs ≡ []
      none [] e = refl
      none (x ∷ xs) e = absurd (omega arith)

pub symbols_left-window : (ts : List Lexed) (at end n : ℕ) → at + n ≤ end → symbols_left ts at (at + n) ≡ take n (symbols_left ts at end)
unfolding symbols_left
symbols_left-window ts at end n h =
    ap (λ q. map symbol_of (drop at q)) (sym (take-take (at + n) end ts h)) ∙ ap (map symbol_of) (drop-take at n (take end ts)) ∙ sym (take-map symbol_of n (drop at (take end ts)))

pub symbols_left-all : (ts : List Lexed) (at end n : ℕ) → end ≤ length ts → end - at ≤ n → symbols_left ts at end ≡ take n (symbols_left ts at end)
symbols_left-all ts at end n within h = sym (take_all n (symbols_left ts at end) (omega (arith, length-symbols_left ts at end within)))
