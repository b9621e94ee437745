-- Where a text's closing quote stands.
use Rattle.std.proofs.Common.{◌≡◌, ◌≢◌, ℕ, suc, ◌+◌, ◌<◌, true, false, cond, List, [], ◌∷◌, length, drop, get_or, Option, Some, None, refl, sym, ◌∙◌, ap, arith, eq-eqb, get_or-drop, length-drop, add-zero}
use Rattle.std.proofs.Math.Seq.{drop-cons}
use Rattle.std.specs.Option.{option_map}
use Rattle.std.proofs.lemmas.Bool.Decides.{nat_tests}
use Rattle.sql_words.specs.Bytes.{is_quote}
use Rattle.sql_words.specs.Front.{closing, behind_quote}

pub quote_is : (b : ℕ) → b ≡ 39 → is_quote b ≡ true
quote_is b h = eq-eqb b 39 h

pub quote_not : (b : ℕ) → b ≢ 39 → is_quote b ≡ false
quote_not b h = grind (arith, nat_tests)

shift : (k j : ℕ) (o : Option ℕ) → option_map (λ n. n + k) (option_map (λ n. n + j) o) ≡ option_map (λ n. n + (k + j)) o
shift k j None = refl
shift k j (Some n) = ap Some (omega arith)

-- a byte that is no quote moves the closing quote on by one
pub closing-more : (bs : List ℕ) (at : ℕ) → at < length bs → get_or bs at 0 ≢ 39
    → option_map (λ n. n + at) (closing (drop at bs)) ≡ option_map (λ n. n + (at + 1)) (closing (drop (at + 1) bs))
closing-more bs at h is_other =
    let here : drop at bs ≡ get_or bs at 0 ∷ drop (suc at) bs = drop-cons bs at 0 h in
    let next : suc at ≡ at + 1 = omega arith in
    let other = quote_not (get_or bs at 0) is_other in
    ap (λ q. option_map (λ n. n + at) (closing q)) here
    ∙ ap (λ b. option_map (λ n. n + at) (cond b (behind_quote (drop (suc at) bs)) (option_map (λ n. n + 1) (closing (drop (suc at) bs))))) other
    ∙ shift at 1 (closing (drop (suc at) bs)) ∙ ap (λ k. option_map (λ n. n + (at + 1)) (closing (drop k bs))) next

behind_other : (bs : List ℕ) → (0 < length bs → get_or bs 0 0 ≢ 39) → behind_quote bs ≡ Some 1
behind_other [] h = refl
behind_other (b ∷ bs) h = let other = quote_not b (h (omega arith)) in ap (λ t. cond t (option_map (λ n. n + 2) (closing bs)) (Some 1)) other

get_or-suc : (bs : List ℕ) (at k : ℕ) → get_or (drop at bs) k 0 ≡ get_or bs (at + k) 0
get_or-suc bs at k = simp get_or-drop

-- a quote that no second one follows closes the text
pub closing-here : (bs : List ℕ) (at : ℕ) → at < length bs → get_or bs at 0 ≡ 39 → (at + 1 < length bs → get_or bs (at + 1) 0 ≢ 39)
    → closing (drop at bs) ≡ Some 1
closing-here bs at h is_q other =
    let here : drop at bs ≡ get_or bs at 0 ∷ drop (suc at) bs = drop-cons bs at 0 h in
    let it = quote_is (get_or bs at 0) is_q in
    let next : at + 1 ≡ suc at = omega arith in
    ap closing here
    ∙ ap (λ b. cond b (behind_quote (drop (suc at) bs)) (option_map (λ n. n + 1) (closing (drop (suc at) bs)))) it
    ∙ behind_other (drop (suc at) bs) (λ some e. other (omega (arith, some, length-drop (suc at) bs)) (ap (λ k. get_or bs k 0) (next ∙ sym (add-zero (suc at))) ∙ sym (get_or-suc bs (suc at) 0) ∙ e))
