-- A list of which each item is the same.
use Rattle.std.proofs.Common.{◌≡◌, ◌<◌, ℕ, suc, List, [], ◌∷◌, length, replicate, get_or, refl, ap, ◌∙◌, arith}
use Rattle.std.proofs.lemmas.List.{length-replicate}
use Rattle.page_image.specs.Image.{Image}

pub all_same : (xs : List Image) (v : Image) → ((k : ℕ) → k < length xs → get_or xs k v ≡ v) → xs ≡ replicate (length xs) v
all_same [] v all = refl
all_same (x ∷ xs) v all =
    ap (λ (y : Image). y ∷ xs) (all 0 (omega arith)) ∙ ap (λ (ys : List Image). v ∷ ys) (all_same xs v (λ k h. all (suc k) (omega arith)))

pub as_many : (n : ℕ) (v : Image) → length (replicate n v) ≡ n
as_many n v = length-replicate {A = Image} n v
