use Rattle.std.proofs.Common.{◌≡◌, ◌≤◌, ◌<◌, ℕ, Bool, List, [], ◌∷◌, length, get_or, map, IsTrue, string_bytes, codes, bytes_eq, sym, ap, ◌∙◌, arith}
use Rattle.std.proofs.lemmas.Slice.Eq.{bytes_eq-Decides}
use Rattle.rmem_db.specs.Serving.{IsServe}
use Rattle.rmem_db.proofs.running.is_serve.Goals as goal

one_word : {X Y : Type 0} (f : X → Y) (xs : List X) (x : X) → 1 ≤ length xs → length xs < 2 → x ≡ get_or xs 0 x → map f xs ≡ f x ∷ []
one_word f [] x some few is = absurd (omega arith)
one_word f (y ∷ []) x some few is = ap (λ (v : _). f v ∷ []) (sym is)
one_word f (y ∷ z ∷ zs) x some few is = absurd (omega arith)

tested : (bytes word : List ℕ) (words : List (List ℕ)) (test : Bool) → words ≡ word ∷ [] → bytes ≡ word → test ≡ bytes_eq bytes (codes "serve")
    → (IsTrue test → IsServe words) × (IsServe words → IsTrue test)
tested bytes word words test one same is =
    let decides = bytes_eq-Decides bytes (codes "serve") in (
      λ told. one ∙ ap (λ (w : List ℕ). w ∷ []) (sym same ∙ decides.0 (sym is ∙ told)),
      λ serve. let e : word ≡ codes "serve" = cc in is ∙ decides.1 (same ∙ e),
    )

pub returns-in-len1 : goal.returns-in-len1
returns-in-len1 c =
    let one = ap (map string_bytes) (sym c.as_slice.ensures.value) ∙ one_word string_bytes c.as_slice.result.now c.word-item.result c.in-len1.len_at_least c.in-len1.len_below c.word-item.is in
    tested c.as_str.result.now _ _ c.eq.result one c.as_str.ensures.value c.eq.ensures
