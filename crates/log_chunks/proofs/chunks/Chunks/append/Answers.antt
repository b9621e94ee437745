use Rattle.std.proofs.Common.{◌≡◌, ◌-◌, ◌++◌, ◌∷◌, [], List, ℕ, take, ap, ◌∙◌}
use Rattle.std.specs.List.{concat}
use Rattle.std.proofs.lemmas.List.{take-append-drop}
use Rattle.log_chunks.proofs.ChunkLaws.{concat-filled}
use Rattle.log_chunks.proofs.chunks.Chunks.append.Goals as goal

pub returns-clause-ok : goal.returns-clause-ok
returns-clause-ok c =
    let full : List (List ℕ) = c.self.inside.full.items in
    let o : List ℕ = c.self.inside.«open» in
    let cuts : List (List ℕ) = c.cut.new.full.items in
    let rest : List ℕ = c.in_ok-open.«open» in
    let first : List ℕ = c.split_at.result.0.now in
    let more : List ℕ = c.split_at.result.1.now in
    let moved : c.append-2.new.self.items ≡ full ++ cuts = c.in_ok-append.ensures.items in
    let pushed : c.push.new.self.items ≡ c.new-full.result.items ++ c.in_ok-joined.field-0 ∷ [] = c.in_ok-push.ensures.items in
    let head : c.in_ok-joined.field-0 ≡ o ++ first = c.in_ok-joined.ensures ∙ ap (λ (q : List ℕ). q ++ first) c.as_slice.ensures in
    let one : c.push.new.self.items ≡ (o ++ first) ∷ [] =
    pushed ∙ ap (λ (q : List (List ℕ)). q ++ c.in_ok-joined.field-0 ∷ []) c.new-full.ensures.items ∙ ap (λ (q : List ℕ). q ∷ []) head in
    let filled : concat cuts ++ rest ≡ concat ((o ++ first) ∷ []) ++ more =
    c.in_ok-open.ensures.same ∙ ap (λ (q : List (List ℕ)). concat q ++ more) one in
    let whole : first ++ more ≡ c.args.bytes.now =
    ap (λ (q : List ℕ). q ++ more) c.split_at.ensures.front ∙ ap (λ (q : List ℕ). take (65536 - c.len-room.result) c.args.bytes.now ++ q) c.split_at.ensures.back
    ∙ take-append-drop (65536 - c.len-room.result) c.args.bytes.now in
    ap (λ (q : List (List ℕ)). concat q ++ rest) moved
    ∙ concat-filled full cuts o first rest more filled
    ∙ ap (λ (q : List ℕ). q ++ (first ++ more)) c.self.view_is
    ∙ ap (λ (q : List ℕ). c.args.self.now ++ q) whole
