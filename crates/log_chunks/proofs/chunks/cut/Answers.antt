use Rattle.std.proofs.Common.{◌≡◌, ◌++◌, ◌∷◌, [], List, ℕ, length, take, sym, ap, subst, ◌∙◌}
use Rattle.rm_base.specs.declared.limits.TheConstants.{LOG_CHUNK_BYTES}
use Rattle.std.specs.List.{concat}
use Rattle.std.proofs.lemmas.List.{take-append-drop}
use Rattle.log_chunks.specs.Chunked.{AreFull}
use Rattle.log_chunks.proofs.ChunkLaws.{concat-push, AreFull-append}
use Rattle.log_chunks.proofs.chunks.cut.Goals as goal

pub loop-rest-preserved : goal.loop-rest-preserved
loop-rest-preserved c =
    let full : List (List ℕ) = c.loop-rest.full.items in
    let chunk : List ℕ = c.in_ok-copied.field-0 in
    let back : List ℕ = c.split_at.result.1.now in
    let rest : List ℕ = c.loop-rest.rest.now in
    let pushed : c.push.new.self.items ≡ full ++ chunk ∷ [] = c.in_ok-push.ensures.items in
    let front : chunk ≡ c.split_at.result.0.now = c.in_ok-copied.ensures in
    let joined : chunk ++ back ≡ rest =
    ap (λ (q : List ℕ). q ++ back) (front ∙ c.split_at.ensures.front)
    ∙ ap (λ (q : List ℕ). take LOG_CHUNK_BYTES rest ++ q) c.split_at.ensures.back ∙ take-append-drop LOG_CHUNK_BYTES rest in
    record {
      same =
          ap (λ (q : List (List ℕ)). concat q ++ back) pushed ∙ concat-push full chunk back
          ∙ ap (λ (q : List ℕ). concat full ++ q) joined ∙ c.loop-rest.invariant.same;
      each =
          subst (λ (q : List (List ℕ)). AreFull q) (sym pushed)
          (AreFull-append full (chunk ∷ []) c.loop-rest.invariant.each (ap length front ∙ c.split_at.ensures.front_len, tt));
    }
