use Rattle.std.proofs.Common.{ℕ, List, ◌∙◌, ap, drop}
use Rattle.rm_base.specs.Fields.{number}
use Rattle.page_image.proofs.CountLaws.{count_in}
use Rattle.page_image.proofs.meta.page_count.Goals as goal

pub returns : goal.returns
returns c =
    c.get_u32.ensures
    ∙ ap (λ (n : ℕ). number 4 (drop n c.bytes.result.now)) c.from.ensures
    ∙ ap (λ (bytes : List ℕ). number 4 (drop 36 bytes)) c.bytes.ensures.spelled
    ∙ count_in c.args.meta.now c.requires
