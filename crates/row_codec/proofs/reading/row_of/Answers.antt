use Rattle.std.proofs.Common.{rules, ◌≡◌, ◌<◌, length, slice_get, Some, refl, inl, inr, arith}
use Rattle.std.proofs.lemmas.Option.{slice_get_read}
use Rattle.row_codec.proofs.ReadingLaws.{answer_is, no_row}
use Rattle.row_codec.proofs.reading.row_of.Goals as goal
use Rattle.row_codec.proofs.reading.row_of.Goals.{then-at-columns-via-then-at-columns, then-at-columns-via-else-at-columns+then-key-gt-MAX_KEY_BYTES}

pub returns : goal.returns
returns c =
    let at = c.from-at.ensures in
    let inside : c.args.schema.now.key < length c.args.schema.now.columns = search rules in
    let there : slice_get c.args.schema.now.columns c.args.schema.now.key ≡ Some c.index-columns-at.result =
    slice_get_read c.args.schema.now.columns (length c.args.schema.now.columns) c.args.schema.now.key c.index-columns-at.result refl inside (search rules) in
    answer_is c.args.schema.now c.args.key.now c.args.value.now c.index-columns-at.result c.row_in.result (λ k. (c.type_inv.key k).fits) (λ k. (c.type_inv.value k).fits) there
    c.if-key-gt-MAX_KEY_BYTES.false (omega arith) (search rules)

pub returns-then-at-columns : goal.returns-then-at-columns
returns-then-at-columns c =
    elim c.then-at-columns.branch [
      | then-at-columns-via-then-at-columns w ↦ no_row c.args.schema.now c.args.key.now c.args.value.now (inl (search rules))
      | then-at-columns-via-else-at-columns+then-key-gt-MAX_KEY_BYTES w ↦ no_row c.args.schema.now c.args.key.now c.args.value.now (inr (inl (search rules)))
    ]
