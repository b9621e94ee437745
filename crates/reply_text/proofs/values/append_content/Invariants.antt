use Rattle.std.proofs.Common.{◌≡◌, ◌++◌, [], ◌∷◌, take}
use Rattle.std.specs.List.{flat_map}
use Rattle.sql_words.specs.Tokens.{doubled}
use Rattle.reply_text.proofs.values.append_content.Given as goal

-- the bytes so far stand behind the text
abbrev pub invariant-loop-byte : goal.invariant-loop-byte
invariant-loop-byte l = l.out ≡ l.initial.out ++ flat_map (λ b. doubled (b ∷ [])) (take l.byte-index l.bytes)
