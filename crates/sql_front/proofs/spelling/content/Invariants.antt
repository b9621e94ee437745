use Rattle.std.proofs.Common.{◌≡◌, ◌++◌, [], ◌∷◌, take}
use Rattle.std.specs.List.{flat_map}
use Rattle.sql_words.specs.Tokens.{doubled}
use Rattle.sql_front.proofs.spelling.content.Given as goal

abbrev pub invariant-bytes : goal.invariant-bytes
invariant-bytes l = l.out ≡ l.initial.out ++ flat_map (λ b. doubled (b ∷ [])) (take l.next-index l.bytes)
