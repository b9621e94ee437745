-- How many calls may follow before a symbol is taken.
use Rattle.std.proofs.Common.{ℕ}
use Rattle.sql_front.specs.declared.levels.Level.{Level}
use Rattle.sql_front.specs.declared.levels.Level.TheVariants.{Or, And, Sum, Product}

abbrev pub chain_rank : Level → ℕ
chain_rank Or = 12
chain_rank And = 10
chain_rank Sum = 6
chain_rank Product = 4

abbrev pub operand_rank : Level → ℕ
operand_rank Or = 11
operand_rank And = 9
operand_rank Sum = 5
operand_rank Product = 3
