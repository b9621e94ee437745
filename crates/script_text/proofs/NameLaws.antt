-- For the proofs: how long a session's name is.
use Rattle.std.proofs.Common.{◌≡◌, ℕ, ◌<◌, ◌≤◌, ◌&&◌, true, nat_le, List, [], ◌∷◌, length, arith}
use Rattle.std.specs.List.{list_all}
use Rattle.std.proofs.lemmas.Bool.Decides.{nat_tests}
use Rattle.script_text.specs.Names.{is_name, is_lower, is_name_byte}
use Rattle.script_text.proofs.NumberLaws.{both}

few : (n : ℕ) → nat_le n 7 ≡ true → n ≤ 7
few n h = grind (arith, nat_tests)

pub name-some : (word : List ℕ) → is_name word ≡ true → 0 < length word
unfolding is_name
name-some [] h = cc
name-some (b ∷ others) h = omega arith

pub name-few : (word : List ℕ) → is_name word ≡ true → length word ≤ 8
unfolding is_name
name-few [] h = cc
name-few (b ∷ others) h =
    let t = both (is_lower b) (nat_le (length others) 7 && list_all is_name_byte others) h in
    let most = few (length others) (both (nat_le (length others) 7) (list_all is_name_byte others) t.1).0 in
    omega (arith, most)

pub ruleset name_bounds = (name-some, name-few)
