use Rattle.std.proofs.Common.{rules, tests}
use Rattle.std.proofs.lemmas.Iterator.{YieldsList-from_slice}
use Rattle.std.proofs.lemmas.Iterator.Search.{position_from_yields_List}
use Rattle.sql_front.specs.Conditions.{key_place}
use Rattle.sql_front.proofs.Places.{place_some, place_none}
use Rattle.sql_front.proofs.definitions.key_place.Goals as goal

pub returns-in-Some-clause-place : goal.returns-in-Some-clause-place
unfolding key_place
returns-in-Some-clause-place c =
    let columns = c.args.columns.now in
    let first = position_from_yields_List (λ d. d.is_key) _ _ _ c.position.ensures.ran (YieldsList-from_slice columns cc) (λ x b q. search (rules, tests)) in
    place_some (λ d. d.is_key) columns c.position.result c.in-Some.place first c.in-Some.is

pub returns-in-None-clause-place : goal.returns-in-None-clause-place
unfolding key_place
returns-in-None-clause-place c =
    let columns = c.args.columns.now in
    let first = position_from_yields_List (λ d. d.is_key) _ _ _ c.position.ensures.ran (YieldsList-from_slice columns cc) (λ x b q. search (rules, tests)) in
    place_none (λ d. d.is_key) columns c.position.result first c.in-None.is
