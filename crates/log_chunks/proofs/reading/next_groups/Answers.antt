use Rattle.std.proofs.Common.{◌≡◌, ◌≢◌, ◌++◌, ◌∷◌, [], List, ℕ, length, drop, sym, ap, subst, arith, length-append}
use Rattle.std.proofs.lemmas.List.{nil_from_length}
use Rattle.std.proofs.lemmas.Bool.Decides.{nat_tests}
use Rattle.redo_record.specs.declared.redo.Group.{Group}
use Rattle.redo_record.specs.Spelling.{group_bytes}
use Rattle.redo_record.proofs.GroupReading.{length-group_bytes}
use Rattle.log_chunks.proofs.ReadLaws.{Reads, reads_more, reads_all, reads_stopped, on_none, on_some}
use Rattle.log_chunks.proofs.reading.next_groups.Goals as goal

pub returns-in_default : goal.returns-in_default
returns-in_default c =
    let some : c.loop-rest.rest.now ≢ [] = λ e. let none : length c.loop-rest.rest.now ≡ 0 = ap length e in absurd (grind (arith, nat_tests)) in
    reads_stopped c.args.last c.args.bytes.now c.loop-rest.groups c.loop-rest.before c.loop-rest.rest.now
    c.loop-rest.invariant some
    (on_none c.in_ok-group.field-0 c.loop-rest.before c.loop-rest.rest.now c.in_default.is c.in_ok-group.ensures)

pub loop-rest-smaller : goal.loop-rest-smaller
loop-rest-smaller c =
    let next = on_some c.in_ok-group.field-0 c.loop-rest.before c.loop-rest.rest.now (c.in-Some.group, c.in-Some.size) c.in-Some.is c.in_ok-group.ensures in
    let some = length-group_bytes c.in-Some.group in
    let whole : length c.loop-rest.rest.now ≡ length (group_bytes c.in-Some.group ++ drop c.in-Some.size c.loop-rest.rest.now) = ap length next.begins.parts in
    let both = length-append (group_bytes c.in-Some.group) (drop c.in-Some.size c.loop-rest.rest.now) in
    let back : length c.split_at.result.1.now ≡ length (drop c.in-Some.size c.loop-rest.rest.now) = ap length c.split_at.ensures.back in
    omega (arith, some, whole, both, back)

pub loop-rest-preserved : goal.loop-rest-preserved
loop-rest-preserved c =
    let g : Group = c.in-Some.group in
    let rest : List ℕ = c.loop-rest.rest.now in
    let next = on_some c.in_ok-group.field-0 c.loop-rest.before rest (g, c.in-Some.size) c.in-Some.is c.in_ok-group.ensures in
    let more : Reads c.args.last c.args.bytes.now (c.loop-rest.groups ++ g ∷ []) g.lsn (drop c.in-Some.size rest) =
    reads_more c.args.last c.args.bytes.now c.loop-rest.groups c.loop-rest.before rest g c.in-Some.size c.loop-rest.invariant next in
    subst (λ (q : List ℕ). Reads c.args.last c.args.bytes.now c.push.new.self c.number-before-in-loop-rest.result q) (sym c.split_at.ensures.back)
    (subst (λ (q : List Group). Reads c.args.last c.args.bytes.now q c.number-before-in-loop-rest.result (drop c.in-Some.size rest)) (sym c.in_ok-push.ensures.ok)
    (subst (λ (q : ℕ). Reads c.args.last c.args.bytes.now (c.loop-rest.groups ++ g ∷ []) q (drop c.in-Some.size rest)) (sym c.number-before-in-loop-rest.ensures.value) more))

pub returns : goal.returns
returns c =
    let none : length c.loop-rest.rest.now ≡ 0 = grind (arith, nat_tests) in
    reads_all c.args.last c.args.bytes.now c.loop-rest.groups c.loop-rest.before c.loop-rest.rest.now c.loop-rest.invariant (nil_from_length c.loop-rest.rest.now none)
