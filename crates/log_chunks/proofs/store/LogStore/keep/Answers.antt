use Rattle.std.proofs.Common.{◌≡◌, ◌++◌, List, ℕ, length, length-append, sym, ap, subst, ◌∙◌, arith}
use Rattle.redo_record.specs.declared.redo.Group.{Group}
use Rattle.redo_record.specs.Spelling.{log_bytes}
use Rattle.redo_record.proofs.Logs.{one_list}
use Rattle.log_chunks.specs.Log.{Log, AreLog, AreNext, GoesOn}
use Rattle.log_chunks.proofs.StoreLaws.{found_next, grown, grown-bytes, on_ok}
use Rattle.log_chunks.proofs.store.LogStore.keep.Goals as goal

-- the groups that were read, and where they stand
found : (c : goal.After-self-1) → AreNext (length c.self.inside.groups.items) c.args.bytes.now c.in-Some-2.more
found c =
    let last : c.last.result ≡ length c.self.inside.groups.items = c.last.ensures ∙ ap (λ (q : Log). length q.groups) (sym c.self.view_is) in
    subst (λ (k : ℕ). AreNext k c.args.bytes.now c.in-Some-2.more) last
    (found_next c.in_ok-more.field-0 (¬ GoesOn c.last.result c.args.bytes.now) c.last.result c.args.bytes.now c.in-Some-2.more c.in-Some-2.is c.in_ok-more.ensures)

joined : (c : goal.After-self-1) → c.append.new.self.items ≡ c.self.inside.groups.items ++ c.in-Some-2.more
joined c = c.in_ok-append.ensures.items ∙ ap (λ (q : List Group). c.self.inside.groups.items ++ q) c.into_vec.ensures

pub invariant_of-self-2 : goal.invariant_of-self-2
invariant_of-self-2 c =
    let gs : List Group = c.self.inside.groups.items in
    let more : List Group = c.in-Some-2.more in
    let next : AreNext (length gs) c.args.bytes.now more = found c in
    let all : c.append.new.self.items ≡ gs ++ more = joined c in
    let bytes : log_bytes gs ++ c.args.bytes.now ≡ log_bytes (gs ++ more) = grown-bytes gs more c.args.bytes.now next in
    let stored : c.append-2.new.self ≡ c.self.inside.chunks ++ c.args.bytes.now = on_ok c.append-2.result _ (sym c.is_err.ensures.value ∙ c.if-is_err.false) c.append-2.ensures.ok in
    let back : log_bytes (gs ++ more) ≡ log_bytes c.append.new.self.items = ap log_bytes (sym all) in
    let whole : length (log_bytes gs ++ c.args.bytes.now) ≡ length (log_bytes c.append.new.self.items) = ap length (bytes ∙ back) in
    record {
      log = subst (λ (q : List Group). AreLog q) (sym all) (grown gs more c.args.bytes.now c.self.invariant.log next);
      spelled = stored ∙ ap (λ (q : List ℕ). q ++ c.args.bytes.now) c.self.invariant.spelled ∙ bytes ∙ back;
      counted = omega (arith, whole, length-append (log_bytes gs) c.args.bytes.now, c.in-Some.ensures, c.self.invariant.counted);
    }

pub returns-clause-ok : goal.returns-clause-ok
returns-clause-ok c groups spells =
    let same : c.in-Some-2.more ≡ groups = one_list c.args.bytes.now c.in-Some-2.more groups (found c).spelled spells in
    let all : c.append.new.self.items ≡ c.self.inside.groups.items ++ groups = joined c ∙ ap (λ (q : List Group). c.self.inside.groups.items ++ q) same in
    ap (λ (q : List Group). let log : Log = record { epoch = c.self.inside.epoch; groups = q } in log) all
    ∙ ap (λ (q : Log). let log : Log = record { epoch = q.epoch; groups = q.groups ++ groups } in log) c.self.view_is
