-- A log store over any list of appends and fences.
use Rattle.std.proofs.Common.{◌≡◌, ◌≤◌, ◌<◌, ◌+◌, ℕ, Bool, true, false, cond, nat_eq, List, [], ◌∷◌, ◌++◌, length, refl, sym, ap, subst, ◌∙◌, append_assoc, append-nil, arith}
use Rattle.message_model.specs.declared.Appended.{Appended}
use Rattle.message_model.specs.declared.Appended.TheVariants.{Kept, WrongOffset, Fenced}
use Rattle.redo_record.specs.declared.redo.Group.{Group}
use Rattle.redo_record.specs.Spelling.{log_bytes, IsLog}
use Rattle.redo_record.specs.Effect.{CountsFrom}
use Rattle.redo_record.proofs.Fold.{CountsFrom-append, below}
use Rattle.redo_record.proofs.Logs.{IsLog-append}
use Rattle.log_chunks.specs.Log.{Log, AreLog, tail_of, is_kept}
use Rattle.log_chunks.specs.History.{Call, append, fence, reply, added, after, after_all, kept, MayCall, MayCallAll}

-- ---- the groups are the kept ones

after-groups : (log : Log) (call : Call) → (after log call).groups ≡ log.groups ++ added log call
after-groups log (append epoch offset groups) = refl
after-groups log (fence epoch) = sym (append-nil log.groups)

pub after_all-groups : (log : Log) (calls : List Call) → (after_all log calls).groups ≡ log.groups ++ kept log calls
after_all-groups log [] = sym (append-nil log.groups)
after_all-groups log (call ∷ calls) =
    after_all-groups (after log call) calls
    ∙ ap (λ (gs : List Group). gs ++ kept (after log call) calls) (after-groups log call)
    ∙ append_assoc log.groups (added log call) (kept (after log call) calls)

-- ---- they stay a log

pub AreLog-append : (gs hs : List Group) → AreLog gs → IsLog hs → CountsFrom (length gs) hs → AreLog (gs ++ hs)
AreLog-append gs hs h is_log counted =
    let from : length gs ≡ 0 + length gs = omega arith in
    record {
      each = IsLog-append gs hs h.each is_log;
      counted = CountsFrom-append 0 gs hs h.counted (subst (λ (k : ℕ). CountsFrom k hs) from counted);
    }

chosen_log : (b : Bool) (gs hs : List Group) → AreLog gs → (b ≡ true → IsLog hs × CountsFrom (length gs) hs) → AreLog (gs ++ cond b hs [])
chosen_log true gs hs h i = AreLog-append gs hs h (i refl).0 (i refl).1
chosen_log false gs hs h i = subst (λ (ks : List Group). AreLog ks) (sym (append-nil gs)) h

after-log : (log : Log) (call : Call) → AreLog log.groups → MayCall log call → AreLog (after log call).groups
after-log log (append epoch offset groups) h may = chosen_log (is_kept (reply log epoch offset groups)) log.groups groups h may
after-log log (fence epoch) h may = h

pub after_all-log : (log : Log) (calls : List Call) → AreLog log.groups → MayCallAll log calls → AreLog (after_all log calls).groups
after_all-log log [] h may = h
after_all-log log (call ∷ calls) h may = after_all-log (after log call) calls (after-log log call h may.0) may.1

-- ---- the epoch never falls

after-epoch : (log : Log) (call : Call) → MayCall log call → log.epoch ≤ (after log call).epoch
after-epoch log (append epoch offset groups) may = omega arith
after-epoch log (fence epoch) may = may

pub after_all-epoch : (log : Log) (calls : List Call) → MayCallAll log calls → log.epoch ≤ (after_all log calls).epoch
after_all-epoch log [] may = omega arith
after_all-epoch log (call ∷ calls) may =
    let first : log.epoch ≤ (after log call).epoch = after-epoch log call may.0 in
    let others : (after log call).epoch ≤ (after_all (after log call) calls).epoch = after_all-epoch (after log call) calls may.1 in
    omega arith

-- ---- older epochs are refused

pub reply-older : (log : Log) (older offset : ℕ) (groups : List Group) → older < log.epoch → reply log older offset groups ≡ Fenced log.epoch
reply-older log older offset groups h =
    let other : Appended = cond (nat_eq offset (tail_of log)) (Kept (tail_of log + length (log_bytes groups))) (WrongOffset (tail_of log)) in
    ap (λ (b : Bool). cond b (Fenced log.epoch) other) (below older log.epoch h)

pub fenced : (log : Log) (calls : List Call) (e older offset : ℕ) (groups : List Group) → older < e → MayCallAll (after log (fence e)) calls
    → reply (after_all (after log (fence e)) calls) older offset groups ≡ Fenced (after_all (after log (fence e)) calls).epoch
fenced log calls e older offset groups h may =
    let rises : e ≤ (after_all (after log (fence e)) calls).epoch = after_all-epoch (after log (fence e)) calls may in
    reply-older (after_all (after log (fence e)) calls) older offset groups (omega arith)
