-- For the proofs: what a server keeps of each node, after a change of what it keeps of one.
use Rattle.std.proofs.Common.{◌≡◌, ◌≢◌, ℕ, ◌<◌, ◌≤◌, Bool, true, false, List, length, set, get_or, refl, sym, ◌∙◌, ap, subst, arith, nat_eq, nat_lt, if◌then◌else◌, get_or-set_same, get_or-set_other, eqb-true}
use Rattle.std.proofs.lemmas.List.{get_or_past}
use mathlib.Core.Path.{fun_ext}
use Rattle.call_model.specs.Servers.{put, Memory as Kept, Server as Serving, nothing_of, new_server}
use Rattle.message_network.specs.declared.calls.Reply.{Reply}
use Rattle.message_network.specs.declared.serving.Memory.{Memory}
use Rattle.message_network.specs.ServerView.{blank, memory_of, kept_at}

kept_beside : (ms : List Memory) (i : ℕ) (m : Memory) → i < length ms → (n : ℕ) (b : Bool) → nat_eq n i ≡ b
    → kept_at (set ms i m) n ≡ (if b then memory_of m else kept_at ms n)
kept_beside ms i m h n true e =
    let same : n ≡ i = eqb-true n i e in
    subst (λ (k : ℕ). kept_at (set ms i m) k ≡ memory_of m) (sym same) (ap memory_of (get_or-set_same ms i m blank h))
kept_beside ms i m h n false e =
    let other : n ≢ i = grind arith in
    ap memory_of (get_or-set_other ms i n m blank other)

kept_set : (ms : List Memory) (i : ℕ) (m : Memory) → i < length ms → kept_at (set ms i m) ≡ put (kept_at ms) i (memory_of m)
kept_set ms i m h = fun_ext (λ n. kept_beside ms i m h n (nat_eq n i) refl)

abbrev serving : ℕ → (ℕ → Kept Reply) → Serving Reply
serving e memory = record { epoch = e; memory = memory }

-- the server after a change at node n
pub kept_record : (e : ℕ) (ms : List Memory) (i n : ℕ) (m : Memory) (k : Kept Reply) → i ≡ n → i < length ms → memory_of m ≡ k
    → serving e (kept_at (set ms i m)) ≡ serving e (put (kept_at ms) n k)
kept_record e ms i n m k same h is =
    ap (serving e) (kept_set ms i m h ∙ (ap (λ (j : ℕ). put (kept_at ms) j (memory_of m)) same ∙ ap (put (kept_at ms) n) is))

kept_of_none : (ms : List Memory) → ((i : ℕ) (d : Memory) → i < length ms → memory_of (get_or ms i d) ≡ nothing_of 0)
    → (n : ℕ) (b : Bool) → nat_lt n (length ms) ≡ b → kept_at ms n ≡ nothing_of 0
kept_of_none ms each n true e = each n blank (grind arith)
kept_of_none ms each n false e = let past : length ms ≤ n = grind arith in ap memory_of (get_or_past ms n blank past)

pub new_record : (e : ℕ) (ms : List Memory) → ((i : ℕ) (d : Memory) → i < length ms → memory_of (get_or ms i d) ≡ nothing_of 0)
    → serving e (kept_at ms) ≡ new_server e
new_record e ms each = ap (serving e) (fun_ext (λ n. kept_of_none ms each n (nat_lt n (length ms)) refl))
