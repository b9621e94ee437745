-- A commit that stands stays.
use Rattle.std.proofs.Common.{◌≡◌, ◌≤◌, ◌<◌, ◌+◌, ◌-◌, ℕ, zero, suc, true, false, List, [], ◌∷◌, refl, ap, ◌∙◌, arith, nat_eq}
use Rattle.sql_database.specs.declared.changes.Change.{Change}
use Rattle.table_machine.specs.declared.entries.Entry.{Entry}
use Rattle.table_machine.specs.declared.entries.Entry.TheVariants as entry
use Rattle.sql_database.specs.Database.{Database}
use Rattle.sql_database.specs.Applied.{applied}
use Rattle.table_machine.specs.Language.{Language}
use Rattle.table_machine.specs.Machine.{Machine, after_commits, committed, last, pending_of}
use Rattle.table_machine.specs.Moves.{put}
use Rattle.table_machine.specs.Steps.{Step}
use Rattle.table_machine.specs.Laws.{CommitsStay, KeepsCommits, QueuesOwnChanges, SettlesChanges, WaitingStays}

-- the databases are the same where the changes are
pub same_commits : (d : Database) (f g : ℕ → List Change) (first n : ℕ) → ((i : ℕ) → first < i → i ≤ first + n → f i ≡ g i) → after_commits d f first n ≡ after_commits d g first n
unfolding after_commits
same_commits d f g first zero h = refl
same_commits d f g first (suc n) h =
    ap (λ cs. applied (after_commits d f first n) cs) (h (first + suc n) (omega arith) (omega arith))
    ∙ ap (λ e. applied e (g (first + suc n))) (same_commits d f g first n (λ i p q. h i p (omega (arith, q))))

keeps : (old new : Machine) → new.base ≡ old.base → new.first ≡ old.first → old.count ≤ new.count → ((n : ℕ) → n ≤ old.count → new.changes n ≡ old.changes n) → KeepsCommits old new
keeps old new b f c h = record {
  base = b;
  first = f;
  count = c;
  changes = h;
  databases = λ n p.
      ap (λ d. after_commits d new.changes new.first (n - new.first)) b
      ∙ (ap (λ k. after_commits old.base new.changes k (n - k)) f
      ∙ same_commits old.base new.changes old.changes old.first (n - old.first) (λ i q r. h i (omega (arith, p, q, r))));
}

still : (old new : Machine) → new.base ≡ old.base → new.first ≡ old.first → old.count ≤ new.count → new.changes ≡ old.changes → KeepsCommits old new
still old new b f c h = keeps old new b f c (λ n p. ap (λ g. g n) h)

-- beside it stands what stood there
pub beside : (f : ℕ → List Change) (k : ℕ) (cs : List Change) (n : ℕ) → n < k → put f k cs n ≡ f n
beside f k cs n p = let e : nat_eq n k ≡ false = grind arith in rw e refl

added : (old new : Machine) (k : ℕ) (cs : List Change) → new.base ≡ old.base → new.first ≡ old.first → new.count ≡ old.count → old.count < k → new.changes ≡ put old.changes k cs → KeepsCommits old new
added old new k cs b f c p h = keeps old new b f (omega (arith, c)) (λ n q. ap (λ g. g n) h ∙ beside old.changes k cs n (omega (arith, p, q)))

-- an entry that changes no commits
moved : (old new made : Machine) → new ≡ made → made.base ≡ old.base → made.first ≡ old.first → old.count ≤ made.count → made.changes ≡ old.changes → KeepsCommits old new
moved old new made e b f c h =
    still old new (ap (λ m. m.base) e ∙ b) (ap (λ m. m.first) e ∙ f) (let same : new.count ≡ made.count = ap (λ m. m.count) e in omega (arith, same, c)) (ap (λ m. m.changes) e ∙ h)

step : (language : Language) (e : Entry) (old new : Machine) → Step language old e new → KeepsCommits old new
step language (entry.Join s name n) old new c = moved old new _ c.2 refl refl (omega arith) refl
step language (entry.Submit s text) old new c = moved old new _ c.5 refl refl (omega arith) refl
step language (entry.Snap s) old new c = moved old new _ c.2 refl refl (omega arith) refl
step language (entry.Exec s) old new c = moved old new _ c.4 refl refl (omega arith) refl
step language (entry.Enqueue s) old new c =
    added old new (last old + 1) (pending_of (old.sessions s)) (ap (λ m. m.base) c.2) (ap (λ m. m.first) c.2) (ap (λ m. m.count) c.2) (omega arith) (ap (λ m. m.changes) c.2)
step language entry.Settle old new c = moved old new _ c.3 refl refl (omega arith) refl
step language (entry.Forget k) old new c = moved old new _ c.3 refl refl (omega arith) refl
step language (entry.Reply s r) old new c = moved old new _ c.1 refl refl (omega arith) refl
step language (entry.Timer s) old new c = moved old new _ c.2 refl refl (omega arith) refl
step language (entry.Down n ss) old new c = moved old new _ c.3 refl refl (omega arith) refl
step language (entry.Up n) old new c = moved old new _ c.2 refl refl (omega arith) refl
step language (entry.Opened n) old new c = moved old new _ c.4 refl refl (omega arith) refl
step language (entry.Ignored l) old new c = moved old new _ c.1 refl refl (omega arith) refl
step language (entry.Missed l) old new c = moved old new _ c.1 refl refl (omega arith) refl
step language (entry.End ss) old new c = moved old new _ c.2 refl refl (omega arith) refl

both : (a b c : Machine) → KeepsCommits a b → KeepsCommits b c → KeepsCommits a c
both a b c f g =
    let up : a.count ≤ b.count = f.count in
    let on : b.count ≤ c.count = g.count in
    keeps a c (g.base ∙ f.base) (g.first ∙ f.first) (omega (arith, up, on)) (λ n p. g.changes n (omega (arith, up, p)) ∙ f.changes n p)

pub stay : (language : Language) → CommitsStay language
stay language [] old new l = still old new (ap (λ m. m.base) l) (ap (λ m. m.first) l) (let same : new.count ≡ old.count = ap (λ m. m.count) l in omega (arith, same)) (ap (λ m. m.changes) l)
stay language (e ∷ es) old new l = both old l.0 new (step language e old l.0 l.1) (stay language es l.0 new l.2)

-- a number's new value stands under it
pub put_at : {A : Type 0} (f : ℕ → A) (k n : ℕ) (v : A) → n ≡ k → put f k v n ≡ v
put_at f k n v same = let e : nat_eq n k ≡ true = grind arith in rw e refl

pub queues : (language : Language) → QueuesOwnChanges language
queues language s old new c =
    let behind : last new ≡ old.count + (old.waiting + 1) = ap last c.2 in
    let place : old.count + (old.waiting + 1) ≡ last old + 1 = omega arith in
    (omega arith, ap (λ m. m.changes (last m)) c.2 ∙ put_at old.changes (last old + 1) (old.count + (old.waiting + 1)) (pending_of (old.sessions s)) place)

pub waiting_stays : (language : Language) → WaitingStays language
waiting_stays language (entry.Join s name k) old new c n p = ap (λ m. m.changes n) c.2
waiting_stays language (entry.Submit s text) old new c n p = ap (λ m. m.changes n) c.5
waiting_stays language (entry.Snap s) old new c n p = ap (λ m. m.changes n) c.2
waiting_stays language (entry.Exec s) old new c n p = ap (λ m. m.changes n) c.4
waiting_stays language (entry.Enqueue s) old new c n p =
    ap (λ m. m.changes n) c.2 ∙ beside old.changes (last old + 1) (pending_of (old.sessions s)) n (omega (arith, p))
waiting_stays language entry.Settle old new c n p = ap (λ m. m.changes n) c.3
waiting_stays language (entry.Forget k) old new c n p = ap (λ m. m.changes n) c.3
waiting_stays language (entry.Reply s r) old new c n p = ap (λ m. m.changes n) c.1
waiting_stays language (entry.Timer s) old new c n p = ap (λ m. m.changes n) c.2
waiting_stays language (entry.Down k ss) old new c n p = ap (λ m. m.changes n) c.3
waiting_stays language (entry.Up k) old new c n p = ap (λ m. m.changes n) c.2
waiting_stays language (entry.Opened k) old new c n p = ap (λ m. m.changes n) c.4
waiting_stays language (entry.Ignored l) old new c n p = ap (λ m. m.changes n) c.1
waiting_stays language (entry.Missed l) old new c n p = ap (λ m. m.changes n) c.1
waiting_stays language (entry.End ss) old new c n p = ap (λ m. m.changes n) c.2

-- one commit more
pub one_more : (d : Database) (f g : ℕ → List Change) (first n : ℕ) (cs : List Change) → first ≤ n → ((i : ℕ) → i ≤ n → g i ≡ f i) → g (n + 1) ≡ cs
    → after_commits d g first ((n + 1) - first) ≡ applied (after_commits d f first (n - first)) cs
unfolding after_commits
one_more d f g first n cs low same at =
    ap (after_commits d g first) (let e : (n + 1) - first ≡ suc (n - first) = omega arith in e)
    ∙ (ap (λ i. applied (after_commits d g first (n - first)) (g i)) (let e : first + suc (n - first) ≡ n + 1 = omega arith in e)
    ∙ (ap (applied (after_commits d g first (n - first))) at
    ∙ ap (λ e. applied e cs) (same_commits d g f first (n - first) (λ i p q. same i (omega (arith, low, q))))))

pub settles_changes : (language : Language) → SettlesChanges language
settles_changes language old new low c =
    ap (λ m. committed m m.count) c.3
    ∙ one_more old.base old.changes old.changes old.first old.count (old.changes (old.count + 1)) low (λ i p. refl) refl
