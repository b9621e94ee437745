-- The log and the nodes.
use Rattle.std.proofs.Common.{◌≡◌, ℕ, ◌≢◌, ◌≤◌, ◌<◌, ◌+◌, ◌-◌, Bool, true, false, Option, Some, None, [], if◌then◌else◌, arith, refl, subst, ap, ◌∙◌, option_map, option_and_then}
use Rattle.history.proofs.Frames.{Same, each_ended, each_same, good_machine}
use Rattle.history.specs.Clusters.{now, ended, Cluster, Open, Dead}
use Rattle.history.specs.Events.{cut}
use Rattle.history.specs.Invariant.{Judged, KeepsSession, Refines}
use Rattle.history.specs.Machines.{IsFair}
use Rattle.history.specs.Places.{says, is_said}
use Rattle.table_machine.specs.Language.{Language}
use Rattle.table_machine.specs.Machine.{is_some_of, pending_of, Statement, Machine}
use Rattle.table_machine.specs.Moves.{is_made, settled_session, settles, forgotten, opened}
use Rattle.version_store.specs.Contents.{Content, catalog_name}

-- ---- the log and the node

pub keep_append : {language : Language} → (was : Content) (c : Cluster) (e : ℕ) → Refines language was c
    → c.durable ≤ e → e ≤ c.lsn → Refines language was (record c { durable = e })
keep_append {language} was c e g a b = record {
  fair = g.fair;
  order = b;
  single = g.single;
  begun_at = g.begun_at;
  sound = g.sound;
  rises = g.rises;
  later = g.later;
  lasts = g.lasts;
  below = g.below;
  kept = let k = g.kept in let r = g.rises c.durable e a b in
      omega (arith, k, r);
  is_open = g.is_open;
  closed = g.closed;
  clear = g.clear;
  each = g.each;
}

pub keep_settle : {language : Language} → (was : Content) (c : Cluster) → Refines language was c → c.mode ≡ Open
    → c.machine.count < (c.at c.durable).last → IsFair was (settles c.machine)
    → Refines language was (record c { machine = settles c.machine })
keep_settle {language} was c g o l f =
    let r = g.rises c.durable c.lsn g.order (omega arith) in
    let whole = (g.is_open o).1 in
    record {
      fair = f;
      order = g.order;
      single = g.single;
      begun_at = g.begun_at;
      sound = g.sound;
      rises = g.rises;
      later = g.later;
      lasts = g.lasts;
      below = omega (arith, whole, l, r);
      kept = omega (arith, l);
      is_open = λ x. ((g.is_open x).0, omega (arith, whole, l, r));
      closed = λ n. absurd (n o);
      clear = g.clear;
      each = λ u. each u (is_some_of (c.machine.owner (c.machine.count + 1)) u);
    }
  where
    made_read : (o : Option Statement)
        → option_map (λ b. Statement.read b) (option_map is_made o) ≡ option_map (λ b. Statement.read b) o
    made_read None = refl
    made_read (Some b) = refl

    made_due : (o : Option Statement)
        → option_and_then (λ b. Statement.due b) (option_map is_made o) ≡ option_and_then (λ b. Statement.due b) o
    made_due None = refl
    made_due (Some b) = refl

    made_judged : (u : ℕ) → Judged language (now c) u (c.work u) (c.machine.sessions u)
        → Judged language (now c) u (c.work u) (settled_session (c.machine.sessions u))
    made_judged u q =
        record {
          transaction = q.transaction;
          database = q.database;
          answer = q.answer;
          statement = q.statement;
          has = q.has;
          asks = made_read (c.machine.sessions u).statement ∙ q.asks;
          reading = q.reading;
          answers = q.answers;
          todo = q.todo;
          due = made_due (c.machine.sessions u).statement ∙ q.due;
        }

    each : (u : ℕ) (b : Bool)
        → KeepsSession language (now c) u (c.work u)
        (if b then settled_session (c.machine.sessions u) else c.machine.sessions u)
    each u true =
        each_same (now c) u (c.work u) (c.machine.sessions u) (settled_session (c.machine.sessions u)) refl
        (λ j. made_judged u) (g.each u)
    each u false = g.each u

pub keep_crash : {language : Language} → (was : Content) (c : Cluster) (m : Machine) → Refines language was c
    → IsFair was m → Same c.machine m → m.writer ≡ None → ((s : ℕ) → pending_of (m.sessions s) ≡ [])
    → Refines language was (record c { machine = m; mode = Dead; work = λ u. ended })
keep_crash {language} was c m g f e w p =
    good_machine was c m Dead (λ u. ended) g f e (λ x. absurd (grind arith)) (λ x. (w, λ s. (refl, refl, refl)))
    (λ s u t a k ne sl h. absurd (grind arith)) (λ s. each_ended (now c) s (m.sessions s) (p s))

pub keep_tail : {language : Language} → (was : Content) (c : Cluster) → Refines language was c → c.mode ≢ Open
    → Refines language was (cut c)
keep_tail {language} was c g n = let r = g.rises c.durable c.lsn g.order (omega arith) in let o = g.closed n in
    let h = g.order in record {
      fair = g.fair;
      order = omega arith;
      single = λ j l. g.single j (omega (arith, l, h));
      begun_at = g.begun_at;
      sound = λ j y. g.sound j (omega (arith, h, y));
      rises = λ i j y z. g.rises i j y (omega (arith, h, z));
      later = λ i j t y z. g.later i j t y (omega (arith, h, z));
      lasts = λ i j y z. g.lasts i j y (omega (arith, h, z));
      below = let b = g.below in
          omega (arith, b, r);
      kept = g.kept;
      is_open = λ x. absurd (grind arith);
      closed = λ x. o;
      clear = λ s u t a k ne sl p. let z : is_said (says [] a k) ≡ true = subst (λ cs. is_said (says cs a k) ≡ true)
          (o.1 s).1 p in absurd (grind arith);
      each = λ u. let e = g.each u in let en = (o.1 u).0 in
          record {
            holds = λ v q b. absurd (grind arith);
            none = λ x. e.gone en;
            gone = e.gone;
            pend = e.pend;
            names = λ a p. let z : is_said (says [] catalog_name a) ≡ true = subst
                (λ cs. is_said (says cs catalog_name a) ≡ true) (o.1 u).1 p in
                absurd (grind arith);
            judged = λ j. let n = (o.1 u).2 in absurd (grind arith);
          };
    }

pub keep_open : {language : Language} → (was : Content) (c : Cluster) (n : ℕ) → Refines language was c
    → c.mode ≢ Open → c.durable ≡ c.lsn → IsFair was (opened (forgotten c.machine ((now c).last - c.machine.count)) n)
    → Refines language was
    (record c { machine = opened (forgotten c.machine ((now c).last - c.machine.count)) n; mode = Open })
keep_open {language} was c n g nm q f = let k = g.kept in let r = g.rises c.durable c.lsn g.order (omega arith) in
    let b = g.below in
    let same : (c.at c.durable).last ≡ (now c).last = ap (λ j. (c.at j).last) q in record {
      fair = f;
      order = g.order;
      single = g.single;
      begun_at = g.begun_at;
      sound = g.sound;
      rises = g.rises;
      later = g.later;
      lasts = g.lasts;
      below = omega (arith, k, r);
      kept = omega (arith, k, same);
      is_open = λ x. (refl, omega (arith, k, r));
      closed = λ x. absurd (x refl);
      clear = g.clear;
      each = g.each;
    }
