-- Takeovers that are begun again, and losses of nodes.
use Rattle.std.proofs.Common.{◌≡◌, ℕ, zero, suc, Bool, true, false, List, [], ◌∷◌, ◌++◌, if◌then◌else◌, refl, sym, subst, ap, ◌∙◌}
use Rattle.sql_database.specs.Rules.{AnswerRules}
use Rattle.table_machine.specs.declared.entries.Entry.{Entry}
use Rattle.table_machine.specs.Language.{Language}
use Rattle.table_machine.specs.Machine.{Machine, last}
use Rattle.history.specs.Clusters.{Cluster}
use Rattle.history.specs.Events.{AllHappen, Event, Happens, appends, opens, reader_falls, tails, writer_falls}
use Rattle.history.specs.Incidents.{Broken, Loss, Undoing, broken_takeovers, crash, refusals, renewal, restart, takeover, undo_slot, undo_slots}
use Rattle.history.specs.Languages.{KeepsCatalogName}
use Rattle.history.specs.Takeovers.{KeepsLog, LossesKeepLog, OpensNone, TakeoversBeginAgain}
use Rattle.history.proofs.Takeovers.{parted, takeovers_keep}

-- ---- lists of events

assoc : (xs ys zs : List Event) → (xs ++ ys) ++ zs ≡ xs ++ (ys ++ zs)
assoc [] ys zs = refl
assoc (x ∷ xs) ys zs = ap (λ es. x ∷ es) (assoc xs ys zs)

none_append : (xs ys : List Event) → OpensNone xs → OpensNone ys → OpensNone (xs ++ ys)
none_append [] ys p q = q
none_append (x ∷ xs) ys p q = (p.0, none_append xs ys p.1 q)

none_refusals : (ss : List ℕ) → OpensNone (refusals ss)
none_refusals [] = tt
none_refusals (s ∷ ss) = (refl, none_refusals ss)

none_crash : (l : Loss) → OpensNone (crash l)
none_crash l = by_test l.writer
  where
    by_test : (b : Bool)
        → OpensNone ((if b then writer_falls l.node l.busy else reader_falls l.node l.busy) ∷ refusals l.waiting)
    by_test true = (refl, none_refusals l.waiting)
    by_test false = (refl, none_refusals l.waiting)

none_slot : (s n : ℕ) → OpensNone (undo_slot s n)
none_slot s zero = (refl, tt)
none_slot s (suc n) = (refl, none_slot s n)

none_slots : (us : List Undoing) → OpensNone (undo_slots us)
none_slots [] = tt
none_slots (u ∷ us) =
    none_append (undo_slot u.session u.count) (undo_slots us) (none_slot u.session u.count) (none_slots us)

-- ---- takeovers that are begun again

-- from a Tail step to one opening, with none between
abbrev IsTakeover : List Event → ℕ → Type 0
IsTakeover es n = (more : List Event) × OpensNone more × (es ≡ tails ∷ (more ++ opens n ∷ []))

is_takeover : (bs : List Broken) (n : ℕ) (us : List Undoing) (lsn : ℕ)
    → IsTakeover (broken_takeovers bs ++ takeover n us lsn) n
is_takeover [] n us lsn = (
  undo_slots us ++ appends lsn ∷ [],
  none_append (undo_slots us) (appends lsn ∷ []) (none_slots us) (refl, tt),
  ap (λ es. tails ∷ es) (sym (assoc (undo_slots us) (appends lsn ∷ []) (opens n ∷ []))),
)
is_takeover (b ∷ bs) n us lsn =
    let r = is_takeover bs n us lsn in
    let front = undo_slots b.undone ++ crash b.loss in (
      front ++ (tails ∷ r.0),
      none_append front (tails ∷ r.0)
          (none_append (undo_slots b.undone) (crash b.loss) (none_slots b.undone) (none_crash b.loss)) (refl, r.1),
      ap (λ es. tails ∷ es)
          (assoc (undo_slots b.undone) (crash b.loss ++ broken_takeovers bs) (takeover n us lsn)
          ∙ ap (λ es. undo_slots b.undone ++ es) (assoc (crash b.loss) (broken_takeovers bs) (takeover n us lsn))
          ∙ sym (assoc (undo_slots b.undone) (crash b.loss) (broken_takeovers bs ++ takeover n us lsn))
          ∙ ap (λ es. front ++ es) r.2
          ∙ sym (assoc front (tails ∷ r.0) (opens n ∷ []))),
    )

pub takeovers_begin_again : (language : Language) → AnswerRules language.answers → KeepsCatalogName language
    → TakeoversBeginAgain language
takeovers_begin_again language rules names was c d bs n us lsn journal g h =
    let r = is_takeover bs n us lsn in
    takeovers_keep language rules names was c d r.0 n journal g r.1
    (subst (λ es. AllHappen language c es journal d) r.2 h)

-- ---- losses

kept : (c : Cluster) → KeepsLog c c
kept c = record { at = refl; lsn = refl; durable = refl; count = refl; end = refl; changes = refl }

then_kept : (b c d : Cluster) → KeepsLog b c → KeepsLog c d → KeepsLog b d
then_kept b c d x y = record {
  at = y.at ∙ x.at;
  lsn = y.lsn ∙ x.lsn;
  durable = y.durable ∙ x.durable;
  count = y.count ∙ x.count;
  end = y.end ∙ x.end;
  changes = y.changes ∙ x.changes;
}

-- the machine's numbers are kept
record KeepsNumbers (m n : Machine) : Type 0 where
  count : n.count ≡ m.count
  end : last n ≡ last m
  changes : n.changes ≡ m.changes

module _ (language : Language) where
  refusals_kept : (ss : List ℕ) (c d : Cluster) (journal : List Entry)
      → AllHappen language c (refusals ss) journal d → KeepsLog c d
  refusals_kept [] c d journal h = subst (λ x. KeepsLog c x) (sym h.1) (kept c)
  refusals_kept (s ∷ ss) c d journal h =
      let t = h.2 in
      let m : KeepsNumbers c.machine t.0 = subst (λ n. KeepsNumbers c.machine n) (sym (t.2).1)
      (record { count = refl; end = refl; changes = refl }) in
      then_kept c h.0 d
      (subst (λ x. KeepsLog c x) (sym t.4)
      (record { at = refl; lsn = refl; durable = refl; count = m.count; end = m.end; changes = m.changes }))
      (refusals_kept ss h.0 d h.1 h.4)

  crash_kept : (c d : Cluster) (l : Loss) (journal : List Entry) → AllHappen language c (crash l) journal d
      → KeepsLog c d
  crash_kept c d l journal h = then_kept c h.0 d (by_test l.writer h.2) (refusals_kept l.waiting h.0 d h.1 h.4)
    where
      by_test : (b : Bool)
          → Happens language (if b then writer_falls l.node l.busy else reader_falls l.node l.busy) c h.0
          → KeepsLog c h.0
      by_test true t =
          let m : KeepsNumbers c.machine t.0 = subst (λ n. KeepsNumbers c.machine n) (sym (t.1).3)
          (record { count = refl; end = refl; changes = refl }) in
          subst (λ x. KeepsLog c x) (sym t.3)
          (record { at = refl; lsn = refl; durable = refl; count = m.count; end = m.end; changes = m.changes })
      by_test false t =
          let m : KeepsNumbers c.machine t.0 = subst (λ n. KeepsNumbers c.machine n) (sym (t.1).3)
          (record { count = refl; end = refl; changes = refl }) in
          subst (λ x. KeepsLog c x) (sym t.4)
          (record { at = refl; lsn = refl; durable = refl; count = m.count; end = m.end; changes = m.changes })

  restart_kept : (c d : Cluster) (n : ℕ) (journal : List Entry) → AllHappen language c (restart n) journal d
      → KeepsLog c d
  restart_kept c d n journal h =
      let t = h.2 in
      let m : KeepsNumbers c.machine t.0 = subst (λ x. KeepsNumbers c.machine x) (sym (t.2).2)
      (record { count = refl; end = refl; changes = refl }) in
      subst (λ x. KeepsLog c x) (sym t.4 ∙ sym (h.4).1)
      (record { at = refl; lsn = refl; durable = refl; count = m.count; end = m.end; changes = m.changes })

  renewal_kept : (c d : Cluster) (ls : List Loss) (journal : List Entry)
      → AllHappen language c (renewal ls) journal d → KeepsLog c d
  renewal_kept c d [] journal h = subst (λ x. KeepsLog c x) (sym h.1) (kept c)
  renewal_kept c d (l ∷ ls) journal h =
      let p = parted language (crash l) (restart l.node ++ renewal ls) c d journal h in
      let q = parted language (restart l.node) (renewal ls) p.0 d p.2 p.4 in
      then_kept c p.0 d (crash_kept c p.0 l p.1 p.3)
      (then_kept p.0 q.0 d (restart_kept p.0 q.0 l.node q.1 q.3) (renewal_kept q.0 d ls q.2 q.4))

  pub losses_keep : LossesKeepLog language
  losses_keep = record { crashes = crash_kept; restarts = restart_kept; renewals = renewal_kept }
