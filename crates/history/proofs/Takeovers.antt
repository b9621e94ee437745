-- From a Tail step until a node opens the last stamp stays.
use Rattle.std.proofs.Common.{◌≡◌, ◌≢◌, ℕ, suc, ◌≤◌, false, List, [], ◌∷◌, ◌++◌, arith, refl, sym, subst, ap, ◌∙◌, le_trans}
use Rattle.sql_database.specs.Rules.{AnswerRules}
use Rattle.table_machine.specs.declared.entries.Entry.{Entry}
use Rattle.table_machine.specs.Language.{Language}
use Rattle.table_machine.specs.Machine.{Machine}
use Rattle.version_store.specs.Contents.{Content}
use Rattle.version_store.specs.Stores.{Store}
use Rattle.version_store.proofs.Places.{put_all}
use Rattle.history.specs.Clusters.{Cluster, Open, Work, grown, now}
use Rattle.history.specs.Events.{AllHappen, Event, Happens, MayCommit, MayInstall, MayOpen, IsReady, appends, begins, commits, creates, entries, frees, judges, opens, reader_falls, settle, splits, table, tails, takes_up, undoes, writer_falls, writes}
use Rattle.history.specs.Invariant.{Refines}
use Rattle.history.specs.Languages.{KeepsCatalogName}
use Rattle.history.specs.Takeovers.{OpensNone, TakeoversKeepDurable, is_opening}
use Rattle.history.proofs.AnswerLaws.{content_fits}
use Rattle.history.proofs.Happening.{story}

-- no node is open, and each group that is not durable keeps the last stamp
record IsCut (c : Cluster) (last : ℕ) : Type 0 where
  closed : c.mode ≢ Open
  order : c.durable ≤ c.lsn
  stays : (j : ℕ) → c.durable ≤ j → j ≤ c.lsn → (c.at j).last ≡ last

grown_cut : (c : Cluster) (l : ℕ) (S : Store) (s : ℕ) (w : Work) (m : Machine) → IsCut c l → S.last ≡ (now c).last
    → IsCut (grown c S s w m) l
grown_cut c l S s w m g e = record {
  closed = g.closed;
  order = let o = g.order in omega (arith, o);
  stays = put_all (λ j R. c.durable ≤ j → j ≤ suc c.lsn → R.last ≡ l) c.at (suc c.lsn) S
      (λ a b. e ∙ g.stays c.lsn g.order (omega arith)) (λ j ne a b. g.stays j a (omega (arith, ne, b)));
}

module _ (language : Language) where
  step_cut : (e : Event) (c d : Cluster) (l : ℕ) → is_opening e ≡ false → Happens language e c d → IsCut c l
      → IsCut d l
  step_cut (table e) c d l z h g =
      subst (λ x. IsCut x l) (sym h.4) (record { closed = g.closed; order = g.order; stays = g.stays })
  step_cut (takes_up s) c d l z h g = let r : IsReady c = h.4 in absurd (g.closed r.open_mode)
  step_cut (judges s) c d l z h g =
      subst (λ x. IsCut x l) (sym h) (record { closed = g.closed; order = g.order; stays = g.stays })
  step_cut (begins s) c d l z h g = absurd (g.closed h.1)
  step_cut (writes s p) c d l z h g = let m : MayInstall c s h.0 h.1 h.2 h.3 = h.4 in absurd (g.closed m.open_mode)
  step_cut (creates s p) c d l z h g = let m : MayInstall c s h.0 h.1 h.2 h.3 = h.4 in absurd (g.closed m.open_mode)
  step_cut (splits s p) c d l z h g =
      subst (λ x. IsCut x l) (sym h.3) (grown_cut c l _ s (c.work s) c.machine g refl)
  step_cut (commits s) c d l z h g = let m : MayCommit c s h.0 = h.1 in absurd (g.closed m.open_mode)
  step_cut (appends e) c d l z h g = subst (λ x. IsCut x l) (sym h.2)
      (record { closed = g.closed; order = h.1; stays = λ j a b. g.stays j (le_trans h.0 a) b })
  step_cut settle c d l z h g = absurd (g.closed h.1)
  step_cut (undoes s) c d l z h g = subst (λ x. IsCut x l) (sym h.5) (grown_cut c l _ s (c.work s) c.machine g refl)
  step_cut (frees s) c d l z h g = subst (λ x. IsCut x l) (sym h.3) (grown_cut c l _ s (c.work s) c.machine g refl)
  step_cut (writer_falls n ss) c d l z h g =
      subst (λ x. IsCut x l) (sym h.3)
      (record { closed = λ x. absurd (grind arith); order = g.order; stays = g.stays })
  step_cut (reader_falls n ss) c d l z h g =
      subst (λ x. IsCut x l) (sym h.4) (record { closed = g.closed; order = g.order; stays = g.stays })
  step_cut tails c d l z h g = subst (λ x. IsCut x l) (sym h.1)
      (record {
        closed = λ x. absurd (grind arith);
        order = omega arith;
        stays = λ j a b. g.stays j a (le_trans b g.order);
      })
  step_cut (opens n) c d l z h g = absurd (grind arith)

  all_cut : (es : List Event) (c d : Cluster) (l : ℕ) (journal : List Entry) → OpensNone es
      → AllHappen language c es journal d → IsCut c l → IsCut d l
  all_cut [] c d l journal z h g = subst (λ x. IsCut x l) (sym h.1) g
  all_cut (e ∷ es) c d l journal z h g = all_cut es h.0 d l h.1 z.1 h.4 (step_cut e c h.0 l z.0 h.2 g)

  -- what happens in two parts
  abbrev pub Between : Cluster → List Event → List Event → Cluster → Type 0
  Between c xs ys d = (mid : Cluster) × (js : List Entry) × (ks : List Entry) × AllHappen language c xs js mid
      × AllHappen language mid ys ks d

  pub parted : (xs ys : List Event) (c d : Cluster) (journal : List Entry)
      → AllHappen language c (xs ++ ys) journal d → Between c xs ys d
  parted [] ys c d journal h = (c, [], journal, (refl, refl), h)
  parted (e ∷ xs) ys c d journal h =
      let r = parted xs ys h.0 d h.1 h.4 in
      (r.0, entries e c ++ r.1, r.2, (h.0, r.1, h.2, refl, r.3), r.4)

  tail_cut : (was : Content) (c d : Cluster) → Refines language was c → Happens language tails c d
      → IsCut d (c.at c.durable).last
  tail_cut was c d g h = subst (λ x. IsCut x (c.at c.durable).last) (sym h.1) (record {
    closed = λ x. absurd (grind arith);
    order = omega arith;
    stays = λ j a b. ap (λ i. (c.at i).last) (let e : j ≡ c.durable = omega (arith, a, b) in e);
  })

  pub takeovers_keep : AnswerRules language.answers → KeepsCatalogName language → TakeoversKeepDurable language
  takeovers_keep rules names was c d more n journal g z h =
      let p = parted more (opens n ∷ []) h.0 d h.1 h.4 in
      let good = (story language names rules.by_content (content_fits rules) was (tails ∷ more) c
      (entries tails c ++ p.1) p.0 (h.0, p.1, h.2, refl, p.3) g).1 in
      let k = all_cut more h.0 p.0 (c.at c.durable).last p.1 z p.3 (tail_cut was c h.0 g h.2) in
      opened_at p.0 (p.4).0 (c.at c.durable).last good k (p.4).2 (sym ((p.4).4).1)
    where
      opened_at : (m b : Cluster) (l : ℕ) → Refines language was m → IsCut m l → Happens language (opens n) m b
          → b ≡ d
          → (d.machine.count ≡ l) × (d.machine.waiting ≡ 0)
      opened_at m b l good k o e =
          let w : MayOpen m n = o.0 in
          let whole = w.whole in
          let last : (now m).last ≡ l = k.stays m.lsn k.order (omega arith) in
          let kept = good.kept in
          let same : (m.at m.durable).last ≡ (now m).last = ap (λ j. (m.at j).last) whole in
          subst (λ x. (x.machine.count ≡ l) × (x.machine.waiting ≡ 0)) (sym o.1 ∙ e)
          (omega (arith, last, kept, same), refl)
