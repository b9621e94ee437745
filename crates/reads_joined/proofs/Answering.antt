-- The outcome over what a statement found is the one over the table machine's database.
use Rattle.std.proofs.Common.{◌≡◌, ◌≢◌, ◌≤◌, ℕ, true, false, List, [], ◌∷◌, Option, None, refl, sym, ap, subst, ◌∙◌, arith, ◌⊎◌, inl, inr, le_trans}
use Rattle.sql_database.specs.Database.{Database}
use Rattle.sql_database.specs.Applied.{applied}
use Rattle.sql_database.specs.declared.changes.Change.{Change}
use Rattle.sql_database.specs.Rules.{AnswerRules}
use Rattle.sql_exec.specs.Answer.{Answers, ComesFrom}
use Rattle.sql_engine.specs.Read.{AreOf, mentioned}
use Rattle.sql_engine.proofs.NamedLemmas.{SameNamed, are_of, same_named}
use Rattle.sql_engine.proofs.ReadLemmas.{over_all}
use Rattle.table_machine.specs.Language.{Language}
use Rattle.table_machine.specs.Machine.{committed, last, pending_of, view}
use Rattle.version_store.specs.Contents.{Content, chain_of}
use Rattle.version_store.specs.Stores.{Store, catalog}
use Rattle.version_store.specs.Versions.{Version, is_own, seen}
use Rattle.history.specs.Clusters.{Cluster, now, own}
use Rattle.history.specs.Databases.{StandsFor}
use Rattle.history.specs.Invariant.{Refines, line}
use Rattle.history.specs.Languages.{KeepsCatalogName}
use Rattle.history.specs.Laws.{IsHistory}
use Rattle.history.specs.Places.{over, says}
use Rattle.history.specs.Timelines.{content_at}
use Rattle.history.proofs.Outcomes.{events_make_history}
use Rattle.history.proofs.SessionLaws.{pending_some}
use Rattle.history.proofs.Views.{number_is, read_place, snap_last, view_is}
use Rattle.snapshot_reads.specs.Pasts.{Past}
use Rattle.snapshot_reads.specs.Times.{image_at}
use Rattle.snapshot_reads.proofs.Rising.{rises_end}
use Rattle.reads_joined.specs.Answering.{AnswersAs, FoundIsAnswered, ReadersAnswer, ReadersAnswerAlways, ReadersHaveNone, RunsAnswer, WritersBegin}
use Rattle.reads_joined.proofs.Imaging.{statement_over}
use Rattle.reads_joined.proofs.Sounding.{sound_there}
use Rattle.reads_joined.proofs.Stating.{statement_there}
use Rattle.tree_timeline.specs.Types.{Items, PagesAt}
use Rattle.tree_timeline.specs.Walks.{Visit}
use Rattle.sql_values.specs.declared.schemas.Schema.{Schema}
use Rattle.sql_exec.specs.declared.rows.RangeRows.{RangeRows}
use Rattle.snapshot_reads.specs.Laws.{Reads, UsesWithin}
use Rattle.reads_joined.specs.Statements.{StatementFound}
use Rattle.sql_statements.specs.declared.statements.Stmt.{Stmt}

-- over the uses themselves
pub uses_answered : (at : PagesAt) (items : ℕ → ℕ → Items) (S : ℕ → Store) (base end n : ℕ)
    (own : Option ℕ) (f : Content) (d : Database) → Reads at items S base end n own f
    → StandsFor f d
    → (from : ℕ) (us : List Visit) → UsesWithin at S base n from end us
    → (st : Stmt) (schemas : List Schema) (rows : RangeRows)
    → StatementFound (image_at at) n own st us schemas rows → AnswersAs schemas rows d st
uses_answered at items S base end n own f d r is from us u st schemas rows found o from_rows =
    let le = rises_end end from us u.rises in
    let sound = sound_there at items S base end n own f r.keeps r.past d is from u.since le
    u.stands in
    let t = statement_there at items S base end n own f r.keeps r.past d is from u.since u.stands
    st us schemas rows found u.rises u.latched in
    over_all d schemas st o
    (subst (λ ss. AreOf ss d.schemas) (sym t.0) (are_of d.schemas (mentioned st)))
    (subst (λ ss. SameNamed ss d.schemas (mentioned st)) (sym t.0) (same_named d.schemas st)) sound
    (subst (λ given. ComesFrom (Answers schemas given st) o) t.1 from_rows)

pub found_is_answered : FoundIsAnswered
found_is_answered at items S base end n own f d r is from us u st schemas rows found =
    uses_answered at items S base end n own f d r is from us u st schemas rows
    (statement_over (image_at at) n own st us schemas rows found)

-- ---- a reader's past

past_of : {language : Language} → (was : Content) (c : Cluster) (n base : ℕ)
    → Refines language was c → c.machine.first ≤ n
    → Past c.at base c.lsn n None (content_at (line was c) n)
past_of {language} was c n base g low = record {
  read = λ j b l m a k. (g.sound j l).read n low m a k;
  rises = λ i j b le l. g.rises i j le l;
  later = λ i j t b le l. g.later i j t le l;
  lasts = λ i j b le l a v only fixed. g.lasts i j le l a v only (stamped (c.at i) v fixed);
  lone = λ j b l a. (g.sound j l).rooted.lone a;
}
  where
    stamped : (S : Store) (v : Version)
        → (Store.stamp S v.trx ≢ 0) ⊎ (is_own None v.trx ≡ true)
        → Store.stamp S v.trx ≡ 0 → ⊥
    stamped S v (inl h) = h
    stamped S v (inr e) = absurd (let x : false ≡ true = e in cc)

none_left : (xs : List Change) → (xs ≢ [] → ⊥) → xs ≡ []
none_left [] h = refl
none_left (x ∷ xs) h = absurd (h (λ e. let q : x ∷ xs ≡ [] = e in cc))

readers_there : {language : Language} → (was : Content) (c : Cluster) → Refines language was c
    → ReadersAnswer c
readers_there {language} was c g s t has nothing at items from keeps us u st schemas rows found =
    let high = snap_last was c s t g has in
    let low_end : t.snap ≤ (now c).last = high.1 in
    let below : t.snap ≤ last c.machine = le_trans low_end g.below in
    found_is_answered at items c.at from c.lsn t.snap None (content_at (line was c) t.snap)
    (view c.machine t)
    (record { keeps = keeps; past = past_of was c t.snap from g high.0 })
    (subst (λ (d : Database). StandsFor (content_at (line was c) t.snap) d)
    (sym (ap (applied (committed c.machine t.snap)) nothing))
    (number_is was c.machine g.fair t.snap high.0 below))
    from us u st schemas rows found

readers_have_none : {language : Language} → (was : Content) (c : Cluster) → Refines language was c
    → ReadersHaveNone c
readers_have_none {language} was c g s t has other =
    sym (pending_some (c.machine.sessions s) t has)
    ∙ none_left (pending_of (c.machine.sessions s)) (λ ne. other (g.fair.writes s ne))

pub readers_answer : (language : Language) → ReadersAnswerAlways language
readers_answer language was c g = (readers_there was c g, readers_have_none was c g)

pub runs_answer : (language : Language) → AnswerRules language.answers → KeepsCatalogName language
    → RunsAnswer language
runs_answer language rules names was nodes first base S boots events journal c happen =
    readers_answer language was c
    (IsHistory.refines (events_make_history language rules names was nodes first base S boots events
    journal c happen))

-- ---- a writer's

pub writers_begin : (language : Language) → WritersBegin language
writers_begin language was c g s t has todo =
    let l = snap_last was c s t g has in
    let same : c.lsn ≤ c.lsn = omega arith in (
      λ a k. over (says t.pending a k) (content_at (line was c) t.snap a k),
      record {
        read = λ j b e m a k. at_now j (between j b e) a k;
        rises = λ i j b le e. g.rises i j le e;
        later = λ i j t b le e. g.later i j t le e;
        lasts = λ i j b le e a v only fixed.
            subst (λ x. Store.rows (c.at x)
            catalog a ≡ v ∷ [])
            (between i b (le_trans le e) ∙ sym (between j (le_trans b le) e)) only;
        lone = λ j b e a. (g.sound j e).rooted.lone a;
      },
      view_is was c.machine g.fair s t has,
    )
  where
    between : (j : ℕ) → c.lsn ≤ j → j ≤ c.lsn → j ≡ c.lsn
    between j b e = omega (arith, b, e)

    at_now : (j : ℕ) → j ≡ c.lsn → (a k : List ℕ)
        → seen
        (chain_of (c.at j) a k)
        (Store.stamp (c.at j)) t.snap (own c s)
        ≡ over (says t.pending a k) (content_at (line was c) t.snap a k)
    at_now j e a k =
        subst (λ i. seen
        (chain_of (c.at i) a k)
        (Store.stamp (c.at i)) t.snap (own c s)
        ≡ over (says t.pending a k) (content_at (line was c) t.snap a k)) (sym e)
        (read_place (line was c) (now c) s t.snap (c.work s) (c.machine.sessions s)
        (g.sound c.lsn (omega arith)) (g.each s) todo (snap_last was c s t g has).0
        (snap_last was c s t g has).1 a k
        ∙ ap (λ cs. over (says cs a k) (content_at (line was c) t.snap a k))
        (pending_some (c.machine.sessions s) t has))
