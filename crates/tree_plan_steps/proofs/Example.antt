-- For the proofs: the example's groups follow their events, by computation.
use Rattle.commit_stamps.proofs.CommitLaws as committing_laws
use Rattle.history.specs.SmallLanguage as language
use Rattle.tree_change.proofs.SplitEffects.{can_count}
use Rattle.plan_steps.specs.Creates.{create_records}
use Rattle.commit_stamps.specs.Stamping.{IsStampPage, stamp_page}
use Rattle.std.specs.Prelude.{bytes_eq}
use Rattle.std.proofs.Common.{◌≡◌, ◌≢◌, ◌≤◌, ◌<◌, ◌^◌, ℕ, zero, suc, true, List, [], ◌∷◌, length, None, Some, codes, refl, sym, ap, subst, arith, inr}
use Rattle.page_image.specs.declared.kind.Kind.TheVariants.{Inner, Leaf}
use Rattle.page_image.specs.Image.{Image, unmade}
use Rattle.page_image.specs.Meta.{counters_of, page_count}
use Rattle.page_view.specs.Leaf.{IsLeaf}
use Rattle.page_view.specs.Undo.{IsUndo}
use Rattle.redo_record.specs.declared.redo.Record.{Record}
use Rattle.redo_record.specs.Effect.{RecordsApply, after_records}
use Rattle.rm_base.specs.Fields.{field, number}
use Rattle.row_codec.specs.Records.{IsRecord}
use Rattle.bplus_tree.specs.Tree.{Way}
use Rattle.bplus_tree.specs.Tree as tree
use Rattle.tree_change.specs.Pages.{HasRows}
use Rattle.tree_change.specs.Places.{HasKey}
use Rattle.tree_change.specs.Room.{room_for, size_of}
use Rattle.tree_change.proofs.ChangeLaws.{insert_carries}
use Rattle.commit_stamps.specs.Fields.{no_undo, slot_of}
use Rattle.commit_stamps.proofs.CommitLaws.{points_at}
use Rattle.undo_versions.specs.Appending.{bytes_of, fits_bytes, undo_step}
use Rattle.undo_versions.specs.Effects.{Appends}
use Rattle.undo_versions.specs.Reading.{holds_undo, undo_in, undone_of}
use Rattle.undo_versions.proofs.StepLaws.{appends_at_end}
use Rattle.sql_catalog.specs.Catalog.{catalog_row}
use Rattle.version_store.specs.Contents.{catalog_name}
use Rattle.version_store.specs.Stores.{catalog, naming}
use Rattle.held_versions.specs.Tables.{SaysTable, SpellsTable, catalog_schema}
use Rattle.plan_steps.specs.Parts.{undo_in_use, with_made}
use Rattle.tree_plan_steps.specs.Planned.{KeepsUndoItem}
use Rattle.tree_plan_steps.specs.Ways.{IsPath}
use Rattle.tree_plan_steps.proofs.Making.{create_follows}
use Rattle.page_image.specs.Rules.{IsImage}
use Rattle.page_image.proofs.ChangeLaws.{unmade_good}
use Rattle.redo_record.specs.Opening.{opening_records}
use Rattle.redo_record.proofs.OpeningLaws.{opening_applies}
use Rattle.commit_stamps.specs.Effects.{Begins, Commits}
use Rattle.commit_stamps.specs.Plans.{begin_records, commit_records}
use Rattle.commit_stamps.proofs.BeginLaws.{begins}
use Rattle.table_machine.specs.declared.entries.Entry.{Entry}
use Rattle.history.specs.Events as event
use Rattle.history.specs.Events.{AllHappen, Event, MayCommit}
use Rattle.history.specs.Clusters.{Work, now}
use Rattle.history.specs.Invariant.{Refines}
use Rattle.history.specs.SmallLanguage.{schema, small}
use Rattle.history.proofs.AnswerLaws.{content_fits}
use Rattle.history.proofs.Blank.{nothing}
use Rattle.history.proofs.Happening.{story}
use Rattle.history.proofs.SmallMaking.{c0, c1, c2, c3, c4, c5, c6, c7, c8, does1, does2, does3, does4, does5, does6, does7, does8, good5, past7, past8, c9, does9, past9}
use Rattle.history.proofs.SmallRules.{keeps_name, small_rules}
use Rattle.history.proofs.SmallSessions.{by_session, made, rested, t1x, none_forced}
use Rattle.held_versions.specs.Laws.{no_items}
use Rattle.held_versions.specs.Run.{after_opening, after_begin}
use Rattle.held_versions.proofs.Opening.{opening_is_blank}
use Rattle.held_versions.proofs.Running.{records_good}
use Rattle.plan_steps.proofs.Entries.{entries_stay_rooted}
use Rattle.tree_plan_steps.specs.Example.{after_create, before_begin, items, put_plan, table_item, table_step, table_undo, after_commit}
use Rattle.tree_plan_steps.specs.Following.{Stands, Follows, MayCreate}
use Rattle.tree_plan_steps.proofs.Following.{begin_follows, commit_follows}

-- ---- the cluster

abbrev judging : List Event
judging = event.takes_up 0 ∷ (event.judges 0 ∷ [])

pub judged : (journal : List Entry) × AllHappen small c5 judging journal c7
judged = (_, (c6, _, does6, refl, (c7, _, does7, refl, (refl, refl))))

pub good7 : Refines small nothing c7
good7 =
    (story small keeps_name small_rules.by_content (content_fits small_rules) nothing judging c5
    judged.0 c7 judged.1 good5).1

pub run7 : (journal : List Entry) × AllHappen small c0 before_begin journal c7
run7 = (
  _,
  (
    c1,
    _,
    does1,
    refl,
    (
      c2,
      _,
      does2,
      refl,
      (
        c3,
        _,
        does3,
        refl,
        (
          c4,
          _,
          does4,
          refl,
          (c5, _, does5, refl, (c6, _, does6, refl, (c7, _, does7, refl, (refl, refl)))),
        ),
      ),
    ),
  ),
)

-- ---- the pages

pub opening_good : (p : ℕ) → p ≤ 32767 → IsImage (after_opening p)
opening_good p bound =
    (records_good opening_records 1 (unmade p) (omega arith) (omega arith)
    (unmade_good p bound, omega arith) (opening_applies 1 p)).0

pub first_begins : Begins (after_opening 0) (after_opening 1) 0 1
    (begin_records (after_opening 0) (after_opening 1) 0 1)
first_begins =
    begins (after_opening 0) (after_opening 1) 0 1 (opening_good 0 (omega arith))
    (opening_good 1 (omega arith)) opening_is_blank.counters.meta opening_is_blank.slots.page
    (omega arith) (omega arith)

pub opening_stands : Stands no_items after_opening (now c7)
opening_stands = record {
  holds = opening_is_blank;
  entries = entries_stay_rooted.first;
  behind = λ root past. refl;
}

pub next_is : 1 ≡ (counters_of (after_opening 0)).next
next_is = opening_is_blank.counters.next_is

abbrev pub begin : Follows small (event.begins 0) c7 no_items after_opening after_begin
begin =
    begin_follows small nothing c7 no_items after_opening 2 0
    (begin_records (after_opening 0) (after_opening 1) 0 1) good7 opening_stands
    (record { no_job = rested c7 refl refl refl past7; open_mode = refl; free = refl; has = refl })
    (omega arith) (omega (arith, next_is))
    (subst
    (λ (t : ℕ). Begins (after_opening 0) (after_opening 1) 0 t
    (begin_records (after_opening 0) (after_opening 1) 0 1)) next_is first_begins)

-- ---- the table is made

pub good8 : Refines small nothing c8
good8 =
    (story small keeps_name small_rules.by_content (content_fits small_rules) nothing (event.begins 0 ∷ []) c7
    _ c8 (c8, _, does8, refl, (refl, refl)) good7).1

-- a page after the records of a group that apply
pub good_after : (records : List Record) (lsn : ℕ) (im : Image) → 1 ≤ lsn → lsn < 2 ^ 64 → IsImage im
    → im.lsn ≤ lsn → RecordsApply lsn records im → IsImage (after_records lsn records im)
good_after records lsn im some small good low applies =
    (records_good records lsn im some small (good, low) applies).0

pub meta_good : IsImage (after_begin 0)
meta_good =
    good_after (begin_records (after_opening 0) (after_opening 1) 0 1) 2 (after_opening 0) (omega arith)
    (omega arith) (opening_good 0 (omega arith)) (omega arith) (first_begins.runs.applies 2).1.1.0

pub slots_good : IsImage (after_begin 1)
slots_good =
    good_after (begin_records (after_opening 0) (after_opening 1) 0 1) 2 (after_opening 1) (omega arith)
    (omega arith) (opening_good 1 (omega arith)) (omega arith) (first_begins.runs.applies 2).1.0

pub undo_page_is : undo_in_use after_begin ≡ after_begin 1027
unfolding number field
undo_page_is = refl

pub step_same : table_step ≡ undo_step (after_begin 0) (undo_in_use after_begin) table_undo
unfolding number field
step_same = refl

pub count_is : page_count (after_begin 0) ≡ 1028
unfolding number field
count_is = refl

pub last_is : (slot_of (after_begin 1) 0).last ≡ no_undo
unfolding number field
last_is = refl

pub undo_is : IsUndo (undone_of table_undo)
undo_is = record {
  trx = omega arith;
  root = omega arith;
  before_page = omega arith;
  before_slot = omega arith;
  short_key = omega arith;
  old = tt;
}

pub undo_said : undo_in (bytes_of table_undo) ≡ Some (undone_of table_undo)
unfolding number field holds_undo
undo_said = refl

pub undo_fits : fits_bytes (after_begin 1027) (bytes_of table_undo) ≡ true
unfolding field
undo_fits = refl

pub keeps : KeepsUndoItem after_begin 0 table_undo table_step
keeps = record {
  space = λ full. (let few = count_is in let most = full.1 in absurd (omega (arith, few, most)));
  step_is = step_same;
  appends =
      subst (λ (im : Image). Appends im table_undo table_step) (sym undo_page_is)
      (appends_at_end (after_begin 1027) table_undo (bytes_of table_undo) refl undo_is refl undo_said
      undo_fits);
  pointed = points_at (after_begin 1) 0 table_step.at slots_good begin.stands.holds.slots.page
      (omega arith) (omega arith) (omega arith);
}

-- ---- its leaf

pub leaf_rows : HasRows (after_begin catalog)
leaf_rows = record { kind = refl; items = tt; ascend = λ i j less within. absurd (omega arith) }

pub no_key : ¬ HasKey (codes "t") (after_begin catalog)
no_key h = absurd (let e : None ≡ Some (codes "t") = h.1 in cc)

pub size_is : length table_item.value ≡ 12
unfolding field
size_is = refl

pub item_is : IsLeaf table_item
item_is = record {
  short_key = omega arith;
  short = omega (arith, size_is);
  trx = omega arith;
  older_page = omega arith;
  older_slot = omega arith;
}

pub room : size_of table_item ≤ room_for (codes "t") (after_begin catalog)
room = omega (arith, size_is)

pub leaf_way : IsPath after_begin catalog [] (codes "t") (after_begin catalog ∷ [])
leaf_way = record { numbers = catalog ∷ []; way = λ tree. by_level tree.level tree.nodes tree.stands; read = refl }
  where
    by_level : (level : ℕ) (nodes : List ℕ) → tree.Stands after_begin level catalog None None [] nodes
        → Way after_begin level catalog (codes "t") (catalog ∷ [])
    by_level zero nodes s = refl
    by_level (suc level) nodes s = absurd (let e : Leaf ≡ Inner = s.2.kind in cc)

-- ---- its row in the catalog

pub spelt : IsRecord catalog_schema (catalog_row schema 1028) table_item.key table_item.value
unfolding field
spelt = record {
  fits = record { cells = (tt, (tt, tt)); key = λ e. cc };
  ints = tt;
  key_is = refl;
  value_is = refl;
  short_key = omega arith;
  short_record = omega arith;
}

pub spells : SpellsTable table_item schema 1028
spells = record {
  table = record { some = omega arith; few = omega arith; differ = (tt, tt); key = omega arith };
  bounded = record {
    table = (omega arith, omega arith);
    columns = ((omega arith, omega arith), tt);
    page = omega arith;
  };
  spelt = spelt;
}

pub says : SaysTable table_item (naming (with_made (now c8) None) 1 made.row)
says = record { lives = refl; schema = schema; spells = spells; row = refl }

pub names_table : bytes_eq made.table catalog_name ≡ true
unfolding catalog_name
names_table = refl

abbrev pub may_create : MayCreate c8 0 1 made
may_create = record {
  transaction = t1x;
  others = [];
  may = record {
    no_job = rested c8 refl refl refl past8;
    others = by_session (λ u. u ≢ 0 → (c8.work u).todo ≡ []) (λ n. absurd (n refl)) (λ n. refl)
        (λ n. refl) (λ u k n. ap (λ w. Work.todo w) (past8 u k));
    open_mode = refl;
    has = refl;
    slot = refl;
    stays = refl;
    todo = refl;
  };
  is_table = names_table;
}

abbrev pub create : Follows small (event.creates 0 1028) c8 items after_begin after_create
create =
    create_follows small nothing c8 no_items after_begin 3 0 1 1028 made table_item table_undo
    (after_begin catalog ∷ []) put_plan table_step good8 begin.stands may_create refl says
    (record {
      path_is = leaf_way;
      spelt = item_is;
      wrote = refl;
      points_to = refl;
      puts = record {
        puts = record { inserts = λ _. refl; replaces = λ k. absurd (no_key k) };
        carries = insert_carries (after_begin catalog ∷ []) table_item item_is leaf_rows no_key room;
      };
      keeps_old = record { trx_is = refl; root_is = refl; key_is = refl; old_is = refl; before_is = sym last_is };
      keeps = keeps;
    })
    (sym count_is) (omega arith) meta_good

-- ---- and the transaction is committed

pub good9 : Refines small nothing c9
good9 =
    (story small keeps_name small_rules.by_content (content_fits small_rules) nothing
    (event.creates 0 1028 ∷ []) c8 _ c9 (c9, _, does9, refl, (refl, refl)) good8).1

pub made_stands : Stands items after_create (now c9)
made_stands = create.stands

pub after_meta : IsImage (after_create 0)
after_meta =
    good_after (create_records after_begin 0 put_plan.records 1028 table_step) 3 (after_begin 0)
    (omega arith) (omega arith) meta_good (omega arith) (
      λ e. absurd (omega (arith, e)),
      (
        λ e. absurd (omega (arith, e)),
        (
          λ e. absurd (omega (arith, e)),
          (λ e. absurd (omega (arith, e)), (λ e. can_count (after_begin 0) 1029 refl, tt)),
        ),
      ),
    )

pub after_slots : IsImage (after_create 1)
after_slots =
    good_after (create_records after_begin 0 put_plan.records 1028 table_step) 3 (after_begin 1)
    (omega arith) (omega arith) slots_good (omega arith) (
      λ e. absurd (omega (arith, e)),
      (
        λ e. absurd (omega (arith, e)),
        (
          λ e. absurd (omega (arith, e)),
          ((keeps.pointed.runs.applies 3).0.0, (λ e. absurd (omega (arith, e)), tt)),
        ),
      ),
    )

pub after_stamps : IsImage (after_create 2)
after_stamps =
    good_after (begin_records (after_opening 0) (after_opening 1) 0 1) 2 (after_opening 2) (omega arith)
    (omega arith) (opening_good 2 (omega arith)) (omega arith) (first_begins.runs.applies 2).0

pub trx_one : (slot_of (after_create 1) 0).trx ≡ 1
unfolding number field
trx_one = refl

pub first_commits : Commits (after_create 0) (after_create 1) (after_create 2) 0
    (commit_records (after_create 0) (after_create 1) (after_create 2) 0)
first_commits =
    let last : 0 ≡ (counters_of (after_create 0)).last = made_stands.holds.counters.last_is in
    committing_laws.commits (after_create 0) (after_create 1) (after_create 2) 0 after_meta after_slots after_stamps
    made_stands.holds.counters.meta made_stands.holds.slots.page
    (subst (IsStampPage (after_create 2)) (sym trx_one)
    (made_stands.holds.stamps.made 1 (omega arith) (omega arith)))
    (omega arith) (omega (arith, last))

pub may_commit : MayCommit c9 0 1
may_commit = record {
  no_job = rested c9 refl refl refl past9;
  free = none_forced c9.machine (let z : c9.machine.joined ≤ 3 = omega arith in z) refl refl refl;
  may = record {
    statement = language.create;
    runs = refl;
    writer = refl;
    free = refl;
    changes = λ e. grind arith;
    commits = inr (refl, refl, refl);
  };
  open_mode = refl;
  slot = refl;
  stays = refl;
  todo = refl;
}

abbrev pub commit : Follows small (event.commits 0) c9 items after_create after_commit
commit =
    commit_follows small nothing c9 items after_create 4 0 1
    (commit_records (after_create 0) (after_create 1) (after_create 2) 0) good9 made_stands may_commit
    (subst
    (λ (t : ℕ). Commits (after_create 0) (after_create 1) (after_create (stamp_page t)) 0
    (commit_records (after_create 0) (after_create 1) (after_create 2) 0)) (sym trx_one) first_commits)
