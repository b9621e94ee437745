-- For the proofs: what each worker keeps, of a node that only reads.
use Rattle.std.specs.Prelude.{◌≡◌, ◌++◌, ℕ, Bool, true, false, List, [], ◌∷◌, Option, Some, None, IsSome, option_to_list, refl}
use Rattle.std.proofs.Common.{sym, ◌∙◌, ap, subst}
use Rattle.page_image.specs.Image.{Image}
use Rattle.sql_statements.specs.declared.statements.Stmt.{Stmt}
use Rattle.sql_database.specs.declared.replies.SqlReply.{SqlReply}
use Rattle.question_tree.specs.Questions.{Ask, tells, asks, stops, Gives}
use Rattle.range_reader.specs.declared.fetch.Fetch.{Fetch}
use Rattle.range_reader.specs.declared.fetch.Fetch.TheVariants as fetch
use Rattle.range_reader.specs.declared.fetch.Snapshot.{Snapshot}
use Rattle.range_reader.specs.Finding as finding
use Rattle.range_reader.specs.Finding.{page_of}
use Rattle.range_reader.specs.Laws.{IsOrderly}
use Rattle.statement_reader.specs.declared.asking.Read.{Read}
use Rattle.statement_reader.specs.Question.{Reading}
use Rattle.statement_reader.specs.Reads as statement
use Rattle.statement_reader.specs.Reads.{IsReadOver}
use Rattle.statement_reader.proofs.KeptLaws.{tells_read, reads_orderly}
use Rattle.statement_work.specs.declared.acts.Job.{Job}
use Rattle.statement_work.specs.Works as works
use Rattle.statement_work.specs.Works.{Fetches, Releases, Stamps, Input, Handed, Stamped, Made, Told, Replied, Rested, Fits, image_in, stamp_in, uses}
use Rattle.statement_work.specs.Latches.{IsPolite, KeepsLatches, is_child}
use Rattle.statement_work.specs.Replies.{EndsInReply}
use Rattle.ro_worker.specs.declared.kinds.StatementKind.{StatementKind}
use Rattle.ro_worker.specs.declared.kinds.StatementKind.TheVariants as kind
use Rattle.ro_worker.specs.Kinds.{kind_of}
use Rattle.ro_worker.specs.Wishes.{reads_only}
use Rattle.ro_worker.specs.Serving.{ReadWork, at_stamp, begins, begun, fetched, freed, latched, reads, ro_finds, ro_serves, ro_undoes, serves_by, stamp_for}

-- ---- what is told is found

freed_gives : (held : Option ℕ) (w : ReadWork) (xs : List Input) (a : Told Read) → Gives Fits (freed held w) xs a
    → (ys : List Input) × (uses xs ≡ uses ys) × Gives Fits w ys a
freed_gives None w xs a h = (xs, refl, h)
freed_gives (Some p) w [] a h = absurd h
freed_gives (Some p) w (Handed im ∷ xs) a h = absurd h.0
freed_gives (Some p) w (Stamped n ∷ xs) a h = absurd h.0
freed_gives (Some p) w (Made ∷ xs) a h = (xs, refl, h.1)

-- what is told is what the reading gives
abbrev pub GivesRead : Reading Read → List Image → Told Read → Type 0
GivesRead m us a = (r : Read) × (a ≡ works.Found r) × Gives finding.Fits m us r

abbrev tells_found : Read → ReadWork
tells_found r = tells (works.Found r)

abbrev tells_reply : SqlReply → ReadWork
tells_reply r = tells (Replied r)

told_gives : (r : Read) (ys : List Input) (a : Told Read) → Gives Fits (tells_found r) ys a → GivesRead (tells r) (uses ys) a
told_gives r [] a h = (r, sym h, refl)
told_gives r (y ∷ ys) a h = absurd h

ask_gives : (b : Bool) (held : Option ℕ) (q : Fetch) (k : Image → Reading Read) (n : Image → ReadWork) (xs : List Input) (a : Told Read)
    → ((im : Image) (ys : List Input) → Gives Fits (n im) ys a → GivesRead (k im) (uses ys) a)
    → Gives Fits (fetched b held q n) xs a → GivesRead (asks q k) (uses xs) a
ask_gives true held q k n [] a rec h = absurd h
ask_gives true held q k n (Stamped m ∷ xs) a rec h = absurd h.0
ask_gives true held q k n (Made ∷ xs) a rec h = absurd h.0
ask_gives true held q k n (Handed im ∷ xs) a rec h =
    let r = freed_gives held (n im) xs a h.1 in
    let g = rec im r.0 r.2 in
    (g.0, g.1, (h.0, subst (λ (us : List Image). Gives finding.Fits (k im) us g.0) (sym r.1) g.2))
ask_gives false held q k n xs a rec h =
    let r = freed_gives held _ xs a h in
    subst (λ (us : List Image). GivesRead (asks q k) us a) (sym r.1) (go r.0 r.2)
  where
    go : (ys : List Input) → Gives Fits (asks (Fetches false q) (λ x. n (image_in x))) ys a → GivesRead (asks q k) (uses ys) a
    go [] g = absurd g
    go (Stamped m ∷ zs) g = absurd g.0
    go (Made ∷ zs) g = absurd g.0
    go (Handed im ∷ zs) g = let r = rec im zs g.1 in (r.0, r.1, (g.0, r.2))

pub latched_gives : (held : Option ℕ) (m : Reading Read) (xs : List Input) (a : Told Read) → Gives Fits (latched held m) xs a → GivesRead m (uses xs) a
unfolding latched
latched_gives held (tells r) xs a h =
    let g = freed_gives held (tells_found r) xs a h in
    subst (λ (us : List Image). GivesRead (tells r) us a) (sym g.1) (told_gives r g.0 a g.2)
latched_gives held (asks q k) xs a h =
    ask_gives (is_child q) held q k (λ im. latched (Some (page_of q)) (k im)) xs a (λ im ys g. latched_gives (Some (page_of q)) (k im) ys a g) h
latched_gives held stops xs a h = let r = freed_gives held stops xs a h in absurd r.2

same_told : {a b : Read} → works.Found a ≡ works.Found b → a ≡ b
same_told e = cc

replied_found : (r : SqlReply) (a : Read) → Replied r ≡ works.Found a → ⊥
replied_found r a e = cc

found_at : (st : Stmt) (s : Snapshot) (us : List Image) (a : Read) → GivesRead (statement.reads s st) us (works.Found a) → IsReadOver s st us a
found_at st s us a (r, e, g) = tells_read s st us a (subst (λ (x : Read). Gives finding.Fits (statement.reads s st) us x) (sym (same_told e)) g)

no_reply : (r : SqlReply) (xs : List Input) (a : Read) → Gives Fits (tells_reply r) xs (works.Found a) → ⊥
no_reply r [] a h = replied_found r a h
no_reply r (x ∷ xs) a h = h

select_right : (snapshot own : Option ℕ) (st : Stmt) (xs : List Input) (a : Read) → Gives Fits (at_stamp snapshot (reads st own)) xs (works.Found a)
    → IsReadOver (record { stamp = stamp_for snapshot xs; own = own }) st (uses xs) a
select_right (Some n) own st xs a h = found_at st _ (uses xs) a (latched_gives None (statement.reads (record { stamp = n; own = own }) st) xs (works.Found a) h)
select_right None own st [] a h = absurd h
select_right None own st (Handed im ∷ xs) a h = absurd h.0
select_right None own st (Made ∷ xs) a h = absurd h.0
select_right None own st (Stamped n ∷ xs) a h = found_at st _ (uses xs) a (latched_gives None (statement.reads (record { stamp = n; own = own }) st) xs (works.Found a) h.1)

begin_right : (lasting : Bool) (snapshot : Option ℕ) (xs : List Input) (a : Read) → Gives Fits (begins lasting snapshot) xs (works.Found a) → ⊥
begin_right true snapshot xs a h = no_reply _ xs a h
begin_right false (Some n) xs a h = no_reply _ xs a h
begin_right false None [] a h = h
begin_right false None (x ∷ xs) a h = no_reply _ xs a h.1

right_by : (k : StatementKind) (job : Job) (xs : List Input) (a : Read) → Gives Fits (serves_by k job) xs (works.Found a) → ro_finds job xs a
right_by kind.Write job xs a h = absurd (no_reply _ xs a h)
right_by kind.Select job xs a h = select_right job.snapshot job.trx job.statement xs a h
right_by kind.Begin job xs a h = absurd (begin_right job.lasting job.snapshot xs a h)
right_by kind.End job xs a h = absurd (no_reply _ xs a h)

pub ro_right : (job : Job) (xs : List Input) (a : Read) → Gives Fits (ro_serves job) xs (works.Found a) → ro_finds job xs a
ro_right job xs a h = right_by (kind_of job.statement) job xs a h

-- ---- it ends in a reply

freed_ends : (held : Option ℕ) (w : ReadWork) → EndsInReply w → EndsInReply (freed held w)
freed_ends None w h = h
freed_ends (Some p) w h = λ x. h

ask_ends : (b : Bool) (held : Option ℕ) (q : Fetch) (n : Image → ReadWork) → ((im : Image) → EndsInReply (n im)) → EndsInReply (fetched b held q n)
ask_ends true held q n h = λ x. freed_ends held (n (image_in x)) (h (image_in x))
ask_ends false held q n h = freed_ends held _ (λ x. h (image_in x))

pub latched_ends : (held : Option ℕ) (m : Reading Read) → EndsInReply (latched held m)
unfolding latched
latched_ends held (tells a) = freed_ends held _ tt
latched_ends held (asks q k) = ask_ends (is_child q) held q _ (λ im. latched_ends (Some (page_of q)) (k im))
latched_ends held stops = freed_ends held stops tt

at_ends : (snapshot : Option ℕ) (k : ℕ → ReadWork) → ((n : ℕ) → EndsInReply (k n)) → EndsInReply (at_stamp snapshot k)
at_ends (Some n) k h = h n
at_ends None k h = λ x. h (stamp_in x)

pub reads_end : (st : Stmt) (own : Option ℕ) (n : ℕ) → EndsInReply (reads st own n)
reads_end st own n = latched_ends None (statement.reads (record { stamp = n; own = own }) st)

begins_end : (lasting : Bool) (snapshot : Option ℕ) → EndsInReply (begins lasting snapshot)
begins_end true snapshot = tt
begins_end false snapshot = at_ends snapshot begun (λ n. tt)

ends_by : (k : StatementKind) (job : Job) → EndsInReply (serves_by k job)
ends_by kind.Write job = tt
ends_by kind.Select job = at_ends job.snapshot (reads job.statement job.trx) (reads_end job.statement job.trx)
ends_by kind.Begin job = begins_end job.lasting job.snapshot
ends_by kind.End job = tt

pub ro_ends : (job : Job) → EndsInReply (ro_serves job)
ro_ends job = ends_by (kind_of job.statement) job

-- ---- the latches

freed_polite : (held : Option ℕ) (rest : List ℕ) (w : ReadWork) → IsPolite rest w → IsPolite (option_to_list held ++ rest) (freed held w)
freed_polite None rest w h = h
freed_polite (Some p) rest w h = (rest, refl, h)

freed_all : (held : Option ℕ) (w : ReadWork) → IsPolite [] w → IsPolite (option_to_list held) (freed held w)
freed_all None w h = h
freed_all (Some p) w h = ([], refl, h)

pub polite_from : (held : Option ℕ) (c : Bool) (m : Reading Read) → (c ≡ true → IsSome held) → IsOrderly c m
    → IsPolite (option_to_list held) (latched held m)
unfolding latched
polite_from held c (tells a) s o = freed_all held _ refl
polite_from None c (asks (fetch.Child p) k) s o = absurd (nothing (s o.0))
  where
    nothing : false ≡ true → ⊥
    nothing q = cc
polite_from (Some h) c (asks (fetch.Child p) k) s o =
    ((h, refl), λ im. (p ∷ [], refl, polite_from (Some p) true (k im) (λ _. refl) (o.1 im)))
polite_from held c (asks (fetch.Root p) k) s o = freed_all held _ (refl, λ im. polite_from (Some p) true (k im) (λ _. refl) (o im))
polite_from held c (asks (fetch.Next p) k) s o = freed_all held _ (refl, λ im. polite_from (Some p) false (k im) (λ _. refl) (o im))
polite_from held c (asks (fetch.Stamps p) k) s o = freed_all held _ (refl, λ im. polite_from (Some p) false (k im) (λ _. refl) (o im))
polite_from held c (asks (fetch.Undo p) k) s o = freed_all held _ (refl, λ im. polite_from (Some p) false (k im) (λ _. refl) (o im))
polite_from held c stops s o = freed_all held stops tt

at_polite : (snapshot : Option ℕ) (k : ℕ → ReadWork) → ((n : ℕ) → IsPolite [] (k n)) → IsPolite [] (at_stamp snapshot k)
at_polite (Some n) k h = h n
at_polite None k h = (refl, λ n. h n)

reads_polite : (st : Stmt) (own : Option ℕ) (n : ℕ) → IsPolite [] (reads st own n)
reads_polite st own n =
    polite_from None false (statement.reads (record { stamp = n; own = own }) st) (λ e. absurd (apart e)) (reads_orderly _ st false)
  where
    apart : false ≡ true → ⊥
    apart q = cc

begins_polite : (lasting : Bool) (snapshot : Option ℕ) → IsPolite [] (begins lasting snapshot)
begins_polite true snapshot = refl
begins_polite false snapshot = at_polite snapshot begun (λ n. refl)

polite_by : (k : StatementKind) (job : Job) → IsPolite [] (serves_by k job)
polite_by kind.Write job = refl
polite_by kind.Select job = at_polite job.snapshot (reads job.statement job.trx) (reads_polite job.statement job.trx)
polite_by kind.Begin job = begins_polite job.lasting job.snapshot
polite_by kind.End job = refl

pub ro_polite : (job : Job) → IsPolite [] (ro_serves job)
ro_polite job = polite_by (kind_of job.statement) job

pub ro_polite_undoing : (session : ℕ) → IsPolite [] (ro_undoes session)
ro_polite_undoing session = refl
