-- Turns and runs of a worker.
use Rattle.std.proofs.Common.{◌≡◌, inl, inr, ◌++◌, append-nil, append_assoc, ℕ, List, [], ◌∷◌, Option, Some, None, IsSome, refl, sym, ◌∙◌, ap, subst}
use Rattle.std.specs.Prelude.{option_to_list, IfSome, Result, Ok, Err, IfOk}
use Rattle.page_image.specs.Image.{Image}
use Rattle.redo_record.specs.declared.plans.Plan.{Plan}
use Rattle.sql_database.specs.declared.replies.SqlReply.{SqlReply}
use Rattle.question_tree.specs.Questions.{tells, asks, stops, wanted, after, Gives, Leads}
use Rattle.question_tree.proofs.QuestionLaws.{one_more, all_given}
use Rattle.range_reader.specs.declared.fetch.Fetch.{Fetch}
use Rattle.range_reader.specs.Finding as finding
use Rattle.statement_work.specs.declared.acts.FixedPage.{FixedPage}
use Rattle.statement_work.specs.declared.acts.Deed.{Deed}
use Rattle.statement_work.specs.declared.acts.Deed.TheVariants as deed
use Rattle.statement_work.specs.declared.acts.Act.{Act}
use Rattle.statement_work.specs.declared.acts.Act.TheVariants as act
use Rattle.statement_work.specs.Terms.{Terms}
use Rattle.statement_work.specs.Works.{Wish, Fetches, FetchesFixed, FetchesSure, claimed, Releases, Runs, Stamps, Appends, Input, Handed, Stamped, Made, Told, Found, Replied, Rested, Again, WorkOf, Work, IsFixed, IsHanded, IsStamped, IsMade, Fits, AskedFor, uses}
use Rattle.statement_work.proofs.WorkLaws.{do_reply, do_rest, ends_after, not_anew, reply_grants, rest_grants}
use Rattle.statement_work.specs.Acting.{Does, Goes, Grants, Tells, anew}
use Rattle.statement_work.specs.Replies.{IsReply, EndsInReply, Allows, IsReplyOver}
use Rattle.worker_runs.specs.Runs.{IsAskedFor, IsNext, IsTurn, IsTold, IsTurnOver, IsRun, IsRunOver, IsAnswered}

-- ---- what an act says of the work

same_deed : {c d : Deed} → act.Do c ≡ act.Do d → c ≡ d
same_deed e = cc

-- a work that allows a deed asks
pub record Asks (t : Terms) (w : Work t) (d : Deed) : Type 0 where
  pub wish : Wish t.Aim
  pub next : Input → Work t
  pub is : w ≡ asks wish next
  pub grants : Grants t wish (act.Do d)

pub does_deed : (t : Terms) (a : Told t.Finding) (d : Deed) → Tells t a (act.Do d) → ⊥
does_deed t (Found a) d (r, e, f) = do_reply d r e
does_deed t (Replied r) d e = do_reply d r e
does_deed t Rested d e = do_rest d e
does_deed t (Again session) d e = e

pub asks_for : (t : Terms) (w : Work t) (d : Deed) → Does t w (act.Do d) → Asks t w d
asks_for t (tells a) d h = absurd (does_deed t a d h)
asks_for t (asks q k) d h = record { wish = q; next = k; is = refl; grants = h }
asks_for t stops d h = absurd h

-- what fits a deed
abbrev pub Answers : Deed → Input → Type 0
Answers (deed.Fetch q) x = IsHanded (finding.Fits q) x
Answers (deed.FetchFixed p) x = IsHanded (IsFixed p) x
Answers (deed.FetchSure q) x = ⊥
Answers (deed.Release p) x = IsMade x
Answers (deed.Run plan) x = IsMade x
Answers deed.Stamp x = IsStamped x
Answers deed.Append x = IsMade x

fits_by : (d e : Deed) (x : Input) → act.Do d ≡ act.Do e → Answers d x → Answers e x
fits_by d e x same h = let P : Deed → Type 0 = λ c. Answers c x in subst P (same_deed same) h

fits_wish : (t : Terms) (q : Wish t.Aim) (d : Deed) (x : Input) → Grants t q (act.Do d) → Answers d x → Fits q x
fits_wish t (Fetches calm q) d x e h = fits_by d (deed.Fetch q) x e h
fits_wish t (FetchesFixed calm p) d x e h = fits_by d (deed.FetchFixed p) x e h
fits_wish t (FetchesSure calm c) d x e h = absurd (fits_by d (deed.FetchSure (claimed c)) x e h)
fits_wish t (Releases p) d x e h = fits_by d (deed.Release p) x e h
fits_wish t (Runs calm a) d x (plan, e, s) h = fits_by d (deed.Run plan) x e h
fits_wish t Stamps d x e h = fits_by d deed.Stamp x e h
fits_wish t Appends d x e h = fits_by d deed.Append x e h

pub asked : (t : Terms) (w : Work t) (d : Deed) (x : Input) → Does t w (act.Do d) → Answers d x → AskedFor w x
asked t w d x h a =
    let r = asks_for t w d h in
    let P : Work t → Type 0 = λ v. AskedFor v x in
    subst P (sym r.is) (fits_wish t r.wish d x r.grants a)

pub page_asked : (t : Terms) (w : Work t) (q : Fetch) (im : Image) → Does t w (act.Do (deed.Fetch q)) → finding.Fits q im → AskedFor w (Handed im)
page_asked t w q im h f = asked t w (deed.Fetch q) (Handed im) h f

pub fixed_asked : (t : Terms) (w : Work t) (p : FixedPage) (im : Image) → Does t w (act.Do (deed.FetchFixed p)) → IsFixed p im → AskedFor w (Handed im)
fixed_asked t w p im h f = asked t w (deed.FetchFixed p) (Handed im) h f

pub release_asked : (t : Terms) (w : Work t) (p : ℕ) → Does t w (act.Do (deed.Release p)) → AskedFor w Made
release_asked t w p h = asked t w (deed.Release p) Made h tt

pub run_asked : (t : Terms) (w : Work t) (plan : Plan) → Does t w (act.Do (deed.Run plan)) → AskedFor w Made
run_asked t w plan h = asked t w (deed.Run plan) Made h tt

pub append_asked : (t : Terms) (w : Work t) → Does t w (act.Do deed.Append) → AskedFor w Made
append_asked t w h = asked t w deed.Append Made h tt

pub stamp_asked : (t : Terms) (w : Work t) (n : ℕ) → Does t w (act.Do deed.Stamp) → AskedFor w (Stamped n)
stamp_asked t w n h = asked t w deed.Stamp (Stamped n) h tt

-- ---- a turn, with the images

pub told_turn : (t : Terms) (undoes : ℕ → Work t) (w new : Work t) (o : Option Image) (b : Act) (before later : List Image)
    → IsTold t undoes w o b new → later ≡ before ++ option_to_list o → IsTurnOver t undoes w before b new later
told_turn t undoes w new None b before later h e = inr (h, e ∙ append-nil before)
told_turn t undoes w new (Some im) b before later h e = inl (Handed im, h, e)

pub told_ok : {E : Type 0} (t : Terms) (undoes : ℕ → Work t) (w new : Work t) (o : Option Image) (r : Result Act E) (before later : List Image)
    → IfOk r (λ b. IsTold t undoes w o b new) → later ≡ before ++ option_to_list o → IfOk r (λ b. IsTurnOver t undoes w before b new later)
told_ok t undoes w new o (Ok b) before later h e = told_turn t undoes w new o b before later h e
told_ok t undoes w new o (Err x) before later h e = tt

made_turn : (t : Terms) (undoes : ℕ → Work t) (w new : Work t) (b : Act) (before later : List Image)
    → AskedFor w Made → Does t (anew undoes (after w Made)) b → Goes (anew undoes (after w Made)) new → later ≡ before
    → IsTurnOver t undoes w before b new later
made_turn t undoes w new b before later a d g e = inl (Made, (a, (d, g)), e ∙ sym (append-nil before))

pub release_turn : (t : Terms) (undoes : ℕ → Work t) (w new : Work t) (p : ℕ) (b : Act) (before later : List Image) → Does t w (act.Do (deed.Release p))
    → Does t (anew undoes (after w Made)) b → Goes (anew undoes (after w Made)) new → later ≡ before → IsTurnOver t undoes w before b new later
release_turn t undoes w new p b before later h d g e = made_turn t undoes w new b before later (release_asked t w p h) d g e

pub run_turn : (t : Terms) (undoes : ℕ → Work t) (w new : Work t) (plan : Plan) (b : Act) (before later : List Image) → Does t w (act.Do (deed.Run plan))
    → Does t (anew undoes (after w Made)) b → Goes (anew undoes (after w Made)) new → later ≡ before → IsTurnOver t undoes w before b new later
run_turn t undoes w new plan b before later h d g e = made_turn t undoes w new b before later (run_asked t w plan h) d g e

pub append_turn : (t : Terms) (undoes : ℕ → Work t) (w new : Work t) (b : Act) (before later : List Image) → Does t w (act.Do deed.Append)
    → Does t (anew undoes (after w Made)) b → Goes (anew undoes (after w Made)) new → later ≡ before → IsTurnOver t undoes w before b new later
append_turn t undoes w new b before later h d g e = made_turn t undoes w new b before later (append_asked t w h) d g e

pub stamp_turn : (t : Terms) (undoes : ℕ → Work t) (w new : Work t) (n : ℕ) (b : Act) (before later : List Image) → Does t w (act.Do deed.Stamp)
    → Does t (anew undoes (after w (Stamped n))) b → Goes (anew undoes (after w (Stamped n))) new → later ≡ before
    → IsTurnOver t undoes w before b new later
stamp_turn t undoes w new n b before later h d g e = inl (Stamped n, (stamp_asked t w n h, (d, g)), e ∙ sym (append-nil before))

-- what may be handed out for a fetch was asked for
pub pages_asked : (t : Terms) (w : Work t) (q : Fetch) (o : Option Image) → Does t w (act.Do (deed.Fetch q)) → IfSome o (finding.Fits q) → IfSome o (IsAskedFor w)
pages_asked t w q None h f = f
pages_asked t w q (Some im) h f = page_asked t w q im h f

pub fixed_pages_asked : (t : Terms) (w : Work t) (p : FixedPage) (o : Option Image) → Does t w (act.Do (deed.FetchFixed p)) → IfSome o (IsFixed p) → IfSome o (IsAskedFor w)
fixed_pages_asked t w p None h f = f
fixed_pages_asked t w p (Some im) h f = fixed_asked t w p im h f

-- ---- runs

asked_more : {A F : Type 0} (w m : WorkOf A F) (xs : List Input) (x : Input) → Leads Fits w xs m → AskedFor m x → Leads Fits w (xs ++ x ∷ []) (after m x)
asked_more w (tells a) xs x leads h = absurd h
asked_more w (asks q k) xs x leads h = one_more Fits w (asks q k) xs q x leads refl h
asked_more w stops xs x leads h = absurd h

pub wants : (t : Terms) (w : Work t) (d : Deed) → Does t w (act.Do d) → IsSome (wanted w)
wants t w d h =
    let r = asks_for t w d h in
    let P : Work t → Type 0 = λ v. IsSome (wanted v) in
    subst P (sym r.is) refl

pub begins : (t : Terms) (w now : Work t) (b : Act) → EndsInReply w → Does t w b → Goes w now → IsRun t w [] b now
begins t w now b f d g = (w, refl, f, d, g)

pub does : (t : Terms) (w now : Work t) (xs : List Input) (d : Deed) → IsRun t w xs (act.Do d) now → Does t now (act.Do d)
does t w now xs d (m, leads, f, h, g) =
    let P : Work t → Type 0 = λ v. Does t v (act.Do d) in
    subst P (sym (g (wants t m d h))) h

pub goes_on : (t : Terms) (undoes : ℕ → Work t) (w now new : Work t) (xs : List Input) (x : Input) (d : Deed) (b : Act)
    → IsRun t w xs (act.Do d) now → IsTurn t undoes x now b new → IsRun t w (xs ++ x ∷ []) b new
goes_on t undoes w now new xs x d b (m, leads, f, h, g) turn =
    let same : now ≡ m = g (wants t m d h) in
    let P : Work t → Type 0 = λ v. IsTurn t undoes x v b new in
    let r = subst P same turn in
    let held = ends_after m x f in
    let still : anew undoes (after m x) ≡ after m x = not_anew undoes (after m x) held in
    let Q : Work t → Type 0 = λ v. IsNext t v b new in
    let n = subst Q still r.1 in
    (after m x, asked_more w m xs x leads r.0, held, n.0, n.1)

pub stays : (t : Terms) (w now new : Work t) (xs : List Input) (d : Deed) (b : Act)
    → IsRun t w xs (act.Do d) now → IsNext t now b new → IsRun t w xs b new
stays t w now new xs d b (m, leads, f, h, g) next =
    let same : now ≡ m = g (wants t m d h) in
    let Q : Work t → Type 0 = λ v. IsNext t v b new in
    let n = subst Q same next in
    (m, leads, f, n.0, n.1)

same_reply : {r s : SqlReply} → act.Reply r ≡ act.Reply s → r ≡ s
same_reply e = cc

reply_rest : (r : SqlReply) → act.Reply r ≡ act.Rest → ⊥
reply_rest r e = cc

allows : (t : Terms) (Finds : List Input → t.Finding → Type 0) (xs : List Input) (a : Told t.Finding) (r : SqlReply)
    → Tells t a (act.Reply r) → ((b : t.Finding) → a ≡ Found b → Finds xs b) → Allows t Finds xs a r
allows t Finds xs (Found a) r (s, e, h) finds = (finds a refl, subst (t.Replies a) (sym (same_reply e)) h)
allows t Finds xs (Replied s) r e finds = same_reply e
allows t Finds xs Rested r e finds = reply_rest r e
allows t Finds xs (Again session) r e finds = e

-- a reply is one to what was given
pub ends : (t : Terms) (Finds : List Input → t.Finding → Type 0) (w now : Work t) (xs : List Input) (r : SqlReply)
    → ((b : t.Finding) → Gives Fits w xs (Found b) → Finds xs b) → IsRun t w xs (act.Reply r) now → IsReplyOver t w Finds xs r
ends t Finds w now xs r right (tells a, leads, f, h, g) =
    let all = all_given Fits w xs a leads in
    let P : Told t.Finding → Type 0 = λ b. Gives Fits w xs b in
    (a, all, allows t Finds xs a r h (λ b e. right b (subst P e all)))
ends t Finds w now xs r right (asks q k, leads, f, h, g) = absurd (reply_grants t q r h)
ends t Finds w now xs r right (stops, leads, f, h, g) = absurd h

rest_tells : (t : Terms) (a : Told t.Finding) → IsReply a → Tells t a act.Rest → ⊥
rest_tells t (Found a) f (r, e, h) = reply_rest r (sym e)
rest_tells t (Replied r) f e = reply_rest r (sym e)
rest_tells t Rested f e = f
rest_tells t (Again session) f e = f

-- a statement never ends in a rest
pub never_rests : (t : Terms) (w now : Work t) (xs : List Input) → IsRun t w xs act.Rest now → ⊥
never_rests t w now xs (tells a, leads, f, h, g) = rest_tells t a f h
never_rests t w now xs (asks q k, leads, f, h, g) = rest_grants t q h
never_rests t w now xs (stops, leads, f, h, g) = h

-- ---- runs, with the images

uses_append : (xs ys : List Input) → uses (xs ++ ys) ≡ uses xs ++ uses ys
uses_append [] ys = refl
uses_append (Handed im ∷ xs) ys = ap (λ (us : List Image). im ∷ us) (uses_append xs ys)
uses_append (Stamped n ∷ xs) ys = uses_append xs ys
uses_append (Made ∷ xs) ys = uses_append xs ys

pub over_begins : (t : Terms) (w now : Work t) (b : Act) (before : List Image) → EndsInReply w → Does t w b → Goes w now → IsRunOver t w before b now before
over_begins t w now b before f d g = ([], begins t w now b f d g, sym (append-nil before))

pub over_does : (t : Terms) (w now : Work t) (d : Deed) (before later : List Image) → IsRunOver t w before (act.Do d) now later → Does t now (act.Do d)
over_does t w now d before later (xs, run, used) = does t w now xs d run

pub over_goes_on : (t : Terms) (undoes : ℕ → Work t) (w now new : Work t) (d : Deed) (b : Act) (before later last : List Image)
    → IsRunOver t w before (act.Do d) now later → IsTurnOver t undoes now later b new last → IsRunOver t w before b new last
over_goes_on t undoes w now new d b before later last (xs, run, used) (inl (x, turn, more)) = (
  xs ++ x ∷ [],
  goes_on t undoes w now new xs x d b run turn,
  more ∙ (ap (λ (us : List Image). us ++ uses (x ∷ [])) used ∙ (append_assoc before (uses xs) (uses (x ∷ [])) ∙ ap (λ (us : List Image). before ++ us) (sym (uses_append xs (x ∷ []))))),
)
over_goes_on t undoes w now new d b before later last (xs, run, used) (inr (next, more)) =
    (xs, stays t w now new xs d b run next, more ∙ used)

pub over_ends : (t : Terms) (Finds : List Input → t.Finding → Type 0) (w now : Work t) (r : SqlReply) (before later : List Image)
    → ((xs : List Input) (b : t.Finding) → Gives Fits w xs (Found b) → Finds xs b) → IsRunOver t w before (act.Reply r) now later
    → IsAnswered t w Finds before later r
over_ends t Finds w now r before later right (xs, run, used) = (xs, ends t Finds w now xs r (right xs) run, used)
