-- Turns over pages that stand still.
use Rattle.std.proofs.Common.{◌≡◌, ◌+◌, ◌<◌, ℕ, false, List, [], ◌∷◌, Some, refl, sym, ◌∙◌, ap, subst, arith}
use Rattle.page_image.specs.Image.{Image}
use Rattle.redo_record.specs.declared.plans.Plan.{Plan}
use Rattle.question_tree.specs.Questions.{tells, asks, stops, wanted, after, left, Leads}
use Rattle.question_tree.proofs.QuestionLaws.{fall}
use Rattle.range_reader.specs.declared.fetch.Fetch.{Fetch}
use Rattle.range_reader.specs.Finding as finding
use Rattle.statement_work.specs.declared.acts.FixedPage.{FixedPage}
use Rattle.statement_work.specs.declared.acts.Deed.{Deed}
use Rattle.statement_work.specs.declared.acts.Deed.TheVariants as deed
use Rattle.statement_work.specs.declared.acts.Act.{Act}
use Rattle.statement_work.specs.declared.acts.Act.TheVariants as act
use Rattle.statement_work.specs.Terms.{Terms}
use Rattle.statement_work.specs.Works.{Wish, Fetches, FetchesFixed, FetchesSure, claimed, Releases, Runs, Stamps, Appends, Input, Handed, Stamped, Made, WorkOf, Work, IsFixed, Fits}
use Rattle.statement_work.proofs.WorkLaws.{ends_after, not_anew}
use Rattle.statement_work.specs.Acting.{Does, Goes, Grants, anew}
use Rattle.statement_work.specs.Replies.{EndsInReply}
use Rattle.worker_runs.specs.Runs.{IsTurn, IsRun}
use Rattle.statement_work.specs.Plain.{ClaimsNothing}
use Rattle.worker_runs.specs.Standing.{Standing, is_sure, deed_input, wish_input, acts_left}
use Rattle.worker_runs.proofs.RunLaws.{Asks, asks_for, does_deed, wants, page_asked, fixed_asked, release_asked, run_asked, append_asked, stamp_asked}

abbrev Turned : (t : Terms) → (ℕ → Work t) → Work t → Act → Work t → Input → Type 0
Turned t undoes w b new x = IsTurn t undoes x w b new

pub page_turn : (t : Terms) (undoes : ℕ → Work t) (s : Standing) (w new : Work t) (q : Fetch) (im : Image) (b : Act) → im ≡ s.page q → finding.Fits q im → Does t w (act.Do (deed.Fetch q))
    → Does t (anew undoes (after w (Handed im))) b → Goes (anew undoes (after w (Handed im))) new → IsTurn t undoes (deed_input s (deed.Fetch q)) w b new
page_turn t undoes s w new q im b e f h d g =
    let a = page_asked t w q im h f in
    let P : Image → Type 0 = λ v. IsTurn t undoes (Handed v) w b new in subst P e (a, (d, g))

pub fixed_turn : (t : Terms) (undoes : ℕ → Work t) (s : Standing) (w new : Work t) (p : FixedPage) (im : Image) (b : Act) → im ≡ s.fixed p → IsFixed p im → Does t w (act.Do (deed.FetchFixed p))
    → Does t (anew undoes (after w (Handed im))) b → Goes (anew undoes (after w (Handed im))) new → IsTurn t undoes (deed_input s (deed.FetchFixed p)) w b new
fixed_turn t undoes s w new p im b e f h d g =
    let a = fixed_asked t w p im h f in
    let P : Image → Type 0 = λ v. IsTurn t undoes (Handed v) w b new in subst P e (a, (d, g))

pub stamp_turn : (t : Terms) (undoes : ℕ → Work t) (s : Standing) (w new : Work t) (n : ℕ) (b : Act) → n ≡ s.stamp → Does t w (act.Do deed.Stamp)
    → Does t (anew undoes (after w (Stamped n))) b → Goes (anew undoes (after w (Stamped n))) new → IsTurn t undoes (deed_input s deed.Stamp) w b new
stamp_turn t undoes s w new n b e h d g =
    let a = stamp_asked t w n h in
    let P : ℕ → Type 0 = λ v. IsTurn t undoes (Stamped v) w b new in subst P e (a, (d, g))

pub release_turn : (t : Terms) (undoes : ℕ → Work t) (s : Standing) (w new : Work t) (p : ℕ) (b : Act) → Does t w (act.Do (deed.Release p))
    → Does t (anew undoes (after w Made)) b → Goes (anew undoes (after w Made)) new → IsTurn t undoes (deed_input s (deed.Release p)) w b new
release_turn t undoes s w new p b h d g = (release_asked t w p h, (d, g))

pub run_turn : (t : Terms) (undoes : ℕ → Work t) (s : Standing) (w new : Work t) (plan : Plan) (b : Act) → Does t w (act.Do (deed.Run plan))
    → Does t (anew undoes (after w Made)) b → Goes (anew undoes (after w Made)) new → IsTurn t undoes (deed_input s (deed.Run plan)) w b new
run_turn t undoes s w new plan b h d g = (run_asked t w plan h, (d, g))

pub append_turn : (t : Terms) (undoes : ℕ → Work t) (s : Standing) (w new : Work t) (b : Act) → Does t w (act.Do deed.Append)
    → Does t (anew undoes (after w Made)) b → Goes (anew undoes (after w Made)) new → IsTurn t undoes (deed_input s deed.Append) w b new
append_turn t undoes s w new b h d g = (append_asked t w h, (d, g))

-- ---- deeds

same_deed : {c d : Deed} → act.Do c ≡ act.Do d → c ≡ d
same_deed e = cc

-- ---- no page has to be what a plain work takes it for

plain_after : {A F : Type 0} (w : WorkOf A F) (x : Input) → ClaimsNothing w → ClaimsNothing (after w x)
plain_after (tells a) x h = h
plain_after (asks (Fetches calm q) k) x h = h x
plain_after (asks (FetchesFixed calm p) k) x h = h x
plain_after (asks (FetchesSure calm c) k) x h = absurd h
plain_after (asks (Releases p) k) x h = h x
plain_after (asks (Runs calm a) k) x h = h x
plain_after (asks Stamps k) x h = h x
plain_after (asks Appends k) x h = h x
plain_after stops x h = h

plain_leads : {A F : Type 0} (w m : WorkOf A F) (xs : List Input) → Leads Fits w xs m → ClaimsNothing w → ClaimsNothing m
plain_leads w m [] e h = subst ClaimsNothing e h
plain_leads (tells a) m (x ∷ xs) e h = absurd e
plain_leads (asks q k) m (x ∷ xs) e h = plain_leads (k x) m xs e.1 (plain_after (asks q k) x h)
plain_leads stops m (x ∷ xs) e h = absurd e

sure_is : (d c : Deed) → act.Do d ≡ act.Do c → is_sure d ≡ is_sure c
sure_is d c e = ap is_sure (same_deed e)

plain_does : (t : Terms) (m : Work t) (d : Deed) → ClaimsNothing m → Does t m (act.Do d) → is_sure d ≡ false
plain_does t (tells a) d h does = absurd (does_deed t a d does)
plain_does t (asks (Fetches calm q) k) d h does = sure_is d (deed.Fetch q) does
plain_does t (asks (FetchesFixed calm p) k) d h does = sure_is d (deed.FetchFixed p) does
plain_does t (asks (FetchesSure calm c) k) d h does = absurd h
plain_does t (asks (Releases p) k) d h does = sure_is d (deed.Release p) does
plain_does t (asks (Runs calm a) k) d h (plan, e, s) = sure_is d (deed.Run plan) e
plain_does t (asks Stamps k) d h does = sure_is d deed.Stamp does
plain_does t (asks Appends k) d h does = sure_is d deed.Append does
plain_does t stops d h does = absurd does

pub not_sure : (t : Terms) (w now : Work t) (xs : List Input) (d : Deed) → ClaimsNothing w → IsRun t w xs (act.Do d) now → is_sure d ≡ false
not_sure t w now xs d plain (m, leads, f, h, g) = plain_does t m d (plain_leads w m xs leads plain) h

-- ---- each turn leaves an act less

input_by : (s : Standing) (d c : Deed) → act.Do d ≡ act.Do c → deed_input s d ≡ deed_input s c
input_by s d c e = ap (deed_input s) (same_deed e)

wish_is : (t : Terms) (s : Standing) (q : Wish t.Aim) (d : Deed) → Grants t q (act.Do d) → deed_input s d ≡ wish_input s q
wish_is t s (Fetches calm q) d e = input_by s d (deed.Fetch q) e
wish_is t s (FetchesFixed calm p) d e = input_by s d (deed.FetchFixed p) e
wish_is t s (FetchesSure calm c) d e = input_by s d (deed.FetchSure (claimed c)) e
wish_is t s (Releases p) d e = input_by s d (deed.Release p) e
wish_is t s (Runs calm a) d (plan, e, h) = input_by s d (deed.Run plan) e
wish_is t s Stamps d e = input_by s d deed.Stamp e
wish_is t s Appends d e = input_by s d deed.Append e

-- where an act is done behind a work, no more acts are left than that work has
reply_left : {A F : Type 0} (s : Standing) (b : Act) (w v : WorkOf A F) (n : ℕ) → ((d : Deed) → b ≡ act.Do d → left (wish_input s) v ≡ n) → acts_left s b v < 1 + (1 + n)
reply_left s (act.Reply r) w v n h = omega arith
reply_left s act.Rest w v n h = omega arith
reply_left s (act.Do d) w v n h = let e : left (wish_input s) v ≡ n = h d refl in rw e (omega arith)

after_ask : (t : Terms) (s : Standing) (w m : Work t) (x : Input) (d : Deed) → w ≡ m → Asks t m d → x ≡ deed_input s d → left (wish_input s) w ≡ 1 + left (wish_input s) (after w x)
after_ask t s w m x d e r is =
    let same : x ≡ wish_input s r.wish = is ∙ wish_is t s r.wish d r.grants in
    let wants : wanted w ≡ Some r.wish = ap wanted (e ∙ r.is) in
    fall (wish_input s) w r.wish wants ∙ ap (λ (y : Input). 1 + left (wish_input s) (after w y)) (sym same)

pub fewer : (t : Terms) (undoes : ℕ → Work t) (s : Standing) (w now new : Work t) (xs : List Input) (d : Deed) (b : Act)
    → IsRun t w xs (act.Do d) now → IsTurn t undoes (deed_input s d) now b new → acts_left s b new < acts_left s (act.Do d) now
fewer t undoes s w now new xs d b (m, leads, f, h, g) (asked, (acts, goes)) =
    let x : Input = deed_input s d in
    let same : now ≡ m = g (wants t m d h) in
    let reply : EndsInReply now = subst EndsInReply (sym same) f in
    let still : anew undoes (after now x) ≡ after now x = not_anew undoes (after now x) (ends_after now x reply) in
    let falls : left (wish_input s) now ≡ 1 + left (wish_input s) (after now x) = after_ask t s now m x d same (asks_for t m d h) refl in
    let P : Work t → Type 0 = λ v. Does t v b in
    let Q : Work t → Type 0 = λ v. Goes v new in
    let does : Does t (after now x) b = subst P still acts in
    let last = reply_left s b now new (left (wish_input s) (after now x))
    (λ c e. ap (left (wish_input s)) (subst Q still goes (wants t (after now x) c (subst (Does t (after now x)) e does)))) in
    rw falls last
