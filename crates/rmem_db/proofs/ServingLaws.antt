-- The laws of a run over the word `serve`.
use Rattle.std.proofs.Common.{◌≡◌, ◌≤◌, ◌<◌, ◌+◌, ◌-◌, ℕ, suc, Bool, true, false, cond, List, [], ◌∷◌, ◌++◌, length, take, drop, Option, Result, Ok, Err, OnOk, OnErr, nat_le, refl, sym, ap, ◌∙◌, subst, arith, append_assoc, append-nil, length-append, length-take, get_or-take, flat_map, codes, inl, inr}
use Rattle.std.proofs.lemmas.Grind.{flat_map-append}
use Rattle.std.proofs.lemmas.Bool.{le-leb, lt-leb}
use Rattle.std.proofs.lemmas.Result.{on_ok_weaker, on_err_weaker}
use Rattle.std.proofs.lemmas.List.{take-append-drop}
use Rattle.std.proofs.Math.Seq.{take-append_seam, drop-cons}
use Rattle.std.proofs.KnownBytes.{Appends-nil, Appends-trans, Consumes-nil, Consumes-trans, Consumes-kept}
use Rattle.std.specs.List.{AllByRecursion}
use Rattle.std.specs.Io.KnownBytes.{Appends, Consumes, Keeps, IsAtEnd}
use Rattle.rm_env.specs.declared.sink.SinkNo.{SinkNo}
use Rattle.rm_env.specs.declared.sink.SinkNo.TheVariants as no
use Rattle.reply_text.specs.Texts.{reply_text}
use Rattle.sql_database.specs.declared.replies.SqlReply.{SqlReply}
use Rattle.sql_database.specs.Database.{Database, empty}
use Rattle.table_machine.specs.Laws.{LinesAreAnswered, TurnsGoOn}
use Rattle.table_machine.specs.Serving.{TableState, Turns, at_rest}
use Rattle.rmem_db.specs.declared.status.Status.{Status}
use Rattle.rmem_db.specs.declared.status.Status.TheVariants.{Done, TooLong}
use Rattle.rmem_db.specs.Lines.{lines, whole_lines, filled}
use Rattle.rmem_db.specs.Reading.{Held, HasNoLf, IsLineEnd, ReadsMore, ReadsEnd, ReadsPast, ReadsSome}
use Rattle.rmem_db.specs.Serving.{Answered, Serves, StoppedIn, IsServed, IsTooLong, IsBroken, IsCutOff, Ends, ending_for, lines_for, status_after}
use Rattle.rmem_db.specs.Session.{sql}
use Rattle.rmem_db.specs.Texts.{ended, replies_text}
use Rattle.rmem_db.specs.Writing.{AppendsFront}
use Rattle.rmem_db.proofs.KnownText.{AppendsFront-all, AppendsFront-behind}
use Rattle.rmem_db.proofs.LineLaws.{lines-none, lines-at, lines-ended, whole_lines-split, AllByRecursion-push}
use Rattle.rmem_db.proofs.TurnsLaws.{filled-append, says}

-- ---- the lines of an input

at_most_limit : (n : ℕ) → n ≤ 4194304 → nat_le n 4194304 ≡ true
at_most_limit n few = le-leb n 4194304 few

lines-few : (input : List ℕ) → length input ≤ 4194304 → lines_for input ≡ filled (lines input)
unfolding lines_for
lines-few input few =
    ap (λ (b : Bool). cond b (filled (lines input)) (filled (whole_lines (take 4194304 input)))) (at_most_limit (length input) few)

-- an input of one byte past the limit
module _ (input : List ℕ) (byte : ℕ) (full : length input ≡ 4194304) where
  abbrev longer : List ℕ
  longer = input ++ byte ∷ []

  past : nat_le (length longer) 4194304 ≡ false
  past = lt-leb (length longer) 4194304 (omega (arith, length-append input (byte ∷ [])))

  pub within-past : take 4194304 longer ≡ input
  within-past = ap (λ (n : ℕ). take n longer) (sym full) ∙ take-append_seam input (byte ∷ [])

  pub lines-past : lines_for longer ≡ filled (whole_lines input)
  unfolding lines_for
  lines-past =
      ap (λ (b : Bool). cond b (filled (lines longer)) (filled (whole_lines (take 4194304 longer)))) past ∙ ap (λ (q : List ℕ). filled (whole_lines q)) within-past

  pub ending-past : ending_for longer ≡ ended (codes "too long")
  unfolding ending_for
  ending-past = ap (λ (b : Bool). cond b [] (ended (codes "too long"))) past

-- lines that were answered, and then others
filled-ended : (whole : List (List ℕ)) (rest : List ℕ) → AllByRecursion HasNoLf whole → filled (lines (flat_map ended whole ++ rest)) ≡ filled whole ++ filled (lines rest)
filled-ended whole rest each = ap filled (lines-ended whole rest each) ∙ filled-append whole (lines rest)

-- ---- the status after a last writing

Ends-after : {T : Type 0} (r : Result T SinkNo) (whole : Status) (left left' taken taken' : Option (List ℕ)) (Kept : Database → Type 0) → OnOk r (Ends whole left left' taken taken' Kept)
    → OnErr r (IsCutOff left left' taken taken' Kept) → Ends (status_after r whole) left left' taken taken' Kept
Ends-after (Ok x) whole left left' taken taken' Kept ok err = ok
Ends-after (Err no.Failed) whole left left' taken taken' Kept ok err = err
Ends-after (Err no.WantOfMemory) whole left left' taken taken' Kept ok err = err

-- ---- one line more

regroup : (front line rest : List ℕ) → front ++ (line ++ 10 ∷ rest) ≡ (front ++ flat_map ended (line ∷ [])) ++ rest
regroup front line rest = sym (append_assoc front (flat_map ended (line ∷ [])) rest ∙ ap (λ (q : List ℕ). front ++ q) (inner line rest)) where
  inner : (line rest : List ℕ) → flat_map ended (line ∷ []) ++ rest ≡ line ++ 10 ∷ rest
  inner line rest = ap (λ (q : List ℕ). q ++ rest) (append-nil (ended line)) ∙ append_assoc line (10 ∷ []) rest

texts-append : (rs ss : List SqlReply) → replies_text (rs ++ ss) ≡ replies_text rs ++ replies_text ss
texts-append rs ss = flat_map-append (reply_text []) rs ss

-- the text, and nothing behind it
alone : (taken now : Option (List ℕ)) (text : List ℕ) → AppendsFront taken now text → AppendsFront taken now (text ++ [])
alone taken now text h = subst (AppendsFront taken now) (sym (append-nil text)) h

module _ (more_turns : TurnsGoOn sql) (answers : LinesAreAnswered sql) (left left' taken now : Option (List ℕ)) (At : TableState → Type 0) (held : Held) (s : Serves left left' taken now At held) where
  few_read : length s.input ≤ 4194304
  few_read = let c = s.count in let f = s.few in omega arith

  -- the lines that are answered for the input so far
  begins : lines_for s.input ≡ filled s.answered ++ filled (lines held.bytes)
  begins = lines-few s.input few_read ∙ ap (λ (q : List ℕ). filled (lines q)) s.parts ∙ filled-ended s.answered held.bytes s.each

  -- more lines took their turns
  abbrev all_turns : (more : List (List ℕ)) (ss : List SqlReply) (t : TableState) → Turns sql s.state more ss t → Turns sql (at_rest empty) (filled s.answered ++ more) (s.replies ++ ss) t
  all_turns more ss t u = more_turns (filled s.answered) more s.replies ss (at_rest empty) s.state t s.turns u

  written-more : (next : Option (List ℕ)) (ss : List SqlReply) → Appends now next (replies_text ss) → Appends taken next (replies_text (s.replies ++ ss))
  written-more next ss w = subst (Appends taken next) (sym (texts-append s.replies ss)) (Appends-trans taken now next (replies_text s.replies) (replies_text ss) s.written w)

  -- the run stopped in lines that stand before others
  stops : (left'' next : Option (List ℕ)) (Kept : Database → Type 0) (input : List ℕ) → Consumes left left'' input → (here others : List (List ℕ)) → lines_for input ≡ filled s.answered ++ (here ++ others)
      → StoppedIn s.state here Kept now next → IsCutOff left left'' taken next Kept
  stops left'' next Kept input read here others parts p =
      record {
        input = input;
        read = read;
        first = filled s.answered ++ p.first;
        others = p.others ++ others;
        parts =
            parts
            ∙ (ap (λ (q : List (List ℕ)). filled s.answered ++ (q ++ others)) p.parts
            ∙ (ap (λ (q : List (List ℕ)). filled s.answered ++ q) (append_assoc p.first p.others others)
            ∙ sym (append_assoc (filled s.answered) p.first (p.others ++ others))));
        text = replies_text (s.replies ++ p.replies);
        made = p.new.kept;
        says = says answers (filled s.answered ++ p.first) (s.replies ++ p.replies) p.new (all_turns p.first p.replies p.new p.turns);
        ending = [];
        ends = inl refl;
        written = alone taken next _ (subst (AppendsFront taken next) (sym (texts-append s.replies p.replies)) (AppendsFront-behind taken now next (replies_text s.replies) (replies_text p.replies) s.written p.written));
        kept = p.kept;
      }

  -- the front of the held bytes is a line
  module _ (n : ℕ) (line_end : IsLineEnd held.bytes n) where
    line_parts : held.bytes ≡ take n held.bytes ++ 10 ∷ drop (n + 1) held.bytes
    line_parts =
        let next : suc n ≡ n + 1 = omega arith in
        sym (take-append-drop n held.bytes) ∙ ap (λ (q : List ℕ). take n held.bytes ++ q) (drop-cons held.bytes n 0 line_end.inside)
        ∙ ap (λ (b : ℕ). take n held.bytes ++ b ∷ drop (suc n) held.bytes) line_end.lf
        ∙ ap (λ (m : ℕ). take n held.bytes ++ 10 ∷ drop m held.bytes) next

    line_clear : HasNoLf (take n held.bytes)
    line_clear = λ k below e.
        let long : k < n = omega (arith, length-take n held.bytes) in
        line_end.first k long (sym (get_or-take n held.bytes k 0 long) ∙ e)

    parts-line : s.input ≡ flat_map ended (s.answered ++ take n held.bytes ∷ []) ++ drop (n + 1) held.bytes
    parts-line =
        s.parts ∙ ap (λ (q : List ℕ). flat_map ended s.answered ++ q) line_parts
        ∙ regroup (flat_map ended s.answered) (take n held.bytes) (drop (n + 1) held.bytes)
        ∙ ap (λ (q : List ℕ). q ++ drop (n + 1) held.bytes) (sym (flat_map-append ended s.answered (take n held.bytes ∷ [])))

    -- the line was answered
    pub Serves-line : (line : List ℕ) → line ≡ take n held.bytes → (At' : TableState → Type 0) (next : Option (List ℕ)) (held' : Held)
        → ((t : TableState) → At t → Answered t (filled (line ∷ [])) At' now next)
        → held'.bytes ≡ drop (n + 1) held.bytes → held'.taken ≡ held.taken → Serves left left' taken next At' held'
    Serves-line line is At' next held' told bytes same =
        let a : Answered s.state (filled (line ∷ [])) At' now next = told s.state s.stands in
        record {
          input = s.input;
          read = s.read;
          count = same ∙ s.count;
          few = let f = s.few in omega arith;
          answered = s.answered ++ line ∷ [];
          each = AllByRecursion-push s.answered line s.each (subst HasNoLf (sym is) line_clear);
          parts = parts-line ∙ ap (λ (q : List ℕ). flat_map ended (s.answered ++ q ∷ []) ++ drop (n + 1) held.bytes) (sym is)
              ∙ ap (λ (q : List ℕ). flat_map ended (s.answered ++ line ∷ []) ++ q) (sym bytes);
          replies = s.replies ++ a.replies;
          state = a.new;
          turns = subst (λ (q : List (List ℕ)). Turns sql (at_rest empty) q (s.replies ++ a.replies) a.new) (sym (filled-append s.answered (line ∷ []))) (all_turns (filled (line ∷ [])) a.replies a.new a.turns);
          stands = a.stands;
          written = written-more next a.replies a.written;
        }

    -- the answer to the line was cut off
    pub IsCutOff-line : (line : List ℕ) → line ≡ take n held.bytes → (Kept : Database → Type 0) (next : Option (List ℕ)) → ((t : TableState) → At t → StoppedIn t (filled (line ∷ [])) Kept now next) → IsCutOff left left' taken next Kept
    IsCutOff-line line is Kept next told =
        let first : lines held.bytes ≡ (line ∷ []) ++ lines (drop (n + 1) held.bytes) =
        ap lines line_parts ∙ lines-at (take n held.bytes) (drop (n + 1) held.bytes) line_clear
        ∙ ap (λ (q : List ℕ). q ∷ lines (drop (n + 1) held.bytes)) (sym is) in
        stops left' next Kept s.input s.read (filled (line ∷ [])) (filled (lines (drop (n + 1) held.bytes)))
        (begins ∙ ap (λ (q : List (List ℕ)). filled s.answered ++ q) (ap filled first ∙ filled-append (line ∷ []) (lines (drop (n + 1) held.bytes)))) (told s.state s.stands)

  whole_held : HasNoLf held.bytes → filled (whole_lines s.input) ≡ filled s.answered
  whole_held none =
      ap (λ (q : List ℕ). filled (whole_lines q)) s.parts ∙ ap filled (whole_lines-split s.answered held.bytes s.each none)

  -- ---- more input

  -- more bytes are held
  pub Serves-more : (left'' : Option (List ℕ)) (held' : Held) → ReadsMore left' left'' held held' → held'.taken ≤ 4194304 → Serves left left'' taken now At held'
  Serves-more left'' held' r few =
      record {
        input = s.input ++ r.more;
        read = Consumes-trans left left' left'' s.input r.more s.read r.read;
        count = (let c = s.count in let t = r.taken in omega (arith, length-append s.input r.more));
        few = few;
        answered = s.answered;
        each = s.each;
        parts = ap (λ (q : List ℕ). q ++ r.more) s.parts ∙ append_assoc (flat_map ended s.answered) held.bytes r.more
            ∙ ap (λ (q : List ℕ). flat_map ended s.answered ++ q) (sym r.held);
        replies = s.replies;
        state = s.state;
        turns = s.turns;
        stands = s.stands;
        written = s.written;
      }

  -- the source failed where no whole line is held
  pub IsBroken-kept : (left'' : Option (List ℕ)) (Kept : Database → Type 0) → ((t : TableState) → At t → Kept t.kept) → HasNoLf held.bytes → Keeps left' left'' → IsBroken left left'' taken now Kept
  IsBroken-kept left'' Kept has none kept =
      record {
        input = s.input;
        read = Consumes-kept left left' left'' s.input s.read kept;
        few = few_read;
        text = replies_text s.replies;
        made = s.state.kept;
        says = says answers (filled (whole_lines s.input)) s.replies s.state (subst (λ (q : List (List ℕ)). Turns sql (at_rest empty) q s.replies s.state) (sym (whole_held none)) s.turns);
        written = s.written;
        kept = has s.state s.stands;
      }

  -- memory ran out after some bytes were read
  pub IsCutOff-read : (left'' : Option (List ℕ)) (Kept : Database → Type 0) → ((t : TableState) → At t → Kept t.kept) → ReadsSome left' left'' (4194304 - held.taken) → IsCutOff left left'' taken now Kept
  IsCutOff-read left'' Kept has r =
      let input : List ℕ = s.input ++ r.more in
      let few : length input ≤ 4194304 = (let c = s.count in let f = s.few in let m = r.few in omega (arith, length-append s.input r.more)) in
      let parts : input ≡ flat_map ended s.answered ++ (held.bytes ++ r.more) =
      ap (λ (q : List ℕ). q ++ r.more) s.parts ∙ append_assoc (flat_map ended s.answered) held.bytes r.more in
      record {
        input = input;
        read = Consumes-trans left left' left'' s.input r.more s.read r.read;
        first = filled s.answered;
        others = filled (lines (held.bytes ++ r.more));
        parts = lines-few input few ∙ ap (λ (q : List ℕ). filled (lines q)) parts ∙ filled-ended s.answered (held.bytes ++ r.more) s.each;
        text = replies_text s.replies;
        made = s.state.kept;
        says = says answers (filled s.answered) s.replies s.state s.turns;
        ending = [];
        ends = inl refl;
        written = AppendsFront-all taken now (replies_text s.replies) [] s.written;
        kept = has s.state s.stands;
      }

  -- ---- the end

  last_lines : HasNoLf held.bytes → filled (lines s.input) ≡ filled s.answered ++ filled (held.bytes ∷ [])
  last_lines none =
      ap (λ (q : List ℕ). filled (lines q)) s.parts ∙ filled-ended s.answered held.bytes s.each
      ∙ ap (λ (q : List (List ℕ)). filled s.answered ++ filled q) (lines-none held.bytes none)

  -- the last line was answered at the end
  IsServed-last : (left'' next : Option (List ℕ)) (At' : TableState → Type 0) (Kept : Database → Type 0) → ((t : TableState) → At' t → Kept t.kept) → HasNoLf held.bytes → Consumes left' left'' [] → IsAtEnd left''
      → Answered s.state (filled (held.bytes ∷ [])) At' now next → IsServed left left'' taken next Kept
  IsServed-last left'' next At' Kept has none read at_end a =
      record {
        input = s.input;
        read = subst (Consumes left left'') (append-nil s.input) (Consumes-trans left left' left'' s.input [] s.read read);
        at_end = at_end;
        few = few_read;
        text = replies_text (s.replies ++ a.replies);
        made = a.new.kept;
        says = says answers (filled (lines s.input)) (s.replies ++ a.replies) a.new
            (subst (λ (q : List (List ℕ)). Turns sql (at_rest empty) q (s.replies ++ a.replies) a.new) (sym (last_lines none)) (all_turns (filled (held.bytes ∷ [])) a.replies a.new a.turns));
        written = written-more next a.replies a.written;
        kept = has a.new a.stands;
      }

  IsCutOff-last : (left'' next : Option (List ℕ)) (Kept : Database → Type 0) → HasNoLf held.bytes → Consumes left' left'' []
      → StoppedIn s.state (filled (held.bytes ∷ [])) Kept now next → IsCutOff left left'' taken next Kept
  IsCutOff-last left'' next Kept none read p =
      stops left'' next Kept s.input (subst (Consumes left left'') (append-nil s.input) (Consumes-trans left left' left'' s.input [] s.read read)) (filled (held.bytes ∷ [])) []
      (lines-few s.input few_read ∙ last_lines none ∙ ap (λ (q : List (List ℕ)). filled s.answered ++ q) (sym (append-nil (filled (held.bytes ∷ []))))) p

  -- ---- past the limit

  full : held.taken ≡ 4194304 → length s.input ≡ 4194304
  full e = sym s.count ∙ e

  IsTooLong-past : (left'' next : Option (List ℕ)) (Kept : Database → Type 0) → ((t : TableState) → At t → Kept t.kept) → (held' : Held) → HasNoLf held.bytes → held.taken ≡ 4194304 → ReadsPast left' left'' held held'
      → Appends now next (ended (codes "too long")) → IsTooLong left left'' taken next Kept
  IsTooLong-past left'' next Kept has held' none e r written =
      let same : filled (whole_lines (take 4194304 (s.input ++ r.byte ∷ []))) ≡ filled s.answered =
      ap (λ (q : List ℕ). filled (whole_lines q)) (within-past s.input r.byte (full e)) ∙ whole_held none in
      record {
        input = s.input ++ r.byte ∷ [];
        read = Consumes-trans left left' left'' s.input (r.byte ∷ []) s.read r.read;
        past = (let f = full e in omega (arith, length-append s.input (r.byte ∷ [])));
        text = replies_text s.replies;
        made = s.state.kept;
        says = says answers (filled (whole_lines (take 4194304 (s.input ++ r.byte ∷ [])))) s.replies s.state (subst (λ (q : List (List ℕ)). Turns sql (at_rest empty) q s.replies s.state) (sym same) s.turns);
        written = Appends-trans taken now next (replies_text s.replies) (ended (codes "too long")) s.written written;
        kept = has s.state s.stands;
      }

  IsCutOff-past : (left'' next : Option (List ℕ)) (Kept : Database → Type 0) → ((t : TableState) → At t → Kept t.kept) → (held' : Held) → HasNoLf held.bytes → held.taken ≡ 4194304 → ReadsPast left' left'' held held'
      → AppendsFront now next (ended (codes "too long")) → IsCutOff left left'' taken next Kept
  IsCutOff-past left'' next Kept has held' none e r written =
      record {
        input = s.input ++ r.byte ∷ [];
        read = Consumes-trans left left' left'' s.input (r.byte ∷ []) s.read r.read;
        first = filled s.answered;
        others = [];
        parts = lines-past s.input r.byte (full e) ∙ whole_held none ∙ sym (append-nil (filled s.answered));
        text = replies_text s.replies;
        made = s.state.kept;
        says = says answers (filled s.answered) s.replies s.state s.turns;
        ending = ended (codes "too long");
        ends = inr (refl, sym (ending-past s.input r.byte (full e)));
        written = AppendsFront-behind taken now next (replies_text s.replies) (ended (codes "too long")) s.written written;
        kept = has s.state s.stands;
      }

  -- ---- the status

  -- what a last line at the end leads to
  pub Ends-last : (left'' next : Option (List ℕ)) (held' : Held) (At' : TableState → Type 0) (Kept : Database → Type 0) → ((t : TableState) → At' t → Kept t.kept)
      → HasNoLf held.bytes → ReadsEnd left' left'' held held' → (line : List ℕ) → line ≡ held'.bytes
      → {T : Type 0} (r : Result T SinkNo) (status : Status) → status ≡ status_after r Done
      → ((t : TableState) → At t → OnOk r (Answered t (filled (line ∷ [])) At' now next))
      → ((t : TableState) → At t → OnErr r (StoppedIn t (filled (line ∷ [])) Kept now next))
      → Ends status left left'' taken next Kept
  Ends-last left'' next held' At' Kept has none end line is r status told ok err =
      let same : line ≡ held.bytes = is ∙ ap (λ (h : Held). h.bytes) end.held in
      let served : Answered s.state (filled (line ∷ [])) At' now next → IsServed left left'' taken next Kept =
      λ w. IsServed-last left'' next At' Kept has none end.read end.at_end (subst (λ (l : List ℕ). Answered s.state (filled (l ∷ [])) At' now next) same w) in
      let cut : StoppedIn s.state (filled (line ∷ [])) Kept now next → IsCutOff left left'' taken next Kept =
      λ w. IsCutOff-last left'' next Kept none end.read (subst (λ (l : List ℕ). StoppedIn s.state (filled (l ∷ [])) Kept now next) same w) in
      subst (λ (st : Status). Ends st left left'' taken next Kept) (sym told)
      (Ends-after r Done left left'' taken next Kept (on_ok_weaker r served (ok s.state s.stands)) (on_err_weaker r cut (err s.state s.stands)))

  -- what an input past the limit leads to
  pub Ends-past : (left'' next : Option (List ℕ)) (Kept : Database → Type 0) → ((t : TableState) → At t → Kept t.kept) → (held' : Held)
      → HasNoLf held.bytes → held.taken ≡ 4194304 → ReadsPast left' left'' held held'
      → {T : Type 0} (r : Result T SinkNo) (status : Status) → status ≡ status_after r TooLong
      → OnOk r (Appends now next (ended (codes "too long"))) → OnErr r (AppendsFront now next (ended (codes "too long")))
      → Ends status left left'' taken next Kept
  Ends-past left'' next Kept has held' none limit past_end r status told ok err =
      let served : Appends now next (ended (codes "too long")) → IsTooLong left left'' taken next Kept = λ w. IsTooLong-past left'' next Kept has held' none limit past_end w in
      let cut : AppendsFront now next (ended (codes "too long")) → IsCutOff left left'' taken next Kept = λ w. IsCutOff-past left'' next Kept has held' none limit past_end w in
      subst (λ (st : Status). Ends st left left'' taken next Kept) (sym told)
      (Ends-after r TooLong left left'' taken next Kept (on_ok_weaker r served ok) (on_err_weaker r cut err))

-- ---- the start

pub Serves-start : (left taken : Option (List ℕ)) (At : TableState → Type 0) (held : Held) → At (at_rest empty) → held ≡ record { bytes = []; taken = 0 }
    → Serves left left taken taken At held
Serves-start left taken At held stands start =
    record {
      input = [];
      read = Consumes-nil left;
      count = ap (λ (h : Held). h.taken) start;
      few = (let none : held.taken ≡ 0 = ap (λ (h : Held). h.taken) start in omega arith);
      answered = [];
      each = tt;
      parts = sym (ap (λ (h : Held). h.bytes) start);
      replies = [];
      state = at_rest empty;
      turns = (refl, refl);
      stands = stands;
      written = Appends-nil taken;
    }

-- nothing was read or written
pub IsCutOff-start : LinesAreAnswered sql → (left taken : Option (List ℕ)) (Kept : Database → Type 0) → Kept empty → IsCutOff left left taken taken Kept
IsCutOff-start answers left taken Kept has =
    record {
      input = [];
      read = Consumes-nil left;
      first = [];
      others = lines_for [];
      parts = refl;
      text = [];
      made = empty;
      says = says answers [] [] (at_rest empty) (refl, refl);
      ending = [];
      ends = inl refl;
      written = record { front = []; rest = []; parts = refl; grew = Appends-nil taken };
      kept = has;
    }
