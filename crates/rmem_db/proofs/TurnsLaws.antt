-- Lines that take their turns, and the text of the run that answers them.
use Rattle.std.proofs.Common.{◌≡◌, ℕ, Bool, true, false, cond, not, List, [], ◌∷◌, ◌++◌, codes, refl, sym, ap, ◌∙◌, subst, arith, append-nil}
use Rattle.std.proofs.lemmas.Grind.{flat_map-append}
use Rattle.std.proofs.lemmas.List.Elements.{filter-append}
use Rattle.std.specs.List.{AllByRecursion}
use Rattle.sql_database.specs.declared.replies.SqlReply.{SqlReply}
use Rattle.sql_database.specs.Database.{Database, empty}
use Rattle.reply_text.specs.Texts.{entry_text, reply_text}
use Rattle.table_machine.specs.declared.entries.Entry.{Entry}
use Rattle.table_machine.specs.declared.entries.Entry.TheVariants as entry
use Rattle.table_machine.specs.Language.{Language}
use Rattle.table_machine.specs.Laws.{LinesAreAnswered}
use Rattle.table_machine.specs.Machine.{Machine}
use Rattle.table_machine.specs.Serving.{IsInTurn, IsWork, ServesInTurn, TableState, Turns, at_rest, replies_in, reply_in}
use Rattle.rmem_db.specs.Lines.{is_blank, filled}
use Rattle.rmem_db.specs.Serving.{IsTextFor}
use Rattle.rmem_db.specs.Session.{sql}
use Rattle.rmem_db.specs.Texts.{replies_text, text_of}
use Rattle.rmem_db.proofs.ToldLaws.{turns_told}

-- ---- the text of entries

-- entries whose text is that of their replies
abbrev IsPlain : Entry → Type 0
IsPlain (entry.Ignored n) = ⊥
IsPlain (entry.Missed n) = ⊥
IsPlain (entry.Opened n) = ⊥
IsPlain e = Unit {0}

plain_text : (e : Entry) → IsPlain e → entry_text [] false e ≡ replies_text (reply_in e)
plain_text (entry.Ignored n) h = absurd h
plain_text (entry.Missed n) h = absurd h
plain_text (entry.Opened n) h = absurd h
plain_text (entry.Reply s r) h = sym (append-nil (reply_text [] r))
plain_text e h = refl

plain_texts : (es : List Entry) → AllByRecursion IsPlain es → text_of es ≡ replies_text (replies_in es)
plain_texts [] h = refl
plain_texts (e ∷ es) h =
    ap (λ t. t ++ text_of es) (plain_text e h.0) ∙ (ap (λ t. replies_text (reply_in e) ++ t) (plain_texts es h.1)
    ∙ sym (flat_map-append (reply_text []) (reply_in e) (replies_in es)))

plain_on : (xs ys : List Entry) → AllByRecursion IsPlain xs → AllByRecursion IsPlain ys → AllByRecursion IsPlain (xs ++ ys)
plain_on [] ys p q = q
plain_on (x ∷ xs) ys p q = (p.0, plain_on xs ys p.1 q)

plain_work : (s : ℕ) (e : Entry) → IsWork s e → IsPlain e
plain_work s (entry.Ignored n) h = h
plain_work s (entry.Missed n) h = h
plain_work s (entry.Opened n) h = h
plain_work s e h = tt

plain_works : (s : ℕ) (es : List Entry) → AllByRecursion (IsWork s) es → AllByRecursion IsPlain es
plain_works s [] h = tt
plain_works s (e ∷ es) h = (plain_work s e h.0, plain_works s es h.1)

plain_lines : (language : Language) (s : ℕ) (lines : List (List ℕ)) (es : List Entry) (old new : Machine) → ServesInTurn language s old lines es new → AllByRecursion IsPlain es
plain_lines language s [] es old new v = subst (AllByRecursion IsPlain) (sym v.0) tt
plain_lines language s (line ∷ lines) es old new v =
    let front : AllByRecursion IsPlain (entry.Submit s line ∷ (v.4.work ++ entry.Reply s v.2 ∷ [])) = (tt, plain_on v.4.work (entry.Reply s v.2 ∷ []) (plain_works s v.4.work v.4.goes_on) (tt, tt)) in
    subst (AllByRecursion IsPlain) (sym v.6) (plain_on v.1 v.3 (subst (AllByRecursion IsPlain) (sym v.4.all) front) (plain_lines language s lines v.3 v.0 new v.5))

text_in_turn : (language : Language) (nodes : ℕ) (base : Database) (first : ℕ) (name : List ℕ) (lines : List (List ℕ)) (es : List Entry) → IsInTurn language nodes base first name lines es
    → text_of es ≡ replies_text (replies_in es)
text_in_turn language nodes base first name lines es h =
    plain_texts es (subst (AllByRecursion IsPlain) (sym h.5) (tt, plain_lines language 0 lines h.2 h.0 h.1 h.4))

-- lines that took their turns over empty tables have the text of their replies
pub says : LinesAreAnswered sql → (lines : List (List ℕ)) (rs : List SqlReply) (t : TableState) → Turns sql (at_rest empty) lines rs t → IsTextFor lines (replies_text rs) t.kept
says answer lines rs t turns =
    let a = answer 1 empty 0 (codes "a") lines rs t (omega arith) turns in
    record {
      replies = rs;
      entries = a.0;
      answered = a.1;
      told = turns_told (at_rest empty) lines rs t turns;
      makes = a.2;
      written = ap replies_text (sym a.1.told) ∙ sym (text_in_turn sql 1 empty 0 (codes "a") lines a.0 a.1.in_turn);
    }

-- ---- lines

pub filled-append : (first more : List (List ℕ)) → filled (first ++ more) ≡ filled first ++ filled more
filled-append first more = filter-append (λ (line : List ℕ). not (is_blank line)) first more

-- a blank line takes no turn, and another its own
pub filled-blank : (line : List ℕ) → is_blank line ≡ true → filled (line ∷ []) ≡ []
filled-blank line blank = ap (λ (b : Bool). cond (not b) (line ∷ []) []) blank

pub filled-one : (line : List ℕ) → is_blank line ≡ false → filled (line ∷ []) ≡ line ∷ []
filled-one line other = ap (λ (b : Bool). cond (not b) (line ∷ []) []) other
