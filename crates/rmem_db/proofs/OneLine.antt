-- One line that is answered, or passed over.
use Rattle.std.proofs.Common.{◌≡◌, ℕ, true, false, List, [], ◌∷◌, Option, refl, sym, subst, append-nil}
use Rattle.std.proofs.KnownBytes.{Appends-nil}
use Rattle.std.specs.Io.KnownBytes.{Appends}
use Rattle.reply_text.specs.Texts.{reply_text}
use Rattle.sql_database.specs.declared.replies.SqlReply.{SqlReply}
use Rattle.sql_database.specs.Database.{Database}
use Rattle.table_machine.specs.Serving.{TableState, Turns}
use Rattle.rmem_db.specs.declared.session.OneSession.{OneSession}
use Rattle.rmem_db.specs.Lines.{is_blank, filled}
use Rattle.rmem_db.specs.Serving.{Answered, StoppedIn}
use Rattle.rmem_db.specs.Session.{Stands, TakesTurn, sql}
use Rattle.rmem_db.specs.Writing.{AppendsFront}
use Rattle.rmem_db.proofs.TurnsLaws.{filled-blank, filled-one}

-- a blank line is passed over
pub Answered-blank : (t : TableState) (line : List ℕ) (At : TableState → Type 0) (taken : Option (List ℕ)) → is_blank line ≡ true → At t → Answered t (filled (line ∷ [])) At taken taken
Answered-blank t line At taken blank stands =
    record { replies = []; new = t; turns = subst (λ (q : List (List ℕ)). Turns sql t q [] t) (sym (filled-blank line blank)) (refl, refl); stands = stands; written = Appends-nil taken }

-- nothing was done
pub StoppedIn-none : (t : TableState) (lines : List (List ℕ)) (Kept : Database → Type 0) (taken : Option (List ℕ)) → Kept t.kept → StoppedIn t lines Kept taken taken
StoppedIn-none t lines Kept taken stays =
    record {
      first = [];
      others = lines;
      parts = refl;
      replies = [];
      new = t;
      turns = (refl, refl);
      kept = stays;
      written = record { front = []; rest = []; parts = refl; grew = Appends-nil taken };
    }

module _ {W : Type 0} (Kept Shown : W → Database → Type 0) (t : TableState) (line : List ℕ) (x : OneSession W) (r : SqlReply) (h : TakesTurn Kept Shown line t x r) (other : is_blank line ≡ false) (now next : Option (List ℕ)) where
  turns : Turns sql t (filled (line ∷ [])) (r ∷ []) h.takes.new
  turns = subst (λ (q : List (List ℕ)). Turns sql t q (r ∷ []) h.takes.new) (sym (filled-one line other)) (h.read, r, h.takes.new, [], h.reads, h.takes.step, (refl, refl), refl)

  pub Answered-one : Appends now next (reply_text [] r) → Answered t (filled (line ∷ [])) (Stands Kept Shown x) now next
  Answered-one w =
      record { replies = r ∷ []; new = h.takes.new; turns = turns; stands = h.takes.stands; written = subst (Appends now next) (sym (append-nil (reply_text [] r))) w }

  pub StoppedIn-one : AppendsFront now next (reply_text [] r) → StoppedIn t (filled (line ∷ [])) (Kept x.tables) now next
  StoppedIn-one w =
      record {
        first = filled (line ∷ []);
        others = [];
        parts = sym (append-nil (filled (line ∷ [])));
        replies = r ∷ [];
        new = h.takes.new;
        turns = turns;
        kept = h.takes.stands.kept;
        written = subst (AppendsFront now next) (sym (append-nil (reply_text [] r))) w;
      }
