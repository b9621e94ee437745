-- What a run leaves.
use Rattle.std.proofs.Common.{◌≡◌, ℕ, List, Option, Some, None, refl, sym, subst, append-nil}
use Rattle.std.specs.Prelude.{IsNone}
use Rattle.page_image.specs.Image.{unmade}
use Rattle.redo_record.specs.declared.redo.Group.{Group}
use Rattle.redo_record.specs.Effect.{after_groups}
use Rattle.page_store.specs.Stored.{Stored, given_back}
use Rattle.sql_database.specs.Database.{Database, empty}
use Rattle.paged_tables.specs.Content.{Holds, HoldsKept}
use Rattle.rmem_db.specs.declared.status.Status.{Status}
use Rattle.rmem_db.specs.declared.status.Status.TheVariants.{Done, BadWords, BadScript, ReadFault, WriteFault, TooLong, BadLog, WantOfMemory}
use Rattle.rmem_db.specs.Keeping.{AreKept, HasKept}
use Rattle.rmem_db.specs.Serving.{IsServed, IsTooLong, IsBroken, IsCutOff, Ends}

-- tables whose other changes were given back have the database that they kept, and are kept
pub are_kept : (s t : Stored) (d : Database) → t ≡ given_back s → HoldsKept s d → AreKept t d
are_kept s t d is h = subst (λ (u : Stored). AreKept u d) (sym is) whole where
  whole : AreKept (given_back s) d
  whole = record { all = refl; log = subst (λ (gs : List Group). Holds (λ p. after_groups gs (unmade p)) d) (append-nil s.kept) h }

-- no tables are left of a database without any
pub none_kept : (tables : Option Stored) → IsNone tables → HasKept tables empty
none_kept None is = refl
none_kept (Some t) is = absurd cc

module _ (P Q : Database → Type 0) (weaker : (d : Database) → P d → Q d) (left left' taken taken' : Option (List ℕ)) where
  served : IsServed left left' taken taken' P → IsServed left left' taken taken' Q
  served h =
      record { input = h.input; read = h.read; at_end = h.at_end; few = h.few; text = h.text; made = h.made; says = h.says; written = h.written; kept = weaker h.made h.kept }

  too_long : IsTooLong left left' taken taken' P → IsTooLong left left' taken taken' Q
  too_long h = record { input = h.input; read = h.read; past = h.past; text = h.text; made = h.made; says = h.says; written = h.written; kept = weaker h.made h.kept }

  broken : IsBroken left left' taken taken' P → IsBroken left left' taken taken' Q
  broken h = record { input = h.input; read = h.read; few = h.few; text = h.text; made = h.made; says = h.says; written = h.written; kept = weaker h.made h.kept }

  cut_off : IsCutOff left left' taken taken' P → IsCutOff left left' taken taken' Q
  cut_off h =
      record {
        input = h.input;
        read = h.read;
        first = h.first;
        others = h.others;
        parts = h.parts;
        text = h.text;
        made = h.made;
        says = h.says;
        ending = h.ending;
        ends = h.ends;
        written = h.written;
        kept = weaker h.made h.kept;
      }

  -- a run ends in the same way where less is said of what is kept
  pub Ends-weaker : (status : Status) → Ends status left left' taken taken' P → Ends status left left' taken taken' Q
  Ends-weaker Done h = served h
  Ends-weaker ReadFault h = broken h
  Ends-weaker TooLong h = too_long h
  Ends-weaker WriteFault h = cut_off h
  Ends-weaker WantOfMemory h = cut_off h
  Ends-weaker BadWords h = h
  Ends-weaker BadScript h = h
  Ends-weaker BadLog h = h
