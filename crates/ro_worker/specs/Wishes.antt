-- Stated: what a node that only reads finds and replies; for the proofs: what it wishes for next, by what
-- is to be released, what is held and what is wanted.
use Rattle.std.specs.Prelude.{ℕ, Bool, true, false, Option, Some, None}
use Rattle.range_reader.specs.declared.fetch.Fetch.{Fetch}
use Rattle.statement_reader.specs.declared.asking.Read.{Read}
use Rattle.statement_work.specs.Terms.{Terms}
use Rattle.statement_work.specs.Works.{Wish, Fetches, Releases, Stamps, Work}
use Rattle.statement_work.specs.Latches.{is_child}
use Rattle.ro_worker.specs.declared.latching.ReaderWish.{ReaderWish}
use Rattle.ro_worker.specs.declared.latching.ReaderWish.TheVariants as wish
use Rattle.ro_worker.specs.Reads.{IsReplyTo}

-- it has no aim that a plan could serve
abbrev pub reads_only : Terms
reads_only = record {
  Aim = ⊥;
  Serves = λ a plan. ⊥;
  Finding = Read;
  Replies = IsReplyTo;
}

abbrev pub wish_of : ReaderWish → Wish ⊥
wish_of (wish.Fetch q) = Fetches false q
wish_of (wish.Release p) = Releases p
wish_of wish.Stamp = Stamps

-- what is held is released before any page but a child is fetched
abbrev pub first : Option ℕ → Fetch → ReaderWish
first None q = wish.Fetch q
first (Some p) q = wish.Release p

abbrev pub wish_by : Bool → Option ℕ → Fetch → ReaderWish
wish_by true held q = wish.Fetch q
wish_by false held q = first held q

abbrev pub release : Option ℕ → Option ReaderWish
release None = None
release (Some p) = Some (wish.Release p)

abbrev pub wish_at : Option ℕ → Option Fetch → Option ReaderWish
wish_at held (Some q) = Some (wish_by (is_child q) held q)
wish_at held None = release held

abbrev pub wish_for : Option ℕ → Option ℕ → Option Fetch → Option ReaderWish
wish_for None held q = wish_at held q
wish_for (Some p) held q = Some (wish.Release p)

-- the page above a child is released once the child is held
abbrev pub free_by : Bool → Option ℕ → Option ℕ
free_by true held = held
free_by false held = None

abbrev pub free_after : Fetch → Option ℕ → Option ℕ
free_after q held = free_by (is_child q) held
