-- The records that wait for a page once a group is shipped.
use Rattle.std.proofs.Common.{◌≡◌, ◌<◌, ◌+◌, ◌-◌, ℕ, Bool, true, false, cond, nat_eq, List, [], ◌∷◌, ◌++◌, map, filter, length, append-nil, append_assoc, refl, sym, ap, ◌∙◌, arith}
use Rattle.redo_record.specs.declared.redo.Record.{Record}
use Rattle.redo_record.specs.declared.redo.Group.{Group}
use Rattle.redo_record.specs.Effect.{page_of}
use Rattle.page_chunks.specs.declared.entries.Entry.{Entry}
use Rattle.page_chunks.specs.Entries.{empty, single, with_record, records_for, taken_all, entry_at}
use Rattle.page_chunks.specs.Chunk.{Chunk, first_page, InChunk, kept_of, waiting, IsChunk, CanShip}
use Rattle.page_chunks.proofs.EntryLaws.{with_records, waiting-all}
use Rattle.page_chunks.proofs.TakenLaws.{entry-taken_all}
use Rattle.page_chunks.proofs.ChunkLaws.{kept-stands, one_shipped, after_ship}

-- the records for page p, each alone
abbrev pub alone_for : ℕ → ℕ → List Record → List Group
alone_for p lsn rs = map (single lsn) (filter (λ r. nat_eq (page_of r) p) rs)

one_pending : (b : Bool) (p lsn : ℕ) (r : Record) (rs : List Record) (e : Entry)
    → (cond b (let f : Entry = record e { pending = e.pending ++ single lsn r ∷ [] } in f) e).pending ++ alone_for p lsn rs
    ≡ e.pending ++ map (single lsn) (cond b (r ∷ filter (λ x. nat_eq (page_of x) p) rs) (filter (λ x. nat_eq (page_of x) p) rs))
one_pending true p lsn r rs e = append_assoc e.pending (single lsn r ∷ []) (alone_for p lsn rs)
one_pending false p lsn r rs e = refl

pub pending_with : (p lsn : ℕ) (rs : List Record) (e : Entry) → (with_records p lsn rs e).pending ≡ e.pending ++ alone_for p lsn rs
pending_with p lsn [] e = sym (append-nil e.pending)
pending_with p lsn (r ∷ rs) e =
    pending_with p lsn rs (with_record p lsn r e) ∙ one_pending (nat_eq (page_of r) p) p lsn r rs e

pub shipped-waiting : (old : Chunk) (g : Group) (es : List Entry) → IsChunk old → CanShip old g → es ≡ taken_all (first_page old) g.lsn g.records old.entries
    → (p : ℕ) → InChunk old p → waiting (after_ship old g es) p ≡ waiting old p ++ records_for p g
shipped-waiting old g es is can taken p h =
    let from = h.from in
    let within = h.within in
    let all = is.all in
    let first : ℕ = first_page old in
    let inside : p - first < length old.entries = omega arith in
    let at : first + (p - first) ≡ p = omega arith in
    let new : Entry = entry_at (taken_all first g.lsn g.records old.entries) (p - first) in
    let there : new ≡ with_records p g.lsn g.records (kept_of old p) =
    entry-taken_all first g.lsn (p - first) g.records old.entries empty inside
    ∙ ap (λ (q : ℕ). with_records q g.lsn g.records (kept_of old p)) at in
    ap (λ (xs : List Entry). waiting (after_ship old g xs) p) taken
    ∙ waiting-all p g.lsn new (one_shipped old g p is can h).stands
    ∙ ap (λ (e : Entry). e.pending) there
    ∙ pending_with p g.lsn g.records (kept_of old p)
    ∙ ap (λ (gs : List Group). gs ++ alone_for p g.lsn g.records) (sym (waiting-all p old.applied (kept_of old p) (kept-stands old p is h)))
