-- A record that is read is spelled so, and a record that is spelled is read, whatever follows.
use Rattle.std.proofs.Common.{◌≡◌, ◌≢◌, ◌≤◌, ◌<◌, ◌^◌, ℕ, suc, cond, List, [], ◌∷◌, ◌++◌, length, Option, Some, None, inl, inr, refl, sym, ap, subst, ◌∙◌, append_assoc, arith}
use Rattle.std.proofs.lemmas.Option.{cond_some}
use Rattle.rm_base.specs.Fields.{field, AreBytes}
use Rattle.page_image.specs.declared.kind.Kind.{Kind}
use Rattle.page_image.specs.declared.kind.Kind.TheVariants.{Unmade}
use Rattle.page_image.specs.Image.{kind_number, LevelFits}
use Rattle.redo_record.specs.declared.redo.Record.{Record}
use Rattle.redo_record.specs.declared.redo.Record.TheVariants.{Make, Patch, InsertSlot, RemoveSlot, Cut, Link}
use Rattle.redo_record.specs.Spelling.{counted, record_bytes, FitsPage, IsRecord}
use Rattle.redo_record.specs.Reading.{◌>>=◌, byte_at, number_at, page_number_at, kind_at, level_fits, counted_at, make_at, patch_at, insert_at, remove_at, cut_at, link_at, fields_at, record_at}
use Rattle.redo_record.specs.Refusal.{BeginsNoRecord}
use Rattle.redo_record.proofs.Steps.{bind_some, some_is, one_of, AreBytes-rest, AreBytes-front, Takes, Takes-then, Takes-fits}
use Rattle.redo_record.proofs.FieldReading.{byte_takes, number_takes, number_again, page_takes, page_again, kind_takes, kind_again, level_is, level_again, counted_takes, counted_again}

-- behind the byte of what it does, the record was at the front
record TakesRecord (does : ℕ) (bytes : List ℕ) (x : Record × List ℕ) : Type 0 where
  took : Takes (does ∷ bytes) (record_bytes x.0) x.1
  is_record : AreBytes bytes → IsRecord x.0

as_read : (does : ℕ) (bytes : List ℕ) (made x : Record × List ℕ) → TakesRecord does bytes made → made ≡ x → TakesRecord does bytes x
as_read does bytes made x t is = subst (TakesRecord does bytes) is t

Takes-cons : (b : ℕ) (bytes text rest : List ℕ) → Takes bytes text rest → Takes (b ∷ bytes) (b ∷ text) rest
Takes-cons b bytes text rest t =
    record { parts = λ fits. ap (λ (w : List ℕ). b ∷ w) (t.parts (λ k. fits (suc k))); shorter = omega (arith, t.shorter) }

-- the bytes behind their number are bytes
counted_fits : (bytes text rest : List ℕ) → Takes bytes (counted text) rest → AreBytes bytes → AreBytes text
counted_fits bytes text rest t fits =
    let P : List ℕ → Type 0 = λ b. AreBytes b in
    AreBytes-rest (field 2 (length text)) text (AreBytes-front (counted text) rest (subst P (t.parts fits) fits))

make_takes : (bytes : List ℕ) (x : Record × List ℕ) → make_at bytes ≡ Some x → TakesRecord 1 bytes x
unfolding make_at
make_takes bytes x e =
    let a = bind_some (page_number_at bytes) (λ page. kind_at page.1 >>= λ kind. byte_at kind.1 >>= λ level. cond (level_fits kind.0 level.0) (Some (Make page.0 kind.0 level.0, level.1)) None) x e in
    let b = bind_some (kind_at a.0.1) (λ kind. byte_at kind.1 >>= λ level. cond (level_fits kind.0 level.0) (Some (Make a.0.0 kind.0 level.0, level.1)) None) x a.2 in
    let c = bind_some (byte_at b.0.1) (λ level. cond (level_fits b.0.0 level.0) (Some (Make a.0.0 b.0.0 level.0, level.1)) None) x b.2 in
    let g = cond_some (level_fits b.0.0 c.0.0) (Make a.0.0 b.0.0 c.0.0, c.0.1) x c.2 in
    let page = page_takes bytes a.0 a.1 in
    let kind = kind_takes a.0.1 b.0 b.1 in
    let level = byte_takes b.0.1 c.0 c.1 in
    let last = Takes-then a.0.1 (kind_number b.0.0 ∷ []) b.0.1 (c.0.0 ∷ []) c.0.1 kind.0 level in
    let all = Takes-then bytes (field 4 a.0.0) a.0.1 (kind_number b.0.0 ∷ c.0.0 ∷ []) c.0.1 page.0 last in
    as_read 1 bytes (Make a.0.0 b.0.0 c.0.0, c.0.1) x
    (record {
      took = Takes-cons 1 bytes (field 4 a.0.0 ++ (kind_number b.0.0 ∷ c.0.0 ∷ [])) c.0.1 all;
      is_record = λ fits. (page.1, (kind.1, level_is b.0.0 c.0.0 g.0));
    })
    g.1

patch_takes : (bytes : List ℕ) (x : Record × List ℕ) → patch_at bytes ≡ Some x → TakesRecord 2 bytes x
unfolding patch_at
patch_takes bytes x e =
    let a = bind_some (page_number_at bytes) (λ page. number_at 2 page.1 >>= λ at. counted_at at.1 >>= λ new. Some (Patch page.0 at.0 new.0, new.1)) x e in
    let b = bind_some (number_at 2 a.0.1) (λ at. counted_at at.1 >>= λ new. Some (Patch a.0.0 at.0 new.0, new.1)) x a.2 in
    let c = bind_some (counted_at b.0.1) (λ new. Some (Patch a.0.0 b.0.0 new.0, new.1)) x b.2 in
    let page = page_takes bytes a.0 a.1 in
    let at = number_takes 2 a.0.1 b.0 b.1 in
    let new = counted_takes b.0.1 c.0 c.1 in
    let last = Takes-then a.0.1 (field 2 b.0.0) b.0.1 (counted c.0.0) c.0.1 at.0 new.0 in
    let all = Takes-then bytes (field 4 a.0.0) a.0.1 (field 2 b.0.0 ++ counted c.0.0) c.0.1 page.0 last in
    as_read 2 bytes (Patch a.0.0 b.0.0 c.0.0, c.0.1) x
    (record {
      took = Takes-cons 2 bytes (field 4 a.0.0 ++ (field 2 b.0.0 ++ counted c.0.0)) c.0.1 all;
      is_record = λ fits.
          let after_page = Takes-fits bytes (field 4 a.0.0) a.0.1 page.0 fits in
          let after_at = Takes-fits a.0.1 (field 2 b.0.0) b.0.1 at.0 after_page in
          ((page.1, at.1 after_page, counted_fits b.0.1 c.0.0 c.0.1 new.0 after_at), new.1);
    })
    (some_is (Patch a.0.0 b.0.0 c.0.0, c.0.1) x c.2)

insert_takes : (bytes : List ℕ) (x : Record × List ℕ) → insert_at bytes ≡ Some x → TakesRecord 3 bytes x
unfolding insert_at
insert_takes bytes x e =
    let a = bind_some (page_number_at bytes) (λ page. number_at 2 page.1 >>= λ index. counted_at index.1 >>= λ item. Some (InsertSlot page.0 index.0 item.0, item.1)) x e in
    let b = bind_some (number_at 2 a.0.1) (λ index. counted_at index.1 >>= λ item. Some (InsertSlot a.0.0 index.0 item.0, item.1)) x a.2 in
    let c = bind_some (counted_at b.0.1) (λ item. Some (InsertSlot a.0.0 b.0.0 item.0, item.1)) x b.2 in
    let page = page_takes bytes a.0 a.1 in
    let index = number_takes 2 a.0.1 b.0 b.1 in
    let item = counted_takes b.0.1 c.0 c.1 in
    let last = Takes-then a.0.1 (field 2 b.0.0) b.0.1 (counted c.0.0) c.0.1 index.0 item.0 in
    let all = Takes-then bytes (field 4 a.0.0) a.0.1 (field 2 b.0.0 ++ counted c.0.0) c.0.1 page.0 last in
    as_read 3 bytes (InsertSlot a.0.0 b.0.0 c.0.0, c.0.1) x
    (record {
      took = Takes-cons 3 bytes (field 4 a.0.0 ++ (field 2 b.0.0 ++ counted c.0.0)) c.0.1 all;
      is_record = λ fits.
          let after_page = Takes-fits bytes (field 4 a.0.0) a.0.1 page.0 fits in
          let after_index = Takes-fits a.0.1 (field 2 b.0.0) b.0.1 index.0 after_page in
          ((page.1, index.1 after_page, counted_fits b.0.1 c.0.0 c.0.1 item.0 after_index), item.1);
    })
    (some_is (InsertSlot a.0.0 b.0.0 c.0.0, c.0.1) x c.2)

remove_takes : (bytes : List ℕ) (x : Record × List ℕ) → remove_at bytes ≡ Some x → TakesRecord 4 bytes x
unfolding remove_at
remove_takes bytes x e =
    let a = bind_some (page_number_at bytes) (λ page. number_at 2 page.1 >>= λ index. Some (RemoveSlot page.0 index.0, index.1)) x e in
    let b = bind_some (number_at 2 a.0.1) (λ index. Some (RemoveSlot a.0.0 index.0, index.1)) x a.2 in
    let page = page_takes bytes a.0 a.1 in
    let index = number_takes 2 a.0.1 b.0 b.1 in
    let all = Takes-then bytes (field 4 a.0.0) a.0.1 (field 2 b.0.0) b.0.1 page.0 index.0 in
    as_read 4 bytes (RemoveSlot a.0.0 b.0.0, b.0.1) x
    (record {
      took = Takes-cons 4 bytes (field 4 a.0.0 ++ field 2 b.0.0) b.0.1 all;
      is_record = λ fits. ((page.1, index.1 (Takes-fits bytes (field 4 a.0.0) a.0.1 page.0 fits)), tt);
    })
    (some_is (RemoveSlot a.0.0 b.0.0, b.0.1) x b.2)

cut_takes : (bytes : List ℕ) (x : Record × List ℕ) → cut_at bytes ≡ Some x → TakesRecord 5 bytes x
unfolding cut_at
cut_takes bytes x e =
    let a = bind_some (page_number_at bytes) (λ page. number_at 2 page.1 >>= λ from. Some (Cut page.0 from.0, from.1)) x e in
    let b = bind_some (number_at 2 a.0.1) (λ from. Some (Cut a.0.0 from.0, from.1)) x a.2 in
    let page = page_takes bytes a.0 a.1 in
    let from = number_takes 2 a.0.1 b.0 b.1 in
    let all = Takes-then bytes (field 4 a.0.0) a.0.1 (field 2 b.0.0) b.0.1 page.0 from.0 in
    as_read 5 bytes (Cut a.0.0 b.0.0, b.0.1) x
    (record {
      took = Takes-cons 5 bytes (field 4 a.0.0 ++ field 2 b.0.0) b.0.1 all;
      is_record = λ fits. ((page.1, from.1 (Takes-fits bytes (field 4 a.0.0) a.0.1 page.0 fits)), tt);
    })
    (some_is (Cut a.0.0 b.0.0, b.0.1) x b.2)

link_takes : (bytes : List ℕ) (x : Record × List ℕ) → link_at bytes ≡ Some x → TakesRecord 6 bytes x
unfolding link_at
link_takes bytes x e =
    let a = bind_some (page_number_at bytes) (λ page. page_number_at page.1 >>= λ next. Some (Link page.0 next.0, next.1)) x e in
    let b = bind_some (page_number_at a.0.1) (λ next. Some (Link a.0.0 next.0, next.1)) x a.2 in
    let page = page_takes bytes a.0 a.1 in
    let next = page_takes a.0.1 b.0 b.1 in
    let all = Takes-then bytes (field 4 a.0.0) a.0.1 (field 4 b.0.0) b.0.1 page.0 next.0 in
    as_read 6 bytes (Link a.0.0 b.0.0, b.0.1) x
    (record { took = Takes-cons 6 bytes (field 4 a.0.0 ++ field 4 b.0.0) b.0.1 all; is_record = λ fits. (page.1, next.1) })
    (some_is (Link a.0.0 b.0.0, b.0.1) x b.2)

fields_take : (b : ℕ) (rest : List ℕ) (x : Record × List ℕ) → fields_at b rest ≡ Some x → TakesRecord b rest x
fields_take b rest x e =
    let at = λ (n : ℕ) (is : b ≡ n) (t : TakesRecord n rest x). subst (λ (m : ℕ). TakesRecord m rest x) (sym is) t in
    elim (one_of b 1 (make_at rest) _ x e) [
      | inl h ↦ at 1 h.0 (make_takes rest x h.1)
      | inr e2 ↦ elim (one_of b 2 (patch_at rest) _ x e2) [
        | inl h ↦ at 2 h.0 (patch_takes rest x h.1)
        | inr e3 ↦ elim (one_of b 3 (insert_at rest) _ x e3) [
          | inl h ↦ at 3 h.0 (insert_takes rest x h.1)
          | inr e4 ↦ elim (one_of b 4 (remove_at rest) _ x e4) [
            | inl h ↦ at 4 h.0 (remove_takes rest x h.1)
            | inr e5 ↦ elim (one_of b 5 (cut_at rest) _ x e5) [
              | inl h ↦ at 5 h.0 (cut_takes rest x h.1)
              | inr e6 ↦ elim (one_of b 6 (link_at rest) _ x e6) [
                | inl h ↦ at 6 h.0 (link_takes rest x h.1)
                | inr e7 ↦ absurd cc
              ]
            ]
          ]
        ]
      ]
    ]

-- what is read is spelled so
pub record_takes : (bytes : List ℕ) (x : Record × List ℕ) → record_at bytes ≡ Some x → Takes bytes (record_bytes x.0) x.1 × (AreBytes bytes → IsRecord x.0)
unfolding record_at
record_takes [] x e = absurd cc
record_takes (b ∷ rest) x e =
    let t = fields_take b rest x e in (t.took, λ fits. t.is_record (λ k. fits (suc k)))

make_again : (page : ℕ) (kind : Kind) (level : ℕ) (rest : List ℕ) → page ≤ 32767 → kind ≢ Unmade → LevelFits kind level
    → make_at (field 4 page ++ (kind_number kind ∷ level ∷ rest)) ≡ Some (Make page kind level, rest)
unfolding make_at
make_again page kind level rest small made fits =
    rw (page_again page (kind_number kind ∷ level ∷ rest) small, kind_again kind (level ∷ rest) made, level_again kind level fits) refl

patch_again : (page at : ℕ) (new rest : List ℕ) → page ≤ 32767 → at < 2 ^ 16 → FitsPage new
    → patch_at (field 4 page ++ (field 2 at ++ (counted new ++ rest))) ≡ Some (Patch page at new, rest)
unfolding patch_at
patch_again page at new rest small lt fits =
    rw (page_again page (field 2 at ++ (counted new ++ rest)) small, number_again 2 at (counted new ++ rest) lt, counted_again new rest fits) refl

insert_again : (page index : ℕ) (item rest : List ℕ) → page ≤ 32767 → index < 2 ^ 16 → FitsPage item
    → insert_at (field 4 page ++ (field 2 index ++ (counted item ++ rest))) ≡ Some (InsertSlot page index item, rest)
unfolding insert_at
insert_again page index item rest small lt fits =
    rw (page_again page (field 2 index ++ (counted item ++ rest)) small, number_again 2 index (counted item ++ rest) lt, counted_again item rest fits) refl

remove_again : (page index : ℕ) (rest : List ℕ) → page ≤ 32767 → index < 2 ^ 16
    → remove_at (field 4 page ++ (field 2 index ++ rest)) ≡ Some (RemoveSlot page index, rest)
unfolding remove_at
remove_again page index rest small lt = rw (page_again page (field 2 index ++ rest) small, number_again 2 index rest lt) refl

cut_again : (page from : ℕ) (rest : List ℕ) → page ≤ 32767 → from < 2 ^ 16
    → cut_at (field 4 page ++ (field 2 from ++ rest)) ≡ Some (Cut page from, rest)
unfolding cut_at
cut_again page from rest small lt = rw (page_again page (field 2 from ++ rest) small, number_again 2 from rest lt) refl

link_again : (page next : ℕ) (rest : List ℕ) → page ≤ 32767 → next ≤ 32767
    → link_at (field 4 page ++ (field 4 next ++ rest)) ≡ Some (Link page next, rest)
unfolding link_at
link_again page next rest small lt = rw (page_again page (field 4 next ++ rest) small, page_again next rest lt) refl

-- a page's number, a field and counted bytes, regrouped
three_parts : (a b c rest : List ℕ) → (a ++ (b ++ c)) ++ rest ≡ a ++ (b ++ (c ++ rest))
three_parts a b c rest = append_assoc a (b ++ c) rest ∙ ap (λ (t : List ℕ). a ++ t) (append_assoc b c rest)

-- what is spelled is read, whatever follows
pub record_again : (r : Record) (rest : List ℕ) → IsRecord r → record_at (record_bytes r ++ rest) ≡ Some (r, rest)
unfolding record_at
record_again (Make page kind level) rest h =
    ap make_at (append_assoc (field 4 page) (kind_number kind ∷ level ∷ []) rest) ∙ make_again page kind level rest h.0 h.1.0 h.1.1
record_again (Patch page at new) rest h =
    ap patch_at (three_parts (field 4 page) (field 2 at) (counted new) rest) ∙ patch_again page at new rest h.0.0 h.0.1 h.1
record_again (InsertSlot page index item) rest h =
    ap insert_at (three_parts (field 4 page) (field 2 index) (counted item) rest) ∙ insert_again page index item rest h.0.0 h.0.1 h.1
record_again (RemoveSlot page index) rest h =
    ap remove_at (append_assoc (field 4 page) (field 2 index) rest) ∙ remove_again page index rest h.0.0 h.0.1
record_again (Cut page from) rest h =
    ap cut_at (append_assoc (field 4 page) (field 2 from) rest) ∙ cut_again page from rest h.0.0 h.0.1
record_again (Link page next) rest h =
    ap link_at (append_assoc (field 4 page) (field 4 next) rest) ∙ link_again page next rest h.0 h.1

-- where none is read, none begins the bytes
pub none_begins : (bytes : List ℕ) → record_at bytes ≡ None → BeginsNoRecord bytes
none_begins bytes e r rest is_record is =
    let read : record_at bytes ≡ Some (r, rest) = ap record_at is ∙ record_again r rest is_record in cc

none_is_read : (bytes : List ℕ) (found : Option (Record × List ℕ)) → AreBytes bytes → BeginsNoRecord bytes → record_at bytes ≡ found → record_at bytes ≡ None
none_is_read bytes None fits none e = e
none_is_read bytes (Some x) fits none e =
    let t = record_takes bytes x e in absurd (none x.0 x.1 (t.1 fits) (t.0.parts fits))

-- where none begins the bytes, none is read
pub none_read : (bytes : List ℕ) → AreBytes bytes → BeginsNoRecord bytes → record_at bytes ≡ None
none_read bytes fits none = none_is_read bytes (record_at bytes) fits none refl
