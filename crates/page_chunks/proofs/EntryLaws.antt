-- One page's entry.
use Rattle.std.proofs.Common.{◌≡◌, ◌≤◌, ◌<◌, ℕ, Bool, true, false, cond, nat_eq, List, [], ◌∷◌, ◌++◌, Result, Ok, Err, OnOk, is_err, refl, sym, ap, subst, ◌∙◌, arith}
use Rattle.page_image.specs.Image.{Image, Follows}
use Rattle.redo_record.specs.declared.redo.Record.{Record}
use Rattle.redo_record.specs.declared.redo.Group.{Group}
use Rattle.redo_record.specs.Effect.{page_of, effect, step, after_records, after_groups, past, ArePast, AreUpTo, GroupsApply, RecordsApply}
use Rattle.redo_record.proofs.Fold.{after_groups-append, after_groups-lsn_le, after_groups-page, after_records-lsn_le, GroupsApply-append, past-all}
use Rattle.page_chunks.specs.declared.entries.Entry.{Entry}
use Rattle.page_chunks.specs.Entries.{empty, base_of, image_of, single, with_record, Rises, Replays, Stands}

-- ---- groups done in order

pub Rises-weaker : (m n : ℕ) (gs : List Group) → m ≤ n → Rises n gs → Rises m gs
Rises-weaker m n [] le h = tt
Rises-weaker m n (g ∷ gs) le h = (omega (arith, h.0), h.1, h.2)

-- the groups that are left do to the page what all do to the first one
pub record Left (all : List Group) (first : Image) (gs : List Group) (page : Image) : Type 0 where
  pub whole : after_groups gs page ≡ after_groups all first
  pub rises : Rises page.lsn gs
  pub apply : GroupsApply gs page

pub left_follows : (all : List Group) (first : Image) (g : Group) (gs : List Group) (page : Image) → Left all first (g ∷ gs) page → Follows page g.lsn
left_follows all first g gs page l = record { some = l.rises.1; later = l.rises.0 }

pub left_next : (all : List Group) (first : Image) (g : Group) (gs : List Group) (page : Image) → Left all first (g ∷ gs) page
    → Left all first gs (after_records g.lsn g.records page)
left_next all first g gs page l = record {
  whole = l.whole;
  rises = Rises-weaker (after_records g.lsn g.records page).lsn g.lsn gs (after_records-lsn_le g.lsn g.records page l.rises.0) l.rises.2;
  apply = l.apply.1;
}

-- ---- a record more

pub Rises-push : (n lsn : ℕ) (gs : List Group) (r : Record) → Rises n gs → AreUpTo lsn gs → n ≤ lsn → 1 ≤ lsn → Rises n (gs ++ single lsn r ∷ [])
Rises-push n lsn [] r h up le some = (le, some, tt)
Rises-push n lsn (g ∷ gs) r h up le some = (h.0, h.1, Rises-push g.lsn lsn gs r h.2 up.1 up.0 some)

pub AreUpTo-push : (lsn : ℕ) (gs : List Group) (r : Record) → AreUpTo lsn gs → AreUpTo lsn (gs ++ single lsn r ∷ [])
AreUpTo-push lsn [] r up = (omega arith, tt)
AreUpTo-push lsn (g ∷ gs) r up = (up.0, AreUpTo-push lsn gs r up.1)

pub AreUpTo-weaker : (m n : ℕ) (gs : List Group) → m ≤ n → AreUpTo m gs → AreUpTo n gs
AreUpTo-weaker m n [] le up = tt
AreUpTo-weaker m n (g ∷ gs) le up = (omega (arith, up.0), AreUpTo-weaker m n gs le up.1)

pub ArePast-push : (n lsn : ℕ) (gs : List Group) (r : Record) → ArePast n gs → n < lsn → ArePast n (gs ++ single lsn r ∷ [])
ArePast-push n lsn [] r h lt = (lt, tt)
ArePast-push n lsn (g ∷ gs) r h lt = (h.0, ArePast-push n lsn gs r h.1 lt)

pub stands_later : (p m n : ℕ) (e : Entry) → m ≤ n → Stands p m e → Stands p n e
stands_later p m n e le s = record {
  replays = s.replays;
  past_base = s.past_base;
  bound = omega (arith, s.bound);
  late = AreUpTo-weaker m n e.pending le s.late;
}

pub image-page : (p : ℕ) (e : Entry) → Replays p e → (image_of p e).page ≡ p
image-page p e h = after_groups-page e.pending (base_of p e) ∙ h.page

pub image-lsn_le : (p applied : ℕ) (e : Entry) → Stands p applied e → (image_of p e).lsn ≤ applied
image-lsn_le p applied e s = after_groups-lsn_le applied e.pending (base_of p e) s.late s.bound

-- what one record does to an entry
pub record Taken (p lsn : ℕ) (r : Record) (old new : Entry) : Type 0 where
  pub stands : Stands p lsn new
  pub base : base_of p new ≡ base_of p old
  pub image : image_of p new ≡ step lsn (image_of p old) r

abbrev pushed : ℕ → Record → Entry → Entry
pushed lsn r e = record e { pending = e.pending ++ single lsn r ∷ [] }

taken_in : (p lsn : ℕ) (r : Record) (e : Entry) → Stands p lsn e → (base_of p e).lsn < lsn → RecordsApply lsn (r ∷ []) (image_of p e) → Taken p lsn r e (pushed lsn r e)
taken_in p lsn r e s lt fits = record {
  stands = record {
    replays = record {
      page = s.replays.page;
      rises = Rises-push (base_of p e).lsn lsn e.pending r s.replays.rises s.late s.bound (omega arith);
      apply = GroupsApply-append e.pending (single lsn r ∷ []) (base_of p e) s.replays.apply (fits, tt);
    };
    past_base = ArePast-push (base_of p e).lsn lsn e.pending r s.past_base lt;
    bound = s.bound;
    late = AreUpTo-push lsn e.pending r s.late;
  };
  base = refl;
  image = after_groups-append e.pending (single lsn r ∷ []) (base_of p e);
}

pub not_here : (b : Bool) (r : Record) (lsn : ℕ) (im : Image) → b ≡ false → cond b (effect r lsn im) im ≡ im
not_here true r lsn im e = absurd cc
not_here false r lsn im e = refl

chosen : (b : Bool) (p lsn : ℕ) (r : Record) (e : Entry) → nat_eq (page_of r) p ≡ b → Stands p lsn e → (base_of p e).lsn < lsn
    → RecordsApply lsn (r ∷ []) (image_of p e) → Taken p lsn r e (cond b (pushed lsn r e) e)
chosen true p lsn r e is s lt fits = taken_in p lsn r e s lt fits
chosen false p lsn r e is s lt fits =
    let other : nat_eq (page_of r) (image_of p e).page ≡ false = ap (nat_eq (page_of r)) (image-page p e s.replays) ∙ is in
    record {
      stands = s;
      base = refl;
      image = sym (not_here (nat_eq (page_of r) (image_of p e).page) r lsn (image_of p e) other);
    }

pub taken_one : (p lsn : ℕ) (r : Record) (e : Entry) → Stands p lsn e → (base_of p e).lsn < lsn → RecordsApply lsn (r ∷ []) (image_of p e)
    → Taken p lsn r e (with_record p lsn r e)
taken_one p lsn r e s lt fits = chosen (nat_eq (page_of r) p) p lsn r e refl s lt fits

-- an entry after records, in order
abbrev pub with_records : ℕ → ℕ → List Record → Entry → Entry
with_records p lsn [] e = e
with_records p lsn (r ∷ rs) e = with_records p lsn rs (with_record p lsn r e)

pub record TakenAll (p lsn : ℕ) (rs : List Record) (old new : Entry) : Type 0 where
  pub stands : Stands p lsn new
  pub image : image_of p new ≡ after_records lsn rs (image_of p old)

pub taken_records : (p lsn : ℕ) (rs : List Record) (e : Entry) → Stands p lsn e → (base_of p e).lsn < lsn → RecordsApply lsn rs (image_of p e)
    → TakenAll p lsn rs e (with_records p lsn rs e)
taken_records p lsn [] e s lt fits = record { stands = s; image = refl }
taken_records p lsn (r ∷ rs) e s lt fits =
    let one = taken_one p lsn r e s lt (fits.0, tt) in
    let here : Entry = with_record p lsn r e in
    let later : (base_of p here).lsn < lsn = subst (λ (im : Image). im.lsn < lsn) (sym one.base) lt in
    let others = taken_records p lsn rs here one.stands later (subst (λ (im : Image). RecordsApply lsn rs im) (sym one.image) fits.1) in
    record {
      stands = others.stands;
      image = others.image ∙ ap (after_records lsn rs) one.image;
    }

-- ---- the records past the base image's LSN are all that wait

pub waiting-all : (p applied : ℕ) (e : Entry) → Stands p applied e → past (base_of p e).lsn e.pending ≡ e.pending
waiting-all p applied e s = past-all (base_of p e).lsn e.pending s.past_base

-- ---- an entry of which nothing is kept

pub empty-stands : (p : ℕ) → Stands p 0 empty
empty-stands p = record {
  replays = record { page = refl; rises = tt; apply = tt };
  past_base = tt;
  bound = omega arith;
  late = tt;
}

-- an entry that was folded
pub folded-stands : (p applied : ℕ) (old new : Entry) → Stands p applied old → base_of p new ≡ image_of p old → new.pending ≡ [] → Stands p applied new
folded-stands p applied old new s base none =
    let at : (base_of p new).lsn ≤ applied = subst (λ (im : Image). im.lsn ≤ applied) (sym base) (image-lsn_le p applied old s) in
    record {
      replays = record {
        page = ap (λ (im : Image). im.page) base ∙ image-page p old s.replays;
        rises = subst (λ (gs : List Group). Rises (base_of p new).lsn gs) (sym none) tt;
        apply = subst (λ (gs : List Group). GroupsApply gs (base_of p new)) (sym none) tt;
      };
      past_base = subst (λ (gs : List Group). ArePast (base_of p new).lsn gs) (sym none) tt;
      bound = at;
      late = subst (λ (gs : List Group). AreUpTo applied gs) (sym none) tt;
    }

pub folded-image : (p : ℕ) (old new : Entry) → base_of p new ≡ image_of p old → new.pending ≡ [] → image_of p new ≡ image_of p old
folded-image p old new base none = ap (λ (gs : List Group). after_groups gs (base_of p new)) none ∙ base

-- an answer that is no error is Ok, and what is said of Ok holds
pub on_ok : {T E : Type 0} (r : Result T E) (P : Type 0) → is_err r ≡ false → OnOk r P → P
on_ok (Ok x) P e h = h
on_ok (Err f) P e h = cc
