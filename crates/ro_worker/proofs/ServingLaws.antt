-- What a worker does to the work that is left of a SELECT.
use Rattle.std.proofs.Common.{◌≡◌, ℕ, Bool, true, false, List, Option, Some, None, IsSome, refl, sym, ◌∙◌, ap, subst}
use Rattle.std.specs.Prelude.{option_map}
use Rattle.page_image.specs.Image.{Image}
use Rattle.question_tree.specs.Questions.{Ask, tells, asks, stops, wanted, told, after}
use Rattle.range_reader.specs.declared.fetch.Fetch.{Fetch}
use Rattle.range_reader.specs.Finding.{Asked, page_of}
use Rattle.statement_reader.specs.declared.asking.Read.{Read}
use Rattle.statement_reader.specs.Kept.{Kept, asking_of}
use Rattle.statement_reader.specs.Question.{Reading}
use Rattle.statement_work.specs.Works as works
use Rattle.statement_work.specs.Works.{Wish, Fetches, Releases, Stamps, Input, Handed, Stamped, Made, AskedFor, image_in}
use Rattle.statement_work.specs.Latches.{is_child}
use Rattle.ro_worker.specs.declared.latching.ReaderWish.{ReaderWish}
use Rattle.ro_worker.specs.declared.latching.ReaderWish.TheVariants as wish
use Rattle.ro_worker.specs.Wishes.{reads_only, wish_of, first, wish_by, release, wish_at, wish_for, free_by, free_after}
use Rattle.ro_worker.specs.Serving.{ReadWork, fetched, freed, latched}
use Rattle.ro_worker.specs.States.{serving_with, TellsRead}

nothing : {A : Type 0} {a : A} → None ≡ Some a → ⊥
nothing e = cc

the_same : {A : Type 0} {a b : A} → Some a ≡ Some b → a ≡ b
the_same e = cc

pub begins : (k : Kept) → serving_with None None (asking_of k) ≡ latched None (asking_of k)
unfolding serving_with
begins k = refl

-- ---- what is wished for

wants_freed : (held : Option ℕ) (w : ReadWork) → wanted w ≡ None → wanted (freed held w) ≡ option_map wish_of (release held)
wants_freed None w e = e
wants_freed (Some p) w e = refl

wants_fetched : (b : Bool) (held : Option ℕ) (q : Fetch) (n : Image → ReadWork) → wanted (fetched b held q n) ≡ Some (wish_of (wish_by b held q))
wants_fetched true held q n = refl
wants_fetched false None q n = refl
wants_fetched false (Some p) q n = refl

wants_at : (held : Option ℕ) (m : Reading Read) → wanted (latched held m) ≡ option_map wish_of (wish_at held (wanted m))
unfolding latched
wants_at held (tells a) = wants_freed held _ refl
wants_at held (asks q k) = wants_fetched (is_child q) held q _
wants_at held stops = wants_freed held _ refl

wants_for : (free held : Option ℕ) (m : Reading Read) → wanted (serving_with free held m) ≡ option_map wish_of (wish_for free held (wanted m))
unfolding serving_with
wants_for None held m = wants_at held m
wants_for (Some p) held m = refl

pub wants : (free held : Option ℕ) (k : Kept) (o : Option Fetch) (r : Option ReaderWish) → o ≡ wanted (asking_of k) → r ≡ wish_for free held o
    → option_map wish_of r ≡ wanted (serving_with free held (asking_of k))
wants free held k o r e f =
    ap (λ (x : Option ReaderWish). option_map wish_of x) (f ∙ ap (wish_for free held) e) ∙ sym (wants_for free held (asking_of k))

-- ---- a page is given

-- it was asked for, and is held from then on
record Takes (free held : Option ℕ) (m : Reading Read) (im : Image) : Type 0 where
  asked : Asked m im
  next : (q : Fetch) → wanted m ≡ Some q → after (serving_with free held m) (Handed im) ≡ serving_with (free_after q held) (Some (page_of q)) (after m im)

freed_asks : (held : Option ℕ) (w : ReadWork) (im : Image) → (AskedFor w (Handed im) → ⊥) → AskedFor (freed held w) (Handed im) → ⊥
freed_asks None w im h a = h a
freed_asks (Some p) w im h a = a

takes_fetched : (b : Bool) (held : Option ℕ) (q : Fetch) (k : Image → Reading Read) (im : Image) → is_child q ≡ b
    → AskedFor (fetched b held q (λ x. latched (Some (page_of q)) (k x))) (Handed im)
    → Asked (asks q k) im × (after (fetched b held q (λ x. latched (Some (page_of q)) (k x))) (Handed im) ≡ serving_with (free_by b held) (Some (page_of q)) (k im))
unfolding serving_with
takes_fetched true held q k im e h = (h, refl)
takes_fetched false None q k im e h = (h, refl)
takes_fetched false (Some p) q k im e h = absurd h

asked_at : (held : Option ℕ) (m : Reading Read) (im : Image) → AskedFor (latched held m) (Handed im) → Takes None held m im
unfolding latched serving_with
asked_at held (tells a) im h = absurd (freed_asks held _ im (λ x. x) h)
asked_at held (asks q k) im h =
    let r = takes_fetched (is_child q) held q k im refl h in
    record { asked = r.0; next = λ p e. r.1 ∙ ap (λ (x : Fetch). serving_with (free_after x held) (Some (page_of x)) (k im)) (the_same e) }
asked_at held stops im h = absurd (freed_asks held _ im (λ x. x) h)

asked_of : (free held : Option ℕ) (m : Reading Read) (im : Image) → AskedFor (serving_with free held m) (Handed im) → Takes free held m im
unfolding serving_with
asked_of None held m im h = asked_at held m im h
asked_of (Some p) held m im h = absurd h

pub asked : (free held : Option ℕ) (k : Kept) (im : Image) → AskedFor (serving_with free held (asking_of k)) (Handed im) → Asked (asking_of k) im
asked free held k im h = (asked_of free held (asking_of k) im h).asked

pub takes : (free held : Option ℕ) (k new : Kept) (q : Fetch) (o : Option Fetch) (p : ℕ) (f : Option ℕ) (im : Image)
    → AskedFor (serving_with free held (asking_of k)) (Handed im) → o ≡ wanted (asking_of k) → o ≡ Some q → asking_of new ≡ after (asking_of k) im
    → p ≡ page_of q → f ≡ free_after q held
    → serving_with f (Some p) (asking_of new) ≡ after (serving_with free held (asking_of k)) (Handed im)
takes free held k new q o p f im h w some next page left =
    ap (λ (m : Reading Read). serving_with f (Some p) m) next
    ∙ (ap (λ (x : Option ℕ). serving_with x (Some p) (after (asking_of k) im)) left
    ∙ (ap (λ (n : ℕ). serving_with (free_after q held) (Some n) (after (asking_of k) im)) page
    ∙ sym ((asked_of free held (asking_of k) im h).next q (sym w ∙ some))))

no_page : (m : Reading Read) (im : Image) → Asked m im → wanted m ≡ None → ⊥
no_page (tells a) im h e = h
no_page (asks q k) im h e = nothing (sym e)
no_page stops im h e = h

pub not_none : (free held : Option ℕ) (k : Kept) (o : Option Fetch) (im : Image) → AskedFor (serving_with free held (asking_of k)) (Handed im)
    → o ≡ wanted (asking_of k) → o ≡ None → ⊥
not_none free held k o im h w none = no_page (asking_of k) im (asked free held k im h) (sym w ∙ none)

-- ---- no stamp is asked for

freed_stamps : (held : Option ℕ) (w : ReadWork) (n : ℕ) → (AskedFor w (Stamped n) → ⊥) → AskedFor (freed held w) (Stamped n) → ⊥
freed_stamps None w n h a = h a
freed_stamps (Some p) w n h a = a

fetched_stamps : (b : Bool) (held : Option ℕ) (q : Fetch) (k : Image → ReadWork) (n : ℕ) → AskedFor (fetched b held q k) (Stamped n) → ⊥
fetched_stamps true held q k n h = h
fetched_stamps false held q k n h = freed_stamps held _ n (λ x. x) h

latched_stamps : (held : Option ℕ) (m : Reading Read) (n : ℕ) → AskedFor (latched held m) (Stamped n) → ⊥
unfolding latched
latched_stamps held (tells a) n h = freed_stamps held _ n (λ x. x) h
latched_stamps held (asks q k) n h = fetched_stamps (is_child q) held q _ n h
latched_stamps held stops n h = freed_stamps held _ n (λ x. x) h

pub no_stamp : (free held : Option ℕ) (k : Kept) (n : ℕ) → AskedFor (serving_with free held (asking_of k)) (Stamped n) → ⊥
unfolding serving_with
no_stamp free held k n h = freed_stamps free _ n (latched_stamps held (asking_of k) n) h

-- ---- a release

frees_held_by : (b : Bool) (held : Option ℕ) (q : Fetch) (n : Image → ReadWork) → AskedFor (fetched b held q n) Made → b ≡ false
frees_held_by true held q n h = absurd h
frees_held_by false held q n h = refl

freed_fetched : (b : Bool) (held : Option ℕ) (q : Fetch) (n : Image → ReadWork) → AskedFor (fetched b held q n) Made → after (fetched b held q n) Made ≡ fetched b None q n
freed_fetched true held q n h = absurd h
freed_fetched false None q n h = absurd h
freed_fetched false (Some p) q n h = refl

freed_end : (held : Option ℕ) (w : ReadWork) → (AskedFor w Made → ⊥) → AskedFor (freed held w) Made → after (freed held w) Made ≡ w
freed_end None w h a = absurd (h a)
freed_end (Some p) w h a = refl

freed_held : (held : Option ℕ) (m : Reading Read) → AskedFor (latched held m) Made → after (latched held m) Made ≡ latched None m
unfolding latched
freed_held held (tells a) h = freed_end held _ (λ x. x) h
freed_held held (asks q k) h = freed_fetched (is_child q) held q _ h
freed_held held stops h = freed_end held _ (λ x. x) h

pub frees_first : (free held : Option ℕ) (k : Kept) (p : ℕ) → free ≡ Some p
    → serving_with None held (asking_of k) ≡ after (serving_with free held (asking_of k)) Made
unfolding serving_with
frees_first free held k p e = ap (λ (o : Option ℕ). after (serving_with o held (asking_of k)) Made) (sym e)

pub frees_held : (free held : Option ℕ) (k : Kept) → AskedFor (serving_with free held (asking_of k)) Made → free ≡ None
    → serving_with None None (asking_of k) ≡ after (serving_with free held (asking_of k)) Made
unfolding serving_with
frees_held free held k a e =
    let P : Option ℕ → Type 0 = λ o. AskedFor (serving_with o held (asking_of k)) Made in
    sym (freed_held held (asking_of k) (subst P e a)) ∙ ap (λ (o : Option ℕ). after (serving_with o held (asking_of k)) Made) (sym e)

-- ---- the end

freed_none : (held : Option ℕ) (w : ReadWork) → wanted (freed held w) ≡ None → freed held w ≡ w
freed_none None w e = refl
freed_none (Some p) w e = absurd (nothing (sym e))

fetched_none : {A : Type 0} (b : Bool) (held : Option ℕ) (q : Fetch) (n : Image → ReadWork) → wanted (fetched b held q n) ≡ None → A
fetched_none b held q n e = absurd (nothing (sym e ∙ wants_fetched b held q n))

done_at : (held : Option ℕ) (m : Reading Read) → wanted (latched held m) ≡ None → (r : Read) → told m ≡ Some r → latched held m ≡ tells (works.Found r)
unfolding latched
done_at held (tells a) e r t = freed_none held _ e ∙ ap (λ (x : Read). tells (works.Found x)) (the_same t)
done_at held (asks q k) e r t = absurd (nothing t)
done_at held stops e r t = absurd (nothing t)

done_of : (free held : Option ℕ) (m : Reading Read) → wanted (serving_with free held m) ≡ None → (r : Read) → told m ≡ Some r
    → serving_with free held m ≡ tells (works.Found r)
unfolding serving_with
done_of None held m e r t = done_at held m e r t
done_of (Some p) held m e r t = absurd (nothing (sym e))

pub tells_read : (free held : Option ℕ) (k : Kept) (o : Option Read) (r : Read) → wanted (serving_with free held (asking_of k)) ≡ None
    → o ≡ told (asking_of k) → o ≡ Some r → TellsRead (serving_with free held (asking_of k)) r
tells_read free held k o r e told some = done_of free held (asking_of k) e r (sym told ∙ some)
