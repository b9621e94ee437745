-- What a reader does to the work that is left to it.
use Rattle.std.proofs.Common.{◌≡◌, ◌==◌, ◌<◌, ◌-◌, ℕ, zero, suc, Bool, true, false, List, [], ◌∷◌, ◌++◌, Option, Some, None, IsTrue, ◌↔◌, refl, sym, ◌∙◌, ap, subst, arith, append-nil}
use Rattle.rm_base.specs.declared.key_range.KeyRange.{KeyRange}
use Rattle.page_image.specs.Image.{Image}
use Rattle.page_view.specs.declared.leaf.LeafItem.{LeafItem}
use Rattle.bplus_tree.specs.declared.want.Want.{Want}
use Rattle.bplus_tree.specs.declared.want.Want.TheVariants as want
use Rattle.bplus_tree.specs.Walk.{Walking, start, IsToRead}
use Rattle.bplus_tree.specs.Walk as tree
use Rattle.commit_stamps.specs.Stamping.{stamp_page}
use Rattle.question_tree.specs.Questions.{Ask, tells, asks, stops, wanted, told, after, then_on, collect}
use Rattle.range_reader.specs.declared.fetch.Fetch.{Fetch}
use Rattle.range_reader.specs.declared.fetch.Fetch.TheVariants as fetch
use Rattle.range_reader.specs.declared.fetch.Snapshot.{Snapshot}
use Rattle.range_reader.specs.declared.fetch.TheConstants.{MOST_FETCHES, MOST_VERSIONS}
use Rattle.range_reader.specs.declared.reader.RangeReader.{RangeReader}
use Rattle.range_reader.specs.declared.versions.Looked.{Looked}
use Rattle.range_reader.specs.declared.versions.Looked.TheVariants.{Seen, Asking}
use Rattle.range_reader.specs.declared.versions.Stage.{Stage}
use Rattle.range_reader.specs.declared.versions.Stage.TheVariants as stage
use Rattle.range_reader.specs.declared.versions.Version.{Version}
use Rattle.range_reader.specs.Walked.{walked}
use Rattle.range_reader.specs.Finding.{Finding, Asked, Fits, look, look_at, walk, go_on, end_at, items_in, find, fetch_at, down_to, stamp_by, stamp_fetch, has_stamp, Suits, page_of}
use Rattle.range_reader.specs.Machine.{version_at, version_of, version_fetch, fetch_at_stage, looked_of, is_kept, Keeps, with_look, finding_of, silent, silent_by, settled_by, is_settled, is_end, done_by, tree_fetch}
use Rattle.range_reader.proofs.VersionLaws.{version_on}

-- the work by its parts
abbrev work : Snapshot → KeyRange → Walking → ℕ → Finding → List LeafItem → List LeafItem → Finding
work s range w n m seen todo = then_on m (λ found. collect (look_at s) (walk n s range w) (seen ++ found) todo)

is_work : (f : RangeReader) (m : Finding) → with_look f m ≡ work f.snapshot f.range f.walk f.left m f.seen.items f.todo.items
unfolding with_look
is_work f m = refl

looks : (f : RangeReader) (l : Looked) → f.look ≡ l → finding_of f ≡ with_look f (looked_of f.snapshot l)
unfolding finding_of
looks f l e = ap (λ (x : Looked). with_look f (looked_of f.snapshot x)) e

-- readers that differ in what is looked at
same_parts : (f g : RangeReader) (m : Finding) → g.snapshot ≡ f.snapshot → g.range ≡ f.range → g.walk ≡ f.walk → g.left ≡ f.left
    → g.seen.items ≡ f.seen.items → g.todo.items ≡ f.todo.items → with_look g m ≡ with_look f m
unfolding with_look
same_parts f g m s r w l q t = rw (s, r, w, l, q, t) refl

no_work : (s : Snapshot) (range : KeyRange) (w : Walking) (n : ℕ) (seen : List LeafItem) → work s range w n (tells []) seen [] ≡ walk n s range w (seen ++ [])
unfolding collect
no_work s range w n seen = refl

-- ---- beginnings

pub begins : (f : RangeReader) (root : ℕ) (range : KeyRange) → f.range ≡ range → f.walk ≡ start root range.low range.high → f.left ≡ MOST_FETCHES
    → f.look ≡ Seen None → f.todo.items ≡ [] → f.seen.items ≡ [] → finding_of f ≡ find f.snapshot root range
unfolding looked_of find
begins f root range r w l k t s =
    looks f (Seen None) k ∙ (is_work f (tells []) ∙ rw (t, s, l, w, r) (no_work f.snapshot range (start root range.low range.high) MOST_FETCHES []))

pub begins_settled : (f : RangeReader) → f.look ≡ Seen None → f.todo.items ≡ [] → is_settled f ≡ true
unfolding is_settled
begins_settled f k t = ap (λ (l : Looked). settled_by l f.todo.items) k ∙ ap (settled_by (Seen None)) t

-- ---- what is wanted

stamp_wants : {A : Type 0} (b : Bool) (k : LeafItem → Finding) (s : Snapshot) (item : LeafItem) (page : ℕ) (n : List LeafItem → Ask Fetch Image A)
    → page ≡ stamp_page item.trx → wanted (then_on (stamp_by b k s item) n) ≡ stamp_fetch b page
stamp_wants true k s item page n e = ap (λ (p : ℕ). Some (fetch.Stamps p)) (sym e)
stamp_wants false k s item page n e = refl

at_version : {A : Type 0} (s : Snapshot) (v : Version) (n : List LeafItem → Ask Fetch Image A) → wanted (then_on (version_of s v) n) ≡ version_fetch v
unfolding version_of
at_version {A} s v n = go v.stage
  where
    go : (t : Stage) → wanted (then_on (version_at t s v) n) ≡ fetch_at_stage t v.item.trx
    go stage.Stamp = stamp_wants (has_stamp v.item.trx) (look v.left s) s v.item (stamp_page v.item.trx) n refl
    go (stage.Older p) = refl
    go stage.Stopped = refl

pub version_wants : (f : RangeReader) (v : Version) → f.look ≡ Asking v → wanted (finding_of f) ≡ version_fetch v
unfolding looked_of
version_wants f v e = ap wanted (looks f (Asking v) e ∙ is_work f (version_of f.snapshot v)) ∙ at_version f.snapshot v _

settled_none : (l : Looked) (r : Option LeafItem) (todo : List LeafItem) → l ≡ Seen r → settled_by l todo ≡ true → (l ≡ Seen None) × (todo ≡ [])
settled_none l r todo e h = go r todo e (sym (ap (λ (x : Looked). settled_by x todo) e) ∙ h)
  where
    apart : false ≡ true → ⊥
    apart q = cc

    go : (r : Option LeafItem) (todo : List LeafItem) → l ≡ Seen r → settled_by (Seen r) todo ≡ true → (l ≡ Seen None) × (todo ≡ [])
    go None [] e h = (e, refl)
    go None (item ∷ rest) e h = absurd (apart h)
    go (Some item) todo e h = absurd (apart h)

settled_seen : (f : RangeReader) (r : Option LeafItem) → f.look ≡ Seen r → is_settled f ≡ true → (f.look ≡ Seen None) × (f.todo.items ≡ [])
unfolding is_settled
settled_seen f r e h = settled_none f.look r f.todo.items e h

-- a reader that looks at no item
at_tree : (f : RangeReader) → f.look ≡ Seen None → f.todo.items ≡ [] → finding_of f ≡ walk f.left f.snapshot f.range f.walk (f.seen.items ++ [])
unfolding looked_of
at_tree f k t =
    looks f (Seen None) k ∙ (is_work f (tells []) ∙ (ap (work f.snapshot f.range f.walk f.left (tells []) f.seen.items) t
    ∙ no_work f.snapshot f.range f.walk f.left f.seen.items))

end_wants : (v : Want) (seen : List LeafItem) → wanted (end_at v seen) ≡ None
end_wants (want.Need p) seen = refl
end_wants (want.Leaf p) seen = refl
end_wants want.Finished seen = refl

page_wants : (s : Snapshot) (range : KeyRange) (w : Walking) (n : ℕ) (seen : List LeafItem) → wanted (walk n s range w seen) ≡ tree_fetch n w.want
unfolding walk
page_wants s range w zero seen = end_wants w.want seen
page_wants s range w (suc n) seen = go (fetch_at w.want (suc n))
  where
    go : (q : Option Fetch) → wanted (go_on q (λ im. collect (look_at s) (walk n s range (walked w im)) seen (items_in range im)) seen) ≡ q
    go None = refl
    go (Some q) = refl

pub tree_wants : (f : RangeReader) (r : Option LeafItem) → f.look ≡ Seen r → is_settled f ≡ true → wanted (finding_of f) ≡ tree_fetch f.left f.walk.want
tree_wants f r e h =
    let n = settled_seen f r e h in
    ap wanted (at_tree f n.0 n.1) ∙ page_wants f.snapshot f.range f.walk f.left (f.seen.items ++ [])

pub begins_wants : (f : RangeReader) (root : ℕ) (low high : Option (List ℕ)) → f.look ≡ Seen None → f.todo.items ≡ [] → f.walk ≡ start root low high → f.left ≡ MOST_FETCHES
    → wanted (finding_of f) ≡ Some (fetch.Root root)
begins_wants f root low high k t w l =
    tree_wants f None k (begins_settled f k t)
    ∙ (ap (λ (v : Walking). tree_fetch f.left v.want) w ∙ ap (λ (n : ℕ). tree_fetch n (want.Need root)) l)

-- ---- a page that a version waits for

on_version : (f : RangeReader) (v : Version) (im : Image) → f.look ≡ Asking v → Asked (finding_of f) im
    → Asked (version_of f.snapshot v) im × (after (finding_of f) im ≡ with_look f (after (version_of f.snapshot v) im))
unfolding looked_of
on_version f v im e h =
    let here : Finding → Type 0 = λ m. Asked m im in
    let one = looks f (Asking v) e ∙ is_work f (version_of f.snapshot v) in
    let r = version_on f.snapshot v im (λ found. collect (look_at f.snapshot) (walk f.left f.snapshot f.range f.walk) (f.seen.items ++ found) f.todo.items) (subst here one h) in
    (r.0, ap (λ (m : Finding). after m im) one ∙ (r.1 ∙ sym (is_work f (after (version_of f.snapshot v) im))))

pub version_asked : (f g : RangeReader) (v : Version) (im : Image) → f.look ≡ Asking v → Asked (finding_of f) im → g.snapshot ≡ f.snapshot
    → Asked (version_of g.snapshot v) im
version_asked f g v im e h s =
    let here : Snapshot → Type 0 = λ t. Asked (version_of t v) im in
    subst here (sym s) (on_version f v im e h).0

pub version_answered : (f mid g : RangeReader) (u : Snapshot) (v : Version) (im : Image) → f.look ≡ Asking v → Asked (finding_of f) im → u ≡ f.snapshot
    → mid.snapshot ≡ f.snapshot → mid.range ≡ f.range → mid.walk ≡ f.walk → mid.left ≡ f.left → mid.seen.items ≡ f.seen.items → mid.todo.items ≡ f.todo.items
    → finding_of g ≡ with_look mid (after (version_of u v) im) → finding_of g ≡ after (finding_of f) im
version_answered f mid g u v im e h same s r w l q t is =
    is ∙ (same_parts f mid (after (version_of u v) im) s r w l q t
    ∙ (ap (λ (x : Snapshot). with_look f (after (version_of x v) im)) same ∙ sym (on_version f v im e h).1))

-- what is seen joins what was seen
kept_on : (s : Snapshot) (range : KeyRange) (w : Walking) (n : ℕ) (l now : Looked) (before seen todo : List LeafItem) → Keeps l now before seen
    → work s range w n (looked_of s now) seen todo ≡ work s range w n (looked_of s l) before todo
unfolding looked_of
kept_on s range w n (Seen r) now before seen todo h =
    ap (λ (x : Looked). work s range w n (looked_of s x) seen todo) h.0
    ∙ ap (λ (xs : List LeafItem). collect (look_at s) (walk n s range w) xs todo) (append-nil seen ∙ h.1)
kept_on s range w n (Asking v) now before seen todo h =
    ap (λ (x : Looked). work s range w n (looked_of s x) seen todo) h.0
    ∙ ap (λ (xs : List LeafItem). work s range w n (version_of s v) xs todo) h.1

of_work : (g : RangeReader) → finding_of g ≡ work g.snapshot g.range g.walk g.left (looked_of g.snapshot g.look) g.seen.items g.todo.items
of_work g = looks g g.look refl ∙ is_work g (looked_of g.snapshot g.look)

-- a reader with the fields of another, but for what is looked at and was seen
of_parts : (f g : RangeReader) (todo : List LeafItem) → g.snapshot ≡ f.snapshot → g.range ≡ f.range → g.walk ≡ f.walk → g.left ≡ f.left → g.todo.items ≡ todo
    → finding_of g ≡ work f.snapshot f.range f.walk f.left (looked_of f.snapshot g.look) g.seen.items todo
of_parts f g todo s r w l t = of_work g ∙ rw (s, r, w, l, t) refl

pub judges : (f g : RangeReader) (look : Looked) (m : Finding) → looked_of f.snapshot look ≡ m → Keeps look g.look f.seen.items g.seen.items
    → g.snapshot ≡ f.snapshot → g.range ≡ f.range → g.walk ≡ f.walk → g.left ≡ f.left → g.todo.items ≡ f.todo.items → finding_of g ≡ with_look f m
judges f g l m is keeps s r w n t =
    of_parts f g f.todo.items s r w n t
    ∙ (kept_on f.snapshot f.range f.walk f.left l g.look f.seen.items g.seen.items f.todo.items keeps
    ∙ (ap (λ (x : Finding). work f.snapshot f.range f.walk f.left x f.seen.items f.todo.items) is ∙ sym (is_work f m)))

-- ---- a page of the tree

pub nothing_left : (f : RangeReader) (r : Option LeafItem) → f.look ≡ Seen r → is_settled f ≡ true → f.todo.items ≡ []
nothing_left f r e h = (settled_seen f r e h).1

same_look : (f mid : RangeReader) (r : Option LeafItem) → f.look ≡ Seen r → is_settled f ≡ true → mid.look ≡ Seen None
    → mid.snapshot ≡ f.snapshot → mid.range ≡ f.range → mid.walk ≡ f.walk → mid.left ≡ f.left → mid.seen.items ≡ f.seen.items → mid.todo.items ≡ f.todo.items
    → finding_of mid ≡ finding_of f
same_look f mid r e h k s g w l q t =
    looks mid (Seen None) k ∙ (same_parts f mid (looked_of mid.snapshot (Seen None)) s g w l q t
    ∙ (ap (λ (u : Snapshot). with_look f (looked_of u (Seen None))) s ∙ sym (looks f (Seen None) (settled_seen f r e h).0)))

pub tree_asked : (f mid : RangeReader) (r : Option LeafItem) (im : Image) → f.look ≡ Seen r → is_settled f ≡ true → Asked (finding_of f) im → mid.look ≡ Seen None
    → mid.snapshot ≡ f.snapshot → mid.range ≡ f.range → mid.walk ≡ f.walk → mid.left ≡ f.left → mid.seen.items ≡ f.seen.items → mid.todo.items ≡ f.todo.items
    → Asked (finding_of mid) im
tree_asked f mid r im e h a k s g w l q t =
    let here : Finding → Type 0 = λ m. Asked m im in
    subst here (sym (same_look f mid r e h k s g w l q t)) a

pub tree_answered : (f mid new : RangeReader) (r : Option LeafItem) (im : Image) → f.look ≡ Seen r → is_settled f ≡ true → mid.look ≡ Seen None
    → mid.snapshot ≡ f.snapshot → mid.range ≡ f.range → mid.walk ≡ f.walk → mid.left ≡ f.left → mid.seen.items ≡ f.seen.items → mid.todo.items ≡ f.todo.items
    → finding_of new ≡ after (finding_of mid) im → finding_of new ≡ after (finding_of f) im
tree_answered f mid new r im e h k s g w l q t is =
    is ∙ ap (λ (m : Finding). after m im) (same_look f mid r e h k s g w l q t)

took : (s : Snapshot) (range : KeyRange) (w : Walking) (n : ℕ) (seen : List LeafItem) (im : Image) → Asked (walk n s range w seen) im
    → (0 < n) × (tree.wanted w.want ≡ Some im.page) × IsToRead im
    × (after (walk n s range w seen) im ≡ collect (look_at s) (walk (n - 1) s range (walked w im)) seen (items_in range im))
unfolding walk
took s range w zero seen im h = absurd (ended w.want h)
  where
    ended : (v : Want) → Asked (end_at v seen) im → ⊥
    ended (want.Need p) h = h
    ended (want.Leaf p) h = h
    ended want.Finished h = h
took s range w (suc n) seen im h = go w.want h
  where
    rest : Image → Finding
    rest im = collect (look_at s) (walk n s range (walked w im)) seen (items_in range im)

    less : rest im ≡ collect (look_at s) (walk (suc n - 1) s range (walked w im)) seen (items_in range im)
    less = ap (λ (m : ℕ). collect (look_at s) (walk m s range (walked w im)) seen (items_in range im)) (omega arith)

    down : (p : ℕ) (b : Bool) → Fits (down_to p b) im → (tree.wanted (want.Need p) ≡ Some im.page) × IsToRead im
    down p true f = (ap Some (sym f.0), f.1)
    down p false f = (ap Some (sym f.0), f.1)

    go : (v : Want) → Asked (go_on (fetch_at v (suc n)) rest seen) im
        → (0 < suc n) × (tree.wanted v ≡ Some im.page) × IsToRead im
        × (after (go_on (fetch_at v (suc n)) rest seen) im ≡ collect (look_at s) (walk (suc n - 1) s range (walked w im)) seen (items_in range im))
    go (want.Need p) h = let d = down p (suc n == MOST_FETCHES) h in (omega arith, d.0, d.1, less)
    go (want.Leaf p) h = (omega arith, ap Some (sym h.0), h.1, less)
    go want.Finished h = absurd h

took_of : (f : RangeReader) (im : Image) → f.look ≡ Seen None → f.todo.items ≡ [] → Asked (finding_of f) im
    → (0 < f.left) × (tree.wanted f.walk.want ≡ Some im.page) × IsToRead im
    × (after (finding_of f) im ≡ collect (look_at f.snapshot) (walk (f.left - 1) f.snapshot f.range (walked f.walk im)) (f.seen.items ++ []) (items_in f.range im))
took_of f im k t h =
    let here : Finding → Type 0 = λ m. Asked m im in
    let e = at_tree f k t in
    let r = took f.snapshot f.range f.walk f.left (f.seen.items ++ []) im (subst here e h) in
    (r.0, r.1, r.2, ap (λ (m : Finding). after m im) e ∙ r.3)

pub take_left : (f : RangeReader) (im : Image) → f.look ≡ Seen None → f.todo.items ≡ [] → Asked (finding_of f) im → 0 < f.left
take_left f im k t h = (took_of f im k t h).0

pub take_wanted : (f : RangeReader) (im : Image) → f.look ≡ Seen None → f.todo.items ≡ [] → Asked (finding_of f) im → tree.wanted f.walk.want ≡ Some im.page
take_wanted f im k t h = (took_of f im k t h).1

pub take_readable : (f : RangeReader) (im : Image) → f.look ≡ Seen None → f.todo.items ≡ [] → Asked (finding_of f) im → IsToRead im
take_readable f im k t h = (took_of f im k t h).2

pub seen_is_kept : (g : RangeReader) → g.look ≡ Seen None → is_kept g.look ≡ true
seen_is_kept g k = ap is_kept k

pub takes : (f g : RangeReader) (im : Image) → f.look ≡ Seen None → f.todo.items ≡ [] → Asked (finding_of f) im
    → g.snapshot ≡ f.snapshot → g.range ≡ f.range → g.walk ≡ walked f.walk im → g.left ≡ f.left - 1 → g.look ≡ f.look
    → g.seen.items ≡ f.seen.items → g.todo.items ≡ f.todo.items ++ items_in f.range im → finding_of g ≡ after (finding_of f) im
unfolding looked_of
takes f g im k t h s r w l o q d =
    let e : g.todo.items ≡ items_in f.range im = d ∙ ap (λ (xs : List LeafItem). xs ++ items_in f.range im) t in
    looks g (Seen None) (o ∙ k) ∙ (is_work g (tells []) ∙ rw (s, r, w, l, q, e) (sym (took_of f im k t h).3))

-- ---- items that need no page

kept_silent : (l : Looked) (todo : List LeafItem) → is_kept l ≡ true → silent_by l todo ≡ true → l ≡ Seen None
kept_silent (Seen None) todo k h = refl
kept_silent (Seen (Some item)) todo k h = absurd (apart k)
  where
    apart : false ≡ true → ⊥
    apart q = cc
kept_silent (Asking v) todo k h = absurd (apart h)
  where
    apart : false ≡ true → ⊥
    apart q = cc

pub not_silent : (f : RangeReader) → f.todo.items ≡ [] → silent f ≡ true → ⊥
not_silent f t h = go f.look (sym (ap (silent_by f.look) t) ∙ h)
  where
    apart : false ≡ true → ⊥
    apart q = cc

    go : (l : Looked) → silent_by l [] ≡ true → ⊥
    go (Seen r) h = apart h
    go (Asking v) h = apart h

next_item : (s : Snapshot) (range : KeyRange) (w : Walking) (n : ℕ) (seen : List LeafItem) (item : LeafItem) (rest : List LeafItem)
    → work s range w n (tells []) seen (item ∷ rest) ≡ work s range w n (look_at s item) seen rest
unfolding collect
next_item s range w n seen item rest =
    ap (λ (xs : List LeafItem). then_on (look_at s item) (λ found. collect (look_at s) (walk n s range w) (xs ++ found) rest)) (append-nil seen)

pub passes_on : (f g : RangeReader) (item : LeafItem) (l : Looked) → f.todo.items ≡ item ∷ g.todo.items → is_kept f.look ≡ true → silent f ≡ true
    → looked_of f.snapshot l ≡ look MOST_VERSIONS f.snapshot item → Keeps l g.look f.seen.items g.seen.items
    → g.snapshot ≡ f.snapshot → g.range ≡ f.range → g.walk ≡ f.walk → g.left ≡ f.left → finding_of g ≡ finding_of f
unfolding looked_of
passes_on f g item l t k h is keeps s r w n =
    of_parts f g g.todo.items s r w n refl
    ∙ (kept_on f.snapshot f.range f.walk f.left l g.look f.seen.items g.seen.items g.todo.items keeps
    ∙ (ap (λ (x : Finding). work f.snapshot f.range f.walk f.left x f.seen.items g.todo.items) is
    ∙ (sym (next_item f.snapshot f.range f.walk f.left f.seen.items item g.todo.items)
    ∙ (ap (work f.snapshot f.range f.walk f.left (tells []) f.seen.items) (sym t)
    ∙ sym (looks f (Seen None) (kept_silent f.look f.todo.items k h) ∙ is_work f (tells []))))))

pub settled_now : (f : RangeReader) → silent f ≡ false → is_kept f.look ≡ true → is_settled f ≡ true
unfolding is_settled
settled_now f h k = go f.look f.todo.items h k
  where
    apart : true ≡ false → ⊥
    apart q = cc

    go : (l : Looked) (todo : List LeafItem) → silent_by l todo ≡ false → is_kept l ≡ true → settled_by l todo ≡ true
    go (Seen None) [] h k = refl
    go (Seen None) (item ∷ rest) h k = absurd (apart h)
    go (Seen (Some item)) todo h k = absurd (apart (sym k))
    go (Asking v) todo h k = refl

-- ---- ends

finished : (v : Want) → is_end v ≡ true → v ≡ want.Finished
finished (want.Need p) e = absurd (apart e)
  where
    apart : false ≡ true → ⊥
    apart q = cc
finished (want.Leaf p) e = absurd (apart e)
  where
    apart : false ≡ true → ⊥
    apart q = cc
finished want.Finished e = refl

tells_end : (n : ℕ) (s : Snapshot) (range : KeyRange) (w : Walking) (seen : List LeafItem) → is_end w.want ≡ true → told (walk n s range w seen) ≡ Some seen
unfolding walk
tells_end zero s range w seen e = ap (λ (v : Want). told (end_at v seen)) (finished w.want e)
tells_end (suc n) s range w seen e =
    ap (λ (v : Want). told (go_on (fetch_at v (suc n)) (λ im. collect (look_at s) (walk n s range (walked w im)) seen (items_in range im)) seen)) (finished w.want e)

told_none : (q : Fetch) (k : Image → Finding) → told (asks q k) ≡ None
told_none q k = refl

none_end : (n : ℕ) (s : Snapshot) (range : KeyRange) (w : Walking) (seen : List LeafItem) → is_end w.want ≡ false → told (walk n s range w seen) ≡ None
unfolding walk
none_end zero s range w seen e = go w.want e
  where
    go : (v : Want) → is_end v ≡ false → told (end_at v seen) ≡ None
    go (want.Need p) e = refl
    go (want.Leaf p) e = refl
    go want.Finished e = absurd (apart e)
      where
        apart : true ≡ false → ⊥
        apart q = cc
none_end (suc n) s range w seen e = go w.want e
  where
    go : (v : Want) → is_end v ≡ false
        → told (go_on (fetch_at v (suc n)) (λ im. collect (look_at s) (walk n s range (walked w im)) seen (items_in range im)) seen) ≡ None
    go (want.Need p) e = refl
    go (want.Leaf p) e = refl
    go want.Finished e = absurd (apart e)
      where
        apart : true ≡ false → ⊥
        apart q = cc

stamp_none : {A : Type 0} (b : Bool) (k : LeafItem → Finding) (s : Snapshot) (item : LeafItem) (n : List LeafItem → Ask Fetch Image A)
    → told (then_on (stamp_by b k s item) n) ≡ None
stamp_none true k s item n = refl
stamp_none false k s item n = refl

version_none : {A : Type 0} (s : Snapshot) (v : Version) (n : List LeafItem → Ask Fetch Image A) → told (then_on (version_of s v) n) ≡ None
unfolding version_of
version_none {A} s v n = go v.stage
  where
    go : (t : Stage) → told (then_on (version_at t s v) n) ≡ None
    go stage.Stamp = stamp_none (has_stamp v.item.trx) (look v.left s) s v.item n
    go (stage.Older p) = refl
    go stage.Stopped = refl

pub tells_seen : (f : RangeReader) → is_settled f ≡ true → done_by f.look f.walk.want ≡ true → told (finding_of f) ≡ Some f.seen.items
tells_seen f h d = go f.look refl d
  where
    go : (l : Looked) → f.look ≡ l → done_by l f.walk.want ≡ true → told (finding_of f) ≡ Some f.seen.items
    go (Seen r) e d =
        let n = settled_seen f r e h in
        ap told (at_tree f n.0 n.1) ∙ (tells_end f.left f.snapshot f.range f.walk (f.seen.items ++ []) d ∙ ap Some (append-nil f.seen.items))
    go (Asking v) e d = absurd (apart d)
      where
        apart : false ≡ true → ⊥
        apart q = cc

pub tells_nothing : (f : RangeReader) → is_settled f ≡ true → done_by f.look f.walk.want ≡ false → told (finding_of f) ≡ None
unfolding looked_of
tells_nothing f h d = go f.look refl d
  where
    go : (l : Looked) → f.look ≡ l → done_by l f.walk.want ≡ false → told (finding_of f) ≡ None
    go (Seen r) e d =
        let n = settled_seen f r e h in
        ap told (at_tree f n.0 n.1) ∙ none_end f.left f.snapshot f.range f.walk (f.seen.items ++ []) d
    go (Asking v) e d =
        ap told (looks f (Asking v) e ∙ is_work f (version_of f.snapshot v)) ∙ version_none f.snapshot v _

-- ---- whether a page is the one that is wanted

pub asks_nothing : (m : Finding) (im : Image) → None ≡ wanted m → Asked m im → ⊥
asks_nothing (tells a) im e h = h
asks_nothing (asks q k) im e h = apart e
  where
    apart : None ≡ Some q → ⊥
    apart p = cc
asks_nothing stops im e h = h

asks_fitting : (m : Finding) (im : Image) (q : Fetch) → Some q ≡ wanted m → Asked m im → Fits q im
asks_fitting (tells a) im q e h = absurd h
asks_fitting (asks p k) im q e h = subst (λ (r : Fetch). Fits r im) (sym (same e)) h
  where
    same : Some q ≡ Some p → q ≡ p
    same r = cc
asks_fitting stops im q e h = absurd h

fitting_asked : (m : Finding) (im : Image) (q : Fetch) → Some q ≡ wanted m → Fits q im → Asked m im
fitting_asked (tells a) im q e h = absurd (apart e)
  where
    apart : Some q ≡ None → ⊥
    apart p = cc
fitting_asked (asks p k) im q e h = subst (λ (r : Fetch). Fits r im) (same e) h
  where
    same : Some q ≡ Some p → q ≡ p
    same r = cc
fitting_asked stops im q e h = absurd (apart e)
  where
    apart : Some q ≡ None → ⊥
    apart p = cc

pub asks_number : (m : Finding) (im : Image) (q : Fetch) → Some q ≡ wanted m → Asked m im → im.page ≡ page_of q
asks_number m im q e h = (asks_fitting m im q e h).0

pub asks_suiting : (m : Finding) (im : Image) (q : Fetch) (b : Bool) → Some q ≡ wanted m → im.page ≡ page_of q → (IsTrue b ↔ Suits q im)
    → (IsTrue b ↔ Asked m im)
asks_suiting m im q b e n h =
    ((λ t. fitting_asked m im q e (n, h.0 t)), (λ a. h.1 (asks_fitting m im q e a).1))
