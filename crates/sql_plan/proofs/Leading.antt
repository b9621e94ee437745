-- Leading conjuncts of a test, part by part, and the ends that they leave.
use Rattle.std.proofs.Common.{◌≡◌, ◌≢◌, ◌&&◌, Bool, true, false, ℕ, List, [], ◌∷◌, ◌++◌, Option, Some, None, refl, sym, ◌∙◌, ap, subst}
use Rattle.std.specs.Prelude.{is_some, filter_map}
use Rattle.std.specs.Ordering.{is_lt}
use Rattle.std.specs.declared.cmp.Ordering.{Ordering}
use Rattle.std.specs.declared.cmp.Ordering.TheVariants.{Less, Equal, Greater}
use Rattle.std.specs.Ordering.{ordering_reverse}
use Rattle.std.proofs.lemmas.Cmp.{nat_list_cmp_total}
use Rattle.sql_values.specs.Order.{text_cmp}
use Rattle.sql_meaning.specs.Ranges.{KeyPlaces, Bound, bound, leading, said, greater, lesser, greatest, least}
use Rattle.sql_meaning.specs.Terms.{Term}
use Rattle.sql_plan.specs.Ends.{raised, lowered, raised_by, lowered_by, all_say, one}

-- conjuncts that all say something lead those behind them
pub some_lead : (keys : KeyPlaces) (xs ys : List Term) → all_say keys xs ≡ true → leading keys (xs ++ ys) ≡ leading keys xs ++ leading keys ys
some_lead keys [] ys e = refl
some_lead keys (x ∷ xs) ys e = go (bound keys x) refl e (λ h. some_lead keys xs ys h)
  where
    apart : false ≡ true → ⊥
    apart q = cc

    go : (b : Option Bound) → bound keys x ≡ b → (is_some b && all_say keys xs) ≡ true
        → (all_say keys xs ≡ true → leading keys (xs ++ ys) ≡ leading keys xs ++ leading keys ys)
        → said (bound keys x) (leading keys (xs ++ ys)) ≡ said (bound keys x) (leading keys xs) ++ leading keys ys
    go None q e rest = absurd (apart e)
    go (Some b) q e rest = rw q (ap (λ (bs : List Bound). b ∷ bs) (rest e))

-- where one of them says nothing, those behind it do not count
pub none_lead : (keys : KeyPlaces) (xs ys : List Term) → all_say keys xs ≡ false → leading keys (xs ++ ys) ≡ leading keys xs
none_lead keys [] ys e = absurd (apart e)
  where
    apart : true ≡ false → ⊥
    apart q = cc
none_lead keys (x ∷ xs) ys e = go (bound keys x) refl e (λ h. none_lead keys xs ys h)
  where
    go : (b : Option Bound) → bound keys x ≡ b → (is_some b && all_say keys xs) ≡ false
        → (all_say keys xs ≡ false → leading keys (xs ++ ys) ≡ leading keys xs)
        → said (bound keys x) (leading keys (xs ++ ys)) ≡ said (bound keys x) (leading keys xs)
    go None q e rest = rw q refl
    go (Some b) q e rest = rw q (ap (λ (bs : List Bound). b ∷ bs) (rest e))

pub both_say : (keys : KeyPlaces) (xs ys : List Term) → all_say keys (xs ++ ys) ≡ (all_say keys xs && all_say keys ys)
both_say keys [] ys = refl
both_say keys (x ∷ xs) ys = ap (λ (b : Bool). is_some (bound keys x) && b) (both_say keys xs ys) ∙ regroup (is_some (bound keys x)) (all_say keys xs) (all_say keys ys)
  where
    regroup : (a b c : Bool) → (a && (b && c)) ≡ ((a && b) && c)
    regroup true b c = refl
    regroup false b c = refl

pub raised_both : (end : Bound → Option (List ℕ)) (low : Option (List ℕ)) (bs cs : List Bound) → raised_by end low (bs ++ cs) ≡ raised_by end (raised_by end low bs) cs
raised_both end low [] cs = refl
raised_both end low (b ∷ bs) cs = raised_both end (raised low (end b)) bs cs

pub lowered_both : (end : Bound → Option (List ℕ)) (high : Option (List ℕ)) (bs cs : List Bound) → lowered_by end high (bs ++ cs) ≡ lowered_by end (lowered_by end high bs) cs
lowered_both end high [] cs = refl
lowered_both end high (b ∷ bs) cs = lowered_both end (lowered high (end b)) bs cs

-- ---- what a test leaves whose sides are ANDed

pub stop_says : (keys : KeyPlaces) (xs ys : List Term) → all_say keys xs ≡ false → false ≡ all_say keys (xs ++ ys)
stop_says keys xs ys e = sym (both_say keys xs ys ∙ ap (λ (b : Bool). b && all_say keys ys) e)

pub go_says : (keys : KeyPlaces) (xs ys : List Term) (b : Bool) → all_say keys xs ≡ true → b ≡ all_say keys ys → b ≡ all_say keys (xs ++ ys)
go_says keys xs ys b e f = f ∙ sym (both_say keys xs ys ∙ ap (λ (b : Bool). b && all_say keys ys) e)

pub stop_low : (end : Bound → Option (List ℕ)) (keys : KeyPlaces) (xs ys : List Term) (low new : Option (List ℕ)) → all_say keys xs ≡ false
    → new ≡ raised_by end low (leading keys xs) → new ≡ raised_by end low (leading keys (xs ++ ys))
stop_low end keys xs ys low new e f = f ∙ ap (raised_by end low) (sym (none_lead keys xs ys e))

pub go_low : (end : Bound → Option (List ℕ)) (keys : KeyPlaces) (xs ys : List Term) (low mid new : Option (List ℕ)) → all_say keys xs ≡ true
    → mid ≡ raised_by end low (leading keys xs) → new ≡ raised_by end mid (leading keys ys) → new ≡ raised_by end low (leading keys (xs ++ ys))
go_low end keys xs ys low mid new e f g =
    g ∙ (ap (λ (l : Option (List ℕ)). raised_by end l (leading keys ys)) f
    ∙ (sym (raised_both end low (leading keys xs) (leading keys ys)) ∙ ap (raised_by end low) (sym (some_lead keys xs ys e))))

pub stop_high : (end : Bound → Option (List ℕ)) (keys : KeyPlaces) (xs ys : List Term) (high new : Option (List ℕ)) → all_say keys xs ≡ false
    → new ≡ lowered_by end high (leading keys xs) → new ≡ lowered_by end high (leading keys (xs ++ ys))
stop_high end keys xs ys high new e f = f ∙ ap (lowered_by end high) (sym (none_lead keys xs ys e))

pub go_high : (end : Bound → Option (List ℕ)) (keys : KeyPlaces) (xs ys : List Term) (high mid new : Option (List ℕ)) → all_say keys xs ≡ true
    → mid ≡ lowered_by end high (leading keys xs) → new ≡ lowered_by end mid (leading keys ys) → new ≡ lowered_by end high (leading keys (xs ++ ys))
go_high end keys xs ys high mid new e f g =
    g ∙ (ap (λ (l : Option (List ℕ)). lowered_by end l (leading keys ys)) f
    ∙ (sym (lowered_both end high (leading keys xs) (leading keys ys)) ∙ ap (lowered_by end high) (sym (some_lead keys xs ys e))))

-- ---- the greatest of many, one after the other

less_apart : (a b : List ℕ) (o : Ordering) → text_cmp a b ≡ o → is_lt o ≡ true → text_cmp a b ≡ Less
less_apart a b Less e l = e
less_apart a b Equal e l = absurd (apart l)
  where
    apart : false ≡ true → ⊥
    apart q = cc
less_apart a b Greater e l = absurd (apart l)
  where
    apart : false ≡ true → ⊥
    apart q = cc

is_less : (a b : List ℕ) → is_lt (text_cmp a b) ≡ true → text_cmp a b ≡ Less
is_less a b l = less_apart a b (text_cmp a b) refl l

-- what is at most something less than another
upto_less : (c b a : List ℕ) → is_lt (text_cmp c a) ≡ true → is_lt (text_cmp c b) ≡ false → is_lt (text_cmp b a) ≡ true
upto_less c b a p q = go (text_cmp c b) refl q
  where
    apart : true ≡ false → ⊥
    apart x = cc

    less : text_cmp c a ≡ Less
    less = is_less c a p

    go : (o : Ordering) → text_cmp c b ≡ o → is_lt o ≡ false → is_lt (text_cmp b a) ≡ true
    go Less e f = absurd (apart f)
    go Equal e f =
        let same : text_cmp b c ≡ Equal = nat_list_cmp_total.antisymm b c ∙ ap ordering_reverse e in
        let moved : text_cmp b a ≡ text_cmp c a = nat_list_cmp_total.congr b c a same in
        ap is_lt (moved ∙ less)
    go Greater e f =
        let under : text_cmp b c ≡ Less = nat_list_cmp_total.antisymm b c ∙ ap ordering_reverse e in
        ap is_lt (nat_list_cmp_total.trans b c a under less)

-- what is less than something that is at most another is less than the other
less_upto : (a b c : List ℕ) → is_lt (text_cmp a c) ≡ true → is_lt (text_cmp b c) ≡ false → is_lt (text_cmp a b) ≡ true
less_upto a b c p q = go (text_cmp b c) refl q
  where
    apart : true ≡ false → ⊥
    apart x = cc

    less : text_cmp a c ≡ Less
    less = is_less a c p

    go : (o : Ordering) → text_cmp b c ≡ o → is_lt o ≡ false → is_lt (text_cmp a b) ≡ true
    go Less e f = absurd (apart f)
    go Equal e f =
        let same : text_cmp c b ≡ Equal = nat_list_cmp_total.antisymm c b ∙ ap ordering_reverse e in
        let moved : text_cmp c a ≡ text_cmp b a = nat_list_cmp_total.congr c b a same in
        ap is_lt (nat_list_cmp_total.antisymm a b ∙ (ap ordering_reverse (sym moved) ∙ (sym (nat_list_cmp_total.antisymm a c) ∙ less)))
    go Greater e f =
        let under : text_cmp c b ≡ Less = nat_list_cmp_total.antisymm c b ∙ ap ordering_reverse e in
        ap is_lt (nat_list_cmp_total.trans a c b less under)

greater_joins : (a b c : List ℕ) → greater (greater a (Some b)) (Some c) ≡ greater a (Some (greater b (Some c)))
greater_joins a b c = go (is_lt (text_cmp a b)) (is_lt (text_cmp b c)) (is_lt (text_cmp a c)) refl refl refl
  where
    apart : true ≡ false → ⊥
    apart x = cc

    go : (x y z : Bool) → is_lt (text_cmp a b) ≡ x → is_lt (text_cmp b c) ≡ y → is_lt (text_cmp a c) ≡ z
        → greater (greater a (Some b)) (Some c) ≡ greater a (Some (greater b (Some c)))
    go true true z e f g =
        let h : is_lt (text_cmp a c) ≡ true = ap is_lt (nat_list_cmp_total.trans a b c (is_less a b e) (is_less b c f)) in rw e (rw f (rw h refl))
    go true false z e f g = rw e (rw f (rw e refl))
    go false true z e f g = rw e (rw f refl)
    go false false true e f g = absurd (apart (sym (less_upto a b c g f) ∙ e))
    go false false false e f g = rw e (rw f (rw g (rw e refl)))

lesser_joins : (a b c : List ℕ) → lesser (lesser a (Some b)) (Some c) ≡ lesser a (Some (lesser b (Some c)))
lesser_joins a b c = go (is_lt (text_cmp b a)) (is_lt (text_cmp c b)) (is_lt (text_cmp c a)) refl refl refl
  where
    apart : true ≡ false → ⊥
    apart x = cc

    go : (x y z : Bool) → is_lt (text_cmp b a) ≡ x → is_lt (text_cmp c b) ≡ y → is_lt (text_cmp c a) ≡ z
        → lesser (lesser a (Some b)) (Some c) ≡ lesser a (Some (lesser b (Some c)))
    go true true z e f g =
        let h : is_lt (text_cmp c a) ≡ true = ap is_lt (nat_list_cmp_total.trans c b a (is_less c b f) (is_less b a e)) in rw e (rw f (rw h refl))
    go true false z e f g = rw e (rw f (rw e refl))
    go false true z e f g = rw e (rw f refl)
    go false false true e f g = absurd (apart (sym (upto_less c b a g f) ∙ e))
    go false false false e f g = rw e (rw f (rw g (rw e refl)))

raised_joins : (a : Option (List ℕ)) (b c : Option (List ℕ)) → raised (raised a b) c ≡ raised a (raised b c)
raised_joins None b c = refl
raised_joins (Some a) None c = refl
raised_joins (Some a) (Some b) None = refl
raised_joins (Some a) (Some b) (Some c) = ap Some (greater_joins a b c)

lowered_joins : (a : Option (List ℕ)) (b c : Option (List ℕ)) → lowered (lowered a b) c ≡ lowered a (lowered b c)
lowered_joins None b c = refl
lowered_joins (Some a) None c = refl
lowered_joins (Some a) (Some b) None = refl
lowered_joins (Some a) (Some b) (Some c) = ap Some (lesser_joins a b c)

raised_from : (end : Bound → Option (List ℕ)) (low : Option (List ℕ)) (bs : List Bound) → raised_by end low bs ≡ raised low (greatest (filter_map end bs))
raised_from end None [] = refl
raised_from end (Some a) [] = refl
raised_from end low (b ∷ bs) = raised_from end (raised low (end b)) bs ∙ (raised_joins low (end b) (greatest (filter_map end bs)) ∙ ap (raised low) (taken (end b) refl))
  where
    taken : (o : Option (List ℕ)) → end b ≡ o → raised (end b) (greatest (filter_map end bs)) ≡ greatest (filter_map end (b ∷ bs))
    taken None e = rw e refl
    taken (Some k) e = rw e refl

lowered_from : (end : Bound → Option (List ℕ)) (high : Option (List ℕ)) (bs : List Bound) → lowered_by end high bs ≡ lowered high (least (filter_map end bs))
lowered_from end None [] = refl
lowered_from end (Some a) [] = refl
lowered_from end high (b ∷ bs) = lowered_from end (lowered high (end b)) bs ∙ (lowered_joins high (end b) (least (filter_map end bs)) ∙ ap (lowered high) (taken (end b) refl))
  where
    taken : (o : Option (List ℕ)) → end b ≡ o → lowered (end b) (least (filter_map end bs)) ≡ least (filter_map end (b ∷ bs))
    taken None e = rw e refl
    taken (Some k) e = rw e refl

-- from no end on, the greatest and the least of all
pub greatest_of : (end : Bound → Option (List ℕ)) (bs : List Bound) → raised_by end None bs ≡ greatest (filter_map end bs)
greatest_of end bs = raised_from end None bs

pub least_of : (end : Bound → Option (List ℕ)) (bs : List Bound) → lowered_by end None bs ≡ least (filter_map end bs)
least_of end bs = lowered_from end None bs
