-- A store's own reading and test give the machine's evaluation.
use Rattle.std.proofs.Common.{◌≡◌, ℕ, ◌≢◌, Bool, true, false, Option, Some, None, List, [], ◌∷◌, if◌then◌else◌, nat_eq, nat_le, ◌&&◌, ◌||◌, not, arith, inl, refl, sym, subst, ap, ◌∙◌, filter, option_and_then, unwrap_or}
use Rattle.sql_statements.specs.declared.statements.Stmt.{Stmt}
use Rattle.std.specs.Str.{bytes_eq}
use Rattle.std.specs.Option.{option_map_or}
use Rattle.sql_values.specs.declared.values.Value.TheVariants.{Null, Text}
use Rattle.row_codec.specs.Reading.{read_key}
use Rattle.sql_database.specs.declared.replies.SqlReply.TheVariants as reply
use Rattle.history.proofs.ConflictLaws.{no_conflict}
use Rattle.history.proofs.ContentLaws.{alike}
use Rattle.history.proofs.FittingLaws.{fits_word}
use Rattle.history.proofs.Views.{all_installed, hit_clash, hits_conflict, inside, now_sound, reads_view}
use Rattle.history.specs.Clusters.{now, own, reads, in_the_way, is_taken, evaluated_by, Cluster}
use Rattle.history.specs.Databases.{StandsFor}
use Rattle.history.specs.Events.{IsReady}
use Rattle.history.specs.Fitting.{FitsAll, AreKnown, ContentWantsFit}
use Rattle.history.specs.Invariant.{Refines}
use Rattle.history.specs.Places.{says, is_said}
use Rattle.history.specs.Sound.{Own}
use Rattle.sql_database.specs.Answers.{Answer, rows, refused, wants}
use Rattle.sql_database.specs.Applied.{key_sort, change_key}
use Rattle.sql_database.specs.Catalog.{is_of_catalog}
use Rattle.sql_database.specs.Database.{Database, SameContent}
use Rattle.sql_database.specs.Fitting.{IsProper}
use Rattle.sql_database.specs.declared.changes.Change.{Change}
use Rattle.table_machine.specs.Conflicts.{is_conflict, least, told, unless_duplicate, evaluated, Evaluated}
use Rattle.table_machine.specs.Language.{Language}
use Rattle.table_machine.specs.Machine.{view, pending_of, Transaction}
use Rattle.version_store.proofs.NameLaws.{chain_word}
use Rattle.version_store.proofs.Places.{bytes_self}
use Rattle.version_store.specs.Contents.{Content, catalog_name, at_root, chain_of}
use Rattle.version_store.specs.Held.{none_of}
use Rattle.version_store.specs.Rooted.{IsLone}
use Rattle.version_store.specs.Stores.{catalog}
use Rattle.version_store.specs.Versions.{Row, is_own, seen, seen_root, Version}

same_key : (d e : Database) (c : Change) → SameContent d e → change_key d c ≡ change_key e c
same_key d e c h =
    ap (λ o. if is_of_catalog c then Text c.key else unwrap_or
    (option_and_then (λ s. read_key (key_sort s) c.key) o) Null) (h.schemas c.table)

same_filter : (p q : Change → Bool) (f : Content) (cs : List Change) → AreKnown f cs
    → ((c : Change) → (bytes_eq c.table catalog_name ≡ false → f catalog_name c.table ≡ None → ⊥) → p c ≡ q c)
    → filter p cs ≡ filter q cs
same_filter p q f [] k h = refl
same_filter p q f (c ∷ cs) k h = ap (λ b. if b then c ∷ filter p cs else filter p cs) (h c k.0)
    ∙ ap (λ ds. if q c then c ∷ ds else ds) (same_filter p q f cs k.1 h)

same_told : (d e : Database) → SameContent d e → (o : Option Change) (x : Evaluated)
    → option_map_or (λ c. told (reply.Conflict (change_key d c))) o x ≡ option_map_or
    (λ c. told (reply.Conflict (change_key e c))) o x
same_told d e h None x = refl
same_told d e h (Some c) x = ap (λ v. told (reply.Conflict v)) (same_key d e c h)

pub same_judged : (test : Change → Bool) (d e : Database) → SameContent d e → (a : Answer)
    → evaluated_by test d a ≡ evaluated_by test e a
same_judged test d e h (rows rs) = refl
same_judged test d e h (refused r) = refl
same_judged test d e h (wants cs n dup) = same_told d e h (least (filter test cs)) (unless_duplicate cs n dup)

module _ {language : Language} (was : Content) (c : Cluster) (s : ℕ) (t : Transaction) (g : Refines language was c)
    (y : IsReady c) (tr : (c.machine.sessions s).transaction ≡ Some t) where
  -- the store's evaluation is the machine's
  pub evaluates : (db : Database) (st : Stmt) (a : Answer) → ContentWantsFit language.answers
      → StandsFor (reads c s t.snap) db → IsProper st → language.answers db st a
      → evaluated_by (is_taken (now c) t.snap (own c s)) db a ≡ evaluated c.machine s t a
  evaluates db st (rows rs) fit is pr an = refl
  evaluates db st (refused r) fit is pr an = refl
  evaluates db st (wants cs n dup) fit is pr an =
      let w = fit (reads c s t.snap) db st cs n dup is pr an in
      ap (λ ds. option_map_or (λ c. told (reply.Conflict (change_key db c))) (least ds) (unless_duplicate cs n dup))
      (same_filter (is_taken (now c) t.snap (own c s)) (is_conflict c.machine s t) (reads c s t.snap) cs w.2
      (λ h there. hits_conflict was c s t h g y tr there))
      ∙ same_told db (view c.machine t)
      (alike (reads c s t.snap) db (view c.machine t) is (reads_view was c s t g tr (y.no_todo s)))
      (least (filter (is_conflict c.machine s t) cs)) (unless_duplicate cs n dup)

  -- changes without conflict: new names have no versions, and other transactions none at the places
  pub free_names : (cs : List Change) → FitsAll (reads c s t.snap) cs → filter (is_conflict c.machine s t) cs ≡ []
      → (a : List ℕ) → is_said (says cs catalog_name a) ≡ true → (now c).rows catalog a ≡ []
  free_names cs fits none a p = by_row ((now c).rows catalog a) ((now_sound was c g).rooted.lone a) unseen unhit
    where
      unseen : seen ((now c).rows catalog a) (now c).stamp t.snap (own c s) ≡ None
      unseen = sym (ap
          (λ b. seen (if b then (now c).rows catalog a else at_root (now c).rows
          (seen_root ((now c).rows catalog catalog_name) (now c).stamp t.snap (own c s)) a) (now c).stamp t.snap
          (own c s)) (bytes_self catalog_name)) ∙ fits_word cs (reads c s t.snap) a fits p

      unhit : in_the_way ((now c).rows catalog a) (now c).stamp t.snap (own c s) ≡ true → ⊥
      unhit h = no_conflict c.machine s t cs catalog_name a none p
          (hit_clash was c s t g y tr catalog_name a
          (ap (λ vs. in_the_way vs (now c).stamp t.snap (own c s))
          (chain_word (now c) catalog_name a (bytes_self catalog_name)) ∙ h))

      by_row : (vs : List Version) → IsLone vs → seen vs (now c).stamp t.snap (own c s) ≡ None
          → (in_the_way vs (now c).stamp t.snap (own c s) ≡ true → ⊥) → vs ≡ []
      by_row [] l u h = refl
      by_row (v ∷ []) l u h = let e : v.row ≡ Some l.0 = l.1 in
          absurd (by_test (is_own (own c s) v.trx) (nat_eq ((now c).stamp v.trx) 0)
          (nat_le ((now c).stamp v.trx) t.snap) u h)
        where
          by_test : (a b d : Bool) → (if a || (not b && d) then v.row else None) ≡ None
              → ((not a && (b || not d)) ≡ true → ⊥) → ⊥
          by_test true b d u h = let e : v.row ≡ Some l.0 = l.1 in let z : Some l.0 ≡ None = sym e ∙ u in
              grind arith
          by_test false true d u h = h refl
          by_test false false true u h = let e : v.row ≡ Some l.0 = l.1 in let z : Some l.0 ≡ None = sym e ∙ u in
              grind arith
          by_test false false false u h = h refl
      by_row (v ∷ (w ∷ vs)) l u h = absurd l

  own_free : (n : ℕ) (o : Option (Option Row)) (vs : List Version) → Own n o vs → (is_said o ≡ true → ⊥)
      → none_of n vs ≡ true
  unfolding Own
  own_free n None vs h f = h
  own_free n (Some r) vs h f = absurd (f refl)

  pub free_places : (cs : List Change) → filter (is_conflict c.machine s t) cs ≡ [] → (u n : ℕ) (a k : List ℕ)
      → u ≢ s → (now c).slot u ≡ Some n → is_said (says cs a k) ≡ true → none_of n (chain_of (now c) a k) ≡ true
  free_places cs none u n a k ne sl p =
      own_free n (says (c.work u).installed a k) (chain_of (now c) a k)
      ((g.each u).holds n sl (y.no_undo u n sl) a k)
      (λ q. let z : is_said (says (pending_of (c.machine.sessions u)) a k) ≡ true = subst
      (λ ds. is_said (says ds a k) ≡ true)
      (sym (all_installed (now c) u (c.work u) (c.machine.sessions u) (g.each u) (y.no_todo u))) q in
      no_conflict c.machine s t cs a k none p (inl (u, ne, inside was c.machine u a k g.fair z, z)))
