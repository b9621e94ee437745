-- For the proofs: bytes are read as exactly the script that they are, and else refused at the first bad line.
use Rattle.std.proofs.Common.{◌≡◌, inl, inr, ℕ, ◌+◌, Bool, true, false, ◌&&◌, cond, Option, Some, None, Result, Ok, Err, List, [], ◌∷◌, refl, sym, ap, ◌∙◌, subst}
use Rattle.std.specs.Prelude.{◌↔◌, IfOk, MatchResult}
use Rattle.cluster_model.specs.declared.scripts.Line.{Line}
use Rattle.cluster_model.specs.declared.scripts.Script.{Script}
use Rattle.cluster_model.specs.declared.shape.Shape.{Shape}
use Rattle.script_text.specs.declared.whys.BadScript.{BadScript}
use Rattle.script_text.specs.declared.whys.Why.{Why}
use Rattle.script_text.specs.declared.whys.Why.TheVariants as why
use Rattle.script_text.specs.Built.{is_built_shape}
use Rattle.script_text.specs.Heads.{shape_of}
use Rattle.script_text.specs.Lines.{lines, is_utf8, is_passed_over}
use Rattle.script_text.specs.Words.{words}
use Rattle.script_text.specs.Reading.{shape_in, orders_read, head_read, empty, script_of}
use Rattle.script_text.specs.Scripts.{IsPassed, Stays, IsHead, IsScriptFrom, IsScript, IsBadHeadFrom, IsBadScript}
use Rattle.script_text.proofs.NumberLaws.{both}
use Rattle.script_text.proofs.Found.{found-at}
use Rattle.script_text.proofs.HeadLaws.{SaysShape, shape-sound, shape-complete}
use Rattle.script_text.proofs.ScriptLaws.{IsRight, orders-right, orders-complete, bad-complete}

none_some : (line : List ℕ) → shape_of (words line) ≡ None → (shape : Shape) → IsHead line shape → ⊥
none_some line e shape h = apart (sym e ∙ shape-complete shape (words line) h) where
  apart : None ≡ Some shape → ⊥
  apart h = cc

shape_in-built : (line : List ℕ) (shape : Shape) → IsHead line shape → is_built_shape shape ≡ true → shape_in line ≡ Ok shape
unfolding shape_in
shape_in-built line shape h b =
    ap (λ (o : Option Shape). elim o as (λ _. Result Shape Why) [ Some s ↦ cond (is_built_shape s) (Ok s) (Err why.Later) | None ↦ Err why.Shape ]) (shape-complete shape (words line) h)
    ∙ ap (λ (t : Bool). cond {A = Result Shape Why} t (Ok shape) (Err why.Later)) b

shape_in-later : (line : List ℕ) (shape : Shape) → IsHead line shape → is_built_shape shape ≡ false → shape_in line ≡ Err why.Later
unfolding shape_in
shape_in-later line shape h b =
    ap (λ (o : Option Shape). elim o as (λ _. Result Shape Why) [ Some s ↦ cond (is_built_shape s) (Ok s) (Err why.Later) | None ↦ Err why.Shape ]) (shape-complete shape (words line) h)
    ∙ ap (λ (t : Bool). cond {A = Result Shape Why} t (Ok shape) (Err why.Later)) b

shape_in-none : (line : List ℕ) → ((shape : Shape) → IsHead line shape → ⊥) → shape_in line ≡ Err why.Shape
unfolding shape_in
shape_in-none line apart = by_shape (shape_of (words line)) refl where
  by_shape : (o : Option Shape) → shape_of (words line) ≡ o → elim o as (λ _. Result Shape Why) [ Some s ↦ cond (is_built_shape s) (Ok s) (Err why.Later) | None ↦ Err why.Shape ] ≡ Err why.Shape
  by_shape (Some s) e = absurd (apart s (found-at (SaysShape (words line)) (shape_of (words line)) s (shape-sound (words line)) e))
  by_shape None e = refl

failed : (v w : BadScript) → w ≡ v → ◌≡◌ {A = Result Script BadScript} (Err v) (Err w)
failed v w e = ap (λ (x : BadScript). Err x) (sym e)

booted : (shape : Shape) (orders : List Line) (b : Option (List ℕ)) → b ≡ None
    → ◌≡◌ {A = Result Script BadScript} (Ok (record { shape = shape; boot = None; orders = orders })) (Ok (record { shape = shape; boot = b; orders = orders }))
booted shape orders b e = ap (λ (x : Option (List ℕ)). Ok (record { shape = shape; boot = x; orders = orders })) (sym e)

-- what the lines from number n on are read as is right
abbrev IsRightHead : ℕ → List (List ℕ) → Result Script BadScript → Type 0
IsRightHead n ls (Ok s) = IsScriptFrom n ls s
IsRightHead n ls (Err e) = IsBadHeadFrom n ls e

passed-head : (n : ℕ) (line : List ℕ) (others : List (List ℕ)) (r : Result Script BadScript) → IsPassed line → IsRightHead (n + 1) others r → IsRightHead n (line ∷ others) r
passed-head n line others (Ok s) h t = inl (h, t)
passed-head n line others (Err e) h t = inl (h, t)

built-head : (n : ℕ) (line : List ℕ) (others : List (List ℕ)) (shape : Shape) (r : Result Script BadScript)
    → Stays line → IsHead line shape → is_built_shape shape ≡ true → IsRight shape empty (n + 1) others r → IsRightHead n (line ∷ others) r
built-head n line others shape (Ok s) stays head built t =
    subst (λ (q : Script). IsScriptFrom n (line ∷ others) q) (sym t.1) (inr (stays, head, built, refl, t.2))
built-head n line others shape (Err e) stays head built t = inr (inr (inr (stays, (shape, head, built, t))))

shape-right : (n : ℕ) (line : List ℕ) (others : List (List ℕ)) → Stays line
    → IsRightHead n (line ∷ others) (elim (shape_in line) as (λ _. Result Script BadScript) [ Ok shape ↦ orders_read shape empty (n + 1) others | Err w ↦ Err (record { line = n; why = w }) ])
unfolding shape_in
shape-right n line others stays = by_shape (shape_of (words line)) refl where
  by_built : (s : Shape) (b : Bool) → IsHead line s → is_built_shape s ≡ b
      → IsRightHead n (line ∷ others) (elim (cond {A = Result Shape Why} b (Ok s) (Err why.Later)) as (λ _. Result Script BadScript) [ Ok shape ↦ orders_read shape empty (n + 1) others | Err w ↦ Err (record { line = n; why = w }) ])
  by_built s true h b = built-head n line others s (orders_read s empty (n + 1) others) stays h b (orders-right s empty (n + 1) others)
  by_built s false h b = inr (inr (inl (stays, refl, (s, h, b))))

  by_shape : (o : Option Shape) → shape_of (words line) ≡ o
      → IsRightHead n (line ∷ others) (elim (elim o as (λ _. Result Shape Why) [ Some s ↦ cond (is_built_shape s) (Ok s) (Err why.Later) | None ↦ Err why.Shape ]) as (λ _. Result Script BadScript) [ Ok shape ↦ orders_read shape empty (n + 1) others | Err w ↦ Err (record { line = n; why = w }) ])
  by_shape (Some s) e = by_built s (is_built_shape s) (found-at (SaysShape (words line)) (shape_of (words line)) s (shape-sound (words line)) e) refl
  by_shape None e = inr (inl (stays, none_some line e, refl))

head-right : (n : ℕ) (ls : List (List ℕ)) → IsRightHead n ls (head_read n ls)
head-right n [] = refl
head-right n (line ∷ others) = by_test (is_utf8 line && is_passed_over line) refl (head-right (n + 1) others) where
  by_test : (b : Bool) → (is_utf8 line && is_passed_over line) ≡ b → IsRightHead (n + 1) others (head_read (n + 1) others)
      → IsRightHead n (line ∷ others) (cond b (head_read (n + 1) others) (elim (shape_in line) as (λ _. Result Script BadScript) [ Ok shape ↦ orders_read shape empty (n + 1) others | Err w ↦ Err (record { line = n; why = w }) ]))
  by_test true e t = passed-head n line others (head_read (n + 1) others) (both (is_utf8 line) (is_passed_over line) e) t
  by_test false e t = shape-right n line others e

passes : (n : ℕ) (line : List ℕ) (others : List (List ℕ)) → IsPassed line → head_read n (line ∷ others) ≡ head_read (n + 1) others
passes n line others h =
    ap (λ (b : Bool). cond b (head_read (n + 1) others) (elim (shape_in line) as (λ _. Result Script BadScript) [ Ok shape ↦ orders_read shape empty (n + 1) others | Err w ↦ Err (record { line = n; why = w }) ]))
    (ap (λ (u : Bool). u && is_passed_over line) h.0 ∙ h.1)

stays-at : (n : ℕ) (line : List ℕ) (others : List (List ℕ)) (r : Result Shape Why) → Stays line → shape_in line ≡ r
    → head_read n (line ∷ others) ≡ elim r as (λ _. Result Script BadScript) [ Ok shape ↦ orders_read shape empty (n + 1) others | Err w ↦ Err (record { line = n; why = w }) ]
stays-at n line others r h e =
    ap (λ (b : Bool). cond b (head_read (n + 1) others) (elim (shape_in line) as (λ _. Result Script BadScript) [ Ok shape ↦ orders_read shape empty (n + 1) others | Err w ↦ Err (record { line = n; why = w }) ])) h
    ∙ ap (λ (q : Result Shape Why). elim q as (λ _. Result Script BadScript) [ Ok shape ↦ orders_read shape empty (n + 1) others | Err w ↦ Err (record { line = n; why = w }) ]) e

script-complete : (n : ℕ) (ls : List (List ℕ)) (s : Script) → IsScriptFrom n ls s → head_read n ls ≡ Ok s
script-complete n [] s h = absurd h
script-complete n (line ∷ others) s (inl h) = passes n line others h.0 ∙ script-complete (n + 1) others s h.1
script-complete n (line ∷ others) s (inr h) =
    stays-at n line others (Ok s.shape) h.0 (shape_in-built line s.shape h.1 h.2)
    ∙ orders-complete s.shape empty (n + 1) others s.orders h.4
    ∙ booted s.shape s.orders s.boot h.3

fault-complete : (n : ℕ) (ls : List (List ℕ)) (e : BadScript) → IsBadHeadFrom n ls e → head_read n ls ≡ Err e
fault-complete n [] e h = failed (record { line = n; why = why.Shape }) e h
fault-complete n (line ∷ others) e (inl h) = passes n line others h.0 ∙ fault-complete (n + 1) others e h.1
fault-complete n (line ∷ others) e (inr (inl h)) = stays-at n line others (Err why.Shape) h.0 (shape_in-none line h.1) ∙ failed (record { line = n; why = why.Shape }) e h.2
fault-complete n (line ∷ others) e (inr (inr (inl h))) = stays-at n line others (Err why.Later) h.0 (shape_in-later line h.2.0 h.2.1 h.2.2) ∙ failed (record { line = n; why = why.Later }) e h.1
fault-complete n (line ∷ others) e (inr (inr (inr h))) =
    stays-at n line others (Ok h.1.0) h.0 (shape_in-built line h.1.0 h.1.1 h.1.2) ∙ bad-complete h.1.0 empty (n + 1) others e h.1.3

pub script_exactly : (bytes : List ℕ) (s : Script) → (script_of bytes ≡ Ok s) ↔ IsScript bytes s
unfolding script_of
script_exactly bytes s = (λ e. subst (IsRightHead 1 (lines bytes)) e (head-right 1 (lines bytes)), script-complete 1 (lines bytes) s)

pub refused_exactly : (bytes : List ℕ) (e : BadScript) → (script_of bytes ≡ Err e) ↔ IsBadScript bytes e
unfolding script_of
refused_exactly bytes e = (λ h. subst (IsRightHead 1 (lines bytes)) h (head-right 1 (lines bytes)), fault-complete 1 (lines bytes) e)

-- what is read is right
pub read_is : {W : Type 0} (bytes : List ℕ) (result : Result (Result Script BadScript) W) → IfOk result (λ r. r ≡ script_of bytes)
    → IfOk result (λ r. MatchResult r (λ s. IsScript bytes s) (λ e. IsBadScript bytes e))
read_is bytes (Ok (Ok s)) h = (script_exactly bytes s).0 (sym h)
read_is bytes (Ok (Err e)) h = (refused_exactly bytes e).0 (sym h)
read_is bytes (Err w) h = tt
