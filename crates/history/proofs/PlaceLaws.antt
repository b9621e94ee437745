-- Lists of changes, by place.
use Rattle.std.proofs.Common.{◌≡◌, ℕ, true, Option, Some, None, List, [], ◌∷◌, ◌++◌, if◌then◌else◌, arith, ◌⊎◌, inl, inr, refl, sym, ap, ◌∙◌}
use Rattle.history.specs.Places.{is_at, or_else, says, is_said, over}
use Rattle.sql_database.specs.declared.changes.Change.{Change}
use Rattle.version_store.specs.Versions.{Row}

-- ---- lists of changes

pub or_else_assoc : (x y z : Option (Option Row)) → or_else (or_else x y) z ≡ or_else x (or_else y z)
or_else_assoc None y z = refl
or_else_assoc (Some r) y z = refl

pub or_else_none : (x : Option (Option Row)) → or_else x None ≡ x
or_else_none None = refl
or_else_none (Some r) = refl

pub says_append : (cs ds : List Change) (a k : List ℕ) → says (cs ++ ds) a k ≡ or_else (says ds a k) (says cs a k)
says_append [] ds a k = sym (or_else_none (says ds a k))
says_append (c ∷ cs) ds a k = ap (λ x. or_else x (if is_at c a k then Some c.row else None)) (says_append cs ds a k)
    ∙ or_else_assoc (says ds a k) (says cs a k) (if is_at c a k then Some c.row else None)

pub over_or_else : (x y : Option (Option Row)) (r : Option Row) → over (or_else x y) r ≡ over x (over y r)
over_or_else None y r = refl
over_or_else (Some z) y r = refl

pub said_or_else : (x y : Option (Option Row)) → is_said (or_else x y) ≡ true
    → (is_said x ≡ true) ⊎ (is_said y ≡ true)
said_or_else None y h = inr h
said_or_else (Some r) y h = inl h

pub said_left : (x y : Option (Option Row)) → is_said x ≡ true → is_said (or_else x y) ≡ true
said_left None y h = absurd (grind arith)
said_left (Some r) y h = refl

pub said_right : (x y : Option (Option Row)) → is_said y ≡ true → is_said (or_else x y) ≡ true
said_right None y h = h
said_right (Some r) y h = refl

pub not_said : (x : Option (Option Row)) → (is_said x ≡ true → ⊥) → x ≡ None
not_said None h = refl
not_said (Some r) h = absurd (h refl)

pub append_none : (cs : List Change) → cs ++ [] ≡ cs
append_none [] = refl
append_none (c ∷ cs) = ap (λ ds. c ∷ ds) (append_none cs)
