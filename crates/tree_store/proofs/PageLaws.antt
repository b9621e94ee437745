-- A page that a store hands out, where it can be read.
use Rattle.std.proofs.Common.{◌≡◌, ℕ, Option, Some, None, IsSome, refl, sym, ap, subst, ◌∙◌, inl, inr}
use Rattle.std.specs.Prelude.{MatchOption}
use Rattle.page_image.specs.declared.kind.Kind.TheVariants.{Unmade, Meta, Leaf, Inner}
use Rattle.page_image.specs.Image.{Image, unmade}
use Rattle.bplus_tree.specs.Walk.{IsToRead}
use Rattle.page_image.specs.Meta.{IsMeta}

pub read_made : (im : Image) (p : ℕ) → IsToRead im → im ≡ unmade p → ⊥
read_made im p (inl leaf) e = let h : Leaf ≡ Unmade = sym leaf.kind ∙ ap (λ (o : Image). o.kind) e in cc
read_made im p (inr inner) e = let h : Inner ≡ Unmade = sym inner.kind ∙ ap (λ (o : Image). o.kind) e in cc

pub meta_made : (im : Image) (p : ℕ) → IsMeta im → im ≡ unmade p → ⊥
meta_made im p is e = let h : Meta ≡ Unmade = sym is.kind ∙ ap (λ (o : Image). o.kind) e in cc

pub there : {A : Type 0} (o : Option A) (P : Type 0) (Q : A → Type 0) → MatchOption o P Q → (P → ⊥) → IsSome o
there (Some x) P Q h no_none = refl
there None P Q h no_none = absurd (no_none h)

pub page_there : {A : Type 0} (o : Option A) (im : Image) (p : ℕ) (Q : A → Type 0) → MatchOption o (im ≡ unmade p) Q → IsToRead im → IsSome o
page_there o im p Q h read = there o (im ≡ unmade p) Q h (read_made im p read)

pub page_is : {A : Type 0} (o : Option A) (x : A) (P : Type 0) (Q : A → Type 0) → MatchOption o P Q → o ≡ Some x → Q x
page_is {A = A} o x P Q h e = let m : MatchOption (Some x) P Q = subst (λ (p : Option A). MatchOption p P Q) e h in m
