-- One row of a table that tells of a machine moves.
use Rattle.std.proofs.Common.{◌≡◌, ◌≢◌, ◌⊎◌, inl, inr, ℕ, zero, suc, Bool, true, false, nat_eq, List, [], ◌∷◌, length, slice_get, slice_set, Option, Some, None, unwrap_or, ap, subst, sym, refl, arith, ◌∙◌}
use Rattle.std.specs.Option.{option_map_or}
use Rattle.table_machine.specs.Language.{Language}
use Rattle.table_machine.specs.Machine.{Session}
use Rattle.table_machine.specs.Moves.{put}
use Rattle.session_state.specs.declared.places.SessionRow.{SessionRow}
use Rattle.session_state.specs.Rows.{updated}
use Rattle.session_state.specs.Telling.{RowTells}

pub some-injective : {A : Type 0} (a b : A) → Some a ≡ Some b → a ≡ b
some-injective a b e = ap (λ o. unwrap_or o a) e

pub set_get : {A : Type 0} (xs : List A) (n : ℕ) (x y : A) → slice_get xs n ≡ Some y → slice_get (slice_set xs n x) n ≡ Some x
set_get [] n x y e = absurd cc
set_get (z ∷ zs) zero x y e = refl
set_get (z ∷ zs) (suc n) x y e = set_get zs n x y e

pub set_beside : {A : Type 0} (xs : List A) (n m : ℕ) (x : A) → m ≢ n → slice_get (slice_set xs n x) m ≡ slice_get xs m
set_beside [] n m x d = refl
set_beside (z ∷ zs) zero zero x d = absurd (d refl)
set_beside (z ∷ zs) zero (suc m) x d = refl
set_beside (z ∷ zs) (suc n) zero x d = refl
set_beside (z ∷ zs) (suc n) (suc m) x d = set_beside zs n m x (λ e. d (ap suc e))

pub set_length : {A : Type 0} (xs : List A) (n : ℕ) (x : A) → length (slice_set xs n x) ≡ length xs
set_length [] n x = refl
set_length (z ∷ zs) zero x = refl
set_length (z ∷ zs) (suc n) x = ap suc (set_length zs n x)

-- ---- a row that is changed

changed_by : List SessionRow → ℕ → (SessionRow → SessionRow) → Option SessionRow → List SessionRow
changed_by rows s f o = option_map_or (λ row. slice_set rows s (f row)) o rows

long : (rows : List SessionRow) (s : ℕ) (f : SessionRow → SessionRow) (o : Option SessionRow) → length (option_map_or (λ row. slice_set rows s (f row)) o rows) ≡ length rows
long rows s f None = refl
long rows s f (Some row) = set_length rows s (f row)

pub updated_length : (rows : List SessionRow) (s : ℕ) (f : SessionRow → SessionRow) → length (updated rows s f) ≡ length rows
updated_length rows s f = long rows s f (slice_get rows s)

pub updated_at : (rows : List SessionRow) (s : ℕ) (f : SessionRow → SessionRow) (row : SessionRow) → slice_get rows s ≡ Some row → slice_get (updated rows s f) s ≡ Some (f row)
updated_at rows s f row e = ap (λ o. slice_get (option_map_or (λ r. slice_set rows s (f r)) o rows) s) e ∙ set_get rows s (f row) row e

beside : (rows : List SessionRow) (s t : ℕ) (f : SessionRow → SessionRow) (o : Option SessionRow) → t ≢ s → slice_get (option_map_or (λ r. slice_set rows s (f r)) o rows) t ≡ slice_get rows t
beside rows s t f None d = refl
beside rows s t f (Some row) d = set_beside rows s t (f row) d

pub updated_beside : (rows : List SessionRow) (s t : ℕ) (f : SessionRow → SessionRow) → t ≢ s → slice_get (updated rows s f) t ≡ slice_get rows t
updated_beside rows s t f d = beside rows s t f (slice_get rows s) d

-- each row tells of its session
abbrev pub RowsTell : Language → (ℕ → Session) → List SessionRow → Type 0
RowsTell language sessions rows = (s : ℕ) (row : SessionRow) → slice_get rows s ≡ Some row → RowTells language row (sessions s)

-- what a row is after the change, and that there was one
record Was (rows : List SessionRow) (s : ℕ) (f : SessionRow → SessionRow) (new : SessionRow) : Type 0 where
  row : SessionRow
  there : slice_get rows s ≡ Some row
  is : new ≡ f row

was : (rows : List SessionRow) (s : ℕ) (f : SessionRow → SessionRow) (new : SessionRow) (o : Option SessionRow) → slice_get rows s ≡ o → slice_get (updated rows s f) s ≡ Some new → Was rows s f new
was rows s f new None e at = absurd (let none : slice_get (updated rows s f) s ≡ None = ap (λ o. slice_get (option_map_or (λ r. slice_set rows s (f r)) o rows) s) e ∙ e in cc)
was rows s f new (Some row) e at = record { row = row; there = e; is = some-injective new (f row) (sym at ∙ updated_at rows s f row e) }

pub put_here : {A : Type 0} (f : ℕ → A) (n : ℕ) (v : A) → put f n v n ≡ v
put_here f n v = let e : nat_eq n n ≡ true = grind arith in rw e refl

pub put_beside : {A : Type 0} (f : ℕ → A) (n k : ℕ) (v : A) → k ≢ n → put f n v k ≡ f k
put_beside f n k v d = let e : nat_eq k n ≡ false = grind arith in rw e refl

pub either : (t s : ℕ) → (t ≡ s) ⊎ (t ≢ s)
either t s = by_test (nat_eq t s) refl
  where
    by_test : (b : Bool) → nat_eq t s ≡ b → (t ≡ s) ⊎ (t ≢ s)
    by_test true e = inl (let same : t ≡ s = grind arith in same)
    by_test false e = inr (let other : t ≢ s = grind arith in other)

pub one_moves : (language : Language) (sessions : ℕ → Session) (rows : List SessionRow) (s : ℕ) (f : SessionRow → SessionRow) (x : Session) → RowsTell language sessions rows
    → ((row : SessionRow) → slice_get rows s ≡ Some row → RowTells language row (sessions s) → RowTells language (f row) x) → RowsTell language (put sessions s x) (updated rows s f)
one_moves language sessions rows s f x tells moves t new at = by_place (either t s)
  where
    here : t ≡ s → RowTells language new (put sessions s x t)
    here e =
        let w = was rows s f new (slice_get rows s) refl (subst (λ k. slice_get (updated rows s f) k ≡ Some new) e at) in
        let told : RowTells language (f w.row) x = moves w.row w.there (tells s w.row w.there) in
        subst (λ k. RowTells language new (put sessions s x k)) (sym e) (subst (λ y. RowTells language new y) (sym (put_here sessions s x)) (subst (λ r. RowTells language r x) (sym w.is) told))

    there : t ≢ s → RowTells language new (put sessions s x t)
    there d = subst (λ y. RowTells language new y) (sym (put_beside sessions s t x d)) (tells t new (sym (updated_beside rows s t f d) ∙ at))

    by_place : (t ≡ s) ⊎ (t ≢ s) → RowTells language new (put sessions s x t)
    by_place (inl e) = here e
    by_place (inr d) = there d
