-- For the proofs: what the fields of a plain pool keep.
use Rattle.std.proofs.Common.{◌≡◌, ◌≢◌, ℕ, Bool, true, false, refl, Option, None, Some, List, [], ◌++◌, length, sum_by, sym, ◌∙◌, ap, subst, append-nil}
use Rattle.std.specs.Option.{MatchOption}
use Rattle.page_image.specs.Image.{Image, unmade}
use Rattle.redo_record.specs.declared.redo.Group.{Group}
use Rattle.redo_record.specs.declared.plans.Plan.{Plan}
use Rattle.redo_record.specs.Effect.{after_groups}
use Rattle.page_store.specs.Stored.{Stored, groups_of, pages_of, all_kept}
use Rattle.page_pool.specs.State.{bytes_of}
use Rattle.page_pool.specs.Calls.{IsRunnable}
use Rattle.plain_pool.specs.declared.work.Work.{Work}
use Rattle.plain_pool.specs.Plain.{IsApart, IsPlain}

-- keeping changes no group
same-groups : (s : Stored) → groups_of s ≡ groups_of (all_kept s)
same-groups s = sym (append-nil (groups_of s))

abbrev ApartIn : Image → ℕ → Option Image → Type 0
ApartIn page p blank = MatchOption blank (page ≢ unmade p) (λ x. x ≡ page)

pub kept_plain : (s : Stored) (w : Work) (handed : Option ℕ) (blank : Option Image) (unkept : Bool) (last end : ℕ)
    → IsPlain s w handed blank unkept last end → IsPlain (all_kept s) w handed blank false last end
kept_plain s w handed blank unkept last end h = record {
  runs = λ plan e. subst (λ (x : List Group). IsRunnable x plan) (same-groups s) (h.runs plan e);
  blank_is = λ p e. apart-kept p (h.blank_is p e);
  unkept_is = (λ e. absurd (not-true e), λ e. refl);
  last_is = h.last_is ∙ ap (λ (x : List Group). length x) (same-groups s);
  end_is = h.end_is ∙ ap (λ (x : List Group). sum_by bytes_of x) (same-groups s);
}
  where
    not-true : false ≡ true → ⊥
    not-true e = cc

    pages-same : (p : ℕ) → pages_of s p ≡ pages_of (all_kept s) p
    pages-same p = ap (λ (x : List Group). after_groups x (unmade p)) (same-groups s)

    apart-kept : (p : ℕ) → IsApart s p blank → IsApart (all_kept s) p blank
    apart-kept p k = subst (λ (x : Image). ApartIn x p blank) (pages-same p) k
