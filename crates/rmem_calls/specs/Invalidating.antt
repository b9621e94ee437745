-- Stated: what `invalidate` by node n does to the entries of pages, and what it answers.
use Rattle.std.specs.Prelude.{◌≡◌, ◌<◌, ℕ, Bool, false, List, [], ◌∷◌, length, Option, Some, None, nat_eq}
use Rattle.std.specs.List.{sum_by, list_any}
use Rattle.home_model.specs.Numbered.{put}
use Rattle.home_model.specs.Entry.{Entry as HomeEntry, invalidated}
use Rattle.page_latches.specs.Set.{has}
use Rattle.home_tables.specs.Home.{HomeState, kept}
use Rattle.home_tables.specs.declared.entry.Entry.{Entry}
use Rattle.message_network.specs.declared.calls.Reply.{Reply}
use Rattle.message_network.specs.declared.calls.Reply.TheVariants.{Registered, PoolFull, Unregistered, Started, Done, Appended, Got, Fenced}

-- the entries after each of the pages was invalidated; beside each page stand the nodes whose local bit of it is not set
abbrev pub invalidated_all : (ℕ → HomeEntry) → ℕ → List ℕ → List (List ℕ) → ℕ → HomeEntry
invalidated_all E n [] clear = E
invalidated_all E n (p ∷ pages) [] = E
invalidated_all E n (p ∷ pages) (nodes ∷ clear) = invalidated_all (put E p (invalidated (E p) (has nodes) n)) n pages clear

-- page q is among the pages
abbrev pub is_among : ℕ → List ℕ → Bool
is_among q pages = list_any (λ p. nat_eq q p) pages

-- no page stands twice
abbrev pub AreApart : List ℕ → Type 0
AreApart [] = Unit {0}
AreApart (p ∷ pages) = (is_among p pages ≡ false) × AreApart pages

-- how many nodes are due at a page
abbrev pub due_count : Option Entry → ℕ
due_count None = 0
due_count (Some e) = length e.due

-- the number of pairs of a page and a node that is due there
abbrev pub due_pairs : HomeState → List ℕ → ℕ
due_pairs H pages = sum_by (λ p. due_count (kept H p)) pages

-- Done where no pair is due, and else Started with their number
abbrev pub InvalidateAnswers : ℕ → Reply → Type 0
InvalidateAnswers due Done = due ≡ 0
InvalidateAnswers due (Started count) = (0 < due) × (count ≡ due)
InvalidateAnswers due (Registered a bit floor) = ⊥
InvalidateAnswers due (PoolFull slots) = ⊥
InvalidateAnswers due Unregistered = ⊥
InvalidateAnswers due (Appended answer) = ⊥
InvalidateAnswers due (Got answer) = ⊥
InvalidateAnswers due (Fenced epoch) = ⊥
