-- For the proofs: what was sent, without the numbers.
use Rattle.std.proofs.Common.{◌≡◌, ◌≢◌, ◌-◌, ℕ, ◌<◌, zero, suc, Bor, sub-one, length, nat_lt, get_or, arith, Option, Some, None, List, [], ◌∷◌, ◌++◌, map, refl, sym, ◌∙◌, ap}
use Rattle.std.specs.List.{slice_get}
use Rattle.std.specs.Option.{IfSome, is_some, option_map}
use Rattle.std.proofs.lemmas.List.{map-append}
use Rattle.std.proofs.lemmas.Option.{slice_get-map, slice_get_read}
use Rattle.message_network.specs.declared.messages.Message.{Message}
use Rattle.message_network.specs.Post.{Post, message_at, draft_of, drafts_of, draft_at}

pub drafts_more : (old new : List Message) (m : Message) → new ≡ old ++ m ∷ [] → map draft_of new ≡ map draft_of old ++ m.draft ∷ []
drafts_more old new m e = ap (map draft_of) e ∙ map-append draft_of old (m ∷ [])

pub draft_here : (post : Post) (k : ℕ) (m : Message) → message_at post k ≡ Some m → draft_at (drafts_of post) k ≡ Some m.draft
draft_here post zero m e = absurd cc
draft_here post (suc i) m e = slice_get-map draft_of post.messages i ∙ ap (option_map draft_of) e

pub message_before : (post : Post) (k : ℕ) → k ≢ 0 → message_at post k ≡ slice_get post.messages (k - 1)
message_before post zero h = absurd (h refl)
message_before post (suc i) h = ap (slice_get post.messages) (sym (sub-one (suc i)))

pub draft_read : (post : Post) (k : ℕ) (xs : List Message) (i : ℕ) (r : Option (Bor Message)) → xs ≡ post.messages → i ≡ k - 1 → k ≢ 0
    → is_some r ≡ nat_lt i (length xs) → IfSome r (λ m. m.now ≡ get_or xs i m.now)
    → IfSome r (λ m. draft_at (drafts_of post) k ≡ Some m.now.draft)
draft_read post k xs i None list index some there read = tt
draft_read post k xs i (Some m) list index some there read =
    let within : i < length xs = grind arith in
    let at = slice_get_read xs (length xs) i m.now refl within read in
    let here : message_at post k ≡ Some m.now =
    message_before post k some
    ∙ (ap (λ (j : ℕ). slice_get post.messages j) (sym index) ∙ (ap (λ (ms : List Message). slice_get ms i) (sym list) ∙ at)) in
    draft_here post k m.now here
