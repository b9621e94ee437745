-- The fetch after what is told is the one of which the lemmas speak.
use Rattle.std.proofs.Common.{◌≡◌, ◌<◌, ◌≤◌, ◌+◌, true, false, None, sym, subst}
use Rattle.node_model.specs.Call.{Call}
use Rattle.node_model.specs.Learning.{answer_step}
use Rattle.fetch_steps.specs.Fetch.{Fetch, step_of, address_of, may_hold, HasImage}
use Rattle.fetch_steps.specs.Telling.{call_of, learned, learned_address, settled, image_after}
use Rattle.fetch_steps.specs.Work.{acts_left, whole_fetch}
use Rattle.fetch_steps.proofs.Steps.{learned_step, answered_step, told_address, unseen, refused}
use Rattle.fetch_steps.proofs.Written.{image_kept}
use Rattle.fetch_steps.proofs.Falls.{falls, waits, most, same}
use Rattle.fetch_steps.proofs.fetch.FetchStep.told.Goals as goal

pub returns-clause-access : goal.returns-clause-access
returns-clause-access c =
    λ r n v call e q a.
    let P : Fetch → Type 0 = λ g. step_of g v call ≡ learned r n c.args.told.now (step_of c.args.self.now v call) in
    subst P (sym c.tell.ensures) (learned_step r n c.args.self.now c.args.told.now v call e q a)

pub returns-clause-answer : goal.returns-clause-answer
returns-clause-answer c =
    λ r n reply v e h.
    let f = c.args.self.now in
    let P : Fetch → Type 0 = λ g. step_of g (image_after f c.args.told.now v) Call.Quiet ≡ settled (answer_step r n None (call_of reply) (step_of f v (call_of reply))) (may_hold f) in
    subst P (sym c.tell.ensures) (answered_step r n f c.args.told.now reply v e h)

pub returns-clause-address : goal.returns-clause-address
returns-clause-address c =
    λ v call q.
    let P : Fetch → Type 0 = λ g. address_of g ≡ learned_address c.args.told.now (step_of c.args.self.now v call) (address_of c.args.self.now) in
    subst P (sym c.tell.ensures) (told_address c.args.self.now c.args.told.now v call q)

pub returns-clause-image : goal.returns-clause-image
returns-clause-image c =
    λ v h.
    let P : Fetch → Type 0 = λ g. HasImage g (image_after c.args.self.now c.args.told.now v) in
    subst P (sym c.tell.ensures) (image_kept c.args.self.now c.args.told.now v h)

pub returns-clause-falls : goal.returns-clause-falls
returns-clause-falls c =
    λ v h.
    let P : Fetch → Type 0 = λ g. acts_left g < acts_left c.args.self.now in
    subst P (sym c.tell.ensures) (falls c.args.self.now c.args.told.now v h.0 h.1)

pub returns-clause-waits : goal.returns-clause-waits
returns-clause-waits c =
    λ h.
    let P : Fetch → Type 0 = λ g. acts_left g ≡ acts_left c.args.self.now in
    subst P (sym c.tell.ensures) (waits c.args.self.now c.args.told.now h)

pub returns-clause-most : goal.returns-clause-most
returns-clause-most c =
    let P : Fetch → Type 0 = λ g. acts_left g ≤ 2 + whole_fetch c.args.self.now.writer in
    subst P (sym c.tell.ensures) (most c.args.self.now c.args.told.now)

pub returns-clause-same : goal.returns-clause-same
returns-clause-same c =
    let P : Fetch → Type 0 = λ g. (g.page ≡ c.args.self.now.page) × (g.writer ≡ c.args.self.now.writer) in
    subst P (sym c.tell.ensures) (same c.args.self.now c.args.told.now)

pub returns-clause-unseen : goal.returns-clause-unseen
returns-clause-unseen c =
    λ v e h.
    let P : Fetch → Type 0 = λ g. may_hold g ≡ true in
    subst P (sym c.tell.ensures) (unseen c.args.self.now c.args.told.now v e h)

pub returns-clause-refused : goal.returns-clause-refused
returns-clause-refused c =
    λ v holders e h.
    let P : Fetch → Type 0 = λ g. may_hold g ≡ false in
    subst P (sym c.tell.ensures) (refused c.args.self.now c.args.told.now v holders e h)
