-- A plan that is told of its act, as a whole.
use Rattle.std.proofs.Common.{◌≡◌, ℕ, suc, Bool, true, false, cond, nat_eq, Option, Some, None, List, [], ◌∷◌, refl, sym, subst, arith}
use Rattle.std.specs.List.{find}
use Rattle.std.specs.Option.{option_map_or}
use Rattle.node_model.specs.Call.{Call.Quiet}
use Rattle.node_model.specs.Learning.{answer_step}
use Rattle.fetch_steps.specs.Telling.{call_of, settled}
use Rattle.fetch_steps.specs.declared.acts.Told.{Told}
use Rattle.mini_transactions.specs.declared.page_work.PageWork.{PageWork}
use Rattle.mini_transactions.specs.Progress.{Progress, work_of, step_of, address_of, may_hold}
use Rattle.mini_transactions.specs.Moves.{goes_on}
use Rattle.mini_transactions.specs.Told.{Tells, image_after}
use Rattle.mini_transactions.specs.Together.{Writers, IsProgress, Turns}
use Rattle.mini_transactions.proofs.InTurn.{Heard, others, heard}
use Rattle.mini_transactions.proofs.Clauses.{access, answer, fetch_access, fetch_answer}
use Rattle.mini_transactions.proofs.Joint.{installed_told}
use Rattle.mini_transactions.proofs.PageKept.{address, latch, address_of_fetch}
use Rattle.mini_transactions.proofs.Shorter.{falls}

-- each page that is looked up is fetched as the RW does
found_writer : (p : ℕ) (works : List PageWork) → Writers works → option_map_or (λ w. w.fetch.writer) (find (λ w. nat_eq w.fetch.page p) works) true ≡ true
found_writer p [] all = refl
found_writer p (x ∷ xs) all = picked x (nat_eq x.fetch.page p) (find (λ w. nat_eq w.fetch.page p) xs) (all 0 (omega arith) x) (found_writer p xs (λ k h d. all (suc k) (omega arith) d))
  where
    picked : (x : PageWork) (b : Bool) (o : Option PageWork) → x.fetch.writer ≡ true → option_map_or (λ w. w.fetch.writer) o true ≡ true → option_map_or (λ w. w.fetch.writer) (cond b (Some x) o) true ≡ true
    picked x true o e f = e
    picked x false o e f = f

-- a plan that is told of its act
pub plan_told : (m : Progress) → IsProgress m → (told : Told) (now : List PageWork) → Turns told m.works now → Tells m told (record m { works = now })
plan_told m inv told now t =
    let writer : (p : ℕ) → option_map_or (λ w. w.fetch.writer) (work_of m p) true ≡ true = λ p. found_writer p m.works inv.writers in
    let later : (p : ℕ) → Option PageWork = λ p. find (λ w. nat_eq w.fetch.page p) now in
    record {
      plan = refl;
      lsn = refl;
      installed = λ e. installed_told m inv told now t e;
      falls = λ v differ goes. falls m inv told now t v differ goes;
      others = λ p e. others m told now t p e;
      access = λ r n p v call acts f c a. access told r n p v call (work_of m p) (later p) (heard m told now t p acts) f c a;
      answer = λ r n p reply v i acts f is. answer reply r n p v (work_of m p) (later p) (subst (λ said. Heard said p (work_of m p) (later p)) is (heard m told now t p acts)) i f;
      address = λ p v acts f. address told p v (work_of m p) (later p) (heard m told now t p acts) f;
      latch = λ p v acts f. latch told p v (work_of m p) (later p) (heard m told now t p acts) f;
      fetch_address = λ p v call acts f c. address_of_fetch told p v call (work_of m p) (later p) (heard m told now t p acts) f c;
      fetch_access = λ r n p v call i acts f image c a. fetch_access told r n p v call (work_of m p) (later p) (heard m told now t p acts) i (writer p) f image c a;
      fetch_answer = λ r n p reply v i acts f image is.
          subst (λ said. step_of (record m { works = now }) p (image_after m p said v) Quiet ≡ goes_on p (address_of (record m { works = now }) p) (settled (answer_step r n None (call_of reply) (step_of m p v (call_of reply))) (may_hold m p))) (sym is)
          (fetch_answer reply r n p v (work_of m p) (later p) (subst (λ said. Heard said p (work_of m p) (later p)) is (heard m told now t p acts)) i (writer p) f image);
    }
