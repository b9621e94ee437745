-- Each event of the cluster that is no move keeps what holds of a page.
use Rattle.std.proofs.Common.{◌≡◌, ℕ, ◌≢◌, ◌≤◌, Bool, true, false, Some, List, [], ◌∷◌, if◌then◌else◌, nat_le, arith, refl, le_trans}
use Rattle.home_model.specs.Entry.{stays}
use Rattle.page_image.specs.Image.{Image}
use Rattle.node_model.specs.Step.{Step.Idle}
use Rattle.node_model.specs.Call.{Call.Quiet}
use Rattle.node_model.specs.Node.{blank}
use Rattle.page_coherence.specs.History.{current, cut_to}
use Rattle.page_coherence.specs.Page.{Page, new_page}
use Rattle.page_coherence.specs.Mode.{Mode, Mode.Normal, Mode.Fenced, Mode.Tailed, Mode.Renewed, fence_mode}
use Rattle.page_coherence.specs.Invariant.{Holds, NodeHolds}
use Rattle.page_coherence.specs.Cluster.{raised_by, removed, lost_at, dropped_at, crashed, kicked_at, returned, fenced, cut, swept_at, renewed, IsReleased, IsUnused, MayTail}
use Rattle.page_coherence.proofs.Beside.{by_node, beside_holds, set_node_holds}

pub starts : (r w p : ℕ) (history : List Image) → (current p history).lsn ≤ w → Holds Normal r w (record (new_page p) { log = history })
starts r w p history le = grind arith

pub rises : (m : Mode) (r w v : ℕ) (P : Page) → w ≤ v → Holds m r w P → Holds m r v P
rises m r w v P le g = record { shape = g.shape; clean_lsn = g.clean_lsn; clean_slot = g.clean_slot; clean_address = g.clean_address; gone = g.gone; dirty = g.dirty; absent = λ a b. le_trans (g.absent a b) le; no_refs = g.no_refs; orphan = g.orphan; down = g.down; stopped = g.stopped; below = g.below; each = g.each }

pub keeps_removed : (r w : ℕ) (P : Page) → Holds Normal r w P → IsUnused P.entry → P.entry.there ≡ true → Holds Normal r (raised_by P w) (removed P)
keeps_removed r w P g un e = record {
  shape = grind arith;
  clean_lsn = grind arith;
  clean_slot = grind arith;
  clean_address = grind arith;
  gone = grind arith;
  dirty = grind arith;
  absent = grind arith;
  no_refs = grind arith;
  orphan = grind arith;
  down = grind arith;
  stopped = grind arith;
  below = grind arith;
  each = λ n up. let gn = g.each n up in record { address = grind arith; refs = grind arith; nothing = grind arith; fresh = grind arith; of_rw = grind arith; needs = grind arith; calls = grind arith; leaves = grind arith };
}

pub keeps_lost : (m : Mode) (r w : ℕ) (ds : ℕ → Bool) (P : Page) → Holds m r w P → Holds m r w (lost_at P ds)
keeps_lost m r w ds P g = record {
  shape = grind arith;
  clean_lsn = grind arith;
  clean_slot = grind arith;
  clean_address = grind arith;
  gone = grind arith;
  dirty = grind arith;
  absent = grind arith;
  no_refs = grind arith;
  orphan = grind arith;
  down = grind arith;
  stopped = grind arith;
  below = grind arith;
  each = λ n up. let gn = g.each n up in record { address = grind arith; refs = grind arith; nothing = grind arith; fresh = grind arith; of_rw = grind arith; needs = grind arith; calls = grind arith; leaves = grind arith };
}

pub keeps_dropped : (m : Mode) (r w a : ℕ) (P : Page) → Holds m r w P → P.entry.address ≡ Some a → P.dead a ≡ true → Holds m r w (dropped_at P)
keeps_dropped m r w a P g e d = record {
  shape = grind arith;
  clean_lsn = grind arith;
  clean_slot = grind arith;
  clean_address = grind arith;
  gone = grind arith;
  dirty = grind arith;
  absent = grind arith;
  no_refs = grind arith;
  orphan = grind arith;
  down = grind arith;
  stopped = grind arith;
  below = grind arith;
  each = λ n up. let gn = g.each n up in record { address = grind arith; refs = grind arith; nothing = grind arith; fresh = grind arith; of_rw = grind arith; needs = grind arith; calls = grind arith; leaves = grind arith };
}

pub keeps_crashed : (m : Mode) (r w : ℕ) (P : Page) (n : ℕ) → Holds m r w P → (P.node n).up ≡ true → Holds m r w (crashed P n)
keeps_crashed m r w P n g h = let gn = g.each n h in let on = g.orphan n in let sn = λ (other : m ≢ Normal). g.stopped other n in
    set_node_holds m r w P n (blank false (P.node n).call) g
    (λ up. absurd cc)
    (λ x free ne k. grind arith)
    (λ own ok e b q. grind arith)
    (λ c. grind arith)
    (λ d. refl)
    (λ other. (refl, refl, (sn other).2))

pub keeps_returned : (m : Mode) (r w : ℕ) (P : Page) (n : ℕ) → Holds m r w P → (P.node n).up ≡ false → IsReleased P n → Holds m r w (returned P n)
keeps_returned m r w P n g h rel =
    set_node_holds m r w P n (blank true Quiet) g
    (λ up. record { address = grind arith; refs = grind arith; nothing = grind arith; fresh = grind arith; of_rw = grind arith; needs = grind arith; calls = grind arith; leaves = grind arith })
    (λ x free ne k. grind arith)
    (λ own ok e b q. grind arith)
    (λ c. grind arith)
    (λ d. refl)
    (λ other. (refl, refl, refl))

pub keeps_kicked : (m : Mode) (r w : ℕ) (P : Page) (n : ℕ) → Holds m r w P → (P.node n).up ≡ false → n ≢ r → Holds m r w (kicked_at P n)
keeps_kicked m r w P n g h other = record {
  shape = grind arith;
  clean_lsn = grind arith;
  clean_slot = grind arith;
  clean_address = grind arith;
  gone = grind arith;
  dirty = grind arith;
  absent = grind arith;
  no_refs = grind arith;
  orphan = grind arith;
  down = grind arith;
  stopped = λ rest. by_node (λ k. (((kicked_at P n).node k).kept ≡ false) × (((kicked_at P n).node k).step ≡ Idle) × (((kicked_at P n).node k).call ≡ Quiet)) n (grind arith) (λ k ne. let q = g.stopped rest k in grind arith);
  below = grind arith;
  each =
      let Q : Page = kicked_at P n in
      by_node (λ m. (Q.node m).up ≡ true → NodeHolds r Q m (Q.node m)) n
      (λ up. absurd (grind arith))
      (λ m ne. beside_holds r P Q m (record { node = grind arith; image = refl; dead = refl; has_s = grind arith; has_x = grind arith; had_x = grind arith; refs = grind arith; address = λ a e d. e; slot = λ x a e d h. h; low = λ sr a e d h. h; high = λ own x h. h; stale = grind arith }) (g.each m));
}

pub keeps_fenced : (m : Mode) (r w : ℕ) (P : Page) → Holds m r w P → Holds (fence_mode m) r w (fenced P)
keeps_fenced Normal r w P g = record {
  shape = grind arith;
  clean_lsn = grind arith;
  clean_slot = grind arith;
  clean_address = grind arith;
  gone = grind arith;
  dirty = grind arith;
  absent = grind arith;
  no_refs = grind arith;
  orphan = grind arith;
  down = grind arith;
  stopped = grind arith;
  below = grind arith;
  each = λ n up. absurd cc;
}
keeps_fenced Fenced r w P g = record {
  shape = grind arith;
  clean_lsn = grind arith;
  clean_slot = grind arith;
  clean_address = grind arith;
  gone = grind arith;
  dirty = grind arith;
  absent = grind arith;
  no_refs = grind arith;
  orphan = grind arith;
  down = grind arith;
  stopped = grind arith;
  below = grind arith;
  each = λ n up. absurd cc;
}
keeps_fenced (Tailed t) r w P g = record {
  shape = grind arith;
  clean_lsn = grind arith;
  clean_slot = grind arith;
  clean_address = grind arith;
  gone = grind arith;
  dirty = grind arith;
  absent = grind arith;
  no_refs = grind arith;
  orphan = grind arith;
  down = grind arith;
  stopped = grind arith;
  below = grind arith;
  each = λ n up. absurd cc;
}
keeps_fenced Renewed r w P g = record {
  shape = grind arith;
  clean_lsn = grind arith;
  clean_slot = grind arith;
  clean_address = grind arith;
  gone = grind arith;
  dirty = grind arith;
  absent = grind arith;
  no_refs = grind arith;
  orphan = grind arith;
  down = grind arith;
  stopped = grind arith;
  below = grind arith;
  each = λ n up. absurd cc;
}

up_to_same : (p t : ℕ) (log : List Image) → (current p log).lsn ≤ t → cut_to t log ≡ log
up_to_same p t [] h = refl
up_to_same p t (x ∷ xs) h = grind arith

up_to_below : (p t : ℕ) (log : List Image) → (current p (cut_to t log)).lsn ≤ t
up_to_below p t [] = omega arith
up_to_below p t (x ∷ xs) = by_test (up_to_below p t xs) (nat_le x.lsn t) refl
  where
    by_test : (current p (cut_to t xs)).lsn ≤ t → (b : Bool) → nat_le x.lsn t ≡ b → (current p (if b then x ∷ xs else cut_to t xs)).lsn ≤ t
    by_test h true e = grind arith
    by_test h false e = h

pub keeps_cut : (t r w : ℕ) (m : Mode) (P : Page) → MayTail m t → Holds m r w P → Holds (Tailed t) r w (cut P t)
keeps_cut t r w Normal P may g = absurd may
keeps_cut t r w Fenced P may g = let same = up_to_same P.number t P.log in let le = up_to_below P.number t P.log in record {
  shape = grind arith;
  clean_lsn = grind arith;
  clean_slot = grind arith;
  clean_address = grind arith;
  gone = grind arith;
  dirty = grind arith;
  absent = grind arith;
  no_refs = grind arith;
  orphan = grind arith;
  down = grind arith;
  stopped = grind arith;
  below = grind arith;
  each = λ n up. let gn = g.each n up in let sn = g.stopped (λ e. absurd cc) n in record { address = grind arith; refs = grind arith; nothing = grind arith; fresh = grind arith; of_rw = grind arith; needs = grind arith; calls = grind arith; leaves = grind arith };
}
keeps_cut t r w Renewed P may g = let same = up_to_same P.number t P.log in let le = up_to_below P.number t P.log in record {
  shape = grind arith;
  clean_lsn = grind arith;
  clean_slot = grind arith;
  clean_address = grind arith;
  gone = grind arith;
  dirty = grind arith;
  absent = grind arith;
  no_refs = grind arith;
  orphan = grind arith;
  down = grind arith;
  stopped = grind arith;
  below = grind arith;
  each = λ n up. let gn = g.each n up in let sn = g.stopped (λ e. absurd cc) n in record { address = grind arith; refs = grind arith; nothing = grind arith; fresh = grind arith; of_rw = grind arith; needs = grind arith; calls = grind arith; leaves = grind arith };
}
keeps_cut t r w (Tailed b) P may g = let same = up_to_same P.number t P.log in let le = up_to_below P.number t P.log in record {
  shape = grind arith;
  clean_lsn = grind arith;
  clean_slot = grind arith;
  clean_address = grind arith;
  gone = grind arith;
  dirty = grind arith;
  absent = grind arith;
  no_refs = grind arith;
  orphan = grind arith;
  down = grind arith;
  stopped = grind arith;
  below = grind arith;
  each = λ n up. let gn = g.each n up in let sn = g.stopped (λ e. absurd cc) n in record { address = grind arith; refs = grind arith; nothing = grind arith; fresh = grind arith; of_rw = grind arith; needs = grind arith; calls = grind arith; leaves = grind arith };
}

pub keeps_swept : (t r n w : ℕ) (P : Page) → Holds (Tailed t) r w P → Holds Normal n t (swept_at P t)
keeps_swept t r n w P g = by_test (stays P.entry t) refl
  where
    by_test : (b : Bool) → stays P.entry t ≡ b → Holds Normal n t (swept_at P t)
    by_test true e = record {
      shape = grind arith;
      clean_lsn = grind arith;
      clean_slot = grind arith;
      clean_address = grind arith;
      gone = grind arith;
      dirty = grind arith;
      absent = grind arith;
      no_refs = grind arith;
      orphan = grind arith;
      down = grind arith;
      stopped = grind arith;
      below = grind arith;
      each = λ m up. let gm = g.each m up in let sm = g.stopped (λ e. absurd cc) m in record { address = grind arith; refs = grind arith; nothing = grind arith; fresh = grind arith; of_rw = grind arith; needs = grind arith; calls = grind arith; leaves = grind arith };
    }
    by_test false e = record {
      shape = grind arith;
      clean_lsn = grind arith;
      clean_slot = grind arith;
      clean_address = grind arith;
      gone = grind arith;
      dirty = grind arith;
      absent = grind arith;
      no_refs = grind arith;
      orphan = grind arith;
      down = grind arith;
      stopped = grind arith;
      below = grind arith;
      each = λ m up. let gm = g.each m up in let sm = g.stopped (λ e. absurd cc) m in record { address = grind arith; refs = grind arith; nothing = grind arith; fresh = grind arith; of_rw = grind arith; needs = grind arith; calls = grind arith; leaves = grind arith };
    }

pub keeps_renewed : (m : Mode) (r w : ℕ) (ds : ℕ → Bool) (P : Page) → Holds m r w P → Holds Renewed r w (renewed P ds)
keeps_renewed m r w ds P g = record {
  shape = grind arith;
  clean_lsn = grind arith;
  clean_slot = grind arith;
  clean_address = grind arith;
  gone = grind arith;
  dirty = grind arith;
  absent = grind arith;
  no_refs = grind arith;
  orphan = grind arith;
  down = grind arith;
  stopped = grind arith;
  below = grind arith;
  each = λ n up. absurd cc;
}
