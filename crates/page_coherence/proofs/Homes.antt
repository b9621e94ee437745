-- A move that changes the entry, the slot or the history keeps what holds of a page.
use Rattle.std.proofs.Common.{◌≡◌, ℕ, Bool, true, arith, refl, sym, subst, ◌∙◌}
use Rattle.home_model.specs.Entry.{cleaned, shared_by, excluded_by, released_by}
use Rattle.page_image.specs.Image.{Image}
use Rattle.node_model.specs.Learning.{made_stale}
use Rattle.page_coherence.specs.Page.{Page, set_entry}
use Rattle.page_coherence.specs.Mode.{Mode.Normal}
use Rattle.page_coherence.specs.Invariant.{Holds, NodeHolds}
use Rattle.page_coherence.specs.Moves.{Moves, Move.Install, Move.TryS, Move.DoRelease, Move.TryX, Move.DoWrite, Move.DoClean, Move.HandleRegister, Move.HandleUnregister, Move.HandleInvalidate, Move.HomeTurn, installed, handled_register, handled_unregister, handled_invalidate, turned}
use Rattle.page_coherence.proofs.Beside.{by_node, exempt_put, beside_holds}

pub keeps_install : (r w : ℕ) (P Q : Page) (n : ℕ) (image : Image) → Holds Normal r w P → Moves r w n (Install image) P Q → Holds Normal r w Q
keeps_install r w P Q n image g h =
    let h0 = h.0 in let h1 = h.1 in
    subst (Holds Normal r w) (sym h.2) (record {
      shape = grind arith;
      clean_lsn = grind arith;
      clean_slot = grind arith;
      clean_address = grind arith;
      gone = grind arith;
      dirty = grind arith;
      absent = grind arith;
      no_refs = grind arith;
      orphan = grind arith;
      down = grind arith;
      stopped = grind arith;
      below = grind arith;
      each =
          let R : Page = installed P n image in
          let gn = g.each n in
          let on = g.orphan n in
          by_node (λ m. (R.node m).up ≡ true → NodeHolds r R m (R.node m)) n
          (λ up. record { address = grind arith; refs = grind arith; nothing = grind arith; fresh = grind arith; of_rw = grind arith; needs = grind arith; calls = grind arith; leaves = grind arith })
          (λ m ne up. let gm = g.each m (grind arith) in record { address = grind arith; refs = grind arith; nothing = grind arith; fresh = grind arith; of_rw = grind arith; needs = grind arith; calls = grind arith; leaves = grind arith });
    })

pub keeps_try_s : (r w : ℕ) (P Q : Page) (n : ℕ) → Holds Normal r w P → Moves r w n TryS P Q → Holds Normal r w Q
keeps_try_s r w P Q n g h =
    let h0 = h.0 in let h1 = h.1 in let h2 = h.2 in
    subst (Holds Normal r w) (sym h.3) (record {
      shape = grind arith;
      clean_lsn = grind arith;
      clean_slot = grind arith;
      clean_address = grind arith;
      gone = grind arith;
      dirty = grind arith;
      absent = grind arith;
      no_refs = grind arith;
      orphan = grind arith;
      down = grind arith;
      stopped = grind arith;
      below = grind arith;
      each =
          let R : Page = set_entry P (shared_by P.entry n) in
          let gn = g.each n in
          let on = g.orphan n in
          by_node (λ m. (R.node m).up ≡ true → NodeHolds r R m (R.node m)) n
          (λ up. record { address = grind arith; refs = grind arith; nothing = grind arith; fresh = grind arith; of_rw = grind arith; needs = grind arith; calls = grind arith; leaves = grind arith })
          (λ m ne. beside_holds r P R m (record {
            node = grind arith;
            image = grind arith;
            dead = grind arith;
            has_s = grind arith;
            has_x = grind arith;
            had_x = grind arith;
            refs = grind arith;
            address = grind arith;
            slot = grind arith;
            low = grind arith;
            high = grind arith;
            stale = grind arith;
          }) (g.each m));
    })

pub keeps_do_release : (r w : ℕ) (P Q : Page) (n : ℕ) → Holds Normal r w P → Moves r w n DoRelease P Q → Holds Normal r w Q
keeps_do_release r w P Q n g h =
    let h0 = h.0 in let h1 = h.1 in
    subst (Holds Normal r w) (sym h.2) (record {
      shape = grind arith;
      clean_lsn = grind arith;
      clean_slot = grind arith;
      clean_address = grind arith;
      gone = grind arith;
      dirty = grind arith;
      absent = grind arith;
      no_refs = grind arith;
      orphan = grind arith;
      down = grind arith;
      stopped = grind arith;
      below = grind arith;
      each =
          let R : Page = set_entry P (released_by P.entry n) in
          let gn = g.each n in
          let on = g.orphan n in
          by_node (λ m. (R.node m).up ≡ true → NodeHolds r R m (R.node m)) n
          (λ up. record { address = grind arith; refs = grind arith; nothing = grind arith; fresh = grind arith; of_rw = grind arith; needs = grind arith; calls = grind arith; leaves = grind arith })
          (λ m ne. beside_holds r P R m (record {
            node = grind arith;
            image = grind arith;
            dead = grind arith;
            has_s = grind arith;
            has_x = grind arith;
            had_x = grind arith;
            refs = grind arith;
            address = grind arith;
            slot = grind arith;
            low = grind arith;
            high = grind arith;
            stale = grind arith;
          }) (g.each m));
    })

pub keeps_try_x : (r w : ℕ) (P Q : Page) (n : ℕ) → Holds Normal r w P → Moves r w n TryX P Q → Holds Normal r w Q
keeps_try_x r w P Q n g h =
    let h0 = h.0 in let h1 = h.1 in let h2 = h.2 in
    subst (Holds Normal r w) (sym h.3) (record {
      shape = grind arith;
      clean_lsn = grind arith;
      clean_slot = grind arith;
      clean_address = grind arith;
      gone = grind arith;
      dirty = grind arith;
      absent = grind arith;
      no_refs = grind arith;
      orphan = grind arith;
      down = grind arith;
      stopped = grind arith;
      below = grind arith;
      each =
          let R : Page = set_entry P (excluded_by P.entry n) in
          let gn = g.each n in
          let on = g.orphan n in
          by_node (λ m. (R.node m).up ≡ true → NodeHolds r R m (R.node m)) n
          (λ up. record { address = grind arith; refs = grind arith; nothing = grind arith; fresh = grind arith; of_rw = grind arith; needs = grind arith; calls = grind arith; leaves = grind arith })
          (λ m ne. beside_holds r P R m (record {
            node = grind arith;
            image = grind arith;
            dead = grind arith;
            has_s = grind arith;
            has_x = grind arith;
            had_x = grind arith;
            refs = grind arith;
            address = grind arith;
            slot = grind arith;
            low = grind arith;
            high = grind arith;
            stale = grind arith;
          }) (g.each m));
    })

pub keeps_do_write : (r w : ℕ) (P Q : Page) (n : ℕ) → Holds Normal r w P → Moves r w n DoWrite P Q → Holds Normal r w Q
keeps_do_write r w P Q n g h =
    let h0 = h.0 in let v = h.1 in let h2 = h.2 in let h3 = h.3 in
    subst (Holds Normal r w) (sym h.4) (record {
      shape = grind arith;
      clean_lsn = grind arith;
      clean_slot = grind arith;
      clean_address = grind arith;
      gone = grind arith;
      dirty = grind arith;
      absent = grind arith;
      no_refs = grind arith;
      orphan = grind arith;
      down = grind arith;
      stopped = grind arith;
      below = grind arith;
      each =
          let R : Page = record P { slot = v } in
          let gn = g.each n in
          let on = g.orphan n in
          by_node (λ m. (R.node m).up ≡ true → NodeHolds r R m (R.node m)) n
          (λ up. record { address = grind arith; refs = grind arith; nothing = grind arith; fresh = grind arith; of_rw = grind arith; needs = grind arith; calls = grind arith; leaves = grind arith })
          (λ m ne. beside_holds r P R m (record {
            node = grind arith;
            image = grind arith;
            dead = grind arith;
            has_s = grind arith;
            has_x = grind arith;
            had_x = grind arith;
            refs = grind arith;
            address = grind arith;
            slot = grind arith;
            low = grind arith;
            high = grind arith;
            stale = grind arith;
          }) (g.each m));
    })

pub keeps_do_clean : (r w : ℕ) (P Q : Page) (n : ℕ) → Holds Normal r w P → Moves r w n DoClean P Q → Holds Normal r w Q
keeps_do_clean r w P Q n g h =
    let h0 = h.0 in let v = h.1 in let h2 = h.2 in let h3 = h.3 in let h4 = h.4 in
    subst (Holds Normal r w) (sym h.5) (record {
      shape = grind arith;
      clean_lsn = grind arith;
      clean_slot = grind arith;
      clean_address = grind arith;
      gone = grind arith;
      dirty = grind arith;
      absent = grind arith;
      no_refs = grind arith;
      orphan = grind arith;
      down = grind arith;
      stopped = grind arith;
      below = grind arith;
      each =
          let R : Page = set_entry P (cleaned P.entry v.lsn) in
          let gn = g.each n in
          let on = g.orphan n in
          by_node (λ m. (R.node m).up ≡ true → NodeHolds r R m (R.node m)) n
          (λ up. record { address = grind arith; refs = grind arith; nothing = grind arith; fresh = grind arith; of_rw = grind arith; needs = grind arith; calls = grind arith; leaves = grind arith })
          (λ m ne. beside_holds r P R m (record {
            node = grind arith;
            image = grind arith;
            dead = grind arith;
            has_s = grind arith;
            has_x = grind arith;
            had_x = grind arith;
            refs = grind arith;
            address = grind arith;
            slot = grind arith;
            low = grind arith;
            high = grind arith;
            stale = grind arith;
          }) (g.each m));
    })

pub keeps_handle_register : (r w : ℕ) (P Q : Page) (n : ℕ) (fresh : ℕ) (image : Image) → Holds Normal r w P → Moves r w n (HandleRegister fresh image) P Q → Holds Normal r w Q
keeps_handle_register r w P Q n fresh image g h =
    let h0 = h.0 in let h1 = h.1 in
    subst (Holds Normal r w) (sym h.2) (record {
      shape = grind arith;
      clean_lsn = grind arith;
      clean_slot = grind arith;
      clean_address = grind arith;
      gone = grind arith;
      dirty = grind arith;
      absent = grind arith;
      no_refs = grind arith;
      orphan = grind arith;
      down = grind arith;
      stopped = grind arith;
      below = grind arith;
      each =
          let R : Page = handled_register P w fresh image n in
          let gn = g.each n in
          let on = g.orphan n in
          by_node (λ m. (R.node m).up ≡ true → NodeHolds r R m (R.node m)) n
          (λ up. record { address = grind arith; refs = grind arith; nothing = grind arith; fresh = grind arith; of_rw = grind arith; needs = grind arith; calls = grind arith; leaves = grind arith })
          (λ m ne. beside_holds r P R m (record {
            node = grind arith;
            image = grind arith;
            dead = grind arith;
            has_s = grind arith;
            has_x = grind arith;
            had_x = grind arith;
            refs = grind arith;
            address = grind arith;
            slot = grind arith;
            low = grind arith;
            high = grind arith;
            stale = grind arith;
          }) (g.each m));
    })

pub keeps_handle_unregister : (r w : ℕ) (P Q : Page) (n : ℕ) → Holds Normal r w P → Moves r w n HandleUnregister P Q → Holds Normal r w Q
keeps_handle_unregister r w P Q n g h =
    let h0 = h.0 in
    subst (Holds Normal r w) (sym h.1) (record {
      shape = grind arith;
      clean_lsn = grind arith;
      clean_slot = grind arith;
      clean_address = grind arith;
      gone = grind arith;
      dirty = grind arith;
      absent = grind arith;
      no_refs = grind arith;
      orphan = grind arith;
      down = grind arith;
      stopped = grind arith;
      below = grind arith;
      each =
          let R : Page = handled_unregister P n in
          let gn = g.each n in
          let on = g.orphan n in
          by_node (λ m. (R.node m).up ≡ true → NodeHolds r R m (R.node m)) n
          (λ up. record { address = grind arith; refs = grind arith; nothing = grind arith; fresh = grind arith; of_rw = grind arith; needs = grind arith; calls = grind arith; leaves = grind arith })
          (λ m ne. beside_holds r P R m (record {
            node = grind arith;
            image = grind arith;
            dead = grind arith;
            has_s = grind arith;
            has_x = grind arith;
            had_x = grind arith;
            refs = grind arith;
            address = grind arith;
            slot = grind arith;
            low = grind arith;
            high = grind arith;
            stale = grind arith;
          }) (g.each m));
    })

pub keeps_handle_invalidate : (r w : ℕ) (P Q : Page) (n : ℕ) (done : Bool) → Holds Normal r w P → Moves r w n (HandleInvalidate done) P Q → Holds Normal r w Q
keeps_handle_invalidate r w P Q n done g h =
    let h0 = h.0 in let h1 = h.1 in let h2 = h.2 in
    subst (Holds Normal r w) (sym h.3) (record {
      shape = grind arith;
      clean_lsn = grind arith;
      clean_slot = grind arith;
      clean_address = grind arith;
      gone = grind arith;
      dirty = grind arith;
      absent = grind arith;
      no_refs = grind arith;
      orphan = grind arith;
      down = grind arith;
      stopped = grind arith;
      below = grind arith;
      each =
          let R : Page = handled_invalidate P n done in
          let gn = g.each n in
          let on = g.orphan n in
          by_node (λ m. (R.node m).up ≡ true → NodeHolds r R m (R.node m)) n
          (λ up. record { address = grind arith; refs = grind arith; nothing = grind arith; fresh = grind arith; of_rw = grind arith; needs = grind arith; calls = grind arith; leaves = grind arith })
          (λ m ne. beside_holds r P R m (record {
            node = grind arith;
            image = grind arith;
            dead = grind arith;
            has_s = grind arith;
            has_x = grind arith;
            had_x = grind arith;
            refs = grind arith;
            address = grind arith;
            slot = grind arith;
            low = grind arith;
            high = grind arith;
            stale = grind arith;
          }) (g.each m));
    })

pub keeps_home_turn : (r w : ℕ) (P Q : Page) (n : ℕ) → Holds Normal r w P → Moves r w n HomeTurn P Q → Holds Normal r w Q
keeps_home_turn r w P Q n g h =
    let h0 = h.0 in let h1 = h.1 in
    subst (Holds Normal r w) (sym h.2) (record {
      shape = grind arith;
      clean_lsn = grind arith;
      clean_slot = grind arith;
      clean_address = grind arith;
      gone = grind arith;
      dirty = λ m e b q. g.dirty m e b (λ x. sym (exempt_put P.node n r (made_stale (P.node n)) refl) ∙ q x);
      absent = grind arith;
      no_refs = grind arith;
      orphan = grind arith;
      down = grind arith;
      stopped = grind arith;
      below = grind arith;
      each =
          let R : Page = turned P n in
          let gn = g.each n in
          let on = g.orphan n in
          by_node (λ m. (R.node m).up ≡ true → NodeHolds r R m (R.node m)) n
          (λ up. record { address = grind arith; refs = grind arith; nothing = grind arith; fresh = grind arith; of_rw = grind arith; needs = grind arith; calls = grind arith; leaves = grind arith })
          (λ m ne. beside_holds r P R m (record {
            node = grind arith;
            image = grind arith;
            dead = grind arith;
            has_s = grind arith;
            has_x = grind arith;
            had_x = grind arith;
            refs = grind arith;
            address = grind arith;
            slot = grind arith;
            low = grind arith;
            high = grind arith;
            stale = grind arith;
          }) (g.each m));
    })
