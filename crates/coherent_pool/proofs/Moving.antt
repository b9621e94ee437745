-- What a node hears is a move of the law of pages.
use Rattle.std.proofs.Common.{◌≡◌, ℕ, Bool, Some, inl, inr, refl, sym, subst, ap, ◌∙◌}
use Rattle.page_image.specs.Image.{Image}
use Rattle.node_model.specs.Step.{Step}
use Rattle.node_model.specs.Node.{Node}
use Rattle.node_model.specs.Learning.{stands, after_look, after_rw_look, after_look_again, writes, cleans}
use Rattle.page_coherence.specs.Page.{Page, set_node}
use Rattle.coherent_pool.specs.Moved.{LatchesMove, LooksMove, SlotsMove, LossesMove}
use Rattle.coherent_pool.proofs.Lawful.{latches, homes, slabs}

-- the page with what the law has node n learn
placed : (P : Page) (n : ℕ) (M N : Node) → M ≡ N → set_node P n M ≡ set_node P n N
placed P n M N h = ap (λ (x : Node). set_node P n x) h

-- a node at the write or the clean of an image
writes_it : (N : Node) (image : Image) → N.step ≡ Step.Write image → writes N ≡ Some image
writes_it N image h = subst (λ (s : Step). let M : Node = record N { step = s } in writes M ≡ Some image) (sym h) refl

cleans_it : (N : Node) (image : Image) → N.step ≡ Step.Clean image → cleans N ≡ Some image
cleans_it N image h = subst (λ (s : Step). let M : Node = record N { step = s } in cleans M ≡ Some image) (sym h) refl

pub latches_move : (r w n : ℕ) (v : Image) (P : Page) → LatchesMove r w n v P
latches_move r w n v P = record {
  share = λ up s held. (up, s, held, placed P n _ _ ((latches r n v (P.node n)).share s));
  exclude = λ up s held. (up, s, held, placed P n _ _ ((latches r n v (P.node n)).exclude s));
  release = λ up s free. (up, s, free, placed P n _ _ ((latches r n v (P.node n)).release s));
}

pub looks_move : (r w n : ℕ) (v : Image) (P : Page) → LooksMove r w n v P
looks_move r w n v P = record {
  look = λ seen up s shows. (up, s, placed P n _ _ ((homes r n v (P.node n)).look seen s ∙ ap (λ (b : Bool). after_look b (P.node n)) shows.bit));
  rw_look = λ seen up s shows. (up, s, placed P n _ _ ((homes r n v (P.node n)).rw_look seen s ∙ ap (λ (b : Bool). stands (P.node n) (after_rw_look b)) shows.bit));
  look_again = λ seen a up s shows e there. (
    up,
    s,
    there,
    placed P n _ _ ((homes r n v (P.node n)).look_again seen a s e
        ∙ (ap (λ (b : Bool). stands (P.node n) (after_look_again r n b seen.floor)) shows.bit
        ∙ ap (λ (f : ℕ). stands (P.node n) (after_look_again r n P.entry.bit f)) shows.floor)),
  );
  no_address = λ seen up s e gone. (up, s, gone, placed P n _ _ ((homes r n v (P.node n)).no_address seen s e));
}

pub slots_move : (r w n : ℕ) (P : Page) → SlotsMove r w n P
slots_move r w n P = record {
  read = λ up s alive. (up, s, alive, placed P n _ _ ((slabs r n P.slot (P.node n)).read s));
  rw_read = λ up s alive. (up, s, alive, placed P n _ _ ((slabs r n P.slot (P.node n)).rw_read s));
  write = λ v image up s there. (up, image, writes_it (P.node n) image s, there, placed P n _ _ ((slabs r n v (P.node n)).write image s));
  clean = λ v image up s bit lsn. (up, image, cleans_it (P.node n) image s, bit, lsn, placed P n _ _ ((homes r n v (P.node n)).clean image s));
}

pub losses_move : (r w n : ℕ) (v : Image) (P : Page) → LossesMove r w n v P
losses_move r w n v P = record {
  read = λ why up s. (up, s, placed P n _ _ ((slabs r n v (P.node n)).read_down why s));
  rw_read = λ why up s. (up, s, placed P n _ _ ((slabs r n v (P.node n)).rw_read_down why s));
  write = λ why image up s. (up, image, inl s, placed P n _ _ ((slabs r n v (P.node n)).write_down why image s));
  clean = λ why image up s. (up, image, inr s, placed P n _ _ ((slabs r n v (P.node n)).clean_down why image s));
  gone = λ image up s. (up, image, inr s, placed P n _ _ ((homes r n v (P.node n)).gone image s));
}
