use Rattle.std.proofs.Common.{ℕ, IfOk, subst}
use Rattle.page_image.specs.Image.{Image}
use Rattle.page_store.specs.Stored.{pages_of}
use Rattle.bplus_tree.specs.Forest.{Forest}
use Rattle.bplus_tree.specs.Tree.{Tree}
use Rattle.tree_store.specs.Rooms.{HasRoom}
use Rattle.version_tests.proofs.trees.way_for.Goals as goal

pub returns-in-Ok : goal.returns-in-Ok
returns-in-Ok c =
    let f = c.requires.root in
    let root : ℕ = c.args.root in
    let pages : ℕ → Image = pages_of c.make_room.new.store in
    let room : HasRoom pages root c.args.item.now c.in-Ok.path =
    subst (λ r. IfOk r (HasRoom pages root c.args.item.now)) c.in-Ok.is c.in_ok-make_room.ensures.room in
    let forest : Forest pages f.0 f.1 = c.in_ok-make_room.ensures.forest f.0 f.1 f.2 f.3 in
    let tree : Tree pages root (f.1 root) = (forest.trees root f.3).tree in record {
      pages = pages;
      root = root;
      items = f.1 root;
      tree = tree;
      numbers = room.way.numbers;
      way = room.way.way (f.1 root) tree;
      read = room.way.read;
    }
