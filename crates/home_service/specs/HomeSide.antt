-- Stated: what the home's side of the pool has: the server of calls, the home's tables and the slabs.
use Rattle.std.specs.Prelude.{List}
use Rattle.call_model.specs.Servers.{Server}
use Rattle.message_network.specs.declared.calls.Reply.{Reply}
use Rattle.message_network.specs.declared.serving.Server.{Server as ServerParts}
use Rattle.message_network.specs.ServerView.{server_of}
use Rattle.home_tables.specs.Home.{HomeState}
use Rattle.slab_node.specs.Slab.{SlabState}

pub record HomeSide : Type 0 where
  pub server : Server Reply
  pub home : HomeState
  pub slabs : List SlabState

-- the same as the type holds it
pub record Parts : Type 0 where
  pub server : ServerParts
  pub home : HomeState
  pub slabs : List SlabState

abbrev pub side_of : Parts → HomeSide
side_of parts = record { server = server_of parts.server; home = parts.home; slabs = parts.slabs }
