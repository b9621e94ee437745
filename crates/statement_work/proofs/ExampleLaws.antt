-- The example.
use Rattle.std.proofs.Common.{[], ◌∷◌, refl}
use Rattle.sql_database.specs.declared.replies.SqlReply.TheVariants as reply
use Rattle.statement_work.specs.Example.{ExampleWorks}

pub example : ExampleWorks
example = record {
  first = refl;
  deed = refl;
  busy = refl;
  full = refl;
  calm = refl;
  last = refl;
  reply = (reply.Ok 8, refl, refl);
  again = refl;
  images = refl;
  polite = (refl, λ n. (refl, λ im. ((7, refl), λ jm. (8 ∷ [], refl, ([], refl, refl)))));
  silent = λ im. tt;
}
