use Rattle.std.proofs.Common.{arith}
use Rattle.redo_record.proofs.GroupReading.{group_takes}
use Rattle.redo_record.proofs.Refusing.{refused_is, refused_begins}
use Rattle.redo_record.proofs.Decoded.{read_again, refused_again}
use Rattle.redo_record.proofs.decoding.decode.Goals as goal

pub returns-in-Ok-clause-found : goal.returns-in-Ok-clause-found
returns-in-Ok-clause-found c = group_takes c.args.bytes.now c.in-Ok.read (λ k. omega (arith, c.type_inv.bytes k)) c.in-Ok.ensures

pub returns-in-Ok-clause-again : goal.returns-in-Ok-clause-again
returns-in-Ok-clause-again c = read_again c.args.bytes.now c.in-Ok.read c.in-Ok.ensures

pub returns-in-Err-BadRecord-clause-again : goal.returns-in-Err-BadRecord-clause-again
returns-in-Err-BadRecord-clause-again c = refused_again c.args.bytes.now c.in-Err-BadRecord.bad (rw c.in-Err-BadRecord.field-0-is at c.in-Err-BadRecord.ensures)

pub returns-in-Err-BadRecord-clause-no_group : goal.returns-in-Err-BadRecord-clause-no_group
returns-in-Err-BadRecord-clause-no_group c = refused_begins c.args.bytes.now c.in-Err-BadRecord.bad.at (rw c.in-Err-BadRecord.field-0-is at c.in-Err-BadRecord.ensures)

pub returns-in-Err-BadRecord-clause-offset : goal.returns-in-Err-BadRecord-clause-offset
returns-in-Err-BadRecord-clause-offset c =
    refused_is c.args.bytes.now c.in-Err-BadRecord.bad.at (λ k. omega (arith, c.type_inv.bytes k)) (rw c.in-Err-BadRecord.field-0-is at c.in-Err-BadRecord.ensures)
