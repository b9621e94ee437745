use Rattle.rm_base.specs.Fields.{field}
use Rattle.rm_base.proofs.FieldLaws.{put_field}
use Rattle.rm_base.proofs.fields.put_u64.Goals as goal

pub returns : goal.returns
unfolding field
returns c = put_field 8 c.args.at c.args.v c.args.bytes.now c.write_u64.new.buf c.requires c.write_u64.ensures
