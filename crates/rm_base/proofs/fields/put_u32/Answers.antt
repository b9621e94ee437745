use Rattle.rm_base.specs.Fields.{field}
use Rattle.rm_base.proofs.FieldLaws.{put_field}
use Rattle.rm_base.proofs.fields.put_u32.Goals as goal

pub returns : goal.returns
unfolding field
returns c = put_field 4 c.args.at c.args.v c.args.bytes.now c.write_u32.new.buf c.requires c.write_u32.ensures
