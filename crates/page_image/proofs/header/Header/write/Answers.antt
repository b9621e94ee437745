use Rattle.page_image.proofs.HeaderLaws.{written}
use Rattle.page_image.proofs.header.Header.write.Goals as goal

pub returns : goal.returns
returns c =
    written c.args.self.now c.number.result c.args.bytes.now c.put_u16.new.bytes c.put_u32.new.bytes c.put_u64.new.bytes c.put_u64-2.new.bytes c.put_u32-2.new.bytes c.put_u16-2.new.bytes c.requires c.number.ensures.value c.put_u16.ensures c.put_u32.ensures c.put_u64.ensures c.put_u64-2.ensures c.put_u32-2.ensures c.put_u16-2.ensures
