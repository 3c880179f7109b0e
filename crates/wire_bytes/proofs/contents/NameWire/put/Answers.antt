use Rattle.wire_bytes.specs.ContentCodecs.{name_short}
use Rattle.wire_bytes.proofs.contents.NameWire.put.Goals as goal

pub put_sized-requires : goal.put_sized-requires
put_sized-requires c = rw c.as_bytes.ensures.value (name_short c.args.self.now c.as_bytes.ensures.name)
