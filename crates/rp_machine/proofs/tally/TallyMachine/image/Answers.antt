-- One iteration prints one sum.
use Rattle.std.proofs.Common.{string_bytes, arith}
use Rattle.rp_machine.proofs.Image.{image_more}
use Rattle.rp_machine.proofs.tally.TallyMachine.image.Goals as goal

pub loop-place-preserved : goal.loop-place-preserved
loop-place-preserved c =
    image_more (string_bytes c.loop-place.text) (string_bytes c.write.new.self) c.deref-sum-items.result.now c.loop-place.place (omega arith) c.loop-place.invariant c.in_ok-write.ensures.bytes
