-- One line more.
use Rattle.std.proofs.Common.{string_bytes, None, get_or, refl}
use Rattle.rp_object.proofs.Writing.{timers_more}
use Rattle.rp_object.proofs.image.write_timers.Goals as goal

pub loop-place-preserved : goal.loop-place-preserved
loop-place-preserved c = timers_more c.args.declared.now c.args.times.now c.loop-place.place c.index-declared-place.result (get_or c.args.times.now c.loop-place.place None) None c.requires.each c.loop-place-test.true c.index-declared-place.is refl (string_bytes c.args.text.now) (string_bytes c.loop-place.text) (string_bytes c.write_timer.new.text) c.loop-place.invariant c.in_ok-write_timer.ensures
