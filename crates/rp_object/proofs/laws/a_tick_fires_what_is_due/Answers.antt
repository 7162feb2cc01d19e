-- By induction on the events that are due.
use Rattle.std.proofs.Common.{max, refl, sym}
use Rattle.rp_object.specs.Timers.{due_events}
use Rattle.rp_object.proofs.MachineLaws.Keeping.{as_many}
use Rattle.rp_object.proofs.Firing.{fire_fires}
use Rattle.rp_object.proofs.laws.a_tick_fires_what_is_due.Goals as goal

pub returns : goal.returns
returns c running now right is =
    let before = running.state in
    let clock = max before.clock now in
    fire_fires running.program right (due_events clock before.timers)
    (record before { clock = clock })
    (record {
      objects = sym (as_many running.program.objects.items before.objects is.objects);
      timers = is.all_timers;
    }) refl
