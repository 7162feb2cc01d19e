use Rattle.std.proofs.Common.{◌≡◌, ◌≤◌, ◌+◌, length}
use Rattle.rp_object.specs.Timers.{due_events}
use Rattle.rp_object.specs.Step.{ticked}
use Rattle.rp_object.specs.InMemory.{waiting_count}
use Rattle.rp_object.proofs.Ticking.{following, fire_due}
use Rattle.rp_object.proofs.objects.Objects.tick.Given as goal

abbrev pub invariant-loop-number : goal.invariant-loop-number
invariant-loop-number l = record {
  program : l.self.program ≡ l.fn.self.program;
  fires : following l.answers (fire_due l.fn.self.program l.self.state) ≡ ticked l.fn.self.program l.fn.self.state l.now;
  room : length l.answers + waiting_count l.self.state.objects ≤ 8;
}

abbrev pub decreases-loop-number : goal.decreases-loop-number
decreases-loop-number l = length (due_events l.self.state.clock l.self.state.timers)
