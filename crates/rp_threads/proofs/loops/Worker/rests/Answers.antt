-- What is pending is what the seat returns, and then nothing else matters.
use Rattle.std.proofs.Common.{Bool, not, ◌&&◌, ap, sym, ◌∙◌}
use Rattle.rp_threads.specs.Loops.{is_uneventful}
use Rattle.rp_threads.proofs.loops.Worker.rests.Goals as goal

pub returns-then-has_pending : goal.returns-then-has_pending
returns-then-has_pending g c = record {
  pending = c.has_pending.result;
  runs = c.has_pending.ensures.runs;
  stopped = c.has_pending.ensures.stopped;
  is = sym (ap (λ (b : Bool). not b && is_uneventful c.args.made) c.if-has_pending.true);
}

pub returns : goal.returns
returns g c = record {
  pending = c.has_pending.result;
  runs = c.has_pending.ensures.runs;
  stopped = c.has_pending.ensures.stopped;
  is = c.is_uneventful.ensures ∙ sym (ap (λ (b : Bool). not b && is_uneventful c.args.made) c.if-has_pending.false);
}
