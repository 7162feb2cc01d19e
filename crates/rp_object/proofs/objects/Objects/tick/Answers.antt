-- Nothing has fired yet.
use Rattle.std.proofs.Common.{◌≡◌, max, [], List, length, ◌∙◌, ap, arith}
use Rattle.rp_base.specs.declared.reply.Answer.{Answer}
use Rattle.rp_object.specs.State.{ProgramState, Running}
use Rattle.rp_object.specs.Timers.{due_events}
use Rattle.rp_object.proofs.Ticking.{following, fire_due, nothing_before}
use Rattle.rp_object.proofs.objects.Objects.tick.Goals as goal

pub loop-number-init : goal.loop-number-init
loop-number-init c =
    let program = c.args.self.now.program in
    let raised : ProgramState = record c.args.self.now.state { clock = max c.args.self.now.state.clock c.args.now } in
    let none : length c.new-answers.result ≡ 0 = ap length c.new-answers.ensures in
    record {
      program = ap (λ (r : Running). r.program) c.raise_clock.ensures.clock;
      fires =
          ap (λ (l : List Answer). following l (fire_due program c.raise_clock.new.self.state)) c.new-answers.ensures
          ∙ ap (λ (r : Running). following [] (fire_due program r.state)) c.raise_clock.ensures.clock
          ∙ nothing_before program raised (due_events raised.clock raised.timers);
      room = omega (arith, none, c.raise_clock.ensures.few);
    }
