-- One delivery more, or the end.
use Rattle.std.proofs.Common.{◌≡◌, ℕ, ◌+◌, ◌-◌, ◌<◌, ◌≤◌, length, arith, refl, subst, ◌∙◌}
use Rattle.rp_model.specs.declared.event.Event.TheVariants.{Node as NodeStep}
use Rattle.rp_model.specs.declared.event.Step.TheVariants.{Deliver}
use Rattle.rp_run.specs.Output.{Play, note_said, event_said, drained}
use Rattle.rp_run.specs.Items.{DrainLimit}
use Rattle.rp_run.specs.Runs.{run_setting}
use Rattle.rp_run.proofs.LeastUnsettled.{none_is_left, least_is_left}
use Rattle.rp_run.proofs.RunParts.{Underway, sets_out, goes_on, fails, ends_by, ends, says_by, note_written, says_failed, drained_none, drained_full, drained_more}
use Rattle.rp_run.proofs.Stepping.{same_run_setting}
use Rattle.rp_run.proofs.run.Run.drain.Goals as goal

pub loop-delivered-init : goal.loop-delivered-init
loop-delivered-init g c =
    let m = g.M.Machine in
    let s = run_setting m.next m.answers m.begin m.image c.args.self.now.cluster c.args.options.now in
    let start = g.W.Write.contents c.args.writer.now in
    let most = c.args.options.now.most in
    let all : most ≡ most - 0 = omega arith in
    record {
      parts = c.requires.parts;
      setup = refl;
      counts = refl;
      so_far = λ play follows.
          subst (λ (n : ℕ). Underway c.args.self.now.cluster.world c.args.self.now.settled start start (drained s c.args.line most play) (λ (now : Play). drained s c.args.line n now)) all
          (sets_out c.args.self.now.cluster.world c.args.self.now.settled start play (λ (now : Play). drained s c.args.line most now) follows);
    }

pub returns-then-message-messages-clause-printed : goal.returns-then-message-messages-clause-printed
returns-then-message-messages-clause-printed g c =
    let m = g.M.Machine in
    let s = run_setting m.next m.answers m.begin m.image c.args.self.now.cluster c.args.options.now in
    let run = c.loop-delivered.self in
    let least = c.least-message in
    let past : length run.cluster.world.sent < least.result = omega arith in
    λ play follows.
    let so_far = c.loop-delivered.invariant.so_far play follows in
    let now = so_far.said.play in
    let most = c.args.options.now.most - c.loop-delivered.delivered in
    ends run.cluster.world run.settled (g.W.Write.contents c.args.writer.now) (g.W.Write.contents c.loop-delivered.writer)
    (drained s c.args.line c.args.options.now.most play) (λ (p : Play). drained s c.args.line most p) so_far tt
    (drained_none s c.args.line now most (none_is_left run.cluster.world run.settled now so_far.follows least.result least.ensures.least past))

pub returns-in_err-deliver-clause-printed : goal.returns-in_err-deliver-clause-printed
returns-in_err-deliver-clause-printed g c =
    let m = g.M.Machine in
    let s = run_setting m.next m.answers m.begin m.image c.args.self.now.cluster c.args.options.now in
    let run = c.loop-delivered.self in
    let least = c.least-message in
    let message = least.result in
    let within : message ≤ length run.cluster.world.sent = omega arith in
    let delivered = c.loop-delivered.delivered in
    let most = c.args.options.now.most in
    let below : delivered < most = omega arith in
    let same = same_run_setting m.next m.answers m.begin m.image c.args.options.now c.args.self.now.cluster run.cluster c.loop-delivered.invariant.setup in
    λ play follows.
    let so_far = c.loop-delivered.invariant.so_far play follows in
    let now = so_far.said.play in
    let said = c.in_err-deliver.ensures.printed now so_far.follows in
    says_failed _ _ _ _ (drained s c.args.line most play) c.from_residual.result c.from_residual.ensures.0
    (fails run.cluster.world c.deliver.new.self.cluster.world run.settled c.deliver.new.self.settled
    (g.W.Write.contents c.args.writer.now) (g.W.Write.contents c.loop-delivered.writer) (g.W.Write.contents c.deliver.new.writer)
    (drained s c.args.line most play) (λ (p : Play). drained s c.args.line (most - delivered) p) so_far
    (event_said s c.args.line now (NodeStep (Deliver message))) (λ (p : Play). drained s c.args.line (most - (delivered + 1)) p)
    (drained_more s c.args.line now most delivered message below
    (least_is_left run.cluster.world run.settled now so_far.follows message least.ensures.least least.ensures.from_one within least.ensures.unsettled))
    (rw same at said))

pub loop-delivered-preserved : goal.loop-delivered-preserved
loop-delivered-preserved g c =
    let m = g.M.Machine in
    let s = run_setting m.next m.answers m.begin m.image c.args.self.now.cluster c.args.options.now in
    let run = c.loop-delivered.self in
    let least = c.least-message in
    let message = least.result in
    let within : message ≤ length run.cluster.world.sent = omega arith in
    let delivered = c.loop-delivered.delivered in
    let most = c.args.options.now.most in
    let below : delivered < most = omega arith in
    let same = same_run_setting m.next m.answers m.begin m.image c.args.options.now c.args.self.now.cluster run.cluster c.loop-delivered.invariant.setup in
    record {
      parts = c.in_ok-deliver.ensures.parts;
      setup = c.deliver.ensures.setup ∙ c.loop-delivered.invariant.setup;
      counts = c.in_ok-deliver.ensures.counts ∙ c.loop-delivered.invariant.counts;
      so_far = λ play follows.
          let so_far = c.loop-delivered.invariant.so_far play follows in
          let now = so_far.said.play in
          let said = c.in_ok-deliver.ensures.printed now so_far.follows in
          let here = rw same at said in
          goes_on run.cluster.world c.deliver.new.self.cluster.world run.settled c.deliver.new.self.settled
          (g.W.Write.contents c.args.writer.now) (g.W.Write.contents c.loop-delivered.writer) (g.W.Write.contents c.deliver.new.writer)
          (drained s c.args.line most play) (λ (p : Play). drained s c.args.line (most - delivered) p) so_far
          (event_said s c.args.line now (NodeStep (Deliver message))) (λ (p : Play). drained s c.args.line (most - (delivered + 1)) p)
          (drained_more s c.args.line now most delivered message below
          (least_is_left run.cluster.world run.settled now so_far.follows message least.ensures.least least.ensures.from_one within least.ensures.unsettled))
          here.0 here.1;
    }

pub returns-then-least-messages-clause-printed : goal.returns-then-least-messages-clause-printed
returns-then-least-messages-clause-printed g c =
    let m = g.M.Machine in
    let s = run_setting m.next m.answers m.begin m.image c.args.self.now.cluster c.args.options.now in
    let run = c.loop-delivered.self in
    let least = c.least in
    let past : length run.cluster.world.sent < least.result = omega arith in
    λ play follows.
    let so_far = c.loop-delivered.invariant.so_far play follows in
    let now = so_far.said.play in
    let most = c.args.options.now.most - c.loop-delivered.delivered in
    ends run.cluster.world run.settled (g.W.Write.contents c.args.writer.now) (g.W.Write.contents c.loop-delivered.writer)
    (drained s c.args.line c.args.options.now.most play) (λ (p : Play). drained s c.args.line most p) so_far tt
    (drained_none s c.args.line now most (none_is_left run.cluster.world run.settled now so_far.follows least.result least.ensures.least past))

pub returns-clause-printed : goal.returns-clause-printed
returns-clause-printed g c =
    let m = g.M.Machine in
    let s = run_setting m.next m.answers m.begin m.image c.args.self.now.cluster c.args.options.now in
    let run = c.loop-delivered.self in
    let least = c.least in
    let within : least.result ≤ length run.cluster.world.sent = omega arith in
    let delivered = c.loop-delivered.delivered in
    let most = c.args.options.now.most in
    λ play follows.
    let so_far = c.loop-delivered.invariant.so_far play follows in
    let now = so_far.said.play in
    ends_by run.cluster.world run.cluster.world run.settled run.settled
    (g.W.Write.contents c.args.writer.now) (g.W.Write.contents c.loop-delivered.writer) (g.W.Write.contents c.print.new.writer)
    (drained s c.args.line most play) (λ (p : Play). drained s c.args.line (most - delivered) p) so_far
    (note_said now (DrainLimit c.args.line)) c.print.result
    (drained_full s c.args.line now most delivered least.result c.loop-delivered-test.false
    (least_is_left run.cluster.world run.settled now so_far.follows least.result least.ensures.least least.ensures.from_one within least.ensures.unsettled))
    (says_by run.cluster.world run.settled _ _ (note_said now (DrainLimit c.args.line)) c.print.result so_far.follows
    (note_written now _ _ (DrainLimit c.args.line) c.print.result c.print.ensures.printed))
