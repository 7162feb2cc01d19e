-- The laws of agreement, of an input and of a stop within its step.
use Rattle.std.proofs.Common.{inl, inr, refl}
use Rattle.rp_agreement.specs.Answered.{setting_for}
use Rattle.rp_board.proofs.Goodness.{node_good, task_good}
use Rattle.rp_board.proofs.laws.events_keep.Goals as goal

pub returns : goal.returns
returns g c = let m = g.M.Machine in λ config program.
    let s = setting_for m.next m.answers m.begin config program in
    record {
      nodes = λ x input done node after task sent later right member good given results moves. elim results [
        | inl resulted ↦
            let step = c.nodes_send_right_packets.ensures.input config program x input done node sent right member good.kept.sound (good.ranged x) good.packets given resulted in (
              node_good s x done node after task sent later good step moves
                  (c.node_events_keep_replies.ensures.input s x input done node after task sent later right member good.kept given resulted moves),
              step.own,
            )
        | inr cut ↦
            let step = c.nodes_send_right_packets.ensures.cut config program x cut.0 input done node sent right member good.kept.sound (good.ranged x) good.packets given cut.1 in (
              node_good s x done node after task sent later good step moves
                  (c.node_events_keep_replies.ensures.cut s x cut.0 input done node after task sent later right member good.kept given cut.1 moves),
              step.own,
            )
      ];
      tasks = λ t input done node task moved sent later good given resulted moves.
          let right = c.tasks_send_right_packets.ensures config t input (task t) done sent (good.kept.own t) given resulted in (
            task_good s t done node task moved sent later good (λ k h. (right k h).0) moves
                (c.task_events_keep_replies.ensures s t input done node node task moved sent later good.kept given resulted (λ k. refl) moves),
            λ k h. (right k h).1,
          );
    }
