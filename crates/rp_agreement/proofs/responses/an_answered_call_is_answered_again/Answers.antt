-- The reply is kept, since no call is answered twice.
use Rattle.std.proofs.Common.{◌≡◌, true, Option, Ok, refl, ap, ◌∙◌, eq-eqb}
use Rattle.std.proofs.lemmas.Bool.{and_from, cond-true}
use Rattle.rp_base.specs.declared.action.Action.{Action}
use Rattle.rp_base.specs.declared.action.Action.TheVariants.{Call}
use Rattle.rp_base.specs.declared.reply.Reply.{Reply as CallReply}
use Rattle.rp_base.specs.Records.{applied_of}
use Rattle.rp_machine.specs.Replay.{counted_of, replay_answers}
use Rattle.rp_model.specs.Arrivals.{on_numbered}
use Rattle.rp_model.specs.Node.{running_node}
use Rattle.rp_model.specs.Plans.{turn_of}
use Rattle.rp_agreement.specs.Answered.{setting_for}
use Rattle.rp_model.specs.Receiving.{is_for_node}
use Rattle.rp_model.specs.declared.effect.Dropped.TheVariants.{Foreign}
use Rattle.rp_model.specs.declared.plan.Plan.{Plan}
use Rattle.rp_model.specs.declared.plan.Plan.TheVariants as plans
use Rattle.rp_model.specs.Tasks.{asks}
use Rattle.rp_agreement.specs.Answered.{named}
use Rattle.rp_agreement.proofs.AnswerAgain.{reply_is_kept}
use Rattle.rp_agreement.proofs.responses.an_answered_call_is_answered_again.Goals as goal

pub returns : goal.returns
returns g c =
    let m = g.M.Machine in
    λ config program me task number object operation arg records running answer right above is there last.
    let applied = applied_of records in
    let call : Action = Call task number object operation arg in
    let kept = counted_of m.next m.answers (m.begin program) applied in
    let given = replay_answers m.next m.answers (m.begin program) applied in
    let stays = reply_is_kept task number kept given answer above last is there
    (λ other other_is other_there. c.a_call_has_one_answer.ensures program applied (named task number) other answer right (other_is, other_there) (is, there)) in
    let mine : is_for_node config me (asks task me call) ≡ true = and_from _ _ (and_from _ _ (eq-eqb me me refl) refl) refl in
    let node = running_node (setting_for m.next m.answers m.begin config program) me records running in
    ap (λ (plan : Plan). Ok (turn_of node plan))
    (cond-true (is_for_node config me (asks task me call)) _ (plans.Pass Foreign) mine
    ∙ ap (λ (reply : Option CallReply). on_numbered node task number call reply) stays)
