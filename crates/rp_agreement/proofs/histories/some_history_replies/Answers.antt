-- By computing the result of each event.
use Rattle.std.proofs.Common.{pos, [], ◌∷◌, refl}
use Rattle.rp_base.specs.declared.reply.Reply.TheVariants.{Value}
use Rattle.rp_machine.specs.TallyRule.{tally_next, tally_answers}
use Rattle.rp_agreement.proofs.Playing.{replies}
use Rattle.rp_agreement.proofs.histories.some_history_replies.Goals as goal

pub returns-clause-any : goal.returns-clause-any
returns-clause-any g c = λ begin. replies g.M.Machine.next g.M.Machine.answers begin

pub returns-clause-tally : goal.returns-clause-tally
returns-clause-tally g c = replies tally_next tally_answers (pos 0 ∷ []) (Value (pos 5)) refl
