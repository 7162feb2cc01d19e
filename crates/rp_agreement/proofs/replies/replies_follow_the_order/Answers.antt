-- By induction on the events; and the kth reply is to the kth call.
use Rattle.rp_agreement.specs.Computed.{order_of}
use Rattle.rp_agreement.specs.Answered.{answers_of}
use Rattle.rp_agreement.proofs.KeptWorlds.{kept_in, reply_named, reply_has}
use Rattle.rp_agreement.proofs.replies.replies_follow_the_order.Goals as goal

pub returns-clause-histories : goal.returns-clause-histories
returns-clause-histories g c = λ s events world history. kept_in s events world (c.the_opening_is_sound.ensures s.config.nodes) history

pub returns-clause-replies : goal.returns-clause-replies
returns-clause-replies g c = λ s node task sent kept t k answer is.
    let answered = kept.answered t in
    (reply_named (answers_of s (order_of s.config.nodes sent)) t (task t) k answer answered is, answered.replied answer (reply_has (task t).replies k answer is))
