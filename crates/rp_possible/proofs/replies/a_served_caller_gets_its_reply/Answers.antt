-- By computing the result of each event.
use Rattle.rp_possible.proofs.Served.{served_later}
use Rattle.rp_possible.proofs.replies.a_served_caller_gets_its_reply.Goals as goal

pub returns : goal.returns
returns g c = λ next replies late begin waits serves leader first second differ is_leader. served_later next replies late begin waits serves leader first second differ is_leader
