-- The order, read off the packets.
use Rattle.std.specs.Prelude.{ℕ, zero, suc, nat_eq, ◌&&◌, Option, Some, None, List, [], length}
use Rattle.std.specs.Prelude.{find, filter_map}
use Rattle.std.specs.Option.{option_map}
use Rattle.rp_base.specs.Promises.{HeardVote, makes_majority}
use Rattle.rp_base.specs.Records.{unless_missing}
use Rattle.rp_base.specs.declared.action.Action.{Action}
use Rattle.rp_codec.specs.Message.{Message}
use Rattle.rp_codec.specs.declared.packet.Party.{Party}
use Rattle.rp_codec.specs.declared.packet.Party.TheVariants.{Node, Task, Audit}
use Rattle.rp_codec.specs.declared.packet.Body.{Body}
use Rattle.rp_codec.specs.declared.packet.Body.TheVariants.{Accepted}

-- the vote of this node that a body reports, if it reports one
abbrev pub vote_by : ℕ → Body → Option HeardVote
vote_by a (Accepted position ballot action) =
    Some (a, position, record { ballot = ballot; action = action })
vote_by a _ = None

-- the vote in a packet from node to node
abbrev pub vote_between : Party → Party → Body → Option HeardVote
vote_between (Node a) (Node to) body = vote_by a body
vote_between (Node a) (Task t) body = None
vote_between (Node a) Audit body = None
vote_between (Task t) to body = None
vote_between Audit to body = None

-- all votes that were sent
abbrev pub votes_sent : List Message → List HeardVote
votes_sent sent = filter_map (λ m. vote_between m.from m.to m.body) sent

-- the action decided at a position: that of a vote which a majority cast
abbrev pub decided_at : ℕ → List Message → ℕ → Option Action
decided_at nodes sent i =
    option_map (λ h. h.2.action)
    (find (λ h. nat_eq h.1 i && makes_majority nodes i h.2 (votes_sent sent)) (votes_sent sent))

-- the actions decided from a position on without a gap, n at most
abbrev pub decided_run : ℕ → List Message → ℕ → ℕ → List Action
decided_run nodes sent zero i = []
decided_run nodes sent (suc most) i =
    unless_missing (decided_at nodes sent i) (decided_run nodes sent most (suc i))

-- The order: the longest list whose ith action is decided at i. (It is no longer than the packets.)
abbrev pub order_of : ℕ → List Message → List Action
order_of nodes sent = decided_run nodes sent (length sent) 1
