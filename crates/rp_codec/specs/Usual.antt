-- The packets of the usual kinds, by the fields that are read from their texts.
use Rattle.std.specs.Prelude.{◌≡◌, ℕ, List, [], None, Ok}
use Rattle.rp_base.specs.Number.{IsNode, IsPosition}
use Rattle.rp_base.specs.Ballot.{IsBallot}
use Rattle.rp_base.specs.declared.action.Action.{Action}
use Rattle.rp_base.specs.declared.action.Action.TheVariants as actions
use Rattle.rp_codec.specs.Message.{Message}
use Rattle.rp_codec.specs.declared.packet.Body.{Body}
use Rattle.rp_codec.specs.declared.packet.Body.TheVariants as bodies
use Rattle.rp_codec.specs.declared.packet.Party.{Party}
use Rattle.rp_codec.specs.declared.packet.Party.TheVariants.{Node, Task}
use Rattle.rp_codec.specs.declared.kind.Kind.{Kind}
use Rattle.rp_codec.specs.declared.version.Version.TheVariants.{V2}
use Rattle.rp_codec.specs.Reading.{◌>>=◌, Read, placed_vote_at, packet_at, body_at}
use Rattle.rp_codec.specs.declared.usual_texts.Header.{Header}
use Rattle.rp_codec.specs.declared.usual_texts.SentCall.{SentCall}
use Rattle.rp_codec.specs.declared.usual_texts.SentDecision.{SentDecision}
use Rattle.rp_codec.specs.declared.usual_texts.SentReply.{SentReply}

-- each number of the header is within its range
abbrev pub IsHeader : Header → Type 0
IsHeader header = IsNode header.from × IsNode header.to × IsPosition header.position
    × IsBallot header.ballot

-- a packet of version 2 and of this kind, from one party to the other: its body is what these bytes
-- are read as
abbrev pub said_by : Kind → Party → Party → List ℕ → Read Message
said_by kind from to rest =
    body_at V2 kind from rest >>= λ body.
    Ok (record { from = from; to = to; body = body.0 }, body.1)

-- the bytes begin so: after the version, the kind and the parties the rest is left
abbrev pub IsHead : List ℕ → Kind → Party → Party → List ℕ → Type 0
IsHead bytes kind from to rest = packet_at bytes ≡ said_by kind from to rest

-- a head, and then a vote to the end
abbrev pub IsVoteText : List ℕ → Kind → Header → Action → Type 0
IsVoteText bytes kind header action =
    (rest : List ℕ) × IsHead bytes kind (Node header.from) (Node header.to) rest
    × (placed_vote_at V2 rest
    ≡ Ok (
      record {
        position = header.position;
        vote = record { ballot = header.ballot; action = action };
      },
      [],
    ))

-- the packet between the two nodes of a header that says this
abbrev pub between : Header → Body → Message
between header body = record { from = Node header.from; to = Node header.to; body = body }

abbrev pub prepare_at : Header → Message
prepare_at header = between header (bodies.Prepare header.position header.ballot)

abbrev pub promise_at : Header → Message
promise_at header = between header (bodies.Promise header.position header.ballot None)

abbrev pub accept_at : Header → Action → Message
accept_at header action = between header (bodies.Accept header.position header.ballot action)

abbrev pub accepted_at : Header → Action → Message
accepted_at header action = between header (bodies.Accepted header.position header.ballot action)

abbrev pub decided_of : SentDecision → Message
decided_of d =
    record { from = Node d.from; to = Node d.to; body = bodies.Decided d.position d.action }

abbrev pub call_sent : SentCall → Message
call_sent c = record { from = Task c.task; to = Node c.to; body = bodies.Call c.action }

abbrev pub reply_sent : SentReply → Message
reply_sent r = record { from = Node r.from; to = Task r.task; body = bodies.Reply r.number r.reply }

-- the action is a call
abbrev pub IsCallAction : Action → Type 0
IsCallAction actions.Noop = ⊥
IsCallAction (actions.Call task number object operation arg) = Unit {0}
IsCallAction (actions.Interrupt source occurrence) = ⊥
IsCallAction (actions.Tick now) = ⊥
