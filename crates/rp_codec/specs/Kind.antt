-- The kinds of packets, and their numbers.
use Rattle.std.specs.Prelude.{ℕ, List, ◌==◌, if◌then◌else◌, Option, Some, None, IsSome, slice_get}
use Rattle.std.specs.Prelude.{option_and_then}
use Rattle.rp_codec.specs.declared.packet.Body.{Body}
use Rattle.rp_codec.specs.declared.packet.Body.TheVariants as bodies
use Rattle.rp_codec.specs.declared.kind.Kind.{Kind}
use Rattle.rp_codec.specs.declared.kind.Kind.TheVariants.{Call, Prepare, Promise, Accept, Accepted}
use Rattle.rp_codec.specs.declared.kind.Kind.TheVariants.{Decided, Ask, Nack, Reply, Report}
use Rattle.rp_codec.specs.declared.kind.Kind.TheVariants.{PrepareRange, PromiseRange}

-- the number of a kind
abbrev pub number_of_kind : Kind → ℕ
number_of_kind Call = 1
number_of_kind Prepare = 2
number_of_kind Promise = 3
number_of_kind Accept = 4
number_of_kind Accepted = 5
number_of_kind Decided = 6
number_of_kind Ask = 7
number_of_kind Nack = 8
number_of_kind Reply = 9
number_of_kind Report = 10
number_of_kind PrepareRange = 12
number_of_kind PromiseRange = 13

-- the kind of a body
abbrev pub kind_of_body : Body → Kind
kind_of_body (bodies.Call action) = Call
kind_of_body (bodies.Prepare position ballot) = Prepare
kind_of_body (bodies.Promise position ballot last) = Promise
kind_of_body (bodies.Accept position ballot action) = Accept
kind_of_body (bodies.Accepted position ballot action) = Accepted
kind_of_body (bodies.Decided position action) = Decided
kind_of_body (bodies.Ask position) = Ask
kind_of_body (bodies.Nack position ballot bound) = Nack
kind_of_body (bodies.Reply number reply) = Reply
kind_of_body (bodies.Report first applied actions) = Report
kind_of_body (bodies.PrepareRange range ballot) = PrepareRange
kind_of_body (bodies.PromiseRange range ballot votes) = PromiseRange

-- the kind of a number
abbrev pub kind_of : ℕ → Option Kind
kind_of n =
    if n == 1 then Some Call else
    if n == 2 then Some Prepare else
    if n == 3 then Some Promise else
    if n == 4 then Some Accept else
    if n == 5 then Some Accepted else
    if n == 6 then Some Decided else
    if n == 7 then Some Ask else
    if n == 8 then Some Nack else
    if n == 9 then Some Reply else
    if n == 10 then Some Report else
    if n == 12 then Some PrepareRange else
    if n == 13 then Some PromiseRange else
    None

-- the kind that bytes name: it is in the second byte of each text
abbrev pub kind_in : List ℕ → Option Kind
kind_in bytes = option_and_then kind_of (slice_get bytes 1)

-- the numbers of the kinds
abbrev pub IsKind : ℕ → Type 0
IsKind n = IsSome (kind_of n)

-- who sends or receives a packet: a node, a task or the audit
pub data Role : Type 0 where
  ANode : Role
  ATask : Role
  TheAudit : Role

-- calls come from tasks, and all else from nodes
abbrev pub sender_role : Kind → Role
sender_role Call = ATask
sender_role _ = ANode

-- replies go to tasks, reports to the audit, and all else to nodes
abbrev pub receiver_role : Kind → Role
receiver_role Reply = ATask
receiver_role Report = TheAudit
receiver_role _ = ANode
