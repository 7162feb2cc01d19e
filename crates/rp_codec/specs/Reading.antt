-- Reading from left to right, up to the first fault.
use Rattle.std.specs.Prelude.{◌≡◌, ℕ, zero, suc, ◌+◌, ◌-◌, ◌^◌, ◌%◌, Bool, true, false, ◌&&◌, List}
use Rattle.std.specs.Prelude.{[], ◌∷◌, length, take, drop, Option, Some, None, Result, Ok, Err}
use Rattle.std.specs.Prelude.{nat_lt, nat_le, ◌==◌, if◌then◌else◌, ℤ}
use Rattle.std.specs.Int.{Width, w16, w32, w64, byte_len, from_be_bytes, cast_signed}
use Rattle.rp_base.specs.declared.fault.PacketReason.{PacketReason}
use Rattle.rp_base.specs.declared.fault.PacketReason.TheVariants.{Short, Long}
use Rattle.rp_base.specs.declared.fault.PacketReason.TheVariants.{Version as UnknownVersion}
use Rattle.rp_base.specs.declared.fault.PacketReason.TheVariants.{Kind as UnknownKind, Field}
use Rattle.rp_base.specs.declared.action.Operation.{Operation}
use Rattle.rp_base.specs.declared.action.Operation.TheVariants as operations
use Rattle.rp_base.specs.declared.action.Action.{Action}
use Rattle.rp_base.specs.declared.action.Action.TheVariants as actions
use Rattle.rp_base.specs.declared.reply.Reply.{Reply}
use Rattle.rp_base.specs.declared.reply.Reply.TheVariants as replies
use Rattle.rp_base.specs.declared.record.Vote.{Vote}
use Rattle.rp_base.specs.declared.placed.PlacedVote.{PlacedVote}
use Rattle.rp_base.specs.Number.{in_range}
use Rattle.rp_base.specs.Ranges.{Range, end_of}
use Rattle.rp_codec.specs.declared.packet.Party.{Party}
use Rattle.rp_codec.specs.declared.packet.Party.TheVariants.{Node, Task, Audit}
use Rattle.rp_codec.specs.declared.packet.Body.{Body}
use Rattle.rp_codec.specs.declared.packet.Body.TheVariants as bodies
use Rattle.rp_codec.specs.declared.kind.Kind.{Kind}
use Rattle.rp_codec.specs.declared.kind.Kind.TheVariants.{Call, Prepare, Promise, Accept, Accepted}
use Rattle.rp_codec.specs.declared.kind.Kind.TheVariants.{Decided, Ask, Nack, Reply as Answer}
use Rattle.rp_codec.specs.declared.kind.Kind.TheVariants.{Report, PrepareRange, PromiseRange}
use Rattle.rp_codec.specs.Kind.{kind_of, Role, ANode, ATask, TheAudit, sender_role, receiver_role}
use Rattle.rp_codec.specs.declared.version.Version.{Version}
use Rattle.rp_codec.specs.declared.version.Version.TheVariants.{V1, V2}
use Rattle.rp_codec.specs.Version.{version_of}
use Rattle.rp_codec.specs.Message.{Message, report_len}

infixl 10 ◌>>=◌
abbrev pub ◌>>=◌ : {A B : Type 0} → Result A PacketReason → (A → Result B PacketReason)
    → Result B PacketReason
(Ok x) >>= f = f x
(Err e) >>= f = Err e

-- What reading a field gives: its value and the bytes after it.
abbrev pub Read : Type 0 → Type 0
Read A = Result (A × List ℕ) PacketReason

-- What a function returned, and the bytes that it left, are what reading gives.
abbrev pub Gives : {A : Type 0} → Result A PacketReason → List ℕ → Read A → Type 0
Gives (Ok x) after read = read ≡ Ok (x, after)
Gives (Err e) after read = read ≡ Err e

-- a whole field, where it keeps its rule
abbrev pub ruled : {A : Type 0} → Bool → A → Result A PacketReason
ruled keeps x = if keeps then Ok x else Err Field

-- ---- numbers and their rules

abbrev pub byte_at : List ℕ → Read ℕ
byte_at [] = Err Short
byte_at (b ∷ rest) = Ok (b, rest)

unfoldable pub number_at : Width → List ℕ → Read ℕ
number_at w bytes =
    if nat_lt (length bytes) (byte_len w)
    then Err Short else Ok (from_be_bytes w (take (byte_len w) bytes), drop (byte_len w) bytes)

unfoldable pub signed_at : List ℕ → Read ℤ
signed_at bytes = do
  n ← number_at w64 bytes
  Ok (cast_signed w64 n.0, n.1)

abbrev pub is_node : ℕ → Bool
is_node n = nat_le 1 n && nat_le n 7

abbrev pub is_index : ℕ → Bool
is_index n = nat_le 1 n && nat_le n 8

abbrev pub is_positive : ℕ → Bool
is_positive n = nat_le 1 n

abbrev pub is_ballot : ℕ → Bool
is_ballot n = nat_le 9 n && nat_lt n (2 ^ 35) && nat_le 1 (n % 8)

unfoldable pub index_at : List ℕ → Read ℕ
index_at bytes = do
  n ← byte_at bytes
  ruled (is_index n.0) n

unfoldable pub count_at : List ℕ → Read ℕ
count_at bytes = do
  n ← number_at w32 bytes
  ruled (is_positive n.0) n

unfoldable pub position_at : List ℕ → Read ℕ
position_at bytes = do
  n ← number_at w16 bytes
  ruled (is_positive n.0) n

unfoldable pub ballot_at : List ℕ → Read ℕ
ballot_at bytes = do
  n ← number_at w64 bytes
  ruled (is_ballot n.0) n

-- n positions from the first on are a range
abbrev pub is_range : ℕ → ℕ → Bool
is_range first count = in_range 1 64 count && nat_le (first + count) (2 ^ 16)

unfoldable pub range_at : List ℕ → Read Range
range_at bytes = do
  first ← position_at bytes
  n ← byte_at first.1
  count ← ruled (is_range first.0 n.0) n
  Ok (record { first = first.0; count = count.0 }, count.1)

-- a position and a ballot
unfoldable pub place_at : List ℕ → Read (ℕ × ℕ)
place_at bytes = do
  position ← position_at bytes
  ballot ← ballot_at position.1
  Ok ((position.0, ballot.0), ballot.1)

-- a range and a ballot
unfoldable pub range_place_at : List ℕ → Read (Range × ℕ)
range_place_at bytes = do
  range ← range_at bytes
  ballot ← ballot_at range.1
  Ok ((range.0, ballot.0), ballot.1)

-- ---- actions

abbrev pub indexed_at : (ℕ → Operation) → List ℕ → Read Operation
indexed_at operation bytes = do
  index ← index_at bytes
  Ok (operation index.0, index.1)

-- an entry's index: 0 in version 1, where it means entry 1, and 1 to 4 in version 2
abbrev pub is_entry_byte : Version → ℕ → Bool
is_entry_byte V1 n = n == 0
is_entry_byte V2 n = nat_le 1 n && nat_le n 4

abbrev pub entry_of : Version → ℕ → ℕ
entry_of V1 n = 1
entry_of V2 n = n

abbrev pub entry_at : Version → List ℕ → Read Operation
entry_at version bytes = do
  index ← byte_at bytes
  right ← ruled (is_entry_byte version index.0) index
  Ok (operations.Entry (entry_of version right.0), right.1)

abbrev pub operation_of_kind : Version → ℕ → List ℕ → Read Operation
operation_of_kind version kind bytes =
    if kind == 1 then indexed_at operations.Function bytes else
    if kind == 2 then indexed_at operations.Procedure bytes else
    if kind == 3 then entry_at version bytes else
    if kind == 4 then indexed_at operations.SetTimer bytes else
    if kind == 5 then indexed_at operations.CancelTimer bytes else
    Err Field

unfoldable pub operation_at : Version → List ℕ → Read Operation
operation_at version bytes = do
  kind ← byte_at bytes
  operation_of_kind version kind.0 kind.1

-- a task's call, after its task
unfoldable pub call_at : Version → ℕ → List ℕ → Read Action
call_at version task bytes = do
  number ← count_at bytes
  object ← index_at number.1
  operation ← operation_at version object.1
  arg ← signed_at operation.1
  Ok (actions.Call task number.0 object.0 operation.0 arg.0, arg.1)

unfoldable pub interrupt_at : List ℕ → Read Action
interrupt_at bytes = do
  source ← index_at bytes
  occurrence ← count_at source.1
  Ok (actions.Interrupt source.0 occurrence.0, occurrence.1)

unfoldable pub tick_at : List ℕ → Read Action
tick_at bytes = do
  now ← number_at w32 bytes
  Ok (actions.Tick now.0, now.1)

unfoldable pub any_call_at : Version → List ℕ → Read Action
any_call_at version bytes = do
  task ← index_at bytes
  call_at version task.0 task.1

abbrev pub action_of_tag : Version → ℕ → List ℕ → Read Action
action_of_tag version tag bytes =
    if tag == 0 then Ok (actions.Noop, bytes) else
    if tag == 1 then any_call_at version bytes else
    if tag == 2 then interrupt_at bytes else
    if tag == 3 then tick_at bytes else
    Err Field

unfoldable pub action_at : Version → List ℕ → Read Action
action_at version bytes = do
  tag ← byte_at bytes
  action_of_tag version tag.0 tag.1

abbrev pub is_task : Party → ℕ → Bool
is_task (Node n) task = false
is_task (Task t) task = task == t
is_task Audit task = false

-- an action that is a call of this party
unfoldable pub own_call_at : Version → Party → List ℕ → Read Action
own_call_at version from bytes = do
  tag ← byte_at bytes
  call ← ruled (tag.0 == 1) tag
  task ← index_at call.1
  own ← ruled (is_task from task.0) task
  call_at version own.0 own.1

-- n actions, one after the other
unfoldable pub actions_at : Version → ℕ → List ℕ → Read (List Action)
actions_at version zero bytes = Ok ([], bytes)
actions_at version (suc more) bytes = do
  action ← action_at version bytes
  others ← actions_at version more action.1
  Ok (action.0 ∷ others.0, others.1)

-- a vote with its position
unfoldable pub placed_vote_at : Version → List ℕ → Read PlacedVote
placed_vote_at version bytes = do
  place ← place_at bytes
  action ← action_at version place.1
  Ok (
    record { position = place.0.0; vote = record { ballot = place.0.1; action = action.0 } },
    action.1,
  )

-- ---- replies

unfoldable pub value_at : List ℕ → Read Reply
value_at bytes = do
  value ← signed_at bytes
  Ok (replies.Value value.0, value.1)

abbrev pub truth_of_flag : ℕ → List ℕ → Read Reply
truth_of_flag flag bytes =
    if flag == 0 then Ok (replies.Truth false, bytes) else
    if flag == 1 then Ok (replies.Truth true, bytes) else
    Err Field

unfoldable pub truth_at : List ℕ → Read Reply
truth_at bytes = do
  flag ← byte_at bytes
  truth_of_flag flag.0 flag.1

abbrev pub reply_of_tag : ℕ → List ℕ → Read Reply
reply_of_tag tag bytes =
    if tag == 1 then value_at bytes else
    if tag == 2 then truth_at bytes else
    if tag == 3 then Ok (replies.ConstraintError, bytes) else
    if tag == 4 then Ok (replies.ProgramError, bytes) else
    if tag == 5 then Ok (replies.NoSuchOperation, bytes) else
    Err Field

unfoldable pub reply_at : List ℕ → Read Reply
reply_at bytes = do
  tag ← byte_at bytes
  reply_of_tag tag.0 tag.1

-- ---- bodies

-- a ballot below this one
unfoldable pub lower_ballot_at : ℕ → List ℕ → Read ℕ
lower_ballot_at ballot bytes = do
  lower ← ballot_at bytes
  ruled (nat_lt lower.0 ballot) lower

-- a ballot above this one
unfoldable pub higher_ballot_at : ℕ → List ℕ → Read ℕ
higher_ballot_at ballot bytes = do
  higher ← ballot_at bytes
  ruled (nat_lt ballot higher.0) higher

-- a vote in a ballot below this one
unfoldable pub vote_at : Version → ℕ → List ℕ → Read Vote
vote_at version ballot bytes = do
  voted ← lower_ballot_at ballot bytes
  action ← action_at version voted.1
  Ok (record { ballot = voted.0; action = action.0 }, action.1)

unfoldable pub last_vote_at : Version → ℕ → List ℕ → Read (Option Vote)
last_vote_at version ballot bytes = do
  vote ← vote_at version ballot bytes
  Ok (Some vote.0, vote.1)

abbrev pub last_of_flag : Version → ℕ → ℕ → List ℕ → Read (Option Vote)
last_of_flag version ballot flag bytes =
    if flag == 0 then Ok (None, bytes) else
    if flag == 1 then last_vote_at version ballot bytes else
    Err Field

unfoldable pub last_at : Version → ℕ → List ℕ → Read (Option Vote)
last_at version ballot bytes = do
  flag ← byte_at bytes
  last_of_flag version ballot flag.0 flag.1

unfoldable pub prepare_at : List ℕ → Read Body
prepare_at bytes = do
  place ← place_at bytes
  Ok (bodies.Prepare place.0.0 place.0.1, place.1)

unfoldable pub promise_at : Version → List ℕ → Read Body
promise_at version bytes = do
  place ← place_at bytes
  last ← last_at version place.0.1 place.1
  Ok (bodies.Promise place.0.0 place.0.1 last.0, last.1)

unfoldable pub accept_at : Version → List ℕ → Read Body
accept_at version bytes = do
  vote ← placed_vote_at version bytes
  Ok (bodies.Accept vote.0.position vote.0.vote.ballot vote.0.vote.action, vote.1)

unfoldable pub accepted_at : Version → List ℕ → Read Body
accepted_at version bytes = do
  vote ← placed_vote_at version bytes
  Ok (bodies.Accepted vote.0.position vote.0.vote.ballot vote.0.vote.action, vote.1)

unfoldable pub decided_at : Version → List ℕ → Read Body
decided_at version bytes = do
  position ← position_at bytes
  action ← action_at version position.1
  Ok (bodies.Decided position.0 action.0, action.1)

unfoldable pub ask_at : List ℕ → Read Body
ask_at bytes = do
  position ← position_at bytes
  Ok (bodies.Ask position.0, position.1)

unfoldable pub nack_at : List ℕ → Read Body
nack_at bytes = do
  place ← place_at bytes
  bound ← higher_ballot_at place.0.1 place.1
  Ok (bodies.Nack place.0.0 place.0.1 bound.0, bound.1)

unfoldable pub answer_at : List ℕ → Read Body
answer_at bytes = do
  number ← count_at bytes
  reply ← reply_at number.1
  Ok (bodies.Reply number.0 reply.0, reply.1)

unfoldable pub task_call_at : Version → Party → List ℕ → Read Body
task_call_at version from bytes = do
  action ← own_call_at version from bytes
  Ok (bodies.Call action.0, action.1)

-- a report of as many actions as its numbers say
unfoldable pub report_at : Version → List ℕ → Read Body
report_at version bytes = do
  first ← position_at bytes
  applied ← number_at w16 first.1
  count ← byte_at applied.1
  right ← ruled (count.0 == report_len first.0 applied.0) count
  actions ← actions_at version right.0 right.1
  Ok (bodies.Report first.0 applied.0 actions.0, actions.1)

unfoldable pub prepare_range_at : List ℕ → Read Body
prepare_range_at bytes = do
  place ← range_place_at bytes
  Ok (bodies.PrepareRange place.0.0 place.0.1, place.1)

-- a vote in a ballot below this one, at a position that is the first or a later one, and below the
-- end
unfoldable pub reported_at : Version → ℕ → ℕ → ℕ → List ℕ → Read PlacedVote
reported_at version ballot end first bytes = do
  n ← position_at bytes
  position ← ruled (nat_le first n.0 && nat_lt n.0 end) n
  vote ← vote_at version ballot position.1
  Ok (record { position = position.0; vote = vote.0 }, vote.1)

-- n such votes, each at a position above the one before
unfoldable pub votes_at : Version → ℕ → ℕ → ℕ → ℕ → List ℕ → Read (List PlacedVote)
votes_at version ballot end first zero bytes = Ok ([], bytes)
votes_at version ballot end first (suc more) bytes = do
  placed ← reported_at version ballot end first bytes
  others ← votes_at version ballot end (suc placed.0.position) more placed.1
  Ok (placed.0 ∷ others.0, others.1)

-- how many votes there are, at most as many as the range has positions, and each of them
unfoldable pub reported_votes_at : Version → Range → ℕ → List ℕ → Read (List PlacedVote)
reported_votes_at version range ballot bytes = do
  n ← byte_at bytes
  count ← ruled (nat_le n.0 range.count) n
  votes_at version ballot (end_of range) range.first count.0 count.1

unfoldable pub promise_range_at : Version → List ℕ → Read Body
promise_range_at version bytes = do
  place ← range_place_at bytes
  votes ← reported_votes_at version place.0.0 place.0.1 place.1
  Ok (bodies.PromiseRange place.0.0 place.0.1 votes.0, votes.1)

unfoldable pub body_at : Version → Kind → Party → List ℕ → Read Body
body_at version Call from bytes = task_call_at version from bytes
body_at version Prepare from bytes = prepare_at bytes
body_at version Promise from bytes = promise_at version bytes
body_at version Accept from bytes = accept_at version bytes
body_at version Accepted from bytes = accepted_at version bytes
body_at version Decided from bytes = decided_at version bytes
body_at version Ask from bytes = ask_at bytes
body_at version Nack from bytes = nack_at bytes
body_at version Answer from bytes = answer_at bytes
body_at version Report from bytes = report_at version bytes
body_at version PrepareRange from bytes = prepare_range_at bytes
body_at version PromiseRange from bytes = promise_range_at version bytes

-- ---- packets

unfoldable pub node_at : List ℕ → Read Party
node_at bytes = do
  n ← byte_at bytes
  node ← ruled (is_node n.0) n
  Ok (Node node.0, node.1)

-- task t is 16 + t
unfoldable pub task_at : List ℕ → Read Party
task_at bytes = do
  n ← byte_at bytes
  task ← ruled (nat_le 17 n.0 && nat_le n.0 24) n
  Ok (Task (task.0 - 16), task.1)

-- the audit is 32
unfoldable pub audit_at : List ℕ → Read Party
audit_at bytes = do
  n ← byte_at bytes
  audit ← ruled (n.0 == 32) n
  Ok (Audit, audit.1)

-- a party that has this role
unfoldable pub role_at : Role → List ℕ → Read Party
role_at ANode bytes = node_at bytes
role_at ATask bytes = task_at bytes
role_at TheAudit bytes = audit_at bytes

-- what is after the kind
unfoldable pub said_at : Version → Kind → List ℕ → Read Message
said_at version kind bytes = do
  from ← role_at (sender_role kind) bytes
  to ← role_at (receiver_role kind) from.1
  body ← body_at version kind from.0 to.1
  Ok (record { from = from.0; to = to.0; body = body.0 }, body.1)

-- a value, or this reason where there is none
abbrev pub known : {A : Type 0} → PacketReason → Option A → List ℕ → Read A
known reason (Some x) rest = Ok (x, rest)
known reason None rest = Err reason

abbrev pub version_at : List ℕ → Read Version
version_at bytes = do
  n ← byte_at bytes
  known UnknownVersion (version_of n.0) n.1

abbrev pub kind_at : List ℕ → Read Kind
kind_at bytes = do
  n ← byte_at bytes
  known UnknownKind (kind_of n.0) n.1

-- a packet of either version and the bytes after it
unfoldable pub packet_at : List ℕ → Read Message
packet_at bytes = do
  version ← version_at bytes
  kind ← kind_at version.1
  said_at version.0 kind.0 kind.1

-- all of the bytes
unfoldable pub all_of : List ℕ → Result Message PacketReason
all_of bytes = do
  packet ← packet_at bytes
  if length packet.1 == 0 then Ok packet.0 else Err Long
