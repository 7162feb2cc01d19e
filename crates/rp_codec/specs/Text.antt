-- The text of each packet, and of its parts, in each version. Numbers have their highest byte
-- first. What is written is of version 2; in version 1 an entry's index is 0, and a value with
-- another entry than 1 has no text.
use Rattle.std.specs.Prelude.{◌≡◌, ℕ, ℤ, ◌+◌, Bool, true, false, List, [], ◌∷◌, ◌++◌, length}
use Rattle.std.specs.Prelude.{flat_map, All, IfSome, Option, Some, None}
use Rattle.std.specs.Int.{Width, w16, w32, w64, to_be_bytes, cast_unsigned}
use Rattle.rp_base.specs.declared.action.Operation.{Operation}
use Rattle.rp_base.specs.declared.action.Operation.TheVariants as operations
use Rattle.rp_base.specs.declared.action.Action.{Action}
use Rattle.rp_base.specs.declared.action.Action.TheVariants as actions
use Rattle.rp_base.specs.declared.reply.Reply.{Reply}
use Rattle.rp_base.specs.declared.reply.Reply.TheVariants as replies
use Rattle.rp_base.specs.declared.record.Vote.{Vote}
use Rattle.rp_base.specs.declared.placed.PlacedVote.{PlacedVote}
use Rattle.rp_base.specs.Ranges.{Range}
use Rattle.rp_codec.specs.declared.packet.Party.{Party}
use Rattle.rp_codec.specs.declared.packet.Party.TheVariants.{Node, Task, Audit}
use Rattle.rp_codec.specs.declared.packet.Body.{Body}
use Rattle.rp_codec.specs.declared.packet.Body.TheVariants.{Call, Prepare, Promise, Accept}
use Rattle.rp_codec.specs.declared.packet.Body.TheVariants.{Accepted, Decided, Ask, Nack}
use Rattle.rp_codec.specs.declared.packet.Body.TheVariants.{Reply as Answer, Report, PrepareRange}
use Rattle.rp_codec.specs.declared.packet.Body.TheVariants.{PromiseRange}
use Rattle.rp_codec.specs.declared.version.Version.{Version}
use Rattle.rp_codec.specs.Kind.{number_of_kind, kind_of_body}
use Rattle.rp_codec.specs.declared.version.Version.TheVariants.{V1, V2}
use Rattle.rp_codec.specs.Version.{version_number}
use Rattle.rp_codec.specs.Message.{Message}

-- a number in its type's bytes
unfoldable pub number_text : Width → ℕ → List ℕ
number_text w n = to_be_bytes w n

-- in two's complement
abbrev pub signed_text : ℤ → List ℕ
signed_text z = number_text w64 (cast_unsigned w64 z)

abbrev pub position_text : ℕ → List ℕ
position_text position = number_text w16 position

abbrev pub ballot_text : ℕ → List ℕ
ballot_text ballot = number_text w64 ballot

-- the first position of a range, and how many it has
abbrev pub range_text : Range → List ℕ
range_text range = position_text range.first ++ range.count ∷ []

-- the byte for an entry's index
abbrev pub entry_byte : Version → ℕ → ℕ
entry_byte V1 index = 0
entry_byte V2 index = index

abbrev pub operation_text_at : Version → Operation → List ℕ
operation_text_at version (operations.Function index) = 1 ∷ index ∷ []
operation_text_at version (operations.Procedure index) = 2 ∷ index ∷ []
operation_text_at version (operations.Entry index) = 3 ∷ entry_byte version index ∷ []
operation_text_at version (operations.SetTimer index) = 4 ∷ index ∷ []
operation_text_at version (operations.CancelTimer index) = 5 ∷ index ∷ []

abbrev pub action_text_at : Version → Action → List ℕ
action_text_at version actions.Noop = 0 ∷ []
action_text_at version (actions.Call task number object operation arg) =
    (1 ∷ task ∷ number_text w32 number) ++ (object ∷ operation_text_at version operation)
    ++ signed_text arg
action_text_at version (actions.Interrupt source occurrence) =
    2 ∷ source ∷ number_text w32 occurrence
action_text_at version (actions.Tick now) = 3 ∷ number_text w32 now

-- how many actions there are, and each
abbrev pub actions_text_at : Version → List Action → List ℕ
actions_text_at version actions = length actions ∷ flat_map (action_text_at version) actions

abbrev pub operation_text : Operation → List ℕ
operation_text operation = operation_text_at V2 operation

abbrev pub action_text : Action → List ℕ
action_text action = action_text_at V2 action

abbrev pub actions_text : List Action → List ℕ
actions_text actions = actions_text_at V2 actions

-- a vote's place, and its action
abbrev pub vote_text : ℕ → ℕ → Action → List ℕ
vote_text position ballot action =
    position_text position ++ ballot_text ballot ++ action_text action

abbrev pub truth_text : Bool → List ℕ
truth_text false = 0 ∷ []
truth_text true = 1 ∷ []

abbrev pub reply_text : Reply → List ℕ
reply_text (replies.Value z) = 1 ∷ signed_text z
reply_text (replies.Truth b) = 2 ∷ truth_text b
reply_text replies.ConstraintError = 3 ∷ []
reply_text replies.ProgramError = 4 ∷ []
reply_text replies.NoSuchOperation = 5 ∷ []

-- a flag, and the vote where there is one
abbrev pub last_text_at : Version → Option Vote → List ℕ
last_text_at version None = 0 ∷ []
last_text_at version (Some vote) =
    (1 ∷ ballot_text vote.ballot) ++ action_text_at version vote.action

abbrev pub last_text : Option Vote → List ℕ
last_text last = last_text_at V2 last

-- a vote with its position
abbrev pub placed_text_at : Version → PlacedVote → List ℕ
placed_text_at version placed =
    position_text placed.position ++ ballot_text placed.vote.ballot
    ++ action_text_at version placed.vote.action

abbrev pub placed_text : PlacedVote → List ℕ
placed_text placed = placed_text_at V2 placed

-- how many votes there are, and each
abbrev pub votes_text_at : Version → List PlacedVote → List ℕ
votes_text_at version votes = length votes ∷ flat_map (placed_text_at version) votes

abbrev pub votes_text : List PlacedVote → List ℕ
votes_text votes = votes_text_at V2 votes

abbrev pub party_number : Party → ℕ
party_number (Node n) = n
party_number (Task t) = 16 + t
party_number Audit = 32

abbrev pub party_text : Party → List ℕ
party_text party = party_number party ∷ []

-- a list after what is before it: how many items there are, and each
abbrev pub list_text : {T : Type 0} → (T → List ℕ) → List ℕ → List T → List ℕ
list_text item_text front items = front ++ length items ∷ flat_map item_text items

-- the number of a packet's kind
abbrev pub kind_number : Body → ℕ
kind_number body = number_of_kind (kind_of_body body)

-- what a body says, but for a report's actions and the votes of a promise for a range
abbrev pub short_body_text : Body → List ℕ
short_body_text (Call action) = action_text action
short_body_text (Prepare position ballot) = position_text position ++ ballot_text ballot
short_body_text (Promise position ballot last) =
    position_text position ++ ballot_text ballot ++ last_text last
short_body_text (Accept position ballot action) =
    position_text position ++ ballot_text ballot ++ action_text action
short_body_text (Accepted position ballot action) =
    position_text position ++ ballot_text ballot ++ action_text action
short_body_text (Decided position action) = position_text position ++ action_text action
short_body_text (Ask position) = position_text position
short_body_text (Nack position ballot bound) =
    position_text position ++ ballot_text ballot ++ ballot_text bound
short_body_text (Answer number reply) = number_text w32 number ++ reply_text reply
short_body_text (Report first applied actions) = position_text first ++ number_text w16 applied
short_body_text (PrepareRange range ballot) = range_text range ++ ballot_text ballot
short_body_text (PromiseRange range ballot votes) = range_text range ++ ballot_text ballot

abbrev pub body_text_at : Version → Body → List ℕ
body_text_at version (Call action) = action_text_at version action
body_text_at version (Prepare position ballot) = position_text position ++ ballot_text ballot
body_text_at version (Promise position ballot last) =
    position_text position ++ ballot_text ballot ++ last_text_at version last
body_text_at version (Accept position ballot action) =
    position_text position ++ ballot_text ballot ++ action_text_at version action
body_text_at version (Accepted position ballot action) =
    position_text position ++ ballot_text ballot ++ action_text_at version action
body_text_at version (Decided position action) =
    position_text position ++ action_text_at version action
body_text_at version (Ask position) = position_text position
body_text_at version (Nack position ballot bound) =
    position_text position ++ ballot_text ballot ++ ballot_text bound
body_text_at version (Answer number reply) = number_text w32 number ++ reply_text reply
body_text_at version (Report first applied actions) =
    position_text first ++ number_text w16 applied ++ actions_text_at version actions
body_text_at version (PrepareRange range ballot) = range_text range ++ ballot_text ballot
body_text_at version (PromiseRange range ballot votes) =
    range_text range ++ ballot_text ballot ++ votes_text_at version votes

-- the version, the kind, and who says it to whom
abbrev pub head_text_at : Version → Message → List ℕ
head_text_at version m =
    (version_number version ∷ kind_number m.body ∷ party_text m.from) ++ party_text m.to

abbrev pub text_at : Version → Message → List ℕ
text_at version m = head_text_at version m ++ body_text_at version m.body

-- what is written of a packet
abbrev pub head_text : Message → List ℕ
head_text m = head_text_at V2 m

abbrev pub text_of : Message → List ℕ
text_of m = text_at V2 m

-- ---- what has a text of the version

-- in version 1 entry 1 alone
abbrev pub HasEntryText : Version → ℕ → Type 0
HasEntryText V1 index = index ≡ 1
HasEntryText V2 index = Unit {0}

abbrev pub HasOperationText : Version → Operation → Type 0
HasOperationText version (operations.Function index) = Unit {0}
HasOperationText version (operations.Procedure index) = Unit {0}
HasOperationText version (operations.Entry index) = HasEntryText version index
HasOperationText version (operations.SetTimer index) = Unit {0}
HasOperationText version (operations.CancelTimer index) = Unit {0}

abbrev pub HasActionText : Version → Action → Type 0
HasActionText version actions.Noop = Unit {0}
HasActionText version (actions.Call task number object operation arg) =
    HasOperationText version operation
HasActionText version (actions.Interrupt source occurrence) = Unit {0}
HasActionText version (actions.Tick now) = Unit {0}

abbrev pub HasPlacedText : Version → PlacedVote → Type 0
HasPlacedText version placed = HasActionText version placed.vote.action

abbrev pub HasBodyText : Version → Body → Type 0
HasBodyText version (Call action) = HasActionText version action
HasBodyText version (Prepare position ballot) = Unit {0}
HasBodyText version (Promise position ballot last) =
    IfSome last (λ vote. HasActionText version vote.action)
HasBodyText version (Accept position ballot action) = HasActionText version action
HasBodyText version (Accepted position ballot action) = HasActionText version action
HasBodyText version (Decided position action) = HasActionText version action
HasBodyText version (Ask position) = Unit {0}
HasBodyText version (Nack position ballot bound) = Unit {0}
HasBodyText version (Answer number reply) = Unit {0}
HasBodyText version (Report first applied actions) = All (HasActionText version) actions
HasBodyText version (PrepareRange range ballot) = Unit {0}
HasBodyText version (PromiseRange range ballot votes) = All (HasPlacedText version) votes

abbrev pub HasText : Version → Message → Type 0
HasText version m = HasBodyText version m.body

-- the bytes are a text of the packet
abbrev pub IsTextOf : Message → List ℕ → Type 0
IsTextOf m bytes = (version : Version) × HasText version m × (bytes ≡ text_at version m)

-- the bytes are a text of the packet, and others after it
abbrev pub IsTextBefore : Message → List ℕ → List ℕ → Type 0
IsTextBefore m rest bytes =
    (version : Version) × HasText version m × (bytes ≡ text_at version m ++ rest)
