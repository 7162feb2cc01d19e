-- What was read of a packet, before memory is taken for a report's actions or a promise's votes.
use Rattle.std.specs.Prelude.{◌≡◌, ℕ, List, Result, Ok, Err}
use Rattle.rp_base.specs.declared.fault.PacketReason.{PacketReason}
use Rattle.rp_base.specs.declared.action.Action.{Action}
use Rattle.rp_codec.specs.declared.packet.Body.{Body}
use Rattle.rp_codec.specs.declared.packet.Body.TheVariants.{Report, PromiseRange}
use Rattle.rp_base.specs.declared.placed.PlacedVote.{PlacedVote}
use Rattle.rp_base.specs.Ranges.{Range}
use Rattle.rp_codec.specs.declared.content.Content.{Content}
use Rattle.rp_codec.specs.declared.content.Content.TheVariants.{Whole, Listed, Voted}
use Rattle.rp_codec.specs.declared.content.Found.{Found}
use Rattle.rp_codec.specs.declared.version.Version.{Version}
use Rattle.rp_codec.specs.Message.{Message, KeepsRules}
use Rattle.rp_codec.specs.Reading.{Read, actions_at, reported_votes_at}

-- a list was read, and not kept
abbrev pub Skips : {A : Type 0} → Result (Unit {0}) PacketReason → List ℕ → Read A → Type 0
Skips {A} (Ok _) after read = (x : A) × (read ≡ Ok (x, after))
Skips (Err e) after read = read ≡ Err e

-- a position was read, and the ballot and the action of a vote there
abbrev pub GivesVote : Result (ℕ × ℕ × Action) PacketReason → List ℕ → Read PlacedVote → Type 0
GivesVote (Ok x) after read =
    read ≡ Ok (record { position = x.0; vote = record { ballot = x.1; action = x.2 } }, after)
GivesVote (Err e) after read = read ≡ Err e

-- a content that ends where these bytes begin denotes this body
abbrev pub IsContentOf : Content → List ℕ → Body → Type 0
IsContentOf (Whole whole) after body = body ≡ whole
IsContentOf (Listed version first applied count text) after body =
    (actions : List Action) × (actions_at version count text ≡ Ok (actions, after))
    × (body ≡ Report first applied actions)
IsContentOf (Voted version range ballot text) after body =
    (votes : List PlacedVote) × (reported_votes_at version range ballot text ≡ Ok (votes, after))
    × (body ≡ PromiseRange range ballot votes)

-- what a function returned, and the bytes that it left, denote what reading gives
abbrev pub Finds : Result Content PacketReason → List ℕ → Read Body → Type 0
Finds (Ok content) after read =
    (body : Body) × IsContentOf content after body × (read ≡ Ok (body, after))
Finds (Err e) after read = read ≡ Err e

-- the packet of this body
abbrev pub with_body : Found → Body → Message
with_body found body = record { from = found.from; to = found.to; body = body }

abbrev pub FindsPacket : Result Found PacketReason → List ℕ → Read Message → Type 0
FindsPacket (Ok found) after read =
    (body : Body) × IsContentOf found.content after body × (read ≡ Ok (with_body found body, after))
FindsPacket (Err e) after read = read ≡ Err e

-- all of the bytes
abbrev pub FindsWhole : Result Found PacketReason → Result Message PacketReason → Type 0
FindsWhole (Ok found) read =
    (body : Body) × (after : List ℕ) × IsContentOf found.content after body
    × (read ≡ Ok (with_body found body))
FindsWhole (Err e) read = read ≡ Err e

-- its packet keeps the rules
abbrev pub KeepsRulesAt : Found → Type 0
KeepsRulesAt found =
    (body : Body) × (after : List ℕ) × IsContentOf found.content after body
    × KeepsRules (with_body found body)

-- the list is that of the first n actions
abbrev pub AreFirst : List Action → Version → ℕ → List ℕ → Type 0
AreFirst list version count text =
    (actions : List Action) (after : List ℕ) → actions_at version count text ≡ Ok (actions, after)
    → list ≡ actions

-- the list is that of the votes that are reported
abbrev pub AreFirstVotes : List PlacedVote → Version → Range → ℕ → List ℕ → Type 0
AreFirstVotes list version range ballot text =
    (votes : List PlacedVote) (after : List ℕ)
    → reported_votes_at version range ballot text ≡ Ok (votes, after)
    → list ≡ votes

-- the packet is the one that was found
abbrev pub IsListed : Message → Found → Type 0
IsListed packet found =
    (body : Body) (after : List ℕ) → IsContentOf found.content after body
    → packet ≡ with_body found body

-- a report or a promise for a range, whose actions or votes are yet to be put into a list
abbrev pub IsList : Content → Type 0
IsList (Whole body) = ⊥
IsList (Listed version first applied count text) = Unit {0}
IsList (Voted version range ballot text) = Unit {0}
