-- A record is cut short where a packet with the same fields is.
use Rattle.std.proofs.Common.{◌≡◌, ℕ, Bool, true, false, Option, Some, None, Result, Ok, Err, List, ◌∷◌, length, refl, sym, ap, ◌∙◌, if◌then◌else◌, ◌==◌, is_some, IfOk}
use Rattle.rp_base.specs.declared.fault.PacketReason.TheVariants.{Long, Field, Version as UnknownVersion}
use Rattle.rp_base.specs.declared.action.Action.{Action}
use Rattle.rp_base.specs.declared.placed.PlacedVote.{PlacedVote}
use Rattle.rp_base.specs.declared.record.Rec.{Rec}
use Rattle.rp_base.specs.declared.record.Rec.TheVariants.{Promised, Voted, Learned, PromisedRange}
use Rattle.rp_base.specs.Ranges.{Range}
use Rattle.rp_codec.specs.Message.{Message}
use Rattle.rp_codec.specs.Reading.{◌>>=◌, Read, known, byte_at, kind_at, action_at, position_at, place_at, range_place_at, placed_vote_at, prepare_at, accept_at, decided_at, prepare_range_at, body_at, role_at, node_at, said_at, packet_at, all_of}
use Rattle.rp_codec.specs.RecordReading.{promised_at, voted_at, learned_at, promised_range_at, record_of_kind, record_at}
use Rattle.rp_codec.specs.Version.{version_of}
use Rattle.rp_codec.specs.declared.packet.Body.{Body}
use Rattle.rp_codec.specs.declared.packet.Body.TheVariants as bodies
use Rattle.rp_codec.specs.declared.packet.Party.TheVariants.{Node}
use Rattle.rp_codec.specs.declared.version.Version.{Version}
use Rattle.rp_requests.specs.Tails.{is_short}

not_long : (b : Bool) (m : Message) → is_short (if b then Ok m else Err Long) ≡ false
not_long true m = refl
not_long false m = refl

whole : (read : Read Message) → is_short {A = Message} (read >>= (λ packet. if length packet.1 == 0 then Ok packet.0 else Err Long)) ≡ is_short read
whole (Ok packet) = not_long (length packet.1 == 0) packet.0
whole (Err e) = refl

-- all of a text after its first byte, by the version that it is of
packet_from : Option Version → List ℕ → Read Message
packet_from version rest = known UnknownVersion version rest >>= (λ v. kind_at v.1 >>= (λ kind. said_at v.0 kind.0 kind.1))

record_from : Option Version → List ℕ → Read Rec
record_from version rest = known Field version rest >>= (λ v. byte_at v.1 >>= (λ kind. record_of_kind v.0 kind.0 kind.1))

packet_is : (byte : ℕ) (rest : List ℕ) → is_short (all_of (byte ∷ rest)) ≡ is_short (packet_from (version_of byte) rest)
unfolding all_of packet_at packet_from
packet_is byte rest = whole (packet_from (version_of byte) rest)

record_is : (byte : ℕ) (rest : List ℕ) → record_at (byte ∷ rest) ≡ record_from (version_of byte) rest
unfolding record_at record_from
record_is byte rest = refl

-- a body that is read makes a message from node 1 to node 1
said : Read Body → Read Message
said body = body >>= (λ b. Ok (record { from = Node 1; to = Node 1; body = b.0 }, b.1))

promise_read : (read : Read (ℕ × ℕ)) → is_short {A = Message × List ℕ} (said (read >>= (λ place. Ok (bodies.Prepare place.0.0 place.0.1, place.1)))) ≡ is_short {A = Rec × List ℕ} (read >>= (λ place. Ok (Promised place.0.0 place.0.1, place.1)))
unfolding said
promise_read (Ok place) = refl
promise_read (Err e) = refl

vote_read : (read : Read PlacedVote) → is_short {A = Message × List ℕ} (said (read >>= (λ vote. Ok (bodies.Accept vote.0.position vote.0.vote.ballot vote.0.vote.action, vote.1))))
    ≡ is_short {A = Rec × List ℕ} (read >>= (λ vote. Ok (Voted vote.0.position vote.0.vote.ballot vote.0.vote.action, vote.1)))
unfolding said
vote_read (Ok vote) = refl
vote_read (Err e) = refl

action_read : (position : ℕ) (read : Read Action) → is_short {A = Message × List ℕ} (said (read >>= (λ action. Ok (bodies.Decided position action.0, action.1)))) ≡ is_short {A = Rec × List ℕ} (read >>= (λ action. Ok (Learned position action.0, action.1)))
unfolding said
action_read position (Ok action) = refl
action_read position (Err e) = refl

learned_read : (version : Version) (read : Read ℕ) → is_short {A = Message × List ℕ} (said (read >>= (λ position. action_at version position.1 >>= (λ action. Ok (bodies.Decided position.0 action.0, action.1)))))
    ≡ is_short {A = Rec × List ℕ} (read >>= (λ position. action_at version position.1 >>= (λ action. Ok (Learned position.0 action.0, action.1))))
unfolding said
learned_read version (Ok position) = action_read position.0 (action_at version position.1)
learned_read version (Err e) = refl

range_read : (read : Read (Range × ℕ)) → is_short {A = Message × List ℕ} (said (read >>= (λ place. Ok (bodies.PrepareRange place.0.0 place.0.1, place.1)))) ≡ is_short {A = Rec × List ℕ} (read >>= (λ place. Ok (PromisedRange place.0.0 place.0.1, place.1)))
unfolding said
range_read (Ok place) = refl
range_read (Err e) = refl

module _ (fields : List ℕ) where
  promised_from : (v : Option Version) → is_some v ≡ true → is_short (packet_from v (2 ∷ 1 ∷ 1 ∷ fields)) ≡ is_short (record_from v (2 ∷ fields))
  unfolding packet_from record_from said_at role_at node_at body_at prepare_at promised_at said
  promised_from (Some version) there = promise_read (place_at fields)
  promised_from None there = absurd (cc)

  voted_from : (v : Option Version) → is_some v ≡ true → is_short (packet_from v (4 ∷ 1 ∷ 1 ∷ fields)) ≡ is_short (record_from v (3 ∷ fields))
  unfolding packet_from record_from said_at role_at node_at body_at accept_at voted_at said
  voted_from (Some version) there = vote_read (placed_vote_at version fields)
  voted_from None there = absurd (cc)

  learned_from : (v : Option Version) → is_some v ≡ true → is_short (packet_from v (6 ∷ 1 ∷ 1 ∷ fields)) ≡ is_short (record_from v (4 ∷ fields))
  unfolding packet_from record_from said_at role_at node_at body_at decided_at learned_at said
  learned_from (Some version) there = learned_read version (position_at fields)
  learned_from None there = absurd (cc)

  range_from : (v : Option Version) → is_some v ≡ true → is_short (packet_from v (12 ∷ 1 ∷ 1 ∷ fields)) ≡ is_short (record_from v (5 ∷ fields))
  unfolding packet_from record_from said_at role_at node_at body_at prepare_range_at promised_range_at said
  range_from (Some version) there = range_read (range_place_at fields)
  range_from None there = absurd (cc)

-- a record of one kind, and a packet of the other
module _ (byte : ℕ) (there : is_some (version_of byte) ≡ true) (fields : List ℕ) where
  joined : (kind packet : ℕ) → is_short (packet_from (version_of byte) (packet ∷ 1 ∷ 1 ∷ fields)) ≡ is_short (record_from (version_of byte) (kind ∷ fields))
      → is_short (all_of (byte ∷ packet ∷ 1 ∷ 1 ∷ fields)) ≡ is_short (record_at (byte ∷ kind ∷ fields))
  joined kind packet same = packet_is byte (packet ∷ 1 ∷ 1 ∷ fields) ∙ same ∙ sym (ap is_short (record_is byte (kind ∷ fields)))

  pub promised : is_short (all_of (byte ∷ 2 ∷ 1 ∷ 1 ∷ fields)) ≡ is_short (record_at (byte ∷ 2 ∷ fields))
  promised = joined 2 2 (promised_from fields (version_of byte) there)

  pub voted : is_short (all_of (byte ∷ 4 ∷ 1 ∷ 1 ∷ fields)) ≡ is_short (record_at (byte ∷ 3 ∷ fields))
  voted = joined 3 4 (voted_from fields (version_of byte) there)

  pub learned : is_short (all_of (byte ∷ 6 ∷ 1 ∷ 1 ∷ fields)) ≡ is_short (record_at (byte ∷ 4 ∷ fields))
  learned = joined 4 6 (learned_from fields (version_of byte) there)

  pub promised_range : is_short (all_of (byte ∷ 12 ∷ 1 ∷ 1 ∷ fields)) ≡ is_short (record_at (byte ∷ 5 ∷ fields))
  promised_range = joined 5 12 (range_from fields (version_of byte) there)

-- the same, of what a function returned
pub at_kind : {E : Type 0} (byte : ℕ) (fields : List ℕ) (kind number : ℕ) → kind ≡ number → (result : Result Bool E) {short : Bool} → short ≡ is_short (record_at (byte ∷ number ∷ fields)) → IfOk result (λ torn. torn ≡ short)
    → IfOk result (λ torn. torn ≡ is_short (record_at (byte ∷ kind ∷ fields)))
at_kind byte fields kind number is (Ok torn) same holds = holds ∙ same ∙ ap (λ (k : ℕ). is_short (record_at (byte ∷ k ∷ fields))) (sym is)
at_kind byte fields kind number is (Err e) same holds = tt
