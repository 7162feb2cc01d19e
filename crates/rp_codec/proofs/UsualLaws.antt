-- A text of a usual kind is read by the readers of its head and of its body.
use Rattle.std.proofs.Common.{◌≡◌, ℕ, List, [], Ok, None, refl, sym, ap, ◌∙◌}
use Rattle.rp_base.specs.declared.action.Action.{Action}
use Rattle.rp_base.specs.declared.placed.PlacedVote.{PlacedVote}
use Rattle.rp_base.specs.declared.reply.Reply.{Reply}
use Rattle.rp_codec.specs.declared.packet.Party.{Party}
use Rattle.rp_codec.specs.declared.packet.Body.{Body}
use Rattle.rp_codec.specs.declared.packet.Body.TheVariants as bodies
use Rattle.rp_codec.specs.declared.kind.Kind.{Kind}
use Rattle.rp_codec.specs.declared.kind.Kind.TheVariants.{Call, Prepare, Promise, Accept, Accepted, Decided, Reply as Answer}
use Rattle.rp_codec.specs.declared.version.Version.{Version}
use Rattle.rp_codec.specs.declared.version.Version.TheVariants.{V2}
use Rattle.rp_codec.specs.Kind.{sender_role, receiver_role}
use Rattle.rp_codec.specs.Message.{Message}
use Rattle.rp_codec.specs.Decoding.{IsDecoded}
use Rattle.rp_codec.specs.Usual.{IsHead}
use Rattle.rp_codec.specs.Reading.{version_at, kind_at, role_at, place_at, last_at, placed_vote_at, position_at, action_at, own_call_at, count_at, reply_at}
use Rattle.rp_codec.specs.Reading.{prepare_at, promise_at, accept_at, accepted_at, decided_at, task_call_at, answer_at, body_at, said_at, packet_at, all_of}
use Rattle.rp_codec.proofs.Steps.{IsBytes}
use Rattle.rp_codec.proofs.Decoded.{decoded}

pub version_known : (bytes text rest : List ℕ) (version : Version) → text ≡ bytes → version_at text ≡ Ok (version, rest) → version ≡ V2 → version_at bytes ≡ Ok (V2, rest)
version_known bytes text rest version same read is = ap version_at (sym same) ∙ read ∙ ap (λ (v : Version). Ok (v, rest)) is

pub head_read : (bytes b1 b2 b3 b4 : List ℕ) (kind : Kind) (from to : Party) → version_at bytes ≡ Ok (V2, b1) → kind_at b1 ≡ Ok (kind, b2) → role_at (sender_role kind) b2 ≡ Ok (from, b3) → role_at (receiver_role kind) b3 ≡ Ok (to, b4) → IsHead bytes kind from to b4
unfolding packet_at said_at
head_read bytes b1 b2 b3 b4 kind from to v k f t = rw (v, k, f, t) refl

pub head_between : (bytes : List ℕ) (kind : Kind) (p q from to : Party) (rest : List ℕ) → IsHead bytes kind p q rest → p ≡ from → q ≡ to → IsHead bytes kind from to rest
head_between bytes kind p q from to rest is_head f t = rw (sym f, sym t) is_head

whole : (bytes : List ℕ) (m : Message) → packet_at bytes ≡ Ok (m, []) → all_of bytes ≡ Ok m
unfolding all_of
whole bytes m e = rw e refl

-- a head, and a body after it that ends where the bytes end
pub head_decoded : (bytes : List ℕ) (kind : Kind) (from to : Party) (rest : List ℕ) (body : Body) → IsBytes bytes → IsHead bytes kind from to rest → body_at V2 kind from rest ≡ Ok (body, []) → IsDecoded bytes (Ok (record { from = from; to = to; body = body }))
head_decoded bytes kind from to rest body h is_head read =
    decoded bytes _ h (sym (whole bytes (record { from = from; to = to; body = body }) (is_head ∙ rw read refl)))

-- ---- the bodies

pub prepare_read : (from : Party) (bytes after : List ℕ) (position ballot : ℕ) → place_at bytes ≡ Ok ((position, ballot), after) → after ≡ [] → body_at V2 Prepare from bytes ≡ Ok (bodies.Prepare position ballot, [])
unfolding body_at prepare_at
prepare_read from bytes after position ballot place ended = rw (place, ended) refl

pub promise_read : (from : Party) (bytes rest after : List ℕ) (position ballot : ℕ) → place_at bytes ≡ Ok ((position, ballot), rest) → last_at V2 ballot rest ≡ Ok (None, after) → after ≡ [] → body_at V2 Promise from bytes ≡ Ok (bodies.Promise position ballot None, [])
unfolding body_at promise_at
promise_read from bytes rest after position ballot place last ended = rw (place, last, ended) refl

pub accept_read : (from : Party) (bytes : List ℕ) (placed : PlacedVote) → placed_vote_at V2 bytes ≡ Ok (placed, []) → body_at V2 Accept from bytes ≡ Ok (bodies.Accept placed.position placed.vote.ballot placed.vote.action, [])
unfolding body_at accept_at
accept_read from bytes placed read = rw read refl

pub accepted_read : (from : Party) (bytes : List ℕ) (placed : PlacedVote) → placed_vote_at V2 bytes ≡ Ok (placed, []) → body_at V2 Accepted from bytes ≡ Ok (bodies.Accepted placed.position placed.vote.ballot placed.vote.action, [])
unfolding body_at accepted_at
accepted_read from bytes placed read = rw read refl

pub decided_read : (from : Party) (bytes rest after : List ℕ) (position : ℕ) (action : Action) → position_at bytes ≡ Ok (position, rest) → action_at V2 rest ≡ Ok (action, after) → after ≡ [] → body_at V2 Decided from bytes ≡ Ok (bodies.Decided position action, [])
unfolding body_at decided_at
decided_read from bytes rest after position action place read ended = rw (place, read, ended) refl

pub call_read : (from : Party) (bytes after : List ℕ) (action : Action) → own_call_at V2 from bytes ≡ Ok (action, after) → after ≡ [] → body_at V2 Call from bytes ≡ Ok (bodies.Call action, [])
unfolding body_at task_call_at
call_read from bytes after action read ended = rw (read, ended) refl

pub reply_read : (from : Party) (bytes rest after : List ℕ) (number : ℕ) (reply : Reply) → count_at bytes ≡ Ok (number, rest) → reply_at rest ≡ Ok (reply, after) → after ≡ [] → body_at V2 Answer from bytes ≡ Ok (bodies.Reply number reply, [])
unfolding body_at answer_at
reply_read from bytes rest after number reply count read ended = rw (count, read, ended) refl
