-- Of the texts of packets, that of a call names the kind of calls; and a call that counts, by its number.
use Rattle.std.proofs.Common.{◌≡◌, ◌≢◌, ℕ, ◌+◌, ◌<◌, ℤ, Bool, true, false, ◌&&◌, not, nat_eq, nat_lt, is_some, is_none, Option, Some, None, Result, Ok, Err, List, refl, sym, ap, subst, ◌∙◌}
use Rattle.rp_base.specs.declared.action.Action.{Action}
use Rattle.rp_base.specs.declared.fault.PacketReason.{PacketReason}
use Rattle.rp_base.specs.declared.reply.Answer.{Answer}
use Rattle.rp_codec.specs.Decoding.{IsLongBody, IsLongText}
use Rattle.rp_codec.specs.Kind.{kind_of, kind_of_body, kind_in, number_of_kind}
use Rattle.rp_codec.specs.declared.kind.Kind.{Kind}
use Rattle.rp_codec.specs.declared.kind.Kind.TheVariants.{Call, Prepare, Promise, Accept, Accepted, Decided, Ask, Nack, Reply, Report, PrepareRange, PromiseRange}
use Rattle.rp_codec.specs.declared.packet.Body.{Body}
use Rattle.rp_codec.specs.declared.packet.Body.TheVariants as bodies
use Rattle.rp_codec.specs.Message.{Message, IsPacket}
use Rattle.rp_codec.specs.Reading.{all_of}
use Rattle.rp_codec.specs.Text.{IsTextOf}
use Rattle.rp_codec.proofs.Steps.{IsBytes}
use Rattle.rp_codec.proofs.Decoded.{whole_found, whole_read}
use Rattle.rp_replica.specs.State.{ReplicaState}
use Rattle.rp_replica.specs.rp_model.specs.Receiving.{is_node}
use Rattle.rp_replica.specs.rp_rules.specs.Inputs.{packet_given}
use Rattle.rp_requests.specs.Timing.{answered_by, comes_early, counted_by, is_early_body}

kind_again : (kind : Kind) → kind_of (number_of_kind kind) ≡ Some kind
kind_again Call = refl
kind_again Prepare = refl
kind_again Promise = refl
kind_again Accept = refl
kind_again Accepted = refl
kind_again Decided = refl
kind_again Ask = refl
kind_again Nack = refl
kind_again Reply = refl
kind_again Report = refl
kind_again PrepareRange = refl
kind_again PromiseRange = refl

text_kind : (m : Message) (bytes : List ℕ) → IsTextOf m bytes → kind_in bytes ≡ Some (kind_of_body m.body)
text_kind m bytes (v, has, text) = ap kind_in text ∙ kind_again (kind_of_body m.body)

and_false : (b : Bool) → (b && false) ≡ false
and_false true = refl
and_false false = refl

module _ {S : Type 0} (next : S → Action → S) (answers : S → Action → List Answer) (replica : ReplicaState S) where
  -- a body of another kind is no call that comes early
  other_body : (body : Body) → kind_of_body body ≢ Call → is_early_body (counted_by next answers replica) (answered_by next answers replica) body ≡ false
  other_body (bodies.Call action) other = absurd (other refl)
  other_body (bodies.Prepare i b) other = refl
  other_body (bodies.Promise i b last) other = refl
  other_body (bodies.Accept i b v) other = refl
  other_body (bodies.Accepted i b v) other = refl
  other_body (bodies.Decided i v) other = refl
  other_body (bodies.Ask i) other = refl
  other_body (bodies.Nack i b bound) other = refl
  other_body (bodies.Reply number reply) other = refl
  other_body (bodies.Report first applied actions) other = refl
  other_body (bodies.PrepareRange range b) other = refl
  other_body (bodies.PromiseRange range b votes) other = refl

  pub other_packet : (m : Message) → kind_of_body m.body ≢ Call → (is_node replica.me m.to && is_early_body (counted_by next answers replica) (answered_by next answers replica) m.body) ≡ false
  other_packet m other = ap (λ (b : Bool). is_node replica.me m.to && b) (other_body m.body other) ∙ and_false (is_node replica.me m.to)

  other_read : (read : Result Message PacketReason) → ((m : Message) → read ≡ Ok m → kind_of_body m.body ≢ Call) → comes_early next answers replica (packet_given read) ≡ false
  other_read (Ok m) other = other_packet m (other m refl)
  other_read (Err reason) other = refl

  -- bytes that name another kind bring no such call
  pub other_text : (bytes : List ℕ) → IsBytes bytes → kind_in bytes ≢ Some Call → comes_early next answers replica (packet_given (all_of bytes)) ≡ false
  other_text bytes are other = other_read (all_of bytes) (λ m read is.
      let found = whole_found bytes (Ok m) are (sym read) in
      other (text_kind m bytes found.1 ∙ ap (λ (kind : Kind). Some kind) is))

  long_body : (body : Body) → IsLongBody body → kind_of_body body ≢ Call
  long_body (bodies.Report first applied actions) long = λ e. absurd (cc)
  long_body (bodies.PromiseRange range b votes) long = λ e. absurd (cc)
  long_body body long = absurd long

  -- nor does a long text
  pub long_early : (bytes : List ℕ) → IsLongText bytes → comes_early next answers replica (packet_given (all_of bytes)) ≡ false
  long_early bytes (m, packet, long, text) =
      ap (λ (read : Result Message PacketReason). comes_early next answers replica (packet_given read)) (whole_read m bytes packet text)
      ∙ other_packet m (long_body m.body long)

-- ---- two tests

pub and_true_left : (a b : Bool) → a ≡ true → b ≡ (a && b)
and_true_left true b e = refl
and_true_left false b e = absurd (cc)

pub same_if_zero : (a b : Bool) → a ≡ false → a ≡ (a && b)
same_if_zero true b e = absurd (cc)
same_if_zero false b e = refl

pub none_if : {A : Type 0} (o : Option A) (b : Bool) → is_some o ≡ not b → b ≡ is_none o
none_if (Some x) true e = absurd (cc)
none_if (Some x) false e = refl
none_if None true e = refl
none_if None false e = absurd (cc)
