-- What was sent after nothing is what a step sends.
use Rattle.std.proofs.Common.{◌≡◌, List, [], ◌++◌, length, Result, Ok, Err, ap, ◌∙◌}
use Rattle.rp_base.specs.declared.fault.Fault.{Fault}
use Rattle.rp_codec.specs.Message.{Message}
use Rattle.rp_model.specs.declared.effect.Dropped.{Dropped}
use Rattle.rp_model.specs.Parts.{Turn}
use Rattle.rp_replica.specs.declared.sent.Sent.{Sent}
use Rattle.rp_outbox.specs.Packets.{texts_of}
use Rattle.rp_replica.specs.State.{ReplicaState}
use Rattle.rp_replica.specs.Turning.{TurnsIf, TurnsOnto}

pub sent_onto : {S : Type 0} (effect : Result Turn Fault) (old new : ReplicaState S) (before after : List Message) (dropped : Dropped) (sent : Sent) → before ≡ [] → sent.bytes.items ≡ texts_of after → sent.packets ≡ length after
    → TurnsOnto effect old new before after dropped → sent.dropped ≡ dropped → TurnsIf effect old new sent
sent_onto (Ok turn) old new before after dropped sent none bytes count turns is =
    let all : after ≡ turn.sent = turns.0.sent ∙ ap (λ (l : List Message). l ++ turn.sent) none in
    (record { goes = turns.0.goes; bytes = bytes ∙ ap texts_of all; packets = count ∙ ap length all; dropped = is ∙ turns.1 }, turns.2)
sent_onto (Err refusal) old new before after dropped sent none bytes count turns is = absurd turns
