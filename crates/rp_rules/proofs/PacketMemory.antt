-- A packet that is read, for which memory ran out.
use Rattle.std.proofs.Common.{ℕ, List, refl, sym, subst}
use Rattle.std.specs.Prelude.{◌≡◌, Result, Ok, Err, IfErr}
use Rattle.rp_base.specs.declared.action.Action.{Action}
use Rattle.rp_base.specs.declared.reply.Answer.{Answer}
use Rattle.rp_base.specs.declared.fault.Fault.{Fault}
use Rattle.rp_base.specs.declared.fault.Fault.TheVariants.{OutOfMemory}
use Rattle.rp_base.specs.declared.fault.PacketReason.{PacketReason}
use Rattle.rp_model.specs.rp_codec.specs.Message.{Message}
use Rattle.rp_model.specs.rp_codec.specs.Decoding.{IsDecoded, IsLongBody, IsLongText}
use Rattle.rp_model.specs.rp_codec.specs.Reading.{all_of}
use Rattle.rp_model.specs.rp_codec.proofs.Decoded.{whole_read}
use Rattle.rp_server.specs.State.{ServerState}
use Rattle.rp_rules.specs.Inputs.{Refuses, packet_given, plan_if_given}

-- where the bytes are the text of a packet that takes memory, it may run out
pub text_no_memory : {S : Type 0} (next : S → Action → S) (answers : S → Action → List Answer) (server : ServerState S) (bytes : List ℕ) → IsLongText bytes → Refuses (IsLongText bytes) (plan_if_given next answers server (packet_given (all_of bytes))) OutOfMemory
text_no_memory next answers server bytes long =
    let (m, packet, body, text) = long in
    subst (λ (r : Result Message PacketReason). Refuses (IsLongText bytes) (plan_if_given next answers server (packet_given r)) OutOfMemory) (sym (whole_read m bytes packet text)) (refl, long)

-- where a packet was read of them that takes memory, its rule may be out of it
pub rule_no_memory : {S : Type 0} (next : S → Action → S) (answers : S → Action → List Answer) (server : ServerState S) (bytes : List ℕ) (m : Message) → IsDecoded bytes (Ok m) → (result : Result Unit Fault) → IfErr result (λ fault. (fault ≡ OutOfMemory) × IsLongBody m.body)
    → IfErr result (Refuses (IsLongText bytes) (plan_if_given next answers server (packet_given (all_of bytes))))
rule_no_memory next answers server bytes m decoded (Ok done) only = tt
rule_no_memory next answers server bytes m decoded (Err fault) only =
    subst (Refuses (IsLongText bytes) (plan_if_given next answers server (packet_given (all_of bytes)))) (sym only.0)
    (text_no_memory next answers server bytes (m, decoded.found.0, only.1, decoded.found.1))
