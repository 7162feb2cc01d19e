-- Packets of the usual kinds are packets.
use Rattle.std.proofs.Common.{ℕ}
use Rattle.rp_model.specs.rp_base.specs.Action.{IsRight}
use Rattle.rp_model.specs.rp_base.specs.Number.{IsNode, IsPosition}
use Rattle.rp_model.specs.rp_base.specs.declared.action.Action.{Action}
use Rattle.rp_model.specs.rp_codec.specs.Message.{IsPacket}
use Rattle.rp_model.specs.rp_codec.specs.declared.packet.Body.TheVariants as bodies
use Rattle.rp_model.specs.rp_codec.specs.declared.usual_texts.Header.{Header}
use Rattle.rp_model.specs.rp_codec.specs.Usual.{IsHeader, prepare_at, promise_at, accept_at, accepted_at}
use Rattle.rp_model.specs.Says.{says}

module _ (header : Header) (is : IsHeader header) where
  pub prepare_is_packet : IsPacket (prepare_at header)
  prepare_is_packet = record { ranges = record { from = is.0; to = is.1; body = (is.2, is.3) }; rules = (tt, tt) }

  pub promise_is_packet : IsPacket (promise_at header)
  promise_is_packet = record { ranges = record { from = is.0; to = is.1; body = (is.2, is.3, tt) }; rules = ((tt, tt), tt) }

  pub accept_is_packet : (action : Action) → IsRight action → IsPacket (accept_at header action)
  accept_is_packet action right = record { ranges = record { from = is.0; to = is.1; body = (is.2, is.3) }; rules = ((tt, tt), right) }

  pub accepted_is_packet : (action : Action) → IsRight action → IsPacket (accepted_at header action)
  accepted_is_packet action right = record { ranges = record { from = is.0; to = is.1; body = (is.2, is.3) }; rules = ((tt, tt), right) }

pub decided_is_packet : (from position : ℕ) (action : Action) → IsNode from → IsPosition position → IsRight action → IsPacket (says from (bodies.Decided position action) from)
decided_is_packet from position action node place right = record { ranges = record { from = node; to = node; body = place }; rules = ((tt, tt), right) }
