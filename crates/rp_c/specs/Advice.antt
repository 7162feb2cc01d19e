-- What a C caller gets when it asks what a node is to do.
use Rattle.std.specs.Prelude.{◌≡◌, ℕ, Option, Some, None}
use Rattle.rp_requests.specs.rp_patience.specs.declared.advice.Advice.{Advice}
use Rattle.rp_requests.specs.rp_patience.specs.declared.advice.Advice.TheVariants.{Nothing, Lead}
use Rattle.rp_requests.specs.rp_patience.specs.declared.advice.Advice.TheVariants.{Ask}
use Rattle.rp_c.specs.declared.advice.NodeAdvice.{NodeAdvice}

-- 0 nothing, 1 to lead at this position, 2 to ask
abbrev pub written_advice : Advice → NodeAdvice
written_advice Nothing = record { kind = 0; position = 0 }
written_advice (Lead position) = record { kind = 1; position = position }
written_advice Ask = record { kind = 2; position = 0 }

-- the number that the call returns: 0, or `RP_WRONG_HANDLE` if the handle keeps no node
abbrev pub advised_code : Option Advice → ℕ
advised_code None = 68
advised_code (Some advice) = 0

-- What was written: the advice, or nothing if the handle keeps no node.
abbrev pub WritesAdvice : Option Advice → NodeAdvice → NodeAdvice → Type 0
WritesAdvice None old new = new ≡ old
WritesAdvice (Some advice) old new = new ≡ written_advice advice
