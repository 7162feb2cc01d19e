-- The numbers of refusals (those from 64 on are ours).
use Rattle.std.specs.Prelude.{ℕ}
use Rattle.rp_base.specs.Fault.{code_of}
use Rattle.rp_requests.specs.declared.refusal.Refusal.{Refusal}
use Rattle.rp_requests.specs.declared.refusal.Refusal.TheVariants.{Fault, ShortAnswer, BadRequest}
use Rattle.rp_requests.specs.declared.refusal.Refusal.TheVariants.{NoObjects}
use Rattle.rp_requests.specs.declared.refusal.Refusal.TheVariants.{LongAnswer, TooFar, WrongDevice}

-- the number of the fault, or one from 64 on for a refusal of the request itself
abbrev pub refusal_code : Refusal → ℕ
refusal_code (Fault fault) = code_of fault
refusal_code (ShortAnswer length) = 64
refusal_code BadRequest = 65
refusal_code NoObjects = 66
refusal_code (LongAnswer length) = 67
refusal_code TooFar = 70
refusal_code WrongDevice = 71
