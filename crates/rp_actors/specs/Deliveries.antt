-- What a delivery answers, which is reported only where it did more than send messages.
use Rattle.std.specs.Prelude.{◌+◌, ◌-◌, ◌^◌, min, Bool, true, false, None, Result, Ok, length}
use Rattle.rp_base.specs.declared.fault.Fault.{Fault}
use Rattle.rp_model.specs.World.{World}
use Rattle.rp_model.specs.declared.effect.Dropped.TheVariants.{No}
use Rattle.rp_model.specs.declared.effect.Effect.{Effect}

-- the effect of a step from one world to another that sent what is there since, if anything, and
-- did no more: no item was dropped, and no task took a reply
abbrev pub only_sent : World → World → Effect
only_sent old new = record {
  first = length old.sent + 1;
  sent = min (length new.sent - length old.sent) (2 ^ 32 - 1);
  dropped = No;
  taken = None;
  opened = None;
}

-- the answer of a delivery: what is reported of it, if something is, and else that it only sent
abbrev pub delivery_answer : World → World → Bool → Result Effect Fault → Result Effect Fault
delivery_answer old new true reported = reported
delivery_answer old new false reported = Ok (only_sent old new)
