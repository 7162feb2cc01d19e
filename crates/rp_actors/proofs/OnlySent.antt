-- The effect of a step that only sent, and what a delivery answers.
use Rattle.std.proofs.Common.{◌≡◌, ℕ, ◌+◌, ◌-◌, ◌^◌, min, Bool, true, false, None, Result, Ok, length, sym, ap, subst, arith}
use Rattle.rp_base.specs.declared.fault.Fault.{Fault}
use Rattle.rp_model.specs.World.{World}
use Rattle.rp_model.specs.declared.effect.Dropped.TheVariants.{No}
use Rattle.rp_model.specs.declared.effect.Effect.{Effect}
use Rattle.rp_actors.specs.Deliveries.{only_sent, delivery_answer}
use Rattle.rp_actors.proofs.Reports.{stated_of, stated_count, stated_sent}

-- it is none where there are as many messages as before
pub only_sent_none : (old new : World) → new.sent ≡ old.sent → only_sent old new ≡ stated_of (length old.sent + 1) None
only_sent_none old new same =
    let count : min (length new.sent - length old.sent) (2 ^ 32 - 1) ≡ 0 = omega (arith, ap length same) in
    ap (stated_count (length old.sent + 1)) count

-- and else that of a node's step which dropped nothing
pub only_sent_more : (old new : World) → only_sent old new ≡ stated_sent (length old.sent + 1) (length new.sent) No
only_sent_more old new =
    let count : length new.sent - length old.sent ≡ length new.sent + 1 - (length old.sent + 1) = omega arith in
    ap (λ (k : ℕ). stated_count (length old.sent + 1) (min k (2 ^ 32 - 1))) count

-- ---- what a delivery answers

module _ (Q : Result Effect Fault → Type 0) (old new : World) {reports : Bool} (reported : Result Effect Fault) where
  -- what is reported, where something is
  pub as_reported : {answer : Result Effect Fault} → reports ≡ true → reported ≡ answer → Q answer → Q (delivery_answer old new reports reported)
  as_reported reports_is reported_is q = subst (λ (b : Bool). Q (delivery_answer old new b reported)) (sym reports_is) (subst Q (sym reported_is) q)

  -- or that it only sent
  pub as_unreported : reports ≡ false → Q (Ok (only_sent old new)) → Q (delivery_answer old new reports reported)
  as_unreported reports_is q = subst (λ (b : Bool). Q (delivery_answer old new b reported)) (sym reports_is) q
