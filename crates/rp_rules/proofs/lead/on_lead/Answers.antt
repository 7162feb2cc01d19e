use Rattle.std.proofs.Common.{◌≡◌, Result, Ok, IfErr, Err, subst}
use Rattle.std.specs.Prelude.{OnOk}
use Rattle.rp_base.specs.declared.fault.Fault.{Fault}
use Rattle.rp_model.specs.declared.plan.Plan.{Plan}
use Rattle.rp_rules.proofs.lead.on_lead.Goals as goal

pub returns-in-Some-clause-ok : goal.returns-in-Some-clause-ok
returns-in-Some-clause-ok g c =
    subst (λ (e : Result Plan Fault). OnOk c.on_lead_at.result (Ok c.on_lead_at.new.plan ≡ e)) c.in-Some.ensures.some c.on_lead_at.ensures.ok

pub returns-in-Some-clause-err : goal.returns-in-Some-clause-err
returns-in-Some-clause-err g c =
    subst (λ (e : Result Plan Fault). IfErr c.on_lead_at.result (λ fault. Err fault ≡ e)) c.in-Some.ensures.some c.on_lead_at.ensures.err
