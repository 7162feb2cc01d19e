use Rattle.std.proofs.Common.{Option, Some, None, IfNone, sym, ap, ◌∙◌}
use Rattle.rp_model.specs.Leader.{on_lead}
use Rattle.rp_rules.specs.Inputs.{running_server}
use Rattle.rp_rules.proofs.Leading.{lead_out}
use Rattle.rp_rules.proofs.lead.position_to_lead.Goals as goal

if_none : {A P Q : Type 0} (o : Option A) → IfNone o P → (P → Q) → IfNone o Q
if_none None p then = then p
if_none (Some x) p then = tt

pub returns-in-None-clause-none : goal.returns-in-None-clause-none
returns-in-None-clause-none g c =
    let m = g.M.Machine in
    let node = running_server m.next m.answers c.args.server.now in
    if_none c.least_free.result c.least_free.ensures.none (λ out.
    sym (lead_out node out) ∙ ap (on_lead node) (sym c.in-None.is))
