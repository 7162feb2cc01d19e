-- Each action of the order is right.
use Rattle.std.proofs.Common.{subst, sym}
use Rattle.rp_script.specs.rp_base.specs.Sets.{Has}
use Rattle.rp_script.specs.rp_base.specs.declared.action.Action.{Action}
use Rattle.rp_explore.proofs.Lists.{has_at}
use Rattle.rp_explore_run.proofs.shown.image_after.Goals as goal

pub apply-requires : goal.apply-requires
apply-requires g c =
    c.requires c.action-item.result (subst (λ (x : Action). Has x c.args.order.now) (sym c.action-item.is)
    (has_at c.args.order.now c.loop-action.action-index c.action-item.result c.loop-action-test.true))
