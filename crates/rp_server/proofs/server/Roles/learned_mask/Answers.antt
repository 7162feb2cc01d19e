use Rattle.std.proofs.Common.{arith}
use Rattle.rp_server.proofs.Covered.{mask_is}
use Rattle.rp_server.proofs.server.Roles.learned_mask.Goals as goal

pub returns-clause-mask : goal.returns-clause-mask
returns-clause-mask g c =
    mask_is c.args.self.now.records c.args.range c.loop-index.mask
    (λ j below. c.loop-index.invariant.0 j (omega (arith, below, c.loop-index-test.false, c.count-index-end.ensures.value)))
