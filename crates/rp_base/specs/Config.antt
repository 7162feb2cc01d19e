-- The sizes that a cluster may have.
use Rattle.std.specs.Prelude.{◌<◌, ◌≤◌, ◌^◌}
use Rattle.rp_base.specs.declared.config.Config.{Config}

pub record IsRightConfig (config : Config) : Type 0 where
  pub nodes : (3 ≤ config.nodes) × (config.nodes ≤ 7)
  pub positions : (1 ≤ config.max_positions) × (config.max_positions < 2 ^ 16)
