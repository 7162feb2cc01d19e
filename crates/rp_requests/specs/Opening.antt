-- The result of opening a node (ours).
use Rattle.std.specs.Prelude.{◌≡◌, ℕ, false, List, [], length}
use Rattle.rp_base.specs.declared.config.Config.{Config}
use Rattle.rp_replica.specs.rp_store.specs.Disk.{Disk}
use Rattle.rp_replica.specs.Opening.{Opens}
use Rattle.rp_requests.specs.Nodes.{NodeState}
use Rattle.rp_requests.specs.declared.not_taken.NotTaken.TheVariants.{Nothing}

-- The node runs with the whole records at the front of the device's bytes; there are n of them,
-- with this many bytes together. It has made no step.
pub record IsOpenedNode {S : Type 0} (me : ℕ) (config : Config) (begin : S) (bytes : List ℕ)
    (node : NodeState S) (records kept : ℕ) : Type 0 where
  pub disk : Disk
  pub holds : disk.contents ≡ bytes
  pub cut_bytes : ℕ
  pub opens : Opens me config begin disk node.replica records cut_bytes
  pub kept_is : kept ≡ length node.replica.disk.contents
  pub no_step : (node.stored ≡ []) × (node.packets ≡ []) × (node.ends ≡ [])
      × (node.not_taken ≡ Nothing) × (node.had_early ≡ false)
