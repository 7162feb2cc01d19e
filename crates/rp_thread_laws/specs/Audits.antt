-- What an audit has to know of a node.
use Rattle.std.specs.Prelude.{◌≡◌, ℕ, List, length}
use Rattle.rp_threads.specs.rp_base.specs.declared.action.Action.{Action}

-- as many actions are known as the node has applied
abbrev pub IsKnown : List Action → ℕ → Type 0
IsKnown known applied = applied ≡ length known
