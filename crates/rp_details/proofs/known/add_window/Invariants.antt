use Rattle.std.proofs.Common.{◌≡◌, ◌++◌}
use Rattle.rp_details.proofs.Texts.{positions_so_far}
use Rattle.rp_details.proofs.known.add_window.Given as goal

-- the positions so far are said
abbrev pub invariant-loop-index : goal.invariant-loop-index
invariant-loop-index g l = l.text.items ≡ l.initial.text.items ++ positions_so_far l.server.records l.window l.index
