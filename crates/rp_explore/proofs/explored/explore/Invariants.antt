use Rattle.std.proofs.Common.{◌≡◌, ◌≤◌, ◌-◌, length}
use Rattle.rp_explore.specs.Findings.{found_of}
use Rattle.rp_explore.specs.Searched.{AreFindings}
use Rattle.rp_explore.proofs.explored.explore.Given as goal

-- the orders before the place were visited
abbrev pub invariant-loop-place : goal.invariant-loop-place
invariant-loop-place g l =
    let m = g.M.Machine in record {
      begin : l.search.begin ≡ m.begin l.fn.program;
      guards : l.search.guards ≡ l.fn.guards;
      may : l.search.listed.may ≡ l.fn.may;
      most : l.search.most ≡ l.fn.most;
      within : l.place ≤ length l.search.listed.orders;
      room : length l.search.listed.orders ≤ l.search.most;
      found : AreFindings m.next m.answers l.search l.place (found_of l.findings);
    }

abbrev pub decreases-loop-place : goal.decreases-loop-place
decreases-loop-place g l = l.fn.most - l.place
