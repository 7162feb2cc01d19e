use Rattle.std.proofs.Common.{◌<◌, ℕ}
use Rattle.rp_explore.specs.Broken.{IsAskedAt, state_at}
use Rattle.rp_explore.proofs.property.first_broken.Given as goal

-- the property holds after the orders so far of which it is asked
abbrev pub invariant-loop-place : goal.invariant-loop-place
invariant-loop-place g l =
    let m = g.M.Machine in
    (earlier : ℕ) → earlier < l.place → IsAskedAt l.explored l.is_final_only earlier → g.P.Property.meaning l.property (state_at m.next m.answers (m.begin l.program) l.explored.orders earlier)
