-- The node still runs where its loop ended without a fault.
use Rattle.std.proofs.Common.{◌≡◌, sym, subst}
use Rattle.rp_threads.specs.rp_base.specs.declared.fault.Fault.{Fault}
use Rattle.rp_threads.specs.rp_base.specs.declared.fault.Fault.TheVariants.{OutOfMemory}
use Rattle.rp_board.specs.Seats.{SeatState}
use Rattle.rp_board.proofs.SeatBoxes.{at_fault}
use Rattle.rp_threads.specs.Rounds.{Runs}
use Rattle.rp_live.proofs.reports.read_end.Goals as goal

pub read_log-requires : goal.read_log-requires
read_log-requires g c =
    let stated = c.in_ok-seat.ensures in
    subst (λ (s : SeatState g.row.M-Program.Denot). Runs s.part) (sym stated.ok) (c.requires.still stated.none)

pub returns-in_err-applied-clause-only : goal.returns-in_err-applied-clause-only
returns-in_err-applied-clause-only g c =
    at_fault (λ (e : Fault). e ≡ OutOfMemory) _ c.from_residual-in_err-applied.result c.from_residual-in_err-applied.ensures.1 c.in_err-applied.ensures.only
