-- The report of one action, which the audit got first, is still got once it got the report of two.
use Rattle.std.proofs.Common.{sym, subst}
use Rattle.rp_threads.specs.rp_boxes.specs.Audits.{IsGotReport}
use Rattle.rp_threads_tests.proofs.audit.adds_late.Goals as goal

pub adds-requires : goal.adds-requires
adds-requires g c =
    let one = c.adds-second.ensures.kept (c.reported-one.result.items) (c.reported-two.ensures.kept c.reported-one.result.items c.reported-one.ensures.got) in
    subst (IsGotReport c.adds-second.new.audit.seat.part) (sym c.as_slice-2.ensures.value) one
