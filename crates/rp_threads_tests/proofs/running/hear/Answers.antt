-- What the audit fetched is a report.
use Rattle.std.proofs.Common.{Option, Vec, ℕ, sym, subst}
use Rattle.std.specs.Prelude.{IfSome}
use Rattle.std.specs.declared.alloc.Global.{Global}
use Rattle.rp_threads.specs.rp_boxes.specs.Audits.{IsGotReport}
use Rattle.rp_threads_tests.proofs.running.hear.Goals as goal

pub add-requires : goal.add-requires
add-requires g c =
    let part = c.fetch.new.self.seat.part in
    let got = subst (λ (r : Option (Vec ℕ Global)). IfSome r (λ text. IsGotReport part text.items)) c.expect-report.ensures c.fetch.ensures.report in
    subst (IsGotReport part) (sym c.as_slice.ensures.value) got
