-- What is kept before the report and what is reported follow one another in the order.
use Rattle.std.proofs.Common.{◌+◌, ◌-◌, ◌++◌, take, drop, ap, ◌∙◌, arith}
use Rattle.rp_threads.specs.rp_boxes.specs.Audits.{longer_of}
use Rattle.rp_thread_laws.proofs.Reporting.{taken_on, taken_twice, longer}
use Rattle.rp_thread_laws.proofs.reports.reports_add_up.Goals as goal

pub returns : goal.returns
returns c = λ order m n first fits from no_gap reaches.
    let kept = taken_twice (first - 1) m order (omega (arith, from, no_gap)) in
    let whole = ap (λ l. l ++ take n (drop (first - 1) order)) kept ∙ taken_on (first - 1) n order in
    ap (longer_of (take m order)) whole ∙ longer order m (first - 1 + n) fits reaches
