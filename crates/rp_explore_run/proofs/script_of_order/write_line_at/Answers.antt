-- The line is the one of the number.
use Rattle.std.proofs.Common.{◌≤◌, ◌++◌, List, ℕ, length, arith, ap, ◌∙◌}
use Rattle.rp_output.specs.FaultMessage.{with_line_feed}
use Rattle.rp_explore_run.proofs.Heads.{line_found}
use Rattle.rp_explore_run.proofs.script_of_order.write_line_at.Goals as goal

pub returns : goal.returns
returns c =
    let few : c.args.number ≤ length c.args.lines.now = omega (arith, c.if-number-lines.false) in
    c.in_ok-write_line.ensures
    ∙ ap (λ (line : List ℕ). c.args.text.now.items ++ with_line_feed line) (line_found c.args.lines.now c.args.number _ c.if-number-eq0.false few)
