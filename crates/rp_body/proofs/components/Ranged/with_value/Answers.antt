-- A number comes back from its bits as it was, so the tests are those of the range.
use Rattle.std.proofs.Common.{sym, ◌∙◌, FitsSigned, w64, rules}
use Rattle.rp_body.proofs.Passing.{below_range, above_range, Passes, in_range, written}
use Rattle.rp_body.proofs.components.Ranged.with_value.Goals as goal
use Rattle.rp_body.proofs.components.Ranged.with_value.Goals.{then-value-from, else-value-from}

pub returns-then-from-value : goal.returns-then-from-value
returns-then-from-value c =
    let low_fits : FitsSigned w64 c.args.self.low = search rules in
    let high_fits : FitsSigned w64 c.args.self.high = search rules in
    elim c.if-value-from.branch [
      | then-value-from w ↦ below_range c.args.self c.args.value c.from.result c.ranges.value low_fits c.from.ensures w.if-value-from.true
      | else-value-from w ↦ above_range c.args.self c.args.value w.from-else-value-from.result c.ranges.value high_fits w.from-else-value-from.ensures (sym w.value-is ∙ c.if-from-value.true)
    ]

pub returns-else-from-value : goal.returns-else-from-value
returns-else-from-value c =
    let low_fits : FitsSigned w64 c.args.self.low = search rules in
    let high_fits : FitsSigned w64 c.args.self.high = search rules in
    elim c.if-value-from.branch [
      | then-value-from w ↦ absurd (cc (sym w.value-is ∙ c.if-from-value.false, w.if-value-from.true))
      | else-value-from w ↦
          let p : Passes c.args.self c.args.value c.from.result w.from-else-value-from.result = record {
            value_fits = c.ranges.value;
            low_fits = low_fits;
            high_fits = high_fits;
            bottom_is = c.from.ensures;
            top_is = w.from-else-value-from.ensures;
            not_below = w.if-value-from.false;
            not_above = sym w.value-is ∙ c.if-from-value.false;
          } in
          (in_range p, written p)
    ]
