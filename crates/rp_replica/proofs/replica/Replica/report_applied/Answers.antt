use Rattle.std.proofs.Common.{List, length, sym, ap, subst, ◌∙◌}
use Rattle.std.specs.Prelude.{All}
use Rattle.rp_base.specs.declared.action.Action.{Action}
use Rattle.rp_base.specs.Action.{IsRight}
use Rattle.rp_codec.specs.Message.{report_len}
use Rattle.rp_replica.proofs.replica.Replica.report_applied.Goals as goal

pub new-requires : goal.new-requires
new-requires g c = (
  tt,
  tt,
  record {
    len = ap (λ (l : List Action). length l) c.from_vec.ensures ∙ c.in_ok-reported.ensures.len ∙ ap (report_len c.args.first) (sym c.applied.ensures.count);
    right = subst (λ (l : List Action). All IsRight l) (sym c.from_vec.ensures) c.in_ok-reported.ensures.right;
  },
)
