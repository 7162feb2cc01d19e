-- By the cases of the action.
use Rattle.std.proofs.Common.{◌∙◌, ap, Some, pos}
use Rattle.rp_object.specs.rp_base.specs.declared.reply.Reply.{Reply as Replies}
use Rattle.rp_object.specs.rp_body.specs.Expressions.{value_of}
use Rattle.rp_object.specs.rp_entry.specs.declared.operations.Function.TheVariants.{Value as Whole, Truth as Condition}
use Rattle.rp_object.specs.rp_entry.specs.declared.state.CallOutcome.TheVariants.{Reply}
use Rattle.rp_manual.proofs.Acting.{constant, replies, value_replied, beyond_replied}
use Rattle.rp_manual.proofs.objects.functions_change_nothing.Goals as goal

pub returns : goal.returns
returns c = record {
  constant = λ operations before after index arg caller replied acts. constant acts;
  value = λ operations before after index arg caller replied expr declared acts fits.
      replies (Whole expr) declared acts ∙ ap (λ (r : Replies). Some (Reply r)) (value_replied (value_of expr before.store arg (pos 0)) fits);
  beyond = λ operations before after index arg caller replied expr declared acts never.
      replies (Whole expr) declared acts ∙ ap (λ (r : Replies). Some (Reply r)) (beyond_replied (value_of expr before.store arg (pos 0)) never);
  truth = λ operations before after index arg caller replied condition declared acts. replies (Condition condition) declared acts;
}
