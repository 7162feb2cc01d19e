-- By what is not declared.
use Rattle.rp_object.specs.rp_base.specs.declared.reply.Reply.TheVariants.{NoSuchOperation}
use Rattle.rp_manual.proofs.Calling.{refused_with, when_undeclared, not_declared}
use Rattle.rp_manual.proofs.programs.what_is_not_declared_is_refused.Goals as goal

pub returns : goal.returns
returns c running call object operation is =
    refused_with running call object operation NoSuchOperation
    (when_undeclared running.program running.state call object operation (not_declared running.program call.task object is))
