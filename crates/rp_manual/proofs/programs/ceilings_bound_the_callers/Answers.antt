-- By the test of the ceiling.
use Rattle.std.proofs.Common.{subst, sym}
use Rattle.rp_object.specs.rp_base.specs.declared.reply.Reply.TheVariants.{ProgramError}
use Rattle.rp_object.specs.Program.{operations_of}
use Rattle.rp_manual.proofs.Calling.{refused_with, above_ceiling, within_ceiling, request_of, of_task, call_result, is_call_of}
use Rattle.rp_manual.proofs.programs.ceilings_bound_the_callers.Goals as goal

pub returns : goal.returns
returns c = record {
  above = λ running call object priority operation declared is above.
      let asked = request_of operation call (operations_of declared) is.offers in
      refused_with running call object operation ProgramError
      (above_ceiling running.program running.state call object priority declared operation asked.0 is asked.1 above);
  within = λ running call object priority operation declared protected request is within there asked.
      subst (call_result running call object protected request)
      (sym (within_ceiling running.program running.state call object priority declared operation request is asked within))
      (is_call_of running call object protected request there (of_task operation call request asked));
}
