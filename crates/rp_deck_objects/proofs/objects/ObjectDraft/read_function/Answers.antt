use Rattle.std.proofs.Common.{arith}
use Rattle.std.proofs.lemmas.Grind.{common_steps}
use Rattle.rp_deck_objects.specs.Objects.{function_line}
use Rattle.rp_deck_objects.proofs.objects.ObjectDraft.read_function.Goals as goal

pub returns-then-len-from-clause-read : goal.returns-then-len-from-clause-read
unfolding function_line
returns-then-len-from-clause-read c = grind (arith, common_steps)

pub returns-in_err-name-clause-read : goal.returns-in_err-name-clause-read
unfolding function_line
returns-in_err-name-clause-read c = grind (arith, common_steps)

pub returns-in_err-take-clause-read : goal.returns-in_err-take-clause-read
unfolding function_line
returns-in_err-take-clause-read c = grind (arith, common_steps)

pub returns-in_err-function-clause-read : goal.returns-in_err-function-clause-read
unfolding function_line
returns-in_err-function-clause-read c = grind (arith, common_steps)

pub returns-clause-read : goal.returns-clause-read
unfolding function_line
returns-clause-read c = grind (arith, common_steps)
