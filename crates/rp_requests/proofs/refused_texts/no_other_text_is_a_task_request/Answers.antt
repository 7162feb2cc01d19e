-- By the kind and the number of operands.
use Rattle.rp_requests.proofs.NoTaskTexts.{empty_is, kinds, again, node, operation, argument}
use Rattle.rp_requests.proofs.refused_texts.no_other_text_is_a_task_request.Goals as goal

pub returns : goal.returns
returns c = record { empty = empty_is; kinds = kinds; again = again; node = node; operation = operation; argument = argument }
