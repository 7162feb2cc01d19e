-- By the cases of the request.
use Rattle.rp_requests.proofs.TaskTexts.{task_requests}
use Rattle.rp_requests.proofs.request_texts.task_requests_are_read_back.Goals as goal

pub returns : goal.returns
returns c = task_requests
