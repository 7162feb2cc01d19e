use Rattle.rp_installations.proofs.Buffer.{buffer, room}
use Rattle.rp_installations.proofs.Kept.{answered, noted}
use Rattle.rp_installations.proofs.callers.the_rules_can_be_kept.Goals as goal

pub returns-clause-replies : goal.returns-clause-replies
returns-clause-replies c = answered buffer room c.node_requests_are_read_back.ensures.steps c.task_requests_are_read_back.ensures

pub returns-clause-interrupts : goal.returns-clause-interrupts
returns-clause-interrupts c = noted buffer room c.node_requests_are_read_back.ensures.steps c.task_requests_are_read_back.ensures
