use Rattle.rp_installations.proofs.Buffer.{buffer, room}
use Rattle.rp_installations.proofs.Plays.{forged_packets, exchanged_device, early_packets}
use Rattle.rp_installations.proofs.Reopened.{old_reply}
use Rattle.rp_installations.proofs.callers.no_rule_can_be_left_out.Goals as goal

pub returns-clause-devices : goal.returns-clause-devices
returns-clause-devices c = early_packets buffer room c.node_requests_are_read_back.ensures.steps c.task_requests_are_read_back.ensures

pub returns-clause-packets : goal.returns-clause-packets
returns-clause-packets c = forged_packets buffer room c.node_requests_are_read_back.ensures.steps c.task_requests_are_read_back.ensures

pub returns-clause-handles : goal.returns-clause-handles
returns-clause-handles c = exchanged_device buffer room c.node_requests_are_read_back.ensures.steps c.task_requests_are_read_back.ensures

pub returns-clause-tasks : goal.returns-clause-tasks
returns-clause-tasks c = old_reply buffer room c.node_requests_are_read_back.ensures.steps c.task_requests_are_read_back.ensures
