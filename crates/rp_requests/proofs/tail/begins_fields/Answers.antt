-- The fields of a record are cut short where the packet that is made of them is.
use Rattle.rp_requests.proofs.Shortness.{at_kind, promised, voted, learned, promised_range}
use Rattle.rp_requests.proofs.tail.begins_fields.Goals as goal

pub returns-in-2 : goal.returns-in-2
returns-in-2 c = at_kind c.args.version c.args.fields.now c.args.kind 2 c.in-2.is c.begins_packet.result (promised c.args.version c.requires c.args.fields.now) c.begins_packet.ensures

pub returns-in-3 : goal.returns-in-3
returns-in-3 c = at_kind c.args.version c.args.fields.now c.args.kind 3 c.in-3.is c.begins_packet-in-3.result (voted c.args.version c.requires c.args.fields.now) c.begins_packet-in-3.ensures

pub returns-in-4 : goal.returns-in-4
returns-in-4 c = at_kind c.args.version c.args.fields.now c.args.kind 4 c.in-4.is c.begins_packet-in-4.result (learned c.args.version c.requires c.args.fields.now) c.begins_packet-in-4.ensures

pub returns-in-5 : goal.returns-in-5
returns-in-5 c = at_kind c.args.version c.args.fields.now c.args.kind 5 c.in-5.is c.begins_packet-in-5.result (promised_range c.args.version c.requires c.args.fields.now) c.begins_packet-in-5.ensures
