-- A step or an event that names n nodes names what is declared.
use Rattle.rp_deck.proofs.script.command_of.Goals as goal

pub returns-in_ok-read_cut-in-Cut-clause-right : goal.returns-in_ok-read_cut-in-Cut-clause-right
returns-in_ok-read_cut-in-Cut-clause-right c = (c.in_ok-read_cut-in-Cut.ensures.within _ _, c.in_ok-read_cut-in-Cut.ensures.declared _ _)

pub returns-in_ok-read_lead-in-Lead-clause-right : goal.returns-in_ok-read_lead-in-Lead-clause-right
returns-in_ok-read_lead-in-Lead-clause-right c = (c.in_ok-read_lead-in-Lead.ensures.within, c.in_ok-read_lead-in-Lead.ensures.declared _)

pub returns-in_ok-read_deliver-in-Deliver-clause-right : goal.returns-in_ok-read_deliver-in-Deliver-clause-right
returns-in_ok-read_deliver-in-Deliver-clause-right c = (c.in_ok-read_deliver-in-Deliver.ensures.within _, c.in_ok-read_deliver-in-Deliver.ensures.declared _)

pub returns-in_ok-read_tick-in-Tick-clause-right : goal.returns-in_ok-read_tick-in-Tick-clause-right
returns-in_ok-read_tick-in-Tick-clause-right c = (c.in_ok-read_tick-in-Tick.ensures.within, c.in_ok-read_tick-in-Tick.ensures.declared _)

pub returns-in_ok-read_range-in-Range-clause-right : goal.returns-in_ok-read_range-in-Range-clause-right
returns-in_ok-read_range-in-Range-clause-right c = (c.in_ok-read_range-in-Range.ensures.within, c.in_ok-read_range-in-Range.ensures.declared _)
