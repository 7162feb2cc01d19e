use Rattle.rp_deck_laws.proofs.ObjectTextLemmas.{objects_declare, interrupts_declare, timers_declare, declared_back}
use Rattle.rp_deck_laws.proofs.texts.declarations_are_read_back.Goals as goal

pub returns-clause-objects : goal.returns-clause-objects
returns-clause-objects c = objects_declare

pub returns-clause-interrupts : goal.returns-clause-interrupts
returns-clause-interrupts c = interrupts_declare

pub returns-clause-timers : goal.returns-clause-timers
returns-clause-timers c = timers_declare

pub returns-clause-whole : goal.returns-clause-whole
returns-clause-whole c = declared_back
