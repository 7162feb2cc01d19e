-- By the kind and the number of operands.
use Rattle.rp_requests.proofs.NoNodeTexts.{empty_is, kinds, lead, interrupt, tick, report, range, ask, counted, occurred, questions, source, node, task, source_asked}
use Rattle.rp_requests.proofs.refused_texts.no_other_text_is_a_node_request.Goals as goal

pub returns : goal.returns
returns c = record {
  empty = empty_is;
  kinds = λ kind operands none. kinds kind none operands;
  lead = lead;
  interrupt = interrupt;
  tick = tick;
  report = report;
  range = range;
  ask = ask;
  counted = counted;
  occurred = occurred;
  questions = questions;
  source = source;
  node = node;
  task = task;
  source_asked = source_asked;
}
