-- What is declared so far, as the text says it.
use Rattle.std.specs.Prelude.{ℕ, map}
use Rattle.rp_words.specs.indexmap.specs.IndexMap.{values}
use Rattle.rp_deck_declarations.specs.declared.deck_program.Task.{Task}
use Rattle.rp_deck_declarations.specs.declared.draft.Draft.{Draft}
use Rattle.rp_deck_objects.specs.ObjectViews.{object_text}
use Rattle.rp_words.specs.Tables.{key_names, set_names}
use Rattle.rp_deck_declarations.specs.Drafts.{DraftText}

abbrev pub priority_of : Task → ℕ
priority_of task = task.priority

abbrev pub draft_text : Draft → DraftText
draft_text draft = record {
  nodes = draft.nodes;
  positions = draft.positions;
  profile = draft.profile;
  is_tally = draft.is_tally;
  tasks = key_names draft.tasks;
  priorities = map priority_of (values draft.tasks);
  objects = set_names draft.objects;
  drafts = map object_text draft.drafts.items;
  interrupts = key_names draft.interrupts;
  interrupt_handlers = values draft.interrupts;
  timers = key_names draft.timers;
  timer_handlers = values draft.timers;
}
