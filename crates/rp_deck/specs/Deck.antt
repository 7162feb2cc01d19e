-- What a deck that was read keeps (the limits are ours).
use Rattle.std.specs.Prelude.{◌≤◌, All, map}
use Rattle.rp_words.specs.indexmap.specs.IndexMap.{index_map_len, values}
use Rattle.rp_words.specs.indexmap.specs.IndexSet.{index_set_len}
use Rattle.rp_words.specs.rp_base.specs.Config.{IsRightConfig}
use Rattle.rp_deck.specs.declared.deck.Deck.{Deck}
use Rattle.rp_deck_declarations.specs.Declarations.{IsNameTable, IsNameSet, HasObjects}
use Rattle.rp_deck_declarations.specs.Programs.{DeclaresAll}
use Rattle.rp_words.specs.Tables.{key_names}
use Rattle.rp_deck.specs.Script.{FitsIn, IsCommandDeclared}

-- A right configuration, 1 to 8 tasks and as many objects, at most 8 interrupts and timing events,
-- no name twice among those of a kind, and a program of them. The script names nodes, tasks and
-- objects that there are; what it calls is an operation of the object or a timing event whose
-- handler the object has; and its interrupts are declared.
pub record IsRightDeck (deck : Deck) : Type 0 where
  pub config : IsRightConfig deck.config
  pub tasks : IsNameTable deck.tasks
  pub some_task : 1 ≤ index_map_len deck.tasks
  pub objects : IsNameSet deck.objects
  pub some_object : 1 ≤ index_set_len deck.objects
  pub program : HasObjects (index_set_len deck.objects) deck.program
  pub kept : DeclaresAll (map (λ task. task.priority) (values deck.tasks)) (values deck.interrupts)
      (values deck.timers) (key_names deck.timers) deck.program
  pub interrupts : IsNameTable deck.interrupts
  pub timers : IsNameTable deck.timers
  pub script : All (λ line. FitsIn deck.config.nodes (index_map_len deck.tasks)
      (index_set_len deck.objects) line.command) deck.script.items
  pub named : All
      (λ line. IsCommandDeclared deck.program (index_map_len deck.interrupts) line.command)
      deck.script.items
