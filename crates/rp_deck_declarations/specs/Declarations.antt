-- What a deck declares (the limits are ours).
use Rattle.std.specs.Prelude.{ℕ, ◌≡◌, ◌≤◌, All, false, List, Some, unwrap_or, String, length, map}
use Rattle.std.specs.String.{string_eq}
use Rattle.rp_words.specs.indexmap.specs.IndexMap.{IndexMap, index_map_len, values, IsUnique}
use Rattle.rp_words.specs.indexmap.specs.IndexSet.{IndexSet, index_set_len}
use Rattle.rp_words.specs.indexmap.specs.IndexSet as sets
use Rattle.rp_deck_declarations.specs.declared.deck_program.DeckProgram.{DeckProgram}
use Rattle.rp_deck_declarations.specs.Programs.{object_count, DeclaresAll, AreNamesOf}
use Rattle.rp_deck_declarations.specs.declared.declarations.Declared.{Declared}
use Rattle.rp_deck_declarations.specs.declared.draft.Draft.{Draft}
use Rattle.rp_deck_objects.specs.declared.objects.ObjectDraft.{ObjectDraft}
use Rattle.rp_object.specs.rp_entry.specs.Operations.{of_index}
use Rattle.rp_object.specs.declared.program.Profile.TheVariants.{Ravenscar}
use Rattle.rp_object.specs.declared.program.Handler.{Handler}
use Rattle.rp_deck_objects.specs.ObjectViews.{object_text}
use Rattle.rp_deck_objects.specs.ObjectLimits.{IsObject}
use Rattle.rp_words.specs.Tables.{key_names}

abbrev pub IsNodeCount : ℕ → Type 0
IsNodeCount n = (3 ≤ n) × (n ≤ 7)

module _ {Y X S : Type 0} where
  -- at most 8 names, and no name twice
  pub record IsNameTable (table : IndexMap (String Y) X S) : Type 0 where
    pub few : index_map_len table ≤ 8
    pub distinct : IsUnique string_eq table

module _ {Y S : Type 0} where
  -- the same of names that denote nothing but their places
  pub record IsNameSet (names : IndexSet (String Y) S) : Type 0 where
    pub few : index_set_len names ≤ 8
    pub distinct : sets.IsUnique string_eq names

-- the program has n objects
abbrev pub HasObjects : ℕ → DeckProgram → Type 0
HasObjects objects program = object_count program ≡ objects

-- how many procedures each object has
abbrev pub procedure_counts : List ObjectDraft → List ℕ
procedure_counts drafts = map (λ draft. length (object_text draft).procedures) drafts

-- the handler is a procedure of one of these objects
pub record IsHandled (counts : List ℕ) (handler : Handler) : Type 0 where
  pub count : ℕ
  pub here : of_index counts handler.object ≡ Some count
  pub least : 1 ≤ handler.procedure
  pub most : handler.procedure ≤ count

-- what is declared so far keeps the limits
pub record IsDraft (draft : Draft) : Type 0 where
  pub nodes : IsNodeCount draft.nodes
  pub tasks : IsNameTable draft.tasks
  pub objects : IsNameSet draft.objects
  pub counted : length draft.drafts.items ≤ index_set_len draft.objects
  pub drafts : draft.is_tally ≡ false → length draft.drafts.items ≡ index_set_len draft.objects
  pub kept : All (IsObject (unwrap_or draft.profile Ravenscar)) draft.drafts.items
  pub interrupts : IsNameTable draft.interrupts
  pub timers : IsNameTable draft.timers
  pub interrupts_handled : All (IsHandled (procedure_counts draft.drafts.items))
      (values draft.interrupts)
  pub timers_handled : All (IsHandled (procedure_counts draft.drafts.items)) (values draft.timers)

-- and there are tasks and objects
pub record IsFinishable (draft : Draft) : Type 0 where
  pub limits : IsDraft draft
  pub tasks : 1 ≤ index_map_len draft.tasks
  pub objects : 1 ≤ index_set_len draft.objects

-- what is declared keeps the limits, and there are tasks and objects
pub record IsComplete (declared : Declared) : Type 0 where
  pub nodes : IsNodeCount declared.nodes
  pub tasks : IsNameTable declared.tasks
  pub some_task : 1 ≤ index_map_len declared.tasks
  pub objects : IsNameSet declared.objects
  pub some_object : 1 ≤ index_set_len declared.objects
  pub program : HasObjects (index_set_len declared.objects) declared.program
  pub kept : DeclaresAll (map (λ task. task.priority) (values declared.tasks))
      (values declared.interrupts)
      (values declared.timers) (key_names declared.timers) declared.program
  pub operations : length declared.operations.items ≡ index_set_len declared.objects
  pub named : AreNamesOf declared.program declared.operations.items
  pub interrupts : IsNameTable declared.interrupts
  pub timers : IsNameTable declared.timers
