-- The program that a deck declares, in what the rules of protected objects read of it.
use Rattle.std.specs.Prelude.{ℕ, ◌≡◌, ◌+◌, ℤ, pos, nat_le, List, map, Some, slice_get}
use Rattle.std.specs.List.{AllZip}
use Rattle.rp_deck_declarations.specs.rp_body.specs.Store.{Store}
use Rattle.rp_deck_declarations.specs.rp_body.specs.Expressions.{value_of, truth_of}
use Rattle.rp_deck_declarations.specs.rp_body.specs.Meaning.{body_effect}
use Rattle.rp_deck_declarations.specs.rp_body.specs.declared.statement.Stmt.{Stmt}
use Rattle.rp_object.specs.rp_entry.specs.declared.operations.Entry.{Entry}
use Rattle.rp_object.specs.rp_entry.specs.declared.operations.Function.{Function}
use Rattle.rp_object.specs.rp_entry.specs.declared.operations.Function.TheVariants as declared_functions
use Rattle.rp_object.specs.Program.{operations_of, is_within_ceiling}
use Rattle.rp_object.specs.Program.{interrupt_handler}
use Rattle.rp_object.specs.Program.{timer_handler}
use Rattle.rp_object.specs.State.{first_state}
use Rattle.rp_object.specs.declared.program.Declarations.{Declarations}
use Rattle.rp_object.specs.declared.program.ObjectDeclaration.{ObjectDeclaration}
use Rattle.rp_deck_laws.specs.Names.{place_in}
use Rattle.rp_deck_laws.specs.Named.{NamedBody, NamedResult, Value, Truth, NamedFunction}
use Rattle.rp_deck_laws.specs.Named.{NamedEntry, NamedObject, NamedTask}
use Rattle.rp_deck_laws.specs.Named.{NamedHandler, NamedDeck, functions, procedures, entries}
use Rattle.rp_deck_laws.specs.Named.{int_names, bool_names}
use Rattle.rp_deck_laws.specs.NamedTexts.{profile_of}
use Rattle.rp_deck_laws.specs.NamedMeanings.{store_meant, handler_meant}
use Rattle.rp_deck_laws.specs.NamedEffects.{value_named, truth_named, effect_named}

-- ---- an object, whose components of each kind have these names

module _ (whole truths : List (List ℕ)) where
  -- these statements do what the body says
  abbrev pub Does : NamedBody → List Stmt → Type 0
  Does body statements =
      (arg : ℤ) (store : Store)
      → body_effect statements arg store ≡ effect_named whole truths arg body store (pos 0)

  -- the function returns what is said
  abbrev pub Returns : NamedResult → Function → Type 0
  Returns (Value value) (declared_functions.Value expr) =
      (store : Store) (arg out : ℤ)
      → value_of expr store arg out ≡ value_named whole truths value store arg out
  Returns (Truth truth) (declared_functions.Truth cond) =
      (store : Store) (arg out : ℤ)
      → truth_of cond store arg out ≡ truth_named whole truths truth store arg out
  Returns _ _ = ⊥

  abbrev pub IsFunctionOf : NamedFunction → Function → Type 0
  IsFunctionOf function declared = Returns function.result declared

  pub record IsEntryOf (entry : NamedEntry) (declared : Entry) : Type 0 where
    pub barrier : declared.barrier ≡ place_in entry.barrier truths
    pub longest : declared.longest ≡ entry.longest
    pub body : Does entry.body declared.body.items

-- its operations of each kind, one after another
pub record IsObjectOf (object : NamedObject) (declared : ObjectDeclaration) : Type 0 where
  pub ceiling : declared.ceiling ≡ object.ceiling
  pub functions : AllZip (IsFunctionOf (int_names object.parts) (bool_names object.parts))
      (functions object.parts) (operations_of declared).functions.items
  pub procedures : AllZip
      (λ procedure body. Does (int_names object.parts) (bool_names object.parts) procedure.body
      body.items)
      (procedures object.parts) (operations_of declared).procedures.items
  pub entries : AllZip (IsEntryOf (int_names object.parts) (bool_names object.parts))
      (entries object.parts) (operations_of declared).entries.items

-- ---- the program

-- it starts with the first values; a task is within an object's ceiling if its priority is not
-- above it
pub record IsProgramOf (deck : NamedDeck) (program : Declarations) : Type 0 where
  pub profile : program.profile ≡ profile_of deck
  pub priorities : program.priorities.items ≡ map (λ task. task.priority) deck.tasks
  pub objects : AllZip IsObjectOf deck.objects program.objects.items
  pub start : map (λ object. object.state.store) (first_state program).state.objects
      ≡ map (λ object. store_meant object.parts) deck.objects
  pub within : (k j : ℕ) (task : NamedTask) (object : NamedObject)
      → slice_get deck.tasks k ≡ Some task → slice_get deck.objects j ≡ Some object
      → is_within_ceiling program (k + 1) (j + 1) ≡ nat_le task.priority object.ceiling
  pub interrupts : (k : ℕ) (handler : NamedHandler) → slice_get deck.interrupts k ≡ Some handler
      → interrupt_handler program (k + 1) ≡ Some (handler_meant deck.objects handler)
  pub timers : (k : ℕ) (handler : NamedHandler) → slice_get deck.timers k ≡ Some handler
      → timer_handler program (k + 1) ≡ Some (handler_meant deck.objects handler)
