-- The limits that an object keeps whose lines are read.
use Rattle.std.specs.Prelude.{ℕ, ◌≡◌, ◌<◌, ◌≤◌, All, true, false, List, Option, Some, None, String}
use Rattle.std.specs.Prelude.{string_bytes, length, Result, OnOk}
use Rattle.std.specs.FinMap.{len}
use Rattle.rp_deck_bodies.specs.indexmap.specs.IndexMap.{IndexMap, values}
use Rattle.rp_object.specs.rp_body.specs.Ranges.{IsInRange, IsNumbered}
use Rattle.rp_object.specs.rp_body.specs.Store.{Store, limits_of}
use Rattle.rp_object.specs.rp_body.specs.declared.components.Limits.{Limits}
use Rattle.rp_object.specs.rp_entry.specs.Operations.{OperationsFit}
use Rattle.rp_object.specs.rp_entry.specs.declared.operations.Operations.{Operations}
use Rattle.rp_object.specs.Program.{has_operation, IsPriority, EndsFit, KeepsProfile}
use Rattle.rp_object.specs.declared.program.Profile.{Profile}
use Rattle.rp_object.specs.declared.program.Profile.TheVariants.{Ravenscar, Jorvik}
use Rattle.rp_words.specs.declared.line_error.LineError.{LineError}
use Rattle.rp_words.specs.Tables.{is_declared, key_names}
use Rattle.rp_deck_bodies.specs.BodyLimits.{IsBody}
use Rattle.rp_deck_bodies.specs.Counted.{AreCounted, WhereCounted}
use Rattle.rp_deck_bodies.specs.declared.names.Component.{Component}
use Rattle.rp_deck_objects.specs.declared.names.OperationName.{OperationName}
use Rattle.rp_deck_objects.specs.declared.objects.Head.{Head}
use Rattle.rp_deck_objects.specs.declared.objects.Head.TheVariants.{Procedure, Entry}
use Rattle.rp_deck_objects.specs.declared.objects.ObjectDraft.{ObjectDraft}
use Rattle.rp_deck_objects.specs.declared.objects.OperationDraft.{OperationDraft}
use Rattle.rp_deck_objects.specs.ObjectViews.{operation_of, object_text}
use Rattle.rp_deck_objects.specs.Objects.{most_entries}

module _ {Y S : Type 0} where
  -- each name denotes one of these operations
  abbrev pub AreNamed : Operations → IndexMap (String Y) OperationName S → Type 0
  AreNamed declared names =
      All (λ name. has_operation (operation_of name) declared ≡ true) (values names)

-- there is room for one more operation of this kind
abbrev pub HasRoomForOperation : Profile → Operations → Head → Type 0
HasRoomForOperation profile operations Procedure = length operations.procedures.items < 8
HasRoomForOperation profile operations (Entry barrier longest) =
    length operations.entries.items < most_entries profile

-- a barrier is counted, and at most 8 calls wait
abbrev pub HeadFits : Limits → Head → Type 0
HeadFits limits Procedure = Unit {0}
HeadFits limits (Entry barrier longest) = (barrier < limits.bools) × (1 ≤ longest) × (longest ≤ 8)

-- under Ravenscar one call waits at an entry
abbrev pub HeadKeeps : Profile → Head → Type 0
HeadKeeps Ravenscar Procedure = Unit {0}
HeadKeeps Ravenscar (Entry barrier longest) = longest ≡ 1
HeadKeeps Jorvik head = Unit {0}

-- an operation whose body may begin: there is room for it, its name is new, and it fits
pub record MayBegin (profile : Profile) (o : ObjectDraft) (name : List ℕ) (head : Head)
    : Type 0 where
  pub room : HasRoomForOperation profile o.operations head
  pub new : is_declared name (key_names o.operation_names) ≡ false
  pub fits : WhereCounted (values o.component_names) (λ limits. HeadFits limits head)
  pub keeps : HeadKeeps profile head

-- and so it was where its body began, which keeps its limits
pub record IsOpenIn (profile : Profile) (o : ObjectDraft) (operation : OperationDraft)
    : Type 0 where
  pub begun : MayBegin profile o (string_bytes operation.name) operation.head
  pub body : IsBody (values o.component_names) 0 operation.body

abbrev pub HasOpen : Profile → ObjectDraft → Option OperationDraft → Type 0
HasOpen profile o None = Unit {0}
HasOpen profile o (Some operation) = IsOpenIn profile o operation

-- components, n names of each kind, and what names denote: at most 8 of each kind, a name for each,
-- ranges of 64 bits, first values in them, and each name denotes a component
pub record KeepsComponents (store : Store) (int_count bool_count : ℕ) (declared : List Component)
    : Type 0 where
  pub few_ints : len store.ints ≤ 8
  pub few_bools : len store.bools ≤ 8
  pub ints : int_count ≡ len store.ints
  pub bools : bool_count ≡ len store.bools
  pub numbered : IsNumbered store
  pub ends : EndsFit store
  pub in_range : IsInRange store
  pub counted : AreCounted (limits_of store) declared

-- what an object has so far keeps the limits
pub record IsObject (profile : Profile) (o : ObjectDraft) : Type 0 where
  pub ceiling : IsPriority o.ceiling
  pub components : KeepsComponents o.components (length o.int_names.items)
      (length o.bool_names.items)
      (values o.component_names)
  pub entries : length o.entry_names.items ≡ length o.operations.entries.items
  pub fit : WhereCounted (values o.component_names) (λ limits. OperationsFit limits o.operations)
  pub keeps : KeepsProfile profile o.operations
  pub named : AreNamed o.operations o.operation_names
  pub operation : HasOpen profile o o.open_operation

-- and no body is open
pub record MayDeclare (profile : Profile) (o : ObjectDraft) : Type 0 where
  pub object : IsObject profile o
  pub none : o.open_operation ≡ None

-- no procedure is lost
abbrev pub KeepsProcedures : ObjectDraft → ObjectDraft → Type 0
KeepsProcedures old new = length (object_text old).procedures ≤ length (object_text new).procedures

-- what each line that declares keeps, if it was read: the limits, under each profile, and the
-- procedures
abbrev pub KeepsObject : ObjectDraft → ObjectDraft → Result (Unit {0}) LineError → Type 0
KeepsObject old new result =
    ((profile : Profile) → MayDeclare profile old → OnOk result (IsObject profile new))
    × OnOk result (KeepsProcedures old new)
