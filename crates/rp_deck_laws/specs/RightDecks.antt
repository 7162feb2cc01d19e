-- Which decks are right: the limits are kept, names are names and differ, and what is named is
-- there.
use Rattle.std.specs.Prelude.{ℕ, ◌≡◌, ◌≤◌, ◌<◌, ◌+◌, ◌-◌, ◌^◌, suc, FitsSigned, true, IsTrue}
use Rattle.std.specs.Prelude.{List, [], ◌∷◌, ◌++◌, length, IfSome, not}
use Rattle.std.specs.Int.{w64}
use Rattle.std.specs.List.{AllByRecursion, list_all}
use Rattle.rp_deck_declarations.specs.rp_body.specs.Store.{is_within}
use Rattle.rp_object.specs.declared.program.Profile.{Profile}
use Rattle.rp_object.specs.declared.program.Profile.TheVariants.{Ravenscar}
use Rattle.rp_object.specs.declared.program.Profile.TheVariants.{Jorvik}
use Rattle.rp_deck_bodies.specs.Expressions.{expression_words}
use Rattle.rp_deck.specs.Script.{IsUpTo, IsMessage}
use Rattle.rp_deck_laws.specs.ScriptText.{are_names}
use Rattle.rp_deck_laws.specs.Names.{is_among, IsAmong}
use Rattle.rp_deck_laws.specs.Named.{NamedExpr, NamedCond, NamedBody, NamedResult, Value, Truth}
use Rattle.rp_deck_laws.specs.Named.{NamedPart, AnInt, ABool, AFunction, AProcedure, AnEntry}
use Rattle.rp_deck_laws.specs.Named.{NamedObject, NamedTask, NamedHandler, NamedStep}
use Rattle.rp_deck_laws.specs.Named.{NamedCommand, NamedDeck, ints, bools, functions}
use Rattle.rp_deck_laws.specs.Named.{procedures}
use Rattle.rp_deck_laws.specs.Named.{entries, int_names, bool_names, procedure_names}
use Rattle.rp_deck_laws.specs.Named.{component_names, operation_names, task_names, object_names}
use Rattle.rp_deck_laws.specs.Named.{handler_names}
use Rattle.rp_deck_laws.specs.Named.{NamedExpr as exprs}
use Rattle.rp_deck_laws.specs.Named.{NamedCond as conds}
use Rattle.rp_deck_laws.specs.Named.{NamedBody as bodies}
use Rattle.rp_deck_laws.specs.Named.{NamedStep as steps}
use Rattle.rp_deck_laws.specs.Named.{NamedCommand as commands}
use Rattle.rp_deck_laws.specs.NamedTexts.{profile_of}
use Rattle.rp_deck_laws.specs.NamedMeanings.{parts_named}

-- each is a name, and no two are the same
abbrev pub AreNames : List (List ℕ) → Type 0
AreNames names = IsTrue (are_names names)

-- ---- expressions, conditions and bodies of an object

-- how many nodes there are
abbrev pub named_expr_nodes : NamedExpr → ℕ
named_expr_nodes (exprs.Add first second) = 1 + (named_expr_nodes first + named_expr_nodes second)
named_expr_nodes (exprs.Sub first second) = 1 + (named_expr_nodes first + named_expr_nodes second)
named_expr_nodes _ = 1

abbrev pub named_cond_nodes : NamedCond → ℕ
named_cond_nodes (conds.Constant truth) = 1
named_cond_nodes (conds.Named name) = 1
named_cond_nodes (conds.Less first second) = 1 + (named_expr_nodes first + named_expr_nodes second)
named_cond_nodes (conds.LessOrEqual first second) = 1 + (named_expr_nodes first + named_expr_nodes second)
named_cond_nodes (conds.Equal first second) = 1 + (named_expr_nodes first + named_expr_nodes second)
named_cond_nodes (conds.Not negated) = 1 + named_cond_nodes negated
named_cond_nodes (conds.And first second) = 1 + (named_cond_nodes first + named_cond_nodes second)
named_cond_nodes (conds.Or first second) = 1 + (named_cond_nodes first + named_cond_nodes second)

-- how many statements there are
abbrev pub statements : NamedBody → ℕ
statements bodies.Empty = 0
statements (bodies.Set before name value) = statements before + 1
statements (bodies.Put before name value) = statements before + 1
statements (bodies.Return before value) = statements before + 1
statements (bodies.If before condition first second) =
    statements before + 1 + statements first + statements second

module _ (whole truths : List (List ℕ)) where
  -- numbers have 64 signed bits, and what is named is a whole number, or a Boolean
  abbrev pub HasNames : NamedExpr → Type 0
  HasNames (exprs.Number number) = FitsSigned w64 number
  HasNames exprs.Arg = Unit {0}
  HasNames exprs.Out = Unit {0}
  HasNames (exprs.Int name) = IsAmong name whole
  HasNames (exprs.Add first second) = HasNames first × HasNames second
  HasNames (exprs.Sub first second) = HasNames first × HasNames second

  abbrev pub HasCondNames : NamedCond → Type 0
  HasCondNames (conds.Constant truth) = Unit {0}
  HasCondNames (conds.Named name) = IsAmong name truths
  HasCondNames (conds.Less first second) = HasNames first × HasNames second
  HasCondNames (conds.LessOrEqual first second) = HasNames first × HasNames second
  HasCondNames (conds.Equal first second) = HasNames first × HasNames second
  HasCondNames (conds.Not negated) = HasCondNames negated
  HasCondNames (conds.And first second) = HasCondNames first × HasCondNames second
  HasCondNames (conds.Or first second) = HasCondNames first × HasCondNames second

  -- at most 32 nodes
  abbrev pub IsRightExpr : NamedExpr → Type 0
  IsRightExpr value = HasNames value × (named_expr_nodes value ≤ 32)

  abbrev pub IsRightCond : NamedCond → Type 0
  IsRightCond value = HasCondNames value × (named_cond_nodes value ≤ 32)

  -- each statement is within n `if`s, of which there are at most 7
  abbrev pub IsRightBody : ℕ → NamedBody → Type 0
  IsRightBody deep bodies.Empty = Unit {0}
  IsRightBody deep (bodies.Set before name value) =
      IsRightBody deep before × (deep < 8) × IsAmong name whole × IsRightExpr value
  IsRightBody deep (bodies.Put before name value) =
      IsRightBody deep before × (deep < 8) × IsAmong name truths × IsRightCond value
  IsRightBody deep (bodies.Return before value) =
      IsRightBody deep before × (deep < 8) × IsRightExpr value
  IsRightBody deep (bodies.If before condition first second) =
      IsRightBody deep before × (deep < 8) × IsRightCond condition
      × IsRightBody (suc deep) first × IsRightBody (suc deep) second

  -- and at most 64 statements
  abbrev pub IsWholeBody : NamedBody → Type 0
  IsWholeBody body = IsRightBody 0 body × (statements body ≤ 64)

  abbrev pub IsRightResult : NamedResult → Type 0
  IsRightResult (Value value) = IsRightExpr value
  IsRightResult (Truth truth) = IsRightCond truth

-- ---- an object

-- under Ravenscar one call waits at an entry
abbrev pub IsLongest : Profile → ℕ → Type 0
IsLongest Ravenscar longest = longest ≡ 1
IsLongest Jorvik longest = IsUpTo 8 longest

-- how many entries an object has at most
abbrev pub entry_limit : Profile → ℕ
entry_limit Ravenscar = 1
entry_limit Jorvik = 4

-- a part names what is declared before it
abbrev pub IsRightPart : Profile → List NamedPart → NamedPart → Type 0
IsRightPart profile before (AnInt int) =
    FitsSigned w64 int.low × FitsSigned w64 int.high × FitsSigned w64 int.value
    × (is_within int.low int.high int.value ≡ true)
IsRightPart profile before (ABool bool) = Unit {0}
IsRightPart profile before (AFunction function) =
    IsRightResult (int_names before) (bool_names before) function.result
IsRightPart profile before (AProcedure procedure) =
    IsWholeBody (int_names before) (bool_names before) procedure.body
IsRightPart profile before (AnEntry entry) =
    IsAmong entry.barrier (bool_names before) × IsLongest profile entry.longest
    × IsWholeBody (int_names before) (bool_names before) entry.body

abbrev pub AreRightParts : Profile → List NamedPart → List NamedPart → Type 0
AreRightParts profile before [] = Unit {0}
AreRightParts profile before (part ∷ rest) =
    IsRightPart profile before part × AreRightParts profile (before ++ part ∷ []) rest

-- at most 8 of each kind, and as many entries as the profile allows; no component has a name that is
-- a word of the expressions
pub record IsRightObject (profile : Profile) (object : NamedObject) : Type 0 where
  pub ceiling : IsUpTo 30 object.ceiling
  pub few_ints : length (ints object.parts) ≤ 8
  pub few_bools : length (bools object.parts) ≤ 8
  pub few_functions : length (functions object.parts) ≤ 8
  pub few_procedures : length (procedures object.parts) ≤ 8
  pub few_entries : length (entries object.parts) ≤ entry_limit profile
  pub components_named : AreNames (component_names object.parts)
  pub free : IsTrue
      (list_all (λ name. not (is_among name expression_words)) (component_names object.parts))
  pub operations_named : AreNames (operation_names object.parts)
  pub parts : AreRightParts profile [] object.parts

-- ---- handlers

-- the handler is a procedure of an object
pub record IsRightHandler (objects : List NamedObject) (handler : NamedHandler) : Type 0 where
  pub object : IsAmong handler.object (object_names objects)
  pub procedure : IsAmong handler.procedure (procedure_names (parts_named objects handler.object))

-- ---- the script

-- what a line of the script may name
module _ (deck : NamedDeck) where
  abbrev pub IsTask : List ℕ → Type 0
  IsTask task = IsAmong task (task_names deck.tasks)

  abbrev pub IsNode : ℕ → Type 0
  IsNode node = IsUpTo deck.nodes node

  abbrev pub IsTimer : List ℕ → Type 0
  IsTimer timer = IsAmong timer (handler_names deck.timers)

  abbrev pub IsRightStep : NamedStep → Type 0
  IsRightStep (steps.Deliver message) = IsMessage message
  IsRightStep (steps.Lead node position) = IsNode node × IfSome position (IsUpTo 65535)
  IsRightStep (steps.LeadRange node first count) =
      IsNode node × IsUpTo 65535 first × IsUpTo 64 count
  IsRightStep (steps.Interrupt node name occurrence) =
      IsNode node × IsAmong name (handler_names deck.interrupts) × IsUpTo (2 ^ 32 - 1) occurrence
  IsRightStep (steps.Tick node now) = IsNode node × (now < 2 ^ 32)

  -- `cut` stops a node that leads or to which a packet is delivered
  abbrev pub MayBeCut : NamedStep → Type 0
  MayBeCut (steps.Interrupt node name occurrence) = ⊥
  MayBeCut (steps.Tick node now) = ⊥
  MayBeCut _ = Unit {0}

  abbrev pub IsRightCommand : NamedCommand → Type 0
  IsRightCommand (commands.Call task node object operation arg) =
      IsTask task × IsNode node × IsAmong object (object_names deck.objects)
      × IsAmong operation (operation_names (parts_named deck.objects object))
      × FitsSigned w64 arg
  IsRightCommand (commands.Arm task node timer time) =
      IsTask task × IsNode node × IsTimer timer × FitsSigned w64 time
  IsRightCommand (commands.Disarm task node timer) = IsTask task × IsNode node × IsTimer timer
  IsRightCommand (commands.Again task node) = IsTask task × IsNode node
  IsRightCommand (commands.Makes step) = IsRightStep step
  IsRightCommand (commands.Cut kept step) = IsRightStep step × MayBeCut step × (kept < 2 ^ 63)
  IsRightCommand (commands.Stop node) = IsNode node
  IsRightCommand (commands.Restart node) = IsNode node
  IsRightCommand (commands.Lose first last) = IsMessage first × IsMessage last
  IsRightCommand commands.Drain = Unit {0}
  IsRightCommand commands.Show = Unit {0}

-- ---- a deck

abbrev pub IsRightTask : NamedTask → Type 0
IsRightTask task = IsUpTo 30 task.priority

-- 1 to 8 tasks and objects, at most 8 interrupts and timing events
pub record IsRight (deck : NamedDeck) : Type 0 where
  pub nodes : (3 ≤ deck.nodes) × (deck.nodes ≤ 7)
  pub positions : IfSome deck.positions (IsUpTo 65535)
  pub task_count : IsUpTo 8 (length deck.tasks)
  pub tasks_named : AreNames (task_names deck.tasks)
  pub tasks : AllByRecursion IsRightTask deck.tasks
  pub object_count : IsUpTo 8 (length deck.objects)
  pub objects_named : AreNames (object_names deck.objects)
  pub objects : AllByRecursion (IsRightObject (profile_of deck)) deck.objects
  pub few_interrupts : length deck.interrupts ≤ 8
  pub interrupts_named : AreNames (handler_names deck.interrupts)
  pub interrupts : AllByRecursion (IsRightHandler deck.objects) deck.interrupts
  pub few_timers : length deck.timers ≤ 8
  pub timers_named : AreNames (handler_names deck.timers)
  pub timers : AllByRecursion (IsRightHandler deck.objects) deck.timers
  pub script : AllByRecursion (IsRightCommand deck) deck.script
