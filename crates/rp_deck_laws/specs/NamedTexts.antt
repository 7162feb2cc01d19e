-- The text of a deck: its lines, with the names as they are.
use Rattle.std.specs.Prelude.{ℕ, true, false, Bool, List, [], ◌∷◌, ◌++◌, codes, map, flat_map}
use Rattle.std.specs.Prelude.{unwrap_or, Option, Some, None}
use Rattle.std.specs.Fmt.{decimal, signed_decimal}
use Rattle.rp_object.specs.declared.program.Profile.{Profile}
use Rattle.rp_object.specs.declared.program.Profile.TheVariants.{Ravenscar}
use Rattle.rp_object.specs.declared.program.Profile.TheVariants.{Jorvik}
use Rattle.rp_deck_laws.specs.PartTexts.{queue_words}
use Rattle.rp_deck_laws.specs.ScriptText.{argument_words, text_of_lines}
use Rattle.rp_deck_laws.specs.Named.{NamedExpr, NamedCond, NamedBody, NamedResult, Value, Truth}
use Rattle.rp_deck_laws.specs.Named.{NamedPart, AnInt, ABool, AFunction, AProcedure, AnEntry}
use Rattle.rp_deck_laws.specs.Named.{NamedObject, NamedTask, NamedHandler, NamedStep}
use Rattle.rp_deck_laws.specs.Named.{NamedCommand, NamedDeck}
use Rattle.rp_deck_laws.specs.Named.{NamedExpr as exprs}
use Rattle.rp_deck_laws.specs.Named.{NamedCond as conds}
use Rattle.rp_deck_laws.specs.Named.{NamedBody as bodies}
use Rattle.rp_deck_laws.specs.Named.{NamedStep as steps}
use Rattle.rp_deck_laws.specs.Named.{NamedCommand as commands}

-- a line is the list of its words
abbrev pub Line : Type 0
Line = List (List ℕ)

abbrev pub expr_words : NamedExpr → Line
expr_words (exprs.Number number) = signed_decimal number ∷ []
expr_words exprs.Arg = codes "arg" ∷ []
expr_words exprs.Out = codes "out" ∷ []
expr_words (exprs.Int name) = name ∷ []
expr_words (exprs.Add first second) = codes "add" ∷ (expr_words first ++ expr_words second)
expr_words (exprs.Sub first second) = codes "sub" ∷ (expr_words first ++ expr_words second)

abbrev pub truth_word : Bool → List ℕ
truth_word true = codes "true"
truth_word false = codes "false"

abbrev pub cond_words : NamedCond → Line
cond_words (conds.Constant truth) = truth_word truth ∷ []
cond_words (conds.Named name) = name ∷ []
cond_words (conds.Less first second) = codes "lt" ∷ (expr_words first ++ expr_words second)
cond_words (conds.LessOrEqual first second) = codes "le" ∷ (expr_words first ++ expr_words second)
cond_words (conds.Equal first second) = codes "eq" ∷ (expr_words first ++ expr_words second)
cond_words (conds.Not negated) = codes "not" ∷ cond_words negated
cond_words (conds.And first second) = codes "and" ∷ (cond_words first ++ cond_words second)
cond_words (conds.Or first second) = codes "or" ∷ (cond_words first ++ cond_words second)

abbrev pub body_lines : NamedBody → List Line
body_lines bodies.Empty = []
body_lines (bodies.Set before name value) =
    body_lines before ++ (codes "set" ∷ name ∷ expr_words value) ∷ []
body_lines (bodies.Put before name value) =
    body_lines before ++ (codes "put" ∷ name ∷ cond_words value) ∷ []
body_lines (bodies.Return before value) = body_lines before ++ (codes "out" ∷ expr_words value) ∷ []
body_lines (bodies.If before condition first second) =
    body_lines before ++ ((codes "if" ∷ cond_words condition)
    ∷ (body_lines first
    ++ ((codes "else" ∷ []) ∷ (body_lines second ++ (codes "end" ∷ []) ∷ []))))

abbrev pub lines_with_end : NamedBody → List Line
lines_with_end body = body_lines body ++ (codes "end" ∷ []) ∷ []

abbrev pub result_words : NamedResult → Line
result_words (Value value) = codes "value" ∷ expr_words value
result_words (Truth truth) = codes "truth" ∷ cond_words truth

abbrev pub part_lines : Profile → NamedPart → List Line
part_lines profile (AnInt int) =
    (codes "int" ∷ int.name ∷ signed_decimal int.low ∷ signed_decimal int.high
    ∷ signed_decimal int.value ∷ []) ∷ []
part_lines profile (ABool bool) = (codes "bool" ∷ bool.name ∷ truth_word bool.value ∷ []) ∷ []
part_lines profile (AFunction function) =
    (codes "function" ∷ function.name ∷ result_words function.result) ∷ []
part_lines profile (AProcedure procedure) =
    (codes "procedure" ∷ procedure.name ∷ []) ∷ lines_with_end procedure.body
part_lines profile (AnEntry entry) =
    (codes "entry" ∷ entry.name ∷ codes "when" ∷ entry.barrier ∷ queue_words profile entry.longest)
    ∷ lines_with_end entry.body

abbrev pub named_object_lines : Profile → NamedObject → List Line
named_object_lines profile object =
    (codes "object" ∷ object.name ∷ decimal object.ceiling ∷ [])
    ∷ flat_map (part_lines profile) object.parts

abbrev pub positions_lines : Option ℕ → List Line
positions_lines None = []
positions_lines (Some positions) = (codes "positions" ∷ decimal positions ∷ []) ∷ []

abbrev pub profile_lines : Option Profile → List Line
profile_lines None = []
profile_lines (Some Ravenscar) = (codes "profile" ∷ codes "ravenscar" ∷ []) ∷ []
profile_lines (Some Jorvik) = (codes "profile" ∷ codes "jorvik" ∷ []) ∷ []

abbrev pub task_line : NamedTask → Line
task_line task = codes "task" ∷ task.name ∷ decimal task.priority ∷ []

-- `OBJECT.OPERATION`
abbrev pub dotted : List ℕ → List ℕ → List ℕ
dotted object operation = object ++ 46 ∷ operation

abbrev pub handler_line : List ℕ → NamedHandler → Line
handler_line first handler =
    first ∷ handler.name ∷ dotted handler.object handler.procedure ∷ []

-- the profile is Ravenscar where the deck says nothing of it
abbrev pub profile_of : NamedDeck → Profile
profile_of deck = unwrap_or deck.profile Ravenscar

-- the lines up to `script`
abbrev pub declaration_lines : NamedDeck → List Line
declaration_lines deck =
    (codes "nodes" ∷ decimal deck.nodes ∷ [])
    ∷ (positions_lines deck.positions
    ++ (profile_lines deck.profile
    ++ (map task_line deck.tasks
    ++ (flat_map (named_object_lines (profile_of deck)) deck.objects
    ++ (map (handler_line (codes "interrupt")) deck.interrupts
    ++ (map (handler_line (codes "timer")) deck.timers ++ (codes "script" ∷ []) ∷ []))))))

abbrev pub step_words : NamedStep → Line
step_words (steps.Deliver message) = codes "deliver" ∷ decimal message ∷ []
step_words (steps.Lead node None) = codes "lead" ∷ decimal node ∷ []
step_words (steps.Lead node (Some position)) = codes "lead" ∷ decimal node ∷ decimal position ∷ []
step_words (steps.LeadRange node first count) =
    codes "range" ∷ decimal node ∷ decimal first ∷ decimal count ∷ []
step_words (steps.Interrupt node name occurrence) =
    codes "irq" ∷ decimal node ∷ name ∷ decimal occurrence ∷ []
step_words (steps.Tick node now) = codes "tick" ∷ decimal node ∷ decimal now ∷ []

abbrev pub command_words : NamedCommand → Line
command_words (commands.Call task node object operation arg) =
    codes "call" ∷ task ∷ decimal node ∷ dotted object operation ∷ argument_words arg
command_words (commands.Arm task node timer time) =
    codes "arm" ∷ task ∷ decimal node ∷ timer ∷ signed_decimal time ∷ []
command_words (commands.Disarm task node timer) =
    codes "disarm" ∷ task ∷ decimal node ∷ timer ∷ []
command_words (commands.Again task node) = codes "again" ∷ task ∷ decimal node ∷ []
command_words (commands.Makes step) = step_words step
command_words (commands.Cut kept step) = codes "cut" ∷ decimal kept ∷ step_words step
command_words (commands.Stop node) = codes "stop" ∷ decimal node ∷ []
command_words (commands.Restart node) = codes "restart" ∷ decimal node ∷ []
command_words (commands.Lose first last) = codes "lose" ∷ decimal first ∷ decimal last ∷ []
command_words commands.Drain = codes "drain" ∷ []
command_words commands.Show = codes "show" ∷ []

abbrev pub named_deck_text : NamedDeck → List ℕ
named_deck_text deck = text_of_lines (declaration_lines deck ++ map command_words deck.script)
