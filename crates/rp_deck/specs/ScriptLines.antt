-- The lines of a script, and how their words are read. A task, an object, an interrupt and a timing
-- event are named, and denote their numbers from 1 in declared order.
use Rattle.std.specs.Prelude.{ℕ, ◌+◌, ◌-◌, ◌^◌, ℤ, pos, Bool, true, false, not, List, [], ◌∷◌}
use Rattle.std.specs.Prelude.{codes, slice_get, Option, Some, None, Result, Ok, Err, if◌then◌else◌}
use Rattle.std.specs.Str.{bytes_eq}
use Rattle.rp_words.specs.rp_base.specs.declared.action.Operation.{Operation}
use Rattle.rp_words.specs.rp_base.specs.declared.action.Operation.TheVariants.{SetTimer}
use Rattle.rp_words.specs.rp_base.specs.declared.action.Operation.TheVariants.{CancelTimer}
use Rattle.rp_words.specs.rp_base.specs.declared.fault.DeckReason.{DeckReason}
use Rattle.rp_words.specs.rp_base.specs.declared.fault.DeckReason.TheVariants.{UnknownWord}
use Rattle.rp_words.specs.rp_base.specs.declared.fault.DeckReason.TheVariants.{UnknownName}
use Rattle.rp_words.specs.rp_base.specs.declared.fault.DeckReason.TheVariants.{NotInLive}
use Rattle.rp_model.specs.Events.{Event, Step, Submit, Again, Makes, Cut, Stop, Restart, Deliver}
use Rattle.rp_model.specs.Events.{Lead, LeadRange, Interrupt, Tick}
use Rattle.rp_deck.specs.declared.deck.Mode.{Mode}
use Rattle.rp_deck.specs.declared.deck.Mode.TheVariants.{Script, Live}
use Rattle.rp_deck.specs.declared.verbs.Verb.{Verb}
use Rattle.rp_deck.specs.declared.verbs.Verb.TheVariants as verbs
use Rattle.rp_deck_declarations.specs.Declaring.{on_line}
use Rattle.rp_words.specs.LineFaults.{BadLine}
use Rattle.rp_words.specs.Lines.{LineText}
use Rattle.rp_words.specs.Words.{is_at_end}
use Rattle.rp_words.specs.Tables.{place_of, find}
use Rattle.rp_words.specs.Reading.{◌>>=◌, some_or, unless, made_of, word_at, end_at}
use Rattle.rp_words.specs.Reading.{name_at, integer_at, number_at, dotted_of}
use Rattle.rp_deck_declarations.specs.ScriptNames.{DeclaredNames}

-- what a line asks for: an event, the messages from the first to the last count as settled,
-- messages are delivered until none is left, or every node is shown
pub data CommandText : Type 0 where
  Take : (event : Event) → CommandText
  Lose : (first last : ℕ) → CommandText
  Drain : CommandText
  Show : CommandText

-- the first word of a line
abbrev pub verb_named : List ℕ → Option Verb
verb_named word =
    if bytes_eq word (codes "call") then Some verbs.Call
    else if bytes_eq word (codes "arm") then Some verbs.Arm
    else if bytes_eq word (codes "disarm") then Some verbs.Disarm
    else if bytes_eq word (codes "again") then Some verbs.Again
    else if bytes_eq word (codes "lead") then Some verbs.Lead
    else if bytes_eq word (codes "range") then Some verbs.Range
    else if bytes_eq word (codes "deliver") then Some verbs.Deliver
    else if bytes_eq word (codes "lose") then Some verbs.Lose
    else if bytes_eq word (codes "drain") then Some verbs.Drain
    else if bytes_eq word (codes "stop") then Some verbs.Stop
    else if bytes_eq word (codes "restart") then Some verbs.Restart
    else if bytes_eq word (codes "cut") then Some verbs.Cut
    else if bytes_eq word (codes "irq") then Some verbs.Interrupt
    else if bytes_eq word (codes "tick") then Some verbs.Tick
    else if bytes_eq word (codes "show") then Some verbs.Show
    else None

-- live mode takes calls, timing events, interrupts and ticks alone
abbrev pub is_live : Verb → Bool
is_live verbs.Call = true
is_live verbs.Arm = true
is_live verbs.Disarm = true
is_live verbs.Interrupt = true
is_live verbs.Tick = true
is_live _ = false

abbrev pub takes : Mode → Verb → Bool
takes Script verb = true
takes Live verb = is_live verb

-- ---- words

-- the name of something declared, as its number
unfoldable pub declared_at : List (List ℕ) → List ℕ → Result (ℕ × List ℕ) DeckReason
declared_at names words = do
  name ← name_at words
  place ← some_or UnknownName (place_of name.0 names)
  Ok (place + 1, name.1)

-- `OBJECT.OPERATION`, as the object's number and what is called
unfoldable pub operation_at : DeclaredNames → List ℕ → Result (ℕ × Operation × List ℕ) DeckReason
operation_at d words = do
  word ← word_at words
  names ← dotted_of word.0
  place ← some_or UnknownName (place_of names.0 d.objects)
  object ← some_or UnknownName (slice_get d.operations place)
  operation ← some_or UnknownName (find names.1 object.names object.operations)
  Ok (place + 1, operation, word.1)

-- the name of a timing event, as its number and the object of its handler
unfoldable pub timer_at : DeclaredNames → List ℕ → Result (ℕ × ℕ × List ℕ) DeckReason
timer_at d words = do
  name ← name_at words
  place ← some_or UnknownName (place_of name.0 d.timers)
  handler ← some_or UnknownName (slice_get d.timer_handlers place)
  Ok (place + 1, handler.object, name.1)

-- the number of a message
unfoldable pub message_at : List ℕ → Result (ℕ × List ℕ) DeckReason
message_at words = number_at 1 (2 ^ 63 - 1) words

-- `[ARG]`, 0 if it is absent
unfoldable pub argument_at : List ℕ → Result (ℤ × List ℕ) DeckReason
argument_at words = if is_at_end words then Ok (pos 0, words) else integer_at words

-- `[POSITION]`
unfoldable pub position_at : List ℕ → Result (Option ℕ × List ℕ) DeckReason
position_at words =
    if is_at_end words then Ok (None, words) else made_of Some (number_at 1 65535 words)

-- `[LAST]`, the first if it is absent
unfoldable pub last_at : ℕ → List ℕ → Result (ℕ × List ℕ) DeckReason
last_at first words = if is_at_end words then Ok (first, words) else message_at words

-- ---- steps of a node

-- `lead NODE [POSITION]`
unfoldable pub lead_at : ℕ → List ℕ → Result (Step × List ℕ) DeckReason
lead_at nodes words = do
  node ← number_at 1 nodes words
  position ← position_at node.1
  Ok (Lead node.0 position.0, position.1)

-- `range NODE FIRST COUNT`
unfoldable pub range_at : ℕ → List ℕ → Result (Step × List ℕ) DeckReason
range_at nodes words = do
  node ← number_at 1 nodes words
  first ← number_at 1 65535 node.1
  count ← number_at 1 64 first.1
  Ok (LeadRange node.0 first.0 count.0, count.1)

-- `deliver M`
unfoldable pub deliver_at : List ℕ → Result (Step × List ℕ) DeckReason
deliver_at words = do
  message ← message_at words
  Ok (Deliver message.0, message.1)

-- `irq NODE INTERRUPT OCCURRENCE`
unfoldable pub interrupt_at : DeclaredNames → List ℕ → Result (Step × List ℕ) DeckReason
interrupt_at d words = do
  node ← number_at 1 d.nodes words
  source ← declared_at d.interrupts node.1
  occurrence ← number_at 1 (2 ^ 32 - 1) source.1
  Ok (Interrupt node.0 source.0 occurrence.0, occurrence.1)

-- `tick NODE NOW`
unfoldable pub tick_at : ℕ → List ℕ → Result (Step × List ℕ) DeckReason
tick_at nodes words = do
  node ← number_at 1 nodes words
  now ← number_at 0 (2 ^ 32 - 1) node.1
  Ok (Tick node.0 now.0, now.1)

-- a step that may be cut, `lead NODE [POSITION]`, `range NODE FIRST COUNT` or `deliver M`, by its
-- first word
abbrev pub step_from : ℕ → Verb → List ℕ → Result (Step × List ℕ) DeckReason
step_from nodes verbs.Lead words = lead_at nodes words
step_from nodes verbs.Range words = range_at nodes words
step_from nodes verbs.Deliver words = deliver_at words
step_from nodes _ words = Err UnknownWord

-- ---- events

-- `call TASK NODE OBJECT.OPERATION [ARG]`
unfoldable pub call_at : DeclaredNames → List ℕ → Result (Event × List ℕ) DeckReason
call_at d words = do
  task ← declared_at d.tasks words
  node ← number_at 1 d.nodes task.1
  called ← operation_at d node.1
  arg ← argument_at called.2
  Ok (Submit task.0 node.0 called.0 called.1 arg.0, arg.1)

-- `arm TASK NODE TIMER TIME`
unfoldable pub arm_at : DeclaredNames → List ℕ → Result (Event × List ℕ) DeckReason
arm_at d words = do
  task ← declared_at d.tasks words
  node ← number_at 1 d.nodes task.1
  timer ← timer_at d node.1
  time ← integer_at timer.2
  Ok (Submit task.0 node.0 timer.1 (SetTimer timer.0) time.0, time.1)

-- `disarm TASK NODE TIMER`
unfoldable pub disarm_at : DeclaredNames → List ℕ → Result (Event × List ℕ) DeckReason
disarm_at d words = do
  task ← declared_at d.tasks words
  node ← number_at 1 d.nodes task.1
  timer ← timer_at d node.1
  Ok (Submit task.0 node.0 timer.1 (CancelTimer timer.0) (pos 0), timer.2)

-- `again TASK NODE`
unfoldable pub again_at : DeclaredNames → List ℕ → Result (Event × List ℕ) DeckReason
again_at d words = do
  task ← declared_at d.tasks words
  node ← number_at 1 d.nodes task.1
  Ok (Again task.0 node.0, node.1)

-- `cut KEPT lead NODE [POSITION]`, `cut KEPT range NODE FIRST COUNT`, `cut KEPT deliver M`
unfoldable pub cut_at : ℕ → List ℕ → Result (Event × List ℕ) DeckReason
cut_at nodes words = do
  kept ← number_at 0 (2 ^ 63 - 1) words
  word ← word_at kept.1
  verb ← some_or UnknownWord (verb_named word.0)
  step ← step_from nodes verb word.1
  Ok (Cut step.0 kept.0, step.1)

-- ---- commands

-- `lose M [LAST]`
unfoldable pub lose_at : List ℕ → Result (CommandText × List ℕ) DeckReason
lose_at words = do
  first ← message_at words
  last ← last_at first.0 first.1
  Ok (Lose first.0 last.0, last.1)

-- what a line asks for, by its first word; after `stop` and `restart` that is NODE
abbrev pub command_at : DeclaredNames → Verb → List ℕ → Result (CommandText × List ℕ) DeckReason
command_at d verbs.Call words = made_of Take (call_at d words)
command_at d verbs.Arm words = made_of Take (arm_at d words)
command_at d verbs.Disarm words = made_of Take (disarm_at d words)
command_at d verbs.Again words = made_of Take (again_at d words)
command_at d verbs.Lead words = made_of (λ step. Take (Makes step)) (lead_at d.nodes words)
command_at d verbs.Range words = made_of (λ step. Take (Makes step)) (range_at d.nodes words)
command_at d verbs.Deliver words = made_of (λ step. Take (Makes step)) (deliver_at words)
command_at d verbs.Lose words = lose_at words
command_at d verbs.Drain words = Ok (Drain, words)
command_at d verbs.Stop words = made_of (λ node. Take (Stop node)) (number_at 1 d.nodes words)
command_at d verbs.Restart words = made_of (λ node. Take (Restart node)) (number_at 1 d.nodes words)
command_at d verbs.Cut words = made_of Take (cut_at d.nodes words)
command_at d verbs.Interrupt words = made_of (λ step. Take (Makes step)) (interrupt_at d words)
command_at d verbs.Tick words = made_of (λ step. Take (Makes step)) (tick_at d.nodes words)
command_at d verbs.Show words = Ok (Show, words)

-- a line of a script that is run in a mode
unfoldable pub command_line : Mode → DeclaredNames → LineText → Result CommandText DeckReason
command_line mode d line = do
  verb ← some_or UnknownWord (verb_named line.first)
  taken ← unless NotInLive (not (takes mode verb))
  command ← command_at d verb line.rest
  e ← end_at command.1
  Ok command.0

-- ---- the whole script

-- a line's number, and what it asks for
pub record LineCommand : Type 0 where
  pub number : ℕ
  pub command : CommandText

-- the commands of the lines, or the first line that is bad
unfoldable pub script_of : Mode → DeclaredNames → List LineText → Result (List LineCommand) BadLine
script_of mode d [] = Ok []
script_of mode d (line ∷ lines) =
    on_line line.number (command_line mode d line) (λ command. script_of mode d lines
    >>= (λ rest. Ok (record { number = line.number; command = command } ∷ rest)))
