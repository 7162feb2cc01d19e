-- What the program does with the words of the command line, and how it ends.
use Rattle.std.specs.Prelude.{◌≡◌, ◌⊎◌, ℕ, true, false, Option, Some, None, Result, Ok, Err}
use Rattle.std.specs.Prelude.{List, [], ◌++◌, codes, option_map, IfOk, IfErr, IfSome, OnErr}
use Rattle.std.specs.Prelude.{string_bytes}
use Rattle.clap.specs.Kinds.{IsAmong}
use Rattle.clap.specs.Words.{Text, fault_of, subcommand_of}
use Rattle.clap.specs.declared.error.kind.ErrorKind.{ErrorKind}
use Rattle.clap.specs.declared.error.kind.ErrorKind.TheVariants.{OutOfMemory}
use Rattle.rp_deck_hints.specs.rp_base.specs.declared.fault.Fault.{Fault}
use Rattle.rp_deck_hints.specs.rp_base.specs.declared.fault.Fault.TheVariants.{BadDeck}
use Rattle.rp_deck_hints.specs.declared.reading.Reading.{Reading}
use Rattle.rp_deck_hints.specs.declared.reading.Reading.TheVariants.{Deck, Plan}
use Rattle.rp_deck_hints.specs.rp_deck.specs.declared.deck.Mode.TheVariants as modes
use Rattle.rp_bind_run.specs.rp_bind.specs.declared.lines.Language.{Language}
use Rattle.rp_bind_run.specs.Prints.{BindingBegins, FailsBinding, PrintsBinding}
use Rattle.rp_deck_hints.specs.Hints.{IsHint, hint_text}
use Rattle.rp_deck_hints.specs.declared.hint.Hint.{Hint}
use Rattle.rp_chart.specs.Charts.{DrawingBegins, Draws}
use Rattle.rp_chart.specs.declared.chart.Outcome.TheVariants.{Drawn}
use Rattle.rp_chart.specs.declared.chart.Outcome.TheVariants as outcomes
use Rattle.rp_explore_run.specs.Explores.{ExploreBegins, Explores, FailsExplore}
use Rattle.rp_explore_deck.specs.declared.request.ExploreRequest.{ExploreRequest}
use Rattle.rp_explore_run.specs.declared.answer.Verdict.{Verdict}
use Rattle.rp_explore_run.specs.declared.answer.Verdict.TheVariants as verdicts
use Rattle.rp_history.specs.declared.view.ChartRequest.{ChartRequest}
use Rattle.rp_bind_run.specs.rp_script.specs.Agreeing.{ScriptBegins, ScriptPrints}
use Rattle.rp_command_line.specs.CommandLine.{bind_option, chart_option, console, explore_option}
use Rattle.rp_command_line.specs.CommandLine.{seed_of, subcommand_word, trace_of, turns_of}
use Rattle.rp_command_line.specs.CommandLine.{IsChartRequest, IsLanguage, IsRequest, ReadsAs}
use Rattle.rp_command_line.specs.RefusedWords.{RefusesAs}
use Rattle.rp_live_run.specs.Figures.{figures_line_of}
use Rattle.rp_bind_run.specs.rp_script.specs.Given.{FailsRun}
use Rattle.rp_live_run.specs.LiveRun.{LiveBegins, LivePrints}
use Rattle.rp_bind_run.specs.rp_output.specs.Endings.{ReportsFault, status_of}
use Rattle.rp_bind_run.specs.rp_output.specs.FaultMessage.{fault_message_of, with_line_feed}
use Rattle.rp_bind_run.specs.rp_output.specs.Stream.{IsReadFault, Writes}
use Rattle.rp_command_line.specs.declared.args.Args.{Args}
use Rattle.rp_command_line.specs.declared.args.Args.TheVariants.{Script, Live, Chart, Explore}
use Rattle.rp_command_line.specs.declared.args.Args.TheVariants.{Bind}
use Rattle.rp_console.specs.declared.console.Report.{Report}
use Rattle.rp_console.specs.declared.console.Report.TheVariants.{Nothing, Figures, TooLong}
use Rattle.rp_console.specs.declared.console.Report.TheVariants.{Searched}
use Rattle.rp_console.specs.declared.console.Report.TheVariants as reports
use Rattle.rp_bind_run.specs.rp_output.specs.declared.ending.Ending.{Ending}

-- the bytes that a stream has, if the contract of its type says which they are
abbrev pub Content : Type 0
Content = Option (List ℕ)

-- these words ask for this
pub record AsksFor (words : List Text) (args : Args) : Type 0 where
  pub right : fault_of console words ≡ []
  pub named : option_map (λ found. found.0) (subcommand_of console words) ≡ Some (subcommand_word args)
  pub traced : trace_of words ≡ Some (codes "true") → args ≡ Script true
  pub quiet : trace_of words ≡ Some (codes "false") → args ≡ Script false
  pub live : (seed turns : ℕ) → ReadsAs 32 (seed_of words) seed
      → ReadsAs 32 (turns_of words) turns → args ≡ Live seed turns
  pub chart : (request : ChartRequest) → args ≡ Chart request
      → IsChartRequest (chart_option words) request
  pub explore : (request : ExploreRequest) → args ≡ Explore request
      → IsRequest (explore_option words) request
  pub bind : (language : Language) → args ≡ Bind language → IsLanguage (bind_option words) language

-- What a run without a fault prints, of the deck that the bytes given to it mean. A script has
-- nothing to report, a run in threads the figures of the run that it prints, a drawing that it is too
-- long, if it is: then nothing is printed; a search what became of it; and a deck's packages why
-- there are none.
abbrev pub Prints : Args → Content → Content → Content → Report → Type 0
Prints (Script traced) given old new Nothing = ScriptPrints traced given old new
Prints (Live seed turns) given old new (Figures line) =
    LivePrints seed turns given old new line.figures
Prints (Chart request) given old new Nothing = Draws Drawn request given old new
Prints (Chart request) given old new TooLong = Draws outcomes.TooLong request given old new
Prints (Explore request) given old new (Searched verdict) = Explores request given old new verdict
Prints (Bind language) given old new Nothing = PrintsBinding language given old new None
Prints (Bind language) given old new (reports.Refused line) =
    PrintsBinding language given old new (Some line)
Prints args given old new report = ⊥

-- what a run that a fault ends has printed: nothing, or a prefix of that
abbrev pub HasBegun : Args → Content → Content → Content → Type 0
HasBegun (Script traced) given old new = ScriptBegins traced given old new
HasBegun (Live seed turns) given old new = LiveBegins seed turns given old new
HasBegun (Chart request) given old new = DrawingBegins request given old new
HasBegun (Explore request) given old new = ExploreBegins request given old new
HasBegun (Bind language) given old new = BindingBegins language given old new

-- the fault of what was asked for, by the deck as it is read for that
abbrev pub IsFaultOf : Args → Content → Content → Content → Fault → Type 0
IsFaultOf (Script traced) given old new fault = FailsRun modes.Script given old new fault
IsFaultOf (Live seed turns) given old new fault = FailsRun modes.Live given old new fault
IsFaultOf (Chart request) given old new fault = FailsRun modes.Script given old new fault
IsFaultOf (Explore request) given old new fault = FailsExplore given old new fault
IsFaultOf (Bind language) given old new fault = FailsBinding given old new fault

-- why there is no drawing of a whole run that is too long
abbrev pub too_long_line : List ℕ
too_long_line =
    codes "error: the drawing has more than 2000 lines: choose a part of it by --from N or --to N"

-- why there is no deck of an outcome
abbrev pub search_report : Verdict → List ℕ
search_report verdicts.NoOutcome =
    with_line_feed (codes "error: there is no outcome of this number")
search_report verdicts.TooLong =
    with_line_feed (codes
    "error: the order of this outcome is longer than the log: give the deck more positions")
search_report verdicts.NotShown =
    with_line_feed (codes "error: the deck of this outcome does not show it")
search_report _ = []

-- the status after a search
abbrev pub search_status : Verdict → ℕ
search_status verdicts.Complete = 0
search_status verdicts.Broken = 5
search_status verdicts.Incomplete = 6
search_status verdicts.Shown = 0
search_status verdicts.NoOutcome = 2
search_status verdicts.TooLong = 2
search_status verdicts.NotShown = 7

-- how the deck is read for what was asked for
abbrev pub reading_of : Args → Reading
reading_of (Script traced) = Deck modes.Script
reading_of (Live seed turns) = Deck modes.Live
reading_of (Chart request) = Deck modes.Script
reading_of (Explore request) = Plan
reading_of (Bind language) = Deck modes.Script

-- a hint is one of a bad deck of these bytes
abbrev pub IsHintOf : Reading → List ℕ → Result Report Fault → Option Hint → Type 0
IsHintOf reading bytes ran None = Unit {0}
IsHintOf reading bytes (Err (BadDeck line reason)) (Some hint) =
    IsHint reading bytes line reason hint
IsHintOf reading bytes ran (Some hint) = ⊥

-- what is reported of a fault: its line, and then that of a hint, if there is one
abbrev pub hint_report : Option Hint → List ℕ
hint_report None = []
hint_report (Some hint) = with_line_feed (hint_text hint)

abbrev pub fault_report : Fault → Option Hint → List ℕ
fault_report fault hint = with_line_feed (fault_message_of fault) ++ hint_report hint

-- what is reported of a run: the line of its figures, that its drawing is too long, why there is no
-- deck of an outcome, why a deck has no packages, or what is reported of its fault, if it has any
abbrev pub report_of : Result Report Fault → Option Hint → List ℕ
report_of (Ok Nothing) hint = []
report_of (Ok (Figures figures)) hint = with_line_feed (figures_line_of figures)
report_of (Ok TooLong) hint = with_line_feed too_long_line
report_of (Ok (Searched verdict)) hint = search_report verdict
report_of (Ok (reports.Refused line)) hint = with_line_feed (string_bytes line)
report_of (Err fault) hint = fault_report fault hint

-- the status after a run: 0 if it had no fault, 2 if its drawing is too long or a deck has no
-- packages, that of a search, and otherwise that of the fault
abbrev pub status_of_run : Result Report Fault → ℕ
status_of_run (Ok Nothing) = 0
status_of_run (Ok (Figures figures)) = 0
status_of_run (Ok TooLong) = 2
status_of_run (Ok (Searched verdict)) = search_status verdict
status_of_run (Ok (reports.Refused line)) = 2
status_of_run (Err fault) = status_of fault

-- What the words ask for was run, with the deck that the bytes given to it mean, which are all that
-- the reader gives, if it is known what it gives. It printed the output of such a run, or a fault
-- ended it after a prefix of that. If the bytes mean no deck, nothing is printed, and the fault has
-- the first bad line and the first reason on it; it is reported, and a hint of the bytes may follow
-- it. The status is that of the run: 0 without a fault, 2 if a drawing is too long or a deck has no
-- packages, that of a search, and otherwise that of the fault. The figures of a live run are reported
-- as well, and are those of the run that it printed. A report that could not be written whole is a
-- prefix of its lines; with nothing to report, nothing is written on standard error.
pub record RunsAs (args : Args) (given output output_after errors errors_after : Content)
    (ending : Ending) : Type 0 where
  pub bytes : List ℕ
  pub all : IfSome given (λ whole. bytes ≡ whole)
  pub ran : Result Report Fault
  pub hint : Option Hint
  pub printed : IfOk ran (Prints args (Some bytes) output output_after)
  pub begun : OnErr ran (HasBegun args (Some bytes) output output_after)
  pub fault : IfErr ran (IsFaultOf args (Some bytes) output output_after)
  pub hinted : IsHintOf (reading_of args) bytes ran hint
  pub status : ending.status ≡ status_of_run ran
  pub reported : Writes errors errors_after (report_of ran hint) ending.reported
  pub silent : report_of ran hint ≡ [] → errors_after ≡ errors

-- The deck could not be read: nothing was printed, and the fault was reported.
pub record FailsToRead (output output_after errors errors_after : Content) (ending : Ending)
    : Type 0 where
  pub fault : Fault
  pub unread : IsReadFault fault
  pub unprinted : output_after ≡ output
  pub status : ending.status ≡ status_of fault
  pub reported : ReportsFault fault errors errors_after ending

-- what was asked for was run over the deck, or that could not be read
abbrev pub EndsAs : Args → Content → Content → Content → Content → Content → Ending → Type 0
EndsAs args given output output_after errors errors_after ending =
    RunsAs args given output output_after errors errors_after ending
    ⊎ FailsToRead output output_after errors errors_after ending

-- The words ask for a run, which was made unless the deck could not be read; or they are wrong or
-- memory ran out, and that was reported.
abbrev pub FollowsWords : List Text → Content → Content → Content → Content → Content → Ending
    → Type 0
FollowsWords words given output output_after errors errors_after ending =
    ((args : Args) × AsksFor words args
    × EndsAs args given output output_after errors errors_after ending)
    ⊎ ((kind : ErrorKind) × ((kind ≡ OutOfMemory) ⊎ IsAmong kind (fault_of console words))
    × RefusesAs kind output output_after errors errors_after ending)
