-- The command line.
use Rattle.std.specs.Prelude.{◌≡◌, ℕ, ◌^◌, ◌<◌, true, false, Option, Some, None, List, [], ◌∷◌, pos}
use Rattle.std.specs.Prelude.{codes, option_and_then, if◌then◌else◌}
use Rattle.std.specs.Str.{bytes_eq}
use Rattle.std.specs.Str.Parse.{IsNumeral, digits_value, without_leading_plus}
use Rattle.clap.specs.Words.{App, Rule, Shape, Text, new_app, new_rule, one_of, subcommand_of}
use Rattle.clap.specs.Words.{with_rule, with_subcommand}
use Rattle.clap.specs.Simple.{on_top}
use Rattle.clap.specs.declared.builder.action.ArgAction.TheVariants.{SetTrue}
use Rattle.clap.specs.declared.builder.value_parser.ValueParser.TheVariants.{Signed}
use Rattle.rp_bind.specs.declared.lines.Language.{Language}
use Rattle.rp_bind.specs.declared.lines.Language.TheVariants as languages
use Rattle.rp_explore_deck.specs.declared.request.ExploreRequest.{ExploreRequest}
use Rattle.rp_history.specs.declared.view.View.{View}
use Rattle.rp_history.specs.declared.view.ChartRequest.{ChartRequest}
use Rattle.rp_history.specs.declared.page.Form.TheVariants.{Drawing, Page}
use Rattle.rp_command_line.specs.declared.args.Args.{Args}
use Rattle.rp_command_line.specs.declared.args.Args.TheVariants.{Script, Live, Chart, Explore, Bind}

-- a command that has a version and requires one of its subcommands, not counting `help`
abbrev pub with_choice : Shape → Shape
with_choice s =
    record s { subcommand_required = true; disable_help_subcommand = true; has_version = true }

-- the option `--trace`
abbrev pub trace : Rule
trace = record (new_rule (codes "trace")) { long = Some (codes "trace"); action = Some SetTrue }

-- the subcommand `script`, with its one option
abbrev pub script : App
script = with_rule (new_app (codes "script")) trace

-- an option of this name that takes one number of a range, and this text if it is not given
abbrev pub number_option : Text → ℕ → ℕ → Text → Rule
number_option name low high otherwise = record (new_rule name) {
  long = Some name;
  value_names = 1;
  parser = Some (Signed (pos low) (pos high));
  defaults = otherwise ∷ [];
}

-- the option `--seed`
abbrev pub seed : Rule
seed = number_option (codes "seed") 0 4294967295 (codes "0")

-- the option `--turns`
abbrev pub turns : Rule
turns = number_option (codes "turns") 1 1000000 (codes "10000")

-- the subcommand `live`, with its two options
abbrev pub live : App
live = with_rule (with_rule (new_app (codes "live")) seed) turns

-- the option `--position`, which takes one number
abbrev pub position_option : Rule
position_option = record (new_rule (codes "position")) {
  long = Some (codes "position");
  value_names = 1;
  parser = Some (Signed (pos 1) (pos 65535));
}

-- the option `--hide-self`
abbrev pub hide_self_option : Rule
hide_self_option = record (new_rule (codes "hide-self")) {
  long = Some (codes "hide-self");
  action = Some SetTrue;
}

-- an option of this name, which takes a number from 1 on
abbrev pub count_option : Text → Rule
count_option name = record (new_rule name) {
  long = Some name;
  value_names = 1;
  parser = Some (Signed (pos 1) (pos 4294967295));
}

-- the subcommand `chart`, with its first two options
abbrev pub chart_of_whole : App
chart_of_whole = with_rule (with_rule (new_app (codes "chart")) position_option) hide_self_option

-- with its first four options
abbrev pub chart_of_part : App
chart_of_part =
    with_rule (with_rule chart_of_whole (count_option (codes "from"))) (count_option (codes "to"))

-- the option `--html`
abbrev pub html_option : Rule
html_option = record (new_rule (codes "html")) { long = Some (codes "html"); action = Some SetTrue }

-- the subcommand `chart`, with its five options
abbrev pub chart : App
chart = with_rule chart_of_part html_option

-- the option `--states`
abbrev pub states : Rule
states = number_option (codes "states") 1 10000000 (codes "1000000")

-- the subcommand `explore`, with its two options
abbrev pub explore : App
explore = with_rule (with_rule (new_app (codes "explore")) states) (count_option (codes "deck"))

-- the program's command line, with its first two subcommands
abbrev pub console_of_runs : App
console_of_runs =
    with_subcommand (with_subcommand (on_top with_choice (new_app (codes "rp_console"))) script.top)
    live.top

-- an option of this name, which takes no value
abbrev pub flag_option : Text → Rule
flag_option name = record (new_rule name) { long = Some name; action = Some SetTrue }

-- the options `--ada`, `--local` and `--c`
abbrev pub ada_option : Rule
ada_option = flag_option (codes "ada")

abbrev pub local_option : Rule
local_option = flag_option (codes "local")

abbrev pub c_option : Rule
c_option = flag_option (codes "c")

-- the subcommand `bind`, with its three options
abbrev pub bind : App
bind = with_rule (with_rule (with_rule (new_app (codes "bind")) ada_option) local_option) c_option

-- the program's command line: the subcommands `script`, `live`, `chart`, `explore` and `bind`
abbrev pub console : App
console =
    with_subcommand (with_subcommand (with_subcommand console_of_runs chart.top) explore.top)
    bind.top

-- the subcommand that asks for this
abbrev pub subcommand_word : Args → Text
subcommand_word (Script traced) = codes "script"
subcommand_word (Live seed turns) = codes "live"
subcommand_word (Chart view) = codes "chart"
subcommand_word (Explore request) = codes "explore"
subcommand_word (Bind language) = codes "bind"

-- the value that the words give to an option of this subcommand, if they name that subcommand
abbrev pub option_of : Text → Text → List Text → Option Text
option_of name option words =
    option_and_then (λ found. if bytes_eq found.0 name then one_of option found.1 else None)
    (subcommand_of console words)

-- the value of `--trace`: `true` if it is among the words, else `false`
abbrev pub trace_of : List Text → Option Text
trace_of words = option_of (codes "script") (codes "trace") words

-- the value of `--seed`: the text of a number
abbrev pub seed_of : List Text → Option Text
seed_of words = option_of (codes "live") (codes "seed") words

-- the value of `--turns`: the text of a number
abbrev pub turns_of : List Text → Option Text
turns_of words = option_of (codes "live") (codes "turns") words

-- the value that the words give to an option of `chart`
abbrev pub chart_option : List Text → Text → Option Text
chart_option words option = option_of (codes "chart") option words

-- the value that the words give to an option of `explore`
abbrev pub explore_option : List Text → Text → Option Text
explore_option words option = option_of (codes "explore") option words

-- the value that the words give to an option of `bind`
abbrev pub bind_option : List Text → Text → Option Text
bind_option words option = option_of (codes "bind") option words

-- the text is an optional `+` and the digits of this number of this many bits
pub record IsNumberText (bits : ℕ) (text : Text) (number : ℕ) : Type 0 where
  pub digits : IsNumeral 10 (without_leading_plus text)
  pub value : number ≡ digits_value 10 (without_leading_plus text)
  pub fits : number < 2 ^ bits

-- there is such a text
abbrev pub ReadsAs : ℕ → Option Text → ℕ → Type 0
ReadsAs bits None number = ⊥
ReadsAs bits (Some text) number = IsNumberText bits text number

-- The part of a run that the values of these options choose: what names a position, whether packets
-- from a node to itself are hidden, and the first and the last moment.
pub record IsView (value : Text → Option Text) (view : View) : Type 0 where
  pub hides : value (codes "hide-self") ≡ Some (codes "true") → view.hides_self ≡ true
  pub shows : value (codes "hide-self") ≡ Some (codes "false") → view.hides_self ≡ false
  pub whole : value (codes "position") ≡ None → view.position ≡ None
  pub position : (number : ℕ) → 0 < number → ReadsAs 16 (value (codes "position")) number
      → view.position ≡ Some number
  pub from_start : value (codes "from") ≡ None → view.from ≡ None
  pub from : (number : ℕ) → ReadsAs 32 (value (codes "from")) number → view.from ≡ Some number
  pub to_end : value (codes "to") ≡ None → view.to ≡ None
  pub to : (number : ℕ) → ReadsAs 32 (value (codes "to")) number → view.to ≡ Some number

-- What the values of these options make of a run: that part of it, as a page or as a drawing.
pub record IsChartRequest (value : Text → Option Text) (request : ChartRequest) : Type 0 where
  pub view : IsView value request.view
  pub page : value (codes "html") ≡ Some (codes "true") → request.form ≡ Page
  pub drawing : value (codes "html") ≡ Some (codes "false") → request.form ≡ Drawing

-- The search that the values of these options ask for: at most how many states it finds, and the
-- outcome of which a deck is printed, if one is.
pub record IsRequest (value : Text → Option Text) (request : ExploreRequest) : Type 0 where
  pub states : (number : ℕ) → ReadsAs 32 (value (codes "states")) number → request.states ≡ number
  pub no_deck : value (codes "deck") ≡ None → request.deck ≡ None
  pub deck : (number : ℕ) → ReadsAs 32 (value (codes "deck")) number → request.deck ≡ Some number

-- What the values of these options choose: a header of C by `--c`; else the body of a package of Ada
-- by `--local`, and its specification without it.
pub record IsLanguage (value : Text → Option Text) (language : Language) : Type 0 where
  pub c : value (codes "c") ≡ Some (codes "true") → language ≡ languages.C
  pub local : value (codes "c") ≡ Some (codes "false") → value (codes "local") ≡ Some (codes "true")
      → language ≡ languages.Local
  pub ada : value (codes "c") ≡ Some (codes "false") → value (codes "local") ≡ Some (codes "false")
      → language ≡ languages.Ada
