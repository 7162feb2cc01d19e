-- What clap's faults say of the words that it takes.
use Rattle.std.proofs.Common.{◌≡◌, ◌⊎◌, ℕ, inl, inr, List, [], ◌∷◌, Bool, true, false, not, ◌&&◌, Option, Some, None, is_some, codes, refl, cond, ap, sym, subst, ◌∙◌}
use Rattle.std.specs.Str.{bytes_eq}
use Rattle.std.specs.Prelude.{option_map, option_and_then}
use Rattle.clap.specs.Words.{App, Shape, Row, Text, Kinds, fault_of, subcommand_of, built, found_of, one_of, one_text, rows_of}
use Rattle.clap.specs.Kinds.{or_else, check_kinds}
use Rattle.clap.specs.Faults.{level_fault, walk_fault, settle_fault, defaults_fault, check_fault}
use Rattle.clap.specs.Simple.{entered, rows_at, names_of, argument_words}
use Rattle.clap.specs.Walk.{Held, Names, walk, walk_from, settled, finished, stop_after}
use Rattle.clap.specs.declared.error.Error.{Error}
use Rattle.clap.proofs.OnLiterals.{clap_on_literals}
use Rattle.clap.proofs.WalkLemmas.{one_text-rows}
use Rattle.clap.specs.Words.{is_simple, is_simple_and_free, HasKind, subcommand_rows_of, subcommand_name_of}
use Rattle.clap.specs.declared.parser.matches.ArgMatches.{ArgMatches}
use Rattle.clap.specs.declared.parser.matches.ArgMatches.TheViews.{out-ArgMatches}
use Rattle.rp_bind.specs.declared.lines.Language.{Language}
use Rattle.rp_explore_deck.specs.declared.request.ExploreRequest.{ExploreRequest}
use Rattle.rp_history.specs.declared.view.View.{View}
use Rattle.rp_history.specs.declared.view.ChartRequest.{ChartRequest}
use Rattle.rp_command_line.specs.CommandLine.{console, option_of, IsChartRequest, IsLanguage, IsRequest, IsView, ReadsAs}

or_else_second : (first second : Kinds) → or_else first second ≡ [] → second ≡ []
or_else_second [] second e = e
or_else_second (k ∷ ks) second e = cc

-- where a subcommand is required and nothing is missing, one was used
last_check : (used shows given : Bool) (expected : Bool) (expects : Bool) → expected ≡ true → shows ≡ false
    → check_kinds (not used && (shows && given)) (not used && expected) expects ≡ [] → used ≡ true
last_check true shows given expected expects is_expected is_quiet e = refl
last_check false false given true expects is_expected is_quiet e = cc
last_check false true given expected expects is_expected is_quiet e = cc
last_check false false given false expects is_expected is_quiet e = cc

-- a level of the parse that requires a subcommand and has no fault used one
level_used : (s : Shape) (names : Names) (h : Held) (words : List Text) (used : Bool) (below : Kinds)
    → s.subcommand_required ≡ true → s.arg_required_else_help ≡ false → level_fault s names h words used below ≡ [] → used ≡ true
level_used s names h words used below expected quiet e =
    let end = (walk s.rules names h words).held in
    let last = check_fault s (finished s.rules end) used in
    let defaults = defaults_fault (settled s.rules end).rows s.rules in
    let settle = settle_fault s.rules s.args_override_self end in
    let none : last ≡ [] = or_else_second defaults last (or_else_second settle (or_else defaults last)
    (or_else_second below (or_else settle (or_else defaults last))
    (or_else_second (walk_fault s names (walk_from h) words) (or_else below (or_else settle (or_else defaults last))) e))) in
    last_check used s.arg_required_else_help _ s.subcommand_required _ expected quiet none

-- it is one of five
abbrev pub IsOneOfFive : (found : Option Text) (one other third fourth fifth : Text) → Type 0
IsOneOfFive found one other third fourth fifth = (found ≡ Some one) ⊎ ((found ≡ Some other) ⊎ ((found ≡ Some third) ⊎ ((found ≡ Some fourth) ⊎ (found ≡ Some fifth))))

one_entered : (first second third fourth fifth : Bool) (s t u v w : Shape) (words : List Text)
    → let found : Option (Text × List Row) = option_map (λ x. rows_at x words) (cond first (Some s) (cond second (Some t) (cond third (Some u) (cond fourth (Some v) (cond fifth (Some w) None))))) in
    is_some found ≡ true → IsOneOfFive (option_map (λ f. f.0) found) s.name t.name u.name v.name w.name
one_entered true second third fourth fifth s t u v w words e = inl refl
one_entered false true third fourth fifth s t u v w words e = inr (inl refl)
one_entered false false true fourth fifth s t u v w words e = inr (inr (inl refl))
one_entered false false false true fifth s t u v w words e = inr (inr (inr (inl refl)))
one_entered false false false false true s t u v w words e = inr (inr (inr (inr refl)))
one_entered false false false false false s t u v w words e = cc

-- where there are five subcommands, it is one of them that was entered
entered_one : (a : App) (s t u v w : Shape) (stop : Option (Text × List Text)) → a.subs ≡ s ∷ t ∷ u ∷ v ∷ w ∷ [] → is_some (entered a stop) ≡ true
    → IsOneOfFive (option_map (λ f. f.0) (entered a stop)) s.name t.name u.name v.name w.name
entered_one a s t u v w None only e = cc
entered_one a s t u v w (Some p) only e = rw only (one_entered _ _ _ _ _ s t u v w p.1 (rw only at e))

map_map : {A B C : Type 0} (f : B → C) (g : A → B) (o : Option A) → option_map f (option_map g o) ≡ option_map (λ x. f (g x)) o
map_map f g None = refl
map_map f g (Some x) = refl

-- the name of the subcommand that a parse used, by what it has of it
pub name_of_rows : (m : ArgMatches) → option_map (λ found. found.0) (subcommand_rows_of m) ≡ subcommand_name_of m
name_of_rows m = map_map _ _ (out-ArgMatches m).subcommand

-- the words that clap takes name one of the five subcommands
pub subcommand_name : (words : List Text) → fault_of console words ≡ []
    → IsOneOfFive (option_map (λ found. found.0) (subcommand_of console words)) (codes "script") (codes "live") (codes "chart") (codes "explore") (codes "bind")
subcommand_name words e = entered_one (built console) _ _ _ _ _ (stop_after (built console).top.rules (names_of (built console)) (argument_words console words)) refl (level_used _ _ _ _ _ _ refl refl e)

is_simple_console : is_simple console ≡ true
unfolding clap_on_literals
is_simple_console = refl

is_free_console : is_simple_and_free console ≡ true
unfolding clap_on_literals
is_free_console = refl

option_at : (name option : Text) (found : Option (Text × List Row)) (rows : List Row) → option_map (λ p. p.0) found ≡ Some name → bytes_eq name name ≡ true
    → option_map (λ p. p.1) found ≡ Some rows → one_of option rows ≡ option_and_then (λ p. cond (bytes_eq p.0 name) (one_of option p.1) None) found
option_at name option None rows named self e = absurd (cc)
option_at name option (Some p) rows named self e =
    let is : p.0 ≡ name = cc in
    let same : p.1 ≡ rows = cc in
    rw is (rw self (ap (one_of option) (sym same)))

-- what clap says of a command holds of this one

pub no_fault : (a : App) (words : List Text) → a ≡ console → (is_simple_and_free a ≡ true → fault_of a words ≡ []) → fault_of console words ≡ []
no_fault a words same taken = ap (λ b. fault_of b words) (sym same) ∙ taken (ap is_simple_and_free same ∙ is_free_console)

pub has_fault : (a : App) (words : List Text) (e : Error) → a ≡ console → (is_simple_and_free a ≡ true → HasKind (fault_of a words) e) → HasKind (fault_of console words) e
has_fault a words e same refused = subst (λ b. HasKind (fault_of b words) e) same (refused (ap is_simple_and_free same ∙ is_free_console))

module _ (a : App) (words : List Text) (m : ArgMatches) (rows : Type 0) (same : a ≡ console) (met : is_simple a ≡ true → rows × (subcommand_rows_of m ≡ subcommand_of a words)) where
  -- the subcommand that the parse used is the one that the words name
  met_rows : subcommand_rows_of m ≡ subcommand_of console words
  met_rows = (met (ap is_simple same ∙ is_simple_console)).1 ∙ ap (λ b. subcommand_of b words) same

  pub met_name : option_map (λ found. found.0) (subcommand_of console words) ≡ subcommand_name_of m
  met_name = ap (option_map (λ found. found.0)) (sym met_rows) ∙ name_of_rows m

  -- a parse without fault used one of the five
  pub met_one : fault_of console words ≡ [] → IsOneOfFive (subcommand_name_of m) (codes "script") (codes "live") (codes "chart") (codes "explore") (codes "bind")
  met_one none = subst (λ (found : Option Text). IsOneOfFive found (codes "script") (codes "live") (codes "chart") (codes "explore") (codes "bind")) met_name (subcommand_name words none)

  -- what the matches of a subcommand of this name have of an option
  pub option_read : (name option : Text) (inner : ArgMatches) → subcommand_name_of m ≡ Some name → bytes_eq name name ≡ true
      → option_map (λ p. p.1) (subcommand_rows_of m) ≡ Some (rows_of (found_of inner)) → one_text (found_of inner) option ≡ option_of name option words
  option_read name option inner named self there =
      one_text-rows (found_of inner) option
      ∙ option_at name option (subcommand_of console words) _ (met_name ∙ named) self (ap (option_map (λ p. p.1)) (sym met_rows) ∙ there)

module _ (one other : Text → Option Text) (same : (option : Text) → one option ≡ other option) where
  read_by : (bits : ℕ) (option : Text) (number : ℕ) → ReadsAs bits (other option) number → ReadsAs bits (one option) number
  read_by bits option number reads = subst (λ (t : Option Text). ReadsAs bits t number) (sym (same option)) reads

  -- options of the same values choose the same part of a run
  pub is_view_by : (view : View) → IsView one view → IsView other view
  is_view_by view is = record {
    hides = λ e. is.hides (same (codes "hide-self") ∙ e);
    shows = λ e. is.shows (same (codes "hide-self") ∙ e);
    whole = λ e. is.whole (same (codes "position") ∙ e);
    position = λ number positive reads. is.position number positive (read_by 16 (codes "position") number reads);
    from_start = λ e. is.from_start (same (codes "from") ∙ e);
    from = λ number reads. is.from number (read_by 32 (codes "from") number reads);
    to_end = λ e. is.to_end (same (codes "to") ∙ e);
    to = λ number reads. is.to number (read_by 32 (codes "to") number reads);
  }

  -- and make the same of it
  pub is_chart_by : (request : ChartRequest) → IsChartRequest one request → IsChartRequest other request
  is_chart_by request is = record {
    view = is_view_by request.view is.view;
    page = λ e. is.page (same (codes "html") ∙ e);
    drawing = λ e. is.drawing (same (codes "html") ∙ e);
  }

  -- and they ask for the same search
  pub is_request_by : (request : ExploreRequest) → IsRequest one request → IsRequest other request
  is_request_by request is = record {
    states = λ number reads. is.states number (read_by 32 (codes "states") number reads);
    no_deck = λ e. is.no_deck (same (codes "deck") ∙ e);
    deck = λ number reads. is.deck number (read_by 32 (codes "deck") number reads);
  }

  -- and they choose the same language
  pub is_language_by : (language : Language) → IsLanguage one language → IsLanguage other language
  is_language_by language is = record {
    c = λ e. is.c (same (codes "c") ∙ e);
    local = λ e l. is.local (same (codes "c") ∙ e) (same (codes "local") ∙ l);
    ada = λ e l. is.ada (same (codes "c") ∙ e) (same (codes "local") ∙ l);
  }
