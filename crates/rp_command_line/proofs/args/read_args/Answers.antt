use Rattle.std.proofs.Common.{◌≡◌, ◌∙◌, [], map, inl, inr, rules, true, false, codes, ap, ap₂, sym, subst, refl, Option, Some}
use Rattle.clap.specs.Words.{Text, fault_of, found_of, one_text, subcommand_name_of}
use Rattle.rp_bind.specs.declared.lines.Language.{Language}
use Rattle.rp_explore_deck.specs.declared.request.ExploreRequest.{ExploreRequest}
use Rattle.rp_history.specs.declared.view.ChartRequest.{ChartRequest}
use Rattle.rp_command_line.specs.CommandLine.{bind_option, chart_option, console, explore_option, option_of, trace_of, IsChartRequest, IsLanguage, IsRequest, ReadsAs}
use Rattle.rp_command_line.proofs.CommandLineLemmas.{no_fault, has_fault, is_chart_by, is_language_by, is_request_by, met_name, met_one, option_read}
use Rattle.rp_command_line.specs.declared.args.Args.TheVariants.{Script, Live}
use Rattle.rp_command_line.proofs.args.read_args.Given as given
use Rattle.rp_command_line.proofs.args.read_args.Goals as goal
use Rattle.rp_command_line.proofs.args.read_args.Goals.{In_ok-matches}

taken : (g : given.Over) (c : In_ok-matches g) → fault_of console (map g.S.AsStr.text c.args.words.now) ≡ []
taken g c = no_fault _ _ c.in_ok-command.ensures c.in_ok-matches.ensures.kinds

pub returns-in_err-matches-clause-refused : goal.returns-in_err-matches-clause-refused
returns-in_err-matches-clause-refused g c =
    let kinds = has_fault _ (map g.S.AsStr.text c.args.words.now) c.in_err-matches.field-0.0 c.in_ok-command.ensures c.in_err-matches.ensures.kinds in
    search (rules, kinds)

pub returns-in-Some-clause-traced : goal.returns-in-Some-clause-traced
returns-in-Some-clause-traced g c asked =
    let found = c.in-Some.found.now in
    let text : one_text (found_of found) (codes "trace") ≡ trace_of (map g.S.AsStr.text c.args.words.now) =
    option_read _ _ c.in_ok-matches.matches _ c.in_ok-command.ensures c.in_ok-matches.ensures.matches (codes "script") (codes "trace") found (c.in-Some.ensures.found.0 refl) refl c.in-Some.ensures.rows in
    ap Script (c.get_flag-traced.ensures.value (text ∙ asked))

pub returns-in-Some-clause-quiet : goal.returns-in-Some-clause-quiet
returns-in-Some-clause-quiet g c asked =
    let found = c.in-Some.found.now in
    let text : one_text (found_of found) (codes "trace") ≡ trace_of (map g.S.AsStr.text c.args.words.now) =
    option_read _ _ c.in_ok-matches.matches _ c.in_ok-command.ensures c.in_ok-matches.ensures.matches (codes "script") (codes "trace") found (c.in-Some.ensures.found.0 refl) refl c.in-Some.ensures.rows in
    ap Script (c.get_flag-traced.ensures.other (text ∙ asked))

pub returns-in-Some-clause-refused : goal.returns-in-Some-clause-refused
returns-in-Some-clause-refused g c = taken g (goal.at.returns-in-Some-clause-refused g c).In_ok-matches

pub unreachable-requires : goal.unreachable-requires
unreachable-requires g c =
    let met = met_one _ (map g.S.AsStr.text c.args.words.now) c.in_ok-matches.matches _ c.in_ok-command.ensures c.in_ok-matches.ensures.matches (taken g (goal.at.unreachable-requires g c).In_ok-matches) in
    elim met [
      | inl script ↦ (let is : false ≡ true = c.in_default.ensures.found.1 script in cc)
      | inr other ↦ elim other [
        | inl live ↦ (let is : false ≡ true = c.in_default-subcommand_matches.ensures.found.1 live in cc)
        | inr last ↦ elim last [
          | inl chart ↦ (let is : false ≡ true = c.in_default-subcommand_matches-2.ensures.found.1 chart in cc)
          | inr rest ↦ elim rest [
            | inl explore ↦ (let is : false ≡ true = c.in_default-subcommand_matches-3.ensures.found.1 explore in cc)
            | inr bind ↦ (let is : false ≡ true = c.in-None.ensures.found.1 bind in cc)
          ]
        ]
      ]
    ]

pub returns-in-Some-subcommand_matches-clause-live : goal.returns-in-Some-subcommand_matches-clause-live
returns-in-Some-subcommand_matches-clause-live g c seed turns of_seed of_turns =
    let found = c.in-Some-subcommand_matches.found.now in
    let named : subcommand_name_of c.in_ok-matches.matches ≡ Some (codes "live") = c.in-Some-subcommand_matches.ensures.found.0 refl in
    let text : (option : Text) → one_text (found_of found) option ≡ option_of (codes "live") option (map g.S.AsStr.text c.args.words.now) = λ option.
    option_read _ _ c.in_ok-matches.matches _ c.in_ok-command.ensures c.in_ok-matches.ensures.matches (codes "live") option found named refl c.in-Some-subcommand_matches.ensures.rows in
    ap₂ Live
    (c.number_of.ensures seed (subst (λ (t : Option Text). ReadsAs 32 t seed) (sym (text (codes "seed"))) of_seed))
    (c.number_of-in-Some-subcommand_matches.ensures turns (subst (λ (t : Option Text). ReadsAs 32 t turns) (sym (text (codes "turns"))) of_turns))

pub returns-in-Some-subcommand_matches-clause-refused : goal.returns-in-Some-subcommand_matches-clause-refused
returns-in-Some-subcommand_matches-clause-refused g c = taken g (goal.at.returns-in-Some-subcommand_matches-clause-refused g c).In_ok-matches

pub returns-clause-refused : goal.returns-clause-refused
returns-clause-refused g c = taken g (goal.at.returns-clause-refused g c).In_ok-matches

pub returns-in-Some-subcommand_matches-2-clause-refused : goal.returns-in-Some-subcommand_matches-2-clause-refused
returns-in-Some-subcommand_matches-2-clause-refused g c = taken g (goal.at.returns-in-Some-subcommand_matches-2-clause-refused g c).In_ok-matches

pub returns-in-Some-subcommand_matches-2-clause-chart : goal.returns-in-Some-subcommand_matches-2-clause-chart
returns-in-Some-subcommand_matches-2-clause-chart g c request is =
    let found = c.in-Some-subcommand_matches-2.found.now in
    let named : subcommand_name_of c.in_ok-matches.matches ≡ Some (codes "chart") = c.in-Some-subcommand_matches-2.ensures.found.0 refl in
    let text : (option : Text) → one_text (found_of found) option ≡ chart_option (map g.S.AsStr.text c.args.words.now) option = λ option.
    option_read _ _ c.in_ok-matches.matches _ c.in_ok-command.ensures c.in_ok-matches.ensures.matches (codes "chart") option found named refl c.in-Some-subcommand_matches-2.ensures.rows in
    let same : request ≡ c.chart_of.result = cc in
    subst (λ (r : ChartRequest). IsChartRequest (chart_option (map g.S.AsStr.text c.args.words.now)) r) (sym same) (is_chart_by _ _ text c.chart_of.result c.chart_of.ensures)

pub returns-in-Some-subcommand_matches-3-clause-explore : goal.returns-in-Some-subcommand_matches-3-clause-explore
returns-in-Some-subcommand_matches-3-clause-explore g c request is =
    let found = c.in-Some-subcommand_matches-3.found.now in
    let named : subcommand_name_of c.in_ok-matches.matches ≡ Some (codes "explore") = c.in-Some-subcommand_matches-3.ensures.found.0 refl in
    let text : (option : Text) → one_text (found_of found) option ≡ explore_option (map g.S.AsStr.text c.args.words.now) option = λ option.
    option_read _ _ c.in_ok-matches.matches _ c.in_ok-command.ensures c.in_ok-matches.ensures.matches (codes "explore") option found named refl c.in-Some-subcommand_matches-3.ensures.rows in
    let same : request ≡ c.request_of.result = cc in
    subst (λ (r : ExploreRequest). IsRequest (explore_option (map g.S.AsStr.text c.args.words.now)) r) (sym same) (is_request_by _ _ text c.request_of.result c.request_of.ensures)

pub returns-clause-bind : goal.returns-clause-bind
returns-clause-bind g c language is =
    let found = c.in-Some-subcommand_matches-4.found.now in
    let named : subcommand_name_of c.in_ok-matches.matches ≡ Some (codes "bind") = c.in-Some-subcommand_matches-4.ensures.found.0 refl in
    let text : (option : Text) → one_text (found_of found) option ≡ bind_option (map g.S.AsStr.text c.args.words.now) option = λ option.
    option_read _ _ c.in_ok-matches.matches _ c.in_ok-command.ensures c.in_ok-matches.ensures.matches (codes "bind") option found named refl c.in-Some-subcommand_matches-4.ensures.rows in
    let same : language ≡ c.language_of.result = cc in
    subst (λ (l : Language). IsLanguage (bind_option (map g.S.AsStr.text c.args.words.now)) l) (sym same) (is_language_by _ _ text c.language_of.result c.language_of.ensures)

pub returns-in-Some-subcommand_matches-3-clause-refused : goal.returns-in-Some-subcommand_matches-3-clause-refused
returns-in-Some-subcommand_matches-3-clause-refused g c = taken g (goal.at.returns-in-Some-subcommand_matches-3-clause-refused g c).In_ok-matches

pub returns-in-Some-subcommand_matches-3-clause-named : goal.returns-in-Some-subcommand_matches-3-clause-named
returns-in-Some-subcommand_matches-3-clause-named g c =
    met_name _ (map g.S.AsStr.text c.args.words.now) c.in_ok-matches.matches _ c.in_ok-command.ensures c.in_ok-matches.ensures.matches ∙ c.in-Some-subcommand_matches-3.ensures.found.0 refl

pub returns-clause-named : goal.returns-clause-named
returns-clause-named g c =
    met_name _ (map g.S.AsStr.text c.args.words.now) c.in_ok-matches.matches _ c.in_ok-command.ensures c.in_ok-matches.ensures.matches ∙ c.in-Some-subcommand_matches-4.ensures.found.0 refl
