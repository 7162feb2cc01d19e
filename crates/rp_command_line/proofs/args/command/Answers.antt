use Rattle.std.proofs.Common.{◌≡◌, ◌∙◌, ap, ap₂, codes}
use Rattle.std.proofs.lemmas.Result.{IfOk-weaker}
use Rattle.clap.specs.Words.{App, app_of, new_app, with_subcommand}
use Rattle.clap.specs.Simple.{app_of_fields, on_top}
use Rattle.rp_command_line.specs.CommandLine.{with_choice}
use Rattle.rp_command_line.proofs.args.command.Goals as goal

pub returns : goal.returns
returns c =
    let top : app_of c.disable_help_subcommand.result ≡ on_top with_choice (new_app (codes "rp_console")) =
    rw (ap app_of_fields c.disable_help_subcommand.ensures, c.subcommand_required.ensures, c.version.ensures, c.after_help.ensures, c.about.ensures) (ap (on_top with_choice) c.new.ensures.app) in
    let first = c.in_ok-subcommand.ensures.shape c.in_ok-script.ensures.local ∙ ap₂ with_subcommand top (ap (λ (a : App). a.top) c.in_ok-script.ensures.app) in
    let second = c.in_ok-subcommand-2.ensures.shape c.in_ok-live.ensures.local ∙ ap₂ with_subcommand first (ap (λ (a : App). a.top) c.in_ok-live.ensures.app) in
    let third = c.in_ok-subcommand-3.ensures.shape c.in_ok-chart.ensures.local ∙ ap₂ with_subcommand second (ap (λ (a : App). a.top) c.in_ok-chart.ensures.app) in
    let fourth = c.in_ok-subcommand-4.ensures.shape c.in_ok-explore.ensures.local ∙ ap₂ with_subcommand third (ap (λ (a : App). a.top) c.in_ok-explore.ensures.app) in
    IfOk-weaker c.subcommand-5.result _ _ (λ r added. added.shape c.in_ok-bind.ensures.local ∙ ap₂ with_subcommand fourth (ap (λ (a : App). a.top) c.in_ok-bind.ensures.app)) c.subcommand-5.ensures
