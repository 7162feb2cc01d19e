use Rattle.std.proofs.Common.{◌≡◌, ◌∙◌, ◌||◌, Bool, false, ap, ap₂, codes, rules}
use Rattle.std.proofs.lemmas.Result.{IfOk-weaker}
use Rattle.clap.specs.Words.{app_of, new_app, with_rule}
use Rattle.clap.specs.Simple.{app_of_fields}
use Rattle.clap.specs.declared.builder.command.Command.TheViews.{out-Command}
use Rattle.rp_command_line.proofs.args.chart_command.Goals as goal

pub returns-clause-app : goal.returns-clause-app
returns-clause-app c =
    let above : app_of c.override_usage.result ≡ new_app (codes "chart") = ap app_of_fields c.override_usage.ensures ∙ ap app_of_fields c.about.ensures ∙ c.new.ensures.app in
    let first = c.in_ok-arg.ensures.shape c.position_option.ensures.local ∙ ap₂ with_rule above c.position_option.ensures.rule in
    let second = c.in_ok-arg-2.ensures.shape c.hide_self_option.ensures.local ∙ ap₂ with_rule first c.hide_self_option.ensures.rule in
    let third = c.in_ok-arg-3.ensures.shape c.count_option.ensures.local ∙ ap₂ with_rule second c.count_option.ensures.rule in
    let fourth = c.in_ok-arg-4.ensures.shape c.count_option-2.ensures.local ∙ ap₂ with_rule third c.count_option-2.ensures.rule in
    IfOk-weaker c.arg-5.result _ _ (λ r added. added.shape c.html_option.ensures.local ∙ ap₂ with_rule fourth c.html_option.ensures.rule) c.arg-5.ensures

pub returns-clause-local : goal.returns-clause-local
returns-clause-local c =
    let either : Bool → Bool → Bool = λ x y. x || y in
    let none : (out-Command c.override_usage.result).has_globals ≡ false = search rules in
    let first = c.in_ok-arg.ensures.globals ∙ ap₂ either none c.position_option.ensures.local in
    let second = c.in_ok-arg-2.ensures.globals ∙ ap₂ either first c.hide_self_option.ensures.local in
    let third = c.in_ok-arg-3.ensures.globals ∙ ap₂ either second c.count_option.ensures.local in
    let fourth = c.in_ok-arg-4.ensures.globals ∙ ap₂ either third c.count_option-2.ensures.local in
    IfOk-weaker c.arg-5.result _ _ (λ r added. added.globals ∙ ap₂ either fourth c.html_option.ensures.local) c.arg-5.ensures
