use Rattle.std.proofs.Common.{◌≡◌, ◌∙◌, ◌||◌, Bool, false, ap, ap₂, codes, rules}
use Rattle.std.proofs.lemmas.Result.{IfOk-weaker}
use Rattle.clap.specs.Words.{app_of, new_app, with_rule}
use Rattle.clap.specs.Simple.{app_of_fields}
use Rattle.clap.specs.declared.builder.command.Command.TheViews.{out-Command}
use Rattle.rp_command_line.proofs.args.bind_command.Goals as goal

pub returns-clause-app : goal.returns-clause-app
returns-clause-app c =
    let above : app_of c.override_usage.result ≡ new_app (codes "bind") = ap app_of_fields c.override_usage.ensures ∙ ap app_of_fields c.about.ensures ∙ c.new.ensures.app in
    let first = c.in_ok-arg.ensures.shape c.ada_option.ensures.local ∙ ap₂ with_rule above c.ada_option.ensures.rule in
    let second = c.in_ok-arg-2.ensures.shape c.local_option.ensures.local ∙ ap₂ with_rule first c.local_option.ensures.rule in
    IfOk-weaker c.arg-3.result _ _ (λ r added. added.shape c.c_option.ensures.local ∙ ap₂ with_rule second c.c_option.ensures.rule) c.arg-3.ensures

pub returns-clause-local : goal.returns-clause-local
returns-clause-local c =
    let either : Bool → Bool → Bool = λ x y. x || y in
    let none : (out-Command c.override_usage.result).has_globals ≡ false = search rules in
    let first = c.in_ok-arg.ensures.globals ∙ ap₂ either none c.ada_option.ensures.local in
    let second = c.in_ok-arg-2.ensures.globals ∙ ap₂ either first c.local_option.ensures.local in
    IfOk-weaker c.arg-3.result _ _ (λ r added. added.globals ∙ ap₂ either second c.c_option.ensures.local) c.arg-3.ensures
