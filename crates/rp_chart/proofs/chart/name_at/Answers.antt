-- The name is that of the entry.
use Rattle.std.proofs.Common.{◌≡◌, Some, None, rules, sym, ap, ◌∙◌}
use Rattle.std.specs.Prelude.{slice_get, string_bytes}
use Rattle.rp_script.specs.rp_output.specs.Trace.{or_nothing}
use Rattle.rp_chart.proofs.TaskNames.{name_at}
use Rattle.rp_chart.proofs.chart.name_at.Goals as goal

pub returns-in-Some : goal.returns-in-Some
returns-in-Some c =
    let entries = c.args.tasks.now.entries in
    let place = c.args.place in
    let entry : slice_get entries place ≡ Some (c.in-Some.name.now, c.in-Some.field-0-1.now) = search rules in
    let name : c.as_str.result.now ≡ string_bytes c.in-Some.name.now = c.as_str.ensures.value in
    name ∙ sym (ap or_nothing (name_at entries place (Some (c.in-Some.name.now, c.in-Some.field-0-1.now)) entry))

pub returns-in-None : goal.returns-in-None
returns-in-None c =
    let entries = c.args.tasks.now.entries in
    let place = c.args.place in
    let entry : slice_get entries place ≡ None = search rules in
    sym (ap or_nothing (name_at entries place None entry))
