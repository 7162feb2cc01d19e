-- The name is that of the entry.
use Rattle.std.proofs.Common.{◌≡◌, ◌≤◌, ◌-◌, Some, None, rules, sym, ap, ◌∙◌}
use Rattle.std.specs.Prelude.{slice_get, string_bytes}
use Rattle.rp_output.specs.Trace.{or_nothing}
use Rattle.rp_explore_run.proofs.Names.{name_at}
use Rattle.rp_explore_run.proofs.report.task_name.Goals as goal

pub returns-in-Some : goal.returns-in-Some
returns-in-Some g c =
    let entries = c.args.tasks.now.entries in
    let task = c.args.task in
    let one : 1 ≤ task = search rules in
    let entry : slice_get entries (task - 1) ≡ Some (c.in-Some.name.now, c.in-Some.field-0-1.now) = search rules in
    let name : c.as_str.result.now ≡ string_bytes c.in-Some.name.now = c.as_str.ensures.value in
    name ∙ sym (ap or_nothing (name_at entries task (Some (c.in-Some.name.now, c.in-Some.field-0-1.now)) one entry))

pub returns-in-None : goal.returns-in-None
returns-in-None g c =
    let entries = c.args.tasks.now.entries in
    let task = c.args.task in
    let one : 1 ≤ task = search rules in
    let entry : slice_get entries (task - 1) ≡ None = search rules in
    sym (ap or_nothing (name_at entries task None one entry))
