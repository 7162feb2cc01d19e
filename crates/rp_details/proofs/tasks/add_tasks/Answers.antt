-- One task more, or the end.
use Rattle.std.proofs.Common.{◌≡◌, ◌∙◌, ◌+◌, ◌++◌, List, ℕ, min, rules, arith, sym, ap, append_assoc, append-nil}
use Rattle.rp_world.specs.rp_codec.specs.declared.packet.Party.TheVariants as parties
use Rattle.rp_world.specs.rp_model.specs.World.{part_at}
use Rattle.rp_run.specs.rp_output.specs.Trace.{party_text_of}
use Rattle.rp_run.specs.Output.{names_of}
use Rattle.rp_details.specs.Details.{task_lines, tasks_lines}
use Rattle.rp_details.proofs.Texts.{tasks_more}
use Rattle.rp_details.proofs.tasks.add_tasks.Goals as goal

pub loop-place-init : goal.loop-place-init
loop-place-init g c = sym (append-nil c.args.text.now.items)

pub loop-place-preserved : goal.loop-place-preserved
loop-place-preserved g c =
    let names = names_of c.args.tasks.now in
    let world = c.args.cluster.now.world in
    let place = c.loop-place.place in
    let task : c.unwrap-task.result ≡ place + 1 = search rules in
    let lines : ℕ → List ℕ = λ n. task_lines (party_text_of names (parties.Task n)) (part_at world.tasks n) in
    c.in_ok-add_task.ensures
    ∙ ap (λ (n : ℕ). c.loop-place.text.items ++ lines n) task
    ∙ ap (λ (l : List ℕ). l ++ lines (place + 1)) c.loop-place.invariant
    ∙ append_assoc c.args.text.now.items (tasks_lines names world place) (lines (place + 1))
    ∙ ap (λ (l : List ℕ). c.args.text.now.items ++ l) (sym (tasks_more names world place))
