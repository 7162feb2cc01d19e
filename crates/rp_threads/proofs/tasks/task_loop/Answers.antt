-- The link is empty and the task fresh at first, and its turns are those of the task.
use Rattle.std.proofs.Common.{◌≡◌, ℕ, List, refl, sym, ap, subst, ◌∙◌}
use Rattle.rp_threads.specs.Tasks.{task_state, task_party}
use Rattle.rp_threads.specs.TaskRounds.{IsTaskTurnOf, IsUnmadeTurn, task_rested}
use Rattle.rp_threads.specs.Threads.{IsTaskLooped}
use Rattle.rp_threads.specs.declared.tasks.TaskCall.{TaskCall}
use Rattle.rp_threads.proofs.Chains.{seen_ended}
use Rattle.rp_threads.proofs.TaskChains.{task_looped}
use Rattle.rp_threads.proofs.Texts.{empty_holds}
use Rattle.rp_threads.proofs.tasks.task_loop.Goals as goal

pub run_turns-fault-requires : goal.run_turns-fault-requires
run_turns-fault-requires g c = (c.requires.nodes, empty_holds c.args.seat.part.got c.args.line c.requires.line)

pub returns : goal.returns
returns g c =
    let m = g.M.Machine in
    let ending = g.E.Ending in
    let a = c.args in
    let run = c.run_turns-fault in
    let last = task_state run.new.actor in
    let Turned = IsTaskTurnOf m.next m.answers m.begin in
    let Unmade = IsUnmadeTurn m.next m.answers m.begin in
    let ended = seen_ended ending.over task_party (task_rested a.calls.now) task_state _ (λ task. (task.nodes ≡ a.nodes) × (task.calls.now ≡ a.calls.now))
    (λ done now fixed. ap (λ (calls : List TaskCall). task_rested calls done (task_state now)) fixed.1) _ _ (Turned a.nodes a.calls.now) (Unmade a.nodes a.calls.now)
    (λ turn old new fixed t. ((t.0 ∙ fixed.0, ap (λ calls. calls.now) t.1 ∙ fixed.1), subst (λ (n : ℕ). Turned n a.calls.now turn (task_state old) (task_state new)) fixed.0 (subst (λ (calls : List TaskCall). Turned old.nodes calls turn (task_state old) (task_state new)) fixed.1 t.2)))
    (λ turn old new fault fixed none. subst (λ (n : ℕ). Unmade n a.calls.now turn (task_state old) (task_state new) fault) fixed.0 (subst (λ (calls : List TaskCall). Unmade old.nodes calls turn (task_state old) (task_state new) fault) fixed.1 none))
    a.options.turns _ run.new.actor run.result (refl, refl) run.ensures.ran in
    subst (IsTaskLooped m.next m.answers m.begin ending.over ending.ended a.nodes a.options.turns a.calls.now a.seat a.line) (sym c.ended.ensures)
    (task_looped m.next m.answers m.begin a.calls.now a.nodes ending.over a.options.turns a.seat a.line c.requires.fresh ending.ended c.requires.nodes.0 last run.result ended run.ensures.notified)
