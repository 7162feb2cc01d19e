-- What the closure needs is what the function needs.
use Rattle.std.proofs.Common.{rules, true}
use Rattle.std.proofs.lemmas.Result.{IfOk-weaker}
use denote.Param.Send.{sendable}
use Rattle.rp_threads.specs.Runs.{HaveRun, RunsOrStops}
use Rattle.rp_threads.proofs.threads.run_threads.Given as given
use Rattle.rp_threads.proofs.threads.run_threads.Goals as goal
use Rattle.rp_threads.proofs.threads.run_threads.Goals.{After-scoped}

pub scoped-requires : goal.scoped-requires
scoped-requires g c = record {
  at = λ a. (
    record { count = c.requires.count; node_lines = c.requires.node_lines; task_lines = c.requires.task_lines; fresh = c.requires.fresh },
    (search sendable, search sendable, search sendable, search sendable, search sendable),
  );
}

have_run : (g : given.Over) (c : After-scoped g) → let m = g.M.Machine in
    RunsOrStops (λ ends. HaveRun m.next m.answers m.begin g.G.Gate.lets g.G.Gate.heard g.E.Ending.over g.E.Ending.ended c.args.options.turns c.args.nodes.items c.args.tasks.items ends.0.items ends.1.items)
    (g.E.Ending.stopped true) c.scoped.result
have_run g c = search rules

pub returns-clause-nodes : goal.returns-clause-nodes
returns-clause-nodes g c = IfOk-weaker c.scoped.result _ _ (λ ends have. have.nodes_are) (have_run g (goal.at.returns-clause-nodes g c).After-scoped).ran

pub returns-clause-tasks : goal.returns-clause-tasks
returns-clause-tasks g c = IfOk-weaker c.scoped.result _ _ (λ ends have. have.tasks_are) (have_run g (goal.at.returns-clause-tasks g c).After-scoped).ran

pub returns-clause-stopped : goal.returns-clause-stopped
returns-clause-stopped g c = (have_run g (goal.at.returns-clause-stopped g c).After-scoped).stops
