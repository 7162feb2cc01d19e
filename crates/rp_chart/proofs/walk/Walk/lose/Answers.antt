-- The line is refused, loses nothing, or loses the messages from the least one that is left.
use Rattle.std.proofs.Common.{inl, inr, ◌∙◌, ◌≤◌, ◌<◌, ◌++◌, Ok, List, length, arith, sym, ap}
use Rattle.std.specs.Prelude.{◌⊎◌}
use Rattle.rp_history.specs.Histories.{Happening}
use Rattle.rp_run.specs.Runs.{Follows}
use Rattle.rp_run.proofs.Stepping.{always_ok}
use Rattle.rp_chart.specs.ScriptHistory.{drawn_run}
use Rattle.rp_chart.proofs.Charting.{charted_as}
use Rattle.rp_chart.proofs.ScriptHistory.{are_lost, are_not_lost, kept_reached, kept_refused, lost_reached, nothing_lost, some_lost}
use Rattle.rp_chart.proofs.walk.Walk.lose.Goals as goal
use Rattle.rp_chart.proofs.walk.Walk.lose.Goals.{then-first-sent-via-then-first-sent, then-first-sent-via-else-first-sent+then-last-sent}

pub returns-then-first-sent-clause-reached : goal.returns-then-first-sent-clause-reached
returns-then-first-sent-clause-reached g c =
    let world = c.args.self.now.cluster.world in
    let value = c.messages-sent.ensures.value in
    let above : (length world.sent < c.args.first) ⊎ (length world.sent < c.args.last) = elim c.then-first-sent.branch [
      | then-first-sent-via-then-first-sent w ↦ inl (omega (arith, value, w.if-first-sent.true))
      | then-first-sent-via-else-first-sent+then-last-sent w ↦ inr (omega (arith, value, w.if-last-sent.true))
    ] in
    λ play follows.
    rw (c.refuse.ensures.cluster, c.refuse.ensures.settled)
    (always_ok c.refuse.result (kept_refused (drawn_run g.M.Machine.next g.M.Machine.answers g.M.Machine.begin g.M.Machine.image c.args.self.now.cluster c.args.scene.now)
    c.args.line c.args.first c.args.last play world c.args.self.now.settled follows above))

pub returns-then-first-sent-clause-charted : goal.returns-then-first-sent-clause-charted
returns-then-first-sent-clause-charted g c =
    let m = g.M.Machine in
    let world = c.args.self.now.cluster.world in
    let d = drawn_run m.next m.answers m.begin m.image c.args.self.now.cluster c.args.scene.now in
    let value = c.messages-sent.ensures.value in
    let above : (length world.sent < c.args.first) ⊎ (length world.sent < c.args.last) = elim c.then-first-sent.branch [
      | then-first-sent-via-then-first-sent w ↦ inl (omega (arith, value, w.if-first-sent.true))
      | then-first-sent-via-else-first-sent+then-last-sent w ↦ inr (omega (arith, value, w.if-last-sent.true))
    ] in
    λ play happened follows charted.
    charted_as m.next m.answers m.begin c.refuse.new.self.cluster c.refuse.new.self.chart _ _ c.refuse.result
    (ap (λ (l : List Happening). happened ++ l) (sym (are_not_lost d c.args.line c.args.first c.args.last play world c.args.self.now.settled follows above)))
    (c.refuse.ensures.charted happened charted)

pub returns-then-least-last-clause-reached : goal.returns-then-least-last-clause-reached
returns-then-least-last-clause-reached g c =
    let m = g.M.Machine in
    let world = c.args.self.now.cluster.world in
    let d = drawn_run m.next m.answers m.begin m.image c.args.self.now.cluster c.args.scene.now in
    let next = c.next_unsettled-least in
    λ play follows.
    rw (c.lose_nothing.ensures.cluster, c.lose_nothing.ensures.settled)
    (always_ok c.lose_nothing.result
    (kept_reached d c.args.line c.args.first c.args.last play world c.args.self.now.settled follows next.new.self next.result next.ensures.same c.requires.first
    (omega arith) next.ensures.least (omega arith) (omega arith)))

pub returns-then-least-last-clause-charted : goal.returns-then-least-last-clause-charted
returns-then-least-last-clause-charted g c =
    let m = g.M.Machine in
    let world = c.args.self.now.cluster.world in
    let d = drawn_run m.next m.answers m.begin m.image c.args.self.now.cluster c.args.scene.now in
    let next = c.next_unsettled-least in
    λ play happened follows charted.
    charted_as m.next m.answers m.begin c.lose_nothing.new.self.cluster c.lose_nothing.new.self.chart _ _ c.lose_nothing.result
    (ap (λ (l : List Happening). happened ++ l)
    (sym (are_lost d c.args.line c.args.first c.args.last play world c.args.self.now.settled follows (omega arith) (omega arith)
    ∙ nothing_lost d c.args.line c.args.first c.args.last play world c.args.self.now.settled follows next.result next.ensures.from (omega arith) next.ensures.least)))
    (c.lose_nothing.ensures.charted happened charted)

pub returns-clause-reached : goal.returns-clause-reached
returns-clause-reached g c =
    let m = g.M.Machine in
    let world = c.args.self.now.cluster.world in
    let d = drawn_run m.next m.answers m.begin m.image c.args.self.now.cluster c.args.scene.now in
    let next = c.next_unsettled-least in
    λ play follows.
    rw c.lose_from.ensures.cluster
    (lost_reached d c.args.line c.args.first c.args.last play world c.args.self.now.settled follows c.lose_from.new.self.settled c.settle_all.new.self
    (λ n. c.lose_from.ensures.settled n ∙ next.ensures.same n) c.in_ok-settle_all.ensures.ok (omega arith) (omega arith))

pub returns-clause-charted : goal.returns-clause-charted
returns-clause-charted g c =
    let m = g.M.Machine in
    let old = c.args.self.now in
    let d = drawn_run m.next m.answers m.begin m.image old.cluster c.args.scene.now in
    let next = c.next_unsettled-least in
    let one : 1 ≤ next.result = omega (arith, next.ensures.from, c.requires.first) in
    λ play happened follows charted.
    let alike : Follows old.cluster.world next.new.self play = record { world_is = follows.world_is; settled_are = λ n. next.ensures.same n ∙ follows.settled_are n } in
    charted_as m.next m.answers m.begin c.lose_from.new.self.cluster c.lose_from.new.self.chart _ _ (Ok tt)
    (ap (λ (l : List Happening). happened ++ l)
    (sym (are_lost d c.args.line c.args.first c.args.last play old.cluster.world old.settled follows (omega arith) (omega arith)
    ∙ some_lost d c.args.line c.args.first c.args.last play old.cluster.world old.settled follows next.result one next.ensures.from (omega arith) next.ensures.least next.ensures.unsettled)))
    (c.in_ok-lose_from.ensures.charted play happened alike charted)
