-- What is held goes on, by whether the action counts.
use Rattle.std.proofs.Common.{true, false, List, ap, sym, ◌∙◌}
use Rattle.rp_machine.specs.declared.numbered.Caller.{Caller}
use Rattle.rp_machine.specs.Numbered.{with_action, with_answers}
use Rattle.rp_machine.proofs.Holding.{viewed, numbered_not, numbered_more, still_may, once_more}
use Rattle.rp_machine.proofs.numbered.Numbered.apply.Goals as goal

pub invariant_of-self : goal.invariant_of-self
invariant_of-self g c =
    let m = g.M.Machine in
    let laws = c.laws.ensures in
    let self = c.self.inside in
    let begin = m.begin self.program.value in
    let counting = viewed m.next m.answers (record { begin = begin; actions = self.actions }) c.args.self.now c.args.action.now false c.self.view_is (sym c.counts.ensures ∙ c.if-not-counts.true) in
    numbered_not m.next m.answers m.waiting m.begin m.runs laws.none_waits laws.starts laws.keeps laws.accounts self.program.value self.actions c.push.new.self c.args.action.now self.machine self.callers self.occurrences
    c.self.invariant c.requires counting c.push.ensures

pub apply-requires-clause-free : goal.apply-requires-clause-free
apply-requires-clause-free g c =
    let m = g.M.Machine in
    let self = c.self.inside in
    let begin = m.begin self.program.value in
    let counting = viewed m.next m.answers (record { begin = begin; actions = self.actions }) c.args.self.now c.args.action.now true c.self.view_is (sym c.counts.ensures ∙ c.if-not-counts.false) in
    still_may m.waiting self.machine _ c.args.action.now c.self.invariant.state
    (c.replay_may_go_on.ensures.may self.program.value self.actions c.args.action.now c.self.invariant.right counting)

pub invariant_of-self-2 : goal.invariant_of-self-2
invariant_of-self-2 g c =
    let m = g.M.Machine in
    let laws = c.laws.ensures in
    let self = c.self.inside in
    let begin = m.begin self.program.value in
    let counting = viewed m.next m.answers (record { begin = begin; actions = self.actions }) c.args.self.now c.args.action.now true c.self.view_is (sym c.counts.ensures ∙ c.if-not-counts.false) in
    let stated = c.hear.ensures ∙ ap (λ (callers : List Caller). with_answers callers c.as_slice.result.now) c.note.ensures.callers
    ∙ ap (with_answers (with_action self.callers c.args.action.now)) (c.as_slice.ensures ∙ c.apply.ensures.answers) in
    numbered_more m.next m.answers m.waiting m.begin m.runs laws.none_waits laws.starts laws.keeps laws.accounts self.program.value self.actions c.push-2.new.self c.args.action.now self.machine c.apply.new.self self.callers c.hear.new.callers self.occurrences c.note.new.occurrences
    c.self.invariant c.requires c.self.told counting c.push-2.ensures c.apply.ensures.next stated c.note.ensures.occurrences

pub returns-then-not-counts-clause-once : goal.returns-then-not-counts-clause-once
returns-then-not-counts-clause-once g c =
    let m = g.M.Machine in
    let laws = c.laws.ensures in
    let self = c.self.inside in
    once_more m.next m.answers m.waiting m.begin m.runs laws.none_waits laws.starts laws.keeps laws.accounts self.program.value self.actions c.push.new.self c.args.action.now
    c.self.invariant.right c.requires c.push.ensures

pub returns-clause-once : goal.returns-clause-once
returns-clause-once g c =
    let m = g.M.Machine in
    let laws = c.laws.ensures in
    let self = c.self.inside in
    once_more m.next m.answers m.waiting m.begin m.runs laws.none_waits laws.starts laws.keeps laws.accounts self.program.value self.actions c.push-2.new.self c.args.action.now
    c.self.invariant.right c.requires c.push-2.ensures
