-- Only calls that counted are answered.
use Rattle.std.proofs.Common.{◌≡◌, ℕ, ◌-◌, ◌<◌, None, get_or, ap, subst, ◌∙◌}
use Rattle.rp_machine.specs.Asked.{last_number, answer_to}
use Rattle.rp_machine.specs.declared.numbered.Caller.{Caller}
use Rattle.rp_machine.specs.Numbered.{Applied, outcome}
use Rattle.rp_machine.proofs.Applying.{accounted}
use Rattle.rp_machine.proofs.Asking.{none_above}
use Rattle.rp_machine.proofs.numbered.Numbered.caller.Goals as goal

pub returns-clause-above : goal.returns-clause-above
returns-clause-above g c = λ number above.
    let m = g.M.Machine in
    let laws = c.laws.ensures in
    let self = c.self.inside in
    let task = c.args.task in
    let unused : Caller = record { last = 0; reply = None } in
    let applied : Applied g.row.M.Denot = record { begin = m.begin self.program.value; actions = self.actions } in
    let r = outcome m.next m.answers applied in
    let account = accounted m.next m.answers m.waiting m.begin m.runs laws.none_waits laws.starts laws.keeps laws.accounts self.program.value self.actions c.self.invariant.right in
    let place : c.from.result ≡ task = c.from.ensures ∙ c.get.ensures.value in
    let last : (get_or self.callers (c.from.result - 1) unused).last ≡ last_number task r.kept =
    ap (λ (n : ℕ). (get_or self.callers (n - 1) unused).last) place
    ∙ ap (λ (caller : Caller). caller.last) (c.self.invariant.calls task unused c.get.ensures.in_range.0 c.get.ensures.in_range.1) in
    subst (λ (a : Applied g.row.M.Denot). answer_to task number (outcome m.next m.answers a).given ≡ None) c.self.view_is
    (none_above r.kept r.given task number account.known (subst (λ (n : ℕ). n < number) last above))
