-- One order more.
use Rattle.std.proofs.Common.{◌≡◌, ℕ, ◌+◌, ◌<◌, Bool, List, sym, ap, subst, ◌∙◌, inl, inr, arith, true≢false}
use Rattle.std.proofs.lemmas.Bool.{cases_lt}
use Rattle.rp_base.specs.declared.action.Action.{Action}
use Rattle.rp_base.specs.declared.reply.Answer.{Answer}
use Rattle.rp_machine.specs.Numbered.{Applied, outcome}
use Rattle.rp_explore.specs.Explored.{Exploration}
use Rattle.rp_explore.specs.Listed.{order_at}
use Rattle.rp_explore.specs.Broken.{IsAskedAt, state_at}
use Rattle.rp_explore.proofs.property.first_broken.Goals as goal

-- what holds of all before and of one more, where it is asked, holds of all up to it
one_more : (found : Exploration) (is_final_only : Bool) (holds : ℕ → Type 0) (place : ℕ) → ((earlier : ℕ) → earlier < place → IsAskedAt found is_final_only earlier → holds earlier)
    → (IsAskedAt found is_final_only place → holds place) → (earlier : ℕ) → earlier < place + 1 → IsAskedAt found is_final_only earlier → holds earlier
one_more found is_final_only holds place before now earlier below asked = elim (cases_lt earlier place) [
  | inl less ↦ before earlier less asked
  | inr rest ↦ let same : earlier ≡ place = omega arith in subst holds (sym same) (now (subst (λ (p : ℕ). IsAskedAt found is_final_only p) same asked))
]

-- the machine is in the state after the order
at_state : {S : Type 0} (next : S → Action → S) (answers : S → Action → List Answer) (begin machine : S) (applied : Applied S) (orders : List (List Action)) (place : ℕ) (order items : List Action)
    → applied ≡ record { begin = begin; actions = order } → order ≡ items → items ≡ order_at orders place → machine ≡ (outcome next answers applied).state → machine ≡ state_at next answers begin orders place
at_state {S} next answers begin machine applied orders place order items is acts there now =
    now ∙ ap (λ (a : Applied S). (outcome next answers a).state) is ∙ ap (λ (o : List Action). (outcome next answers (record { begin = begin; actions = o })).state) (acts ∙ there)

pub loop-place-init : goal.loop-place-init
loop-place-init g c = λ earlier below. absurd (omega arith)

pub loop-place-preserved-then-not-is_asked : goal.loop-place-preserved-then-not-is_asked
loop-place-preserved-then-not-is_asked g c =
    let m = g.M.Machine in
    let found = c.args.explored.now in
    one_more found c.args.is_final_only (λ p. g.P.Property.meaning c.args.property.now (state_at m.next m.answers (m.begin c.args.program.now) found.orders p)) c.loop-place.place c.loop-place.invariant
    (λ asked. absurd (true≢false (sym (c.is_asked.ensures.1 asked) ∙ c.if-not-is_asked.true)))

pub returns-then-not-holds : goal.returns-then-not-holds
returns-then-not-holds g c =
    let m = g.M.Machine in
    let found = c.args.explored.now in
    let is = at_state m.next m.answers (m.begin c.args.program.now) c.machine.result.now c.in_ok-state.state found.orders c.loop-place.place c.as_slice.result.now c.in_ok-order.order.items c.in_ok-state.ensures c.as_slice.ensures.value c.in_ok-order.ensures.value c.machine.ensures in
    record {
      within = omega (arith, c.loop-place-test.true, c.len-place-end.ensures);
      asked = c.is_asked.ensures.0 c.if-not-is_asked.false;
      broken = λ holds. true≢false (sym (c.holds.ensures.1 (subst (λ s. g.P.Property.meaning c.args.property.now s) (sym is) holds)) ∙ c.if-not-holds.true);
      first = c.loop-place.invariant;
    }

pub loop-place-preserved : goal.loop-place-preserved
loop-place-preserved g c =
    let m = g.M.Machine in
    let found = c.args.explored.now in
    let is = at_state m.next m.answers (m.begin c.args.program.now) c.machine.result.now c.in_ok-state.state found.orders c.loop-place.place c.as_slice.result.now c.in_ok-order.order.items c.in_ok-state.ensures c.as_slice.ensures.value c.in_ok-order.ensures.value c.machine.ensures in
    one_more found c.args.is_final_only (λ p. g.P.Property.meaning c.args.property.now (state_at m.next m.answers (m.begin c.args.program.now) found.orders p)) c.loop-place.place c.loop-place.invariant
    (λ asked. subst (λ s. g.P.Property.meaning c.args.property.now s) is (c.holds.ensures.0 c.if-not-holds.false))

pub returns : goal.returns
returns g c = λ place lt asked. c.loop-place.invariant place (omega (arith, lt, c.loop-place-test.false, c.loop-place.auto.place-end, c.len-place-end.ensures)) asked
