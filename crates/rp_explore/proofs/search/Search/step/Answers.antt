-- What is not taken changes nothing; what is taken leads where its key is.
use Rattle.std.proofs.Common.{◌≡◌, ◌<◌, ℕ, Bool, false, List, length, get_or, refl, sym, ap, subst, ◌∙◌}
use Rattle.std.proofs.lemmas.List.{get_or_read}
use Rattle.rp_base.specs.Sets.{Has}
use Rattle.rp_base.specs.Action.{IsRight}
use Rattle.rp_base.specs.declared.action.Action.{Action}
use Rattle.rp_base.specs.declared.action.Action.TheVariants.{Noop}
use Rattle.rp_base.specs.declared.reply.Answer.{Answer}
use Rattle.rp_machine.specs.Numbered.{Applied}
use Rattle.rp_orders.specs.Orders.{AreRight}
use Rattle.rp_orders.specs.declared.guard.Guard.{Guard}
use Rattle.rp_explore.specs.Listed.{further}
use Rattle.rp_explore.specs.Searched.{Searched}
use Rattle.rp_explore.proofs.Lists.{has_at}
use Rattle.rp_explore.proofs.SearchLemmas.{taken, is_at_place, not_taken, stays}
use Rattle.rp_explore.proofs.search.Search.step.Goals as goal

-- one of the actions that may happen is right
right_at : (may : List Action) (index : ℕ) (action : Action) → AreRight may → index < length may → action ≡ get_or may index action → IsRight action
right_at may index action right lt is = right action (subst (λ (a : Action). Has a may) (sym is) (has_at may index action lt))

pub is_taken-requires : goal.is_taken-requires
is_taken-requires g c =
    let is : Searched _ = c.args.self.now in
    let same : c.may.result.now ≡ is.listed.may = c.may.ensures.value ∙ ap (λ (v : Searched _). v.listed.may) c.self.view_is in
    let lt : c.args.index < length c.may.result.now = subst (λ (xs : List Action). c.args.index < length xs) (sym same) c.requires.index in
    right_at c.may.result.now c.args.index c.index-may-index.result (subst (λ (xs : List Action). AreRight xs) (sym c.may.ensures.value) c.may.ensures.right) lt c.index-may-index.is

pub apply-requires : goal.apply-requires
apply-requires g c =
    let is : Searched _ = c.args.self.now in
    let same : c.may.result.now ≡ is.listed.may = c.may.ensures.value ∙ ap (λ (v : Searched _). v.listed.may) c.self.view_is in
    let lt : c.args.index < length c.may.result.now = subst (λ (xs : List Action). c.args.index < length xs) (sym same) c.requires.index in
    right_at c.may.result.now c.args.index c.index-may-index.result (subst (λ (xs : List Action). AreRight xs) (sym c.may.ensures.value) c.may.ensures.right) lt c.index-may-index.is

-- what the test says, with the guards that a contract sees
no_action : {S : Type 0} (next : S → Action → S) (answers : S → Action → List Answer) (guards seen : List Guard) (applied : Applied S) (action : Action) (test : Bool) → guards ≡ seen → test ≡ taken next answers guards applied action → test ≡ false
    → taken next answers seen applied action ≡ false
no_action next answers guards seen applied action test same is none = subst (λ (gs : List Guard). taken next answers gs applied action ≡ false) same (sym is ∙ none)

pub returns-then-not-is_taken-clause-there : goal.returns-then-not-is_taken-clause-there
returns-then-not-is_taken-clause-there g c = λ may_be.
    let m = g.M.Machine in
    let is : Searched _ = c.args.self.now in
    let same : c.may.result.now ≡ is.listed.may = c.may.ensures.value ∙ ap (λ (v : Searched _). v.listed.may) c.self.view_is in
    let lt : c.args.index < length c.may.result.now = subst (λ (xs : List Action). c.args.index < length xs) (sym same) c.requires.index in
    let action : c.index-may-index.result ≡ get_or is.listed.may c.args.index Noop = get_or_read c.may.result.now c.args.index c.index-may-index.result lt c.index-may-index.is Noop ∙ ap (λ (xs : List Action). get_or xs c.args.index Noop) same in
    let none = no_action m.next m.answers c.self.inside.guards.now is.guards c.args.visited.now.state.now c.index-may-index.result c.is_taken.result (ap (λ (v : Searched _). v.guards) c.self.view_is) c.is_taken.ensures c.if-not-is_taken.true in
    record {
      within = c.requires.place;
      alike = not_taken m.next m.answers is c.args.visited.now.state.now c.args.visited.now.place c.args.index c.index-may-index.result (is_at_place m.next m.answers is c.args.visited.now.state.now c.args.visited.now.place c.requires.begin c.requires.actions) action none may_be;
    }

pub returns-then-not-is_taken-clause-stays : goal.returns-then-not-is_taken-clause-stays
returns-then-not-is_taken-clause-stays g c = λ may_be. (λ _. (returns-then-not-is_taken-clause-there g c may_be).alike, λ _. refl)

pub returns-clause-stays : goal.returns-clause-stays
returns-clause-stays g c = λ may_be.
    let m = g.M.Machine in
    stays m.next m.answers c.args.self.now c.place_of.new.self (further c.args.self.now.listed c.args.visited.now.place c.args.index) c.args.visited.now.place c.in_ok-at.at c.requires.place c.in_ok-at.ensures.grows c.in_ok-at.ensures.there c.len-count.ensures.distinct
