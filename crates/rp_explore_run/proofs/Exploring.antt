-- What the functions that explore a deck put together.
use Rattle.std.proofs.Common.{◌≡◌, ℕ, List, Bor, length, map, max, subst}
use Rattle.std.specs.List.{AllZip}
use Rattle.rp_script.specs.rp_base.specs.declared.action.Action.{Action}
use Rattle.rp_script.specs.rp_base.specs.declared.reply.Answer.{Answer}
use Rattle.rp_explore.specs.Explored.{Exploration}
use Rattle.rp_explore_deck.specs.declared.plan.Plan.{Plan}
use Rattle.rp_explore_deck.specs.declared.rules.PlacedRule.{PlacedRule}
use Rattle.rp_explore_deck.specs.declared.rules.Rule.{Rule}
use Rattle.rp_explore_run.specs.Answers.{ExploredDeck, IsAnswer}
use Rattle.rp_explore_run.specs.Explores.{IsExploredAt, IsExploredFor, IsSearch, asked_deck, explored_plan, head_of}
use Rattle.rp_explore_run.specs.Judging.{IsJudged}
use Rattle.rp_explore_deck.specs.declared.request.ExploreRequest.{ExploreRequest}
use Rattle.rp_explore_run.specs.declared.answer.Printed.{Printed}
use Rattle.rp_explore_run.specs.declared.explore.Asked.{Asked}
use Rattle.rp_explore_run.specs.declared.findings.Judged.{Judged}
use Rattle.rp_script.specs.rp_run.specs.Output.{names_of}
use Rattle.rp_explore.specs.rp_orders.specs.declared.guard.Guard.{Guard}

module _ {S : Type 0} (next : S → Action → S) (answers : S → Action → List Answer) (begin : S) (image : S → List ℕ) (kept : Rule → S → Type 0) where
  -- a search, its rules judged and what is printed of them, by equal parts
  pub explored_for : (asked : Asked) (e : Exploration) (guards : List Guard) (most : ℕ) (rules : List PlacedRule) (judged told : List Judged) (d : ExploredDeck) (printed : Printed)
      → guards ≡ asked.plan.now.guards.items → most ≡ max 1 asked.request.states → rules ≡ asked.plan.now.rules.items → told ≡ judged → d ≡ asked_deck asked e
      → IsSearch next answers begin guards asked.may.now most e
      → AllZip (IsJudged next answers begin kept e) rules judged
      → IsAnswer next answers begin image d asked.request.deck told printed
      → IsExploredFor next answers begin image kept asked printed
  explored_for asked e guards most rules judged told d printed guards_are most_is rules_are told_is d_is search by answer = record {
    explored = e;
    is_search = subst (λ (n : ℕ). IsSearch next answers begin asked.plan.now.guards.items asked.may.now n e) most_is
        (subst (λ (gs : List Guard). IsSearch next answers begin gs asked.may.now most e) guards_are search);
    judged = judged;
    are_judged = subst (λ (l : List PlacedRule). AllZip (IsJudged next answers begin kept e) l judged) rules_are by;
    is_printed = subst (λ (x : ExploredDeck). IsAnswer next answers begin image x asked.request.deck judged printed) d_is
        (subst (λ (j : List Judged). IsAnswer next answers begin image d asked.request.deck j printed) told_is answer);
  }

  -- what was asked for is the plan, and so it is explored
  pub explored_at : (asked : Asked) (plan : Plan) (lines : List (List ℕ)) (request : ExploreRequest) (printed : Printed)
      → asked.plan.now ≡ plan → asked.request ≡ request → asked.may.now ≡ map (λ p. p.action) plan.actions.items
      → ((e : Exploration) → asked_deck asked e ≡ explored_plan plan lines e)
      → IsExploredFor next answers begin image kept asked printed → IsExploredAt next answers begin image kept plan lines request printed
  explored_at asked plan lines request printed plan_is request_is may_is deck_is by = record {
    explored = by.explored;
    is_search = subst (λ (may : List Action). IsSearch next answers begin plan.guards.items may (max 1 request.states) by.explored) may_is
        (subst (λ (r : ExploreRequest). IsSearch next answers begin plan.guards.items asked.may.now (max 1 r.states) by.explored) request_is
        (subst (λ (p : Plan). IsSearch next answers begin p.guards.items asked.may.now (max 1 asked.request.states) by.explored) plan_is by.is_search));
    judged = by.judged;
    are_judged = subst (λ (p : Plan). AllZip (IsJudged next answers begin kept by.explored) p.rules.items by.judged) plan_is by.are_judged;
    is_printed = subst (λ (r : ExploreRequest). IsAnswer next answers begin image (explored_plan plan lines by.explored) r.deck by.judged printed) request_is
        (subst (λ (d : ExploredDeck). IsAnswer next answers begin image d asked.request.deck by.judged printed) (deck_is by.explored) by.is_printed);
  }

-- the deck as it is asked for is the plan's
pub deck_same : (asked : Asked) (lines : List (List ℕ)) (e : Exploration) → map (λ (line : Bor (List ℕ)). line.now) asked.source.lines.now ≡ lines
    → asked.may.now ≡ map (λ p. p.action) asked.plan.now.actions.items → asked.source.head ≡ head_of (length lines) asked.plan.now.deck.script.items
    → asked.source.rules.now ≡ map (λ placed. placed.line) asked.plan.now.rules.items → asked.source.planned.now ≡ asked.plan.now.actions.items
    → asked_deck asked e ≡ explored_plan asked.plan.now lines e
deck_same asked lines e lines_are may head rules planned = λ i. record {
  names = names_of asked.plan.now.deck.tasks;
  may = may i;
  explored = e;
  lines = lines_are i;
  head = head i;
  rules = rules i;
  planned = planned i;
  positions = asked.plan.now.deck.config.max_positions;
}
