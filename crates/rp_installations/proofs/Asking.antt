-- What a node was asked to note it was asked to note later too.
use Rattle.std.proofs.Common.{◌≡◌, ℕ, Bool, true, false, Option, List, [], ◌∷◌, inl, inr, sym, ap, subst, ◌∙◌}
use Rattle.std.specs.Prelude.{unwrap_or}
use Rattle.std.proofs.lemmas.Bool.{cases_eq}
use Rattle.rp_agreement.proofs.PartPlaces.{put_there, put_beside}
use Rattle.rp_base.proofs.Members.{has_left}
use Rattle.rp_base.specs.Sets.{Has}
use Rattle.rp_base.specs.declared.action.Action.{Action}
use Rattle.rp_model.specs.World.{part_at}
use Rattle.rp_installations.specs.Making.{AreAmong}
use Rattle.rp_requests.specs.Nodes.{NodeState}
use Rattle.rp_requests.specs.Requests.{asked_of}
use Rattle.rp_installations.specs.Behind.{WasAskedFor}
use Rattle.rp_installations.specs.Moves.{AnsweredRequest, Move, Moves, NodeMove, noted_if, is_step_made, site_answered}
use Rattle.rp_installations.specs.Moves as moves
use Rattle.rp_installations.specs.Sites.{Installation, NodeSite}

module _ {S : Type 0} (nodes : ℕ) (Opens : ℕ → List ℕ → NodeState S → ℕ → ℕ → Type 0) (AnswersAs : AnsweredRequest → NodeState S → NodeState S → Type 0) where
  answered_among : (before after : NodeSite S) (node : NodeState S) (noted : List Action) (made : Bool) → after ≡ site_answered before node noted made → AreAmong before.noted after.noted
  answered_among before after node noted true goes = λ v has. subst (λ (x : NodeSite S). Has v x.noted) (sym goes) (has_left v before.noted noted has)
  answered_among before after node noted false goes = λ v has. subst (λ (x : NodeSite S). Has v x.noted) (sym goes) has

  node_among : (packets : List (List ℕ)) (me : ℕ) (before after : NodeSite S) (given : List (List ℕ)) → NodeMove nodes Opens AnswersAs packets me before after given → AreAmong before.noted after.noted
  node_among packets me before after given (moves.NodeMove.Opened h none) = λ v has. subst (λ (x : NodeSite S). Has v x.noted) (sym h.goes) has
  node_among packets me before after given (moves.NodeMove.Requested a none) =
      answered_among before after a.new (noted_if (asked_of a.exchange.request)) (is_step_made (asked_of a.exchange.request) a.exchange.result a.new.not_taken) a.goes
  node_among packets me before after given (moves.NodeMove.Appended a none) = λ v has. subst (λ (x : NodeSite S). Has v x.noted) (sym a.goes) has
  node_among packets me before after given (moves.NodeMove.Synced a none) = λ v has. subst (λ (x : NodeSite S). Has v x.noted) (sym a.goes) has
  node_among packets me before after given (moves.NodeMove.HandedOn packet h same gives) = λ v has. subst (λ (x : NodeSite S). Has v x.noted) (sym same) has
  node_among packets me before after given (moves.NodeMove.Closed c none) = λ v has. subst (λ (x : NodeSite S). Has v x.noted) (sym c.goes) has

  asked_after : (before after : Installation S) → Move nodes Opens AnswersAs before after → (v : Action) → WasAskedFor before v → WasAskedFor after v
  asked_after before after (moves.Move.OfNode me site changed given here move goes) v asked =
      elim (cases_eq asked.0 me) [
        | inl same ↦
            let this : asked.1 ≡ site = ap (λ (o : Option (NodeSite S)). unwrap_or o site) (sym asked.2 ∙ ap (part_at before.nodes) same ∙ here) in (
              me,
              changed,
              ap (λ (i : Installation S). part_at i.nodes me) goes ∙ put_there before.nodes me site changed here,
              node_among before.handed_on me site changed given move v (subst (λ (x : NodeSite S). Has v x.noted) this asked.3),
            )
        | inr differs ↦ (asked.0, asked.1, ap (λ (i : Installation S). part_at i.nodes asked.0) goes ∙ put_beside before.nodes me asked.0 changed differs ∙ asked.2, asked.3)
      ]
  asked_after before after (moves.Move.OfTask t site changed given here move goes) v asked = (asked.0, asked.1, ap (λ (i : Installation S). part_at i.nodes asked.0) goes ∙ asked.2, asked.3)

  pub asked_later : (before : Installation S) (steps : List (Installation S)) (after : Installation S) → Moves nodes Opens AnswersAs before steps after → (v : Action) → WasAskedFor before v → WasAskedFor after v
  asked_later before [] after same v asked = subst (λ (i : Installation S). WasAskedFor i v) (sym same) asked
  asked_later before (middle ∷ rest) after all v asked = asked_later middle rest after all.1 v (asked_after before middle all.0 v asked)
