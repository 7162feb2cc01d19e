-- Each open node was opened at a start that behaves alike.
use Rattle.std.proofs.Common.{◌≡◌, ℕ, zero, suc, Bool, true, false, Option, Some, None, List, [], ◌∷◌, inl, inr, sym, ap, subst, ◌∙◌}
use Rattle.std.specs.Prelude.{unwrap_or, replicate}
use Rattle.std.proofs.lemmas.Bool.{cases_eq}
use Rattle.rp_agreement.proofs.PartPlaces.{part_has, put_there, put_beside}
use Rattle.rp_base.specs.Sets.{Has}
use Rattle.rp_base.specs.declared.config.Config.{Config}
use Rattle.rp_base.specs.declared.action.Action.{Action}
use Rattle.rp_base.specs.declared.reply.Answer.{Answer}
use Rattle.rp_model.specs.World.{part_at, with_part}
use Rattle.rp_world.specs.rp_replica.specs.State.{ReplicaState}
use Rattle.rp_requests.specs.Nodes.{NodeState}
use Rattle.rp_requests.specs.Requests.{Asked, asked_of}
use Rattle.rp_installations.specs.Moves.{Move, NodeMove, OpensSite, AsksSite, OpensFrom, AnswersBy, MachineMoves, noted_if, is_step_made, with_step, site_answered}
use Rattle.rp_installations.specs.Moves as moves
use Rattle.rp_installations.specs.Sites.{Installation, NodeSite, closed_over, nothing_opened}
use Rattle.rp_installations.specs.Starts.{BehaveAlike}
use Rattle.rp_installations.proofs.NodeAnswers.{Outcome, Stepped, Unchanged, outcome}

module _ {S : Type 0} (next : S → Action → S) (answers : S → Action → List Answer) (image : S → List ℕ) (config : Config) (begin : S) where
  abbrev Alike : NodeState S → Type 0
  Alike node = BehaveAlike next answers image node.replica.begin begin

  abbrev SiteAlike : NodeSite S → Type 0
  SiteAlike site = (node : NodeState S) → site.node ≡ Some node → Alike node

  pub record AllAlike (i : Installation S) : Type 0 where
    pub each : (x : ℕ) (site : NodeSite S) → part_at i.nodes x ≡ Some site → SiteAlike site

  none_open : (site : NodeSite S) → site.node ≡ None → SiteAlike site
  none_open site none node some = absurd (cc)

  one_open : (site : NodeSite S) (kept : NodeState S) → site.node ≡ Some kept → Alike kept → SiteAlike site
  one_open site kept is alike node some = subst Alike (ap (λ (o : Option (NodeState S)). unwrap_or o kept) (sym is ∙ some)) alike

  asked_start : (a : NodeSite S) (old new : NodeState S) (noted : List Action) (made : Bool) (after : NodeSite S) → after ≡ site_answered a new noted made → Alike new → SiteAlike after
  asked_start a old new noted true after goes alike = one_open after new (ap (λ (s : NodeSite S). s.node) goes) alike
  asked_start a old new noted false after goes alike = one_open after new (ap (λ (s : NodeSite S). s.node) goes) alike

  same_start : (asked : Option Asked) (old new : NodeState S) (made : Bool) → Outcome next answers asked old new made → Alike old → Alike new
  same_start asked old new made (Stepped input stale turn is timely effect goes made_is) alike = subst Alike (sym goes) alike
  same_start asked old new made (Unchanged goes made_is) alike = subst (λ (r : ReplicaState S). BehaveAlike next answers image r.begin begin) (sym goes) alike

  node_keeps : (packets : List (List ℕ)) (me : ℕ) (before after : NodeSite S) (given : List (List ℕ)) → SiteAlike before → NodeMove config.nodes (OpensFrom next answers image config begin) (AnswersBy next answers image) packets me before after given → SiteAlike after
  node_keeps packets me before after given alike (moves.NodeMove.Opened h none) =
      one_open after h.node (ap (λ (s : NodeSite S). s.node) h.goes)
      (subst (λ (b : S). BehaveAlike next answers image b begin) (sym (ap (λ (r : ReplicaState S). r.begin) h.opens.opens.opens.starts)) h.opens.alike)
  node_keeps packets me before after given alike (moves.NodeMove.Requested a none) =
      asked_start before a.old a.new (noted_if (asked_of a.exchange.request)) (is_step_made (asked_of a.exchange.request) a.exchange.result a.new.not_taken) after a.goes
      (same_start (asked_of a.exchange.request) a.old a.new (is_step_made (asked_of a.exchange.request) a.exchange.result a.new.not_taken)
      (outcome next answers image (asked_of a.exchange.request) a.old a.new a.exchange.before a.exchange.after a.exchange.result a.answers) (alike a.old a.opened))
  node_keeps packets me before after given alike (moves.NodeMove.Appended a none) = λ node some. alike node (ap (λ (s : NodeSite S). s.node) (sym a.goes) ∙ some)
  node_keeps packets me before after given alike (moves.NodeMove.Synced a none) = λ node some. alike node (ap (λ (s : NodeSite S). s.node) (sym a.goes) ∙ some)
  node_keeps packets me before after given alike (moves.NodeMove.HandedOn packet h same gives) = subst SiteAlike (sym same) alike
  node_keeps packets me before after given alike (moves.NodeMove.Closed c none) = none_open after (ap (λ (s : NodeSite S). s.node) c.goes)

  move_keeps : (before after : Installation S) → AllAlike before → Move config.nodes (OpensFrom next answers image config begin) (AnswersBy next answers image) before after → AllAlike after
  move_keeps before after all (moves.Move.OfNode me site changed given here move goes) = record {
    each = λ x other there. elim (cases_eq x me) [
      | inl same ↦
          let this : changed ≡ other = ap (λ (o : Option (NodeSite S)). unwrap_or o other)
          (sym (put_there before.nodes me site changed here) ∙ ap (part_at (with_part before.nodes me changed)) (sym same) ∙ ap (λ (i : Installation S). part_at i.nodes x) (sym goes) ∙ there) in
          subst SiteAlike this (node_keeps before.handed_on me site changed given (all.each me site here) move)
      | inr differs ↦ all.each x other (sym (put_beside before.nodes me x changed differs) ∙ ap (λ (i : Installation S). part_at i.nodes x) (sym goes) ∙ there)
    ];
  }
  move_keeps before after all (moves.Move.OfTask t site changed given here move goes) =
      record { each = λ x other there. all.each x other (ap (λ (i : Installation S). part_at i.nodes x) (sym goes) ∙ there) }

  pub moves_keep : (before : Installation S) (steps : List (Installation S)) (after : Installation S) → AllAlike before → MachineMoves next answers image config begin before steps after → AllAlike after
  moves_keep before [] after all same = subst AllAlike (sym same) all
  moves_keep before (middle ∷ rest) after all steps = moves_keep middle rest after (move_keeps before middle all steps.0) steps.1

  closed_each : (n : ℕ) (site : NodeSite S) → Has site (replicate n (closed_over [] [])) → SiteAlike site
  closed_each zero site none = absurd none
  closed_each (suc n) site (inl is) = none_open site (ap (λ (s : NodeSite S). s.node) is)
  closed_each (suc n) site (inr rest) = closed_each n site rest

  pub none_yet : AllAlike (nothing_opened config.nodes)
  none_yet = record { each = λ x site there. closed_each config.nodes site (part_has (replicate config.nodes (closed_over [] [])) x site there) }
