-- Moves of a quorum's nodes and of one task, one after another, and what each of them leads to.
use Rattle.std.proofs.Common.{◌≡◌, ◌≢◌, ℕ, Some, List, [], ◌∷◌, ◌++◌, inl, inr, refl, sym, subst, ◌∙◌}
use Rattle.rp_base.specs.Sets.{Has}
use Rattle.rp_base.proofs.Members.{has_split, has_left, has_right}
use Rattle.rp_base.specs.declared.action.Action.{Action}
use Rattle.rp_base.specs.declared.config.Config.{Config}
use Rattle.rp_base.specs.declared.reply.Answer.{Answer}
use Rattle.rp_model.specs.World.{part_at, with_part}
use Rattle.rp_agreement.proofs.PartPlaces.{put_there, put_beside}
use Rattle.rp_installations.specs.Moves.{AnsweredRequest, NodeMove, TaskMove, Move, Moves, MachineMoves, OpensFrom, AnswersBy}
use Rattle.rp_installations.specs.Moves as moves
use Rattle.rp_requests.specs.Nodes.{NodeState}
use Rattle.rp_installations.specs.Sites.{NodeSite, TaskSite, Installation}
use Rattle.rp_progress_by_handle.specs.ByHandle.{AreTheirMoves, GoesOnByHandle, AnswersInPlace}

module _ {S : Type 0} (next : S → Action → S) (answers : S → Action → List Answer) (image : S → List ℕ) (config : Config) (begin : S) (quorum : List ℕ) (t : ℕ) where
  abbrev Opens : ℕ → List ℕ → NodeState S → ℕ → ℕ → Type 0
  Opens = OpensFrom next answers image config begin

  abbrev InPlace : AnsweredRequest → NodeState S → NodeState S → Type 0
  InPlace = AnswersInPlace next answers image config begin

  abbrev Steps : Installation S → List (Installation S) → Installation S → Type 0
  Steps = Moves config.nodes Opens InPlace

  -- ---- such moves are moves of an installation

  node_any : (packets : List (List ℕ)) (me : ℕ) (before after : NodeSite S) (given : List (List ℕ)) → NodeMove config.nodes Opens InPlace packets me before after given → NodeMove config.nodes Opens (AnswersBy next answers image) packets me before after given
  node_any packets me before after given (moves.NodeMove.Opened h none) =
      moves.NodeMove.Opened (record { closed = h.closed; node = h.node; records = h.records; kept = h.kept; opens = h.opens; goes = h.goes }) none
  node_any packets me before after given (moves.NodeMove.Requested a none) =
      moves.NodeMove.Requested (record { exchange = a.exchange; old = a.old; new = a.new; opened = a.opened; bytes = a.bytes; arrived = a.arrived; answers = a.answers.0; goes = a.goes }) none
  node_any packets me before after given (moves.NodeMove.Appended a none) = moves.NodeMove.Appended a none
  node_any packets me before after given (moves.NodeMove.Synced a none) = moves.NodeMove.Synced a none
  node_any packets me before after given (moves.NodeMove.HandedOn packet h same gives) = moves.NodeMove.HandedOn packet h same gives
  node_any packets me before after given (moves.NodeMove.Closed a none) = moves.NodeMove.Closed a none

  move_any : (before after : Installation S) → Move config.nodes Opens InPlace before after → Move config.nodes Opens (AnswersBy next answers image) before after
  move_any before after (moves.Move.OfNode me site changed given here move goes) = moves.Move.OfNode me site changed given here (node_any before.handed_on me site changed given move) goes
  move_any before after (moves.Move.OfTask task site changed given here move goes) = moves.Move.OfTask task site changed given here move goes

  pub are_moves : (steps : List (Installation S)) (before after : Installation S) → Steps before steps after → MachineMoves next answers image config begin before steps after
  are_moves [] before after same = same
  are_moves (middle ∷ others) before after all = (move_any before middle all.0, are_moves others middle after all.1)

  -- ---- one after another

  -- moves of the quorum and the task lead from the one to the other
  abbrev pub Goes : Installation S → Installation S → Type 0
  Goes i later = GoesOnByHandle next answers image config begin quorum t i later

  moves_then : (i j k : Installation S) (steps more : List (Installation S)) → Steps i steps j → Steps j more k → Steps i (steps ++ more) k
  moves_then i j k [] more same all = subst (λ (x : Installation S). Steps x more k) same all
  moves_then i j k (middle ∷ rest) more first all = (first.0, moves_then middle j k rest more first.1 all)

  theirs_then : (i j : Installation S) (steps more : List (Installation S)) → Steps i steps j → AreTheirMoves quorum t i steps → AreTheirMoves quorum t j more → AreTheirMoves quorum t i (steps ++ more)
  theirs_then i j [] more same theirs later = subst (λ (x : Installation S). AreTheirMoves quorum t x more) same later
  theirs_then i j (middle ∷ rest) more first theirs later = (theirs.0, theirs_then middle j rest more first.1 theirs.1 later)

  pub stands : (i : Installation S) → Goes i i
  stands i = record { moves = []; all = refl; theirs = tt }

  pub goes_then : (i j k : Installation S) → Goes i j → Goes j k → Goes i k
  goes_then i j k first second = record {
    moves = first.moves ++ second.moves;
    all = moves_then i j k first.moves second.moves first.all second.all;
    theirs = theirs_then i j first.moves second.moves first.all first.theirs second.theirs;
  }

  -- ---- a node

  -- The node's site is this one; other nodes and the tasks are as they were, and these packets were handed on too.
  pub record NodeReaches (i : Installation S) (me : ℕ) (site : NodeSite S) (given : List (List ℕ)) : Type 0 where
    pub later : Installation S
    pub goes : Goes i later
    pub there : part_at later.nodes me ≡ Some site
    pub beside : (y : ℕ) → y ≢ me → part_at later.nodes y ≡ part_at i.nodes y
    pub tasks : later.tasks ≡ i.tasks
    pub kept : (p : List ℕ) → Has p i.handed_on → Has p later.handed_on
    pub new : (p : List ℕ) → Has p given → Has p later.handed_on

  pub stays : (i : Installation S) (me : ℕ) (site : NodeSite S) → part_at i.nodes me ≡ Some site → NodeReaches i me site []
  stays i me site here = record { later = i; goes = stands i; there = here; beside = λ y other. refl; tasks = refl; kept = λ p has. has; new = λ p none. absurd none }

  pub moves_node : (i : Installation S) (me : ℕ) (site changed : NodeSite S) (given : List (List ℕ)) → Has me quorum → part_at i.nodes me ≡ Some site
      → NodeMove config.nodes (OpensFrom next answers image config begin) (AnswersInPlace next answers image config begin) i.handed_on me site changed given → NodeReaches i me changed given
  moves_node i me site changed given has here move =
      let after : Installation S = record i { nodes = with_part i.nodes me changed; handed_on = i.handed_on ++ given } in
      record {
        later = after;
        goes = record {
          moves = after ∷ [];
          all = (moves.Move.OfNode me site changed given here move refl, refl);
          theirs = (record { nodes = λ y none. put_beside i.nodes me y changed (λ e. none (subst (λ (k : ℕ). Has k quorum) (sym e) has)); tasks = λ u other. refl }, tt);
        };
        there = put_there i.nodes me site changed here;
        beside = λ y other. put_beside i.nodes me y changed other;
        tasks = refl;
        kept = λ p old. has_left p i.handed_on given old;
        new = λ p fresh. has_right p i.handed_on given fresh;
      }

  pub node_then : (i : Installation S) (me : ℕ) (site changed : NodeSite S) (given more : List (List ℕ)) → (first : NodeReaches i me site given) → NodeReaches first.later me changed more → NodeReaches i me changed (given ++ more)
  node_then i me site changed given more first second = record {
    later = second.later;
    goes = goes_then i first.later second.later first.goes second.goes;
    there = second.there;
    beside = λ y other. second.beside y other ∙ first.beside y other;
    tasks = second.tasks ∙ first.tasks;
    kept = λ p old. second.kept p (first.kept p old);
    new = λ p has. elim (has_split p given more has) [ inl one ↦ second.kept p (first.new p one) | inr two ↦ second.new p two ];
  }

  -- ---- the task

  pub record TaskReaches (i : Installation S) (site : TaskSite) (given : List (List ℕ)) : Type 0 where
    pub later : Installation S
    pub goes : Goes i later
    pub there : part_at later.tasks t ≡ Some site
    pub nodes : later.nodes ≡ i.nodes
    pub kept : (p : List ℕ) → Has p i.handed_on → Has p later.handed_on
    pub new : (p : List ℕ) → Has p given → Has p later.handed_on

  pub moves_task : (i : Installation S) (site changed : TaskSite) (given : List (List ℕ)) → part_at i.tasks t ≡ Some site → TaskMove config.nodes i.handed_on t site changed given → TaskReaches i changed given
  moves_task i site changed given here move =
      let after : Installation S = record i { tasks = with_part i.tasks t changed; handed_on = i.handed_on ++ given } in
      record {
        later = after;
        goes = record {
          moves = after ∷ [];
          all = (moves.Move.OfTask t site changed given here move refl, refl);
          theirs = (record { nodes = λ y none. refl; tasks = λ u other. put_beside i.tasks t u changed other }, tt);
        };
        there = put_there i.tasks t site changed here;
        nodes = refl;
        kept = λ p old. has_left p i.handed_on given old;
        new = λ p fresh. has_right p i.handed_on given fresh;
      }

  pub task_stays : (i : Installation S) (site : TaskSite) → part_at i.tasks t ≡ Some site → TaskReaches i site []
  task_stays i site here = record { later = i; goes = stands i; there = here; nodes = refl; kept = λ p has. has; new = λ p none. absurd none }
