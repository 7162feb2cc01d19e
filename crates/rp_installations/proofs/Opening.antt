-- Moves by handle are moves of nodes of protected objects.
use Rattle.std.proofs.Common.{◌≡◌, ℕ, Result, Ok, Err, List, [], ◌∷◌, sym, ap, subst, ◌∙◌}
use Rattle.std.specs.Arc.{arc_value}
use Rattle.rp_deck.specs.rp_base.specs.declared.config.Config.{Config}
use Rattle.rp_deck.specs.declared.deck.Deck.{Deck}
use Rattle.rp_deck.specs.DeckViews.{deck_text}
use Rattle.rp_deck.specs.Meaning.{DeckText}
use Rattle.rp_deck_laws.specs.Readings.{IsDeckOfObjects}
use Rattle.rp_handles.specs.DeckNodes.{MeansDeck}
use Rattle.rp_deck.specs.rp_words.specs.LineFaults.{BadLine}
use Rattle.rp_installations.specs.Starts.{BehaveAlike}
use Rattle.rp_deck.specs.rp_object.specs.Image.{objects_image}
use Rattle.rp_deck.specs.rp_object.specs.State.{Running, first_state}
use Rattle.rp_deck.specs.rp_object.specs.Step.{objects_next, objects_answers}
use Rattle.rp_deck.specs.rp_object.specs.declared.program.Program.{Program}
use Rattle.rp_requests.specs.Nodes.{NodeState}
use Rattle.rp_requests.specs.Opening.{IsOpenedNode}
use Rattle.rp_installations.specs.Moves.{OpensSite, AsksSite, NodeMove, Move, Moves, MachineMoves, OpensFrom, AnswersBy}
use Rattle.rp_installations.specs.Moves as moves
use Rattle.rp_installations.specs.Sites.{Installation, NodeSite}
use Rattle.rp_installations.specs.HandleMoves.{IsDeckOf, OpensByHandle, AnswersByHandle, HandleMoves}

-- Two decks that the text means have one meaning.
same_meaning : (text : List ℕ) (one other : Deck) → MeansDeck text one → MeansDeck text other → deck_text one ≡ deck_text other
same_meaning text one other is other_is = ap (meant (deck_text one)) (sym is.meaning ∙ other_is.meaning)
  where
    meant : DeckText → Result DeckText BadLine → DeckText
    meant none (Ok deck) = deck
    meant none (Err bad) = none

module _ (text : List ℕ) (deck : Deck) (program : Program) (is : IsDeckOf text deck program)
    (configs : (one other : Deck) → deck_text one ≡ deck_text other → one.config ≡ other.config)
    (behave : (one other : Deck) (p q : Program) → deck_text one ≡ deck_text other → IsDeckOfObjects one p → IsDeckOfObjects other q → BehaveAlike objects_next objects_answers objects_image (first_state (arc_value p.declarations)) (first_state (arc_value q.declarations))) where
  abbrev start : Running
  start = first_state (arc_value program.declarations)

  opens_so : (me : ℕ) (bytes : List ℕ) (node : NodeState Running) (records kept : ℕ) → OpensByHandle text me bytes node records kept → OpensFrom objects_next objects_answers objects_image deck.config start me bytes node records kept
  opens_so me bytes node records kept k =
      let same = same_meaning text k.deck deck k.means is.means in
      let from : Running = first_state (arc_value k.program.declarations) in
      record {
        start = from;
        alike = behave k.deck deck k.program program same (record { right = k.means.right; objects = k.objects }) (record { right = is.means.right; objects = is.objects });
        opens = subst (λ (c : Config). IsOpenedNode me c from bytes node records kept) (configs k.deck deck same) k.opens;
      }

  node_so : (packets : List (List ℕ)) (me : ℕ) (before after : NodeSite Running) (given : List (List ℕ)) → NodeMove deck.config.nodes (OpensByHandle text) AnswersByHandle packets me before after given
      → NodeMove deck.config.nodes (OpensFrom objects_next objects_answers objects_image deck.config start) (AnswersBy objects_next objects_answers objects_image) packets me before after given
  node_so packets me before after given (moves.NodeMove.Opened h none) = moves.NodeMove.Opened (record {
    closed = h.closed;
    node = h.node;
    records = h.records;
    kept = h.kept;
    opens = opens_so me before.synced h.node h.records h.kept h.opens;
    goes = h.goes;
  }) none
  node_so packets me before after given (moves.NodeMove.Requested a none) = moves.NodeMove.Requested (record {
    exchange = a.exchange;
    old = a.old;
    new = a.new;
    opened = a.opened;
    bytes = a.bytes;
    arrived = a.arrived;
    answers = a.answers;
    goes = a.goes;
  }) none
  node_so packets me before after given (moves.NodeMove.Appended a none) = moves.NodeMove.Appended a none
  node_so packets me before after given (moves.NodeMove.Synced a none) = moves.NodeMove.Synced a none
  node_so packets me before after given (moves.NodeMove.HandedOn packet h same gives) = moves.NodeMove.HandedOn packet h same gives
  node_so packets me before after given (moves.NodeMove.Closed c none) = moves.NodeMove.Closed c none

  move_so : (before after : Installation Running) → Move deck.config.nodes (OpensByHandle text) AnswersByHandle before after → Move deck.config.nodes (OpensFrom objects_next objects_answers objects_image deck.config start) (AnswersBy objects_next objects_answers objects_image) before after
  move_so before after (moves.Move.OfNode me site changed given here move goes) = moves.Move.OfNode me site changed given here (node_so before.handed_on me site changed given move) goes
  move_so before after (moves.Move.OfTask t site changed given here move goes) = moves.Move.OfTask t site changed given here move goes

  pub moves_so : (before : Installation Running) (steps : List (Installation Running)) (after : Installation Running) → HandleMoves text deck before steps after → MachineMoves objects_next objects_answers objects_image deck.config start before steps after
  moves_so before [] after same = same
  moves_so before (middle ∷ rest) after all = (move_so before middle all.0, moves_so middle rest after all.1)
