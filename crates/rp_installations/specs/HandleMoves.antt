-- What callers do with the handles of one deck's nodes and of tasks.
use Rattle.std.specs.Prelude.{◌≡◌, ℕ, Some, List}
use Rattle.rp_deck.specs.declared.deck.Deck.{Deck}
use Rattle.rp_deck.specs.rp_object.specs.State.{Running}
use Rattle.rp_deck.specs.rp_object.specs.declared.program.Program.{Program}
use Rattle.rp_deck.specs.rp_deck_declarations.specs.declared.deck_program.DeckProgram.TheVariants.{Objects}
use Rattle.rp_requests.specs.Nodes.{NodeState}
use Rattle.rp_handles.specs.DeckNodes.{MeansDeck}
use Rattle.rp_handles.specs.Handles.{HandleAnswers, KeepsNode, exchange_of}
use Rattle.rp_handles.specs.declared.actor.Actor.TheVariants.{Node}
use Rattle.rp_handles.specs.declared.actor.ActorKind.TheVariants as kinds
use Rattle.rp_installations.specs.Moves.{AnsweredRequest, Moves}
use Rattle.rp_installations.specs.Sites.{Installation, nothing_opened}

-- The bytes mean this deck, whose program of protected objects this is.
pub record IsDeckOf (text : List ℕ) (deck : Deck) (program : Program) : Type 0 where
  pub means : MeansDeck text deck
  pub objects : deck.program ≡ Objects program

-- A handle keeps the node of this number of the deck that the text means, opened over these bytes.
abbrev pub OpensByHandle : List ℕ → ℕ → List ℕ → NodeState Running → ℕ → ℕ → Type 0
OpensByHandle text number bytes node records kept =
    KeepsNode text number bytes (Some (Node node)) records kept

-- The answer to a call by the handle that keeps the node.
abbrev pub AnswersByHandle : AnsweredRequest → NodeState Running → NodeState Running → Type 0
AnswersByHandle exchange old new =
    HandleAnswers kinds.Node (exchange_of exchange.request exchange.before exchange.after)
    (Some (Node old)) (Some (Node new)) (Some exchange.result)

-- Moves of the deck's nodes and of tasks, by handle, lead from the one to the other. What a task's
-- handle keeps and answers is what a task does, so its moves are those of tasks.
abbrev pub HandleMoves : List ℕ → Deck → Installation Running → List (Installation Running)
    → Installation Running
    → Type 0
HandleMoves text deck before moves after =
    Moves deck.config.nodes (OpensByHandle text) AnswersByHandle before moves after

-- They lead there from the state in which nothing was opened.
abbrev pub IsHandleInstallation : List ℕ → Deck → List (Installation Running)
    → Installation Running
    → Type 0
IsHandleInstallation text deck moves after =
    HandleMoves text deck (nothing_opened deck.config.nodes) moves after
