-- A station that goes on over new devices once the log of its node has ended.
use Rattle.std.specs.Prelude.{◌≡◌, ◌≢◌, ℕ, codes, Option, Some, None, Result, Ok, Err, Vec, List}
use Rattle.std.specs.Prelude.{◌++◌}
use Rattle.std.specs.declared.alloc.Global.{Global}
use Rattle.hex.specs.Hex.{encode_lower}
use Rattle.sha2.specs.Sha256.{sha256}
use Rattle.rp_object.specs.Image.{objects_image}
use Rattle.rp_object.specs.State.{Running}
use Rattle.rp_object.specs.Step.{objects_next, objects_answers}
use Rattle.rp_handles.specs.NextDeckTexts.{IsNextDeck}
use Rattle.rp_requests.specs.Nodes.{NodeState, image_of, positions_left}
use Rattle.rp_handles.specs.DeclaredParts.{declared_part}
use Rattle.rp_handles.specs.declared.actor.Actor.{Actor}
use Rattle.rp_handles.specs.declared.actor.Actor.TheVariants.{Node, Task}
use Rattle.rp_handles.specs.declared.next.NoNextDeck.{NoNextDeck}
use Rattle.rp_handles.specs.declared.next.NoNextDeck.TheVariants.{OutOfMemory, NotEnded, AtWork}

-- what the first line of the next deck says: the digest of the deck from which it goes on, so that
-- no two decks of a station have the same digest
abbrev pub mark_of : List ℕ → List ℕ
mark_of text = codes "goes on from " ++ encode_lower (sha256 (declared_part text))

-- Each position of the node's log is applied, and this is the text of the next deck: its objects
-- start as the node's ended.
pub record GoesOn (text : List ℕ) (node : NodeState Running) (next : List ℕ) : Type 0 where
  pub ended : positions_left node.replica ≡ 0
  pub goes_on : IsNextDeck text (mark_of text) node.replica.config
      (image_of objects_next objects_answers objects_image node) next

-- Why there is no next deck: memory ran out; positions are left; or none is left, and a call waits,
-- a timing event is set or the deck is another one.
abbrev pub GoesNotOn : NodeState Running → NoNextDeck → Type 0
GoesNotOn node OutOfMemory = Unit {0}
GoesNotOn node NotEnded = positions_left node.replica ≢ 0
GoesNotOn node AtWork = positions_left node.replica ≡ 0

-- the next deck by a node; none by a task
abbrev pub ActorGoesOn : List ℕ → Actor → Option (Result (Vec ℕ Global) NoNextDeck) → Type 0
ActorGoesOn text (Node node) (Some (Ok next)) = GoesOn text node next.items
ActorGoesOn text (Node node) (Some (Err reason)) = GoesNotOn node reason
ActorGoesOn text (Task task) None = Unit {0}
ActorGoesOn text actor answer = ⊥

-- the same by the actor that a handle keeps; none by a closed handle
abbrev pub HandleGoesOn : List ℕ → Option Actor → Option (Result (Vec ℕ Global) NoNextDeck) → Type 0
HandleGoesOn text (Some actor) answer = ActorGoesOn text actor answer
HandleGoesOn text None None = Unit {0}
HandleGoesOn text None answer = ⊥
