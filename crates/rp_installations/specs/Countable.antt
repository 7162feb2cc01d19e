-- What a node by handle has pending can count, or is over.
use Rattle.std.specs.Prelude.{◌≡◌, ◌⊎◌, true, false, List}
use Rattle.rp_base.specs.Sets.{Has}
use Rattle.rp_base.specs.declared.action.Action.{Action}
use Rattle.rp_base.specs.declared.reply.Answer.{Answer}
use Rattle.rp_model.specs.Pending.{is_ahead}
use Rattle.rp_model.specs.rp_machine.specs.Replay.{counts}
use Rattle.rp_requests.specs.Nodes.{NodeState}
use Rattle.rp_requests.specs.Timing.{answered_by, counted_by}

module _ {S : Type 0} (next : S → Action → S) (answers : S → Action → List Answer) where
  -- The item counts if it is applied next; or it counted, or one above it did.
  abbrev pub CountsOrIsOver : NodeState S → Action → Type 0
  CountsOrIsOver node item =
      let counted = counted_by next answers node.replica in
      (counts counted (answered_by next answers node.replica) item ≡ true)
      ⊎ (is_ahead counted item ≡ false)

  -- so of each item that is pending
  abbrev pub PendingCounts : NodeState S → Type 0
  PendingCounts node =
      (item : Action) → Has item node.replica.running.pending → CountsOrIsOver node item
