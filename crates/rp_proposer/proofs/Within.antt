-- What a proposer keeps of its proposals holds of those that are there after a change.
use Rattle.std.proofs.Common.{◌≡◌, ◌≤◌, ℕ, Bool, true, List, length, sym, subst}
use Rattle.rp_base.specs.Sets.{IsSet}
use Rattle.rp_base.specs.Proposals.{Proposal}
use Rattle.rp_base.proofs.Apart.{positions_of}
use Rattle.rp_proposer.specs.Proposing.{most_running}
use Rattle.rp_proposer.specs.Room.{IsWithin, Rises, own_actions_of}

-- where the new proposals are these, at different positions, and no more than may run
pub kept : (nodes : ℕ) (old new changed : List Proposal) (capacity more : ℕ) (up stays : Bool) (own count : ℕ) → IsWithin nodes old capacity up own → new ≡ changed → more ≡ capacity
    → IsSet (positions_of changed) → length new ≤ most_running → (stays ≡ true → Rises 0 changed) → count ≡ own_actions_of new → IsWithin nodes new more stays count
kept nodes old new changed capacity more up stays own count is same room apart few ascends counted = record {
  size = is.size;
  apart = subst (λ (l : List Proposal). IsSet (positions_of l)) (sym same) apart;
  few = few;
  room = subst (λ (n : ℕ). most_running ≤ n) (sym room) is.room;
  ascends = λ yes. subst (λ (l : List Proposal). Rises 0 l) (sym same) (ascends yes);
  own = counted;
}
