-- What a proposer keeps of its proposals (no public clause names it).
use Rattle.std.specs.Prelude.{ℕ, suc, ◌≡◌, ◌<◌, ◌≤◌, Bool, true, Some, is_some}
use Rattle.std.specs.Prelude.{List, [], ◌∷◌, map, filter, length, slice_get, if◌then◌else◌}
use Rattle.rp_base.specs.Proposals.{Proposal}
use Rattle.rp_base.specs.Sets.{IsSet}
use Rattle.rp_proposer.specs.Proposing.{most_running}

-- the proposal has an action of its own
abbrev pub has_own : Proposal → Bool
has_own p = is_some p.own

-- how many actions of its own it has
abbrev pub own_count : Proposal → ℕ
own_count p = if has_own p then 1 else 0

-- how many of the proposals have one
abbrev pub own_actions_of : List Proposal → ℕ
own_actions_of proposals = length (filter has_own proposals)

-- the positions ascend, from n on
abbrev pub Rises : ℕ → List Proposal → Type 0
Rises n [] = Unit {0}
Rises n (p ∷ rest) = (n ≤ p.position) × Rises (suc p.position) rest

-- the last proposal runs below the position
pub record IsLastBelow (proposals : List Proposal) (i : ℕ) : Type 0 where
  pub others : ℕ
  pub count : length proposals ≡ suc others
  pub last : Proposal
  pub at : slice_get proposals others ≡ Some last
  pub below : last.position < i

-- it is of 3 to 7 nodes, its proposals run at different positions, no more than may run, there is
-- room for as many, if it is ascending their positions ascend, and own_actions is how many of them
-- have an action of their own
pub record IsWithin (nodes : ℕ) (proposals : List Proposal) (capacity : ℕ) (ascending : Bool)
    (own_actions : ℕ) : Type 0 where
  pub size : (3 ≤ nodes) × (nodes ≤ 7)
  pub apart : IsSet (map (λ p. p.position) proposals)
  pub few : length proposals ≤ most_running
  pub room : most_running ≤ capacity
  pub ascends : ascending ≡ true → Rises 0 proposals
  pub own : own_actions ≡ own_actions_of proposals
