-- Where nothing was sent nothing is decided.
use Rattle.std.proofs.Common.{◌≡◌, ℕ, ◌≤◌, List, [], ◌∷◌, length, inl, refl, arith}
use Rattle.rp_base.specs.declared.action.Action.{Action}
use Rattle.rp_base.specs.Majority.{majority_of}
use Rattle.rp_model.specs.Facts.{IsDecided, IsOrder, HasVoted}
use Rattle.rp_base.specs.Sets.{Has}

no_voters : (nodes i b : ℕ) (v : Action) (voters : List ℕ) → majority_of nodes ≤ length voters → ((a : ℕ) → Has a voters → HasVoted [] a i b v) → ⊥
no_voters nodes i b v [] many voted = omega (arith, many)
no_voters nodes i b v (a ∷ rest) many voted = (voted a (inl refl)).1

none_decided : (nodes i : ℕ) (v : Action) → IsDecided nodes [] i v → ⊥
none_decided nodes i v decided = no_voters nodes i decided.ballot v decided.voters decided.majority decided.voted

pub empty_order : (nodes : ℕ) (order : List Action) → IsOrder nodes [] order → order ≡ []
empty_order nodes [] is = refl
empty_order nodes (v ∷ rest) is = absurd (none_decided nodes 1 v (is.decided 0 v refl))
