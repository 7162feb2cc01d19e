-- What tells the states of a program apart.
use Rattle.std.specs.Prelude.{◌≡◌, ℕ, List, [], ◌∷◌, map, if◌then◌else◌}
use Rattle.rp_base.specs.declared.action.Action.{Action}
use Rattle.rp_base.specs.declared.reply.Answer.{Answer}
use Rattle.rp_machine.specs.Asked.{last_number, last_occurrence}
use Rattle.rp_machine.specs.Replay.{Replayed, one_to, replay_of}
use Rattle.rp_orders.specs.Guards.{may_go_on}
use Rattle.rp_orders.specs.declared.guard.Guard.{Guard}
use Rattle.rp_explore.specs.Pieces.{AreNumbers, lines_of}
use Rattle.rp_explore.specs.declared.key.Key.{Key}

-- the number of each task's last call, the tasks in order
abbrev pub last_numbers : List Action → List ℕ
last_numbers kept = map (λ task. last_number task kept) (one_to 8)

-- the last occurrence of each source, the sources in order
abbrev pub last_occurrences : List Action → List ℕ
last_occurrences kept = map (λ source. last_occurrence source kept) (one_to 8)

-- 1 for each task whose next call may be made, else 0, the tasks in order
abbrev pub all_may_go_on : List Guard → List Action → List Answer → List ℕ
all_may_go_on guards kept given =
    map (λ task. if may_go_on guards kept given task then 1 else 0) (one_to 8)

-- the key is that of this state: the lines of its image, by their numbers among these, its last
-- numbers, its last occurrences, and the tasks whose next call may be made
pub record IsKeyOf {S : Type 0} (shown : S → List ℕ) (guards : List Guard)
    (known : List (List ℕ)) (r : Replayed S) (key : Key) : Type 0 where
  pub lines : AreNumbers known key.lines.items (lines_of (shown r.state))
  pub numbers : key.numbers ≡ last_numbers r.kept
  pub occurrences : key.occurrences ≡ last_occurrences r.kept
  pub allowed : key.allowed ≡ all_may_go_on guards r.kept r.given

-- the two keys are equal
pub record AreEqual (one other : Key) : Type 0 where
  pub lines : one.lines.items ≡ other.lines.items
  pub numbers : one.numbers ≡ other.numbers
  pub occurrences : one.occurrences ≡ other.occurrences
  pub allowed : one.allowed ≡ other.allowed

module _ {S : Type 0} (next : S → Action → S) (answers : S → Action → List Answer) (begin : S)
    (guards : List Guard) (shown : S → List ℕ) (known : List (List ℕ)) where
  -- there is one key for each order, that of the state that it leads to
  abbrev pub AreKeys : List Key → List (List Action) → Type 0
  AreKeys [] [] = Unit {0}
  AreKeys (key ∷ keys) (order ∷ orders) =
      IsKeyOf shown guards known (replay_of next answers begin order) key × AreKeys keys orders
  AreKeys _ _ = ⊥
