-- What a log holds. Lamport, "Paxos Made Simple", section 3: a server may learn the commands of
-- later positions first, and executes a command once those of all earlier positions are known.
use Rattle.std.specs.Prelude.{ℕ, ◌+◌, ◌≡◌, Option, Some, None, IsSome, is_some, unwrap_or}
use Rattle.std.specs.Prelude.{option_and_then, List, [], length, EachIndex, slice_get}
use Rattle.std.specs.Prelude.{if◌then◌else◌, refl}
use Rattle.std.specs.Ordering.{nat_cmp}
use Rattle.std.specs.FinMap.{FinMap, code, get, insert, empty}
use Rattle.std.specs.Coded.{Coded, code_by, coded×, coded_ℕ, coded_list, coded_option}
use Rattle.rp_base.specs.contracts.action.Action as declared
use Rattle.rp_base.specs.declared.action.Action.{Action}

-- the reserved positions, each with the action that was learned there, if any
abbrev pub Places : Type 0
Places = FinMap nat_cmp (Option Action)

-- a log: its places, and the actions that were taken from it so far, in their order
pub record Contents : Type 0 where
  pub places : Places
  pub taken : List Action

-- a log, for the proofs, as the pair of its parts
abbrev pub contents_code : Coded Contents
contents_code =
    code_by (Places × List Action)
    (coded× (code coded_ℕ (coded_option declared.the_row.coded))
    (coded_list declared.the_row.coded))
    (λ c. (c.places, c.taken)) (λ p. record { places = p.0; taken = p.1 }) (λ _. refl)

-- no position is reserved, and nothing is taken
abbrev pub empty_log : Contents
empty_log = record { places = empty; taken = [] }

-- the position is reserved, so that an action can be learned there without memory
abbrev pub IsReservedAt : Contents → ℕ → Type 0
IsReservedAt log i = IsSome (get log.places i)

-- the action learned at a position, if any
abbrev pub action_at : Contents → ℕ → Option Action
action_at log i = option_and_then (λ learned. learned) (get log.places i)

-- an action is learned at the position
abbrev pub IsLearned : Contents → ℕ → Type 0
IsLearned log i = IsSome (action_at log i)

-- the log once the position is reserved
abbrev pub with_room : Contents → ℕ → Contents
with_room log i = if is_some (get log.places i) then log
    else record log { places = insert log.places i None }

-- the log once an action is learned at the position: the first one stays
abbrev pub with_action : Contents → ℕ → Action → Contents
with_action log i v =
    record log { places = insert log.places i (Some (unwrap_or (action_at log i) v)) }

-- the least position that was not taken
abbrev pub next_to_take : Contents → ℕ
next_to_take log = length log.taken + 1

-- the action learned there, if any
abbrev pub ready_of : Contents → Option Action
ready_of log = action_at log (next_to_take log)

-- what was taken are the actions learned at positions 1, 2, 3 and so on
abbrev pub IsTakenInOrder : Contents → Type 0
IsTakenInOrder log = EachIndex log.taken (λ k. slice_get log.taken k ≡ action_at log (k + 1))
