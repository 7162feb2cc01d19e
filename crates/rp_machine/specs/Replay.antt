-- Which actions of a log count, and what they lead to, for any machine.
use Rattle.std.specs.Prelude.{◌≡◌, ℕ, zero, suc, Bool, true, false, ◌&&◌, nat_eq, nat_lt, Option}
use Rattle.std.specs.Prelude.{Some, None, List, [], ◌∷◌, ◌++◌, filter_map, if◌then◌else◌}
use Rattle.std.specs.List.{list_any, list_all}
use Rattle.std.specs.Cmp.Lexicographic.{pointwise}
use Rattle.rp_base.specs.declared.action.Action.{Action}
use Rattle.rp_base.specs.declared.action.Action.TheVariants.{Noop, Call, Interrupt, Tick}
use Rattle.rp_base.specs.declared.reply.Answer.{Answer}

-- the number of the action's call, if it is a call of the task
abbrev pub number_for : ℕ → Action → Option ℕ
number_for task Noop = None
number_for task (Call caller number object operation arg) =
    if nat_eq caller task then Some number else None
number_for task (Interrupt source occurrence) = None
number_for task (Tick now) = None

-- the occurrence of the action, if it is an interrupt of the source
abbrev pub occurrence_for : ℕ → Action → Option ℕ
occurrence_for source Noop = None
occurrence_for source (Call task number object operation arg) = None
occurrence_for source (Interrupt other occurrence) =
    if nat_eq other source then Some occurrence else None
occurrence_for source (Tick now) = None

-- the numbers 1 to n
abbrev pub one_to : ℕ → List ℕ
one_to zero = []
one_to (suc n) = one_to n ++ suc n ∷ []

-- the answer is for this call
abbrev pub is_for : ℕ → ℕ → Answer → Bool
is_for task number answer = nat_eq answer.task task && nat_eq answer.number number

-- the numbers of the task's calls, in order
abbrev pub numbers_of : ℕ → List Action → List ℕ
numbers_of task actions = filter_map (number_for task) actions

-- the occurrences of the source, in order
abbrev pub occurrences_of : ℕ → List Action → List ℕ
occurrences_of source actions = filter_map (occurrence_for source) actions

-- the call is the task's next: its calls so far are those numbered 1 to below it
abbrev pub is_next_number : List Action → ℕ → ℕ → Bool
is_next_number kept task number =
    pointwise nat_eq (one_to number) (numbers_of task kept ++ number ∷ [])

-- the call is answered
abbrev pub is_answered : List Answer → ℕ → ℕ → Bool
is_answered given task number = list_any (is_for task number) given

-- each of the task's calls is answered: the task does not wait
abbrev pub all_answered : List Action → List Answer → ℕ → Bool
all_answered kept given task = list_all (is_answered given task) (numbers_of task kept)

-- Whether an action counts after those that counted, which gave these answers. A call does if it is
-- the next of its task and the task does not wait; an interrupt if its occurrence is above those of
-- its source that counted; a tick always; a Noop never.
abbrev pub counts : List Action → List Answer → Action → Bool
counts kept given Noop = false
counts kept given (Call task number object operation arg) =
    is_next_number kept task number && all_answered kept given task
counts kept given (Interrupt source occurrence) =
    list_all (λ earlier. nat_lt earlier occurrence) (occurrences_of source kept)
counts kept given (Tick now) = true

-- what a log of actions resulted in: the state, the actions that counted, and the answers in order
pub record Replayed (S : Type 0) : Type 0 where
  pub state : S
  pub kept : List Action
  pub given : List Answer

-- a machine that nothing was applied to
abbrev pub unmoved : {S : Type 0} → S → Replayed S
unmoved begin = record { state = begin; kept = []; given = [] }

module _ {S : Type 0} (next : S → Action → S) (answers : S → Action → List Answer) where
  -- the answers to one action more: the machine's where it counts, else none
  abbrev pub answers_after : Replayed S → Action → List Answer
  answers_after r action = if counts r.kept r.given action then answers r.state action else []

  -- one action more: where it counts the machine takes it, else nothing changes
  abbrev pub replay_step : Replayed S → Action → Replayed S
  replay_step r action =
      if counts r.kept r.given action
      then record {
        state = next r.state action;
        kept = r.kept ++ action ∷ [];
        given = r.given
            ++ answers r.state action;
      }
      else r

  -- going on: one action after another
  abbrev pub replay_from : Replayed S → List Action → Replayed S
  replay_from r [] = r
  replay_from r (action ∷ rest) = replay_from (replay_step r action) rest

module _ {S : Type 0} (next : S → Action → S) (answers : S → Action → List Answer) (begin : S) where
  -- the result of a log, from the start on
  abbrev pub replay_of : List Action → Replayed S
  replay_of actions = replay_from next answers (unmoved begin) actions

  -- the actions of a log that count
  abbrev pub counted_of : List Action → List Action
  counted_of actions = (replay_of actions).kept

  -- the state that a log leads to
  abbrev pub replay_state : List Action → S
  replay_state actions = (replay_of actions).state

  -- the answers that a log leads to, in order
  abbrev pub replay_answers : List Action → List Answer
  replay_answers actions = (replay_of actions).given

-- One log's outcome goes on to another: what counted and what was answered are before what came.
pub record GoesOn {S : Type 0} (before after : Replayed S) : Type 0 where
  pub further : List Action
  pub more : List Answer
  pub kept : after.kept ≡ before.kept ++ further
  pub given : after.given ≡ before.given ++ more
