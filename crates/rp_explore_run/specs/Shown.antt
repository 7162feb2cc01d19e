-- What the deck of an outcome decides, and what its run has to print.
use Rattle.std.specs.Prelude.{◌≡◌, ℕ, Option, Some, None, List, [], ◌∷◌, ◌++◌, slice_index_or}
use Rattle.std.specs.Prelude.{string_bytes}
use Rattle.rp_script.specs.rp_base.specs.declared.action.Action.{Action}
use Rattle.rp_script.specs.rp_base.specs.declared.action.Action.TheVariants.{Noop}
use Rattle.rp_script.specs.rp_base.specs.declared.reply.Answer.{Answer}
use Rattle.rp_explore.specs.Explored.{Exploration}
use Rattle.rp_explore.specs.Listed.{order_at}
use Rattle.rp_explore_run.specs.declared.report_lines.Outcome.{Outcome}
use Rattle.rp_explore_run.specs.declared.report_lines.Outcome.TheVariants.{Reply, Waits, Broken}
use Rattle.rp_explore_run.specs.declared.findings.Found.{Found}
use Rattle.rp_explore_run.specs.declared.shown.Shown.{Shown}
use Rattle.rp_script.specs.rp_machine.specs.Replay.{replay_state}
use Rattle.rp_explore_run.specs.declared.wanted.Wanted.{Wanted}
use Rattle.rp_explore_run.specs.declared.wanted.Wanted.TheVariants.{Line, State}
use Rattle.rp_script.specs.rp_output.specs.Printed.{reply_line_of}
use Rattle.rp_script.specs.rp_output.specs.Trace.{task_name}

-- the action that gives the reply, if there is one
abbrev pub after_of : List Action → Option ℕ → List Action
after_of may None = []
after_of may (Some index) = slice_index_or may index Noop ∷ []

-- the order that leads to what was found
abbrev pub order_of : List Action → Exploration → Found → List Action
order_of may e found = order_at e.orders found.place ++ after_of may found.action

-- a reply is shown by its line, under its task's name, and everything else by this image of a state
abbrev pub IsWanted : List (List ℕ) → List ℕ → Outcome → Wanted → Type 0
IsWanted names shown (Reply answer) (Line line) =
    string_bytes line ≡ reply_line_of (task_name names answer.task) answer.number answer.reply
IsWanted names shown (Waits task number) (State image) = image.items ≡ shown
IsWanted names shown (Broken line) (State image) = image.items ≡ shown
IsWanted names shown _ _ = ⊥

module _ {S : Type 0} (next : S → Action → S) (answers : S → Action → List Answer) (begin : S)
    (image : S → List ℕ) where
  -- the order leads to what was found, and this shows it: the line of the reply, or the image of
  -- the state after the order
  pub record IsShownBy (names : List (List ℕ)) (may : List Action) (e : Exploration) (found : Found)
      (shown : Shown) : Type 0 where
    pub order : shown.order.items ≡ order_of may e found
    pub wanted : IsWanted names
        (image (replay_state next answers begin (order_at e.orders found.place)))
        found.outcome shown.wanted
