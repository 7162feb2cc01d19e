-- What a search and its rules have to report.
use Rattle.std.specs.Prelude.{◌≡◌, ℕ, ◌-◌, Option, Some, None, List, [], ◌∷◌, ◌++◌, flat_map}
use Rattle.std.specs.Prelude.{length, map, slice_index_or}
use Rattle.rp_script.specs.rp_base.specs.declared.reply.Answer.{Answer}
use Rattle.rp_explore.specs.Explored.{Exploration}
use Rattle.rp_explore.specs.Listed.{order_at}
use Rattle.rp_explore.specs.declared.giver.Giver.{Giver}
use Rattle.rp_explore_run.specs.declared.report_lines.Outcome.{Outcome}
use Rattle.rp_explore_run.specs.declared.report_lines.Outcome.TheVariants.{Reply, Waits, Broken}
use Rattle.rp_explore_run.specs.declared.report.Report.{Report}
use Rattle.rp_explore_run.specs.declared.findings.Found.{Found}
use Rattle.rp_explore_run.specs.declared.findings.Judged.{Judged}
use Rattle.rp_script.specs.rp_machine.specs.Asked.{last_number}
use Rattle.rp_script.specs.rp_machine.specs.Replay.{one_to}

-- the outcome after the order at this place
abbrev pub found_at : Outcome → ℕ → Found
found_at outcome place = record { outcome = outcome; place = place; action = None }

-- the reply that this gives
abbrev pub found_by : Answer → Giver → Found
found_by answer giver =
    record { outcome = Reply answer; place = giver.place; action = Some giver.action }

-- the replies, each with what gives it
abbrev pub given_of : List Answer → List Giver → List Found
given_of (answer ∷ replies) (giver ∷ givers) = found_by answer giver ∷ given_of replies givers
given_of _ _ = []

-- the task waits for ever after the order at this place, in its last call of that order
abbrev pub waits_after : Exploration → ℕ → Option ℕ → List Found
waits_after e task None = []
waits_after e task (Some place) =
    found_at (Waits task (last_number task (order_at e.orders place))) place ∷ []

-- the first of the orders after which the task waits for ever, if there is one
abbrev pub waits_at : Exploration → ℕ → List Found
waits_at e task = waits_after e task (slice_index_or e.stuck (task - 1) None)

-- the tasks that may wait for ever, in order
abbrev pub waits_of : Exploration → List Found
waits_of e = flat_map (waits_at e) (one_to 8)

-- the rule of this line is broken after the order at this place
abbrev pub broken_after : ℕ → Option ℕ → List Found
broken_after line None = []
broken_after line (Some place) = found_at (Broken line) place ∷ []

-- the rules that are broken, in order
abbrev pub broken_by : Judged → List Found
broken_by j = broken_after j.line j.broken

abbrev pub broken_of : List Judged → List Found
broken_of judged = flat_map broken_by judged

-- the lines of the rules that no order breaks, in order
abbrev pub held_after : ℕ → Option ℕ → List ℕ
held_after line None = line ∷ []
held_after line (Some place) = []

abbrev pub held_by : Judged → List ℕ
held_by j = held_after j.line j.broken

abbrev pub held_of : List Judged → List ℕ
held_of judged = flat_map held_by judged

-- the replies that are given, the tasks that may wait for ever, and the rules that are broken
abbrev pub found_of : Exploration → List Judged → List Found
found_of e judged = given_of e.replies e.givers ++ (waits_of e ++ broken_of judged)

-- what is reported of a search, of which the rules were judged
pub record IsReportOf (e : Exploration) (judged : List Judged) (report : Report) : Type 0 where
  pub states : report.figures.states ≡ length e.orders
  pub depth : report.figures.depth ≡ e.depth
  pub whole : report.figures.is_whole ≡ e.is_whole
  pub outcomes : report.outcomes.items ≡ map (λ f. f.outcome) (found_of e judged)
  pub held : report.held.items ≡ held_of judged
