-- What a machine after a log is asked, from the actions that counted and the answers to them.
use Rattle.std.specs.Prelude.{ℕ, Bool, not, ◌&&◌, nat_eq, nat_lt, Option, None, List}
use Rattle.std.specs.Prelude.{find, if◌then◌else◌}
use Rattle.std.specs.Option.{option_map}
use Rattle.rp_base.specs.Number.{greatest}
use Rattle.rp_base.specs.declared.action.Action.{Action}
use Rattle.rp_base.specs.declared.reply.Reply.{Reply}
use Rattle.rp_base.specs.declared.reply.Answer.{Answer}
use Rattle.rp_machine.specs.Replay.{is_for, numbers_of, occurrences_of, all_answered}

-- the number of the task's last call that counted, 0 where none did
abbrev pub last_number : ℕ → List Action → ℕ
last_number task kept = greatest (numbers_of task kept)

-- the last occurrence of the source that counted, 0 where none did
abbrev pub last_occurrence : ℕ → List Action → ℕ
last_occurrence source kept = greatest (occurrences_of source kept)

-- the task's last call that counted has no answer yet
abbrev pub waits : ℕ → List Action → List Answer → Bool
waits task kept given = not (all_answered kept given task)

-- the answer to a call
abbrev pub answer_to : ℕ → ℕ → List Answer → Option Answer
answer_to task number given = find (is_for task number) given

-- the reply to a call that is kept: that to the task's last call that counted, once it is answered
abbrev pub kept_reply : ℕ → ℕ → List Action → List Answer → Option Reply
kept_reply task number kept given =
    if nat_lt 0 number && nat_eq number (last_number task kept)
    then option_map (λ answer. answer.reply) (answer_to task number given) else None
