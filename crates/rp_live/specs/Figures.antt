-- How a run in threads went, in numbers.
use Rattle.std.specs.Prelude.{ℕ, ◌+◌, ◌-◌, ◌^◌, min, max, List, [], ◌∷◌, length, map}
use Rattle.rp_board.specs.Parts.{task_of}
use Rattle.rp_live.specs.declared.figures.Figures.{Figures}
use Rattle.rp_threads.specs.declared.loops.NodeEnd.{NodeEnd}
use Rattle.rp_threads.specs.declared.tasks.TaskEnd.{TaskEnd}

-- the sum of some numbers, as far as 64 bits hold it
abbrev pub sum_from : ℕ → List ℕ → ℕ
sum_from sum [] = sum
sum_from sum (n ∷ others) = sum_from (min (sum + n) (2 ^ 64 - 1)) others

-- the greatest of some numbers, 0 where there is none
abbrev pub greatest_from : ℕ → List ℕ → ℕ
greatest_from greatest [] = greatest
greatest_from greatest (n ∷ others) = greatest_from (max greatest n) others

-- Of these ends: how many calls the tasks made, how many of them have replies, in which turn the
-- last reply came, how many packets the loops count as lost, and in how many turns nodes led.
abbrev pub figures_of : {M D P : Type 0} → List (NodeEnd M D P) → List (TaskEnd M P) → Figures
figures_of nodes tasks = record {
  asked = sum_from 0 (map (λ end. end.made) tasks);
  answered = sum_from 0 (map (λ end. length (task_of end.seat.part.role).replies) tasks);
  last_reply = greatest_from 0 (map (λ end. end.last_reply) tasks);
  lost = sum_from (sum_from 0 (map (λ end. end.counts.lost) nodes)) (map (λ end. end.lost) tasks);
  led = sum_from 0 (map (λ end. end.counts.led) nodes);
}
