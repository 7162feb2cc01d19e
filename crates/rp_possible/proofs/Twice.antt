-- Two calls of each task, for each count of nodes and each leader, by computing the result of each event.
use Rattle.std.proofs.Common.{◌≡◌, ℕ, ◌+◌, ◌≤◌, pos, true, Option, Some, List, [], ◌∷◌, ◌++◌, length, map, inl, inr, refl, arith}
use Rattle.std.specs.List.{list_all}
use Rattle.std.proofs.lemmas.Bool.{cases_eq}
use Rattle.rp_base.specs.Majority.{majority_of}
use Rattle.rp_base.specs.Number.{IsNode, IsTask, in_range}
use Rattle.rp_base.specs.Sets.{Has}
use Rattle.rp_base.specs.declared.action.Action.{Action}
use Rattle.rp_base.specs.declared.action.Action.TheVariants.{Call}
use Rattle.rp_base.specs.declared.action.Operation.TheVariants.{Procedure}
use Rattle.rp_base.specs.declared.reply.Answer.{Answer}
use Rattle.rp_base.specs.declared.reply.Reply.{Reply}
use Rattle.rp_model.specs.rp_machine.specs.Replay.{one_to}
use Rattle.rp_model.specs.Events.{Event, Stop}
use Rattle.rp_model.specs.World.{World, opening_world}
use Rattle.rp_possible.specs.Possible.{AreReplied, answer_of, prompt_nodes, is_plain, is_led_by}
use Rattle.rp_possible.proofs.Calling.{present, away, told, calling, right_calling, right_stops}
use Rattle.rp_possible.proofs.Cases.{AllOf, each_of, AreSame, same_at, passed_by, one_to_has}
use Rattle.rp_possible.proofs.Playing.{played, happens, replies_in, has_replies, each_right, right_on}

-- two calls of the task
abbrev calling_twice : ℕ → ℕ → ℕ → List Event
calling_twice nodes leader task =
    let voters = present nodes leader in
    calling nodes leader voters task (pos 5) 0
    ++ calling nodes leader voters task (pos 7) (told nodes voters 1 + 1)

three_to_seven : (n : ℕ) → 3 ≤ n → n ≤ 7 → Has n (3 ∷ 4 ∷ 5 ∷ 6 ∷ 7 ∷ [])
three_to_seven n least most =
    elim (cases_eq n 3) [
      | inl same ↦ inl same
      | inr more ↦ elim (cases_eq n 4) [
        | inl same ↦ inr (inl same)
        | inr other ↦ elim (cases_eq n 5) [
          | inl same ↦ inr (inr (inl same))
          | inr third ↦ elim (cases_eq n 6) [
            | inl same ↦ inr (inr (inr (inl same)))
            | inr fourth ↦ inr (inr (inr (inr (inl (omega (arith, least, most, more, other, third, fourth))))))
          ]
        ]
      ]
    ]

module _ {S : Type 0} (next : S → Action → S) (replies : S → Action → Reply) (begin : S) where
  abbrev two_answers : ℕ → List Answer
  two_answers task =
      let first : Action = Call task 1 1 (Procedure 1) (pos 5) in
      let second : Action = Call task 2 1 (Procedure 1) (pos 7) in
      answer_of task 1 (replies begin first) ∷ answer_of task 2 (replies (next begin first) second) ∷ []

  -- the world that is led to, if no event is refused
  abbrev last_world : ℕ → ℕ → ℕ → Option World
  last_world nodes leader task =
      played (prompt_nodes nodes 2 next replies begin) (Some (opening_world nodes)) (map Stop (away nodes leader) ++ calling_twice nodes leader task)

  -- what is computed of these nodes and this leader, for each task
  record Plays (nodes leader : ℕ) : Type 0 where
    pub replied : AreSame (λ task. replies_in (last_world nodes leader task) task) (λ task. Some (two_answers task)) (one_to 8)
    pub plain : list_all (λ task. list_all is_plain (calling_twice nodes leader task)) (one_to 8) ≡ true
    pub led : list_all (λ task. list_all (is_led_by leader) (calling_twice nodes leader task)) (one_to 8) ≡ true
    pub bare : length (away nodes leader) + majority_of nodes ≡ nodes
    pub nodes_stop : list_all (in_range 1 7) (away nodes leader) ≡ true

  plays_3 : AllOf (Plays 3) (one_to 3)
  plays_3 = (
    record { replied = refl; plain = refl; led = refl; bare = refl; nodes_stop = refl },
    (
      record { replied = refl; plain = refl; led = refl; bare = refl; nodes_stop = refl },
      (record { replied = refl; plain = refl; led = refl; bare = refl; nodes_stop = refl }, tt),
    ),
  )

  plays_4 : AllOf (Plays 4) (one_to 4)
  plays_4 = (
    record { replied = refl; plain = refl; led = refl; bare = refl; nodes_stop = refl },
    (
      record { replied = refl; plain = refl; led = refl; bare = refl; nodes_stop = refl },
      (
        record { replied = refl; plain = refl; led = refl; bare = refl; nodes_stop = refl },
        (record { replied = refl; plain = refl; led = refl; bare = refl; nodes_stop = refl }, tt),
      ),
    ),
  )

  plays_5 : AllOf (Plays 5) (one_to 5)
  plays_5 = (
    record { replied = refl; plain = refl; led = refl; bare = refl; nodes_stop = refl },
    (
      record { replied = refl; plain = refl; led = refl; bare = refl; nodes_stop = refl },
      (
        record { replied = refl; plain = refl; led = refl; bare = refl; nodes_stop = refl },
        (
          record { replied = refl; plain = refl; led = refl; bare = refl; nodes_stop = refl },
          (record { replied = refl; plain = refl; led = refl; bare = refl; nodes_stop = refl }, tt),
        ),
      ),
    ),
  )

  plays_6 : AllOf (Plays 6) (one_to 6)
  plays_6 = (
    record { replied = refl; plain = refl; led = refl; bare = refl; nodes_stop = refl },
    (
      record { replied = refl; plain = refl; led = refl; bare = refl; nodes_stop = refl },
      (
        record { replied = refl; plain = refl; led = refl; bare = refl; nodes_stop = refl },
        (
          record { replied = refl; plain = refl; led = refl; bare = refl; nodes_stop = refl },
          (
            record { replied = refl; plain = refl; led = refl; bare = refl; nodes_stop = refl },
            (record { replied = refl; plain = refl; led = refl; bare = refl; nodes_stop = refl }, tt),
          ),
        ),
      ),
    ),
  )

  plays_7 : AllOf (Plays 7) (one_to 7)
  plays_7 = (
    record { replied = refl; plain = refl; led = refl; bare = refl; nodes_stop = refl },
    (
      record { replied = refl; plain = refl; led = refl; bare = refl; nodes_stop = refl },
      (
        record { replied = refl; plain = refl; led = refl; bare = refl; nodes_stop = refl },
        (
          record { replied = refl; plain = refl; led = refl; bare = refl; nodes_stop = refl },
          (
            record { replied = refl; plain = refl; led = refl; bare = refl; nodes_stop = refl },
            (
              record { replied = refl; plain = refl; led = refl; bare = refl; nodes_stop = refl },
              (record { replied = refl; plain = refl; led = refl; bare = refl; nodes_stop = refl }, tt),
            ),
          ),
        ),
      ),
    ),
  )

  -- of each count of nodes
  abbrev PlaysWhole : ℕ → Type 0
  PlaysWhole nodes = AllOf (Plays nodes) (one_to nodes)

  plays_so : (nodes leader : ℕ) → 3 ≤ nodes → nodes ≤ 7 → 1 ≤ leader → leader ≤ nodes → Plays nodes leader
  plays_so nodes leader least most low high =
      let whole = each_of PlaysWhole (3 ∷ 4 ∷ 5 ∷ 6 ∷ 7 ∷ []) (plays_3, (plays_4, (plays_5, (plays_6, (plays_7, tt))))) nodes (three_to_seven nodes least most) in
      each_of (Plays nodes) (one_to nodes) whole leader (one_to_has nodes leader low high)

  pub replied_twice : (nodes leader task : ℕ) → 3 ≤ nodes → nodes ≤ 7 → 1 ≤ leader → leader ≤ nodes → IsTask task
      → AreReplied (prompt_nodes nodes 2 next replies begin) leader task (two_answers task)
  replied_twice nodes leader task least most low high is_task =
      let plays = plays_so nodes leader least most low high in
      let here = one_to_has 8 task is_task.0 is_task.1 in
      let s = prompt_nodes nodes 2 next replies begin in
      let voters = present nodes leader in
      let is_node : IsNode leader = (low, omega (arith, high, most)) in
      let events = calling_twice nodes leader task in
      let end = has_replies (last_world nodes leader task) task (two_answers task)
      (same_at (λ t. replies_in (last_world nodes leader t) t) (λ t. Some (two_answers t)) (one_to 8) plays.replied task here) in
      let right = right_on (calling nodes leader voters task (pos 5) 0) (calling nodes leader voters task (pos 7) (told nodes voters 1 + 1))
      (right_calling nodes leader voters task (pos 5) 0 is_node is_task (omega arith)) (right_calling nodes leader voters task (pos 7) (told nodes voters 1 + 1) is_node is_task (omega arith)) in
      record {
        absent = away nodes leader;
        events = events;
        world = end.0;
        bare = plays.bare;
        plain = passed_by (λ t. list_all is_plain (calling_twice nodes leader t)) (one_to 8) plays.plain task here;
        led = passed_by (λ t. list_all (is_led_by leader) (calling_twice nodes leader t)) (one_to 8) plays.led task here;
        reached = record {
          config = record { nodes = (least, most); positions = (omega arith, omega arith) };
          right = each_right (map Stop (away nodes leader) ++ events) (right_on (map Stop (away nodes leader)) events (right_stops (away nodes leader) plays.nodes_stop) right);
          happened = happens s (opening_world nodes) (map Stop (away nodes leader) ++ events) end.0 end.1;
        };
        replied = end.2;
      }
