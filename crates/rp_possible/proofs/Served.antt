-- A call that waits until another task's takes effect, for each two tasks and each of three nodes, by computing the
-- result of each event.
use Rattle.std.proofs.Common.{◌≡◌, ◌≢◌, ℕ, zero, suc, ◌+◌, pos, true, Option, Some, List, [], ◌∷◌, ◌++◌, refl, sym, ap, subst, ◌∙◌, arith}
use Rattle.std.specs.Prelude.{filter, nat_eq, not, unwrap_or}
use Rattle.std.specs.List.{list_all}
use Rattle.std.proofs.lemmas.Bool.{ne_eqb, not_from_false}
use Rattle.rp_base.proofs.Members.{passes}
use Rattle.rp_base.specs.Config.{IsRightConfig}
use Rattle.rp_base.specs.Number.{IsNode, IsTask, IsUpTo}
use Rattle.rp_base.specs.declared.action.Action.{Action}
use Rattle.rp_base.specs.declared.action.Action.TheVariants.{Call}
use Rattle.rp_base.specs.declared.action.Operation.TheVariants.{Procedure}
use Rattle.rp_base.specs.declared.reply.Answer.{Answer}
use Rattle.rp_base.specs.declared.reply.Reply.{Reply}
use Rattle.rp_model.specs.rp_machine.specs.Replay.{one_to}
use Rattle.rp_model.specs.Events.{Event, Submit, Makes, Deliver}
use Rattle.rp_model.specs.World.{World, opening_world}
use Rattle.rp_possible.specs.Possible.{IsServedLater, HasReplies, answer_of, late_nodes, is_plain, is_led_by}
use Rattle.rp_possible.proofs.Calling.{present, deciding, right_deciding}
use Rattle.rp_possible.proofs.Cases.{AllOf, each_of, AreSame, same_at, passed_by, one_to_has}
use Rattle.rp_possible.proofs.Playing.{played, happens, replies_in, has_replies, applied_in, has_applied, AllRight, each_right, right_on}

-- one task calls node 1, which leads; the call takes effect there, and no reply is sent
abbrev waiting : ℕ → List Event
waiting task = Submit task 1 1 (Procedure 1) (pos 5) ∷ Makes (Deliver 1) ∷ deciding 3 1 (present 3 1) 1

-- a node that is not node 1 hears of it: the nodes 2 and 3 are told by the packets 12 and 13
abbrev hearing : ℕ → List Event
hearing zero = []
hearing (suc zero) = []
hearing (suc (suc n)) = Makes (Deliver (12 + n)) ∷ []

-- the replies are delivered, and before that to node 1, if it did not lead, what was decided
abbrev replying : ℕ → List Event
replying zero = []
replying (suc zero) = Makes (Deliver 27) ∷ Makes (Deliver 28) ∷ []
replying (suc (suc n)) = Makes (Deliver 25) ∷ Makes (Deliver 27) ∷ Makes (Deliver 28) ∷ []

-- the other task calls this node, which leads
abbrev serving : ℕ → ℕ → List Event
serving task leader =
    Submit task leader 1 (Procedure 1) (pos 7)
    ∷ Makes (Deliver 14)
    ∷ (deciding 3 leader (present 3 leader) 14 ++ replying leader)

abbrev serving_after : ℕ → ℕ → List Event
serving_after task leader = hearing leader ++ serving task leader

right_hearing : (leader : ℕ) → AllRight (hearing leader)
right_hearing zero = tt
right_hearing (suc zero) = tt
right_hearing (suc (suc n)) = (tt, tt)

right_replying : (leader : ℕ) → AllRight (replying leader)
right_replying zero = tt
right_replying (suc zero) = (tt, (tt, tt))
right_replying (suc (suc n)) = (tt, (tt, (tt, tt)))

right_waiting : (task : ℕ) → IsTask task → AllRight (waiting task)
right_waiting task is_task = ((is_task, (omega arith, omega arith), omega arith, omega arith, omega arith), (tt, right_deciding 3 1 (present 3 1) 1 (omega arith, omega arith)))

right_serving : (task leader : ℕ) → IsTask task → IsNode leader → AllRight (serving_after task leader)
right_serving task leader is_task is_node =
    let rest = right_on (deciding 3 leader (present 3 leader) 14) (replying leader) (right_deciding 3 leader (present 3 leader) 14 is_node) (right_replying leader) in
    right_on (hearing leader) (serving task leader) (right_hearing leader) ((is_task, is_node, omega arith, omega arith, omega arith), (tt, rest))

same_end : {o : Option World} {w v : World} → o ≡ Some w → o ≡ Some v → w ≡ v
same_end {o} {w} {v} one other = ap (λ (x : Option World). unwrap_or x w) (sym one ∙ other)

module _ {S : Type 0} (next : S → Action → S) (replies late : S → Action → Reply) (begin : S) where
  abbrev first_call : ℕ → Action
  first_call waits = Call waits 1 1 (Procedure 1) (pos 5)

  abbrev second_call : ℕ → Action
  second_call serves = Call serves 1 1 (Procedure 1) (pos 7)

  abbrev late_answer : ℕ → ℕ → Answer
  late_answer waits serves = answer_of waits 1 (late (next begin (first_call waits)) (second_call serves))

  abbrev other_answer : ℕ → ℕ → Answer
  other_answer waits serves = answer_of serves 1 (replies (next begin (first_call waits)) (second_call serves))

  abbrev middle_world : ℕ → Option World
  middle_world waits = played (late_nodes waits next replies late begin) (Some (opening_world 3)) (waiting waits)

  abbrev last_world : ℕ → ℕ → ℕ → Option World
  last_world leader waits serves = played (late_nodes waits next replies late begin) (Some (opening_world 3)) (waiting waits ++ serving_after serves leader)

  -- the other tasks
  abbrev others : ℕ → List ℕ
  others waits = filter (λ k. not (nat_eq k waits)) (one_to 8)

  -- what is computed of this node and this task that waits, for each other task
  record Plays (leader waits : ℕ) : Type 0 where
    pub applied : applied_in (middle_world waits) 1 ≡ Some (first_call waits ∷ [])
    pub plain : list_all (λ serves. list_all is_plain (waiting waits ++ serving_after serves leader)) (others waits) ≡ true
    pub led : list_all (λ serves. list_all (is_led_by leader) (serving_after serves leader)) (others waits) ≡ true
    pub late_replied : AreSame (λ serves. replies_in (last_world leader waits serves) waits) (λ serves. Some (late_answer waits serves ∷ [])) (others waits)
    pub replied : AreSame (λ serves. replies_in (last_world leader waits serves) serves) (λ serves. Some (other_answer waits serves ∷ [])) (others waits)

  abbrev EachTask : ℕ → Type 0
  EachTask leader = AllOf (Plays leader) (one_to 8)

  plays_1 : EachTask 1
  plays_1 = (
    record { applied = refl; plain = refl; led = refl; late_replied = refl; replied = refl },
    (
      record { applied = refl; plain = refl; led = refl; late_replied = refl; replied = refl },
      (
        record { applied = refl; plain = refl; led = refl; late_replied = refl; replied = refl },
        (
          record { applied = refl; plain = refl; led = refl; late_replied = refl; replied = refl },
          (
            record { applied = refl; plain = refl; led = refl; late_replied = refl; replied = refl },
            (
              record { applied = refl; plain = refl; led = refl; late_replied = refl; replied = refl },
              (
                record { applied = refl; plain = refl; led = refl; late_replied = refl; replied = refl },
                (record { applied = refl; plain = refl; led = refl; late_replied = refl; replied = refl }, tt),
              ),
            ),
          ),
        ),
      ),
    ),
  )

  plays_2 : EachTask 2
  plays_2 = (
    record { applied = refl; plain = refl; led = refl; late_replied = refl; replied = refl },
    (
      record { applied = refl; plain = refl; led = refl; late_replied = refl; replied = refl },
      (
        record { applied = refl; plain = refl; led = refl; late_replied = refl; replied = refl },
        (
          record { applied = refl; plain = refl; led = refl; late_replied = refl; replied = refl },
          (
            record { applied = refl; plain = refl; led = refl; late_replied = refl; replied = refl },
            (
              record { applied = refl; plain = refl; led = refl; late_replied = refl; replied = refl },
              (
                record { applied = refl; plain = refl; led = refl; late_replied = refl; replied = refl },
                (record { applied = refl; plain = refl; led = refl; late_replied = refl; replied = refl }, tt),
              ),
            ),
          ),
        ),
      ),
    ),
  )

  plays_3 : EachTask 3
  plays_3 = (
    record { applied = refl; plain = refl; led = refl; late_replied = refl; replied = refl },
    (
      record { applied = refl; plain = refl; led = refl; late_replied = refl; replied = refl },
      (
        record { applied = refl; plain = refl; led = refl; late_replied = refl; replied = refl },
        (
          record { applied = refl; plain = refl; led = refl; late_replied = refl; replied = refl },
          (
            record { applied = refl; plain = refl; led = refl; late_replied = refl; replied = refl },
            (
              record { applied = refl; plain = refl; led = refl; late_replied = refl; replied = refl },
              (
                record { applied = refl; plain = refl; led = refl; late_replied = refl; replied = refl },
                (record { applied = refl; plain = refl; led = refl; late_replied = refl; replied = refl }, tt),
              ),
            ),
          ),
        ),
      ),
    ),
  )

  pub served_later : (waits serves leader : ℕ) → IsTask waits → IsTask serves → waits ≢ serves → IsUpTo 3 leader
      → IsServedLater (late_nodes waits next replies late begin) leader (first_call waits) (late_answer waits serves) (other_answer waits serves)
  served_later waits serves leader first second differ is_leader =
      let each_task = each_of EachTask (one_to 3) (plays_1, (plays_2, (plays_3, tt))) leader (one_to_has 3 leader is_leader.0 is_leader.1) in
      let plays = each_of (Plays leader) (one_to 8) each_task waits (one_to_has 8 waits first.0 first.1) in
      let here = passes (λ k. not (nat_eq k waits)) serves (one_to 8) (one_to_has 8 serves second.0 second.1) (not_from_false _ (ne_eqb serves waits (λ same. differ (sym same)))) in
      let s = late_nodes waits next replies late begin in
      let middle = has_applied (middle_world waits) 1 (first_call waits ∷ []) plays.applied in
      let end = has_replies (last_world leader waits serves) serves (other_answer waits serves ∷ [])
      (same_at (λ t. replies_in (last_world leader waits t) t) (λ t. Some (other_answer waits t ∷ [])) (others waits) plays.replied serves here) in
      let late_end = has_replies (last_world leader waits serves) waits (late_answer waits serves ∷ [])
      (same_at (λ t. replies_in (last_world leader waits t) waits) (λ t. Some (late_answer waits t ∷ [])) (others waits) plays.late_replied serves here) in
      let config : IsRightConfig s.config = record { nodes = (omega arith, omega arith); positions = (omega arith, omega arith) } in
      let after = serving_after serves leader in
      record {
        before = waiting waits;
        after = after;
        middle = middle.0;
        world = end.0;
        first = record {
          config = config;
          right = each_right (waiting waits) (right_waiting waits first);
          happened = happens s (opening_world 3) (waiting waits) middle.0 middle.1;
        };
        waiting = middle.2;
        plain = passed_by (λ t. list_all is_plain (waiting waits ++ serving_after t leader)) (others waits) plays.plain serves here;
        led = passed_by (λ t. list_all (is_led_by leader) (serving_after t leader)) (others waits) plays.led serves here;
        reached = record {
          config = config;
          right = each_right (waiting waits ++ after) (right_on (waiting waits) after (right_waiting waits first) (right_serving serves leader second (is_leader.0, omega (arith, is_leader.1))));
          happened = happens s (opening_world 3) (waiting waits ++ after) end.0 end.1;
        };
        replied = subst (λ (w : World). HasReplies w waits (late_answer waits serves ∷ [])) (same_end late_end.1 end.1) late_end.2;
        other_replied = end.2;
      }
