-- A history in which a node takes over from one that stopped, and a task gets its reply.
use Rattle.std.proofs.Common.{◌≡◌, pos, Some, List, [], ◌∷◌, ◌++◌, inl, inr, refl, sym, subst, arith}
use Rattle.rp_base.specs.declared.action.Action.{Action}
use Rattle.rp_base.specs.declared.action.Operation.TheVariants.{Procedure}
use Rattle.rp_base.specs.declared.reply.Answer.{Answer}
use Rattle.rp_base.specs.declared.reply.Reply.{Reply}
use Rattle.rp_model.specs.Answers.{Happen, IsStopped}
use Rattle.rp_model.specs.Events.{Event, Submit, Again, Makes, Stop, Deliver, Lead}
use Rattle.rp_model.specs.World.{World, opening_world}
use Rattle.rp_agreement.specs.Computed.{order_of}
use Rattle.rp_agreement.specs.Possible.{three_nodes, WaitsFirst, IsRepliedAfterTakeover}
use Rattle.rp_agreement.proofs.Playing.{AllRight, right_on, history_of, history_on, GetsReply, Votes, has_voted, VotesTo, others_decide, first_call, first_answer}
use Rattle.rp_agreement.proofs.PlayedRanges.{other_call}

-- Task 1 calls node 1 and task 2 node 2; node 1 leads, the nodes 1 and 2 promise, and node 2 votes for the first call.
abbrev leading : List Event
leading =
    Submit 1 1 1 (Procedure 1) (pos 5)
    ∷ Makes (Deliver 1)
    ∷ Submit 2 2 1 (Procedure 1) (pos 7)
    ∷ Makes (Deliver 2)
    ∷ Makes (Lead 1 (Some 1))
    ∷ Makes (Deliver 3)
    ∷ Makes (Deliver 4)
    ∷ Makes (Deliver 6)
    ∷ Makes (Deliver 7)
    ∷ Makes (Deliver 9)
    ∷ []

-- Task 1 asks node 2, which leads; the nodes 2 and 3 promise and vote, and node 2 learns.
abbrev taking_over : List Event
taking_over =
    Again 1 2
    ∷ Makes (Deliver 12)
    ∷ Makes (Lead 2 (Some 1))
    ∷ Makes (Deliver 14)
    ∷ Makes (Deliver 15)
    ∷ Makes (Deliver 16)
    ∷ Makes (Deliver 17)
    ∷ Makes (Deliver 19)
    ∷ Makes (Deliver 20)
    ∷ Makes (Deliver 21)
    ∷ Makes (Deliver 22)
    ∷ []

abbrev stopping : List Event
stopping = leading ++ Stop 1 ∷ []

abbrev takeover : List Event
takeover = leading ++ Stop 1 ∷ taking_over

right_leading : AllRight leading
right_leading = (
  ((omega arith, omega arith), (omega arith, omega arith), omega arith, omega arith, omega arith),
  (tt, (((omega arith, omega arith), (omega arith, omega arith), omega arith, omega arith, omega arith), (tt, (((omega arith, omega arith), (omega arith, omega arith)), (tt, (tt, (tt, (tt, (tt, tt))))))))),
)

right_taking_over : AllRight taking_over
right_taking_over = (((omega arith, omega arith), (omega arith, omega arith)), (tt, (((omega arith, omega arith), (omega arith, omega arith)), (tt, (tt, (tt, (tt, (tt, (tt, (tt, (tt, tt)))))))))))

right_stopping : AllRight stopping
right_stopping = right_on leading (Stop 1 ∷ []) right_leading ((omega arith, omega arith), tt)

right_takeover : AllRight takeover
right_takeover = right_on leading (Stop 1 ∷ taking_over) right_leading ((omega arith, omega arith), right_taking_over)

module _ {S : Type 0} (next : S → Action → S) (answers : S → Action → List Answer) (begin : S) where
  stop : (w : World) × Happen (three_nodes 1 next answers begin) (opening_world 3) stopping w × IsStopped w 1 × Votes w.sent 11 2 1 9 first_call × (order_of 3 w.sent ≡ []) × WaitsFirst w 2 other_call
  stop = (
    _,
    (_, refl, (_, refl, (_, refl, (_, refl, (_, refl, (_, refl, (_, refl, (_, refl, (_, refl, (_, refl, (_, refl, refl))))))))))),
    (_, refl, refl),
    refl,
    refl,
    record { part = _; here = refl; running = _; runs = refl; others = []; pending = refl },
  )

  -- the world in which node 2 has applied the call
  take_over : (w : World) × Happen (three_nodes 1 next answers begin) (opening_world 3) takeover w
  take_over = (
    _,
    (_, refl, (_, refl, (_, refl, (_, refl, (_, refl, (_, refl, (_, refl, (_, refl, (_, refl, (_, refl, (_, refl, (_, refl, (_, refl, (_, refl, (_, refl, (_, refl, (_, refl, (_, refl, (_, refl, (_, refl, (_, refl, (_, refl, refl)))))))))))))))))))))),
  )

module _ {S : Type 0} (next : S → Action → S) (answers : S → Action → List Answer) (begin : S) where
  -- the same where these are the answers to the call
  abbrev taken_world : List Answer → World
  taken_world given = (take_over next (λ state action. given) begin).0

  -- what the reply leads to from there
  abbrev Ends : Reply → World → Type 0
  Ends reply w =
      (last : GetsReply (three_nodes 1 next answers begin) w 25 (first_answer reply)) × VotesTo 2 last.transition.world.sent 21 2 1 10 first_call × VotesTo 2 last.transition.world.sent 22 3 1 10 first_call

  ends : (reply : Reply) → answers begin first_call ≡ first_answer reply ∷ [] → Ends reply (taken_world (answers begin first_call))
  unfolding take_over
  ends reply answered =
      subst (λ (given : List Answer). Ends reply (taken_world given)) (sym answered) (record { transition = _; effect = refl; replied = (_, refl, refl) }, refl, refl)

  pub takes_over : (reply : Reply) → answers begin first_call ≡ first_answer reply ∷ [] → IsRepliedAfterTakeover (three_nodes 1 next answers begin) first_call other_call (first_answer reply)
  unfolding take_over
  takes_over reply answered =
      let end = ends reply answered in
      let cut = stop next answers begin in
      record {
        before = leading;
        after = taking_over ++ Makes (Deliver 25) ∷ [];
        stopped = cut.0;
        last = end.0.transition.world;
        stops = history_of 1 (omega arith, omega arith) next answers begin stopping cut.0 right_stopping cut.1;
        is_stopped = cut.2;
        ballot = 9;
        voted = has_voted 1 cut.0.sent 11 2 1 9 first_call cut.3;
        undecided = cut.4;
        waits_first = cut.5;
        history = history_on 1 (omega arith, omega arith) next answers begin takeover 25 (take_over next answers begin).0 (first_answer reply) right_takeover (take_over next answers begin).1 end.0;
        for_good = refl;
        leads = inr (inr (inl refl));
        decided = others_decide end.0.transition.world.sent 21 22 1 10 first_call end.1 end.2;
        replied = end.0.replied;
      }
