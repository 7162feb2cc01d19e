-- A history in which a node stops within a step, starts again, and a task gets its reply.
use Rattle.std.proofs.Common.{◌≡◌, Some, IsSome, List, [], ◌∷◌, ◌++◌, refl, sym, subst, arith}
use Rattle.rp_base.specs.declared.action.Action.{Action}
use Rattle.rp_base.specs.declared.reply.Answer.{Answer}
use Rattle.rp_base.specs.declared.reply.Reply.{Reply}
use Rattle.rp_codec.specs.Text.{number_text}
use Rattle.rp_model.specs.Answers.{Happen, IsStopped}
use Rattle.rp_model.specs.Events.{Event, Makes, Again, Cut, Restart, Deliver, Lead}
use Rattle.rp_model.specs.World.{World, opening_world, step_writes}
use Rattle.rp_agreement.specs.Computed.{order_of}
use Rattle.rp_agreement.specs.Possible.{three_nodes, FirstRuns, IsRepliedAfterRestart}
use Rattle.rp_agreement.proofs.Playing.{AllRight, calling, deciding, learning, right_on, right_calling, right_deciding, right_learning, history_of, history_on, GetsReply, Votes, two_decide, first_call, first_answer}

-- node 1 stops where 3 bytes of the record are kept by which it leads
abbrev stopping : List Event
stopping = calling ++ Cut (Lead 1 (Some 1)) 3 ∷ []

-- task 1 asks again, and node 1 leads and learns
abbrev going_on : List Event
going_on = Again 1 1 ∷ Makes (Deliver 2) ∷ (deciding 2 ++ learning 2)

abbrev restarting : List Event
restarting = calling ++ Cut (Lead 1 (Some 1)) 3 ∷ Restart 1 ∷ going_on

right_stopping : AllRight stopping
right_stopping = right_on calling (Cut (Lead 1 (Some 1)) 3 ∷ []) right_calling ((((omega arith, omega arith), (omega arith, omega arith)), omega arith), tt)

right_restarting : AllRight restarting
right_restarting =
    right_on stopping (Restart 1 ∷ going_on) right_stopping
    ((omega arith, omega arith), (((omega arith, omega arith), (omega arith, omega arith)), (tt, right_on (deciding 2) (learning 2) (right_deciding 2) (right_learning 2))))

module _ {S : Type 0} (next : S → Action → S) (answers : S → Action → List Answer) (begin : S) where
  call : (w : World) × Happen (three_nodes 1 next answers begin) (opening_world 3) calling w × IsSome (step_writes (three_nodes 1 next answers begin) w (Lead 1 (Some 1)))
  call = (_, (_, refl, (_, refl, refl)), refl)

  stop : (w : World) × Happen (three_nodes 1 next answers begin) (opening_world 3) stopping w × IsStopped w 1 × (order_of 3 w.sent ≡ [])
  unfolding number_text
  stop = (_, (_, refl, (_, refl, (_, refl, refl))), (_, refl, refl), refl)

  -- the world in which node 1 has started again and applied the call
  restart : (w : World) × Happen (three_nodes 1 next answers begin) (opening_world 3) restarting w
  unfolding number_text
  restart = (
    _,
    (_, refl, (_, refl, (_, refl, (_, refl, (_, refl, (_, refl, (_, refl, (_, refl, (_, refl, (_, refl, (_, refl, (_, refl, (_, refl, (_, refl, (_, refl, refl))))))))))))))),
  )

module _ {S : Type 0} (next : S → Action → S) (answers : S → Action → List Answer) (begin : S) where
  -- the same where these are the answers to the call
  abbrev restarted_world : List Answer → World
  restarted_world given = (restart next (λ state action. given) begin).0

  -- what the reply leads to from there
  abbrev Ends : Reply → World → Type 0
  Ends reply w =
      (last : GetsReply (three_nodes 1 next answers begin) w 15 (first_answer reply)) × Votes last.transition.world.sent 11 1 1 9 first_call × Votes last.transition.world.sent 12 2 1 9 first_call
      × FirstRuns last.transition.world

  ends : (reply : Reply) → answers begin first_call ≡ first_answer reply ∷ [] → Ends reply (restarted_world (answers begin first_call))
  unfolding restart number_text
  ends reply answered =
      subst (λ (given : List Answer). Ends reply (restarted_world given)) (sym answered) (record { transition = _; effect = refl; replied = (_, refl, refl) }, refl, refl, (_, refl, refl))

  pub restarts : (reply : Reply) → answers begin first_call ≡ first_answer reply ∷ [] → IsRepliedAfterRestart (three_nodes 1 next answers begin) first_call (first_answer reply)
  unfolding restart number_text
  restarts reply answered =
      let end = ends reply answered in
      let called = call next answers begin in
      let cut = stop next answers begin in
      record {
        before = calling;
        step = Lead 1 (Some 1);
        kept = 3;
        after = going_on ++ Makes (Deliver 15) ∷ [];
        first = called.0;
        stopped = cut.0;
        last = end.0.transition.world;
        begins = history_of 1 (omega arith, omega arith) next answers begin calling called.0 right_calling called.1;
        writes = called.2;
        stops = history_of 1 (omega arith, omega arith) next answers begin stopping cut.0 right_stopping cut.1;
        is_stopped = cut.2;
        undecided = cut.3;
        history = history_on 1 (omega arith, omega arith) next answers begin restarting 15 (restart next answers begin).0 (first_answer reply) right_restarting (restart next answers begin).1 end.0;
        runs = end.3;
        decided = two_decide end.0.transition.world.sent 11 12 1 9 first_call end.1 end.2;
        replied = end.0.replied;
      }
