-- A history in which a node leads a range, two calls are decided there, and a task gets its reply.
use Rattle.std.proofs.Common.{◌≡◌, pos, Some, List, [], ◌∷◌, ◌++◌, filter, inl, inr, refl, sym, subst, arith}
use Rattle.rp_base.specs.Ranges.{Range}
use Rattle.rp_base.specs.declared.action.Action.{Action}
use Rattle.rp_base.specs.declared.action.Action.TheVariants.{Call}
use Rattle.rp_base.specs.declared.action.Operation.TheVariants.{Procedure}
use Rattle.rp_base.specs.declared.reply.Answer.{Answer}
use Rattle.rp_base.specs.declared.reply.Reply.{Reply}
use Rattle.rp_codec.specs.declared.packet.Body.TheVariants.{PrepareRange}
use Rattle.rp_model.specs.Answers.{Happen}
use Rattle.rp_model.specs.Events.{Event, Submit, Makes, Deliver, Lead, LeadRange}
use Rattle.rp_model.specs.Says.{says_to_all}
use Rattle.rp_model.specs.World.{World, opening_world}
use Rattle.rp_agreement.specs.Possible.{three_nodes, is_prepare, IsRepliedInRange}
use Rattle.rp_agreement.proofs.Playing.{AllRight, right_on, history_on, GetsReply, Votes, two_decide, first_call, first_answer}

abbrev pub first_two : Range
first_two = record { first = 1; count = 2 }

abbrev pub other_call : Action
other_call = Call 2 1 1 (Procedure 1) (pos 7)

-- The tasks 1 and 2 call node 1, which leads both positions; the nodes 1 and 2 promise both at once, node 1 offers a
-- call at each, and both vote for both.
abbrev pub both_voted : List Event
both_voted =
    Submit 1 1 1 (Procedure 1) (pos 5)
    ∷ Submit 2 1 1 (Procedure 1) (pos 7)
    ∷ Makes (Deliver 1)
    ∷ Makes (Deliver 2)
    ∷ Makes (LeadRange 1 1 2)
    ∷ Makes (Deliver 3)
    ∷ Makes (Deliver 4)
    ∷ Makes (Deliver 6)
    ∷ Makes (Deliver 7)
    ∷ Makes (Lead 1 (Some 1))
    ∷ Makes (Lead 1 (Some 2))
    ∷ Makes (Deliver 8)
    ∷ Makes (Deliver 9)
    ∷ Makes (Deliver 11)
    ∷ Makes (Deliver 12)
    ∷ []

pub right_both_voted : AllRight both_voted
right_both_voted = (
  ((omega arith, omega arith), (omega arith, omega arith), omega arith, omega arith, omega arith),
  (
    ((omega arith, omega arith), (omega arith, omega arith), omega arith, omega arith, omega arith),
    (
      tt,
      (
        tt,
        (
          ((omega arith, omega arith), (omega arith, omega arith), omega arith),
          (
            tt,
            (
              tt,
              (
                tt,
                (tt, (((omega arith, omega arith), (omega arith, omega arith)), (((omega arith, omega arith), (omega arith, omega arith)), (tt, (tt, (tt, (tt, tt))))))),
              ),
            ),
          ),
        ),
      ),
    ),
  ),
)

-- node 1 hears the votes at the first position, and learns and applies the call
abbrev ranging : List Event
ranging = both_voted ++ Makes (Deliver 14) ∷ Makes (Deliver 15) ∷ []

right_ranging : AllRight ranging
right_ranging = right_on both_voted (Makes (Deliver 14) ∷ Makes (Deliver 15) ∷ []) right_both_voted (tt, (tt, tt))

module _ {S : Type 0} (next : S → Action → S) (answers : S → Action → List Answer) (begin : S) where
  -- the world in which node 1 has applied the first call
  lead : (w : World) × Happen (three_nodes 2 next answers begin) (opening_world 3) ranging w
  lead = (
    _,
    (_, refl, (_, refl, (_, refl, (_, refl, (_, refl, (_, refl, (_, refl, (_, refl, (_, refl, (_, refl, (_, refl, (_, refl, (_, refl, (_, refl, (_, refl, (_, refl, (_, refl, refl))))))))))))))))),
  )

module _ {S : Type 0} (next : S → Action → S) (answers : S → Action → List Answer) (begin : S) where
  -- the same where these are the answers to the call
  abbrev led_world : List Answer → World
  led_world given = (lead next (λ state action. given) begin).0

  -- what the reply leads to from there
  abbrev Ends : Reply → World → Type 0
  Ends reply w =
      (last : GetsReply (three_nodes 2 next answers begin) w 20 (first_answer reply))
      × (filter (λ m. is_prepare m.body) last.transition.world.sent ≡ says_to_all 3 1 (PrepareRange first_two 9))
      × Votes last.transition.world.sent 14 1 1 9 first_call × Votes last.transition.world.sent 15 2 1 9 first_call
      × Votes last.transition.world.sent 16 1 2 9 other_call × Votes last.transition.world.sent 17 2 2 9 other_call

  ends : (reply : Reply) → answers begin first_call ≡ first_answer reply ∷ [] → Ends reply (led_world (answers begin first_call))
  unfolding lead
  ends reply answered =
      subst (λ (given : List Answer). Ends reply (led_world given)) (sym answered) (record { transition = _; effect = refl; replied = (_, refl, refl) }, refl, refl, refl, refl, refl)

  pub leads_a_range : (reply : Reply) → answers begin first_call ≡ first_answer reply ∷ [] → IsRepliedInRange (three_nodes 2 next answers begin) first_two first_call other_call (first_answer reply)
  unfolding lead
  leads_a_range reply answered =
      let end = ends reply answered in
      record {
        events = ranging ++ Makes (Deliver 20) ∷ [];
        world = end.0.transition.world;
        history = history_on 2 (omega arith, omega arith) next answers begin ranging 20 (lead next answers begin).0 (first_answer reply) right_ranging (lead next answers begin).1 end.0;
        leads = inr (inr (inr (inr (inl refl))));
        ballot = 9;
        prepares = end.1;
        decided = two_decide end.0.transition.world.sent 14 15 1 9 first_call end.2 end.3;
        other_decided = two_decide end.0.transition.world.sent 16 17 2 9 other_call end.4 end.5;
        replied = end.0.replied;
      }
