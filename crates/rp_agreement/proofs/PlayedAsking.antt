-- A history in which a node asks for a decision that was lost on its way, and applies two calls.
use Rattle.std.proofs.Common.{◌≡◌, Some, Ok, List, [], ◌∷◌, ◌++◌, Bool, map, filter, if◌then◌else◌, refl, sym, ap, subst, ◌∙◌, arith}
use Rattle.std.specs.Prelude.{nat_eq}
use Rattle.std.specs.List.{list_any}
use Rattle.std.proofs.lemmas.List.Elements.{filter-append}
use Rattle.rp_base.specs.Records.{applied_of}
use Rattle.rp_base.specs.declared.action.Action.{Action}
use Rattle.rp_base.specs.declared.action.Action.TheVariants as actions
use Rattle.rp_base.specs.declared.reply.Answer.{Answer}
use Rattle.rp_base.specs.declared.reply.Reply.{Reply}
use Rattle.rp_codec.specs.Message.{Message}
use Rattle.rp_codec.specs.declared.packet.Body.TheVariants.{Ask, Decided, PrepareRange, Reply as Answers}
use Rattle.rp_machine.specs.Replay.{replay_answers}
use Rattle.rp_model.specs.Answers.{Happen}
use Rattle.rp_model.specs.Events.{Event, Makes, Deliver}
use Rattle.rp_model.specs.Parts.{NodePart}
use Rattle.rp_model.specs.Pending.{is_answered_by, replies_to}
use Rattle.rp_model.specs.Says.{says, says_to_all, says_to_task}
use Rattle.rp_model.specs.World.{World, Transition, opening_world, part_at, event_effect}
use Rattle.rp_agreement.specs.Possible.{three_nodes, is_prepare, IsCaughtUp}
use Rattle.rp_agreement.proofs.PartPlaces.{part_has}
use Rattle.rp_agreement.proofs.Playing.{AllRight, right_on, history_of, happen_on, Votes, two_decide, first_call, first_answer}
use Rattle.rp_agreement.proofs.PlayedRanges.{first_two, other_call, both_voted, right_both_voted}

-- the answer to the second call
abbrev pub other_answer : Reply → Answer
other_answer reply = record { task = 2; number = 1; reply = reply }

-- Once both voted for both calls, node 1 learns the second one; node 3 learns it too, and asks for the first position;
-- node 1 learns the first one.
abbrev learning_late : List Event
learning_late = Makes (Deliver 16) ∷ Makes (Deliver 17) ∷ Makes (Deliver 19) ∷ Makes (Deliver 14) ∷ Makes (Deliver 15) ∷ []

abbrev asking : List Event
asking = both_voted ++ learning_late

right_asking : AllRight asking
right_asking = right_on both_voted learning_late right_both_voted (tt, (tt, (tt, (tt, (tt, tt)))))

-- a machine that gives these answers to the calls of task 1, and those to all others
abbrev pub fixed : {S : Type 0} → List Answer → List Answer → S → Action → List Answer
fixed one two state actions.Noop = []
fixed one two state (actions.Call task number object operation arg) = if nat_eq task 1 then one else two
fixed one two state (actions.Interrupt source occurrence) = []
fixed one two state (actions.Tick now) = []

module _ {S : Type 0} (next : S → Action → S) (answers : S → Action → List Answer) (begin : S) where
  -- the world in which node 1 has applied both calls
  ask : (w : World) × Happen (three_nodes 2 next answers begin) (opening_world 3) asking w
  ask = (
    _,
    (_, refl, (_, refl, (_, refl, (_, refl, (_, refl, (_, refl, (_, refl, (_, refl, (_, refl, (_, refl, (_, refl, (_, refl, (_, refl, (_, refl, (_, refl, (_, refl, (_, refl, (_, refl, (_, refl, (_, refl, refl)))))))))))))))))))),
  )

module _ {S : Type 0} (next : S → Action → S) (answers : S → Action → List Answer) (begin : S) where
  -- the same where these are the answers to the calls
  abbrev asked_world : List Answer → List Answer → World
  asked_world one two = (ask next (fixed one two) begin).0

  -- the packet asks for promises
  abbrev asks_promises : Message → Bool
  asks_promises m = is_prepare m.body

  -- replies ask for none
  silent : (pending : List Action) (given : List Answer) → filter asks_promises (replies_to 3 pending given ++ []) ≡ []
  silent pending given = none (filter (λ answer. list_any (is_answered_by answer) pending) given)
    where
      none : (said : List Answer) → filter asks_promises (map (λ answer. says_to_task 3 (Answers answer.number answer.reply) answer.task) said ++ []) ≡ []
      none [] = refl
      none (answer ∷ rest) = none rest

  -- the packets that asked for promises, where no further one does
  no_further : (known further asked : List Message) → filter asks_promises known ≡ asked → filter asks_promises further ≡ [] → filter asks_promises (known ++ further) ≡ asked ++ []
  no_further known further asked one other =
      filter-append asks_promises known further ∙ ap (λ (ms : List Message). ms ++ filter asks_promises further) one ∙ ap (λ (ms : List Message). asked ++ ms) other

  -- the question of node 1 for promises
  abbrev asked_all : List Message
  asked_all = says_to_all 3 1 (PrepareRange first_two 9)

  -- what the question leads to from there
  record Told (w : World) : Type 0 where
    pub world : World
    pub happened : Happen (three_nodes 2 next answers begin) w (Makes (Deliver 20) ∷ []) world
    pub prepares : filter asks_promises world.sent ≡ asked_all

  -- and what the answer leads to
  record Ends (w : World) : Type 0 where
    pub told : Told w
    pub transition : Transition
    pub effect : event_effect (three_nodes 2 next answers begin) told.world (Makes (Deliver 25)) ≡ Ok transition
    pub one : Votes transition.world.sent 14 1 1 9 first_call
    pub two : Votes transition.world.sent 15 2 1 9 first_call
    pub other_one : Votes transition.world.sent 16 1 2 9 other_call
    pub other_two : Votes transition.world.sent 17 2 2 9 other_call
    pub missed : part_at transition.world.sent 22 ≡ Some (says 1 (Decided 1 first_call) 3)
    pub asks : part_at transition.world.sent 20 ≡ Some (says 3 (Ask 1) 1)
    pub prepares : filter asks_promises transition.world.sent ≡ asked_all
    pub part : NodePart
    pub here : part_at transition.world.nodes 3 ≡ Some part
    pub applied : applied_of part.records ≡ first_call ∷ other_call ∷ []

  told_so : (reply second : Reply) → Told (asked_world (first_answer reply ∷ []) (other_answer second ∷ []))
  unfolding ask
  told_so reply second = record { world = _; happened = (_, refl, refl); prepares = refl }

  ends_so : (reply second : Reply) → Ends (asked_world (first_answer reply ∷ []) (other_answer second ∷ []))
  unfolding ask told_so
  ends_so reply second =
      let given = replay_answers next answers begin (first_call ∷ other_call ∷ []) in
      record {
        told = told_so reply second;
        transition = _;
        effect = refl;
        one = refl;
        two = refl;
        other_one = refl;
        other_two = refl;
        missed = refl;
        asks = refl;
        prepares = no_further (told_so reply second).world.sent (replies_to 3 [] given ++ []) asked_all refl (silent [] given);
        part = _;
        here = refl;
        applied = refl;
      }

  ends : (reply second : Reply) → answers begin first_call ≡ first_answer reply ∷ [] → answers (next begin first_call) other_call ≡ other_answer second ∷ []
      → Ends (asked_world (answers begin first_call) (answers (next begin first_call) other_call))
  ends reply second answered other =
      subst (λ (given : List Answer). Ends (asked_world given (answers (next begin first_call) other_call))) (sym answered)
      (subst (λ (given : List Answer). Ends (asked_world (first_answer reply ∷ []) given)) (sym other) (ends_so reply second))

  pub catches_up : (reply second : Reply) → answers begin first_call ≡ first_answer reply ∷ [] → answers (next begin first_call) other_call ≡ other_answer second ∷ []
      → IsCaughtUp (three_nodes 2 next answers begin) first_call other_call
  unfolding ask
  catches_up reply second answered other =
      let s = three_nodes 2 next answers begin in
      let end = ends reply second answered other in
      let world = end.transition.world in
      let first = happen_on s asking (Makes (Deliver 20) ∷ []) (opening_world 3) (ask next answers begin).0 end.told.world (ask next answers begin).1 end.told.happened in
      record {
        events = (asking ++ Makes (Deliver 20) ∷ []) ++ Makes (Deliver 25) ∷ [];
        world = world;
        history = history_of 2 (omega arith, omega arith) next answers begin ((asking ++ Makes (Deliver 20) ∷ []) ++ Makes (Deliver 25) ∷ []) world
            (right_on (asking ++ Makes (Deliver 20) ∷ []) (Makes (Deliver 25) ∷ []) (right_on asking (Makes (Deliver 20) ∷ []) right_asking (tt, tt)) (tt, tt))
            (happen_on s (asking ++ Makes (Deliver 20) ∷ []) (Makes (Deliver 25) ∷ []) (opening_world 3) end.told.world world first (end.transition, end.effect, refl));
        decided = two_decide world.sent 14 15 1 9 first_call end.one end.two;
        other_decided = two_decide world.sent 16 17 2 9 other_call end.other_one end.other_two;
        range = first_two;
        ballot = 9;
        number = 22;
        missed = end.missed;
        lost = refl;
        asks = part_has world.sent 20 (says 3 (Ask 1) 1) end.asks;
        prepares = end.prepares;
        part = end.part;
        here = end.here;
        applied = end.applied;
      }
