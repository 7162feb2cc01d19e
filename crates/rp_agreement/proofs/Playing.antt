-- Histories in which something happens, by computing the result of each event: what they share, and those in which a
-- call is decided and its task gets the reply.
use Rattle.std.proofs.Common.{◌≡◌, ℕ, ◌+◌, ◌<◌, ◌≤◌, pos, Ok, Some, List, [], ◌∷◌, ◌++◌, inl, inr, refl, sym, subst, arith}
use Rattle.std.specs.Prelude.{◌^◌}
use Rattle.rp_base.specs.Sets.{Has}
use Rattle.rp_base.specs.declared.action.Action.{Action}
use Rattle.rp_base.specs.declared.action.Action.TheVariants.{Call}
use Rattle.rp_base.specs.declared.action.Operation.TheVariants.{Procedure}
use Rattle.rp_base.specs.declared.reply.Answer.{Answer}
use Rattle.rp_base.specs.declared.reply.Reply.{Reply}
use Rattle.rp_codec.specs.Message.{Message}
use Rattle.rp_codec.specs.declared.packet.Body.TheVariants.{Accepted}
use Rattle.rp_codec.specs.declared.packet.Party.TheVariants.{Node}
use Rattle.rp_model.specs.Answers.{Happen}
use Rattle.rp_model.specs.Events.{Event, IsRightEvent, Submit, Makes, Deliver, Lead}
use Rattle.rp_model.specs.Facts.{HasVoted, IsDecided}
use Rattle.rp_model.specs.Effect.{Setting}
use Rattle.rp_model.specs.World.{World, Transition, opening_world, part_at, event_effect}
use Rattle.rp_agreement.specs.History.{IsHistory}
use Rattle.rp_agreement.specs.Possible.{HasOnlyReply, IsReplied, three_nodes}
use Rattle.rp_agreement.proofs.PartPlaces.{part_has}

-- ---- events

-- task 1 calls node 1
abbrev pub calling : List Event
calling = Submit 1 1 1 (Procedure 1) (pos 5) ∷ Makes (Deliver 1) ∷ []

-- node 1 leads, and the nodes 1 and 2 promise and vote, where so many packets were sent before
abbrev pub deciding : ℕ → List Event
deciding sent =
    Makes (Lead 1 (Some 1))
    ∷ Makes (Deliver (sent + 1))
    ∷ Makes (Deliver (sent + 2))
    ∷ Makes (Deliver (sent + 4))
    ∷ Makes (Deliver (sent + 5))
    ∷ Makes (Deliver (sent + 6))
    ∷ Makes (Deliver (sent + 7))
    ∷ []

-- node 1 hears both votes, learns the action and applies it
abbrev pub learning : ℕ → List Event
learning sent = Makes (Deliver (sent + 9)) ∷ Makes (Deliver (sent + 10)) ∷ []

-- each of some events that are all right is right
abbrev pub AllRight : List Event → Type 0
AllRight [] = Unit {0}
AllRight (event ∷ rest) = IsRightEvent event × AllRight rest

each_right : (events : List Event) → AllRight events → (event : Event) → Has event events → IsRightEvent event
each_right [] all event there = absurd there
each_right (first ∷ rest) all event there = elim there [ inl same ↦ subst IsRightEvent (sym same) all.0 | inr later ↦ each_right rest all.1 event later ]

pub right_on : (events more : List Event) → AllRight events → AllRight more → AllRight (events ++ more)
right_on [] more all on = on
right_on (event ∷ rest) more all on = (all.0, right_on rest more all.1 on)

pub right_calling : AllRight calling
right_calling = (((omega arith, omega arith), (omega arith, omega arith), omega arith, omega arith, omega arith), (tt, tt))

pub right_deciding : (sent : ℕ) → AllRight (deciding sent)
right_deciding sent = (((omega arith, omega arith), (omega arith, omega arith)), (tt, (tt, (tt, (tt, (tt, (tt, tt)))))))

pub right_learning : (sent : ℕ) → AllRight (learning sent)
right_learning sent = (tt, (tt, tt))

-- ---- what is decided

-- the packet of this number is a vote of the node, to the other
abbrev pub VotesTo : ℕ → List Message → ℕ → ℕ → ℕ → ℕ → Action → Type 0
VotesTo to sent number a i b v = part_at sent number ≡ Some (record { from = Node a; to = Node to; body = Accepted i b v })

pub has_voted : (to : ℕ) (sent : List Message) (number a i b : ℕ) (v : Action) → VotesTo to sent number a i b v → HasVoted sent a i b v
has_voted to sent number a i b v there = (to, part_has sent number (record { from = Node a; to = Node to; body = Accepted i b v }) there)

-- of three nodes two decide
decide : (to a c : ℕ) → (1 ≤ a) × (a ≤ 3) → (1 ≤ c) × (c ≤ 3) → ¬ (a ≡ c)
    → (sent : List Message) (one two i b : ℕ) (v : Action) → VotesTo to sent one a i b v → VotesTo to sent two c i b v → IsDecided 3 sent i v
decide to a c first_in second_in apart sent one two i b v first second = record {
  ballot = b;
  voters = a ∷ c ∷ [];
  members = record {
    members = λ x has. elim has [
      | inl is ↦ (omega (arith, is, first_in), omega (arith, is, first_in))
      | inr rest ↦ elim rest [ inl is ↦ (omega (arith, is, second_in), omega (arith, is, second_in)) | inr none ↦ absurd none ]
    ];
    distinct = (λ has. elim has [ inl is ↦ apart is | inr none ↦ none ], (λ none. none, tt));
  };
  majority = omega arith;
  voted = λ x has.
      elim has [
        | inl is ↦ subst (λ (y : ℕ). HasVoted sent y i b v) (sym is) (has_voted to sent one a i b v first)
        | inr rest ↦ elim rest [ inl is ↦ subst (λ (y : ℕ). HasVoted sent y i b v) (sym is) (has_voted to sent two c i b v second) | inr none ↦ absurd none ]
      ];
}

-- the nodes 1 and 2, asked by node 1
abbrev pub Votes : List Message → ℕ → ℕ → ℕ → ℕ → Action → Type 0
Votes = VotesTo 1

pub two_decide : (sent : List Message) (one two i b : ℕ) (v : Action) → Votes sent one 1 i b v → Votes sent two 2 i b v → IsDecided 3 sent i v
two_decide = decide 1 1 2 (omega arith, omega arith) (omega arith, omega arith) (λ is. omega (arith, is))

-- the nodes 2 and 3, asked by node 2
pub others_decide : (sent : List Message) (one two i b : ℕ) (v : Action) → VotesTo 2 sent one 2 i b v → VotesTo 2 sent two 3 i b v → IsDecided 3 sent i v
others_decide = decide 2 2 3 (omega arith, omega arith) (omega arith, omega arith) (λ is. omega (arith, is))

-- ---- histories

-- events happen after others
pub happen_on : {S : Type 0} (s : Setting S) (events more : List Event) (before middle after : World) → Happen s before events middle → Happen s middle more after → Happen s before (events ++ more) after
happen_on s [] more before middle after happened on = subst (λ (w : World). Happen s w more after) happened on
happen_on s (event ∷ rest) more before middle after happened on = (happened.0, happened.1, happen_on s rest more happened.0.world middle after happened.2 on)

-- what the delivery of a reply leads to
pub record GetsReply {S : Type 0} (s : Setting S) (w : World) (number : ℕ) (answer : Answer) : Type 0 where
  pub transition : Transition
  pub effect : event_effect s w (Makes (Deliver number)) ≡ Ok transition
  pub replied : HasOnlyReply transition.world answer

module _ {S : Type 0} (positions : ℕ) (right : (1 ≤ positions) × (positions < 2 ^ 16)) (next : S → Action → S) (answers : S → Action → List Answer) (begin : S) where
  pub history_of : (events : List Event) (w : World) → AllRight events → Happen (three_nodes positions next answers begin) (opening_world 3) events w
      → IsHistory (three_nodes positions next answers begin) events w
  history_of events w all happened = record {
    config = record { nodes = (omega arith, omega arith); positions = right };
    right = each_right events all;
    happened = happened;
  }

  -- the history that ends with the delivery of a reply
  pub history_on : (events : List Event) (number : ℕ) (w : World) (answer : Answer) → AllRight events → Happen (three_nodes positions next answers begin) (opening_world 3) events w
      → (last : GetsReply (three_nodes positions next answers begin) w number answer)
      → IsHistory (three_nodes positions next answers begin) (events ++ Makes (Deliver number) ∷ []) last.transition.world
  history_on events number w answer all happened last =
      let s = three_nodes positions next answers begin in
      history_of (events ++ Makes (Deliver number) ∷ []) last.transition.world (right_on events (Makes (Deliver number) ∷ []) all (tt, tt))
      (happen_on s events (Makes (Deliver number) ∷ []) (opening_world 3) w last.transition.world happened (last.transition, last.effect, refl))

-- ---- a call

abbrev pub first_call : Action
first_call = Call 1 1 1 (Procedure 1) (pos 5)

-- the answer to the call
abbrev pub first_answer : Reply → Answer
first_answer reply = record { task = 1; number = 1; reply = reply }

abbrev few_events : List Event
few_events = calling ++ deciding 1

abbrev learning_events : List Event
learning_events = few_events ++ learning 1

right_few : AllRight few_events
right_few = right_on calling (deciding 1) right_calling (right_deciding 1)

module _ {S : Type 0} (next : S → Action → S) (answers : S → Action → List Answer) (begin : S) where
  -- the world in which the nodes 1 and 2 have voted
  play : (w : World) × Happen (three_nodes 1 next answers begin) (opening_world 3) few_events w × Votes w.sent 10 1 1 9 first_call × Votes w.sent 11 2 1 9 first_call
  play = (_, (_, refl, (_, refl, (_, refl, (_, refl, (_, refl, (_, refl, (_, refl, (_, refl, (_, refl, refl))))))))), refl, refl)

  pub decides : (events : List Event) × (w : World) × IsHistory (three_nodes 1 next answers begin) events w × IsDecided 3 w.sent 1 first_call
  decides = (
    few_events,
    play.0,
    history_of 1 (omega arith, omega arith) next answers begin few_events play.0 right_few play.1,
    two_decide play.0.sent 10 11 1 9 first_call play.2 play.3,
  )

  -- the world in which node 1 has applied the call
  learn : (w : World) × Happen (three_nodes 1 next answers begin) (opening_world 3) learning_events w
  learn = (_, (_, refl, (_, refl, (_, refl, (_, refl, (_, refl, (_, refl, (_, refl, (_, refl, (_, refl, (_, refl, (_, refl, refl))))))))))))

module _ {S : Type 0} (next : S → Action → S) (answers : S → Action → List Answer) (begin : S) where
  -- the same where these are the answers to the call
  abbrev learned_world : List Answer → World
  learned_world given = (learn next (λ state action. given) begin).0

  gets : (reply : Reply) → answers begin first_call ≡ first_answer reply ∷ [] → GetsReply (three_nodes 1 next answers begin) (learned_world (answers begin first_call)) 14 (first_answer reply)
  unfolding learn
  gets reply answered =
      subst (λ (given : List Answer). GetsReply (three_nodes 1 next answers begin) (learned_world given) 14 (first_answer reply)) (sym answered)
      (record { transition = _; effect = refl; replied = (_, refl, refl) })

  pub replies : (reply : Reply) → answers begin first_call ≡ first_answer reply ∷ [] → IsReplied (three_nodes 1 next answers begin) (first_answer reply)
  unfolding learn
  replies reply answered =
      let last = gets reply answered in
      record {
        events = learning_events ++ Makes (Deliver 14) ∷ [];
        world = last.transition.world;
        history = history_on 1 (omega arith, omega arith) next answers begin learning_events 14 (learn next answers begin).0 (first_answer reply)
            (right_on few_events (learning 1) right_few (right_learning 1)) (learn next answers begin).1 last;
        replied = last.replied;
      }
