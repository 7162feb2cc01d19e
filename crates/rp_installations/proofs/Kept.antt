-- Callers who keep the rules, played: a task gets its reply, and an interrupt is applied.
use Rattle.std.proofs.Common.{◌≡◌, ℕ, ◌≤◌, pos, Bool, true, Some, None, Ok, List, [], ◌∷◌, ◌++◌, length, inl, inr, refl, arith}
use Rattle.std.specs.List.{AllByRecursion}
use Rattle.rp_base.specs.Action.{IsRight}
use Rattle.rp_base.specs.declared.action.Operation.TheVariants.{Procedure}
use Rattle.rp_requests.specs.rp_codec.specs.Message.{Message, IsPacket}
use Rattle.rp_requests.specs.rp_codec.specs.Text.{number_text}
use Rattle.rp_requests.specs.rp_codec.specs.declared.packet.Body.TheVariants as bodies
use Rattle.rp_machine.specs.TallyRule.{tally_next, tally_answers, tally_image}
use Rattle.rp_requests.specs.rp_model.specs.Effect.{NodeInput}
use Rattle.rp_requests.specs.rp_model.specs.Effect as inputs
use Rattle.rp_requests.specs.rp_model.specs.Says.{says, says_to_all, says_to_others, says_to_task}
use Rattle.rp_requests.specs.Texts.{step_text, FitsStep, task_request_text, FitsTaskRequest}
use Rattle.rp_requests.specs.Nodes.{step_bytes}
use Rattle.rp_requests.specs.Requests.{Step, asked_of}
use Rattle.rp_requests.specs.TaskRequests.{TaskAsked, MakeCall, task_asked_of}
use Rattle.rp_requests.specs.Tasks.{call_packet}
use Rattle.rp_installations.specs.Moves.{Move, OpensFrom, AnswersBy, MachineMoves}
use Rattle.rp_installations.specs.Sites.{nothing_opened}
use Rattle.rp_installations.specs.Breaches.{Callers, MoveOr, Keeps, Breaches, MovesOr, three_node_config, one_sum}
use Rattle.rp_installations.specs.Kept.{the_call, the_reply, AreAnswered, AreNoted}
use Rattle.rp_installations.proofs.Deeds.{Deed, Open, Take, Keep, Hand, OpenTask, MakesCall, TakeReply, site_at, node_at, task_at, plays, AllFit, plays_lead}
use Rattle.rp_installations.proofs.Packets.{node_1, node_2, node_3, task_1, occurrence, right_occurrence, position, prepare_is, promise_is, accept_is, accepted_is, decided_is, all_prepare, all_accept, others_decided}

-- ---- callers who break no rule

abbrev Never : Callers → Callers → Type 0
Never before after = ⊥

abbrev no_move : ⊥ → Callers → Callers
no_move none i = i

abbrev none_may : ⊥ → Callers → Bool
none_may none i = true

abbrev none_fits : ⊥ → Type 0
none_fits none = Unit {0}

no_breach : (none : ⊥) (i : Callers) → none_fits none → none_may none i ≡ true → MoveOr Never i (no_move none i)
no_breach none i fits e = absurd none

kept : (before after : Callers) → MoveOr Never before after → Move 3 (OpensFrom tally_next tally_answers tally_image three_node_config one_sum) (AnswersBy tally_next tally_answers tally_image) before after
kept before after (Keeps move) = move
kept before after (Breaches none) = absurd none

all_kept : (before : Callers) (steps : List Callers) (after : Callers) → MovesOr Never before steps after → MachineMoves tally_next tally_answers tally_image three_node_config one_sum before steps after
all_kept before [] after same = same
all_kept before (middle ∷ rest) after all = (kept before middle all.0, all_kept middle rest after all.1)

-- ---- a call and its reply

right_call : IsRight the_call
right_call = (task_1, (omega arith, omega arith), (omega arith, omega arith), (omega arith, omega arith), record { sfits = omega arith })

fits_call : FitsTaskRequest (MakeCall 1 1 (Procedure 1) (pos 5))
fits_call = (node_1, (omega arith, omega arith), (omega arith, omega arith), record { sfits = omega arith })

call_is : IsPacket (call_packet 1 1 the_call)
call_is = record { ranges = record { from = task_1; to = node_1; body = tt }; rules = (tt, tt, refl, right_call) }

abbrev pub reply_packet : Message
reply_packet = says_to_task 1 (bodies.Reply 1 the_reply) 1

pub reply_is : IsPacket reply_packet
reply_is = record { ranges = record { from = node_1; to = task_1; body = record { sfits = omega arith } }; rules = (tt, tt, (omega arith, omega arith)) }

-- what the step sends in which node 1 learns the call
abbrev decided_and_replied : List Message
decided_and_replied = says_to_others 3 1 (bodies.Decided 1 the_call) ++ reply_packet ∷ []

each_is : AllByRecursion IsPacket decided_and_replied
each_is = (decided_is 1 2 node_1 node_2 the_call right_call, (decided_is 1 3 node_1 node_3 the_call right_call, (reply_is, tt)))

abbrev pub answering : (B : Type 0) → List (Deed B)
answering B =
    OpenTask 1
    ∷ Open 1
    ∷ Open 2
    ∷ MakesCall 1 1 1 (Procedure 1) (pos 5)
    ∷ Take 1 (inputs.NodeInput.Receive (call_packet 1 1 the_call)) 0
    ∷ Take 1 (inputs.NodeInput.Lead (Some 1)) 0
    ∷ Keep 1
    ∷ Hand 1 1 (says_to_all 3 1 (bodies.Prepare 1 9)) (says 1 (bodies.Prepare 1 9) 1)
    ∷ Hand 1 1 (says_to_all 3 1 (bodies.Prepare 1 9)) (says 1 (bodies.Prepare 1 9) 2)
    ∷ Take 1 (inputs.NodeInput.Receive (says 1 (bodies.Prepare 1 9) 1)) 1
    ∷ Keep 1
    ∷ Hand 1 2 (says 1 (bodies.Promise 1 9 None) 1 ∷ []) (says 1 (bodies.Promise 1 9 None) 1)
    ∷ Take 2 (inputs.NodeInput.Receive (says 1 (bodies.Prepare 1 9) 2)) 2
    ∷ Keep 2
    ∷ Hand 2 0 (says 2 (bodies.Promise 1 9 None) 1 ∷ []) (says 2 (bodies.Promise 1 9 None) 1)
    ∷ Take 1 (inputs.NodeInput.Receive (says 1 (bodies.Promise 1 9 None) 1)) 3
    ∷ Take 1 (inputs.NodeInput.Receive (says 2 (bodies.Promise 1 9 None) 1)) 4
    ∷ Hand 1 4 (says_to_all 3 1 (bodies.Accept 1 9 the_call)) (says 1 (bodies.Accept 1 9 the_call) 1)
    ∷ Hand 1 4 (says_to_all 3 1 (bodies.Accept 1 9 the_call)) (says 1 (bodies.Accept 1 9 the_call) 2)
    ∷ Take 1 (inputs.NodeInput.Receive (says 1 (bodies.Accept 1 9 the_call) 1)) 5
    ∷ Keep 1
    ∷ Hand 1 5 (says 1 (bodies.Accepted 1 9 the_call) 1 ∷ []) (says 1 (bodies.Accepted 1 9 the_call) 1)
    ∷ Take 2 (inputs.NodeInput.Receive (says 1 (bodies.Accept 1 9 the_call) 2)) 6
    ∷ Keep 2
    ∷ Hand 2 1 (says 2 (bodies.Accepted 1 9 the_call) 1 ∷ []) (says 2 (bodies.Accepted 1 9 the_call) 1)
    ∷ Take 1 (inputs.NodeInput.Receive (says 1 (bodies.Accepted 1 9 the_call) 1)) 7
    ∷ Take 1 (inputs.NodeInput.Receive (says 2 (bodies.Accepted 1 9 the_call) 1)) 8
    ∷ Keep 1
    ∷ Hand 1 7 (decided_and_replied) (says 1 (bodies.Decided 1 the_call) 2)
    ∷ Hand 1 7 (decided_and_replied) (reply_packet)
    ∷ Take 2 (inputs.NodeInput.Receive (says 1 (bodies.Decided 1 the_call) 2)) 9
    ∷ Keep 2
    ∷ TakeReply 1 reply_packet 10
    ∷ []

pub answering_fits : (Breaks : Callers → Callers → Type 0) (B : Type 0) (breaks_to : B → Callers → Callers) (may_break : B → Callers → Bool) (FitsBreach : B → Type 0) (breach : (b : B) (i : Callers) → FitsBreach b → may_break b i ≡ true → MoveOr Breaks i (breaks_to b i))
    → AllFit Breaks B breaks_to may_break FitsBreach breach (answering B)
answering_fits Breaks B breaks_to may_break FitsBreach breach =
    (tt, (tt, (tt, ((fits_call, omega arith), (call_is, (position, (tt, ((all_prepare, inl refl), ((all_prepare, inr (inl refl)), (prepare_is 1 1 node_1 node_1, (tt, (((promise_is 1 1 node_1 node_1, tt), inl refl), (prepare_is 1 2 node_1 node_2, (tt, (((promise_is 2 1 node_2 node_1, tt), inl refl), (promise_is 1 1 node_1 node_1, (promise_is 2 1 node_2 node_1, ((all_accept the_call right_call, inl refl), ((all_accept the_call right_call, inr (inl refl)), (accept_is 1 1 node_1 node_1 the_call right_call, (tt, (((accepted_is 1 1 node_1 node_1 the_call right_call, tt), inl refl), (accept_is 1 2 node_1 node_2 the_call right_call, (tt, (((accepted_is 2 1 node_2 node_1 the_call right_call, tt), inl refl), (accepted_is 1 1 node_1 node_1 the_call right_call, (accepted_is 2 1 node_2 node_1 the_call right_call, (tt, ((each_is, inl refl), ((each_is, inr (inr (inl refl))), (decided_is 1 2 node_1 node_2 the_call right_call, (tt, (reply_is, tt)))))))))))))))))))))))))))))))))

abbrev after_answering : Callers
after_answering = plays Never ⊥ no_move none_may none_fits no_breach (answering ⊥) (nothing_opened 3)

module _ (buffer : List ℕ) (room : step_bytes ≤ length buffer) (reads : (input : NodeInput) → FitsStep input → asked_of (step_text input) ≡ Some (Step (Ok input)))
    (reads_task : (request : TaskAsked) → FitsTaskRequest request → task_asked_of (task_request_text request) ≡ Some request) where
  pub answered : AreAnswered
  unfolding number_text
  answered =
      let fits = answering_fits Never ⊥ no_move none_may none_fits no_breach in
      let led = plays_lead Never ⊥ no_move none_may none_fits no_breach buffer room reads reads_task (answering ⊥) (nothing_opened 3) fits refl in
      record {
        moves = led.0;
        now = after_answering;
        all = all_kept (nothing_opened 3) led.0 after_answering led.1;
        task = task_at after_answering 1;
        here = refl;
        replies = refl;
        site = site_at after_answering 2;
        node = node_at after_answering 2;
        opened = record { site_is = refl; node_is = refl };
        applied = refl;
      }

-- ---- an interrupt

abbrev noting : List (Deed ⊥)
noting =
    Open 1
    ∷ Open 2
    ∷ Take 1 (inputs.NodeInput.Interrupt 1 1) 0
    ∷ Take 1 (inputs.NodeInput.Lead (Some 1)) 0
    ∷ Keep 1
    ∷ Hand 1 1 (says_to_all 3 1 (bodies.Prepare 1 9)) (says 1 (bodies.Prepare 1 9) 1)
    ∷ Hand 1 1 (says_to_all 3 1 (bodies.Prepare 1 9)) (says 1 (bodies.Prepare 1 9) 2)
    ∷ Take 1 (inputs.NodeInput.Receive (says 1 (bodies.Prepare 1 9) 1)) 0
    ∷ Keep 1
    ∷ Hand 1 2 (says 1 (bodies.Promise 1 9 None) 1 ∷ []) (says 1 (bodies.Promise 1 9 None) 1)
    ∷ Take 2 (inputs.NodeInput.Receive (says 1 (bodies.Prepare 1 9) 2)) 1
    ∷ Keep 2
    ∷ Hand 2 0 (says 2 (bodies.Promise 1 9 None) 1 ∷ []) (says 2 (bodies.Promise 1 9 None) 1)
    ∷ Take 1 (inputs.NodeInput.Receive (says 1 (bodies.Promise 1 9 None) 1)) 2
    ∷ Take 1 (inputs.NodeInput.Receive (says 2 (bodies.Promise 1 9 None) 1)) 3
    ∷ Hand 1 4 (says_to_all 3 1 (bodies.Accept 1 9 occurrence)) (says 1 (bodies.Accept 1 9 occurrence) 1)
    ∷ Hand 1 4 (says_to_all 3 1 (bodies.Accept 1 9 occurrence)) (says 1 (bodies.Accept 1 9 occurrence) 2)
    ∷ Take 1 (inputs.NodeInput.Receive (says 1 (bodies.Accept 1 9 occurrence) 1)) 4
    ∷ Keep 1
    ∷ Hand 1 5 (says 1 (bodies.Accepted 1 9 occurrence) 1 ∷ []) (says 1 (bodies.Accepted 1 9 occurrence) 1)
    ∷ Take 2 (inputs.NodeInput.Receive (says 1 (bodies.Accept 1 9 occurrence) 2)) 5
    ∷ Keep 2
    ∷ Hand 2 1 (says 2 (bodies.Accepted 1 9 occurrence) 1 ∷ []) (says 2 (bodies.Accepted 1 9 occurrence) 1)
    ∷ Take 1 (inputs.NodeInput.Receive (says 1 (bodies.Accepted 1 9 occurrence) 1)) 6
    ∷ Take 1 (inputs.NodeInput.Receive (says 2 (bodies.Accepted 1 9 occurrence) 1)) 7
    ∷ Keep 1
    ∷ Hand 1 7 (says_to_others 3 1 (bodies.Decided 1 occurrence)) (says 1 (bodies.Decided 1 occurrence) 2)
    ∷ Take 2 (inputs.NodeInput.Receive (says 1 (bodies.Decided 1 occurrence) 2)) 8
    ∷ Keep 2
    ∷ []

abbrev after_noting : Callers
after_noting = plays Never ⊥ no_move none_may none_fits no_breach noting (nothing_opened 3)

module _ (buffer : List ℕ) (room : step_bytes ≤ length buffer) (reads : (input : NodeInput) → FitsStep input → asked_of (step_text input) ≡ Some (Step (Ok input)))
    (reads_task : (request : TaskAsked) → FitsTaskRequest request → task_asked_of (task_request_text request) ≡ Some request) where
  pub noted : AreNoted
  unfolding number_text
  noted =
      let fits : AllFit Never ⊥ no_move none_may none_fits no_breach noting =
      (tt, (tt, (right_occurrence, (position, (tt, ((all_prepare, inl refl), ((all_prepare, inr (inl refl)), (prepare_is 1 1 node_1 node_1, (tt, (((promise_is 1 1 node_1 node_1, tt), inl refl), (prepare_is 1 2 node_1 node_2, (tt, (((promise_is 2 1 node_2 node_1, tt), inl refl), (promise_is 1 1 node_1 node_1, (promise_is 2 1 node_2 node_1, ((all_accept occurrence right_occurrence, inl refl), ((all_accept occurrence right_occurrence, inr (inl refl)), (accept_is 1 1 node_1 node_1 occurrence right_occurrence, (tt, (((accepted_is 1 1 node_1 node_1 occurrence right_occurrence, tt), inl refl), (accept_is 1 2 node_1 node_2 occurrence right_occurrence, (tt, (((accepted_is 2 1 node_2 node_1 occurrence right_occurrence, tt), inl refl), (accepted_is 1 1 node_1 node_1 occurrence right_occurrence, (accepted_is 2 1 node_2 node_1 occurrence right_occurrence, (tt, ((others_decided occurrence right_occurrence, inl refl), (decided_is 1 2 node_1 node_2 occurrence right_occurrence, (tt, tt))))))))))))))))))))))))))))) in
      let led = plays_lead Never ⊥ no_move none_may none_fits no_breach buffer room reads reads_task noting (nothing_opened 3) fits refl in
      record {
        moves = led.0;
        now = after_noting;
        all = all_kept (nothing_opened 3) led.0 after_noting led.1;
        asked_site = site_at after_noting 1;
        asked = refl;
        noted = refl;
        site = site_at after_noting 2;
        node = node_at after_noting 2;
        opened = record { site_is = refl; node_is = refl };
        applied = refl;
      }
