-- A task asks a node again, or for its next call, and takes a reply.
use Rattle.std.proofs.Common.{◌≡◌, ℕ, suc, ◌<◌, ◌≤◌, ◌^◌, true, false, ◌||◌, not, Option, Some, None, Result, Ok, Err, List, [], ◌∷◌, ◌++◌, length, refl, ap, ◌∙◌, arith, lt-ltb, le-leb, eq-eqb}
use Rattle.std.specs.Prelude.{ℤ, nat_lt}
use Rattle.std.proofs.lemmas.Bool.{and_from, or_from, not_from_true, cond-true, cond-false}
use Rattle.std.proofs.lemmas.Bool.Decides.{nat_tests}
use Rattle.rp_base.specs.Action.{IsRight, IsRightOperation, is_right, is_right_operation}
use Rattle.rp_base.specs.Calls.{are_exhausted, is_reply_to}
use Rattle.rp_base.specs.Number.{in_range}
use Rattle.rp_base.specs.declared.action.Action.{Action}
use Rattle.rp_base.specs.declared.action.Action.TheVariants.{Call}
use Rattle.rp_base.specs.declared.action.Operation.{Operation}
use Rattle.rp_base.specs.declared.action.Operation.TheVariants.{Function, Procedure, Entry, SetTimer, CancelTimer}
use Rattle.rp_base.specs.declared.fault.Fault.{Fault}
use Rattle.rp_base.specs.declared.fault.Fault.TheVariants.{NumbersSpent, BadConfig}
use Rattle.rp_base.specs.declared.reply.Answer.{Answer}
use Rattle.rp_base.specs.declared.reply.Reply.{Reply as CallReply}
use Rattle.rp_codec.specs.Message.{Message}
use Rattle.rp_codec.specs.declared.packet.Body.TheVariants as bodies
use Rattle.rp_model.specs.Effect.{Setting, Done, goes_on_as}
use Rattle.rp_model.specs.Events.{Submit, Again, Makes, Deliver, IsOperation}
use Rattle.rp_model.specs.Parts.{TaskPart}
use Rattle.rp_model.specs.Says.{says_to_task}
use Rattle.rp_model.specs.Tasks as tasks
use Rattle.rp_model.specs.Tasks.{asks, asks_again, may_call, calls_if}
use Rattle.rp_model.specs.World.{World, Transition, part_at, delivers, reaches_task, chosen_effect, task_takes, task_done, task_done_if, event_effect}
use Rattle.rp_agreement.proofs.PartPlaces.{put_there}
use Rattle.rp_progress.specs.Waiting.{TaskHas}

not_below : (nodes node : ℕ) → node ≤ nodes → nat_lt nodes node ≡ false
not_below nodes node within = grind (arith, nat_tests)

abbrev task_part : List Answer → Option Action → TaskPart
task_part replies waits = record { outstanding = waits; replies = replies }

module _ {S : Type 0} (s : Setting S) (w : World) (t : ℕ) (replies : List Answer) where
  -- a task sends a packet, and is so
  abbrev pub task_sends : Option Action → Message → Transition
  task_sends waits m = task_done w t (record (goes_on_as (task_part replies waits)) { sends = m ∷ [] })

  pub asked_again : (x : ℕ) (call : Action) → TaskHas w t replies (Some call) → x ≤ s.config.nodes
      → event_effect s w (Again t x) ≡ Ok (task_sends (Some call) (asks t x call))
  asked_again x call here within =
      ap (λ (o : Option TaskPart). task_takes s.config w t (tasks.Again x) o) here
      ∙ ap (task_done_if w t) (cond-false (nat_lt s.config.nodes x) (Err BadConfig) (Ok (asks_again t x (task_part replies (Some call)) (Some call))) (not_below s.config.nodes x within))

  pub stays_there : (was now : Option Action) (m : Message) → TaskHas w t replies was → TaskHas (task_sends now m).world t replies now
  stays_there was now m here = put_there w.tasks t (task_part replies was) (task_part replies now) here

  -- ---- a reply

  abbrev pub task_gets : Answer → Transition
  task_gets answer = task_done w t (record (goes_on_as (task_part (replies ++ answer ∷ []) None)) { taken = Some answer })

  pub reply_taken : (number from n object : ℕ) (operation : Operation) (arg : ℤ) (reply : CallReply) → 1 ≤ n → TaskHas w t replies (Some (Call t n object operation arg))
      → part_at w.sent number ≡ Some (says_to_task from (bodies.Reply n reply) t)
      → event_effect s w (Makes (Deliver number)) ≡ Ok (task_gets (record { task = t; number = n; reply = reply }))
  reply_taken number from n object operation arg reply above here sent =
      let part = task_part replies (Some (Call t n object operation arg)) in
      let message = says_to_task from (bodies.Reply n reply) t in
      let takes : is_reply_to n part.outstanding ≡ true = and_from _ _ (lt-ltb 0 n above) (eq-eqb n n refl) in
      let taken = cond-true (is_reply_to n part.outstanding) _ (goes_on_as part) takes in
      ap (λ (o : Option Message). chosen_effect s w (delivers w o)) sent
      ∙ ap (λ (o : Option TaskPart). chosen_effect s w (reaches_task t message o)) here
      ∙ ap (λ (done : Done TaskPart). task_done_if w t (Ok done)) taken

  pub gets_there : (was : Option Action) (answer : Answer) → TaskHas w t replies was → TaskHas (task_gets answer).world t (replies ++ answer ∷ []) None
  gets_there was answer here = put_there w.tasks t (task_part replies was) (task_part (replies ++ answer ∷ []) None) here

  -- ---- the next call

  up_to : (most n : ℕ) → 1 ≤ n → n ≤ most → in_range 1 most n ≡ true
  up_to most n low high = and_from _ _ (le-leb 1 n low) (le-leb n most high)

  not_exhausted : (n : ℕ) → suc n < 2 ^ 32 → are_exhausted n ≡ false
  not_exhausted n near = grind (arith, nat_tests)

  operation_is_right : (operation : Operation) → IsRightOperation operation → is_right_operation operation ≡ true
  operation_is_right (Function index) right = up_to 8 index right.0 right.1
  operation_is_right (Procedure index) right = up_to 8 index right.0 right.1
  operation_is_right (Entry index) right = up_to 4 index right.0 right.1
  operation_is_right (SetTimer index) right = up_to 8 index right.0 right.1
  operation_is_right (CancelTimer index) right = up_to 8 index right.0 right.1

  pub is_operation : (operation : Operation) → IsRightOperation operation → IsOperation operation
  is_operation (Function index) right = omega (arith, right.1)
  is_operation (Procedure index) right = omega (arith, right.1)
  is_operation (Entry index) right = omega (arith, right.1)
  is_operation (SetTimer index) right = omega (arith, right.1)
  is_operation (CancelTimer index) right = omega (arith, right.1)

  pub made_next : (x object : ℕ) (operation : Operation) (arg : ℤ) → TaskHas w t replies None → x ≤ s.config.nodes
      → (let call = Call t (suc (length replies)) object operation arg in
      IsRight call → event_effect s w (Submit t x object operation arg) ≡ Ok (task_sends (Some call) (asks t x call)))
  made_next x object operation arg here within right =
      let n = length replies in
      let part = task_part replies None in
      let call = Call t (suc n) object operation arg in
      let tests : is_right call ≡ true =
      and_from _ _ (and_from _ _ (and_from _ _ (up_to 8 t right.0.0 right.0.1) (le-leb 1 (suc n) right.1.0)) (up_to 8 object right.2.0 right.2.1)) (operation_is_right operation right.3) in
      let may : may_call s.config x part call None ≡ Ok call =
      cond-false (are_exhausted n) (Err NumbersSpent) _ (not_exhausted n right.1.1)
      ∙ cond-false (nat_lt s.config.nodes x || not (is_right call)) (Err BadConfig) (Ok call) (or_from _ _ (not_below s.config.nodes x within) (not_from_true _ tests)) in
      ap (λ (o : Option TaskPart). task_takes s.config w t (tasks.Submit x object operation arg) o) here
      ∙ ap (λ (r : Result Action Fault). task_done_if w t (calls_if t x part r)) may
