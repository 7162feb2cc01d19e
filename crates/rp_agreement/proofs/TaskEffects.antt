-- The result of a task's input keeps the invariant: it sends nothing but right calls of its own.
use Rattle.std.proofs.Common.{◌≡◌, ℕ, suc, ◌-◌, ◌<◌, Bool, true, false, if◌then◌else◌, Result, Ok, Err, Option, Some, None, List, [], ◌∷◌, length, inl, inr, refl, sym, subst, arith}
use Rattle.std.specs.Prelude.{ℤ, nat_le, nat_lt, not, ◌||◌, ◌^◌, FitsSigned}
use Rattle.std.specs.Int.{w64}
use Rattle.std.proofs.lemmas.Bool.{cases_Bool, cond-true, cond-false, and_parts, leb-true, both_ways}
use Rattle.std.proofs.lemmas.Bool.Decides.{leb_tells}
use Rattle.rp_base.specs.declared.action.Action.{Action}
use Rattle.rp_base.specs.declared.action.Action.TheVariants as actions
use Rattle.rp_base.specs.declared.action.Operation.{Operation}
use Rattle.rp_base.specs.declared.action.Operation.TheVariants.{Function, Procedure, Entry, SetTimer, CancelTimer}
use Rattle.rp_base.specs.declared.reply.Reply.{Reply}
use Rattle.rp_base.specs.declared.config.Config.{Config}
use Rattle.rp_base.specs.declared.fault.Fault.{Fault}
use Rattle.rp_base.specs.declared.fault.Fault.TheVariants.{NumbersSpent, BadConfig}
use Rattle.rp_base.specs.declared.record.Rec.TheVariants.{Started, Voted, Learned}
use Rattle.rp_base.specs.Action.{IsRight, IsRightOperation, is_right_operation, is_right}
use Rattle.rp_base.specs.Ballot.{owner_of}
use Rattle.rp_base.specs.Sets.{Has}
use Rattle.rp_codec.specs.Message.{Message}
use Rattle.rp_codec.specs.declared.packet.Party.{Party}
use Rattle.rp_codec.specs.declared.packet.Party.TheVariants.{Node, Task, Audit}
use Rattle.rp_codec.specs.declared.packet.Body.{Body}
use Rattle.rp_codec.specs.declared.packet.Body.TheVariants as bodies
use Rattle.rp_model.specs.Parts.{Running}
use Rattle.rp_model.specs.Parts.{NodePart}
use Rattle.rp_model.specs.Parts.{TaskPart}
use Rattle.rp_model.specs.Facts.{IsOffered, IsDecided}
use Rattle.rp_model.specs.Effect.{Done, goes_on_as}
use Rattle.rp_model.specs.Tasks.{TaskInput, Submit, Again, Take, asks, next_call, may_call, calls_if, asks_again, takes, takes_reply, task_hears, task_effect}
use Rattle.rp_agreement.specs.Sound.{IsSo, SaysSo, IsCall, IsRunning, IsSound}
use Rattle.rp_agreement.specs.Steps.{TaskHappens}
use Rattle.rp_agreement.specs.Inputs.{IsTaskInput, WaitsForOwn}
use Rattle.rp_agreement.proofs.Lists.{some_same}
use Rattle.rp_agreement.proofs.Sending.{Within, offered_more, decided_more, so_sent}
use Rattle.rp_agreement.proofs.Keeps.{running_more}

-- ---- packets of a task

-- each packet is a right call of the task's own
abbrev pub AreCalls : ℕ → List Message → Type 0
AreCalls t packets = (m : Message) → Has m packets → (m.from ≡ Task t) × IsCall t m.body

-- so they offer nothing
calls_offer_nothing : (t : ℕ) (packets : List Message) → AreCalls t packets → (i b : ℕ) (v : Action) → ¬ IsOffered packets i b v
calls_offer_nothing t packets calls i b v offer = (calls _ offer.2).1

still_says : (nodes : ℕ) (node : ℕ → NodePart) (sent : List Message) (node' : ℕ → NodePart) (sent' : List Message) → Within sent sent' → ((k : ℕ) → node' k ≡ node k)
    → (party : Party) (body : Body) → SaysSo nodes node sent party body → SaysSo nodes node' sent' party body
still_says nodes node sent node' sent' in_after stays (Node a) body so =
    (so.0, subst (λ (part : NodePart). IsSo nodes sent' part.records body) (sym (stays a)) (so_sent nodes sent sent' in_after (node a).records body so.1))
still_says nodes node sent node' sent' in_after stays (Task t) body so = so
still_says nodes node sent node' sent' in_after stays Audit body so = so

-- the invariant is kept
pub task_keeps : (nodes t : ℕ) (packets : List Message) (node : ℕ → NodePart) (sent : List Message) (node' : ℕ → NodePart) (sent' : List Message)
    → IsSound nodes node sent → TaskHappens t packets node sent node' sent' → IsSound nodes node' sent'
task_keeps nodes t packets node sent node' sent' sound happens =
    let in_after : Within sent sent' = λ m h. (happens.sends m).1 (inl h) in
    let was : (i b : ℕ) (v : Action) → IsOffered sent' i b v → IsOffered sent i b v = λ i b v offer. elim ((happens.sends _).0 offer.2) [
      | inl old ↦ (offer.0, offer.1, old)
      | inr new ↦ absurd (happens.calls _ new).1
    ] in
    record {
      says = λ m h. elim ((happens.sends m).0 h) [
        | inl old ↦ still_says nodes node sent node' sent' in_after happens.stays m.from m.body (sound.says m old)
        | inr new ↦ subst (λ (party : Party). SaysSo nodes node' sent' party m.body) (sym (happens.calls m new).0) (happens.calls m new).1
      ];
      one_offer = λ i b v w one two. sound.one_offer i b v w (was i b v one) (was i b w two);
      started = λ x. subst (λ (part : NodePart). (b : ℕ) → Has (Started b) part.records → owner_of b ≡ x) (sym (happens.stays x)) (sound.started x);
      voted = λ x. subst (λ (part : NodePart). (i b : ℕ) (v : Action) → Has (Voted i b v) part.records → IsOffered sent' i b v) (sym (happens.stays x))
          (λ i b v h. offered_more sent sent' in_after i b v (sound.voted x i b v h));
      learned = λ x. subst (λ (part : NodePart). (i : ℕ) (v : Action) → Has (Learned i v) part.records → IsDecided nodes sent' i v) (sym (happens.stays x))
          (λ i v h. decided_more nodes sent sent' in_after i v (sound.learned x i v h));
      runs = λ x. subst (λ (part : NodePart). (running : Running) → part.running ≡ Some running → IsRunning sent' part.records running) (sym (happens.stays x))
          (λ running is. running_more sent packets sent' (node x).records running in_after (λ m. (happens.sends m).0)
          (λ p h preparing v. calls_offer_nothing t packets happens.calls p.position p.ballot v) (sound.runs x running is));
    }

-- ---- a task's input

-- The task sends nothing but right calls of its own, and waits for one at most.
pub record IsTaskDone (t : ℕ) (done : Done TaskPart) : Type 0 where
  pub calls : AreCalls t done.sends
  pub waits : WaitsForOwn t done.part

abbrev pub IsTaskDoneIf : ℕ → Result (Done TaskPart) Fault → Type 0
IsTaskDoneIf t (Ok done) = IsTaskDone t done
IsTaskDoneIf t (Err fault) = Unit {0}

goes_on : (t : ℕ) (part : TaskPart) → WaitsForOwn t part → IsTaskDone t (goes_on_as part)
goes_on t part waits = record { calls = λ m h. absurd h; waits = waits }

-- the test for an operation decides which are right
operation_right : (operation : Operation) → is_right_operation operation ≡ true → IsRightOperation operation
operation_right (Function index) e = let both = and_parts _ _ e in (leb-true 1 index both.0, leb-true index 8 both.1)
operation_right (Procedure index) e = let both = and_parts _ _ e in (leb-true 1 index both.0, leb-true index 8 both.1)
operation_right (Entry index) e = let both = and_parts _ _ e in (leb-true 1 index both.0, leb-true index 4 both.1)
operation_right (SetTimer index) e = let both = and_parts _ _ e in (leb-true 1 index both.0, leb-true index 8 both.1)
operation_right (CancelTimer index) e = let both = and_parts _ _ e in (leb-true 1 index both.0, leb-true index 8 both.1)

call_right : (task number object : ℕ) (operation : Operation) (arg : ℤ) → number < 2 ^ 32 → FitsSigned w64 arg → is_right (actions.Call task number object operation arg) ≡ true
    → IsRight (actions.Call task number object operation arg)
call_right task number object operation arg small fits e =
    let last = and_parts _ _ e in
    let third = and_parts _ _ last.0 in
    let second = and_parts _ _ third.0 in
    let of_task = and_parts _ _ second.0 in
    let of_object = and_parts _ _ third.1 in (
      (leb-true 1 task of_task.0, leb-true task 8 of_task.1),
      (leb-true 1 number second.1, small),
      (leb-true 1 object of_object.0, leb-true object 8 of_object.1),
      operation_right operation last.1,
      fits,
    )

-- what a task may call is a right call of its own
abbrev IsRightIf : ℕ → Result Action Fault → Type 0
IsRightIf t (Ok call) = IsCall t (bodies.Call call)
IsRightIf t (Err fault) = Unit {0}

right_if : (t : ℕ) (b : Bool) (fault : Fault) (other : Result Action Fault) → (b ≡ false → IsRightIf t other) → IsRightIf t (if b then Err fault else other)
right_if t true fault other holds = tt
right_if t false fault other holds = holds refl

not_false : (b : Bool) → not b ≡ false → b ≡ true
not_false true e = refl
not_false false e = absurd (both_ways true e refl)

or_neither : (a b : Bool) → (a || b) ≡ false → b ≡ false
or_neither true b e = absurd (both_ways true e refl)
or_neither false b e = e

pub leb_not : (a b : ℕ) → nat_le a b ≡ false → b < a
leb_not a b e = elim (leb_tells a b) [ inl yes_le ↦ absurd (both_ways (nat_le a b) e yes_le.0) | inr not_le ↦ not_le.1 ]

call_made : (config : Config) (t node : ℕ) (part : TaskPart) (object : ℕ) (operation : Operation) (arg : ℤ) (waiting : Option Action) → FitsSigned w64 arg
    → IsRightIf t (may_call config node part (next_call t part object operation arg) waiting)
call_made config t node part object operation arg (Some other) fits = tt
call_made config t node part object operation arg None fits =
    let call = next_call t part object operation arg in
    right_if t (nat_le (2 ^ 32 - 1) (length part.replies)) NumbersSpent _ (λ left.
    right_if t (nat_lt config.nodes node || not (is_right call)) BadConfig _ (λ allowed.
    let few : length part.replies < 2 ^ 32 - 1 = leb_not (2 ^ 32 - 1) (length part.replies) left in
    (refl, call_right t (suc (length part.replies)) object operation arg (omega (arith, few)) fits (not_false (is_right call) (or_neither (nat_lt config.nodes node) (not (is_right call)) allowed)))))

asking : (t node : ℕ) (call : Action) → IsCall t (bodies.Call call) → AreCalls t (asks t node call ∷ [])
asking t node call is m h =
    elim h [
      | inl same ↦ subst (λ (k : Message). (k.from ≡ Task t) × IsCall t k.body) (sym same) (refl, is)
      | inr none ↦ absurd none
    ]

calls_done : (t node : ℕ) (part : TaskPart) (call : Result Action Fault) → IsRightIf t call → IsTaskDoneIf t (calls_if t node part call)
calls_done t node part (Ok call) is = record { calls = asking t node call is; waits = λ other e. subst (λ (c : Action). IsCall t (bodies.Call c)) (some_same e) is }
calls_done t node part (Err fault) is = tt

again_done : (t node : ℕ) (part : TaskPart) (waiting : Option Action) → WaitsForOwn t part → part.outstanding ≡ waiting → IsTaskDone t (asks_again t node part waiting)
again_done t node part None waits is = goes_on t part waits
again_done t node part (Some call) waits is = record { calls = asking t node call (waits call is); waits = waits }

reply_done : (t : ℕ) (part : TaskPart) (number : ℕ) (reply : Reply) → WaitsForOwn t part → IsTaskDone t (takes_reply t part number reply)
reply_done t part number reply waits =
    elim (cases_Bool (takes part number)) [
      | inl hit ↦ subst (IsTaskDone t) (sym (cond-true (takes part number) _ (goes_on_as part) hit)) (record { calls = λ m h. absurd h; waits = λ call e. absurd (cc) })
      | inr miss ↦ subst (IsTaskDone t) (sym (cond-false (takes part number) _ (goes_on_as part) miss)) (goes_on t part waits)
    ]

hears_done : (t : ℕ) (part : TaskPart) (body : Body) → WaitsForOwn t part → IsTaskDone t (task_hears t part body)
hears_done t part (bodies.Reply number reply) waits = reply_done t part number reply waits
hears_done t part _ waits = goes_on t part waits

done_if : (t : ℕ) (b : Bool) (fault : Fault) (done : Done TaskPart) → IsTaskDone t done → IsTaskDoneIf t (if b then Err fault else Ok done)
done_if t true fault done is = tt
done_if t false fault done is = is

pub task_sound : (config : Config) (sent : List Message) (t : ℕ) (part : TaskPart) (input : TaskInput) → WaitsForOwn t part → IsTaskInput sent t input → IsTaskDoneIf t (task_effect config t part input)
task_sound config sent t part (Submit node object operation arg) waits fits =
    calls_done t node part (may_call config node part (next_call t part object operation arg) part.outstanding)
    (call_made config t node part object operation arg part.outstanding fits.1)
task_sound config sent t part (Again node) waits fits =
    done_if t (nat_lt config.nodes node) BadConfig (asks_again t node part part.outstanding) (again_done t node part part.outstanding waits refl)
task_sound config sent t part (Take message) waits fits = hears_done t part message.body waits

-- what was not refused
pub if_task_done : (t : ℕ) (result : Result (Done TaskPart) Fault) (done : Done TaskPart) → IsTaskDoneIf t result → result ≡ Ok done → IsTaskDone t done
if_task_done t result done is resulted = subst (IsTaskDoneIf t) resulted is
