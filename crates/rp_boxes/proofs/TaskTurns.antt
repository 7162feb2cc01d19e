-- What an event of a task is for its seat.
use Rattle.std.proofs.Common.{◌≡◌, ℕ, ◌+◌, ◌++◌, Bool, true, false, if◌then◌else◌, Option, Some, None, Result, Ok, Err, List, [], ◌∷◌, length, inl, inr, refl, sym, ap, subst, ◌∙◌}
use Rattle.std.specs.Prelude.{ℤ, nat_lt, not, ◌||◌}
use Rattle.rp_base.specs.Action.{is_right}
use Rattle.rp_base.specs.Calls.{are_exhausted}
use Rattle.rp_base.specs.Number.{IsTask}
use Rattle.rp_base.specs.Sets.{Has}
use Rattle.rp_base.specs.declared.action.Action.{Action}
use Rattle.rp_base.specs.declared.action.Operation.{Operation}
use Rattle.rp_base.specs.declared.config.Config.{Config}
use Rattle.rp_base.specs.declared.fault.Fault.{Fault}
use Rattle.rp_base.specs.declared.fault.Fault.TheVariants.{OutOfMemory, NumbersSpent, BadConfig}
use Rattle.rp_base.specs.declared.reply.Answer.{Answer}
use Rattle.rp_base.specs.declared.reply.Reply.{Reply}
use Rattle.rp_codec.specs.Message.{Message}
use Rattle.rp_codec.specs.Text.{text_of}
use Rattle.rp_codec.specs.declared.packet.Body.{Body}
use Rattle.rp_codec.specs.declared.packet.Body.TheVariants as bodies
use Rattle.rp_model.specs.rp_machine.specs.declared.machine.Machine.{Ghosts}
use Rattle.rp_model.specs.Effect.{Done, goes_on_as}
use Rattle.rp_model.specs.Parts.{TaskPart}
use Rattle.rp_model.specs.Tasks as tasks
use Rattle.rp_model.specs.Tasks.{TaskInput, asks, next_call, may_call, calls_if, asks_again, takes, task_hears, task_effect}
use Rattle.rp_agreement.specs.Inputs.{IsTaskInput, WaitsForOwn}
use Rattle.rp_agreement.specs.Sound.{IsCall}
use Rattle.rp_agreement.proofs.Lists.{some_same}
use Rattle.rp_actors.specs.rp_replica.specs.declared.sent.Sent.{Sent}
use Rattle.rp_actors.specs.Callers.{Caller}
use Rattle.rp_actors.specs.Going.{reply_in}
use Rattle.rp_board.specs.Parts.{Part, Role, OfTask, part_after}
use Rattle.rp_board.specs.Seats.{SeatSetup, SeatState, IsNoted, setting_at}
use Rattle.rp_board.specs.Steps.{HasEvent}
use Rattle.rp_board.proofs.SeatBoxes.{seat_with}
use Rattle.rp_boxes.specs.TaskSeats.{IsTaskAt, asked_of, DescribesPackets, IsTaskTurn, IsNoTaskTurn, reply_effect, IsReplyTurn}

-- ---- the result of an input

-- what a task may call is this call
abbrev pub IsMadeIf : Action → Result Action Fault → Type 0
IsMadeIf call (Ok made) = made ≡ call
IsMadeIf call (Err fault) = Unit {0}

made_if : (call : Action) (b : Bool) (fault : Fault) (other : Result Action Fault) → IsMadeIf call other → IsMadeIf call (if b then Err fault else other)
made_if call true fault other holds = tt
made_if call false fault other holds = holds

made : (config : Config) (node : ℕ) (part : TaskPart) (call : Action) (waiting : Option Action) → IsMadeIf call (may_call config node part call waiting)
made config node part call (Some other) = tt
made config node part call None =
    made_if call (are_exhausted (length part.replies)) NumbersSpent _ (made_if call (nat_lt config.nodes node || not (is_right call)) BadConfig _ refl)

-- the part of a task that waits for this call
abbrev pub waiting_for : TaskPart → Action → TaskPart
waiting_for part call = record part { outstanding = Some call }

-- it waits for a call of its own, if that is one
pub waits_for_one : (number : ℕ) (part part' : TaskPart) (call : Action) → part' ≡ waiting_for part call → IsCall number (bodies.Call call) → WaitsForOwn number part'
waits_for_one number part part' call is own =
    subst (WaitsForOwn number) (sym is) (λ other same. subst (λ (a : Action). IsCall number (bodies.Call a)) (some_same same) own)

-- the task asks a node for this call, if there is one
abbrev pub asking_done : ℕ → ℕ → TaskPart → Option Action → Done TaskPart
asking_done number node part call = record (goes_on_as part) { sends = asked_of number node call }

-- the task asks once more
pub again_results : (config : Config) (number node : ℕ) (part : TaskPart) → nat_lt config.nodes node ≡ false
    → task_effect config number part (tasks.Again node) ≡ Ok (asking_done number node part part.outstanding)
again_results config number node part within =
    ap (λ (b : Bool). let r : Result (Done TaskPart) Fault = if b then Err BadConfig else Ok (asks_again number node part part.outstanding) in r) within
    ∙ ap (λ (d : Done TaskPart). let r : Result (Done TaskPart) Fault = Ok d in r) (as_asked part.outstanding)
  where
    as_asked : (o : Option Action) → asks_again number node part o ≡ asking_done number node part o
    as_asked None = refl
    as_asked (Some call) = refl

pub again_above : (config : Config) (number node : ℕ) (part : TaskPart) → nat_lt config.nodes node ≡ true → task_effect config number part (tasks.Again node) ≡ Err BadConfig
again_above config number node part over =
    ap (λ (b : Bool). let r : Result (Done TaskPart) Fault = if b then Err BadConfig else Ok (asks_again number node part part.outstanding) in r) over

-- a packet arrives at the task
pub reply_effect_is : (number : ℕ) (part : TaskPart) (body : Body) → reply_effect number part (reply_in body) ≡ task_hears number part body
reply_effect_is number part (bodies.Reply n reply) = refl
reply_effect_is number part _ = refl

pub reply_results : (config : Config) (number : ℕ) (part : TaskPart) (m : Message) (stated : Option (ℕ × Reply)) → stated ≡ reply_in m.body
    → task_effect config number part (tasks.Take m) ≡ Ok (reply_effect number part stated)
reply_results config number part m stated is =
    ap (λ (d : Done TaskPart). let r : Result (Done TaskPart) Fault = Ok d in r) (sym (ap (reply_effect number part) is ∙ reply_effect_is number part m.body))

-- it asks nothing
pub reply_quiet : (number : ℕ) (part : TaskPart) (stated : Option (ℕ × Reply)) → (reply_effect number part stated).sends ≡ []
reply_quiet number part None = refl
reply_quiet number part (Some stated) =
    let answer : Answer = record { task = number; number = stated.0; reply = stated.1 } in
    let after : TaskPart = record { outstanding = None; replies = part.replies ++ answer ∷ [] } in
    elim (takes part stated.0) as (λ b. (if b then record (goes_on_as after) { taken = Some answer } else goes_on_as part).sends ≡ []) [ true ↦ refl | false ↦ refl ]

-- ---- the seat and its events

-- the part after an event by which the task became this and sent these packets
abbrev pub BecomesPart : Part → TaskPart → List Message → Part → Type 0
BecomesPart before task sends after = after ≡ part_after before (OfTask task) sends

-- An input of a task's seat: what the task knows all nodes to share, its stub and its seat at the table, what is so of
-- them, and the input with its result at the task.
pub record TaskEvent (P : Type 0) : Type 0 where
  pub mine : Config
  pub caller : Caller
  pub seat : SeatState P
  pub sits : IsTaskAt mine caller seat.setup seat.part.role
  pub input : TaskInput
  pub done : Done TaskPart
  pub results : task_effect seat.setup.config seat.setup.number caller.part input ≡ Ok done

pub refused_state : {P : Type 0} (mine : Config) (caller : Caller) (seat : SeatState P) → IsTaskAt mine caller seat.setup seat.part.role → (input : TaskInput) (fault : Fault)
    → task_effect seat.setup.config seat.setup.number caller.part input ≡ Err fault → IsNoTaskTurn seat input seat fault
refused_state mine caller seat sits input fault results = record { unchanged = refl; task = caller.part; was = sits.is; why = inr results }

-- A task's seat is to submit this call.
pub record Submission (P : Type 0) : Type 0 where
  pub mine : Config
  pub caller : Caller
  pub setup : SeatSetup P
  pub role : Role
  pub sits : IsTaskAt mine caller setup role
  pub node : ℕ
  pub object : ℕ
  pub operation : Operation
  pub arg : ℤ

module _ {P : Type 0} (s : Submission P) where
  abbrev task : TaskPart
  task = s.caller.part

  abbrev pub submit : TaskInput
  submit = tasks.Submit s.node s.object s.operation s.arg

  abbrev pub its_next : ℤ → Action
  its_next arg = next_call s.caller.task task s.object s.operation arg

  -- what the stub may call is the next call, and gives the result of the input
  abbrev pub IsSubmitted : Result Action Fault → Type 0
  IsSubmitted r = IsMadeIf (its_next s.arg) r × (task_effect s.setup.config s.setup.number task submit ≡ calls_if s.setup.number s.node task r)

  pub submitted : {read : ℤ} {may : Result Action Fault} (r : Result Action Fault) → read ≡ s.arg → may ≡ may_call s.mine s.node task (its_next read) task.outstanding → may ≡ r → IsSubmitted r
  submitted r is found resulted =
      let config = s.setup.config in
      let here : may_call config s.node task (its_next s.arg) task.outstanding ≡ r =
      sym (found ∙ (λ i. may_call (s.sits.shared i) s.node task (its_next (is i)) task.outstanding)) ∙ resulted in (
        subst (IsMadeIf (its_next s.arg)) here (made config s.node task (its_next s.arg) task.outstanding),
        ap (calls_if s.setup.number s.node task) (subst (λ (k : ℕ). may_call config s.node task (next_call k task s.object s.operation s.arg) task.outstanding ≡ r) s.sits.named here),
      )

module _ {P : Type 0} (event : TaskEvent P) where
  abbrev seat : SeatState P
  seat = event.seat

  abbrev number : ℕ
  number = event.seat.setup.number

  pub no_memory_state : IsNoTaskTurn seat event.input seat OutOfMemory
  no_memory_state = record { unchanged = refl; task = event.caller.part; was = event.sits.is; why = inl (refl, event.done, event.results) }

  -- the task became this, and sent these packets; the seat is as a call finds it
  module _ (here : SeatState P) (same : here ≡ seat) (new : TaskPart) (sends : List Message) (part_is : new ≡ event.done.part) (sends_are : sends ≡ event.done.sends) where
    -- the event may be counted
    pub task_event : {S : Type 0} (machine : Ghosts S P) → IsTaskInput seat.part.got number event.input
        → HasEvent (setting_at machine.next machine.answers machine.begin here) (7 + here.setup.number) here.part (BecomesPart here.part new sends)
    task_event machine given =
        let range = subst IsTask event.sits.named event.sits.task in
        subst (λ (z : SeatState P). HasEvent (setting_at machine.next machine.answers machine.begin z) (7 + z.setup.number) z.part (BecomesPart z.part new sends)) (sym same) (
          part_after seat.part (OfTask event.done.part) event.done.sends,
          inr (
            number,
            refl,
            record {
              task = range;
              part = event.caller.part;
              was = event.sits.is;
              input = event.input;
              given = given;
              done = event.done;
              results = event.results;
              is = refl;
            },
          ),
          λ i. part_after seat.part (OfTask (sym part_is i)) (sym sends_are i),
        )

  -- ---- once it is counted

  module _ (here : SeatState P) (same : here ≡ seat) (new : Caller) (sends : List Message) (now : SeatState P) (noted : IsNoted (BecomesPart here.part new.part sends) here now) where
    is_now : now ≡ seat_with (part_after seat.part (OfTask new.part) sends) seat
    is_now = noted.after ∙ (ap (λ (p : Part). seat_with p here) noted.picked ∙ ap (λ (z : SeatState P). seat_with (part_after z.part (OfTask new.part) sends) z) same)

    pub task_after : new.task ≡ event.caller.task → WaitsForOwn number new.part → IsTaskAt event.mine new now.setup now.part.role
    task_after stays waits =
        let sits_then : IsTaskAt event.mine new seat.setup (OfTask new.part) = record {
          task = subst IsTask (sym stays) event.sits.task;
          is = refl;
          named = stays ∙ event.sits.named;
          shared = event.sits.shared;
          waits = waits;
        } in
        subst (λ (z : SeatState P). IsTaskAt event.mine new z.setup z.part.role) (sym is_now) sits_then

    module _ (part_is : new.part ≡ event.done.part) (sends_are : sends ≡ event.done.sends) where
      after_is : now ≡ seat_with (part_after seat.part (OfTask event.done.part) event.done.sends) seat
      after_is = is_now ∙ (λ i. seat_with (part_after seat.part (OfTask (part_is i)) (sends_are i)) seat)

      pub asked_state : (sent : Sent) → DescribesPackets sent sends → IsTaskTurn seat event.input now sent
      asked_state sent describes = record {
        task = event.caller.part;
        was = event.sits.is;
        done = event.done;
        results = event.results;
        after = after_is;
        describes = subst (DescribesPackets sent) sends_are describes;
      }

      pub replied_state : (m : Message) (bytes : List ℕ) (taken : Option Answer) → event.input ≡ tasks.Take m → Has m seat.part.got → bytes ≡ text_of m → taken ≡ event.done.taken
          → IsReplyTurn seat bytes now taken
      replied_state m bytes taken takes got text stated = record {
        packet = m;
        got = got;
        text = text;
        task = event.caller.part;
        was = event.sits.is;
        done = event.done;
        results = ap (task_effect seat.setup.config number event.caller.part) (sym takes) ∙ event.results;
        after = after_is;
        stated = stated;
      }
