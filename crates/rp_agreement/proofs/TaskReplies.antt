-- How a task goes on: what it takes, and what it asks for.
use Rattle.rp_agreement.specs.Steps.{SentToo}
use Rattle.std.proofs.Common.{◌≡◌, ℕ, suc, ◌+◌, ◌-◌, ◌<◌, Bool, true, false, if◌then◌else◌, Result, Ok, Err, Option, Some, None, List, [], ◌∷◌, ◌++◌, length, map, inl, inr, refl, sym, ap, subst, ◌∙◌, arith, length-append, ◌≢◌, ◌≤◌, ◌⊎◌}
use Rattle.std.specs.Prelude.{is_some, if◌then◌else◌, nat_eq, nat_lt, nat_le, not, ◌||◌, ◌^◌}
use Rattle.std.proofs.lemmas.Bool.{cases_Bool, cond-true, cond-false, and_parts, eqb-true, ltb-true}
use Rattle.std.proofs.lemmas.List.{map-append}
use Rattle.rp_base.specs.declared.action.Action.{Action}
use Rattle.rp_base.specs.declared.action.Action.TheVariants as actions
use Rattle.rp_base.specs.declared.reply.Answer.{Answer}
use Rattle.rp_base.specs.declared.reply.Reply.{Reply}
use Rattle.rp_base.specs.declared.config.Config.{Config}
use Rattle.rp_base.specs.declared.fault.Fault.{Fault}
use Rattle.rp_base.specs.declared.fault.Fault.TheVariants.{NumbersSpent, BadConfig}
use Rattle.rp_base.specs.Action.{is_right}
use Rattle.rp_base.specs.Sets.{Has}
use Rattle.rp_base.proofs.Members.{has_split, has_mapped, mapped_has}
use Rattle.rp_codec.specs.Message.{Message}
use Rattle.rp_codec.specs.declared.packet.Party.TheVariants.{Task}
use Rattle.rp_codec.specs.declared.packet.Body.{Body}
use Rattle.rp_codec.specs.declared.packet.Body.TheVariants as bodies
use Rattle.rp_machine.specs.Calls.{CallName, calls_of, call_of}
use Rattle.rp_machine.specs.Replay.{one_to}
use Rattle.rp_model.specs.Parts.{TaskPart}
use Rattle.rp_model.specs.Effect.{Done, goes_on_as}
use Rattle.rp_base.specs.Calls.{outstanding_number}
use Rattle.rp_model.specs.Tasks.{TaskInput, Submit, Again, Take, next_call, may_call, calls_if, asks_again, takes, takes_reply, task_hears, task_effect, asks}
use Rattle.rp_agreement.specs.Asked.{Asks}
use Rattle.rp_agreement.specs.Answered.{SaysAnswer, named, IsAnswered, calls_so_far}
use Rattle.rp_agreement.proofs.Lists.{one_to_has, some_same}
use Rattle.rp_agreement.proofs.TaskEffects.{AreCalls}

same_task : {a x : ℕ} → Task a ≡ Task x → a ≡ x
same_task e = cc

pub same_call : {v w : Action} → bodies.Call v ≡ bodies.Call w → v ≡ w
same_call e = cc

-- ---- what a task takes

abbrev number_of_first : List CallName → ℕ
number_of_first [] = 0
number_of_first (call ∷ rest) = call.number

-- the number of the call that a task waits for is the next one
waits_for_next : (given : List Answer) (t : ℕ) (part : TaskPart) (waiting : Option Action) → IsAnswered given t part → part.outstanding ≡ waiting → 0 < outstanding_number waiting
    → outstanding_number waiting ≡ suc (length part.replies)
waits_for_next given t part None old is some = absurd (omega (arith, some))
waits_for_next given t part (Some actions.Noop) old is some = absurd (omega (arith, some))
waits_for_next given t part (Some (actions.Call task number object operation arg)) old is some =
    let same : (let one : CallName = record { task = task; number = number } in one ∷ []) ≡ named t (suc (length part.replies)) ∷ [] = old.waits (actions.Call task number object operation arg) is in
    ap number_of_first same
waits_for_next given t part (Some (actions.Interrupt source occurrence)) old is some = absurd (omega (arith, some))
waits_for_next given t part (Some (actions.Tick now)) old is some = absurd (omega (arith, some))

-- one reply more
one_reply_more : (given : List Answer) (t : ℕ) (part : TaskPart) (reply : Reply) → IsAnswered given t part
    → Has (record { task = t; number = suc (length part.replies); reply = reply }) given
    → (let answer : Answer = record { task = t; number = suc (length part.replies); reply = reply } in IsAnswered given t (record { outstanding = None; replies = part.replies ++ answer ∷ [] }))
one_reply_more given t part reply old stated =
    let answer : Answer = record { task = t; number = suc (length part.replies); reply = reply } in
    let long : length (part.replies ++ answer ∷ []) ≡ suc (length part.replies) = let sum : length (part.replies ++ answer ∷ []) ≡ length part.replies + 1 = length-append part.replies (answer ∷ []) in omega (arith, sum) in
    record {
      numbered =
          map-append call_of part.replies (answer ∷ [])
          ∙ ap (λ (calls : List CallName). calls ++ named t (suc (length part.replies)) ∷ []) old.numbered
          ∙ sym (map-append (named t) (one_to (length part.replies)) (suc (length part.replies) ∷ []))
          ∙ ap (λ (n : ℕ). map (named t) (one_to n)) (sym long);
      waits = λ call e. absurd (cc);
      replied = λ other h. elim (has_split other part.replies (answer ∷ []) h) [
        | inl before ↦ old.replied other before
        | inr last ↦ elim last [ inl same ↦ subst (λ (a : Answer). Has a given) (sym same) stated | inr none ↦ absurd none ]
      ];
    }

reply_taken : (given : List Answer) (t : ℕ) (part : TaskPart) (number : ℕ) (reply : Reply) → IsAnswered given t part → Has (record { task = t; number = number; reply = reply }) given
    → IsAnswered given t (takes_reply t part number reply).part
reply_taken given t part number reply old stated =
    let answer : Answer = record { task = t; number = number; reply = reply } in
    let one : Done TaskPart = record (goes_on_as (let after : TaskPart = record { outstanding = None; replies = part.replies ++ answer ∷ [] } in after)) { taken = Some answer } in
    elim (cases_Bool (takes part number)) [
      | inl hit ↦
          let both = and_parts (nat_lt 0 number) (nat_eq number (outstanding_number part.outstanding)) hit in
          let positive : 0 < number = ltb-true 0 number both.0 in
          let same : number ≡ outstanding_number part.outstanding = eqb-true number (outstanding_number part.outstanding) both.1 in
          let next : outstanding_number part.outstanding ≡ suc (length part.replies) = waits_for_next given t part part.outstanding old refl (omega (arith, positive, same)) in
          let is : number ≡ suc (length part.replies) = same ∙ next in
          subst (λ (done : Done TaskPart). IsAnswered given t done.part) (sym (cond-true (takes part number) one (goes_on_as part) hit))
          (subst (λ (n : ℕ). (let a : Answer = record { task = t; number = n; reply = reply } in IsAnswered given t (record { outstanding = None; replies = part.replies ++ a ∷ [] }))) (sym is)
          (one_reply_more given t part reply old (subst (λ (n : ℕ). Has (record { task = t; number = n; reply = reply }) given) is stated)))
      | inr miss ↦ subst (λ (done : Done TaskPart). IsAnswered given t done.part) (sym (cond-false (takes part number) one (goes_on_as part) miss)) old
    ]

-- a body comes, which is an answer if it is a reply
hears_answer : (given : List Answer) (t : ℕ) (part : TaskPart) (body : Body) → IsAnswered given t part → SaysAnswer given (Task t) body → IsAnswered given t (task_hears t part body).part
hears_answer given t part (bodies.Reply number reply) old stated = reply_taken given t part number reply old stated
hears_answer given t part _ old stated = old

-- a call that is made is the next one
abbrev IsNextIf : Action → Result Action Fault → Type 0
IsNextIf call (Ok made) = made ≡ call
IsNextIf call (Err fault) = Unit {0}

next_if : (call : Action) (b : Bool) (fault : Fault) (other : Result Action Fault) → IsNextIf call other → IsNextIf call (if b then Err fault else other)
next_if call true fault other is = tt
next_if call false fault other is = is

made_next : (config : Config) (node : ℕ) (part : TaskPart) (call : Action) (waiting : Option Action) → IsNextIf call (may_call config node part call waiting)
made_next config node part call (Some other) = tt
made_next config node part call None =
    let last : Result Action Fault = if nat_lt config.nodes node || not (is_right call) then Err BadConfig else Ok call in
    next_if call (nat_le (2 ^ 32 - 1) (length part.replies)) NumbersSpent last (next_if call (nat_lt config.nodes node || not (is_right call)) BadConfig (Ok call) refl)

abbrev pub IsAnsweredIf : List Answer → ℕ → Result (Done TaskPart) Fault → Type 0
IsAnsweredIf given t (Ok done) = IsAnswered given t done.part
IsAnsweredIf given t (Err fault) = Unit {0}

call_answered : (given : List Answer) (t node : ℕ) (part : TaskPart) (call : Action) (made : Result Action Fault) → IsAnswered given t part
    → calls_of call ≡ named t (suc (length part.replies)) ∷ [] → IsNextIf call made → IsAnsweredIf given t (calls_if t node part made)
call_answered given t node part call (Ok action) old named_so next = record {
  numbered = old.numbered;
  waits = λ other e. ap calls_of (sym (some_same e) ∙ next) ∙ named_so;
  replied = old.replied;
}
call_answered given t node part call (Err fault) old named_so next = tt

again_answered : (given : List Answer) (t node : ℕ) (part : TaskPart) (waiting : Option Action) → IsAnswered given t part → IsAnswered given t (asks_again t node part waiting).part
again_answered given t node part None old = old
again_answered given t node part (Some call) old = old

answered_if : (given : List Answer) (t : ℕ) (b : Bool) (fault : Fault) (done : Done TaskPart) → IsAnswered given t done.part → IsAnsweredIf given t (if b then Err fault else Ok done)
answered_if given t true fault done is = tt
answered_if given t false fault done is = is

pub task_answered : (config : Config) (given : List Answer) (t : ℕ) (part : TaskPart) (input : TaskInput) → IsAnswered given t part
    → ((message : Message) → input ≡ Take message → SaysAnswer given (Task t) message.body)
    → IsAnsweredIf given t (task_effect config t part input)
task_answered config given t part (Submit node object operation arg) old stated =
    let call = next_call t part object operation arg in
    call_answered given t node part call (may_call config node part call part.outstanding) old refl (made_next config node part call part.outstanding)
task_answered config given t part (Again node) old stated =
    answered_if given t (nat_lt config.nodes node) BadConfig (asks_again t node part part.outstanding) (again_answered given t node part part.outstanding old)
task_answered config given t part (Take message) old stated = hears_answer given t part message.body old (stated message refl)

-- the last reply is one of the answers
pub last_replied : (given : List Answer) (t : ℕ) (part : TaskPart) → IsAnswered given t part → 1 ≤ length part.replies → Has (named t (length part.replies)) (map call_of given)
last_replied given t part is some =
    let there = has_mapped (named t) (length part.replies) (one_to (length part.replies)) (one_to_has (length part.replies) (length part.replies) some (omega arith)) in
    let hit = mapped_has call_of (named t (length part.replies)) part.replies (subst (λ (calls : List CallName). Has (named t (length part.replies)) calls) (sym is.numbered) there) in
    subst (λ (call : CallName). Has call (map call_of given)) (sym hit.2) (has_mapped call_of hit.0 given (is.replied hit.0 hit.1))

-- ---- how a task goes on

-- A task made no call, and what it waits for it waited for before; or it waited for nothing, made one call
-- and asked for it.
pub record MadeNone (part after : TaskPart) : Type 0 where
  pub as_many : calls_so_far after ≡ calls_so_far part
  pub waits : (call : Action) → after.outstanding ≡ Some call → part.outstanding ≡ Some call

pub record MadeOne (t : ℕ) (part after : TaskPart) (sends : List Message) : Type 0 where
  pub call : Action
  pub waits : after.outstanding ≡ Some call
  pub one_more : calls_so_far after ≡ suc (calls_so_far part)
  pub node : ℕ
  pub asked : Has (asks t node call) sends

-- what a task sends is the call that it waits for, and it makes one call, takes one reply, or neither
pub record WentOn (t : ℕ) (part : TaskPart) (done : Done TaskPart) : Type 0 where
  pub sends : (m : Message) → Has m done.sends → (node : ℕ) × (call : Action) × (m ≡ asks t node call) × (done.part.outstanding ≡ Some call)
  pub makes : MadeNone part done.part ⊎ MadeOne t part done.part done.sends
  pub replies : (length done.part.replies ≡ length part.replies) ⊎ ((length done.part.replies ≡ suc (length part.replies)) × (calls_so_far part ≡ suc (length part.replies)))

abbrev pub WentOnIf : ℕ → TaskPart → Result (Done TaskPart) Fault → Type 0
WentOnIf t part (Ok done) = WentOn t part done
WentOnIf t part (Err fault) = Unit {0}

stayed : (t : ℕ) (part : TaskPart) → WentOn t part (goes_on_as part)
stayed t part = record { sends = λ m h. absurd h; makes = inl (record { as_many = refl; waits = λ call e. e }); replies = inl refl }

one_asked : (t node : ℕ) (call : Action) (after : TaskPart) → after.outstanding ≡ Some call → (m : Message) → Has m (asks t node call ∷ [])
    → (k : ℕ) × (other : Action) × (m ≡ asks t k other) × (after.outstanding ≡ Some other)
one_asked t node call after waits m h = elim h [ inl same ↦ (node, call, same, waits) | inr none ↦ absurd none ]

pub most_calls : (waiting : Option Action) (n : ℕ) → (if is_some waiting then suc n else n) ≤ suc n
most_calls None n = omega arith
most_calls (Some call) n = omega arith

-- a call is made only where the task waits for nothing
abbrev IsIdleIf : Option Action → Result Action Fault → Type 0
IsIdleIf waiting (Ok call) = waiting ≡ None
IsIdleIf waiting (Err fault) = Unit {0}

idle_if : (waiting : Option Action) (b : Bool) (fault : Fault) (other : Result Action Fault) → IsIdleIf waiting other → IsIdleIf waiting (if b then Err fault else other)
idle_if waiting true fault other is = tt
idle_if waiting false fault other is = is

made_idle : (config : Config) (node : ℕ) (part : TaskPart) (call : Action) (waiting : Option Action) → IsIdleIf waiting (may_call config node part call waiting)
made_idle config node part call (Some other) = tt
made_idle config node part call None =
    let last : Result Action Fault = if nat_lt config.nodes node || not (is_right call) then Err BadConfig else Ok call in
    idle_if None (nat_le (2 ^ 32 - 1) (length part.replies)) NumbersSpent last (idle_if None (nat_lt config.nodes node || not (is_right call)) BadConfig (Ok call) refl)

call_went : (t node : ℕ) (part : TaskPart) (made : Result Action Fault) → IsIdleIf part.outstanding made → WentOnIf t part (calls_if t node part made)
call_went t node part (Ok call) idle = record {
  sends = one_asked t node call (record part { outstanding = Some call }) refl;
  makes = inr (record {
    call = call;
    waits = refl;
    one_more = ap (λ (o : Option Action). suc (if is_some o then suc (length part.replies) else length part.replies)) (sym idle);
    node = node;
    asked = inl refl;
  });
  replies = inl refl;
}
call_went t node part (Err fault) idle = tt

again_went : (t node : ℕ) (part : TaskPart) (waiting : Option Action) → part.outstanding ≡ waiting → WentOn t part (asks_again t node part waiting)
again_went t node part None is = stayed t part
again_went t node part (Some call) is = record { sends = one_asked t node call part is; makes = inl (record { as_many = refl; waits = λ other e. e }); replies = inl refl }

went_if : (t : ℕ) (part : TaskPart) (b : Bool) (fault : Fault) (done : Done TaskPart) → WentOn t part done → WentOnIf t part (if b then Err fault else Ok done)
went_if t part true fault done is = tt
went_if t part false fault done is = is

-- a task that waits for a call of some number waits
waits_some : (waiting : Option Action) (n : ℕ) → 0 < outstanding_number waiting → (if is_some waiting then suc n else n) ≡ suc n
waits_some None n some = absurd (omega (arith, some))
waits_some (Some call) n some = refl

reply_went : (t : ℕ) (part : TaskPart) (number : ℕ) (reply : Reply) → WentOn t part (takes_reply t part number reply)
reply_went t part number reply =
    let answer : Answer = record { task = t; number = number; reply = reply } in
    let one : Done TaskPart = record (goes_on_as (let after : TaskPart = record { outstanding = None; replies = part.replies ++ answer ∷ [] } in after)) { taken = Some answer } in
    let sum : length (part.replies ++ answer ∷ []) ≡ length part.replies + 1 = length-append part.replies (answer ∷ []) in
    let long : length (part.replies ++ answer ∷ []) ≡ suc (length part.replies) = omega (arith, sum) in
    elim (cases_Bool (takes part number)) [
      | inl hit ↦
          let both = and_parts (nat_lt 0 number) (nat_eq number (outstanding_number part.outstanding)) hit in
          let positive : 0 < number = ltb-true 0 number both.0 in
          let same : number ≡ outstanding_number part.outstanding = eqb-true number (outstanding_number part.outstanding) both.1 in
          let so_far : calls_so_far part ≡ suc (length part.replies) = waits_some part.outstanding (length part.replies) (omega (arith, positive, same)) in
          subst (WentOn t part) (sym (cond-true (takes part number) one (goes_on_as part) hit)) (record {
            sends = λ m h. absurd h;
            makes = inl (record { as_many = long ∙ sym so_far; waits = λ call e. absurd (cc) });
            replies = inr (long, so_far);
          })
      | inr miss ↦ subst (WentOn t part) (sym (cond-false (takes part number) one (goes_on_as part) miss)) (stayed t part)
    ]

hears_went : (t : ℕ) (part : TaskPart) (body : Body) → WentOn t part (task_hears t part body)
hears_went t part (bodies.Reply number reply) = reply_went t part number reply
hears_went t part _ = stayed t part

pub task_went : (config : Config) (t : ℕ) (part : TaskPart) (input : TaskInput) → WentOnIf t part (task_effect config t part input)
task_went config t part (Submit node object operation arg) =
    let call = next_call t part object operation arg in
    call_went t node part (may_call config node part call part.outstanding) (made_idle config node part call part.outstanding)
task_went config t part (Again node) = went_if t part (nat_lt config.nodes node) BadConfig (asks_again t node part part.outstanding) (again_went t node part part.outstanding refl)
task_went config t part (Take message) = hears_went t part message.body

-- what others asked for is as before
pub others_ask : (t k : ℕ) (sent sent' packets : List Message) (action : Action) → k ≢ t → AreCalls t packets → SentToo packets sent sent' → Asks sent' k action → Asks sent k action
others_ask t k sent sent' packets action other calls sends asked =
    elim ((sends (asks k asked.0 action)).0 asked.1) [
      | inl old ↦ (asked.0, old)
      | inr new ↦ let bad : Task k ≡ Task t = (calls (asks k asked.0 action) new).0 in absurd (other (same_task bad))
    ]
