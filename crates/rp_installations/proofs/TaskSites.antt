-- Each move of a task, over its part in a world.
use Rattle.std.proofs.Common.{◌≡◌, ◌≢◌, ℕ, suc, ◌+◌, ◌<◌, ◌≤◌, Bool, true, false, cond, Option, Some, None, Result, Ok, Err, List, [], ◌∷◌, ◌++◌, length, map, take, drop, inl, inr, refl, sym, ap, subst, ◌∙◌, add-one, length-append, arith}
use Rattle.std.specs.Prelude.{◌^◌, nat_lt, nat_le, not, ◌&&◌, ◌||◌, is_some, ℤ, nat_eq}
use Rattle.std.proofs.lemmas.Bool.{cases_Bool, cond-true, cond-false, and_parts, eqb-true, ltb-true, lt-ltb, le-leb, le-ltb, leb-true}
use Rattle.std.proofs.lemmas.List.{append-nil, map-append}
use Rattle.rp_base.specs.Action.{is_right, is_right_operation}
use Rattle.rp_base.specs.Calls as calls
use Rattle.rp_base.specs.Calls.{are_exhausted, is_reply_to, outstanding_number}
use Rattle.rp_base.specs.Number.{IsNode, IsTask, in_range}
use Rattle.rp_base.specs.Sets.{Has}
use Rattle.rp_base.proofs.Members.{has_left, has_right}
use Rattle.rp_base.specs.declared.action.Action.{Action}
use Rattle.rp_base.specs.declared.action.Action.TheVariants.{Call}
use Rattle.rp_base.specs.declared.action.Operation.{Operation}
use Rattle.rp_base.specs.declared.action.Operation.TheVariants as operations
use Rattle.rp_base.specs.declared.config.Config.{Config}
use Rattle.rp_base.specs.declared.fault.Fault.{Fault}
use Rattle.rp_base.specs.declared.fault.Fault.TheVariants.{TaskBusy, NumbersSpent, BadConfig}
use Rattle.rp_base.specs.declared.reply.Answer.{Answer}
use Rattle.rp_base.specs.declared.reply.Reply.{Reply}
use Rattle.rp_base.specs.declared.reply.Reply.TheVariants as replies
use Rattle.rp_model.specs.rp_codec.specs.Message.{Message}
use Rattle.rp_model.specs.rp_codec.specs.Text.{text_of, reply_text}
use Rattle.rp_model.specs.rp_codec.specs.declared.packet.Body.{Body}
use Rattle.rp_model.specs.rp_codec.specs.declared.packet.Body.TheVariants as bodies
use Rattle.rp_model.specs.rp_codec.specs.declared.packet.Party.{Party}
use Rattle.rp_model.specs.rp_codec.specs.declared.packet.Party.TheVariants as parties
use Rattle.rp_model.specs.Effect.{Setting, Done, goes_on_as}
use Rattle.rp_model.specs.Events.{Event, Submit, Again, Makes, Deliver, IsRightEvent, IsOperation}
use Rattle.rp_model.specs.Parts.{TaskPart}
use Rattle.rp_model.specs.Tasks as tasks
use Rattle.rp_model.specs.Tasks.{may_call, calls_if, asks, asks_again, takes_reply, task_hears, task_effect}
use Rattle.rp_model.specs.World.{World, part_at, event_effect, task_done, task_done_if, task_takes, reaches_task, reaches, delivers, chosen_effect}
use Rattle.rp_agreement.specs.Answered.{calls_so_far}
use Rattle.rp_agreement.specs.History.{IsHistory}
use Rattle.rp_agreement.specs.Order.{AllSent}
use Rattle.rp_agreement.proofs.Lists.{has_get}
use Rattle.rp_agreement.proofs.PartPlaces.{put_there, put_beside}
use Rattle.rp_installations.proofs.Stepping.{goes_on}
use Rattle.rp_requests.specs.Buffers.{IsPutInFront}
use Rattle.rp_requests.specs.TaskRequests.{TaskAsked, MakeCall, SendAgain, TakePacket, task_asked_of}
use Rattle.rp_requests.specs.Tasks.{TaskAnswers, TaskDoes, CallPut, call_packet, again_text, is_task, outstanding_reply, reply_taken, once_taken, taken_text}
use Rattle.rp_requests.specs.declared.buffer.Lengths.{Lengths}
use Rattle.rp_requests.specs.declared.refusal.Refusal.{Refusal}
use Rattle.rp_requests.specs.rp_tasks.specs.Calls.{Calls, no_calls, refusal_of, with_reply}
use Rattle.rp_installations.specs.Making.{NoteOnly, notes_of}
use Rattle.rp_installations.specs.Sites.{TaskSite}
use Rattle.rp_installations.specs.Moves.{AnsweredRequest, IsThroughNode, answer_in, call_given, reply_given, OpensTask, AsksTask}
use Rattle.rp_installations.specs.Behind.{IsTaskOver, calls_kept}
use Rattle.rp_installations.proofs.Requested.{AllTexts, IsRightAsked, right_asked}

-- ---- the bytes of an answer

taken_whole : (text rest : List ℕ) → take (length text) (text ++ rest) ≡ text
taken_whole [] rest = refl
taken_whole (x ∷ text) rest = ap (λ (l : List ℕ). x ∷ l) (taken_whole text rest)

answer_is : (exchange : AnsweredRequest) (text before : List ℕ) (lengths : Lengths) → IsPutInFront [] text before exchange.after lengths → 0 < length text → answer_in exchange (Ok lengths) ≡ text ∷ []
answer_is exchange text before lengths put some =
    cond-true (nat_lt 0 lengths.used) (take lengths.used exchange.after ∷ []) [] (lt-ltb 0 lengths.used (omega (arith, put.used_is, some)))
    ∙ ap (λ (l : List ℕ). l ∷ []) (ap (λ (n : ℕ). take n exchange.after) put.used_is ∙ ap (take (length text)) put.front ∙ taken_whole text (drop (length text) before))

answer_none : (exchange : AnsweredRequest) (before : List ℕ) (lengths : Lengths) → IsPutInFront [] [] before exchange.after lengths → answer_in exchange (Ok lengths) ≡ []
answer_none exchange before lengths put = ap (λ (n : ℕ). cond (nat_lt 0 n) (take n exchange.after ∷ []) []) put.used_is

some_text : (m : Message) → 0 < length (text_of m)
some_text m = omega arith

some_reply : (reply : Reply) → 0 < length (reply_text reply)
some_reply (replies.Value value) = omega arith
some_reply (replies.Truth truth) = omega arith
some_reply replies.ConstraintError = omega arith
some_reply replies.ProgramError = omega arith
some_reply replies.NoSuchOperation = omega arith

-- ---- events of a task

-- what a move of a task leads to
pub record TaskMoved {S : Type 0} (s : Setting S) (events : List Event) (w : World) (t : ℕ) (after : TaskSite) (given : List (List ℕ)) : Type 0 where
  pub more : List Event
  pub world : World
  pub history : IsHistory s (events ++ more) world
  pub part : TaskPart
  pub here : part_at world.tasks t ≡ Some part
  pub others : (k : ℕ) → k ≢ t → part_at world.tasks k ≡ part_at w.tasks k
  pub nodes : world.nodes ≡ w.nodes
  pub sent : AllSent w.sent world.sent
  pub over : IsTaskOver t part after
  pub given_sent : (packet : List ℕ) → Has packet given → (m : Message) × Has m world.sent × (packet ≡ text_of m)
  pub notes : NoteOnly more []

module _ {S : Type 0} (s : Setting S) (events : List Event) (w : World) (history : IsHistory s events w) (t : ℕ) (part : TaskPart) (here : part_at w.tasks t ≡ Some part) where
  -- nothing happens
  stays : (after : TaskSite) (given : List (List ℕ)) → IsTaskOver t part after → given ≡ [] → TaskMoved s events w t after given
  stays after given over none = record {
    more = [];
    world = w;
    history = subst (λ (es : List Event). IsHistory s es w) (sym (append-nil events)) history;
    part = part;
    here = here;
    others = λ k other. refl;
    nodes = refl;
    sent = λ m has. has;
    over = over;
    given_sent = λ packet has. absurd (subst (λ (l : List (List ℕ)). Has packet l) none has);
    notes = λ event none. absurd none;
  }

  -- one event
  happens : (event : Event) (done : Done TaskPart) (after : TaskSite) (given : List (List ℕ)) → notes_of event ≡ [] → IsRightEvent event → event_effect s w event ≡ Ok (task_done w t done) → IsTaskOver t done.part after
      → ((packet : List ℕ) → Has packet given → (m : Message) × Has m done.sends × (packet ≡ text_of m)) → TaskMoved s events w t after given
  happens event done after given quiet right effect over gives = record {
    notes = λ other has v there. elim has [ inl same ↦ subst (λ (l : List Action). Has v l) quiet (subst (λ (e : Event). Has v (notes_of e)) same there) | inr none ↦ absurd none ];
    more = event ∷ [];
    world = (task_done w t done).world;
    history = goes_on s events w history event (task_done w t done) right effect;
    part = done.part;
    here = put_there w.tasks t part done.part here;
    others = λ k other. put_beside w.tasks t k done.part other;
    nodes = refl;
    sent = λ m has. has_left m w.sent done.sends has;
    over = over;
    given_sent = λ packet has. (let g = gives packet has in (g.0, has_right g.0 w.sent done.sends g.1, g.2));
  }

-- the packet of a call alone
one_given : (given : List (List ℕ)) (m : Message) → given ≡ text_of m ∷ [] → (packet : List ℕ) → Has packet given → (n : Message) × Has n (m ∷ []) × (packet ≡ text_of n)
one_given given m is packet has = elim (subst (λ (l : List (List ℕ)). Has packet l) is has) [ inl same ↦ (m, inl refl, same) | inr none ↦ absurd none ]

-- ---- a task that is opened

over_opened : (t : ℕ) (before after : TaskSite) (part : TaskPart) → IsTaskOver t part before → OpensTask t before after → IsTaskOver t part after
over_opened t before after part over o =
    let fresh = over.unopened o.once in
    subst (IsTaskOver t part) (sym o.goes) (record {
      unopened = λ none. absurd (cc);
      opened = λ known is. let same : no_calls t ≡ known = cc in sym same ∙ ap (calls_kept t) (sym fresh);
      replies = over.replies;
    })

pub opens_task : {S : Type 0} (s : Setting S) (events : List Event) (w : World) (history : IsHistory s events w) (t : ℕ) (part : TaskPart) (here : part_at w.tasks t ≡ Some part) (before after : TaskSite) (given : List (List ℕ))
    → IsTaskOver t part before → OpensTask t before after → given ≡ [] → TaskMoved s events w t after given
opens_task s events w history t part here before after given over o none = stays s events w history t part here after given (over_opened t before after part over o) none

-- ---- a task that is asked

-- the site after an answer
abbrev after_answer : AnsweredRequest → TaskSite → Option TaskAsked → Calls → TaskSite
after_answer exchange before asked new = record { task = Some new; replies = before.replies ++ reply_given exchange asked }

is_task_of : (t : ℕ) (party : Party) → is_task t party ≡ true → party ≡ parties.Task t
is_task_of t (parties.Task k) e = ap (λ (n : ℕ). parties.Task n) (eqb-true k t e)
is_task_of t (parties.Node k) e = absurd (cc)
is_task_of t parties.Audit e = absurd (cc)

index_in : (low high index : ℕ) → in_range low high index ≡ true → high ≤ 8 → index < 2 ^ 8
index_in low high index e small = let both = and_parts (nat_le low index) (nat_le index high) e in let top = leb-true index high both.1 in omega (arith, top, small)

operation_in : (operation : Operation) → is_right_operation operation ≡ true → IsOperation operation
operation_in (operations.Function index) e = index_in 1 8 index e (omega arith)
operation_in (operations.Procedure index) e = index_in 1 8 index e (omega arith)
operation_in (operations.Entry index) e = index_in 1 4 index e (omega arith)
operation_in (operations.SetTimer index) e = index_in 1 8 index e (omega arith)
operation_in (operations.CancelTimer index) e = index_in 1 8 index e (omega arith)

both_true : (x y : Bool) → x ≡ true → y ≡ true → (x && y) ≡ true
both_true x y a b = ap (λ (z : Bool). z && y) a ∙ b

right_call : (t number object : ℕ) (operation : Operation) (arg : ℤ) → IsTask t → in_range 1 8 object ≡ true → is_right_operation operation ≡ true → is_right (Call t (suc number) object operation arg) ≡ true
right_call t number object operation arg task index right =
    both_true (in_range 1 8 t && nat_le 1 (suc number) && in_range 1 8 object) (is_right_operation operation)
    (both_true (in_range 1 8 t && nat_le 1 (suc number)) (in_range 1 8 object)
    (both_true (in_range 1 8 t) (nat_le 1 (suc number)) (both_true (nat_le 1 t) (nat_le t 8) (le-leb 1 t task.0) (le-leb t 8 task.1)) (le-leb 1 (suc number) (omega arith))) index) right

not_below : (n k : ℕ) → k ≤ n → nat_lt n k ≡ false
not_below n k h = le-ltb n k h

-- the call is made by the task of the world too
may_be_called : (config : Config) (node : ℕ) (part : TaskPart) (call : Action) → are_exhausted (length part.replies) ≡ false → node ≤ config.nodes → is_right call ≡ true → may_call config node part call None ≡ Ok call
may_be_called config node part call more within right =
    cond-false (are_exhausted (length part.replies)) (Err NumbersSpent) (cond (nat_lt config.nodes node || not (is_right call)) (Err BadConfig) (Ok call)) more
    ∙ cond-false (nat_lt config.nodes node || not (is_right call)) (Err BadConfig) (Ok call)
    (ap (λ (b : Bool). b || not (is_right call)) (not_below config.nodes node within) ∙ ap (λ (b : Bool). false || not b) right)

if_none : (b : Bool) (x : Fault) → cond b (Some x) None ≡ None → b ≡ false
if_none true x e = absurd (cc)
if_none false x e = refl

-- a reply is to a call that has none
number_some : (number : ℕ) (outstanding : Option Action) → is_reply_to number outstanding ≡ true → is_some outstanding ≡ true
number_some number (Some call) e = refl
number_some number None e =
    let both = and_parts (nat_lt 0 number) (nat_eq number 0) e in
    let zero_is = eqb-true number 0 both.1 in
    let above = ltb-true 0 number both.0 in
    absurd (omega (arith, zero_is, above))

module _ {S : Type 0} (s : Setting S) (events : List Event) (w : World) (history : IsHistory s events w) (t : ℕ) (task : IsTask t) (outstanding : Option Action) (answered : List Answer) (exchange : AnsweredRequest) (before : TaskSite) where
  abbrev part_is : TaskPart
  part_is = record { outstanding = outstanding; replies = answered }

  module _ (here : part_at w.tasks t ≡ Some part_is) (replied : before.replies ≡ map (λ answer. reply_text answer.reply) answered) where
    -- the same calls, and no reply
    same_over : (asked : Option TaskAsked) (new : Calls) → new ≡ calls_kept t part_is → reply_given exchange asked ≡ [] → IsTaskOver t part_is (after_answer exchange before asked new)
    same_over asked new same none = record {
      unopened = λ e. absurd (cc);
      opened = λ known is. let k : new ≡ known = cc in sym k ∙ same;
      replies = ap (λ (l : List (List ℕ)). before.replies ++ l) none ∙ append-nil before.replies ∙ replied;
    }

    -- nothing changed
    unchanged : (asked : Option TaskAsked) (new : Calls) (given : List (List ℕ)) → new ≡ calls_kept t part_is → reply_given exchange asked ≡ [] → given ≡ call_given exchange asked → call_given exchange asked ≡ [] → TaskMoved s events w t (after_answer exchange before asked new) given
    unchanged asked new given same none gives silent = stays s events w history t part_is here (after_answer exchange before asked new) given (same_over asked new same none) (gives ∙ silent)

    -- a call is made
    calls_on : (waits : Option Action) → outstanding ≡ waits → (node object : ℕ) (operation : Operation) (arg : ℤ) (new : Calls) (given : List (List ℕ)) (lengths : Lengths)
        → IsRightAsked w.sent (Some (MakeCall node object operation arg)) → node ≤ s.config.nodes → exchange.result ≡ Ok lengths
        → CallPut (calls.next_call t (calls_so_far part_is) object operation arg) node (calls_kept t part_is) new exchange.before exchange.after lengths → given ≡ call_given exchange (Some (MakeCall node object operation arg))
        → TaskMoved s events w t (after_answer exchange before (Some (MakeCall node object operation arg)) new) given
    calls_on (Some other) is node object operation arg new given lengths right within done put gives =
        let busy : refusal_of (calls_kept t part_is) ≡ Some TaskBusy = ap (λ (o : Option Action). cond (is_some o) (Some TaskBusy) (cond (are_exhausted (calls_so_far part_is)) (Some NumbersSpent) None)) is in
        let no : refusal_of (calls_kept t part_is) ≡ None = put.may in
        absurd (cc)
    calls_on None is node object operation arg new given lengths right within done put gives =
        let made : calls_so_far part_is ≡ length answered = ap (λ (o : Option Action). cond (is_some o) (suc (length answered)) (length answered)) is in
        let call = Call t (suc (length answered)) object operation arg in
        let asked = calls.next_call t (calls_so_far part_is) object operation arg in
        let same : asked ≡ call = ap (λ (n : ℕ). Call t (suc n) object operation arg) made in
        let free : cond (are_exhausted (calls_so_far part_is)) (Some NumbersSpent) None ≡ None = sym (ap (λ (o : Option Action). cond (is_some o) (Some TaskBusy) (cond (are_exhausted (calls_so_far part_is)) (Some NumbersSpent) None)) is) ∙ put.may in
        let more : are_exhausted (length answered) ≡ false = sym (ap are_exhausted made) ∙ if_none (are_exhausted (calls_so_far part_is)) NumbersSpent free in
        let after : TaskPart = record { outstanding = Some call; replies = answered } in
        let done_is : Done TaskPart = record (goes_on_as after) { sends = asks t node call ∷ [] } in
        let may : may_call s.config node part_is call outstanding ≡ Ok call = ap (may_call s.config node part_is call) is ∙ may_be_called s.config node part_is call more within (right_call t (length answered) object operation arg task right.2 right.3) in
        let effect : task_effect s.config t part_is (tasks.Submit node object operation arg) ≡ Ok done_is = ap (calls_if t node part_is) may in
        happens s events w history t part_is here (Submit t node object operation arg) done_is (after_answer exchange before (Some (MakeCall node object operation arg)) new) given refl
        (task, right.0, (let top = right.1.1 in omega (arith, top)), operation_in operation right.3, right.4)
        (ap (task_takes s.config w t (tasks.Submit node object operation arg)) here ∙ ap (task_done_if w t) effect)
        (record {
          unopened = λ e. absurd (cc);
          opened = λ known e. let k : new ≡ known = cc in sym k ∙ put.goes ∙ (λ i. (let c : Calls = record { task = t; made = (ap (λ (n : ℕ). n + 1) made ∙ add-one (length answered)) i; outstanding = Some (same i) } in c));
          replies = append-nil before.replies ∙ replied;
        })
        (one_given given (asks t node call) (gives ∙ ap (answer_in exchange) done ∙ answer_is exchange (text_of (call_packet t node asked)) exchange.before lengths put.put (some_text (call_packet t node asked)) ∙ ap (λ (a : Action). text_of (call_packet t node a) ∷ []) same))

    -- it asks again
    asks_on : (waits : Option Action) → outstanding ≡ waits → (node : ℕ) (new : Calls) (given : List (List ℕ)) (lengths : Lengths) → IsNode node → node ≤ s.config.nodes → exchange.result ≡ Ok lengths → new ≡ calls_kept t part_is
        → IsPutInFront [] (again_text t node outstanding) exchange.before exchange.after lengths → given ≡ call_given exchange (Some (SendAgain node)) → TaskMoved s events w t (after_answer exchange before (Some (SendAgain node)) new) given
    asks_on None is node new given lengths right within done same put gives =
        unchanged (Some (SendAgain node)) new given same refl gives
        (ap (answer_in exchange) done ∙ answer_none exchange exchange.before lengths (subst (λ (o : Option Action). IsPutInFront [] (again_text t node o) exchange.before exchange.after lengths) is put))
    asks_on (Some call) is node new given lengths right within done same put gives =
        let done_is : Done TaskPart = record (goes_on_as part_is) { sends = asks t node call ∷ [] } in
        let effect : task_effect s.config t part_is (tasks.Again node) ≡ Ok done_is =
        cond-false (nat_lt s.config.nodes node) (Err BadConfig) (Ok (asks_again t node part_is outstanding)) (not_below s.config.nodes node within) ∙ ap (λ (o : Option Action). Ok (asks_again t node part_is o)) is in
        happens s events w history t part_is here (Again t node) done_is (after_answer exchange before (Some (SendAgain node)) new) given refl (task, right)
        (ap (task_takes s.config w t (tasks.Again node)) here ∙ ap (task_done_if w t) effect)
        (same_over (Some (SendAgain node)) new same refl)
        (one_given given (asks t node call) (gives ∙ ap (answer_in exchange) done ∙ answer_is exchange (text_of (call_packet t node call)) exchange.before lengths (subst (λ (o : Option Action). IsPutInFront [] (again_text t node o) exchange.before exchange.after lengths) is put) (some_text (call_packet t node call))))

    -- a packet with no reply for it
    ignores : (packet : List ℕ) (m : Message) (new : Calls) (given : List (List ℕ)) (lengths : Lengths) → exchange.result ≡ Ok lengths → new ≡ once_taken (calls_kept t part_is) (reply_taken (calls_kept t part_is) m)
        → IsPutInFront [] (taken_text (reply_taken (calls_kept t part_is) m)) exchange.before exchange.after lengths → given ≡ [] → reply_taken (calls_kept t part_is) m ≡ None
        → TaskMoved s events w t (after_answer exchange before (Some (TakePacket packet)) new) given
    ignores packet m new given lengths done goes put gives none =
        unchanged (Some (TakePacket packet)) new given (goes ∙ ap (once_taken (calls_kept t part_is)) none)
        (ap (answer_in exchange) done ∙ answer_none exchange exchange.before lengths (subst (λ (o : Option Reply). IsPutInFront [] (taken_text o) exchange.before exchange.after lengths) none put)) gives refl

    -- a reply is taken
    takes_on : (packet : List ℕ) (m : Message) (number : ℕ) (reply : Reply) (new : Calls) (given : List (List ℕ)) (lengths : Lengths) → Has m w.sent → m.to ≡ parties.Task t → m.body ≡ bodies.Reply number reply → is_reply_to number outstanding ≡ true
        → exchange.result ≡ Ok lengths → new ≡ with_reply (calls_kept t part_is) → IsPutInFront [] (reply_text reply) exchange.before exchange.after lengths → given ≡ []
        → TaskMoved s events w t (after_answer exchange before (Some (TakePacket packet)) new) given
    takes_on packet m number reply new given lengths sent to body is done goes put gives =
        let answer : Answer = record { task = t; number = number; reply = reply } in
        let after : TaskPart = record { outstanding = None; replies = answered ++ answer ∷ [] } in
        let done_is : Done TaskPart = record (goes_on_as after) { taken = Some answer } in
        let found = has_get w.sent m sent in
        let hears : task_hears t part_is m.body ≡ done_is = ap (task_hears t part_is) body ∙ cond-true (is_reply_to number outstanding) done_is (goes_on_as part_is) is in
        let made : calls_so_far part_is ≡ length (answered ++ answer ∷ []) = ap (λ (b : Bool). cond b (suc (length answered)) (length answered)) (number_some number outstanding is) ∙ omega (arith, length-append answered (answer ∷ [])) in
        let text : Answer → List ℕ = λ a. reply_text a.reply in
        happens s events w history t part_is here (Makes (Deliver (suc found.0))) done_is (after_answer exchange before (Some (TakePacket packet)) new) given refl tt
        (ap (chosen_effect s w) (ap (delivers w) found.1 ∙ ap (reaches w m) to ∙ ap (reaches_task t m) here) ∙ ap (λ (d : Done TaskPart). task_done_if w t (Ok d)) hears)
        (record {
          unopened = λ e. absurd (cc);
          opened = λ known e. let k : new ≡ known = cc in sym k ∙ goes ∙ (λ i. (let c : Calls = record { task = t; made = made i; outstanding = None } in c));
          replies = ap (λ (l : List (List ℕ)). before.replies ++ l) (ap (answer_in exchange) done ∙ answer_is exchange (reply_text reply) exchange.before lengths put (some_reply reply))
              ∙ ap (λ (l : List (List ℕ)). l ++ reply_text reply ∷ []) replied ∙ sym (map-append text answered (answer ∷ []));
        })
        (λ p has. absurd (subst (λ (l : List (List ℕ)). Has p l) gives has))

    reply_or : (packet : List ℕ) (m : Message) (body : Body) (new : Calls) (given : List (List ℕ)) (lengths : Lengths) → Has m w.sent → m.to ≡ parties.Task t → m.body ≡ body
        → exchange.result ≡ Ok lengths → new ≡ once_taken (calls_kept t part_is) (outstanding_reply (calls_kept t part_is) body) → IsPutInFront [] (taken_text (outstanding_reply (calls_kept t part_is) body)) exchange.before exchange.after lengths → given ≡ []
        → reply_taken (calls_kept t part_is) m ≡ outstanding_reply (calls_kept t part_is) body
        → TaskMoved s events w t (after_answer exchange before (Some (TakePacket packet)) new) given
    reply_or packet m (bodies.Reply number reply) new given lengths sent to is done goes put gives taken =
        elim (cases_Bool (is_reply_to number outstanding)) [
          | inl own ↦
              let some : outstanding_reply (calls_kept t part_is) (bodies.Reply number reply) ≡ Some reply = cond-true (is_reply_to number outstanding) (Some reply) None own in
              takes_on packet m number reply new given lengths sent to is own done (goes ∙ ap (once_taken (calls_kept t part_is)) some) (subst (λ (o : Option Reply). IsPutInFront [] (taken_text o) exchange.before exchange.after lengths) some put) gives
          | inr other ↦
              let none : outstanding_reply (calls_kept t part_is) (bodies.Reply number reply) ≡ None = cond-false (is_reply_to number outstanding) (Some reply) None other in
              ignores packet m new given lengths done (goes ∙ ap (once_taken (calls_kept t part_is)) (sym taken)) (subst (λ (o : Option Reply). IsPutInFront [] (taken_text o) exchange.before exchange.after lengths) (sym taken) put) gives (taken ∙ none)
        ]
    reply_or packet m other new given lengths sent to is done goes put gives taken =
        ignores packet m new given lengths done (goes ∙ ap (once_taken (calls_kept t part_is)) (sym taken)) (subst (λ (o : Option Reply). IsPutInFront [] (taken_text o) exchange.before exchange.after lengths) (sym taken) put) gives taken

    packet_on : (packet : List ℕ) (m : Message) (new : Calls) (given : List (List ℕ)) (lengths : Lengths) → Has m w.sent
        → exchange.result ≡ Ok lengths → new ≡ once_taken (calls_kept t part_is) (reply_taken (calls_kept t part_is) m) → IsPutInFront [] (taken_text (reply_taken (calls_kept t part_is) m)) exchange.before exchange.after lengths → given ≡ []
        → TaskMoved s events w t (after_answer exchange before (Some (TakePacket packet)) new) given
    packet_on packet m new given lengths sent done goes put gives =
        elim (cases_Bool (is_task t m.to)) [
          | inl own ↦
              let taken : reply_taken (calls_kept t part_is) m ≡ outstanding_reply (calls_kept t part_is) m.body = cond-true (is_task t m.to) (outstanding_reply (calls_kept t part_is) m.body) None own in
              reply_or packet m m.body new given lengths sent (is_task_of t m.to own) refl done (goes ∙ ap (once_taken (calls_kept t part_is)) taken) (subst (λ (o : Option Reply). IsPutInFront [] (taken_text o) exchange.before exchange.after lengths) taken put) gives taken
          | inr foreign ↦ ignores packet m new given lengths done goes put gives (cond-false (is_task t m.to) (outstanding_reply (calls_kept t part_is) m.body) None foreign)
        ]

    -- ---- whatever is asked

    does : (asked : Option TaskAsked) (new : Calls) (given : List (List ℕ)) (result : Result Lengths Refusal) → exchange.result ≡ result → IsRightAsked w.sent asked → IsThroughNode s.config.nodes asked
        → TaskDoes asked (calls_kept t part_is) new exchange.before exchange.after result → given ≡ call_given exchange asked → TaskMoved s events w t (after_answer exchange before asked new) given
    does None new given result is right through d gives = unchanged None new given d.0.task refl gives refl
    does (Some (MakeCall node object operation arg)) new given (Ok lengths) is right through d gives = calls_on outstanding refl node object operation arg new given lengths right through is d gives
    does (Some (MakeCall node object operation arg)) new given (Err refusal) is right through d gives = unchanged (Some (MakeCall node object operation arg)) new given d.0.task refl gives (ap (answer_in exchange) is)
    does (Some (SendAgain node)) new given (Ok lengths) is right through d gives = asks_on outstanding refl node new given lengths right through is d.0 d.1 gives
    does (Some (SendAgain node)) new given (Err refusal) is right through d gives = absurd d
    does (Some (TakePacket packet)) new given (Ok lengths) is right through d gives = packet_on packet d.packet new given lengths (right d.packet d.is) is d.goes d.put gives
    does (Some (TakePacket packet)) new given (Err refusal) is right through d gives = unchanged (Some (TakePacket packet)) new given d.0.task (ap (answer_in exchange) is) gives refl

    silent : (asked : Option TaskAsked) (refusal : Refusal) → exchange.result ≡ Err refusal → (reply_given exchange asked ≡ []) × (call_given exchange asked ≡ [])
    silent None refusal is = (refl, refl)
    silent (Some (MakeCall node object operation arg)) refusal is = (refl, ap (answer_in exchange) is)
    silent (Some (SendAgain node)) refusal is = (refl, ap (answer_in exchange) is)
    silent (Some (TakePacket packet)) refusal is = (ap (answer_in exchange) is, refl)

    pub answers : (asked : Option TaskAsked) (new : Calls) (given : List (List ℕ)) → IsRightAsked w.sent asked → IsThroughNode s.config.nodes asked
        → TaskAnswers asked (calls_kept t part_is) new exchange.before exchange.after exchange.result → given ≡ call_given exchange asked → TaskMoved s events w t (after_answer exchange before asked new) given
    answers asked new given right through a gives =
        elim a [
          | inl short ↦ let quiet = silent asked _ short.is in unchanged asked new given short.same.task quiet.0 gives quiet.1
          | inr room ↦ does asked new given exchange.result refl right through room.1 gives
        ]

pub asks_task : {S : Type 0} (s : Setting S) (events : List Event) (w : World) (history : IsHistory s events w) (t : ℕ) (task : IsTask t) (part : TaskPart) (here : part_at w.tasks t ≡ Some part) (handed : List (List ℕ))
    → AllTexts handed w.sent → (before after : TaskSite) (given : List (List ℕ)) → IsTaskOver t part before → AsksTask s.config.nodes handed before after given → TaskMoved s events w t after given
asks_task s events w history t task part here handed all before after given over a =
    let kept : a.old ≡ calls_kept t part = over.opened a.old a.opened in
    let asked = task_asked_of a.exchange.request in
    subst (λ (site : TaskSite). TaskMoved s events w t site given) (sym a.goes)
    (answers s events w history t task part.outstanding part.replies a.exchange before here over.replies asked a.new given
    (right_asked handed w.sent a.exchange.request all a.bytes a.arrived) a.through
    (subst (λ (c : Calls). TaskAnswers asked c a.new a.exchange.before a.exchange.after a.exchange.result) kept a.answers) a.gives)
