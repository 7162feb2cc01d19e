-- What the steps of a task's loop do to the calls that it made.
use Rattle.std.proofs.Common.{◌≡◌, ℕ, ◌+◌, ◌<◌, ◌≤◌, Bool, true, false, ◌&&◌, ◌||◌, not, nat_lt, nat_eq, Option, Some, None, Result, Ok, Err, List, ℤ, [], ◌∷◌, ◌++◌, length, is_some, slice_get, inl, inr, refl, sym, ap, subst, ◌∙◌, arith, add-one, length-append, if◌then◌else◌}
use borrow.Author.Count.{below_more}
use Rattle.std.proofs.lemmas.Grind.{common_steps}
use Rattle.std.proofs.lemmas.Option.{slice_get_within}
use Rattle.rp_base.specs.Calls.{are_exhausted, is_reply_to, next_call}
use Rattle.rp_base.specs.Action.{is_right}
use Rattle.rp_base.specs.Sets.{Has}
use Rattle.rp_base.specs.declared.action.Action.{Action}
use Rattle.rp_base.specs.declared.action.Operation.{Operation}
use Rattle.rp_base.specs.declared.config.Config.{Config}
use Rattle.rp_base.specs.declared.fault.Fault.{Fault}
use Rattle.rp_base.specs.declared.fault.Fault.TheVariants.{NumbersSpent, BadConfig}
use Rattle.rp_base.specs.declared.reply.Answer.{Answer}
use Rattle.rp_base.specs.declared.reply.Reply.{Reply}
use Rattle.rp_base.proofs.Members.{has_left, has_right, has_split}
use Rattle.rp_codec.specs.Message.{Message}
use Rattle.rp_codec.specs.declared.packet.Party.TheVariants.{Task}
use Rattle.rp_replica.specs.rp_model.specs.Effect.{Done, goes_on_as}
use Rattle.rp_replica.specs.rp_model.specs.Parts.{TaskPart, fresh_task}
use Rattle.rp_replica.specs.rp_model.specs.Tasks.{TaskInput, Submit, Again, asks, may_call, calls_if, asks_again, task_hears}
use Rattle.rp_replica.specs.declared.sent.Sent.{Sent}
use Rattle.rp_board.specs.Parts.{Part, Role, OfTask, part_after, with_got, fresh_part}
use Rattle.rp_board.specs.Seats.{SeatState}
use Rattle.rp_boxes.specs.rp_actors.specs.Going.{reply_in}
use Rattle.rp_boxes.specs.TaskSeats.{IsTaskTurn, IsReplyTurn, reply_effect}
use Rattle.rp_boxes.proofs.TaskTurns.{reply_effect_is, reply_quiet}
use Rattle.rp_threads.specs.Tasks.{Waits, AsksForOne, call_after, first_asked, HasMade}
use Rattle.rp_threads.specs.TaskRounds.{IsAskedBy}
use Rattle.rp_threads.specs.Turns.{AreGivenOut, AreSent, IsAllOffered}
use Rattle.rp_threads.specs.declared.tasks.TaskCall.{TaskCall}
use Rattle.rp_threads.proofs.Puts.{HasOnlyPut, offers_put}
use Rattle.rp_threads.proofs.Steps.{given_out, stepped_got, stepped_same}

pub same_task : (role : Role) (a b : TaskPart) → role ≡ OfTask a → role ≡ OfTask b → a ≡ b
same_task role a b is_a is_b = let e : OfTask a ≡ OfTask b = sym is_a ∙ is_b in cc

-- ---- what is taken

-- a task that waits for nothing takes no reply
none_taken : (n : ℕ) → (nat_lt 0 n && nat_eq n 0) ≡ true → ⊥
none_taken n is = grind (arith, common_steps)

-- n calls were made and it waits so, and they are as many after it got something
abbrev IsSame : ℕ → List TaskCall → Bool → ℕ → Done TaskPart → Type 0
IsSame task calls waits made done =
    let still = if is_some done.taken then false else waits in
    (length done.part.replies + (if still then 1 else 0) ≡ made) × Waits task calls made still done.part.outstanding

module _ (number n : ℕ) (reply : Reply) (replies : List Answer) (calls : List TaskCall) (made : ℕ) where
  abbrev answer : Answer
  answer = record { task = number; number = n; reply = reply }

  abbrev ended : TaskPart
  ended = record { outstanding = None; replies = replies ++ answer ∷ [] }

  abbrev stated_by : Option Action → Bool → Done TaskPart
  stated_by outstanding b =
      if b then record (goes_on_as ended) { taken = Some answer } else goes_on_as (record { outstanding = outstanding; replies = replies })

  taken_same : (waits : Bool) (outstanding : Option Action) (b : Bool) → is_reply_to n outstanding ≡ b → length replies + (if waits then 1 else 0) ≡ made
      → Waits number calls made waits outstanding → IsSame number calls waits made (stated_by outstanding b)
  taken_same true (Some call) true is count w = (omega (arith, length-append replies (answer ∷ []), count), refl)
  taken_same true (Some call) false is count w = (count, w)
  taken_same true None b is count w = absurd (let clash = w.4 in cc)
  taken_same false (Some call) b is count w = absurd (cc)
  taken_same false None true is count w = absurd (none_taken n is)
  taken_same false None false is count w = (count, w)

stated_same : (number : ℕ) (task : TaskPart) (stated : Option (ℕ × Reply)) (calls : List TaskCall) (made : ℕ) (waits : Bool) → length task.replies + (if waits then 1 else 0) ≡ made
    → Waits number calls made waits task.outstanding → IsSame number calls waits made (reply_effect number task stated)
stated_same number task None calls made waits count w = (count, w)
stated_same number task (Some stated) calls made waits count w =
    taken_same number stated.0 stated.1 task.replies calls made waits task.outstanding (is_reply_to stated.0 task.outstanding) refl count w

-- ---- what is asked

-- the task makes the call
abbrev calling : ℕ → ℕ → TaskPart → Action → Done TaskPart
calling number node task call = record (goes_on_as (record task { outstanding = Some call })) { sends = asks number node call ∷ [] }

module _ (number node : ℕ) (task : TaskPart) (call : Action) (done : Done TaskPart) where
  tested : (skipped over : Bool) → calls_if number node task (if skipped then Err NumbersSpent else if over then Err BadConfig else Ok call) ≡ Ok done → done ≡ calling number node task call
  tested true over is = absurd (cc)
  tested false true is = absurd (cc)
  tested false false is = cc

  called : (config : Config) (outstanding : Option Action) → outstanding ≡ None → calls_if number node task (may_call config node task call outstanding) ≡ Ok done
      → done ≡ calling number node task call
  called config (Some other) w is = absurd (cc)
  called config None w is = tested (are_exhausted (length task.replies)) (nat_lt config.nodes node || not (is_right call)) is

asked_part : (number node : ℕ) (task : TaskPart) (outstanding : Option Action) → (asks_again number node task outstanding).part ≡ task
asked_part number node task None = refl
asked_part number node task (Some other) = refl

asked : (number node : ℕ) (task : TaskPart) (done : Done TaskPart) (over : Bool) → (if over then Err BadConfig else Ok (asks_again number node task task.outstanding)) ≡ Ok done
    → done ≡ asks_again number node task task.outstanding
asked number node task done true is = absurd (cc)
asked number node task done false is = cc

-- ---- the seat

module _ {P : Type 0} (calls : List TaskCall) (old new : SeatState P) where
  -- a packet was fetched
  pub fetched_made : (m : Message) (made : ℕ) (waits : Bool) → new ≡ record old { part = with_got m old.part } → HasMade calls old made waits → HasMade calls new made waits
  fetched_made m made waits is h =
      subst (λ (c : SeatState P). HasMade calls c made waits) (sym is)
      (record { task = h.task; is = h.is; some = h.some; each = h.each; only = h.only; count = h.count; waiting = h.waiting })

  -- the task put packets
  pub put_made : (made : ℕ) (waits : Bool) → HasOnlyPut old new → HasMade calls old made waits → HasMade calls new made waits
  put_made made waits puts h =
      subst (λ (c : SeatState P). HasMade calls c made waits) (sym puts.after)
      (record { task = h.task; is = h.is; some = h.some; each = h.each; only = h.only; count = h.count; waiting = h.waiting })

  -- an event, after which n were made
  module _ (task : TaskPart) (sends : List Message) (is : new ≡ record old { part = part_after old.part (OfTask task) sends }) where
    event_made : (made : ℕ) (waits : Bool) → made ≤ length calls
        → ((k : ℕ) (call : TaskCall) → k < made → slice_get calls k ≡ Some call → Has (first_asked old.setup.number k call) (old.part.sent ++ sends))
        → ((p : Message) → Has p (old.part.sent ++ sends) → AsksForOne old.setup.number calls made p)
        → length task.replies + (if waits then 1 else 0) ≡ made → Waits old.setup.number calls made waits task.outstanding → HasMade calls new made waits
    event_made made waits some each only count waiting =
        subst (λ (c : SeatState P). HasMade calls c made waits) (sym is)
        (record { task = task; is = refl; some = some; each = each; only = only; count = count; waiting = waiting })

    -- as many as before, where what is sent asks for one of them
    still_made : (made : ℕ) (before waits : Bool) → HasMade calls old made before → ((p : Message) → Has p sends → AsksForOne old.setup.number calls made p)
        → length task.replies + (if waits then 1 else 0) ≡ made → Waits old.setup.number calls made waits task.outstanding → HasMade calls new made waits
    still_made made before waits h more count waiting =
        event_made made waits h.some (λ k call less at. has_left (first_asked old.setup.number k call) old.part.sent sends (h.each k call less at))
        (λ p has. elim (has_split p old.part.sent sends has) [ inl there ↦ h.only p there | inr here ↦ more p here ])
        count waiting

  -- a packet arrived at the task
  pub heard_made : (bytes : List ℕ) (taken : Option Answer) (made : ℕ) (waits : Bool) → IsReplyTurn old bytes new taken → HasMade calls old made waits
      → HasMade calls new made (if is_some taken then false else waits)
  heard_made bytes taken made waits r h =
      let stated = reply_in r.packet.body in
      let task : r.task ≡ h.task = same_task old.part.role r.task h.task r.was h.is in
      let hears : task_hears old.setup.number r.task r.packet.body ≡ r.done = let e = r.results in cc in
      let done : reply_effect old.setup.number h.task stated ≡ r.done =
      ap (λ (t : TaskPart). reply_effect old.setup.number t stated) (sym task) ∙ reply_effect_is old.setup.number r.task r.packet.body ∙ hears in
      let same = subst (IsSame old.setup.number calls waits made) done (stated_same old.setup.number h.task stated calls made waits h.count h.waiting) in
      let quiet : r.done.sends ≡ [] = ap (λ (d : Done TaskPart). d.sends) (sym done) ∙ reply_quiet old.setup.number h.task stated in
      subst (λ (a : Option Answer). HasMade calls new made (if is_some a then false else waits)) (sym r.stated)
      (still_made r.done.part r.done.sends r.after made waits (if is_some r.done.taken then false else waits) h
      (λ p has. absurd (subst (λ (l : List Message). Has p l) quiet has)) same.0 same.1)

  -- what is asked again asks for the last call
  again_asks : (node made : ℕ) (waits : Bool) (task : TaskPart) (outstanding : Option Action) → Waits old.setup.number calls made waits outstanding
      → (p : Message) → Has p (asks_again old.setup.number node task outstanding).sends → AsksForOne old.setup.number calls made p
  again_asks node made waits task None w p has = absurd has
  again_asks node made false task (Some call) w p has = absurd (cc)
  again_asks node made true task (Some call) w p has =
      let last : p ≡ asks old.setup.number node call = elim has [ inl is ↦ is | inr none ↦ absurd none ] in
      let own : call ≡ call_after old.setup.number w.0 w.1 = let e = w.4 in cc in
      (w.0, w.1, node, (let e = w.2 in omega (arith, e)), w.3, last ∙ ap (λ (a : Action). asks old.setup.number node a) own)

  -- the task asked again
  pub again_made : (node made : ℕ) (waits : Bool) (sent : Sent) → IsTaskTurn old (Again node) new sent → HasMade calls old made waits → HasMade calls new made waits
  again_made node made waits sent t h =
      let task : t.task ≡ h.task = same_task old.part.role t.task h.task t.was h.is in
      let done : t.done ≡ asks_again old.setup.number node t.task t.task.outstanding = asked old.setup.number node t.task t.done (nat_lt old.setup.config.nodes node) t.results in
      let part : t.done.part ≡ h.task = ap (λ (d : Done TaskPart). d.part) done ∙ asked_part old.setup.number node t.task t.task.outstanding ∙ task in
      let waiting = subst (λ (p : TaskPart). Waits old.setup.number calls made waits p.outstanding) (sym task) h.waiting in
      still_made t.done.part t.done.sends t.after made waits waits h
      (subst (λ (d : Done TaskPart). (p : Message) → Has p d.sends → AsksForOne old.setup.number calls made p) (sym done) (again_asks node made waits t.task t.task.outstanding waiting))
      (subst (λ (p : TaskPart). length p.replies + (if waits then 1 else 0) ≡ made) (sym part) h.count)
      (subst (λ (p : TaskPart). Waits old.setup.number calls made waits p.outstanding) (sym part) h.waiting)

  -- the call at a place was asked
  abbrev Asked : List Message → ℕ → Type 0
  Asked sends k = (other : TaskCall) → slice_get calls k ≡ Some other → Has (first_asked old.setup.number k other) (old.part.sent ++ sends)

  last_asked : (call : TaskCall) (made : ℕ) (sends : List Message) → slice_get calls made ≡ Some call → Has (first_asked old.setup.number made call) sends → Asked sends made
  last_asked call made sends at packet other there =
      let same : call ≡ other = cc in
      subst (λ (c : TaskCall). Has (first_asked old.setup.number made c) (old.part.sent ++ sends)) same (has_right (first_asked old.setup.number made call) old.part.sent sends packet)

  one_more_asks : (made : ℕ) (p : Message) → AsksForOne old.setup.number calls made p → AsksForOne old.setup.number calls (made + 1) p
  one_more_asks made p a = (a.0, a.1, a.2, (let less = a.3 in omega (arith, less)), a.4, a.5)

  -- the task made its next call
  pub call_made : (call : TaskCall) (made : ℕ) (sent : Sent) → IsTaskTurn old (Submit call.node call.object call.operation call.arg) new sent → slice_get calls made ≡ Some call
      → HasMade calls old made false → HasMade calls new (made + 1) true
  call_made call made sent t at h =
      let number = old.setup.number in
      let task : t.task ≡ h.task = same_task old.part.role t.task h.task t.was h.is in
      let replies : length t.task.replies ≡ made = ap (λ (p : TaskPart). length p.replies) task ∙ let c = h.count in omega (arith, c) in
      let action = next_call number (length t.task.replies) call.object call.operation call.arg in
      let own : action ≡ call_after number made call = ap (λ (k : ℕ). call_after number k call) replies in
      let done : t.done ≡ calling number call.node t.task action =
      called number call.node t.task action t.done old.setup.config t.task.outstanding (ap (λ (p : TaskPart). p.outstanding) task ∙ h.waiting) t.results in
      let sends : t.done.sends ≡ first_asked number made call ∷ [] =
      ap (λ (d : Done TaskPart). d.sends) done ∙ ap (λ (a : Action). asks number call.node a ∷ []) own in
      let packet : Has (first_asked number made call) t.done.sends = subst (λ (l : List Message). Has (first_asked number made call) l) (sym sends) (inl refl) in
      let each : (k : ℕ) → k < made + 1 → Asked t.done.sends k =
      below_more (Asked t.done.sends) made (λ k less other there. has_left (first_asked number k other) old.part.sent t.done.sends (h.each k other less there))
      (last_asked call made t.done.sends at packet) in
      let new_one : (p : Message) → Has p (first_asked number made call ∷ []) → AsksForOne number calls (made + 1) p =
      λ p has. elim has [ inl is ↦ (made, call, call.node, omega arith, at, is) | inr none ↦ absurd none ] in
      event_made t.done.part t.done.sends t.after (made + 1) true (let w = slice_get_within calls made call at in omega (arith, w)) (λ k other less there. each k less other there)
      (λ p has. elim (has_split p old.part.sent t.done.sends has) [
        | inl there ↦ one_more_asks made p (h.only p there)
        | inr here ↦ new_one p (subst (λ (l : List Message). Has p l) sends here)
      ])
      (subst (λ (d : Done TaskPart). length d.part.replies + 1 ≡ made + 1) (sym done) (ap (λ (k : ℕ). k + 1) replies))
      (subst (λ (d : Done TaskPart). Waits number calls (made + 1) true d.part.outstanding) (sym done)
      (made, call, add-one made, at, ap (λ (a : Action). Some a) own))

-- ---- the packets of a step

asked_out : {P : Type 0} (old new : SeatState P) (input : TaskInput) (sent : Sent) (t : IsTaskTurn old input new sent) → AreGivenOut new.part sent t.done.sends
asked_out old new input sent t = given_out (OfTask t.done.part) t.done.sends old new sent t.after t.describes.bytes t.describes.count

pub sent_once : {P : Type 0} (old new : SeatState P) (input : TaskInput) (sent : Sent) → IsTaskTurn old input new sent → AreSent new.part sent
sent_once old new input sent t = (t.done.sends, asked_out old new input sent t)

few_submitted : (number node : ℕ) (task : TaskPart) (call : Result Action Fault) (done : Done TaskPart) → calls_if number node task call ≡ Ok done → length done.sends ≤ 1
few_submitted number node task (Ok call) done is = let e : calling number node task call ≡ done = cc in subst (λ (d : Done TaskPart). length d.sends ≤ 1) e (omega arith)
few_submitted number node task (Err fault) done is = absurd (cc)

few_again : (number node : ℕ) (task : TaskPart) (outstanding : Option Action) → length (asks_again number node task outstanding).sends ≤ 1
few_again number node task None = omega arith
few_again number node task (Some call) = omega arith

module _ {P : Type 0} (old new : SeatState P) (sent : Sent) where
  -- a call is asked by one packet at most
  pub few_of_call : (node object : ℕ) (operation : Operation) (arg : ℤ) → IsTaskTurn old (Submit node object operation arg) new sent → sent.packets ≤ 1
  few_of_call node object operation arg t =
      let call = next_call old.setup.number (length t.task.replies) object operation arg in
      let few = few_submitted old.setup.number node t.task (may_call old.setup.config node t.task call t.task.outstanding) t.done t.results in
      omega (arith, few, t.describes.count)

  pub few_of_again : (node : ℕ) → IsTaskTurn old (Again node) new sent → sent.packets ≤ 1
  few_of_again node t =
      let done : t.done ≡ asks_again old.setup.number node t.task t.task.outstanding = asked old.setup.number node t.task t.done (nat_lt old.setup.config.nodes node) t.results in
      let few : length t.done.sends ≤ 1 = subst (λ (d : Done TaskPart). length d.sends ≤ 1) (sym done) (few_again old.setup.number node t.task t.task.outstanding) in
      omega (arith, few, t.describes.count)

-- ---- what is asked, once its packet was offered

module _ {S P : Type 0} (next : S → Action → S) (answers : S → Action → List Answer) (begin : P → S) (input : TaskInput) where
  pub asked_by_turn : (old stepped new : SeatState P) (sent : Sent) (lost : ℕ) → IsTaskTurn old input stepped sent → IsAllOffered next answers begin (Task stepped.setup.number) sent stepped new lost 0
      → IsAskedBy next answers begin input old new lost
  asked_by_turn old stepped new sent lost turn offered = record { stepped = stepped; sent = sent; turn = turn; offered = offered turn.done.sends (asked_out old stepped input sent turn) }

  pub asked_puts : (old new : SeatState P) (lost : ℕ) (a : IsAskedBy next answers begin input old new lost) → HasOnlyPut a.stepped new
  asked_puts old new lost a = offers_put next answers begin (Task a.stepped.setup.number) a.turn.done.sends a.stepped new lost 0 a.offered

  pub asked_same : (old new : SeatState P) (lost : ℕ) → IsAskedBy next answers begin input old new lost → new.setup ≡ old.setup
  asked_same old new lost a = stepped_same (OfTask a.turn.done.part) a.turn.done.sends old a.stepped new a.turn.after (asked_puts old new lost a)

  pub asked_got : (old new : SeatState P) (lost : ℕ) → IsAskedBy next answers begin input old new lost → new.part.got ≡ old.part.got
  asked_got old new lost a = stepped_got (OfTask a.turn.done.part) a.turn.done.sends old a.stepped new a.turn.after (asked_puts old new lost a)

-- ---- at first

-- a fresh task made no call
pub none_made : {P : Type 0} (calls : List TaskCall) (seat : SeatState P) → seat.part ≡ fresh_part (OfTask fresh_task) → HasMade calls seat 0 false
none_made calls seat fresh = record {
  task = fresh_task;
  is = ap (λ (p : Part). p.role) fresh;
  some = omega arith;
  each = λ k call less. absurd (omega (arith, less));
  only = λ p has. absurd (subst (λ (part : Part). Has p part.sent) fresh has);
  count = refl;
  waiting = refl;
}
