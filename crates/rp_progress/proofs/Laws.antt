-- The laws: any call that a task waits for, or makes next, and a log that is full.
use Rattle.std.proofs.Common.{◌≡◌, ℕ, zero, suc, ◌-◌, ◌<◌, ◌≤◌, ◌⊎◌, Option, Some, None, Ok, List, [], ◌∷◌, ◌++◌, length, refl, sym, ap, subst, ◌∙◌, arith, append-nil, length-append, inl, inr}
use Rattle.std.specs.Prelude.{ℤ, unwrap_or, slice_get}
use Rattle.rp_base.specs.Action.{IsRight}
use Rattle.rp_base.specs.Config.{IsRightConfig}
use Rattle.rp_base.specs.Number.{IsTask}
use Rattle.rp_base.specs.Records.{first_unlearned}
use Rattle.rp_base.specs.Sets.{Has}
use Rattle.rp_base.proofs.Members.{has_right}
use Rattle.rp_base.specs.declared.action.Action.{Action}
use Rattle.rp_base.specs.declared.action.Action.TheVariants as actions
use Rattle.rp_base.specs.declared.action.Operation.{Operation}
use Rattle.rp_base.specs.declared.reply.Answer.{Answer}
use Rattle.rp_machine.specs.Calls.{CallName, calls_of}
use Rattle.rp_machine.specs.Places.{IsPlace, HasReply}
use Rattle.rp_model.specs.Effect.{Setting}
use Rattle.rp_model.specs.Events.{Event, Submit, IsRightEvent}
use Rattle.rp_model.specs.Parts.{TaskPart, fresh_task}
use Rattle.rp_model.specs.Tasks.{asks}
use Rattle.rp_model.specs.World.{World, Transition, event_effect}
use Rattle.rp_agreement.specs.Answered.{IsKeptWorld, Occurs, task_in, named}
use Rattle.rp_agreement.specs.Computed.{order_of}
use Rattle.rp_agreement.specs.Order.{IsPrefix}
use Rattle.rp_agreement.specs.Worlds.{node_in, IsSoundWorld}
use Rattle.rp_agreement.proofs.AnswersGrow.{applied_begins}
use Rattle.rp_agreement.proofs.Computing.{order_is}
use Rattle.rp_agreement.proofs.Ordering.{applied_decided}
use Rattle.rp_agreement.proofs.Places.{same_name, first_call}
use Rattle.rp_possible.specs.Rounds.{GoesOnBy}
use Rattle.rp_progress.specs.Waiting.{IsQuorum, IsPositionLeft, AreBallotsLeft, TaskHas, next_of, records_in, applied_in, CanCount, IsFull, CanFill}
use Rattle.rp_progress.proofs.BareQuorums.{HasBare, has_bare, goes_by_more}
use Rattle.rp_progress.proofs.Ending.{IsAnswering, Ends, Fills}
use Rattle.rp_progress.proofs.Going.{keeps_on}
use Rattle.rp_progress.proofs.InLog.{AllInLog, decided_in_log}
use Rattle.rp_progress.proofs.Serving.{served, served_or_full}
use Rattle.rp_progress.proofs.Unlearned.{get_there, get_after, unlearned_below, some_unvoted}
use Rattle.rp_progress.proofs.TaskTurns.{task_sends, stays_there, made_next, is_operation}

-- ---- a log that is full

module _ (nodes most : ℕ) where
  -- where each position of the log is decided the order is at its end
  pub full_order : (now later : World) → IsSoundWorld nodes later → AllInLog most later → IsFull nodes most now → IsPrefix (order_of nodes now.sent) (order_of nodes later.sent)
      → order_of nodes later.sent ≡ order_of nodes now.sent
  full_order now later sound in_log full begins = by begins.0 begins.1
    where
      by : (rest : List Action) → order_of nodes later.sent ≡ order_of nodes now.sent ++ rest → order_of nodes later.sent ≡ order_of nodes now.sent
      by [] same = same ∙ append-nil (order_of nodes now.sent)
      by (v ∷ rest) same =
          let order = order_of nodes now.sent in
          let decided = (order_is nodes later.sent).decided (length order) v (ap (λ (list : List Action). slice_get list (length order)) same ∙ get_after order v rest) in
          let within : suc (length order) ≤ most = decided_in_log nodes most later sound.size sound.sound in_log (suc (length order)) v decided in
          let there = full (suc (length order)) (omega arith) within in
          absurd ((order_is nodes now.sent).longest there.0 there.1)

-- what the leader has applied is the order, once it has learned the whole log
module _ {S : Type 0} (s : Setting S) (w : World) (x : ℕ) (kept : IsKeptWorld s w) (in_log : AllInLog s.config.max_positions w) (learned : s.config.max_positions < first_unlearned (records_in w x)) where
  all_decided : IsFull s.config.nodes s.config.max_positions w
  all_decided zero low high = absurd (omega (arith, low))
  all_decided (suc k) low high =
      let there = get_there (applied_in w x) k (omega (arith, high, learned)) in
      (there.0, applied_decided kept.kept.sound x k there.0 there.1)

  is_order : order_of s.config.nodes w.sent ≡ applied_in w x
  is_order = by begins.0 begins.1
    where
      begins : IsPrefix (applied_in w x) (order_of s.config.nodes w.sent)
      begins = applied_begins s.config.nodes (node_in w.nodes) w.sent kept.kept.sound x

      by : (rest : List Action) → order_of s.config.nodes w.sent ≡ applied_in w x ++ rest → order_of s.config.nodes w.sent ≡ applied_in w x
      by [] same = same ∙ append-nil (applied_in w x)
      by (v ∷ rest) same =
          let n = length (applied_in w x) in
          let decided = (order_is s.config.nodes w.sent).decided n v (ap (λ (list : List Action). slice_get list n) same ∙ get_after (applied_in w x) v rest) in
          let within : suc n ≤ s.config.max_positions = decided_in_log s.config.nodes s.config.max_positions w kept.size kept.kept.sound in_log (suc n) v decided in
          absurd (omega (arith, within, learned))

  no_place : (call : CallName) → (¬ Occurs call (applied_in w x)) → (place : ℕ) → ¬ IsPlace s.next s.answers s.begin (order_of s.config.nodes w.sent) call place
  no_place call none place at =
      let here : Has at.action (applied_in w x) = subst (λ (list : List Action). Has at.action list) (sym at.occurs ∙ is_order) (has_right at.action at.before (at.action ∷ at.following) (inl refl)) in
      none (at.action, here, subst (λ (calls : List CallName). Has call calls) (sym at.is_call) (inl refl))

-- ---- a call that a task waits for, or makes

-- the last reply that a task has got
pub last_reply : (u : World) (t : ℕ) (replies : List Answer) (answer : Answer) → TaskHas u t (replies ++ answer ∷ []) None → slice_get (task_in u.tasks t).replies (length replies) ≡ Some answer
last_reply u t replies answer has = ap (λ (o : Option TaskPart). slice_get (unwrap_or o fresh_task).replies (length replies)) has ∙ get_after replies answer []

module _ {S : Type 0} (s : Setting S) (right : IsRightConfig s.config) (answering : IsAnswering s) (t : ℕ) (replies : List Answer)
    (ordered : (u : World) → IsKeptWorld s u → (answer : Answer) → TaskHas u t (replies ++ answer ∷ []) None
    → HasReply s.next s.answers s.begin (order_of s.config.nodes u.sent) (next_of t replies) answer) where
  module _ (w : World) (quorum : List ℕ) (x : ℕ) (kept : IsKeptWorld s w) (is : IsQuorum s.config.nodes quorum x) where
    bare : HasBare s quorum x
    bare = has_bare s quorum x is

    -- what goes on by the bare majority goes on by the quorum
    by_quorum : (events : List Event) (after : World) → GoesOnBy s bare.bare t (length w.sent) w events after → GoesOnBy s quorum t (length w.sent) w events after
    by_quorum events after goes = goes_by_more bare.bare quorum t (length w.sent) (length w.sent) bare.inside (omega arith) s w events after goes

    is_served : Ends s bare.bare t (length w.sent) x replies w → CanCount s quorum x t replies w []
    is_served ends =
        let later = keeps_on s bare.bare t (length w.sent) right w ends.events ends.after kept ends.goes_on in
        record {
          more = ends.events;
          after = ends.after;
          goes_on = by_quorum ends.events ends.after ends.goes_on;
          place = ends.place;
          counts = ends.counts;
          replied = λ answer stated. record { taken = ends.replied answer stated; ordered = ordered ends.after later answer (ends.replied answer stated) };
        }

    is_filled : ((events : List Event) (u : World) → GoesOnBy s quorum t (length w.sent) w events u → AllInLog s.config.max_positions u) → ((i : ℕ) → ¬ IsPositionLeft s.config.max_positions (records_in w) quorum i)
        → Fills s bare.bare t (length w.sent) x replies w → CanFill s quorum t replies w
    is_filled in_log none fills =
        let later = keeps_on s bare.bare t (length w.sent) right w fills.events fills.after kept fills.goes_on in
        let goes = by_quorum fills.events fills.after fills.goes_on in
        record {
          none_left = none;
          more = fills.events;
          after = fills.after;
          goes_on = goes;
          full = all_decided s fills.after x later (in_log fills.events fills.after goes) fills.full;
          absent = no_place s fills.after x later (in_log fills.events fills.after goes) fills.full (next_of t replies) fills.absent;
        }

    ballots_bare : (i round : ℕ) → AreBallotsLeft (records_in w) quorum x i round → AreBallotsLeft (records_in w) bare.bare x i round
    ballots_bare i round ballots = record { within = λ y h. ballots.within y (bare.inside y h); enough = ballots.enough }

    -- whatever call the task waits for is its next one
    pub record IsOwn (call : Action) : Type 0 where
      pub object : ℕ
      pub operation : Operation
      pub arg : ℤ
      pub is_task : IsTask t
      pub has : TaskHas w t replies (Some (actions.Call t (suc (length replies)) object operation arg))

    call_own : (call : Action) → TaskHas w t replies (Some call) → calls_of call ≡ named t (suc (length replies)) ∷ [] → IsRight call → IsOwn call
    call_own actions.Noop has names rights = absurd (cc)
    call_own (actions.Call task number object operation arg) has names rights =
        let same = same_name (first_call names) in
        record {
          object = object;
          operation = operation;
          arg = arg;
          is_task = subst (λ (u : ℕ). IsTask u) same.0 rights.0;
          has = subst (λ (n : ℕ). TaskHas w t replies (Some (actions.Call t n object operation arg))) same.1
              (subst (λ (u : ℕ). TaskHas w t replies (Some (actions.Call u number object operation arg))) same.0 has);
        }
    call_own (actions.Interrupt source occurrence) has names rights = absurd (cc)
    call_own (actions.Tick now) has names rights = absurd (cc)

    its_own : (call : Action) → TaskHas w t replies (Some call) → IsOwn call
    its_own call has =
        let part : task_in w.tasks t ≡ record { outstanding = Some call; replies = replies } = ap (λ (o : Option TaskPart). unwrap_or o fresh_task) has in
        let waits : (task_in w.tasks t).outstanding ≡ Some call = ap (λ (p : TaskPart). p.outstanding) part in
        let many : length (task_in w.tasks t).replies ≡ length replies = ap (λ (p : TaskPart). length p.replies) part in
        call_own call has ((kept.kept.answered t).waits call waits ∙ ap (λ (n : ℕ). named t (suc n) ∷ []) many) (kept.kept.own t call waits).1

    pub waiting_served : (i round : ℕ) → IsPositionLeft s.config.max_positions (records_in w) quorum i → AreBallotsLeft (records_in w) quorum x i round → (call : Action) → TaskHas w t replies (Some call)
        → CanCount s quorum x t replies w []
    waiting_served i round position ballots call has =
        let own = its_own call has in
        is_served (served s right answering bare.bare t (length w.sent) x bare.is_bare replies own.object own.operation own.arg own.is_task w i round kept (omega arith) own.has
        (record { in_log = position.in_log; unvoted = λ y b v h. position.unvoted y b v (bare.inside y h) }) (ballots_bare i round ballots))

    -- or no position is left
    pub waiting_either : (round : ℕ) → ((events : List Event) (u : World) → GoesOnBy s quorum t (length w.sent) w events u → AllInLog s.config.max_positions u) → AreBallotsLeft (records_in w) quorum x s.config.max_positions round
        → (call : Action) → TaskHas w t replies (Some call) → CanCount s quorum x t replies w [] ⊎ CanFill s quorum t replies w
    waiting_either round in_log ballots call has =
        let own = its_own call has in
        let most = s.config.max_positions in
        let p = first_unlearned (records_in w x) in
        elim (some_unvoted w quorum (suc most - p) p) [
          | inl left ↦ inl (waiting_served left.0 round (record { in_log = (omega (arith, left.1), omega (arith, left.1, left.2)); unvoted = left.3 })
              (record { within = ballots.within; enough = omega (arith, ballots.enough, left.1, left.2) }) call has)
          | inr none ↦ elim (served_or_full s right answering bare.bare t (length w.sent) x bare.is_bare replies own.object own.operation own.arg own.is_task w round kept (omega arith) own.has (λ events u goes. in_log events u (by_quorum events u goes)) (ballots_bare most round ballots)) [
            | inl ends ↦ inl (is_served ends)
            | inr fills ↦ inr (is_filled in_log (λ i position.
                let ahead : p ≤ i = unlearned_below kept.kept.sound quorum is.members is.majority i position.in_log.0 position.unvoted x in
                none i ahead (omega (arith, position.in_log.1, ahead)) position.unvoted) fills)
          ]
        ]

    -- a task that waits for nothing makes its next call
    module _ (object : ℕ) (operation : Operation) (arg : ℤ) (has : TaskHas w t replies None) (rights : IsRight (actions.Call t (suc (length replies)) object operation arg)) where
      abbrev pub call : Action
      call = actions.Call t (suc (length replies)) object operation arg

      abbrev pub asked : Transition
      asked = task_sends s w t replies (Some call) (asks t x call)

      is_event : IsRightEvent (Submit t x object operation arg)
      is_event =
          let member = is.members.members x is.leads in
          (rights.0, (member.0, omega (arith, member.1, right.nodes.1)), omega (arith, rights.2.1), is_operation s w t replies operation rights.3, rights.4)

      asks_it : event_effect s w (Submit t x object operation arg) ≡ Ok asked
      asks_it = made_next s w t replies x object operation arg has (is.members.members x is.leads).1 rights

      pub kept_then : IsKeptWorld s asked.world
      kept_then = keeps_on s quorum t (length w.sent) right w (Submit t x object operation arg ∷ []) asked.world kept (asked, asks_it, is_event, (refl, is.leads), refl)

      pub has_then : TaskHas asked.world t replies (Some call)
      has_then = stays_there s w t replies None (Some call) (asks t x call) has

      -- and goes on from there
      pub goes_after : CanCount s quorum x t replies asked.world [] → CanCount s quorum x t replies w (Submit t x object operation arg ∷ [])
      goes_after after = record {
        more = after.more;
        after = after.after;
        goes_on = (
          asked,
          asks_it,
          is_event,
          (refl, is.leads),
          goes_by_more quorum quorum t (length asked.world.sent) (length w.sent) (λ y h. h) (omega (arith, length-append w.sent (asks t x call ∷ []))) s asked.world after.more after.after after.goes_on,
        );
        place = after.place;
        counts = after.counts;
        replied = after.replied;
      }

  pub next_served : (w : World) (quorum : List ℕ) (x : ℕ) → IsKeptWorld s w → IsQuorum s.config.nodes quorum x
      → (i round : ℕ) → IsPositionLeft s.config.max_positions (records_in w) quorum i → AreBallotsLeft (records_in w) quorum x i round
      → (object : ℕ) (operation : Operation) (arg : ℤ) → TaskHas w t replies None → IsRight (actions.Call t (suc (length replies)) object operation arg)
      → CanCount s quorum x t replies w (Submit t x object operation arg ∷ [])
  next_served w quorum x kept is i round position ballots object operation arg has rights =
      goes_after w quorum x kept is object operation arg has rights
      (waiting_served (asked w quorum x kept is object operation arg has rights).world quorum x (kept_then w quorum x kept is object operation arg has rights) is i round
      (record { in_log = position.in_log; unvoted = position.unvoted }) (record { within = ballots.within; enough = ballots.enough })
      (call w quorum x kept is object operation arg has rights) (has_then w quorum x kept is object operation arg has rights))
