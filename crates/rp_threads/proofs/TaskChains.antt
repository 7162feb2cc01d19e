-- The turns of a task's loop, one after the other: what calls they made, and why one is not made.
use Rattle.std.proofs.Common.{◌≡◌, ℕ, zero, suc, ◌+◌, ◌%◌, ◌/◌, ◌<◌, ◌≤◌, ◌||◌, not, nat_eq, nat_lt, Bool, true, false, Option, Some, None, Result, Ok, Err, ◌⊎◌, List, [], ◌∷◌, length, is_some, slice_get, inl, inr, refl, sym, ap, subst, ◌∙◌, arith, if◌then◌else◌}
use Rattle.std.proofs.lemmas.Grind.{common_steps}
use Rattle.std.proofs.lemmas.Nat.{mod_below}
use Rattle.std.specs.Prelude.{IfSome}
use Rattle.rp_base.specs.Action.{is_right}
use Rattle.rp_base.specs.Calls.{are_exhausted, next_call}
use Rattle.rp_base.specs.declared.action.Action.{Action}
use Rattle.rp_base.specs.declared.fault.Fault.{Fault}
use Rattle.rp_base.specs.declared.fault.Fault.TheVariants.{OutOfMemory, NumbersSpent, BadConfig}
use Rattle.rp_base.specs.declared.reply.Answer.{Answer}
use Rattle.rp_codec.specs.declared.packet.Party.{Party}
use Rattle.rp_codec.specs.declared.packet.Party.TheVariants.{Node, Task}
use Rattle.rp_replica.specs.rp_model.specs.Parts.{TaskPart, fresh_task}
use Rattle.rp_replica.specs.rp_model.specs.Tasks.{TaskInput, Submit, Again, asks_again, calls_if, may_call}
use Rattle.rp_tasks.specs.Line.{Line}
use Rattle.rp_board.specs.Parts.{OfTask, fresh_part}
use Rattle.rp_board.specs.Seats.{SeatSetup, SeatState}
use Rattle.rp_threads.specs.Lines.{given_on, line_after}
use Rattle.rp_threads.specs.LoopTurns.{HasEnded, IsAsked, IsNeverOver, IsStoppedBy}
use Rattle.rp_threads.specs.Loops.{node_at}
use Rattle.rp_threads.specs.Tasks.{HasMade, TaskAt, before_calls, call_after, task_party}
use Rattle.rp_threads.specs.TaskRounds.{Asks, Hears, IsHeard, IsTaskRefused, IsTaskFault, IsTaskTurnOf, IsUnmadeTurn, untaken, unheard, unasked, asked_by, asked_for, asked_in, heard_by, made_by, submitted, task_rested, with_call, with_lost}
use Rattle.rp_threads.specs.Threads.{IsTaskLooped, task_end_of}
use Rattle.rp_threads.specs.Turns.{IsBrought, IsLost, MayFetch}
use Rattle.rp_threads.specs.declared.tasks.Calls.{Calls}
use Rattle.rp_threads.specs.declared.tasks.TaskCall.{TaskCall}
use Rattle.rp_threads.proofs.Chains.{by_end, made_all}
use Rattle.rp_threads.proofs.TaskSteps.{again_made, asked_puts, asked_same, call_made, fetched_made, heard_made, none_made, put_made, same_task}

no_first : (xs : List TaskCall) → 0 < length xs → slice_get xs 0 ≡ None → ⊥
no_first [] some none = omega (arith, some)
no_first (x ∷ xs) some none = cc

past_first : (calls : List TaskCall) (made : ℕ) → slice_get calls made ≡ None → 0 < length calls → 0 < made
past_first calls zero none some = absurd (no_first calls some none)
past_first calls (suc n) none some = omega arith

-- a task that has calls and waits for none has made one, once it asked
with_some : (calls : List TaskCall) (call : Option TaskCall) (so_far : Calls) → slice_get calls so_far.made ≡ call → 0 < length calls → 0 < (with_call call so_far).made
with_some calls None so_far none some = past_first calls so_far.made none some
with_some calls (Some call) so_far at some = omega arith

less_of : (m n : ℕ) → nat_lt m n ≡ true → m < n
less_of m n is = grind (arith, common_steps)

-- What n turns of the task of this seat leave: they made the first of its calls, one of them at once.
pub record HasMadeCalls {P : Type 0} (calls : List TaskCall) (seat : SeatState P) (n : ℕ) (now : TaskAt P) : Type 0 where
  pub same : now.seat.setup ≡ seat.setup
  pub made : HasMade calls now.seat now.so_far.made now.so_far.waits
  pub first : 0 < length calls → 0 < n → 0 < now.so_far.made

-- What a loop that made n turns and ended by this fault, or without one, leaves of the seat.
pub record IsLeftBy {P : Type 0} (over : Party → ℕ → ℕ → Result Bool Fault → Type 0) (nodes : ℕ) (calls : List TaskCall) (seat : SeatState P) (n : ℕ) (last : TaskAt P) (fault : Option Fault) : Type 0 where
  pub same : last.seat.setup ≡ seat.setup
  pub made : HasMade calls last.seat last.so_far.made last.so_far.waits
  pub first : fault ≡ None → 0 < length calls → 0 < n → 0 < last.so_far.made
  pub cause : IfSome fault (λ f. IsTaskFault nodes calls seat last.so_far.made f ⊎ IsStoppedBy over (Task seat.setup.number) f)

-- ---- what is heard

module _ {S P : Type 0} (next : S → Action → S) (answers : S → Action → List Answer) (begin : P → S) (calls : List TaskCall) where
  -- the same seat, with n calls made
  abbrev pub IsMadeOn : SeatState P → SeatState P → Calls → Calls → Type 0
  IsMadeOn old new before after = (new.setup ≡ old.setup) × (HasMade calls old before.made before.waits → HasMade calls new after.made after.waits)

  stays_on : (old new : SeatState P) (so_far : Calls) → new ≡ old → IsMadeOn old new so_far so_far
  stays_on old new so_far is = (ap (λ (c : SeatState P). c.setup) is, subst (λ (c : SeatState P). HasMade calls c so_far.made so_far.waits) (sym is))

  fetch_made : (fetched : Option (List ℕ)) (from to : Party) (old new : SeatState P) (so_far : Calls) → MayFetch next answers begin fetched from to old new → IsMadeOn old new so_far so_far
  fetch_made None from to old new so_far f = stays_on old new so_far f.0
  fetch_made (Some text) from to old new so_far f =
      (ap (λ (c : SeatState P). c.setup) f.after, fetched_made calls old new f.packet so_far.made so_far.waits f.after)

  heard_on : (given : Option (List ℕ)) (old new : SeatState P) (answered : Bool) (turn : ℕ) (so_far : Calls) → Hears given old new answered → IsMadeOn old new so_far (heard_by answered turn so_far)
  heard_on None old new answered turn so_far h =
      subst (λ (b : Bool). IsMadeOn old new so_far (heard_by b turn so_far)) (sym h.1) (stays_on old new so_far h.0)
  heard_on (Some text) old new answered turn so_far h =
      subst (λ (b : Bool). IsMadeOn old new so_far (heard_by b turn so_far)) (sym h.2)
      (ap (λ (c : SeatState P). c.setup) h.1.after, λ made. heard_if (is_some h.0) (heard_made calls old new text h.0 so_far.made so_far.waits h.1 made))
    where
      heard_if : (b : Bool) → HasMade calls new so_far.made (if b then false else so_far.waits) → HasMade calls new (heard_by b turn so_far).made (heard_by b turn so_far).waits
      heard_if true made = made
      heard_if false made = made

  made_then : (a b c : SeatState P) (x y z : Calls) → IsMadeOn a b x y → IsMadeOn b c y z → IsMadeOn a c x z
  made_then a b c x y z ab bc = (bc.0 ∙ ab.0, λ made. bc.1 (ab.1 made))

  module _ (nodes : ℕ) where
    hears_on : (turn : ℕ) (old : TaskAt P) (new : SeatState P) (line : Line) (so_far : Calls) → IsHeard next answers begin nodes calls turn old new line so_far
        → IsMadeOn old.seat new old.so_far so_far
    hears_on turn old new line so_far h =
        subst (λ (c : Calls). IsMadeOn old.seat new old.so_far c) (sym h.counts)
        (made_then old.seat h.between new old.so_far old.so_far (heard_by h.answered turn old.so_far)
        (fetch_made h.brought.fetched (Node (node_at nodes turn)) (Task old.seat.setup.number) old.seat h.between old.so_far h.brought.fetch)
        (heard_on (given_on h.full) h.between new h.answered turn old.so_far h.hears))

    -- ---- what is asked

    submit_on : (call : Option TaskCall) (old new : SeatState P) (so_far : Calls) (lost : ℕ) → slice_get calls so_far.made ≡ call → Asks next answers begin (submitted call) old new lost
        → IsMadeOn old new (record so_far { waits = false }) (with_call call so_far)
    submit_on None old new so_far lost at a = stays_on old new (record so_far { waits = false }) a.0
    submit_on (Some call) old new so_far lost at a =
        let input = Submit call.node call.object call.operation call.arg in (
          asked_same next answers begin input old new lost a,
          λ h. put_made calls a.stepped new (so_far.made + 1) true (asked_puts next answers begin input old new lost a) (call_made calls old a.stepped call so_far.made a.sent a.turn at h),
        )

    again_on : (due : Bool) (node : ℕ) (old new : SeatState P) (so_far : Calls) (lost : ℕ) → Asks next answers begin (if due then Some (Again node) else None) old new lost
        → IsMadeOn old new (record so_far { waits = true }) (record so_far { waits = true })
    again_on true node old new so_far lost a = (
      asked_same next answers begin (Again node) old new lost a,
      λ h. put_made calls a.stepped new so_far.made true (asked_puts next answers begin (Again node) old new lost a) (again_made calls old a.stepped node so_far.made true a.sent a.turn h),
    )
    again_on false node old new so_far lost a = stays_on old new (record so_far { waits = true }) a.0

    asked_on : (waits : Bool) (turn : ℕ) (old new : SeatState P) (so_far : Calls) (lost : ℕ) → Asks next answers begin (asked_by waits nodes calls so_far.made turn) old new lost
        → IsMadeOn old new (record so_far { waits = waits }) (made_by waits calls so_far)
    asked_on true turn old new so_far lost a = again_on (nat_eq (turn % 16) 0) (node_at nodes (turn / 16)) old new so_far lost a
    asked_on false turn old new so_far lost a = submit_on (slice_get calls so_far.made) old new so_far lost refl a

    turn_on : (turn : ℕ) (old new : TaskAt P) → IsTaskTurnOf next answers begin nodes calls turn old new → IsMadeOn old.seat new.seat old.so_far new.so_far
    turn_on turn old new t =
        subst (λ (c : Calls). IsMadeOn old.seat new.seat old.so_far c) (sym t.counts)
        (made_then old.seat t.heard new.seat old.so_far t.so_far (asked_for calls t.so_far)
        (hears_on turn old t.heard new.line t.so_far t.hears) (asked_on t.so_far.waits turn t.heard new.seat t.so_far t.lost t.asks))

    -- ---- what is refused

    module _ (seat : SeatState P) (task : TaskPart) (made : ℕ) (replies : length task.replies ≡ made) (call : TaskCall) (at : slice_get calls made ≡ Some call) where
      abbrev own : Action
      own = next_call seat.setup.number (length task.replies) call.object call.operation call.arg

      tested_fault : (skipped over : Bool) (fault : Fault) → are_exhausted (length task.replies) ≡ skipped → (nat_lt seat.setup.config.nodes call.node || not (is_right own)) ≡ over
          → calls_if seat.setup.number call.node task (if skipped then Err NumbersSpent else if over then Err BadConfig else Ok own) ≡ Err fault
          → IsTaskFault nodes calls seat made fault
      tested_fault true over fault skipped bad is =
          let e : NumbersSpent ≡ fault = cc in
          subst (IsTaskFault nodes calls seat made) e (subst (λ (k : ℕ). are_exhausted k ≡ true) replies skipped)
      tested_fault false true fault skipped bad is =
          let e : BadConfig ≡ fault = cc in
          subst (IsTaskFault nodes calls seat made) e (inr (
            call,
            at,
            subst (λ (k : ℕ). (nat_lt seat.setup.config.nodes call.node || not (is_right (call_after seat.setup.number k call))) ≡ true) replies bad,
          ))
      tested_fault false false fault skipped bad is = absurd (cc)

      call_fault : (outstanding : Option Action) (fault : Fault) → outstanding ≡ None → calls_if seat.setup.number call.node task (may_call seat.setup.config call.node task own outstanding) ≡ Err fault
          → IsTaskFault nodes calls seat made fault
      call_fault (Some waits) fault none is = absurd (cc)
      call_fault None fault none is =
          tested_fault (are_exhausted (length task.replies)) (nat_lt seat.setup.config.nodes call.node || not (is_right own)) fault refl refl is

    again_fault : (seat : SeatState P) (made turn : ℕ) (task : TaskPart) (over : Bool) (fault : Fault) → 1 ≤ nodes → nat_lt seat.setup.config.nodes (node_at nodes turn) ≡ over
        → (if over then Err BadConfig else Ok (asks_again seat.setup.number (node_at nodes turn) task task.outstanding)) ≡ Err fault → IsTaskFault nodes calls seat made fault
    again_fault seat made turn task true fault some above is =
        let e : BadConfig ≡ fault = cc in
        let below = mod_below turn nodes (omega (arith, some)) in
        let over = less_of seat.setup.config.nodes (node_at nodes turn) above in
        subst (IsTaskFault nodes calls seat made) e (inl (omega (arith, below, over)))
    again_fault seat made turn task false fault some above is = absurd (cc)

    memory_fault : (seat : SeatState P) (made : ℕ) (fault : Fault) → fault ≡ OutOfMemory → IsTaskFault nodes calls seat made fault
    memory_fault seat made fault is = subst (IsTaskFault nodes calls seat made) (sym is) tt

    submit_fault : (call : Option TaskCall) (old new : SeatState P) (made : ℕ) (fault : Fault) → slice_get calls made ≡ call → HasMade calls old made false
        → IsTaskRefused (submitted call) old new fault → IsTaskFault nodes calls old made fault
    submit_fault None old new made fault at h r = absurd r
    submit_fault (Some call) old new made fault at h r = elim r.why [
      | inl memory ↦ memory_fault old made fault memory.0
      | inr refused ↦
          let task : r.task ≡ h.task = same_task old.part.role r.task h.task r.was h.is in
          let count = h.count in
          let replies : length r.task.replies ≡ made = ap (λ (p : TaskPart). length p.replies) task ∙ omega (arith, count) in
          call_fault old r.task made replies call at r.task.outstanding fault (ap (λ (p : TaskPart). p.outstanding) task ∙ h.waiting) refused
    ]

    retry_fault : (due : Bool) (turn : ℕ) (old new : SeatState P) (made : ℕ) (fault : Fault) → 1 ≤ nodes
        → IsTaskRefused (if due then Some (Again (node_at nodes turn)) else None) old new fault → IsTaskFault nodes calls old made fault
    retry_fault true turn old new made fault some r = elim r.why [
      | inl memory ↦ memory_fault old made fault memory.0
      | inr refused ↦ again_fault old made turn r.task (nat_lt old.setup.config.nodes (node_at nodes turn)) fault some refl refused
    ]
    retry_fault false turn old new made fault some r = absurd r

    asked_fault : (waits : Bool) (turn : ℕ) (old new : SeatState P) (made : ℕ) (fault : Fault) → 1 ≤ nodes → HasMade calls old made waits
        → IsTaskRefused (asked_by waits nodes calls made turn) old new fault → IsTaskFault nodes calls old made fault
    asked_fault true turn old new made fault some h r = retry_fault (nat_eq (turn % 16) 0) (turn / 16) old new made fault some r
    asked_fault false turn old new made fault some h r = submit_fault (slice_get calls made) old new made fault refl h r

    -- the seat of a fault is the first one
    at_first : (first old : SeatState P) (made : ℕ) (fault : Fault) → old.setup ≡ first.setup → IsTaskFault nodes calls old made fault → IsTaskFault nodes calls first made fault
    at_first first old made OutOfMemory same f = tt
    at_first first old made NumbersSpent same f = f
    at_first first old made BadConfig same f = elim f [
      | inl few ↦ inl (subst (λ (s : SeatSetup P). s.config.nodes < nodes) same few)
      | inr bad ↦ inr (
        bad.0,
        bad.1,
        subst (λ (s : SeatSetup P). (nat_lt s.config.nodes bad.0.node || not (is_right (call_after s.number made bad.0))) ≡ true) same bad.2,
      )
    ]
    at_first first old made _ same f = absurd f

    refused_same : (asked : Option TaskInput) (old new : SeatState P) (fault : Fault) → IsTaskRefused asked old new fault → new ≡ old
    refused_same None old new fault r = absurd r
    refused_same (Some input) old new fault r = r.unchanged

    -- a turn that was not made: as many calls are made as before, and why
    abbrev IsUnmadeOn : SeatState P → TaskAt P → Fault → Type 0
    IsUnmadeOn first new fault = (new.seat.setup ≡ first.setup) × HasMade calls new.seat new.so_far.made new.so_far.waits × IsTaskFault nodes calls first new.so_far.made fault

    module _ (turn : ℕ) (first : SeatState P) (old new : TaskAt P) (fault : Fault) (same : old.seat.setup ≡ first.setup) (h : HasMade calls old.seat old.so_far.made old.so_far.waits) where
      fetched_on : (fetched : Option (List ℕ)) → MayFetch next answers begin fetched (Node (node_at nodes turn)) (Task old.seat.setup.number) old.seat new.seat → new.so_far ≡ old.so_far → fault ≡ OutOfMemory → IsUnmadeOn first new fault
      fetched_on fetched f counts memory =
          let on = fetch_made fetched (Node (node_at nodes turn)) (Task old.seat.setup.number) old.seat new.seat old.so_far f in (
            on.0 ∙ same,
            subst (λ (c : Calls). HasMade calls new.seat c.made c.waits) (sym counts) (on.1 h),
            memory_fault first new.so_far.made fault memory,
          )

      pub unmade_on : 1 ≤ nodes → IsUnmadeTurn next answers begin nodes calls turn old new fault → IsUnmadeOn first new fault
      unmade_on some (untaken lost counts) = fetched_on (Some lost.packet) lost.fetch counts lost.memory
      unmade_on some (unheard u) = fetched_on u.brought.fetched u.brought.fetch u.counts u.memory
      unmade_on some (unasked u) =
          let on = hears_on turn old u.heard new.line new.so_far u.hears in
          let stays = stays_on u.heard new.seat new.so_far (refused_same (asked_in nodes calls turn new.so_far) u.heard new.seat fault u.refused) in
          let now = on.0 ∙ same in (
            stays.0 ∙ now,
            stays.1 (on.1 h),
            at_first first u.heard new.so_far.made fault now (asked_fault new.so_far.waits turn u.heard new.seat new.so_far.made fault some (on.1 h) u.refused),
          )

    -- ---- the first call is made in the first turn

    some_made : (waits : Bool) (so_far : Calls) (seat : SeatState P) → HasMade calls seat so_far.made waits → 0 < length calls → 0 < (made_by waits calls so_far).made
    some_made true so_far seat h some = let e = h.waiting.2 in omega (arith, e)
    some_made false so_far seat h some = with_some calls (slice_get calls so_far.made) so_far refl some

    -- ---- the turns, one after the other

    abbrev IsTurn : ℕ → TaskAt P → TaskAt P → Type 0
    IsTurn = IsTaskTurnOf next answers begin nodes calls

    abbrev IsNoTurn : ℕ → TaskAt P → TaskAt P → Fault → Type 0
    IsNoTurn = IsUnmadeTurn next answers begin nodes calls

    one_turned : (first : SeatState P) (n : ℕ) (old new : TaskAt P) → HasMadeCalls calls first n old → IsTurn (suc n) old new → HasMadeCalls calls first (suc n) new
    one_turned first n old new has t =
        let on = turn_on (suc n) old new t in
        let heard = (hears_on (suc n) old t.heard new.line t.so_far t.hears).1 has.made in
        record {
          same = on.0 ∙ has.same;
          made = on.1 has.made;
          first = λ some more. subst (λ (c : Calls). 0 < c.made) (sym t.counts) (some_made t.so_far.waits t.so_far t.heard heard some);
        }

    -- ---- ends of loops

    some_fault : (f : Fault) → Some f ≡ None → ⊥
    some_fault f is = cc

    module _ (over : Party → ℕ → ℕ → Result Bool Fault → Type 0) where
      whole_left : (seat : SeatState P) (n : ℕ) (now : TaskAt P) → HasMadeCalls calls seat n now → IsLeftBy over nodes calls seat n now None
      whole_left seat n now has = record { same = has.same; made = has.made; first = λ none. has.first; cause = tt }

      halted_left : (seat : SeatState P) (n : ℕ) (now : TaskAt P) (fault : Fault) → HasMadeCalls calls seat n now → IsAsked over task_party (task_rested calls) IsTurn n now (Err fault)
          → IsLeftBy over nodes calls seat n now (Some fault)
      halted_left seat n now fault has answer = record {
        same = has.same;
        made = has.made;
        first = λ none. absurd (some_fault fault none);
        cause = inr (suc n, task_rested calls n now, subst (λ (s : SeatSetup P). over (Task s.number) (suc n) (task_rested calls n now) (Err fault)) has.same answer);
      }

      stopped_left : 1 ≤ nodes → (seat : SeatState P) (n : ℕ) (before last : TaskAt P) (fault : Fault) → HasMadeCalls calls seat n before → IsNoTurn (suc n) before last fault
          → IsLeftBy over nodes calls seat n last (Some fault)
      stopped_left some seat n before last fault has none =
          let left = unmade_on (suc n) seat before last fault has.same has.made some none in
          record { same = left.0; made = left.1; first = λ none. absurd (some_fault fault none); cause = inl left.2 }

      module _ (turns : ℕ) (seat : SeatState P) (line : Line) (fresh : seat.part ≡ fresh_part (OfTask fresh_task)) where
        abbrev Ended : TaskAt P → Option Fault → Type 0
        Ended last fault = HasEnded over task_party (task_rested calls) IsTurn IsNoTurn turns (before_calls seat line) last fault

        none_turned : HasMadeCalls calls seat 0 (before_calls seat line)
        none_turned = record { same = refl; made = none_made calls seat fresh; first = λ some more. absurd (omega (arith, more)) }

        pub task_looped : {M : Type 0} (notifies : Party → Option Fault → Type 0) → 1 ≤ nodes → (last : TaskAt P) (fault : Option Fault) → Ended last fault → notifies (task_party last) fault
            → IsTaskLooped {M = M} next answers begin over notifies nodes turns calls seat line (task_end_of last fault)
        task_looped notifies some last fault ended notified =
            let left = by_end over task_party (task_rested calls) IsTurn IsNoTurn (HasMadeCalls calls seat) (IsLeftBy over nodes calls seat) (one_turned seat) (whole_left seat) (halted_left seat) (stopped_left some seat)
            turns (before_calls seat line) last fault none_turned ended in
            record {
              last = last;
              is = refl;
              ran = ended;
              same = left.same;
              notified = subst (λ (s : SeatSetup P). notifies (Task s.number) fault) left.same notified;
              made = left.made;
              first = left.first;
              whole = λ never none. made_all over task_party (task_rested calls) IsTurn IsNoTurn turns (before_calls seat line) last fault never none ended;
              cause = left.cause;
            }

-- ---- one turn, by its steps

module _ {S P : Type 0} (next : S → Action → S) (answers : S → Action → List Answer) (begin : P → S) (nodes : ℕ) (calls : List TaskCall) (turn : ℕ) (old new : TaskAt P) where
  module _ (between : SeatState P) (full : Line) (node : ℕ) (is : node ≡ node_at nodes turn) (brought : IsBrought next answers begin (Node node) (Task old.seat.setup.number) old.seat between old.line full)
      (heard : SeatState P) (so_far : Calls) (answered : Bool) (hears : Hears (given_on full) between heard answered) (gives : new.line ≡ line_after full) (counts : so_far ≡ heard_by answered turn old.so_far) where
    is_heard : IsHeard next answers begin nodes calls turn old heard new.line so_far
    is_heard = record {
      between = between;
      full = full;
      brought = subst (λ (n : ℕ). IsBrought next answers begin (Node n) (Task old.seat.setup.number) old.seat between old.line full) is brought;
      answered = answered;
      hears = hears;
      gives = gives;
      counts = counts;
    }

    pub turn_made : (lost : ℕ) → Asks next answers begin (asked_in nodes calls turn so_far) heard new.seat lost → new.so_far ≡ with_lost lost (asked_for calls so_far)
        → IsTaskTurnOf next answers begin nodes calls turn old new
    turn_made lost asks made = record { heard = heard; so_far = so_far; hears = is_heard; lost = lost; asks = asks; counts = made }

    pub turn_unmade : (fault : Fault) → new.so_far ≡ so_far → IsTaskRefused (asked_in nodes calls turn so_far) heard new.seat fault → IsUnmadeTurn next answers begin nodes calls turn old new fault
    turn_unmade fault stays refused = unasked (record {
      heard = heard;
      hears = subst (λ (c : Calls). IsHeard next answers begin nodes calls turn old heard new.line c) (sym stays) is_heard;
      refused = subst (λ (c : Calls). IsTaskRefused (asked_in nodes calls turn c) heard new.seat fault) (sym stays) refused;
    })

  -- the packet that was fetched is lost
  pub turn_lost : (node : ℕ) (fault : Fault) → node ≡ node_at nodes turn → IsLost (Node node) (Task old.seat.setup.number) old.seat new.seat old.line new.line fault → new.so_far ≡ old.so_far
      → IsUnmadeTurn next answers begin nodes calls turn old new fault
  turn_lost node fault is lost stays = untaken (subst (λ (n : ℕ). IsLost (Node n) (Task old.seat.setup.number) old.seat new.seat old.line new.line fault) is lost) stays

-- ---- what is asked, once a task waits for none

module _ (nodes : ℕ) (calls : List TaskCall) (turn : ℕ) (so_far : Calls) (call : Option TaskCall) (off : so_far.waits ≡ false) (at : slice_get calls so_far.made ≡ call) where
  pub asked_next : asked_in nodes calls turn so_far ≡ submitted call
  asked_next = ap (λ (b : Bool). asked_by b nodes calls so_far.made turn) off ∙ ap submitted at

  pub made_next : asked_for calls so_far ≡ with_call call so_far
  made_next = ap (λ (b : Bool). made_by b calls so_far) off ∙ ap (λ (o : Option TaskCall). with_call o so_far) at
