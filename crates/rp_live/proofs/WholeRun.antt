-- A whole run, by its parts.
use Rattle.std.proofs.Common.{◌≡◌, ◌≤◌, ◌+◌, ◌-◌, ℕ, suc, Bool, List, [], All, length, map, slice_get, inl, inr, ◌⊎◌, Option, Some, None, sym, ap, subst, ◌∙◌, arith}
use Rattle.std.specs.Prelude.{IfSome, slice_index}
use Rattle.std.specs.List.{AllZip}
use Rattle.rp_threads.specs.rp_base.specs.Number.{IsTask}
use Rattle.rp_threads.specs.rp_base.specs.Sets.{Has}
use Rattle.rp_threads.specs.rp_base.proofs.Members.{has_mapped}
use Rattle.rp_threads.specs.rp_base.specs.declared.action.Action.{Action}
use Rattle.rp_threads.specs.rp_base.specs.declared.config.Config.{Config}
use Rattle.rp_threads.specs.rp_base.specs.declared.reply.Answer.{Answer}
use Rattle.rp_threads.specs.rp_codec.specs.declared.packet.Party.TheVariants.{Node, Task}
use Rattle.rp_boxes.specs.rp_machine.specs.Places.{IsPlace}
use Rattle.rp_boxes.specs.rp_machine.specs.Replay.{counted_of}
use Rattle.rp_boxes.specs.rp_model.specs.declared.event.Event.{Event}
use Rattle.rp_boxes.specs.rp_agreement.specs.Answered.{named}
use Rattle.rp_boxes.specs.rp_store.specs.Disk.{Memory}
use Rattle.rp_threads.specs.rp_tasks.specs.Line.{Line}
use Rattle.rp_board.specs.Seats.{SeatSetup, SeatState}
use Rattle.rp_boxes.specs.atomic_table.specs.Seated.{TableId}
use Rattle.rp_boxes.specs.FirstSeats.{first_seat}
use Rattle.rp_boxes.specs.Together.{IsTaskOf}
use Rattle.rp_threads.specs.Rounds.{IsCountedTurn, IsUncountedTurn, Runs}
use Rattle.rp_threads.specs.TaskRounds.{IsTaskTurnOf, IsUnmadeTurn}
use Rattle.rp_threads.specs.Loops.{total_of}
use Rattle.rp_threads.specs.Tasks.{HasMade}
use Rattle.rp_threads.specs.Threads.{IsLooped, IsTaskLooped}
use Rattle.rp_threads.specs.declared.loops.NodeEnd.{NodeEnd}
use Rattle.rp_threads.specs.declared.tasks.TaskEnd.{TaskEnd}
use Rattle.rp_threads.specs.declared.tasks.TaskCall.{TaskCall}
use Rattle.rp_live.specs.Calls.{CountsCalls}
use Rattle.rp_live.specs.Events.{calls_at}
use Rattle.rp_live.specs.Lines.{party_line}
use Rattle.rp_live.specs.LiveOutcome.{HasRun, IsLiveRun, IsAudited, IsNodeEnd, IsNodeOver, IsTaskEnd, IsTaskOver, replies_at}
use Rattle.rp_live.specs.Pace.{calm_turns, lets, heard, over, ended}
use Rattle.rp_live.specs.Seats.{AreNumbered, HasAppliedAt, HasReportedSince, IsEndOfRun, StillRuns}
use Rattle.rp_live.specs.declared.run.LiveOutcome.{LiveOutcome}
use Rattle.rp_boxes.proofs.OneWorld.{made_at}
use Rattle.rp_live.proofs.Counting.{counts_calls, so_far}
use Rattle.rp_threads.proofs.NodeChains.{still_runs}
use Rattle.rp_live.proofs.Over.{all_replied, node_over, own_cause, task_over}
use Rattle.rp_live.proofs.Noting.{IsSame, all_noted}
use Rattle.rp_live.proofs.Seating.{all_has, all_mapped, first_tables, member_at, some_then, zip_length}
use Rattle.rp_live.proofs.Zips.{all_both, zip_all, zip_kinds, zip_places, zip_so}

-- ---- the loops of a run

module _ {S P : Type 0} (next : S → Action → S) (answers : S → Action → List Answer) (begin : P → S) (config : Config) (events : List Event) (seed turns : ℕ) where
  -- the loops of what was ready to run
  pub node_loops_by : {A : Type 0} (noted : List (SeatState P)) (nodes : List (NodeEnd S Memory P)) (f : A → SeatState P) (g : A → Line) (starts : List A) (count : ℕ) → map f starts ≡ noted → All (λ s. g s ≡ party_line seed (Node (f s).setup.number)) starts
      → count ≡ config.nodes → AllZip (λ s end. IsLooped next answers begin lets heard over ended count turns (f s) (g s) end) starts nodes → AllZip (IsNodeEnd next answers begin config events seed turns) noted nodes
  node_loops_by noted nodes f g starts count is lines same zip =
      subst (λ (l : List (SeatState P)). AllZip (IsNodeEnd next answers begin config events seed turns) l nodes) is
      (zip_kinds f g (λ seat. party_line seed (Node seat.setup.number)) (λ seat line end. IsLooped next answers begin lets heard over ended config.nodes turns seat line end) starts nodes lines
      (subst (λ (n : ℕ). AllZip (λ s end. IsLooped next answers begin lets heard over ended n turns (f s) (g s) end) starts nodes) same zip))

  pub task_loops_by : {A : Type 0} (first_tasks : List (SeatState P)) (tasks : List (TaskEnd S P)) (f : A → SeatState P) (h : A → List TaskCall) (g : A → Line) (starts : List A) (count : ℕ) → map f starts ≡ first_tasks
      → All (λ s. h s ≡ calls_at events (f s).setup.number) starts → All (λ s. g s ≡ party_line seed (Task (f s).setup.number)) starts → count ≡ config.nodes
      → AllZip (λ s end. IsTaskLooped next answers begin over ended count turns (h s) (f s) (g s) end) starts tasks → AllZip (IsTaskEnd next answers begin config events seed turns) first_tasks tasks
  task_loops_by {A} first_tasks tasks f h g starts count is calls lines same zip =
      let kind : A → List TaskCall × Line = λ s. (h s, g s) in
      let by : SeatState P → List TaskCall × Line = λ seat. (calls_at events seat.setup.number, party_line seed (Task seat.setup.number)) in
      let both = all_both (λ s. h s ≡ calls_at events (f s).setup.number) (λ s. g s ≡ party_line seed (Task (f s).setup.number)) (λ s. kind s ≡ by (f s)) (λ s c l. λ i. (c i, l i)) starts calls lines in
      subst (λ (l : List (SeatState P)). AllZip (IsTaskEnd next answers begin config events seed turns) l tasks) is
      (zip_kinds f kind by (λ seat k end. IsTaskLooped next answers begin over ended config.nodes turns k.0 seat k.1 end) starts tasks both
      (subst (λ (n : ℕ). AllZip (λ s end. IsTaskLooped next answers begin over ended n turns (h s) (f s) (g s) end) starts tasks) same zip))

-- ---- the run

module _ {S P : Type 0} (next : S → Action → S) (answers : S → Action → List Answer) (begin : P → S) (config : Config) (program : P) (events : List Event) (seed turns : ℕ)
    (audit : SeatState P) (nodes : List (NodeEnd S Memory P)) (tasks : List (TaskEnd S P)) where
  -- it has run, and the nodes ran once the events were noted
  abbrev pub HasRunOn : Type 0
  HasRunOn = (ran : HasRun next answers begin config program events seed turns audit nodes tasks) × All (λ seat. Runs seat.part) ran.noted

module _ {S P : Type 0} {next : S → Action → S} {answers : S → Action → List Answer} {begin : P → S} {config : Config} {program : P} {events : List Event} {seed turns : ℕ}
    {audit : SeatState P} {nodes : List (NodeEnd S Memory P)} {tasks : List (TaskEnd S P)} (whole : HasRunOn next answers begin config program events seed turns audit nodes tasks) where
  abbrev table_of : SeatSetup P → TableId
  table_of setup = setup.table

  abbrev number_of : SeatSetup P → ℕ
  number_of setup = setup.number

  abbrev IsHere : SeatState P → Type 0
  IsHere seat = seat.setup.table ≡ audit.setup.table

  pub nodes_here : All (λ end. end.seat.setup.table ≡ audit.setup.table) nodes
  nodes_here =
      let before = zip_all IsHere IsSame IsHere (λ old new here same. ap table_of same ∙ here) whole.0.first_nodes whole.0.noted (first_tables audit.setup.table config program 1 whole.0.failures whole.0.first_nodes whole.0.seats.nodes_are)
      (all_noted next answers begin events (length events) whole.0.first_nodes whole.0.noted whole.0.notes) in
      zip_all IsHere (IsNodeEnd next answers begin config events seed turns) (λ end. end.seat.setup.table ≡ audit.setup.table) (λ seat end here ran. ap table_of ran.same ∙ here) whole.0.noted nodes before whole.0.node_loops

  pub tasks_here : All (λ end. end.seat.setup.table ≡ audit.setup.table) tasks
  tasks_here =
      zip_all IsHere (IsTaskEnd next answers begin config events seed turns) (λ end. end.seat.setup.table ≡ audit.setup.table) (λ seat end here ran. ap table_of ran.same ∙ here) whole.0.first_tasks tasks
      (first_tables audit.setup.table config program 8 [] whole.0.first_tasks whole.0.seats.tasks_are) whole.0.task_loops

  abbrev IsOfNumber : ℕ → SeatState P → Type 0
  IsOfNumber place seat = seat.setup.number ≡ 0 + place + 1

  pub nodes_numbered : AreNumbered 0 nodes
  nodes_numbered =
      let first : (place : ℕ) → IfSome (slice_get whole.0.first_nodes place) (IsOfNumber place) = λ place.
      some_then (λ seat. seat ≡ first_seat audit.setup.table config program (suc place) (1 + place) (slice_index whole.0.failures place)) (IsOfNumber place)
      (λ seat is. let e : seat.setup.number ≡ suc place = ap (λ (c : SeatState P). c.setup.number) is in omega (arith, e)) (slice_get whole.0.first_nodes place) (whole.0.seats.nodes_are place) in
      let before = zip_places IsOfNumber IsSame IsOfNumber (λ place old new here same. ap number_of same ∙ here) whole.0.first_nodes whole.0.noted first
      (all_noted next answers begin events (length events) whole.0.first_nodes whole.0.noted whole.0.notes) in
      zip_places IsOfNumber (IsNodeEnd next answers begin config events seed turns) (λ place end. IsOfNumber place end.seat) (λ place seat end here ran. ap number_of ran.same ∙ here) whole.0.noted nodes before whole.0.node_loops

  pub nodes_ended : All IsEndOfRun nodes
  nodes_ended = zip_all (λ seat. Runs seat.part) (IsNodeEnd next answers begin config events seed turns) IsEndOfRun (λ seat end run ran. (seat, (run, own_cause seat end.seat (Node seat.setup.number) end.fault ran.cause))) whole.0.noted nodes whole.1 whole.0.node_loops

  pub nodes_still : All StillRuns nodes
  nodes_still = zip_all (λ seat. Runs seat.part) (IsNodeEnd next answers begin config events seed turns) StillRuns
      (λ seat end run ran none. still_runs next answers begin lets heard config.nodes over turns seat (party_line seed (Node seat.setup.number)) ended end ran none run) whole.0.noted nodes whole.1 whole.0.node_loops

  -- ---- why the loops ended

  node_is_over : (seat : SeatState P) (end : NodeEnd S Memory P) → IsNodeEnd next answers begin config events seed turns seat end → IsNodeOver next answers begin config events seed turns seat end
  node_is_over seat end ran = record {
    looped = ran;
    why = λ none. elim (node_over (IsCountedTurn next answers begin lets heard config.nodes) (IsUncountedTurn next answers begin lets heard config.nodes) end.fault turns ran.ran.done ran.ran.before ran.last ran.ran.ends none) [
      | inl all ↦ inl ((ran.counts none).counted ∙ all)
      | inr rested ↦ inr rested
    ];
  }

  task_is_over : (seat : SeatState P) (end : TaskEnd S P) → IsTaskEnd next answers begin config events seed turns seat end → IsTaskOver next answers begin config events seed turns seat end
  task_is_over seat end ran = record {
    looped = ran;
    why = λ none. elim (task_over (calls_at events seat.setup.number) (IsTaskTurnOf next answers begin config.nodes (calls_at events seat.setup.number))
        (IsUnmadeTurn next answers begin config.nodes (calls_at events seat.setup.number)) end.fault turns ran.ran.done ran.ran.before ran.last ran.ran.ends none) [
          | inl all ↦ inl all
          | inr replied ↦
              let made : end.made ≡ ran.last.so_far.made = ap (λ (e : TaskEnd S P). e.made) ran.is in
              let both = all_replied (calls_at events seat.setup.number) end.seat ran.last.so_far.made ran.last.so_far.waits (subst (λ (n : ℕ). HasMade (calls_at events seat.setup.number) end.seat n ran.last.so_far.waits) made ran.made) replied in
              inr (made ∙ both.0, both.1 ∙ sym made)
        ];
  }

  -- each task made calls among the events
  abbrev HasCalls : TaskEnd S P → Type 0
  HasCalls end = (waits : Bool) × HasMade (calls_at events end.seat.setup.number) end.seat end.made waits

  tasks_made : All HasCalls tasks
  tasks_made = zip_all IsHere (IsTaskEnd next answers begin config events seed turns) HasCalls
      (λ seat end here ran. (ran.last.so_far.waits, subst (λ (n : ℕ). HasMade (calls_at events n) end.seat end.made ran.last.so_far.waits) (sym (ap number_of ran.same)) ran.made)) whole.0.first_tasks tasks
      (first_tables audit.setup.table config program 8 [] whole.0.first_tasks whole.0.seats.tasks_are) whole.0.task_loops

  -- the task of each number has its end among them
  end_of_task : (t : ℕ) → IsTask t → (end : TaskEnd S P) × Has end tasks × (end.seat.setup.number ≡ t)
  end_of_task t is =
      let first : (place : ℕ) → IfSome (slice_get whole.0.first_tasks place) (IsOfNumber place) = λ place.
      some_then (λ seat. seat ≡ first_seat audit.setup.table config program (suc place) (8 + place) (slice_index [] place)) (IsOfNumber place)
      (λ seat same. let e : seat.setup.number ≡ suc place = ap (λ (c : SeatState P). c.setup.number) same in omega (arith, e)) (slice_get whole.0.first_tasks place) (whole.0.seats.tasks_are place) in
      let numbered = zip_places IsOfNumber (IsTaskEnd next answers begin config events seed turns) (λ place end. IsOfNumber place end.seat) (λ place seat end here ran. ap number_of ran.same ∙ here) whole.0.first_tasks tasks first whole.0.task_loops in
      let eight : length tasks ≡ 8 = zip_length (IsTaskEnd next answers begin config events seed turns) whole.0.first_tasks tasks whole.0.task_loops ∙ whole.0.seats.eight in
      let found = member_at (λ end. IsOfNumber (t - 1) end.seat) tasks (t - 1) (omega (arith, eight, is.0, is.1)) (numbered (t - 1)) in
      (found.0, found.1, (let number = found.2 in omega (arith, number, is.0)))

  pub outcome : (resulted : LiveOutcome) → IsAudited next answers begin audit nodes tasks resulted → IsLiveRun next answers begin config program events seed turns resulted
  outcome resulted stated =
      let order = stated.together.order in
      let same : stated.known.seat.setup.program ≡ program = ap (λ (s : SeatSetup P). s.program) (stated.same ∙ ap (λ (c : SeatState P). c.setup) whole.0.seats.audit_is) in
      let are = all_mapped (IsTaskOf next answers (begin stated.known.seat.setup.program) order) (λ (end : TaskEnd S P). end.seat) tasks stated.together.tasks_are in
      record {
        audit = audit;
        nodes = nodes;
        tasks = tasks;
        ran = whole.0;
        stated = stated;
        nodes_over = zip_so (IsNodeEnd next answers begin config events seed turns) (IsNodeOver next answers begin config events seed turns) node_is_over whole.0.noted nodes whole.0.node_loops;
        tasks_over = zip_so (IsTaskEnd next answers begin config events seed turns) (IsTaskOver next answers begin config events seed turns) task_is_over whole.0.first_tasks tasks whole.0.task_loops;
        size = zip_length HasAppliedAt stated.last resulted.applied.items stated.applied
            ∙ zip_length HasReportedSince nodes stated.last stated.reported ∙ zip_length (IsNodeEnd next answers begin config events seed turns) whole.0.noted nodes whole.0.node_loops
            ∙ zip_length IsSame whole.0.first_nodes whole.0.noted (all_noted next answers begin events (length events) whole.0.first_nodes whole.0.noted whole.0.notes) ∙ whole.0.seats.size;
        calls = all_both HasCalls (λ end. IsTaskOf next answers (begin stated.known.seat.setup.program) order end.seat)
            (λ end. CountsCalls end.seat.setup.number (calls_at events end.seat.setup.number) end.made (counted_of next answers (begin program) order))
            (λ end has is. subst (λ (p : P). CountsCalls end.seat.setup.number (calls_at events end.seat.setup.number) end.made (counted_of next answers (begin p) order)) same
            (counts_calls (calls_at events end.seat.setup.number) end.seat end.made has.0 has.1 (counted_of next answers (begin stated.known.seat.setup.program) order) is.calls)) tasks tasks_made are;
        made = λ t n place at.
            let here = subst (λ (p : P). IsPlace next answers (begin p) order (named t n) place) (sym same) at in
            let counted = stated.together.of_world.made t n place here in
            let end = end_of_task t counted.0 in
            let calls = all_has HasCalls tasks tasks_made end.0 end.1 in
            let few = made_at next answers begin stated.known stated.last (map (λ (e : TaskEnd S P). e.seat) tasks) order stated.together.of_world end.0.seat
            (has_mapped (λ (e : TaskEnd S P). e.seat) end.0 tasks end.1) n place (subst (λ (k : ℕ). IsPlace next answers (begin stated.known.seat.setup.program) order (named k n) place) (sym end.2) here) in
            (end.0, end.1, end.2, counted.1, subst (λ (k : ℕ). n ≤ k) (so_far (calls_at events end.0.seat.setup.number) end.0.seat end.0.made calls.0 calls.1) few);
      }
