-- Each event of a quorum's nodes and the task is made by moves of an installation that is level.
use Rattle.std.proofs.Common.{cond, ◌≡◌, ℕ, suc, ◌≤◌, ℤ, Bool, true, false, Option, Some, None, Result, Ok, Err, List, [], ◌∷◌, ◌++◌, length, map, inl, inr, refl, sym, ap, subst, ◌∙◌, add-one, length-append, eq-eqb, arith}
use Rattle.std.specs.Prelude.{nat_lt, nat_le, nat_eq, not, ◌&&◌, ◌||◌, is_some, FitsSigned, IfSome}
use Rattle.std.specs.Int.{w64}
use Rattle.std.specs.List.{AllByRecursion}
use Rattle.std.proofs.lemmas.Bool.{cases_Bool, cond-true, cond-false, and_parts, eqb-true, leb-true, ltb-true, le-ltb}
use Rattle.std.proofs.lemmas.List.{append-nil, map-append}
use Rattle.rp_base.specs.Action.{IsRightOperation, is_right, is_right_operation}
use Rattle.rp_base.specs.Calls.{are_exhausted, is_reply_to}
use Rattle.rp_base.specs.Number.{IsNode, IsPosition, in_range}
use Rattle.rp_base.specs.Sets.{Has}
use Rattle.rp_base.proofs.Members.{has_right, has_mapped}
use Rattle.rp_base.specs.declared.action.Action.{Action}
use Rattle.rp_base.specs.declared.action.Operation.{Operation}
use Rattle.rp_base.specs.declared.action.Operation.TheVariants as operations
use Rattle.rp_base.specs.declared.config.Config.{Config}
use Rattle.rp_base.specs.declared.fault.Fault.{Fault}
use Rattle.rp_base.specs.declared.fault.Fault.TheVariants.{NotRunning, TaskBusy, NumbersSpent, BadConfig}
use Rattle.rp_base.specs.declared.record.Rec.{Rec}
use Rattle.rp_base.specs.declared.reply.Answer.{Answer}
use Rattle.rp_base.specs.declared.reply.Reply.{Reply}
use Rattle.rp_codec.specs.Message.{Message, IsPacket}
use Rattle.rp_codec.specs.Record.{IsRecord}
use Rattle.rp_codec.specs.Text.{text_of, reply_text}
use Rattle.rp_codec.specs.declared.packet.Body.{Body}
use Rattle.rp_codec.specs.declared.packet.Body.TheVariants as bodies
use Rattle.rp_codec.specs.declared.packet.Party.{Party}
use Rattle.rp_codec.specs.declared.packet.Party.TheVariants as parties
use Rattle.rp_codec.specs.declared.version.Version.TheVariants.{V2}
use Rattle.rp_codec.proofs.RecordLaws.{has_latest}
use Rattle.rp_model.specs.Effect.{Setting, Done, NodeInput, goes_on_as, running_effect, turn_done, turn_done_if, effect_while, node_effect, stop_part, stops_while, restart_while}
use Rattle.rp_model.specs.Effect as inputs
use Rattle.rp_model.specs.Events.{Event, Submit, Again, Makes, Cut, Stop, Restart, Deliver, Lead, LeadRange, Interrupt, Tick, Report, Ask, IsRightEvent}
use Rattle.rp_model.specs.Parts.{NodePart, Running, TaskPart, Turn, fresh_running, is_in_log, records_in_log, with_record}
use Rattle.rp_model.specs.Tasks as tasks
use Rattle.rp_model.specs.Tasks.{may_call, calls_if, asks, asks_again, takes_reply, task_hears, task_effect}
use Rattle.rp_model.specs.World.{World, Transition, part_at, nothing_happens, node_done, node_done_if, task_done, task_done_if, task_takes, commanded, reaches_node, reaches_number, reaches_task, reaches, delivers, chosen_effect, stops, restarts, event_effect}
use Rattle.rp_agreement.specs.Answered.{IsKeptWorld, calls_so_far}
use Rattle.rp_agreement.specs.History.{IsHistory}
use Rattle.rp_agreement.specs.Ranges.{IsRangedWorld}
use Rattle.rp_agreement.proofs.LogKeeping.{history_in_log}
use Rattle.rp_agreement.proofs.PartPlaces.{part_has}
use Rattle.rp_agreement.proofs.Places.{AnswersKnown}
use Rattle.rp_world.specs.rp_replica.specs.Inputs.{effect_if_given}
use Rattle.rp_world.specs.rp_replica.specs.State.{part_of}
use Rattle.rp_world.specs.rp_store.specs.Records.{AreTextsOf}
use Rattle.rp_world.specs.rp_store.proofs.Whole.{are_alone, texts_end}
use Rattle.rp_requests.specs.Nodes.{after_step, stored_by}
use Rattle.rp_requests.specs.Timing.{comes_early, comes_late}
use Rattle.rp_requests.specs.Requests.{Step, asked_of}
use Rattle.rp_requests.specs.TaskRequests.{TaskAsked, MakeCall, SendAgain, TakePacket, task_asked_of}
use Rattle.rp_requests.specs.Tasks.{is_task, reply_taken, outstanding_reply}
use Rattle.rp_requests.specs.Texts.{step_text, FitsStep, task_request_text, FitsTaskRequest}
use Rattle.rp_requests.specs.rp_tasks.specs.Calls.{Calls, refusal_of, with_reply}
use Rattle.rp_installations.specs.Behind.{calls_kept}
use Rattle.rp_installations.specs.Moves.{AreBytes, WasHandedOn, node_receives_byte}
use Rattle.rp_installations.specs.Sites.{NodeSite, Installation, closed_over}
use Rattle.rp_installations.proofs.Pieces.{each_packet, all_pass}
use Rattle.rp_installations.proofs.Starts.{effect_alike}
use Rattle.rp_installations.proofs.Stepping.{goes_on}
use Rattle.rp_possible.specs.Rounds.{IsOneOf, IsTheirs, ComesInTime, GoesOnBy}
use Rattle.rp_progress_by_handle.proofs.Bytes.{Bytes, are_bytes, packet_bytes, position_bytes, call_bytes}
use Rattle.rp_progress_by_handle.proofs.InTime.{comes_in_time}
use Rattle.rp_progress_by_handle.proofs.Level.{IsOpenLevel, IsLevelNode, OpenLevel, ClosedLevel, returned, IsLevel, Follows, follows_node, follows_task}
use Rattle.rp_progress_by_handle.proofs.NodeMoves.{open_site, opened_node, closes_on, opens_on, steps_on}
use Rattle.rp_progress_by_handle.proofs.Reaching.{TaskReaches, stands, goes_then, stays, task_stays}
use Rattle.rp_progress_by_handle.proofs.TaskMoves.{task_site, calls_on, asks_again_on, takes_on}

-- ---- small facts

same_transition : (x y : Transition) (r : Result Transition Fault) → r ≡ Ok x → r ≡ Ok y → x ≡ y
same_transition x y r a b = let both : (let o : Result Transition Fault = Ok x in o) ≡ Ok y = sym a ∙ b in cc

never : (fault : Fault) (y : Transition) (r : Result Transition Fault) → r ≡ Err fault → r ≡ Ok y → ⊥
never fault y r a b = let both : (let o : Result Transition Fault = Err fault in o) ≡ Ok y = sym a ∙ b in absurd (cc)

abbrev rest_of : List ℕ → List ℕ
rest_of [] = []
rest_of (b ∷ rest) = rest

abbrev first_of : List ℕ → ℕ
first_of [] = 0
first_of (b ∷ rest) = b

texts_more : (records : List Rec) (written : Option Rec) (bytes : List ℕ) → AreTextsOf records bytes → AreTextsOf (with_record records written) (bytes ++ stored_by written)
texts_more records None bytes are = subst (AreTextsOf records) (sym (append-nil bytes)) are
texts_more records (Some rec) bytes are = texts_end records rec V2 bytes (has_latest rec) are

pub each_record : (records : List Rec) → ((rec : Rec) → Has rec records → IsRecord rec) → AllByRecursion IsRecord records
each_record [] all = tt
each_record (rec ∷ rest) all = (all rec (inl refl), each_record rest (λ r later. all r (inr later)))

if_false : (b : Bool) → not b ≡ false → b ≡ true
if_false true e = refl
if_false false e = absurd (cc)

neither : (a b : Bool) → (a || b) ≡ false → (a ≡ false) × (b ≡ false)
neither true b e = absurd (cc)
neither false b e = (refl, e)

in_both : (low high n : ℕ) → in_range low high n ≡ true → (low ≤ n) × (n ≤ high)
in_both low high n e = let both = and_parts (nat_le low n) (nat_le n high) e in (leb-true low n both.0, leb-true n high both.1)

operation_fits : (operation : Operation) → is_right_operation operation ≡ true → IsRightOperation operation
operation_fits (operations.Function index) e = in_both 1 8 index e
operation_fits (operations.Procedure index) e = in_both 1 8 index e
operation_fits (operations.Entry index) e = in_both 1 4 index e
operation_fits (operations.SetTimer index) e = in_both 1 8 index e
operation_fits (operations.CancelTimer index) e = in_both 1 8 index e

-- a reply is to a call that has none
number_some : (number : ℕ) (outstanding : Option Action) → is_reply_to number outstanding ≡ true → is_some outstanding ≡ true
number_some number (Some call) e = refl
number_some number None e =
    let both = and_parts (nat_lt 0 number) (nat_eq number 0) e in
    let zero_is = eqb-true number 0 both.1 in
    let above = ltb-true 0 number both.0 in
    absurd (omega (arith, zero_is, above))

module _ {S : Type 0} (s : Setting S) (image : S → List ℕ) (quorum : List ℕ) (t first : ℕ) (members : (y : ℕ) → Has y quorum → y ≤ s.config.nodes)
    (ranged : (events : List Event) (w : World) → IsHistory s events w → IsRangedWorld s.config.nodes w)
    (keeps : (events : List Event) (w : World) → IsHistory s events w → IsKeptWorld s w) (known : AnswersKnown s)
    (reads : (input : NodeInput) → FitsStep input → asked_of (step_text input) ≡ Some (Step (Ok input)))
    (reads_task : (request : TaskAsked) → FitsTaskRequest request → task_asked_of (task_request_text request) ≡ Some request) where
  -- a node of a world that a history leads to: each record is one, and is in the log
  pub whole_records : (events : List Event) (w : World) → IsHistory s events w → (me : ℕ) (part : NodePart) → part_at w.nodes me ≡ Some part → AllByRecursion IsRecord part.records × (records_in_log s.config.max_positions part.records ≡ part.records)
  whole_records events w history me part there = (
    each_record part.records ((ranged events w history).parts part (part_has w.nodes me part there)).records,
    all_pass (is_in_log s.config.max_positions) part.records (history_in_log s events w history part (part_has w.nodes me part there)),
  )

  -- an opened node is level, by its records alone
  pub level_opened : (me : ℕ) (part : NodePart) (records : List Rec) (texts : List ℕ) (torn : ℕ) (noted : List Action) → part.torn ≡ 0 → part.running ≡ Some fresh_running → records_in_log s.config.max_positions records ≡ part.records → AreTextsOf part.records texts
      → IsOpenLevel s me part (open_site (opened_node s.config s.begin me records texts torn) texts [] noted)
  level_opened me part records texts torn noted untorn fresh same are = record {
    node = opened_node s.config s.begin me records texts torn;
    site_is = refl;
    set_up = record { me_is = refl; config = refl; begin = record { kept = λ log. refl; given = λ log. refl } };
    reached = λ n. (let p : NodePart = record { records = same n; torn = sym untorn n; running = sym fresh n } in p);
    records = are;
  }

  module _ (events : List Event) (w : World) (history : IsHistory s events w) (i : Installation S) (level : IsLevel s quorum t first w i) (event : Event) (transition : Transition)
      (effect : event_effect s w event ≡ Ok transition) (right : IsRightEvent event) where
    after : IsRangedWorld s.config.nodes transition.world
    after = ranged (events ++ event ∷ []) transition.world (goes_on s events w history event transition right effect)

    abbrev To : World → Type 0
    To u = Follows s image quorum t first i u

    -- ---- a step of a node

    module _ (me : ℕ) (has : Has me quorum) (part : NodePart) (there : part_at w.nodes me ≡ Some part) (site : NodeSite S) (here : part_at i.nodes me ≡ Some site) where
      module _ (input : NodeInput) (fits : FitsStep input) (bytes : AreBytes (step_text input)) (came : WasHandedOn i.handed_on node_receives_byte (step_text input))
          (in_time : (o : IsOpenLevel s me part site) → comes_early s.next s.answers o.node.replica (Ok input) ≡ false) where
        by_result : (o : IsOpenLevel s me part site) (r : Result Turn Fault) → running_effect s me o.node.replica.records o.node.replica.running input ≡ r
            → node_done_if w me (turn_done_if (part_of o.node.replica) (running_effect s me o.node.replica.records o.node.replica.running input)) ≡ Ok transition → To transition.world
        by_result o (Err fault) is done = absurd (never fault transition _ (ap (λ (r : Result Turn Fault). node_done_if w me (turn_done_if (part_of o.node.replica) r)) is) done)
        by_result o (Ok turn) is done =
            let node = o.node in
            let p = part_of node.replica in
            let made = node_done w me (turn_done p turn) in
            let same : made ≡ transition = same_transition made transition _ (ap (λ (r : Result Turn Fault). node_done_if w me (turn_done_if p r)) is) done in
            let at : ℕ → Config → Result Turn Fault =
            λ k c. (let setting : Setting S = record { config = c; next = s.next; answers = s.answers; begin = node.replica.begin } in running_effect setting k node.replica.records node.replica.running input) in
            let given : effect_if_given s.next s.answers node.replica (Ok input) ≡ Ok turn =
            (λ n. at (o.set_up.me_is n) (o.set_up.config n)) ∙ effect_alike s.config s.next s.answers node.replica.begin s.begin o.set_up.begin me node.replica.records node.replica.running input ∙ is in
            let each : AllByRecursion IsPacket turn.sent = each_packet turn.sent (λ m h. after.packets m (subst (λ (x : Transition). Has m x.world.sent) same (has_right m w.sent turn.sent h))) in
            let reach = steps_on s.next s.answers image s.config s.begin quorum t reads me has node site.synced site.step_packets site.noted input turn fits bytes given (in_time o) each i (here ∙ ap (λ (x : NodeSite S). Some x) o.site_is) came in
            let records = subst (λ (q : NodePart). AreTextsOf q.records site.synced) (sym o.reached) o.records in
            subst (λ (x : Transition). To x.world) same
            (follows_node s image quorum t first w i level me part there (turn_done p turn) _ (map text_of turn.sent) reach
            (OpenLevel (record {
              node = after_step node (comes_late s.next s.answers node.replica (Ok input)) turn;
              site_is = refl;
              set_up = record { me_is = o.set_up.me_is; config = o.set_up.config; begin = o.set_up.begin };
              reached = refl;
              records = texts_more node.replica.records turn.written site.synced records;
            }))
            (λ m h. has_mapped text_of m turn.sent h))

        pub steps_node : IsLevelNode s me part site → node_done_if w me (node_effect s me part input) ≡ Ok transition → To transition.world
        steps_node (OpenLevel o) done = by_result o _ refl (subst (λ (p : NodePart). node_done_if w me (node_effect s me p input) ≡ Ok transition) (sym o.reached) done)
        steps_node (ClosedLevel c) done = absurd (never NotRunning transition _ (ap (λ (r : Option Running). node_done_if w me (effect_while s me part input r)) c.stopped) done)

      -- ---- a stop

      pub stops_node : IsLevelNode s me part site → node_done_if w me (stops_while part part.running) ≡ Ok transition → To transition.world
      stops_node (OpenLevel o) done =
          let p = part_of o.node.replica in
          let made = node_done w me (goes_on_as (stop_part p)) in
          let same : made ≡ transition = same_transition made transition _ refl (subst (λ (q : NodePart). node_done_if w me (stops_while q q.running) ≡ Ok transition) (sym o.reached) done) in
          let reach = closes_on s.next s.answers image s.config s.begin quorum t i me site has here (ap (λ (x : NodeSite S). is_some x.node) o.site_is) in
          subst (λ (x : Transition). To x.world) same
          (follows_node s image quorum t first w i level me part there (goes_on_as (stop_part p)) (closed_over site.synced site.noted) [] reach
          (ClosedLevel (record { site_is = refl; stopped = refl; records = subst (λ (q : NodePart). AreTextsOf q.records site.synced) (sym o.reached) o.records }))
          (λ m none. absurd none))
      stops_node (ClosedLevel c) done = absurd (never NotRunning transition _ (ap (λ (r : Option Running). node_done_if w me (stops_while part r)) c.stopped) done)

      -- ---- a restart

      pub restarts_node : IsLevelNode s me part site → (let o : Result Transition Fault = Ok (node_done w me (restart_while part part.running)) in o) ≡ Ok transition → To transition.world
      restarts_node (OpenLevel o) done =
          let p = part_of o.node.replica in
          let made = node_done w me (goes_on_as p) in
          let same : made ≡ transition = same_transition made transition _ refl (subst (λ (q : NodePart). (let o : Result Transition Fault = Ok (node_done w me (restart_while q q.running)) in o) ≡ Ok transition) (sym o.reached) done) in
          subst (λ (x : Transition). To x.world) same
          (follows_node s image quorum t first w i level me part there (goes_on_as p) site [] (stays s.next s.answers image s.config s.begin quorum t i me site here)
          (OpenLevel (record { node = o.node; site_is = o.site_is; set_up = o.set_up; reached = refl; records = subst (λ (q : NodePart). AreTextsOf q.records site.synced) (sym o.reached) o.records }))
          (λ m none. absurd none))
      restarts_node (ClosedLevel c) done =
          let reopened = restart_while part None in
          let made = node_done w me reopened in
          let same : made ≡ transition = same_transition made transition _ (ap (λ (r : Option Running). Ok (node_done w me (restart_while part r))) c.stopped) done in
          let whole = whole_records events w history me part there in
          let are = are_alone site.synced part.records c.records whole.0 in
          let reach = opens_on s.next s.answers image s.config s.begin quorum t i me site.synced site.noted part.records [] has (here ∙ ap (λ (x : NodeSite S). Some x) c.site_is) are in
          subst (λ (x : Transition). To x.world) same
          (follows_node s image quorum t first w i level me part there reopened _ [] reach
          (OpenLevel (level_opened me reopened.part part.records are.texts 0 site.noted refl refl whole.1 are.are))
          (λ m none. absurd none))

    -- ---- the task

    abbrev here_with : Option Action → List Answer → Type 0
    here_with waits answers = part_at i.tasks t ≡ Some (task_site (calls_kept t (record { outstanding = waits; replies = answers })) (returned answers))

    abbrev ReachesTask : Calls → List (List ℕ) → List (List ℕ) → Type 0
    ReachesTask c replies given = TaskReaches s.next s.answers image s.config s.begin quorum t i (task_site c replies) given

    -- nothing changes
    idles : (part : TaskPart) → part_at i.tasks t ≡ Some (task_site (calls_kept t part) (returned part.replies)) → task_done w t (goes_on_as part) ≡ transition → To transition.world
    idles part here same =
        subst (λ (x : Transition). To x.world) same
        (follows_task s image quorum t first w i level (goes_on_as part) [] (task_stays s.next s.answers image s.config s.begin quorum t i _ here) (λ m none. absurd none))

    calls_next : (waits : Option Action) (answers : List Answer) (node object : ℕ) (operation : Operation) (arg : ℤ) → here_with waits answers → IsNode node → node ≤ s.config.nodes → FitsSigned w64 arg
        → task_done_if w t (task_effect s.config t (record { outstanding = waits; replies = answers }) (tasks.Submit node object operation arg)) ≡ Ok transition → To transition.world
    calls_next (Some other) answers node object operation arg here is within fits done = absurd (never TaskBusy transition _ refl done)
    calls_next None answers node object operation arg here is within fits done =
        let part : TaskPart = record { outstanding = None; replies = answers } in
        let call = tasks.next_call t part object operation arg in
        let spent = are_exhausted (length answers) in
        let wrong = nat_lt s.config.nodes node || not (is_right call) in
        let doing : Result Action Fault → Result Transition Fault = λ r. task_done_if w t (calls_if t node part r) in
        elim (cases_Bool spent) [
          | inl none ↦ absurd (never NumbersSpent transition _ (ap doing (cond-true spent (Err NumbersSpent) (cond wrong (Err BadConfig) (Ok call)) none)) done)
          | inr more ↦ elim (cases_Bool wrong) [
            | inl bad ↦ absurd (never BadConfig transition _ (ap doing (cond-false spent (Err NumbersSpent) (cond wrong (Err BadConfig) (Ok call)) more ∙ cond-true wrong (Err BadConfig) (Ok call) bad)) done)
            | inr good ↦
                let made : Done TaskPart = record (goes_on_as (let p : TaskPart = record { outstanding = Some call; replies = answers } in p)) { sends = asks t node call ∷ [] } in
                let same : task_done w t made ≡ transition =
                same_transition (task_done w t made) transition _ (ap doing (cond-false spent (Err NumbersSpent) (cond wrong (Err BadConfig) (Ok call)) more ∙ cond-false wrong (Err BadConfig) (Ok call) good)) done in
                let tests = if_false (is_right call) (neither (nat_lt s.config.nodes node) (not (is_right call)) good).1 in
                let outer = and_parts (in_range 1 8 t && nat_le 1 (suc (length answers)) && in_range 1 8 object) (is_right_operation operation) tests in
                let inner = and_parts (in_range 1 8 t && nat_le 1 (suc (length answers))) (in_range 1 8 object) outer.0 in
                let index = in_both 1 8 object inner.1 in
                let right_operation = operation_fits operation outer.1 in
                let old = calls_kept t part in
                let free : refusal_of old ≡ None = cond-false spent (Some NumbersSpent) None more in
                let reach = calls_on s.next s.answers image s.config s.begin quorum t reads_task i old (returned answers) here node object operation arg (is, index, right_operation, fits)
                (are_bytes (task_request_text (MakeCall node object operation arg)) (call_bytes node object operation arg is.1 index.1 right_operation)) within free in
                subst (λ (x : Transition). To x.world) same
                (follows_task s image quorum t first w i level made (text_of (asks t node call) ∷ [])
                (subst (λ (n : ℕ). (let c : Calls = record { task = t; made = n; outstanding = Some call } in ReachesTask c (returned answers) (text_of (asks t node call) ∷ []))) (add-one (length answers)) reach)
                (λ m h. elim h [ inl one ↦ inl (ap text_of one) | inr none ↦ absurd none ]))
          ]
        ]

    -- it asks again
    calls_again : (waits : Option Action) (answers : List Answer) (node : ℕ) → here_with waits answers → IsNode node → node ≤ s.config.nodes
        → task_done_if w t (task_effect s.config t (record { outstanding = waits; replies = answers }) (tasks.Again node)) ≡ Ok transition → To transition.world
    calls_again waits answers node here is within done =
        let part : TaskPart = record { outstanding = waits; replies = answers } in
        let made = task_done w t (asks_again t node part waits) in
        let same : made ≡ transition = same_transition made transition _ (ap (task_done_if w t) (cond-false (nat_lt s.config.nodes node) (Err BadConfig) (Ok (asks_again t node part waits)) (le-ltb s.config.nodes node within))) done in
        by_waits waits here same
      where
        by_waits : (o : Option Action) → here_with o answers → task_done w t (asks_again t node (record { outstanding = o; replies = answers }) o) ≡ transition → To transition.world
        by_waits None here same = idles (record { outstanding = None; replies = answers }) here same
        by_waits (Some call) here same =
            let part : TaskPart = record { outstanding = Some call; replies = answers } in
            let asked : Done TaskPart = record (goes_on_as part) { sends = asks t node call ∷ [] } in
            let bytes : Bytes (task_request_text (SendAgain node)) = (omega arith, (omega (arith, is.1), tt)) in
            let reach = asks_again_on s.next s.answers image s.config s.begin quorum t reads_task i (calls_kept t part) (returned answers) here node call refl is (are_bytes (task_request_text (SendAgain node)) bytes) within in
            subst (λ (x : Transition). To x.world) same
            (follows_task s image quorum t first w i level asked (text_of (asks t node call) ∷ []) reach (λ m h. elim h [ inl one ↦ inl (ap text_of one) | inr none ↦ absurd none ]))

    -- it takes a reply
    takes_next : (part : TaskPart) (m : Message) (number : ℕ) (reply : Reply) → part_at i.tasks t ≡ Some (task_site (calls_kept t part) (returned part.replies)) → IsPacket m → Has (text_of m) i.handed_on → m.to ≡ parties.Task t → m.body ≡ bodies.Reply number reply
        → task_done w t (task_hears t part m.body) ≡ transition → To transition.world
    takes_next part m number reply here packet has to body same =
        let old = calls_kept t part in
        let answer : Answer = record { task = t; number = number; reply = reply } in
        let after_part : TaskPart = record { outstanding = None; replies = part.replies ++ answer ∷ [] } in
        let made : Done TaskPart = record (goes_on_as after_part) { taken = Some answer } in
        let hears = ap (λ (b : Body). task_done w t (task_hears t part b)) body in
        elim (cases_Bool (is_reply_to number part.outstanding)) [
          | inr other ↦ idles part here (sym (ap (task_done w t) (cond-false (is_reply_to number part.outstanding) made (goes_on_as part) other)) ∙ sym hears ∙ same)
          | inl own ↦
              let mine : reply_taken old m ≡ Some reply =
              ap (λ (p : Party). cond {A = Option Reply} (is_task t p) (outstanding_reply old m.body) None) to
              ∙ cond-true (nat_eq t t) (outstanding_reply old m.body) None (eq-eqb t t refl)
              ∙ ap (outstanding_reply old) body ∙ cond-true (is_reply_to number part.outstanding) (Some reply) None own in
              let bytes : Bytes (task_request_text (TakePacket (text_of m))) = (omega arith, packet_bytes m packet) in
              let reach = takes_on s.next s.answers image s.config s.begin quorum t reads_task i old (returned part.replies) here m reply packet (are_bytes (task_request_text (TakePacket (text_of m))) bytes) has mine in
              let counted : calls_so_far part ≡ length (part.replies ++ answer ∷ []) =
              ap (λ (b : Bool). cond b (suc (length part.replies)) (length part.replies)) (number_some number part.outstanding own) ∙ omega (arith, length-append part.replies (answer ∷ [])) in
              let grown : returned part.replies ++ reply_text reply ∷ [] ≡ returned (part.replies ++ answer ∷ []) = sym (map-append (λ (a : Answer). reply_text a.reply) part.replies (answer ∷ [])) in
              subst (λ (x : Transition). To x.world) (sym (ap (task_done w t) (cond-true (is_reply_to number part.outstanding) made (goes_on_as part) own)) ∙ sym hears ∙ same)
              (follows_task s image quorum t first w i level made []
              (subst (λ (n : ℕ). (let c : Calls = record { task = t; made = n; outstanding = None } in ReachesTask c (returned (part.replies ++ answer ∷ [])) [])) counted
              (subst (λ (l : List (List ℕ)). ReachesTask (with_reply old) l []) grown reach))
              (λ n none. absurd none))
        ]

    hears_packet : (part : TaskPart) (m : Message) (body : Body) → part_at i.tasks t ≡ Some (task_site (calls_kept t part) (returned part.replies)) → IsPacket m → Has (text_of m) i.handed_on → m.to ≡ parties.Task t → m.body ≡ body
        → task_done w t (task_hears t part m.body) ≡ transition → To transition.world
    hears_packet part m (bodies.Reply number reply) here packet has to body same = takes_next part m number reply here packet has to body same
    hears_packet part m other here packet has to body same = idles part here (sym (ap (λ (b : Body). task_done w t (task_hears t part b)) body) ∙ same)

    -- ---- a packet is delivered

    arrives : (m : Message) → Has (text_of m) i.handed_on → WasHandedOn i.handed_on node_receives_byte (step_text (inputs.NodeInput.Receive m))
    arrives m has packet is = subst (λ (p : List ℕ). Has p i.handed_on) (ap rest_of is) has

    reaches_running : (k : ℕ) (m : Message) → Has k quorum → (part : NodePart) → part_at w.nodes k ≡ Some part → (site : NodeSite S) → part_at i.nodes k ≡ Some site → IsLevelNode s k part site → IsPacket m → Has (text_of m) i.handed_on
        → Has m w.sent → m.to ≡ parties.Node k → ComesInTime w m.to m.body → (running : Option Running) → part.running ≡ running → chosen_effect s w (reaches_node k m part running) ≡ Ok transition → To transition.world
    reaches_running k m has part there site here is packet handed sent to timely None stopped done =
        let same : nothing_happens w ≡ transition = same_transition (nothing_happens w) transition _ refl done in
        subst (λ (x : Transition). To x.world) same (record { later = i; goes = stands s.next s.answers image s.config s.begin quorum t i; level = level })
    reaches_running k m has part there site here is packet handed sent to timely (Some running) runs done =
        let bytes : Bytes (step_text (inputs.NodeInput.Receive m)) = (omega arith, packet_bytes m packet) in
        steps_node k has part there site here (inputs.NodeInput.Receive m) packet (are_bytes (step_text (inputs.NodeInput.Receive m)) bytes) (arrives m handed)
        (λ o. comes_in_time s known w (keeps events w history) k part there k o.node o.set_up (ap (λ (p : NodePart). p.records) o.reached) m sent to timely) is done

    reaches_party : (m : Message) (to : Party) → m.to ≡ to → IsOneOf quorum t to → IsPacket m → Has (text_of m) i.handed_on → Has m w.sent → ComesInTime w m.to m.body → chosen_effect s w (reaches w m to) ≡ Ok transition → To transition.world
    reaches_party m (parties.Node k) to has packet handed sent timely done =
        let l = level.nodes k has in
        reaches_running k m has l.part l.there l.site l.here l.level packet handed sent to timely l.part.running refl (sym (ap (λ (o : Option NodePart). chosen_effect s w (reaches_number k m o)) l.there) ∙ done)
    reaches_party m (parties.Task u) to same packet handed sent timely done =
        let l = level.task in
        let at : chosen_effect s w (reaches_task t m (part_at w.tasks t)) ≡ Ok transition = subst (λ (k : ℕ). chosen_effect s w (reaches_task k m (part_at w.tasks k)) ≡ Ok transition) same done in
        let heard = task_done w t (task_hears t l.part m.body) in
        hears_packet l.part m m.body l.here packet handed (to ∙ ap (λ (k : ℕ). parties.Task k) same) refl (same_transition heard transition _ (ap (λ (o : Option TaskPart). chosen_effect s w (reaches_task t m o)) l.there) at)
    reaches_party m parties.Audit to none packet handed sent timely done = absurd none

    -- ---- a node leads

    leads : (me : ℕ) (choice : Option ℕ) → Has me quorum → IfSome choice IsPosition → chosen_effect s w (commanded me (inputs.NodeInput.Lead choice) (part_at w.nodes me)) ≡ Ok transition → To transition.world
    leads me choice has is done =
        let l = level.nodes me has in
        by_choice choice is (sym (ap (λ (o : Option NodePart). chosen_effect s w (commanded me (inputs.NodeInput.Lead choice) o)) l.there) ∙ done)
      where
        no_packet : (p : List ℕ) → WasHandedOn i.handed_on node_receives_byte (2 ∷ p)
        no_packet p packet is = absurd (let e : 2 ≡ 1 = ap first_of is in omega (arith, e))

        by_choice : (c : Option ℕ) → IfSome c IsPosition → node_done_if w me (node_effect s me (level.nodes me has).part (inputs.NodeInput.Lead c)) ≡ Ok transition → To transition.world
        by_choice None is done =
            let l = level.nodes me has in
            let bytes : Bytes (step_text (inputs.NodeInput.Lead None)) = (omega arith, tt) in
            steps_node me has l.part l.there l.site l.here (inputs.NodeInput.Lead None) tt (are_bytes (step_text (inputs.NodeInput.Lead None)) bytes) (no_packet []) (λ o. refl) l.level done
        by_choice (Some position) is done =
            let l = level.nodes me has in
            let bytes : Bytes (step_text (inputs.NodeInput.Lead (Some position))) = (omega arith, position_bytes position) in
            steps_node me has l.part l.there l.site l.here (inputs.NodeInput.Lead (Some position)) is (are_bytes (step_text (inputs.NodeInput.Lead (Some position))) bytes) (no_packet (rest_of (step_text (inputs.NodeInput.Lead (Some position))))) (λ o. refl) l.level done

  -- ---- any event of the quorum and the task

  makes : (events : List Event) (w : World) (history : IsHistory s events w) (i : Installation S) → IsLevel s quorum t first w i → (event : Event) (transition : Transition) → event_effect s w event ≡ Ok transition → IsRightEvent event
      → IsTheirs quorum t first w event → Follows s image quorum t first i transition.world
  makes events w history i level (Submit task node object operation arg) transition effect right theirs =
      let l = level.task in
      calls_next events w history i level (Submit task node object operation arg) transition effect right l.part.outstanding l.part.replies node object operation arg l.here right.1 (members node theirs.1) right.4
      (sym (ap (task_takes s.config w t (tasks.Submit node object operation arg)) l.there)
      ∙ subst (λ (k : ℕ). task_takes s.config w k (tasks.Submit node object operation arg) (part_at w.tasks k) ≡ Ok transition) theirs.0 effect)
  makes events w history i level (Again task node) transition effect right theirs =
      let l = level.task in
      calls_again events w history i level (Again task node) transition effect right l.part.outstanding l.part.replies node l.here right.1 (members node theirs.1)
      (sym (ap (task_takes s.config w t (tasks.Again node)) l.there) ∙ subst (λ (k : ℕ). task_takes s.config w k (tasks.Again node) (part_at w.tasks k) ≡ Ok transition) theirs.0 effect)
  makes events w history i level (Makes (Deliver number)) transition effect right theirs =
      let m = theirs.1.0 in
      let at = theirs.1.1 in
      reaches_party events w history i level (Makes (Deliver number)) transition effect right m m.to refl theirs.1.2 ((ranged events w history).packets m (part_has w.sent number m at)) (level.sent number m theirs.0 at) (part_has w.sent number m at) theirs.1.3
      (sym (ap (λ (o : Option Message). chosen_effect s w (delivers w o)) at) ∙ effect)
  makes events w history i level (Makes (Lead me choice)) transition effect right theirs =
      leads events w history i level (Makes (Lead me choice)) transition effect right me choice theirs right.1 effect
  makes events w history i level (Makes (LeadRange me position count)) transition effect right theirs = absurd theirs
  makes events w history i level (Makes (Interrupt me source occurrence)) transition effect right theirs = absurd theirs
  makes events w history i level (Makes (Tick me now)) transition effect right theirs = absurd theirs
  makes events w history i level (Makes (Report me position)) transition effect right theirs = absurd theirs
  makes events w history i level (Makes (Ask me to)) transition effect right theirs = absurd theirs
  makes events w history i level (Cut step kept) transition effect right theirs = absurd theirs
  makes events w history i level (Stop me) transition effect right theirs =
      let l = level.nodes me theirs in
      stops_node events w history i level (Stop me) transition effect right me theirs l.part l.there l.site l.here l.level (sym (ap (stops w me) l.there) ∙ effect)
  makes events w history i level (Restart me) transition effect right theirs =
      let l = level.nodes me theirs in
      restarts_node events w history i level (Restart me) transition effect right me theirs l.part l.there l.site l.here l.level (sym (ap (restarts w me) l.there) ∙ effect)

  -- and all of them, one after another
  pub makes_all : (more : List Event) (events : List Event) (w last : World) (history : IsHistory s events w) (i : Installation S) → IsLevel s quorum t first w i → GoesOnBy s quorum t first w more last → Follows s image quorum t first i last
  makes_all [] events w last history i level goes =
      subst (Follows s image quorum t first i) (sym goes) (record { later = i; goes = stands s.next s.answers image s.config s.begin quorum t i; level = level })
  makes_all (event ∷ rest) events w last history i level goes =
      let one = makes events w history i level event goes.0 goes.1 goes.2 goes.3 in
      let others = makes_all rest (events ++ event ∷ []) goes.0.world last (goes_on s events w history event goes.0 goes.2 goes.1) one.later one.level goes.4 in
      record { later = others.later; goes = goes_then s.next s.answers image s.config s.begin quorum t i one.later others.later one.goes others.goes; level = others.level }
