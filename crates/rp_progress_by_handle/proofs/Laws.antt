-- The quorum's nodes are opened again, and what a history can go on with is made by moves.
use Rattle.std.proofs.Common.{cond, ◌≡◌, ℕ, suc, ◌+◌, ◌-◌, ◌<◌, ◌≤◌, Option, Some, None, Ok, List, [], ◌∷◌, ◌++◌, length, refl, sym, ap, subst, ◌∙◌, length-append, arith}
use Rattle.std.specs.Prelude.{is_some, ◌^◌}
use Rattle.std.proofs.lemmas.List.{append-nil, map-append}
use Rattle.rp_base.specs.Config.{IsRightConfig}
use Rattle.rp_base.specs.Records.{applied_of, first_unlearned}
use Rattle.rp_base.specs.Sets.{Has}
use Rattle.rp_base.proofs.Members.{has_left}
use Rattle.rp_base.specs.declared.action.Action.{Action}
use Rattle.rp_base.specs.declared.record.Rec.{Rec}
use Rattle.rp_base.specs.declared.record.Rec.TheVariants.{Voted}
use Rattle.rp_base.specs.declared.reply.Answer.{Answer}
use Rattle.rp_codec.specs.Text.{reply_text}
use Rattle.rp_machine.specs.Places.{IsPlace, IsAnswerOf}
use Rattle.rp_model.specs.Effect.{Setting, NodeInput}
use Rattle.rp_model.specs.Events.{Event}
use Rattle.rp_model.specs.Parts.{NodePart, TaskPart}
use Rattle.rp_model.specs.World.{World, part_at, with_part}
use Rattle.rp_agreement.specs.Answered.{IsKeptWorld}
use Rattle.rp_agreement.specs.History.{IsHistory}
use Rattle.rp_agreement.specs.Ranges.{IsRangedWorld}
use Rattle.rp_agreement.proofs.Places.{AnswersKnown}
use Rattle.rp_agreement.proofs.PartPlaces.{part_below, put_there, put_beside}
use Rattle.rp_world.specs.rp_store.proofs.Whole.{are_alone}
use Rattle.rp_requests.specs.Nodes.{NodeState}
use Rattle.rp_requests.specs.Requests.{Step, asked_of}
use Rattle.rp_requests.specs.TaskRequests.{TaskAsked, task_asked_of}
use Rattle.rp_requests.specs.Texts.{step_text, FitsStep, task_request_text, FitsTaskRequest}
use Rattle.rp_requests.specs.rp_tasks.specs.Calls.{Calls, no_calls}
use Rattle.rp_installations.specs.Behind.{IsBehind, IsNodeOver, IsOpen, IsClosed, IsTaskOver, HasHistory, HasLonger, calls_kept}
use Rattle.rp_installations.specs.Moves.{IsInstallation, MachineMoves}
use Rattle.rp_installations.specs.Moves as installed
use Rattle.rp_installations.specs.Outcomes.{applied_by}
use Rattle.rp_installations.specs.Sites.{NodeSite, TaskSite, Installation, closed_over, unopened_task, nothing_opened}
use Rattle.rp_installations.proofs.Following.{from_nothing, moves_on}
use Rattle.rp_possible.specs.Rounds.{AreWithinRound}
use Rattle.rp_progress.specs.Waiting.{IsQuorum, IsPositionLeft, AreBallotsLeft, TaskHas, CanCount, next_of, records_in, applied_in}
use Rattle.rp_progress.proofs.Going.{is_history}
use Rattle.rp_progress.proofs.Restarting.{records_here}
use Rattle.rp_progress_by_handle.specs.ByHandle.{AreOnDevices, IsTaskAt, IsIdleAt, Open, Unopened, HasLost, HasCounted, CanCountByHandle}
use Rattle.rp_progress_by_handle.proofs.Events.{whole_records, makes_all}
use Rattle.rp_progress_by_handle.proofs.Level.{NodeLevel, OpenLevel, ClosedLevel, IsLevelNode, TaskLevel, returned, IsLevel}
use Rattle.rp_progress_by_handle.proofs.NodeMoves.{opens_on}
use Rattle.rp_progress_by_handle.proofs.Reaching.{Goes, stands, goes_then, are_moves}
use Rattle.rp_progress_by_handle.proofs.Reopening.{IsReady, HaveReopened, all_reopen, level_fresh}
use Rattle.rp_progress_by_handle.proofs.TaskMoves.{task_site}

module _ {S : Type 0} (s : Setting S) (image : S → List ℕ) (quorum : List ℕ) (leader t : ℕ) (is : IsQuorum s.config.nodes quorum leader)
    (ranged : (events : List Event) (w : World) → IsHistory s events w → IsRangedWorld s.config.nodes w)
    (keeps : (events : List Event) (w : World) → IsHistory s events w → IsKeptWorld s w) (known : AnswersKnown s)
    (reads : (input : NodeInput) → FitsStep input → asked_of (step_text input) ≡ Some (Step (Ok input)))
    (reads_task : (request : TaskAsked) → FitsTaskRequest request → task_asked_of (task_request_text request) ≡ Some request) where
  within : (y : ℕ) → Has y quorum → y ≤ s.config.nodes
  within y has = (is.members.members y has).1

  abbrev Moved : Installation S → Installation S → Type 0
  Moved i later = Goes s.next s.answers image s.config s.begin quorum t i later

  abbrev Counted : ℕ → List (List ℕ) → Installation S → Type 0
  Counted number replies i = HasCounted s.next s.answers image s.config s.begin leader t number replies i

  -- what is level with a world in which the call counted
  record CountsOn (number : ℕ) (replies : List (List ℕ)) (i : Installation S) : Type 0 where
    pub later : Installation S
    pub goes : Moved i later
    pub counted : Counted number replies later

  module _ (first : ℕ) (w after : World) (answers : List Answer) (begins : List Event) (can : CanCount s quorum leader t answers w begins) where
    -- the task has its reply, wherever the nodes are
    replied_at : (i : Installation S) → TaskLevel t can.after i → (answer : Answer) → IsAnswerOf s.next s.answers s.begin (applied_in can.after leader) (next_of t answers) answer
        → IsTaskAt i t (record { task = t; made = suc (length answers); outstanding = None }) (returned answers ++ reply_text answer.reply ∷ [])
    replied_at i task answer given =
        let taken = (can.replied answer given).taken in
        let last : TaskPart = record { outstanding = None; replies = answers ++ answer ∷ [] } in
        let same : task.part ≡ last = let both : Some task.part ≡ Some last = sym task.there ∙ taken in cc in
        let made : length (answers ++ answer ∷ []) ≡ suc (length answers) = omega (arith, length-append answers (answer ∷ [])) in
        let grown : returned (answers ++ answer ∷ []) ≡ returned answers ++ reply_text answer.reply ∷ [] = map-append (λ (a : Answer). reply_text a.reply) answers (answer ∷ []) in
        record {
          site_is = task.here ∙ ap (λ (p : TaskPart). Some (task_site (calls_kept t p) (returned p.replies))) same
              ∙ (λ n. Some (task_site (record { task = t; made = made n; outstanding = None }) (grown n)));
        }

    -- the leader is open, with these records
    counted_at : (i : Installation S) (site : NodeSite S) (node : NodeState S) → part_at i.nodes leader ≡ Some site → site.node ≡ Some node → node.replica.records ≡ records_in can.after leader → TaskLevel t can.after i → Counted (suc (length answers)) (returned answers) i
    counted_at i site node here open_now same task =
        let applied : applied_in can.after leader ≡ applied_by node = ap applied_of (sym same) in
        record {
          at = record {
            site = site;
            node = node;
            opened = record { site_is = here; node_is = open_now };
            place = can.place;
            counts = subst (λ (l : List Action). IsPlace s.next s.answers s.begin l (next_of t answers) can.place) applied can.counts;
          };
          replied = λ answer given. replied_at i task answer (subst (λ (l : List Action). IsAnswerOf s.next s.answers s.begin l (next_of t answers) answer) (sym applied) given);
        }

    counts_at : (events : List Event) → IsHistory s events can.after → (i : Installation S) → IsLevel s quorum t first can.after i → (l : NodeLevel s can.after i leader) → IsLevelNode s leader l.part l.site → CountsOn (suc (length answers)) (returned answers) i
    counts_at events history i level l (OpenLevel o) = record {
      later = i;
      goes = stands s.next s.answers image s.config s.begin quorum t i;
      counted = counted_at i l.site o.node l.here (ap (λ (x : NodeSite S). x.node) o.site_is) (ap (λ (p : NodePart). p.records) o.reached ∙ sym (records_here can.after leader l.part l.there)) level.task;
    }
    counts_at events history i level l (ClosedLevel c) =
        let whole = whole_records s image quorum t first within ranged keeps known reads reads_task events can.after history leader l.part l.there in
        let are = are_alone l.site.synced l.part.records c.records whole.0 in
        let reach = opens_on s.next s.answers image s.config s.begin quorum t i leader l.site.synced l.site.noted l.part.records [] is.leads (l.here ∙ ap (λ (x : NodeSite S). Some x) c.site_is) are in
        let task = level.task in
        record {
          later = reach.later;
          goes = reach.goes;
          counted = counted_at reach.later _ _ reach.there refl (whole.1 ∙ sym (records_here can.after leader l.part l.there))
              (record { part = task.part; there = task.there; here = ap (λ (sites : List TaskSite). part_at sites t) reach.tasks ∙ task.here });
        }

  -- ---- from an installation

  module _ (moves : List (Installation S)) (now : Installation S) (right : IsRightConfig s.config) (all : IsInstallation s.next s.answers image s.config s.begin moves now)
      (records : ℕ → List Rec) (on : AreOnDevices now quorum records) (after : Installation S) (lost : HasLost now after)
      (calls : Calls) (replies : List (List ℕ)) (task : IsTaskAt now t calls replies) where
    abbrev start : Installation S
    start = record now { handed_on = after.handed_on }

    abbrev Can : ℕ → Installation S → Type 0
    Can number i = CanCountByHandle s.next s.answers image s.config s.begin quorum leader t number replies i

    was : HasHistory s now
    was = from_nothing s ranged image right moves now all

    behind : IsBehind s was.world start
    behind = record { nodes = was.behind.nodes; tasks = was.behind.tasks; eight_tasks = was.behind.eight_tasks; packets = λ packet has. was.behind.packets packet (lost.left packet has) }

    closed_whole : (part : NodePart) (y : ℕ) (site : NodeSite S) → IsNodeOver s was.world.sent y part site → site.node ≡ None → site ≡ closed_over site.synced site.noted
    closed_whole part y site (IsOpen o) none = absurd (let some : site.node ≡ Some o.node = o.kept in cc)
    closed_whole part y site (IsClosed c) none = c.closed

    ready : (y : ℕ) → Has y quorum → IsReady start y (records y)
    ready y has =
        let o = on.each y has in
        let b = was.behind.nodes y o.0 o.2 in
        record { site = o.0; torn = o.1; here = o.2; are = o.3; closed = closed_whole b.0 y o.0 b.2 }

    reopened : HaveReopened s image quorum t quorum records start
    reopened = all_reopen s image quorum t records quorum is.members.distinct (λ y h. h) start ready

    on_now : HasLonger s was.events reopened.later
    on_now = moves_on s ranged image reopened.goes.moves was.events was.world start reopened.later was.history behind (are_moves s.next s.answers image s.config s.begin quorum t reopened.goes.moves start reopened.later reopened.goes.all)

    abbrev world : World
    world = on_now.world

    abbrev so_far : List Event
    so_far = was.events ++ on_now.more

    same_records : (y : ℕ) → Has y quorum → records y ≡ records_in world y
    same_records y has =
        let l = level_fresh s image quorum t ranged so_far world on_now.history reopened.later on_now.behind y (records y) (reopened.each y has) in
        sym l.same ∙ sym (records_here world y l.level.part l.level.there)

    -- the task of the world
    abbrev kept_task : TaskSite
    kept_task = record { task = Some calls; replies = replies }

    abbrev its_part : (p : TaskPart) × (part_at world.tasks t ≡ Some p) × IsTaskOver t p kept_task
    its_part = on_now.behind.tasks t kept_task (ap (λ (l : List TaskSite). part_at l t) reopened.tasks ∙ task.site_is)

    abbrev part : TaskPart
    part = its_part.0

    calls_are : calls ≡ calls_kept t part
    calls_are = its_part.2.opened calls refl

    has_task : (waits : Option Action) → calls.outstanding ≡ waits → TaskHas world t part.replies waits
    has_task waits outstanding = its_part.1 ∙ (λ n. Some (let p : TaskPart = record { outstanding = (sym (ap (λ (c : Calls). c.outstanding) calls_are) ∙ outstanding) n; replies = part.replies } in p))

    level : IsLevel s quorum t (length world.sent) world reopened.later
    level = record {
      nodes = λ y has. (level_fresh s image quorum t ranged so_far world on_now.history reopened.later on_now.behind y (records y) (reopened.each y has)).level;
      task = record {
        part = part;
        there = its_part.1;
        here = ap (λ (l : List TaskSite). part_at l t) reopened.tasks ∙ task.site_is ∙ (λ n. Some (task_site (calls_are n) (its_part.2.replies n)));
      };
      sent = λ number m above at. absurd (let below = part_below world.sent number m at in omega (arith, above, below.1));
    }

    position_left : (i : ℕ) → IsPositionLeft s.config.max_positions records quorum i → IsPositionLeft s.config.max_positions (records_in world) quorum i
    position_left i position = record {
      in_log = position.in_log;
      unvoted = λ y b v has. subst (λ (l : List Rec). ¬ Has (Voted i b v) l) (same_records y has) (position.unvoted y b v has);
    }

    ballots_left : (i round : ℕ) → AreBallotsLeft records quorum leader i round → AreBallotsLeft (records_in world) quorum leader i round
    ballots_left i round ballots = record {
      within = λ y has. subst (AreWithinRound round) (same_records y has) (ballots.within y has);
      enough = subst (λ (l : List Rec). round + (suc i - first_unlearned l) < 2 ^ 32) (same_records leader is.leads) ballots.enough;
    }

    -- what the history can go on with is made
    counts_by : (begins : List Event) (number : ℕ) → number ≡ suc (length part.replies) → CanCount s quorum leader t part.replies world begins → Can number start
    counts_by begins number numbered can =
        let followed = makes_all s image quorum t (length world.sent) within ranged keeps known reads reads_task (begins ++ can.more) so_far world can.after on_now.history reopened.later level can.goes_on in
        let l = followed.level.nodes leader is.leads in
        let ends = counts_at (length world.sent) world can.after part.replies begins can (so_far ++ (begins ++ can.more)) (is_history s quorum t (length world.sent) so_far (begins ++ can.more) world can.after on_now.history can.goes_on) followed.later followed.level l l.level in
        record {
          later = ends.later;
          goes_on = goes_then s.next s.answers image s.config s.begin quorum t start reopened.later ends.later reopened.goes
              (goes_then s.next s.answers image s.config s.begin quorum t reopened.later followed.later ends.later followed.goes ends.goes);
          counted = subst (λ (n : ℕ). Counted n replies ends.later) (sym numbered) (subst (λ (l : List (List ℕ)). Counted (suc (length part.replies)) l ends.later) (sym its_part.2.replies) ends.counted);
        }

    -- a call that waits
    pub waiting : (i round : ℕ) (call : Action) → calls.outstanding ≡ Some call
        → ((w : World) (events : List Event) (answers : List Answer) → IsHistory s events w → IsPositionLeft s.config.max_positions (records_in w) quorum i → AreBallotsLeft (records_in w) quorum leader i round → TaskHas w t answers (Some call) → CanCount s quorum leader t answers w [])
        → IsPositionLeft s.config.max_positions records quorum i → AreBallotsLeft records quorum leader i round → Can calls.made after
    waiting i round call outstanding law position ballots =
        let waits : part.outstanding ≡ Some call = sym (ap (λ (c : Calls). c.outstanding) calls_are) ∙ outstanding in
        let made : calls.made ≡ suc (length part.replies) = ap (λ (c : Calls). c.made) calls_are ∙ ap (λ (o : Option Action). cond (is_some o) (suc (length part.replies)) (length part.replies)) waits in
        subst (Can calls.made) (sym lost.goes) (counts_by [] calls.made made (law world so_far part.replies on_now.history (position_left i position) (ballots_left i round ballots) (has_task (Some call) outstanding)))

    -- and one that is made next
    pub next_one : (i round : ℕ) (begins : List Event) → calls.outstanding ≡ None
        → ((w : World) (events : List Event) (answers : List Answer) → length answers ≡ calls.made → IsHistory s events w → IsPositionLeft s.config.max_positions (records_in w) quorum i → AreBallotsLeft (records_in w) quorum leader i round → TaskHas w t answers None → CanCount s quorum leader t answers w begins)
        → IsPositionLeft s.config.max_positions records quorum i → AreBallotsLeft records quorum leader i round → Can (suc calls.made) after
    next_one i round begins outstanding law position ballots =
        let idle : part.outstanding ≡ None = sym (ap (λ (c : Calls). c.outstanding) calls_are) ∙ outstanding in
        let made : calls.made ≡ length part.replies = ap (λ (c : Calls). c.made) calls_are ∙ ap (λ (o : Option Action). cond (is_some o) (suc (length part.replies)) (length part.replies)) idle in
        subst (Can (suc calls.made)) (sym lost.goes) (counts_by begins (suc calls.made) (ap suc made) (law world so_far part.replies (sym made) on_now.history (position_left i position) (ballots_left i round ballots) (has_task None outstanding)))

  -- ---- a task that was never opened

  then_one : (i j k : Installation S) (steps : List (Installation S)) → MachineMoves s.next s.answers image s.config s.begin i steps j → MachineMoves s.next s.answers image s.config s.begin j (k ∷ []) k → MachineMoves s.next s.answers image s.config s.begin i (steps ++ k ∷ []) k
  then_one i j k [] same last = subst (λ (x : Installation S). MachineMoves s.next s.answers image s.config s.begin x (k ∷ []) k) same last
  then_one i j k (middle ∷ rest) all last = (all.0, then_one middle j k rest all.1 last)

  module _ (moves : List (Installation S)) (now : Installation S) (right : IsRightConfig s.config) (all : IsInstallation s.next s.answers image s.config s.begin moves now)
      (records : ℕ → List Rec) (on : AreOnDevices now quorum records) (after : Installation S) (lost : HasLost now after) (i round : ℕ) (begins : List Event)
      (position : IsPositionLeft s.config.max_positions records quorum i) (ballots : AreBallotsLeft records quorum leader i round) where
    abbrev Law : Calls → Type 0
    Law calls = (w : World) (events : List Event) (answers : List Answer) → length answers ≡ calls.made → IsHistory s events w → IsPositionLeft s.config.max_positions (records_in w) quorum i → AreBallotsLeft (records_in w) quorum leader i round → TaskHas w t answers None → CanCount s quorum leader t answers w begins

    abbrev CanGoOn : Calls → List (List ℕ) → Installation S → Type 0
    CanGoOn calls replies from = CanCountByHandle s.next s.answers image s.config s.begin quorum leader t (suc calls.made) replies from

    -- it is opened
    abbrev opened : TaskSite
    opened = task_site (no_calls t) []

    abbrev once_opened : Installation S → Installation S
    once_opened x = record x { tasks = with_part x.tasks t opened; handed_on = x.handed_on ++ [] }

    unopened : part_at now.tasks t ≡ Some unopened_task → Law (no_calls t) → CanGoOn (no_calls t) [] after
    unopened here law =
        let from : Installation S = record now { handed_on = after.handed_on } in
        let lost_then : HasLost (once_opened now) (once_opened from) = record {
          left = λ p has. has_left p now.handed_on [] (lost.left p (subst (λ (l : List (List ℕ)). Has p l) (append-nil after.handed_on) has));
          goes = refl;
        } in
        let can = next_one (moves ++ once_opened now ∷ []) (once_opened now) right
        (then_one (nothing_opened s.config.nodes) now (once_opened now) moves all (installed.Move.OfTask t unopened_task opened [] here (installed.TaskMove.Opened (record { once = refl; goes = refl }) refl) refl, refl))
        records (record { each = on.each }) (once_opened from) lost_then (no_calls t) [] (record { site_is = put_there now.tasks t unopened_task opened here }) i round begins refl law position ballots in
        let first : Moved from (once_opened from) = record {
          moves = once_opened from ∷ [];
          all = (installed.Move.OfTask t unopened_task opened [] here (installed.TaskMove.Opened (record { once = refl; goes = refl }) refl) refl, refl);
          theirs = (record { nodes = λ y none. refl; tasks = λ u other. put_beside now.tasks t u opened other }, tt);
        } in
        subst (CanGoOn (no_calls t) []) (sym lost.goes)
        (record { later = can.later; goes_on = goes_then s.next s.answers image s.config s.begin quorum t from (once_opened from) can.later first can.goes_on; counted = can.counted })

    pub idle_one : (calls : Calls) (replies : List (List ℕ)) → IsIdleAt now t calls replies → Law calls → CanGoOn calls replies after
    idle_one calls replies (Open task outstanding) law = next_one moves now right all records on after lost calls replies task i round begins outstanding law position ballots
    idle_one calls replies (Unopened here none_made none) law =
        subst (λ (l : List (List ℕ)). CanGoOn calls l after) (sym none)
        (subst (λ (c : Calls). CanGoOn c [] after) (sym none_made) (unopened here (subst Law none_made law)))
