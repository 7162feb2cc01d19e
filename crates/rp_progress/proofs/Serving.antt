-- The whole schedule: the nodes of a bare majority start again, the leader learns all that is decided,
-- the task asks it once more, and it leads where no node of the majority has voted.
use Rattle.std.proofs.Common.{◌≡◌, ℕ, suc, ◌-◌, ◌<◌, ◌≤◌, ◌^◌, Bool, true, false, ◌⊎◌, Option, Some, None, Ok, List, [], ◌∷◌, ◌++◌, length, if◌then◌else◌, inl, inr, refl, sym, ap, subst, ◌∙◌, arith, length-append}
use Rattle.std.specs.Prelude.{ℤ, nat_eq}
use Rattle.std.proofs.lemmas.Bool.Decides.{eqb_tells}
use Rattle.rp_base.specs.Config.{IsRightConfig}
use Rattle.rp_base.specs.Number.{IsNode, IsTask}
use Rattle.rp_base.specs.Records.{applied_of, first_unlearned}
use Rattle.rp_base.specs.Sets.{Has}
use Rattle.rp_base.specs.declared.action.Action.{Action}
use Rattle.rp_base.specs.declared.action.Action.TheVariants.{Call}
use Rattle.rp_base.specs.declared.action.Operation.{Operation}
use Rattle.rp_base.specs.declared.record.Rec.{Rec}
use Rattle.rp_base.specs.declared.record.Rec.TheVariants.{Voted}
use Rattle.rp_base.specs.declared.reply.Answer.{Answer}
use Rattle.rp_codec.specs.Message.{Message}
use Rattle.rp_codec.specs.declared.packet.Body.TheVariants as bodies
use Rattle.rp_machine.specs.Asked.{answer_to, last_number}
use Rattle.rp_machine.specs.Calls.{CallName, call_of}
use Rattle.rp_machine.specs.Places.{IsPlace}
use Rattle.rp_machine.specs.Replay.{is_for, counted_of, replay_answers}
use Rattle.rp_model.specs.Effect.{Setting, Receive, running_effect, turn_done}
use Rattle.rp_model.specs.Events.{Event, Again, Makes, Deliver}
use Rattle.rp_model.specs.Facts.{IsDecided}
use Rattle.rp_model.specs.Parts.{NodePart, Running, TaskPart, Turn, fresh_running}
use Rattle.rp_model.specs.Says.{sends, notes, says_to_task}
use Rattle.rp_model.specs.Tasks.{asks}
use Rattle.rp_model.specs.World.{World, Transition, part_at, node_done, event_effect}
use Rattle.rp_agreement.specs.Answered.{IsKeptWorld, Occurs, calls_so_far, task_in, named}
use Rattle.rp_agreement.specs.Worlds.{node_in}
use Rattle.rp_agreement.proofs.AnswerAgain.{call_is}
use Rattle.rp_agreement.proofs.Lists.{found_has}
use Rattle.rp_agreement.proofs.PartPlaces.{put_there, put_beside}
use Rattle.rp_possible.specs.Rounds.{GoesOnBy, HasLearnedAll, AreWithinRound, AreRunning, only_pending, IsBareQuorum}
use Rattle.rp_progress.specs.Waiting.{TaskHas, next_of, applied_in, records_in, IsPositionLeft, AreBallotsLeft}
use Rattle.rp_progress.proofs.BareQuorums.{goes_then}
use Rattle.rp_progress.proofs.Ending.{IsAnswering, Ends, Fills, made_so_far, ends_then, either_then, ends_with_reply}
use Rattle.rp_progress.proofs.Going.{keeps_on}
use Rattle.rp_progress.proofs.Unlearned.{unvoted_unapplied, unlearned_below, no_last, no_vote}
use Rattle.rp_progress.proofs.InLog.{AllInLog, part_is, decided_in_log}
use Rattle.rp_progress.proofs.CatchingUp.{NoVotes, CaughtUp, catch_up}
use Rattle.rp_progress.proofs.Looping.{it_counts}
use Rattle.rp_progress.proofs.NodeTurns.{replies_again, awaits}
use Rattle.rp_progress.proofs.Occurring.{OccursFirst, occurs_or_not, first_is_place, not_given, answered_last, not_above, unanswered}
use Rattle.rp_progress.proofs.Restarting.{restarted, HaveRestarted, records_here, all_restart}
use Rattle.rp_possible.proofs.Packets.{part_last}
use Rattle.rp_possible.proofs.Stepping.{gets}
use Rattle.rp_progress.proofs.TaskTurns.{task_sends, asked_again, stays_there}

-- nothing is pending, or nothing is known
either_fresh : (b : Bool) → (if b then only_pending [] else fresh_running) ≡ fresh_running
either_fresh true = refl
either_fresh false = refl

module _ {S : Type 0} (s : Setting S) (right : IsRightConfig s.config) (answering : IsAnswering s) (quorum : List ℕ) (t first x : ℕ) (bare : IsBareQuorum s quorum x)
    (replies : List Answer) (object : ℕ) (operation : Operation) (arg : ℤ) (is_task : IsTask t) where
  abbrev m : ℕ
  m = length replies

  abbrev call : Action
  call = Call t (suc m) object operation arg

  is_node : (y : ℕ) → Has y quorum → IsNode y
  is_node y h = let member = bare.nodes.members y h in (member.0, omega (arith, member.1, right.nodes.1))

  -- the task asks the leader once more
  abbrev once_asked : World → World
  once_asked w = (task_sends s w t replies (Some call) (asks t x call)).world

  -- ---- the leader runs with nothing pending, and has learned all that is decided

  module _ (w : World) (records : ℕ → List Rec) (kept : IsKeptWorld s w) (enough : first ≤ length w.sent) (has : TaskHas w t replies (Some call)) (running : AreRunning w quorum x records (only_pending [])) where
    abbrev asked : World
    asked = once_asked w

    sent_it : part_at asked.sent (suc (length w.sent)) ≡ Some (asks t x call)
    sent_it = part_last w.sent (asks t x call)

    is_asked : event_effect s w (Again t x) ≡ Ok (task_sends s w t replies (Some call) (asks t x call))
    is_asked = asked_again s w t replies x call has (bare.nodes.members x bare.leader).1

    kept_asked : IsKeptWorld s asked
    kept_asked = keeps_on s quorum t first right w (Again t x ∷ []) asked kept (task_sends s w t replies (Some call) (asks t x call), is_asked, (is_task, is_node x bare.leader), (refl, bare.leader), refl)

    here : part_at w.nodes x ≡ Some (restarted (records x))
    here = running.each x bare.leader ∙ ap (λ (r : Running). Some (let part : NodePart = record { records = records x; torn = 0; running = Some r } in part)) (either_fresh (nat_eq x x))

    records_are : (y : ℕ) → Has y quorum → records_in w y ≡ records y
    records_are y h = records_here w y _ (running.each y h)

    so_far : calls_so_far (task_in w.tasks t) ≤ suc m
    so_far = made_so_far w t replies call has

    -- ---- what it has learned

    learned_if : ((v : Action) → ¬ IsDecided s.config.nodes asked.sent (first_unlearned (records x)) v) → HasLearnedAll asked x
    learned_if none part there v decided =
        let same : part.records ≡ records x = sym (records_here asked x part there) ∙ records_are x bare.leader in
        none v (subst (λ (n : ℕ). IsDecided n asked.sent (first_unlearned (records x)) v) kept_asked.size
        (subst (λ (list : List Rec). IsDecided (length asked.nodes) asked.sent (first_unlearned list) v) same decided))

    learned_unvoted : NoVotes records quorum (first_unlearned (records x)) → HasLearnedAll asked x
    learned_unvoted unvoted =
        let p = first_unlearned (records x) in
        learned_if (unvoted_unapplied kept_asked.kept.sound quorum bare.nodes (omega (arith, bare.bare)) p
        (λ y b v h. subst (λ (list : List Rec). ¬ Has (Voted p b v) list) (sym (records_are y h)) (no_vote (records y) p (unvoted y h) b v)))

    learned_full : AllInLog s.config.max_positions w → s.config.max_positions < first_unlearned (records x) → HasLearnedAll asked x
    learned_full in_log full =
        learned_if (λ v decided.
        let within : first_unlearned (records x) ≤ s.config.max_positions = decided_in_log s.config.nodes s.config.max_positions asked kept_asked.size kept_asked.kept.sound in_log (first_unlearned (records x)) v decided in
        omega (arith, within, full))

    -- ---- it has the call

    module _ (learned : HasLearnedAll (once_asked w) x) where
      abbrev answered_by : Turn → Transition
      answered_by turn = node_done asked x (turn_done (restarted (records x)) turn)

      abbrev later_by : Turn → World
      later_by turn = (answered_by turn).world

      abbrev asking : List Event
      asking = Again t x ∷ Makes (Deliver (suc (length w.sent))) ∷ []

      asks_it : (turn : Turn) → running_effect s x (records x) fresh_running (Receive (asks t x call)) ≡ Ok turn → GoesOnBy s quorum t first w asking (later_by turn)
      asks_it turn result = (
        task_sends s w t replies (Some call) (asks t x call),
        is_asked,
        (is_task, is_node x bare.leader),
        (refl, bare.leader),
        (
          answered_by turn,
          gets s asked x (records x) fresh_running turn here (suc (length w.sent)) (asks t x call) sent_it refl result,
          tt,
          (omega (arith, enough), (asks t x call, sent_it, bare.leader, learned)),
          refl,
        ),
      )

      has_later : (turn : Turn) → TaskHas (later_by turn) t replies (Some call)
      has_later turn = stays_there s w t replies (Some call) (Some call) (asks t x call) has

      leader_later : (turn : Turn) → part_at (later_by turn).nodes x ≡ Some (turn_done (restarted (records x)) turn).part
      leader_later turn = put_there w.nodes x (restarted (records x)) (turn_done (restarted (records x)) turn).part here

      enough_asked : first ≤ length (w.sent ++ asks t x call ∷ [])
      enough_asked = omega (arith, enough, length-append w.sent (asks t x call ∷ []))

      -- ---- a call that counts at the leader already

      counted_ends : OccursFirst (named t (suc m)) (applied_in w x) → Ends s quorum t first x replies w
      counted_ends occurs = by (answer_to t (suc m) (replay_answers s.next s.answers s.begin (applied_in w x))) refl
        where
          by : (o : Option Answer) → answer_to t (suc m) (replay_answers s.next s.answers s.begin (applied_in w x)) ≡ o → Ends s quorum t first x replies w
          by None missing = record {
            events = [];
            after = w;
            goes_on = refl;
            place = suc occurs.index;
            counts = first_is_place s (node_in w.nodes) (task_in w.tasks) w.sent kept.kept answering.known x t m occurs;
            replied = λ answer is. absurd (not_given s (node_in w.nodes) (task_in w.tasks) w.sent kept.kept answering.known x t (suc m) missing answer is);
          }
          by (Some answer) found =
              let place = first_is_place s (node_in w.nodes) (task_in w.tasks) w.sent kept.kept answering.known x t m occurs in
              let there = found_has (is_for t (suc m)) answer (replay_answers s.next s.answers s.begin (applied_in w x)) found in
              let is : call_of answer ≡ named t (suc m) = call_is t (suc m) answer there.1 in
              let taken : Answer = record { task = t; number = suc m; reply = answer.reply } in
              let same : answer ≡ taken = ap (λ (c : CallName). (let a : Answer = record { task = c.task; number = c.number; reply = answer.reply } in a)) is in
              let last = answered_last s (node_in w.nodes) (task_in w.tasks) w.sent kept.kept answering.known x t m so_far answer (is, there.0) in
              let turn = sends fresh_running (says_to_task x (bodies.Reply (suc m) answer.reply) t ∷ []) in
              let were = records_are x bare.leader in
              let goes = asks_it turn (replies_again s x t (suc m) object operation arg (records x) answer
              (subst (λ (list : List Rec). answer_to t (suc m) (replay_answers s.next s.answers s.begin (applied_of list)) ≡ Some answer) were found) (omega arith)
              (subst (λ (list : List Rec). last_number t (counted_of s.next s.answers s.begin (applied_of list)) ≡ suc m) were last)) in
              let as_before : records_in (later_by turn) x ≡ records_in w x = records_here (later_by turn) x (turn_done (restarted (records x)) turn).part (leader_later turn) ∙ sym were in
              let asked_of = w.sent ++ asks t x call ∷ [] in
              let low = enough_asked in
              ends_then s quorum t first x replies w asking (later_by turn) goes
              (ends_with_reply s quorum t first x replies answering object operation arg (later_by turn) taken (suc occurs.index) (suc (length asked_of))
              (keeps_on s quorum t first right w asking (later_by turn) kept goes) (has_later turn)
              (subst (λ (list : List Rec). IsPlace s.next s.answers s.begin (applied_of list) (next_of t replies) (suc occurs.index)) (sym as_before) place) (
                refl,
                subst (λ (list : List Rec). Has taken (replay_answers s.next s.answers s.begin (applied_of list))) (sym as_before)
                    (subst (λ (a : Answer). Has a (replay_answers s.next s.answers s.begin (applied_in w x))) same there.0),
              )
              (omega (arith, low)) (part_last asked_of (says_to_task x (bodies.Reply (suc m) answer.reply) t)))

      -- ---- a call that does not

      module _ (none : ¬ Occurs (named t (suc m)) (applied_in w x)) where
        abbrev waits : Turn
        waits = notes (only_pending (call ∷ []))

        goes_waiting : GoesOnBy s quorum t first w asking (later_by waits)
        goes_waiting =
            let were = records_are x bare.leader in
            asks_it waits (subst (λ (list : List Rec). running_effect s x list fresh_running (Receive (asks t x call)) ≡ Ok (notes (only_pending (call ∷ [])))) were
            (awaits s x t (suc m) object operation arg (records_in w x)
            (unanswered s (node_in w.nodes) (task_in w.tasks) w.sent kept.kept answering.known x t m so_far none)
            (not_above s (node_in w.nodes) (task_in w.tasks) w.sent kept.kept answering.known x t m so_far)))

        abbrev part_of : ℕ → Bool → NodePart
        part_of y b = record { records = records y; torn = 0; running = Some (if b then only_pending (call ∷ []) else fresh_running) }

        abbrev part_was : ℕ → Bool → NodePart
        part_was y b = record { records = records y; torn = 0; running = Some (if b then only_pending [] else fresh_running) }

        waiting : AreRunning (later_by waits) quorum x records (only_pending (call ∷ []))
        waiting = record {
          each = λ y h. elim (eqb_tells y x) [
            | inl same ↦ subst (λ (z : ℕ). part_at (later_by waits).nodes z ≡ Some (part_of z (nat_eq y x))) (sym same.1)
                (leader_later waits ∙ ap (λ (b : Bool). Some (part_of x b)) (sym same.0))
            | inr other ↦ put_beside w.nodes x y (turn_done (restarted (records x)) waits).part other.1 ∙ running.each y h ∙ ap (λ (b : Bool). Some (part_was y b)) other.0 ∙ ap (λ (b : Bool). Some (part_of y b)) (sym other.0)
          ];
        }

        waiting_ends : (round : ℕ) → first_unlearned (records x) ≤ s.config.max_positions → suc round < 2 ^ 32 → NoVotes records quorum (first_unlearned (records x)) → ((y : ℕ) → Has y quorum → AreWithinRound round (records y))
            → Ends s quorum t first x replies w
        waiting_ends round in_log left unvoted within =
            let low = enough_asked in
            let enough_now : first ≤ length (later_by waits).sent = omega (arith, low, length-append (w.sent ++ asks t x call ∷ []) []) in
            ends_then s quorum t first x replies w asking (later_by waits) goes_waiting
            (it_counts s right answering quorum t first x bare replies object operation arg (later_by waits) records round
            (keeps_on s quorum t first right w asking (later_by waits) kept goes_waiting) enough_now (has_later waits) waiting
            (subst (λ (list : List Rec). ¬ Occurs (named t (suc m)) (applied_of list)) (records_are x bare.leader) none) in_log left unvoted within)

    -- it leads next where no node of the quorum has voted
    at_unvoted : (round : ℕ) → first_unlearned (records x) ≤ s.config.max_positions → suc round < 2 ^ 32 → NoVotes records quorum (first_unlearned (records x)) → ((y : ℕ) → Has y quorum → AreWithinRound round (records y))
        → Ends s quorum t first x replies w
    at_unvoted round in_log left unvoted within =
        elim (occurs_or_not t (suc m) (applied_in w x)) [
          | inr occurs ↦ counted_ends (learned_unvoted unvoted) occurs
          | inl none ↦ waiting_ends (learned_unvoted unvoted) none round in_log left unvoted within
        ]

    -- or it has learned the whole log
    at_the_end : AllInLog s.config.max_positions w → s.config.max_positions < first_unlearned (records x) → Ends s quorum t first x replies w ⊎ Fills s quorum t first x replies w
    at_the_end in_log full =
        elim (occurs_or_not t (suc m) (applied_in w x)) [
          | inr occurs ↦ inl (counted_ends (learned_full in_log full) occurs)
          | inl none ↦ inr (record {
            events = [];
            after = w;
            goes_on = refl;
            full = subst (λ (list : List Rec). s.config.max_positions < first_unlearned list) (sym (records_are x bare.leader)) full;
            absent = none;
          })
        ]

  -- ---- the whole

  all_fresh : (w : World) → IsKeptWorld s w → HaveRestarted s quorum t first quorum w
  all_fresh w kept =
      all_restart s quorum t first quorum w bare.nodes.distinct (λ y h. (h, is_node y h, (let member = bare.nodes.members y h in part_is w.nodes y member.0 (omega (arith, member.1, kept.size)))))

  module _ (w : World) (kept : IsKeptWorld s w) (enough : first ≤ length w.sent) (has : TaskHas w t replies (Some call)) (limit round : ℕ) (in_log : limit ≤ s.config.max_positions) (ballots : AreBallotsLeft (records_in w) quorum x limit round) where
    fresh : HaveRestarted s quorum t first quorum w
    fresh = all_fresh w kept

    enough_fresh : first ≤ length fresh.after.sent
    enough_fresh = let same : length fresh.after.sent ≡ length w.sent = ap (λ (list : List Message). length list) fresh.sent in omega (arith, enough, same)

    running_fresh : AreRunning fresh.after quorum x (records_in w) (only_pending [])
    running_fresh = record {
      each = λ y h. fresh.each y h ∙ ap (λ (r : Running). Some (let part : NodePart = record { records = records_in w y; torn = 0; running = Some r } in part)) (sym (either_fresh (nat_eq y x)));
    }

    caught : CaughtUp s quorum t first x limit fresh.after (records_in w)
    caught = catch_up s quorum t first x right bare (suc limit - first_unlearned (records_in w x)) limit fresh.after (records_in w) round enough_fresh running_fresh in_log (omega arith) ballots.enough ballots.within

    abbrev v : World
    v = caught.after

    abbrev until_there : List Event
    until_there = fresh.events ++ caught.events

    goes_there : GoesOnBy s quorum t first w until_there v
    goes_there = goes_then s quorum t first w fresh.events fresh.after caught.events v fresh.goes_on caught.goes_on

    kept_there : IsKeptWorld s v
    kept_there = keeps_on s quorum t first right w until_there v kept goes_there

    enough_there : first ≤ length v.sent
    enough_there = let low = enough_fresh in omega (arith, low, caught.grows)

    has_there : TaskHas v t replies (Some call)
    has_there = ap (λ (tasks : List TaskPart). part_at tasks t) (caught.tasks ∙ fresh.tasks) ∙ has

    ends_there : (first_unlearned (caught.later x) ≤ limit) × (suc caught.round < 2 ^ 32) × NoVotes caught.later quorum (first_unlearned (caught.later x)) → Ends s quorum t first x replies v
    ends_there is = let low = is.0 in at_unvoted v caught.later kept_there enough_there has_there caught.running caught.round (omega (arith, low, in_log)) is.1 is.2 caught.within

  pub served : (w : World) (i round : ℕ) → IsKeptWorld s w → first ≤ length w.sent → TaskHas w t replies (Some call)
      → IsPositionLeft s.config.max_positions (records_in w) quorum i → AreBallotsLeft (records_in w) quorum x i round → Ends s quorum t first x replies w
  served w i round kept enough has position ballots =
      let c = caught w kept enough has i round position.in_log.1 ballots in
      let still = c.unvoted i (λ y h. no_last (records_in w y) i (λ b a voted. position.unvoted y b a h voted)) in
      ends_then s quorum t first x replies w (until_there w kept enough has i round position.in_log.1 ballots) c.after (goes_there w kept enough has i round position.in_log.1 ballots)
      (elim c.ends [
        | inl left ↦ ends_there w kept enough has i round position.in_log.1 ballots left
        | inr beyond ↦
            let are : (y : ℕ) → Has y quorum → records_in c.after y ≡ c.later y = λ y h. records_here c.after y _ (c.running.each y h) in
            let ahead = unlearned_below (kept_there w kept enough has i round position.in_log.1 ballots).kept.sound quorum bare.nodes (omega (arith, bare.bare)) i position.in_log.0
            (λ y b a h. subst (λ (list : List Rec). ¬ Has (Voted i b a) list) (sym (are y h)) (no_vote (c.later y) i (still y h) b a)) x in
            let within : first_unlearned (c.later x) ≤ i = subst (λ (list : List Rec). first_unlearned list ≤ i) (are x bare.leader) ahead in
            absurd (omega (arith, beyond, within))
      ])

  -- or the log is full
  pub served_or_full : (w : World) (round : ℕ) → IsKeptWorld s w → first ≤ length w.sent → TaskHas w t replies (Some call)
      → ((events : List Event) (u : World) → GoesOnBy s quorum t first w events u → AllInLog s.config.max_positions u)
      → AreBallotsLeft (records_in w) quorum x s.config.max_positions round
      → Ends s quorum t first x replies w ⊎ Fills s quorum t first x replies w
  served_or_full w round kept enough has in_log ballots =
      let most = s.config.max_positions in
      let same : most ≤ most = omega arith in
      let c = caught w kept enough has most round same ballots in
      let goes = goes_there w kept enough has most round same ballots in
      let events = until_there w kept enough has most round same ballots in
      either_then s quorum t first x replies w events c.after goes
      (elim c.ends [
        | inl left ↦ inl (ends_there w kept enough has most round same ballots left)
        | inr beyond ↦ at_the_end c.after c.later (kept_there w kept enough has most round same ballots) (enough_there w kept enough has most round same ballots) (has_there w kept enough has most round same ballots) c.running
            (in_log events c.after goes) beyond
      ])
