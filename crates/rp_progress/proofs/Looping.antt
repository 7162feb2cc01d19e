-- A leader at which a call waits leads at its next position, where no node of the majority has voted:
-- the call counts there.
use Rattle.std.proofs.Common.{◌≡◌, ℕ, suc, ◌+◌, ◌<◌, ◌≤◌, ◌^◌, true, ◌⊎◌, Option, Some, None, List, [], ◌∷◌, ◌++◌, length, filter, drop, inl, inr, refl, sym, ap, subst, ◌∙◌, arith, length-append, eq-eqb}
use Rattle.std.specs.Prelude.{ℤ}
use Rattle.std.specs.List.{list_any}
use Rattle.std.proofs.lemmas.Bool.{and_from, or_left}
use Rattle.rp_base.specs.Config.{IsRightConfig}
use Rattle.rp_base.specs.Records.{applied_of, first_unlearned}
use Rattle.rp_base.specs.Sets.{Has}
use Rattle.rp_base.specs.declared.action.Action.{Action}
use Rattle.rp_base.specs.declared.action.Action.TheVariants.{Call}
use Rattle.rp_base.specs.declared.action.Operation.{Operation}
use Rattle.rp_base.specs.declared.record.Rec.{Rec}
use Rattle.rp_base.specs.declared.reply.Answer.{Answer}
use Rattle.rp_base.proofs.Members.{has_split, has_right, has_mapped, passes}
use Rattle.rp_codec.specs.Message.{Message}
use Rattle.rp_codec.specs.declared.packet.Body.TheVariants as bodies
use Rattle.rp_machine.specs.Calls.{CallName, call_of}
use Rattle.rp_machine.specs.Asked.{answer_to}
use Rattle.rp_machine.specs.Replay.{is_for, replay_of, replay_answers, unmoved}
use Rattle.rp_machine.proofs.Replaying.{replay_from-append, goes_on_from}
use Rattle.rp_model.specs.Effect.{Setting}
use Rattle.rp_model.specs.Parts.{TaskPart}
use Rattle.rp_model.specs.Pending.{own_action, is_answered_by}
use Rattle.rp_model.specs.Says.{says_to_task}
use Rattle.rp_model.specs.World.{World, part_at}
use Rattle.rp_model.proofs.AppliedGrowing.{applied_more}
use Rattle.rp_agreement.specs.Answered.{IsKeptWorld, Occurs, task_in, named}
use Rattle.rp_agreement.specs.Worlds.{node_in}
use Rattle.rp_agreement.proofs.AnswerAgain.{call_is}
use Rattle.rp_agreement.proofs.Lists.{found_has, has_get}
use Rattle.rp_possible.specs.Rounds.{AreWithinRound, AreRunning, only_pending, kept_after, answers_after, new_replies, IsRound, IsBareQuorum}
use Rattle.rp_progress.specs.Waiting.{TaskHas, applied_in, records_in}
use Rattle.rp_progress.proofs.Ending.{IsAnswering, Ends, made_so_far, ends_then, ends_with_reply}
use Rattle.rp_progress.proofs.CatchingUp.{NoVotes, applied_next}
use Rattle.rp_progress.proofs.Going.{keeps_on}
use Rattle.rp_possible.proofs.Packets.{part_beyond}
use Rattle.rp_progress.proofs.Occurring.{OccursFirst, occurs_or_not, first_is_place, answered_occurs, not_given, own_is_it}
use Rattle.rp_progress.proofs.Restarting.{records_here}
use Rattle.rp_possible.proofs.Round.{a_round}

-- ---- lists

dropped : {A : Type 0} (xs ys : List A) → drop (length xs) (xs ++ ys) ≡ ys
dropped [] ys = refl
dropped (x ∷ xs) ys = dropped xs ys

-- ---- the reply that a round sends

module _ {S : Type 0} (s : Setting S) where
  -- an answer to the longer list is one to the shorter, or a new one
  new_answer : (before later : List Rec) (rec : Rec) → later ≡ before ++ rec ∷ [] → (answer : Answer) → Has answer (answers_after s later)
      → Has answer (answers_after s before) ⊎ Has answer (drop (length (answers_after s before)) (answers_after s later))
  new_answer before later rec grown answer h =
      let more = applied_more before (rec ∷ []) in
      let on = goes_on_from s.next s.answers (replay_of s.next s.answers s.begin (applied_of before)) more.0 in
      let whole : answers_after s later ≡ answers_after s before ++ on.more =
      ap (λ (records : List Rec). answers_after s records) grown
      ∙ ap (λ (list : List Action). replay_answers s.next s.answers s.begin list) more.1
      ∙ ap (λ r. r.given) (replay_from-append s.next s.answers (unmoved s.begin) (applied_of before) more.0) ∙ on.given in
      elim (has_split answer (answers_after s before) on.more (subst (λ (list : List Answer). Has answer list) whole h)) [
        | inl old ↦ inl old
        | inr new ↦ inr (subst (λ (list : List Answer). Has answer list) (sym (ap (λ (list : List Answer). drop (length (answers_after s before)) list) whole ∙ dropped (answers_after s before) on.more)) new)
      ]

  -- it is sent to its task
  reply_sent : (x t n object : ℕ) (operation : Operation) (arg : ℤ) (before later : List Rec) (answer : Answer) → call_of answer ≡ named t n
      → Has answer (drop (length (answers_after s before)) (answers_after s later))
      → Has (says_to_task x (bodies.Reply answer.number answer.reply) answer.task) (new_replies s x (Call t n object operation arg ∷ []) before later)
  reply_sent x t n object operation arg before later answer is new =
      let call : Action = Call t n object operation arg in
      let all = drop (length (answers_after s before)) (answers_after s later) in
      let test = λ (a : Answer). list_any (is_answered_by a) (call ∷ []) in
      let hit : is_answered_by answer call ≡ true = and_from _ _ (eq-eqb t answer.task (ap (λ (c : CallName). c.task) (sym is))) (eq-eqb n answer.number (ap (λ (c : CallName). c.number) (sym is))) in
      let passed : test answer ≡ true = or_left (is_answered_by answer call) (list_any (is_answered_by answer) []) hit in
      has_mapped (λ (a : Answer). says_to_task x (bodies.Reply a.number a.reply) a.task) answer (filter test all) (passes test answer all new passed)

module _ {S : Type 0} (s : Setting S) (right : IsRightConfig s.config) (answering : IsAnswering s) (quorum : List ℕ) (t first x : ℕ) (bare : IsBareQuorum s quorum x)
    (replies : List Answer) (object : ℕ) (operation : Operation) (arg : ℤ) where
  abbrev m : ℕ
  m = length replies

  abbrev call : Action
  call = Call t (suc m) object operation arg

  -- ---- after a round

  module _ (w : World) (records : ℕ → List Rec) (round : ℕ) (kept : IsKeptWorld s w) (enough : first ≤ length w.sent) (has : TaskHas w t replies (Some call))
      (running : AreRunning w quorum x records (only_pending (call ∷ []))) (none : ¬ Occurs (named t (suc m)) (applied_of (records x)))
      (turn : IsRound s quorum t first w x records (call ∷ []) round) where
    abbrev v : World
    v = turn.after

    kept_then : IsKeptWorld s v
    kept_then = keeps_on s quorum t first right w turn.events v kept turn.goes_on

    has_then : TaskHas v t replies (Some call)
    has_then = ap (λ (tasks : List TaskPart). part_at tasks t) turn.tasks ∙ has

    records_were : records_in w x ≡ records x
    records_were = records_here w x _ (running.each x bare.leader)

    records_are : (y : ℕ) → Has y quorum → records_in v y ≡ turn.later y
    records_are y h = records_here v y _ (turn.running.each y h)

    enough_then : first ≤ length v.sent
    enough_then =
        let long : length v.sent ≡ length turn.sends + length (new_replies s x (call ∷ []) turn.before (turn.later x)) =
        ap (λ (list : List Message). length list) turn.sent ∙ length-append turn.sends (new_replies s x (call ∷ []) turn.before (turn.later x)) in
        omega (arith, enough, long, turn.grows)

    none_before : ¬ Occurs (named t (suc m)) (applied_in w x)
    none_before = subst (λ (list : List Rec). ¬ Occurs (named t (suc m)) (applied_of list)) (sym records_were) none

    -- ---- the call counts now

    ends_here : OccursFirst (named t (suc m)) (applied_in v x) → Ends s quorum t first x replies v
    ends_here occurs = by (answer_to t (suc m) given) refl
      where
        given : List Answer
        given = replay_answers s.next s.answers s.begin (applied_in v x)

        by : (o : Option Answer) → answer_to t (suc m) (replay_answers s.next s.answers s.begin (applied_in v x)) ≡ o → Ends s quorum t first x replies v
        by None missing = record {
          events = [];
          after = v;
          goes_on = refl;
          place = suc occurs.index;
          counts = first_is_place s (node_in v.nodes) (task_in v.tasks) v.sent kept_then.kept answering.known x t m occurs;
          replied = λ answer is. absurd (not_given s (node_in v.nodes) (task_in v.tasks) v.sent kept_then.kept answering.known x t (suc m) missing answer is);
        }
        by (Some answer) found =
            let place = first_is_place s (node_in v.nodes) (task_in v.tasks) v.sent kept_then.kept answering.known x t m occurs in
            let there = found_has (is_for t (suc m)) answer (replay_answers s.next s.answers s.begin (applied_in v x)) found in
            let is : call_of answer ≡ named t (suc m) = call_is t (suc m) answer there.1 in
            let now : Has answer (answers_after s (turn.later x)) = subst (λ (list : List Rec). Has answer (replay_answers s.next s.answers s.begin (applied_of list))) (records_are x bare.leader) there.0 in
            let new : Has answer (drop (length (answers_after s turn.before)) (answers_after s (turn.later x))) =
            elim (new_answer s turn.before (turn.later x) _ turn.learns answer now) [
              | inr new ↦ new
              | inl old ↦
                  let was : Has answer (replay_answers s.next s.answers s.begin (applied_in w x)) =
                  subst (λ (list : List Action). Has answer (replay_answers s.next s.answers s.begin list)) (turn.applied ∙ ap (λ (list : List Rec). applied_of list) (sym records_were)) old in
                  absurd (none_before (answered_occurs s (node_in w.nodes) (task_in w.tasks) w.sent kept.kept answering.known x t (suc m) answer (is, was)))
            ] in
            let message = says_to_task x (bodies.Reply answer.number answer.reply) answer.task in
            let sent_to = has_get (new_replies s x (call ∷ []) turn.before (turn.later x)) message (reply_sent s x t (suc m) object operation arg turn.before (turn.later x) answer is new) in
            let here : part_at v.sent (length turn.sends + suc sent_to.0) ≡ Some message =
            ap (λ (list : List Message). part_at list (length turn.sends + suc sent_to.0)) turn.sent
            ∙ part_beyond turn.sends (new_replies s x (call ∷ []) turn.before (turn.later x)) sent_to.0 ∙ sent_to.1 in
            ends_with_reply s quorum t first x replies answering object operation arg v answer (suc occurs.index) (length turn.sends + suc sent_to.0) kept_then has_then place (is, there.0)
            (omega (arith, enough, turn.grows)) here

    -- ---- it does

    -- the leader's own action is decided where nobody had voted, and that is the call
    not_absent : NoVotes records quorum (first_unlearned (records x)) → ¬ (¬ Occurs (named t (suc m)) (applied_in v x))
    not_absent unvoted none_now =
        let its : own_action (kept_after s (records x)) [] (call ∷ []) ≡ call =
        subst (λ (list : List Rec). own_action (kept_after s list) [] (call ∷ []) ≡ call) records_were
        (own_is_it s (node_in w.nodes) (task_in w.tasks) w.sent kept.kept answering.known x t m (made_so_far w t replies call has) none_before object operation arg) in
        let next = applied_next s quorum t first x w records (call ∷ []) round turn in
        let there : Has turn.v (applied_of (turn.later x)) =
        subst (λ (list : List Action). Has turn.v list) (sym next.1) (has_right turn.v (applied_of (records x)) (turn.v ∷ next.0) (inl refl)) in
        let here : Has call (applied_in v x) =
        subst (λ (a : Action). Has a (applied_in v x)) (turn.own unvoted ∙ its) (subst (λ (list : List Rec). Has turn.v (applied_of list)) (sym (records_are x bare.leader)) there) in
        none_now (call, here, inl refl)

  -- by one round
  pub it_counts : (w : World) (records : ℕ → List Rec) (round : ℕ) → IsKeptWorld s w → first ≤ length w.sent → TaskHas w t replies (Some call)
      → AreRunning w quorum x records (only_pending (call ∷ [])) → (¬ Occurs (named t (suc m)) (applied_of (records x)))
      → first_unlearned (records x) ≤ s.config.max_positions → suc round < 2 ^ 32
      → NoVotes records quorum (first_unlearned (records x)) → ((y : ℕ) → Has y quorum → AreWithinRound round (records y))
      → Ends s quorum t first x replies w
  it_counts w records round kept enough has running none in_log left unvoted within =
      let turn = a_round s quorum t first w x records (call ∷ []) round right bare enough running in_log within left in
      ends_then s quorum t first x replies w turn.events turn.after turn.goes_on
      (elim (occurs_or_not t (suc m) (applied_in turn.after x)) [
        | inr occurs ↦ ends_here w records round kept enough has running none turn occurs
        | inl none_now ↦ absurd (not_absent w records round kept enough has running none turn unvoted none_now)
      ])
