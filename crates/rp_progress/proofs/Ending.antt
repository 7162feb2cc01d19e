-- How a task's call is served: its place at the leader, and the reply that the task takes.
use Rattle.std.proofs.Common.{◌≡◌, ℕ, suc, ◌<◌, ◌≤◌, ◌⊎◌, inl, inr, Option, Some, None, List, [], ◌∷◌, ◌++◌, length, refl, sym, ap, subst, ◌∙◌, arith}
use Rattle.std.specs.Prelude.{ℤ, unwrap_or}
use Rattle.rp_base.specs.Action.{IsRight}
use Rattle.rp_base.specs.Records.{first_unlearned}
use Rattle.rp_base.specs.Sets.{Has}
use Rattle.rp_base.specs.declared.action.Action.{Action}
use Rattle.rp_base.specs.declared.action.Action.TheVariants.{Call}
use Rattle.rp_base.specs.declared.action.Operation.{Operation}
use Rattle.rp_base.specs.declared.reply.Answer.{Answer}
use Rattle.rp_codec.specs.declared.packet.Body.TheVariants as bodies
use Rattle.rp_machine.specs.Calls.{CallName}
use Rattle.rp_machine.specs.Places.{IsPlace, IsAnswerOf}
use Rattle.rp_model.specs.Effect.{Setting}
use Rattle.rp_model.specs.Events.{Event, Makes, Deliver}
use Rattle.rp_model.specs.Parts.{fresh_task, TaskPart}
use Rattle.rp_model.specs.Says.{says_to_task}
use Rattle.rp_model.specs.World.{World, part_at}
use Rattle.rp_agreement.specs.Answered.{IsKeptWorld, Occurs, calls_so_far, task_in}
use Rattle.rp_agreement.specs.Worlds.{node_in}
use Rattle.rp_agreement.proofs.Places.{AnswersKnown}
use Rattle.rp_possible.specs.Rounds.{GoesOnBy}
use Rattle.rp_progress.specs.Waiting.{TaskHas, next_of, applied_in, records_in}
use Rattle.rp_progress.proofs.BareQuorums.{goes_then}
use Rattle.rp_progress.proofs.Occurring.{all_right}
use Rattle.rp_progress.proofs.TaskTurns.{task_gets, reply_taken, gets_there}

-- What is known of the answers to a log of right actions: only calls that counted are answered, and
-- each once.
pub record IsAnswering {S : Type 0} (s : Setting S) : Type 0 where
  pub known : AnswersKnown s
  pub one : (xs : List Action) (call : CallName) (a b : Answer) → ((action : Action) → Has action xs → IsRight action)
      → IsAnswerOf s.next s.answers s.begin xs call a → IsAnswerOf s.next s.answers s.begin xs call b → a ≡ b

-- The task's next call has its place at the leader, and its task has the reply if it is answered.
pub record Ends {S : Type 0} (s : Setting S) (quorum : List ℕ) (t first x : ℕ) (replies : List Answer) (w : World) : Type 0 where
  pub events : List Event
  pub after : World
  pub goes_on : GoesOnBy s quorum t first w events after
  pub place : ℕ
  pub counts : IsPlace s.next s.answers s.begin (applied_in after x) (next_of t replies) place
  pub replied : (answer : Answer) → IsAnswerOf s.next s.answers s.begin (applied_in after x) (next_of t replies) answer → TaskHas after t (replies ++ answer ∷ []) None

-- The leader has learned the whole log, in which the task's next call does not occur.
pub record Fills {S : Type 0} (s : Setting S) (quorum : List ℕ) (t first x : ℕ) (replies : List Answer) (w : World) : Type 0 where
  pub events : List Event
  pub after : World
  pub goes_on : GoesOnBy s quorum t first w events after
  pub full : s.config.max_positions < first_unlearned (records_in after x)
  pub absent : ¬ Occurs (next_of t replies) (applied_in after x)

-- how many calls a task made that waits
pub made_so_far : (w : World) (t : ℕ) (replies : List Answer) (call : Action) → TaskHas w t replies (Some call) → calls_so_far (task_in w.tasks t) ≤ suc (length replies)
made_so_far w t replies call here =
    let same : calls_so_far (task_in w.tasks t) ≡ suc (length replies) = ap (λ (o : Option TaskPart). calls_so_far (unwrap_or o fresh_task)) here in
    omega (arith, same)

module _ {S : Type 0} (s : Setting S) (quorum : List ℕ) (t first x : ℕ) (replies : List Answer) where
  pub ends_then : (w : World) (events : List Event) (middle : World) → GoesOnBy s quorum t first w events middle → Ends s quorum t first x replies middle → Ends s quorum t first x replies w
  ends_then w events middle goes ends = record {
    events = events ++ ends.events;
    after = ends.after;
    goes_on = goes_then s quorum t first w events middle ends.events ends.after goes ends.goes_on;
    place = ends.place;
    counts = ends.counts;
    replied = ends.replied;
  }

  pub fills_then : (w : World) (events : List Event) (middle : World) → GoesOnBy s quorum t first w events middle → Fills s quorum t first x replies middle → Fills s quorum t first x replies w
  fills_then w events middle goes fills = record {
    events = events ++ fills.events;
    after = fills.after;
    goes_on = goes_then s quorum t first w events middle fills.events fills.after goes fills.goes_on;
    full = fills.full;
    absent = fills.absent;
  }

  -- either of both, later
  pub either_then : (w : World) (events : List Event) (middle : World) → GoesOnBy s quorum t first w events middle → Ends s quorum t first x replies middle ⊎ Fills s quorum t first x replies middle
      → Ends s quorum t first x replies w ⊎ Fills s quorum t first x replies w
  either_then w events middle goes is = elim is [ inl ends ↦ inl (ends_then w events middle goes ends) | inr fills ↦ inr (fills_then w events middle goes fills) ]

  module _ (answering : IsAnswering s) (object : ℕ) (operation : Operation) (arg : ℤ) where
    -- the reply is among the packets, and is delivered
    pub ends_with_reply : (w : World) (answer : Answer) (place number : ℕ) → IsKeptWorld s w → TaskHas w t replies (Some (Call t (suc (length replies)) object operation arg))
        → IsPlace s.next s.answers s.begin (applied_in w x) (next_of t replies) place
        → IsAnswerOf s.next s.answers s.begin (applied_in w x) (next_of t replies) answer
        → first < number → part_at w.sent number ≡ Some (says_to_task x (bodies.Reply answer.number answer.reply) answer.task)
        → Ends s quorum t first x replies w
    ends_with_reply w answer place number kept has counts is new sent =
        let n = suc (length replies) in
        let message = says_to_task x (bodies.Reply n answer.reply) t in
        let taken : Answer = record { task = t; number = n; reply = answer.reply } in
        let same : answer ≡ taken = ap (λ (c : CallName). (let a : Answer = record { task = c.task; number = c.number; reply = answer.reply } in a)) is.0 in
        let here : part_at w.sent number ≡ Some message = sent ∙ ap (λ (a : Answer). Some (says_to_task x (bodies.Reply a.number a.reply) a.task)) same in
        record {
          events = Makes (Deliver number) ∷ [];
          after = (task_gets s w t replies taken).world;
          goes_on = (task_gets s w t replies taken, reply_taken s w t replies number x n object operation arg answer.reply (omega arith) has here, tt, (new, (message, here, refl, tt)), refl);
          place = place;
          counts = counts;
          replied = λ other is_other.
              let e : taken ≡ other = sym same ∙ answering.one (applied_in w x) (next_of t replies) answer other (all_right s (node_in w.nodes) (task_in w.tasks) w.sent kept.kept answering.known x) is is_other in
              subst (λ (a : Answer). TaskHas (task_gets s w t replies taken).world t (replies ++ a ∷ []) None) e
              (gets_there s w t replies (Some (Call t n object operation arg)) taken has);
        }
