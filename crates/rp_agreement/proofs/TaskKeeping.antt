-- A task's step keeps the replies to tasks.
use Rattle.std.proofs.Common.{◌≡◌, ℕ, suc, Ok, List, [], length, map, inl, inr, refl, sym, subst, ◌∙◌, arith, ◌≤◌}
use Rattle.std.proofs.lemmas.Bool.{cases_eq}
use Rattle.std.proofs.lemmas.List.{append-nil}
use Rattle.rp_base.specs.declared.action.Action.{Action}
use Rattle.rp_base.specs.declared.reply.Answer.{Answer}
use Rattle.rp_base.specs.Sets.{Has}
use Rattle.rp_base.specs.Records.{applied_of}
use Rattle.rp_codec.specs.Message.{Message}
use Rattle.rp_codec.specs.declared.packet.Party.{Party}
use Rattle.rp_codec.specs.declared.packet.Party.TheVariants.{Node, Task, Audit}
use Rattle.rp_codec.specs.declared.packet.Body.{Body}
use Rattle.rp_codec.specs.declared.packet.Body.TheVariants as bodies
use Rattle.rp_machine.specs.Calls.{call_of}
use Rattle.rp_model.specs.Parts.{NodePart}
use Rattle.rp_model.specs.Parts.{TaskPart}
use Rattle.rp_model.specs.Effect.{Setting, Done}
use Rattle.rp_model.specs.Tasks.{TaskInput, Take, task_effect}
use Rattle.rp_agreement.specs.Asked.{IsAsked}
use Rattle.rp_agreement.specs.Sound.{SaysSo, IsCall, IsSound}
use Rattle.rp_agreement.specs.Order.{AllSent}
use Rattle.rp_agreement.specs.Computed.{order_of}
use Rattle.rp_agreement.specs.Inputs.{TaskMoves, WaitsForOwn, IsTaskInput}
use Rattle.rp_agreement.specs.Answered.{SaysAnswer, answers_of, named, IsAnswered, IsKept, IsReady, AreMade, calls_so_far}
use Rattle.rp_agreement.proofs.Lists.{has_get}
use Rattle.rp_agreement.proofs.Computing.{order_is}
use Rattle.rp_agreement.proofs.Following.{decided_asked}
use Rattle.rp_agreement.proofs.TaskEffects.{task_keeps, task_sound, if_task_done}
use Rattle.rp_agreement.proofs.AnswersGrow.{answer_more, still_answered, answers_grow, applied_begins, order_grows, ready_grows}
use Rattle.rp_agreement.proofs.TaskReplies.{IsAnsweredIf, task_answered, last_replied, WentOn, WentOnIf, task_went, others_ask}
use Rattle.rp_agreement.proofs.Made.{made_stays, made_after, asks_in_turn}

-- what a task says is no reply
calls_answer : (given : List Answer) (to : Party) (u : ℕ) (body : Body) → IsCall u body → SaysAnswer given to body
calls_answer given to u (bodies.Reply number reply) is = absurd is
calls_answer given to u _ is = tt

module _ {S : Type 0} (s : Setting S) where
  -- a reply that was sent to a task is an answer of the order
  reply_by_party : (node : ℕ → NodePart) (task : ℕ → TaskPart) (sent : List Message) → IsKept s node task sent → (m : Message) → Has m sent → (t : ℕ) → m.to ≡ Task t
      → (from : Party) → m.from ≡ from → SaysAnswer (answers_of s (order_of s.config.nodes sent)) (Task t) m.body
  reply_by_party node task sent kept m h t to (Node a) is =
      subst (λ (party : Party). SaysAnswer (answers_of s (order_of s.config.nodes sent)) party m.body) to
      (answer_more (answers_of s (applied_of (node a).records)) (answers_of s (order_of s.config.nodes sent))
      (answers_grow s (applied_of (node a).records) (order_of s.config.nodes sent) (applied_begins s.config.nodes node sent kept.sound a)) m.to m.body
      (kept.replies m h a is))
  reply_by_party node task sent kept m h t to (Task u) is =
      calls_answer (answers_of s (order_of s.config.nodes sent)) (Task t) u m.body (subst (λ (party : Party). SaysSo s.config.nodes node sent party m.body) is (kept.sound.says m h))
  reply_by_party node task sent kept m h t to Audit is = absurd (subst (λ (party : Party). SaysSo s.config.nodes node sent party m.body) is (kept.sound.says m h))

  input_answered : (node : ℕ → NodePart) (task : ℕ → TaskPart) (sent : List Message) → IsKept s node task sent → (t : ℕ) (input : TaskInput) → IsTaskInput sent t input
      → (message : Message) → input ≡ Take message → SaysAnswer (answers_of s (order_of s.config.nodes sent)) (Task t) message.body
  input_answered node task sent kept t input right message is =
      let there = subst (IsTaskInput sent t) is right in
      reply_by_party node task sent kept message there.0 t there.1 message.from refl

  -- what is in the order was asked for
  pub asked_in_order : (node : ℕ → NodePart) (sent : List Message) → IsSound s.config.nodes node sent → (action : Action) → Has action (order_of s.config.nodes sent) → IsAsked sent action
  asked_in_order node sent sound action h =
      let at = has_get (order_of s.config.nodes sent) action h in
      decided_asked sound (suc at.0) action ((order_is s.config.nodes sent).decided at.0 action at.1)

  -- each call that has its reply is answered by a beginning of the order in which the next does not occur
  ready_after : (t : ℕ) (part : TaskPart) (done : Done TaskPart) (node : ℕ → NodePart) (sent : List Message) → IsSound s.config.nodes node sent
      → IsAnswered (answers_of s (order_of s.config.nodes sent)) t part → (made : List Action) → AreMade sent t part made
      → ((n : ℕ) → n ≤ length part.replies → IsReady s (order_of s.config.nodes sent) t n)
      → IsAnswered (answers_of s (order_of s.config.nodes sent)) t done.part → WentOn t part done
      → (n : ℕ) → n ≤ length done.part.replies → IsReady s (order_of s.config.nodes sent) t n
  ready_after t part done node sent sound was made are_made ready now went n few =
      elim went.replies [
        | inl same ↦ ready n (omega (arith, few, same))
        | inr more ↦ elim (cases_eq n (suc (length part.replies))) [
          | inr other ↦ ready n (omega (arith, few, more.0, other))
          | inl last ↦ subst (IsReady s (order_of s.config.nodes sent) t) (sym last) (record {
            before = order_of s.config.nodes sent;
            begins = ([], sym (append-nil (order_of s.config.nodes sent)));
            absent = λ occurs.
                let asked = asked_in_order node sent sound occurs.0 occurs.1 in
                let below : suc (suc (length part.replies)) ≤ calls_so_far part = asks_in_turn sent t part made are_made occurs.0 (asked.asked (named t (suc (suc (length part.replies)))) occurs.2) (named t (suc (suc (length part.replies)))) occurs.2 in
                absurd (omega (arith, below, more.1));
            answered = inr (subst (λ (m : ℕ). Has (named t m) (map call_of (answers_of s (order_of s.config.nodes sent)))) more.0 (last_replied (answers_of s (order_of s.config.nodes sent)) t done.part now (omega (arith, more.0))));
          })
        ]
      ]

  -- what is kept where a task goes on
  pub task_goes_on : (t : ℕ) (input : TaskInput) (done : Done TaskPart) (node : ℕ → NodePart) (task : ℕ → TaskPart) (sent : List Message)
      (node' : ℕ → NodePart) (task' : ℕ → TaskPart) (sent' : List Message)
      → IsKept s node task sent → IsTaskInput sent t input → task_effect s.config t (task t) input ≡ Ok done
      → ((k : ℕ) → node' k ≡ node k) → TaskMoves t done task sent task' sent'
      → IsKept s node' task' sent'
  task_goes_on t input done node task sent node' task' sent' kept right resulted stays moves =
      let given = answers_of s (order_of s.config.nodes sent) in
      let d = if_task_done t (task_effect s.config t (task t) input) done (task_sound s.config sent t (task t) input (kept.own t) right) resulted in
      let sound = task_keeps s.config.nodes t done.sends node sent node' sent' kept.sound (record { calls = d.calls; stays = stays; sends = moves.sends }) in
      let all : AllSent sent sent' = λ m h. (moves.sends m).1 (inl h) in
      let now : IsAnswered given t done.part = subst (IsAnsweredIf given t) resulted (task_answered s.config given t (task t) input (kept.answered t) (input_answered node task sent kept t input right)) in
      let went : WentOn t (task t) done = subst (WentOnIf t (task t)) resulted (task_went s.config t (task t) input) in
      let longer = order_grows s.config.nodes node' sent sent' sound all in
      let more = answers_grow s (order_of s.config.nodes sent) (order_of s.config.nodes sent') longer in
      record {
        sound = sound;
        own = λ k. elim (cases_eq k t) [
          | inl same ↦ subst (λ (u : ℕ). WaitsForOwn u (task' u)) (sym same) (subst (WaitsForOwn t) (sym moves.part) d.waits)
          | inr other ↦ subst (WaitsForOwn k) (sym (moves.others k other)) (kept.own k)
        ];
        replies = λ m h a from. elim ((moves.sends m).0 h) [
          | inl old ↦ subst (λ (p : NodePart). SaysAnswer (answers_of s (applied_of p.records)) m.to m.body) (sym (stays a)) (kept.replies m old a from)
          | inr new ↦ let bad : Node a ≡ Task t = sym from ∙ (d.calls m new).0 in absurd (cc)
        ];
        answered = λ k. elim (cases_eq k t) [
          | inl same ↦ subst (λ (u : ℕ). IsAnswered (answers_of s (order_of s.config.nodes sent')) u (task' u)) (sym same)
              (subst (IsAnswered (answers_of s (order_of s.config.nodes sent')) t) (sym moves.part) (still_answered given (answers_of s (order_of s.config.nodes sent')) more t done.part now))
          | inr other ↦ subst (IsAnswered (answers_of s (order_of s.config.nodes sent')) k) (sym (moves.others k other)) (still_answered given (answers_of s (order_of s.config.nodes sent')) more k (task k) (kept.answered k))
        ];
        made = λ k. elim (cases_eq k t) [
          | inl same ↦ subst (λ (u : ℕ). (calls : List Action) × AreMade sent' u (task' u) calls) (sym same)
              (subst (λ (p : TaskPart). (calls : List Action) × AreMade sent' t p calls) (sym moves.part)
              (made_after t (task t) done sent sent' (kept.made t).0 (kept.made t).1 went moves.sends given now))
          | inr other ↦ subst (λ (p : TaskPart). (calls : List Action) × AreMade sent' k p calls) (sym (moves.others k other)) (
            (kept.made k).0,
            made_stays sent sent' k (task k) (kept.made k).0 all (λ action asked. others_ask t k sent sent' done.sends action other d.calls moves.sends asked) (kept.made k).1,
          )
        ];
        ready = λ k n. elim (cases_eq k t) [
          | inl same ↦ subst (λ (u : ℕ). n ≤ length (task' u).replies → IsReady s (order_of s.config.nodes sent') u n) (sym same)
              (subst (λ (p : TaskPart). n ≤ length p.replies → IsReady s (order_of s.config.nodes sent') t n) (sym moves.part)
              (λ few. ready_grows s (order_of s.config.nodes sent) (order_of s.config.nodes sent') t n longer (ready_after t (task t) done node sent kept.sound (kept.answered t) (kept.made t).0 (kept.made t).1 (kept.ready t) now went n few)))
          | inr other ↦ subst (λ (p : TaskPart). n ≤ length p.replies → IsReady s (order_of s.config.nodes sent') k n) (sym (moves.others k other))
              (λ few. ready_grows s (order_of s.config.nodes sent) (order_of s.config.nodes sent') k n longer (kept.ready k n few))
        ];
      }
