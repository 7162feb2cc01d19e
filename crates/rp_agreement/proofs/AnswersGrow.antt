-- Longer lists lead to the answers of the shorter, and to more; so the replies to tasks stay.
use Rattle.std.proofs.Common.{◌≡◌, ℕ, List, ◌++◌, sym, ap, subst, ◌∙◌, append_assoc}
use Rattle.rp_base.specs.declared.action.Action.{Action}
use Rattle.rp_base.specs.declared.reply.Answer.{Answer}
use Rattle.rp_base.specs.Sets.{Has}
use Rattle.rp_base.specs.Records.{applied_of}
use Rattle.rp_base.proofs.Members.{has_left}
use Rattle.rp_codec.specs.Message.{Message}
use Rattle.rp_codec.specs.declared.packet.Party.{Party}
use Rattle.rp_codec.specs.declared.packet.Party.TheVariants.{Node, Task, Audit}
use Rattle.rp_codec.specs.declared.packet.Body.{Body}
use Rattle.rp_codec.specs.declared.packet.Body.TheVariants as bodies
use Rattle.rp_machine.specs.Replay.{replay_of, unmoved}
use Rattle.rp_machine.proofs.Replaying.{replay_from-append, goes_on_from}
use Rattle.rp_model.specs.Parts.{NodePart}
use Rattle.rp_model.specs.Parts.{TaskPart}
use Rattle.rp_model.specs.Effect.{Setting}
use Rattle.rp_agreement.specs.Sound.{IsSound}
use Rattle.rp_agreement.specs.Order.{IsPrefix, AllSent}
use Rattle.rp_agreement.specs.Computed.{order_of}
use Rattle.rp_agreement.specs.Answered.{SaysAnswer, answers_of, IsAnswered, IsReady}
use Rattle.rp_agreement.proofs.Computing.{order_is}
use Rattle.rp_agreement.proofs.Ordering.{decided_begins, applied_decided, all_decided_stays}

-- the answer is still one of more
pub answer_more : (given more : List Answer) → ((answer : Answer) → Has answer given → Has answer more) → (to : Party) (body : Body) → SaysAnswer given to body → SaysAnswer more to body
answer_more given more inside (Node k) (bodies.Reply number reply) so = absurd so
answer_more given more inside (Task t) (bodies.Reply number reply) so = inside (record { task = t; number = number; reply = reply }) so
answer_more given more inside Audit (bodies.Reply number reply) so = absurd so
answer_more given more inside to _ so = so

pub still_answered : (given more : List Answer) → ((answer : Answer) → Has answer given → Has answer more) → (t : ℕ) (part : TaskPart) → IsAnswered given t part → IsAnswered more t part
still_answered given more inside t part old = record { numbered = old.numbered; waits = old.waits; replied = λ answer h. inside answer (old.replied answer h) }

-- what a node applied begins the order, and the order begins every later one
pub applied_begins : (nodes : ℕ) (node : ℕ → NodePart) (sent : List Message) → IsSound nodes node sent → (x : ℕ) → IsPrefix (applied_of (node x).records) (order_of nodes sent)
applied_begins nodes node sent sound x = decided_begins sound (applied_of (node x).records) (order_of nodes sent) (applied_decided sound x) (order_is nodes sent)

pub order_grows : (nodes : ℕ) (node : ℕ → NodePart) (sent later : List Message) → IsSound nodes node later → AllSent sent later → IsPrefix (order_of nodes sent) (order_of nodes later)
order_grows nodes node sent later sound all =
    decided_begins sound (order_of nodes sent) (order_of nodes later) (all_decided_stays nodes sent later (order_of nodes sent) all (order_is nodes sent).decided) (order_is nodes later)

module _ {S : Type 0} (s : Setting S) where
  -- a longer list leads to the answers of the shorter, and to more
  pub answers_grow : (xs ys : List Action) → IsPrefix xs ys → (answer : Answer) → Has answer (answers_of s xs) → Has answer (answers_of s ys)
  answers_grow xs ys begins answer h =
      let on = goes_on_from s.next s.answers (replay_of s.next s.answers s.begin xs) begins.0 in
      let whole : answers_of s (xs ++ begins.0) ≡ answers_of s xs ++ on.more = ap (λ r. r.given) (replay_from-append s.next s.answers (unmoved s.begin) xs begins.0) ∙ on.given in
      let longer : answers_of s ys ≡ answers_of s xs ++ on.more = ap (answers_of s) begins.1 ∙ whole in
      subst (λ (given : List Answer). Has answer given) (sym longer) (has_left answer (answers_of s xs) on.more h)

  -- a beginning stays one
  pub ready_grows : (order longer : List Action) (t n : ℕ) → IsPrefix order longer → IsReady s order t n → IsReady s longer t n
  ready_grows order longer t n more ready = record {
    before = ready.before;
    begins = (ready.begins.0 ++ more.0, more.1 ∙ ap (λ (list : List Action). list ++ more.0) ready.begins.1 ∙ append_assoc ready.before ready.begins.0 more.0);
    absent = ready.absent;
    answered = ready.answered;
  }
