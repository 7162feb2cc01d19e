-- The world of a cluster satisfies the invariant after each step, and what follows.
use Rattle.std.proofs.Common.{◌≡◌, ◌≤◌, ◌<◌, ℕ, zero, suc, Bool, true, false, arith, Option, Some, None, Result, Ok, Err, List, [], ◌∷◌, ◌++◌, length, inl, inr, refl, sym, ap, subst, ◌∙◌}
use Rattle.std.specs.Prelude.{slice_get, unwrap_or, nat_lt}
use Rattle.std.proofs.lemmas.Bool.{ltb-true}
use Rattle.rp_base.specs.Records.{applied_of}
use Rattle.rp_base.specs.Sets.{Has}
use Rattle.rp_base.specs.declared.action.Action.{Action}
use Rattle.rp_base.specs.declared.fault.Fault.{Fault}
use Rattle.rp_base.specs.declared.reply.Answer.{Answer}
use Rattle.rp_codec.specs.Message.{Message}
use Rattle.rp_model.specs.rp_machine.specs.Calls.{CallName}
use Rattle.rp_model.specs.rp_machine.specs.Places.{IsPlace, HasReply}
use Rattle.rp_model.specs.rp_machine.specs.Replay.{replay_of, counted_of}
use Rattle.rp_model.specs.Answers.{untorn, IsLeft, FailsBy, Steps}
use Rattle.rp_model.specs.declared.effect.Effect.{Effect}
use Rattle.rp_model.specs.Effect.{Setting}
use Rattle.rp_model.specs.Events.{Event, Submit, Again, Makes, Cut, Stop, Restart}
use Rattle.rp_base.specs.declared.record.Vote.{Vote}
use Rattle.rp_agreement.proofs.Offering.{promise_kept}
use Rattle.rp_model.specs.Facts.{HasPromised, IsOrder}
use Rattle.rp_model.specs.Growing.{Grows}
use Rattle.rp_model.specs.Parts.{NodePart, TaskPart, fresh_node, fresh_task}
use Rattle.rp_model.specs.World.{World, Transition, part_at, event_effect}
use Rattle.rp_agreement.specs.Sound.{IsMember, IsSound}
use Rattle.rp_agreement.specs.Order.{AllSent, IsPrefix, AreAlike}
use Rattle.rp_agreement.specs.Computed.{order_of}
use Rattle.rp_agreement.specs.Answered.{named, calls_so_far, task_in, AreItsCalls, IsKept, IsKeptWorld}
use Rattle.rp_agreement.specs.Worlds.{node_in}
use Rattle.rp_world.specs.Agreeing.{EachTwo, AreLevel, Agree, TakesEffectOnce, IsOrdered}

-- what was sent stays
module _ {S : Type 0} (s : Setting S) (grows : (before : World) (event : Event) (transition : Transition) → event_effect s before event ≡ Ok transition → Grows before transition) where
  has_left : (m : Message) (xs ys : List Message) → Has m xs → Has m (xs ++ ys)
  has_left m [] ys h = absurd h
  has_left m (x ∷ xs) ys h = elim h [ inl same ↦ inl same | inr rest ↦ inr (has_left m xs ys rest) ]

  event_sent : (w new : World) (event : Event) (transition : Transition) → event_effect s w event ≡ Ok transition → new ≡ transition.world → AllSent w.sent new.sent
  event_sent w new event transition resulted is m h =
      subst (λ (sent : List Message). Has m sent) (sym (ap (λ (x : World). x.sent) is ∙ (grows w event transition resulted).sent)) (has_left m w.sent transition.sends h)

  same_sent : (w new : World) → new ≡ w → AllSent w.sent new.sent
  same_sent w new same m h = subst (λ (x : World). Has m x.sent) (sym same) h

  untorn_sent : (kept : ℕ) (w : World) (me : ℕ) (part : Option NodePart) → (untorn kept w me part).sent ≡ w.sent
  untorn_sent kept w me None = refl
  untorn_sent kept w me (Some part) = refl

  torn_sent : (w new : World) (me : ℕ) → IsLeft w (Restart me) new → AllSent w.sent new.sent
  torn_sent w new me left m h =
      subst (λ (sent : List Message). Has m sent) (sym (ap (λ (x : World). x.sent) left.1 ∙ untorn_sent left.0 w me (part_at w.nodes me))) h

  left_sent : (w new : World) (event : Event) → IsLeft w event new → AllSent w.sent new.sent
  left_sent w new (Submit task node object operation arg) left = same_sent w new left
  left_sent w new (Again task node) left = same_sent w new left
  left_sent w new (Makes step) left = same_sent w new left
  left_sent w new (Cut step kept) left = same_sent w new left
  left_sent w new (Stop me) left = absurd left
  left_sent w new (Restart me) left = torn_sent w new me left

  fails_sent : (w new : World) (event : Event) → FailsBy s w event new → AllSent w.sent new.sent
  fails_sent w new (Submit task node object operation arg) fails = absurd fails
  fails_sent w new (Again task node) fails = absurd fails
  fails_sent w new (Makes step) fails = event_sent w new (Cut step fails.0) fails.1.transition fails.1.effect fails.1.world
  fails_sent w new (Cut step kept) fails = event_sent w new (Cut step fails.0) fails.1.transition fails.1.effect fails.1.world
  fails_sent w new (Stop me) fails = absurd fails
  fails_sent w new (Restart me) fails = torn_sent w new me fails

  pub sent_stays : (w new : World) (event : Event) (answer : Result Effect Fault) → Steps s w event new answer → AllSent w.sent new.sent
  sent_stays w new event (Ok effect) step = event_sent w new event step.transition step.resulted step.world
  sent_stays w new event (Err fault) step =
      elim step [
        | inl refused ↦ same_sent w new refused.unchanged
        | inr other ↦
            elim other [
              | inl memory ↦ left_sent w new event memory.1.left_so
              | inr device ↦ fails_sent w new event device.1
            ]
      ]

-- one state shows one image
pub agreed : {S : Type 0} (next : S → Action → S) (answers : S → Action → List Answer) (image : S → List ℕ) (begin : S) (now later : World)
    → EachTwo now later (λ one other. AreAlike (applied_of one.records) (applied_of other.records))
    → EachTwo now later (λ one other. AreLevel one other → replay_of next answers begin (applied_of one.records) ≡ replay_of next answers begin (applied_of other.records))
    → Agree next answers image begin now later
agreed next answers image begin now later alike states = record {
  applied = alike;
  states = states;
  images = λ x y one other p q level. ap (λ r. image r.state) (states x y one other p q level);
}

-- nodes of worlds that satisfy the invariant agree
module _ {S : Type 0} (next : S → Action → S) (answers : S → Action → List Answer) (image : S → List ℕ) (begin : S) (nodes : ℕ)
    (alike : (n : ℕ) (node after : ℕ → NodePart) (sent later : List Message) → IsSound n node sent → IsSound n after later → AllSent sent later
    → (x y : ℕ) → AreAlike (applied_of (node x).records) (applied_of (after y).records))
    (states : (n : ℕ) (node after : ℕ → NodePart) (sent later : List Message) → IsSound n node sent → IsSound n after later → AllSent sent later
    → (x y : ℕ) → length (applied_of (node x).records) ≡ length (applied_of (after y).records)
    → replay_of next answers begin (applied_of (node x).records) ≡ replay_of next answers begin (applied_of (after y).records)) where
  here : (w : World) (x : ℕ) (part : NodePart) → part_at w.nodes x ≡ Some part → node_in w.nodes x ≡ part
  here w x part is = ap (λ (o : Option NodePart). unwrap_or o fresh_node) is

  pub agree : (now later : World) → IsSound nodes (node_in now.nodes) now.sent → IsSound nodes (node_in later.nodes) later.sent → AllSent now.sent later.sent → Agree next answers image begin now later
  agree now later sound after sent =
      agreed next answers image begin now later
      (λ x y one other p q.
      subst (λ (b : NodePart). AreAlike (applied_of one.records) (applied_of b.records)) (here later y other q)
      (subst (λ (a : NodePart). AreAlike (applied_of a.records) (applied_of (node_in later.nodes y).records)) (here now x one p)
      (alike nodes (node_in now.nodes) (node_in later.nodes) now.sent later.sent sound after sent x y)))
      (λ x y one other p q.
      let P : NodePart → NodePart → Type 0 = λ a b. AreLevel a b → replay_of next answers begin (applied_of a.records) ≡ replay_of next answers begin (applied_of b.records) in
      subst (λ (b : NodePart). P one b) (here later y other q)
      (subst (λ (a : NodePart). P a (node_in later.nodes y)) (here now x one p)
      (states nodes (node_in now.nodes) (node_in later.nodes) now.sent later.sent sound after sent x y)))

-- what is at a place of a list
get_short : {A : Type 0} (xs : List A) (k : ℕ) → k < length xs → (x : A) × (slice_get xs k ≡ Some x)
get_short {A = A} [] k short = absurd (omega (arith, short))
get_short {A = A} (x ∷ xs) zero short = (x, refl)
get_short {A = A} (x ∷ xs) (suc k) short = get_short xs k (omega (arith, short))

-- the part of a node of the world
pub part_is_there : (w : World) (nodes x : ℕ) → length w.nodes ≡ nodes → IsMember nodes x → part_at w.nodes x ≡ Some (node_in w.nodes x)
part_is_there w nodes zero size is = absurd (omega (arith, is.0))
part_is_there w nodes (suc i) size is =
    let here = get_short w.nodes i (omega (arith, is.1, size)) in
    here.1 ∙ ap Some (sym (ap (λ (o : Option NodePart). unwrap_or o fresh_node) here.1))

-- who promised is a node of the world
pub promiser_there : (nodes : ℕ) (node : ℕ → NodePart) (sent : List Message) → IsSound nodes node sent → (x i b : ℕ) (last : Option Vote) → HasPromised sent x i b last → IsMember nodes x
promiser_there nodes node sent sound x i b last stated = (promise_kept nodes node sent sound x i b last stated).0

-- and there is one order, by which each reply is an answer
module _ {S : Type 0} (s : Setting S)
    (exists : (n : ℕ) (sent : List Message) → IsOrder n sent (order_of n sent))
    (begins : (n : ℕ) (node : ℕ → NodePart) (sent : List Message) → IsSound n node sent → (order : List Action) → IsOrder n sent order → (x : ℕ) → IsPrefix (applied_of (node x).records) order)
    (describes : (node : ℕ → NodePart) (task : ℕ → TaskPart) (sent : List Message) → IsKept s node task sent → (t k : ℕ) (answer : Answer) → slice_get (task t).replies k ≡ Some answer
    → HasReply s.next s.answers s.begin (order_of s.config.nodes sent) (named t (suc k)) answer)
    (counted : (node : ℕ → NodePart) (task : ℕ → TaskPart) (sent : List Message) → IsKept s node task sent → (t : ℕ) → AreItsCalls sent t (task t) (counted_of s.next s.answers s.begin (order_of s.config.nodes sent)))
    (only : (node : ℕ → NodePart) (task : ℕ → TaskPart) (sent : List Message) → IsKept s node task sent → (t n place : ℕ) → IsPlace s.next s.answers s.begin (order_of s.config.nodes sent) (named t n) place
    → (1 ≤ n) × (n ≤ calls_so_far (task t)))
    (once : (actions : List Action) (call : CallName) (one other : ℕ) → IsPlace s.next s.answers s.begin actions call one → IsPlace s.next s.answers s.begin actions call other → one ≡ other) where
  seated : (w : World) (t : ℕ) (part : TaskPart) → part_at w.tasks t ≡ Some part → task_in w.tasks t ≡ part
  seated w t part p = ap (λ (o : Option TaskPart). unwrap_or o fresh_task) p

  -- a call takes effect at one place if it has its reply, at one at most else
  placed : (order : List Action) (t k : ℕ) (part : TaskPart)
      → ((answer : Answer) → slice_get part.replies k ≡ Some answer → HasReply s.next s.answers s.begin order (named t (suc k)) answer)
      → (b : Bool) → nat_lt k (length part.replies) ≡ b → TakesEffectOnce s.next s.answers s.begin order (named t (suc k)) b
  placed order t k part replied true is =
      let got = get_short part.replies k (ltb-true k (length part.replies) is) in
      let has = replied got.0 got.1 in
      (has.place, has.takes_effect)
  placed order t k part replied false is = once order (named t (suc k))

  -- who made a call is a task of the world
  made_there : (w : World) (t n : ℕ) (at : Option TaskPart) → part_at w.tasks t ≡ at → (1 ≤ n) × (n ≤ calls_so_far (unwrap_or at fresh_task))
      → (part : TaskPart) × (part_at w.tasks t ≡ Some part) × (1 ≤ n) × (n ≤ calls_so_far part)
  made_there w t n None is number = absurd (omega (arith, number.0, number.1))
  made_there w t n (Some part) is number = (part, is, number.0, number.1)

  pub ordered : (w : World) → IsKeptWorld s w → IsOrdered s.next s.answers s.begin s.config.nodes w
  ordered w kept =
      let nodes = s.config.nodes in
      let order = order_of nodes w.sent in
      let replied : (t k : ℕ) (part : TaskPart) (answer : Answer) → part_at w.tasks t ≡ Some part → slice_get part.replies k ≡ Some answer → HasReply s.next s.answers s.begin order (named t (suc k)) answer =
      λ t k part answer p is. describes (node_in w.nodes) (task_in w.tasks) w.sent kept.kept t k answer (ap (λ (a : TaskPart). slice_get a.replies k) (seated w t part p) ∙ is) in
      record {
        order = order;
        decided = exists nodes w.sent;
        applied = λ x part p.
            subst (λ (a : NodePart). IsPrefix (applied_of a.records) order) (ap (λ (o : Option NodePart). unwrap_or o fresh_node) p)
            (begins nodes (node_in w.nodes) w.sent kept.kept.sound order (exists nodes w.sent) x);
        calls = λ t part p.
            subst (λ (a : TaskPart). AreItsCalls w.sent t a (counted_of s.next s.answers s.begin order)) (seated w t part p)
            (counted (node_in w.nodes) (task_in w.tasks) w.sent kept.kept t);
        replies = replied;
        once = λ t k part p. placed order t k part (λ answer. replied t k part answer p) (nat_lt k (length part.replies)) refl;
        made = λ t n place at. made_there w t n (part_at w.tasks t) refl (only (node_in w.nodes) (task_in w.tasks) w.sent kept.kept t n place at);
      }
