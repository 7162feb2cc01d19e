-- A reply to each task whose call waits at a node and is answered by what the node applies.
use Rattle.std.proofs.Common.{◌≡◌, ℕ, ℤ, Bool, true, Option, Some, None, Ok, List, [], ◌∷◌, ◌++◌, length, filter, drop, inl, inr, refl, sym, ap, subst, ◌∙◌, eq-eqb}
use Rattle.std.specs.List.{list_any}
use Rattle.std.proofs.lemmas.Bool.{and_from, or_left, or_right}
use Rattle.rp_base.specs.Records.{applied_of}
use Rattle.rp_base.specs.Sets.{Has}
use Rattle.rp_base.proofs.Members.{has_left, has_right, has_mapped, passes}
use Rattle.rp_base.specs.declared.action.Action.{Action}
use Rattle.rp_base.specs.declared.action.Action.TheVariants.{Call}
use Rattle.rp_base.specs.declared.action.Operation.{Operation}
use Rattle.rp_base.specs.declared.record.Rec.{Rec}
use Rattle.rp_base.specs.declared.record.Rec.TheVariants.{Learned}
use Rattle.rp_base.specs.declared.reply.Answer.{Answer}
use Rattle.rp_model.specs.rp_codec.specs.Message.{Message}
use Rattle.rp_model.specs.rp_codec.specs.declared.packet.Body.TheVariants as bodies
use Rattle.rp_model.specs.rp_machine.specs.Replay.{replay_answers}
use Rattle.rp_model.specs.Effect.{Setting, NodeInput, plan_of, running_effect}
use Rattle.rp_model.specs.Learner.{asks_for, missing_position}
use Rattle.rp_model.specs.Node.{RunningNode, running_node, nodes_of}
use Rattle.rp_model.specs.Parts.{Running, Turn}
use Rattle.rp_model.specs.Pending.{is_answered_by, replies_to}
use Rattle.rp_model.specs.Plans.{turn_of}
use Rattle.rp_model.specs.Says.{says_to_others, says_to_task}
use Rattle.rp_model.specs.declared.plan.Plan.{Plan}
use Rattle.rp_model.specs.declared.plan.Plan.TheVariants as plans
use Rattle.rp_possible.proofs.Asked.{of_plan}

any_has : {A : Type 0} (test : A → Bool) (x : A) (xs : List A) → Has x xs → test x ≡ true → list_any test xs ≡ true
any_has test x [] has is = absurd has
any_has test x (y ∷ ys) has is =
    elim has [
      | inl same ↦ or_left (test y) (list_any test ys) (ap test (sym same) ∙ is)
      | inr later ↦ or_right (test y) (list_any test ys) (any_has test x ys later is)
    ]

some_same : {x y : Rec} → (let one : Option Rec = Some x in one) ≡ Some y → x ≡ y
some_same e = cc

module _ {S : Type 0} (node : RunningNode S) (answer : Answer) (object : ℕ) (operation : Operation) (arg : ℤ)
    (waits : Has (Call answer.task answer.number object operation arg) node.running.pending) where
  -- the answers to what is applied
  abbrev given : List Rec → List Answer
  given records = replay_answers node.setting.next node.setting.answers node.setting.begin (applied_of records)

  -- the answers that one record more leads to
  abbrev Newly : Rec → Type 0
  Newly rec = Has answer (drop (length (given node.records)) (given (node.records ++ rec ∷ [])))

  abbrev reply : Message
  reply = says_to_task node.me (bodies.Reply answer.number answer.reply) answer.task

  -- a turn that learns an action by which the call is answered sends the reply
  abbrev Replies : Turn → Type 0
  Replies turn = (i : ℕ) (v : Action) → turn.written ≡ Some (Learned i v) → Newly (Learned i v) → Has reply turn.sent

  replied : (rec : Rec) → Newly rec → Has reply (replies_to node.me node.running.pending (drop (length (given node.records)) (given (node.records ++ rec ∷ []))))
  replied rec new =
      let all = drop (length (given node.records)) (given (node.records ++ rec ∷ [])) in
      let test = λ (a : Answer). list_any (is_answered_by a) node.running.pending in
      let passed = any_has (is_answered_by answer) (Call answer.task answer.number object operation arg) node.running.pending waits
      (and_from _ _ (eq-eqb answer.task answer.task refl) (eq-eqb answer.number answer.number refl)) in
      has_mapped (λ (a : Answer). says_to_task node.me (bodies.Reply a.number a.reply) a.task) answer (filter test all) (passes test answer all new passed)

  learned : (i : ℕ) (v : Action) (packets following : List Message) (turn : Turn) → turn.written ≡ Some (Learned i v)
      → turn.sent ≡ packets ++ replies_to node.me node.running.pending (drop (length (given node.records)) (given (node.records ++ Learned i v ∷ []))) ++ following → Replies turn
  learned i v packets following turn written sent j w wrote new =
      let same : Learned i v ≡ Learned j w = some_same (sym written ∙ wrote) in
      let here = replied (Learned i v) (subst Newly (sym same) new) in
      let all = replies_to node.me node.running.pending (drop (length (given node.records)) (given (node.records ++ Learned i v ∷ []))) in
      subst (Has reply) (sym sent) (has_left reply (packets ++ all) following (has_right reply packets all here))

  no_record : (turn : Turn) → turn.written ≡ None → Replies turn
  no_record turn none j w wrote new = absurd (cc)

  plan_replies : (plan : Plan) → Replies (turn_of node plan)
  plan_replies (plans.Pass dropped) = no_record (turn_of node (plans.Pass dropped)) refl
  plan_replies (plans.Promise header last) = λ j w wrote new. absurd (cc)
  plan_replies (plans.PromiseRange p) = λ j w wrote new. absurd (cc)
  plan_replies (plans.Vote header v) = λ j w wrote new. absurd (cc)
  plan_replies (plans.Repeat to i b v) = no_record (turn_of node (plans.Repeat to i b v)) refl
  plan_replies (plans.Refuse to i b bound) = no_record (turn_of node (plans.Refuse to i b bound)) refl
  plan_replies (plans.Inform to i v) = no_record (turn_of node (plans.Inform to i v)) refl
  plan_replies (plans.Answer task number returned) = no_record (turn_of node (plans.Answer task number returned)) refl
  plan_replies (plans.Await item) = no_record (turn_of node (plans.Await item)) refl
  plan_replies (plans.Lead i b own) = λ j w wrote new. absurd (cc)
  plan_replies (plans.LeadRange range b) = λ j w wrote new. absurd (cc)
  plan_replies (plans.OfferPrepared i b v) = no_record (turn_of node (plans.OfferPrepared i b v)) refl
  plan_replies (plans.CountPromise promise) = no_record (turn_of node (plans.CountPromise promise)) refl
  plan_replies (plans.CountRangePromise p) = no_record (turn_of node (plans.CountRangePromise p)) refl
  plan_replies (plans.Offer promise v) = no_record (turn_of node (plans.Offer promise v)) refl
  plan_replies (plans.Yield i b bound) = no_record (turn_of node (plans.Yield i b bound)) refl
  plan_replies (plans.CountVote from i vote) = no_record (turn_of node (plans.CountVote from i vote)) refl
  plan_replies (plans.Learn i v) = learned i v (says_to_others (nodes_of node) node.me (bodies.Decided i v)) [] (turn_of node (plans.Learn i v)) refl refl
  plan_replies (plans.Follow from i v) = learned i v [] (asks_for node.me from (missing_position (node.records ++ Learned i v ∷ []))) (turn_of node (plans.Follow from i v)) refl refl
  plan_replies (plans.Report first) = no_record (turn_of node (plans.Report first)) refl
  plan_replies (plans.AskMissing to) = no_record (turn_of node (plans.AskMissing to)) refl

pub answered : {S : Type 0} (s : Setting S) (me i object : ℕ) (operation : Operation) (arg : ℤ) (records : List Rec) (running : Running) (input : NodeInput) (turn : Turn) (v : Action) (answer : Answer)
    → running_effect s me records running input ≡ Ok turn → turn.written ≡ Some (Learned i v)
    → Has answer (drop (length (replay_answers s.next s.answers s.begin (applied_of records))) (replay_answers s.next s.answers s.begin (applied_of (records ++ Learned i v ∷ []))))
    → Has (Call answer.task answer.number object operation arg) running.pending
    → Has (says_to_task me (bodies.Reply answer.number answer.reply) answer.task) turn.sent
answered s me i object operation arg records running input turn v answer result wrote new waits =
    let node = running_node s me records running in
    let plan = of_plan node (plan_of node input) turn result in
    subst (Replies node answer object operation arg waits) plan.2 (plan_replies node answer object operation arg waits plan.0) i v wrote new
