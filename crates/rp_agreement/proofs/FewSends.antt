-- A node's turn sends at most one packet to each node, 64 questions, and the answers that its applied list
use Rattle.std.proofs.Common.{◌≡◌, ℕ, zero, suc, ◌+◌, ◌≤◌, Bool, true, false, if◌then◌else◌, Result, Ok, Err, Option, Some, None, List, [], ◌∷◌, ◌++◌, ◌-◌, length, drop, refl, arith}
use Rattle.std.specs.Prelude.{nat_eq, not, filter, is_none}
use Rattle.std.specs.List.{list_any}
use Rattle.std.proofs.lemmas.List.{length-append, length-map, length-drop}
use Rattle.std.proofs.lemmas.List.FromFn.{length-range_with_len}
use Rattle.rp_base.specs.declared.action.Action.{Action}
use Rattle.rp_base.specs.declared.reply.Answer.{Answer}
use Rattle.rp_base.specs.declared.fault.Fault.{Fault}
use Rattle.rp_base.specs.declared.record.Rec.{Rec}
use Rattle.rp_base.specs.declared.record.Rec.TheVariants.{Learned}
use Rattle.rp_base.specs.Ranges.{positions_of}
use Rattle.rp_base.specs.Records.{applied_of, learned_at}
use Rattle.rp_codec.specs.Message.{Message}
use Rattle.rp_codec.specs.declared.packet.Body.{Body}
use Rattle.rp_codec.specs.declared.packet.Body.TheVariants as bodies
use Rattle.rp_machine.specs.Replay.{one_to, replay_answers}
use Rattle.rp_model.specs.Effect.{Setting, NodeInput, running_effect}
use Rattle.rp_model.specs.Learner.{missing_position, asks_for, window_of, missing_in_window, asks_for_each}
use Rattle.rp_model.specs.Node.{RunningNode, running_node}
use Rattle.rp_model.specs.Parts.{Running, Turn, with_record}
use Rattle.rp_model.specs.Pending.{is_answered_by, replies_to}
use Rattle.rp_model.specs.Plans.{once_learned, turn_of}
use Rattle.rp_model.specs.Says.{says, says_to_all, says_to_others, says_to_task}
use Rattle.rp_model.specs.declared.plan.Plan.{Plan}
use Rattle.rp_model.specs.declared.plan.Plan.TheVariants as plans
use Rattle.rp_model.proofs.EveryPlan.{by_plan}

-- leads to.

-- ---- lengths

one_fewer : {A : Type 0} (x : A) (xs : List A) (more : ℕ) (test : Bool) → length xs ≤ more → (let left : List A = if test then x ∷ xs else xs in length left ≤ suc more)
one_fewer x xs more true few = omega (arith, few)
one_fewer x xs more false few = omega (arith, few)

passing_few : {A : Type 0} (test : A → Bool) (xs : List A) → length (filter test xs) ≤ length xs
passing_few test [] = omega arith
passing_few test (x ∷ xs) = one_fewer x (filter test xs) (length xs) (test x) (passing_few test xs)

as_many : (n : ℕ) → length (one_to n) ≡ n
as_many zero = refl
as_many (suc n) =
    let more : length (one_to n ++ suc n ∷ []) ≡ length (one_to n) + 1 = length-append (one_to n) (suc n ∷ []) in
    let before : length (one_to n) ≡ n = as_many n in
    omega (arith, more, before)

all_few : (nodes me : ℕ) (body : Body) → length (says_to_all nodes me body) ≤ nodes
all_few nodes me body =
    let mapped : length (says_to_all nodes me body) ≡ length (one_to nodes) = length-map (one_to nodes) (says me body) in
    let size : length (one_to nodes) ≡ nodes = as_many nodes in
    omega (arith, mapped, size)

others_few : (nodes me : ℕ) (body : Body) → length (says_to_others nodes me body) ≤ nodes
others_few nodes me body =
    let others = filter (λ k. not (nat_eq k me)) (one_to nodes) in
    let mapped : length (says_to_others nodes me body) ≡ length others = length-map others (says me body) in
    let fewer : length others ≤ length (one_to nodes) = passing_few (λ k. not (nat_eq k me)) (one_to nodes) in
    let size : length (one_to nodes) ≡ nodes = as_many nodes in
    omega (arith, mapped, fewer, size)

replies_few : (me : ℕ) (pending : List Action) (before : ℕ) (given : List Answer) → length (replies_to me pending (drop before given)) ≤ length given
replies_few me pending before given =
    let asked = filter (λ (answer : Answer). list_any (is_answered_by answer) pending) (drop before given) in
    let mapped : length (replies_to me pending (drop before given)) ≡ length asked = length-map asked (λ answer. says_to_task me (bodies.Reply answer.number answer.reply) answer.task) in
    let fewer : length asked ≤ length (drop before given) = passing_few (λ (answer : Answer). list_any (is_answered_by answer) pending) (drop before given) in
    let left : length (drop before given) ≡ length given - before = length-drop before given in
    omega (arith, mapped, fewer, left)

asking_few : (me from : ℕ) (missing : Option ℕ) → length (asks_for me from missing) ≤ 1
asking_few me from None = omega arith
asking_few me from (Some i) = omega arith

missing_few : (me to most : ℕ) (records : List Rec) → length (asks_for_each me to (missing_in_window most records)) ≤ 64
missing_few me to most records =
    let range = window_of most records in
    let mapped : length (asks_for_each me to (missing_in_window most records)) ≡ length (missing_in_window most records) = length-map (missing_in_window most records) (λ i. says me (bodies.Ask i) to) in
    let fewer : length (missing_in_window most records) ≤ length (positions_of range) = passing_few (λ i. is_none (learned_at records i)) (positions_of range) in
    let size : length (positions_of range) ≡ range.count = length-range_with_len range.first range.count in
    omega (arith, mapped, fewer, size)

-- what the turn sends
abbrev pub IsFew : {S : Type 0} → Setting S → List Rec → Turn → Type 0
IsFew s records turn = length turn.sent ≤ s.config.nodes + 64 + length (replay_answers s.next s.answers s.begin (applied_of (with_record records turn.written)))

-- the same, if it is not refused
abbrev pub IsFewIf : {S : Type 0} → Setting S → List Rec → Result Turn Fault → Type 0
IsFewIf s records (Ok turn) = IsFew s records turn
IsFewIf s records (Err fault) = Unit {0}

module _ {S : Type 0} (s : Setting S) (me : ℕ) (records : List Rec) (running : Running) where
  abbrev here : RunningNode S
  here = running_node s me records running

  few_learned : (i : ℕ) (v : Action) (packets following : List Message) → length packets + length following ≤ s.config.nodes + 1
      → IsFew s records (once_learned here i v packets following)
  few_learned i v packets following few =
      let before = length (replay_answers s.next s.answers s.begin (applied_of records)) in
      let given = replay_answers s.next s.answers s.begin (applied_of (records ++ Learned i v ∷ [])) in
      let replies = replies_to me running.pending (drop before given) in
      let all : length (packets ++ replies ++ following) ≡ length (packets ++ replies) + length following = length-append (packets ++ replies) following in
      let last : length (packets ++ replies) ≡ length packets + length replies = length-append packets replies in
      let most : length replies ≤ length given = replies_few me running.pending before given in
      omega (arith, few, all, last, most)

  few_to_all : (body : Body) → length (says_to_all s.config.nodes me body) ≤ s.config.nodes
  few_to_all body = all_few s.config.nodes me body

  plan_few : (plan : Plan) → IsFew s records (turn_of here plan)
  plan_few (plans.Lead i b own) = omega (arith, few_to_all (bodies.Prepare i b))
  plan_few (plans.LeadRange range b) = omega (arith, few_to_all (bodies.PrepareRange range b))
  plan_few (plans.OfferPrepared i b v) = omega (arith, few_to_all (bodies.Accept i b v))
  plan_few (plans.Offer promise v) = omega (arith, few_to_all (bodies.Accept promise.position promise.ballot v))
  plan_few (plans.Learn i v) =
      let stated : length (says_to_others s.config.nodes me (bodies.Decided i v)) ≤ s.config.nodes = others_few s.config.nodes me (bodies.Decided i v) in
      few_learned i v (says_to_others s.config.nodes me (bodies.Decided i v)) [] (omega (arith, stated))
  plan_few (plans.Follow from i v) =
      let asked : length (asks_for me from (missing_position (records ++ Learned i v ∷ []))) ≤ 1 = asking_few me from (missing_position (records ++ Learned i v ∷ [])) in
      few_learned i v [] (asks_for me from (missing_position (records ++ Learned i v ∷ []))) (omega (arith, asked))
  plan_few (plans.AskMissing to) = omega (arith, missing_few me to s.config.max_positions records)
  plan_few _ = omega arith

pub turn_few : {S : Type 0} (s : Setting S) (me : ℕ) (records : List Rec) (running : Running) (input : NodeInput) → IsFewIf s records (running_effect s me records running input)
turn_few s me records running input =
    by_plan (running_node s me records running) input (IsFewIf s records) (λ fault. tt) (λ plan saw. plan_few s me records running plan)
