-- What a node replies in a turn is an answer that its applied list leads to.
use Rattle.std.proofs.Common.{◌≡◌, ℕ, Bool, Result, Ok, Err, Option, Some, None, List, [], ◌∷◌, ◌++◌, length, take, drop, map, inl, inr, refl, sym, subst, ◌∙◌}
use Rattle.std.specs.Prelude.{nat_eq, nat_lt, not, ◌&&◌, filter}
use Rattle.std.specs.List.{list_any}
use Rattle.std.specs.Option.{option_map}
use Rattle.std.proofs.lemmas.Bool.{cases_Bool, cond-true, cond-false, and_parts, eqb-true}
use Rattle.std.proofs.lemmas.List.{take-append-drop}
use Rattle.rp_base.specs.declared.action.Action.{Action}
use Rattle.rp_base.specs.declared.reply.Answer.{Answer}
use Rattle.rp_base.specs.declared.reply.Reply.{Reply}
use Rattle.rp_base.specs.declared.fault.Fault.{Fault}
use Rattle.rp_base.specs.declared.record.Rec.{Rec}
use Rattle.rp_base.specs.declared.record.Rec.TheVariants.{Learned}
use Rattle.rp_base.specs.Sets.{Has}
use Rattle.rp_base.specs.Records.{applied_of}
use Rattle.rp_base.proofs.Members.{has_split, has_right, has_passing, mapped_has}
use Rattle.rp_codec.specs.Message.{Message}
use Rattle.rp_codec.specs.declared.packet.Party.TheVariants.{Node}
use Rattle.rp_codec.specs.declared.packet.Body.{Body}
use Rattle.rp_codec.specs.declared.packet.Body.TheVariants as bodies
use Rattle.rp_machine.specs.Replay.{is_for, one_to}
use Rattle.rp_machine.specs.Asked.{last_number, answer_to, kept_reply}
use Rattle.rp_agreement.specs.Answered.{SaysAnswer, answers_of}
use Rattle.rp_agreement.proofs.Lists.{some_same, found_has}
use Rattle.rp_model.specs.Effect.{Setting, NodeInput, running_effect}
use Rattle.rp_model.specs.Learner.{missing_position, asks_for, missing_in_window, asks_for_each}
use Rattle.rp_model.specs.Node.{RunningNode, running_node, counted_by, given_by}
use Rattle.rp_model.specs.Parts.{Running, Turn, with_record}
use Rattle.rp_model.specs.Pending.{is_answered_by, replies_to}
use Rattle.rp_model.specs.Plans.{once_learned, report_of, turn_of}
use Rattle.rp_model.specs.Says.{says, says_to_others, says_to_task}
use Rattle.rp_model.specs.declared.plan.Plan.{Plan}
use Rattle.rp_model.specs.declared.plan.Plan.TheVariants as plans
use Rattle.rp_model.proofs.EveryPlan.{Saw, by_plan}
use Rattle.rp_base.specs.PlacedVotes.{last_votes}

-- each packet that replies has one of these answers
abbrev pub AreAnswers : List Answer → List Message → Type 0
AreAnswers given packets = (m : Message) → Has m packets → SaysAnswer given m.to m.body

one_answer : (given : List Answer) (m : Message) → SaysAnswer given m.to m.body → AreAnswers given (m ∷ [])
one_answer given m is k h = elim h [ inl same ↦ subst (λ (n : Message). SaysAnswer given n.to n.body) (sym same) is | inr none ↦ absurd none ]

both_answers : (given : List Answer) (ms ks : List Message) → AreAnswers given ms → AreAnswers given ks → AreAnswers given (ms ++ ks)
both_answers given ms ks left right m h = elim (has_split m ms ks h) [ inl before ↦ left m before | inr following ↦ right m following ]

mapped_answers : {A : Type 0} (given : List Answer) (f : A → Message) (xs : List A) → ((a : A) → Has a xs → SaysAnswer given (f a).to (f a).body) → AreAnswers given (map f xs)
mapped_answers given f xs each m h = let hit = mapped_has f m xs h in subst (λ (n : Message). SaysAnswer given n.to n.body) (sym hit.2) (each hit.0 hit.1)

-- ---- a reply that is kept

reply_by : (task number : ℕ) (given : List Answer) (answer : Option Answer) (reply : Reply) → answer_to task number given ≡ answer
    → option_map (λ (a : Answer). a.reply) answer ≡ Some reply → Has (record { task = task; number = number; reply = reply }) given
reply_by task number given None reply is e = absurd (cc)
reply_by task number given (Some answer) reply is e =
    let found = found_has (is_for task number) answer given is in
    let both = and_parts (nat_eq answer.task task) (nat_eq answer.number number) found.1 in
    let same_task : answer.task ≡ task = eqb-true answer.task task both.0 in
    let same_number : answer.number ≡ number = eqb-true answer.number number both.1 in
    let same_reply : answer.reply ≡ reply = some_same e in
    subst (λ (p : ℕ × ℕ × Reply). Has (record { task = p.0; number = p.1; reply = p.2 }) given) (λ i. (same_task i, same_number i, same_reply i)) found.0

pub kept_is_given : (task number : ℕ) (kept : List Action) (given : List Answer) (reply : Reply) → kept_reply task number kept given ≡ Some reply
    → Has (record { task = task; number = number; reply = reply }) given
kept_is_given task number kept given reply e =
    let test = nat_lt 0 number && nat_eq number (last_number task kept) in
    let answer = option_map (λ (a : Answer). a.reply) (answer_to task number given) in
    elim (cases_Bool test) [
      | inl hit ↦ reply_by task number given (answer_to task number given) reply refl (sym (cond-true test answer None hit) ∙ e)
      | inr miss ↦ let none : None ≡ Some reply = sym (cond-false test answer None miss) ∙ e in absurd (cc)
    ]

pub has_dropped : {A : Type 0} (n : ℕ) (x : A) (xs : List A) → Has x (drop n xs) → Has x xs
has_dropped {A} n x xs h = subst (λ (list : List A). Has x list) (take-append-drop n xs) (has_right x (take n xs) (drop n xs) h)

replies_are : (me : ℕ) (given all : List Answer) (pending : List Action) → ((answer : Answer) → Has answer given → Has answer all) → AreAnswers all (replies_to me pending given)
replies_are me given all pending inside =
    let test : Answer → Bool = λ answer. list_any (is_answered_by answer) pending in
    mapped_answers all (λ (answer : Answer). says_to_task me (bodies.Reply answer.number answer.reply) answer.task) (filter test given)
    (λ answer h. inside answer (has_passing test answer given h).0)

module _ {S : Type 0} (s : Setting S) where
  -- what the turn replies is an answer of what is applied after it
  abbrev pub TurnAnswers : List Rec → Turn → Type 0
  TurnAnswers records turn = AreAnswers (answers_of s (applied_of (with_record records turn.written))) turn.sent

  -- the same, if it is not refused
  abbrev pub TurnAnswersIf : List Rec → Result Turn Fault → Type 0
  TurnAnswersIf records (Ok turn) = TurnAnswers records turn
  TurnAnswersIf records (Err fault) = Unit {0}

  says_all : (given : List Answer) (me : ℕ) (body : Body) (to : List ℕ) → ((k : ℕ) → SaysAnswer given (Node k) body) → AreAnswers given (map (says me body) to)
  says_all given me body to plain = mapped_answers given (says me body) to (λ k h. plain k)

  none_answered : (given : List Answer) → AreAnswers given []
  none_answered given m h = absurd h

  asks_answers : (given : List Answer) (me from : ℕ) (missing : Option ℕ) → AreAnswers given (asks_for me from missing)
  asks_answers given me from None = none_answered given
  asks_answers given me from (Some i) = one_answer given (says me (bodies.Ask i) from) tt

  module _ (me : ℕ) (records : List Rec) (running : Running) (input : NodeInput) where
    abbrev here : RunningNode S
    here = running_node s me records running

    learned_answers : (i : ℕ) (v : Action) (packets following : List Message) → ((given : List Answer) → AreAnswers given packets) → ((given : List Answer) → AreAnswers given following)
        → TurnAnswers records (once_learned here i v packets following)
    learned_answers i v packets following first last =
        let given = answers_of s (applied_of (records ++ Learned i v ∷ [])) in
        let before = length (answers_of s (applied_of records)) in
        let replies = replies_to me running.pending (drop before given) in
        both_answers given (packets ++ replies) following
        (both_answers given packets replies (first given) (replies_are me (drop before given) given running.pending (λ answer h. has_dropped before answer given h)))
        (last given)

    plan_answers : (plan : Plan) → Saw here input plan → TurnAnswers records (turn_of here plan)
    plan_answers (plans.Promise header last) saw = one_answer _ (says me (bodies.Promise header.position header.ballot last) header.to) tt
    plan_answers (plans.PromiseRange p) saw = one_answer _ (says me (bodies.PromiseRange p.range p.ballot (last_votes records p.range)) p.to) tt
    plan_answers (plans.Vote header v) saw = one_answer _ (says me (bodies.Accepted header.position header.ballot v) header.to) tt
    plan_answers (plans.Repeat to i b v) saw = one_answer _ (says me (bodies.Accepted i b v) to) tt
    plan_answers (plans.Refuse to i b bound) saw = one_answer _ (says me (bodies.Nack i b bound) to) tt
    plan_answers (plans.Inform to i v) saw = one_answer _ (says me (bodies.Decided i v) to) tt
    plan_answers (plans.Answer task number reply) saw =
        one_answer _ (says_to_task me (bodies.Reply number reply) task) (kept_is_given task number (counted_by here) (given_by here) reply saw.kept)
    plan_answers (plans.Lead i b own) saw = says_all _ me (bodies.Prepare i b) (one_to s.config.nodes) (λ k. tt)
    plan_answers (plans.LeadRange range b) saw = says_all _ me (bodies.PrepareRange range b) (one_to s.config.nodes) (λ k. tt)
    plan_answers (plans.OfferPrepared i b v) saw = says_all _ me (bodies.Accept i b v) (one_to s.config.nodes) (λ k. tt)
    plan_answers (plans.Offer promise v) saw = says_all _ me (bodies.Accept promise.position promise.ballot v) (one_to s.config.nodes) (λ k. tt)
    plan_answers (plans.Learn i v) saw =
        learned_answers i v (says_to_others s.config.nodes me (bodies.Decided i v)) []
        (λ given. says_all given me (bodies.Decided i v) (filter (λ k. not (nat_eq k me)) (one_to s.config.nodes)) (λ k. tt)) none_answered
    plan_answers (plans.Follow from i v) saw =
        learned_answers i v [] (asks_for me from (missing_position (records ++ Learned i v ∷ []))) none_answered
        (λ given. asks_answers given me from (missing_position (records ++ Learned i v ∷ [])))
    plan_answers (plans.Report first) saw = one_answer _ (report_of me first (applied_of records)) tt
    plan_answers (plans.AskMissing to) saw =
        mapped_answers _ (λ i. says me (bodies.Ask i) to) (missing_in_window s.config.max_positions records) (λ i h. tt)
    plan_answers _ saw = none_answered _

  pub input_answers : (me : ℕ) (records : List Rec) (running : Running) (input : NodeInput) → TurnAnswersIf records (running_effect s me records running input)
  input_answers me records running input =
      by_plan (running_node s me records running) input (TurnAnswersIf records) (λ fault. tt) (plan_answers me records running input)
