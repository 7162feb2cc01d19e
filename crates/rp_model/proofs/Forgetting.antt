-- Votes heard at learned positions change no turn.
use Rattle.std.proofs.Common.{◌≡◌, ℕ, Bool, true, false, not, ◌&&◌, ◌||◌, nat_eq, Option, Some, None, Result, Ok, Err, List, [], ◌∷◌, ◌++◌, map, filter, if◌then◌else◌, refl, sym, ap, subst, ◌∙◌, eqb-true, eq-eqb}
use Rattle.std.specs.Prelude.{is_none}
use Rattle.std.specs.List.{list_any}
use Rattle.std.proofs.lemmas.List.Elements.{filter-append}
use Rattle.rp_base.specs.declared.action.Action.{Action}
use Rattle.rp_base.specs.declared.fault.Fault.{Fault}
use Rattle.rp_base.specs.declared.record.Rec.{Rec}
use Rattle.rp_base.specs.declared.record.Rec.TheVariants.{Started, Learned}
use Rattle.rp_base.specs.declared.record.Vote.{Vote}
use Rattle.rp_base.specs.Ballot.{greatest_with}
use Rattle.rp_base.specs.Majority.{is_majority}
use Rattle.rp_base.specs.Promises.{HeardVote, same_vote, same_heard, makes_majority}
use Rattle.rp_base.specs.Proposals.{Proposal, proposal_at, with_proposal, is_in, takes_promise, after_promise, is_prepared, as_offered, once_promised, is_given_up, with_range}
use Rattle.rp_base.specs.Records.{or_else, learned_in, learned_at, applied_of}
use Rattle.rp_base.specs.Sets.{with_member, with_members}
use Rattle.rp_codec.specs.Message.{Message}
use Rattle.rp_codec.specs.declared.packet.Body.{Body}
use Rattle.rp_codec.specs.declared.packet.Body.TheVariants as bodies
use Rattle.rp_model.specs.Parts.{Running, with_record}
use Rattle.rp_model.specs.declared.effect.Dropped.{Dropped}
use Rattle.rp_model.specs.declared.effect.Dropped.TheVariants.{No, Foreign}
use Rattle.rp_model.specs.declared.plan.CountedPromise.{CountedPromise}
use Rattle.rp_model.specs.declared.plan.Plan.{Plan}
use Rattle.rp_model.specs.declared.plan.Plan.TheVariants as plans
use Rattle.rp_model.specs.Says.{says_to_all, says_to_others, sends, notes}
use Rattle.rp_model.specs.Leader.{is_beyond, unlearned_in}
use Rattle.rp_model.specs.Learner.{missing_position, asks_for, on_vote}
use Rattle.rp_model.specs.Node.{RunningNode, running_node}
use Rattle.rp_model.specs.Plans.{written_by, promised_running, offered_running, started_running, report_of, once_learned, turn_of}
use Rattle.rp_model.specs.Receiving.{is_for_node, sender_number, on_body}
use Rattle.rp_model.specs.Effect as inputs
use Rattle.rp_model.specs.Effect.{Setting, NodeInput, plan_of, turn_if, running_effect}
use Rattle.rp_model.specs.Forgetting.{is_open, KnowsAlike, AreAlikeTurns, AreAlikeAnswers}
use Rattle.rp_model.proofs.EveryPlan.{Saw, SawIf, every_plan}

-- ---- lists of which some items are left out

-- what passes the narrower test is found among what passes the wider one
pub narrower : {A : Type 0} (wide narrow : A → Bool) → ((x : A) → narrow x ≡ true → wide x ≡ true) → (xs : List A) → filter narrow (filter wide xs) ≡ filter narrow xs
narrower wide narrow passes [] = refl
narrower {A} wide narrow passes (x ∷ xs) = by (wide x) (narrow x) refl refl (narrower wide narrow passes xs)
  where
    by : (w n : Bool) → wide x ≡ w → narrow x ≡ n → filter narrow (filter wide xs) ≡ filter narrow xs
        → filter narrow (if w then x ∷ filter wide xs else filter wide xs) ≡ (if n then x ∷ filter narrow xs else filter narrow xs)
    by true n e f later =
        let P : Bool → Type 0 = λ b. (if b then x ∷ filter narrow (filter wide xs) else filter narrow (filter wide xs)) ≡ (if n then x ∷ filter narrow xs else filter narrow xs) in
        subst P (sym f) (ap (λ (rest : List A). if n then x ∷ rest else rest) later)
    by false true e f later = absurd (let other = sym e ∙ passes x f in cc)
    by false false e f later = later

-- so lists alike by the wider test are alike by the narrower one
pub alike_narrower : {A : Type 0} (wide narrow : A → Bool) → ((x : A) → narrow x ≡ true → wide x ≡ true) → (xs ys : List A)
    → filter wide xs ≡ filter wide ys → filter narrow xs ≡ filter narrow ys
alike_narrower wide narrow passes xs ys same = sym (narrower wide narrow passes xs) ∙ ap (filter narrow) same ∙ narrower wide narrow passes ys

-- two tests in either order
swapped : {A : Type 0} (p q : A → Bool) (xs : List A) → filter p (filter q xs) ≡ filter q (filter p xs)
swapped p q [] = refl
swapped {A} p q (x ∷ xs) = by (p x) (q x) refl refl (swapped p q xs)
  where
    kept : (p q : A → Bool) → p x ≡ true → filter p (x ∷ filter q xs) ≡ x ∷ filter p (filter q xs)
    kept p q e = ap (λ (b : Bool). if b then x ∷ filter p (filter q xs) else filter p (filter q xs)) e

    left : (p q : A → Bool) → p x ≡ false → filter p (x ∷ filter q xs) ≡ filter p (filter q xs)
    left p q e = ap (λ (b : Bool). if b then x ∷ filter p (filter q xs) else filter p (filter q xs)) e

    by : (a b : Bool) → p x ≡ a → q x ≡ b → filter p (filter q xs) ≡ filter q (filter p xs)
        → filter p (if b then x ∷ filter q xs else filter q xs) ≡ filter q (if a then x ∷ filter p xs else filter p xs)
    by true true e f later = kept p q e ∙ ap (λ (rest : List A). x ∷ rest) later ∙ sym (kept q p f)
    by true false e f later = later ∙ sym (left q p f)
    by false true e f later = left p q e ∙ later
    by false false e f later = later

-- an item that passes is found, or not, whether others are left out
found : {A : Type 0} (p : A → Bool) (same : A → Bool) → ((x : A) → same x ≡ true → p x ≡ true) → (xs : List A) → list_any same (filter p xs) ≡ list_any same xs
found p same passes [] = refl
found {A} p same passes (x ∷ xs) = by (p x) (same x) refl refl (found p same passes xs)
  where
    by : (a b : Bool) → p x ≡ a → same x ≡ b → list_any same (filter p xs) ≡ list_any same xs
        → list_any same (if a then x ∷ filter p xs else filter p xs) ≡ (b || list_any same xs)
    by true b e f later = subst (λ (c : Bool). (c || list_any same (filter p xs)) ≡ (b || list_any same xs)) (sym f) (ap (λ (c : Bool). b || c) later)
    by false true e f later = absurd (let other = sym e ∙ passes x f in cc)
    by false false e f later = later

-- a member that passes is added alike
added : {A : Type 0} (p : A → Bool) (same : A → A → Bool) (x : A) → p x ≡ true → ((y : A) → same x y ≡ true → p y ≡ true) → (xs : List A)
    → filter p (with_member same xs x) ≡ with_member same (filter p xs) x
added {A} p same x own passes xs = by (list_any (same x) xs) (found p (same x) passes xs)
  where
    last : filter p (xs ++ x ∷ []) ≡ filter p xs ++ x ∷ []
    last = filter-append p xs (x ∷ []) ∙ ap (λ (b : Bool). filter p xs ++ (if b then x ∷ [] else [])) own

    by : (b : Bool) → list_any (same x) (filter p xs) ≡ b → filter p (if b then xs else xs ++ x ∷ []) ≡ with_member same (filter p xs) x
    by true e = sym (ap (λ (b : Bool). if b then filter p xs else filter p xs ++ x ∷ []) e)
    by false e = last ∙ sym (ap (λ (b : Bool). if b then filter p xs else filter p xs ++ x ∷ []) e)

both_true : (a b : Bool) → (a && b) ≡ true → (a ≡ true) × (b ≡ true)
both_true true b e = (refl, e)
both_true false b e = absurd (cc)

-- ---- turns

-- what is open once a record is written was open before
still_open : (records : List Rec) (rec : Rec) (h : HeardVote)
    → (learned_at (records ++ rec ∷ []) h.1 ≡ or_else (learned_at records h.1) (learned_in h.1 rec)) → is_open (records ++ rec ∷ []) h ≡ true → is_open records h ≡ true
still_open records rec h grown e = by (learned_at records h.1) refl
  where
    by : (o : Option Action) → learned_at records h.1 ≡ o → is_none o ≡ true
    by None is = refl
    by (Some v) is =
        let learned : learned_at (records ++ rec ∷ []) h.1 ≡ Some v = grown ∙ ap (λ (o : Option Action). or_else o (learned_in h.1 rec)) is in
        absurd (let open_too : is_none (Some v) ≡ true = sym (ap is_none learned) ∙ e in cc)

-- a node that heard other votes at learned positions
module _ (grown : (records : List Rec) (rec : Rec) (i : ℕ) → learned_at (records ++ rec ∷ []) i ≡ or_else (learned_at records i) (learned_in i rec))
    (records : List Rec) where
  narrows : (written : Option Rec) (h : HeardVote) → is_open (with_record records written) h ≡ true → is_open records h ≡ true
  narrows None h e = e
  narrows (Some rec) h e = still_open records rec h (grown records rec h.1) e

  -- votes that are alike stay so, whatever is written
  pub alike_later : (written : Option Rec) (heard known : List HeardVote) → filter (is_open records) heard ≡ filter (is_open records) known
      → filter (is_open (with_record records written)) heard ≡ filter (is_open (with_record records written)) known
  alike_later written heard known same = alike_narrower (is_open records) (is_open (with_record records written)) (narrows written) heard known same

  -- a node that knows this, and one that knows the same but for the votes that it heard
  module _ (one : Running) (heard : List HeardVote) (same : filter (is_open records) heard ≡ filter (is_open records) one.heard) where
    abbrev other : Running
    other = record one { heard = heard }

    -- a turn that leaves the votes alone
    quiet : (written : Option Rec) (packets : List Message) (dropped : Dropped) (after : Running) → after.heard ≡ one.heard
        → AreAlikeTurns records (record { written = written; sent = packets; running = after; dropped = dropped })
        (record { written = written; sent = packets; running = record after { heard = heard }; dropped = dropped })
    quiet written packets dropped after is = record {
      written = refl;
      sent = refl;
      dropped = refl;
      running = record {
        proposals = refl;
        heard = alike_later written heard one.heard same ∙ ap (filter (is_open (with_record records written))) (sym is);
        pending = refl;
        refused = refl;
      };
    }

    nothing : AreAlikeTurns records (notes one) (notes other)
    nothing = quiet None [] No one refl

    -- what a plan does, where it leaves the votes alone
    module _ {S : Type 0} (s : Setting S) (me : ℕ) where
      abbrev here : RunningNode S
      here = running_node s me records one

      abbrev there : RunningNode S
      there = running_node s me records other

      -- an action is learned: the votes heard there are let go
      learns_alike : (i : ℕ) (v : Action) (packets following : List Message) → AreAlikeTurns records (once_learned here i v packets following) (once_learned there i v packets following)
      learns_alike i v packets following =
          let wide = is_open (records ++ Learned i v ∷ []) in
          let elsewhere : HeardVote → Bool = λ h. not (nat_eq h.1 i) in
          let later = alike_later (Some (Learned i v)) heard one.heard same in
          record {
            written = refl;
            sent = refl;
            dropped = refl;
            running = record {
              proposals = refl;
              heard = swapped wide elsewhere heard ∙ ap (filter elsewhere) later ∙ sym (swapped wide elsewhere one.heard);
              pending = refl;
              refused = refl;
            };
          }

      -- a vote at an unlearned position
      module _ (from i : ℕ) (vote : Vote) (unlearned : is_open records (let h : HeardVote = (from, i, vote) in h) ≡ true) where
        abbrev this : HeardVote
        this = (from, i, vote)

        at_place : (h : HeardVote) → nat_eq h.1 i ≡ true → is_open records h ≡ true
        at_place h e = ap (λ (n : ℕ). is_none (learned_at records n)) (eqb-true h.1 i e) ∙ unlearned

        noted_alike : filter (is_open records) (with_member same_heard heard this) ≡ filter (is_open records) (with_member same_heard one.heard this)
        noted_alike =
            let passes : (h : HeardVote) → same_heard this h ≡ true → is_open records h ≡ true = λ h e.
            at_place h (eq-eqb h.1 i (sym (eqb-true i h.1 (both_true (nat_eq from h.0) (nat_eq i h.1) (both_true (nat_eq from h.0 && nat_eq i h.1) (same_vote vote h.2) e).0).1))) in
            added (is_open records) same_heard this unlearned passes heard
            ∙ ap (λ (list : List HeardVote). with_member same_heard list this) same
            ∙ sym (added (is_open records) same_heard this unlearned passes one.heard)

        majority_alike : makes_majority s.config.nodes i vote (with_member same_heard heard this) ≡ makes_majority s.config.nodes i vote (with_member same_heard one.heard this)
        majority_alike =
            let cast : HeardVote → Bool = λ h. nat_eq h.1 i && same_vote h.2 vote in
            ap (λ (list : List HeardVote). is_majority s.config.nodes (with_members nat_eq [] (map (λ h. h.0) list)))
            (alike_narrower (is_open records) cast (λ h e. at_place h (both_true (nat_eq h.1 i) (same_vote h.2 vote) e).0) (with_member same_heard heard this) (with_member same_heard one.heard this) noted_alike)

      -- ---- both decide the same

      vote_decided : (from i : ℕ) (vote : Vote) (learned : Option Action) → learned_at records i ≡ learned → on_vote there from i vote learned ≡ on_vote here from i vote learned
      vote_decided from i vote (Some v) is = refl
      vote_decided from i vote None is =
          ap (λ (t : Bool). if t then plans.Learn i vote.action else plans.CountVote from i vote) (majority_alike from i vote (ap is_none is))

      body_decided : (from : ℕ) (body : Body) → on_body there from body ≡ on_body here from body
      body_decided from (bodies.Accepted i b v) =
          ap (λ (plan : Plan). if is_beyond records i then plans.Pass No else plan) (vote_decided from i (record { ballot = b; action = v }) (learned_at records i) refl)
      body_decided from _ = refl

      plan_decided : (input : NodeInput) → plan_of there input ≡ plan_of here input
      plan_decided (inputs.Receive message) =
          ap (λ (plan : Plan). let r : Result Plan Fault = Ok (if is_for_node s.config me message then plan else plans.Pass Foreign) in r)
          (body_decided (sender_number message.from) message.body)
      plan_decided _ = refl

      -- ---- and a plan does the same

      promise_alike : (promise : CountedPromise) (packets : List Message) (found : Option Proposal)
          → (let known : Running → Running = λ running. promised_running s.config.nodes running promise.ballot (promise.from, promise.last) found in AreAlikeTurns records (sends (known one) packets) (sends (known other) packets))
      promise_alike promise packets None = quiet None packets No one refl
      promise_alike promise packets (Some p) =
          quiet None packets No (record one { proposals = with_proposal one.proposals (if takes_promise promise.ballot p then after_promise s.config.nodes p (promise.from, promise.last) else p) }) refl

      plan_alike : (input : NodeInput) (plan : Plan) → Saw here input plan → AreAlikeTurns records (turn_of here plan) (turn_of there plan)
      plan_alike input (plans.Pass dropped) saw = quiet None [] dropped one refl
      plan_alike input (plans.Promise header last) saw = quiet (written_by (plans.Promise header last)) _ No one refl
      plan_alike input (plans.PromiseRange p) saw = quiet (written_by (plans.PromiseRange p)) _ No one refl
      plan_alike input (plans.Vote header v) saw = quiet (written_by (plans.Vote header v)) _ No one refl
      plan_alike input (plans.Await item) saw = quiet None _ No (record one { pending = one.pending ++ item ∷ [] }) refl
      plan_alike input (plans.Lead i b own) saw = quiet (Some (Started b)) _ No (started_running one i b own) refl
      plan_alike input (plans.LeadRange range b) saw = quiet (Some (Started b)) _ No (record one { proposals = with_range one.proposals b (unlearned_in records range) }) refl
      plan_alike input (plans.OfferPrepared i b v) saw = offer_alike (proposal_at one.proposals i)
        where
          offer_alike : (found : Option Proposal)
              → (let packets = says_to_all s.config.nodes me (bodies.Accept i b v) in AreAlikeTurns records (sends (offered_running s.config.nodes one v found) packets) (sends (offered_running s.config.nodes other v found) packets))
          offer_alike None = quiet None (says_to_all s.config.nodes me (bodies.Accept i b v)) No one refl
          offer_alike (Some p) =
              quiet None (says_to_all s.config.nodes me (bodies.Accept i b v)) No
              (record one { proposals = with_proposal one.proposals (if is_prepared s.config.nodes p then as_offered v p else p) }) refl
      plan_alike input (plans.CountPromise promise) saw = promise_alike promise [] (proposal_at one.proposals promise.position)
      plan_alike input (plans.CountRangePromise p) saw = quiet None [] No (record one { proposals = map (once_promised s.config.nodes p.from p.range p.ballot p.votes) one.proposals }) refl
      plan_alike input (plans.Offer promise v) saw =
          promise_alike promise (says_to_all s.config.nodes me (bodies.Accept promise.position promise.ballot v)) (proposal_at one.proposals promise.position)
      plan_alike input (plans.Yield i b bound) saw =
          let known : Running = record one { proposals = filter (λ p. not (is_given_up s.config.nodes i b p)) one.proposals; refused = greatest_with one.refused bound } in
          elim (is_in b (proposal_at one.proposals i)) as (λ t. AreAlikeTurns records (notes (if t then known else one)) (notes (if t then record known { heard = heard } else other))) [
            | true ↦ quiet None [] No known refl
            | false ↦ nothing
          ]
      plan_alike input (plans.CountVote from i vote) saw =
          record { written = refl; sent = refl; dropped = refl; running = record { proposals = refl; heard = noted_alike from i vote (ap is_none saw.unlearned); pending = refl; refused = refl } }
      plan_alike input (plans.Learn i v) saw = learns_alike i v (says_to_others s.config.nodes me (bodies.Decided i v)) []
      plan_alike input (plans.Follow from i v) saw = learns_alike i v [] (asks_for me from (missing_position (records ++ Learned i v ∷ [])))
      plan_alike input (plans.Report first) saw = quiet None (report_of me first (applied_of records) ∷ []) No one refl
      plan_alike input _ saw = quiet None _ No one refl

      input_alike : (input : NodeInput) → AreAlikeAnswers records (running_effect s me records one input) (running_effect s me records other input)
      input_alike input =
          subst (λ (found : Result Plan Fault). AreAlikeAnswers records (turn_if here (plan_of here input)) (turn_if there found)) (sym (plan_decided input))
          (by (plan_of here input) (every_plan here input))
        where
          by : (found : Result Plan Fault) → SawIf here input found → AreAlikeAnswers records (turn_if here found) (turn_if there found)
          by (Ok plan) saw = plan_alike input plan saw
          by (Err fault) saw = refl

  pub changes_nothing : {S : Type 0} (s : Setting S) (me : ℕ) (one other : Running) (input : NodeInput) → KnowsAlike records one other
      → AreAlikeAnswers records (running_effect s me records one input) (running_effect s me records other input)
  changes_nothing s me one other input alike =
      let is : record one { heard = other.heard } ≡ other = λ j. record {
        proposals = (sym alike.proposals) j;
        heard = other.heard;
        pending = (sym alike.pending) j;
        refused = (sym alike.refused) j;
      } in
      subst (λ (running : Running). AreAlikeAnswers records (running_effect s me records one input) (running_effect s me records running input)) is
      (input_alike one other.heard alike.heard s me input)
