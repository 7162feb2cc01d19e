-- What the nodes of a round decide: an input gives this turn, at records and a running part of this kind.
use Rattle.std.proofs.Common.{◌≡◌, ℕ, ◌+◌, ◌<◌, ◌≤◌, ◌^◌, max, true, false, nat_eq, Option, Some, None, Result, Ok, List, [], ◌∷◌, ◌++◌, if◌then◌else◌, refl, ap, ◌∙◌, arith, append-nil}
use Rattle.std.specs.Prelude.{nat_lt, nat_le, not}
use Rattle.std.proofs.lemmas.Bool.{eq-eqb, ne_eqb, cond-true, cond-false, and_from, not_from_false, lt-ltb, le-ltb, lt-leb}
use Rattle.rp_base.specs.Ballot.{owner_of, round_of, next_ballot}
use Rattle.rp_base.specs.Majority.{majority_of, is_majority}
use Rattle.rp_base.specs.Promises.{Promise, HeardVote, same_promise, same_heard, promisers_of, offer_of, makes_majority, heard_elsewhere}
use Rattle.rp_base.specs.Proposals.{Proposal, without_proposal}
use Rattle.rp_base.specs.Records.{started_of, bound_at, last_vote_at, learned_at, first_unlearned}
use Rattle.rp_base.specs.Sets.{with_member}
use Rattle.rp_base.specs.Voting.{vote_answer}
use Rattle.rp_base.specs.declared.action.Action.{Action}
use Rattle.rp_base.specs.declared.fault.Fault.{Fault}
use Rattle.rp_base.specs.declared.proposal.Phase.TheVariants.{Preparing, Offering}
use Rattle.rp_base.specs.declared.record.Rec.{Rec}
use Rattle.rp_base.specs.declared.record.Rec.TheVariants.{Started, Promised, Voted, Learned}
use Rattle.rp_base.specs.declared.record.Vote.{Vote}
use Rattle.rp_base.specs.declared.voting.AcceptAnswer.{AcceptAnswer}
use Rattle.rp_base.specs.declared.voting.AcceptAnswer.TheVariants as accepts
use Rattle.rp_base.specs.declared.voting.PrepareAnswer.{PrepareAnswer}
use Rattle.rp_base.specs.declared.voting.PrepareAnswer.TheVariants as prepares
use Rattle.rp_model.specs.rp_codec.specs.declared.packet.Body.{Body}
use Rattle.rp_model.specs.rp_codec.specs.declared.packet.Body.TheVariants as bodies
use Rattle.rp_model.specs.Acceptor.{answer_to, prepare_plan, accept_plan}
use Rattle.rp_model.specs.Effect.{Setting, Receive, Lead, running_effect}
use Rattle.rp_model.specs.Node.{running_node}
use Rattle.rp_model.specs.Parts.{Running, Turn}
use Rattle.rp_model.specs.Pending.{own_action}
use Rattle.rp_model.specs.Plans.{turn_of}
use Rattle.rp_model.specs.Receiving.{on_body, is_for_node, is_allowed}
use Rattle.rp_model.specs.Says.{says, says_to_all, says_to_others, sends, notes, writes}
use Rattle.rp_model.specs.declared.effect.Dropped.TheVariants.{Foreign}
use Rattle.rp_model.specs.declared.plan.Plan.{Plan}
use Rattle.rp_model.specs.declared.plan.Plan.TheVariants as plans
use Rattle.rp_possible.specs.Rounds.{only_pending, kept_after, left_pending, new_replies}

-- ---- packets between nodes

module _ {S : Type 0} (s : Setting S) (y x : ℕ) (records : List Rec) (running : Running) (within : x ≤ s.config.nodes) where
  received : (body : Body) → is_allowed s.config.max_positions x body ≡ true
      → running_effect s y records running (Receive (says x body y)) ≡ Ok (turn_of (running_node s y records running) (on_body (running_node s y records running) x body))
  received body allowed =
      let node = running_node s y records running in
      let for_me : is_for_node s.config y (says x body y) ≡ true =
      and_from _ _ (and_from _ _ (eq-eqb y y refl) (not_from_false _ (le-ltb s.config.nodes x within))) allowed in
      ap (λ (plan : Plan). let turn : Result Turn Fault = Ok (turn_of node plan) in turn)
      (cond-true (is_for_node s.config y (says x body y)) (on_body node x body) (plans.Pass Foreign) for_me)

  module _ (p b : ℕ) (position : p ≤ s.config.max_positions) where
    in_log : not (nat_lt s.config.max_positions p) ≡ true
    in_log = not_from_false _ (le-ltb s.config.max_positions p position)

    -- a question for a promise above the bound
    pub promises : owner_of b ≡ x → bound_at records p < b
        → running_effect s y records running (Receive (says x (bodies.Prepare p b) y))
        ≡ Ok (writes (Promised p b) running (says y (bodies.Promise p b (last_vote_at records p)) x ∷ []))
    promises owned above =
        let node = running_node s y records running in
        let bound = bound_at records p in
        let otherwise : PrepareAnswer = if nat_lt b bound then prepares.Nack bound else prepares.Silent in
        received (bodies.Prepare p b) (and_from _ _ in_log (eq-eqb (owner_of b) x owned))
        ∙ ap (λ (answer : PrepareAnswer). let turn : Result Turn Fault = Ok (turn_of node (prepare_plan (answer_to y x p b) answer)) in turn)
        (cond-true (nat_lt bound b) (prepares.Promise (last_vote_at records p) (Promised p b)) otherwise (lt-ltb bound b above))

    -- an offer at the bound or above, where the last vote is in a lower ballot
    voted : (v : Action) (last : Option Vote) → ((vote : Vote) → last ≡ Some vote → vote.ballot < b) → vote_answer p b v last ≡ accepts.Vote (Voted p b v)
    voted v None below = refl
    voted v (Some vote) below =
        let less : vote.ballot < b = below vote refl in
        cond-false (nat_eq vote.ballot b) _ (accepts.Vote (Voted p b v)) (ne_eqb vote.ballot b (λ e. absurd (omega (arith, less, e))))

    pub votes : (v : Action) → owner_of b ≡ x → bound_at records p ≤ b → ((vote : Vote) → last_vote_at records p ≡ Some vote → vote.ballot < b)
        → running_effect s y records running (Receive (says x (bodies.Accept p b v) y))
        ≡ Ok (writes (Voted p b v) running (says y (bodies.Accepted p b v) x ∷ []))
    votes v owned bounded below =
        let node = running_node s y records running in
        let bound = bound_at records p in
        received (bodies.Accept p b v) (and_from _ _ in_log (eq-eqb (owner_of b) x owned))
        ∙ ap (λ (answer : AcceptAnswer). let turn : Result Turn Fault = Ok (turn_of node (accept_plan (answer_to y x p b) v answer)) in turn)
        (cond-false (nat_lt b bound) (accepts.Nack bound) (vote_answer p b v (last_vote_at records p)) (le-ltb b bound bounded) ∙ voted v (last_vote_at records p) below)

-- ---- the leader's proposal

-- the proposal that gathers promises and got these, and that offers then
abbrev pub gathering : ℕ → ℕ → Action → List Promise → Proposal
gathering p b own promises = record { position = p; ballot = b; own = Some own; ranged = false; phase = Preparing; promises = promises }

abbrev pub offering : ℕ → ℕ → Action → List Promise → Proposal
offering p b own promises = record { position = p; ballot = b; own = Some own; ranged = false; phase = Offering; promises = promises }

-- what the leader knows then
abbrev pub gathers : List Action → ℕ → ℕ → Action → List Promise → Running
gathers pending p b own promises = record { proposals = gathering p b own promises ∷ []; heard = []; pending = pending; refused = None }

abbrev pub hears : List Action → List Proposal → List HeardVote → Running
hears pending proposals heard = record { proposals = proposals; heard = heard; pending = pending; refused = None }

module _ {S : Type 0} (s : Setting S) (x p b : ℕ) (records : List Rec) (pending : List Action) (own : Action) (position : p ≤ s.config.max_positions) where
  -- a promise that counts
  module _ (promises more : List Promise) (y : ℕ) (last : Option Vote) (within : y ≤ s.config.nodes) (added : with_member same_promise promises (y, last) ≡ more) where
    pub counts : is_majority s.config.nodes (promisers_of more) ≡ false
        → running_effect s x records (gathers pending p b own promises) (Receive (says y (bodies.Promise p b last) x)) ≡ Ok (notes (gathers pending p b own more))
    counts few =
        let pp : nat_eq p p ≡ true = eq-eqb p p refl in
        let bb : nat_eq b b ≡ true = eq-eqb b b refl in
        received s x y records (gathers pending p b own promises) within (bodies.Promise p b last) (in_log s x y records (gathers pending p b own promises) within p b position)
        ∙ simp (pp, bb, added, few)

    pub offers : is_majority s.config.nodes (promisers_of more) ≡ true
        → running_effect s x records (gathers pending p b own promises) (Receive (says y (bodies.Promise p b last) x))
        ≡ Ok (sends (hears pending (offering p b own more ∷ []) []) (says_to_all s.config.nodes x (bodies.Accept p b (offer_of (Some own) more))))
    offers many =
        let pp : nat_eq p p ≡ true = eq-eqb p p refl in
        let bb : nat_eq b b ≡ true = eq-eqb b b refl in
        received s x y records (gathers pending p b own promises) within (bodies.Promise p b last) (in_log s x y records (gathers pending p b own promises) within p b position)
        ∙ simp (pp, bb, added, many)

-- what the leader knows while it looks for its ballot: no proposal runs, or one that got no promise
abbrev pub opened : ℕ → Action → Option ℕ → List Proposal
opened p own None = []
opened p own (Some b) = gathering p b own [] ∷ []

abbrev pub opens : List Action → ℕ → Action → Option ℕ → Running
opens pending p own o = hears pending (opened p own o) []

module _ {S : Type 0} (s : Setting S) (x p : ℕ) (records : List Rec) (pending : List Action) (position : p ≤ s.config.max_positions) (unlearned : learned_at records p ≡ None) (first : p ≡ first_unlearned records) where
  near : nat_le (first_unlearned records + 64) p ≡ false
  near = lt-leb (first_unlearned records + 64) p (omega (arith, first))

  -- ---- it leads

  module _ (own : Action) (is_own : own ≡ own_action (kept_after s records) [] pending) (left : round_of (next_ballot x (started_of records)) < 2 ^ 32) where
    pub leads : (o : Option ℕ) → running_effect s x records (opens pending p own o) (Lead (Some p))
        ≡ Ok (writes (Started (next_ballot x (started_of records))) (gathers pending p (next_ballot x (started_of records)) own [])
        (says_to_all s.config.nodes x (bodies.Prepare p (next_ballot x (started_of records)))))
    leads None =
        let within : nat_lt s.config.max_positions p ≡ false = le-ltb s.config.max_positions p position in
        let same : max (started_of records) 0 ≡ started_of records = omega arith in
        let some_left : nat_le (2 ^ 32) (round_of (next_ballot x (started_of records))) ≡ false = lt-leb (2 ^ 32) (round_of (next_ballot x (started_of records))) left in
        simp (unlearned, within, near, same, some_left, ← is_own)
    leads (Some b) =
        let within : nat_lt s.config.max_positions p ≡ false = le-ltb s.config.max_positions p position in
        let same : max (started_of records) 0 ≡ started_of records = omega arith in
        let some_left : nat_le (2 ^ 32) (round_of (next_ballot x (started_of records))) ≡ false = lt-leb (2 ^ 32) (round_of (next_ballot x (started_of records))) left in
        let pp : nat_eq p p ≡ true = eq-eqb p p refl in
        let none : nat_le (majority_of s.config.nodes) 0 ≡ false = lt-leb (majority_of s.config.nodes) 0 (omega arith) in
        simp (unlearned, within, near, same, pp, none, some_left, ← is_own)

  -- ---- a vote for its offer

  module _ (b y : ℕ) (v : Action) (proposals : List Proposal) (heard more : List HeardVote) (within : y ≤ s.config.nodes)
      (added : (let vote : Vote = record { ballot = b; action = v } in with_member same_heard heard (y, p, vote)) ≡ more) where
    pub notes_vote : (let vote : Vote = record { ballot = b; action = v } in makes_majority s.config.nodes p vote more) ≡ false
        → running_effect s x records (hears pending proposals heard) (Receive (says y (bodies.Accepted p b v) x)) ≡ Ok (notes (hears pending proposals more))
    notes_vote few =
        received s x y records (hears pending proposals heard) within (bodies.Accepted p b v) (in_log s x y records (hears pending proposals heard) within p b position)
        ∙ simp (near, unlearned, added, few)

    pub learns : (let vote : Vote = record { ballot = b; action = v } in makes_majority s.config.nodes p vote more) ≡ true
        → without_proposal proposals p ≡ [] → heard_elsewhere heard p ≡ []
        → running_effect s x records (hears pending proposals heard) (Receive (says y (bodies.Accepted p b v) x))
        ≡ Ok (writes (Learned p v) (only_pending (left_pending s pending records (records ++ Learned p v ∷ [])))
        (says_to_others s.config.nodes x (bodies.Decided p v) ++ new_replies s x pending records (records ++ Learned p v ∷ [])))
    learns many alone none =
        received s x y records (hears pending proposals heard) within (bodies.Accepted p b v) (in_log s x y records (hears pending proposals heard) within p b position)
        ∙ simp (near, unlearned, added, many, alone, none, append-nil)
