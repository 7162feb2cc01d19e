-- A server's parts once an action is learned.
use Rattle.std.proofs.Common.{◌≡◌, ◌≢◌, ℕ, suc, ◌+◌, ◌-◌, ◌<◌, ◌≤◌, Bool, true, false, cond, not, nat_eq, is_some, Option, Some, None, List, [], ◌∷◌, ◌++◌, length, drop, sym, ap, subst, ◌∙◌, inl, inr, arith, append-nil, eq-eqb}
use Rattle.std.specs.Prelude.{IsSome, nat_le, slice_get, filter}
use Rattle.std.specs.List.{AllByRecursion}
use Rattle.std.proofs.lemmas.Bool.{cases_lt, ne_eqb, le-leb}
use Rattle.std.proofs.Math.Seq.{drop-append_seam}
use Rattle.rp_base.specs.declared.action.Action.{Action}
use Rattle.rp_base.specs.declared.config.Config.{Config}
use Rattle.rp_base.specs.declared.record.Rec.{Rec}
use Rattle.rp_base.specs.declared.record.Rec.TheVariants.{Learned}
use Rattle.rp_base.specs.declared.reply.Answer.{Answer}
use Rattle.rp_base.specs.Action.{IsRight}
use Rattle.rp_base.specs.Right.{IsRightRecord}
use Rattle.rp_base.specs.Sets.{Has}
use Rattle.rp_base.specs.Promises.{HeardVote, heard_elsewhere}
use Rattle.rp_base.specs.Proposals.{Proposal, without_proposal}
use Rattle.rp_base.specs.Records.{or_else, learned_at, applied_of}
use Rattle.rp_base.proofs.Members.{has_passing, passes, mapped_has}
use Rattle.rp_base.proofs.MoreRecords.{started_push, learned_push}
use Rattle.rp_proposer.specs.Proposing.{ProposerPart, settles}
use Rattle.rp_learner.specs.Learning.{Learning}
use Rattle.rp_learner.specs.Status.{Settles}
use Rattle.rp_log.specs.Contents.{Contents, action_at, with_room, with_action, next_to_take, IsTakenInOrder}
use Rattle.rp_log.specs.Recorded.{LearnedAlike}
use Rattle.rp_log.proofs.Places.{front_within}
use Rattle.rp_log.proofs.RecordedRuns.{all_taken, learned_with, reserved_alike}
use Rattle.rp_machine.specs.Numbered.{Applied, outcome}
use Rattle.rp_machine.specs.Replay.{Replayed, replay_of, counted_of, replay_answers}
use Rattle.rp_model.specs.Pending.{stays, replies_to}
use Rattle.rp_server.specs.Applying.{learns_alone, HasReplied}
use Rattle.rp_outbox.specs.Packets.{Sending}
use Rattle.rp_server.specs.State.{ServerState, server_after}
use Rattle.rp_server.specs.Invariant.{IsProposer, IsLearner, IsSettledAlike, Follows, IsApplied, IsServer}
use Rattle.rp_server.proofs.Applied.{applied_is, learned_right}
use Rattle.rp_server.proofs.Keeping.{or_none, all_right}
use Rattle.rp_server.proofs.Promising.{places, leads_passing}
use Rattle.rp_server.proofs.Settling.{learns_more, taken_same}
use Rattle.rp_model.specs.rp_codec.specs.Message.{Message}
use Rattle.rp_server.proofs.Starting.{same_learned}

-- ---- room in the log

-- a log that learned the same and took the same is as applied as before
same_applied : {S : Type 0} (records : List Rec) (log after : Contents) (applied : Applied S) → LearnedAlike records after → after.taken ≡ log.taken → IsApplied records log applied → IsApplied records after applied
same_applied records log after applied alike same a =
    let next : next_to_take after ≡ next_to_take log = ap (λ (actions : List Action). length actions + 1) same in
    record {
      learned = alike;
      ordered = λ k within.
          ap (λ (actions : List Action). slice_get actions k) same
          ∙ a.ordered k (subst (λ (actions : List Action). k < length actions) same within)
          ∙ a.learned (k + 1)
          ∙ sym (alike (k + 1));
      none = alike (next_to_take after) ∙ ap (learned_at records) next ∙ sym (a.learned (next_to_take log)) ∙ a.none;
      taken = a.taken ∙ sym same;
    }

pub server_room : {S : Type 0} (me : ℕ) (config : Config) (records : List Rec) (proposer : ProposerPart) (learner : Learning) (votes : List HeardVote) (log after : Contents) (applied : Applied S) (i : ℕ)
    → after ≡ with_room log i → IsServer me config records proposer learner votes log applied → IsServer me config records proposer learner votes after applied
server_room me config records proposer learner votes log after applied i is t =
    subst (λ (l : Contents). IsServer me config records proposer learner votes l applied) (sym is)
    (record {
      sizes = t.sizes;
      member = t.member;
      right = t.right;
      leads = subst (λ (actions : List Action). IsProposer me config records (length actions) proposer) (sym (taken_same log i)) t.leads;
      learns = subst (λ (actions : List Action). IsLearner config records (length actions) learner votes) (sym (taken_same log i)) t.learns;
      applies = same_applied records log (with_room log i) applied (reserved_alike records log i t.applies.learned) (taken_same log i) t.applies;
    })

-- ---- the log that learned it

module _ (records : List Rec) (log buffer learned : Contents) (i : ℕ) (v : Action) (alike : LearnedAlike records log) (room : buffer ≡ with_room log i) (is : learned ≡ with_action buffer i v) where
  pub log_learned : LearnedAlike (records ++ Learned i v ∷ []) learned
  log_learned =
      subst (λ (l : Contents). LearnedAlike (records ++ Learned i v ∷ []) l) (sym (is ∙ ap (λ (l : Contents). with_action l i v) room))
      (learned_with records (with_room log i) i v (reserved_alike records log i alike))

  pub log_taken : learned.taken ≡ log.taken
  log_taken = ap (λ (l : Contents). l.taken) (is ∙ ap (λ (l : Contents). with_action l i v) room) ∙ taken_same log i

-- what it learned is right
pub learned_is_right : (records : List Rec) (learned : Contents) (i : ℕ) (v : Action) → AllByRecursion IsRightRecord records → IsRight v
    → LearnedAlike (records ++ Learned i v ∷ []) learned → (j : ℕ) (w : Action) → action_at learned j ≡ Some w → IsRight w
learned_is_right records learned i v all right alike j w e =
    learned_right (records ++ Learned i v ∷ []) j w (all_right records (Learned i v) all right) (sym (alike j) ∙ e)

-- ---- the proposer

-- what is unlearned lies above what was taken
past_taken : (records : List Rec) (log : Contents) (j : ℕ) → LearnedAlike records log → IsTakenInOrder log → 1 ≤ j → learned_at records j ≡ None → suc (length log.taken) ≤ j
past_taken records log j alike ordered least unlearned =
    elim (cases_lt (length log.taken) j) [
      | inl past ↦ omega arith
      | inr taken ↦
          let lt : j - 1 < length log.taken = omega arith in
          let same : j - 1 + 1 ≡ j = omega arith in
          let missing : slice_get log.taken (j - 1) ≡ None = ordered (j - 1) lt ∙ ap (action_at log) same ∙ alike j ∙ unlearned in
          let never : false ≡ true = subst (λ (o : Option Action). IsSome o) missing (front_within log.taken (j - 1) lt) in
          absurd (cc)
    ]

-- a learner whose window follows the log
pub learns_on : (config : Config) (records : List Rec) (taken : ℕ) (before after : Learning) (votes : List HeardVote) (log : Contents) → LearnedAlike records log → IsTakenInOrder log → taken ≤ length log.taken
    → Follows before log after → IsLearner config records taken before votes → IsLearner config records (length log.taken) after votes
learns_on config records taken before after votes log alike ordered longer f l =
    let test : HeardVote → Bool = λ h. nat_le (next_to_take log) h.1 in
    let above : (h : HeardVote) → Has h votes → next_to_take log ≤ h.1 = λ h m.
    let o = l.open_votes h m in
    omega (arith, past_taken records log h.1 alike ordered o.position o.unlearned) in
    record {
      nodes = f.nodes ∙ l.nodes;
      positions = f.positions ∙ l.positions;
      first = omega (arith, f.first);
      heard = λ h. (
        λ m. (l.heard h).0 (has_passing test h before.heard ((f.heard h).0 m)).0,
        λ m. (f.heard h).1 (passes test h before.heard ((l.heard h).1 m) (le-leb (next_to_take log) h.1 (above h m))),
      );
      open_votes = λ h m.
          let o = l.open_votes h m in
          record { position = o.position; within = omega (arith, o.within, f.first, l.first, longer); unlearned = o.unlearned };
      settled = λ j low within. f.settled j low within ∙ ap is_some (alike j);
    }

-- up to the end of its window a learner settled what the log learned
pub settled_log : (config : Config) (records : List Rec) (taken : ℕ) (learner : Learning) (votes : List HeardVote) (log : Contents) → LearnedAlike records log → IsLearner config records taken learner votes → IsSettledAlike learner log
settled_log config records taken learner votes log alike l = λ j low within. l.settled j low within ∙ ap is_some (sym (alike j))

-- where another proposal runs
elsewhere : (ps : List Proposal) (i j : ℕ) → Has j (places (without_proposal ps i)) → j ≢ i
elsewhere ps i j h e =
    let from = mapped_has (λ (p : Proposal). p.position) j (without_proposal ps i) h in
    let both = has_passing (λ (p : Proposal). not (nat_eq p.position i)) from.0 ps from.1 in
    let here : nat_eq from.0.position i ≡ true = eq-eqb from.0.position i (sym from.2 ∙ e) in
    let never : false ≡ true = sym (ap not here) ∙ both.1 in
    absurd (cc)

leads_learned : (me : ℕ) (config : Config) (records : List Rec) (taken : ℕ) (proposer : ProposerPart) (log : Contents) (i : ℕ) (v : Action) → IsProposer me config records taken proposer → taken ≤ length log.taken
    → LearnedAlike (records ++ Learned i v ∷ []) log → IsTakenInOrder log → IsProposer me config (records ++ Learned i v ∷ []) (length log.taken) (settles proposer i)
leads_learned me config records taken proposer log i v t longer alike ordered =
    let less : IsProposer me config records taken (settles proposer i) = leads_passing me config records taken proposer t (λ (p : Proposal). not (nat_eq p.position i)) proposer.refused in
    let others : (j : ℕ) → Has j (places (without_proposal proposer.proposals i)) → learned_at (records ++ Learned i v ∷ []) j ≡ None = λ j h.
    learned_push records (Learned i v) j
    ∙ ap (λ (b : Bool). or_else (learned_at records j) (cond b (Some v) None)) (ne_eqb i j (λ e. elsewhere proposer.proposals i j h (sym e)))
    ∙ or_none (learned_at records j)
    ∙ less.unlearned j h in
    record {
      node = less.node;
      nodes = less.nodes;
      started = less.started ∙ sym (started_push records (Learned i v) ∙ omega arith);
      window = record {
        different = less.window.different;
        inside = λ j h.
            let within = less.window.inside j h in
            let past = past_taken (records ++ Learned i v ∷ []) log j alike ordered (omega (arith, within.0)) (others j h) in
            (past, omega (arith, within.1, longer));
      };
      unlearned = others;
      right = less.right;
    }

-- ---- all parts

module _ {S : Type 0} (next : S → Action → S) (answers : S → Action → List Answer) (me : ℕ) (config : Config) (records after : List Rec) (proposer leading : ProposerPart)
    (learner learning : Learning) (votes heard : List HeardVote) (log buffer learned taken : Contents) (applied applying : Applied S) (pending : List Action) (out said : Sending) (i : ℕ) (v : Action)
    (t : IsServer me config records proposer learner votes log applied)
    (noted : after ≡ records ++ Learned i v ∷ []) (ends : leading ≡ settles proposer i) (settled : Settles learner i learning) (gone : heard ≡ heard_elsewhere votes i)
    (room : buffer ≡ with_room log i) (learning_it : learned ≡ with_action buffer i v) (replied : HasReplied next answers me pending learned taken applied applying out said)
    (ordered : IsTakenInOrder taken) (none : action_at taken (next_to_take taken) ≡ None) where
  alike : LearnedAlike (records ++ Learned i v ∷ []) taken
  alike = same_learned (records ++ Learned i v ∷ []) learned taken replied.applies.places (log_learned records log buffer learned i v t.applies.learned room learning_it)

  same_taken : learned.taken ≡ log.taken
  same_taken = log_taken records log buffer learned i v t.applies.learned room learning_it

  applies : IsApplied (records ++ Learned i v ∷ []) taken applying
  applies = record { learned = alike; ordered = ordered; none = none; taken = replied.applies.taken }

  longer : length log.taken ≤ length taken.taken
  longer = subst (λ (actions : List Action). length actions ≤ length taken.taken) same_taken replied.applies.longer

  settling : IsLearner config (records ++ Learned i v ∷ []) (length log.taken) learning (heard_elsewhere votes i)
  settling = learns_more config records (length log.taken) learner learning votes i v t.learns settled

  -- the learner's window may follow the log
  pub follows_on : learning.first ≤ next_to_take taken
  follows_on = omega (arith, longer, settling.first)

  pub follows_alike : IsSettledAlike learning taken
  follows_alike = settled_log config (records ++ Learned i v ∷ []) (length log.taken) learning (heard_elsewhere votes i) taken alike settling

  -- they hang together
  pub server_learned : (following : Learning) → Follows learning taken following → IsRight v → IsServer me config after leading following heard taken applying
  server_learned following followed right =
      let more = records ++ Learned i v ∷ [] in
      let fresh : IsServer me config more (settles proposer i) following (heard_elsewhere votes i) taken applying = record {
        sizes = t.sizes;
        member = t.member;
        right = all_right records (Learned i v) t.right right;
        leads = leads_learned me config records (length log.taken) proposer taken i v t.leads longer alike ordered;
        learns = learns_on config more (length log.taken) learning following (heard_elsewhere votes i) taken alike ordered longer followed settling;
        applies = applies;
      } in
      subst (λ (rs : List Rec). IsServer me config rs leading following heard taken applying) (sym noted)
      (subst (λ (p : ProposerPart). IsServer me config more p following heard taken applying) (sym ends)
      (subst (λ (hs : List HeardVote). IsServer me config more (settles proposer i) following hs taken applying) (sym gone) fresh))

  -- the state of the machine
  was : outcome next answers applied ≡ replay_of next answers applied.begin (applied_of records)
  was = ap (replay_of next answers applied.begin) (applied_is records log applied t.applies)

  is : outcome next answers applying ≡ replay_of next answers applied.begin (applied_of (records ++ Learned i v ∷ []))
  is =
      ap (λ (b : S). replay_of next answers b applying.actions) replied.applies.begin
      ∙ ap (replay_of next answers applied.begin) (applied_is (records ++ Learned i v ∷ []) taken applying applies)

  -- the pending items that stay
  pub stays_learned : (left newly : List Action) (before : ℕ) → before ≡ length learned.taken → newly ≡ drop before taken.taken
      → left ≡ filter (stays (outcome next answers applying).kept (outcome next answers applying).given newly) pending
      → left ≡ filter (stays (counted_of next answers applied.begin (applied_of (records ++ Learned i v ∷ []))) (replay_answers next answers applied.begin (applied_of (records ++ Learned i v ∷ [])))
      (drop (length (applied_of records)) (applied_of (records ++ Learned i v ∷ [])))) pending
  stays_learned left newly before count trailing kept =
      let long : before ≡ length (applied_of records) = count ∙ ap (λ (actions : List Action). length actions) (same_taken ∙ all_taken records log t.applies.learned t.applies.ordered t.applies.none) in
      let all : taken.taken ≡ applied_of (records ++ Learned i v ∷ []) = all_taken (records ++ Learned i v ∷ []) taken alike ordered none in
      let which : newly ≡ drop (length (applied_of records)) (applied_of (records ++ Learned i v ∷ [])) = trailing ∙ ap (λ (n : ℕ). drop n taken.taken) long ∙ ap (drop (length (applied_of records))) all in
      kept
      ∙ ap (λ (r : Replayed S). filter (stays r.kept r.given newly) pending) is
      ∙ ap (λ (list : List Action). filter (stays (counted_of next answers applied.begin (applied_of (records ++ Learned i v ∷ []))) (replay_answers next answers applied.begin (applied_of (records ++ Learned i v ∷ []))) list) pending) which

  -- the replies
  pub replies_learned : said.sent ≡ out.sent ++ (replies_to me pending
      (drop (length (replay_answers next answers applied.begin (applied_of records))) (replay_answers next answers applied.begin (applied_of (records ++ Learned i v ∷ [])))) ++ [])
  replies_learned =
      let before = replay_answers next answers applied.begin (applied_of records) in
      let later = replay_answers next answers applied.begin (applied_of (records ++ Learned i v ∷ [])) in
      let grown : later ≡ before ++ replied.more =
      sym (ap (λ (r : Replayed S). r.given) is) ∙ replied.applies.given ∙ ap (λ (r : Replayed S). r.given ++ replied.more) was in
      let which : replied.more ≡ drop (length before) later = sym (ap (drop (length before)) grown ∙ drop-append_seam before replied.more) in
      replied.sent
      ∙ ap (λ (given : List Answer). out.sent ++ (replies_to me pending given)) which
      ∙ ap (λ (l : List Message). out.sent ++ l) (sym (append-nil (replies_to me pending (drop (length before) later))))

  -- and what the server is
  pub learned_taken : (left newly : List Action) (before : ℕ) → before ≡ length learned.taken → newly ≡ drop before taken.taken
      → left ≡ filter (stays (outcome next answers applying).kept (outcome next answers applying).given newly) pending
      → (let h : ServerState S = record {
        me = me;
        config = config;
        begin = applied.begin;
        records = records;
        running = record { proposals = proposer.proposals; heard = votes; pending = pending; refused = proposer.refused };
      } in
      let now : ServerState S = record {
        me = me;
        config = config;
        begin = applying.begin;
        records = after;
        running = record { proposals = leading.proposals; heard = heard; pending = left; refused = leading.refused };
      } in
      now ≡ server_after h (learns_alone next answers h i v))
  learned_taken left newly before count trailing kept =
      let staying = stays_learned left newly before count trailing kept in
      λ j. record {
        me = me;
        config = config;
        begin = replied.applies.begin j;
        records = noted j;
        running = record { proposals = (ends j).proposals; heard = gone j; pending = staying j; refused = (ends j).refused };
      }
