-- A body that is read is the body that was written, and what was written is read again.
use Rattle.std.proofs.Common.{◌≡◌, ℕ, true, false, eqb, List, ◌∷◌, ◌++◌, length, Option, Some, None, Ok, refl, sym, ap, ◌∙◌, append_assoc}
use Rattle.std.specs.Prelude.{IfSome}
use Rattle.std.specs.Int.{w16, w32}
use Rattle.std.proofs.lemmas.Bool.{eqb-true, eq-eqb}
use Rattle.rp_base.specs.Ballot.{IsBallot}
use Rattle.rp_base.specs.declared.reply.Reply.{Reply}
use Rattle.rp_base.specs.declared.reply.Reply.TheVariants as replies
use Rattle.rp_base.specs.declared.record.Vote.{Vote}
use Rattle.rp_codec.specs.declared.packet.Party.{Party}
use Rattle.rp_codec.specs.declared.packet.Body.{Body}
use Rattle.rp_codec.specs.declared.packet.Body.TheVariants as bodies
use Rattle.rp_codec.specs.declared.kind.Kind.{Kind}
use Rattle.rp_codec.specs.declared.kind.Kind.TheVariants.{Call, Prepare, Promise, Accept, Accepted, Decided, Ask, Nack, Reply as Answer, Report, PrepareRange, PromiseRange}
use Rattle.rp_base.specs.Right.{IsReply}
use Rattle.rp_codec.specs.Kind.{Role, ANode, ATask, TheAudit, sender_role, receiver_role, number_of_kind, kind_of_body}
use Rattle.rp_codec.specs.declared.version.Version.{Version}
use Rattle.rp_codec.specs.Message.{IsBody, IsNodeParty, IsTaskParty, IsAudit, IsVoteBelow, MaySay, report_len}
use Rattle.rp_codec.specs.Text.{number_text, position_text, ballot_text, action_text_at, reply_text, last_text_at, kind_number, body_text_at, HasActionText, HasBodyText, range_text, votes_text_at}
use Rattle.rp_codec.specs.Reading.{value_at, truth_at, reply_at, last_vote_at, last_at, prepare_at, promise_at, accept_at, accepted_at, decided_at, ask_at, nack_at, answer_at, report_at, task_call_at, body_at, prepare_range_at, promise_range_at}
use Rattle.rp_codec.proofs.Steps.{IsBytes, Yields, Took, then, when, guarded}
use Rattle.rp_codec.proofs.FieldLaws.{TookByte, TookNumber16, number16_took, number16_again, TookSigned, TookCount, TookPosition, byte_took, signed_took, signed_again, count_took, count_again, position_took, position_again, TookHigher, higher_took, higher_again, TookPlace, place_took, place_again, TookRangePlace, range_place_took, range_place_again, regroup}
use Rattle.rp_codec.proofs.VotesLaws.{TookReported, reported_took, reported_again}
use Rattle.rp_codec.proofs.ActionLaws.{TookVote, vote_took, vote_again, TookPlacedVote, placed_vote_took, placed_vote_again, TookActions, each_text, actions_took, actions_again, TookAction, TookOwn, action_took, action_again, own_call_took, own_call_again}

-- ---- replies

abbrev TookReply : List ℕ → Reply × List ℕ → Type 0
TookReply bytes = Took reply_text IsReply bytes

value_took : (bytes rest : List ℕ) → bytes ≡ 1 ∷ rest → IsBytes rest → Yields (TookReply bytes) (value_at rest)
unfolding value_at
value_took bytes rest begins h =
    then (TookSigned rest) (TookReply bytes) _ _ (signed_took rest h)
    (λ z t. record { parts = begins ∙ ap (λ (r : List ℕ). 1 ∷ r) t.parts; rest = t.rest; right = t.right })

truth_took : (bytes rest : List ℕ) → bytes ≡ 2 ∷ rest → IsBytes rest → Yields (TookReply bytes) (truth_at rest)
unfolding truth_at
truth_took bytes rest begins h =
    then (TookByte rest) (TookReply bytes) _ _ (byte_took rest h)
    (λ flag t.
    let starts : (k : ℕ) → eqb flag.0 k ≡ true → bytes ≡ 2 ∷ k ∷ flag.1 = λ k e. begins ∙ ap (λ (r : List ℕ). 2 ∷ r) (t.parts ∙ ap (λ (b : ℕ). b ∷ flag.1) (eqb-true _ _ e)) in
    when (TookReply bytes) (eqb flag.0 0) _ _ (λ e. record { parts = starts 0 e; rest = t.rest; right = tt })
    (λ _. when (TookReply bytes) (eqb flag.0 1) _ _ (λ e. record { parts = starts 1 e; rest = t.rest; right = tt }) (λ _. tt)))

reply_took : (bytes : List ℕ) → IsBytes bytes → Yields (TookReply bytes) (reply_at bytes)
unfolding reply_at
reply_took bytes h =
    then (TookByte bytes) (TookReply bytes) _ _ (byte_took bytes h)
    (λ tag t.
    let begins : (k : ℕ) → eqb tag.0 k ≡ true → bytes ≡ k ∷ tag.1 = λ k e. t.parts ∙ ap (λ (b : ℕ). b ∷ tag.1) (eqb-true _ _ e) in
    when (TookReply bytes) (eqb tag.0 1) _ _ (λ e. value_took bytes tag.1 (begins 1 e) t.rest)
    (λ _. when (TookReply bytes) (eqb tag.0 2) _ _ (λ e. truth_took bytes tag.1 (begins 2 e) t.rest)
    (λ _. when (TookReply bytes) (eqb tag.0 3) _ _ (λ e. record { parts = begins 3 e; rest = t.rest; right = tt })
    (λ _. when (TookReply bytes) (eqb tag.0 4) _ _ (λ e. record { parts = begins 4 e; rest = t.rest; right = tt })
    (λ _. when (TookReply bytes) (eqb tag.0 5) _ _ (λ e. record { parts = begins 5 e; rest = t.rest; right = tt }) (λ _. tt))))))

reply_again : (reply : Reply) (rest : List ℕ) → IsReply reply → reply_at (reply_text reply ++ rest) ≡ Ok (reply, rest)
unfolding reply_at value_at truth_at
reply_again (replies.Value z) rest right = rw (signed_again z rest right) refl
reply_again (replies.Truth false) rest right = refl
reply_again (replies.Truth true) rest right = refl
reply_again replies.ConstraintError rest right = refl
reply_again replies.ProgramError rest right = refl
reply_again replies.NoSuchOperation rest right = refl

-- ---- a promise's vote

abbrev IsLast : Version → ℕ → Option Vote → Type 0
IsLast v ballot last = IfSome last (λ vote. IsBallot vote.ballot) × IfSome last (λ vote. IsVoteBelow ballot vote) × IfSome last (λ vote. HasActionText v vote.action)

abbrev TookLast : Version → ℕ → List ℕ → Option Vote × List ℕ → Type 0
TookLast v ballot bytes = Took (last_text_at v) (IsLast v ballot) bytes

last_vote_took : (v : Version) (ballot : ℕ) (bytes rest : List ℕ) → bytes ≡ 1 ∷ rest → IsBytes rest → Yields (TookLast v ballot bytes) (last_vote_at v ballot rest)
unfolding last_vote_at
last_vote_took v ballot bytes rest begins h =
    then (TookVote v ballot rest) (TookLast v ballot bytes) _ _ (vote_took v ballot rest h)
    (λ vote t. record { parts = begins ∙ ap (λ (r : List ℕ). 1 ∷ r) t.parts; rest = t.rest; right = (t.right.0.0, (t.right.0.1, t.right.1.0), t.right.1.1) })

last_took : (v : Version) (ballot : ℕ) (bytes : List ℕ) → IsBytes bytes → Yields (TookLast v ballot bytes) (last_at v ballot bytes)
unfolding last_at
last_took v ballot bytes h =
    then (TookByte bytes) (TookLast v ballot bytes) _ _ (byte_took bytes h)
    (λ flag t.
    let begins : (k : ℕ) → eqb flag.0 k ≡ true → bytes ≡ k ∷ flag.1 = λ k e. t.parts ∙ ap (λ (b : ℕ). b ∷ flag.1) (eqb-true _ _ e) in
    when (TookLast v ballot bytes) (eqb flag.0 0) _ _ (λ e. record { parts = begins 0 e; rest = t.rest; right = (tt, tt, tt) })
    (λ _. when (TookLast v ballot bytes) (eqb flag.0 1) _ _ (λ e. last_vote_took v ballot bytes flag.1 (begins 1 e) t.rest) (λ _. tt)))

last_again : (v : Version) (ballot : ℕ) (last : Option Vote) (rest : List ℕ) → IsLast v ballot last → last_at v ballot (last_text_at v last ++ rest) ≡ Ok (last, rest)
unfolding last_at last_vote_at
last_again v ballot None rest right = refl
last_again v ballot (Some vote) rest right = rw (vote_again v ballot vote rest (right.0, right.1.0) (right.1.1, right.2)) refl

-- ---- bodies

-- the party has this role
abbrev pub HasRole : Role → Party → Type 0
HasRole ANode party = IsNodeParty party
HasRole ATask party = IsTaskParty party
HasRole TheAudit party = IsAudit party

-- what reading a body of this kind shows
pub record IsSaid (v : Version) (kind : Kind) (from : Party) (body : Body) : Type 0 where
  pub number : number_of_kind kind ≡ kind_number body
  pub ranges : IsBody body
  pub has : HasBodyText v body
  pub rules : (to : Party) → HasRole (sender_role kind) from → HasRole (receiver_role kind) to
      → MaySay from to body

abbrev pub TookBody : Version → Kind → Party → List ℕ → Body × List ℕ → Type 0
TookBody v kind from bytes = Took (body_text_at v) (IsSaid v kind from) bytes

task_call_took : (v : Version) (from : Party) (bytes : List ℕ) → IsBytes bytes → Yields (TookBody v Call from bytes) (task_call_at v from bytes)
unfolding task_call_at
task_call_took v from bytes h =
    then (TookOwn v from bytes) (TookBody v Call from bytes) _ _ (own_call_took v from bytes h)
    (λ action a. record { parts = a.parts; rest = a.rest; right = record { number = refl; ranges = tt; has = a.right.1.1; rules = λ to f t. (f, t, a.right.0, a.right.1.0) } })

prepare_took : (v : Version) (from : Party) (bytes : List ℕ) → IsBytes bytes → Yields (TookBody v Prepare from bytes) (prepare_at bytes)
unfolding prepare_at
prepare_took v from bytes h =
    then (TookPlace bytes) (TookBody v Prepare from bytes) _ _ (place_took bytes h)
    (λ place p. record { parts = p.parts; rest = p.rest; right = record { number = refl; ranges = p.right; has = tt; rules = λ to f t. (f, t) } })

promise_took : (v : Version) (from : Party) (bytes : List ℕ) → IsBytes bytes → Yields (TookBody v Promise from bytes) (promise_at v bytes)
unfolding promise_at
promise_took v from bytes h =
    then (TookPlace bytes) (TookBody v Promise from bytes) _ _ (place_took bytes h)
    (λ place p. then (TookLast v place.0.1 place.1) (TookBody v Promise from bytes) _ _ (last_took v place.0.1 place.1 p.rest)
    (λ last l. record { parts = rw (p.parts, l.parts) (simp append_assoc); rest = l.rest; right = record { number = refl; ranges = (p.right.0, p.right.1, l.right.0); has = l.right.2; rules = λ to f t. ((f, t), l.right.1) } }))

accept_took : (v : Version) (from : Party) (bytes : List ℕ) → IsBytes bytes → Yields (TookBody v Accept from bytes) (accept_at v bytes)
unfolding accept_at
accept_took v from bytes h =
    then (TookPlacedVote v bytes) (TookBody v Accept from bytes) _ _ (placed_vote_took v bytes h)
    (λ vote p. record { parts = p.parts; rest = p.rest; right = record { number = refl; ranges = (p.right.0, p.right.1); has = p.right.2.1; rules = λ to f t. ((f, t), p.right.2.0) } })

accepted_took : (v : Version) (from : Party) (bytes : List ℕ) → IsBytes bytes → Yields (TookBody v Accepted from bytes) (accepted_at v bytes)
unfolding accepted_at
accepted_took v from bytes h =
    then (TookPlacedVote v bytes) (TookBody v Accepted from bytes) _ _ (placed_vote_took v bytes h)
    (λ vote p. record { parts = p.parts; rest = p.rest; right = record { number = refl; ranges = (p.right.0, p.right.1); has = p.right.2.1; rules = λ to f t. ((f, t), p.right.2.0) } })

decided_took : (v : Version) (from : Party) (bytes : List ℕ) → IsBytes bytes → Yields (TookBody v Decided from bytes) (decided_at v bytes)
unfolding decided_at
decided_took v from bytes h =
    then (TookPosition bytes) (TookBody v Decided from bytes) _ _ (position_took bytes h)
    (λ position p. then (TookAction v position.1) (TookBody v Decided from bytes) _ _ (action_took v position.1 p.rest)
    (λ action a. record { parts = rw (p.parts, a.parts) (simp append_assoc); rest = a.rest; right = record { number = refl; ranges = p.right; has = a.right.1; rules = λ to f t. ((f, t), a.right.0) } }))

ask_took : (v : Version) (from : Party) (bytes : List ℕ) → IsBytes bytes → Yields (TookBody v Ask from bytes) (ask_at bytes)
unfolding ask_at
ask_took v from bytes h =
    then (TookPosition bytes) (TookBody v Ask from bytes) _ _ (position_took bytes h)
    (λ position p. record { parts = p.parts; rest = p.rest; right = record { number = refl; ranges = p.right; has = tt; rules = λ to f t. (f, t) } })

nack_took : (v : Version) (from : Party) (bytes : List ℕ) → IsBytes bytes → Yields (TookBody v Nack from bytes) (nack_at bytes)
unfolding nack_at
nack_took v from bytes h =
    then (TookPlace bytes) (TookBody v Nack from bytes) _ _ (place_took bytes h)
    (λ place p. then (TookHigher place.0.1 place.1) (TookBody v Nack from bytes) _ _ (higher_took place.0.1 place.1 p.rest)
    (λ bound u. record { parts = rw (p.parts, u.parts) (simp append_assoc); rest = u.rest; right = record { number = refl; ranges = (p.right.0, p.right.1, u.right.0); has = tt; rules = λ to f t. ((f, t), u.right.1) } }))

answer_took : (v : Version) (from : Party) (bytes : List ℕ) → IsBytes bytes → Yields (TookBody v Answer from bytes) (answer_at bytes)
unfolding answer_at
answer_took v from bytes h =
    then (TookCount bytes) (TookBody v Answer from bytes) _ _ (count_took bytes h)
    (λ number n. then (TookReply number.1) (TookBody v Answer from bytes) _ _ (reply_took number.1 n.rest)
    (λ reply r. record { parts = rw (n.parts, r.parts) (simp append_assoc); rest = r.rest; right = record { number = refl; ranges = r.right; has = tt; rules = λ to f t. (f, t, n.right) } }))

report_took : (v : Version) (from : Party) (bytes : List ℕ) → IsBytes bytes → Yields (TookBody v Report from bytes) (report_at v bytes)
unfolding report_at
report_took v from bytes h =
    then (TookPosition bytes) (TookBody v Report from bytes) _ _ (position_took bytes h)
    (λ first p. then (TookNumber16 first.1) (TookBody v Report from bytes) _ _ (number16_took first.1 p.rest)
    (λ applied n. then (TookByte applied.1) (TookBody v Report from bytes) _ _ (byte_took applied.1 n.rest)
    (λ count c. guarded (TookBody v Report from bytes) (eqb count.0 (report_len first.0 applied.0)) count _
    (λ e. then (TookActions v count.0 count.1) (TookBody v Report from bytes) _ _ (actions_took v count.0 count.1 c.rest)
    (λ actions a.
    let counted : count.0 ≡ length actions.0 = sym a.right.0 in
    record {
      parts = rw (p.parts, n.parts, c.parts, a.parts) (ap (λ (k : ℕ). position_text first.0 ++ (number_text w16 applied.0 ++ (k ∷ (each_text v actions.0 ++ actions.1)))) counted ∙ simp append_assoc);
      rest = a.rest;
      right = record {
        number = refl;
        ranges = (p.right, n.right);
        has = a.right.2;
        rules = λ to f t. (f, t, record { len = a.right.0 ∙ eqb-true _ _ e; right = a.right.1 });
      };
    })))))

prepare_range_took : (v : Version) (from : Party) (bytes : List ℕ) → IsBytes bytes → Yields (TookBody v PrepareRange from bytes) (prepare_range_at bytes)
unfolding prepare_range_at
prepare_range_took v from bytes h =
    then (TookRangePlace bytes) (TookBody v PrepareRange from bytes) _ _ (range_place_took bytes h)
    (λ place p. record { parts = p.parts; rest = p.rest; right = record { number = refl; ranges = p.right; has = tt; rules = λ to f t. (f, t) } })

promise_range_took : (v : Version) (from : Party) (bytes : List ℕ) → IsBytes bytes → Yields (TookBody v PromiseRange from bytes) (promise_range_at v bytes)
unfolding promise_range_at
promise_range_took v from bytes h =
    then (TookRangePlace bytes) (TookBody v PromiseRange from bytes) _ _ (range_place_took bytes h)
    (λ place p. then (TookReported v place.0.0 place.0.1 place.1) (TookBody v PromiseRange from bytes) _ _ (reported_took v place.0.0 place.0.1 place.1 p.rest)
    (λ votes t. record {
      parts = rw (p.parts, t.parts) (simp append_assoc);
      rest = t.rest;
      right = record {
        number = refl;
        ranges = (p.right.0, p.right.1, t.right.ballots);
        has = t.right.has;
        rules = λ to f u. ((f, u), record { rising = t.right.rising; below = t.right.below; right = t.right.right });
      };
    }))

pub body_took : (v : Version) (kind : Kind) (from : Party) (bytes : List ℕ) → IsBytes bytes → Yields (TookBody v kind from bytes) (body_at v kind from bytes)
unfolding body_at
body_took v Call from bytes h = task_call_took v from bytes h
body_took v Prepare from bytes h = prepare_took v from bytes h
body_took v Promise from bytes h = promise_took v from bytes h
body_took v Accept from bytes h = accept_took v from bytes h
body_took v Accepted from bytes h = accepted_took v from bytes h
body_took v Decided from bytes h = decided_took v from bytes h
body_took v Ask from bytes h = ask_took v from bytes h
body_took v Nack from bytes h = nack_took v from bytes h
body_took v Answer from bytes h = answer_took v from bytes h
body_took v Report from bytes h = report_took v from bytes h
body_took v PrepareRange from bytes h = prepare_range_took v from bytes h
body_took v PromiseRange from bytes h = promise_range_took v from bytes h

pub body_again : (v : Version) (from to : Party) (body : Body) (rest : List ℕ) → IsBody body → MaySay from to body → HasBodyText v body → body_at v (kind_of_body body) from (body_text_at v body ++ rest) ≡ Ok (body, rest)
unfolding body_at task_call_at prepare_at promise_at accept_at accepted_at decided_at ask_at nack_at answer_at report_at prepare_range_at promise_range_at
body_again v from to (bodies.Call action) rest ranges rules has = rw (own_call_again v from action rest rules.2 (rules.3, has)) refl
body_again v from to (bodies.Prepare position ballot) rest ranges rules has = rw (place_again position ballot rest ranges.0 ranges.1) refl
body_again v from to (bodies.Promise position ballot last) rest ranges rules has =
    ap (promise_at v) (regroup (position_text position) (ballot_text ballot) (last_text_at v last) rest)
    ∙ rw (place_again position ballot (last_text_at v last ++ rest) ranges.0 ranges.1, last_again v ballot last rest (ranges.2, rules.1, has)) refl
body_again v from to (bodies.Accept position ballot action) rest ranges rules has = rw (placed_vote_again v position ballot action rest ranges.0 ranges.1 (rules.1, has)) refl
body_again v from to (bodies.Accepted position ballot action) rest ranges rules has = rw (placed_vote_again v position ballot action rest ranges.0 ranges.1 (rules.1, has)) refl
body_again v from to (bodies.Decided position action) rest ranges rules has =
    ap (decided_at v) (append_assoc (position_text position) (action_text_at v action) rest) ∙ rw (position_again position (action_text_at v action ++ rest) ranges, action_again v action rest (rules.1, has)) refl
body_again v from to (bodies.Ask position) rest ranges rules has = rw (position_again position rest ranges) refl
body_again v from to (bodies.Nack position ballot bound) rest ranges rules has =
    ap nack_at (regroup (position_text position) (ballot_text ballot) (ballot_text bound) rest)
    ∙ rw (place_again position ballot (ballot_text bound ++ rest) ranges.0 ranges.1, higher_again ballot bound rest (ranges.2, rules.1)) refl
body_again v from to (bodies.Reply number reply) rest ranges rules has =
    ap answer_at (append_assoc (number_text w32 number) (reply_text reply) rest) ∙ rw (count_again number (reply_text reply ++ rest) rules.2, reply_again reply rest ranges) refl
body_again v from to (bodies.Report first applied actions) rest ranges rules has =
    let stated = rules.2 in
    let parts : body_text_at v (bodies.Report first applied actions) ++ rest ≡ position_text first ++ (number_text w16 applied ++ (length actions ∷ (each_text v actions ++ rest))) = simp append_assoc in
    ap (report_at v) parts ∙ rw (position_again first (number_text w16 applied ++ (length actions ∷ (each_text v actions ++ rest))) ranges.0, number16_again applied (length actions ∷ (each_text v actions ++ rest)) ranges.1, eq-eqb _ _ stated.len, actions_again v actions rest stated.right has) refl
body_again v from to (bodies.PrepareRange range ballot) rest ranges rules has = rw (range_place_again range ballot rest ranges.0 ranges.1) refl
body_again v from to (bodies.PromiseRange range ballot votes) rest ranges rules has =
    let reported = rules.1 in
    ap (promise_range_at v) (regroup (range_text range) (ballot_text ballot) (votes_text_at v votes) rest)
    ∙ rw (
      range_place_again range ballot (votes_text_at v votes ++ rest) ranges.0 ranges.1,
      reported_again v range ballot votes rest ranges.0 (record { len = refl; rising = reported.rising; ballots = ranges.2; below = reported.below; right = reported.right; has = has }),
    ) refl
