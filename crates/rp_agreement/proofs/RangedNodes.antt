-- The result of any input at a node is in range.
use Rattle.std.proofs.Common.{◌≡◌, ℕ, zero, suc, ◌+◌, ◌-◌, ◌<◌, ◌≤◌, min, Bool, true, false, if◌then◌else◌, Result, Ok, Err, Option, Some, None, List, [], ◌∷◌, ◌++◌, length, take, drop, inl, inr, refl, sym, subst, arith}
use Rattle.std.specs.Prelude.{nat_lt, nat_le, IfSome, ◌^◌, ◌||◌, not, nat_eq}
use Rattle.std.specs.List.{AllByRecursion, list_any}
use Rattle.std.proofs.lemmas.Bool.{or_cases, and_parts, leb-true, ltb-true, ltb-false, le-leb, both_ways}
use Rattle.std.proofs.lemmas.List.{length-take, length-drop}
use Rattle.std.proofs.lemmas.List.Elements.{All-from_recursion}
use Rattle.rp_base.specs.declared.action.Action.{Action}
use Rattle.rp_base.specs.declared.action.Action.TheVariants as actions
use Rattle.rp_base.specs.declared.fault.Fault.{Fault}
use Rattle.rp_base.specs.declared.record.Vote.{Vote}
use Rattle.rp_base.specs.declared.record.Rec.{Rec}
use Rattle.rp_base.specs.declared.record.Rec.TheVariants.{Started, Promised, Voted, Learned, PromisedRange}
use Rattle.rp_base.specs.Action.{IsRight}
use Rattle.rp_base.specs.Ballot.{IsBallot, round_of, next_ballot}
use Rattle.rp_base.specs.Config.{IsRightConfig}
use Rattle.rp_base.specs.Number.{IsNode, IsPosition, in_range}
use Rattle.rp_base.specs.Promises.{highest_vote}
use Rattle.rp_base.specs.Proposals.{Proposal, new_proposal, without_proposal, proposal_at, with_proposal, as_offered, range_proposal, with_range}
use Rattle.rp_base.specs.Records.{learned_at, learned_run, unless_missing, applied_of, first_unlearned}
use Rattle.rp_base.specs.Right.{IsRightVote}
use Rattle.rp_base.specs.Sets.{Has}
use Rattle.rp_base.proofs.Members.{has_passing, mapped_has}
use Rattle.rp_base.specs.Ranges.{Range, IsRange, positions_of, range_of}
use Rattle.rp_base.specs.declared.fault.Fault.TheVariants.{BadConfig, LogFull}
use Rattle.rp_codec.specs.Message.{Message, IsPacket, IsBody, MaySay, IsVoteBelow, report_len}
use Rattle.rp_codec.specs.Record.{IsRecord}
use Rattle.rp_codec.specs.declared.packet.Party.{Party}
use Rattle.rp_codec.specs.declared.packet.Party.TheVariants.{Node, Task, Audit}
use Rattle.rp_codec.specs.declared.packet.Body.{Body}
use Rattle.rp_codec.specs.declared.packet.Body.TheVariants as bodies
use Rattle.rp_machine.specs.Replay.{replay_answers}
use Rattle.rp_agreement.specs.Answered.{answers_of}
use Rattle.rp_agreement.specs.Inputs.{IsInput}
use Rattle.rp_agreement.specs.Ranges.{IsRangedProposal, IsRangedRunning}
use Rattle.rp_agreement.proofs.AnswerTurns.{has_dropped}
use Rattle.rp_agreement.proofs.Lists.{found_has}
use Rattle.rp_agreement.proofs.Leaders.{next_owned, own_is_so, unless_is_so}
use Rattle.rp_agreement.proofs.LogKeeping.{applied_in_log}
use Rattle.rp_agreement.proofs.TaskEffects.{leb_not}
use Rattle.rp_agreement.proofs.RangedParts.{AreRecords, learned_ranged, with_ranged, without_ranged, written_ranged, AreProposals, offer_ranged}
use Rattle.rp_agreement.proofs.RangedTurns.{ArePackets, AreReplies, IsRangedTurn, no_packets, one_packet, both_packets, noted, sending, writing, said, said_to_all, said_to_others, replies_ranged, range_position}
use Rattle.rp_model.specs.Effect.{Setting, NodeInput, running_effect}
use Rattle.rp_model.specs.Leader.{is_out_of_reach, unlearned_in}
use Rattle.rp_model.specs.Learner.{missing_position, asks_for, missing_in_window, asks_for_each}
use Rattle.rp_model.specs.Node.{RunningNode, running_node, counted_by, given_by, own_for}
use Rattle.rp_model.specs.Parts.{Running, Turn}
use Rattle.rp_model.specs.Pending.{own_action}
use Rattle.rp_model.specs.Plans.{offered_running, once_counted, once_learned, report_of, turn_of}
use Rattle.rp_model.specs.Receiving.{sender_number}
use Rattle.rp_model.specs.Says.{says, says_to_all, says_to_others, says_to_task, sends, writes}
use Rattle.rp_model.specs.declared.plan.CountedPromise.{CountedPromise}
use Rattle.rp_model.specs.declared.plan.Plan.{Plan}
use Rattle.rp_model.specs.declared.plan.Plan.TheVariants as plans
use Rattle.rp_model.proofs.EveryPlan.{Came, Brings, ByCall, ByInterrupt, ByTick, Saw, SawPromise, SawPrepared, SawPlace, promised_is, offered_is, by_plan}
use Rattle.rp_model.specs.Leader.{chosen_position, free_from, is_free_position, starts_above, ballot_of, is_exhausted}
use Rattle.rp_model.specs.Learner.{learns_above}
use Rattle.rp_model.proofs.Missing.{is_missing}
use Rattle.rp_model.specs.Parts.{is_in_log}
use Rattle.rp_base.specs.PlacedVotes.{last_votes}
use Rattle.rp_base.specs.Proposals.{with_promise, after_promise}
use Rattle.std.proofs.Common.{◌∙◌}
use Rattle.rp_base.proofs.Members.{has_split}
use Rattle.rp_agreement.proofs.AnswerTurns.{kept_is_given, has_dropped}
use Rattle.rp_base.specs.Promises.{Promise}
use Rattle.rp_agreement.proofs.RangedParts.{bound_ballot, promise_ranged, after_ranged}
use Rattle.rp_base.proofs.ReportedVotes.{votes_are_reported}
use Rattle.rp_base.specs.Records.{bound_at}
use Rattle.rp_model.proofs.EveryPlan.{Asks, ForPromise, ForRange, ForVote}
use Rattle.rp_agreement.proofs.Leaders.{own_offer}
use Rattle.rp_agreement.proofs.RangedTurns.{replied_task, range_promised, refused_ranged, knows_with, last_reported, last_vote_ranges, placed_ballots, each_right_record, IsPlacedBallot}
use Rattle.std.proofs.lemmas.Bool.{ltb-true}

-- ---- what is applied

-- each action is right
abbrev pub AllRight : List Action → Type 0
AllRight actions = (action : Action) → Has action actions → IsRight action

one_more : (v : Option Action) (rest : List Action) → IfSome v IsRight → AllRight rest → AllRight (unless_missing v rest)
one_more None rest one all action h = absurd h
one_more (Some v) rest one all action h = elim h [ inl same ↦ subst IsRight (sym same) one | inr later ↦ all action later ]

learned_right : (records : List Rec) (i : ℕ) (v : Option Action) → AreRecords records → learned_at records i ≡ v → IfSome v IsRight
learned_right records i None all is = tt
learned_right records i (Some v) all is = learned_ranged records i v all is

run_right : (records : List Rec) (most i : ℕ) → AreRecords records → AllRight (learned_run records most i)
run_right records zero i all = λ action h. absurd h
run_right records (suc most) i all =
    one_more (learned_at records i) (learned_run records most (suc i)) (learned_right records i (learned_at records i) all refl) (run_right records most (suc i) all)

pub applied_right : (records : List Rec) → AreRecords records → AllRight (applied_of records)
applied_right records all = run_right records (length records) 1 all

in_widest_log : (rec : Rec) → IsRecord rec → is_in_log (2 ^ 16 - 1) rec ≡ true
in_widest_log (Started ballot) is = refl
in_widest_log (Promised position ballot) is = le-leb position (2 ^ 16 - 1) (omega (arith, is.ranges.0.1))
in_widest_log (Voted position ballot action) is = le-leb position (2 ^ 16 - 1) (omega (arith, is.ranges.0.1))
in_widest_log (Learned position action) is = le-leb position (2 ^ 16 - 1) (omega (arith, is.ranges.1))
in_widest_log (PromisedRange range ballot) is = le-leb range.first (2 ^ 16 - 1) (omega (arith, is.ranges.0.first.1))

applied_few : (records : List Rec) → AreRecords records → length (applied_of records) ≤ 2 ^ 16 - 1
applied_few records all = applied_in_log records (2 ^ 16 - 1) (λ rec h. in_widest_log rec (all rec h))

-- ---- a report

each_right : (actions : List Action) → AllRight actions → AllByRecursion IsRight actions
each_right [] all = tt
each_right (action ∷ rest) all = (all action (inl refl), each_right rest (λ other h. all other (inr h)))

has_taken : (n : ℕ) (x : Action) (xs : List Action) → Has x (take n xs) → Has x xs
has_taken zero x xs h = absurd h
has_taken (suc n) x [] h = h
has_taken (suc n) x (y ∷ ys) h = elim h [ inl same ↦ inl same | inr later ↦ inr (has_taken n x ys later) ]

report_length : (first : ℕ) (actions : List Action) → IsPosition first → length (take (report_len first (length actions)) (drop (first - 1) actions)) ≡ report_len first (length actions)
report_length first actions place =
    let taken : length (take (report_len first (length actions)) (drop (first - 1) actions)) ≡ min (report_len first (length actions)) (length (drop (first - 1) actions)) =
    length-take (report_len first (length actions)) (drop (first - 1) actions) in
    let dropped : length (drop (first - 1) actions) ≡ length actions - (first - 1) = length-drop (first - 1) actions in
    omega (arith, taken, dropped, place.0)

report_packet : (me first : ℕ) (records : List Rec) → IsNode me → IsPosition first → AreRecords records → IsPacket (report_of me first (applied_of records))
report_packet me first records mine place all =
    let few : length (applied_of records) ≤ 2 ^ 16 - 1 = applied_few records all in
    let stated = take (report_len first (length (applied_of records))) (drop (first - 1) (applied_of records)) in
    record {
      ranges = record { from = mine; to = tt; body = (place, omega (arith, few)) };
      rules = (
        tt,
        tt,
        record {
          len = report_length first (applied_of records) place;
          right = All-from_recursion IsRight stated (each_right stated (λ action h.
              applied_right records all action (has_dropped (first - 1) action (applied_of records) (has_taken (report_len first (length (applied_of records))) action _ h))));
        },
      );
    }

-- ---- a ballot and a position to lead in

next_ranged : (me floor : ℕ) → IsNode me → round_of (next_ballot me floor) < 2 ^ 32 → IsBallot (next_ballot me floor)
next_ranged me floor mine small = record {
  round = (omega (arith, mine.0, mine.1), small);
  owner = subst IsNode (sym (next_owned me floor (omega (arith, mine.1)))) mine;
}

free_above : (nodes : ℕ) (records : List Rec) (proposals : List Proposal) (most i : ℕ) → i ≤ free_from nodes records proposals most i
free_above nodes records proposals zero i = omega arith
free_above nodes records proposals (suc most) i =
    let more : suc i ≤ free_from nodes records proposals most (suc i) = free_above nodes records proposals most (suc i) in
    free_either (is_free_position nodes records proposals i) (omega (arith, more))
  where
    free_either : (b : Bool) {j : ℕ} → i ≤ j → i ≤ (if b then i else j)
    free_either true low = omega arith
    free_either false low = low

chosen_low : (nodes : ℕ) (records : List Rec) (running : Running) (choice : Option ℕ) → IfSome choice IsPosition → 1 ≤ chosen_position nodes records running choice
chosen_low nodes records running None is = free_above nodes records running.proposals (length records + length running.proposals) 1
chosen_low nodes records running (Some i) is = is.0

-- a position that is within reach is one of the log
within_reach : (most : ℕ) (records : List Rec) (i : ℕ) → is_out_of_reach most records i ≡ false → i ≤ most
within_reach most records i e = ltb-false most i (no_first (nat_lt most i) _ e)
  where
    no_first : (a b : Bool) → (a || b) ≡ false → a ≡ false
    no_first true b e = absurd (both_ways true e refl)
    no_first false b e = refl

own_right : (kept : List Action) (others : List Proposal) (pending : List Action) → AllRight pending → IsRight (own_action kept others pending)
own_right kept others pending all = own_is_so IsRight kept others pending tt all

-- ---- a range to lead in

-- a first position and a count that make a range make one within the log's numbers
range_is : (first count : ℕ) (range : Range) → IsPosition first → range_of first count ≡ Ok range → IsRange range
range_is first count range place is = by (in_range 1 64 count) (nat_lt (2 ^ 16) (first + count)) refl refl is
  where
    made : Range
    made = record { first = first; count = count }

    by : (right long : Bool) → in_range 1 64 count ≡ right → nat_lt (2 ^ 16) (first + count) ≡ long
        → (let r : Result Range Fault = if not right then Err BadConfig else if long then Err LogFull else Ok made in r ≡ Ok range) → IsRange range
    by true true counted full e = absurd (cc)
    by true false counted fits e =
        let both = and_parts (nat_le 1 count) (nat_le count 64) counted in
        let low : 1 ≤ count = leb-true 1 count both.0 in
        let few : count ≤ 64 = leb-true count 64 both.1 in
        let last : first + count ≤ 2 ^ 16 = ltb-false (2 ^ 16) (first + count) fits in
        let is : IsRange made = record { first = place; count = (low, few); last = last } in
        subst IsRange (cc) is
    by false long counted fits e = absurd (cc)

begun_ranged : (b : ℕ) (positions : List ℕ) (proposals : List Proposal) → IsBallot b → ((i : ℕ) → Has i positions → IsPosition i) → AreProposals proposals → AreProposals (with_range proposals b positions)
begun_ranged b [] proposals ballot places all = all
begun_ranged b (i ∷ rest) proposals ballot places all =
    let new : IsRangedProposal (range_proposal b i) = record { position = places i (inl refl); ballot = ballot; own = tt; reported = λ a vote h. absurd h } in
    begun_ranged b rest (with_proposal proposals (range_proposal b i)) ballot (λ j h. places j (inr h)) (with_ranged proposals (range_proposal b i) all new)

-- ---- what is missing below a learned position

-- some record learns an action above
above_has : (i : ℕ) (records : List Rec) → AreRecords records → list_any (learns_above i) records ≡ true → i < 2 ^ 16
above_has i [] all e = absurd (both_ways false refl e)
above_has i (rec ∷ rest) all e =
    elim (or_cases (learns_above i rec) (list_any (learns_above i) rest) e) [
      | inl hit ↦ by_record rec (all rec (inl refl)) hit
      | inr following ↦ above_has i rest (λ other h. all other (inr h)) following
    ]
  where
    by_record : (one : Rec) → IsRecord one → learns_above i one ≡ true → i < 2 ^ 16
    by_record (Started ballot) is hit = absurd (both_ways false refl hit)
    by_record (Promised position ballot) is hit = absurd (both_ways false refl hit)
    by_record (Voted position ballot action) is hit = absurd (both_ways false refl hit)
    by_record (Learned position action) is hit = let below : i < position = ltb-true i position hit in omega (arith, below, is.ranges.1)
    by_record (PromisedRange range ballot) is hit = absurd (both_ways false refl hit)

missing_if : (records : List Rec) (b : Bool) → (b ≡ true → first_unlearned records < 2 ^ 16) → IfSome (let o : Option ℕ = if b then Some (first_unlearned records) else None in o) IsPosition
missing_if records true below = (omega arith, below refl)
missing_if records false below = tt

missing_ranged : (records : List Rec) → AreRecords records → IfSome (missing_position records) IsPosition
missing_ranged records all =
    missing_if records (list_any (learns_above (first_unlearned records)) records) (above_has (first_unlearned records) records all)

asked_ranged : (me from : ℕ) (missing : Option ℕ) → IsNode me → IsNode from → IfSome missing IsPosition → ArePackets (asks_for me from missing)
asked_ranged me from None mine theirs is = no_packets
asked_ranged me from (Some i) mine theirs is = one_packet _ (said me from (bodies.Ask i) mine theirs is (tt, tt))

-- questions for what is missing
missing_asked : (me to most : ℕ) (records : List Rec) → IsNode me → IsNode to → IsPosition most → ArePackets (asks_for_each me to (missing_in_window most records))
missing_asked me to most records mine theirs high m h =
    let hit = mapped_has (λ (i : ℕ). says me (bodies.Ask i) to) m (missing_in_window most records) h in
    let there = (is_missing most hit.0 records).0 hit.1 in
    subst IsPacket (sym hit.2) (said me to (bodies.Ask hit.0) mine theirs (omega (arith, there.0), omega (arith, there.2, high.1)) (tt, tt))

-- ---- what came

audit_says : (to : Party) (body : Body) → ¬ MaySay Audit to body
audit_says to (bodies.Promise i b last) may = may.0.0
audit_says to (bodies.Accept i b v) may = may.0.0
audit_says to (bodies.Accepted i b v) may = may.0.0
audit_says to (bodies.Decided i v) may = may.0.0
audit_says to (bodies.Nack i b bound) may = may.0.0
audit_says to (bodies.PromiseRange range b votes) may = may.0.0
audit_says to _ may = may.0

-- what came from a node is in range
record FromNode (from : ℕ) (body : Body) : Type 0 where
  node : IsNode from
  ranges : IsBody body
  to : Party
  may : MaySay (Node from) to body

party_says : (p to : Party) (from : ℕ) (body : Body) → IsPacket (record { from = p; to = to; body = body }) → sender_number p ≡ from → ((t : ℕ) → ¬ MaySay (Task t) to body) → FromNode from body
party_says (Node a) to from body is number none = subst (λ (k : ℕ). FromNode k body) number (record { node = is.ranges.from; ranges = is.ranges.body; to = to; may = is.rules })
party_says (Task t) to from body is number none = absurd (none t is.rules)
party_says Audit to from body is number none = absurd (audit_says to body is.rules)

call_right : (p to : Party) (call : Action) → IsPacket (record { from = p; to = to; body = bodies.Call call }) → IsRight call
call_right (Node a) to call is = absurd is.rules.0
call_right (Task t) to call is = is.rules.3
call_right Audit to call is = absurd (audit_says to (bodies.Call call) is.rules)

vote_right : (b : ℕ) (last : Option Vote) → IfSome last (λ vote. IsVoteBelow b vote) → IfSome last IsRightVote
vote_right b None is = tt
vote_right b (Some vote) is = is.1

-- the result of a turn, if it is not refused
abbrev pub IsRangedIf : Result Turn Fault → Type 0
IsRangedIf (Ok turn) = IsRangedTurn turn
IsRangedIf (Err fault) = Unit {0}

-- ---- each plan

module _ {S : Type 0} (s : Setting S) (fits : (actions : List Action) → AllRight actions → AreReplies (answers_of s actions))
    (me : ℕ) (records : List Rec) (running : Running) (sent : List Message) (input : NodeInput)
    (right : IsRightConfig s.config) (mine : IsNode me) (all : AreRecords records) (runs : IsRangedRunning running) (packets : ArePackets sent) (given : IsInput sent input) where
  abbrev here : RunningNode S
  here = running_node s me records running

  abbrev few : s.config.nodes ≤ 7
  few = right.nodes.1

  came_packet : (from : ℕ) (body : Body) (came : Came here input from body) → IsPacket (record { from = came.message.from; to = came.message.to; body = body })
  came_packet from body came =
      let m = came.message in
      subst (λ (said : Body). IsPacket (record { from = m.from; to = m.to; body = said })) came.says
      (packets m (subst (λ (i : NodeInput). IsInput sent i) came.input_is given))

  said_by : (from : ℕ) (body : Body) → (came : Came here input from body) → ((t : ℕ) → ¬ MaySay (Task t) came.message.to body) → FromNode from body
  said_by from body came none = party_says came.message.from came.message.to from body (came_packet from body came) came.sender none

  item_right : (item : Action) → Brings here input item → IsRight item
  item_right item (ByCall from task number object operation arg came is) = call_right came.message.from came.message.to item (came_packet from (bodies.Call item) came)
  item_right item (ByInterrupt source occurrence brought is) = subst IsRight (sym is) (subst (λ (i : NodeInput). IsInput sent i) brought given)
  item_right item (ByTick now brought is) = subst IsRight (sym is) (subst (λ (i : NodeInput). IsInput sent i) brought given)

  place_ranged : (i : ℕ) → SawPlace here input i → IsPosition i
  place_ranged i saw =
      let choice = subst (λ (j : NodeInput). IsInput sent j) saw.input_is given in
      let low : 1 ≤ i = subst (λ (j : ℕ). 1 ≤ j) saw.chosen (chosen_low s.config.nodes records running saw.choice choice) in
      let within : i ≤ s.config.max_positions = within_reach s.config.max_positions records i saw.within in
      let most : s.config.max_positions < 2 ^ 16 = right.positions.1 in
      (low, omega (arith, within, most))

  ballot_ranged : (b : ℕ) → ballot_of here ≡ b → is_exhausted here ≡ false → IsBallot b
  ballot_ranged b is left = subst IsBallot is (next_ranged me (starts_above records running) mine (leb_not (2 ^ 32) (round_of (ballot_of here)) left))

  own_ranged : (i : ℕ) → IsRight (own_for here i)
  own_ranged i = own_right (counted_by here) (without_proposal running.proposals i) running.pending runs.pending

  proposal_ranged : (i : ℕ) (p : Proposal) → proposal_at running.proposals i ≡ Some p → IsRangedProposal p
  proposal_ranged i p is = runs.proposals p (found_has (λ (q : Proposal). nat_eq q.position i) p running.proposals is).0

  says_one : (body : Body) (to : ℕ) → IsNode to → IsBody body → MaySay (Node me) (Node to) body → IsRangedTurn (sends running (says me body to ∷ []))
  says_one body to theirs ranges may = sending running (says me body to ∷ []) runs (one_packet _ (said me to body mine theirs ranges may))

  writes_one : (rec : Rec) (body : Body) (to : ℕ) → IsRecord rec → IsNode to → IsBody body → MaySay (Node me) (Node to) body → IsRangedTurn (writes rec running (says me body to ∷ []))
  writes_one rec body to one theirs ranges may = writing rec running (says me body to ∷ []) one runs (one_packet _ (said me to body mine theirs ranges may))

  learns_ranged : (i : ℕ) (v : Action) (before following : List Message) → IsPosition i → IsRight v → ArePackets before → ArePackets following → IsRangedTurn (once_learned here i v before following)
  learns_ranged i v before following place may first last =
      let one : IsRecord (Learned i v) = record { ranges = place; right = may } in
      let answered = replay_answers s.next s.answers s.begin (applied_of (records ++ Learned i v ∷ [])) in
      let fit : AreReplies answered = fits (applied_of (records ++ Learned i v ∷ [])) (applied_right (records ++ Learned i v ∷ []) (written_ranged records (Some (Learned i v)) all one)) in
      let new = drop (length (replay_answers s.next s.answers s.begin (applied_of records))) answered in
      writing (Learned i v) _ _ one
      (record { proposals = without_ranged running.proposals i runs.proposals; pending = λ item h. runs.pending item (has_passing _ item running.pending h).0 })
      (both_packets _ following (both_packets before _ first
      (replies_ranged me running.pending new mine runs.pending (λ answer h. fit answer (has_dropped (length (replay_answers s.next s.answers s.begin (applied_of records))) answer answered h))))
      last)

  -- the position and the ballot that are refused
  asks_ranged : (to i b : ℕ) → Asks here input to i b → IsNode to × IsPosition i × IsBallot b
  asks_ranged to i b (ForPromise came) = let is = said_by to (bodies.Prepare i b) came (λ t may. absurd may.0) in (is.node, is.ranges.0, is.ranges.1)
  asks_ranged to i b (ForRange range came at) =
      let is = said_by to (bodies.PrepareRange range b) came (λ t may. absurd may.0) in
      let found = found_has (λ (k : ℕ). nat_lt b (bound_at records k)) i (positions_of range) at in
      (is.node, range_position range i is.ranges.0 found.0, is.ranges.1)
  asks_ranged to i b (ForVote v came) = let is = said_by to (bodies.Accept i b v) came (λ t may. absurd may.0.0) in (is.node, is.ranges.0, is.ranges.1)

  -- what is known once a promise counts, and what it counts for
  counted : (promise : CountedPromise) (majority : Bool) (saw : SawPromise here input promise majority)
      → IsRangedRunning (once_counted here promise) × IsRangedProposal (with_promise saw.proposal (promise.from, promise.last)) × IsPosition promise.position × IsBallot promise.ballot
  counted promise majority saw =
      let body = bodies.Promise promise.position promise.ballot promise.last in
      let is = said_by promise.from body saw.came (λ t may. absurd may.0.0) in
      let p = saw.proposal in
      let one : Promise = (promise.from, promise.last) in
      let taken = promise_ranged p promise.from promise.last (proposal_ranged promise.position p saw.found) (vote_right promise.ballot promise.last is.may.1) in (
        subst IsRangedRunning (sym (promised_is here input promise majority saw)) (knows_with running (after_promise s.config.nodes p one) runs (after_ranged s.config.nodes p one taken)),
        taken,
        is.ranges.0,
        is.ranges.1,
      )

  offers_prepared : (i b : ℕ) (v : Action) → SawPrepared here input i b v → IsRangedTurn (turn_of here (plans.OfferPrepared i b v))
  offers_prepared i b v saw =
      let p = saw.proposal in
      let is = proposal_ranged i p saw.found in
      let own = own_for here i in
      let after = as_offered own p in
      let new : IsRangedProposal after = record { position = is.position; ballot = is.ballot; own = unless_is_so IsRight own (highest_vote p.promises) (own_ranged i); reported = is.reported } in
      let may = subst IsRight (own_offer own (highest_vote p.promises) ∙ saw.action_is) (offer_ranged after new) in
      let accept = bodies.Accept i b v in
      sending (offered_running s.config.nodes running v (proposal_at running.proposals i)) (says_to_all s.config.nodes me accept)
      (subst IsRangedRunning (sym (offered_is here input i b v saw)) (record { proposals = with_ranged running.proposals after runs.proposals new; pending = runs.pending }))
      (said_to_all s.config.nodes me accept few mine (place_ranged i saw.place, subst IsBallot saw.ballot is.ballot) (λ k. ((tt, tt), may)))

  plan_ranged : (plan : Plan) → Saw here input plan → IsRangedTurn (turn_of here plan)
  plan_ranged (plans.Pass dropped) saw = record { written = tt; running = runs; sent = no_packets }
  plan_ranged (plans.Promise header last) saw =
      let is = said_by header.to (bodies.Prepare header.position header.ballot) saw.came (λ t may. absurd may.0) in
      let votes = last_vote_ranges header.ballot last (last_reported records header.position header.ballot last saw.last_is all saw.above) in
      writes_one (Promised header.position header.ballot) (bodies.Promise header.position header.ballot last) header.to (record { ranges = (is.ranges.0, is.ranges.1); right = tt }) is.node
      (is.ranges.0, is.ranges.1, votes.0) ((tt, tt), votes.1)
  plan_ranged (plans.PromiseRange p) saw =
      let is = said_by p.to (bodies.PrepareRange p.range p.ballot) saw.came (λ t may. absurd may.0) in
      let votes = last_votes records p.range in
      writes_one (PromisedRange p.range p.ballot) (bodies.PromiseRange p.range p.ballot votes) p.to (record { ranges = (is.ranges.0, is.ranges.1); right = tt }) is.node
      (is.ranges.0, is.ranges.1, All-from_recursion IsPlacedBallot votes (placed_ballots records (positions_of p.range) all))
      ((tt, tt), votes_are_reported records p.range p.ballot (each_right_record records all) saw.above)
  plan_ranged (plans.Vote header v) saw =
      let is = said_by header.to (bodies.Accept header.position header.ballot v) saw.came (λ t may. absurd may.0.0) in
      writes_one (Voted header.position header.ballot v) (bodies.Accepted header.position header.ballot v) header.to (record { ranges = (is.ranges.0, is.ranges.1); right = is.may.1 }) is.node
      (is.ranges.0, is.ranges.1) ((tt, tt), is.may.1)
  plan_ranged (plans.Repeat to i b v) saw =
      let is = said_by to (bodies.Accept i b v) saw.came (λ t may. absurd may.0.0) in
      says_one (bodies.Accepted i b v) to is.node (is.ranges.0, is.ranges.1) ((tt, tt), is.may.1)
  plan_ranged (plans.Refuse to i b bound) saw =
      let is = asks_ranged to i b saw.asks in
      let over : b < bound_at records i = ltb-true b (bound_at records i) saw.below in
      says_one (bodies.Nack i b bound) to is.0 (is.1, is.2, subst IsBallot saw.bound_is (bound_ballot records i b all over)) ((tt, tt), subst (λ (c : ℕ). b < c) saw.bound_is over)
  plan_ranged (plans.Inform to i v) saw =
      let is = said_by to (bodies.Ask i) saw.came (λ t may. absurd may.0) in
      says_one (bodies.Decided i v) to is.node is.ranges ((tt, tt), learned_right records i (Some v) all saw.learned)
  plan_ranged (plans.Answer task number reply) saw =
      let call = actions.Call task number saw.object saw.operation saw.arg in
      let names = call_right saw.came.message.from saw.came.message.to call (came_packet saw.from (bodies.Call call) saw.came) in
      let fit = fits (applied_of records) (applied_right records all) in
      sending running (says_to_task me (bodies.Reply number reply) task ∷ []) runs
      (one_packet _ (replied_task me task number reply mine names.0 names.1 (fit _ (kept_is_given task number (counted_by here) (given_by here) reply saw.kept))))
  plan_ranged (plans.Await item) saw = noted _ (record {
    proposals = runs.proposals;
    pending = λ c h. elim (has_split c running.pending (item ∷ []) h) [
      | inl old ↦ runs.pending c old
      | inr new ↦ elim new [ inl same ↦ subst IsRight (sym same) (item_right item saw.brought) | inr none ↦ absurd none ]
    ];
  })
  plan_ranged (plans.Lead i b own) saw =
      let place = place_ranged i saw.place in
      let ballot = ballot_ranged b saw.ballot saw.left in
      let new : IsRangedProposal (new_proposal i b (Some own)) = record { position = place; ballot = ballot; own = subst IsRight saw.own_is (own_ranged i); reported = λ a vote h. absurd h } in
      writing (Started b) _ (says_to_all s.config.nodes me (bodies.Prepare i b)) (record { ranges = ballot; right = tt }) (knows_with running (new_proposal i b (Some own)) runs new)
      (said_to_all s.config.nodes me (bodies.Prepare i b) few mine (place, ballot) (λ k. (tt, tt)))
  plan_ranged (plans.LeadRange range b) saw =
      let ranges : IsRange range = range_is saw.first saw.count range (subst (λ (i : NodeInput). IsInput sent i) saw.input_is given) saw.range_is in
      let ballot = ballot_ranged b saw.ballot saw.left in
      writing (Started b) _ (says_to_all s.config.nodes me (bodies.PrepareRange range b)) (record { ranges = ballot; right = tt })
      (record {
        proposals = begun_ranged b (unlearned_in records range) running.proposals ballot (λ i h. range_position range i ranges (has_passing _ i (positions_of range) h).0) runs.proposals;
        pending = runs.pending;
      })
      (said_to_all s.config.nodes me (bodies.PrepareRange range b) few mine (ranges, ballot) (λ k. (tt, tt)))
  plan_ranged (plans.OfferPrepared i b v) saw = offers_prepared i b v saw
  plan_ranged (plans.CountPromise promise) saw = noted _ (counted promise false saw).0
  plan_ranged (plans.CountRangePromise p) saw =
      let is = said_by p.from (bodies.PromiseRange p.range p.ballot p.votes) saw (λ t may. absurd may.0.0) in
      noted _ (range_promised s.config.nodes p.from p.range p.ballot p.votes running is.may.1 runs)
  plan_ranged (plans.Offer promise v) saw =
      let is = counted promise true saw.promised in
      let after = with_promise saw.promised.proposal (promise.from, promise.last) in
      let may = subst IsRight saw.action_is (offer_ranged after is.1) in
      let accept = bodies.Accept promise.position promise.ballot v in
      sending _ (says_to_all s.config.nodes me accept) is.0 (said_to_all s.config.nodes me accept few mine (is.2, is.3) (λ k. ((tt, tt), may)))
  plan_ranged (plans.Yield i b bound) saw = noted _ (refused_ranged s.config.nodes running i b bound runs)
  plan_ranged (plans.CountVote from i vote) saw = noted _ (record { proposals = runs.proposals; pending = runs.pending })
  plan_ranged (plans.Learn i v) saw =
      let is = said_by saw.from (bodies.Accepted i saw.ballot v) saw.vote.came (λ t may. absurd may.0.0) in
      let decided = bodies.Decided i v in
      learns_ranged i v (says_to_others s.config.nodes me decided) [] is.ranges.0 is.may.1 (said_to_others s.config.nodes me decided few mine is.ranges.0 (λ k. ((tt, tt), is.may.1))) no_packets
  plan_ranged (plans.Follow from i v) saw =
      let is = said_by from (bodies.Decided i v) saw.came (λ t may. absurd may.0.0) in
      let more = records ++ Learned i v ∷ [] in
      let one : IsRecord (Learned i v) = record { ranges = is.ranges; right = is.may.1 } in
      learns_ranged i v [] (asks_for me from (missing_position more)) is.ranges is.may.1 no_packets
      (asked_ranged me from (missing_position more) mine is.node (missing_ranged more (written_ranged records (Some (Learned i v)) all one)))
  plan_ranged (plans.Report first) saw =
      sending running (report_of me first (applied_of records) ∷ []) runs
      (one_packet _ (report_packet me first records mine (subst (λ (i : NodeInput). IsInput sent i) saw given) all))
  plan_ranged (plans.AskMissing to) saw =
      let theirs : IsNode to = subst (λ (i : NodeInput). IsInput sent i) saw.input_is given in
      sending running (asks_for_each me to (missing_in_window s.config.max_positions records)) runs
      (missing_asked me to s.config.max_positions records mine theirs right.positions)

  -- ---- any input

  turn_in_range : IsRangedIf (running_effect s me records running input)
  turn_in_range = by_plan here input IsRangedIf (λ fault. tt) plan_ranged

pub turn_ranged : {S : Type 0} (s : Setting S) (fits : (actions : List Action) → AllRight actions → AreReplies (answers_of s actions)) (me : ℕ) (records : List Rec) (running : Running) (sent : List Message) (input : NodeInput)
    → IsRightConfig s.config → IsNode me → AreRecords records → IsRangedRunning running → ArePackets sent → IsInput sent input → IsRangedIf (running_effect s me records running input)
turn_ranged s fits me records running sent input right mine all runs packets given = turn_in_range s fits me records running sent input right mine all runs packets given
