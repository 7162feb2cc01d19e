-- What a node's turn writes, knows and sends is in range.
use Rattle.std.proofs.Common.{◌≡◌, ℕ, zero, suc, ◌<◌, ◌≤◌, Bool, true, false, if◌then◌else◌, Option, Some, None, List, [], ◌∷◌, ◌++◌, map, inl, inr, refl, sym, subst, arith, ◌+◌}
use Rattle.std.specs.Prelude.{nat_eq, IfSome, filter, filter_map, option_map, find, not, ◌&&◌}
use Rattle.std.specs.List.{list_any}
use Rattle.std.proofs.lemmas.Bool.{and_parts, or_cases, eqb-true}
use Rattle.rp_base.specs.declared.action.Action.{Action}
use Rattle.rp_base.specs.declared.action.Action.TheVariants as actions
use Rattle.rp_base.specs.declared.reply.Answer.{Answer}
use Rattle.rp_base.specs.declared.reply.Reply.{Reply}
use Rattle.rp_base.specs.declared.record.Vote.{Vote}
use Rattle.rp_base.specs.declared.record.Rec.{Rec}
use Rattle.rp_base.specs.Action.{IsRight, IsCount}
use Rattle.rp_base.specs.Ballot.{IsBallot}
use Rattle.rp_base.specs.Number.{IsNode, IsTask, IsPosition}
use Rattle.rp_base.specs.Proposals.{Proposal, proposal_at, with_proposal, is_in, with_promise, once_promised, takes_range_promise, is_given_up}
use Rattle.rp_base.specs.Records.{bound_at, last_vote_at}
use Rattle.rp_base.specs.Right.{IsReply, IsRightVote, IsRightRecord}
use Rattle.rp_base.specs.Sets.{Has}
use Rattle.rp_base.proofs.Members.{has_split, has_passing, mapped_has}
use Rattle.rp_base.proofs.MoreRecords.{last_below}
use Rattle.rp_base.specs.Ranges.{Range, IsRange, positions_of, is_covered}
use Rattle.rp_base.specs.PlacedVotes.{placed_at, placed_last, AreReported}
use Rattle.rp_base.specs.declared.placed.PlacedVote.{PlacedVote}
use Rattle.std.specs.List.{range_with_len, AllByRecursion, cons_option}
use Rattle.std.proofs.lemmas.List.Elements.{recursion_from_All}
use Rattle.rp_codec.specs.Message.{Message, IsBody, IsPacket, IsVoteBelow, MaySay}
use Rattle.rp_codec.specs.declared.packet.Party.TheVariants.{Node}
use Rattle.rp_codec.specs.declared.packet.Body.{Body}
use Rattle.rp_codec.specs.declared.packet.Body.TheVariants as bodies
use Rattle.rp_codec.specs.Record.{IsRecord}
use Rattle.rp_machine.specs.Replay.{one_to}
use Rattle.rp_agreement.specs.Ranges.{IsRangedProposal, IsRangedRunning}
use Rattle.rp_agreement.proofs.RangedParts.{AreRecords, last_ranged, with_ranged, promise_ranged, passing_ranged}
use Rattle.rp_model.specs.Leader.{refused_running}
use Rattle.rp_model.specs.Parts.{Running, Turn}
use Rattle.rp_model.specs.Pending.{is_answered_by, replies_to}
use Rattle.rp_model.specs.Says.{says, says_to_all, says_to_others, says_to_task, sends, notes, writes}
use Rattle.rp_base.specs.Ballot.{greatest_with}

-- each packet is one
abbrev pub ArePackets : List Message → Type 0
ArePackets packets = (m : Message) → Has m packets → IsPacket m

-- what a turn writes, knows and sends is in range
pub record IsRangedTurn (turn : Turn) : Type 0 where
  pub written : IfSome turn.written IsRecord
  pub running : IsRangedRunning turn.running
  pub sent : ArePackets turn.sent

pub no_packets : ArePackets []
no_packets m h = absurd h

pub one_packet : (m : Message) → IsPacket m → ArePackets (m ∷ [])
one_packet m is k h = elim h [ inl same ↦ subst IsPacket (sym same) is | inr none ↦ absurd none ]

pub both_packets : (ms ks : List Message) → ArePackets ms → ArePackets ks → ArePackets (ms ++ ks)
both_packets ms ks left right m h = elim (has_split m ms ks h) [ inl before ↦ left m before | inr following ↦ right m following ]

mapped_packets : {A : Type 0} (f : A → Message) (xs : List A) → ((a : A) → Has a xs → IsPacket (f a)) → ArePackets (map f xs)
mapped_packets f xs each m h = let hit = mapped_has f m xs h in subst IsPacket (sym hit.2) (each hit.0 hit.1)

pub noted : (running : Running) → IsRangedRunning running → IsRangedTurn (notes running)
noted running is = record { written = tt; running = is; sent = no_packets }

pub sending : (running : Running) (packets : List Message) → IsRangedRunning running → ArePackets packets → IsRangedTurn (sends running packets)
sending running packets is all = record { written = tt; running = is; sent = all }

pub writing : (rec : Rec) (running : Running) (packets : List Message) → IsRecord rec → IsRangedRunning running → ArePackets packets → IsRangedTurn (writes rec running packets)
writing rec running packets one is all = record { written = one; running = is; sent = all }

-- what a node says to nodes
pub said : (me k : ℕ) (body : Body) → IsNode me → IsNode k → IsBody body → MaySay (Node me) (Node k) body → IsPacket (says me body k)
said me k body mine theirs ranges may = record { ranges = record { from = mine; to = theirs; body = ranges }; rules = may }

member_of : (n k : ℕ) → n ≤ 7 → Has k (one_to n) → IsNode k
member_of zero k few h = absurd h
member_of (suc n) k few h =
    elim (has_split k (one_to n) (suc n ∷ []) h) [
      | inl before ↦ member_of n k (omega (arith, few)) before
      | inr last ↦ elim last [ inl same ↦ (omega (arith, same), omega (arith, same, few)) | inr none ↦ absurd none ]
    ]

pub said_to_all : (nodes me : ℕ) (body : Body) → nodes ≤ 7 → IsNode me → IsBody body → ((k : ℕ) → MaySay (Node me) (Node k) body) → ArePackets (says_to_all nodes me body)
said_to_all nodes me body few mine ranges may = mapped_packets (says me body) (one_to nodes) (λ k h. said me k body mine (member_of nodes k few h) ranges (may k))

pub said_to_others : (nodes me : ℕ) (body : Body) → nodes ≤ 7 → IsNode me → IsBody body → ((k : ℕ) → MaySay (Node me) (Node k) body) → ArePackets (says_to_others nodes me body)
said_to_others nodes me body few mine ranges may =
    mapped_packets (says me body) _ (λ k h. said me k body mine (member_of nodes k few (has_passing _ k (one_to nodes) h).0) ranges (may k))

-- ---- promises

pub last_reported : (records : List Rec) (i b : ℕ) (last : Option Vote) → last_vote_at records i ≡ last → AreRecords records → bound_at records i < b
    → IfSome last (λ vote. IsBallot vote.ballot × IsVoteBelow b vote)
last_reported records i b None is all above = tt
last_reported records i b (Some vote) is all above =
    let cast = last_ranged records i vote all is in
    (cast.0, (last_below records i b vote is above, cast.1))

pub last_vote_ranges : (b : ℕ) (last : Option Vote) → IfSome last (λ vote. IsBallot vote.ballot × IsVoteBelow b vote)
    → IfSome last (λ vote. IsBallot vote.ballot) × IfSome last (λ vote. IsVoteBelow b vote)
last_vote_ranges b None is = (tt, tt)
last_vote_ranges b (Some vote) is = is

-- a position of a range
in_range_of : (first n i : ℕ) → Has i (range_with_len first n) → (first ≤ i) × (i < first + n)
in_range_of first zero i h = absurd h
in_range_of first (suc n) i h =
    elim h [
      | inl same ↦ (omega (arith, same), omega (arith, same))
      | inr later ↦ let is = in_range_of (first + 1) n i later in (omega (arith, is.0), omega (arith, is.1))
    ]

pub range_position : (range : Range) (i : ℕ) → IsRange range → Has i (positions_of range) → IsPosition i
range_position range i is h =
    let within = in_range_of range.first range.count i h in
    (omega (arith, within.0, is.first.0), omega (arith, within.1, is.last))

-- each vote that is reported is in a ballot
abbrev pub IsPlacedBallot : PlacedVote → Type 0
IsPlacedBallot placed = IsBallot placed.vote.ballot

one_placed : (i : ℕ) (o : Option Vote) (rest : List PlacedVote) → IfSome o (λ vote. IsBallot vote.ballot) → AllByRecursion IsPlacedBallot rest
    → AllByRecursion IsPlacedBallot (cons_option (option_map (λ vote. let placed : PlacedVote = record { position = i; vote = vote } in placed) o) rest)
one_placed i None rest one all = all
one_placed i (Some vote) rest one all = (one, all)

last_ballot : (records : List Rec) (i : ℕ) (last : Option Vote) → last_vote_at records i ≡ last → AreRecords records → IfSome last (λ vote. IsBallot vote.ballot)
last_ballot records i None is all = tt
last_ballot records i (Some vote) is all = (last_ranged records i vote all is).0

pub placed_ballots : (records : List Rec) (xs : List ℕ) → AreRecords records → AllByRecursion IsPlacedBallot (filter_map (placed_last records) xs)
placed_ballots records [] all = tt
placed_ballots records (i ∷ rest) all =
    one_placed i (last_vote_at records i) (filter_map (placed_last records) rest) (last_ballot records i (last_vote_at records i) refl all) (placed_ballots records rest all)

pub each_right_record : (records : List Rec) → AreRecords records → AllByRecursion IsRightRecord records
each_right_record [] all = tt
each_right_record (rec ∷ rest) all = ((all rec (inl refl)).right, each_right_record rest (λ other h. all other (inr h)))

-- ---- proposals

pub knows_with : (running : Running) (q : Proposal) → IsRangedRunning running → IsRangedProposal q → IsRangedRunning (record running { proposals = with_proposal running.proposals q })
knows_with running q runs one = record { proposals = with_ranged running.proposals q runs.proposals one; pending = runs.pending }

pub refused_ranged : (nodes : ℕ) (running : Running) (i b bound : ℕ) → IsRangedRunning running → IsRangedRunning (refused_running nodes running i b bound)
refused_ranged nodes running i b bound runs =
    let known : Running = record running { proposals = filter (λ p. not (is_given_up nodes i b p)) running.proposals; refused = greatest_with running.refused bound } in
    elim (is_in b (proposal_at running.proposals i)) as (λ t. IsRangedRunning (if t then known else running)) [
      | true ↦ record { proposals = passing_ranged running.proposals (λ p. not (is_given_up nodes i b p)) runs.proposals; pending = runs.pending }
      | false ↦ runs
    ]

vote_right_at : (votes : List PlacedVote) (i : ℕ) → AllByRecursion (λ placed. IsRightVote placed.vote) votes → IfSome (placed_at votes i) IsRightVote
vote_right_at [] i all = tt
vote_right_at (placed ∷ rest) i all = by (nat_eq placed.position i) (vote_right_at rest i all.1)
  where
    by : (t : Bool) → IfSome (placed_at rest i) IsRightVote
        → IfSome (option_map (λ p. p.vote) (if t then Some placed else find (λ p. nat_eq p.position i) rest)) IsRightVote
    by true later = all.0
    by false later = later

pub once_ranged : (nodes from : ℕ) (range : Range) (b : ℕ) (votes : List PlacedVote) (p : Proposal) → AllByRecursion (λ placed. IsRightVote placed.vote) votes → IsRangedProposal p
    → IsRangedProposal (once_promised nodes from range b votes p)
once_ranged nodes from range b votes p all is =
    elim (is_covered range p.position && takes_range_promise nodes b p)
    as (λ t. IsRangedProposal (let q : Proposal = if t then with_promise p (from, placed_at votes p.position) else p in q)) [
      | true ↦ promise_ranged p from (placed_at votes p.position) is (vote_right_at votes p.position all)
      | false ↦ is
    ]

pub range_promised : (nodes from : ℕ) (range : Range) (b : ℕ) (votes : List PlacedVote) (running : Running) → AreReported range b votes → IsRangedRunning running
    → IsRangedRunning (record running { proposals = map (once_promised nodes from range b votes) running.proposals })
range_promised nodes from range b votes running reported runs = record {
  proposals = λ q h.
      let hit = mapped_has (once_promised nodes from range b votes) q running.proposals h in
      subst IsRangedProposal (sym hit.2) (once_ranged nodes from range b votes hit.0 (recursion_from_All (λ placed. IsRightVote placed.vote) votes reported.right) (runs.proposals hit.0 hit.1));
  pending = runs.pending;
}

-- ---- replies

-- each of these replies fits
abbrev pub AreReplies : List Answer → Type 0
AreReplies given = (answer : Answer) → Has answer given → IsReply answer.reply

pub replied_task : (me task number : ℕ) (reply : Reply) → IsNode me → IsTask task → IsCount number → IsReply reply → IsPacket (says_to_task me (bodies.Reply number reply) task)
replied_task me task number reply mine theirs count fits = record { ranges = record { from = mine; to = theirs; body = fits }; rules = (tt, tt, count) }

-- ---- replies to what is pending

-- an answer to a right item is for a task, with a number from 1
answered_names : (answer : Answer) (item : Action) → is_answered_by answer item ≡ true → IsRight item → IsTask answer.task × IsCount answer.number
answered_names answer actions.Noop e right = absurd (cc)
answered_names answer (actions.Call task number object operation arg) e right =
    let both = and_parts (nat_eq task answer.task) (nat_eq number answer.number) e in
    (subst IsTask (eqb-true task answer.task both.0) right.0, subst IsCount (eqb-true number answer.number both.1) right.1)
answered_names answer (actions.Interrupt source occurrence) e right = absurd (cc)
answered_names answer (actions.Tick now) e right = absurd (cc)

-- some item that passes a test
any_has : (test : Action → Bool) (items : List Action) → list_any test items ≡ true → (item : Action) × Has item items × (test item ≡ true)
any_has test [] e = absurd (cc)
any_has test (item ∷ rest) e =
    elim (or_cases (test item) (list_any test rest) e) [
      | inl hit ↦ (item, inl refl, hit)
      | inr following ↦ let later = any_has test rest following in (later.0, inr later.1, later.2)
    ]

pub replies_ranged : (me : ℕ) (pending : List Action) (given : List Answer) → IsNode me → ((item : Action) → Has item pending → IsRight item) → AreReplies given
    → ArePackets (replies_to me pending given)
replies_ranged me pending given mine right fit =
    let test : Answer → Bool = λ answer. list_any (is_answered_by answer) pending in
    mapped_packets (λ (answer : Answer). says_to_task me (bodies.Reply answer.number answer.reply) answer.task) (filter test given)
    (λ answer h.
    let passes = has_passing test answer given h in
    let item = any_has (is_answered_by answer) pending passes.1 in
    let names = answered_names answer item.0 item.2 (right item.0 item.1) in
    replied_task me answer.task answer.number answer.reply mine names.0 names.1 (fit answer passes.0))
