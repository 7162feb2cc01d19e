-- The votes of a promise for a range that are read are those that were written, and what was written is read again.
use Rattle.std.proofs.Common.{◌≡◌, ℕ, zero, suc, ◌+◌, ◌^◌, ◌<◌, ◌≤◌, true, leb, ltb, ◌&&◌, List, [], ◌∷◌, ◌++◌, length, Ok, refl, sym, ap, subst, ◌∙◌, append_assoc, arith}
use Rattle.std.specs.Prelude.{All, flat_map}
use Rattle.std.proofs.lemmas.Bool.{and_parts, and_from, leb-true, le-leb, ltb-true, lt-ltb}
use Rattle.std.proofs.lemmas.List.Elements.{All-nil, All-cons, All-head, All-tail}
use Rattle.rp_base.specs.Number.{IsPosition}
use Rattle.rp_base.specs.Ballot.{IsBallot}
use Rattle.rp_base.specs.Right.{IsRightVote}
use Rattle.rp_base.specs.declared.placed.PlacedVote.{PlacedVote}
use Rattle.rp_base.specs.PlacedVotes.{AreRising}
use Rattle.rp_base.specs.Ranges.{Range, end_of, IsRange}
use Rattle.rp_codec.specs.declared.version.Version.{Version}
use Rattle.rp_codec.specs.declared.packet.Body.TheVariants.{PromiseRange}
use Rattle.rp_codec.specs.Message.{Message, IsBody, MaySay, IsPacket}
use Rattle.rp_codec.specs.Text.{position_text, ballot_text, action_text_at, placed_text_at, votes_text_at, HasPlacedText}
use Rattle.rp_codec.specs.Reading.{reported_at, votes_at, reported_votes_at}
use Rattle.rp_codec.proofs.Steps.{IsBytes, Yields, Took, then, guarded, weaker}
use Rattle.rp_codec.proofs.FieldLaws.{TookByte, byte_took, TookPosition, position_took, position_again, IsLower}
use Rattle.rp_codec.proofs.ActionLaws.{IsActionAt, TookVote, vote_took, vote_again}

-- ---- one vote

-- a right vote in a lower ballot than this one, at a position from the first on and below the end
abbrev pub IsPlaced : Version → ℕ → ℕ → ℕ → PlacedVote → Type 0
IsPlaced v ballot end first placed =
    IsPosition placed.position × (first ≤ placed.position) × (placed.position < end) × IsLower ballot placed.vote.ballot × IsActionAt v placed.vote.action

abbrev pub TookPlaced : Version → ℕ → ℕ → ℕ → List ℕ → PlacedVote × List ℕ → Type 0
TookPlaced v ballot end first bytes = Took (placed_text_at v) (IsPlaced v ballot end first) bytes

placed_took : (v : Version) (ballot end first : ℕ) (bytes : List ℕ) → IsBytes bytes → Yields (TookPlaced v ballot end first bytes) (reported_at v ballot end first bytes)
unfolding reported_at
placed_took v ballot end first bytes h =
    then (TookPosition bytes) (TookPlaced v ballot end first bytes) _ _ (position_took bytes h)
    (λ position p. guarded (TookPlaced v ballot end first bytes) (leb first position.0 && ltb position.0 end) position _
    (λ e. then (TookVote v ballot position.1) (TookPlaced v ballot end first bytes) _ _ (vote_took v ballot position.1 p.rest)
    (λ vote t.
    let ends = and_parts _ _ e in
    record { parts = rw (p.parts, t.parts) (simp append_assoc); rest = t.rest; right = (p.right, leb-true _ _ ends.0, ltb-true _ _ ends.1, t.right.0, t.right.1) })))

placed_again : (v : Version) (ballot end first : ℕ) (placed : PlacedVote) (rest : List ℕ) → IsPlaced v ballot end first placed
    → reported_at v ballot end first (placed_text_at v placed ++ rest) ≡ Ok (placed, rest)
unfolding reported_at
placed_again v ballot end first placed rest right =
    let vote : List ℕ = ballot_text placed.vote.ballot ++ action_text_at v placed.vote.action in
    let parts : placed_text_at v placed ++ rest ≡ position_text placed.position ++ (vote ++ rest) = simp append_assoc in
    let within : (leb first placed.position && ltb placed.position end) ≡ true = and_from _ _ (le-leb _ _ right.1) (lt-ltb _ _ right.2) in
    ap (reported_at v ballot end first) parts
    ∙ rw (position_again placed.position (vote ++ rest) right.0, within, vote_again v ballot placed.vote rest right.3 right.4) refl

-- ---- the votes

-- the texts of the votes, one after the other
abbrev pub each_placed : Version → List PlacedVote → List ℕ
each_placed v votes = flat_map (placed_text_at v) votes

-- n right votes at positions that rise
pub record AreVotes (v : Version) (ballot end first count : ℕ) (votes : List PlacedVote) : Type 0 where
  pub len : length votes ≡ count
  pub rising : AreRising first end votes
  pub ballots : All (λ placed. IsBallot placed.vote.ballot) votes
  pub below : All (λ placed. placed.vote.ballot < ballot) votes
  pub right : All (λ placed. IsRightVote placed.vote) votes
  pub has : All (HasPlacedText v) votes

abbrev pub TookVotes : Version → ℕ → ℕ → ℕ → ℕ → List ℕ → List PlacedVote × List ℕ → Type 0
TookVotes v ballot end first count bytes = Took (each_placed v) (AreVotes v ballot end first count) bytes

no_votes : (v : Version) (ballot end first : ℕ) → AreVotes v ballot end first 0 []
no_votes v ballot end first = record {
  len = refl;
  rising = tt;
  ballots = All-nil (λ placed. IsBallot placed.vote.ballot);
  below = All-nil (λ placed. placed.vote.ballot < ballot);
  right = All-nil (λ placed. IsRightVote placed.vote);
  has = All-nil (HasPlacedText v);
}

one_more : (v : Version) (ballot end first count : ℕ) (placed : PlacedVote) (others : List PlacedVote)
    → IsPlaced v ballot end first placed → AreVotes v ballot end (suc placed.position) count others → AreVotes v ballot end first (suc count) (placed ∷ others)
one_more v ballot end first count placed others p o = record {
  len = ap suc o.len;
  rising = (p.1, p.2, o.rising);
  ballots = All-cons (λ placed. IsBallot placed.vote.ballot) placed others p.3.0 o.ballots;
  below = All-cons (λ placed. placed.vote.ballot < ballot) placed others p.3.1 o.below;
  right = All-cons (λ placed. IsRightVote placed.vote) placed others p.4.0 o.right;
  has = All-cons (HasPlacedText v) placed others p.4.1 o.has;
}

pub votes_took : (v : Version) (ballot end first count : ℕ) (bytes : List ℕ) → IsBytes bytes
    → Yields (TookVotes v ballot end first count bytes) (votes_at v ballot end first count bytes)
unfolding votes_at
votes_took v ballot end first zero bytes h = record { parts = refl; rest = h; right = no_votes v ballot end first }
votes_took v ballot end first (suc more) bytes h =
    then (TookPlaced v ballot end first bytes) (TookVotes v ballot end first (suc more) bytes) _ _ (placed_took v ballot end first bytes h)
    (λ placed p. then (TookVotes v ballot end (suc placed.0.position) more placed.1) (TookVotes v ballot end first (suc more) bytes) _ _
    (votes_took v ballot end (suc placed.0.position) more placed.1 p.rest)
    (λ others o. record {
      parts = rw (p.parts, o.parts) (simp append_assoc);
      rest = o.rest;
      right = one_more v ballot end first more placed.0 others.0 p.right o.right;
    }))

others_of : (v : Version) (ballot end first count : ℕ) (placed : PlacedVote) (others : List PlacedVote)
    → AreVotes v ballot end first count (placed ∷ others) → AreVotes v ballot end (suc placed.position) (length others) others
others_of v ballot end first count placed others is = record {
  len = refl;
  rising = is.rising.2;
  ballots = All-tail (λ placed. IsBallot placed.vote.ballot) placed others is.ballots;
  below = All-tail (λ placed. placed.vote.ballot < ballot) placed others is.below;
  right = All-tail (λ placed. IsRightVote placed.vote) placed others is.right;
  has = All-tail (HasPlacedText v) placed others is.has;
}

first_of_votes : (v : Version) (ballot end first count : ℕ) (placed : PlacedVote) (others : List PlacedVote) → 1 ≤ first → end ≤ 2 ^ 16
    → AreVotes v ballot end first count (placed ∷ others) → IsPlaced v ballot end first placed
first_of_votes v ballot end first count placed others low high is = (
  (omega (arith, low, is.rising.0), omega (arith, high, is.rising.1)),
  is.rising.0,
  is.rising.1,
  (All-head (λ placed. IsBallot placed.vote.ballot) placed others is.ballots, All-head (λ placed. placed.vote.ballot < ballot) placed others is.below),
  (All-head (λ placed. IsRightVote placed.vote) placed others is.right, All-head (HasPlacedText v) placed others is.has),
)

pub votes_again : (v : Version) (ballot end first : ℕ) (votes : List PlacedVote) (rest : List ℕ) → 1 ≤ first → end ≤ 2 ^ 16
    → AreVotes v ballot end first (length votes) votes → votes_at v ballot end first (length votes) (each_placed v votes ++ rest) ≡ Ok (votes, rest)
unfolding votes_at
votes_again v ballot end first [] rest low high is = refl
votes_again v ballot end first (placed ∷ others) rest low high is =
    let parts : each_placed v (placed ∷ others) ++ rest ≡ placed_text_at v placed ++ (each_placed v others ++ rest) = append_assoc (placed_text_at v placed) (each_placed v others) rest in
    ap (votes_at v ballot end first (suc (length others))) parts
    ∙ rw (
      placed_again v ballot end first placed (each_placed v others ++ rest) (first_of_votes v ballot end first (length (placed ∷ others)) placed others low high is),
      votes_again v ballot end (suc placed.position) others rest (omega arith) high (others_of v ballot end first (length (placed ∷ others)) placed others is),
    ) refl

-- there are no more than positions
pub rising_short : (first end : ℕ) (votes : List PlacedVote) → first ≤ end → AreRising first end votes → first + length votes ≤ end
rising_short first end [] within rising = omega (arith, within)
rising_short first end (placed ∷ rest) within rising =
    let later = rising_short (suc placed.position) end rest (omega (arith, rising.1)) rising.2 in
    omega (arith, rising.0, later)

-- ---- how many there are, and each

abbrev pub TookReported : Version → Range → ℕ → List ℕ → List PlacedVote × List ℕ → Type 0
TookReported v range ballot bytes x = Took (votes_text_at v) (AreVotes v ballot (end_of range) range.first (length x.0)) bytes x

pub reported_took : (v : Version) (range : Range) (ballot : ℕ) (bytes : List ℕ) → IsBytes bytes → Yields (TookReported v range ballot bytes) (reported_votes_at v range ballot bytes)
unfolding reported_votes_at
reported_took v range ballot bytes h =
    then (TookByte bytes) (TookReported v range ballot bytes) _ _ (byte_took bytes h)
    (λ count c. guarded (TookReported v range ballot bytes) (leb count.0 range.count) count _
    (λ e. weaker (TookVotes v ballot (end_of range) range.first count.0 count.1) (TookReported v range ballot bytes) _
    (λ votes t. record {
      parts = c.parts ∙ ap (λ (k : ℕ). k ∷ count.1) (sym t.right.len) ∙ ap (λ (l : List ℕ). length votes.0 ∷ l) t.parts;
      rest = t.rest;
      right = record { len = refl; rising = t.right.rising; ballots = t.right.ballots; below = t.right.below; right = t.right.right; has = t.right.has };
    })
    (votes_took v ballot (end_of range) range.first count.0 count.1 c.rest)))

pub reported_again : (v : Version) (range : Range) (ballot : ℕ) (votes : List PlacedVote) (rest : List ℕ) → IsRange range
    → AreVotes v ballot (end_of range) range.first (length votes) votes → reported_votes_at v range ballot (votes_text_at v votes ++ rest) ≡ Ok (votes, rest)
unfolding reported_votes_at
reported_again v range ballot votes rest right is =
    let few : length votes ≤ range.count = omega (arith, rising_short range.first (end_of range) votes (omega arith) is.rising) in
    rw (le-leb _ _ few, votes_again v ballot (end_of range) range.first votes rest right.first.0 right.last is) refl

-- a packet has few votes
pub few_votes : (m : Message) (range : Range) (ballot : ℕ) (votes : List PlacedVote) → IsPacket m → m.body ≡ PromiseRange range ballot votes → length votes < 256
few_votes m range ballot votes is e =
    let rules : MaySay m.from m.to (PromiseRange range ballot votes) = subst (MaySay m.from m.to) e is.rules in
    let ranges : IsBody (PromiseRange range ballot votes) = subst IsBody e is.ranges.body in
    omega (arith, ranges.0.count.1, rising_short range.first (end_of range) votes (omega arith) rules.1.rising)
