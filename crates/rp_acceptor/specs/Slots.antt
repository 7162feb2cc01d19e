-- How an acceptor keeps what its records say (callers see none of it).
use Rattle.std.specs.Prelude.{◌≡◌, ◌⊎◌, ℕ, ◌+◌, ◌-◌, ◌/◌, ◌%◌, ◌<◌, ◌≤◌, max, nat_eq}
use Rattle.std.specs.Prelude.{Option, Some, None, option_map, option_to_list}
use Rattle.std.specs.Prelude.{List, [], ◌∷◌, ◌++◌, length, slice_index_or, if◌then◌else◌}
use Rattle.std.specs.List.{cons_option}
use Rattle.rp_base.specs.declared.record.Rec.{Rec}
use Rattle.rp_base.specs.declared.record.Rec.TheVariants.{Started, Promised, Voted, Learned}
use Rattle.rp_base.specs.declared.record.Rec.TheVariants.{PromisedRange}
use Rattle.rp_base.specs.declared.placed.PlacedVote.{PlacedVote}
use Rattle.rp_base.specs.declared.record.Vote.{Vote}
use Rattle.rp_base.specs.Sets.{Has}
use Rattle.rp_base.specs.Ranges.{Range, end_of, positions_of}
use Rattle.rp_base.specs.Records.{bound_at, highest, vote_in, last_vote_at}
use Rattle.rp_acceptor.specs.Comparing.{Bound, compared, compared_bounds}
use Rattle.rp_acceptor.specs.Noted.{Noted}
use Rattle.rp_acceptor.specs.Levels.{Level, holding_ballot, HasLevel, is_between}

-- ---- promises for ranges

-- a promise: its ballot, from a position on and below another
pub record Stretch : Type 0 where
  pub first : ℕ
  pub end : ℕ
  pub ballot : ℕ

-- the promise for a range that a record is, if it is one
abbrev pub stretch_in : Rec → Option Stretch
stretch_in (Started ballot) = None
stretch_in (Promised position ballot) = None
stretch_in (Voted position ballot action) = None
stretch_in (Learned position action) = None
stretch_in (PromisedRange range ballot) =
    Some (record { first = range.first; end = end_of range; ballot = ballot })

-- the ballot that it promises at a position, or 0
abbrev pub ballot_promised : ℕ → Option Stretch → ℕ
ballot_promised i None = 0
ballot_promised i (Some stretch) = if is_between stretch.first stretch.end i then stretch.ballot else 0

-- a level begins at each of its ends
abbrev pub HasEnds : List Level → Option Stretch → Type 0
HasEnds levels None = Unit {0}
HasEnds levels (Some stretch) = HasLevel levels stretch.first × HasLevel levels stretch.end

-- ---- single positions

-- What is kept for one position: the greatest ballot promised for it alone, or 0, and the last vote
-- there.
pub record Kept : Type 0 where
  pub promised : ℕ
  pub last : Option Vote

-- nothing is kept
abbrev pub nothing_kept : Kept
nothing_kept = record { promised = 0; last = None }

-- what is kept at a place, nothing where there is none
abbrev pub kept_or_nothing : Option Kept → Kept
kept_or_nothing None = nothing_kept
kept_or_nothing (Some kept) = kept

-- the ballot of a vote, or 0
abbrev pub ballot_of_vote : Option Vote → ℕ
ballot_of_vote None = 0
ballot_of_vote (Some vote) = vote.ballot

-- the greater of the ballot promised there and the last vote's
abbrev pub bound_of : Kept → ℕ
bound_of kept = max kept.promised (ballot_of_vote kept.last)

-- with a promise: the greatest ballot counts
abbrev pub with_promise : Kept → ℕ → Kept
with_promise kept b = record kept { promised = max kept.promised b }

-- with a vote: the last is the higher one
abbrev pub with_vote : Kept → Vote → Kept
with_vote kept vote = record kept { last = highest (option_to_list kept.last ++ vote ∷ []) }

-- the ballot that a record promises for a position alone, or 0
abbrev pub promise_in : ℕ → Rec → ℕ
promise_in i (Started ballot) = 0
promise_in i (Promised position ballot) = if nat_eq position i then ballot else 0
promise_in i (Voted position ballot action) = 0
promise_in i (Learned position action) = 0
promise_in i (PromisedRange range ballot) = 0

-- the greatest ballot promised for a position alone, or 0
abbrev pub promised_at : List Rec → ℕ → ℕ
promised_at [] i = 0
promised_at (rec ∷ rest) i = max (promise_in i rec) (promised_at rest i)

-- what the records say of one position
abbrev pub kept_at : List Rec → ℕ → Kept
kept_at records i = record { promised = promised_at records i; last = last_vote_at records i }

-- what is kept for a position with one more record
abbrev pub with_record : ℕ → Rec → Kept → Kept
with_record i rec kept = record {
  promised = max kept.promised (promise_in i rec);
  last = highest (option_to_list kept.last ++ option_to_list (vote_in i rec));
}

-- the single position that a record promises or votes at
abbrev pub single_in : Rec → List ℕ
single_in (Started ballot) = []
single_in (Promised position ballot) = position ∷ []
single_in (Voted position ballot action) = position ∷ []
single_in (Learned position action) = []
single_in (PromisedRange range ballot) = []

-- ---- pages

-- what is kept at an index of a page, nothing past the end
abbrev pub kept_in_page : List Kept → ℕ → Kept
kept_in_page page offset = slice_index_or page offset nothing_kept

-- what a page keeps, nothing where it is absent
abbrev pub page_at : List (List Kept) → ℕ → List Kept
page_at pages number = slice_index_or pages number []

-- what is kept at an index of all: 64 are in each page
abbrev pub kept_of : List (List Kept) → ℕ → Kept
kept_of pages index = kept_in_page (page_at pages (index / 64)) (index % 64)

-- there is a place at the index
abbrev pub HasSlot : List (List Kept) → ℕ → Type 0
HasSlot pages index = index % 64 < length (page_at pages (index / 64))

-- there is a place at the index, where this ballot is promised, or 0, and no vote is kept
pub record HasNoVote (pages : List (List Kept)) (index ballot : ℕ) : Type 0 where
  pub there : HasSlot pages index
  pub kept : kept_of pages index ≡ record { promised = ballot; last = None }

-- a page is absent, or has all its places
abbrev pub IsWhole : List Kept → Type 0
IsWhole page = (length page ≡ 0) ⊎ (length page ≡ 64)

-- each place keeps what the records say of the position after its index
abbrev pub KeepsRecords : (ℕ → Kept) → List Rec → Type 0
KeepsRecords kept records = (index : ℕ) → kept index ≡ kept_at records (index + 1)

-- with more pages each place keeps the same, and none is gone
pub record HasMore (before after : List (List Kept)) : Type 0 where
  pub same : (index : ℕ) → kept_of after index ≡ kept_of before index
  pub longer : (number : ℕ) → length (page_at before number) ≤ length (page_at after number)
  pub whole : (number : ℕ) → (length (page_at after number) ≡ length (page_at before number))
      ⊎ (length (page_at after number) ≡ 64)

-- ---- the places of a range

-- What is kept at the positions of a range: the last votes, and the bounds.
pub record VotesAndBounds : Type 0 where
  pub votes : List PlacedVote
  pub bounds : List Bound

-- the last vote at a position, with the position, if there is one
abbrev pub placed_if : ℕ → Option Vote → Option PlacedVote
placed_if i last = option_map (λ vote. record { position = i; vote = vote }) last

-- the votes at places in a row, the first of them that of a position
abbrev pub votes_from : ℕ → List Kept → List PlacedVote
votes_from i [] = []
votes_from i (kept ∷ rest) = cons_option (placed_if i kept.last) (votes_from (i + 1) rest)

-- the bounds at places in a row, the first of them that of a position
abbrev pub bounds_from : ℕ → List Kept → List Bound
bounds_from i [] = []
bounds_from i (kept ∷ rest) =
    record { position = i; ballot = bound_of kept } ∷ bounds_from (i + 1) rest

-- a ballot compares with these bounds as with what the records say of the single positions of a
-- range
abbrev pub AreBoundsOf : List Bound → List Rec → Range → Type 0
AreBoundsOf bounds records range = (b : ℕ) → 0 < b
    → compared_bounds b bounds ≡ compared (λ i. bound_of (kept_at records i)) b (positions_of range)

-- ---- all

-- a position has a place that keeps no vote, and this is its bound
pub record HasFirstBound (levels : List Level) (pages : List (List Kept)) (i bound : ℕ)
    : Type 0 where
  pub promised : ℕ
  pub kept : HasNoVote pages (i - 1) promised
  pub greater : bound ≡ max (holding_ballot levels i) promised

-- the bound at each position is the greatest of what the levels promise and of what is kept there
abbrev pub AreBounds : List Level → List Rec → Type 0
AreBounds levels records =
    (i : ℕ) → max (holding_ballot levels i) (bound_of (kept_at records i)) ≡ bound_at records i

-- a level begins at each end of the ranges that were reserved
abbrev pub HaveEnds : List Level → List Range → Type 0
HaveEnds levels ranges = (range : Range) → Has range ranges → HasLevel levels range.first
    × HasLevel levels (end_of range)

-- the pages keep what the records say, and have a place for each position reserved for votes
pub record ArePages (pages : List (List Kept)) (voted : List ℕ) (records : List Rec) : Type 0 where
  pub right : KeepsRecords (kept_of pages) records
  pub room : (index : ℕ) → Has (index + 1) voted → HasSlot pages index
  pub whole : (number : ℕ) → IsWhole (page_at pages number)

-- the levels and the pages hold what the records say, and have room for what was reserved
pub record AreKept (levels : List Level) (pages : List (List Kept)) (noted : Noted) : Type 0 where
  pub bounds : AreBounds levels noted.records
  pub ends : HaveEnds levels noted.ranges
  pub kept : ArePages pages noted.votes noted.records
  pub both : (i : ℕ) → Has i noted.reserved → Has i noted.votes
