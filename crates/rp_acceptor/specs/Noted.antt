-- What an acceptor has noted, and where it may note more.
use Rattle.std.specs.Prelude.{ℕ, Option, Some, None, option_map, option_to_list, List, [], ◌∷◌}
use Rattle.std.specs.Prelude.{◌++◌}
use Rattle.rp_base.specs.declared.record.Rec.{Rec}
use Rattle.rp_base.specs.declared.record.Rec.TheVariants.{Started, Promised, Voted, Learned}
use Rattle.rp_base.specs.declared.record.Rec.TheVariants.{PromisedRange}
use Rattle.rp_base.specs.Ranges.{Range, positions_of}
use Rattle.rp_base.specs.declared.placed.PlacedVote.{PlacedVote}
use Rattle.rp_base.specs.Sets.{Has}

-- The records noted, in order. The positions for which room was made: for promises, and for votes.
-- The ranges for which room was made.
pub record Noted : Type 0 where
  pub records : List Rec
  pub reserved : List ℕ
  pub votes : List ℕ
  pub ranges : List Range

-- an acceptor that noted nothing
abbrev pub nothing_noted : Noted
nothing_noted = record { records = []; reserved = []; votes = []; ranges = [] }

-- the positions at which a record counts for an acceptor: that of a promise or a vote, those of a
-- range
abbrev pub places_in : Rec → List ℕ
places_in (Started ballot) = []
places_in (Promised position ballot) = position ∷ []
places_in (Voted position ballot action) = position ∷ []
places_in (Learned position action) = []
places_in (PromisedRange range ballot) = positions_of range

-- the position that a record promises
abbrev pub promised_in : Rec → List ℕ
promised_in (Started ballot) = []
promised_in (Promised position ballot) = position ∷ []
promised_in (Voted position ballot action) = []
promised_in (Learned position action) = []
promised_in (PromisedRange range ballot) = []

-- the vote that a record is, with its position, if it is one
abbrev pub placed_in : Rec → Option PlacedVote
placed_in (Started ballot) = None
placed_in (Promised position ballot) = None
placed_in (Voted position ballot action) =
    Some (record { position = position; vote = record { ballot = ballot; action = action } })
placed_in (Learned position action) = None
placed_in (PromisedRange range ballot) = None

-- the position that a record votes at
abbrev pub voted_in : Rec → List ℕ
voted_in rec = option_to_list (option_map (λ placed. placed.position) (placed_in rec))

-- the range that a record promises
abbrev pub ranges_in : Rec → List Range
ranges_in (Started ballot) = []
ranges_in (Promised position ballot) = []
ranges_in (Voted position ballot action) = []
ranges_in (Learned position action) = []
ranges_in (PromisedRange range ballot) = range ∷ []

-- there is room where the record counts
pub record HasRoom (noted : Noted) (rec : Rec) : Type 0 where
  pub promise : (i : ℕ) → Has i (promised_in rec) → Has i noted.reserved
  pub vote : (i : ℕ) → Has i (voted_in rec) → Has i noted.votes
  pub range : (r : Range) → Has r (ranges_in rec) → Has r noted.ranges

-- room is made for promises and votes at a position
abbrev pub reserves : Noted → ℕ → Noted
reserves noted i =
    record noted { reserved = noted.reserved ++ i ∷ []; votes = noted.votes ++ i ∷ [] }

-- room is made for votes at a position
abbrev pub reserves_vote : Noted → ℕ → Noted
reserves_vote noted i = record noted { votes = noted.votes ++ i ∷ [] }

-- room is made for promises of a range
abbrev pub reserves_range : Noted → Range → Noted
reserves_range noted range = record noted { ranges = noted.ranges ++ range ∷ [] }

-- a record is noted
abbrev pub notes : Noted → Rec → Noted
notes noted rec = record noted { records = noted.records ++ rec ∷ [] }

-- room is made where a record counts
abbrev pub reserves_for : Noted → Rec → Noted
reserves_for noted (Started ballot) = noted
reserves_for noted (Promised position ballot) = reserves noted position
reserves_for noted (Voted position ballot action) = reserves_vote noted position
reserves_for noted (Learned position action) = noted
reserves_for noted (PromisedRange range ballot) = reserves_range noted range

-- these records are noted after others, in order, with room where each counts
abbrev pub restored_from : Noted → List Rec → Noted
restored_from noted [] = noted
restored_from noted (rec ∷ rest) = restored_from (notes (reserves_for noted rec) rec) rest

-- these records are noted, in order, with room where each counts
abbrev pub restored : List Rec → Noted
restored records = restored_from nothing_noted records
