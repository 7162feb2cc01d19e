-- What an acceptor keeps, as room is made and records are noted.
use Rattle.std.proofs.Common.{◌≡◌, ℕ, ◌+◌, max, List, [], ◌∷◌, ◌++◌, length, refl, sym, ap, subst, ◌∙◌, inl, inr}
use Rattle.rp_base.specs.declared.record.Rec.{Rec}
use Rattle.rp_base.specs.declared.record.Rec.TheVariants.{Started, Promised, Voted, Learned, PromisedRange}
use Rattle.rp_base.specs.Sets.{Has}
use Rattle.rp_base.specs.Ranges.{Range, end_of}
use Rattle.rp_base.proofs.Members.{has_left, has_right, has_split}
use Rattle.rp_acceptor.specs.Noted.{Noted, HasRoom, reserves, reserves_vote, reserves_range, reserves_for, notes}
use Rattle.rp_acceptor.specs.Levels.{Level, holding_ballot, HasLevel}
use Rattle.rp_acceptor.specs.Slots.{Kept, bound_of, kept_at, HasEnds, stretch_in, ballot_promised, single_in, with_record, kept_of, page_at, HasSlot, HasMore, AreBounds, HaveEnds, AreKept}
use Rattle.rp_acceptor.proofs.Noting.{records_kept, bounds_noted}
use Rattle.rp_acceptor.proofs.Pages.{pages_more, pages_noted}

-- where there is room for a record, a level begins at each end of its promise
pub ends_there : (levels : List Level) (noted : Noted) (rec : Rec) → HaveEnds levels noted.ranges → HasRoom noted rec → HasEnds levels (stretch_in rec)
ends_there levels noted (Started ballot) ends room = tt
ends_there levels noted (Promised position ballot) ends room = tt
ends_there levels noted (Voted position ballot action) ends room = tt
ends_there levels noted (Learned position action) ends room = tt
ends_there levels noted (PromisedRange range ballot) ends room = ends range (room.range range (inl refl))

-- and its position is reserved for votes
reserved_there : (noted : Noted) (rec : Rec) (i : ℕ) → ((j : ℕ) → Has j noted.reserved → Has j noted.votes) → HasRoom noted rec → Has i (single_in rec) → Has i noted.votes
reserved_there noted (Started ballot) i both room has = absurd has
reserved_there noted (Promised position ballot) i both room has = both i (room.promise i has)
reserved_there noted (Voted position ballot action) i both room has = room.vote i has
reserved_there noted (Learned position action) i both room has = absurd has
reserved_there noted (PromisedRange range ballot) i both room has = absurd has

-- so there is a place for it
pub place_there : (levels : List Level) (pages : List (List Kept)) (noted : Noted) (rec : Rec) (index : ℕ) → AreKept levels pages noted → HasRoom noted rec → Has (index + 1) (single_in rec)
    → HasSlot pages index
place_there levels pages noted rec index kept room has = kept.kept.room index (reserved_there noted rec (index + 1) kept.both room has)

-- levels of which none is gone have the ends that there were
ends_still : (before after : List Level) (ranges : List Range) → ((i : ℕ) → HasLevel before i → HasLevel after i) → HaveEnds before ranges → HaveEnds after ranges
ends_still before after ranges keeps ends = λ range h. let both = ends range h in (keeps range.first both.0, keeps (end_of range) both.1)

-- the same bounds by other levels
bounds_still : (before after : List Level) (records : List Rec) → ((i : ℕ) → holding_ballot after i ≡ holding_ballot before i) → AreBounds before records → AreBounds after records
bounds_still before after records same are = λ i. ap (λ (n : ℕ). max n (bound_of (kept_at records i))) (same i) ∙ are i

-- a record is noted
pub kept_noted : (levels after : List Level) (pages pages' : List (List Kept)) (noted : Noted) (rec : Rec)
    → ((i : ℕ) → holding_ballot after i ≡ max (holding_ballot levels i) (ballot_promised i (stretch_in rec))) → ((i : ℕ) → HasLevel levels i → HasLevel after i)
    → ((n : ℕ) → length (page_at pages' n) ≡ length (page_at pages n)) → ((index : ℕ) → kept_of pages' index ≡ with_record (index + 1) rec (kept_of pages index))
    → AreKept levels pages noted → AreKept after pages' (notes noted rec)
kept_noted levels after pages pages' noted rec raised keeps same written kept = record {
  bounds = bounds_noted levels after noted.records rec raised kept.bounds;
  ends = ends_still levels after noted.ranges keeps kept.ends;
  kept = pages_noted pages pages' noted.votes noted.records (noted.records ++ rec ∷ []) kept.kept same
      (records_kept (kept_of pages) (kept_of pages') noted.records rec written kept.kept.right);
  both = kept.both;
}

-- other levels, of which none is gone, keep the same
pub kept_split : (levels after : List Level) (pages : List (List Kept)) (noted : Noted) → ((i : ℕ) → holding_ballot after i ≡ holding_ballot levels i) → ((i : ℕ) → HasLevel levels i → HasLevel after i)
    → AreKept levels pages noted → AreKept after pages noted
kept_split levels after pages noted same keeps kept = record {
  bounds = bounds_still levels after noted.records same kept.bounds;
  ends = ends_still levels after noted.ranges keeps kept.ends;
  kept = kept.kept;
  both = kept.both;
}

-- room for votes at a position
pub kept_vote : (levels : List Level) (pages more : List (List Kept)) (noted : Noted) (k i : ℕ) → k + 1 ≡ i → HasMore pages more → HasSlot more k
    → AreKept levels pages noted → AreKept levels more (reserves_vote noted i)
kept_vote levels pages more noted k i at grown has kept = record {
  bounds = kept.bounds;
  ends = kept.ends;
  kept = pages_more pages more noted.votes noted.records k i at kept.kept grown has;
  both = λ j h. has_left j noted.votes (i ∷ []) (kept.both j h);
}

-- room for promises of a range
pub kept_range : (levels : List Level) (pages : List (List Kept)) (noted : Noted) (range : Range) → HasLevel levels range.first × HasLevel levels (end_of range)
    → AreKept levels pages noted → AreKept levels pages (reserves_range noted range)
kept_range levels pages noted range ends kept = record {
  bounds = kept.bounds;
  ends = λ r h. elim (has_split r noted.ranges (range ∷ []) h) [
    | inl old ↦ kept.ends r old
    | inr new ↦ elim new [ inl same ↦ subst (λ (q : Range). HasLevel levels q.first × HasLevel levels (end_of q)) (sym same) ends | inr never ↦ absurd never ]
  ];
  kept = kept.kept;
  both = kept.both;
}

-- room for both at a position
pub kept_both : (levels : List Level) (pages more : List (List Kept)) (noted : Noted) (k i : ℕ) → k + 1 ≡ i → HasMore pages more → HasSlot more k
    → AreKept levels pages noted → AreKept levels more (reserves noted i)
kept_both levels pages more noted k i at grown has kept =
    let votes = kept_vote levels pages more noted k i at grown has kept in
    record {
      bounds = kept.bounds;
      ends = kept.ends;
      kept = votes.kept;
      both = λ j h. elim (has_split j noted.reserved (i ∷ []) h) [
        | inl old ↦ has_left j noted.votes (i ∷ []) (kept.both j old)
        | inr new ↦ has_right j noted.votes (i ∷ []) new
      ];
    }

-- there is room for a record once room was made for it
pub room_made : (noted : Noted) (rec : Rec) → HasRoom (reserves_for noted rec) rec
room_made noted (Started ballot) = record { promise = λ i h. absurd h; vote = λ i h. absurd h; range = λ r h. absurd h }
room_made noted (Promised position ballot) = record {
  promise = λ i h. has_right i noted.reserved (position ∷ []) h;
  vote = λ i h. absurd h;
  range = λ r h. absurd h;
}
room_made noted (Voted position ballot action) = record {
  promise = λ i h. absurd h;
  vote = λ i h. has_right i noted.votes (position ∷ []) h;
  range = λ r h. absurd h;
}
room_made noted (Learned position action) = record { promise = λ i h. absurd h; vote = λ i h. absurd h; range = λ r h. absurd h }
room_made noted (PromisedRange range ballot) = record {
  promise = λ i h. absurd h;
  vote = λ i h. absurd h;
  range = λ r h. has_right r noted.ranges (range ∷ []) h;
}
