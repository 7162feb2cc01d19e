-- What a node's records say. Lamport, "Paxos Made Simple", section 2.2: an acceptor needs to
-- remember only the highest-numbered proposal that it accepted and the highest number that it
-- promised.
use Rattle.std.specs.Prelude.{ℕ, zero, suc, max, nat_eq, nat_lt, Option, Some, None, List, [], ◌∷◌}
use Rattle.std.specs.Prelude.{length, filter_map, if◌then◌else◌}
use Rattle.rp_base.specs.declared.action.Action.{Action}
use Rattle.rp_base.specs.declared.record.Vote.{Vote}
use Rattle.rp_base.specs.declared.record.Rec.{Rec}
use Rattle.rp_base.specs.declared.record.Rec.TheVariants.{Started, Promised, Voted, Learned}
use Rattle.rp_base.specs.declared.record.Rec.TheVariants.{PromisedRange}
use Rattle.rp_base.specs.Ranges.{is_covered}

-- the ballot in which a record leads, or 0
abbrev pub started_in : Rec → ℕ
started_in (Started ballot) = ballot
started_in (Promised position ballot) = 0
started_in (Voted position ballot action) = 0
started_in (Learned position action) = 0
started_in (PromisedRange range ballot) = 0

-- the greatest ballot in which the records lead, or 0
abbrev pub started_of : List Rec → ℕ
started_of [] = 0
started_of (rec ∷ rest) = max (started_in rec) (started_of rest)

-- the ballot that a record promises or votes in at a position, or 0
abbrev pub bound_in : ℕ → Rec → ℕ
bound_in i (Started ballot) = 0
bound_in i (Promised position ballot) = if nat_eq position i then ballot else 0
bound_in i (Voted position ballot action) = if nat_eq position i then ballot else 0
bound_in i (Learned position action) = 0
bound_in i (PromisedRange range ballot) = if is_covered range i then ballot else 0

-- the bound at a position: the greatest ballot promised or voted in there, or 0
abbrev pub bound_at : List Rec → ℕ → ℕ
bound_at [] i = 0
bound_at (rec ∷ rest) i = max (bound_in i rec) (bound_at rest i)

-- the vote of the greater ballot, the first of two in one ballot
abbrev pub higher_vote : Vote → Option Vote → Vote
higher_vote vote None = vote
higher_vote vote (Some other) = if nat_lt vote.ballot other.ballot then other else vote

-- the vote of the greatest ballot, the first of several
abbrev pub highest : List Vote → Option Vote
highest [] = None
highest (vote ∷ rest) = Some (higher_vote vote (highest rest))

-- the vote at a position that a record is, if it is one
abbrev pub vote_in : ℕ → Rec → Option Vote
vote_in i (Started ballot) = None
vote_in i (Promised position ballot) = None
vote_in i (Voted position ballot action) =
    if nat_eq position i then Some (record { ballot = ballot; action = action }) else None
vote_in i (Learned position action) = None
vote_in i (PromisedRange range ballot) = None

-- the last vote at a position: the one of the greatest ballot, the first of several
abbrev pub last_vote_at : List Rec → ℕ → Option Vote
last_vote_at records i = highest (filter_map (vote_in i) records)

-- the action that a record learns at a position, if it does
abbrev pub learned_in : ℕ → Rec → Option Action
learned_in i (Started ballot) = None
learned_in i (Promised position ballot) = None
learned_in i (Voted position ballot action) = None
learned_in i (Learned position action) = if nat_eq position i then Some action else None
learned_in i (PromisedRange range ballot) = None

-- the action, or else the other
abbrev pub or_else : Option Action → Option Action → Option Action
or_else None other = other
or_else (Some action) other = Some action

-- the action learned at a position, the first of several
abbrev pub learned_at : List Rec → ℕ → Option Action
learned_at [] i = None
learned_at (rec ∷ rest) i = or_else (learned_in i rec) (learned_at rest i)

-- an action in front of others, or nothing where it is missing
abbrev pub unless_missing : Option Action → List Action → List Action
unless_missing None rest = []
unless_missing (Some action) rest = action ∷ rest

-- the actions learned from a position on without a gap, n at most
abbrev pub learned_run : List Rec → ℕ → ℕ → List Action
learned_run records zero i = []
learned_run records (suc most) i =
    unless_missing (learned_at records i) (learned_run records most (suc i))

-- The applied list: the longest whose ith action is learned at i. (It is no longer than the
-- records.)
abbrev pub applied_of : List Rec → List Action
applied_of records = learned_run records (length records) 1

-- the first position that is not learned, all lower ones being so
abbrev pub first_unlearned : List Rec → ℕ
first_unlearned records = suc (length (applied_of records))
