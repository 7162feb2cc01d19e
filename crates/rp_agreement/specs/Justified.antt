-- What a promise reports, and what justifies an offer. Lamport, "Paxos Made Simple", section 2.2: a
-- proposal of a value is issued only where a majority of acceptors promised, and the value is that
-- of the highest-numbered proposal that they accepted, if they accepted one (P2c).
use Rattle.std.specs.Prelude.{◌≡◌, ℕ, ◌<◌, ◌≤◌, true, Option, Some, List, length}
use Rattle.rp_base.specs.Sets.{Has}
use Rattle.rp_base.specs.Ranges.{is_covered}
use Rattle.rp_base.specs.Majority.{majority_of, AreNodes}
use Rattle.rp_base.specs.Promises.{Promise, highest_vote}
use Rattle.rp_base.specs.Records.{bound_at}
use Rattle.rp_base.specs.declared.action.Action.{Action}
use Rattle.rp_base.specs.declared.record.Vote.{Vote}
use Rattle.rp_base.specs.declared.record.Rec.{Rec}
use Rattle.rp_base.specs.declared.record.Rec.TheVariants.{Started, Promised, Voted, Learned}
use Rattle.rp_base.specs.declared.record.Rec.TheVariants.{PromisedRange}
use Rattle.rp_codec.specs.Message.{Message}
use Rattle.rp_model.specs.Facts.{HasPromised}

-- the record promises the ballot at the position; one for a range does at each of its positions
abbrev pub IsPromiseAt : ℕ → ℕ → Rec → Type 0
IsPromiseAt i b (Started ballot) = ⊥
IsPromiseAt i b (Promised position ballot) = (position ≡ i) × (ballot ≡ b)
IsPromiseAt i b (Voted position ballot action) = ⊥
IsPromiseAt i b (Learned position action) = ⊥
IsPromiseAt i b (PromisedRange range ballot) = (is_covered range i ≡ true) × (ballot ≡ b)

-- one of the records promises the ballot at the position
abbrev pub HasPromiseRecord : List Rec → ℕ → ℕ → Type 0
HasPromiseRecord records i b = (rec : Rec) × Has rec records × IsPromiseAt i b rec

-- The records promise the ballot at the position, and this is their last vote there below it: it
-- was cast, and no vote between it and the ballot was.
pub record Reports (records : List Rec) (i b : ℕ) (last : Option Vote) : Type 0 where
  pub bound : b ≤ bound_at records i
  pub cast : (w : Vote) → last ≡ Some w → Has (Voted i w.ballot w.action) records × (w.ballot < b)
  pub covers : (c : ℕ) (v : Action) → Has (Voted i c v) records → c < b → (w : Vote)
      × (last ≡ Some w) × (c ≤ w.ballot)

-- More than half of the nodes promised the ballot at the position, and where these promises report
-- a vote, the action is that of the highest.
pub record IsJustified (nodes : ℕ) (sent : List Message) (i b : ℕ) (v : Action) : Type 0 where
  pub promises : List Promise
  pub stated : (a : ℕ) (last : Option Vote) → Has (a, last) promises → HasPromised sent a i b last
  pub promisers : List ℕ
  pub members : AreNodes nodes promisers
  pub majority : majority_of nodes ≤ length promisers
  pub promised : (a : ℕ) → Has a promisers → (last : Option Vote) × Has (a, last) promises
  pub highest : (w : Vote) → highest_vote promises ≡ Some w → v ≡ w.action
