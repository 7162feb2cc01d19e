-- What a search has found so far.
use Rattle.std.specs.Prelude.{◌≡◌, ◌⊎◌, ◌<◌, ◌≤◌, ◌+◌, ◌↔◌, ◌-◌, ℕ, Bool, false, Option, None, List}
use Rattle.std.specs.Prelude.{[]}
use Rattle.std.specs.Prelude.{◌∷◌, ◌++◌, length, slice_index_or, MatchOption, MatchBool, IsTrue}
use Rattle.std.specs.Prelude.{map, take, if◌then◌else◌}
use Rattle.rp_base.specs.Number.{IsTask}
use Rattle.rp_base.specs.Sets.{Has, IsSet}
use Rattle.rp_base.specs.declared.action.Action.{Action}
use Rattle.rp_base.specs.declared.action.Action.TheVariants.{Noop}
use Rattle.rp_base.specs.declared.reply.Answer.{Answer}
use Rattle.rp_machine.specs.Replay.{Replayed, replay_of, answers_after}
use Rattle.rp_orders.specs.Guards.{is_allowed}
use Rattle.rp_orders.specs.Orders.{LeadAlike, IsReached, IsStuck, MayFollow}
use Rattle.rp_orders.specs.declared.guard.Guard.{Guard}
use Rattle.rp_explore.specs.Explored.{greatest_length}
use Rattle.rp_explore.specs.Listed.{Listed, order_at, further, AreSorted}
use Rattle.rp_explore.specs.declared.giver.Giver.{Giver}

-- the start of a program, the guards of its calls, the orders that were found, and how many there
-- may be at most
pub record Searched (S : Type 0) : Type 0 where
  pub begin : S
  pub guards : List Guard
  pub listed : Listed
  pub most : ℕ

-- The search goes on: at most one order more was found, this one, if there was room for it.
pub record Grows {S : Type 0} (old new : Searched S) (order : List Action) : Type 0 where
  pub begin : new.begin ≡ old.begin
  pub guards : new.guards ≡ old.guards
  pub most : new.most ≡ old.most
  pub may : new.listed.may ≡ old.listed.may
  pub orders : (new.listed.orders ≡ old.listed.orders)
      ⊎ ((length old.listed.orders < old.most)
      × (new.listed.orders ≡ old.listed.orders ++ order ∷ []))

-- The search goes on: more orders were found, and no more than there is room for.
pub record Extends {S : Type 0} (old new : Searched S) : Type 0 where
  pub begin : new.begin ≡ old.begin
  pub guards : new.guards ≡ old.guards
  pub most : new.most ≡ old.most
  pub may : new.listed.may ≡ old.listed.may
  pub more : List (List Action)
  pub orders : new.listed.orders ≡ old.listed.orders ++ more
  pub room : length new.listed.orders ≤ new.most

-- an action was tried earlier: after an earlier order, or after the same as an earlier action
abbrev pub IsEarlier : {S : Type 0} → Searched S → ℕ → ℕ → ℕ → ℕ → Type 0
IsEarlier s place count at index =
    ((at < place) × (index < length s.listed.may)) ⊎ ((at ≡ place) × (index < count))

-- The orders are sorted by their lengths, and each is longer by one action at most than the one at
-- the place.
pub record IsLayered {S : Type 0} (s : Searched S) (place : ℕ) : Type 0 where
  pub sorted : AreSorted s.listed.orders
  pub layer : (other : ℕ) → other < length s.listed.orders
      → length (order_at s.listed.orders other) ≤ length (order_at s.listed.orders place) + 1

-- Of these answers those that were not given before are noted, each once, with what gave them.
pub record AreAnswersNoted (answers : List Answer) (giver : Giver) (old : List Answer)
    (givers : List Giver) (new : List Answer) (more_givers : List Giver) : Type 0 where
  pub more : List Answer
  pub replies : new ≡ old ++ more
  pub givers_too : more_givers ≡ givers ++ map (λ answer. giver) more
  pub fresh : (answer : Answer) → Has answer more → Has answer answers × (¬ Has answer old)
  pub all : (answer : Answer) → Has answer answers → Has answer new
  pub once : IsSet old → IsSet new

-- what is found so far
pub record Found : Type 0 where
  pub is_whole : Bool
  pub replies : List Answer
  pub givers : List Giver
  pub finals : List Bool
  pub stuck : List (Option ℕ)
  pub depth : ℕ

module _ {S : Type 0} (next : S → Action → S) (answers : S → Action → List Answer) where
  -- the order at the place leads to the same state
  pub record IsAt (s : Searched S) (order : List Action) (place : ℕ) : Type 0 where
    pub within : place < length s.listed.orders
    pub alike : LeadAlike next answers s.begin s.guards order (order_at s.listed.orders place)

  -- there is no room for more, and no order leads to the same state
  pub record IsMissing (s : Searched S) (order : List Action) : Type 0 where
    pub full : s.most ≤ length s.listed.orders
    pub missing : ¬ IsReached next answers s.begin s.guards s.listed.orders order

  -- the guards let one of the actions be decided after the order at the place
  abbrev pub MayFollowAt : Searched S → ℕ → ℕ → Type 0
  MayFollowAt s place index = MayFollow next answers s.begin s.guards
      (order_at s.listed.orders place) (slice_index_or s.listed.may index Noop)

  -- each of the first actions that may happen, after the order at the place, leads to a state to
  -- which an order that was found leads
  abbrev pub AllReached : Searched S → ℕ → ℕ → Type 0
  AllReached s place count = (index : ℕ) → index < count → MayFollowAt s place index
      → IsReached next answers s.begin s.guards s.listed.orders (further s.listed place index)

  -- an order that was found leads to the same state and is no longer; or there is no room for more,
  -- and none that was found is longer
  abbrev pub IsNear : Searched S → List Action → Type 0
  IsNear s order =
      ((other : List Action) × Has other s.listed.orders
      × LeadAlike next answers s.begin s.guards order other × (length other ≤ length order))
      ⊎ ((s.most ≤ length s.listed.orders) × ((other : ℕ) → other < length s.listed.orders
      → length (order_at s.listed.orders other) ≤ length order))

  -- so is each of the first actions after the order at the place
  abbrev pub AreNear : Searched S → ℕ → ℕ → Type 0
  AreNear s place count = (index : ℕ) → index < count → MayFollowAt s place index
      → IsNear s (further s.listed place index)

  -- one of them leads to another, for which there is no room
  pub record SomeMissing (s : Searched S) (place count : ℕ) : Type 0 where
    pub index : ℕ
    pub within : index < count
    pub may_follow : MayFollowAt s place index
    pub missing : IsMissing s (further s.listed place index)

  -- none of them changes anything
  abbrev pub AreQuiet : Searched S → ℕ → ℕ → Type 0
  AreQuiet s place count = (index : ℕ) → index < count → MayFollowAt s place index
      → LeadAlike next answers s.begin s.guards (further s.listed place index)
      (order_at s.listed.orders place)

  -- the task waits for ever after the order at the place
  abbrev pub IsStuckAt : Searched S → ℕ → ℕ → Type 0
  IsStuckAt s task place =
      IsStuck next answers s.begin s.guards s.listed.may task (order_at s.listed.orders place)

  -- the answers to one action more, none where the guards do not let it be decided
  abbrev pub given_next : List Guard → Replayed S → Action → List Answer
  given_next guards r action =
      if is_allowed guards r.kept r.given action then answers_after next answers r action else []

  -- one of the actions after the order at the place gives the answer
  abbrev pub GivesAtAction : Searched S → ℕ → ℕ → Answer → Type 0
  GivesAtAction s place index answer = Has answer (given_next s.guards
      (replay_of next answers s.begin (order_at s.listed.orders place))
      (slice_index_or s.listed.may index Noop))

  -- it was given before the action with this index was tried after the order at the place
  pub record IsGivenBefore (s : Searched S) (place count : ℕ) (answer : Answer) : Type 0 where
    pub at : ℕ
    pub index : ℕ
    pub earlier : IsEarlier s place count at index
    pub gives : GivesAtAction s at index answer

  -- the order and the action are the first that give the answer, and they were tried earlier
  pub record IsFirstOfAll (s : Searched S) (place count : ℕ) (answer : Answer) (giver : Giver)
      : Type 0 where
    pub earlier : IsEarlier s place count giver.place giver.action
    pub gives : GivesAtAction s giver.place giver.action answer
    pub first : ¬ IsGivenBefore s giver.place giver.action answer

  -- what was given until then, and what gave each answer first
  pub record AreGivenBefore (s : Searched S) (place count : ℕ) (given : List Answer)
      (givers : List Giver) : Type 0 where
    pub replies : (answer : Answer) → Has answer given ↔ IsGivenBefore s place count answer
    pub set : IsSet given
    pub size : length givers ≡ length given
    pub first : (k : ℕ) (answer : Answer) (giver : Giver) → k < length given
        → IsFirstOfAll s place count (slice_index_or given k answer)
        (slice_index_or givers k giver)

  -- the first of some orders after which the task waits for ever
  pub record IsFirstOf (s : Searched S) (task count place : ℕ) : Type 0 where
    pub within : place < count
    pub stuck : IsStuckAt s task place
    pub first : (earlier : ℕ) → earlier < place → ¬ IsStuckAt s task earlier

  -- where the task first waits for ever, if it does after one of the first orders
  abbrev pub WaitsFirst : Searched S → ℕ → ℕ → Option ℕ → Type 0
  WaitsFirst s task count place =
      MatchOption place ((earlier : ℕ) → earlier < count → ¬ IsStuckAt s task earlier)
      (IsFirstOf s task count)

  -- one of the orders, and then one of the actions, leads to a state that none of them leads to
  pub record LeadsBeyond (s : Searched S) : Type 0 where
    pub place : ℕ
    pub within : place < length s.listed.orders
    pub missing : SomeMissing s place (length s.listed.may)

  -- none of the actions changes anything after the first orders at which this is marked, and after
  -- no others
  pub record AreMarked (s : Searched S) (count : ℕ) (finals : List Bool) : Type 0 where
    pub size : length finals ≡ count
    pub marked : (place : ℕ) → place < count
        → IsTrue (slice_index_or finals place false) ↔ AreQuiet s place (length s.listed.may)

  -- what is found of the first orders and the actions after them
  pub record AreFindings (s : Searched S) (count : ℕ) (found : Found) : Type 0 where
    pub whole : MatchBool found.is_whole
        ((place : ℕ) → place < count → AllReached s place (length s.listed.may)) (LeadsBeyond s)
    pub given : AreGivenBefore s count 0 found.replies found.givers
    pub finals : AreMarked s count found.finals
    pub stuck : (task : ℕ) → IsTask task
        → WaitsFirst s task count (slice_index_or found.stuck (task - 1) None)
    pub layered : count < length s.listed.orders → IsLayered s count
    pub sorted : AreSorted s.listed.orders
    pub near : (place : ℕ) → place < count → AreNear s place (length s.listed.may)
    pub depth : found.depth ≡ greatest_length (take count s.listed.orders)
