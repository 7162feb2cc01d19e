-- How a log keeps its places.
use Rattle.std.specs.Prelude.{ℕ, zero, suc, ◌+◌, ◌≡◌, ◌<◌, ◌≤◌, Bool, true, Option, Some, None}
use Rattle.std.specs.Prelude.{IsSome, option_and_then, List, [], ◌∷◌, ◌++◌, map, length, slice_get}
use Rattle.std.specs.Prelude.{if◌then◌else◌}
use Rattle.std.specs.Ordering.{nat_cmp}
use Rattle.std.specs.Option.{option_map, option_or}
use Rattle.std.specs.List.{enumerate_from}
use Rattle.std.specs.Map.{lookup}
use Rattle.std.specs.BTreeMap.{is_at}
use Rattle.std.specs.FinMap.{from_entries}
use Rattle.rp_base.specs.declared.action.Action.{Action}
use Rattle.rp_log.specs.Contents.{Places}

-- the positions ahead of the front, each with its action, if one was learned there
abbrev pub Ahead : Type 0
Ahead = List (ℕ × Option Action)

-- what is ahead at a position
abbrev pub place_ahead : Ahead → ℕ → Option (Option Action)
place_ahead ahead i = lookup (is_at (nat_cmp i)) ahead

-- the action learned ahead at a position, if any
abbrev pub action_ahead : Ahead → ℕ → Option Action
action_ahead ahead i = option_and_then (λ learned. learned) (place_ahead ahead i)

-- the position after the front, where it is reserved
abbrev pub next_place : Bool → ℕ → Ahead
next_place reserved next = if reserved then (next, None) ∷ [] else []

-- the places of the front, of the position after it, and of those ahead
abbrev pub places_of : List Action → Bool → Ahead → Places
places_of front reserved ahead =
    from_entries (enumerate_from 1 (map (λ action. Some action) front)
    ++ (next_place reserved (length front + 1) ++ ahead))

-- the place of a position in the front
abbrev pub front_place : List Action → ℕ → Option (Option Action)
front_place front zero = None
front_place front (suc k) = option_map (λ action. Some action) (slice_get front k)

-- the places of `places_of`, position by position
abbrev pub place_of : List Action → Bool → Ahead → ℕ → Option (Option Action)
place_of front reserved ahead i =
    option_or (front_place front i)
    (option_or (place_ahead (next_place reserved (length front + 1)) i) (place_ahead ahead i))

-- each of these positions lies after the front, and is at most 65,535
abbrev pub IsAhead : ℕ → Ahead → Type 0
IsAhead front ahead = (i : ℕ) → IsSome (place_ahead ahead i) → (front < i) × (i ≤ 65535)

-- how many places are reserved after the front
abbrev pub reserved_count : Bool → Ahead → ℕ
reserved_count reserved ahead = length ahead + (if reserved then 1 else 0)

-- The front has room for each place after it, n of its actions are taken, and `top` is the greatest
-- position learned, or 0.
pub record Fits (front : List Action) (reserved : Bool) (ahead : Ahead) (capacity taken top : ℕ)
    : Type 0 where
  pub bound : length front ≤ 65535
  pub following : IsAhead (length front) ahead
  pub next_once : reserved ≡ true → place_ahead ahead (length front + 1) ≡ None
  pub next_bound : reserved ≡ true → length front < 65535
  pub gap : action_ahead ahead (length front + 1) ≡ None
  pub room : length front + reserved_count reserved ahead ≤ capacity
  pub taken_within : taken ≤ length front
  pub top_bound : top ≤ 65535
  pub top_learned : 0 < top
      → IsSome (option_and_then (λ learned. learned) (place_of front reserved ahead top))
  pub none_above : (i : ℕ)
      → IsSome (option_and_then (λ learned. learned) (place_of front reserved ahead i)) → i ≤ top
