-- The components of a protected object, by name.
use Rattle.std.specs.Prelude.{ℕ, ℤ, pos, Bool, true, false, ◌&&◌, int_le, Option, Some, None}
use Rattle.std.specs.Prelude.{unwrap_or, option_map, List, if◌then◌else◌, refl}
use Rattle.std.specs.List.{enumerate_from}
use Rattle.std.specs.Ordering.{nat_cmp}
use Rattle.std.specs.FinMap.{FinMap, code, get, insert, len, from_entries}
use Rattle.std.specs.Coded.{Coded, code_by, coded×, coded_ℕ, coded_ℤ, coded_bool}
use Rattle.rp_body.specs.declared.components.Ranged.{Ranged}
use Rattle.rp_body.specs.declared.components.Limits.{Limits}

-- the components of an object: whole numbers with their ranges, and Booleans, each by its name,
-- which is a number from 0
pub record Store : Type 0 where
  pub ints : FinMap nat_cmp Ranged
  pub bools : FinMap nat_cmp Bool

-- a whole number, for the proofs, as the tuple of its fields
abbrev pub ranged_code : Coded Ranged
ranged_code =
    code_by (ℤ × (ℤ × ℤ)) (coded× coded_ℤ (coded× coded_ℤ coded_ℤ))
    (λ c. (c.low, (c.high, c.value)))
    (λ p. record { low = p.0; high = p.1.0; value = p.1.1 }) (λ _. refl)

-- the components, for the proofs, as the pair of their maps
abbrev pub store_code : Coded Store
store_code =
    code_by (FinMap nat_cmp Ranged × FinMap nat_cmp Bool)
    (coded× (code coded_ℕ ranged_code) (code coded_ℕ coded_bool))
    (λ s. (s.ints, s.bools)) (λ p. record { ints = p.0; bools = p.1 }) (λ _. refl)

-- how many components of each kind there are
abbrev pub limits_of : Store → Limits
limits_of store = record { ints = len store.ints; bools = len store.bools }

-- the value of a whole number; a name that is not there counts as 0
abbrev pub int_value : Store → ℕ → ℤ
int_value store name =
    unwrap_or (option_map (λ component. component.value) (get store.ints name)) (pos 0)

-- the value of a Boolean; a name that is not there counts as False
abbrev pub bool_value : Store → ℕ → Bool
bool_value store name = unwrap_or (get store.bools name) false

-- the number lies in the range, both ends counted
abbrev pub is_within : ℤ → ℤ → ℤ → Bool
is_within low high z = int_le low z && int_le z high

-- the elements of a list by their places from 0
abbrev pub by_place : {X : Type 0} → List X → FinMap nat_cmp X
by_place xs = from_entries (enumerate_from 0 xs)

-- what `with_int` gives where the name denotes this component, or for none
abbrev pub with_found : Option Ranged → Store → ℕ → ℤ → Store × Bool
with_found None store name value = (store, true)
with_found (Some component) store name value =
    if is_within component.low component.high value
    then (record store { ints = insert store.ints name (record component { value = value }) }, true)
    else (store, false)

-- the components once a whole number is given a value, and whether the value lies in its range;
-- where it does not, nothing changes
abbrev pub with_int : Store → ℕ → ℤ → Store × Bool
with_int store name value = with_found (get store.ints name) store name value

-- the components once a Boolean is given a value
abbrev pub with_bool : Store → ℕ → Bool → Store
with_bool store name value = record store { bools = insert store.bools name value }
