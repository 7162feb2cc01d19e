-- Names in declared order. What they denote is a list beside them.
use Rattle.std.specs.Prelude.{ℕ, Bool, List, map, Option, Some, None, position, slice_get, String}
use Rattle.std.specs.Prelude.{string_bytes}
use Rattle.std.specs.List.{list_any}
use Rattle.std.specs.Map.{keys_of}
use Rattle.std.specs.Str.{bytes_eq}
use Rattle.indexmap.specs.IndexMap.{IndexMap}
use Rattle.indexmap.specs.IndexSet.{IndexSet}

-- the name is among these
abbrev pub is_declared : List ℕ → List (List ℕ) → Bool
is_declared name names = list_any (bytes_eq name) names

-- its place among them, from 0
abbrev pub place_of : List ℕ → List (List ℕ) → Option ℕ
place_of name names = position (bytes_eq name) names

abbrev pub value_at : {X : Type 0} → List X → Option ℕ → Option X
value_at values None = None
value_at values (Some place) = slice_get values place

-- what the name denotes
abbrev pub find : {X : Type 0} → List ℕ → List (List ℕ) → List X → Option X
find name names values = value_at values (place_of name names)

-- the names of a map, and of a set
abbrev pub key_names : {Y X S : Type 0} → IndexMap (String Y) X S → List (List ℕ)
key_names declared = map (λ key. string_bytes key) (keys_of declared.entries)

abbrev pub set_names : {Y S : Type 0} → IndexSet (String Y) S → List (List ℕ)
set_names declared = map (λ key. string_bytes key) declared.keys
