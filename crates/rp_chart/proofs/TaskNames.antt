-- The names of the tasks of a deck, by their places.
use Rattle.std.proofs.Common.{◌≡◌, ℕ, ◌+◌, Option, List, map, ap, ◌∙◌, add-one}
use Rattle.std.specs.Prelude.{slice_get, String, string_bytes}
use Rattle.std.specs.Option.{option_map}
use Rattle.std.proofs.lemmas.Option.{slice_get-map}
use Rattle.rp_script.specs.rp_model.specs.World.{part_at}

module _ {Y X : Type 0} (entries : List (String Y × X)) where
  name_of_entry : (place : ℕ) → slice_get (map string_bytes (map (λ (e : String Y × X). e.0) entries)) place ≡ option_map string_bytes (option_map (λ (e : String Y × X). e.0) (slice_get entries place))
  name_of_entry place =
      slice_get-map string_bytes (map (λ (e : String Y × X). e.0) entries) place
      ∙ ap (option_map string_bytes) (slice_get-map (λ (e : String Y × X). e.0) entries place)

  -- the name of the entry at a place from 0
  pub name_at : (place : ℕ) (entry : Option (String Y × X)) → slice_get entries place ≡ entry
      → part_at (map string_bytes (map (λ (e : String Y × X). e.0) entries)) (place + 1) ≡ option_map string_bytes (option_map (λ (e : String Y × X). e.0) entry)
  name_at place entry here =
      ap (part_at (map string_bytes (map (λ (e : String Y × X). e.0) entries))) (add-one place)
      ∙ name_of_entry place
      ∙ ap (λ (o : Option (String Y × X)). option_map string_bytes (option_map (λ (e : String Y × X). e.0) o)) here
