-- The names of the tasks of a deck, by their numbers.
use Rattle.std.proofs.Common.{◌≡◌, ℕ, zero, suc, ◌-◌, ◌≤◌, Option, List, map, arith, ap, ◌∙◌}
use Rattle.std.specs.Prelude.{slice_get, String, string_bytes}
use Rattle.std.specs.Option.{option_map}
use Rattle.std.proofs.lemmas.Option.{slice_get-map}
use Rattle.rp_output.specs.rp_model.specs.World.{part_at}

module _ {Y X : Type 0} (entries : List (String Y × X)) where
  name_of_entry : (place : ℕ) → slice_get (map string_bytes (map (λ (e : String Y × X). e.0) entries)) place ≡ option_map string_bytes (option_map (λ (e : String Y × X). e.0) (slice_get entries place))
  name_of_entry place =
      slice_get-map string_bytes (map (λ (e : String Y × X). e.0) entries) place
      ∙ ap (option_map string_bytes) (slice_get-map (λ (e : String Y × X). e.0) entries place)

  -- the name of the entry of a number from 1
  pub name_at : (number : ℕ) (entry : Option (String Y × X)) → 1 ≤ number → slice_get entries (number - 1) ≡ entry
      → part_at (map string_bytes (map (λ (e : String Y × X). e.0) entries)) number ≡ option_map string_bytes (option_map (λ (e : String Y × X). e.0) entry)
  name_at zero entry one here = absurd (omega arith)
  name_at (suc place) entry one here =
      let same : place ≡ suc place - 1 = omega arith in
      name_of_entry place
      ∙ ap (λ (i : ℕ). option_map string_bytes (option_map (λ (e : String Y × X). e.0) (slice_get entries i))) same
      ∙ ap (λ (o : Option (String Y × X)). option_map string_bytes (option_map (λ (e : String Y × X). e.0) o)) here
