-- What the run of a deck has to print.
use Rattle.std.specs.Prelude.{ℕ, nat_eq, ◌==◌, Bool, List, ◌∷◌, string_bytes}
use Rattle.std.specs.List.{ends_with, list_any, slice_split}
use Rattle.std.specs.Str.{bytes_eq}
use Rattle.rp_explore_run.specs.declared.wanted.Wanted.{Wanted}
use Rattle.rp_explore_run.specs.declared.wanted.Wanted.TheVariants.{Line, State}

-- the lines of a text, without their ends
abbrev pub text_lines : List ℕ → List (List ℕ)
text_lines text = slice_split (λ byte. byte == 10) text

-- the output has the line, or it ends with the image of the state
abbrev pub is_shown : Wanted → List ℕ → Bool
is_shown (Line line) output = list_any (bytes_eq (string_bytes line)) (text_lines output)
is_shown (State image) output = ends_with nat_eq output (10 ∷ image.items)
