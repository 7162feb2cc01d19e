-- One packet of a trace more.
use Rattle.std.proofs.Common.{◌≡◌, ℕ, zero, suc, ◌+◌, ◌-◌, ◌<◌, ◌≤◌, Option, Some, None, List, [], ◌∷◌, ◌++◌, drop, length, arith, refl, sym, ap, subst, ◌∙◌}
use Rattle.std.specs.Io.KnownBytes.{Appends}
use Rattle.std.specs.Prelude.{option_to_list, slice_get}
use Rattle.std.proofs.KnownBytes.{Appends-nil}
use Rattle.std.proofs.lemmas.List.{drop_all}
use Rattle.std.proofs.lemmas.List.Concat.{flat_map-append}
use Rattle.rp_model.specs.rp_codec.specs.Message.{Message}
use Rattle.rp_model.specs.World.{part_at}
use Rattle.rp_output.specs.FaultMessage.{with_line_feed}
use Rattle.rp_output.specs.Stream.{Begins, WroteBefore}
use Rattle.rp_output.proofs.Writing.{wrote_more, wrote_some, wrote_all}
use Rattle.rp_run.specs.Items.{Note, note_line, notes_text}
use Rattle.rp_run.specs.Output.{trace_notes}

-- the item at a place, and those after it
pub drop_at : {A : Type 0} (xs : List A) (i : ℕ) (x : A) → slice_get xs i ≡ Some x → drop i xs ≡ x ∷ drop (suc i) xs
drop_at [] i x here = absurd (cc)
drop_at (y ∷ ys) zero x here = let same : y ≡ x = cc in ap (λ z. z ∷ ys) same
drop_at (y ∷ ys) (suc i) x here = drop_at ys i x here

pub drop_none_at : {A : Type 0} (xs : List A) (i : ℕ) → slice_get xs i ≡ None → (drop i xs ≡ []) × (drop (suc i) xs ≡ [])
drop_none_at [] i none = (drop_all i [] (omega arith), drop_all (suc i) [] (omega arith))
drop_none_at (x ∷ xs) zero none = absurd (cc)
drop_none_at (x ∷ xs) (suc i) none = drop_none_at xs i none

module _ (names : List (List ℕ)) (sent : List Message) where
  at_place : (place : ℕ) (m : Option Message) → slice_get sent place ≡ m
      → trace_notes names (suc place) (drop place sent) ≡ trace_notes names (suc place) (option_to_list m) ++ trace_notes names (suc (suc place)) (drop (suc place) sent)
  at_place place None here =
      let both = drop_none_at sent place here in
      ap (λ (l : List Message). trace_notes names (suc place) l) both.0 ∙ sym (ap (λ (l : List Message). trace_notes names (suc (suc place)) l) both.1)
  at_place place (Some m) here = ap (λ (l : List Message). trace_notes names (suc place) l) (drop_at sent place m here)

  notes_next : (number : ℕ) → 1 ≤ number
      → trace_notes names number (drop (number - 1) sent) ≡ trace_notes names number (option_to_list (part_at sent number)) ++ trace_notes names (number + 1) (drop (number + 1 - 1) sent)
  notes_next zero one = absurd (omega arith)
  notes_next (suc place) one =
      let here = trace_notes names (suc place) (option_to_list (slice_get sent place)) in
      let low : suc place - 1 ≡ place = omega arith in
      let high : suc place + 1 - 1 ≡ suc place = omega arith in
      let next : suc place + 1 ≡ suc (suc place) = omega arith in
      ap (λ (i : ℕ). trace_notes names (suc place) (drop i sent)) low
      ∙ at_place place (slice_get sent place) refl
      ∙ ap (λ (n : ℕ). here ++ trace_notes names n (drop (suc place) sent)) (sym next)
      ∙ ap (λ (i : ℕ). here ++ trace_notes names (suc place + 1) (drop i sent)) (sym high)

  -- the text of the message of a number, and of those from a number on
  abbrev pub message_at : ℕ → List ℕ
  message_at number = notes_text (trace_notes names number (option_to_list (part_at sent number)))

  abbrev pub messages_from : ℕ → List ℕ
  messages_from number = notes_text (trace_notes names number (drop (number - 1) sent))

  -- the message of a number, and those after it
  pub trace_next : (number : ℕ) → 1 ≤ number → messages_from number ≡ message_at number ++ messages_from (number + 1)
  trace_next number one =
      ap notes_text (notes_next number one)
      ∙ flat_map-append (λ (note : Note). with_line_feed (note_line note)) (trace_notes names number (option_to_list (part_at sent number))) (trace_notes names (number + 1) (drop (number + 1 - 1) sent))

  -- no message is left
  pub trace_ends : (number : ℕ) → length sent < number → messages_from number ≡ []
  trace_ends number past = ap (λ (l : List Message). notes_text (trace_notes names number l)) (drop_all (number - 1) sent (omega arith))

  -- so far the messages from the first to the one before this number are printed
  module _ (first number : ℕ) (a b : Option (List ℕ)) (so_far : WroteBefore a b (messages_from number) (messages_from first)) where
    pub traced_more : (c : Option (List ℕ)) → 1 ≤ number → Appends b c (message_at number) → WroteBefore a c (messages_from (number + 1)) (messages_from first)
    traced_more c one = wrote_more a b c (messages_from number) (messages_from first) so_far (message_at number) (messages_from (number + 1)) (trace_next number one)

    pub traced_some : (c : Option (List ℕ)) → 1 ≤ number → Begins b c (message_at number) → Begins a c (messages_from first)
    traced_some c one = wrote_some a b c (messages_from number) (messages_from first) so_far (message_at number) (messages_from (number + 1)) (trace_next number one)

    pub traced_all : length sent < number → Appends a b (messages_from first)
    traced_all past = wrote_all a b b (messages_from number) (messages_from first) so_far (subst (Appends b b) (sym (trace_ends number past)) (Appends-nil b))
