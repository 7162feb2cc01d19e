use Rattle.std.proofs.Common.{◌≡◌, ◌≤◌, length}
use Rattle.rp_deck_hints.specs.Places.{after_lines}
use Rattle.rp_deck_hints.proofs.places.after_lines.Given as goal

abbrev pub invariant-loop : goal.invariant-loop
invariant-loop l = (l.rest ≡ after_lines l.text l.counter) × (length l.rest ≤ length l.text)
