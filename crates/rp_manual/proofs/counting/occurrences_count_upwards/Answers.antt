-- By the occurrences of the source that counted.
use Rattle.std.proofs.Common.{nat_lt, refl, lt-ltb, ltb-true}
use Rattle.rp_object.specs.rp_machine.specs.Replay.{occurrences_of}
use Rattle.rp_object.specs.rp_machine.proofs.Calling.{all_true}
use Rattle.rp_manual.proofs.Turns.{all_from, occurrence_there, is_occurrence}
use Rattle.rp_manual.proofs.counting.occurrences_count_upwards.Goals as goal

pub returns : goal.returns
returns c = record {
  above = λ kept given source occurrence other e h.
      ltb-true other occurrence (all_true (λ earlier. nat_lt earlier occurrence) (occurrences_of source kept) other e (occurrence_there source other kept h));
  highest = λ kept given source occurrence each.
      all_from (λ earlier. nat_lt earlier occurrence) (occurrences_of source kept)
      (λ other h. lt-ltb other occurrence (each other (is_occurrence source other kept h)));
  tick = λ kept given now. refl;
  nothing = λ kept given. refl;
}
