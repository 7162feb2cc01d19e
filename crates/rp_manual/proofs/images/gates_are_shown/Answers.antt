-- By computing.
use Rattle.rp_manual.proofs.Computing.{works}
use Rattle.rp_manual.proofs.Digits.{digits}
use Rattle.rp_manual.proofs.images.gates_are_shown.Goals as goal

pub returns : goal.returns
returns c = record {
  one_entry = λ unread number boolean entry is_name is_number is_boolean. simp (works, is_name, is_number, is_boolean, digits);
  two_entries = λ unread number boolean entry second is_name is_number is_boolean is_entry is_second.
      simp (works, is_name, is_number, is_boolean, is_entry, is_second, digits);
}
