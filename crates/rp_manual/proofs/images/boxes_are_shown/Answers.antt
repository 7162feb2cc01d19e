-- By computing.
use Rattle.rp_manual.proofs.Computing.{works}
use Rattle.rp_manual.proofs.Digits.{digits}
use Rattle.rp_manual.proofs.images.boxes_are_shown.Goals as goal

pub returns : goal.returns
returns c unread number is_name is_number = simp (works, is_name, is_number, digits)
