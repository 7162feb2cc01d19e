-- What is said of the box: it is not full; and what the look shows: what the place knows is a piece of a world.
use Rattle.std.proofs.Common.{◌≢◌}
use Rattle.rp_board.specs.Looks.{HasWorld}
use Rattle.rp_board.specs.Moments.{WasWord}
use Rattle.rp_board.specs.Parts.{box_of}
use Rattle.rp_board.specs.Seats.{table_setting}
use Rattle.rp_board.proofs.boxes.empty.Given as goal

abbrev pub ghosts-look : goal.ghosts-look
ghosts-look g a = record { says = λ part. HasWorld (table_setting g.M.Machine a.slots.now.key) a.place.now.me.0 }

abbrev pub ghosts-claim_full : goal.ghosts-claim_full
ghosts-claim_full g a = record { says = λ part. WasWord (table_setting g.M.Machine a.slots.now.key) a.place.now.me.0 (box_of a.from a.to) (λ word. word ≢ 2) }
