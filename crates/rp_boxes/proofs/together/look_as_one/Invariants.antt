-- The look shows that what the place knows is a piece of a world.
use Rattle.rp_board.specs.Looks.{HasWorld}
use Rattle.rp_board.specs.Seats.{table_setting}
use Rattle.rp_boxes.proofs.together.look_as_one.Given as goal

abbrev pub ghosts-look : goal.ghosts-look
ghosts-look g a = record { says = λ part. HasWorld (table_setting g.M.Machine a.slots.now.key) a.place.now.me.0 }
