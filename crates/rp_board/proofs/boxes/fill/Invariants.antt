-- What is said of the box: it is in use; and of the actor's part: it has put the packet, of which the box is full.
use Rattle.std.proofs.Common.{◌≢◌, ◌∷◌, []}
use Rattle.rp_board.specs.Moments.{WasFull, WasWord}
use Rattle.rp_board.specs.Parts.{box_of, part_in}
use Rattle.rp_board.specs.Plays.{IsPutBy}
use Rattle.rp_board.specs.Seats.{table_setting}
use Rattle.rp_board.proofs.boxes.fill.Given as goal

abbrev pub ghosts-claim_empty : goal.ghosts-claim_empty
ghosts-claim_empty g a = record { says = λ part. WasWord (table_setting g.M.Machine a.slots.now.key) a.place.now.me.0 (box_of a.from a.to) (λ word. word ≢ 0) }

abbrev pub ghosts-deliver : goal.ghosts-deliver
ghosts-deliver g a = record {
  says = λ part. IsPutBy a.from a.to a.packet.items (record (part_in a.place.now.me.0) { fills = [] }) part
      × WasFull (table_setting g.M.Machine a.slots.now.key) ((a.from, part) ∷ []) (box_of a.from a.to) a.packet.items;
}
