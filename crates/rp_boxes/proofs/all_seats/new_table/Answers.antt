-- The table opens as the rule requires it, over the opening world.
use Rattle.std.proofs.Common.{◌≡◌, ℕ, zero, suc, [], replicate, slice_index, refl}
use Rattle.rp_agreement.specs.Answered.{setting_for}
use Rattle.rp_model.specs.World.{opening_world}
use Rattle.rp_board.proofs.Opening.{opens}
use Rattle.rp_boxes.proofs.all_seats.new_table.Goals as goal

zeros : (count i : ℕ) → slice_index (replicate count 0) i ≡ 0
zeros zero i = refl
zeros (suc count) zero = refl
zeros (suc count) (suc i) = zeros count i

pub vacant-requires : goal.vacant-requires
vacant-requires g c =
    let m = g.M.Machine in
    let setup = c.args.setup.now in
    let s = setting_for m.next m.answers m.begin setup.config setup.program.value in
    let world = c.replies_follow_the_order.ensures.histories s [] (opening_world s.config.nodes) (record { config = c.requires.config; right = λ event h. absurd h; happened = refl }) in
    opens s c.requires.config world (replicate 272 0) refl (zeros 272)
