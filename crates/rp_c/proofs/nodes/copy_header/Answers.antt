-- A header has its 40 bytes.
use Rattle.std.proofs.Common.{◌≡◌, ◌∙◌, length, sym}
use Rattle.std.proofs.lemmas.List.{length-take-le}
use Rattle.rp_c.proofs.nodes.copy_header.Goals as goal

pub copy_from_slice-requires : goal.copy_from_slice-requires
copy_from_slice-requires c =
    let long : length c.args.header.now ≡ 40 = c.told-header in
    length-take-le 40 c.args.buffer.now c.requires ∙ sym long
