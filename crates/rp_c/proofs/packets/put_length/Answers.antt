-- Where there is a packet's length, the bytes begin with that packet.
use Rattle.std.proofs.Common.{ap, refl}
use Rattle.std.specs.Prelude.{unwrap_or}
use Rattle.rp_c.proofs.packets.put_length.Goals as goal

pub returns-in-Some : goal.returns-in-Some
returns-in-Some c =
    let begins = c.in-Some.ensures.valid.0 refl in (
      begins.0,
      begins.1,
      begins.2,
      begins.3,
      ap (λ found. unwrap_or found 0) (c.in-Some.ensures.value begins.0 begins.1 begins.2 begins.3),
    )
