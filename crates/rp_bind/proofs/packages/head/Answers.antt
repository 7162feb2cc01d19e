-- The text is that of the language.
use Rattle.std.proofs.Common.{ap, sym}
use Rattle.rp_bind.specs.Packages.{head}
use Rattle.rp_bind.proofs.packages.head.Goals as goal

pub returns-in-Ada : goal.returns-in-Ada
returns-in-Ada c = ap head (sym c.in-Ada.is)

pub returns-in-Local : goal.returns-in-Local
returns-in-Local c = ap head (sym c.in-Local.is)
