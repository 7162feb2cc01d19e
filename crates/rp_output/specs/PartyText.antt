-- How a party is printed.
use Rattle.std.specs.Prelude.{ℕ, List, codes, decimal}
use Rattle.rp_output.specs.declared.trace.PartyText.{PartyText}
use Rattle.rp_output.specs.declared.trace.PartyText.TheVariants.{Node, Task, Audit}

abbrev pub shown_party : PartyText → List ℕ
shown_party (Node node) = decimal node
shown_party (Task name) = name.now
shown_party Audit = codes "audit"
