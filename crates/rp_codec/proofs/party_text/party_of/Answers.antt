-- A node or a task that is found has the byte as its number.
use Rattle.std.proofs.Common.{arith}
use Rattle.rp_codec.specs.declared.packet.Party.TheVariants.{Node, Task}
use Rattle.rp_codec.proofs.party_text.party_of.Goals as goal

pub returns-in-Some-clause-none : goal.returns-in-Some-clause-none
returns-in-Some-clause-none c = λ none.
    absurd (none (Node c.in-Some.node) (omega arith, omega arith) c.in-Some.ensures.value)

pub returns-in-Some-new-clause-none : goal.returns-in-Some-new-clause-none
returns-in-Some-new-clause-none c = λ none.
    absurd (none (Task c.in-Some-new.task) (omega arith, omega arith) (omega (arith, c.in-Some-new.ensures.value)))
