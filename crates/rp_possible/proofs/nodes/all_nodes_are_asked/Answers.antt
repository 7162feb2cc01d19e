-- The numbers from 1 on are all nodes, and a node that leads asks them all.
use Rattle.std.proofs.Common.{Some, sym, subst}
use Rattle.rp_base.specs.Sets.{Has}
use Rattle.rp_model.specs.rp_codec.specs.Message.{Message}
use Rattle.rp_model.specs.Says.{says_to_all}
use Rattle.rp_possible.proofs.Asked.{goes_to, goes_only, led_so}
use Rattle.rp_possible.proofs.nodes.all_nodes_are_asked.Goals as goal

pub returns-clause-everyone : goal.returns-clause-everyone
returns-clause-everyone g c = λ nodes me body m. (
  λ has. goes_only nodes me body m has,
  λ is. subst (λ (x : Message). Has x (says_to_all nodes me body)) (sym is.3) (goes_to nodes me body is.0 is.1 is.2),
)

pub returns-clause-lead : goal.returns-clause-lead
returns-clause-lead g c = λ s me i b k records running turn result wrote low high.
    (led_so s me (Some i) records running turn result b wrote).1 k low high
