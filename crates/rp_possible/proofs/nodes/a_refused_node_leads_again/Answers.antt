-- What the refusal leaves is the proposals at other positions, and its bound.
use Rattle.std.proofs.Common.{refl}
use Rattle.rp_model.specs.rp_codec.specs.declared.packet.Body.TheVariants.{Prepare}
use Rattle.rp_possible.proofs.Asked.{goes_to}
use Rattle.rp_possible.proofs.LedAgain.{ballot, turn, leads_again, is_above}
use Rattle.rp_possible.proofs.Refused.{refused_so}
use Rattle.rp_possible.proofs.nodes.a_refused_node_leads_again.Goals as goal

pub returns : goal.returns
returns g c = λ s me from i b bound records running refused result sender position is_node is left.
    let known = refused_so s me from i b bound records running refused is.p result sender position is.runs is.ballot in
    let led = ballot s me i b bound records running refused.running known is.alone is.least is.unlearned is.near in (
      turn s me i b bound records running refused.running known is.alone is.least is.unlearned is.near,
      leads_again s me i b bound records running refused.running known is.alone is.least is.unlearned is.near left,
      record {
        ballot = led;
        above = is_above s me i b bound records running refused.running known is.alone is.least is.unlearned is.near is_node;
        written = refl;
        asks = λ k least most. goes_to s.config.nodes me (Prepare i led) k least most;
      },
    )
