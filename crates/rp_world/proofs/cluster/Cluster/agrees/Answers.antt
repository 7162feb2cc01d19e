-- What the invariant gives of the cluster's world.
use Rattle.std.proofs.Common.{ℕ, List, ap, subst}
use Rattle.std.specs.Prelude.{Option, unwrap_or}
use Rattle.rp_base.specs.Records.{applied_of}
use Rattle.rp_base.specs.Sets.{Has}
use Rattle.rp_base.specs.declared.record.Rec.{Rec}
use Rattle.rp_base.specs.declared.record.Rec.TheVariants.{Started}
use Rattle.rp_codec.specs.Message.{Message}
use Rattle.rp_codec.specs.declared.packet.Body.{Body}
use Rattle.rp_codec.specs.declared.packet.Body.TheVariants.{Prepare, Accept, Accepted, Decided, PrepareRange}
use Rattle.rp_codec.specs.declared.packet.Party.TheVariants.{Node}
use Rattle.rp_model.specs.Parts.{NodePart, fresh_node}
use Rattle.rp_agreement.specs.Order.{IsPrefix}
use Rattle.rp_agreement.specs.Sound.{IsSo}
use Rattle.rp_agreement.specs.Worlds.{node_in}
use Rattle.rp_world.specs.Written.{AsksIn}
use Rattle.rp_world.proofs.Sounding.{part_is_there, promiser_there}
use Rattle.rp_world.proofs.cluster.Cluster.agrees.Goals as goal

-- who asks in a ballot has begun it
asked_in : (nodes : ℕ) (sent : List Message) (records : List Rec) (b : ℕ) (body : Body) → AsksIn b body → IsSo nodes sent records body → Has (Started b) records
asked_in nodes sent records b (Prepare i ballot) is so = subst (λ (k : ℕ). Has (Started k) records) is so
asked_in nodes sent records b (PrepareRange range ballot) is so = subst (λ (k : ℕ). Has (Started k) records) is so
asked_in nodes sent records b (Accept i ballot v) is so = subst (λ (k : ℕ). Has (Started k) records) is so.0
asked_in nodes sent records b _ is so = absurd is

pub returns : goal.returns
returns g c =
    let now = c.args.self.now in
    let n = now.setup.config.nodes in
    let node = node_in now.world.nodes in
    let sent = now.world.sent in
    let kept = c.is_kept.ensures.kept in
    let sound = kept.kept.sound in
    record {
      decided = c.decisions_are_one.ensures.decided n node sent sound;
      cast = c.decisions_are_one.ensures.cast n node sent sound;
      offered = c.offers_are_one.ensures n node sent sound;
      follows = c.offers_follow_decisions.ensures n node sent sound;
      justified = λ i b v offer. (c.packets_say_so.ensures.said n node sent sound offer.0 (Accept i b v) (Node offer.1, offer.2)).1;
      applied = λ order is x part here.
          subst (λ (a : NodePart). IsPrefix (applied_of a.records) order) (ap (λ (o : Option NodePart). unwrap_or o fresh_node) here)
          (c.applied_lists_are_prefixes.ensures n node sent sound order is x);
      started = λ x b body says asks.
          let member = c.packets_say_so.ensures.members n node sent sound x body says in
          (node x, part_is_there now.world n x kept.size member, asked_in n sent (node x).records b body asks (c.packets_say_so.ensures.said n node sent sound x body says));
      promised = λ x i b last says.
          let member = promiser_there n node sent sound x i b last says in
          (node x, part_is_there now.world n x kept.size member, c.packets_say_so.ensures.written n node sent sound x i b last says);
      reported = λ x i b last says.
          let member = promiser_there n node sent sound x i b last says in
          (node x, part_is_there now.world n x kept.size member, c.packets_say_so.ensures.promised n node sent sound x i b last says);
      voted = λ x i b v says.
          let member = c.packets_say_so.ensures.members n node sent sound x (Accepted i b v) (Node says.0, says.1) in
          (node x, part_is_there now.world n x kept.size member, c.packets_say_so.ensures.said n node sent sound x (Accepted i b v) (Node says.0, says.1));
      learned = λ x i v says.
          let member = c.packets_say_so.ensures.members n node sent sound x (Decided i v) says in
          (node x, part_is_there now.world n x kept.size member, c.packets_say_so.ensures.said n node sent sound x (Decided i v) says);
    }
