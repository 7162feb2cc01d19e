-- The node is the one that was opened, with no step made.
use Rattle.std.proofs.Common.{refl, subst, sym}
use Rattle.rp_replica.specs.rp_store.specs.Disk.{disk_of}
use Rattle.rp_requests.specs.Nodes.{NodeState}
use Rattle.rp_requests.specs.Opening.{IsOpenedNode}
use Rattle.rp_requests.proofs.node.HandleNode.open.Goals as goal

pub returns-in-Ok-clause-ok : goal.returns-in-Ok-clause-ok
returns-in-Ok-clause-ok g c =
    subst (λ (node : NodeState g.row.M.Denot). IsOpenedNode c.args.node c.args.config (g.M.Machine.begin c.args.program.now) c.args.bytes.now node c.in-Ok.opening.records c.stored-kept.result) (sym c.new.ensures)
    (record {
      disk = disk_of c.in_ok-device.device;
      holds = c.in_ok-device.ensures.ok;
      cut_bytes = c.in-Ok.opening.cut_bytes;
      opens = c.in-Ok.ensures.ok;
      kept_is = c.stored-kept.ensures;
      no_step = (refl, refl, refl, refl, refl);
    })
