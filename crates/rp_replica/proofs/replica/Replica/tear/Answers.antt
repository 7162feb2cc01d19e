use Rattle.std.proofs.Common.{Some, subst, ap, ◌∙◌}
use Rattle.rp_codec.specs.Record.{record_text}
use Rattle.rp_store.specs.Disk.{stopped, appended, AppendFailed}
use Rattle.rp_store.specs.Tearing.{IsNotTorn}
use Rattle.rp_store.specs.declared.store.NotTorn.{NotTorn}
use Rattle.rp_store.specs.declared.store.NotTorn.TheVariants.{Failed}
use Rattle.rp_replica.specs.Cutting.{MayWrite}
use Rattle.rp_replica.specs.State.{ReplicaState}
use Rattle.rp_replica.specs.Invariant.{IsOnDisk}
use Rattle.rp_replica.proofs.Cuts.{torn_cuts, torn_fails}
use Rattle.rp_replica.proofs.replica.Replica.tear.Goals as goal

pub returns-in-Ok-clause-ok : goal.returns-in-Ok-clause-ok
returns-in-Ok-clause-ok g c =
    let h = c.args.self in
    let may : MayWrite h.config.max_positions (Some c.args.rec.now) = (record { ranges = c.record_in_range.ensures; right = c.requires.right }, c.requires.place) in
    torn_cuts h (subst (λ (k : ReplicaState g.row.M.Denot). IsOnDisk k.config.max_positions k.disk k.failed k.records) c.self.view_is c.self.invariant) c.requires.working c.args.kept c.args.rec.now
    (g.D.Device.disk c.in-Ok.device) may
    (c.in-Ok.ensures.ok.disk_is ∙ ap (λ (k : ReplicaState g.row.M.Denot). stopped c.args.kept (appended (record_text c.args.rec.now) k.disk)) c.self.view_is)

pub returns-in-Err-Failed-clause-err : goal.returns-in-Err-Failed-clause-err
returns-in-Err-Failed-clause-err g c =
    let h = c.args.self in
    let may : MayWrite h.config.max_positions (Some c.args.rec.now) = (record { ranges = c.record_in_range.ensures; right = c.requires.right }, c.requires.place) in
    let stated : IsNotTorn g.D.Device.disk (record_text c.args.rec.now) c.self.inside.store (Failed c.in-Err-Failed.device) =
    subst (λ (n : NotTorn g.row.D.Denot). IsNotTorn g.D.Device.disk (record_text c.args.rec.now) c.self.inside.store n) c.in-Err-Failed.field-0-is c.in-Err-Failed.ensures.err in
    torn_fails h (subst (λ (k : ReplicaState g.row.M.Denot). IsOnDisk k.config.max_positions k.disk k.failed k.records) c.self.view_is c.self.invariant) c.requires.working c.args.rec.now
    (g.D.Device.disk c.in-Err-Failed.device) may
    (subst (λ (k : ReplicaState g.row.M.Denot). AppendFailed (record_text c.args.rec.now) k.disk (g.D.Device.disk c.in-Err-Failed.device)) c.self.view_is stated.0)
