use Rattle.std.proofs.Common.{◌≡◌, ◌-◌, List, ℕ, length, Err, ap, subst, ◌∙◌, arith}
use Rattle.rp_store.specs.Disk.{Disk, KeepsFront}
use Rattle.rp_store.specs.Records.{records_text, AreRecordsOf, KeepsRecords}
use Rattle.rp_store.proofs.Calls.{whole_length, opened, settle_failed, front_keeps, read_refused, trim_refused, opening_failed, opening_cause, at_fault}
use Rattle.rp_store.proofs.store.restore.Given as given
use Rattle.rp_store.proofs.store.restore.Goals as goal
use Rattle.rp_store.proofs.store.restore.Goals.{After-len}

pub returns-in_err-bytes-clause-err : goal.returns-in_err-bytes-clause-err
returns-in_err-bytes-clause-err g c =
    let fault = c.in_err-bytes.field-0.0 in
    at_fault _ _ fault _ c.from_residual.ensures.1
    (read_refused (g.D.Device.disk c.args.device.now) (g.D.Device.disk c.read.new.self) fault c.in_err-bytes.ensures.faults
    (λ is. c.in_err-bytes.ensures.refused (ap Err is)) (λ is. c.in_err-bytes.ensures.failed (ap Err is)))

-- the whole records that were read, and where they end: a step that keeps the front keeps them
module _ (g : given.Over) (c : After-len g) where
  are : AreRecordsOf (g.D.Device.disk c.args.device.now).contents c.in_ok-records.records.items c.in_ok-records.ensures.records.0
  are = subst (λ (l : List ℕ). AreRecordsOf l c.in_ok-records.records.items c.in_ok-records.ensures.records.0) (c.deref.ensures.value ∙ c.in_ok-bytes.ensures.contents) c.in_ok-records.ensures.records.1

  ends : length (records_text c.in_ok-records.records.items) ≡ c.len.result - c.in_ok-records.torn
  ends = omega (arith, whole_length _ _ _ are, ap length (c.deref.ensures.value ∙ c.in_ok-bytes.ensures.contents), c.in_ok-records.ensures.records.2, c.len.ensures, c.deref.ensures.len)

  kept : (new : Disk) → KeepsFront (c.len.result - c.in_ok-records.torn) (g.D.Device.disk c.read.new.self) new → KeepsRecords (g.D.Device.disk c.args.device.now) new
  kept new = front_keeps _ _ new _ _ _ c.in_ok-bytes.ensures.ok are ends

pub returns-in_err-trim-clause-err : goal.returns-in_err-trim-clause-err
returns-in_err-trim-clause-err g c =
    let fault = c.in_err-trim.field-0.0 in
    at_fault _ _ fault _ c.from_residual-in_err-trim.ensures.1
    (trim_refused _ (g.D.Device.disk c.read.new.self) _ fault c.in_ok-bytes.ensures.ok (kept g (goal.at.returns-in_err-trim-clause-err g c).After-len _ c.in_err-trim.ensures.kept) c.in_err-trim.ensures.faults
    (λ is. c.in_err-trim.ensures.refused (ap Err is)) (λ is. c.in_err-trim.ensures.cause (ap Err is)))

pub returns-in_err-sync-clause-err : goal.returns-in_err-sync-clause-err
returns-in_err-sync-clause-err g c =
    let old = g.D.Device.disk c.args.device.now in
    let read = g.D.Device.disk c.read.new.self in
    let fault = c.in_err-sync.field-0.0 in
    let is = c.in_err-sync.ensures.faults in
    let failed = c.in_err-sync.ensures.failed (ap Err is) in
    let front = settle_failed _ _ read _ _ c.in_ok-trim.ensures.ok failed in
    let cause = opening_cause old read _ _ c.in_ok-bytes.ensures.ok c.in_ok-trim.ensures.ok failed in
    at_fault _ _ fault _ c.from_residual-in_err-sync.ensures.1 (opening_failed old _ fault is (kept g (goal.at.returns-in_err-sync-clause-err g c).After-len _ front) cause)

pub returns-clause-ok : goal.returns-clause-ok
returns-clause-ok g c =
    let at = (goal.at.returns-clause-ok g c).After-len in
    let found = c.in_ok-records.ensures.records in
    opened (g.D.Device.disk c.args.device.now) (g.D.Device.disk c.read.new.self) _ _ c.in_ok-records.records.items found.0 _ _ c.in_ok-bytes.ensures.ok (are g at) (ends g at) found.2 c.in_ok-trim.ensures.ok c.in_ok-sync.ensures.ok
