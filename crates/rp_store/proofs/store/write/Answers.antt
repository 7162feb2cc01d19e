use Rattle.rp_store.proofs.Calls.{sync_failed}
use Rattle.rp_store.proofs.store.write.Goals as goal

pub returns-clause-failed : goal.returns-clause-failed
returns-clause-failed g c = λ is.
    sync_failed c.args.text.now _ _ _ c.in_ok-append.ensures.ok (c.sync.ensures.failed is)
