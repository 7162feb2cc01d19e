use Rattle.std.proofs.Common.{length, refl, sym, subst, arith}
use Rattle.std.proofs.lemmas.List.{take_all}
use Rattle.rp_store.specs.Disk.{Disk, CutFailed}
use Rattle.rp_store.proofs.failing.FailDeviceDevice.cut.Goals as goal

pub returns-then-is_due-clause-failed : goal.returns-then-is_due-clause-failed
returns-then-is_due-clause-failed g c = λ is.
    let old : Disk = c.args.self.now in
    subst (λ (d : Disk). CutFailed c.args.len old d) (sym c.fails.ensures.failures) (record {
      cause = omega arith;
      contents = (length old.contents, c.requires, sym (take_all (length old.contents) old.contents (omega arith)));
      stable = omega arith;
      appends = refl;
    })
