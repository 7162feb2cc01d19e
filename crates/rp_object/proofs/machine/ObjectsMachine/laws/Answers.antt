-- A program that runs keeps the laws.
use Rattle.std.specs.Arc.{arc_value}
use Rattle.rp_object.proofs.MachineLaws as laws
use Rattle.rp_object.proofs.machine.ObjectsMachine.laws.Goals as goal

pub returns : goal.returns
returns c = record {
  none_waits = λ program. laws.none_waits (arc_value program.declarations);
  starts = λ program. laws.starts (arc_value program.declarations) program.right;
  keeps = λ program. laws.keeps (arc_value program.declarations) program.right;
  shows = λ program. laws.shows (arc_value program.declarations) program.right;
  accounts = λ program. laws.accounts (arc_value program.declarations);
  replies = λ program. laws.replies (arc_value program.declarations);
}
