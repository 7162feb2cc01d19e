use Rattle.std.proofs.Common.{List}
use Rattle.rp_base.specs.declared.action.Action.{Action}
use Rattle.rp_codec.proofs.ListReading.{HasRead}
use Rattle.rp_codec.proofs.report_text.skip_actions.Given as goal

abbrev pub invariant-loop : goal.invariant-loop
invariant-loop l = (front : List Action) × HasRead l.version l.count l.fn.reader l.counter front l.reader
