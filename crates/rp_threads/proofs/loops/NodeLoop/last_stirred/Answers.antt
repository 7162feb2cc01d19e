-- The node rests after the turn, or was stirred in it.
use Rattle.std.proofs.Common.{ℕ, Bool, sym, ap, if◌then◌else◌}
use Rattle.rp_threads.proofs.loops.NodeLoop.last_stirred.Goals as goal

pub returns-then-rests : goal.returns-then-rests
returns-then-rests g c = (c.rests.result, c.rests.ensures, sym (ap (λ (b : Bool). if b then c.args.self.now.stirred else c.args.turn) c.if-rests.true))

pub returns-else-rests : goal.returns-else-rests
returns-else-rests g c = (c.rests.result, c.rests.ensures, sym (ap (λ (b : Bool). if b then c.args.self.now.stirred else c.args.turn) c.if-rests.false))
