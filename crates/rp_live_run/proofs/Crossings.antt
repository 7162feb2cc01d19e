-- The objects of a program may cross to another thread.
use denote.Param.Send.{IsSend, IsSync, sendable}
use Rattle.std.proofs.Crossing.{crosses}
use Rattle.std.proofs.string.String.TheSendSync as string
use Rattle.rp_object.specs.rp_body.proofs.components.Components.TheSendSync as components
use Rattle.rp_object.specs.rp_body.proofs.expression.Expr.TheLaws.TheKnot as expr
use Rattle.rp_object.specs.rp_body.proofs.expression.Cond.TheLaws.TheKnot as cond
use Rattle.rp_object.specs.rp_body.proofs.statement.Stmt.TheLaws.TheKnot as stmt
use Rattle.rp_object.specs.rp_entry.proofs.state.State.TheSendSync as state
use Rattle.rp_object.specs.rp_entry.specs.contracts.operations.Operations as Operations
use Rattle.rp_object.specs.rp_entry.specs.contracts.object.Object as Object
use Rattle.rp_object.proofs.program.Handler.TheSendSync as handler
use Rattle.rp_object.proofs.program.TimingEvent.TheSendSync as timing
use Rattle.rp_object.specs.contracts.program.Declarations as Declarations
use Rattle.rp_object.specs.contracts.objects.Objects as Objects

operations_send : IsSend Operations.the_row
operations_send = search (crosses, sendable, expr.crosses, cond.crosses, stmt.crosses) depth 40 fits 20000

operations_sync : IsSync Operations.the_row
operations_sync = search (crosses, sendable, expr.crosses, cond.crosses, stmt.crosses) depth 40 fits 20000

object_send : IsSend Object.the_row
object_send = search (crosses, sendable, operations_send, operations_sync, state.the_send) depth 40 fits 20000

declarations_send : IsSend Declarations.the_row
declarations_send = search (crosses, sendable, operations_send, operations_sync, components.the_send, string.the_send, handler.the_send, timing.the_send) depth 40 fits 20000

declarations_sync : IsSync Declarations.the_row
declarations_sync = search (crosses, sendable, operations_send, operations_sync, components.the_sync, string.the_sync, handler.the_sync, timing.the_sync) depth 40 fits 20000

pub objects_send : IsSend Objects.the_row
objects_send = search (crosses, sendable, object_send, declarations_send, declarations_sync) depth 40 fits 20000
