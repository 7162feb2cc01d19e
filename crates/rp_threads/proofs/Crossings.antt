-- Seats cross to another thread.
use Rattle.std.proofs.Common.{List, [], ◌∷◌}
use mathlib.Core.Logic.{inl, inr}
use mir.Val.{Val}
use base.Shift.{Keyless}
use denote.RattleType.{RattleType}
use denote.Enum.Enum.{Sum, payload}
use denote.Model.Local.{Parts}
use denote.Model.Local as local
use denote.Model.Marks.{tied_send}
use denote.Param.{number}
use denote.Param.Send.{IsSend, IsSync, AllSend, struct_send, recorded_send, sendable}
use denote.Ref.{NamedLft}
use denote.Struct.Declared.{shape}
use denote.Struct.Field.{rows}
use denote.Struct.Struct.{Struct}
use denote.Struct.Tuple.{parts, type_at, TupleAt}
use mir.Syntax.{Sym}
use Rattle.std.proofs.Crossing.{crosses}
use Rattle.std.proofs.alloc.Global.TheSendSync as heap
use Rattle.std.proofs.MapsCrossing as maps
use Rattle.std.specs.contracts.snapshot.Snapshot as Snapshot
use Rattle.circular_buffer.proofs.cells.Cells.TheSendSync as cells
use Rattle.circular_buffer.proofs.cells.Deed.TheSendSync as deed
use Rattle.rp_boxes.specs.atomic_table.proofs.shared.Seat.TheSendSync as place
use Rattle.rp_boxes.specs.atomic_table.proofs.shared.Shared.TheSendSync as shared
use Rattle.rp_boxes.specs.atomic_table.proofs.send_lease.SendLease.TheSendSync as lease
use Rattle.rp_base.specs.contracts.fault.Fault as Fault
use Rattle.rp_base.specs.contracts.history.History as History
use Rattle.rp_base.specs.contracts.history.History.TheKnot as knot
use Rattle.rp_base.specs.declared.history.History.TheDeep as deep
use Rattle.rp_replica.specs.rp_learner.specs.contracts.learner.Learner as Learner
use Rattle.rp_replica.specs.rp_learner.specs.contracts.position_state.PositionState as PositionState
use Rattle.rp_replica.specs.rp_learner.specs.contracts.vote_counts.VoteCounts as VoteCounts
use Rattle.rp_replica.specs.rp_machine.specs.declared.machine.Machine as machine
use Rattle.rp_replica.specs.rp_machine.specs.contracts.numbered.Numbered as Numbered
use Rattle.rp_replica.specs.rp_machine.specs.contracts.numbered.Numbered.TheInside as numbered
use Rattle.rp_replica.specs.rp_store.specs.declared.device.Device as device
use Rattle.rp_replica.specs.rp_store.specs.contracts.store.Store as Store
use Rattle.rp_replica.specs.rp_store.specs.contracts.store.Store.TheInside as store
use Rattle.rp_replica.specs.rp_server.specs.contracts.server.Roles as Roles
use Rattle.rp_replica.specs.rp_server.specs.contracts.server.Roles.TheInside as server
use Rattle.rp_replica.specs.contracts.replica.Replica as Replica
use Rattle.rp_replica.specs.contracts.replica.Replica.TheInside as replica
use Rattle.rp_tasks.specs.contracts.line.FaultLine as FaultLine
use Rattle.rp_tasks.specs.contracts.line.FaultLine.TheInside as line
use Rattle.rp_boxes.specs.rp_actors.specs.contracts.task.Task as Task
use Rattle.rp_base.specs.contracts.number.Id as Id
use Rattle.rp_codec.specs.declared.packet.Party.TheVariants.{Node, Task}
use Rattle.rp_board.specs.declared.actors.Sits as sits
use Rattle.rp_board.specs.contracts.seat.Seat as Seat
use Rattle.rp_board.specs.contracts.seat.Seat.TheInside as seat
use Rattle.rp_boxes.specs.contracts.node_seat.NodeSeat as NodeSeat
use Rattle.rp_boxes.specs.contracts.node_seat.NodeSeat.TheInside as node_seat
use Rattle.rp_boxes.specs.contracts.task_seat.TaskSeat as TaskSeat
use Rattle.rp_boxes.specs.contracts.task_seat.TaskSeat.TheInside as task_seat
use Rattle.rp_threads.specs.contracts.loops.Counts as Counts
use Rattle.rp_threads.specs.contracts.loops.NodeEnd as NodeEnd
use Rattle.rp_threads.specs.contracts.options.LoopOptions as LoopOptions
use Rattle.rp_threads.specs.contracts.tasks.TaskCall as TaskCall
use Rattle.rp_threads.specs.contracts.tasks.TaskEnd as TaskEnd

-- ---- a list that memory does not hold

either : (X T : RattleType) → IsSend X → IsSend T → (c : Sum ([] ∷ (X ∷ T ∷ []) ∷ [])) (us : List Val) → Keyless (payload ([] ∷ (X ∷ T ∷ []) ∷ []) c us)
either X T x t (inl c) us = λ vss. (tt, tt)
either X T x t (inr (inl c)) us = λ vss. (tt, (x.owned c.0 _, (t.owned c.1.0 _, tt)))
either X T x t (inr (inr c)) us = absurd c

past_send : (Y : RattleType) → IsSend (Snapshot.the_row Y)
past_send Y = search (crosses, sendable)

keeps : (T : RattleType) → IsSend T → (p : Parts (knot.frame T)) → ((j : deep.the_members) → IsSend (local.rows (knot.frame T) p j)) → (i : deep.the_members) → IsSend (local.rows (knot.frame T) (knot.step T p) i)
keeps T s p all deep.member-History =
    let earlier = local.rows (knot.frame T) p deep.member-History in
    record { owned = λ x vs x'. ((λ us. (tt, ((λ ws. (tt, either (Snapshot.the_row earlier) (Snapshot.the_row T) (past_send earlier) (past_send T) _ ws)), tt))), tt); leaving = λ k d w. tt }

pub history_send : (T : RattleType) → IsSend T → IsSend (History.the_row T)
history_send T s = tied_send (knot.frame T) (knot.step T) (knot.sizes T) (keeps T s) deep.member-History

-- ---- a replica

counts_send : IsSend VoteCounts.the_row
counts_send = search (crosses, sendable) depth 40 fits 20000

learned_place_send : IsSend PositionState.the_row
learned_place_send = search (crosses, sendable, counts_send) depth 20 fits 20000

learner_send : IsSend Learner.the_row
learner_send = search (crosses, sendable, learned_place_send, cells.the_send, deed.the_send) depth 40 fits 20000

store_inside : (D : RattleType) (d : device.Ghosts D.Denot) → IsSend D → IsSend (store.the_row D d)
store_inside D d t =
    recorded_send (store.the_field D d).row _ _ (store.the_type D d).to_one (struct_send (shape (store.the_type D d))
    (t, (search sendable, tt)))

store_send : (D : RattleType) (d : device.Ghosts D.Denot) → IsSend D → IsSend (Store.the_row D d)
store_send D d t = let i = store_inside D d t in search (sendable, i)

numbered_inside : (M P : RattleType) (m : machine.Ghosts M.Denot P.Denot) → IsSend M → IsSend (numbered.the_row M P m)
numbered_inside M P m s =
    recorded_send (numbered.the_field M P m).row _ _ (numbered.the_type M P m).to_one (struct_send (shape (numbered.the_type M P m))
    (s, (search (crosses, sendable) depth 20, (search (crosses, sendable) depth 20, (search (crosses, sendable) depth 20, (search (crosses, sendable, history_send) depth 20, tt))))))

numbered_send : (M P : RattleType) (m : machine.Ghosts M.Denot P.Denot) → IsSend M → IsSend (Numbered.the_row M P m)
numbered_send M P m s = let i = numbered_inside M P m s in search (sendable, i)

server_inside : (M P : RattleType) (m : machine.Ghosts M.Denot P.Denot) → IsSend M → IsSend (server.the_row M P m)
server_inside M P m s =
    recorded_send (server.the_field M P m).row _ _ (server.the_type M P m).to_one (struct_send (shape (server.the_type M P m))
    (search (crosses, sendable), (search (crosses, sendable), (search (crosses, sendable, history_send) depth 40 fits 20000, (search (crosses, sendable, history_send) depth 60 fits 40000, (learner_send, (search (crosses, sendable, history_send) depth 40 fits 20000, (search (crosses, maps.crosses, sendable) depth 40 fits 20000, (numbered_send M P m s, (search (crosses, sendable, cells.the_send, deed.the_send) depth 40, tt))))))))))

server_send : (M P : RattleType) (m : machine.Ghosts M.Denot P.Denot) → IsSend M → IsSend (Roles.the_row M P m)
server_send M P m s = let i = server_inside M P m s in search (sendable, i)

replica_inside : (M D P : RattleType) (m : machine.Ghosts M.Denot P.Denot) (d : device.Ghosts D.Denot) → IsSend M → IsSend D → IsSend (replica.the_row M D P m d)
replica_inside M D P m d s t =
    recorded_send (replica.the_field M D P m d).row _ _ (replica.the_type M D P m d).to_one (struct_send (shape (replica.the_type M D P m d))
    (server_send M P m s, (store_send D d t, tt)))

pub replica_send : (M D P : RattleType) (m : machine.Ghosts M.Denot P.Denot) (d : device.Ghosts D.Denot) → IsSend M → IsSend D → IsSend (Replica.the_row M D P m d)
replica_send M D P m d s t = let i = replica_inside M D P m d s t in search (sendable, i)

-- ---- a seat at the table

id_send : (N : RattleType) → IsSend (Id.the_row N)
id_send N = search (crosses, sendable)

seat_inside : (M S P : RattleType) (m : machine.Ghosts M.Denot P.Denot) (s : sits.Ghosts S.Denot) → IsSend M → IsSend S → IsSend (seat.the_row M S P m s)
seat_inside M S P m s t u =
    recorded_send (seat.the_field M S P m s).row _ _ (seat.the_type M S P m s).to_one (struct_send (shape (seat.the_type M S P m s))
    (u, (search (crosses, sendable, place.the_send) depth 9, (search (crosses, sendable, shared.the_send, shared.the_sync, lease.the_send, lease.the_sync) depth 25, (search (crosses, sendable), tt)))))

seat_send : (M S P : RattleType) (m : machine.Ghosts M.Denot P.Denot) (s : sits.Ghosts S.Denot) → IsSend M → IsSend S → IsSend (Seat.the_row M S P m s)
seat_send M S P m s t u = let i = seat_inside M S P m s t u in search (sendable, i)

-- ---- the seat of a node

node_inside : (M D P : RattleType) (m : machine.Ghosts M.Denot P.Denot) (d : device.Ghosts D.Denot) → IsSend M → IsSend D → IsSend (node_seat.the_row M D P m d)
node_inside M D P m d s t =
    recorded_send (node_seat.the_field M D P m d).row _ _ (node_seat.the_type M D P m d).to_one (struct_send (shape (node_seat.the_type M D P m d))
    (replica_send M D P m d s t, (seat_send M (Id.the_row (number 7)) P m (record { number = λ node. node; party = Node }) s (id_send (number 7)), (search (crosses, sendable), tt))))

pub node_seat_send : (M D P : RattleType) (m : machine.Ghosts M.Denot P.Denot) (d : device.Ghosts D.Denot) → IsSend M → IsSend D → IsSend (NodeSeat.the_row M D P m d)
node_seat_send M D P m d s t = let i = node_inside M D P m d s t in search (sendable, i)

-- ---- the seat of a task

task_send : IsSend Task.the_row
task_send = search (crosses, sendable) depth 40 fits 20000

task_inside : (M P : RattleType) (m : machine.Ghosts M.Denot P.Denot) → IsSend M → IsSend (task_seat.the_row M P m)
task_inside M P m s =
    recorded_send (task_seat.the_field M P m).row _ _ (task_seat.the_type M P m).to_one (struct_send (shape (task_seat.the_type M P m))
    (search (crosses, sendable), (task_send, (seat_send M (Id.the_row (number 8)) P m (record { number = λ task. task; party = Task }) s (id_send (number 8)), tt))))

pub task_seat_send : (M P : RattleType) (m : machine.Ghosts M.Denot P.Denot) → IsSend M → IsSend (TaskSeat.the_row M P m)
task_seat_send M P m s = let i = task_inside M P m s in search (sendable, i)

-- ---- lines and ends

line_inside : IsSend line.the_row
line_inside =
    recorded_send (line.the_field).row _ _ (line.the_type).to_one (struct_send (shape line.the_type)
    (search (crosses, sendable) depth 20, (search (crosses, sendable), (search (crosses, sendable) depth 40 fits 20000, (search (crosses, sendable), (search (crosses, sendable) depth 20, (search (crosses, sendable), tt)))))))

pub line_send : IsSend FaultLine.the_row
line_send = let i = line_inside in search (sendable, i)

fault_send : IsSend Fault.the_row
fault_send = search (crosses, sendable) depth 60 fits 40000

turn_counts_send : IsSend (Counts.the_field).row
turn_counts_send = search (crosses, sendable) depth 60 fits 40000

pub node_end_send : (M D P : RattleType) (m : machine.Ghosts M.Denot P.Denot) (d : device.Ghosts D.Denot) → IsSend M → IsSend D → IsSend (NodeEnd.the_row M D P m d)
node_end_send M D P m d s t =
    recorded_send (NodeEnd.the_field M D P m d).row _ _ (NodeEnd.the_type M D P m d).to_one (struct_send (shape (NodeEnd.the_type M D P m d))
    (node_seat_send M D P m d s t, (search (crosses, sendable, turn_counts_send), (search (crosses, sendable, fault_send), tt))))

pub task_call_send : IsSend TaskCall.the_row
task_call_send = search (crosses, sendable) depth 60 fits 40000

pub task_end_send : (M P : RattleType) (m : machine.Ghosts M.Denot P.Denot) → IsSend M → IsSend (TaskEnd.the_row M P m)
task_end_send M P m s =
    recorded_send (TaskEnd.the_field M P m).row _ _ (TaskEnd.the_type M P m).to_one (struct_send (shape (TaskEnd.the_type M P m))
    (task_seat_send M P m s, (search (crosses, sendable), (search (crosses, sendable), (search (crosses, sendable), (search (crosses, sendable, fault_send), tt))))))

-- ---- the options of a loop

pub options_send : (κ : NamedLft) (G E : RattleType) → IsSync G → IsSync E → IsSend (LoopOptions.the_row κ G E)
options_send κ G E s t = search (crosses, sendable, heap.the_field_send) depth 40 fits 20000

-- ---- what a closure captures

all_sent : (Ts : List RattleType) → AllSend Ts → AllSend (rows (parts Ts))
all_sent [] all = tt
all_sent (T ∷ Ts) all = (all.0, all_sent Ts all.1)

row_send : (name : Sym) (Ts : List RattleType) → AllSend Ts → IsSend (TupleAt name Ts)
row_send name Ts all =
    let T = type_at name Ts in recorded_send (Struct (shape T)) T.D T.to T.to_one (struct_send (shape T) (all_sent Ts all))

-- a closure that captures four values
pub four_send : (name : Sym) (A B C D : RattleType) → IsSend A → IsSend B → IsSend C → IsSend D → IsSend (TupleAt name (A ∷ B ∷ C ∷ D ∷ []))
four_send name A B C D a b c d = row_send name (A ∷ B ∷ C ∷ D ∷ []) (a, (b, (c, (d, tt))))

-- a closure that captures five values
pub five_send : (name : Sym) (A B C D E : RattleType) → IsSend A → IsSend B → IsSend C → IsSend D → IsSend E → IsSend (TupleAt name (A ∷ B ∷ C ∷ D ∷ E ∷ []))
five_send name A B C D E a b c d e = row_send name (A ∷ B ∷ C ∷ D ∷ E ∷ []) (a, (b, (c, (d, (e, tt)))))
