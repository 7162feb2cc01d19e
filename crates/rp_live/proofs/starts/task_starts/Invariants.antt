-- The tasks so far are ready.
use Rattle.std.proofs.Common.{◌≡◌, ◌++◌, All, map, filter_map}
use Rattle.rp_threads.specs.rp_codec.specs.declared.packet.Party.TheVariants.{Task}
use Rattle.rp_live.specs.Events.{call_by}
use Rattle.rp_live.specs.Lines.{party_line}
use Rattle.rp_live.proofs.starts.task_starts.Given as goal

abbrev pub invariant-loop-seat : goal.invariant-loop-seat
invariant-loop-seat g l = record {
  seats : map (λ start. start.seat) l.starts.items ++ l.seat-iterator.rest.items ≡ l.fn.seats.items;
  calls : All (λ start. start.calls.items ≡ filter_map (call_by start.seat.setup.number) l.events) l.starts.items;
  lines : All (λ start. start.line ≡ party_line l.seed (Task start.seat.setup.number)) l.starts.items;
}
