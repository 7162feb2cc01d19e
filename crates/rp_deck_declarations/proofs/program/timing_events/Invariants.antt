use Rattle.std.proofs.Common.{◌≡◌}
use Rattle.std.specs.Prelude.{map, string_bytes}
use Rattle.rp_deck_declarations.proofs.program.timing_events.Given as goal

abbrev pub invariant-loop-name : goal.invariant-loop-name
invariant-loop-name l = record {
  handlers : map (λ event. event.handler) l.events.items ≡ map (λ pair. pair.1.now) l.yielded;
  names : map (λ event. string_bytes event.name) l.events.items ≡ map (λ pair. string_bytes pair.0.now) l.yielded;
}
