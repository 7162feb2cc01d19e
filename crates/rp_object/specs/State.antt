-- The state of a program: its protected objects, its timing events and the clock.
use Rattle.std.specs.Prelude.{ℕ, ℤ, Option, None, List, map, refl}
use Rattle.std.specs.Coded.{Coded, code_by, coded×, coded_ℕ, coded_ℤ, coded_list, coded_option}
use Rattle.rp_entry.specs.Protected.{Protected, protected_code}
use Rattle.rp_entry.specs.Queue.{empty_queues}
use Rattle.rp_machine.specs.Calls.{CallName}
use Rattle.rp_entry.specs.declared.state.Waiting.{Waiting}
use Rattle.rp_object.specs.contracts.program.Declarations as declared
use Rattle.rp_object.specs.declared.program.ObjectDeclaration.{ObjectDeclaration}
use Rattle.rp_object.specs.declared.program.TimingEvent.{TimingEvent}
use Rattle.rp_object.specs.declared.program.Declarations.{Declarations}
use Rattle.rp_object.specs.Program.{operations_of}

-- the objects, each with its operations, components and queues, the time for which each timing
-- event is set, if it is, and the clock; objects and timing events are in order of their numbers
-- from 1
pub record ProgramState : Type 0 where
  pub objects : List Protected
  pub timers : List (Option ℤ)
  pub clock : ℕ

-- a program that runs: what is declared, and the state now
pub record Running : Type 0 where
  pub program : Declarations
  pub state : ProgramState

-- an object at the start: its components have their first values, and nobody waits
abbrev pub first_object : ObjectDeclaration → Protected
first_object declared =
    record {
      operations = operations_of declared;
      state =
          record {
            store = declared.components;
            queues = empty_queues (operations_of declared).entries.items;
          };
    }

-- a timing event that is not set
abbrev pub unset : TimingEvent → Option ℤ
unset timer = None

-- the start of a program: each object as it is declared, no time set, and the clock at 0
abbrev pub first_state : Declarations → Running
first_state program = record {
  program = program;
  state =
      record {
        objects = map first_object program.objects.items;
        timers = map unset program.timers.items;
        clock = 0;
      };
}

-- the name of a call that waits
abbrev pub call_name_of : Waiting → CallName
call_name_of call = record { task = call.task; number = call.number }

-- a state of a program, for the proofs, as the tuple of its parts
abbrev pub running_code : Coded Running
running_code =
    code_by (Declarations × (List Protected × (List (Option ℤ) × ℕ)))
    (coded× declared.the_row.coded
    (coded× (coded_list protected_code) (coded× (coded_list (coded_option coded_ℤ)) coded_ℕ)))
    (λ r. (r.program, (r.state.objects, (r.state.timers, r.state.clock))))
    (λ p. record {
      program = p.0;
      state =
          record { objects = p.1.0; timers = p.1.1.0; clock = p.1.1.1 };
    }) (λ _. refl)
