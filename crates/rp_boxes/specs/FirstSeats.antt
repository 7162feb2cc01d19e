-- How the seats are made: actors get seats one after another, in the order of their numbers.
use Rattle.std.specs.Prelude.{◌≡◌, ◌⊎◌, ℕ, suc, ◌+◌, ◌<◌, IfSome, List, [], length, map}
use Rattle.std.specs.Prelude.{slice_get, slice_index}
use Rattle.atomic_table.specs.Seated.{TableId}
use Rattle.rp_base.specs.declared.config.Config.{Config}
use Rattle.rp_base.specs.declared.fault.Fault.{Fault}
use Rattle.rp_base.specs.declared.fault.Fault.TheVariants.{OutOfMemory, Device}
use Rattle.rp_actors.specs.rp_store.specs.Disk.{Disk}
use Rattle.rp_board.specs.Parts.{first_part, first_from}
use Rattle.rp_board.specs.Plays.{Sight, IsSized, alone}
use Rattle.rp_board.specs.Seats.{SeatState}

-- The table, what all nodes at it share, and the number of the first actor that has no seat.
pub record Unseated (P : Type 0) : Type 0 where
  pub table : TableId
  pub config : Config
  pub program : P
  pub next : ℕ

-- once n more actors have seats
abbrev pub after_seats : {P : Type 0} → ℕ → Unseated P → Unseated P
after_seats count unseated = record unseated { next = unseated.next + count }

-- the seat of an actor that did nothing, with this number among the nodes or the tasks, and with n
-- failed calls of its device
abbrev pub first_seat : {P : Type 0} → TableId → Config → P → ℕ → ℕ → ℕ → SeatState P
first_seat table config program number actor failures = record {
  setup = record { table = table; config = config; program = program; number = number };
  failures = failures;
  part = first_part actor;
}

-- The place knows the actors from this number on, in their initial state, and holds no slot.
pub record IsRest (table mine : TableId) (next : ℕ) (me : Sight) : Type 0 where
  pub same : mine ≡ table
  pub sized : IsSized table
  pub left : ℕ
  pub up_to : next + left ≡ 16
  pub knows : me ≡ (first_from next left, [])

-- the place is that of one actor, in its initial state
pub record IsFirstPlace (table mine : TableId) (actor : ℕ) (me : Sight) : Type 0 where
  pub same : mine ≡ table
  pub knows : me ≡ alone actor (first_part actor)

-- These are the seats of the actors from this one on, which did nothing. Their numbers count from
-- 1. The list says how many calls of the device of each have failed; after its end that number is
-- 0.
abbrev pub AreFirstSeats : {P : Type 0} → TableId → Config → P → ℕ → List ℕ → List (SeatState P)
    → Type 0
AreFirstSeats table config program actor failures seats =
    (place : ℕ) → IfSome (slice_get seats place) (λ seat.
    seat ≡ first_seat table config program (suc place) (actor + place) (slice_index failures place))

-- Each node of the configuration, each of the eight tasks and the audit has a seat at one table,
-- and did nothing. The list says how many calls of the device of each node have failed.
pub record AreSeats {P : Type 0} (config : Config) (program : P) (failures : List ℕ)
    (nodes tasks : List (SeatState P)) (audit : SeatState P) : Type 0 where
  pub size : length nodes ≡ config.nodes
  pub nodes_are : AreFirstSeats audit.setup.table config program 1 failures nodes
  pub eight : length tasks ≡ 8
  pub tasks_are : AreFirstSeats audit.setup.table config program 8 [] tasks
  pub audit_is : audit ≡ first_seat audit.setup.table config program 0 0 0

-- the other faults: out of memory, or a device that fails
abbrev pub IsResourceFault : Fault → Type 0
IsResourceFault fault = (fault ≡ OutOfMemory) ⊎ (fault ≡ Device)

-- how many calls of each device have failed
abbrev pub failures_of : {D : Type 0} → (D → Disk) → List D → List ℕ
failures_of disk devices = map (λ device. (disk device).failures) devices

-- calls of a device of this kind can fail: one did
pub record CanFail {D : Type 0} (disk : D → Disk) : Type 0 where
  pub old : D
  pub new : D
  pub failed : (disk old).failures < (disk new).failures
