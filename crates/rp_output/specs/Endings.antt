-- The status that a program ends with, and what it reports if its words ask for no run.
use Rattle.std.specs.Prelude.{◌≡◌, ◌≢◌, ◌⊎◌, ℕ, Option, Result, Ok, Err, List}
use Rattle.rp_model.specs.rp_base.specs.declared.fault.Fault.{Fault}
use Rattle.rp_model.specs.rp_base.specs.declared.fault.Fault.TheVariants as faults
use Rattle.rp_output.specs.FaultMessage.{fault_message_of, with_line_feed}
use Rattle.rp_output.specs.Stream.{Writes}
use Rattle.rp_output.specs.declared.ending.Ending.{Ending}
use Rattle.rp_output.specs.declared.ending.NoRun.{NoRun}
use Rattle.rp_output.specs.declared.ending.NoRun.TheVariants.{OutOfMemory, Help, Mistake}

-- 3 for a bad deck, and 4 for every other fault
abbrev pub status_of : Fault → ℕ
status_of (faults.BadDeck line reason) = 3
status_of _ = 4

-- the status after a run: 0 if it had no fault
abbrev pub status_after : {A : Type 0} → Result A Fault → ℕ
status_after (Ok done) = 0
status_after (Err fault) = status_of fault

-- the status without a run: 0 after help or the version, 4 if memory ran out, else 2
abbrev pub no_run_status : NoRun → ℕ
no_run_status OutOfMemory = 4
no_run_status Help = 0
no_run_status Mistake = 2

-- the line of the fault was reported; or a prefix of it, if it could not be written whole
abbrev pub ReportsFault : Fault → Option (List ℕ) → Option (List ℕ) → Ending → Type 0
ReportsFault fault errors errors_after ending =
    Writes errors errors_after (with_line_feed (fault_message_of fault)) ending.reported

-- Wrong words were reported, or help or the version was printed and nothing else. The status is the
-- one for why there is no run; if help or the version could not be printed it is that of `Io`,
-- which is reported.
pub record RefusesFor (why : NoRun) (output output_after errors errors_after : Option (List ℕ))
    (ending : Ending) : Type 0 where
  pub status : (ending.status ≡ no_run_status why)
      ⊎ ((why ≡ Help) × (ending.status ≡ status_of faults.Io)
      × ReportsFault faults.Io errors errors_after ending)
  pub output_kept : why ≢ Help → output_after ≡ output
  pub errors_kept : why ≡ Help → ending.status ≡ no_run_status why → errors_after ≡ errors
  pub memory : why ≡ OutOfMemory → ReportsFault faults.OutOfMemory errors errors_after ending
