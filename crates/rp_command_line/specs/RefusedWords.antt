-- Why the words of a command line ask for no run.
use Rattle.std.specs.Prelude.{◌≡◌, ◌⊎◌, ℕ, Option, List}
use Rattle.clap.specs.declared.error.kind.ErrorKind.{ErrorKind}
use Rattle.clap.specs.declared.error.kind.ErrorKind.TheVariants as kinds
use Rattle.rp_output.specs.Endings.{RefusesFor}
use Rattle.rp_output.specs.declared.ending.Ending.{Ending}
use Rattle.rp_output.specs.declared.ending.NoRun.{NoRun}
use Rattle.rp_output.specs.declared.ending.NoRun.TheVariants.{OutOfMemory, Help, Mistake}

-- why words that could not be read ask for no run
abbrev pub no_run_of : ErrorKind → NoRun
no_run_of kinds.OutOfMemory = OutOfMemory
no_run_of kinds.DisplayHelp = Help
no_run_of kinds.DisplayVersion = Help
no_run_of _ = Mistake

-- wrong words were reported, or help or the version was printed and nothing else
abbrev pub RefusesAs : ErrorKind → Option (List ℕ) → Option (List ℕ) → Option (List ℕ)
    → Option (List ℕ) → Ending → Type 0
RefusesAs kind = RefusesFor (no_run_of kind)

-- one of the words is not UTF-8, or there is no memory to report that
abbrev pub IsUnread : ErrorKind → Type 0
IsUnread kind = (kind ≡ kinds.InvalidValue) ⊎ (kind ≡ kinds.OutOfMemory)
