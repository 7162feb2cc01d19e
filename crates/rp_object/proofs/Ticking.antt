-- Timing events that fire one after another.
use Rattle.std.proofs.Common.{◌≡◌, ℕ, List, [], ◌∷◌, ◌++◌, None, refl}
use Rattle.rp_base.specs.declared.reply.Answer.{Answer}
use Rattle.rp_object.specs.declared.program.Declarations.{Declarations}
use Rattle.rp_object.specs.State.{ProgramState}
use Rattle.rp_object.specs.Timers.{due_events}
use Rattle.rp_object.specs.Step.{Result, fire}

-- what came before, and then this
abbrev pub following : List Answer → Result → Result
following replied result = record { caller = None; replied = replied ++ result.replied; after = result.after }

-- those that are due fire
abbrev pub fire_due : Declarations → ProgramState → Result
fire_due program state = fire program state (due_events state.clock state.timers)

pub nothing_before : (program : Declarations) (state : ProgramState) (numbers : List ℕ) → following [] (fire program state numbers) ≡ fire program state numbers
nothing_before program state [] = refl
nothing_before program state (number ∷ rest) = refl
