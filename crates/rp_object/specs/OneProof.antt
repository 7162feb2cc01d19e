-- That declarations are right has one proof at most, so a program is its declarations and no more.
use Rattle.std.proofs.Props.{props}
use Rattle.rp_entry.specs.rp_body.specs.declared.components.Limits.{Limits}
use Rattle.rp_entry.specs.declared.operations.Function.{Function}
use Rattle.rp_entry.specs.declared.operations.Function.TheVariants.{Value, Truth}
use Rattle.rp_entry.specs.Operations.{FunctionFits}
use Rattle.rp_object.specs.declared.program.Declarations.{Declarations}
use Rattle.rp_entry.specs.declared.operations.Operations.{Operations}
use Rattle.rp_object.specs.declared.program.Profile.{Profile}
use Rattle.rp_object.specs.declared.program.Profile.TheVariants.{Ravenscar, Jorvik}
use Rattle.rp_object.specs.Program.{KeepsProfile, IsProgram}

FunctionFits-prop : (limits : Limits) (function : Function) → IsProp (FunctionFits limits function)
FunctionFits-prop limits (Value expr) = hlevel props
FunctionFits-prop limits (Truth test) = hlevel props

KeepsProfile-prop : (profile : Profile) (operations : Operations)
    → IsProp (KeepsProfile profile operations)
KeepsProfile-prop Ravenscar operations = hlevel props
KeepsProfile-prop Jorvik operations = hlevel props

pub one_proof : (program : Declarations) → IsProp (IsProgram program)
one_proof program = hlevel (props, FunctionFits-prop, KeepsProfile-prop)
