-- By the kinds of steps.
use Rattle.std.proofs.Common.{◌≡◌, ℕ, Ok, Some, refl, ap}
use Rattle.rp_threads.specs.rp_model.specs.Effect.{NodeInput}
use Rattle.rp_threads.specs.rp_model.specs.Effect as nodes
use Rattle.rp_threads.specs.rp_model.specs.Events.{step_of}
use Rattle.rp_threads.specs.rp_model.specs.Parts.{NodePart}
use Rattle.rp_threads.specs.rp_model.specs.World.{World, part_at, chosen, commanded, NodeTakes}
use Rattle.rp_threads.specs.rp_model.specs.declared.event.Event.TheVariants.{Node}
use Rattle.rp_threads.specs.rp_model.specs.declared.event.Step.{Step}
use Rattle.rp_threads.specs.rp_model.specs.declared.event.Step.TheVariants.{Deliver, Lead, LeadRange, Interrupt, Tick, Report, Ask}
use Rattle.rp_live.specs.rp_rules.specs.Inputs.{given_by}
use Rattle.rp_live.specs.rp_rules.specs.declared.input.Input.{Input}
use Rattle.rp_live.specs.rp_rules.specs.declared.input.Input.TheVariants as inputs
use Rattle.rp_live.specs.Events.{IsNoting}
use Rattle.rp_live.specs.Noted.{noted_by}
use Rattle.rp_thread_laws.proofs.notes.notes_are_those_of_the_model.Goals as goal

noted : (count : ℕ) (step : Step) → IsNoting count step
    → (node : ℕ) × (input : Input) × (given : NodeInput) × (noted_by (Node step) ≡ Some (node, input)) × (given_by input ≡ Ok given)
    × ((w : World) (part : NodePart) → part_at w.nodes node ≡ Some part → chosen w (step_of step) ≡ NodeTakes node part given)
noted count (Deliver number) is = absurd is
noted count (Lead node position) is = absurd is
noted count (LeadRange node first many) is = absurd is
noted count (Interrupt node interrupt) is = (
  node,
  inputs.Interrupt interrupt.source interrupt.occurrence,
  nodes.NodeInput.Interrupt interrupt.source interrupt.occurrence,
  refl,
  refl,
  λ w part at. ap (commanded node (nodes.NodeInput.Interrupt interrupt.source interrupt.occurrence)) at,
)
noted count (Tick node now) is = (node, inputs.Tick now, nodes.NodeInput.Tick now, refl, refl, λ w part at. ap (commanded node (nodes.NodeInput.Tick now)) at)
noted count (Report node first) is = absurd is
noted count (Ask node to) is = absurd is

pub returns-clause-noted : goal.returns-clause-noted
returns-clause-noted c = noted
