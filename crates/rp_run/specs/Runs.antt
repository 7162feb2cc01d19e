-- The relation of a run in memory to a play, and what it writes.
use Rattle.std.specs.Prelude.{◌≡◌, ℕ, ◌-◌, Option, Result, Ok, Err, List, length, replicate}
use Rattle.std.specs.Prelude.{drop}
use Rattle.std.specs.Io.KnownBytes.{Appends}
use Rattle.rp_base.specs.declared.action.Action.{Action}
use Rattle.rp_base.specs.declared.config.Config.{Config}
use Rattle.rp_base.specs.declared.fault.Fault.{Fault}
use Rattle.rp_base.specs.declared.reply.Answer.{Answer}
use Rattle.rp_model.specs.World.{World, Transition, opening_world}
use Rattle.rp_model.specs.declared.effect.Effect.{Effect}
use Rattle.rp_model.specs.declared.event.Event.{Event}
use Rattle.rp_world.specs.rp_actors.specs.Steps.{ClusterState, cluster_setting}
use Rattle.rp_run.specs.Items.{items_text}
use Rattle.rp_run.specs.Output.{RunSetting, Play, Said, text_of_said, names_of, is_among}
use Rattle.rp_run.specs.Output.{printed_items}
use Rattle.rp_run.specs.Settled.{is_settled}
use Rattle.rp_output.specs.Stream.{Begins}
use Rattle.rp_run.specs.declared.options.RunOptions.{RunOptions}
use Rattle.rp_run.specs.declared.settled.Settled.{Settled}

-- what is constant in a run of a cluster
abbrev pub run_setting : {S P : Type 0} → (S → Action → S) → (S → Action → List Answer) → (P → S)
    → (S → List ℕ) → ClusterState P → RunOptions → RunSetting S
run_setting next answers start image cluster options = record {
  setting = cluster_setting next answers start cluster;
  image = image;
  names = names_of options.tasks.now;
  traced = options.traced;
}

-- a cluster that is opened over devices that have not failed
abbrev pub opening_cluster : {P : Type 0} → Config → P → ClusterState P
opening_cluster config program = record {
  setup = record { config = config; program = program };
  world = opening_world config.nodes;
  failures = replicate config.nodes 0;
}

-- the transition into this world that an effect describes
abbrev pub described : World → Effect → Transition
described world effect = record {
  world = world;
  sends = drop (effect.first - 1) world.sent;
  dropped = effect.dropped;
  taken = effect.taken;
  opened = effect.opened;
}

-- the text that is printed for an event with this effect, which led to this world
abbrev pub printed_text : RunOptions → World → Event → Effect → List ℕ
printed_text options world event effect =
    items_text (printed_items options.traced (names_of options.tasks.now) effect.first event
    (described world effect))

-- the cluster has n nodes, and eight tasks
pub record HasParts {P : Type 0} (nodes : ℕ) (cluster : ClusterState P) : Type 0 where
  pub config : cluster.setup.config.nodes ≡ nodes
  pub nodes_there : length cluster.world.nodes ≡ nodes
  pub tasks : length cluster.world.tasks ≡ 8

-- the world and its settled messages are those of the play
pub record Follows (world : World) (settled : Settled) (play : Play) : Type 0 where
  pub world_is : world ≡ play.world
  pub settled_are : (m : ℕ) → is_settled settled m ≡ is_among play.settled m

-- The run has reached the stated play, and wrote its text; or, if something failed, it wrote a
-- prefix of the text.
abbrev pub Says : World → Settled → Option (List ℕ) → Option (List ℕ) → Said → Result Unit Fault
    → Type 0
Says world settled old new said (Ok done) =
    Follows world settled said.play × Appends old new (text_of_said said)
Says world settled old new said (Err fault) = Begins old new (text_of_said said)
