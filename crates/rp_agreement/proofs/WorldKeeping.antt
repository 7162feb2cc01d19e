-- Each actor's step keeps the invariant of a world.
use Rattle.std.proofs.Common.{◌≡◌, ℕ, ◌<◌, Ok, Option, Some, List, ◌++◌, length, inl, inr, refl, sym, ap, subst, ◌∙◌}
use Rattle.std.specs.Prelude.{unwrap_or}
use Rattle.std.proofs.lemmas.Bool.{cases_eq}
use Rattle.std.proofs.lemmas.List.{append-nil}
use Rattle.rp_base.specs.Config.{IsRightConfig}
use Rattle.rp_base.specs.Sets.{Has}
use Rattle.rp_codec.specs.Message.{Message}
use Rattle.rp_model.specs.Parts.{NodePart}
use Rattle.rp_model.specs.Parts.{TaskPart}
use Rattle.rp_model.specs.Parts.{fresh_node}
use Rattle.rp_model.specs.Effect.{Setting, Done, goes_on_as, NodeInput, node_effect, cut_effect, stop_effect, restart_part, untorn_part}
use Rattle.rp_model.specs.Tasks.{task_effect}
use Rattle.rp_model.specs.Events.{Event, IsRightEvent}
use Rattle.rp_model.specs.Answers.{untorn, Happen}
use Rattle.rp_model.specs.World.{World, part_at, with_part, node_done, task_done}
use Rattle.rp_agreement.specs.Sound.{IsMember, IsSound}
use Rattle.rp_agreement.specs.Inputs.{IsInput, NodeMoves, WaitsForOwn}
use Rattle.rp_agreement.specs.Worlds.{node_in, IsSoundWorld}
use Rattle.rp_agreement.proofs.PartPlaces.{part_below, put_there, put_beside, put_length, sent_after}
use Rattle.rp_agreement.proofs.EventWalk as walk
use Rattle.rp_agreement.proofs.EventWalk.{IsKeptByAll, any_input, any_task, any_event}
use Rattle.rp_agreement.proofs.NodeEffects.{IsSoundDone, IsSoundDoneIf, done_keeps, if_done, below_eight, input_sound, cut_sound, stop_sound, restart_sound, untorn_sound}
use Rattle.rp_agreement.proofs.TaskEffects.{IsTaskDone, task_keeps, task_sound, if_task_done}

pub node_here : (w : World) (me : ℕ) (part : NodePart) → part_at w.nodes me ≡ Some part → node_in w.nodes me ≡ part
node_here w me part here = ap (λ (o : Option NodePart). unwrap_or o fresh_node) here

pub member_here : (nodes : ℕ) (w : World) (me : ℕ) (part : NodePart) → length w.nodes ≡ nodes → part_at w.nodes me ≡ Some part → IsMember nodes me
member_here nodes w me part size here = subst (λ (n : ℕ). IsMember n me) size (part_below w.nodes me part here)

-- the result of a node's step is in the world
pub moves_here : (w : World) (me : ℕ) (part : NodePart) (done : Done NodePart) → part_at w.nodes me ≡ Some part
    → NodeMoves me done (node_in w.nodes) w.sent (node_in (with_part w.nodes me done.part)) (w.sent ++ done.sends)
moves_here w me part done here = record {
  part = ap (λ (o : Option NodePart). unwrap_or o fresh_node) (put_there w.nodes me part done.part here);
  others = λ k other. ap (λ (o : Option NodePart). unwrap_or o fresh_node) (put_beside w.nodes me k done.part other);
  sends = sent_after w.sent done.sends;
}

-- a node's sound step
node_done_keeps : (nodes : ℕ) (w : World) (me : ℕ) (part : NodePart) (done : Done NodePart) → IsSoundWorld nodes w → part_at w.nodes me ≡ Some part
    → IsSoundDone nodes me (node_in w.nodes me) w.sent done → IsSoundWorld nodes (node_done w me done).world
node_done_keeps nodes w me part done sound here d = record {
  size = put_length w.nodes me done.part ∙ sound.size;
  sound = done_keeps nodes me done (node_in w.nodes) w.sent (node_in (with_part w.nodes me done.part)) (w.sent ++ done.sends)
      (member_here nodes w me part sound.size here) sound.sound d (moves_here w me part done here);
  waits = sound.waits;
}

-- a fact of each task's part, where one was put in its place
pub each_task : (P : ℕ → TaskPart → Type 0) (parts : List TaskPart) (t : ℕ) (was now : TaskPart) → part_at parts t ≡ Some was → P t now
    → ((k : ℕ) (part : TaskPart) → part_at parts k ≡ Some part → P k part) → (k : ℕ) (part : TaskPart) → part_at (with_part parts t now) k ≡ Some part → P k part
each_task P parts t was now here new old k part is =
    elim (cases_eq k t) [
      | inl same ↦
          let this : now ≡ part = ap (λ (o : Option TaskPart). unwrap_or o now) (sym (put_there parts t was now here) ∙ subst (λ (u : ℕ). part_at (with_part parts t now) u ≡ Some part) same is) in
          subst (λ (u : ℕ). P u part) (sym same) (subst (P t) this new)
      | inr differs ↦ old k part (sym (put_beside parts t k now differs) ∙ is)
    ]

-- a task's step
task_done_keeps : (nodes : ℕ) (w : World) (t : ℕ) (part : TaskPart) (done : Done TaskPart) → IsSoundWorld nodes w → part_at w.tasks t ≡ Some part
    → IsTaskDone t done → IsSoundWorld nodes (task_done w t done).world
task_done_keeps nodes w t part done sound here d = record {
  size = sound.size;
  sound = task_keeps nodes t done.sends (node_in w.nodes) w.sent (node_in w.nodes) (w.sent ++ done.sends) sound.sound
      (record { calls = d.calls; stays = λ k. refl; sends = sent_after w.sent done.sends });
  waits = each_task WaitsForOwn w.tasks t part done.part here d.waits sound.waits;
}

-- a world in which torn bytes are gone is one in which nothing was sent
pub untorn_world : (P : World → Type 0) (w : World) (me kept : ℕ) (part : NodePart) → P (node_done w me (goes_on_as (untorn_part kept part))).world → P (untorn kept w me (Some part))
untorn_world P w me kept part fact =
    subst (λ (sent : List Message). P (record { nodes = with_part w.nodes me (untorn_part kept part); tasks = w.tasks; sent = sent })) (append-nil w.sent) fact

module _ {S : Type 0} (s : Setting S) (right : IsRightConfig s.config) where
  -- the effects speak of the part at the place
  at_part : (P : NodePart → Type 0) (w : World) (me : ℕ) (part : NodePart) → part_at w.nodes me ≡ Some part → P (node_in w.nodes me) → P part
  at_part P w me part here p = subst P (node_here w me part here) p

  -- the result of a node's step in a world is sound
  module _ (w : World) (me : ℕ) (part : NodePart) (size : length w.nodes ≡ s.config.nodes) (sound : IsSound s.config.nodes (node_in w.nodes) w.sent)
      (here : part_at w.nodes me ≡ Some part) where
    small : me < 8
    small = below_eight s.config me right (member_here s.config.nodes w me part size here)

    pub input_done : (input : NodeInput) (done : Done NodePart) → IsInput w.sent input → node_effect s me part input ≡ Ok done
        → IsSoundDone s.config.nodes me (node_in w.nodes me) w.sent done
    input_done input done is resulted =
        if_done s.config.nodes me (node_in w.nodes me) w.sent (node_effect s me part input) done
        (at_part (λ p. IsSoundDoneIf s.config.nodes me (node_in w.nodes me) w.sent (node_effect s me p input)) w me part here
        (input_sound s me (node_in w.nodes) w.sent input small sound is)) resulted

    pub cut_done : (kept : ℕ) (input : NodeInput) (done : Done NodePart) → IsInput w.sent input → cut_effect s me part input kept ≡ Ok done
        → IsSoundDone s.config.nodes me (node_in w.nodes me) w.sent done
    cut_done kept input done is resulted =
        if_done s.config.nodes me (node_in w.nodes me) w.sent (cut_effect s me part input kept) done
        (at_part (λ p. IsSoundDoneIf s.config.nodes me (node_in w.nodes me) w.sent (cut_effect s me p input kept)) w me part here
        (cut_sound s me kept (node_in w.nodes) w.sent input small sound is)) resulted

    pub stop_done : (done : Done NodePart) → stop_effect part ≡ Ok done → IsSoundDone s.config.nodes me (node_in w.nodes me) w.sent done
    stop_done done resulted =
        if_done s.config.nodes me (node_in w.nodes me) w.sent (stop_effect part) done
        (at_part (λ p. IsSoundDoneIf s.config.nodes me (node_in w.nodes me) w.sent (stop_effect p)) w me part here (stop_sound s.config.nodes me (node_in w.nodes me) w.sent)) resulted

    pub restart_done : IsSoundDone s.config.nodes me (node_in w.nodes me) w.sent (restart_part part)
    restart_done =
        at_part (λ p. IsSoundDone s.config.nodes me (node_in w.nodes me) w.sent (restart_part p)) w me part here (restart_sound s.config.nodes me (node_in w.nodes) w.sent sound)

    pub torn_done : (kept : ℕ) → IsSoundDone s.config.nodes me (node_in w.nodes me) w.sent (goes_on_as (untorn_part kept part))
    torn_done kept =
        at_part (λ p. IsSoundDone s.config.nodes me (node_in w.nodes me) w.sent (goes_on_as (untorn_part kept p))) w me part here
        (untorn_sound s.config.nodes me kept (node_in w.nodes) w.sent sound)

  -- the invariant of a world is kept by all
  pub sound_kept : IsKeptByAll s any_input any_task (IsSoundWorld s.config.nodes)
  sound_kept = record {
    input = λ w me part input done sound here is _ resulted. node_done_keeps s.config.nodes w me part done sound here (input_done w me part sound.size sound.sound here input done is resulted);
    cut = λ w me kept part input done sound here is resulted. node_done_keeps s.config.nodes w me part done sound here (cut_done w me part sound.size sound.sound here kept input done is resulted);
    stop = λ w me part done sound here resulted. node_done_keeps s.config.nodes w me part done sound here (stop_done w me part sound.size sound.sound here done resulted);
    restart = λ w me part sound here. node_done_keeps s.config.nodes w me part (restart_part part) sound here (restart_done w me part sound.size sound.sound here);
    torn = λ w me kept part sound here.
        untorn_world (IsSoundWorld s.config.nodes) w me kept part
        (node_done_keeps s.config.nodes w me part (goes_on_as (untorn_part kept part)) sound here (torn_done w me part sound.size sound.sound here kept));
    task = λ w t part input done sound here is _ resulted.
        task_done_keeps s.config.nodes w t part done sound here
        (if_task_done t (task_effect s.config t part input) done (task_sound s.config w.sent t part input (sound.waits t part here) is) resulted);
  }

  -- so any events keep it
  pub history_keeps : (w : World) (events : List Event) (after : World) → IsSoundWorld s.config.nodes w → ((event : Event) → Has event events → IsRightEvent event)
      → Happen s w events after → IsSoundWorld s.config.nodes after
  history_keeps w events after sound are happen = walk.history_keeps s any_input any_task (IsSoundWorld s.config.nodes) sound_kept w events after sound are (λ event _. any_event event) happen
