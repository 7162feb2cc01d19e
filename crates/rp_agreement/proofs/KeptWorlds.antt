-- Each actor's step in a world keeps the invariant with the replies to tasks.
use Rattle.std.proofs.Common.{◌≡◌, ℕ, zero, suc, Ok, Option, Some, List, [], ◌++◌, length, map, inl, refl, sym, ap, subst, ◌∙◌, ◌≤◌, arith}
use Rattle.std.specs.Prelude.{unwrap_or, slice_get, replicate}
use Rattle.rp_base.specs.declared.action.Action.{Action}
use Rattle.rp_base.specs.declared.reply.Answer.{Answer}
use Rattle.rp_base.specs.Config.{IsRightConfig}
use Rattle.rp_base.specs.Sets.{Has}
use Rattle.rp_base.specs.Records.{applied_of}
use Rattle.rp_machine.specs.Calls.{CallName, call_of}
use Rattle.rp_machine.specs.Replay.{one_to}
use Rattle.rp_model.specs.Parts.{NodePart}
use Rattle.rp_model.specs.Parts.{TaskPart}
use Rattle.rp_model.specs.Parts.{fresh_task}
use Rattle.rp_model.specs.Effect.{Setting, Done, goes_on_as, restart_part, untorn_part}
use Rattle.rp_model.specs.Tasks.{task_effect}
use Rattle.rp_model.specs.World.{World, opening_world, part_at, with_part, node_done}
use Rattle.rp_agreement.specs.Inputs.{TaskMoves, WaitsForOwn}
use Rattle.rp_agreement.specs.Computed.{order_of}
use Rattle.rp_agreement.specs.Worlds.{node_in, IsSoundWorld}
use Rattle.rp_agreement.specs.Answered.{answers_of, named, IsAnswered, task_in, AreMade, IsKeptWorld, IsReady}
use Rattle.rp_agreement.proofs.PartPlaces.{part_has, put_there, put_beside, put_length, sent_after}
use Rattle.rp_agreement.proofs.NodeEffects.{IsSoundDone, done_keeps}
use Rattle.rp_agreement.proofs.WorldKeeping.{member_here, moves_here, untorn_world, input_done, cut_done, stop_done, restart_done, torn_done}
use Rattle.rp_model.specs.Events.{Event}
use Rattle.rp_agreement.specs.History.{IsHistory}
use Rattle.rp_agreement.proofs.EventWalk.{IsKeptByAll, any_input, any_task, any_event, history_keeps}
use Rattle.rp_agreement.proofs.AnswerTurns.{AreAnswers}
use Rattle.rp_agreement.proofs.NodeReplies.{node_keeps, effect_answers, cut_answers, stop_answers, restart_answers}
use Rattle.rp_agreement.proofs.TaskKeeping.{task_goes_on}
use Rattle.rp_agreement.proofs.Lists.{get_mapped, get_one_to, get_unmapped}
use Rattle.rp_agreement.proofs.Made.{made_nothing}

task_here : (w : World) (t : ℕ) (part : TaskPart) → part_at w.tasks t ≡ Some part → task_in w.tasks t ≡ part
task_here w t part here = ap (λ (o : Option TaskPart). unwrap_or o fresh_task) here

-- the result of a task's step is in the world
task_moves_here : (w : World) (t : ℕ) (part : TaskPart) (done : Done TaskPart) → part_at w.tasks t ≡ Some part
    → TaskMoves t done (task_in w.tasks) w.sent (task_in (with_part w.tasks t done.part)) (w.sent ++ done.sends)
task_moves_here w t part done here = record {
  part = ap (λ (o : Option TaskPart). unwrap_or o fresh_task) (put_there w.tasks t part done.part here);
  others = λ k other. ap (λ (o : Option TaskPart). unwrap_or o fresh_task) (put_beside w.tasks t k done.part other);
  sends = sent_after w.sent done.sends;
}

module _ {S : Type 0} (s : Setting S) (right : IsRightConfig s.config) where
  node_case : (w : World) (me : ℕ) (part : NodePart) (done : Done NodePart) → IsKeptWorld s w → part_at w.nodes me ≡ Some part
      → IsSoundDone s.config.nodes me (node_in w.nodes me) w.sent done → AreAnswers (answers_of s (applied_of done.part.records)) done.sends
      → IsKeptWorld s (node_done w me done).world
  node_case w me part done world here d stated =
      let moves = moves_here w me part done here in
      let after = node_in (with_part w.nodes me done.part) in
      let sound = done_keeps s.config.nodes me done (node_in w.nodes) w.sent after (w.sent ++ done.sends) (member_here s.config.nodes w me part world.size here) world.kept.sound d moves in
      record {
        size = put_length w.nodes me done.part ∙ world.size;
        kept = node_keeps s me done (node_in w.nodes) (task_in w.tasks) w.sent after (w.sent ++ done.sends) world.kept sound d stated moves;
      }

  -- all keep the replies to tasks
  pub kept_by_all : IsKeptByAll s any_input any_task (IsKeptWorld s)
  kept_by_all = record {
    input = λ w me part input done world here is _ resulted. node_case w me part done world here (input_done s right w me part world.size world.kept.sound here input done is resulted) (effect_answers s me part input done resulted);
    cut = λ w me kept part input done world here is resulted. node_case w me part done world here (cut_done s right w me part world.size world.kept.sound here kept input done is resulted) (cut_answers s me kept part input done resulted);
    stop = λ w me part done world here resulted. node_case w me part done world here (stop_done s right w me part world.size world.kept.sound here done resulted) (stop_answers s part done resulted);
    restart = λ w me part world here. node_case w me part (restart_part part) world here (restart_done s right w me part world.size world.kept.sound here) (restart_answers s part);
    torn = λ w me kept part world here.
        untorn_world (IsKeptWorld s) w me kept part (node_case w me part (goes_on_as (untorn_part kept part)) world here (torn_done s right w me part world.size world.kept.sound here kept) (λ m h. absurd h));
    task = λ w t part input done world here is _ resulted. record {
      size = world.size;
      kept = task_goes_on s t input done (node_in w.nodes) (task_in w.tasks) w.sent (node_in w.nodes) (task_in (with_part w.tasks t done.part)) (w.sent ++ done.sends) world.kept is
          (subst (λ (p : TaskPart). task_effect s.config t p input ≡ Ok done) (sym (task_here w t part here)) resulted) (λ k. refl) (task_moves_here w t part done here);
    };
  }

-- ---- the opening world

get_copy : {A : Type 0} (n : ℕ) (a : A) (i : ℕ) → unwrap_or (slice_get (replicate n a) i) a ≡ a
get_copy zero a i = refl
get_copy (suc n) a zero = refl
get_copy (suc n) a (suc i) = get_copy n a i

all_fresh : (t : ℕ) → task_in (replicate 8 fresh_task) t ≡ fresh_task
all_fresh zero = refl
all_fresh (suc i) = get_copy 8 fresh_task i

fresh_answered : (given : List Answer) (t : ℕ) → IsAnswered given t fresh_task
fresh_answered given t = record { numbered = refl; waits = λ call e. absurd (cc); replied = λ answer h. absurd h }

pub kept_opening : {S : Type 0} (s : Setting S) → IsSoundWorld s.config.nodes (opening_world s.config.nodes) → IsKeptWorld s (opening_world s.config.nodes)
kept_opening s opening = record {
  size = opening.size;
  kept = record {
    sound = opening.sound;
    own = λ t. subst (WaitsForOwn t) (sym (all_fresh t)) (λ call e. absurd (cc));
    replies = λ m h. absurd h;
    answered = λ t. subst (IsAnswered (answers_of s (order_of s.config.nodes [])) t) (sym (all_fresh t)) (fresh_answered (answers_of s (order_of s.config.nodes [])) t);
    made = λ t. subst (λ (part : TaskPart). (calls : List Action) × AreMade [] t part calls) (sym (all_fresh t)) ([], made_nothing t);
    ready = λ t n. subst (λ (part : TaskPart). n ≤ length part.replies → IsReady s (order_of s.config.nodes []) t n) (sym (all_fresh t)) (λ few. record {
      before = [];
      begins = (order_of s.config.nodes [], refl);
      absent = λ occurs. occurs.1;
      answered = inl (omega (arith, few));
    });
  };
}

-- ---- the reply to each call

-- the kth reply is to the kth call
pub reply_named : (given : List Answer) (t : ℕ) (part : TaskPart) (k : ℕ) (answer : Answer) → IsAnswered given t part → slice_get part.replies k ≡ Some answer → call_of answer ≡ named t (suc k)
reply_named given t part k answer is e =
    let here : slice_get (map (named t) (one_to (length part.replies))) k ≡ Some (call_of answer) =
    subst (λ (calls : List CallName). slice_get calls k ≡ Some (call_of answer)) is.numbered (get_mapped call_of part.replies k answer e) in
    let hit = get_unmapped (named t) (one_to (length part.replies)) k (call_of answer) here in
    hit.2 ∙ ap (named t) (get_one_to (length part.replies) k hit.0 hit.1)

pub reply_has : (replies : List Answer) (k : ℕ) (answer : Answer) → slice_get replies k ≡ Some answer → Has answer replies
reply_has replies k answer e = part_has replies (suc k) answer e

-- ---- histories

-- each history leads to a world that keeps the replies to tasks
pub kept_in : {S : Type 0} (s : Setting S) (events : List Event) (world : World) → IsSoundWorld s.config.nodes (opening_world s.config.nodes) → IsHistory s events world → IsKeptWorld s world
kept_in s events world opening history =
    history_keeps s any_input any_task (IsKeptWorld s) (kept_by_all s history.config) (opening_world s.config.nodes) events world (kept_opening s opening) history.right (λ event _. any_event event) history.happened
