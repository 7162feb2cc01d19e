-- The packet reaches the task, which waits for its call.
use Rattle.std.proofs.Common.{◌≡◌, true, Option, Ok, refl, ap, ◌∙◌, lt-ltb, eq-eqb}
use Rattle.std.proofs.lemmas.Bool.{and_from, cond-true}
use Rattle.rp_model.specs.rp_codec.specs.Message.{Message}
use Rattle.rp_model.specs.rp_codec.specs.declared.packet.Body.TheVariants as bodies
use Rattle.rp_model.specs.rp_codec.specs.declared.packet.Party.TheVariants.{Node, Task}
use Rattle.rp_base.specs.Calls.{is_reply_to}
use Rattle.rp_model.specs.Effect.{Done, goes_on_as}
use Rattle.rp_model.specs.Parts.{TaskPart}
use Rattle.rp_model.specs.World.{delivers, reaches_task, chosen_effect, task_done_if}
use Rattle.rp_possible.proofs.Parts.{put_there}
use Rattle.rp_possible.proofs.tasks.a_task_takes_its_reply.Goals as goal

pub returns : goal.returns
returns g c = λ setting w number from task n object operation arg reply part sent here waits above.
    let message : Message = record { from = Node from; to = Task task; body = bodies.Reply n reply } in
    let takes : is_reply_to n part.outstanding ≡ true = ap (is_reply_to n) waits ∙ and_from _ _ (lt-ltb 0 n above) (eq-eqb n n refl) in
    let taken = cond-true (is_reply_to n part.outstanding) _ (goes_on_as part) takes in
    let effect = ap (λ (o : Option Message). chosen_effect setting w (delivers w o)) sent
    ∙ ap (λ (o : Option TaskPart). chosen_effect setting w (reaches_task task message o)) here
    ∙ ap (λ (done : Done TaskPart). task_done_if w task (Ok done)) taken in
    (_, effect, refl, put_there w.tasks task part _ here)
