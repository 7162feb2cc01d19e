-- An action that is learned, committed.
use Rattle.std.proofs.Common.{◌≡◌, ℕ, List, [], ◌∷◌, ◌++◌, length, drop, ap, ◌∙◌, append-nil}
use Rattle.rp_base.specs.declared.action.Action.{Action}
use Rattle.rp_base.specs.declared.record.Rec.TheVariants as records
use Rattle.rp_base.specs.declared.reply.Answer.{Answer}
use Rattle.rp_base.specs.Records.{applied_of}
use Rattle.rp_codec.specs.Message.{Message}
use Rattle.rp_model.specs.rp_machine.specs.Replay.{replay_answers}
use Rattle.rp_model.specs.Pending.{replies_to}
use Rattle.rp_model.specs.Learner.{learns}
use Rattle.rp_rules.specs.rp_server.specs.Applying.{learns_alone}
use Rattle.rp_replica.specs.State.{ReplicaState, after_turn, server_of}
use Rattle.rp_replica.specs.Committing.{Commits}

-- an action is learned, and these packets go before and after the replies
pub learned_commits : {S : Type 0} (next : S → Action → S) (answers : S → Action → List Answer) (old new : ReplicaState S) (i : ℕ) (v : Action) (packets trailing : List Message) (before after : List Message)
    → new ≡ after_turn old (learns_alone next answers (server_of old) i v)
    → after ≡ before ++ ((packets ++ (learns_alone next answers (server_of old) i v).sent) ++ trailing)
    → Commits (learns next answers old.begin old.me old.records old.running i v packets trailing) old new before after
learned_commits next answers old new i v packets trailing before after goes is =
    let given = replay_answers next answers old.begin (applied_of old.records) in
    let later = replay_answers next answers old.begin (applied_of (old.records ++ records.Learned i v ∷ [])) in
    let replies : List Message = replies_to old.me old.running.pending (drop (length given) later) in
    record {
      goes = goes;
      sent = is ∙ ap (λ (rs : List Message). before ++ ((packets ++ rs) ++ trailing)) (append-nil replies);
    }
