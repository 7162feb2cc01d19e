use Rattle.std.proofs.Common.{◌≡◌, [], ◌∷◌, ◌++◌, ap, ◌∙◌, append_assoc, List}
use Rattle.rp_base.specs.declared.record.Rec.TheVariants.{Learned}
use Rattle.rp_model.specs.Learner.{asks_for, missing_position}
use Rattle.rp_rules.specs.rp_server.specs.Applying.{learns_alone}
use Rattle.rp_replica.specs.State.{ReplicaState, server_of}
use Rattle.rp_replica.proofs.Accepted.{learned_commits}
use Rattle.rp_codec.specs.Message.{Message}
use Rattle.rp_replica.proofs.replica.Replica.learn_by_decision.Goals as goal

pub returns-clause-ok : goal.returns-clause-ok
returns-clause-ok g c =
    let m = g.M.Machine in
    let h = c.args.self.now in
    let i = c.args.position in
    let v = c.args.action.now in
    let start = c.args.out.now.sent in
    let replies = (learns_alone m.next m.answers (server_of h) i v).sent in
    let trailing = asks_for h.me c.args.from (missing_position (h.records ++ Learned i v ∷ [])) in
    let asked : c.ask_for_missing.new.out.sent ≡ c.learn.new.out.sent ++ trailing =
    c.ask_for_missing.ensures ∙ ap (λ (k : ReplicaState g.row.M.Denot). c.learn.new.out.sent ++ (asks_for k.me c.args.from (missing_position k.records))) c.in_ok-learn.ensures.learned in
    let replied : c.learn.new.out.sent ≡ start ++ replies =
    c.in_ok-learn.ensures.replied ∙ ap (λ (run : List Message). run ++ replies) c.reserve_replies.ensures.sent in
    learned_commits m.next m.answers h c.learn.new.self i v [] trailing start c.ask_for_missing.new.out.sent
    c.in_ok-learn.ensures.learned (asked ∙ ap (λ (run : List Message). run ++ trailing) replied ∙ append_assoc start replies trailing)
