use Rattle.std.proofs.Common.{[], ◌++◌, ap, sym, ◌∙◌, append-nil, List}
use Rattle.rp_codec.specs.declared.packet.Body.TheVariants as bodies
use Rattle.rp_model.specs.Says.{says_to_others}
use Rattle.rp_rules.specs.rp_server.specs.Applying.{learns_alone}
use Rattle.rp_replica.specs.State.{server_of}
use Rattle.rp_replica.proofs.Accepted.{learned_commits}
use Rattle.rp_codec.specs.Message.{Message}
use Rattle.rp_replica.proofs.replica.Replica.learn_by_votes.Goals as goal

pub returns-clause-ok : goal.returns-clause-ok
returns-clause-ok g c =
    let m = g.M.Machine in
    let h = c.args.self.now in
    let i = c.args.position in
    let v = c.args.action.now in
    let stated = says_to_others h.config.nodes h.me (bodies.Decided i v) in
    let said = stated ++ (learns_alone m.next m.answers (server_of h) i v).sent in
    learned_commits m.next m.answers h c.learn.new.self i v stated [] c.args.out.now.sent c.learn.new.out.sent
    c.in_ok-learn.ensures.learned
    (c.in_ok-learn.ensures.replied ∙ ap (λ (r : List Message). r ++ said) c.reserve_replies.ensures.sent ∙ ap (λ (l : List Message). c.args.out.now.sent ++ l) (sym (append-nil said)))
