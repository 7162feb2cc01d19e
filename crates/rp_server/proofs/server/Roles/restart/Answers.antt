use Rattle.std.proofs.Common.{◌≡◌, List, [], sym, ap, subst, ◌∙◌, arith}
use Rattle.rp_base.specs.declared.record.Rec.{Rec}
use Rattle.rp_base.specs.Promises.{HeardVote}
use Rattle.rp_machine.specs.Numbered.{Applied}
use Rattle.rp_log.specs.Recorded.{LearnedAlike}
use Rattle.rp_server.specs.Invariant.{IsServer}
use Rattle.rp_acceptor.specs.Noted.{Noted}
use Rattle.rp_server.proofs.Applied.{learned_right}
use Rattle.rp_server.proofs.Keeping.{all_restored}
use Rattle.rp_server.proofs.Learned.{learns_on}
use Rattle.rp_server.proofs.Starting.{same_learned, server_fresh}
use Rattle.rp_server.proofs.server.Roles.restart.Goals as goal

pub apply_ready-requires-clause-right : goal.apply_ready-requires-clause-right
apply_ready-requires-clause-right g c = λ i v e. learned_right c.args.records.now i v c.requires.right (sym (c.in_ok-log.ensures.learned i) ∙ e)

pub invariant_of-result : goal.invariant_of-result
invariant_of-result g c =
    let records = c.args.records.now in
    let log = c.apply_ready.new.log in
    let same : c.in_ok-acceptor.acceptor.records ≡ records = ap (λ (noted : Noted). noted.records) c.in_ok-acceptor.ensures.restored ∙ all_restored records in
    let learned : LearnedAlike records log = same_learned records c.in_ok-log.log log c.apply_ready.ensures.places c.in_ok-log.ensures.learned in
    subst (λ (votes : List HeardVote). IsServer c.args.node c.args.config c.in_ok-acceptor.acceptor.records c.in_ok-proposer.proposer c.follow.new.learner votes log c.apply_ready.new.machine) (sym c.new-3.ensures)
    (subst (λ (rs : List Rec). IsServer c.args.node c.args.config rs c.in_ok-proposer.proposer c.follow.new.learner [] log c.apply_ready.new.machine) (sym same)
    (server_fresh c.args.node c.args.config records c.in_ok-proposer.proposer c.follow.new.learner log c.apply_ready.new.machine c.requires.config c.requires.node c.requires.right c.in_ok-proposer.ensures.restored
    (learns_on c.args.config records 0 c.in_ok-learner.learner c.follow.new.learner [] log learned c.apply_ready.ensures.ordered (omega arith) c.follow.ensures c.in_ok-learner.ensures.learner)
    (record { learned = learned; ordered = c.apply_ready.ensures.ordered; none = c.apply_ready.ensures.none; taken = c.apply_ready.ensures.taken })))

pub returns-clause-starts : goal.returns-clause-starts
returns-clause-starts g c =
    let records = c.args.records.now in
    let same : c.in_ok-acceptor.acceptor.records ≡ records = ap (λ (noted : Noted). noted.records) c.in_ok-acceptor.ensures.restored ∙ all_restored records in
    let fresh = c.in_ok-proposer.ensures.restored in
    λ i. record {
      me = c.args.node;
      config = c.args.config;
      begin = (c.apply_ready.ensures.begin ∙ ap (λ (m : Applied g.row.M.Denot). m.begin) c.in_ok-machine.ensures) i;
      records = same i;
      running = record { proposals = (fresh i).proposals; heard = c.new-3.ensures i; pending = c.in_ok-pending.ensures.empty i; refused = (fresh i).refused };
    }
