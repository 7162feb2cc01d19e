use Rattle.std.proofs.Common.{◌≡◌, List, [], ◌∷◌, ◌++◌, ap, subst}
use Rattle.std.specs.Prelude.{OnOk, OnErr}
use Rattle.rp_acceptor.specs.Noted.{Noted}
use Rattle.rp_base.specs.declared.record.Rec.{Rec}
use Rattle.rp_base.specs.declared.record.Rec.TheVariants.{Promised}
use Rattle.rp_server.proofs.Keeping.{server_kept}
use Rattle.rp_server.proofs.server.Roles.keep_first_promise.Goals as goal

pub invariant_of-self-2 : goal.invariant_of-self-2
invariant_of-self-2 g c =
    let r = c.self.inside in
    let rec = Promised c.args.position c.args.ballot in
    let done = c.put.result in
    let after = c.put.new.acceptor.records in
    let same : c.reserve_first_promise.new.self.records ≡ r.acceptor.records = ap (λ (n : Noted). n.records) c.if-not-reserve_first_promise.ensures.room in
    server_kept r.me r.config r.acceptor.records r.proposer r.learner r.heard r.log r.machine done rec after
    (subst (λ (rs : List Rec). OnOk done (after ≡ rs ++ rec ∷ [])) same c.put.ensures.noted)
    (subst (λ (rs : List Rec). OnErr done (after ≡ rs)) same c.put.ensures.unchanged)
    c.self.invariant tt tt
