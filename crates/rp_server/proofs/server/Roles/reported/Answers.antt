use Rattle.std.proofs.Common.{◌≡◌, ◌-◌, List, length, take, drop, sym, ap, subst, ◌∙◌}
use Rattle.std.specs.Prelude.{All, IfOk}
use Rattle.std.proofs.lemmas.List.Elements.{All-from_recursion}
use Rattle.rp_base.specs.declared.action.Action.{Action}
use Rattle.rp_base.specs.Action.{IsRight}
use Rattle.rp_base.specs.Records.{applied_of}
use Rattle.rp_model.specs.rp_codec.specs.Message.{report_len}
use Rattle.rp_log.proofs.RecordedRuns.{all_taken}
use Rattle.rp_server.specs.State.{ServerState}
use Rattle.rp_server.proofs.Reporting.{run_right, reported_right}
use Rattle.rp_server.proofs.server.Roles.reported.Goals as goal

pub returns-clause-reported : goal.returns-clause-reported
returns-clause-reported g c =
    let r = c.self.inside in
    let a = c.self.invariant.applies in
    let is : r.log.taken ≡ applied_of c.args.self.now.records =
    all_taken r.acceptor.records r.log a.learned a.ordered a.none ∙ ap (λ (h : ServerState g.row.M.Denot). applied_of h.records) c.self.view_is in
    subst (λ (applied : List Action). IfOk c.reported.result (λ reported. reported.items ≡ take (report_len c.args.first (length applied)) (drop (c.args.first - 1) applied))) is c.reported.ensures.reported

pub returns-clause-len : goal.returns-clause-len
returns-clause-len g c =
    let r = c.self.inside in
    let a = c.self.invariant.applies in
    let is : r.log.taken ≡ applied_of c.args.self.now.records =
    all_taken r.acceptor.records r.log a.learned a.ordered a.none ∙ ap (λ (h : ServerState g.row.M.Denot). applied_of h.records) c.self.view_is in
    subst (λ (applied : List Action). IfOk c.reported.result (λ reported. length reported.items ≡ report_len c.args.first (length applied))) is c.reported.ensures.len

pub returns-clause-right : goal.returns-clause-right
returns-clause-right g c =
    let r = c.self.inside in
    let a = c.self.invariant.applies in
    let records = r.acceptor.records in
    let is : r.log.taken ≡ applied_of records = all_taken records r.log a.learned a.ordered a.none in
    let all : All IsRight r.log.taken =
    subst (λ (l : List Action). All IsRight l) (sym is) (All-from_recursion IsRight (applied_of records) (run_right records (length records) 1 c.self.invariant.right)) in
    reported_right (λ v. v.items) c.reported.result r.log.taken (report_len c.args.first (length r.log.taken)) (c.args.first - 1) all c.reported.ensures.reported
