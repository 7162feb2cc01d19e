-- The proposal that runs there is the one whose promises were counted.
use Rattle.std.proofs.Common.{Result, Ok, Err, Some, ap, ◌∙◌}
use Rattle.std.specs.Prelude.{is_some}
use Rattle.std.proofs.lemmas.Bool.{cond-true, cond-false}
use Rattle.rp_base.specs.declared.fault.Fault.{Fault}
use Rattle.rp_base.specs.declared.fault.Fault.TheVariants.{LogFull}
use Rattle.rp_base.specs.Records.{learned_at}
use Rattle.rp_base.specs.Promises.{offer_of}
use Rattle.rp_base.specs.Proposals.{with_promise, takes_promise, is_promised, is_prepared, proposal_at}
use Rattle.rp_codec.specs.declared.packet.Body.TheVariants.{Accept}
use Rattle.rp_model.specs.Effect.{turn_if}
use Rattle.rp_model.specs.Leader.{counts_promise, on_promise_to, leads_at, begins_if, is_out_of_reach}
use Rattle.rp_model.specs.Node.{nodes_of, running_node, own_for}
use Rattle.rp_model.specs.Plans.{turn_of}
use Rattle.rp_model.specs.Says.{says_to_all}
use Rattle.rp_model.specs.declared.effect.Dropped.TheVariants.{No}
use Rattle.rp_model.specs.declared.plan.Plan.{Plan}
use Rattle.rp_model.specs.declared.plan.Plan.TheVariants as plans
use Rattle.rp_agreement.proofs.responses.a_majority_is_offered.Goals as goal

pub returns-clause-promised : goal.returns-clause-promised
returns-clause-promised g c = λ node promise p runs takes promised.
    let after = with_promise p (promise.from, promise.last) in
    let v = offer_of p.own after.promises in
    let plan = ap (on_promise_to (nodes_of node) promise) runs
    ∙ cond-true (takes_promise promise.ballot p) (counts_promise (nodes_of node) promise p) (plans.Pass No) takes
    ∙ cond-true (is_promised (nodes_of node) after) (plans.Offer promise v) (plans.CountPromise promise) promised in
    (v, ap (λ (decided : Plan). (turn_of node decided).sent) plan)

pub returns-clause-prepared : goal.returns-clause-prepared
returns-clause-prepared g c = λ s me i records running p unlearned reached runs prepared.
    let node = running_node s me records running in
    let v = offer_of (Some (own_for node i)) p.promises in
    let plan : Result Plan Fault = Ok (plans.OfferPrepared i p.ballot v) in
    let led = cond-false (is_some (learned_at records i)) (Ok (plans.Pass No)) _ (ap is_some unlearned)
    ∙ cond-false (is_out_of_reach s.config.max_positions records i) (Err LogFull) (leads_at node i (proposal_at running.proposals i)) reached
    ∙ ap (leads_at node i) runs
    ∙ cond-true (is_prepared s.config.nodes p) plan (begins_if node i) prepared in
    (turn_of node (plans.OfferPrepared i p.ballot v), v, ap (turn_if node) led, λ n. says_to_all s.config.nodes me (Accept i p.ballot v))
