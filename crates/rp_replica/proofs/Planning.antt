-- What a plan writes, and what is left where it is not committed.
use Rattle.std.proofs.Common.{◌≡◌, false, Option, List, refl, sym, subst, inl, ◌∙◌}
use Rattle.std.specs.Prelude.{Result, Ok, Err, IfErr}
use Rattle.std.specs.Result.{IsErrAnd}
use Rattle.rp_base.specs.declared.action.Action.{Action}
use Rattle.rp_base.specs.declared.fault.Fault.{Fault}
use Rattle.rp_base.specs.declared.fault.WriteFault.{WriteFault}
use Rattle.rp_base.specs.WriteFaults.{fault_of}
use Rattle.rp_base.specs.declared.record.Rec.{Rec}
use Rattle.rp_base.specs.declared.reply.Answer.{Answer}
use Rattle.rp_model.specs.Parts.{Turn}
use Rattle.rp_model.specs.declared.plan.Plan.{Plan}
use Rattle.rp_model.specs.declared.plan.Plan.TheVariants.{Pass, Promise, PromiseRange, Vote, Repeat, Refuse, Inform, Answer as Reply, Await, Lead, LeadRange, OfferPrepared, CountPromise, CountRangePromise, Offer, Yield, CountVote, Learn, Follow, Report, AskMissing}
use Rattle.rp_replica.specs.State.{ReplicaState, server_of}
use Rattle.rp_rules.specs.Inputs.{Refuses}
use Rattle.rp_model.specs.Plans.{written_by, dropped_by}
use Rattle.rp_rules.specs.Plans.{turn_of_plan}
use Rattle.rp_codec.specs.Message.{Message}
use Rattle.rp_model.specs.declared.effect.Dropped.{Dropped}
use Rattle.rp_replica.specs.Committing.{Commits}
use Rattle.rp_replica.specs.Turning.{Stops, StopsIf, TurnsOnto, AnswersOnto}

module _ {S : Type 0} (next : S → Action → S) (answers : S → Action → List Answer) (replica : ReplicaState S) where
  -- what a plan writes and drops is what its turn does
  plan_is : (plan : Plan) → ((turn_of_plan next answers (server_of replica) plan).written ≡ written_by plan) × ((turn_of_plan next answers (server_of replica) plan).dropped ≡ dropped_by plan)
  plan_is (Pass dropped) = (refl, refl)
  plan_is (Promise place last) = (refl, refl)
  plan_is (PromiseRange p) = (refl, refl)
  plan_is (Vote place v) = (refl, refl)
  plan_is (Repeat to i b v) = (refl, refl)
  plan_is (Refuse to i b bound) = (refl, refl)
  plan_is (Inform to i v) = (refl, refl)
  plan_is (Reply task number reply) = (refl, refl)
  plan_is (Await item) = (refl, refl)
  plan_is (Lead i b own) = (refl, refl)
  plan_is (LeadRange range b) = (refl, refl)
  plan_is (OfferPrepared i b v) = (refl, refl)
  plan_is (CountPromise promise) = (refl, refl)
  plan_is (CountRangePromise promise) = (refl, refl)
  plan_is (Offer promise v) = (refl, refl)
  plan_is (Yield i b bound) = (refl, refl)
  plan_is (CountVote from i vote) = (refl, refl)
  plan_is (Learn i v) = (refl, refl)
  plan_is (Follow from i v) = (refl, refl)
  plan_is (Report first) = (refl, refl)
  plan_is (AskMissing to) = (refl, refl)

  -- a plan that is not committed
  pub stops_plan : (effect : Result Turn Fault) (plan : Plan) (new : ReplicaState S) (fault : Fault) → Ok (turn_of_plan next answers (server_of replica) plan) ≡ effect
      → Stops (written_by plan) replica new fault → StopsIf effect replica new fault
  stops_plan effect plan new fault same stops =
      subst (λ (e : Result Turn Fault). StopsIf e replica new fault) same (subst (λ (w : Option Rec). Stops w replica new fault) (sym (plan_is plan).0) stops)

  -- a plan that was committed after others
  pub committed : (effect : Result Turn Fault) (plan : Plan) (new : ReplicaState S) (before after : List Message) (dropped : Dropped) → Ok (turn_of_plan next answers (server_of replica) plan) ≡ effect → replica.failed ≡ false
      → Commits (turn_of_plan next answers (server_of replica) plan) replica new before after → dropped ≡ dropped_by plan → TurnsOnto effect replica new before after dropped
  committed effect plan new before after dropped same working commits is =
      subst (λ (e : Result Turn Fault). TurnsOnto e replica new before after dropped) same (commits, is ∙ sym (plan_is plan).1, working)

  -- a plan that was not committed
  pub refused : (effect : Result Turn Fault) (plan : Plan) (new : ReplicaState S) (before after : List Message) (answer : Result Dropped Fault) (fault : WriteFault) → IsErrAnd answer (λ e. e ≡ fault_of fault)
      → Ok (turn_of_plan next answers (server_of replica) plan) ≡ effect → Stops (written_by plan) replica new (fault_of fault) → after ≡ before → AnswersOnto effect replica new before after answer
  refused effect plan new before after (Ok dropped) fault is same stops unsent = absurd is
  refused effect plan new before after (Err e) fault is same stops unsent =
      (subst (λ (f : Fault). StopsIf effect replica new f) (sym is) (stops_plan effect plan new (fault_of fault) same stops), unsent)

-- what has no plan, for its reason
pub unplanned : {S : Type 0} (long : Type 0) (replica : ReplicaState S) (effect : Result Turn Fault) (fault : Fault) → replica.failed ≡ false → Refuses long effect fault → StopsIf effect replica replica fault
unplanned long replica (Ok turn) fault working is = subst (λ (f : Fault). Stops turn.written replica replica f) (sym is.0) (refl, working)
unplanned long replica (Err refusal) fault working is = (refl, inl (is, working))

-- the same, as its caller returns the fault
pub unplanned_if : {S T : Type 0} (long : Type 0) (replica : ReplicaState S) (effect : Result Turn Fault) (r : Result T Fault) → replica.failed ≡ false → IfErr r (Refuses long effect) → IfErr r (λ fault. StopsIf effect replica replica fault)
unplanned_if long replica effect (Ok v) working is = tt
unplanned_if long replica effect (Err fault) working is = unplanned long replica effect fault working is
