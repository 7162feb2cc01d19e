-- Turns that take no memory, and plans that are committed for certain.
use Rattle.std.proofs.Common.{◌≡◌, ℕ, Bool, true, false, cond, List, length, Result, Ok, Err, refl, sym, ap, subst, ◌∙◌, inr}
use Rattle.std.specs.Prelude.{IfErr, IsOk, OnErr, nat_lt}
use Rattle.std.specs.List.{list_any}
use Rattle.rp_base.specs.declared.action.Action.{Action}
use Rattle.rp_base.specs.declared.action.Action.TheVariants.{Interrupt}
use Rattle.rp_base.specs.declared.fault.Fault.{Fault}
use Rattle.rp_base.specs.declared.record.Vote.{Vote as CastVote}
use Rattle.rp_base.specs.declared.reply.Answer.{Answer}
use Rattle.rp_base.specs.Promises.{HeardVote, same_heard}
use Rattle.rp_base.specs.Sets.{Has, with_member}
use Rattle.rp_base.proofs.Members.{with_has}
use Rattle.rp_base.proofs.Sameness.{heard_decides}
use Rattle.rp_codec.specs.Decoding.{IsLongBody, IsLongText}
use Rattle.rp_codec.specs.Message.{Message, IsPacket}
use Rattle.rp_codec.specs.Reading.{all_of}
use Rattle.rp_codec.specs.Text.{text_of}
use Rattle.rp_codec.proofs.Decoded.{whole_read, whole_again}
use Rattle.rp_model.specs.rp_machine.specs.Asked.{last_occurrence}
use Rattle.rp_model.specs.Parts.{Turn}
use Rattle.rp_model.specs.Arrivals.{adds_pending, on_interrupt}
use Rattle.rp_model.specs.Node.{RunningNode, counted_by}
use Rattle.rp_model.specs.Pending.{is_same_call, most_pending}
use Rattle.rp_model.specs.Plans.{turn_of as plan_turn}
use Rattle.rp_model.specs.declared.effect.Dropped.TheVariants.{No, Full}
use Rattle.rp_model.specs.declared.plan.Plan.TheVariants as plans
use Rattle.rp_model.specs.declared.plan.Plan.{Plan}
use Rattle.rp_rules.specs.Inputs.{Refuses}
use Rattle.rp_rules.specs.Plans.{turn_of_plan, TakesNoMemory}
use Rattle.rp_replica.specs.State.{ReplicaState, server_of}

-- ---- votes that were heard

-- a vote that changes nothing was heard
was_heard : (heard : List HeardVote) (from i : ℕ) (vote : CastVote) → with_member same_heard heard (from, i, vote) ≡ heard → Has {A = HeardVote} (from, i, vote) heard
was_heard heard from i vote same =
    let this : HeardVote = (from, i, vote) in
    subst (λ (l : List HeardVote). Has this l) same (with_has same_heard heard_decides this this heard (inr refl))

-- and so a vote that was heard is noted
pub notes_again : {T E : Type 0} (heard : List HeardVote) (from i : ℕ) (vote : CastVote) (r : Result T E) → OnErr r (¬ Has {A = HeardVote} (from, i, vote) heard) → with_member same_heard heard (from, i, vote) ≡ heard → IsOk r
notes_again heard from i vote (Ok v) unheard same = refl
notes_again heard from i vote (Err e) unheard same = absurd (unheard (was_heard heard from i vote same))

-- ---- what takes none

module _ {S : Type 0} (node : RunningNode S) where
  -- the turn of a plan takes none
  abbrev PlanTakesNone : Plan → Type 0
  PlanTakesNone plan = TakesNoMemory node.running (plan_turn node plan)

  one_none : (test : Bool) (one other : Plan) → PlanTakesNone one → PlanTakesNone other → PlanTakesNone (cond test one other)
  one_none true one other left right = left
  one_none false one other left right = right

  -- an item is added, or not
  pub adds_none : (item : Action) → PlanTakesNone (adds_pending node.running.pending item)
  adds_none item =
      one_none (list_any (is_same_call item) node.running.pending) (plans.Pass No) _ (record { written = refl; sent = refl; heard = refl })
      (one_none (nat_lt (length node.running.pending) most_pending) (plans.Await item) (plans.Pass Full) (record { written = refl; sent = refl; heard = refl }) (record { written = refl; sent = refl; heard = refl }))

  -- an interrupt is noted
  pub interrupt_adds_none : (source occurrence : ℕ) → PlanTakesNone (on_interrupt node source occurrence)
  interrupt_adds_none source occurrence =
      one_none (nat_lt (last_occurrence source (counted_by node)) occurrence) (adds_pending node.running.pending (Interrupt source occurrence)) (plans.Pass No)
      (adds_none (Interrupt source occurrence)) (record { written = refl; sent = refl; heard = refl })

-- ---- what follows for a result

-- the result of an input that is not long is planned
pub is_planned : {T : Type 0} (long : Type 0) (effect : Result Turn Fault) (r : Result T Fault) (turn : Turn) → IfErr r (Refuses long effect) → effect ≡ Ok turn → (¬ long) → IsOk r
is_planned long effect (Ok v) turn err is short = refl
is_planned long effect (Err fault) turn err is short = let why : Refuses long (Ok turn) fault = subst (λ (e : Result Turn Fault). Refuses long e fault) is err in absurd (short why.1)

-- a plan of this turn takes no memory
pub plan_takes_none : {S : Type 0} (next : S → Action → S) (answers : S → Action → List Answer) (replica : ReplicaState S) (effect : Result Turn Fault) (plan : Plan) (turn : Turn) → Ok (turn_of_plan next answers (server_of replica) plan) ≡ effect → effect ≡ Ok turn
    → TakesNoMemory replica.running turn → TakesNoMemory replica.running (turn_of_plan next answers (server_of replica) plan)
plan_takes_none next answers replica effect plan turn planned is free =
    let same : turn_of_plan next answers (server_of replica) plan ≡ turn = let e = planned ∙ is in cc in
    subst (TakesNoMemory replica.running) (sym same) free

-- the text of a packet that is not long is not long
pub short_text : (m : Message) (bytes : List ℕ) → bytes ≡ text_of m → IsPacket m → (¬ IsLongBody m.body) → ¬ IsLongText bytes
short_text m bytes text packet short = λ long.
    let (p, is_packet, body, has) = long in
    let one : all_of bytes ≡ Ok p = whole_read p bytes is_packet has in
    let other : all_of bytes ≡ Ok m = ap all_of text ∙ whole_again m packet in
    let same : p ≡ m = cc in
    short (subst (λ (n : Message). IsLongBody n.body) same body)
