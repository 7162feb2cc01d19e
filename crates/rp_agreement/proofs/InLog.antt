-- What a node's turn writes is at a position of the log, or at none.
use Rattle.std.proofs.Common.{◌≡◌, ℕ, Bool, true, false, nat_lt, nat_le, nat_eq, Option, Some, None, Result, Ok, Err, List, refl}
use Rattle.std.specs.Prelude.{suc, not}
use Rattle.std.proofs.lemmas.Bool.{and_parts, le-leb, ltb-false}
use Rattle.rp_base.specs.declared.fault.Fault.{Fault}
use Rattle.rp_base.specs.declared.record.Rec.{Rec}
use Rattle.rp_base.specs.Ballot.{owner_of}
use Rattle.rp_base.specs.Ranges.{end_of}
use Rattle.rp_codec.specs.declared.packet.Body.TheVariants as bodies
use Rattle.rp_model.specs.Effect.{Setting, NodeInput, running_effect}
use Rattle.rp_model.specs.Node.{RunningNode, running_node}
use Rattle.rp_model.specs.Parts.{Running, Turn, is_in_log}
use Rattle.rp_model.specs.Plans.{turn_of}
use Rattle.rp_model.specs.Receiving.{is_range_within}
use Rattle.rp_model.specs.declared.plan.Plan.{Plan}
use Rattle.rp_model.specs.declared.plan.Plan.TheVariants as plans
use Rattle.rp_model.proofs.EveryPlan.{Saw, came_allowed, by_plan}

-- the record that is written, if one is, is at a position of the log, or at none
abbrev pub WritesInLog : ℕ → Option Rec → Type 0
WritesInLog most None = Unit {0}
WritesInLog most (Some rec) = is_in_log most rec ≡ true

-- what a turn writes, if it is not refused
abbrev pub InLogIf : ℕ → Result Turn Fault → Type 0
InLogIf most (Ok turn) = WritesInLog most turn.written
InLogIf most (Err fault) = Unit {0}

-- what is not above the log
not_above : (most i : ℕ) → not (nat_lt most i) ≡ true → nat_le i most ≡ true
not_above most i e = le-leb i most (ltb-false most i (is_not (nat_lt most i) e))
  where
    is_not : (b : Bool) → not b ≡ true → b ≡ false
    is_not true e = absurd (cc)
    is_not false e = refl

module _ {S : Type 0} (node : RunningNode S) (input : NodeInput) where
  plan_in_log : (plan : Plan) → Saw node input plan → WritesInLog node.setting.config.max_positions (turn_of node plan).written
  plan_in_log (plans.Promise header last) saw =
      let allowed = came_allowed node input header.to (bodies.Prepare header.position header.ballot) saw.came in
      not_above _ header.position (and_parts (not (nat_lt _ header.position)) (nat_eq (owner_of header.ballot) header.to) allowed).0
  plan_in_log (plans.PromiseRange p) saw =
      let allowed = came_allowed node input p.to (bodies.PrepareRange p.range p.ballot) saw.came in
      let within = (and_parts (is_range_within _ p.range) (nat_eq (owner_of p.ballot) p.to) allowed).0 in
      (and_parts (nat_le p.range.first _) (nat_le (end_of p.range) (suc _)) within).0
  plan_in_log (plans.Vote header v) saw =
      let allowed = came_allowed node input header.to (bodies.Accept header.position header.ballot v) saw.came in
      not_above _ header.position (and_parts (not (nat_lt _ header.position)) (nat_eq (owner_of header.ballot) header.to) allowed).0
  plan_in_log (plans.Lead i b own) saw = refl
  plan_in_log (plans.LeadRange range b) saw = refl
  plan_in_log (plans.Learn i v) saw = not_above _ i (came_allowed node input saw.from (bodies.Accepted i saw.ballot v) saw.vote.came)
  plan_in_log (plans.Follow from i v) saw = not_above _ i (came_allowed node input from (bodies.Decided i v) saw.came)
  plan_in_log _ saw = tt

pub turn_in_log : {S : Type 0} (s : Setting S) (me : ℕ) (records : List Rec) (running : Running) (input : NodeInput)
    → InLogIf s.config.max_positions (running_effect s me records running input)
turn_in_log s me records running input =
    let node = running_node s me records running in
    by_plan node input (InLogIf s.config.max_positions) (λ fault. tt) (λ plan saw. plan_in_log node input plan saw)
