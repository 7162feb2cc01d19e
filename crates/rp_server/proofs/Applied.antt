-- What is applied, and what is learned.
use Rattle.std.proofs.Common.{◌≡◌, ℕ, ◌<◌, ◌≤◌, Bool, true, false, cond, nat_eq, Option, Some, None, List, [], ◌∷◌, sym, ap, subst, ◌∙◌}
use Rattle.std.proofs.lemmas.Bool.{lt-ltb, le-ltb}
use Rattle.std.specs.List.{AllByRecursion}
use Rattle.std.specs.Prelude.{IfSome}
use Rattle.rp_base.specs.declared.reply.Reply.{Reply}
use Rattle.rp_base.specs.declared.reply.Answer.{Answer}
use Rattle.rp_machine.specs.Asked.{last_number}
use Rattle.rp_machine.specs.Replay.{replay_of}
use Rattle.rp_model.specs.Arrivals.{adds_pending, on_numbered}
use Rattle.rp_model.specs.Node.{RunningNode, counted_by}
use Rattle.rp_model.specs.declared.effect.Dropped.TheVariants.{No}
use Rattle.rp_model.specs.declared.plan.Plan.TheVariants as plans
use Rattle.rp_base.specs.declared.action.Action.{Action}
use Rattle.rp_base.specs.declared.record.Rec.{Rec}
use Rattle.rp_base.specs.declared.record.Rec.TheVariants.{Started, Promised, Voted, Learned, PromisedRange}
use Rattle.rp_base.specs.Action.{IsRight}
use Rattle.rp_base.specs.Right.{IsRightRecord}
use Rattle.rp_base.specs.Records.{or_else, learned_at, applied_of}
use Rattle.rp_log.specs.Contents.{Contents}
use Rattle.rp_log.proofs.RecordedRuns.{all_taken}
use Rattle.rp_machine.specs.Numbered.{Applied, outcome}
use Rattle.rp_server.specs.Invariant.{IsApplied}

-- the machine's actions are the applied list
pub applied_is : {S : Type 0} (records : List Rec) (log : Contents) (applied : Applied S) → IsApplied records log applied → applied.actions ≡ applied_of records
applied_is records log applied a = a.taken ∙ all_taken records log a.learned a.ordered a.none

some_is : (x y : Action) → Some x ≡ Some y → x ≡ y
some_is x y e = cc

-- an action that right records learn is right
learned_here : (rest : List Rec) (i : ℕ) (v action : Action) (here : Bool) → IsRight action → (learned_at rest i ≡ Some v → IsRight v)
    → or_else (cond here (Some action) None) (learned_at rest i) ≡ Some v → IsRight v
learned_here rest i v action true right later e = subst IsRight (some_is action v e) right
learned_here rest i v action false right later e = later e

pub learned_right : (records : List Rec) (i : ℕ) (v : Action) → AllByRecursion IsRightRecord records → learned_at records i ≡ Some v → IsRight v
learned_right [] i v right is = absurd (cc)
learned_right (Started ballot ∷ rest) i v right is = learned_right rest i v right.1 is
learned_right (Promised position ballot ∷ rest) i v right is = learned_right rest i v right.1 is
learned_right (Voted position ballot action ∷ rest) i v right is = learned_right rest i v right.1 is
learned_right (Learned position action ∷ rest) i v right is = learned_here rest i v action (nat_eq position i) right.0 (learned_right rest i v right.1) is
learned_right (PromisedRange range ballot ∷ rest) i v right is = learned_right rest i v right.1 is

-- what right records learned at a position, if anything, is right
pub right_if_learned : (records : List Rec) (i : ℕ) (o : Option Action) → AllByRecursion IsRightRecord records → learned_at records i ≡ o → IfSome o IsRight
right_if_learned records i None right is = tt
right_if_learned records i (Some v) right is = learned_right records i v right is

-- ---- what a server is asked, in the words of its part

module _ {S : Type 0} (next : S → Action → S) (answers : S → Action → List Answer) (records : List Rec) (log : Contents) (applied : Applied S) (a : IsApplied records log applied) where
  -- what its machine became
  pub outcome_is : outcome next answers applied ≡ replay_of next answers applied.begin (applied_of records)
  outcome_is = ap (replay_of next answers applied.begin) (applied_is records log applied a)

-- ---- what becomes of a call or an interrupt, by its number

module _ {S : Type 0} (node : RunningNode S) (task number : ℕ) (call : Action) where
  -- a call of which a reply is kept
  pub call_again : (stated : Option Reply) (reply : Reply) → stated ≡ Some reply → plans.Answer task number reply ≡ on_numbered node task number call stated
  call_again stated reply is = sym (ap (on_numbered node task number call) is)

  -- one below the last that counted
  pub call_past : (last : ℕ) → last ≡ last_number task (counted_by node) → number < last → plans.Pass No ≡ on_numbered node task number call None
  call_past last is below =
      let lt : number < last_number task (counted_by node) = subst (λ (n : ℕ). number < n) is below in
      sym (ap (λ (b : Bool). cond b (plans.Pass No) (adds_pending node.running.pending call)) (lt-ltb number (last_number task (counted_by node)) lt))

  -- another one
  pub call_new : (last : ℕ) → last ≡ last_number task (counted_by node) → last ≤ number → adds_pending node.running.pending call ≡ on_numbered node task number call None
  call_new last is above =
      let le : last_number task (counted_by node) ≤ number = subst (λ (n : ℕ). n ≤ number) is above in
      sym (ap (λ (b : Bool). cond b (plans.Pass No) (adds_pending node.running.pending call)) (le-ltb number (last_number task (counted_by node)) le))
