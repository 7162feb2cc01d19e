-- A call that a node is asked for, which knows nothing but its records, is answered again, or waits.
use Rattle.std.proofs.Common.{◌≡◌, ℕ, ◌≤◌, Bool, true, false, Option, Some, None, Ok, List, [], ◌∷◌, refl, sym, ap, ◌∙◌, eq-eqb, lt-ltb}
use Rattle.std.specs.Prelude.{ℤ, nat_eq, nat_lt, ◌&&◌, if◌then◌else◌}
use Rattle.std.specs.Option.{option_map}
use Rattle.std.proofs.lemmas.Bool.{and_from, cond-true, cond-false}
use Rattle.rp_base.specs.Records.{applied_of}
use Rattle.rp_base.specs.declared.action.Action.{Action}
use Rattle.rp_base.specs.declared.action.Action.TheVariants.{Call}
use Rattle.rp_base.specs.declared.action.Operation.{Operation}
use Rattle.rp_base.specs.declared.record.Rec.{Rec}
use Rattle.rp_base.specs.declared.reply.Answer.{Answer}
use Rattle.rp_base.specs.declared.reply.Reply.{Reply as CallReply}
use Rattle.rp_codec.specs.declared.packet.Body.TheVariants as bodies
use Rattle.rp_machine.specs.Asked.{last_number, answer_to, kept_reply}
use Rattle.rp_machine.specs.Replay.{counted_of, replay_answers}
use Rattle.rp_model.specs.Arrivals.{on_numbered, adds_pending}
use Rattle.rp_model.specs.Effect.{Setting, Receive, running_effect}
use Rattle.rp_model.specs.Node.{RunningNode, running_node}
use Rattle.rp_model.specs.Parts.{fresh_running}
use Rattle.rp_model.specs.Plans.{turn_of}
use Rattle.rp_model.specs.Receiving.{is_for_node}
use Rattle.rp_model.specs.Says.{sends, notes, says_to_task}
use Rattle.rp_model.specs.Tasks.{asks}
use Rattle.rp_model.specs.declared.effect.Dropped.TheVariants.{No, Foreign}
use Rattle.rp_model.specs.declared.plan.Plan.{Plan}
use Rattle.rp_model.specs.declared.plan.Plan.TheVariants as plans
use Rattle.rp_possible.specs.Rounds.{only_pending}

module _ {S : Type 0} (s : Setting S) where
  module _ (x t n object : ℕ) (operation : Operation) (arg : ℤ) (records : List Rec) where
    abbrev counted : List Action
    counted = counted_of s.next s.answers s.begin (applied_of records)

    abbrev given : List Answer
    given = replay_answers s.next s.answers s.begin (applied_of records)

    abbrev call : Action
    call = Call t n object operation arg

    abbrev fresh : RunningNode S
    fresh = running_node s x records fresh_running

    -- a node that is asked for a call looks whether its reply is kept
    asked_for : (o : Option CallReply) → kept_reply t n counted given ≡ o
        → running_effect s x records fresh_running (Receive (asks t x call)) ≡ Ok (turn_of fresh (on_numbered fresh t n call o))
    asked_for o is =
        let mine : is_for_node s.config x (asks t x call) ≡ true = and_from _ _ (and_from _ _ (eq-eqb x x refl) refl) refl in
        ap (λ (plan : Plan). Ok (turn_of fresh plan))
        (cond-true (is_for_node s.config x (asks t x call)) _ (plans.Pass Foreign) mine
        ∙ ap (λ (reply : Option CallReply). on_numbered fresh t n call reply) is)

    -- the reply is sent again
    pub replies_again : (answer : Answer) → answer_to t n given ≡ Some answer → 1 ≤ n → last_number t counted ≡ n
        → running_effect s x records fresh_running (Receive (asks t x call)) ≡ Ok (sends fresh_running (says_to_task x (bodies.Reply n answer.reply) t ∷ []))
    replies_again answer found above last =
        let reply_to = option_map (λ (a : Answer). a.reply) (answer_to t n given) in
        let test : (nat_lt 0 n && nat_eq n (last_number t counted)) ≡ true = and_from _ _ (lt-ltb 0 n above) (eq-eqb n (last_number t counted) (sym last)) in
        asked_for (Some answer.reply) (cond-true (nat_lt 0 n && nat_eq n (last_number t counted)) reply_to None test ∙ ap (option_map (λ (a : Answer). a.reply)) found)

    none_either : (b : Bool) → (let o : Option CallReply = if b then None else None in o) ≡ None
    none_either true = refl
    none_either false = refl

    -- the call waits, and nothing else
    pub awaits : answer_to t n given ≡ None → nat_lt n (last_number t counted) ≡ false
        → running_effect s x records fresh_running (Receive (asks t x call)) ≡ Ok (notes (only_pending (call ∷ [])))
    awaits none low =
        let test = nat_lt 0 n && nat_eq n (last_number t counted) in
        let no_reply : kept_reply t n counted given ≡ None =
        ap (λ (o : Option Answer). if test then option_map (λ (a : Answer). a.reply) o else None) none ∙ none_either test in
        asked_for None no_reply
        ∙ ap (λ (plan : Plan). Ok (turn_of fresh plan)) (cond-false (nat_lt n (last_number t counted)) (plans.Pass No) (adds_pending [] call) low)
