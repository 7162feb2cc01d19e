-- A call that comes to a node that has learned all that is decided can count there, or it counted: it
-- does not come early.
use Rattle.std.proofs.Common.{◌≡◌, ℕ, zero, suc, ◌≤◌, Bool, true, false, not, ◌&&◌, ◌⊎◌, Some, Ok, List, [], ◌∷◌, ◌++◌, length, map, inl, inr, refl, sym, ap, subst, ◌∙◌, append-nil, le-ltb, arith}
use Rattle.std.specs.Prelude.{ℤ, nat_lt, slice_get}
use Rattle.rp_base.specs.Action.{IsRight}
use Rattle.rp_base.specs.Records.{applied_of}
use Rattle.rp_base.specs.Sets.{Has}
use Rattle.rp_base.proofs.Members.{has_left, has_right, has_mapped, mapped_has}
use Rattle.rp_base.specs.declared.action.Action.{Action}
use Rattle.rp_base.specs.declared.action.Action.TheVariants as actions
use Rattle.rp_base.specs.declared.action.Operation.{Operation}
use Rattle.rp_base.specs.declared.record.Rec.{Rec}
use Rattle.rp_base.specs.declared.reply.Answer.{Answer}
use Rattle.rp_codec.specs.Message.{Message}
use Rattle.rp_codec.specs.declared.packet.Body.{Body}
use Rattle.rp_codec.specs.declared.packet.Body.TheVariants as bodies
use Rattle.rp_codec.specs.declared.packet.Party.{Party}
use Rattle.rp_codec.specs.declared.packet.Party.TheVariants as parties
use Rattle.rp_machine.specs.Asked.{last_number}
use Rattle.rp_machine.specs.Calls.{CallName, calls_of, calls_made, call_of}
use Rattle.rp_machine.specs.Replay.{counts, counted_of, replay_answers}
use Rattle.rp_machine.proofs.Calling.{made_number, one_to_bound}
use Rattle.rp_machine.proofs.Numbering.{counted}
use Rattle.rp_model.specs.Effect.{Setting, Receive}
use Rattle.rp_model.specs.Facts.{IsDecided}
use Rattle.rp_model.specs.Parts.{NodePart}
use Rattle.rp_model.specs.World.{World, part_at}
use Rattle.rp_agreement.specs.Answered.{IsKeptWorld, named, calls_so_far, answers_of, task_in}
use Rattle.rp_agreement.specs.Asked.{Asks}
use Rattle.rp_agreement.specs.Computed.{order_of}
use Rattle.rp_agreement.specs.Order.{IsPrefix}
use Rattle.rp_agreement.specs.Sound.{SaysSo}
use Rattle.rp_agreement.specs.Worlds.{node_in}
use Rattle.rp_agreement.proofs.AnswersGrow.{applied_begins, answers_grow}
use Rattle.rp_agreement.proofs.Computing.{order_is}
use Rattle.rp_agreement.proofs.Made.{asks_in_turn}
use Rattle.rp_agreement.proofs.OnlyMade.{place_kept}
use Rattle.rp_agreement.proofs.Places.{AnswersKnown, next_counts}
use Rattle.rp_agreement.proofs.TaskReplies.{most_calls}
use Rattle.rp_model.specs.Receiving.{is_node}
use Rattle.rp_requests.specs.Nodes.{NodeState}
use Rattle.rp_requests.specs.Timing.{is_early, is_early_body, comes_early}
use Rattle.rp_installations.specs.Behind.{IsSetUp}
use Rattle.rp_possible.specs.Rounds.{HasLearnedAll, ComesInTime}
use Rattle.rp_progress.specs.Waiting.{applied_in}
use Rattle.rp_progress.proofs.Occurring.{OccursFirst, occurs_or_not, first_is_place, all_right}
use Rattle.rp_progress.proofs.Restarting.{records_here}
use Rattle.rp_progress.proofs.Unlearned.{get_after}

-- ---- lists

-- a call of one of the actions is among those that were made
made_of : (call : CallName) (action : Action) (xs : List Action) → Has action xs → Has call (calls_of action) → Has call (calls_made xs)
made_of call action [] h of_it = absurd h
made_of call action (x ∷ xs) h of_it =
    elim h [
      | inl same ↦ has_left call (calls_of x) (calls_made xs) (subst (λ (a : Action). Has call (calls_of a)) same of_it)
      | inr later ↦ has_right call (calls_of x) (calls_made xs) (made_of call action xs later of_it)
    ]

none_right : (b : Bool) → (b && false) ≡ false
none_right true = refl
none_right false = refl

-- what is not above the last number, or counts, is not early
none_early : (above counting : Bool) → (above ≡ false) ⊎ (counting ≡ true) → (above && not counting) ≡ false
none_early above counting (inl e) = ap (λ (b : Bool). b && not counting) e
none_early true counting (inr e) = ap not e
none_early false counting (inr e) = refl

module _ {S : Type 0} (s : Setting S) (known : AnswersKnown s) (w : World) (kept : IsKeptWorld s w) (k : ℕ) (part : NodePart) (there : part_at w.nodes k ≡ Some part) where
  module _ (learned : HasLearnedAll w k) where
    abbrev applied : List Action
    applied = applied_in w k

    abbrev kept_now : List Action
    kept_now = counted_of s.next s.answers s.begin applied

    abbrev given : List Answer
    given = replay_answers s.next s.answers s.begin applied

    -- it has applied the whole order
    is_order : order_of s.config.nodes w.sent ≡ applied
    is_order = by begins.0 begins.1
      where
        begins : IsPrefix applied (order_of s.config.nodes w.sent)
        begins = applied_begins s.config.nodes (node_in w.nodes) w.sent kept.kept.sound k

        by : (rest : List Action) → order_of s.config.nodes w.sent ≡ applied ++ rest → order_of s.config.nodes w.sent ≡ applied
        by [] same = same ∙ append-nil applied
        by (v ∷ rest) same =
            let n = length applied in
            let decided = (order_is s.config.nodes w.sent).decided n v (ap (λ (list : List Action). slice_get list n) same ∙ get_after applied v rest) in
            absurd (learned part there v
            (subst (λ (records : List Rec). IsDecided (length w.nodes) w.sent (suc (length (applied_of records))) v) (records_here w k part there)
            (subst (λ (nodes : ℕ). IsDecided nodes w.sent (suc n) v) (sym kept.size) decided)))

    rights : (action : Action) → Has action applied → IsRight action
    rights action h = all_right s (node_in w.nodes) (task_in w.tasks) w.sent kept.kept known k action h

    -- a call that occurs there has counted
    not_above : (u m : ℕ) → OccursFirst (named u (suc m)) applied → suc m ≤ last_number u kept_now
    not_above u m occurs =
        let call = named u (suc m) in
        let place = first_is_place s (node_in w.nodes) (task_in w.tasks) w.sent kept.kept known k u m occurs in
        let there = place_kept s.next s.answers s.begin applied call (suc occurs.index) place in
        let made : Has call (calls_made kept_now) = made_of call place.action kept_now there (subst (λ (calls : List CallName). Has call calls) (sym place.is_call) (inl refl)) in
        one_to_bound (last_number u kept_now) (suc m) (subst (λ (list : List ℕ). Has (suc m) list) ((counted s.next s.answers s.begin applied).numbered u) (made_number call kept_now made))

    -- the call before it is answered there
    before_answered : (u m : ℕ) → suc m ≤ calls_so_far (task_in w.tasks u) → (m ≡ 0) ⊎ Has (named u m) (map call_of (answers_of s applied))
    before_answered u m made =
        let most : calls_so_far (task_in w.tasks u) ≤ suc (length (task_in w.tasks u).replies) = most_calls (task_in w.tasks u).outstanding (length (task_in w.tasks u).replies) in
        let ready = kept.kept.ready u m (omega (arith, made, most)) in
        elim ready.answered [
          | inl none ↦ inl none
          | inr stated ↦
              let hit = mapped_has call_of (named u m) (answers_of s ready.before) stated in
              let grown = answers_grow s ready.before applied (subst (λ (order : List Action). IsPrefix ready.before order) is_order ready.begins) hit.0 hit.1 in
              inr (subst (λ (c : CallName). Has c (map call_of (answers_of s applied))) (sym hit.2) (has_mapped call_of hit.0 (answers_of s applied) grown))
        ]

    in_turn : (u n object : ℕ) (operation : Operation) (arg : ℤ) → n ≤ calls_so_far (task_in w.tasks u) → is_early kept_now given (actions.Call u n object operation arg) ≡ false
    in_turn u zero object operation arg made = none_early (nat_lt (last_number u kept_now) 0) (counts kept_now given (actions.Call u 0 object operation arg)) (inl (le-ltb (last_number u kept_now) 0 (omega arith)))
    in_turn u (suc m) object operation arg made =
        let call = actions.Call u (suc m) object operation arg in
        none_early (nat_lt (last_number u kept_now) (suc m)) (counts kept_now given call)
        (elim (occurs_or_not u (suc m) applied) [
          | inr occurs ↦ inl (le-ltb (last_number u kept_now) (suc m) (not_above u m occurs))
          | inl absent ↦ inr (next_counts s known applied rights u m absent (before_answered u m made) call refl)
        ])

    -- ---- a call that was sent

    -- it is one of its task
    by_task : (u : ℕ) (action : Action) → Asks w.sent u action → SaysSo s.config.nodes (node_in w.nodes) w.sent (parties.Task u) (bodies.Call action) → is_early kept_now given action ≡ false
    by_task u actions.Noop asked says = absurd says.0
    by_task u (actions.Call task n object operation arg) asked says =
        let own : Asks w.sent task (actions.Call task n object operation arg) = subst (λ (t : ℕ). Asks w.sent t (actions.Call task n object operation arg)) (sym says.0) asked in
        in_turn task n object operation arg
        (asks_in_turn w.sent task (task_in w.tasks task) (kept.kept.made task).0 (kept.kept.made task).1 (actions.Call task n object operation arg) own (named task n) (inl refl))
    by_task u (actions.Interrupt source occurrence) asked says = absurd says.0
    by_task u (actions.Tick now) asked says = absurd says.0

    by_sender : (m : Message) (from : Party) (action : Action) → m.from ≡ from → m.to ≡ parties.Node k → m.body ≡ bodies.Call action → Has m w.sent → is_early kept_now given action ≡ false
    by_sender m from action is to body has =
        by_party from is (subst (λ (b : Body). SaysSo s.config.nodes (node_in w.nodes) w.sent from b) body (subst (λ (p : Party). SaysSo s.config.nodes (node_in w.nodes) w.sent p m.body) is (kept.kept.sound.says m has)))
      where
        by_party : (p : Party) → m.from ≡ p → SaysSo s.config.nodes (node_in w.nodes) w.sent p (bodies.Call action) → is_early kept_now given action ≡ false
        by_party (parties.Node y) is says = absurd says.1
        by_party (parties.Task u) is says =
            let same : m ≡ record { from = parties.Task u; to = parties.Node k; body = bodies.Call action } = λ i. record { from = is i; to = to i; body = body i } in
            by_task u action (k, subst (λ (x : Message). Has x w.sent) same has) says
        by_party parties.Audit is says = absurd says

  -- no packet comes early that comes in time
  pub none_early_there : (m : Message) → Has m w.sent → m.to ≡ parties.Node k → ComesInTime w m.to m.body
      → is_early_body (counted_of s.next s.answers s.begin (applied_of part.records)) (replay_answers s.next s.answers s.begin (applied_of part.records)) m.body ≡ false
  none_early_there m has to in_time =
      subst (λ (records : List Rec). is_early_body (counted_of s.next s.answers s.begin (applied_of records)) (replay_answers s.next s.answers s.begin (applied_of records)) m.body ≡ false) (records_here w k part there)
      (by m.body refl (subst (λ (p : Party). ComesInTime w p m.body) to in_time))
    where
      by : (body : Body) → m.body ≡ body → ComesInTime w (parties.Node k) body
          → is_early_body (counted_of s.next s.answers s.begin (applied_in w k)) (replay_answers s.next s.answers s.begin (applied_in w k)) body ≡ false
      by (bodies.Call action) body in_time = by_sender in_time m m.from action refl to body has
      by other body in_time = refl

  -- nor to a node by handle that keeps these records
  pub comes_in_time : (me : ℕ) (node : NodeState S) → IsSetUp s me node → node.replica.records ≡ part.records → (m : Message) → Has m w.sent → m.to ≡ parties.Node k → ComesInTime w m.to m.body
      → comes_early s.next s.answers node.replica (Ok (Receive m)) ≡ false
  comes_in_time me node set_up records m has to in_time =
      let replica = node.replica in
      let log = applied_of replica.records in
      let early : is_early_body (counted_of s.next s.answers replica.begin log) (replay_answers s.next s.answers replica.begin log) m.body ≡ false =
      ap (λ (c : List Action). is_early_body c (replay_answers s.next s.answers replica.begin log) m.body) (set_up.begin.kept log)
      ∙ ap (λ (a : List Answer). is_early_body (counted_of s.next s.answers s.begin log) a m.body) (set_up.begin.given log)
      ∙ ap (λ (r : List Rec). is_early_body (counted_of s.next s.answers s.begin (applied_of r)) (replay_answers s.next s.answers s.begin (applied_of r)) m.body) records
      ∙ none_early_there m has to in_time in
      ap (λ (b : Bool). is_node replica.me m.to && b) early ∙ none_right (is_node replica.me m.to)
