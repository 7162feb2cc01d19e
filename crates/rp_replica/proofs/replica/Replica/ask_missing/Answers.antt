use Rattle.std.proofs.Common.{◌≡◌, ℕ, suc, ◌+◌, ◌-◌, ◌*◌, ◌<◌, ◌≤◌, ◌++◌, ◌∷◌, [], Bool, true, false, not, is_some, Option, Some, None, List, refl, sym, ap, subst, ◌∙◌, arith}
use Rattle.std.specs.Prelude.{is_none}
use Rattle.rp_base.specs.declared.action.Action.{Action}
use Rattle.rp_base.specs.declared.record.Rec.{Rec}
use Rattle.rp_base.specs.Ranges.{Range}
use Rattle.rp_base.specs.Records.{learned_at}
use Rattle.rp_codec.specs.Message.{Message}
use Rattle.rp_codec.specs.declared.packet.Body.TheVariants.{Ask}
use Rattle.rp_model.specs.Leader.{unlearned_in}
use Rattle.rp_model.specs.Learner.{asks_for_each, window_of}
use Rattle.rp_model.specs.Says.{says}
use Rattle.rp_outbox.specs.Packets.{Sending}
use Rattle.rp_replica.specs.State.{ReplicaState}
use Rattle.rp_replica.proofs.Asking.{asks_from, asked_next, passed_next, some_asked}
use Rattle.rp_replica.proofs.replica.Replica.ask_missing.Goals.{then-not-is_learned, else-not-is_learned}
use Rattle.rp_replica.proofs.replica.Replica.ask_missing.Goals as goal

none_not : (o : Option Action) → is_none o ≡ not (is_some o)
none_not None = refl
none_not (Some v) = refl

pub loop-index-preserved : goal.loop-index-preserved
loop-index-preserved g c =
    let now = c.args.self.now in
    let range = c.in-Some.range in
    let index = c.loop-index.index in
    let place = range.first + index in
    let within : index < range.count = omega (arith, c.loop-index-test.true, c.count-index-end.ensures.value) in
    let sent = c.loop-index.out.sent in
    let all = c.args.out.now.sent ++ asks_for_each now.me c.args.to (unlearned_in now.records range) in
    let records : c.self.inside.server.records ≡ now.records = ap (λ (s : ReplicaState g.row.M.Denot). s.records) c.self.view_is in
    let me : c.self.inside.server.me ≡ now.me = ap (λ (s : ReplicaState g.row.M.Denot). s.me) c.self.view_is in
    let learned : c.is_learned.result ≡ is_some (learned_at now.records place) =
    c.is_learned.ensures ∙ ap (λ (k : ℕ). is_some (learned_at c.self.inside.server.records k)) c.at-position.ensures ∙ ap (λ (rs : List Rec). is_some (learned_at rs place)) records in
    let test : is_none (learned_at now.records place) ≡ not c.is_learned.result = none_not (learned_at now.records place) ∙ ap not (sym learned) in
    let So : Sending → Type 0 = λ out. (out.sent ++ asks_from now.me c.args.to now.records range.first range.count (index + 1) ≡ all)
    × (40 * (range.count - (index + 1)) ≤ out.room) in
    elim c.if-not-is_learned.branch [
      | then-not-is_learned w ↦
          let says_so : w.say.new.self.sent ≡ sent ++ says now.me (Ask place) c.args.to ∷ [] =
          w.say.ensures.sent ∙ ap (λ (k : ℕ). sent ++ says w.me.result (Ask k) c.args.to ∷ []) c.at-position.ensures
          ∙ ap (λ (k : ℕ). sent ++ says k (Ask place) c.args.to ∷ []) (w.me.ensures ∙ me) in
          subst So (sym w.out-is) (
            ap (λ (ms : List Message). ms ++ asks_from now.me c.args.to now.records range.first range.count (index + 1)) says_so
                ∙ asked_next now.me c.args.to now.records range.first range.count index within sent all (test ∙ ap not w.if-not-is_learned.true) c.loop-index.invariant.0,
            omega (arith, within, w.say.ensures.room, c.loop-index.invariant.1),
          )
      | else-not-is_learned w ↦
          subst So (sym w.out-is) (
            passed_next now.me c.args.to now.records range.first range.count index within sent all (test ∙ ap not w.if-not-is_learned.false) c.loop-index.invariant.0,
            omega (arith, within, c.loop-index.invariant.1),
          )
    ]

pub returns-in_err-reserve-clause-certain : goal.returns-in_err-reserve-clause-certain
returns-in_err-reserve-clause-certain g c = λ none.
    let now = c.args.self.now in
    let range = c.in-Some.range in
    let unlearned : learned_at now.records range.first ≡ None = ap (λ (s : ReplicaState g.row.M.Denot). learned_at s.records range.first) (sym c.self.view_is) ∙ c.in-Some.ensures.unlearned in
    let is : range ≡ window_of now.config.max_positions now.records = c.in-Some.ensures.some ∙ ap (λ (s : ReplicaState g.row.M.Denot). window_of s.config.max_positions s.records) c.self.view_is in
    absurd (some_asked now.me c.args.to now.records range c.count.ensures.range.count.0 unlearned (subst (λ (w : Range). asks_for_each now.me c.args.to (unlearned_in now.records w) ≡ []) (sym is) none))
