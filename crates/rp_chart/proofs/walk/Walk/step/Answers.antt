-- By what the step of the cluster was.
use Rattle.std.proofs.Common.{◌≡◌, ◌∙◌, ◌+◌, ◌-◌, ◌^◌, min, ℕ, ◌≤◌, Option, None, Ok, List, [], ◌∷◌, ◌++◌, length, length-append, drop, arith, sym, ap, subst}
use Rattle.std.proofs.lemmas.List.{length-drop}
use Rattle.rp_run.specs.rp_base.specs.Fault.{code_of}
use Rattle.rp_history.specs.rp_drawing.specs.Ways.{IsEndingWithin}
use Rattle.rp_history.specs.rp_drawing.specs.declared.sketch.Ending.{Ending}
use Rattle.rp_history.specs.Histories.{Happening, LabelText, EventHappened, IsSketchOf, label_text}
use Rattle.rp_history.proofs.HistoryLemmas.{ending_was_sent}
use Rattle.rp_run.specs.rp_model.specs.Events.{event_of}
use Rattle.rp_run.specs.rp_codec.specs.declared.packet.Party.{Party}
use Rattle.rp_history.specs.declared.happened.Happened.{Happened}
use Rattle.rp_history.specs.declared.happened.NodeState.{NodeState}
use Rattle.rp_run.specs.rp_model.specs.Answers.{Describes}
use Rattle.rp_run.specs.rp_model.specs.World.{World, Transition, part_at}
use Rattle.rp_run.specs.rp_base.specs.declared.reply.Answer.{Answer}
use Rattle.rp_run.specs.rp_model.specs.declared.effect.Dropped.{Dropped}
use Rattle.rp_run.specs.rp_model.specs.declared.effect.Effect.{Effect}
use Rattle.rp_run.specs.rp_model.specs.declared.event.Event.{Event}
use Rattle.rp_run.specs.Output.{RunSetting, event_said}
use Rattle.rp_run.specs.Runs.{run_setting}
use Rattle.rp_run.proofs.Taken.{settled_alike}
use Rattle.rp_run.proofs.RunParts.{happened, was_refused}
use Rattle.rp_run.proofs.Stepping.{always_ok, parts_stay, refused_of, same_run_setting}
use Rattle.rp_chart.specs.Causes.{line_text}
use Rattle.rp_chart.specs.Prospects.{actor_at, actor_state, effect_after, happened_in, packet_number}
use Rattle.rp_chart.specs.ScriptHistory.{details_as, drawn_run, event_happens, event_label, refused}
use Rattle.rp_chart.proofs.Charting.{charted_as, charted_by, follows_of, has_ways, writes_none}
use Rattle.rp_chart.proofs.ScriptHistory.{event_happened, event_refused}
use Rattle.rp_chart.proofs.walk.Walk.step.Goals as goal

pub packets_from-requires-clause-low : goal.packets_from-requires-clause-low
packets_from-requires-clause-low g c = omega (arith, c.in-Ok.ensures.step.world.describes.first)

pub packets_from-requires-clause-high : goal.packets_from-requires-clause-high
packets_from-requires-clause-high g c =
    let done = c.in-Ok.ensures.step.world in
    let m = g.M.Machine in
    let old = c.args.self.now.cluster in
    let s = run_setting m.next m.answers m.begin m.image old c.args.scene.now.options.now in
    let grows = c.worlds_grow.ensures s.setting old.world (event_of c.args.event.now) done.transition done.resulted in
    let grown = ap (λ (w : World). length w.sent) done.world ∙ ap length grows.sent in
    let longer = length-append old.world.sent done.transition.sends in
    omega (arith, done.describes.first, grown, longer)

pub details-requires-clause-first : goal.details-requires-clause-first
details-requires-clause-first g c = omega (arith, c.in-Ok.ensures.step.world.describes.first)

pub details-requires-clause-nodes : goal.details-requires-clause-nodes
details-requires-clause-nodes g c = ap (λ k. k.config.nodes) c.in-Ok.ensures.step.setup ∙ c.requires.parts.config

pub happen-requires-clause-ending : goal.happen-requires-clause-ending
happen-requires-clause-ending g c =
    let world = c.args.self.now.cluster.world in
    subst (λ (n : ℕ). IsEndingWithin n c.in_ok-prospect.prospect.ending) (sym c.requires.ways.count)
    (subst (λ (o : Option Ending). IsEndingWithin (length world.sent) o) (sym c.in_ok-prospect.ensures.ending) (ending_was_sent world c.args.event.now))

pub returns-in_ok-packets-in-Ok-clause-parts : goal.returns-in_ok-packets-in-Ok-clause-parts
returns-in_ok-packets-in-Ok-clause-parts g c =
    let m = g.M.Machine in
    always_ok c.happen.result (parts_stay m.next m.answers m.begin c.args.scene.now.options.now.config.nodes c.args.self.now.cluster c.step.new.self c.args.event.now
    c.requires.parts c.requires.event c.in-Ok.effect c.in-Ok.ensures.step.setup c.in-Ok.ensures.step.world)

pub returns-in_ok-packets-in-Ok-clause-reached : goal.returns-in_ok-packets-in-Ok-clause-reached
returns-in_ok-packets-in-Ok-clause-reached g c =
    let m = g.M.Machine in
    let old = c.args.self.now.cluster in
    let s = run_setting m.next m.answers m.begin m.image old c.args.scene.now.options.now in
    let done = c.in-Ok.ensures.step.world in
    λ play follows.
    follows_of c.step.new.self.world c.settle_any.new.self (event_said s c.args.line play c.args.event.now) c.happen.result
    (happened s c.args.line play c.args.event.now old.world c.args.self.now.settled follows c.step.new.self.world c.settle_any.new.self c.in-Ok.effect None None c.happen.result
    done (c.worlds_grow.ensures s.setting old.world (event_of c.args.event.now) done.transition done.resulted) (settled_alike c.args.self.now.settled c.settle_any.new.self _ _ c.settled_by.ensures.value c.in_ok-settle_any-in-Ok.ensures.ok) (writes_none _ c.happen.result))

pub returns-in_ok-packets-in-Ok-clause-ways : goal.returns-in_ok-packets-in-Ok-clause-ways
returns-in_ok-packets-in-Ok-clause-ways g c =
    let done = c.in-Ok.ensures.step.world in
    let m = g.M.Machine in
    let old = c.args.self.now.cluster in
    let new = c.step.new.self in
    let s = run_setting m.next m.answers m.begin m.image old c.args.scene.now.options.now in
    let grows = c.worlds_grow.ensures s.setting old.world (event_of c.args.event.now) done.transition done.resulted in
    let grown = ap (λ (w : World). length w.sent) done.world ∙ ap length grows.sent in
    let longer = length-append old.world.sent done.transition.sends in
    let packets : length c.deref.result.now ≡ length new.world.sent - (c.in-Ok.effect.first - 1) =
    ap length (c.deref.ensures.value ∙ c.in_ok-packets-in-Ok.ensures) ∙ length-drop (c.in-Ok.effect.first - 1) new.world.sent in
    has_ways new c.happen.new.self c.happen.result (length c.args.self.now.chart.sketch.ways.items + length c.deref.result.now)
    c.happen.ensures.drawable c.happen.ensures.count
    (omega (arith, c.requires.ways.count, packets, done.describes.first, grown, longer))

-- the effect that describes a result
effect_is : (sent : ℕ) (transition : Transition) (effect : Effect) → Describes sent transition effect → effect ≡ effect_after sent transition
effect_is sent transition effect describes =
    ap (λ (x : ℕ). made x effect.sent effect.dropped effect.taken effect.opened) describes.first
    ∙ ap (λ (x : ℕ). made (sent + 1) x effect.dropped effect.taken effect.opened) describes.count
    ∙ ap (λ (x : Dropped). made (sent + 1) (min (length transition.sends) (2 ^ 32 - 1)) x effect.taken effect.opened) describes.dropped
    ∙ ap (λ (x : Option Answer). made (sent + 1) (min (length transition.sends) (2 ^ 32 - 1)) transition.dropped x effect.opened) describes.taken
    ∙ ap (λ (x : Option (ℕ × ℕ)). made (sent + 1) (min (length transition.sends) (2 ^ 32 - 1)) transition.dropped transition.taken x) describes.opened
  where
    made : ℕ → ℕ → Dropped → Option Answer → Option (ℕ × ℕ) → Effect
    made first count dropped taken opened = record { first = first; sent = count; dropped = dropped; taken = taken; opened = opened }

-- what is known of an event
abbrev noted : Event → Effect → World → Option Party → NodeState → Happened
noted event effect after actor before = record {
  event = event;
  effect = effect;
  actor = actor;
  before = before;
  after = actor_state after actor;
  packet = part_at after.sent (packet_number event effect.first);
}

-- what happened in the event, by its result
happened_is : (w : World) (event : Event) (after : World) (transition : Transition) (effect : Effect) (actor : Option Party) (before : NodeState)
    → after ≡ transition.world → Describes (length w.sent) transition effect → actor ≡ actor_at w event → before ≡ actor_state w (actor_at w event)
    → noted event effect after actor before ≡ happened_in w event transition
happened_is w event after transition effect actor before to describes acts was =
    ap (λ (e : Effect). noted event e after actor before) (effect_is (length w.sent) transition effect describes)
    ∙ ap (λ (x : World). noted event (effect_after (length w.sent) transition) x actor before) to
    ∙ ap (λ (a : Option Party). noted event (effect_after (length w.sent) transition) transition.world a before) acts
    ∙ ap (λ (b : NodeState). noted event (effect_after (length w.sent) transition) transition.world (actor_at w event) b) was

pub returns-in_ok-packets-in-Ok-clause-charted : goal.returns-in_ok-packets-in-Ok-clause-charted
returns-in_ok-packets-in-Ok-clause-charted g c = λ play happened follows charted.
    let m = g.M.Machine in
    let old = c.args.self.now.cluster in
    let new = c.step.new.self in
    let event = c.args.event.now in
    let line = c.args.line in
    let d = drawn_run m.next m.answers m.begin m.image old c.args.scene.now in
    let done = c.in-Ok.ensures.step.world in
    let place : c.in-Ok.effect.first - 1 ≡ length old.world.sent = omega (arith, done.describes.first) in
    let prospect = c.in_ok-prospect.prospect in
    let is = c.in_ok-happened-in-Ok.ensures
    ∙ happened_is old.world event new.world done.transition c.in-Ok.effect prospect.actor prospect.before done.world done.describes c.in_ok-prospect.ensures.actor c.in_ok-prospect.ensures.before in
    let first : c.in-Ok.effect.first ≡ length old.world.sent + 1 = done.describes.first in
    let said : List ℕ = details_as d d.form event (length old.world.sent + 1) done.transition.world in
    let details_are = c.in_ok-details-in-Ok.ensures
    ∙ ap (λ (r : RunSetting _). details_as (record d { run = r }) d.form event c.in-Ok.effect.first new.world) (same_run_setting m.next m.answers m.begin m.image c.args.scene.now.options.now old new c.in-Ok.ensures.step.setup)
    ∙ ap (λ (n : ℕ). details_as d d.form event n new.world) first
    ∙ ap (λ (w : World). details_as d d.form event (length old.world.sent + 1) w) done.world in
    let label : LabelText = event_label d.run.names (line_text d.deck line) d.stage (happened_in old.world event done.transition) said in
    let labelled : label_text c.in_ok-label-in-Ok.label ≡ label =
    c.in_ok-label-in-Ok.ensures
    ∙ ap (λ (h : Happened). event_label d.run.names (line_text d.deck line) d.stage h c.in_ok-details-in-Ok.details.items) is
    ∙ ap (λ (l : List ℕ). event_label d.run.names (line_text d.deck line) d.stage (happened_in old.world event done.transition) l) details_are in
    let here : Happening = record { item = EventHappened event; label = label_text c.in_ok-label-in-Ok.label } in
    charted_as m.next m.answers m.begin new c.happen.new.self (happened ++ here ∷ []) (happened ++ event_happens d line play event ∷ []) c.happen.result
    (ap (λ (l : LabelText). happened ++ record { item = EventHappened event; label = l } ∷ []) labelled
    ∙ ap (λ (h : Happening). happened ++ h ∷ []) (sym (event_happened d line play event old.world c.args.self.now.settled follows done.transition done.resulted)))
    (charted_by m.next m.answers m.begin old new c.happen.new.self (happened ++ here ∷ []) c.happen.result c.in-Ok.ensures.step.setup
    (c.happen.ensures.happened d.run.setting happened old.world new.world event charted
    (record { transition = done.transition; effect = done.resulted; world = done.world })
    (c.deref.ensures.value ∙ c.in_ok-packets-in-Ok.ensures ∙ ap (λ (n : ℕ). drop n new.world.sent) place)
    c.in_ok-prospect.ensures.ending))

pub returns-in-Err-clause-reached : goal.returns-in-Err-clause-reached
returns-in-Err-clause-reached g c =
    let m = g.M.Machine in
    let old = c.args.self.now.cluster in
    let s = run_setting m.next m.answers m.begin m.image old c.args.scene.now.options.now in
    let numbered : 5 ≤ code_of c.in-Err.fault = (c.is_refusal.ensures.0 c.if-is_refusal.true).0 in
    λ play follows.
    rw (c.refuse.ensures.cluster, c.refuse.ensures.settled)
    (follows_of c.step.new.self.world c.args.self.now.settled (event_said s c.args.line play c.args.event.now) c.refuse.result
    (was_refused s c.args.line play c.args.event.now old.world c.args.self.now.settled follows c.step.new.self.world c.in-Err.fault None None c.refuse.result
    (refused_of s.setting old.world c.step.new.self.world c.args.event.now c.in-Err.fault c.in-Err.ensures.step.world numbered) (writes_none _ c.refuse.result)))

pub returns-in-Err-clause-charted : goal.returns-in-Err-clause-charted
returns-in-Err-clause-charted g c = λ play happened follows charted.
    let m = g.M.Machine in
    let old = c.args.self.now.cluster in
    let left = c.step.new.self in
    let chart = c.args.self.now.chart in
    let event = c.args.event.now in
    let line = c.args.line in
    let d = drawn_run m.next m.answers m.begin m.image old c.args.scene.now in
    let numbered : 5 ≤ code_of c.in-Err.fault = (c.is_refusal.ensures.0 c.if-is_refusal.true).0 in
    let said = refused_of d.run.setting old.world left.world event c.in-Err.fault c.in-Err.ensures.step.world numbered in
    let kept = charted_by m.next m.answers m.begin old left chart happened (Ok tt) c.in-Err.ensures.step.setup
    (subst (λ (w : World). IsSketchOf d.run.setting chart.stage chart.sketch happened w) (sym said.unchanged) charted) in
    charted_as m.next m.answers m.begin c.refuse.new.self.cluster c.refuse.new.self.chart (happened ++ refused d line c.in-Err.fault ∷ []) (happened ++ event_happens d line play event ∷ []) c.refuse.result
    (ap (λ (h : Happening). happened ++ h ∷ []) (sym (event_refused d line play event old.world c.args.self.now.settled follows c.in-Err.fault said.refusal)))
    (c.refuse.ensures.charted happened kept)

pub refuse-requires : goal.refuse-requires
refuse-requires g c =
    let m = g.M.Machine in
    let old = c.args.self.now.cluster in
    let s = run_setting m.next m.answers m.begin m.image old c.args.scene.now.options.now in
    let numbered : 5 ≤ code_of c.in-Err.fault = (c.is_refusal.ensures.0 c.if-is_refusal.true).0 in
    let refused = refused_of s.setting old.world c.step.new.self.world c.args.event.now c.in-Err.fault c.in-Err.ensures.step.world numbered in
    record {
      ways = record {
        drawable = c.requires.ways.drawable;
        count = c.requires.ways.count ∙ sym (ap (λ (w : World). length w.sent) refused.unchanged);
      };
    }
