-- The event is the last moment.
use Rattle.std.proofs.Common.{◌∙◌, Bool, Option, List, map, length, length-append, arith, sym, ap, subst}
use Rattle.rp_model.specs.rp_codec.specs.Message.{Message}
use Rattle.rp_drawing.specs.Ways.{IsEndingWithin}
use Rattle.rp_drawing.specs.declared.sketch.Ending.{Ending}
use Rattle.rp_drawing.specs.declared.sketch.Moment.{Moment}
use Rattle.rp_model.specs.Events.{event_of}
use Rattle.rp_model.specs.World.{World}
use Rattle.rp_history.specs.Histories.{EventHappened, ending_within, is_next_within, label_text, label_within, text_within}
use Rattle.rp_history.specs.Views.{sending_of}
use Rattle.rp_history.proofs.HistoryLemmas.{counted_now, drawable_now, drawn_was_sent, moment_now, sketch_more}
use Rattle.rp_history.proofs.chart.Chart.happen.Goals as goal

pub add-requires-clause-ending : goal.add-requires-clause-ending
add-requires-clause-ending g c =
    subst (λ (e : Option Ending). IsEndingWithin c.messages.result e) (sym c.ending_within.ensures)
    (drawn_was_sent c.is_next_within-is_within.result c.messages.result c.args.ending
    (subst (λ (n : _). IsEndingWithin n c.args.ending) (sym c.messages.ensures) c.requires.ending))

pub returns-clause-happened : goal.returns-clause-happened
returns-clause-happened g c = λ s happened before after event so_far results packets ending.
    let stage = c.args.self.now.stage in
    let old = c.args.self.now.sketch in
    let label = c.args.label in
    let moment : Moment = record { before = c.messages.result; sends = c.in_ok-sends_of.field-0; ending = c.ending_within.result } in
    let grows = c.worlds_grow.ensures s before (event_of event) results.transition results.effect in
    let sent = ap (λ (w : World). w.sent) results.world ∙ grows.sent in
    let longer = length-append before.sent results.transition.sends in
    let more = ap length sent in
    sketch_more s stage old c.add.new.self moment c.label_within.result before after c.add.result happened
    (record { item = EventHappened event; label = label_text label }) c.add.ensures.added c.add.ensures.count
    (record {
      before = c.messages.ensures ∙ so_far.count;
      sends = c.in_ok-sends_of.ensures ∙ ap (λ (b : Bool). map (sending_of stage b) c.args.packets.now) c.is_next_within-is_within.ensures
          ∙ ap (λ (l : List Message). map (sending_of stage (is_next_within stage old)) l) packets;
      happens = results;
      ending = c.ending_within.ensures ∙ ap (λ (b : Bool). ending_within b c.args.ending) c.is_next_within-is_within.ensures
          ∙ ap (λ (e : Option Ending). ending_within (is_next_within stage old) e) ending;
      label = ap label_text c.label_within.ensures ∙ ap (λ (b : Bool). text_within b (label_text label)) c.is_next_within-is_within.ensures;
    })
    (omega (arith, more, longer)) so_far (drawable_now c.add.result c.add.new.self c.add.ensures.ways c.add.ensures.down c.add.ensures.few)

pub returns-clause-moment : goal.returns-clause-moment
returns-clause-moment g c =
    let stage = c.args.self.now.stage in
    let old = c.args.self.now.sketch in
    let moment : Moment = record { before = c.messages.result; sends = c.in_ok-sends_of.field-0; ending = c.ending_within.result } in
    moment_now c.add.result stage old c.add.new.self moment c.args.packets.now c.args.ending c.args.label c.label_within.result
    c.messages.ensures
    (c.in_ok-sends_of.ensures ∙ ap (λ (b : Bool). map (sending_of stage b) c.args.packets.now) c.is_next_within-is_within.ensures)
    (c.ending_within.ensures ∙ ap (λ (b : Bool). ending_within b c.args.ending) c.is_next_within-is_within.ensures)
    (c.label_within.ensures ∙ ap (λ (b : Bool). label_within b c.args.label) c.is_next_within-is_within.ensures)
    c.add.ensures.added

pub returns-clause-count : goal.returns-clause-count
returns-clause-count g c =
    let moment : Moment = record { before = c.messages.result; sends = c.in_ok-sends_of.field-0; ending = c.ending_within.result } in
    counted_now c.add.result c.args.self.now.stage c.is_next_within-is_within.result c.args.self.now.sketch c.add.new.self moment c.args.packets.now
    c.messages.ensures c.in_ok-sends_of.ensures c.add.ensures.count
