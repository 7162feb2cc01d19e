-- The world stays.
use Rattle.std.proofs.Common.{◌∙◌, Bool, Option, List, [], map, length, arith, sym, ap, subst}
use Rattle.std.proofs.lemmas.List.{drop_all}
use Rattle.rp_model.specs.rp_codec.specs.Message.{Message}
use Rattle.rp_drawing.specs.Ways.{IsEndingWithin}
use Rattle.rp_drawing.specs.declared.sketch.Ending.{Ending}
use Rattle.rp_drawing.specs.declared.sketch.Moment.{Moment}
use Rattle.rp_history.specs.Histories.{ending_within, is_next_within, label_text, label_within, loss_of, lost_of, text_within}
use Rattle.rp_history.specs.Views.{sending_of}
use Rattle.rp_history.proofs.HistoryLemmas.{drawable_now, drawn_was_sent, loss_ending, moment_now, sketch_more, stays_by}
use Rattle.rp_history.proofs.chart.Chart.stay.Goals as goal

pub add-requires-clause-ending : goal.add-requires-clause-ending
add-requires-clause-ending g c =
    subst (λ (e : Option Ending). IsEndingWithin c.messages.result e) (sym (c.ending_within.ensures ∙ ap (ending_within c.is_next_within-is_within.result) c.lost_of.ensures))
    (drawn_was_sent c.is_next_within-is_within.result c.messages.result (lost_of c.args.lost)
    (subst (λ (n : _). IsEndingWithin n (lost_of c.args.lost)) (sym c.messages.ensures) c.requires.lost))

pub returns-clause-stays : goal.returns-clause-stays
returns-clause-stays g c = λ s happened world so_far.
    let stage = c.args.self.now.stage in
    let old = c.args.self.now.sketch in
    let label = c.args.label in
    let moment : Moment = record { before = c.messages.result; sends = c.new.result; ending = c.ending_within.result } in
    sketch_more s stage old c.add.new.self moment c.label_within.result world world c.add.result happened
    (record { item = loss_of c.args.lost; label = label_text label }) c.add.ensures.added c.add.ensures.count
    (record {
      before = c.messages.ensures ∙ so_far.count;
      sends = c.new.ensures.items
          ∙ sym (ap (λ (l : List Message). map (sending_of stage (is_next_within stage old)) l) (drop_all (length world.sent) world.sent (omega arith)));
      happens = stays_by s stage world c.args.lost;
      ending = c.ending_within.ensures ∙ ap (λ (b : Bool). ending_within b c.lost_of.result) c.is_next_within-is_within.ensures
          ∙ ap (λ (e : Option Ending). ending_within (is_next_within stage old) e) (c.lost_of.ensures ∙ loss_ending world c.args.lost);
      label = ap label_text c.label_within.ensures ∙ ap (λ (b : Bool). text_within b (label_text label)) c.is_next_within-is_within.ensures;
    })
    (omega arith) so_far (drawable_now c.add.result c.add.new.self c.add.ensures.ways c.add.ensures.down c.add.ensures.few)

pub returns-clause-moment : goal.returns-clause-moment
returns-clause-moment g c =
    let stage = c.args.self.now.stage in
    let old = c.args.self.now.sketch in
    let moment : Moment = record { before = c.messages.result; sends = c.new.result; ending = c.ending_within.result } in
    moment_now c.add.result stage old c.add.new.self moment [] (lost_of c.args.lost) c.args.label c.label_within.result
    c.messages.ensures c.new.ensures.items
    (c.ending_within.ensures ∙ ap (λ (b : Bool). ending_within b c.lost_of.result) c.is_next_within-is_within.ensures
    ∙ ap (λ (e : Option Ending). ending_within (is_next_within stage old) e) c.lost_of.ensures)
    (c.label_within.ensures ∙ ap (λ (b : Bool). label_within b c.args.label) c.is_next_within-is_within.ensures)
    c.add.ensures.added
