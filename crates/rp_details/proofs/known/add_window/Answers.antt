-- One position more, or the end.
use Rattle.std.proofs.Common.{◌≡◌, ◌∙◌, ◌+◌, ◌++◌, List, ℕ, sym, ap, append_assoc}
use Rattle.rp_details.specs.Details.{bound_line}
use Rattle.rp_details.proofs.Texts.{positions_more, positions_so_far}
use Rattle.rp_details.proofs.known.add_window.Goals as goal

pub loop-index-preserved : goal.loop-index-preserved
loop-index-preserved g c =
    let records = c.args.server.now.records in
    let range = c.in-Some.window in
    let index = c.loop-index.index in
    let text = c.args.text.now.items in
    c.in_ok-add_position.ensures
    ∙ ap (λ (i : ℕ). c.loop-index.text.items ++ bound_line records i) c.at.ensures
    ∙ ap (λ (l : List ℕ). l ++ bound_line records (range.first + index)) c.loop-index.invariant
    ∙ append_assoc text (positions_so_far records range index) (bound_line records (range.first + index))
    ∙ ap (λ (l : List ℕ). text ++ l) (sym (positions_more records range index))
