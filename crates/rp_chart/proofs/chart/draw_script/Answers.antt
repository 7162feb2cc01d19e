-- The deck is the one that was read, and its chart is written.
use Rattle.std.proofs.Common.{◌≡◌, ◌∙◌, ◌≤◌, List, ℕ, Result, Ok, Err, Some, None, Option, inl, inr, map, option_map, rules, string_bytes, refl, sym, ap, subst, length}
use Rattle.std.specs.Io.KnownBytes.{Appends}
use Rattle.std.specs.Prelude.{IfErr, IfSome, IsErrAnd}
use Rattle.rp_script.specs.rp_base.specs.declared.fault.Fault.{Fault}
use Rattle.rp_script.specs.rp_base.specs.declared.fault.Fault.TheVariants.{OutOfMemory}
use Rattle.rp_script.specs.rp_deck.specs.Deck.{IsRightDeck}
use Rattle.rp_script.specs.rp_deck.specs.DeckViews.{deck_text}
use Rattle.rp_script.specs.rp_deck.specs.Meaning.{meaning_of}
use Rattle.rp_script.specs.rp_deck.specs.declared.deck.Deck.{Deck}
use Rattle.rp_script.specs.rp_deck.specs.declared.deck.Mode.TheVariants.{Script}
use Rattle.rp_script.specs.rp_output.specs.Stream.{Begins}
use Rattle.rp_script.specs.rp_output.proofs.Writing.{appends_kept, begins_all}
use Rattle.rp_script.proofs.Failing.{on_err}
use Rattle.rp_script.specs.Given.{FailsRun, most_bytes}
use Rattle.rp_history.specs.declared.view.ChartRequest.{ChartRequest}
use Rattle.rp_chart.specs.Charts.{ChartsBytes, IsChartIfShort, deck_lines}
use Rattle.rp_chart.proofs.chart.draw_script.Goals as goal

-- the bytes that were read mean the deck, the lines are theirs, and the page is what was found
charts : (request : ChartRequest) (given : Option (List ℕ)) (deck : Deck) (bytes read shown : List ℕ) (lines named : List (List ℕ)) (page found : Option (List ℕ))
    → IfSome given (λ whole. bytes ≡ whole) → length bytes ≤ most_bytes → IsRightDeck deck → meaning_of Script read ≡ Ok (deck_text deck) → read ≡ bytes
    → lines ≡ deck_lines shown → shown ≡ bytes → named ≡ lines → found ≡ page → IsChartIfShort deck named request found → ChartsBytes request given page
charts request given deck bytes read shown lines named page found all short right meaning same lines_are shown_is named_is found_is chart = record {
  deck = deck;
  means = record { right = right; meant = record { bytes = bytes; all = all; short = short; meaning_is = subst (λ (b : List ℕ). meaning_of Script b ≡ Ok (deck_text deck)) same meaning } };
  chart = subst (λ (p : Option (List ℕ)). IsChartIfShort deck (deck_lines bytes) request p) found_is
      (subst (λ (l : List (List ℕ)). IsChartIfShort deck l request found) (named_is ∙ lines_are ∙ ap deck_lines shown_is) chart);
}

faulted : {A : Type 0} (Q : Fault → Type 0) (fault : Fault) (answer : Result A Fault) → IsErrAnd answer (λ e. e ≡ fault) → Q fault → IfErr answer Q
faulted {A = A} Q fault (Ok done) is q = tt
faulted {A = A} Q fault (Err other) is q = subst Q (sym is) q

pub returns-in_err-lines-clause-fault : goal.returns-in_err-lines-clause-fault
returns-in_err-lines-clause-fault g c =
    let given = g.R.Read.remaining c.args.reader.now in
    let output = g.W.Write.contents c.args.writer.now in
    faulted (FailsRun Script given output output) OutOfMemory c.from_residual-in_err-lines.result c.from_residual-in_err-lines.ensures.1
    (record { meant = tt; unwritten = λ bad. refl; known = search rules })

pub returns-in_default-drawing-clause-drawing : goal.returns-in_default-drawing-clause-drawing
returns-in_default-drawing-clause-drawing g c =
    let given = g.R.Read.remaining c.args.reader.now in
    let old = g.W.Write.contents c.args.writer.now in
    let bytes = c.in_ok-text.text.items in
    let deck = c.in_ok-deck.deck in
    let all : IfSome given (λ whole. bytes ≡ whole) = c.in_ok-text.ensures.whole in
    let meaning : meaning_of Script c.deref.result.now ≡ Ok (deck_text deck) = c.in_ok-deck.ensures.meaning in
    let lines = map (λ line. line.now) c.in_ok-lines.lines.items in
    let named = map (λ line. line.now) c.deref-3.result.now in
    let named_is : named ≡ lines = ap (map (λ line. line.now)) c.deref-3.ensures.value in
    let chart : ChartsBytes c.args.request given (None) =
    charts c.args.request given deck bytes c.deref.result.now c.deref-2.result.now lines named (None) (option_map string_bytes c.in-Ok.drawing) all c.in_ok-text.ensures.size
    c.in_ok-deck.ensures.deck meaning c.deref.ensures.value c.in_ok-lines.ensures c.deref-2.ensures.value named_is (ap (option_map string_bytes) c.in_default-drawing.is) c.in-Ok.ensures in
    (refl, chart)

pub returns-in_err-write_whole-clause-begun : goal.returns-in_err-write_whole-clause-begun
returns-in_err-write_whole-clause-begun g c =
    let given = g.R.Read.remaining c.args.reader.now in
    let old = g.W.Write.contents c.args.writer.now in
    let bytes = c.in_ok-text.text.items in
    let deck = c.in_ok-deck.deck in
    let all : IfSome given (λ whole. bytes ≡ whole) = c.in_ok-text.ensures.whole in
    let meaning : meaning_of Script c.deref.result.now ≡ Ok (deck_text deck) = c.in_ok-deck.ensures.meaning in
    let lines = map (λ line. line.now) c.in_ok-lines.lines.items in
    let named = map (λ line. line.now) c.deref-3.result.now in
    let named_is : named ≡ lines = ap (map (λ line. line.now)) c.deref-3.ensures.value in
    let chart : ChartsBytes c.args.request given (Some (string_bytes c.in-Some.drawing)) =
    charts c.args.request given deck bytes c.deref.result.now c.deref-2.result.now lines named (Some (string_bytes c.in-Some.drawing)) (option_map string_bytes c.in-Ok.drawing) all c.in_ok-text.ensures.size
    c.in_ok-deck.ensures.deck meaning c.deref.ensures.value c.in_ok-lines.ensures c.deref-2.ensures.value named_is (ap (option_map string_bytes) c.in-Some.is) c.in-Ok.ensures in
    let text = string_bytes c.in-Some.drawing in
    let same : c.as_bytes.result.now ≡ text = c.as_bytes.ensures.value in
    let new = g.W.Write.contents c.write_whole.new.writer in
    on_err c.from_residual-in_err-write_whole.result _ (inr (text, chart, subst (λ (b : List ℕ). Begins old new b) same c.in_err-write_whole.ensures.written))

pub returns-in_err-write_out-clause-begun : goal.returns-in_err-write_out-clause-begun
returns-in_err-write_out-clause-begun g c =
    let given = g.R.Read.remaining c.args.reader.now in
    let old = g.W.Write.contents c.args.writer.now in
    let bytes = c.in_ok-text.text.items in
    let deck = c.in_ok-deck.deck in
    let all : IfSome given (λ whole. bytes ≡ whole) = c.in_ok-text.ensures.whole in
    let meaning : meaning_of Script c.deref.result.now ≡ Ok (deck_text deck) = c.in_ok-deck.ensures.meaning in
    let lines = map (λ line. line.now) c.in_ok-lines.lines.items in
    let named = map (λ line. line.now) c.deref-3.result.now in
    let named_is : named ≡ lines = ap (map (λ line. line.now)) c.deref-3.ensures.value in
    let chart : ChartsBytes c.args.request given (Some (string_bytes c.in-Some.drawing)) =
    charts c.args.request given deck bytes c.deref.result.now c.deref-2.result.now lines named (Some (string_bytes c.in-Some.drawing)) (option_map string_bytes c.in-Ok.drawing) all c.in_ok-text.ensures.size
    c.in_ok-deck.ensures.deck meaning c.deref.ensures.value c.in_ok-lines.ensures c.deref-2.ensures.value named_is (ap (option_map string_bytes) c.in-Some.is) c.in-Ok.ensures in
    let text = string_bytes c.in-Some.drawing in
    let same : c.as_bytes.result.now ≡ text = c.as_bytes.ensures.value in
    let written = g.W.Write.contents c.write_whole.new.writer in
    let new = g.W.Write.contents c.write_out.new.writer in
    let wrote = subst (λ (b : List ℕ). Appends old written b) same c.in_ok-write_whole.ensures.written in
    on_err c.from_residual-in_err-write_out.result _ (inr (text, chart, begins_all old new text (appends_kept old written new text wrote c.in_err-write_out.ensures.kept)))

pub returns-clause-drawing : goal.returns-clause-drawing
returns-clause-drawing g c =
    let given = g.R.Read.remaining c.args.reader.now in
    let old = g.W.Write.contents c.args.writer.now in
    let bytes = c.in_ok-text.text.items in
    let deck = c.in_ok-deck.deck in
    let all : IfSome given (λ whole. bytes ≡ whole) = c.in_ok-text.ensures.whole in
    let meaning : meaning_of Script c.deref.result.now ≡ Ok (deck_text deck) = c.in_ok-deck.ensures.meaning in
    let lines = map (λ line. line.now) c.in_ok-lines.lines.items in
    let named = map (λ line. line.now) c.deref-3.result.now in
    let named_is : named ≡ lines = ap (map (λ line. line.now)) c.deref-3.ensures.value in
    let chart : ChartsBytes c.args.request given (Some (string_bytes c.in-Some.drawing)) =
    charts c.args.request given deck bytes c.deref.result.now c.deref-2.result.now lines named (Some (string_bytes c.in-Some.drawing)) (option_map string_bytes c.in-Ok.drawing) all c.in_ok-text.ensures.size
    c.in_ok-deck.ensures.deck meaning c.deref.ensures.value c.in_ok-lines.ensures c.deref-2.ensures.value named_is (ap (option_map string_bytes) c.in-Some.is) c.in-Ok.ensures in
    let text = string_bytes c.in-Some.drawing in
    let same : c.as_bytes.result.now ≡ text = c.as_bytes.ensures.value in
    let written = g.W.Write.contents c.write_whole.new.writer in
    let new = g.W.Write.contents c.write_out.new.writer in
    let wrote = subst (λ (b : List ℕ). Appends old written b) same c.in_ok-write_whole.ensures.written in
    (text, appends_kept old written new text wrote c.in_ok-write_out.ensures.kept, chart)
