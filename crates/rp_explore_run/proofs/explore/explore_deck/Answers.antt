-- The deck is the one that was read, and what is printed of it is written.
use Rattle.std.proofs.Common.{◌≡◌, ◌∙◌, ◌≤◌, List, ℕ, Bor, Ok, Option, inr, map, refl, ap, subst, length}
use Rattle.std.specs.Io.KnownBytes.{Appends}
use Rattle.std.specs.Prelude.{IfSome}
use Rattle.rp_script.specs.rp_base.specs.declared.fault.Fault.TheVariants.{OutOfMemory}
use Rattle.rp_script.specs.rp_deck.specs.Deck.{IsRightDeck}
use Rattle.rp_explore_deck.specs.Plans.{plan_of, plan_text}
use Rattle.rp_explore_deck.specs.declared.plan.Plan.{Plan}
use Rattle.rp_explore_run.specs.Explores.{ExploresAs, FailsExplore, IsExplored}
use Rattle.rp_explore_deck.specs.declared.request.ExploreRequest.{ExploreRequest}
use Rattle.rp_explore_run.specs.declared.answer.Printed.{Printed}
use Rattle.rp_explore_run.specs.Wanted.{text_lines}
use Rattle.rp_script.specs.rp_output.specs.Stream.{Begins}
use Rattle.rp_script.specs.rp_output.proofs.Writing.{appends_kept, begins_all}
use Rattle.rp_script.proofs.Failing.{on_err}
use Rattle.rp_script.specs.Given.{most_bytes}
use Rattle.rp_explore_run.proofs.Failing.{ends_run, fails_run, faulted}
use Rattle.rp_explore_run.proofs.explore.explore_deck.Goals as goal

explores : (request : ExploreRequest) (given : Option (List ℕ)) (plan : Plan) (bytes read shown : List ℕ) (lines named : List (List ℕ)) (printed : Printed)
    → IfSome given (λ whole. bytes ≡ whole) → length bytes ≤ most_bytes → IsRightDeck plan.deck → plan_of read ≡ Ok (plan_text plan) → read ≡ bytes
    → lines ≡ text_lines shown → shown ≡ bytes → named ≡ lines → IsExplored plan named request printed → ExploresAs request given printed.verdict printed.text.items
explores request given plan bytes read shown lines named printed all short right meaning same lines_are shown_is named_is explored = record {
  bytes = bytes;
  are_given = record { all = all; short = short };
  plan = plan;
  right = right;
  meaning = subst (λ (b : List ℕ). plan_of b ≡ Ok (plan_text plan)) same meaning;
  printed = printed;
  is_explored = subst (λ (l : List (List ℕ)). IsExplored plan l request printed) (named_is ∙ lines_are ∙ ap text_lines shown_is) explored;
  verdict_is = refl;
  text_is = refl;
}

pub returns-in_err-lines-clause-fault : goal.returns-in_err-lines-clause-fault
returns-in_err-lines-clause-fault g c =
    let given = g.R.Read.remaining c.args.reader.now in
    let output = g.W.Write.contents c.args.writer.now in
    faulted (FailsExplore given output output) OutOfMemory c.from_residual-in_err-lines.result c.from_residual-in_err-lines.ensures.1 (fails_run given output output OutOfMemory tt)

pub returns-in_err-printed-clause-fault : goal.returns-in_err-printed-clause-fault
returns-in_err-printed-clause-fault g c =
    let given = g.R.Read.remaining c.args.reader.now in
    let output = g.W.Write.contents c.args.writer.now in
    let fault = c.in_err-printed.field-0.0 in
    faulted (FailsExplore given output output) fault c.from_residual-in_err-printed.result c.from_residual-in_err-printed.ensures.1 (fails_run given output output fault c.in_err-printed.ensures.fault)

pub returns-in_err-write_whole-clause-fault : goal.returns-in_err-write_whole-clause-fault
returns-in_err-write_whole-clause-fault g c =
    let given = g.R.Read.remaining c.args.reader.now in
    let old = g.W.Write.contents c.args.writer.now in
    let new = g.W.Write.contents c.write_whole.new.writer in
    let fault = c.in_err-write_whole.field-0.0 in
    faulted (FailsExplore given old new) fault c.from_residual-in_err-write_whole.result c.from_residual-in_err-write_whole.ensures.1
    (fails_run given old new fault (ends_run fault c.in_err-write_whole.ensures.fault))

pub returns-in_err-write_out-clause-fault : goal.returns-in_err-write_out-clause-fault
returns-in_err-write_out-clause-fault g c =
    let given = g.R.Read.remaining c.args.reader.now in
    let old = g.W.Write.contents c.args.writer.now in
    let new = g.W.Write.contents c.write_out.new.writer in
    let fault = c.in_err-write_out.field-0.0 in
    faulted (FailsExplore given old new) fault c.from_residual-in_err-write_out.result c.from_residual-in_err-write_out.ensures.1 (fails_run given old new fault c.in_err-write_out.ensures.fault)

pub returns-in_err-write_whole-clause-begun : goal.returns-in_err-write_whole-clause-begun
returns-in_err-write_whole-clause-begun g c =
    let given = g.R.Read.remaining c.args.reader.now in
    let old = g.W.Write.contents c.args.writer.now in
    let new = g.W.Write.contents c.write_whole.new.writer in
    let printed = c.in_ok-printed.printed in
    let shown : ExploresAs c.args.request given printed.verdict printed.text.items =
    explores c.args.request given c.in_ok-plan.plan c.in_ok-text.text.items c.deref.result.now c.deref-2.result.now (map (λ (line : Bor (List ℕ)). line.now) c.in_ok-lines.lines.items) (map (λ (line : Bor (List ℕ)). line.now) c.deref-3.result.now) printed c.in_ok-text.ensures.whole c.in_ok-text.ensures.size
    c.in_ok-plan.ensures.deck c.in_ok-plan.ensures.meaning c.deref.ensures.value c.in_ok-lines.ensures c.deref-2.ensures.value (ap (map (λ (line : Bor (List ℕ)). line.now)) c.deref-3.ensures.value) c.in_ok-printed.ensures.printed in
    on_err c.from_residual-in_err-write_whole.result _
    (inr (printed.text.items, printed.verdict, shown, subst (λ (b : List ℕ). Begins old new b) c.deref-4.ensures.value c.in_err-write_whole.ensures.written))

pub returns-in_err-write_out-clause-begun : goal.returns-in_err-write_out-clause-begun
returns-in_err-write_out-clause-begun g c =
    let given = g.R.Read.remaining c.args.reader.now in
    let old = g.W.Write.contents c.args.writer.now in
    let written = g.W.Write.contents c.write_whole.new.writer in
    let new = g.W.Write.contents c.write_out.new.writer in
    let printed = c.in_ok-printed.printed in
    let text = printed.text.items in
    let shown : ExploresAs c.args.request given printed.verdict text =
    explores c.args.request given c.in_ok-plan.plan c.in_ok-text.text.items c.deref.result.now c.deref-2.result.now (map (λ (line : Bor (List ℕ)). line.now) c.in_ok-lines.lines.items) (map (λ (line : Bor (List ℕ)). line.now) c.deref-3.result.now) printed c.in_ok-text.ensures.whole c.in_ok-text.ensures.size
    c.in_ok-plan.ensures.deck c.in_ok-plan.ensures.meaning c.deref.ensures.value c.in_ok-lines.ensures c.deref-2.ensures.value (ap (map (λ (line : Bor (List ℕ)). line.now)) c.deref-3.ensures.value) c.in_ok-printed.ensures.printed in
    let wrote = subst (λ (b : List ℕ). Appends old written b) c.deref-4.ensures.value c.in_ok-write_whole.ensures.written in
    on_err c.from_residual-in_err-write_out.result _ (inr (text, printed.verdict, shown, begins_all old new text (appends_kept old written new text wrote c.in_err-write_out.ensures.kept)))

pub returns-clause-printed : goal.returns-clause-printed
returns-clause-printed g c =
    let given = g.R.Read.remaining c.args.reader.now in
    let old = g.W.Write.contents c.args.writer.now in
    let written = g.W.Write.contents c.write_whole.new.writer in
    let new = g.W.Write.contents c.write_out.new.writer in
    let printed = c.in_ok-printed.printed in
    let text = printed.text.items in
    let shown : ExploresAs c.args.request given printed.verdict text =
    explores c.args.request given c.in_ok-plan.plan c.in_ok-text.text.items c.deref.result.now c.deref-2.result.now (map (λ (line : Bor (List ℕ)). line.now) c.in_ok-lines.lines.items) (map (λ (line : Bor (List ℕ)). line.now) c.deref-3.result.now) printed c.in_ok-text.ensures.whole c.in_ok-text.ensures.size
    c.in_ok-plan.ensures.deck c.in_ok-plan.ensures.meaning c.deref.ensures.value c.in_ok-lines.ensures c.deref-2.ensures.value (ap (map (λ (line : Bor (List ℕ)). line.now)) c.deref-3.ensures.value) c.in_ok-printed.ensures.printed in
    let wrote = subst (λ (b : List ℕ). Appends old written b) c.deref-4.ensures.value c.in_ok-write_whole.ensures.written in
    (text, appends_kept old written new text wrote c.in_ok-write_out.ensures.kept, shown)
