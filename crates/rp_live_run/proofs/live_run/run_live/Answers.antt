-- The deck is the one that was read, and its result is what was printed.
use Rattle.std.proofs.Common.{◌≡◌, ℕ, Result, Ok, Err, Option, List, inr, refl, sym, subst}
use Rattle.std.specs.Prelude.{IfErr, IsErrAnd}
use Rattle.rp_deck.specs.rp_base.specs.declared.fault.Fault.{Fault}
use Rattle.rp_deck.specs.Live.{IsDeckFor}
use Rattle.rp_deck.specs.declared.deck.Deck.{Deck}
use Rattle.rp_deck.specs.declared.deck.Mode.TheVariants.{Live}
use Rattle.rp_live.specs.declared.run.LiveOutcome.{LiveOutcome}
use Rattle.rp_script.specs.Given.{FailsRun, MeansDeck}
use Rattle.rp_live_run.specs.LiveOutput.{outcome_text}
use Rattle.rp_live_run.specs.LiveRun.{IsLiveText, IsOutcome}
use Rattle.rp_run.specs.Output.{names_of}
use Rattle.rp_script.proofs.Failing.{meant_run}
use Rattle.rp_live_run.proofs.live_run.run_live.Goals as goal

live_text : (seed turns : ℕ) (given : Option (List ℕ)) (deck : Deck) (outcome : LiveOutcome) → MeansDeck Live given deck → IsDeckFor Live deck → IsOutcome deck seed turns outcome
    → IsLiveText seed turns given (outcome_text (names_of deck.tasks) outcome) outcome.figures
live_text seed turns given deck outcome means taken resulted =
    record { deck = deck; means = means; taken = taken; outcome = outcome; resulted = resulted; text_is = refl; figures_are = refl }

pub returns-in-Ok-clause-output : goal.returns-in-Ok-clause-output
returns-in-Ok-clause-output g c =
    let deck = c.in_ok-deck.deck in
    let outcome = c.in_ok-outcome.outcome in
    let text = live_text c.args.request.seed c.args.request.turns (g.R.Read.remaining c.args.reader.now) deck outcome c.in_ok-deck.ensures.deck c.in_ok-deck.ensures.taken c.in_ok-outcome.ensures.outcome in
    (outcome_text (names_of deck.tasks) outcome, text, c.in-Ok.ensures.printed)

pub returns-clause-begun : goal.returns-clause-begun
returns-clause-begun g c =
    let deck = c.in_ok-deck.deck in
    let outcome = c.in_ok-outcome.outcome in
    let text = live_text c.args.request.seed c.args.request.turns (g.R.Read.remaining c.args.reader.now) deck outcome c.in_ok-deck.ensures.deck c.in_ok-deck.ensures.taken c.in_ok-outcome.ensures.outcome in
    inr (outcome_text (names_of deck.tasks) outcome, outcome.figures, text, c.in-Err.ensures.printed)

-- what is so of a fault is so of an answer that fails by it
faulted : {A : Type 0} (Q : Fault → Type 0) (fault : Fault) (answer : Result A Fault) → IsErrAnd answer (λ e. e ≡ fault) → Q fault → IfErr answer Q
faulted {A = A} Q fault (Ok done) is q = tt
faulted {A = A} Q fault (Err other) is q = subst Q (sym is) q

pub returns-in_err-outcome-clause-fault : goal.returns-in_err-outcome-clause-fault
returns-in_err-outcome-clause-fault g c =
    let given = g.R.Read.remaining c.args.reader.now in
    let output = g.W.Write.contents c.args.writer.now in
    faulted (FailsRun Live given output output) _ c.from_residual-in_err-outcome.result c.from_residual-in_err-outcome.ensures.1
    (record { meant = meant_run Live given _ c.in_err-outcome.ensures.fault; unwritten = λ bad. refl; known = inr c.in_err-outcome.ensures.fault })
