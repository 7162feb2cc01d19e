-- The report is printed.
use Rattle.std.proofs.Common.{◌∙◌, Global, ℕ, Bool, Vec, ap}
use Rattle.rp_explore_run.specs.Answers.{verdict_of}
use Rattle.rp_explore_run.proofs.answer.report_answer.Goals as goal

pub returns : goal.returns
returns c = record {
  report = c.in_ok-report.report;
  is_report = c.in_ok-report.ensures;
  text = ap (λ (v : Vec ℕ Global). v.items) c.into_bytes.ensures.value ∙ c.in_ok-text.ensures;
  verdict = c.verdict_of.ensures ∙ ap (λ (b : Bool). verdict_of b c.args.judged.now) c.is_whole.ensures;
}
