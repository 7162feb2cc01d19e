use Rattle.std.proofs.Common.{◌≡◌, ◌++◌, List, ℕ, take, drop, rules, refl, ap, ◌∙◌}
use Rattle.rp_base.specs.declared.action.Action.{Action}
use Rattle.rp_codec.specs.Tails.{decision_text}
use Rattle.rp_codec.specs.Text.{number_text, vote_text}
use Rattle.rp_codec.proofs.tails.decision_of.Goals as goal

-- a vote without its ballot
abbrev without_ballot : List ℕ → List ℕ
without_ballot tail = take 2 tail ++ drop 10 tail

decides : (position ballot : ℕ) (action : Action) → without_ballot (vote_text position ballot action) ≡ decision_text position action
unfolding number_text
decides position ballot action = refl

pub returns-clause-vote : goal.returns-clause-vote
returns-clause-vote c = λ position ballot action is.
    let bytes : c.joined.result ≡ without_ballot c.args.tail.now = search rules in
    bytes ∙ ap without_ballot is ∙ decides position ballot action
