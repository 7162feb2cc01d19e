-- Whether the states that a search found keep the rules of a deck.
use Rattle.std.specs.Prelude.{◌≡◌, ◌-◌, ℕ, Option, None, Bool, true, false, List}
use Rattle.std.specs.Prelude.{slice_index_or, MatchOption}
use Rattle.rp_script.specs.rp_base.specs.declared.action.Action.{Action}
use Rattle.rp_script.specs.rp_base.specs.declared.reply.Answer.{Answer}
use Rattle.rp_explore.specs.Explored.{Exploration}
use Rattle.rp_explore.specs.Broken.{IsFirstBroken, IsNeverBroken, state_at}
use Rattle.rp_explore_deck.specs.declared.rules.PlacedRule.{PlacedRule}
use Rattle.rp_explore_deck.specs.declared.rules.Rule.{Rule}
use Rattle.rp_explore_deck.specs.declared.rules.Rule.TheVariants.{Never}
use Rattle.rp_explore_deck.specs.declared.rules.Rule.TheVariants.{Always}
use Rattle.rp_explore_deck.specs.declared.rules.Rule.TheVariants.{Finally}
use Rattle.rp_explore_deck.specs.declared.rules.Rule.TheVariants.{Free}
use Rattle.rp_explore_run.specs.Rules.{AreNotAllTrueIn, AreTrueIn}
use Rattle.rp_explore_run.specs.declared.findings.Judged.{Judged}
use Rattle.rp_script.specs.rp_object.specs.State.{Running}

-- the state keeps the rule; that a task is free is not asked of a state alone
abbrev pub keeps : Rule → Running → Type 0
keeps (Never truths) running = AreNotAllTrueIn truths.items running
keeps (Always truths) running = AreTrueIn truths.items running
keeps (Finally truths) running = AreTrueIn truths.items running
keeps (Free task) running = Unit {0}

-- a tally has no functions, so no rule over functions can be read for it
abbrev pub no_truths : {S : Type 0} → Rule → S → Type 0
no_truths rule s = Unit {0}

-- the first order after which the task of the rule waits for ever, if it is such a rule
abbrev pub free_broken_by : Exploration → Rule → Option ℕ
free_broken_by e (Free task) = slice_index_or e.stuck (task - 1) None
free_broken_by e _ = None

module _ {S : Type 0} (next : S → Action → S) (answers : S → Action → List Answer) (begin : S)
    (kept : Rule → S → Type 0) (e : Exploration) where
  -- no order breaks the rule, or the order at the place is the first that does; one of the final
  -- orders, if these alone are asked
  abbrev pub IsJudgedOver : Rule → Bool → Option ℕ → Type 0
  IsJudgedOver rule is_final_only broken =
      let holds : ℕ → Type 0 = λ place. kept rule (state_at next answers begin e.orders place) in
      MatchOption broken (IsNeverBroken e is_final_only holds) (IsFirstBroken e is_final_only holds)

  -- the same of each kind of rule: that a task is free is broken where it waits for ever
  abbrev pub IsJudgedBy : Rule → Option ℕ → Type 0
  IsJudgedBy (Never truths) broken = IsJudgedOver (Never truths) false broken
  IsJudgedBy (Always truths) broken = IsJudgedOver (Always truths) false broken
  IsJudgedBy (Finally truths) broken = IsJudgedOver (Finally truths) true broken
  IsJudgedBy (Free task) broken = broken ≡ slice_index_or e.stuck (task - 1) None

  -- and its line
  pub record IsJudged (placed : PlacedRule) (judged : Judged) : Type 0 where
    pub line : judged.line ≡ placed.line
    pub by : IsJudgedBy placed.rule judged.broken
