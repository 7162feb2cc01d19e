-- Kind by kind.
use Rattle.std.proofs.Common.{◌≡◌, List, [], ◌∷◌, Bool, true, false, ◌&&◌, refl, arith, sym, subst}
use Rattle.std.specs.Prelude.{◌↔◌, IsTrue}
use Rattle.std.specs.List.{list_all}
use Rattle.rp_explore_deck.specs.RuleLines.{RuleText, Never, Always, Finally}
use Rattle.rp_explore_deck.specs.RuleViews.{rule_text}
use Rattle.rp_explore_deck.specs.declared.rules.Rule.{Rule}
use Rattle.rp_explore_deck.specs.declared.rules.Rule.TheVariants as rules
use Rattle.rp_explore_deck.specs.declared.rules.Truth.{Truth}
use Rattle.rp_script.specs.rp_object.specs.State.{Running}
use Rattle.rp_explore_run.specs.Judging.{keeps}
use Rattle.rp_explore_run.specs.Rules.{are_true, is_true_at}
use Rattle.rp_explore_run.proofs.laws.rules_mean_their_words.Goals as goal

-- both functions are true in the state
abbrev AreBoth : Running → Truth → Truth → Type 0
AreBoth running one two = IsTrue (is_true_at running one.object one.operation) × IsTrue (is_true_at running two.object two.operation)

are_not : {X : Type 0} → IsTrue false → X
are_not is = absurd (grind (arith, is))

both : (a b : Bool) → IsTrue (a && (b && true)) ↔ (IsTrue a × IsTrue b)
both true true = ((λ is. (is, is)), (λ are. are.0))
both true false = ((λ is. (are_not is, is)), (λ are. are.1))
both false b = ((λ is. (is, are_not is)), (λ are. are.0))

two_true : (running : Running) (truths : List Truth) (one two : Truth) → truths ≡ one ∷ two ∷ [] → IsTrue (are_true truths running) ↔ AreBoth running one two
two_true running truths one two same =
    subst (λ (l : List Truth). IsTrue (are_true l running) ↔ AreBoth running one two) (sym same)
    (both (is_true_at running one.object one.operation) (is_true_at running two.object two.operation))

pub returns-clause-never : goal.returns-clause-never
returns-clause-never c = at where
  at : (running : Running) (rule : Rule) (one two : Truth) → rule_text rule ≡ Never (one ∷ two ∷ []) → keeps rule running ↔ ¬ AreBoth running one two
  at running (rules.Never truths) one two same =
      let are = two_true running truths.items one two (grind (arith, same)) in
      ((λ no are_both. no (are.1 are_both)), (λ no all. no (are.0 all)))
  at running (rules.Always truths) one two same = absurd (grind (arith, same))
  at running (rules.Finally truths) one two same = absurd (grind (arith, same))
  at running (rules.Free task) one two same = absurd (grind (arith, same))

pub returns-clause-always : goal.returns-clause-always
returns-clause-always c = at where
  at : (running : Running) (rule : Rule) (one two : Truth) → rule_text rule ≡ Always (one ∷ two ∷ []) → keeps rule running ↔ AreBoth running one two
  at running (rules.Never truths) one two same = absurd (grind (arith, same))
  at running (rules.Always truths) one two same = two_true running truths.items one two (grind (arith, same))
  at running (rules.Finally truths) one two same = absurd (grind (arith, same))
  at running (rules.Free task) one two same = absurd (grind (arith, same))

pub returns-clause-finally : goal.returns-clause-finally
returns-clause-finally c = at where
  at : (running : Running) (rule : Rule) (one two : Truth) → rule_text rule ≡ Finally (one ∷ two ∷ []) → keeps rule running ↔ AreBoth running one two
  at running (rules.Never truths) one two same = absurd (grind (arith, same))
  at running (rules.Always truths) one two same = absurd (grind (arith, same))
  at running (rules.Finally truths) one two same = two_true running truths.items one two (grind (arith, same))
  at running (rules.Free task) one two same = absurd (grind (arith, same))
