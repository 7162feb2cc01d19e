-- Rules, as the text of a deck says them.
use Rattle.rp_explore_deck.specs.RuleLines.{RuleText, Never, Always, Finally, Free, PlacedRuleText}
use Rattle.rp_explore_deck.specs.declared.rules.PlacedRule.{PlacedRule}
use Rattle.rp_explore_deck.specs.declared.rules.Rule.{Rule}
use Rattle.rp_explore_deck.specs.declared.rules.Rule.TheVariants as rules

abbrev pub rule_text : Rule → RuleText
rule_text (rules.Never truths) = Never truths.items
rule_text (rules.Always truths) = Always truths.items
rule_text (rules.Finally truths) = Finally truths.items
rule_text (rules.Free task) = Free task

abbrev pub placed_rule_text : PlacedRule → PlacedRuleText
placed_rule_text placed = record { line = placed.line; rule = rule_text placed.rule }
