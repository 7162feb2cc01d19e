mod ActionLemmas
mod GuardLemmas
mod PlainLemmas
mod PlanLemmas
mod RuleLemmas
mod ShortLemmas
