use Rattle.std.proofs.Common.{◌≡◌, ℕ, List, Option, Some, None, IfOk, sym, subst}
use Rattle.std.specs.Option.{ok_or}
use Rattle.rp_words.specs.indexmap.specs.IndexMap.{values}
use Rattle.rp_words.specs.rp_base.specs.declared.fault.DeckReason.{DeckReason}
use Rattle.rp_words.specs.rp_base.specs.declared.fault.DeckReason.TheVariants.{UnknownName}
use Rattle.rp_deck_bodies.specs.declared.names.Component.{Component}
use Rattle.rp_deck_bodies.specs.Counted.{IsCounted, WhereCounted}
use Rattle.rp_words.specs.Tables.{key_names, find}
use Rattle.rp_deck_bodies.proofs.CountedLemmas.{found_holds}
use Rattle.rp_deck_bodies.proofs.expressions.component_named.Goals as goal

counted_or : (name : List ℕ) (names : List (List ℕ)) (declared : List Component) (found : Option Component) (reason : DeckReason) → found ≡ find name names declared
    → IfOk (ok_or found reason) (λ component. WhereCounted declared (λ limits. IsCounted limits component))
counted_or name names declared None reason is = tt
counted_or name names declared (Some component) reason is = λ limits counted. found_holds (IsCounted limits) name names declared component counted (sym is)

pub returns-clause-counted : goal.returns-clause-counted
returns-clause-counted c =
    let names = c.args.names.now in
    subst (λ r. IfOk r (λ component. WhereCounted (values names) (λ limits. IsCounted limits component))) (sym c.ok_or.ensures.value)
    (counted_or c.in_ok-name.name.now (key_names names) (values names) c.find_component.result UnknownName c.find_component.ensures)
