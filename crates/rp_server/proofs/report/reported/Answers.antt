use Rattle.std.proofs.Common.{◌≡◌, ℕ, ◌+◌, ◌-◌, ◌<◌, ◌≤◌, Option, Some, List, [], ◌∷◌, ◌++◌, length, refl, sym, ap, subst, ◌∙◌, arith}
use Rattle.std.specs.Prelude.{IfSome, IsSome}
use Rattle.rp_base.specs.declared.action.Action.{Action}
use Rattle.rp_base.specs.declared.action.Action.TheVariants.{Noop}
use Rattle.rp_model.specs.rp_codec.specs.Message.{report_len}
use Rattle.rp_server.proofs.Taken.{taken_at, read_at, read_on}
use Rattle.rp_server.proofs.report.reported.Goals as goal

-- each action that is reported is taken
is_taken : (first place count end applied taken : ℕ) → 1 ≤ first → place < end → end ≡ count → count ≡ report_len first applied → applied ≡ taken → first - 1 + place < taken
is_taken first place count end applied taken right below same stated is = omega (arith, stated)

-- and its position is the one after that number of taken ones
is_next : (first place number position : ℕ) (made : Option ℕ) → 1 ≤ first → number ≡ first → IfSome made (λ p. p ≡ number + place) → made ≡ Some position → position ≡ first - 1 + place + 1
is_next first place number position made right is value some =
    let sum : position ≡ number + place = subst (λ (o : Option ℕ). IfSome o (λ p. p ≡ number + place)) some value in
    omega (arith, sum)

pub unwrap-requires : goal.unwrap-requires
unwrap-requires c =
    let log = c.args.log.now in
    let first = c.args.first in
    let place = c.loop-place.place in
    let low : 1 ≤ first = c.get.ensures.in_range.0 in
    let within = is_taken first place c.report_len-count.result c.from-place-end.result c.applied.result (length log.taken) low c.loop-place-test.true c.from-place-end.ensures c.report_len-count.ensures c.applied.ensures.count in
    let next = is_next first place c.get.result c.unwrap-position.result c.new.result low c.get.ensures.value c.new.ensures.value c.unwrap-position.ensures in
    subst (λ (o : Option Action). IsSome o)
    (sym (c.get-in-loop-place.ensures ∙ taken_at log (first - 1 + place) c.unwrap-position.result Noop c.applied.ensures.in_order within next)) refl

pub loop-place-preserved : goal.loop-place-preserved
loop-place-preserved c =
    let log = c.args.log.now in
    let first = c.args.first in
    let place = c.loop-place.place in
    let action = c.unwrap.result in
    let low : 1 ≤ first = c.get.ensures.in_range.0 in
    let within = is_taken first place c.report_len-count.result c.from-place-end.result c.applied.result (length log.taken) low c.loop-place-test.true c.from-place-end.ensures c.report_len-count.ensures c.applied.ensures.count in
    let next = is_next first place c.get.result c.unwrap-position.result c.new.result low c.get.ensures.value c.new.ensures.value c.unwrap-position.ensures in
    c.push_reserved.ensures.items
    ∙ ap (λ (actions : List Action). actions ++ action ∷ []) c.loop-place.invariant
    ∙ read_on log.taken (first - 1) place action within
    (read_at log (first - 1 + place) c.unwrap-position.result action c.applied.ensures.in_order within next (sym c.unwrap.ensures ∙ c.get-in-loop-place.ensures))
