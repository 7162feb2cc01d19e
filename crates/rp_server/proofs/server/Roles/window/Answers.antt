use Rattle.std.proofs.Common.{◌≡◌, ℕ, suc, ◌+◌, ◌-◌, ◌^◌, min, Bool, true, false, if◌then◌else◌, not, nat_lt, Option, Some, None, Result, Ok, Err, refl, sym, ap, subst, ◌∙◌, arith}
use Rattle.std.specs.Prelude.{IfSome, IsSome}
use Rattle.std.specs.Result.{result_ok}
use Rattle.rp_base.specs.Number.{in_range}
use Rattle.rp_base.specs.Ranges.{Range, range_of}
use Rattle.rp_base.specs.Records.{first_unlearned, learned_at}
use Rattle.rp_base.specs.declared.action.Action.{Action}
use Rattle.rp_base.specs.declared.record.Rec.{Rec}
use Rattle.rp_base.specs.declared.fault.Fault.{Fault}
use Rattle.rp_base.specs.declared.fault.Fault.TheVariants.{BadConfig, LogFull}
use Rattle.rp_log.specs.Contents.{ready_of}
use Rattle.rp_model.specs.Learner.{window_of}
use Rattle.rp_server.specs.State.{ServerState}
use Rattle.rp_server.proofs.Beginning.{next_is}
use Rattle.rp_server.proofs.server.Roles.window.Goals as goal

-- a range that exists has these numbers
range_if : (wrong far : Bool) (range : Range) → (let found : Result Range Fault = if wrong then Err BadConfig else if far then Err LogFull else Ok range in IfSome (result_ok found) (λ r. r ≡ range))
range_if true far range = tt
range_if false true range = tt
range_if false false range = refl

range_is : (first count : ℕ) → IfSome (result_ok (range_of first count)) (λ r. r ≡ (let range : Range = record { first = first; count = count } in range))
range_is first count = range_if (not (in_range 1 64 count)) (nat_lt (2 ^ 16) (first + count)) (record { first = first; count = count })

count_is : (next first end most : ℕ) → next ≡ first → end ≡ min (next + 64) (most + 1) → min 64 (suc most - first) ≡ end - next
count_is next first end most same is = omega (arith, same, is)

pub returns-then-end-first-clause-none : goal.returns-then-end-first-clause-none
returns-then-end-first-clause-none g c =
    let r = c.self.inside in
    let a = c.self.invariant.applies in
    let next = c.next_unlearned-first.result in
    let ready : ready_of r.log ≡ None = a.none in
    let at : next ≡ first_unlearned r.acceptor.records = next_is r.acceptor.records r.log r.machine next a (c.next_unlearned-first.ensures.taken ready) in
    let is : c.min-end.result ≡ min (next + 64) (r.config.max_positions + 1) = c.min-end.ensures ∙ ap (λ (n : ℕ). min (next + 64) (n + 1)) c.from.ensures in
    let count : min 64 (suc r.config.max_positions - first_unlearned r.acceptor.records) ≡ 0 = omega (arith, count_is next (first_unlearned r.acceptor.records) c.min-end.result r.config.max_positions at is, c.if-end-first.true) in
    ap (λ (h : ServerState g.row.M.Denot). (window_of h.config.max_positions h.records).count) (sym c.self.view_is) ∙ count

pub returns-clause-some : goal.returns-clause-some
returns-clause-some g c =
    let r = c.self.inside in
    let a = c.self.invariant.applies in
    let next = c.next_unlearned-first.result in
    let ready : ready_of r.log ≡ None = a.none in
    let at : next ≡ first_unlearned r.acceptor.records = next_is r.acceptor.records r.log r.machine next a (c.next_unlearned-first.ensures.taken ready) in
    let is : c.min-end.result ≡ min (next + 64) (r.config.max_positions + 1) = c.min-end.ensures ∙ ap (λ (n : ℕ). min (next + 64) (n + 1)) c.from.ensures in
    let count = count_is next (first_unlearned r.acceptor.records) c.min-end.result r.config.max_positions at is in
    let range : window_of r.config.max_positions r.acceptor.records ≡ record { first = c.position_at.result; count = c.min-end.result - next } = λ i. record { first = (sym at ∙ sym c.position_at.ensures) i; count = count i } in
    let found : c.ok.result ≡ result_ok (range_of c.position_at.result (c.min-end.result - next)) = c.ok.ensures.value ∙ ap (λ (o : Result Range Fault). result_ok o) c.new.ensures.answer in
    subst (λ (h : ServerState g.row.M.Denot). IfSome c.ok.result (λ r. r ≡ window_of h.config.max_positions h.records)) c.self.view_is
    (subst (λ (w : Range). IfSome c.ok.result (λ r. r ≡ w)) (sym range) (subst (λ (o : Option Range). IfSome o (λ r. r ≡ (let one : Range = record { first = c.position_at.result; count = c.min-end.result - next } in one))) (sym found) (range_is c.position_at.result (c.min-end.result - next))))

none_of : (o : Option Action) → (¬ IsSome o) → o ≡ None
none_of None never = refl
none_of (Some v) never = absurd (never refl)

if_range : (o : Option Range) (w : Range) (P : Range → Type 0) → IfSome o (λ r. r ≡ w) → P w → IfSome o P
if_range None w P same holds = tt
if_range (Some r) w P same holds = subst P (sym same) holds

pub returns-clause-unlearned : goal.returns-clause-unlearned
returns-clause-unlearned g c =
    let r = c.self.inside in
    let next = c.next_unlearned-first.result in
    let range : Range = record { first = c.position_at.result; count = c.min-end.result - next } in
    let none : learned_at r.acceptor.records next ≡ None =
    none_of (learned_at r.acceptor.records next) (λ some. c.next_unlearned-first.ensures.unlearned (subst (λ (o : Option Action). IsSome o) (sym (c.self.invariant.applies.learned next)) some)) in
    let here : learned_at c.args.self.now.records c.position_at.result ≡ None =
    ap (λ (h : ServerState g.row.M.Denot). learned_at h.records c.position_at.result) (sym c.self.view_is) ∙ ap (learned_at r.acceptor.records) c.position_at.ensures ∙ none in
    let found : c.ok.result ≡ result_ok (range_of c.position_at.result (c.min-end.result - next)) = c.ok.ensures.value ∙ ap (λ (o : Result Range Fault). result_ok o) c.new.ensures.answer in
    if_range c.ok.result range (λ w. learned_at c.args.self.now.records w.first ≡ None)
    (subst (λ (o : Option Range). IfSome o (λ w. w ≡ range)) (sym found) (range_is c.position_at.result (c.min-end.result - next))) here
