-- Turn after turn: nothing while a node waits, and then it leads.
use Rattle.std.proofs.Common.{◌≡◌, ℕ, zero, suc, ◌+◌, ◌*◌, ◌<◌, ◌≤◌, ◌^◌, min, Bool, true, false, cond, Option, Some, None, List, [], ◌∷◌, ◌++◌, length, refl, sym, ap, subst, ◌∙◌, arith, fold, nat_eq, nat_lt, eq-eqb, lt-ltb}
use Rattle.std.specs.Prelude.{nat_le, replicate, sum, not, ◌&&◌, ◌||◌, ◌-◌}
use Rattle.std.proofs.lemmas.Bool.{cond-true, cond-false, le-leb, lt-leb}
use Rattle.rp_base.specs.Number.{IsNode}
use Rattle.rp_patience.specs.Advice.{above, advice_after, advice_in_turn, advised, has_cause, leads_at_once, once_advised, once_waited, patience_after, to_ask, to_lead}
use Rattle.rp_patience.specs.Patience.{has_waited, more_quiet, restarted, wait_of, waits}
use Rattle.rp_patience.specs.declared.advice.Advice.{Advice}
use Rattle.rp_patience.specs.declared.advice.Advice.TheVariants.{Nothing, Lead}
use Rattle.rp_patience.specs.declared.advice.Situation.{Situation}
use Rattle.rp_patience.specs.declared.patience.Patience.{Patience}

-- a wait is short
doubled : (n : ℕ) → n ≤ 6 → 2 ^ n ≤ 64
doubled zero few = omega arith
doubled (suc zero) few = omega arith
doubled (suc (suc zero)) few = omega arith
doubled (suc (suc (suc zero))) few = omega arith
doubled (suc (suc (suc (suc zero)))) few = omega arith
doubled (suc (suc (suc (suc (suc zero))))) few = omega arith
doubled (suc (suc (suc (suc (suc (suc zero)))))) few = omega arith
doubled (suc (suc (suc (suc (suc (suc (suc n))))))) few = absurd (omega (arith, few))

fold_from : (xs : List ℕ) (a : ℕ) → fold ◌+◌ a xs ≡ a + sum xs
fold_from [] a = omega arith
fold_from (x ∷ xs) a =
    let one : fold ◌+◌ (a + x) xs ≡ (a + x) + sum xs = fold_from xs (a + x) in
    let two : sum (x ∷ xs) ≡ (0 + x) + sum xs = fold_from xs (0 + x) in
    one ∙ omega (arith, two)

sum_from : (xs : List ℕ) (a : ℕ) → sum (a ∷ xs) ≡ a + sum xs
sum_from xs a = fold_from xs (0 + a) ∙ omega arith

module _ (situation : Situation) (missing : situation.is_missing ≡ false) (uncounted : situation.has_uncounted ≡ true) (none : situation.leads_on ≡ None) (left : situation.applied < situation.positions) (node : IsNode situation.node) where
  -- the patience after more quiet turns, while nothing is applied
  abbrev later : ℕ → Patience → Patience
  later turns p = more_quiet turns p

  waits_on : (turns : ℕ) (p : Patience) → p.applied ≡ situation.applied → waits turns situation.applied p ≡ later turns p
  waits_on turns p same = ap (more_quiet turns) (cond-true (nat_eq situation.applied p.applied) p (restarted situation.applied p) (eq-eqb situation.applied p.applied (sym same)))

  short : (p : Patience) → wait_of situation.node situation.led_last p ≤ 14336
  short p =
      let few : min (p.tries - 1) 6 ≤ 6 = omega arith in
      let power : 2 ^ min (p.tries - 1) 6 ≤ 64 = doubled (min (p.tries - 1) 6) few in
      let seven : situation.node ≤ 7 = node.1 in
      either situation.led_last (2 ^ min (p.tries - 1) 6) power situation.node seven
    where
      product : (x : ℕ) → x ≤ 64 → (k : ℕ) → k ≤ 7 → 32 * k * x ≤ 14336
      product x few zero is = omega arith
      product x few (suc zero) is = omega (arith, few)
      product x few (suc (suc zero)) is = omega (arith, few)
      product x few (suc (suc (suc zero))) is = omega (arith, few)
      product x few (suc (suc (suc (suc zero)))) is = omega (arith, few)
      product x few (suc (suc (suc (suc (suc zero))))) is = omega (arith, few)
      product x few (suc (suc (suc (suc (suc (suc zero)))))) is = omega (arith, few)
      product x few (suc (suc (suc (suc (suc (suc (suc zero))))))) is = omega (arith, few)
      product x few (suc (suc (suc (suc (suc (suc (suc (suc k)))))))) is = absurd (omega (arith, is))

      either : (led : Bool) → (x : ℕ) → x ≤ 64 → (k : ℕ) → k ≤ 7 → cond led 4 (32 * k) * x ≤ 14336
      either true x few k is = omega (arith, few)
      either false x few k is = product x few k is

  cause : has_cause situation ≡ true
  cause = ap (λ (b : Bool). b || situation.has_uncounted) missing ∙ uncounted

  not_at_once : (p : Patience) → leads_at_once situation p ≡ None
  not_at_once p = ap (λ (o : Option ℕ). cond (not situation.is_missing && situation.has_uncounted && nat_eq p.tries 0) (above p.led o) None) none ∙ same (not situation.is_missing && situation.has_uncounted && nat_eq p.tries 0)
    where
      same : (b : Bool) → cond b (above p.led None) None ≡ None
      same true = refl
      same false = refl

  leads : (p : Patience) → once_waited situation p ≡ Lead (situation.applied + 1)
  leads p =
      ap (λ (b : Bool). cond (situation.has_uncounted && not (b && not situation.led_last && nat_eq p.tries 0)) (to_lead situation) (to_ask situation)) missing
      ∙ ap (λ (b : Bool). cond (b && true) (to_lead situation) (to_ask situation)) uncounted
      ∙ cond-true (nat_lt situation.applied situation.positions) (Lead (situation.applied + 1)) Nothing (lt-ltb situation.applied situation.positions left)

  -- one turn
  advice_is : (turns : ℕ) (p : Patience) → p.applied ≡ situation.applied → (b : Bool) → has_waited situation.node situation.led_last (later turns p) ≡ b
      → advice_after turns situation p ≡ cond b (Lead (situation.applied + 1)) Nothing
  advice_is turns p same b is =
      let q = waits turns situation.applied p in
      cond-true (has_cause situation) _ _ cause
      ∙ ap (advised situation q) (not_at_once q)
      ∙ ap (λ (r : Patience). cond (has_waited situation.node situation.led_last r) (once_waited situation r) Nothing) (waits_on turns p same)
      ∙ ap (λ (t : Bool). cond t (once_waited situation (later turns p)) Nothing) is
      ∙ ap (λ (a : Advice). cond b a Nothing) (leads (later turns p))

  patience_is : (turns : ℕ) (p : Patience) → p.applied ≡ situation.applied → has_waited situation.node situation.led_last (later turns p) ≡ false → patience_after turns situation p ≡ later turns p
  patience_is turns p same not_yet =
      let q = waits turns situation.applied p in
      cond-true (has_cause situation) _ _ cause
      ∙ ap (λ (o : Option ℕ). once_advised (advised situation q o) o q) (not_at_once q)
      ∙ ap (λ (r : Patience). once_advised (cond (has_waited situation.node situation.led_last r) (once_waited situation r) Nothing) None r) (waits_on turns p same)
      ∙ ap (λ (t : Bool). once_advised (cond t (once_waited situation (later turns p)) Nothing) None (later turns p)) not_yet

  waited : (turns : ℕ) (p : Patience) → wait_of situation.node situation.led_last p ≤ p.quiet + turns → has_waited situation.node situation.led_last (later turns p) ≡ true
  waited turns p over = le-leb (wait_of situation.node situation.led_last p) (min (p.quiet + turns) (2 ^ 64 - 1)) (let few = short p in omega (arith, over, few))

  not_waited : (turns : ℕ) (p : Patience) → p.quiet + turns < wait_of situation.node situation.led_last p → has_waited situation.node situation.led_last (later turns p) ≡ false
  not_waited turns p before = lt-leb (wait_of situation.node situation.led_last p) (min (p.quiet + turns) (2 ^ 64 - 1)) (let few = short p in omega (arith, before, few))

  pub ends : (before : List ℕ) (turns : ℕ) (p : Patience) → p.applied ≡ situation.applied → p.quiet + sum before < wait_of situation.node situation.led_last p → wait_of situation.node situation.led_last p ≤ p.quiet + sum before + turns
      → advice_in_turn situation p (before ++ turns ∷ []) ≡ replicate (length before) Nothing ++ Lead (situation.applied + 1) ∷ []
  ends [] turns p same few over = ap (λ (a : Advice). a ∷ []) (advice_is turns p same true (waited turns p (omega (arith, over))))
  ends (t ∷ rest) turns p same few over =
      let all : sum (t ∷ rest) ≡ t + sum rest = sum_from rest t in
      let not_yet : has_waited situation.node situation.led_last (later t p) ≡ false = not_waited t p (omega (arith, few, all)) in
      let low = short p in
      let quiet : min (p.quiet + t) (2 ^ 64 - 1) ≡ p.quiet + t = omega (arith, few, all, low) in
      let less : min (p.quiet + t) (2 ^ 64 - 1) + sum rest < wait_of situation.node situation.led_last p = omega (arith, few, all, quiet) in
      let more : wait_of situation.node situation.led_last p ≤ min (p.quiet + t) (2 ^ 64 - 1) + sum rest + turns = omega (arith, over, all, quiet) in
      let rest_is = ends rest turns (later t p) same less more in
      λ i. advice_is t p same false not_yet i
      ∷ (ap (λ (r : Patience). advice_in_turn situation r (rest ++ turns ∷ [])) (patience_is t p same not_yet) ∙ rest_is) i
