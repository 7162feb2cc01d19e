use Rattle.std.proofs.Common.{inl, inr, ◌≡◌, ◌⊎◌, ℕ, ◌<◌, ◌≤◌, true, List, length, arith, refl, sym, ap, ◌∙◌, Option, Some, None}
use Rattle.std.proofs.lemmas.List.{length-set}
use Rattle.std.specs.Prelude.{IfSome, IfNone, false, unwrap_or}
use Rattle.std.proofs.lemmas.Bool.Decides.{nat_tests}
use Rattle.std.proofs.lemmas.Grind.{common_steps}
use Rattle.std.proofs.str.Laws.{order}
use Rattle.rp_run.specs.NextNumbers.{is_passed, next_of, LeadsOn}
use Rattle.rp_run.proofs.NextNumbers.{moved_same, moved_leads}
use Rattle.rp_run.proofs.settled.first_unpassed.Goals as goal

-- where the way goes on after the number that is stored: there, or further
reach : (xs : List ℕ) (after : ℕ) (found : Option ℕ) → IfSome found (λ n. (n ≡ next_of xs after) × (after < n)) → IfNone found (is_passed xs after ≡ false)
    → (unwrap_or found after ≡ after) ⊎ ((unwrap_or found after ≡ next_of xs after) × (after < next_of xs after))
reach xs after None some none = inl refl
reach xs after (Some n) some none = inr (some.0, omega (arith, some.0, some.1))

-- all numbers up to there are passed
way : (xs : List ℕ) (i beyond : ℕ) → LeadsOn i xs → i < next_of xs i → (beyond ≡ next_of xs i) ⊎ ((beyond ≡ next_of xs (next_of xs i)) × (next_of xs i < next_of xs (next_of xs i)))
    → (next_of xs i ≤ beyond) × (beyond ≤ length xs) × ((k : ℕ) → i ≤ k → k < beyond → is_passed xs k ≡ true)
way xs i beyond leads later (inl same) = (omega (arith, same), grind (arith, same, leads.within i), λ k above below. leads.passed i k (omega arith) above (omega (arith, same)))
way xs i beyond leads later (inr further) = (
  omega (arith, further.0, further.1),
  grind (arith, further.0, further.1, leads.within (next_of xs i)),
  λ k above below. elim (order k (next_of xs i)) [
    | inl nearer ↦ leads.passed i k (omega arith) above nearer
    | inr beyond_it ↦ leads.passed (next_of xs i) k (omega (arith, later)) beyond_it (omega (arith, further.0))
  ],
)

pub loop-after-preserved : goal.loop-after-preserved
loop-after-preserved c =
    let held = c.loop-after.invariant in
    let items = c.loop-after.next.items in
    let number = c.loop-after.number in
    let leads : LeadsOn c.args.from items = held.leads_on c.args.from (omega arith) c.requires in
    let here : LeadsOn number items = record {
      within = λ m above. leads.within m (omega (arith, held.from, above));
      passed = λ m k above. leads.passed m k (omega (arith, held.from, above));
    } in
    let stored : c.in-Some.after ≡ next_of items number = c.in-Some.ensures.some.0 ∙ ap (λ xs. next_of xs number) c.deref.ensures.value in
    let later : number < next_of items number = omega (arith, stored, c.in-Some.ensures.some.1) in
    let reached = reach c.deref-in-Some.result.now c.in-Some.after c.later-in-Some.result c.later-in-Some.ensures.some c.later-in-Some.ensures.none in
    let places : c.deref-in-Some.result.now ≡ items = c.deref-in-Some.ensures.value in
    let there : next_of c.deref-in-Some.result.now c.in-Some.after ≡ next_of items (next_of items number) =
    ap (λ xs. next_of xs c.in-Some.after) places ∙ ap (next_of items) stored in
    let found : (c.unwrap_or-beyond.result ≡ next_of items number)
    ⊎ ((c.unwrap_or-beyond.result ≡ next_of items (next_of items number)) × (next_of items number < next_of items (next_of items number))) =
    elim reached [
      | inl same ↦ inl (c.unwrap_or-beyond.ensures ∙ same ∙ stored)
      | inr further ↦ inr (c.unwrap_or-beyond.ensures ∙ further.0 ∙ there, omega (arith, further.1, there, stored))
    ] in
    let past = way items number c.unwrap_or-beyond.result here later found in
    let low : number < length items = grind (arith, nat_tests, common_steps, later) in
    record {
      from = omega (arith, held.from, later, past.0);
      same = λ m. moved_same items number c.unwrap_or-beyond.result low later past.0 past.1 past.2 m ∙ held.same m;
      passed = λ m above below. elim (order m number) [
        | inl before ↦ held.passed m above before
        | inr on ↦ sym (held.same m) ∙ past.2 m on below
      ];
      leads_on = λ least within old. moved_leads items number c.unwrap_or-beyond.result low later past.0 past.1 past.2 least (held.leads_on least within old);
      size = length-set items number c.unwrap_or-beyond.result ∙ held.size;
    }
