-- What a declared call names is there.
use Rattle.std.proofs.Common.{◌≡◌, ℕ, ℤ, zero, suc, ◌≤◌, Bool, true, false, ◌&&◌, Option, Some, None, List, length, refl, sym, subst, arith}
use Rattle.std.specs.Prelude.{slice_get}
use Rattle.std.proofs.lemmas.Option.{slice_get_within}
use Rattle.rp_entry.specs.Operations.{of_index}
use Rattle.rp_entry.specs.Protected.{Protected}
use Rattle.rp_object.specs.InMemory.{AreObjects}
use Rattle.rp_object.specs.Program.{is_some_and}
use Rattle.rp_object.specs.declared.program.Declarations.{Declarations}
use Rattle.rp_object.specs.declared.program.ObjectDeclaration.{ObjectDeclaration}
use Rattle.rp_object.specs.declared.program.TimingEvent.{TimingEvent}

both_hold : (one other : Bool) → one && other ≡ true → other ≡ true
both_hold true other hold = hold
both_hold false other hold = absurd (cc)

place_found : {X : Type 0} (test : X → Bool) (xs : List X) (place : ℕ) (found : Option X) → slice_get xs place ≡ found → is_some_and test found ≡ true → suc place ≤ length xs
place_found test xs place None is holds = absurd (cc)
place_found test xs place (Some x) is holds = omega (arith, slice_get_within xs place x is)

number_found : {X : Type 0} (test : X → Bool) (xs : List X) (number : ℕ) → is_some_and test (of_index xs number) ≡ true → (1 ≤ number) × (number ≤ length xs)
number_found test xs zero holds = absurd (cc)
number_found test xs (suc place) holds = (omega arith, place_found test xs place (slice_get xs place) refl holds)

module _ (program : Declarations) (objects : List Protected) (timers : List (Option ℤ)) (held : AreObjects program objects timers) where
  -- the object of a call
  pub object_there : (known : Bool) (test : ObjectDeclaration → Bool) (object : ℕ) → known && is_some_and test (of_index program.objects.items object) ≡ true
      → (1 ≤ object) × (object ≤ length objects)
  object_there known test object hold =
      subst (λ (n : ℕ). (1 ≤ object) × (object ≤ n)) (sym held.all_objects)
      (number_found test program.objects.items object (both_hold known _ hold))

  -- the timing event that a call sets
  pub timer_there : (known : Bool) (test : TimingEvent → Bool) (timer : ℕ) → known && is_some_and test (of_index program.timers.items timer) ≡ true
      → (1 ≤ timer) × (timer ≤ length timers)
  timer_there known test timer hold =
      subst (λ (n : ℕ). (1 ≤ timer) × (timer ≤ n)) (sym held.all_timers)
      (number_found test program.timers.items timer (both_hold known _ hold))
