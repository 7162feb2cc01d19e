-- The example is right, and has its text.
use Rattle.std.proofs.Common.{◌≡◌, ℕ, ◌≤◌, List, [], ◌∷◌, arith, refl}
use Rattle.std.specs.Prelude.{pos, FitsSigned, codes}
use Rattle.std.specs.Fmt.{digits}
use Rattle.std.specs.Int.{w64}
use Rattle.rp_object.specs.declared.program.Profile.TheVariants.{Jorvik}
use Rattle.rp_deck.specs.Script.{IsUpTo}
use Rattle.rp_deck_laws.specs.Named.{NamedExpr}
use Rattle.rp_deck_laws.specs.Named.{NamedExpr as exprs}
use Rattle.rp_deck_laws.specs.NamedTexts.{named_deck_text}
use Rattle.rp_deck_laws.specs.RightDecks.{HasNames, IsRightObject, IsRightHandler, IsRight, IsWholeBody, named_expr_nodes}
use Rattle.rp_deck_laws.specs.Example.{sets_n, example_parts, example, example_text}

small : (n : ℕ) → n ≤ 100 → FitsSigned w64 (pos n)
small n few = record { sfits = omega (arith, few) }

up_to : (last n : ℕ) → 1 ≤ n → n ≤ last → IsUpTo last n
up_to last n some few = (some, few)

abbrev wholes : List (List ℕ)
wholes = codes "n" ∷ []

abbrev truths : List (List ℕ)
truths = codes "some" ∷ []

-- a body that sets n
sets_is : (value : NamedExpr) → HasNames wholes truths value → named_expr_nodes value ≤ 32 → IsWholeBody wholes truths (sets_n value)
sets_is value names few = (
  ((tt, omega arith, refl, (names, few)), omega arith, refl, ((small 0 (omega arith), refl), omega arith)),
  omega arith,
)

store_is : IsRightObject Jorvik (record { name = codes "store"; ceiling = 20; parts = example_parts })
store_is = record {
  ceiling = (omega arith, omega arith);
  few_ints = omega arith;
  few_bools = omega arith;
  few_functions = omega arith;
  few_procedures = omega arith;
  few_entries = omega arith;
  components_named = refl;
  free = refl;
  operations_named = refl;
  parts = (
    tt,
    (
      (small 0 (omega arith), small 9 (omega arith), small 0 (omega arith), refl),
      (
        sets_is (exprs.Add (exprs.Int (codes "n")) exprs.Arg) (refl, tt) (omega arith),
        (
          (refl, omega arith),
          (
            (refl, (omega arith, omega arith), sets_is (exprs.Sub (exprs.Int (codes "n")) (exprs.Number (pos 1))) (refl, small 1 (omega arith)) (omega arith)),
            ((refl, omega arith), tt),
          ),
        ),
      ),
    ),
  );
}

put_is : (name : List ℕ) → IsRightHandler example.objects (record { name = name; object = codes "store"; procedure = codes "put" })
put_is name = record { object = refl; procedure = refl }

pub example_is : IsRight example
example_is = record {
  nodes = (omega arith, omega arith);
  positions = (omega arith, omega arith);
  task_count = (omega arith, omega arith);
  tasks_named = refl;
  tasks = ((omega arith, omega arith), ((omega arith, omega arith), tt));
  object_count = (omega arith, omega arith);
  objects_named = refl;
  objects = (store_is, tt);
  few_interrupts = omega arith;
  interrupts_named = refl;
  interrupts = (put_is (codes "key"), tt);
  few_timers = omega arith;
  timers_named = refl;
  timers = (put_is (codes "late"), tt);
  script = (
    (refl, (omega arith, omega arith), refl, refl, small 0 (omega arith)),
    (
      (refl, (omega arith, omega arith), refl, refl, small 3 (omega arith)),
      (
        (refl, (omega arith, omega arith), refl, small 100 (omega arith)),
        (
          ((omega arith, omega arith), refl, (omega arith, omega arith)),
          (
            ((omega arith, omega arith), tt),
            (tt, (tt, tt)),
          ),
        ),
      ),
    ),
  );
}

pub example_written : named_deck_text example ≡ example_text
unfolding digits
example_written = refl
