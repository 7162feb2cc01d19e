-- What the first orders give, and one order more.
use Rattle.std.proofs.Common.{◌≡◌, ◌↔◌, ℕ, ◌+◌, ◌-◌, ◌<◌, Bool, true, false, ◌&&◌, IsTrue, List, [], ◌∷◌, ◌++◌, length, length-append, get_or, map, max, take, Option, Some, None, is_none, if◌then◌else◌, MatchBool, inl, inr, sym, ap, subst, refl, arith, ◌∙◌, true≢false}
use Rattle.std.proofs.lemmas.Bool.{cases_lt}
use Rattle.std.proofs.lemmas.List.{get_or_append_left, get_or-append_right, map-append, take_more, take-append-le}
use Rattle.rp_base.specs.Number.{greatest}
use Rattle.rp_machine.proofs.Numbering.{greatest-push}
use Rattle.rp_base.specs.declared.action.Action.{Action}
use Rattle.rp_base.specs.declared.action.Action.TheVariants.{Noop}
use Rattle.rp_base.specs.declared.reply.Answer.{Answer}
use Rattle.rp_machine.specs.Asked.{waits}
use Rattle.rp_machine.specs.Numbered.{Applied, outcome}
use Rattle.rp_orders.specs.Orders.{LeadAlike, IsStuck, IsFinal, MayFollow}
use Rattle.rp_orders.specs.declared.guard.Guard.{Guard}
use Rattle.rp_explore.specs.Explored.{greatest_length}
use Rattle.rp_explore.specs.Listed.{order_at}
use Rattle.rp_explore.specs.Searched.{Searched, Extends, AllReached, SomeMissing, AreQuiet, AreMarked, IsStuckAt, WaitsFirst, LeadsBeyond}
use Rattle.rp_explore.proofs.Lists.{has_at, place_in}
use Rattle.rp_explore.proofs.VisitLemmas.{longer, full_stays, all_reached_on, quiet_on, quiet_back, moved, back}

module _ {S : Type 0} (next : S → Action → S) (answers : S → Action → List Answer) where
  beyond_on : (old new : Searched S) → Extends old new → LeadsBeyond next answers old → LeadsBeyond next answers new
  beyond_on old new e b = subst (λ (s : Searched S). LeadsBeyond next answers s) (full_stays old new e b.missing.missing.full) b

  beyond_here : (old new : Searched S) (place : ℕ) → Extends old new → place < length old.listed.orders → SomeMissing next answers new place (length new.listed.may) → LeadsBeyond next answers new
  beyond_here old new place e lt missing = record { place = place; within = omega (arith, longer old new e); missing = missing }

  -- whether all is found, with one order more
  abbrev Whole : Searched S → ℕ → ℕ → Bool → Type 0
  Whole s count n b = MatchBool b ((p : ℕ) → p < count → AllReached next answers s p n) (LeadsBeyond next answers s)

  whole_step : (old new : Searched S) (place : ℕ) (a b : Bool) → Extends old new → place < length old.listed.orders
      → Whole old place (length new.listed.may) a
      → MatchBool b (AllReached next answers new place (length new.listed.may)) (SomeMissing next answers new place (length new.listed.may))
      → Whole new (place + 1) (length new.listed.may) (a && b)
  whole_step old new place false b e lt beyond now = beyond_on old new e beyond
  whole_step old new place true false e lt all missing = beyond_here old new place e lt missing
  whole_step old new place true true e lt all now = λ p below. elim (cases_lt p place) [
    | inl less ↦ all_reached_on next answers old new p (length new.listed.may) e (omega arith) (all p less)
    | inr rest ↦ let same : p ≡ place = omega arith in subst (λ (q : ℕ). AllReached next answers new q (length new.listed.may)) (sym same) now
  ]

  pub whole_after : (old new : Searched S) (place : ℕ) (a b : Bool) → Extends old new → place < length old.listed.orders
      → Whole old place (length old.listed.may) a
      → MatchBool b (AllReached next answers new place (length old.listed.may)) (SomeMissing next answers new place (length old.listed.may))
      → Whole new (place + 1) (length new.listed.may) (a && b)
  whole_after old new place a b e lt was now =
      let size : length old.listed.may ≡ length new.listed.may = ap length (sym e.may) in
      whole_step old new place a b e lt (subst (λ (n : ℕ). Whole old place n a) size was)
      (subst (λ (n : ℕ). MatchBool b (AllReached next answers new place n) (SomeMissing next answers new place n)) size now)

  -- ---- the orders after which nothing changes anything, and the longest

  pub marked_more : (old new : Searched S) (place : ℕ) (finals more : List Bool) (is_quiet : Bool) → Extends old new → place < length old.listed.orders
      → more ≡ finals ++ is_quiet ∷ [] → IsTrue is_quiet ↔ AreQuiet next answers new place (length old.listed.may)
      → AreMarked next answers old place finals → AreMarked next answers new (place + 1) more
  marked_more old new place finals more is_quiet e lt is quiet before =
      let size : length new.listed.may ≡ length old.listed.may = ap length e.may in record {
        size = ap length is ∙ length-append finals (is_quiet ∷ []) ∙ (let mine = before.size in omega arith);
        marked = λ p below. elim (cases_lt p place) [
          | inl less ↦
              let same : get_or more p false ≡ get_or finals p false = ap (λ (xs : List Bool). get_or xs p false) is ∙ get_or_append_left finals (is_quiet ∷ []) false p (omega (arith, before.size)) in
              let was = before.marked p less in
              let n = length new.listed.may in (
                λ yes. quiet_on next answers old new p n e (omega arith) (subst (λ (k : ℕ). AreQuiet next answers old p k) (sym size) (was.0 (sym same ∙ yes))),
                λ all. same ∙ was.1 (subst (λ (k : ℕ). AreQuiet next answers old p k) size (quiet_back next answers old new p n e (omega arith) all)),
              )
          | inr rest ↦
              let here : p ≡ place = omega arith in
              let none : p - place ≡ 0 = omega arith in
              let same : get_or more p false ≡ is_quiet = ap (λ (xs : List Bool). get_or xs p false) is ∙ get_or-append_right finals (is_quiet ∷ []) place p false before.size (omega arith) ∙ ap (λ (k : ℕ). get_or (is_quiet ∷ []) k false) none in (
                λ yes. subst (λ (q : ℕ). AreQuiet next answers new q (length new.listed.may)) (sym here) (subst (λ (k : ℕ). AreQuiet next answers new place k) (sym size) (quiet.0 (sym same ∙ yes))),
                λ all. same ∙ quiet.1 (subst (λ (k : ℕ). AreQuiet next answers new place k) size (subst (λ (q : ℕ). AreQuiet next answers new q (length new.listed.may)) here all)),
              )
        ];
      }

  pub deeper : (old new : Searched S) (place depth more : ℕ) (order : List Action) → Extends old new → place < length old.listed.orders
      → order ≡ order_at old.listed.orders place → more ≡ max depth (length order) → depth ≡ greatest_length (take place old.listed.orders)
      → more ≡ greatest_length (take (place + 1) new.listed.orders)
  deeper old new place depth more order e lt is grows was =
      let orders = old.listed.orders in
      let one : take (place + 1) new.listed.orders ≡ take place orders ++ order ∷ [] =
      ap (take (place + 1)) e.orders ∙ take-append-le (place + 1) orders e.more (omega arith) ∙ take_more orders place [] lt ∙ ap (λ (o : List Action). take place orders ++ o ∷ []) (sym is) in
      grows ∙ ap (λ (d : ℕ). max d (length order)) was
      ∙ sym (ap greatest_length one ∙ ap greatest (map-append (λ (o : List Action). length o) (take place orders) (order ∷ [])) ∙ greatest-push (map length (take place orders)) (length order))

  -- ---- tasks that wait for ever

  -- what is said of an order
  abbrev stuck_after : ℕ → S → List Guard → List Action → List Action → Type 0
  stuck_after task begin guards may order = IsStuck next answers begin guards may task order

  stuck_on : (old new : Searched S) (task place : ℕ) → Extends old new → place < length old.listed.orders → IsStuckAt next answers old task place → IsStuckAt next answers new task place
  stuck_on old new task place e lt stuck = moved (stuck_after task) old new place e lt stuck

  stuck_back : (old new : Searched S) (task place : ℕ) → Extends old new → place < length old.listed.orders → IsStuckAt next answers new task place → IsStuckAt next answers old task place
  stuck_back old new task place e lt stuck = back (stuck_after task) old new place e lt stuck

  pub waits_after : (old new : Searched S) (task place : ℕ) (w : Bool) (was now : Option ℕ) → Extends old new → place < length old.listed.orders
      → WaitsFirst next answers old task place was → IsTrue w ↔ IsStuckAt next answers new task place
      → now ≡ (if is_none was && w then Some place else was) → WaitsFirst next answers new task (place + 1) now
  waits_after old new task place w (Some at) now e lt first is same =
      subst (λ (o : Option ℕ). WaitsFirst next answers new task (place + 1) o) (sym same) (record {
        within = omega (arith, first.within);
        stuck = stuck_on old new task at e (omega (arith, first.within)) first.stuck;
        first = λ earlier less stuck. first.first earlier less (stuck_back old new task earlier e (omega (arith, first.within)) stuck);
      })
  waits_after old new task place true None now e lt none is same =
      subst (λ (o : Option ℕ). WaitsFirst next answers new task (place + 1) o) (sym same) (record {
        within = omega arith;
        stuck = is.0 refl;
        first = λ earlier less stuck. none earlier less (stuck_back old new task earlier e (omega arith) stuck);
      })
  waits_after old new task place false None now e lt none is same =
      subst (λ (o : Option ℕ). WaitsFirst next answers new task (place + 1) o) (sym same) (λ earlier less stuck. elim (cases_lt earlier place) [
        | inl below ↦ none earlier below (stuck_back old new task earlier e (omega arith) stuck)
        | inr rest ↦
            let here : earlier ≡ place = omega arith in
            true≢false (sym (is.1 (subst (λ (p : ℕ). IsStuckAt next answers new task p) here stuck)))
      ])

  -- what is noted where nothing is to be noted
  pub noted_none : (o : Option ℕ) (place : ℕ) → o ≡ (if is_none o && false then Some place else o)
  noted_none None place = refl
  noted_none (Some at) place = refl

  -- an order is final where no action by its index changes anything
  pub final_quiet : (s : Searched S) (place : ℕ) → IsFinal next answers s.begin s.guards s.listed.may (order_at s.listed.orders place) → AreQuiet next answers s place (length s.listed.may)
  final_quiet s place final index within may_be = final (get_or s.listed.may index Noop) (has_at s.listed.may index Noop within) may_be

  pub quiet_final : (s : Searched S) (place : ℕ) → AreQuiet next answers s place (length s.listed.may) → IsFinal next answers s.begin s.guards s.listed.may (order_at s.listed.orders place)
  quiet_final s place quiet action h may_be =
      let at = place_in s.listed.may action Noop h in
      let order = order_at s.listed.orders place in
      subst (λ (a : Action). LeadAlike next answers s.begin s.guards (order ++ a ∷ []) order) at.2
      (quiet at.0 at.1 (subst (λ (a : Action). MayFollow next answers s.begin s.guards order a) (sym at.2) may_be))

  -- a task waits for ever only where nothing changes
  pub stuck_quiet : (s : Searched S) (task place : ℕ) → IsStuckAt next answers s task place → AreQuiet next answers s place (length s.listed.may)
  stuck_quiet s task place stuck = final_quiet s place stuck.quiet

  -- and there it does if it waits
  pub waits_stuck : (s : Searched S) (applied : Applied S) (task place : ℕ) → applied.begin ≡ s.begin → applied.actions ≡ order_at s.listed.orders place
      → AreQuiet next answers s place (length s.listed.may)
      → IsTrue (waits task (outcome next answers applied).kept (outcome next answers applied).given) ↔ IsStuckAt next answers s task place
  waits_stuck s applied task place starts acts quiet =
      let order = order_at s.listed.orders place in
      let same : applied ≡ record { begin = s.begin; actions = order } = λ i. record { begin = starts i; actions = acts i } in (
        λ yes. record {
          waits = subst (λ (a : Applied S). IsTrue (waits task (outcome next answers a).kept (outcome next answers a).given)) same yes;
          quiet = quiet_final s place quiet;
        },
        λ stuck. subst (λ (a : Applied S). IsTrue (waits task (outcome next answers a).kept (outcome next answers a).given)) (sym same) stuck.waits,
      )
