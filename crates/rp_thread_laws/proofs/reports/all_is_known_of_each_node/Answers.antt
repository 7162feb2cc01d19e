-- Node by node.
use Rattle.std.proofs.Common.{◌≡◌, ℕ, suc, zero, List, [], ◌∷◌, ◌++◌, length, arith}
use Rattle.std.specs.Prelude.{◌↔◌, IfSome, slice_get}
use Rattle.std.specs.List.{AllZip}
use Rattle.rp_threads.specs.rp_base.specs.declared.action.Action.{Action}
use Rattle.rp_threads.specs.rp_boxes.specs.Audits.{known_of}
use Rattle.rp_live.specs.LiveOutcome.{KnowsAll}
use Rattle.rp_thread_laws.specs.Audits.{IsKnown}
use Rattle.rp_thread_laws.proofs.reports.all_is_known_of_each_node.Goals as goal

each : (known others : List (List Action)) (applied : List ℕ) → length known ≡ length applied
    → KnowsAll (known ++ others) applied → AllZip IsKnown known applied
each [] others [] same knows = tt
each [] others (count ∷ applied) same knows = absurd (omega (arith, same))
each (log ∷ known) others [] same knows = absurd (omega (arith, same))
each (log ∷ known) others (count ∷ applied) same knows =
    (knows zero, each known others applied (omega (arith, same)) (λ place. knows (suc place)))

all : (known others : List (List Action)) (applied : List ℕ) → length known ≡ length applied
    → AllZip IsKnown known applied → (place : ℕ) → IfSome (slice_get applied place) (λ count. count ≡ length (known_of (known ++ others) (suc place)))
all [] others [] same are place = tt
all [] others (count ∷ applied) same are place = absurd (omega (arith, same))
all (log ∷ known) others [] same are place = absurd (omega (arith, same))
all (log ∷ known) others (count ∷ applied) same are zero = are.0
all (log ∷ known) others (count ∷ applied) same are (suc place) = all known others applied (omega (arith, same)) are.1 place

pub returns : goal.returns
returns c = λ known others applied same. (each known others applied same, all known others applied same)
