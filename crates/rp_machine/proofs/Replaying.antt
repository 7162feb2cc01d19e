-- Replay goes on from a shorter list of actions to a longer one.
use Rattle.std.proofs.Common.{◌≡◌, true, false, List, [], ◌∷◌, ◌++◌, if◌then◌else◌, refl, sym, append_assoc, append-nil, ◌∙◌}
use Rattle.rp_base.specs.declared.action.Action.{Action}
use Rattle.rp_base.specs.declared.reply.Answer.{Answer}
use Rattle.rp_machine.specs.Replay.{counts, Replayed, replay_step, replay_from, GoesOn}

module _ {S : Type 0} (next : S → Action → S) (answers : S → Action → List Answer) where
  -- two lists in a row: the second goes on from the result of the first
  pub replay_from-append : (r : Replayed S) (xs ys : List Action) → replay_from next answers r (xs ++ ys) ≡ replay_from next answers (replay_from next answers r xs) ys
  replay_from-append r [] ys = refl
  replay_from-append r (x ∷ xs) ys = replay_from-append (replay_step next answers r x) xs ys

  -- what counted and what was answered stays in front
  pub goes_on_from : (r : Replayed S) (xs : List Action) → GoesOn r (replay_from next answers r xs)
  goes_on_from r [] = record { further = []; more = []; kept = sym (append-nil r.kept); given = sym (append-nil r.given) }
  goes_on_from r (x ∷ xs) =
      elim (counts r.kept r.given x) as (λ b. GoesOn r (replay_from next answers (if b then record { state = next r.state x; kept = r.kept ++ x ∷ []; given = r.given ++ answers r.state x } else r) xs)) [
        | true ↦
            let rest = goes_on_from (record { state = next r.state x; kept = r.kept ++ x ∷ []; given = r.given ++ answers r.state x }) xs in
            record {
              further = x ∷ rest.further;
              more = answers r.state x ++ rest.more;
              kept = rest.kept ∙ append_assoc r.kept (x ∷ []) rest.further;
              given = rest.given ∙ append_assoc r.given (answers r.state x) rest.more;
            }
        | false ↦ goes_on_from r xs
      ]
