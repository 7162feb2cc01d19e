-- The highest vote that promises report.
use Rattle.std.proofs.Common.{◌≡◌, ℕ, ◌≤◌, Option, Some, List, subst}
use Rattle.std.specs.Prelude.{filter_map}
use Rattle.rp_base.specs.declared.record.Vote.{Vote}
use Rattle.rp_base.specs.Sets.{Has}
use Rattle.rp_base.specs.Promises.{Promise, highest_vote}
use Rattle.rp_agreement.proofs.Lists.{has_picked, picked_has, highest_has, highest_covers}

-- Where a promise reports a vote, some promise reports the highest one.
pub highest_reported : (a : ℕ) (last : Option Vote) (w : Vote) (promises : List Promise) → Has (a, last) promises → last ≡ Some w
    → (h : Vote) × (highest_vote promises ≡ Some h) × (w.ballot ≤ h.ballot) × (other : ℕ) × Has (other, Some h) promises
highest_reported a last w promises here reports =
    let votes = filter_map (λ (p : Promise). p.1) promises in
    let covered = highest_covers w votes (picked_has (λ (p : Promise). p.1) (let promise : Promise = (a, last) in promise) w promises here reports) in
    let picked = has_picked (λ (p : Promise). p.1) covered.0 promises (highest_has covered.0 votes covered.1) in
    (covered.0, covered.1, covered.2, picked.0.0, subst (λ (o : Option Vote). Has (let p : Promise = (picked.0.0, o) in p) promises) picked.2 picked.1)
