use Rattle.std.proofs.Common.{◌≡◌, ◌<◌, ◌≤◌, ℕ, List, length, sym, ap, subst, ◌∙◌}
use Rattle.std.specs.Prelude.{slice_get}
use Rattle.std.specs.List.{AllWithin}
use Rattle.rp_acceptor.specs.Levels.{Level, IsRising, holding_ballot, begins_at, ballot_before, HasLevel}
use Rattle.rp_acceptor.proofs.Pages.{on_err}
use Rattle.rp_acceptor.proofs.Splitting.{same_ballot, level_put, levels_stay, begun, begin_later, none_begins, rising_still}
use Rattle.rp_acceptor.proofs.levels.split.Goals as goal
use Rattle.rp_acceptor.proofs.levels.split.Goals.{Then-not-begins_at}

-- the levels before the count begin below the position, and the others after it
below : (c : Then-not-begins_at) → AllWithin (λ s. s.from < c.args.position) c.args.levels.now.items 0 c.count_below-count.result
below c = subst (λ (l : List Level). AllWithin (λ s. s.from < c.args.position) l 0 c.count_below-count.result) c.deref.ensures.value c.count_below-count.ensures.below

later : (c : Then-not-begins_at) → AllWithin (λ s. c.args.position < s.from) c.args.levels.now.items c.count_below-count.result (length c.args.levels.now.items)
later c =
    let count = c.count_below-count.result in
    begin_later c.args.levels.now.items count c.args.position c.requires
    (ap (λ (l : List Level). begins_at c.args.position (slice_get l count)) (sym c.deref-2.ensures.value) ∙ sym c.begins_at.ensures ∙ c.if-not-begins_at.true)
    (subst (λ (l : List Level). AllWithin (λ s. c.args.position ≤ s.from) l count (length l)) c.deref.ensures.value c.count_below-count.ensures.not_below)

within : (c : Then-not-begins_at) → c.count_below-count.result ≤ length c.args.levels.now.items
within c = subst (λ (l : List Level). c.count_below-count.result ≤ length l) c.deref.ensures.value c.count_below-count.ensures.bound

pub returns-in_err-insert-clause-full : goal.returns-in_err-insert-clause-full
returns-in_err-insert-clause-full c =
    let at = (goal.at.returns-in_err-insert-clause-full c).Then-not-begins_at in
    on_err c.from_residual.result (none_begins c.args.levels.now.items c.count_below-count.result c.args.position (below at) (later at))

pub returns-in_ok-insert-clause-rising : goal.returns-in_ok-insert-clause-rising
returns-in_ok-insert-clause-rising c =
    let at = (goal.at.returns-in_ok-insert-clause-rising c).Then-not-begins_at in
    let level : Level = record { from = c.args.position; ballot = c.number_before-ballot.result } in
    subst (λ (l : List Level). IsRising l) (sym c.in_ok-insert.ensures.items) (rising_still c.args.levels.now.items level c.count_below-count.result c.requires (within at) (below at) (later at))

pub returns-in_ok-insert-clause-same : goal.returns-in_ok-insert-clause-same
returns-in_ok-insert-clause-same c =
    let at = (goal.at.returns-in_ok-insert-clause-same c).Then-not-begins_at in
    let levels : List Level = c.args.levels.now.items in
    let count : ℕ = c.count_below-count.result in
    let level : Level = record { from = c.args.position; ballot = c.number_before-ballot.result } in
    let ballot : level.ballot ≡ ballot_before 0 levels count =
    c.number_before-ballot.ensures.value ∙ ap (λ (l : List Level). ballot_before 0 l count) c.deref-then-not-begins_at.ensures.value in
    λ i. ap (λ (l : List Level). holding_ballot l i) c.in_ok-insert.ensures.items ∙ same_ballot 0 levels level count i (within at) ballot (below at) (later at)

pub returns-in_ok-insert-clause-keeps : goal.returns-in_ok-insert-clause-keeps
returns-in_ok-insert-clause-keeps c = λ i has.
    let level : Level = record { from = c.args.position; ballot = c.number_before-ballot.result } in
    subst (λ (l : List Level). HasLevel l i) (sym c.in_ok-insert.ensures.items) (levels_stay c.args.levels.now.items level c.count_below-count.result i has)

pub returns-in_ok-insert-clause-begins : goal.returns-in_ok-insert-clause-begins
returns-in_ok-insert-clause-begins c =
    let level : Level = record { from = c.args.position; ballot = c.number_before-ballot.result } in
    subst (λ (l : List Level). HasLevel l c.args.position) (sym c.in_ok-insert.ensures.items) (level_put c.args.levels.now.items level c.count_below-count.result)

pub returns-else-not-begins_at-clause-begins : goal.returns-else-not-begins_at-clause-begins
returns-else-not-begins_at-clause-begins c =
    begun c.args.levels.now.items c.count_below-count.result c.args.position
    (ap (λ (l : List Level). begins_at c.args.position (slice_get l c.count_below-count.result)) (sym c.deref-2.ensures.value) ∙ sym c.begins_at.ensures ∙ c.if-not-begins_at.false)
