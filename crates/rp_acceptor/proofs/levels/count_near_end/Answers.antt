use Rattle.std.proofs.Common.{◌≡◌, ℕ, suc, ◌-◌, ◌<◌, length, ap, subst, arith}
use Rattle.std.specs.Prelude.{slice_index_or}
use Rattle.std.specs.List.{AllWithin}
use Rattle.rp_acceptor.specs.Levels.{Level}
use Rattle.rp_acceptor.proofs.Splitting.{all_below}
use Rattle.rp_acceptor.proofs.levels.count_near_end.Goals.{then-count-eq0-via-then-count-eq0, then-count-eq0-via-else-count-eq0+then-from-position}
use Rattle.rp_acceptor.proofs.levels.count_near_end.Goals as goal

pub returns-then-count-eq0 : goal.returns-then-count-eq0
returns-then-count-eq0 c =
    let count : ℕ = c.loop.count in
    let is = c.loop.invariant in
    elim c.then-count-eq0.branch [
      | then-count-eq0-via-then-count-eq0 w ↦
          let none = w.if-count-eq0.true in
          record { bound = is.bound; below = λ k d from below. absurd (omega (arith, below, none)); not_below = is.not_below }
      | then-count-eq0-via-else-count-eq0+then-from-position w ↦
          let last : ℕ = count - 1 in
          let some : ¬ (count ≡ 0) = w.if-count-eq0.false in
          let more : suc last ≡ count = omega (arith, some) in
          let within : last < length c.args.levels.now = omega (arith, is.bound, more) in
          let d : Level = w.index-levels-count.result in
          let here = ap (λ (s : Level). s.from) w.index-levels-count.is in
          let low : (slice_index_or c.args.levels.now last d).from < c.args.position = omega (arith, here, w.from.ensures, w.if-from-position.true) in
          record {
            bound = is.bound;
            below = subst (λ (n : ℕ). AllWithin (λ s. s.from < c.args.position) c.args.levels.now 0 n) more (all_below c.args.levels.now c.args.position last d c.requires within low);
            not_below = is.not_below;
          }
    ]
