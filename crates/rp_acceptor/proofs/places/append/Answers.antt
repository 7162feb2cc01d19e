use Rattle.std.proofs.Common.{◌≡◌, ℕ, ◌+◌, ◌<◌, Vec, Global, List, [], ◌∷◌, ◌++◌, Option, Some, None, length, length-append, drop, sym, ap, ◌∙◌, arith}
use Rattle.std.specs.Prelude.{option_copied, option_to_list}
use Rattle.std.specs.List.{cons_option}
use Rattle.std.proofs.lemmas.List.{append-nil, drop_all, drop_more}
use Rattle.rp_base.specs.declared.placed.PlacedVote.{PlacedVote}
use Rattle.rp_base.specs.declared.record.Vote.{Vote}
use Rattle.rp_acceptor.specs.Slots.{Kept, votes_from, placed_if}
use Rattle.rp_acceptor.proofs.Pages.{on_err}
use Rattle.rp_acceptor.proofs.Placing.{one_left, one_place}
use Rattle.rp_acceptor.proofs.places.append.Goals as goal
use Rattle.rp_acceptor.proofs.places.append.Goals.{in-Some+in_ok-push, in_default}

pub returns-in_err-push-clause-full : goal.returns-in_err-push-clause-full
returns-in_err-push-clause-full c =
    let places : List Kept = c.args.places.now in
    let offset : ℕ = c.loop-offset.offset in
    let from : ℕ = c.args.range.first + c.args.first in
    let votes : List PlacedVote = c.loop-offset.votes.items in
    let rest : List Kept = drop (offset + 1) places in
    let within : offset < length places = omega (arith, c.loop-offset-test.true) in
    let kept : Kept = c.index-places-offset.result in
    let left : drop offset places ≡ kept ∷ rest = drop_more places offset kept within ∙ ap (λ (k : Kept). k ∷ rest) (sym c.index-places-offset.is) in
    let last : kept.last ≡ Some c.in-Some.vote.now = sym c.last.ensures ∙ ap option_copied c.in-Some.is in
    on_err c.from_residual.result
    (one_left c.args.votes.now.items votes (votes_from from places) (votes_from (from + offset + 1) rest) (record { position = from + offset; vote = c.in-Some.vote.now })
    (ap (λ (o : Option Vote). votes ++ cons_option (placed_if (from + offset) o) (votes_from (from + offset + 1) rest)) (sym last)
    ∙ ap (λ (l : List Kept). votes ++ votes_from (from + offset) l) (sym left) ∙ c.loop-offset.invariant.all) c.loop-offset.invariant.more)

pub loop-offset-preserved : goal.loop-offset-preserved
loop-offset-preserved c =
    let places : List Kept = c.args.places.now in
    let offset : ℕ = c.loop-offset.offset in
    let from : ℕ = c.args.range.first + c.args.first in
    let votes : List PlacedVote = c.loop-offset.votes.items in
    let kept : Kept = c.index-places-offset.result in
    let within : offset < length places = omega (arith, c.loop-offset-test.true) in
    let added : c.match-last.votes.items ≡ votes ++ option_to_list (placed_if (from + offset) kept.last) =
    elim c.match-last.branch [
      | in-Some+in_ok-push w ↦
          let last : kept.last ≡ Some w.in-Some.vote.now = sym c.last.ensures ∙ ap option_copied w.in-Some.is in
          let position : w.at.result ≡ from + offset = omega (arith, w.at.ensures) in
          ap (λ (v : Vec PlacedVote Global). v.items) w.votes-is ∙ w.in_ok-push.ensures.items
          ∙ ap (λ (p : ℕ). votes ++ record { position = p; vote = w.in-Some.vote.now } ∷ []) position
          ∙ ap (λ (o : Option Vote). votes ++ option_to_list (placed_if (from + offset) o)) (sym last)
      | in_default w ↦
          let last : kept.last ≡ None = sym c.last.ensures ∙ ap option_copied w.in_default.is in
          ap (λ (v : Vec PlacedVote Global). v.items) w.votes-is ∙ sym (append-nil votes)
          ∙ ap (λ (o : Option Vote). votes ++ option_to_list (placed_if (from + offset) o)) (sym last)
    ] in
    record {
      all = one_place from offset places kept votes c.match-last.votes.items (c.args.votes.now.items ++ votes_from from places) within c.index-places-offset.is added c.loop-offset.invariant.all;
      more = omega (arith, ap length added, length-append votes (option_to_list (placed_if (from + offset) kept.last)), c.loop-offset.invariant.more);
    }

pub returns-clause-added : goal.returns-clause-added
returns-clause-added c =
    let offset : ℕ = c.loop-offset.offset in
    let from : ℕ = c.args.range.first + c.args.first in
    let votes : List PlacedVote = c.loop-offset.votes.items in
    sym (append-nil votes)
    ∙ ap (λ (l : List Kept). votes ++ votes_from (from + offset) l) (sym (drop_all offset c.args.places.now c.loop-offset-test.false))
    ∙ c.loop-offset.invariant.all
