use Rattle.std.proofs.Common.{inl, inr, ◌≡◌, ◌∙◌, sym, ℕ, ◌+◌, ◌&&◌, ◌||◌, ◌≤◌, ◌<◌, Bool, true, false, Result, Ok, Err, arith}
use Rattle.std.specs.Prelude.{OnErr, nat_le, nat_lt, nat_eq, min}
use Rattle.std.proofs.lemmas.Bool.Decides.{nat_tests}
use Rattle.std.proofs.str.Laws.{order}
use Rattle.rp_run.proofs.Among.{among_from_to}
use Rattle.rp_run.proofs.settled.Settled.settle_all.Goals as goal

on_err : {A E : Type 0} (answer : Result A E) (P : Type 0) → P → OnErr answer P
on_err (Ok done) P p = tt
on_err (Err fault) P p = p

-- what was settled before one of the messages was out of memory, by the invariant
not_yet : (first last here m : ℕ) (now old : Bool) → here ≤ last → now ≡ ((nat_le first m && nat_lt m (min here (last + 1))) || old)
    → (nat_le first m && nat_le m last) ≡ false → now ≡ old
not_yet first last here m now old within settled outside = grind (arith, nat_tests, settled, outside)

pub returns-in_err-settle-clause-kept : goal.returns-in_err-settle-clause-kept
returns-in_err-settle-clause-kept c =
    on_err c.from_residual.result _ (λ m was. grind (arith, c.in_err-settle.ensures.err m, c.loop-message.invariant.settled m, was))

pub returns-in_err-settle-clause-others : goal.returns-in_err-settle-clause-others
returns-in_err-settle-clause-others c =
    on_err c.from_residual.result _ (λ m outside.
    c.in_err-settle.ensures.err m
    ∙ not_yet c.args.first c.args.last c.loop-message.message m _ _ (omega (arith, c.loop-message-test.true)) (c.loop-message.invariant.settled m)
    (sym (among_from_to c.args.first c.args.last m c.requires.from_one) ∙ outside))

-- one message more, and those after it that were settled already
one_more : (first last here next m : ℕ) (now before old : Bool) → first ≤ here → here ≤ last → here + 1 ≤ next → now ≡ (nat_eq m here || before)
    → before ≡ ((nat_le first m && nat_lt m (min here (last + 1))) || old) → (here + 1 ≤ m → m < next → now ≡ true)
    → now ≡ ((nat_le first m && nat_lt m (min next (last + 1))) || old)
one_more first last here next m now before old above within further settles was passed = elim (order m (here + 1)) [
  | inl low ↦ grind (arith, nat_tests, settles, was)
  | inr high ↦ elim (order m next) [
    | inl between ↦ grind (arith, nat_tests, settles, was, passed high between)
    | inr beyond ↦ grind (arith, nat_tests, settles, was)
  ]
]

pub loop-message-preserved : goal.loop-message-preserved
loop-message-preserved c =
    let moved = c.next_unsettled-message-in-loop-message.ensures in
    let here = c.loop-message.message in
    let next = c.next_unsettled-message-in-loop-message.result in
    record {
      above = omega (arith, c.loop-message.invariant.above, moved.from);
      unsettled = moved.same next ∙ moved.unsettled;
      settled = λ m. moved.same m
          ∙ one_more c.args.first c.args.last here next m _ _ _ c.loop-message.invariant.above (omega (arith, c.loop-message-test.true)) moved.from
          (c.in_ok-settle.ensures.ok m) (c.loop-message.invariant.settled m) (moved.least m);
    }

pub returns-clause-ok : goal.returns-clause-ok
returns-clause-ok c = λ m. grind (arith, nat_tests, among_from_to c.args.first c.args.last m c.requires.from_one, c.loop-message.invariant.settled m)
