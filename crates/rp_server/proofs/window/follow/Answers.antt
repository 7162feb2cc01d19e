-- The window begins after what was taken, and its marks are what the log learned.
use Rattle.std.proofs.Common.{◌≡◌, ◌∙◌, ◌+◌, ◌-◌, ℕ, None, is_some, inl, inr, sym, ap, subst, lt-ltb, arith}
use Rattle.std.specs.Prelude.{nat_eq, nat_le, nat_lt, filter}
use Rattle.std.specs.List.{list_any}
use Rattle.std.proofs.lemmas.Bool.{cases_lt, or_left}
use Rattle.rp_base.specs.Promises.{HeardVote}
use Rattle.rp_base.specs.Sets.{SameMembers}
use Rattle.rp_base.specs.Number.{window}
use Rattle.rp_log.specs.Contents.{action_at, next_to_take, ready_of}
use Rattle.rp_server.specs.Invariant.{IsSettledAlike}
use Rattle.rp_server.proofs.window.follow.Goals as goal

pub returns : goal.returns
returns c =
    let log = c.args.log.now in
    let after = c.advance.new.self in
    let first = c.next_unlearned-first.result in
    let ready : ready_of log ≡ None = c.requires.none in
    let next : first ≡ next_to_take log = c.next_unlearned-first.ensures.taken ready in
    let begins : after.first ≡ first = c.advance.ensures.begins in
    let settled : IsSettledAlike after log = λ j low within.
    elim (cases_lt j first) [
      | inl below ↦
          or_left (nat_lt j after.first) (list_any (nat_eq j) after.settled) (lt-ltb j after.first (omega (arith, below, begins)))
          ∙ sym (c.next_unlearned-first.ensures.below j low below)
      | inr above ↦
          let at : first + (j - first) ≡ j = omega (arith, above) in
          elim (cases_lt j (c.args.learner.now.first + window)) [
            | inl near ↦ c.advance.ensures.stays j above near ∙ c.requires.alike j low near
            | inr far ↦
                c.advance.ensures.opens j above far (omega (arith, within, begins))
                ∙ c.learned_bits.ensures (j - first) (omega (arith, above, within, begins)) (omega (arith, above, far, c.first-entered.ensures))
                ∙ ap (λ (k : ℕ). is_some (action_at log k)) at
          ]
    ] in
    record {
      nodes = c.advance.ensures.nodes;
      positions = c.advance.ensures.positions;
      first = begins ∙ next;
      heard = subst (λ (n : ℕ). SameMembers after.heard (filter (λ (h : HeardVote). nat_le n h.1) c.args.learner.now.heard)) next c.advance.ensures.heard;
      settled = settled;
    }
