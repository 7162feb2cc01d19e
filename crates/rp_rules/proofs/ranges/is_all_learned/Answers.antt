use Rattle.std.proofs.Common.{◌≡◌, ◌+◌, ◌∙◌, ℕ, true, false, not, is_some, is_none, ap, sym, arith}
use Rattle.std.specs.Prelude.{nat_eq, length}
use Rattle.rp_base.specs.Records.{learned_at}
use Rattle.rp_server.proofs.Covered.{passes_not, passes_some, none_is}
use Rattle.rp_rules.proofs.ranges.is_all_learned.Goals as goal

pub loop-index-preserved : goal.loop-index-preserved
loop-index-preserved g c =
    let h = c.args.server.now in
    let i = c.args.range.first + c.loop-index.index in
    let learned : is_none (learned_at h.records i) ≡ false =
    sym (none_is (learned_at h.records i) c.is_learned.result (c.is_learned.ensures ∙ ap (λ (k : ℕ). is_some (learned_at h.records k)) c.at.ensures)) ∙ ap not c.if-not-is_learned.false in
    passes_not (λ k. is_none (learned_at h.records k)) c.args.range.first c.args.range.count c.loop-index.index (omega (arith, c.loop-index-test.true, c.count-index-end.ensures.value)) learned ∙ c.loop-index.invariant

pub returns-then-not-is_learned : goal.returns-then-not-is_learned
returns-then-not-is_learned g c =
    let h = c.args.server.now in
    let i = c.args.range.first + c.loop-index.index in
    let unlearned : is_none (learned_at h.records i) ≡ true =
    sym (none_is (learned_at h.records i) c.is_learned.result (c.is_learned.ensures ∙ ap (λ (k : ℕ). is_some (learned_at h.records k)) c.at.ensures)) ∙ ap not c.if-not-is_learned.true in
    sym (ap (λ is. nat_eq (length is) 0) (sym c.loop-index.invariant) ∙ passes_some (λ k. is_none (learned_at h.records k)) c.args.range.first c.args.range.count c.loop-index.index (omega (arith, c.loop-index-test.true, c.count-index-end.ensures.value)) unlearned)
