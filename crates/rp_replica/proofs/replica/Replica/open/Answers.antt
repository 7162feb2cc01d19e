use Rattle.std.proofs.Common.{List, sym, subst, ◌∙◌}
use Rattle.std.specs.List.{AllByRecursion}
use Rattle.rp_base.specs.declared.record.Rec.{Rec}
use Rattle.rp_base.specs.Right.{IsRightRecord}
use Rattle.rp_model.specs.Parts.{is_in_log}
use Rattle.rp_rules.specs.rp_server.specs.Invariant.{AllInLog}
use Rattle.rp_rules.proofs.Answering.{right_records}
use Rattle.rp_replica.proofs.Keeping.{all_in_log}
use Rattle.rp_replica.proofs.replica.Replica.open.Goals as goal

pub restart-requires-clause-within : goal.restart-requires-clause-within
restart-requires-clause-within g c =
    let most = c.args.config.max_positions in
    subst (λ (rs : List Rec). AllInLog most rs) (sym (c.deref.ensures.value ∙ c.skip.ensures)) (all_in_log most c.in_ok-store.field-0.records.items)

pub restart-requires-clause-right : goal.restart-requires-clause-right
restart-requires-clause-right g c =
    let most = c.args.config.max_positions in
    subst (λ (rs : List Rec). AllByRecursion IsRightRecord rs) (sym (c.deref.ensures.value ∙ c.skip.ensures))
    (right_records (is_in_log most) c.in_ok-store.field-0.records.items c.in_ok-store.ensures.ok.kept.each)
