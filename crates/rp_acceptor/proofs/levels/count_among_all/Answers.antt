use Rattle.std.proofs.Common.{rules, nat_lt}
use Rattle.std.proofs.lemmas.Bool.{ltb-true, ltb-false}
use Rattle.std.proofs.lemmas.List.Sorted.{IsPartitionPoint-from_clause, IsPartitionedBy-ltb}
use Rattle.rp_acceptor.specs.Levels.{Level}
use Rattle.rp_acceptor.proofs.levels.count_among_all.Goals as goal

pub returns : goal.returns
returns c =
    let point = IsPartitionPoint-from_clause (λ (s : Level). nat_lt s.from c.args.position) c.args.levels.now c.partition_point.result c.partition_point.ensures.partitioned
    (IsPartitionedBy-ltb (λ (s : Level). s.from) c.args.levels.now c.args.position c.requires) (λ a r f' k. search rules) in
    record {
      bound = search rules;
      below = λ k d from below. ltb-true _ _ (point.0 k d from below);
      not_below = λ k d from below. ltb-false _ _ (point.1 k d from below);
    }
