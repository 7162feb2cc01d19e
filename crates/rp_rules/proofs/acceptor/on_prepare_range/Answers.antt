use Rattle.std.proofs.Common.{suc}
use Rattle.std.specs.Prelude.{nat_le}
use Rattle.std.proofs.lemmas.Bool.{and_parts, leb-true}
use Rattle.rp_server.specs.rp_acceptor.proofs.Answering.{above_all, refused_below}
use Rattle.rp_base.specs.Ranges.{end_of}
use Rattle.rp_rules.proofs.acceptor.on_prepare_range.Goals as goal

pub returns-in-Above-clause-may : goal.returns-in-Above-clause-may
returns-in-Above-clause-may g c =
    let h = c.args.server.now in
    let range = c.args.range in
    let most = h.config.max_positions in
    let within = and_parts (nat_le range.first most) (nat_le (end_of range) (suc most)) c.requires.place in
    let above = above_all h.records range c.args.ballot c.in-Above.ensures in
    (leb-true range.first most within.0, c.range_votes_are_reported.ensures.reported h.records range c.args.ballot c.has_right_records.ensures above)

pub returns-in-Below-clause-may : goal.returns-in-Below-clause-may
returns-in-Below-clause-may g c = refused_below c.args.server.now.records c.args.range c.args.ballot c.in-Below.position c.in-Below.bound c.in-Below.ensures
