use Rattle.std.proofs.Common.{List, ℕ, sym, subst}
use Rattle.rp_acceptor.specs.Noted.{Noted}
use Rattle.rp_acceptor.specs.Slots.{AreKept}
use Rattle.rp_acceptor.proofs.Keeping.{kept_vote}
use Rattle.rp_acceptor.proofs.acceptor.Acceptor.reserve_vote.Goals as goal

pub invariant_of-self-2 : goal.invariant_of-self-2
invariant_of-self-2 c =
    let noted : Noted = record { records = c.self.inside.records; reserved = c.self.inside.reserved; votes = c.self.inside.votes; ranges = c.self.inside.ranges } in
    subst (λ (l : List ℕ). AreKept c.self.inside.levels c.make.new.pages.items (record noted { votes = l })) (sym c.push.ensures)
    (kept_vote c.self.inside.levels c.self.inside.pages.items c.make.new.pages.items noted c.index_of_position.result c.args.position c.index_of_position.ensures
    c.in_ok-make.ensures.more c.in_ok-make.ensures.made c.self.invariant)
