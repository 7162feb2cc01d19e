use Rattle.std.proofs.Common.{◌++◌, ◌∷◌, [], List, ℕ, sym, subst}
use Rattle.rp_base.specs.Sets.{Has}
use Rattle.rp_acceptor.specs.Noted.{Noted}
use Rattle.rp_acceptor.specs.Slots.{AreKept}
use Rattle.rp_acceptor.proofs.Pages.{on_err, not_reserved}
use Rattle.rp_acceptor.proofs.Keeping.{kept_both}
use Rattle.rp_acceptor.proofs.acceptor.Acceptor.reserve.Goals as goal

pub returns-in_err-make-clause-full : goal.returns-in_err-make-clause-full
returns-in_err-make-clause-full c =
    on_err c.from_residual.result (λ h.
    not_reserved c.self.inside.pages.items c.self.inside.votes c.self.inside.records c.index_of_position.result c.args.position c.index_of_position.ensures c.self.invariant.kept c.in_err-make.ensures.full
    (c.self.invariant.both c.args.position (subst (λ (n : Noted). Has c.args.position n.reserved) (sym c.self.view_is) h)))

pub invariant_of-self-2 : goal.invariant_of-self-2
invariant_of-self-2 c =
    let noted : Noted = record { records = c.self.inside.records; reserved = c.self.inside.reserved; votes = c.self.inside.votes; ranges = c.self.inside.ranges } in
    subst (λ (l : List ℕ). AreKept c.self.inside.levels c.make.new.pages.items (record noted { reserved = l; votes = c.push-2.new.self })) (sym c.push.ensures)
    (subst (λ (l : List ℕ). AreKept c.self.inside.levels c.make.new.pages.items (record noted { reserved = noted.reserved ++ c.args.position ∷ []; votes = l })) (sym c.push-2.ensures)
    (kept_both c.self.inside.levels c.self.inside.pages.items c.make.new.pages.items noted c.index_of_position.result c.args.position c.index_of_position.ensures
    c.in_ok-make.ensures.more c.in_ok-make.ensures.made c.self.invariant))
