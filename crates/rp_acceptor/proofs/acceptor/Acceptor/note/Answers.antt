use Rattle.std.proofs.Common.{List, sym, subst}
use Rattle.rp_base.specs.declared.record.Rec.{Rec}
use Rattle.rp_acceptor.specs.Noted.{Noted, HasRoom}
use Rattle.rp_acceptor.specs.Slots.{AreKept}
use Rattle.rp_acceptor.proofs.Keeping.{ends_there, place_there, kept_noted}
use Rattle.rp_acceptor.proofs.acceptor.Acceptor.note.Goals as goal

pub raise_promised-requires : goal.raise_promised-requires
raise_promised-requires c =
    let noted : Noted = record { records = c.self.inside.records; reserved = c.self.inside.reserved; votes = c.self.inside.votes; ranges = c.self.inside.ranges } in
    ends_there c.self.inside.levels noted c.args.rec.now c.self.invariant.ends (subst (λ (n : Noted). HasRoom n c.args.rec.now) (sym c.self.view_is) c.requires.room)

pub note-requires : goal.note-requires
note-requires c = λ index h.
    let noted : Noted = record { records = c.self.inside.records; reserved = c.self.inside.reserved; votes = c.self.inside.votes; ranges = c.self.inside.ranges } in
    let room : HasRoom noted c.args.rec.now = subst (λ (n : Noted). HasRoom n c.args.rec.now) (sym c.self.view_is) c.requires.room in
    place_there c.self.inside.levels c.self.inside.pages.items noted c.args.rec.now index c.self.invariant room h

pub invariant_of-self : goal.invariant_of-self
invariant_of-self c =
    let noted : Noted = record { records = c.self.inside.records; reserved = c.self.inside.reserved; votes = c.self.inside.votes; ranges = c.self.inside.ranges } in
    subst (λ (l : List Rec). AreKept c.raise_promised.new.levels c.note.new.pages.items (record noted { records = l })) (sym c.push.ensures)
    (kept_noted c.self.inside.levels c.raise_promised.new.levels c.self.inside.pages.items c.note.new.pages.items noted c.args.rec.now
    c.raise_promised.ensures.raised c.raise_promised.ensures.keeps c.note.ensures.len c.note.ensures.noted c.self.invariant)
