use Rattle.std.proofs.Common.{sym, subst}
use Rattle.rp_acceptor.specs.Noted.{Noted, HasRoom}
use Rattle.rp_acceptor.proofs.Keeping.{room_made}
use Rattle.rp_acceptor.proofs.acceptor.Acceptor.reserve_and_note.Goals as goal

pub note-requires : goal.note-requires
note-requires c =
    record { room = subst (λ (n : Noted). HasRoom n c.args.rec.now) (sym c.in_ok-reserve_for.ensures.ok) (room_made c.args.self.now c.args.rec.now) }
