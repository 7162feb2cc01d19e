-- The packet is put, or given back.
use Rattle.rp_codec.specs.declared.packet.Party.TheVariants.{Node}
use Rattle.rp_threads.proofs.Puts.{given_back, went_in}
use Rattle.rp_threads.proofs.sends.put_text.Goals as goal

pub returns-in-Ok-clause-fate : goal.returns-in-Ok-clause-fate
returns-in-Ok-clause-fate g c = let m = g.M.Machine in went_in m.next m.answers m.begin Node c.args.packet.items c.args.seat.now c.put.new.self c.in-Ok.ensures.put c.in-Ok.ensures.full

pub returns-in-Err-clause-fate : goal.returns-in-Err-clause-fate
returns-in-Err-clause-fate g c = let m = g.M.Machine in given_back m.next m.answers m.begin Node c.args.packet.items c.args.seat.now c.put.new.self _ c.lend.ensures c.in-Err.ensures.unchanged c.in-Err.ensures.used
