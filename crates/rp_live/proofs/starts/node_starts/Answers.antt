-- One more node is ready.
use Rattle.std.proofs.Common.{◌≡◌, ◌++◌, map, All, arith, append-nil, sym, ap, subst, ◌∙◌}
use Rattle.rp_threads.specs.rp_codec.specs.declared.packet.Party.TheVariants.{Node}
use Rattle.rp_live.specs.Lines.{party_line}
use Rattle.rp_live.proofs.Seating.{all_more, none_left, one_ready}
use Rattle.rp_live.proofs.starts.node_starts.Goals as goal

pub loop-seat-preserved : goal.loop-seat-preserved
loop-seat-preserved g c =
    let starts = c.loop-seat.starts.items in
    let start = c.in_ok-node_start.field-0 in
    let grown = c.in_ok-push.ensures.items in
    let ready = c.in_ok-node_start.ensures in
    record {
      seats = one_ready (λ s. s.seat) starts c.push.new.self.items start c.in-Some.seat c.loop-seat.seat-iterator.rest.items c.next.new.self.rest.items c.args.seats.items
          grown ready.seat c.in-Some.ensures.steps.0 c.loop-seat.invariant.seats;
      lines = subst (All (λ s. s.line ≡ party_line c.args.seed (Node s.seat.setup.number))) (sym grown)
          (all_more (λ s. s.line ≡ party_line c.args.seed (Node s.seat.setup.number)) starts start c.loop-seat.invariant.lines (ready.line ∙ ap (λ s. party_line c.args.seed (Node s.setup.number)) (sym ready.seat)));
    }

pub returns-clause-seats : goal.returns-clause-seats
returns-clause-seats g c =
    let left = c.loop-seat.seat-iterator.rest in
    let none = none_left left.items (omega (arith, left.ok.0, c.in-None.ensures.steps.0)) in
    sym (append-nil _) ∙ ap (λ l. map (λ s. s.seat) c.loop-seat.starts.items ++ l) (sym none) ∙ c.loop-seat.invariant.seats
