-- Whether something is pending at a seat's node that did not count yet.
use Rattle.std.proofs.Common.{◌≡◌, Bool, true, false, Some, None, List, refl, sym, ap, subst, ◌∙◌}
use Rattle.rp_base.specs.Records.{applied_of}
use Rattle.rp_base.specs.declared.action.Action.{Action}
use Rattle.rp_base.specs.declared.reply.Answer.{Answer}
use Rattle.rp_model.specs.rp_machine.specs.Replay.{counted_of}
use Rattle.rp_model.specs.Parts.{NodePart, Running}
use Rattle.rp_actors.specs.rp_replica.specs.State.{ReplicaState, part_of}
use Rattle.rp_actors.specs.rp_server.specs.Free.{has_uncounted}
use Rattle.rp_actors.specs.Nodes.{Member, RestsAs, RunsAs, RepresentsWhile, member_of}
use Rattle.rp_board.specs.Parts.{Role, OfNode}
use Rattle.rp_board.specs.Seats.{SeatState}
use Rattle.rp_boxes.specs.NodeSeats.{IsNodeAt, HasUncounted}

same_node : (role : Role) (a b : NodePart) → role ≡ OfNode a → role ≡ OfNode b → a ≡ b
same_node role a b is_a is_b = let e : OfNode a ≡ OfNode b = sym is_a ∙ is_b in cc

same_running : (a b : Running) → Some a ≡ Some b → a ≡ b
same_running a b e = cc

module _ {S P : Type 0} (next : S → Action → S) (answers : S → Action → List Answer) (begin : P → S) (seat : SeatState P) (replica : ReplicaState S)
    (place : IsNodeAt begin replica seat.setup seat.part.role) where
  abbrev member : Member S
  member = member_of seat.setup.number seat.setup.config (begin seat.setup.program)

  abbrev is_uncounted : Bool
  is_uncounted = has_uncounted (counted_of next answers replica.begin (applied_of replica.records)) replica.running.pending

  runs : replica.failed ≡ false → RunsAs member replica place.node
  runs working = subst (λ (b : Bool). RepresentsWhile member replica place.node b) working place.represents

  pub some_uncounted : replica.failed ≡ false → is_uncounted ≡ true → HasUncounted next answers begin seat
  some_uncounted working is =
      let r = runs working in
      record {
        node = part_of replica;
        is = place.is ∙ ap OfNode r.known;
        running = replica.running;
        runs = refl;
        uncounted = subst (λ (b : S). has_uncounted (counted_of next answers b (applied_of replica.records)) replica.running.pending ≡ true) r.begin is;
      }

  pub none_failed : replica.failed ≡ true → HasUncounted next answers begin seat → ⊥
  none_failed failed h =
      let rests : RestsAs member.config.max_positions replica.disk place.node = subst (λ (b : Bool). RepresentsWhile member replica place.node b) failed place.represents in
      let clash : Some h.running ≡ None = sym h.runs ∙ ap (λ (n : NodePart). n.running) (same_node seat.part.role h.node place.node h.is place.is) ∙ rests.stopped in
      absurd (cc)

  pub none_counted : replica.failed ≡ false → is_uncounted ≡ false → HasUncounted next answers begin seat → ⊥
  none_counted working is h =
      let r = runs working in
      let same : h.node ≡ part_of replica = same_node seat.part.role h.node place.node h.is place.is ∙ r.known in
      let running : h.running ≡ replica.running = same_running h.running replica.running (sym h.runs ∙ ap (λ (n : NodePart). n.running) same) in
      let here : has_uncounted (counted_of next answers (begin seat.setup.program) (applied_of replica.records)) h.running.pending ≡ true =
      subst (λ (n : NodePart). has_uncounted (counted_of next answers (begin seat.setup.program) (applied_of n.records)) h.running.pending ≡ true) same h.uncounted in
      let there : has_uncounted (counted_of next answers (begin seat.setup.program) (applied_of replica.records)) replica.running.pending ≡ true =
      subst (λ (known : Running). has_uncounted (counted_of next answers (begin seat.setup.program) (applied_of replica.records)) known.pending ≡ true) running here in
      let whole : is_uncounted ≡ true =
      subst (λ (b : S). has_uncounted (counted_of next answers b (applied_of replica.records)) replica.running.pending ≡ true) (sym r.begin) there in
      let clash : true ≡ false = sym whole ∙ is in
      absurd (cc)
