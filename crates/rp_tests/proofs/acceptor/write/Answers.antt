use Rattle.std.proofs.Common.{◌≡◌, List, ℕ, [], ◌∷◌, sym, subst}
use Rattle.rp_codec.specs.rp_base.specs.declared.record.Rec.{Rec}
use Rattle.rp_codec.specs.rp_base.specs.declared.record.Rec.TheVariants.{Started, Promised, Voted, Learned, PromisedRange}
use Rattle.rp_codec.specs.rp_base.specs.Ranges.{Range}
use Rattle.rp_codec.specs.rp_base.specs.Sets.{Has}
use Rattle.rp_codec.specs.rp_base.proofs.Members.{has_right}
use Rattle.rp_acceptor.specs.Noted.{Noted, HasRoom, places_in, ranges_in, reserves}
use Rattle.rp_tests.proofs.acceptor.write.Goals as goal

-- room made at a position serves a promise or a vote there
room_at : (noted : Noted) (position : ℕ) (rec : Rec) → places_in rec ≡ position ∷ [] → ranges_in rec ≡ [] → HasRoom (reserves noted position) rec
room_at noted position (Started ballot) place none = record { promise = λ i h. absurd h; vote = λ i h. absurd h; range = λ r h. absurd h }
room_at noted position (Promised at ballot) place none = record {
  promise = λ i h. has_right i noted.reserved (position ∷ []) (subst (λ (l : List ℕ). Has i l) place h);
  vote = λ i h. absurd h;
  range = λ r h. absurd h;
}
room_at noted position (Voted at ballot action) place none = record {
  promise = λ i h. absurd h;
  vote = λ i h. has_right i noted.votes (position ∷ []) (subst (λ (l : List ℕ). Has i l) place h);
  range = λ r h. absurd h;
}
room_at noted position (Learned at action) place none = record { promise = λ i h. absurd h; vote = λ i h. absurd h; range = λ r h. absurd h }
room_at noted position (PromisedRange range ballot) place none = record {
  promise = λ i h. absurd h;
  vote = λ i h. absurd h;
  range = λ r h. absurd (subst (λ (l : List Range). Has r l) none h);
}

pub note-requires : goal.note-requires
note-requires c after =
    let reserved = rw after.expect.ensures at after.reserve.ensures.ok in
    record {
      room =
          subst (λ (noted : Noted). HasRoom noted after.args.rec.now) (sym reserved)
          (room_at after.args.acceptor.now after.args.position after.args.rec.now after.requires.place after.requires.no_range);
    }
