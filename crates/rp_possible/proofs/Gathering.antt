-- Each node of the quorum promises, and the leader counts the promises until it offers.
use Rattle.std.proofs.Common.{◌≡◌, ℕ, suc, ◌<◌, ◌≤◌, false, Option, Some, None, Result, Ok, List, [], ◌∷◌, ◌++◌, length, inl, inr, refl, sym, ap, subst, ◌∙◌, arith}
use Rattle.rp_base.specs.Ballot.{ballot_of, round_of}
use Rattle.rp_base.specs.Majority.{is_majority}
use Rattle.rp_base.specs.Promises.{offer_of, promisers_of}
use Rattle.rp_base.specs.Records.{last_vote_at, first_unlearned}
use Rattle.rp_base.specs.Sets.{Has}
use Rattle.rp_base.specs.declared.action.Action.{Action}
use Rattle.rp_base.specs.declared.fault.Fault.{Fault}
use Rattle.rp_base.specs.declared.record.Rec.{Rec}
use Rattle.rp_base.specs.declared.record.Rec.TheVariants.{Promised}
use Rattle.rp_base.specs.declared.record.Vote.{Vote}
use Rattle.rp_base.proofs.Members.{has_split}
use Rattle.rp_model.specs.rp_codec.specs.Message.{Message}
use Rattle.rp_model.specs.rp_codec.specs.declared.packet.Body.TheVariants.{Prepare, Promise, Accept}
use Rattle.rp_model.specs.Effect as nodes
use Rattle.rp_model.specs.Effect.{Setting, running_effect}
use Rattle.rp_model.specs.Parts.{Running, Turn}
use Rattle.rp_model.specs.Pending.{own_action}
use Rattle.rp_model.specs.Says.{says, says_to_all, writes, sends}
use Rattle.rp_model.specs.World.{World, part_at}
use Rattle.rp_possible.proofs.Ballots.{is_of_round, is_owned}
use Rattle.rp_possible.proofs.Counts.{promises_of, promise_added, promised_by}
use Rattle.rp_possible.proofs.Growing.{IsAsked, HasPromised, one_promised}
use Rattle.rp_possible.proofs.Leading.{IsLed}
use Rattle.rp_possible.proofs.Packets.{part_last}
use Rattle.rp_possible.proofs.Plans.{gathers, hears, offering, promises, counts, offers}
use Rattle.rp_possible.specs.Rounds.{kept_after}
use Rattle.rp_possible.proofs.Stepping.{IsOn, IsMoved, with_written, known, known_self, delivered}
use Rattle.rp_possible.proofs.Walking.{IsBegun, within, is_node, IsNext, is_next, walked, few_done, all_done, wrote_self, wrote_other, wrote_nothing, is_other, AreSent, still_sent, now_sent}

module _ {S : Type 0} (s : Setting S) (quorum : List ℕ) (t first x : ℕ) (from : World) (records : ℕ → List Rec) (pending : List Action) (round : ℕ) (begun : IsBegun s quorum x records round) (long : first ≤ length from.sent) where
  abbrev p : ℕ
  p = first_unlearned (records x)

  abbrev b : ℕ
  b = ballot_of (suc round) x

  abbrev own : Action
  own = own_action (kept_after s (records x)) [] pending

  -- the last vote of each node before the round
  abbrev last : ℕ → Option Vote
  last y = last_vote_at (records y) p

  -- what the leader offers
  abbrev pub offered : Action
  offered = offer_of (Some own) (promises_of last quorum)

  abbrev knows : List ℕ → Running
  knows done = gathers pending p b own (promises_of last done)

  -- these nodes promised and were counted, the others are still asked
  pub record IsGathering (done rest : List ℕ) : Type 0 where
    pub w : World
    pub now : ℕ → List Rec
    pub on : IsOn s quorum t first x from w now (knows done)
    pub asked : (y : ℕ) → Has y rest → IsAsked p round (records y) (now y)
    pub promised : (y : ℕ) → Has y done → HasPromised p round b (records y) (now y)
    pub packets : AreSent quorum first x w (Prepare p b)

  -- all of them promised, and the leader offers
  pub record IsOffered : Type 0 where
    pub w : World
    pub now : ℕ → List Rec
    pub on : IsOn s quorum t first x from w now (hears pending (offering p b own (promises_of last quorum) ∷ []) [])
    pub promised : (y : ℕ) → Has y quorum → HasPromised p round b (records y) (now y)
    pub packets : AreSent quorum first x w (Accept p b offered)

  module _ (done : List ℕ) (y : ℕ) (rest : List ℕ) (is : quorum ≡ done ++ y ∷ rest) (gathering : IsGathering done (y ∷ rest)) where
    next : IsNext s.config.nodes quorum done y rest
    next = is_next s.config.nodes quorum done y rest begun.bare.nodes is

    -- what each wrote once the node has promised
    abbrev wrote : ℕ → List Rec
    wrote = with_written gathering.now y (Some (Promised p b))

    abbrev answer : Message
    answer = says y (Promise p b (last y)) x

    promises_now : IsMoved s quorum t first x from gathering.w (answer ∷ []) wrote (knows done)
    promises_now =
        let asked = gathering.asked y (inl refl) in
        let packet = gathering.packets y next.has in
        let node = is_node s quorum x records round begun x begun.bare.leader in
        let bounded = asked.bound in
        delivered s quorum t first x from gathering.w gathering.now (knows done) (knows done) y packet.0 (says x (Prepare p b) y)
        (writes (Promised p b) (known x y (knows done)) (answer ∷ [])) gathering.on next.has packet.1 packet.2 refl tt
        (record {
          result = promises s y x (gathering.now y) (known x y (knows done)) (within s quorum x records round begun x begun.bare.leader) p b begun.position
              (is_owned (suc round) x node) (omega (arith, bounded))
              ∙ ap (λ (l : Option Vote). let turn : Result Turn Fault = Ok (writes (Promised p b) (known x y (knows done)) (says y (Promise p b l) x ∷ [])) in turn) asked.vote;
          becomes = refl;
          others = inr refl;
        })

    answer_there : part_at promises_now.after.sent (suc (length gathering.w.sent)) ≡ Some answer
    answer_there = ap (λ (l : List Message). part_at l (suc (length gathering.w.sent))) promises_now.sent ∙ part_last gathering.w.sent answer

    answer_new : first < suc (length gathering.w.sent)
    answer_new = omega (arith, long, gathering.on.grows)

    -- the leader takes the promise
    taken : (after : Running) (packets : List Message)
        → running_effect s x (wrote x) (knows done) (nodes.Receive answer) ≡ Ok (sends after packets)
        → IsMoved s quorum t first x from promises_now.after packets (with_written wrote x None) after
    taken after packets result =
        delivered s quorum t first x from promises_now.after wrote (knows done) after x (suc (length gathering.w.sent)) answer (sends after packets) promises_now.on begun.bare.leader
        answer_new answer_there refl tt
        (record {
          result = ap (λ (r : Running). running_effect s x (wrote x) r (nodes.Receive answer)) (known_self x (knows done)) ∙ result;
          becomes = sym (known_self x after);
          others = inl refl;
        })

    still_asked : (z : ℕ) → Has z rest → IsAsked p round (records z) (with_written wrote x None z)
    still_asked z h =
        wrote_nothing (IsAsked p round (records z)) wrote x z
        (wrote_other (IsAsked p round (records z)) gathering.now y (Some (Promised p b)) z (is_other y z rest next.others h) (gathering.asked z (inr h)))

    one_has : HasPromised p round b (records y) (wrote y)
    one_has =
        let node = is_node s quorum x records round begun x begun.bare.leader in
        let low : round_of b ≡ suc round = is_of_round (suc round) x node in
        wrote_self (HasPromised p round b (records y)) gathering.now y (Some (Promised p b))
        (one_promised p round (records y) (gathering.now y) b (gathering.asked y (inl refl)) (omega arith) (omega (arith, low)))

    have_promised : (z : ℕ) → Has z (done ++ y ∷ []) → HasPromised p round b (records z) (with_written wrote x None z)
    have_promised z h =
        wrote_nothing (HasPromised p round b (records z)) wrote x z
        (elim (has_split z done (y ∷ []) h) [
          | inl old ↦ wrote_other (HasPromised p round b (records z)) gathering.now y (Some (Promised p b)) z (is_other y z done next.new old) (gathering.promised z old)
          | inr new ↦ elim new [ inl same ↦ subst (λ (k : ℕ). HasPromised p round b (records k) (wrote k)) (sym same) one_has | inr none ↦ absurd none ]
        ])

    counted : is_majority s.config.nodes (promisers_of (promises_of last (done ++ y ∷ []))) ≡ false → IsGathering (done ++ y ∷ []) rest
    counted few =
        let moved = taken (knows (done ++ y ∷ [])) []
        (counts s x p b (wrote x) pending own begun.position (promises_of last done) (promises_of last (done ++ y ∷ [])) y (last y)
        (within s quorum x records round begun y next.has) (promise_added last y done next.new) few) in
        record {
          w = moved.after;
          now = with_written wrote x None;
          on = moved.on;
          asked = still_asked;
          promised = have_promised;
          packets = still_sent quorum first x promises_now.after moved.after (Prepare p b) [] moved.sent
              (still_sent quorum first x gathering.w promises_now.after (Prepare p b) (answer ∷ []) promises_now.sent gathering.packets);
        }

  more : (done : List ℕ) (y z : ℕ) (rest : List ℕ) → quorum ≡ done ++ y ∷ z ∷ rest → IsGathering done (y ∷ z ∷ rest) → IsGathering (done ++ y ∷ []) (z ∷ rest)
  more done y z rest is gathering =
      counted done y (z ∷ rest) is gathering
      (promised_by last s.config.nodes (done ++ y ∷ []) (next done y (z ∷ rest) is gathering).are ∙ few_done s.config.nodes quorum done y z rest begun.bare.bare is)

  offers_now : (done : List ℕ) (y : ℕ) → quorum ≡ done ++ y ∷ [] → IsGathering done (y ∷ []) → IsOffered
  offers_now done y is gathering =
      let all = promised_by last s.config.nodes (done ++ y ∷ []) (next done y [] is gathering).are ∙ all_done s.config.nodes quorum done y begun.bare.bare is in
      let Moved : List ℕ → Type 0 = λ nodes. IsMoved s quorum t first x from (promises_now done y [] is gathering).after (says_to_all s.config.nodes x (Accept p b (offer_of (Some own) (promises_of last nodes))))
      (with_written (wrote done y [] is gathering) x None) (hears pending (offering p b own (promises_of last nodes) ∷ []) []) in
      let moved = subst Moved (sym is)
      (taken done y [] is gathering (hears pending (offering p b own (promises_of last (done ++ y ∷ [])) ∷ []) []) (says_to_all s.config.nodes x (Accept p b (offer_of (Some own) (promises_of last (done ++ y ∷ [])))))
      (offers s x p b (wrote done y [] is gathering x) pending own begun.position (promises_of last done) (promises_of last (done ++ y ∷ [])) y (last y)
      (within s quorum x records round begun y (next done y [] is gathering).has) (promise_added last y done (next done y [] is gathering).new) all)) in
      record {
        w = moved.after;
        now = with_written (wrote done y [] is gathering) x None;
        on = moved.on;
        promised = λ z h. have_promised done y [] is gathering z (subst (λ (l : List ℕ). Has z l) is h);
        packets = now_sent quorum first x (promises_now done y [] is gathering).after moved.after (Accept p b offered) s.config.nodes begun.bare.nodes
            (omega (arith, long, (promises_now done y [] is gathering).on.grows)) moved.sent;
      }

  pub all_promised : IsLed s quorum t first x from records pending round begun long → IsOffered
  all_promised is_led =
      walked quorum IsGathering IsOffered more offers_now x begun.bare.leader
      (record {
        w = is_led.w;
        now = is_led.now;
        on = is_led.on;
        asked = is_led.asked;
        promised = λ y h. absurd h;
        packets = is_led.packets;
      })
