-- Callers who break one rule, played: what two nodes have applied then.
use Rattle.std.proofs.Common.{◌≡◌, ℕ, ◌≤◌, Bool, true, ◌&&◌, Some, None, Ok, List, [], ◌∷◌, ◌++◌, length, inl, inr, refl, subst, is_some, is_none, slice_get}
use Rattle.std.specs.List.{AllByRecursion}
use Rattle.std.proofs.lemmas.Bool.{and_parts}
use Rattle.rp_agreement.specs.Order.{AreAlike}
use Rattle.rp_base.specs.Sets.{Has}
use Rattle.rp_base.specs.declared.action.Action.{Action}
use Rattle.rp_base.specs.declared.action.Action.TheVariants.{Noop}
use Rattle.rp_requests.specs.rp_codec.specs.Message.{Message, IsPacket}
use Rattle.rp_requests.specs.rp_codec.specs.Text.{text_of, number_text}
use Rattle.rp_requests.specs.rp_codec.specs.declared.packet.Body.TheVariants as bodies
use Rattle.rp_requests.specs.rp_model.specs.Effect.{NodeInput}
use Rattle.rp_requests.specs.rp_model.specs.Effect as inputs
use Rattle.rp_requests.specs.rp_model.specs.Says.{says, says_to_all, says_to_others}
use Rattle.rp_requests.specs.rp_model.specs.World.{part_at}
use Rattle.rp_world.specs.rp_outbox.specs.Packets.{texts_of}
use Rattle.rp_requests.specs.Texts.{step_text, FitsStep, task_request_text, FitsTaskRequest}
use Rattle.rp_requests.specs.TaskRequests.{TaskAsked, task_asked_of}
use Rattle.rp_requests.specs.Nodes.{step_bytes}
use Rattle.rp_requests.specs.Requests.{Step, asked_of}
use Rattle.rp_installations.specs.Outcomes.{applied_by}
use Rattle.rp_installations.specs.Sites.{closed_over, nothing_opened}
use Rattle.rp_installations.specs.Breaches.{Callers, MoveOr, MovesOr, TwoDiffer, HandsOnUnsynced, GetsForgedPacket, GetsOtherDevice}
use Rattle.rp_installations.proofs.Deeds.{Deed, Open, Take, Keep, Hand, Close, Break, site_at, node_at, step_at, no_packets, same_bytes, same_is, some_is, none_is, has_at, plays, AllFit, plays_lead}
use Rattle.rp_installations.proofs.Moving.{forges, hands_early, gets_device, with_packet, on_device}
use Rattle.rp_installations.proofs.Packets.{node_1, node_2, node_3, occurrence, right_occurrence, position, prepare_is, promise_is, accept_is, accepted_is, decided_is, all_prepare, all_accept, others_decided}

-- neither is a prefix of the other
apart : ¬ AreAlike (occurrence ∷ []) (Noop ∷ [])
apart alike = elim alike [
  | inl longer ↦ (let e : Noop ∷ [] ≡ (occurrence ∷ []) ++ longer.0 = longer.1 in absurd (cc))
  | inr longer ↦ (let e : occurrence ∷ [] ≡ (Noop ∷ []) ++ longer.0 = longer.1 in absurd (cc))
]

-- a node is open, and has applied this
record Shows (i : Callers) (me : ℕ) (applied : List Action) : Type 0 where
  pub here : part_at i.nodes me ≡ Some (site_at i me)
  pub opened : (site_at i me).node ≡ Some (node_at i me)
  pub appended : (site_at i me).appended ≡ []
  pub given : (site_at i me).given ≡ []
  pub applied_is : applied_by (node_at i me) ≡ applied

differ : (Breaks : Callers → Callers → Type 0) (i : Callers) → (moves : List Callers) → MovesOr Breaks (nothing_opened 3) moves i → (x y : ℕ) → Shows i x (occurrence ∷ []) → Shows i y (Noop ∷ []) → TwoDiffer Breaks
differ Breaks i moves all x y one other = record {
  moves = moves;
  now = i;
  all = all;
  x = x;
  y = y;
  site = site_at i x;
  other_site = site_at i y;
  one = node_at i x;
  other = node_at i y;
  here = record { site_is = one.here; node_is = one.opened };
  there = record { site_is = other.here; node_is = other.opened };
  synced = record { appended = one.appended; given = one.given };
  other_synced = record { appended = other.appended; given = other.given };
  differ = λ alike. apart (subst (λ (p : List Action × List Action). AreAlike p.0 p.1) (λ i. (one.applied_is i, other.applied_is i)) alike);
}

-- ---- packets that nobody sent

abbrev forged_to : List ℕ → Callers → Callers
forged_to packet i = with_packet i packet

abbrev any_packet : List ℕ → Callers → Bool
any_packet packet i = true

abbrev any_fits : List ℕ → Type 0
any_fits packet = Unit {0}

forging : (packet : List ℕ) (i : Callers) → any_fits packet → any_packet packet i ≡ true → MoveOr GetsForgedPacket i (forged_to packet i)
forging packet i fits e = forges i packet

abbrev forged : List (Deed (List ℕ))
forged =
    Open 1
    ∷ Open 2
    ∷ Break (text_of (says 3 (bodies.Decided 1 occurrence) 1))
    ∷ Break (text_of (says 3 (bodies.Decided 1 Noop) 2))
    ∷ Take 1 (inputs.NodeInput.Receive (says 3 (bodies.Decided 1 occurrence) 1)) 0
    ∷ Keep 1
    ∷ Take 2 (inputs.NodeInput.Receive (says 3 (bodies.Decided 1 Noop) 2)) 1
    ∷ Keep 2
    ∷ []

abbrev after_forging : Callers
after_forging = plays GetsForgedPacket (List ℕ) forged_to any_packet any_fits forging forged (nothing_opened 3)

module _ (buffer : List ℕ) (room : step_bytes ≤ length buffer) (reads : (input : NodeInput) → FitsStep input → asked_of (step_text input) ≡ Some (Step (Ok input)))
    (reads_task : (request : TaskAsked) → FitsTaskRequest request → task_asked_of (task_request_text request) ≡ Some request) where
  pub forged_packets : TwoDiffer GetsForgedPacket
  unfolding number_text
  forged_packets =
      let led = plays_lead GetsForgedPacket (List ℕ) forged_to any_packet any_fits forging buffer room reads reads_task forged (nothing_opened 3)
      (tt, (tt, (tt, (tt, (decided_is 3 1 node_3 node_1 occurrence right_occurrence, (tt, (decided_is 3 2 node_3 node_2 Noop tt, (tt, tt)))))))) refl in
      differ GetsForgedPacket after_forging led.0 led.1 1 2
      (record { here = refl; opened = refl; appended = refl; given = refl; applied_is = refl })
      (record { here = refl; opened = refl; appended = refl; given = refl; applied_is = refl })

-- ---- another node's device

record Exchange : Type 0 where
  pub me : ℕ
  pub other : ℕ

abbrev exchanged_to : Exchange → Callers → Callers
exchanged_to e i = on_device i e.me (site_at i e.me) (site_at i e.other)

abbrev may_exchange : Exchange → Callers → Bool
may_exchange e i = is_some (part_at i.nodes e.me) && (is_none (site_at i e.me).node && is_some (part_at i.nodes e.other))

abbrev exchange_fits : Exchange → Type 0
exchange_fits e = Unit {0}

exchanging : (e : Exchange) (i : Callers) → exchange_fits e → may_exchange e i ≡ true → MoveOr GetsOtherDevice i (exchanged_to e i)
exchanging e i fits may =
    let a = and_parts (is_some (part_at i.nodes e.me)) (is_none (site_at i e.me).node && is_some (part_at i.nodes e.other)) may in
    let b = and_parts (is_none (site_at i e.me).node) (is_some (part_at i.nodes e.other)) a.1 in
    gets_device i e.me e.other (site_at i e.me) (site_at i e.other) (some_is (part_at i.nodes e.me) (closed_over [] []) a.0) (none_is (site_at i e.me).node b.0) (some_is (part_at i.nodes e.other) (closed_over [] []) b.1)

abbrev exchanged : List (Deed Exchange)
exchanged =
    Open 1
    ∷ Open 2
    ∷ Take 1 (inputs.NodeInput.Interrupt 1 1) 0
    ∷ Take 1 (inputs.NodeInput.Lead (Some 1)) 0
    ∷ Keep 1
    ∷ Hand 1 1 (says_to_all 3 1 (bodies.Prepare 1 9)) (says 1 (bodies.Prepare 1 9) 1)
    ∷ Hand 1 1 (says_to_all 3 1 (bodies.Prepare 1 9)) (says 1 (bodies.Prepare 1 9) 2)
    ∷ Take 1 (inputs.NodeInput.Receive (says 1 (bodies.Prepare 1 9) 1)) 0
    ∷ Keep 1
    ∷ Hand 1 2 (says 1 (bodies.Promise 1 9 None) 1 ∷ []) (says 1 (bodies.Promise 1 9 None) 1)
    ∷ Take 2 (inputs.NodeInput.Receive (says 1 (bodies.Prepare 1 9) 2)) 1
    ∷ Keep 2
    ∷ Hand 2 0 (says 2 (bodies.Promise 1 9 None) 1 ∷ []) (says 2 (bodies.Promise 1 9 None) 1)
    ∷ Take 1 (inputs.NodeInput.Receive (says 1 (bodies.Promise 1 9 None) 1)) 2
    ∷ Take 1 (inputs.NodeInput.Receive (says 2 (bodies.Promise 1 9 None) 1)) 3
    ∷ Hand 1 4 (says_to_all 3 1 (bodies.Accept 1 9 occurrence)) (says 1 (bodies.Accept 1 9 occurrence) 1)
    ∷ Hand 1 4 (says_to_all 3 1 (bodies.Accept 1 9 occurrence)) (says 1 (bodies.Accept 1 9 occurrence) 2)
    ∷ Take 1 (inputs.NodeInput.Receive (says 1 (bodies.Accept 1 9 occurrence) 1)) 4
    ∷ Keep 1
    ∷ Hand 1 5 (says 1 (bodies.Accepted 1 9 occurrence) 1 ∷ []) (says 1 (bodies.Accepted 1 9 occurrence) 1)
    ∷ Take 2 (inputs.NodeInput.Receive (says 1 (bodies.Accept 1 9 occurrence) 2)) 5
    ∷ Keep 2
    ∷ Hand 2 1 (says 2 (bodies.Accepted 1 9 occurrence) 1 ∷ []) (says 2 (bodies.Accepted 1 9 occurrence) 1)
    ∷ Take 1 (inputs.NodeInput.Receive (says 1 (bodies.Accepted 1 9 occurrence) 1)) 6
    ∷ Take 1 (inputs.NodeInput.Receive (says 2 (bodies.Accepted 1 9 occurrence) 1)) 7
    ∷ Keep 1
    ∷ Hand 1 7 (says_to_others 3 1 (bodies.Decided 1 occurrence)) (says 1 (bodies.Decided 1 occurrence) 2)
    ∷ Take 2 (inputs.NodeInput.Receive (says 1 (bodies.Decided 1 occurrence) 2)) 8
    ∷ Keep 2
    ∷ Close 1
    ∷ Break (record { me = 1; other = 3 })
    ∷ Open 1
    ∷ Open 3
    ∷ Take 1 (inputs.NodeInput.Lead (Some 1)) 0
    ∷ Keep 1
    ∷ Take 1 (inputs.NodeInput.Receive (says 1 (bodies.Promise 1 9 None) 1)) 2
    ∷ Take 1 (inputs.NodeInput.Receive (says 2 (bodies.Promise 1 9 None) 1)) 3
    ∷ Hand 1 2 (says_to_all 3 1 (bodies.Accept 1 9 Noop)) (says 1 (bodies.Accept 1 9 Noop) 1)
    ∷ Hand 1 2 (says_to_all 3 1 (bodies.Accept 1 9 Noop)) (says 1 (bodies.Accept 1 9 Noop) 3)
    ∷ Take 1 (inputs.NodeInput.Receive (says 1 (bodies.Accept 1 9 Noop) 1)) 9
    ∷ Keep 1
    ∷ Hand 1 3 (says 1 (bodies.Accepted 1 9 Noop) 1 ∷ []) (says 1 (bodies.Accepted 1 9 Noop) 1)
    ∷ Take 3 (inputs.NodeInput.Receive (says 1 (bodies.Accept 1 9 Noop) 3)) 10
    ∷ Keep 3
    ∷ Hand 3 0 (says 3 (bodies.Accepted 1 9 Noop) 1 ∷ []) (says 3 (bodies.Accepted 1 9 Noop) 1)
    ∷ Take 1 (inputs.NodeInput.Receive (says 1 (bodies.Accepted 1 9 Noop) 1)) 11
    ∷ Take 1 (inputs.NodeInput.Receive (says 3 (bodies.Accepted 1 9 Noop) 1)) 12
    ∷ Keep 1
    ∷ []

abbrev after_exchanged : Callers
after_exchanged = plays GetsOtherDevice Exchange exchanged_to may_exchange exchange_fits exchanging exchanged (nothing_opened 3)

module _ (buffer : List ℕ) (room : step_bytes ≤ length buffer) (reads : (input : NodeInput) → FitsStep input → asked_of (step_text input) ≡ Some (Step (Ok input)))
    (reads_task : (request : TaskAsked) → FitsTaskRequest request → task_asked_of (task_request_text request) ≡ Some request) where
  pub exchanged_device : TwoDiffer GetsOtherDevice
  unfolding number_text
  exchanged_device =
      let fits : AllFit GetsOtherDevice Exchange exchanged_to may_exchange exchange_fits exchanging exchanged =
      (tt, (tt, (right_occurrence, (position, (tt, ((all_prepare, inl refl), ((all_prepare, inr (inl refl)), (prepare_is 1 1 node_1 node_1, (tt, (((promise_is 1 1 node_1 node_1, tt), inl refl), (prepare_is 1 2 node_1 node_2, (tt, (((promise_is 2 1 node_2 node_1, tt), inl refl), (promise_is 1 1 node_1 node_1, (promise_is 2 1 node_2 node_1, ((all_accept occurrence right_occurrence, inl refl), ((all_accept occurrence right_occurrence, inr (inl refl)), (accept_is 1 1 node_1 node_1 occurrence right_occurrence, (tt, (((accepted_is 1 1 node_1 node_1 occurrence right_occurrence, tt), inl refl), (accept_is 1 2 node_1 node_2 occurrence right_occurrence, (tt, (((accepted_is 2 1 node_2 node_1 occurrence right_occurrence, tt), inl refl), (accepted_is 1 1 node_1 node_1 occurrence right_occurrence, (accepted_is 2 1 node_2 node_1 occurrence right_occurrence, (tt, ((others_decided occurrence right_occurrence, inl refl), (decided_is 1 2 node_1 node_2 occurrence right_occurrence, (tt, (tt, (tt, (tt, (tt, (position, (tt, (promise_is 1 1 node_1 node_1, (promise_is 2 1 node_2 node_1, ((all_accept Noop tt, inl refl), ((all_accept Noop tt, inr (inr (inl refl))), (accept_is 1 1 node_1 node_1 Noop tt, (tt, (((accepted_is 1 1 node_1 node_1 Noop tt, tt), inl refl), (accept_is 1 3 node_1 node_3 Noop tt, (tt, (((accepted_is 3 1 node_3 node_1 Noop tt, tt), inl refl), (accepted_is 1 1 node_1 node_1 Noop tt, (accepted_is 3 1 node_3 node_1 Noop tt, (tt, tt)))))))))))))))))))))))))))))))))))))))))))))))) in
      let led = plays_lead GetsOtherDevice Exchange exchanged_to may_exchange exchange_fits exchanging buffer room reads reads_task exchanged (nothing_opened 3) fits refl in
      differ GetsOtherDevice after_exchanged led.0 led.1 2 1
      (record { here = refl; opened = refl; appended = refl; given = refl; applied_is = refl })
      (record { here = refl; opened = refl; appended = refl; given = refl; applied_is = refl })

-- ---- packets before the sync

record Early : Type 0 where
  pub me : ℕ
  pub place : ℕ
  pub messages : List Message
  pub message : Message

abbrev early_to : Early → Callers → Callers
early_to e i = with_packet i (text_of e.message)

abbrev may_be_early : Early → Callers → Bool
may_be_early e i = is_some (part_at i.nodes e.me) && (is_some (slice_get (site_at i e.me).step_packets e.place) && same_bytes (step_at (site_at i e.me) e.place).texts (texts_of e.messages))

abbrev early_fits : Early → Type 0
early_fits e = AllByRecursion IsPacket e.messages × Has e.message e.messages

handing_early : (e : Early) (i : Callers) → early_fits e → may_be_early e i ≡ true → MoveOr HandsOnUnsynced i (early_to e i)
handing_early e i fits may =
    let s = site_at i e.me in
    let a = and_parts (is_some (part_at i.nodes e.me)) (is_some (slice_get s.step_packets e.place) && same_bytes (step_at s e.place).texts (texts_of e.messages)) may in
    let b = and_parts (is_some (slice_get s.step_packets e.place)) (same_bytes (step_at s e.place).texts (texts_of e.messages)) a.1 in
    hands_early i e.me s (step_at s e.place) e.messages e.message (some_is (part_at i.nodes e.me) (closed_over [] []) a.0) (has_at s.step_packets e.place (step_at s e.place) (some_is (slice_get s.step_packets e.place) no_packets b.0))
    (same_is (step_at s e.place).texts (texts_of e.messages) b.1) fits.0 fits.1

abbrev early : List (Deed Early)
early =
    Open 1
    ∷ Open 2
    ∷ Take 1 (inputs.NodeInput.Interrupt 1 1) 0
    ∷ Take 1 (inputs.NodeInput.Lead (Some 1)) 0
    ∷ Break (record { me = 1; place = 1; messages = says_to_all 3 1 (bodies.Prepare 1 9); message = says 1 (bodies.Prepare 1 9) 1 })
    ∷ Break (record { me = 1; place = 1; messages = says_to_all 3 1 (bodies.Prepare 1 9); message = says 1 (bodies.Prepare 1 9) 2 })
    ∷ Take 1 (inputs.NodeInput.Receive (says 1 (bodies.Prepare 1 9) 1)) 0
    ∷ Break (record { me = 1; place = 2; messages = says 1 (bodies.Promise 1 9 None) 1 ∷ []; message = says 1 (bodies.Promise 1 9 None) 1 })
    ∷ Take 2 (inputs.NodeInput.Receive (says 1 (bodies.Prepare 1 9) 2)) 1
    ∷ Keep 2
    ∷ Hand 2 0 (says 2 (bodies.Promise 1 9 None) 1 ∷ []) (says 2 (bodies.Promise 1 9 None) 1)
    ∷ Take 1 (inputs.NodeInput.Receive (says 1 (bodies.Promise 1 9 None) 1)) 2
    ∷ Take 1 (inputs.NodeInput.Receive (says 2 (bodies.Promise 1 9 None) 1)) 3
    ∷ Break (record { me = 1; place = 4; messages = says_to_all 3 1 (bodies.Accept 1 9 occurrence); message = says 1 (bodies.Accept 1 9 occurrence) 1 })
    ∷ Break (record { me = 1; place = 4; messages = says_to_all 3 1 (bodies.Accept 1 9 occurrence); message = says 1 (bodies.Accept 1 9 occurrence) 2 })
    ∷ Take 1 (inputs.NodeInput.Receive (says 1 (bodies.Accept 1 9 occurrence) 1)) 4
    ∷ Break (record { me = 1; place = 5; messages = says 1 (bodies.Accepted 1 9 occurrence) 1 ∷ []; message = says 1 (bodies.Accepted 1 9 occurrence) 1 })
    ∷ Take 2 (inputs.NodeInput.Receive (says 1 (bodies.Accept 1 9 occurrence) 2)) 5
    ∷ Keep 2
    ∷ Hand 2 1 (says 2 (bodies.Accepted 1 9 occurrence) 1 ∷ []) (says 2 (bodies.Accepted 1 9 occurrence) 1)
    ∷ Take 1 (inputs.NodeInput.Receive (says 1 (bodies.Accepted 1 9 occurrence) 1)) 6
    ∷ Take 1 (inputs.NodeInput.Receive (says 2 (bodies.Accepted 1 9 occurrence) 1)) 7
    ∷ Break (record { me = 1; place = 7; messages = says_to_others 3 1 (bodies.Decided 1 occurrence); message = says 1 (bodies.Decided 1 occurrence) 2 })
    ∷ Take 2 (inputs.NodeInput.Receive (says 1 (bodies.Decided 1 occurrence) 2)) 8
    ∷ Keep 2
    ∷ Close 1
    ∷ Open 1
    ∷ Open 3
    ∷ Take 1 (inputs.NodeInput.Lead (Some 1)) 0
    ∷ Keep 1
    ∷ Take 1 (inputs.NodeInput.Receive (says 1 (bodies.Promise 1 9 None) 1)) 2
    ∷ Take 1 (inputs.NodeInput.Receive (says 2 (bodies.Promise 1 9 None) 1)) 3
    ∷ Hand 1 2 (says_to_all 3 1 (bodies.Accept 1 9 Noop)) (says 1 (bodies.Accept 1 9 Noop) 1)
    ∷ Hand 1 2 (says_to_all 3 1 (bodies.Accept 1 9 Noop)) (says 1 (bodies.Accept 1 9 Noop) 3)
    ∷ Take 1 (inputs.NodeInput.Receive (says 1 (bodies.Accept 1 9 Noop) 1)) 9
    ∷ Keep 1
    ∷ Hand 1 3 (says 1 (bodies.Accepted 1 9 Noop) 1 ∷ []) (says 1 (bodies.Accepted 1 9 Noop) 1)
    ∷ Take 3 (inputs.NodeInput.Receive (says 1 (bodies.Accept 1 9 Noop) 3)) 10
    ∷ Keep 3
    ∷ Hand 3 0 (says 3 (bodies.Accepted 1 9 Noop) 1 ∷ []) (says 3 (bodies.Accepted 1 9 Noop) 1)
    ∷ Take 1 (inputs.NodeInput.Receive (says 1 (bodies.Accepted 1 9 Noop) 1)) 11
    ∷ Take 1 (inputs.NodeInput.Receive (says 3 (bodies.Accepted 1 9 Noop) 1)) 12
    ∷ Keep 1
    ∷ []

abbrev after_early : Callers
after_early = plays HandsOnUnsynced Early early_to may_be_early early_fits handing_early early (nothing_opened 3)

module _ (buffer : List ℕ) (room : step_bytes ≤ length buffer) (reads : (input : NodeInput) → FitsStep input → asked_of (step_text input) ≡ Some (Step (Ok input)))
    (reads_task : (request : TaskAsked) → FitsTaskRequest request → task_asked_of (task_request_text request) ≡ Some request) where
  pub early_packets : TwoDiffer HandsOnUnsynced
  unfolding number_text
  early_packets =
      let fits : AllFit HandsOnUnsynced Early early_to may_be_early early_fits handing_early early =
      (tt, (tt, (right_occurrence, (position, ((all_prepare, inl refl), ((all_prepare, inr (inl refl)), (prepare_is 1 1 node_1 node_1, (((promise_is 1 1 node_1 node_1, tt), inl refl), (prepare_is 1 2 node_1 node_2, (tt, (((promise_is 2 1 node_2 node_1, tt), inl refl), (promise_is 1 1 node_1 node_1, (promise_is 2 1 node_2 node_1, ((all_accept occurrence right_occurrence, inl refl), ((all_accept occurrence right_occurrence, inr (inl refl)), (accept_is 1 1 node_1 node_1 occurrence right_occurrence, (((accepted_is 1 1 node_1 node_1 occurrence right_occurrence, tt), inl refl), (accept_is 1 2 node_1 node_2 occurrence right_occurrence, (tt, (((accepted_is 2 1 node_2 node_1 occurrence right_occurrence, tt), inl refl), (accepted_is 1 1 node_1 node_1 occurrence right_occurrence, (accepted_is 2 1 node_2 node_1 occurrence right_occurrence, ((others_decided occurrence right_occurrence, inl refl), (decided_is 1 2 node_1 node_2 occurrence right_occurrence, (tt, (tt, (tt, (tt, (position, (tt, (promise_is 1 1 node_1 node_1, (promise_is 2 1 node_2 node_1, ((all_accept Noop tt, inl refl), ((all_accept Noop tt, inr (inr (inl refl))), (accept_is 1 1 node_1 node_1 Noop tt, (tt, (((accepted_is 1 1 node_1 node_1 Noop tt, tt), inl refl), (accept_is 1 3 node_1 node_3 Noop tt, (tt, (((accepted_is 3 1 node_3 node_1 Noop tt, tt), inl refl), (accepted_is 1 1 node_1 node_1 Noop tt, (accepted_is 3 1 node_3 node_1 Noop tt, (tt, tt))))))))))))))))))))))))))))))))))))))))))) in
      let led = plays_lead HandsOnUnsynced Early early_to may_be_early early_fits handing_early buffer room reads reads_task early (nothing_opened 3) fits refl in
      differ HandsOnUnsynced after_early led.0 led.1 2 1
      (record { here = refl; opened = refl; appended = refl; given = refl; applied_is = refl })
      (record { here = refl; opened = refl; appended = refl; given = refl; applied_is = refl })
