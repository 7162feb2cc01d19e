-- One event of an actor keeps the rule.
use Rattle.std.proofs.Common.{◌≡◌, ◌⊎◌, ◌↔◌, ℕ, ◌+◌, ◌%◌, ◌^◌, ◌<◌, Some, Ok, List, [], ◌∷◌, ◌++◌, length, set, slice_index, inl, inr, refl, sym, ap, subst, ◌∙◌, arith, length-set, get_or-set_same, get_or-set_other}
use Rattle.std.proofs.Math.Nat.{mod-add-mod}
use mathlib.Core.Option.{some}
use mathlib.Core.Option as maybe
use lib.ListN.{get_elem?}
use Rattle.atomic_table.specs.Table.{State, keeps, Allows}
use Rattle.rp_base.specs.Config.{IsRightConfig}
use Rattle.rp_base.specs.Sets.{Has}
use Rattle.rp_base.proofs.Members.{has_split, has_left, has_right}
use Rattle.rp_codec.specs.Message.{Message}
use Rattle.rp_model.specs.Effect as nodes
use Rattle.rp_model.specs.Effect.{Setting, NodeInput}
use Rattle.rp_model.specs.Tasks as tasks
use Rattle.rp_model.specs.Tasks.{TaskInput, task_effect}
use Rattle.rp_model.specs.Parts.{NodePart, TaskPart}
use Rattle.rp_agreement.specs.Inputs.{IsInput, IsTaskInput, NodeMoves, TaskMoves}
use Rattle.rp_board.specs.Parts.{Part, View, Role, OfNode, OfTask, actor_of, box_of, from_actor, node_of, task_of, part_after, part_in, to_actor}
use Rattle.rp_board.specs.Rule.{Slot, IsGood, IsGoodAt, IsWorld, IsBox, IsCarriedOver, Ruled, HasOwnPackets, node_among, task_among, all_sent}
use Rattle.rp_board.specs.Steps.{ResultsInPart, IsNodeEvent, IsTaskEvent, IsEvent, HasEvent}
use Rattle.rp_board.specs.Laws.{EventsKeep}
use Rattle.rp_board.specs.Plays.{Sight, alone, IsEventNoted}
use Rattle.rp_board.proofs.Carrying.{carried_still}
use Rattle.rp_board.proofs.Worlds.{with_value, value_here, value_else, at_each, from_each, was_part, is_actor, seating_after, sent_by, is_sent}

-- ---- what an actor got was sent

inputs_sent : (got sent : List Message) → ((m : Message) → Has m got → Has m sent) → (input : NodeInput) → IsInput got input → IsInput sent input
inputs_sent got sent all (nodes.Receive message) is = all message is
inputs_sent got sent all _ is = is

task_inputs_sent : (got sent : List Message) → ((m : Message) → Has m got → Has m sent) → (t : ℕ) (input : TaskInput) → IsTaskInput got t input → IsTaskInput sent t input
task_inputs_sent got sent all t (tasks.Take message) is = (all message is.0, is.1)
task_inputs_sent got sent all t _ is = is

-- ---- what becomes of the world

module _ (parts : ℕ → Part) (k : ℕ) (p p' : Part) (sends : List Message) (was : parts k ≡ p) (small : k < 16) (new_sent : p'.sent ≡ p.sent ++ sends) where
  abbrev parts' : ℕ → Part
  parts' = with_value parts k p'

  pub sent_too : (m : Message) → Has m (all_sent parts' 16) ↔ (Has m (all_sent parts 16) ⊎ Has m sends)
  sent_too m = (there, back)
    where
      by_one : (j : ℕ) → j < 16 → Has m (parts' j).sent → Has m (all_sent parts 16) ⊎ Has m sends
      by_one = at_each parts k p' (λ j q. j < 16 → Has m q.sent → Has m (all_sent parts 16) ⊎ Has m sends)
          (λ less h. elim (has_split m p.sent sends (subst (Has m) new_sent h)) [
            | inl old ↦ inl (sent_by parts 16 k m small (subst (λ (q : Part). Has m q.sent) (sym was) old))
            | inr new ↦ inr new
          ])
          (λ j other less h. inl (sent_by parts 16 j m less h))

      there : Has m (all_sent parts' 16) → Has m (all_sent parts 16) ⊎ Has m sends
      there h = let one = is_sent parts' 16 m h in by_one one.0 one.1 one.2

      still : (j : ℕ) → Has m (parts j).sent → Has m (parts' j).sent
      still = from_each parts k p p' (λ q q'. Has m q.sent → Has m q'.sent) was
          (λ h. subst (Has m) (sym new_sent) (has_left m p.sent sends h)) (λ q h. h)

      back : Has m (all_sent parts 16) ⊎ Has m sends → Has m (all_sent parts' 16)
      back (inl old) = let one = is_sent parts 16 m old in sent_by parts' 16 one.0 m one.1 (still one.0 one.2)
      back (inr new) = sent_by parts' 16 k m small
          (subst (λ (q : Part). Has m q.sent) (sym (value_here parts k p')) (subst (Has m) (sym new_sent) (has_right m p.sent sends new)))

-- an event keeps the invariant, and what the actor sends is from it
pub record IsKeptBy {S : Type 0} (s : Setting S) (k : ℕ) (parts : ℕ → Part) (p p' : Part) : Type 0 where
  pub role : Role
  pub sends : List Message
  pub is : p' ≡ part_after p role sends
  pub good : IsGoodAt s (with_value parts k p')
  pub from : (m : Message) → Has m sends → actor_of m.from ≡ k

module _ {S : Type 0} (s : Setting S) (keep : EventsKeep s) (right : IsRightConfig s.config) (parts : ℕ → Part) (k : ℕ) (p p' : Part) (was : parts k ≡ p) (small : k < 16)
    (good : IsGoodAt s parts) (got : (m : Message) → Has m p.got → Has m (all_sent parts 16)) where
  abbrev after : ℕ → Part
  after = with_value parts k p'

  node_kept : IsNodeEvent s k p p' → IsKeptBy s k parts p p'
  node_kept event =
      let here : node_among parts k ≡ event.part = ap (λ (q : Part). node_of q.role) was ∙ ap node_of event.was in
      let alike : (t : ℕ) → task_among after t ≡ task_among parts t = λ t. from_each parts k p p' (λ q q'. task_of q'.role ≡ task_of q.role) was
      (ap (λ (q : Part). task_of q.role) event.is ∙ sym (ap task_of event.was)) (λ q. refl) (7 + t) in
      let moves : NodeMoves k event.done (node_among parts) (all_sent parts 16) (node_among after) (all_sent after 16) = record {
        part = ap (λ (q : Part). node_of q.role) (value_here parts k p' ∙ event.is);
        others = λ j other. ap (λ (q : Part). node_of q.role) (value_else parts k p' j other);
        sends = sent_too parts k p p' event.done.sends was small (ap (λ (q : Part). q.sent) event.is);
      } in
      let kept = keep.nodes k event.input event.done (node_among parts) (node_among after) (task_among parts) (all_sent parts 16) (all_sent after 16) right event.member good
      (inputs_sent p.got (all_sent parts 16) got event.input event.given)
      (subst (λ (q : NodePart). ResultsInPart s k q event.input event.done) (sym here) event.results) moves in
      record {
        role = OfNode event.done.part;
        sends = event.done.sends;
        is = event.is;
        good = subst (λ (task : ℕ → TaskPart). IsGood s (node_among after) task (all_sent after 16)) (λ i t. sym (alike t) i) kept.0;
        from = λ m h. ap actor_of (kept.1 m h);
      }

  task_kept : (t : ℕ) → k ≡ 7 + t → IsTaskEvent s t p p' → IsKeptBy s k parts p p'
  task_kept t number event =
      let was_here : parts (7 + t) ≡ p = subst (λ (j : ℕ). parts j ≡ p) number was in
      let here : task_among parts t ≡ event.part = ap (λ (q : Part). task_of q.role) was_here ∙ ap task_of event.was in
      let new_here : after (7 + t) ≡ p' = subst (λ (j : ℕ). after j ≡ p') number (value_here parts k p') in
      let alike : (x : ℕ) → node_among after x ≡ node_among parts x = from_each parts k p p' (λ q q'. node_of q'.role ≡ node_of q.role) was
      (ap (λ (q : Part). node_of q.role) event.is ∙ sym (ap node_of event.was)) (λ q. refl) in
      let moves : TaskMoves t event.done (task_among parts) (all_sent parts 16) (task_among after) (all_sent after 16) = record {
        part = ap (λ (q : Part). task_of q.role) (new_here ∙ event.is);
        others = λ j other. ap (λ (q : Part). task_of q.role) (value_else parts k p' (7 + j) (λ e. other (omega (arith, e, number))));
        sends = sent_too parts k p p' event.done.sends was small (ap (λ (q : Part). q.sent) event.is);
      } in
      let kept = keep.tasks t event.input event.done (node_among parts) (task_among parts) (task_among after) (all_sent parts 16) (all_sent after 16) good
      (task_inputs_sent p.got (all_sent parts 16) got t event.input event.given)
      (subst (λ (q : TaskPart). task_effect s.config t q event.input ≡ Ok event.done) (sym here) event.results) moves in
      record {
        role = OfTask event.done.part;
        sends = event.done.sends;
        is = event.is;
        good = subst (λ (node : ℕ → NodePart). IsGood s node (task_among after) (all_sent after 16)) (λ i x. sym (alike x) i) kept.0;
        from = λ m h. ap actor_of (kept.1 m h) ∙ sym number;
      }

  pub event_kept : IsEvent s k p p' → IsKeptBy s k parts p p'
  event_kept (inl event) = node_kept event
  event_kept (inr event) = task_kept event.0 event.1 event.2

-- ---- the step

-- what the box from x to y sees of the part of actor k: whether it holds the box, and what it put for y or got from x
pub record IsSeenAlike (x y k : ℕ) (p p' : Part) : Type 0 where
  pub fills : Has (box_of x y) p.fills ↔ Has (box_of x y) p'.fills
  pub takes : Has (box_of x y) p.takes ↔ Has (box_of x y) p'.takes
  pub puts : k ≡ x → to_actor y p'.put ≡ to_actor y p.put
  pub gets : k ≡ y → from_actor x p'.got ≡ from_actor x p.got

pub alike_itself : (x y k : ℕ) (p : Part) → IsSeenAlike x y k p p
alike_itself x y k p = record { fills = (λ h. h, λ h. h); takes = (λ h. h, λ h. h); puts = λ e. refl; gets = λ e. refl }

-- a box that sees the parts alike, and whose word and slot are as they were
pub box_stays : (parts parts' : ℕ → Part) (x y word word' : ℕ) (home home' : Slot → Type 0) → IsSeenAlike x y x (parts x) (parts' x) → IsSeenAlike x y y (parts y) (parts' y)
    → word' ≡ word → ((slot : Slot) → home slot → home' slot) → IsBox parts x y word home → IsBox parts' x y word' home'
box_stays parts parts' x y word word' home home' sender receiver same homes box = record {
  empty = λ e. let left = box.empty (sym same ∙ e) in (left.0, homes left.0 left.1, left.2);
  filling = (λ e. sender.fills.0 (box.filling.0 (sym same ∙ e)), λ h. same ∙ box.filling.1 (sender.fills.1 h));
  full = λ e. let has = box.full (sym same ∙ e) in (has.0, has.1, homes (Some has.1) has.2, has.3, still (has.0 ∷ []) has.4);
  not_full = λ other. still [] (box.not_full (λ e. other (same ∙ e)));
  emptying = (λ e. receiver.takes.0 (box.emptying.0 (sym same ∙ e)), λ h. same ∙ box.emptying.1 (receiver.takes.1 h));
}
  where
    still : (inside : List Message) → IsCarriedOver x y (parts x) (parts y) inside → IsCarriedOver x y (parts' x) (parts' y) inside
    still inside = carried_still x y (parts x) (parts' x) (parts y) (parts' y) inside (sender.puts refl) (receiver.gets refl)

-- What a step changes of its actor's part: it sent these packets more, and may have put some that it sent and got
-- some that were sent to it.
pub record IsChange (parts : ℕ → Part) (k : ℕ) (p p' : Part) (sends : List Message) : Type 0 where
  pub sent : p'.sent ≡ p.sent ++ sends
  pub from : (m : Message) → Has m sends → actor_of m.from ≡ k
  pub put : (m : Message) → Has m p'.put → Has m p.put ⊎ Has m p.sent
  pub got : (m : Message) → Has m p'.got → Has m p.got ⊎ ((actor_of m.to ≡ k) × Has m (all_sent parts 16))

module _ {S : Type 0} (s : Setting S) (t : State Slot View) (r : Ruled s t) (id k : ℕ) (p p' : Part) (here : get_elem? t.views id ≡ some ((k, p) ∷ [])) where
  pub was : r.parts k ≡ p
  was = was_part t.views r.parts r.owner r.seating id k p p' here

  pub small : k < 16
  small = is_actor t.views r.parts r.owner r.seating id k p p' here

  abbrev pub now : ℕ → Part
  now = with_value r.parts k p'

  pub part_now : now k ≡ p'
  part_now = value_here r.parts k p'

  -- what the step leaves of the actor's part it leaves of each
  pub stays : {A : Type 0} (f : Part → A) → f p' ≡ f p → (j : ℕ) → f (now j) ≡ f (r.parts j)
  stays f same = from_each r.parts k p p' (λ q q'. f q' ≡ f q) was same (λ q. refl)

  module _ (sends : List Message) (change : IsChange r.parts k p p' sends) where
    sends_after : (j : ℕ) → j < 16 → (m : Message) → Has m (now j).sent → actor_of m.from ≡ j
    sends_after = at_each r.parts k p' (λ j q. j < 16 → (m : Message) → Has m q.sent → actor_of m.from ≡ j)
        (λ less m h. elim (has_split m p.sent sends (subst (Has m) change.sent h)) [
          | inl old ↦ r.world.sends k less m (subst (λ (q : Part). Has m q.sent) (sym was) old)
          | inr new ↦ change.from m new
        ])
        (λ j other less. r.world.sends j less)

    more_sent : (m : Message) → Has m (all_sent r.parts 16) → Has m (all_sent now 16)
    more_sent m h = (sent_too r.parts k p p' sends was small change.sent m).1 (inl h)

    gets_after : (j : ℕ) → j < 16 → (m : Message) → Has m (now j).got → (actor_of m.to ≡ j) × Has m (all_sent now 16)
    gets_after = at_each r.parts k p' (λ j q. j < 16 → (m : Message) → Has m q.got → (actor_of m.to ≡ j) × Has m (all_sent now 16))
        (λ less m h. elim (change.got m h) [
          | inl old ↦ let fact = r.world.gets k less m (subst (λ (q : Part). Has m q.got) (sym was) old) in (fact.0, more_sent m fact.1)
          | inr new ↦ (new.0, more_sent m new.1)
        ])
        (λ j other less m h. let fact = r.world.gets j less m h in (fact.0, more_sent m fact.1))

    puts_after : (j : ℕ) → j < 16 → (m : Message) → Has m (now j).put → Has m (now j).sent
    puts_after = at_each r.parts k p' (λ j q. j < 16 → (m : Message) → Has m q.put → Has m q.sent)
        (λ less m h. subst (Has m) (sym change.sent) (has_left m p.sent sends (elim (change.put m h) [
          | inl old ↦ subst (λ (q : Part). Has m q.sent) was (r.world.puts k less m (subst (λ (q : Part). Has m q.put) (sym was) old))
          | inr new ↦ new
        ])))
        (λ j other. r.world.puts j)

    -- the rule holds then, if the invariant does, the actors' words count their events, and the boxes are right
    pub stepped : (words : List ℕ) (homes : List (maybe.Option Slot)) → length words ≡ 272 → IsGoodAt s now
        → ((j : ℕ) → j < 16 → slice_index words (256 + j) ≡ (now j).events % 2 ^ 64)
        → ((x y : ℕ) → x < 16 → y < 16 → IsBox now x y (slice_index words (box_of x y)) (λ slot. get_elem? homes (box_of x y) ≡ some (some slot)))
        → Ruled s record { words = words; homes = homes; views = set t.views id ((k, p') ∷ []) }
    stepped words homes long good counted boxes = record {
      parts = now;
      owner = r.owner;
      world = record { config = r.world.config; good = good; sends = sends_after; puts = puts_after; gets = gets_after };
      long = long;
      seating = seating_after t.views r.parts r.owner r.seating id k p p' here;
      counted = counted;
      boxes = boxes;
    }

module _ {S : Type 0} (s : Setting S) (keep : EventsKeep s) (t : State Slot View) (r : Ruled s t) (id k : ℕ) (p p' : Part) (here : get_elem? t.views id ≡ some ((k, p) ∷ []))
    (event : IsEvent s k p p') where
  known : r.parts k ≡ p
  known = was s t r id k p p' here

  less : k < 16
  less = small s t r id k p p' here

  abbrev later : ℕ → Part
  later = now s t r id k p p' here

  kept : IsKeptBy s k r.parts p p'
  kept = event_kept s keep r.world.config r.parts k p p' known less r.world.good (λ m h. (r.world.gets k less m (subst (λ (q : Part). Has m q.got) (sym known) h)).1) event

  change : IsChange r.parts k p p' kept.sends
  change = record {
    sent = ap (λ (q : Part). q.sent) kept.is;
    from = kept.from;
    put = λ m h. inl (subst (λ (q : Part). Has m q.put) kept.is h);
    got = λ m h. inl (subst (λ (q : Part). Has m q.got) kept.is h);
  }

  abbrev word : ℕ
  word = 256 + k

  abbrev words : List ℕ
  words = set t.words word ((slice_index t.words word + 1) % 2 ^ 64)

  seen_alike : (x y j : ℕ) → IsSeenAlike x y j (r.parts j) (later j)
  seen_alike x y j =
      let here_alike : IsSeenAlike x y j p (part_after p kept.role kept.sends) = record { fills = (λ h. h, λ h. h); takes = (λ h. h, λ h. h); puts = λ e. refl; gets = λ e. refl } in
      from_each r.parts k p p' (IsSeenAlike x y j) known (subst (IsSeenAlike x y j p) (sym kept.is) here_alike) (alike_itself x y j) j

  counted_here : slice_index words word ≡ p'.events % 2 ^ 64
  counted_here =
      let old : slice_index t.words word ≡ p.events % 2 ^ 64 = r.counted k less ∙ ap (λ (q : Part). q.events % 2 ^ 64) known in
      let inside : word < length t.words = rw r.long (omega (arith, less)) in
      get_or-set_same t.words word ((slice_index t.words word + 1) % 2 ^ 64) 0 inside
      ∙ (ap (λ (n : ℕ). (n + 1) % 2 ^ 64) old ∙ (mod-add-mod p.events (2 ^ 64) 1 ∙ ap (λ (q : Part). q.events % 2 ^ 64) (sym kept.is)))

  counted_after : (j : ℕ) → j < 16 → slice_index words (256 + j) ≡ (later j).events % 2 ^ 64
  counted_after = at_each r.parts k p' (λ j q. j < 16 → slice_index words (256 + j) ≡ q.events % 2 ^ 64) (λ small. counted_here)
      (λ j other small. get_or-set_other t.words word (256 + j) _ 0 (λ e. other (omega (arith, e))) ∙ r.counted j small)

  box_after : (x y : ℕ) → x < 16 → y < 16 → IsBox later x y (slice_index words (box_of x y)) (λ slot. get_elem? t.homes (box_of x y) ≡ some (some slot))
  box_after x y low high =
      box_stays r.parts later x y (slice_index t.words (box_of x y)) _ _ _ (seen_alike x y x) (seen_alike x y y)
      (get_or-set_other t.words word (box_of x y) _ 0 (omega (arith, low, high))) (λ slot h. h) (r.boxes x y low high)

  pub turned : Ruled s record { words = words; homes = t.homes; views = set t.views id ((k, p') ∷ []) }
  turned = stepped s t r id k p p' here kept.sends change words t.homes (length-set t.words word _ ∙ r.long) kept.good counted_after box_after

-- what a world says of an actor's packets
own_packets : {S : Type 0} (s : Setting S) (parts : ℕ → Part) (world : IsWorld s parts) (k : ℕ) → k < 16 → HasOwnPackets k (parts k)
own_packets s parts world k small = record {
  sent = λ m h. (world.good.packets m (sent_by parts 16 k m small h), world.sends k small m h);
  put = world.puts k small;
  got = λ m h. let old = world.gets k small m h in (world.good.packets m old.1, old.0);
}

-- an actor's word may count one event more, where the seat of that actor alone knows the result of the event
pub turn_allows : {S : Type 0} (s : Setting S) → EventsKeep s → (slots id k : ℕ) (me : Sight) (says : Part → Type 0) → me ≡ alone k (part_in me.0) → HasEvent s k (part_in me.0) says
    → Allows (Ruled s) slots id me (256 + k) (λ n. (n + 1) % 2 ^ 64) (λ found new. IsEventNoted says me.0 new)
unfolding turned stepped
turn_allows s keep slots id k me says is event =
    subst (λ (sight : Sight). Allows (Ruled s) slots id sight (256 + k) (λ n. (n + 1) % 2 ^ 64) (λ found new. IsEventNoted says sight.0 new)) (sym is)
    (λ t r size here fits.
    let p' = event.0 in
    let after = turned s keep t r id k (part_in me.0) p' here event.1 in
    let own = own_packets s after.parts after.world k (is_actor t.views r.parts r.owner r.seating id k (part_in me.0) p' here) in (
      (k, p') ∷ [],
      keeps,
      tt,
      after,
      record {
        part = p';
        is = refl;
        fills = ap (λ (q : Part). q.fills) (kept s keep t r id k (part_in me.0) p' here event.1).is;
        takes = ap (λ (q : Part). q.takes) (kept s keep t r id k (part_in me.0) p' here event.1).is;
        own = subst (HasOwnPackets k) (value_here r.parts k p') own;
        picked = event.2;
      },
    ))
