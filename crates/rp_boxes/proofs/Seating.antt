-- Actors get seats one after another, as they are at first.
use Rattle.std.proofs.Common.{◌≡◌, ℕ, zero, suc, ◌+◌, ◌<◌, ◌≤◌, true, false, if◌then◌else◌, nat_eq, nat_lt, List, [], ◌∷◌, ◌++◌, length, drop, slice_index, refl, sym, ap, subst, ◌∙◌, arith, length-append}
use Rattle.std.proofs.lemmas.Bool.{ne_eqb, lt-ltb}
use Rattle.atomic_table.specs.Seated.{TableId}
use Rattle.rp_base.specs.declared.config.Config.{Config}
use Rattle.rp_model.specs.Parts.{fresh_node, fresh_task}
use Rattle.rp_actors.specs.rp_replica.specs.State.{ReplicaState}
use Rattle.rp_actors.specs.Nodes.{member_of, RunsAs}
use Rattle.rp_actors.proofs.Fresh.{one_more}
use Rattle.rp_actors.proofs.Represented.{represents}
use Rattle.rp_board.specs.Parts.{Part, View, OfNode, OfTask, OfAudit, first_role, first_part, first_from, others_in}
use Rattle.rp_board.specs.Plays.{Sight, IsSized, alone}
use Rattle.rp_board.specs.Seats.{SeatState, IsAtTable}
use Rattle.rp_boxes.specs.NodeSeats.{IsNodeAt}
use Rattle.rp_boxes.specs.FirstSeats.{AreFirstSeats, AreSeats, IsRest, Unseated, after_seats, first_seat}

-- ---- the rest of the actors

-- while an actor is left, the place knows it first
left_from : (next left : ℕ) → next + left ≡ 16 → next < 16 → (me : Sight) → me ≡ (first_from next left, [])
    → (more : ℕ) × (suc next + more ≡ 16) × (me ≡ ((next, first_part next) ∷ first_from (suc next) more, []))
left_from next zero up_to small me is = absurd (omega (arith, up_to, small))
left_from next (suc more) up_to small me is = (more, omega (arith, up_to), is)

module _ (table mine : TableId) (next : ℕ) (me : Sight) (rest : IsRest table mine next me) (small : next < 16) where
  front : (more : ℕ) × (suc next + more ≡ 16) × (me ≡ ((next, first_part next) ∷ first_from (suc next) more, []))
  front = left_from next rest.left rest.up_to small me rest.knows

  pub some_left : (first : ℕ × Part) × (others : View) × (me.0 ≡ first ∷ others)
  some_left = ((next, first_part next), first_from (suc next) front.0, ap (λ (sight : Sight). sight.0) front.2)

  -- once the first of them is split off
  pub rest_after : (mine' : TableId) (me' : Sight) → mine' ≡ mine → me' ≡ (others_in me.0, me.1) → IsRest table mine' (next + 1) me'
  rest_after mine' me' same is =
      let one : suc next ≡ next + 1 = omega arith in
      subst (λ (k : ℕ). IsRest table mine' k me') one
      (record {
        same = same ∙ rest.same;
        sized = rest.sized;
        left = front.0;
        up_to = front.1;
        knows = is ∙ ap (λ (sight : Sight). (others_in sight.0, sight.1)) front.2;
      })

-- ---- the place of one actor

pub at_first : (table mine : TableId) (actor : ℕ) (me : Sight) → mine ≡ table → IsSized table → actor < 16 → me ≡ alone actor (first_part actor) → IsAtTable table mine actor me
at_first table mine actor me same sized small is =
    let here : IsAtTable table mine actor (alone actor (first_part actor)) = record {
      same = same;
      sized = sized;
      small = small;
      place = refl;
      fills = refl;
      takes = refl;
      own = record { sent = λ m h. absurd h; put = λ m h. absurd h; got = λ m h. absurd h };
    } in
    subst (IsAtTable table mine actor) (sym is) here

-- what the nodes are at first
pub node_role : (k : ℕ) → 1 ≤ k → k < 8 → first_role k ≡ OfNode fresh_node
node_role k least most =
    let above : nat_eq k 0 ≡ false = ne_eqb k 0 (λ e. omega (arith, e, least)) in
    let below : nat_lt k 8 ≡ true = lt-ltb k 8 most in
    λ i. if above i then OfAudit else if below i then OfNode fresh_node else OfTask fresh_task

-- a replica that is fresh is the node of its seat
pub node_at_first : {S P : Type 0} (begin : P → S) (table : TableId) (config : Config) (program : P) (number : ℕ) (replica : ReplicaState S) → 1 ≤ number → number ≤ config.nodes → config.nodes ≤ 7
    → RunsAs (member_of number config (begin program)) replica fresh_node
    → (seat : SeatState P) → seat ≡ first_seat table config program number number 0 → IsNodeAt begin replica seat.setup seat.part.role
node_at_first {P = P} begin table config program number replica least most seven runs seat is =
    let first : SeatState P = first_seat table config program number number 0 in
    let sits : IsNodeAt begin replica first.setup first.part.role = record {
      member = (least, most);
      node = fresh_node;
      is = node_role number least (omega (arith, most, seven));
      represents = represents (member_of number config (begin program)) replica fresh_node runs;
    } in
    subst (λ (z : SeatState P). IsNodeAt begin replica z.setup z.part.role) (sym is) sits

-- ---- one more seat

module _ {P : Type 0} (old self : Unseated P) (seats : List (SeatState P)) (same : self ≡ after_seats (length seats) old) where
  pub after_one : (self' : Unseated P) (grown : List (SeatState P)) (seat : SeatState P) → self' ≡ after_seats 1 self → grown ≡ seats ++ seat ∷ [] → self' ≡ after_seats (length grown) old
  after_one self' grown seat one is =
      let count : old.next + length seats + 1 ≡ old.next + length grown = omega (arith, ap length is, length-append seats (seat ∷ [])) in
      one ∙ (ap (after_seats 1) same ∙ ap (λ (next : ℕ). let unseated : Unseated P = record old { next = next } in unseated) count)

  -- one more seat
  pub with_one : (actor : ℕ) (failures : List ℕ) (grown : List (SeatState P)) (seat : SeatState P) (number which failed : ℕ) → AreFirstSeats old.table old.config old.program actor failures seats
      → grown ≡ seats ++ seat ∷ [] → seat ≡ first_seat self.table self.config self.program number which failed → number ≡ suc (length seats) → which ≡ actor + length seats
      → failed ≡ slice_index failures (length seats) → AreFirstSeats old.table old.config old.program actor failures grown
  with_one actor failures grown seat number which failed are is stated named acts fails =
      subst (AreFirstSeats old.table old.config old.program actor failures) (sym is)
      (one_more (λ place s. s ≡ first_seat old.table old.config old.program (suc place) (actor + place) (slice_index failures place)) seats seat are
      (stated ∙ (λ i. first_seat (same i).table (same i).config (same i).program (named i) (acts i) (fails i))))

-- no seat yet
pub after_none : {P : Type 0} (old : Unseated P) (seats : List (SeatState P)) → seats ≡ [] → old ≡ after_seats (length seats) old
after_none {P} old seats none =
    let count : old.next ≡ old.next + length seats = omega (arith, ap length none) in
    ap (λ (next : ℕ). let unseated : Unseated P = record old { next = next } in unseated) count

-- what a list has at a place, and after it
pub at_drop : (list : List ℕ) (n x : ℕ) (rest : List ℕ) → drop n list ≡ x ∷ rest → (slice_index list n ≡ x) × (drop (suc n) list ≡ rest)
at_drop [] zero x rest is = absurd cc
at_drop [] (suc n) x rest is = absurd cc
at_drop (y ∷ ys) zero x rest is = (ap (λ (l : List ℕ). slice_index l 0) is, ap (λ (l : List ℕ). drop 1 l) is)
at_drop (y ∷ ys) (suc n) x rest is = at_drop ys n x rest is

-- ---- all seats

-- what all seats at the table share
abbrev shared : {P : Type 0} → Unseated P → TableId × Config × P
shared unseated = (unseated.table, unseated.config, unseated.program)

module _ {P : Type 0} (first later left last : Unseated P) (config : Config) (program : P) (failures : List ℕ) (nodes tasks : List (SeatState P)) (audit : SeatState P)
    (configured : first.config ≡ config) (begun : first.program ≡ program) (audit_is : audit ≡ first_seat first.table first.config first.program 0 0 0)
    (one : later ≡ after_seats 1 first) (more : left ≡ after_seats later.config.nodes later) (passed : last ≡ record left { next = 8 }) where
  same_later : shared later ≡ shared first
  same_later = ap shared one

  same_last : shared last ≡ shared first
  same_last = ap shared passed ∙ (ap shared more ∙ same_later)

  same_table : first.table ≡ audit.setup.table
  same_table = sym (ap (λ (seat_state : SeatState P). seat_state.setup.table) audit_is)

  stated : shared first ≡ (audit.setup.table, config, program)
  stated = λ i. (same_table i, configured i, begun i)

  seats_at : (unseated : Unseated P) (actor : ℕ) (failed : List ℕ) (seats : List (SeatState P)) → shared unseated ≡ shared first
      → AreFirstSeats unseated.table unseated.config unseated.program actor failed seats → AreFirstSeats audit.setup.table config program actor failed seats
  seats_at unseated actor failed seats same are = subst (λ (z : TableId × Config × P). AreFirstSeats z.0 z.1 z.2 actor failed seats) (same ∙ stated) are

  pub all_seats : length nodes ≡ later.config.nodes → AreFirstSeats later.table later.config later.program 1 failures nodes
      → length tasks ≡ 8 → AreFirstSeats last.table last.config last.program 8 [] tasks → AreSeats config program failures nodes tasks audit
  all_seats size nodes_are eight tasks_are = record {
    size = size ∙ ap (λ (z : TableId × Config × P). z.1.nodes) (same_later ∙ stated);
    nodes_are = seats_at later 1 failures nodes same_later nodes_are;
    eight = eight;
    tasks_are = seats_at last 8 [] tasks same_last tasks_are;
    audit_is = audit_is ∙ (λ i. first_seat (same_table i) (configured i) (begun i) 0 0 0);
  }
