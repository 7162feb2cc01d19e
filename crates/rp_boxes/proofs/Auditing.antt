-- What the audit knows is reported by the reports that it got.
use Rattle.std.proofs.Common.{◌≡◌, ℕ, zero, suc, ◌+◌, ◌-◌, ◌^◌, ◌<◌, ◌≤◌, Bool, true, false, if◌then◌else◌, nat_lt, Some, Vec, Result, Ok, Err, List, [], ◌∷◌, ◌++◌, length, map, replicate, take, slice_get, slice_set, get_or, inl, inr, refl, sym, ap, subst, ◌∙◌, arith, length-append, length-set, get_or-set_same}
use Rattle.std.specs.Prelude.{OnErr, unwrap_or, vec_len}
use Rattle.std.proofs.lemmas.List.{length-take, map-set}
use Rattle.std.proofs.lemmas.Option.{none-some, unwrap_or-slice_get}
use Rattle.std.proofs.Math.Seq.{map-set_same}
use Rattle.std.specs.declared.alloc.Global.{Global}
use Rattle.rp_base.specs.Sets.{Has}
use Rattle.rp_base.specs.declared.action.Action.{Action}
use Rattle.rp_base.proofs.Members.{has_left}
use Rattle.rp_codec.specs.Message.{Message, IsPacket}
use Rattle.rp_model.specs.World.{with_part}
use Rattle.rp_board.specs.Parts.{Part, with_got}
use Rattle.rp_board.proofs.Opening.{always_at}
use Rattle.rp_boxes.specs.Audits.{Audited, ReportSays, AreAllReported, IsJoined, known_of, report, with_reported}
use Rattle.rp_boxes.specs.declared.audit.Added.TheVariants as added
use Rattle.rp_boxes.proofs.Listed.{at_appended, at_taken}

-- ---- a packet is got

-- what a report says it says among other packets
pub says_among : {packets packets' : List Message} {node before : ℕ} {action : Action} (says : ReportSays packets node before action) → Has (report node says.first says.applied says.actions) packets'
    → ReportSays packets' node before action
says_among says among = record { first = says.first; applied = says.applied; actions = says.actions; among = among; at = says.at; place = says.place; describes = says.describes }

pub stated_still : (part : Part) (known : List (List Action)) (m : Message) → AreAllReported part known → AreAllReported (with_got m part) known
stated_still part known m are = record {
  seven = are.seven;
  stated = λ node before action is. let by = are.stated node before action is in says_among by (has_left _ part.got (m ∷ []) by.among);
  few = are.few;
}

-- nothing is known of any node
pub none_stated : (part : Part) (known : List (List Action)) → known ≡ replicate 7 [] → AreAllReported part known
none_stated part known none = subst (AreAllReported part) (sym none) (record {
  seven = refl;
  stated = λ node before action is. absurd (none-some action (subst (λ (list : List Action). slice_get list before ≡ Some action) (always_at [] 7 node) is));
  few = λ node. subst (λ (list : List Action). length list < 2 ^ 16) (sym (always_at [] 7 node)) (omega arith);
})

-- ---- one list is replaced

-- what holds of the new list, and of the others as they were
in_place : (P : ℕ → List Action → Type 0) (known : List (List Action)) (place : ℕ) (list : List Action)
    → ((k : ℕ) → P k (unwrap_or (slice_get known k) [])) → P place list → (k : ℕ) → P k (unwrap_or (slice_get (slice_set known place list) k) [])
in_place P [] place list each here k = each k
in_place P (x ∷ xs) zero list each here zero = here
in_place P (x ∷ xs) zero list each here (suc k) = each (suc k)
in_place P (x ∷ xs) (suc place) list each here zero = each zero
in_place P (x ∷ xs) (suc place) list each here (suc k) = in_place (λ j. P (suc j)) xs place list (λ j. each (suc j)) here k

pub each_with : (P : ℕ → List Action → Type 0) (known : List (List Action)) (node : ℕ) (list : List Action)
    → ((x : ℕ) → P x (known_of known x)) → P node list → (x : ℕ) → P x (known_of (with_part known node list) x)
each_with P known zero list each here x = each x
each_with P known (suc place) list each here zero = each zero
each_with P known (suc place) list each here (suc k) = in_place (λ j. P (suc j)) known place list (λ j. each (suc j)) here k

pub same_count : (known : List (List Action)) (node : ℕ) (list : List Action) → length (with_part known node list) ≡ length known
same_count known zero list = refl
same_count known (suc place) list = length-set known place list

-- ---- a report is added

either_of : (P : List Action → Type 0) (b : Bool) (new old : List Action) → P new → P old → P (if b then new else old)
either_of P true new old here there = here
either_of P false new old here there = there

module _ (part : Part) (known : List (List Action)) (are : AreAllReported part known) (node first applied : ℕ) (actions : List Action)
    (got : Has (report node first applied actions) part.got) (right : IsPacket (report node first applied actions)) (joins : first ≤ length (known_of known node) + 1) where
  abbrev old : List Action
  old = known_of known node

  abbrev put : List Action
  put = take (first - 1) old ++ actions

  kept : length (take (first - 1) old) ≡ first - 1
  kept = omega (arith, length-take (first - 1) old, joins)

  stated_put : (before : ℕ) (action : Action) → slice_get put before ≡ Some action → ReportSays part.got node before action
  stated_put before action is = elim (at_appended (take (first - 1) old) actions before action is) [
    | inl front ↦ are.stated node before action (at_taken (first - 1) old before action front)
    | inr back ↦ record {
      first = first;
      applied = applied;
      actions = actions;
      among = got;
      at = back.0;
      place = let at = back.1 in omega (arith, at, kept);
      describes = back.2;
    }
  ]

  few_put : length put < 2 ^ 16
  few_put = omega (arith, length-append (take (first - 1) old) actions, kept, right.rules.2.len, right.ranges.body.0.0, right.ranges.body.0.1, right.ranges.body.1)

  abbrev new : List Action
  new = with_reported old first actions

  pub stated_after : AreAllReported part (with_part known node new)
  stated_after = record {
    seven = same_count known node new ∙ are.seven;
    stated = each_with (λ x list. (before : ℕ) (action : Action) → slice_get list before ≡ Some action → ReportSays part.got x before action) known node new are.stated
        (either_of (λ list. (before : ℕ) (action : Action) → slice_get list before ≡ Some action → ReportSays part.got node before action) (nat_lt (length old) (length put)) put old stated_put (are.stated node));
    few = each_with (λ x list. length list < 2 ^ 16) known node new are.few
        (either_of (λ list. length list < 2 ^ 16) (nat_lt (length old) (length put)) put old few_put (are.few node));
  }

-- ---- the lists as memory holds them

abbrev pub lists : List (Vec Action Global) → List (List Action)
lists known = map (λ list. list.items) known

-- the list at a place
item_at : (known : List (Vec Action Global)) (place : ℕ) (list : Vec Action Global) → place < length (lists known) → unwrap_or (slice_get (lists known) place) [] ≡ (get_or known place list).items
item_at [] place list within = absurd (omega (arith, within))
item_at (x ∷ xs) zero list within = refl
item_at (x ∷ xs) (suc place) list within = item_at xs place list (omega (arith, within))

pub counted : (list : Vec Action Global) → vec_len list ≡ length list.items
counted list = omega (arith, list.ok.0)

-- The list of a node is at this place.
pub record IsListAt (known : List (Vec Action Global)) (node place : ℕ) : Type 0 where
  pub seven : length (lists known) ≡ 7
  pub numbered : node ≡ suc place
  pub small : node ≤ 7

pub list_still : {known known' : List (Vec Action Global)} {node place : ℕ} → IsListAt known node place → length (lists known') ≡ 7 → IsListAt known' node place
list_still at seven = record { seven = seven; numbered = at.numbered; small = at.small }

module _ {known : List (Vec Action Global)} {node place : ℕ} (at : IsListAt known node place) where
  within : place < length (lists known)
  within = omega (arith, at.seven, at.numbered, at.small)

  pub known_at : (list : Vec Action Global) → known_of (lists known) node ≡ (get_or known place list).items
  known_at list = subst (λ (k : ℕ). known_of (lists known) k ≡ (get_or known place list).items) (sym at.numbered) (item_at known place list within)

  -- how many it has
  pub counted_at : (list : Vec Action Global) (count : ℕ) → count ≡ vec_len (get_or known place list) → count ≡ length (known_of (lists known) node)
  counted_at list count is = is ∙ (counted (get_or known place list) ∙ ap length (sym (known_at list)))

  -- another list in its place
  pub known_here : (list : List Action) → known_of (with_part (lists known) node list) node ≡ list
  known_here list =
      subst (λ (k : ℕ). known_of (with_part (lists known) k list) k ≡ list) (sym at.numbered)
      (unwrap_or-slice_get (slice_set (lists known) place list) place [] ∙ get_or-set_same (lists known) place list [] within)

  -- what a report makes of it
  pub put_there : (list new : Vec Action Global) (first first' : ℕ) (actions : List Action) → first' ≡ first → new.items ≡ with_reported (get_or known place list).items first' actions
      → lists (slice_set known place new) ≡ with_part (lists known) node (with_reported (known_of (lists known) node) first actions)
  put_there list new first first' actions same made =
      subst (λ (k : ℕ). lists (slice_set known place new) ≡ with_part (lists known) k new.items) (sym at.numbered) (map-set (λ (l : Vec Action Global). l.items) known place new)
      ∙ ap (with_part (lists known) node) (made ∙ (λ i. with_reported (sym (known_at list) i) (same i) actions))

-- a list that holds the same takes its place
pub still_known : (known : List (Vec Action Global)) (place : ℕ) (old list : Vec Action Global) → list.items ≡ (get_or known place old).items → lists (slice_set known place list) ≡ lists known
still_known known place old list same = map-set_same (λ (l : Vec Action Global). l.items) known place list old same

-- ---- what a report results in

module _ {P : Type 0} (old : Audited P) (node first : ℕ) (actions : List Action) (count : ℕ) where
  pub leaves_gap : count ≡ length (known_of old.known node) → count + 1 < first → IsJoined old node first actions old (added.Gap node count)
  leaves_gap is above = record {
    gap = λ h. (refl, ap (λ (n : ℕ). added.Gap node n) is);
    joined = λ h. absurd (omega (arith, is, above, h));
  }

  pub joins_known : (new : Audited P) → first ≤ length (known_of old.known node) + 1
      → new ≡ record old { known = with_part old.known node (with_reported (known_of old.known node) first actions) }
      → count ≡ length (with_reported (known_of old.known node) first actions)
      → IsJoined old node first actions new (added.Added node count)
  joins_known new below is counted = record {
    gap = λ h. absurd (omega (arith, below, h));
    joined = λ h. (is, ap (λ (n : ℕ). added.Added node n) counted);
  }

-- what holds in any case holds on an error
pub on_any_error : {A E : Type 0} {φ : Type 0} (result : Result A E) → φ → OnErr result φ
on_any_error (Ok value) holds = tt
on_any_error (Err error) holds = holds
