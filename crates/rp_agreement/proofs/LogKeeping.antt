-- In every history each record of each node is at a position of the log, or at none.
use Rattle.std.proofs.Common.{◌≡◌, ℕ, zero, suc, ◌≤◌, ◌+◌, true, false, if◌then◌else◌, Result, Ok, Err, Option, Some, None, List, [], ◌∷◌, ◌++◌, ◌⊎◌, length, inl, inr, refl, sym, subst, arith}
use Rattle.std.specs.Prelude.{nat_le, replicate, slice_set}
use Rattle.std.proofs.lemmas.Bool.{leb-true}
use Rattle.rp_base.specs.declared.action.Action.{Action}
use Rattle.rp_base.specs.declared.fault.Fault.{Fault}
use Rattle.rp_base.specs.declared.record.Rec.{Rec}
use Rattle.rp_base.specs.declared.record.Rec.TheVariants.{Learned}
use Rattle.rp_base.specs.Records.{learned_at, learned_run, unless_missing, applied_of}
use Rattle.rp_base.specs.Sets.{Has}
use Rattle.rp_base.proofs.Members.{has_split}
use Rattle.rp_model.specs.Parts.{Running}
use Rattle.rp_model.specs.Parts.{NodePart}
use Rattle.rp_model.specs.Parts.{Turn}
use Rattle.rp_model.specs.Parts.{fresh_node, with_record, is_in_log}
use Rattle.rp_model.specs.Texts.{written_for}
use Rattle.rp_model.specs.Effect.{Setting, Done, NodeInput, running_effect, turn_done_if, effect_while, node_effect, stop_part, cut_part, stops_while, stop_effect, cut_if, cut_effect, restart_while, restart_part}
use Rattle.rp_model.specs.Events.{Event}
use Rattle.rp_model.specs.World.{World, opening_world, part_at, with_part}
use Rattle.rp_agreement.specs.History.{IsHistory}
use Rattle.rp_agreement.proofs.InLog.{WritesInLog, InLogIf, turn_in_log}
use Rattle.rp_agreement.proofs.RecordGrowth.{learned_has}
use Rattle.rp_agreement.proofs.PartPlaces.{part_has}
use Rattle.rp_agreement.proofs.EventWalk.{IsKeptByAll, any_input, any_task, any_event, history_keeps}

-- each record is at a position of the log, or at none
abbrev pub AreInLog : ℕ → List Rec → Type 0
AreInLog most records = (rec : Rec) → Has rec records → is_in_log most rec ≡ true

written_in_log : (most : ℕ) (records : List Rec) (written : Option Rec) → AreInLog most records → WritesInLog most written → AreInLog most (with_record records written)
written_in_log most records None all one rec h = all rec h
written_in_log most records (Some more) all one rec h =
    elim (has_split rec records (more ∷ []) h) [
      | inl old ↦ all rec old
      | inr new ↦ elim new [ inl same ↦ subst (λ (r : Rec). is_in_log most r ≡ true) (sym same) one | inr none ↦ absurd none ]
    ]

-- ---- a node's step

abbrev DoneInLog : ℕ → Result (Done NodePart) Fault → Type 0
DoneInLog most (Ok done) = AreInLog most done.part.records
DoneInLog most (Err fault) = Unit {0}

turned_in_log : (most : ℕ) (part : NodePart) (turn : Result Turn Fault) → AreInLog most part.records → InLogIf most turn → DoneInLog most (turn_done_if part turn)
turned_in_log most part (Ok turn) all one = written_in_log most part.records turn.written all one
turned_in_log most part (Err fault) all one = tt

cut_in_log : (most kept : ℕ) (part : NodePart) (written : Option Rec) → AreInLog most part.records → WritesInLog most written → AreInLog most (cut_part kept part written).records
cut_in_log most kept part None all one = all
cut_in_log most kept part (Some rec) all one =
    let whole = stop_part (record part { records = part.records ++ rec ∷ [] }) in
    let torn = stop_part (record part { torn = kept }) in
    elim (nat_le (length (written_for rec)) kept) as (λ b. let left : NodePart = if b then whole else torn in AreInLog most left.records) [
      | true ↦ written_in_log most part.records (Some rec) all one
      | false ↦ all
    ]

turned_cut : (most kept : ℕ) (part : NodePart) (turn : Result Turn Fault) → AreInLog most part.records → InLogIf most turn → DoneInLog most (cut_if kept part (turn_done_if part turn))
turned_cut most kept part (Ok turn) all one = cut_in_log most kept part turn.written all one
turned_cut most kept part (Err fault) all one = tt

module _ {S : Type 0} (s : Setting S) where
  input_while : (me : ℕ) (part : NodePart) (input : NodeInput) (running : Option Running) → AreInLog s.config.max_positions part.records → DoneInLog s.config.max_positions (effect_while s me part input running)
  input_while me part input None all = tt
  input_while me part input (Some running) all = turned_in_log s.config.max_positions part (running_effect s me part.records running input) all (turn_in_log s me part.records running input)

  cut_while : (me kept : ℕ) (part : NodePart) (input : NodeInput) (running : Option Running) → AreInLog s.config.max_positions part.records
      → DoneInLog s.config.max_positions (cut_if kept part (effect_while s me part input running))
  cut_while me kept part input None all = tt
  cut_while me kept part input (Some running) all = turned_cut s.config.max_positions kept part (running_effect s me part.records running input) all (turn_in_log s me part.records running input)

stop_while : (most : ℕ) (part : NodePart) (running : Option Running) → AreInLog most part.records → DoneInLog most (stops_while part running)
stop_while most part None all = tt
stop_while most part (Some running) all = all

restarted : (most : ℕ) (part : NodePart) (running : Option Running) → AreInLog most part.records → AreInLog most (restart_while part running).part.records
restarted most part None all = all
restarted most part (Some running) all = all

result_in_log : (most : ℕ) (result : Result (Done NodePart) Fault) (done : Done NodePart) → DoneInLog most result → result ≡ Ok done → AreInLog most done.part.records
result_in_log most result done all resulted = subst (DoneInLog most) resulted all

-- ---- the parts of a world

-- each node's records are in the log
abbrev pub NodesInLog : ℕ → World → Type 0
NodesInLog most w = (part : NodePart) → Has part w.nodes → AreInLog most part.records

set_or_new : {A : Type 0} (xs : List A) (place : ℕ) (a x : A) → Has x (slice_set xs place a) → Has x xs ⊎ (x ≡ a)
set_or_new [] place a x h = absurd h
set_or_new (y ∷ ys) zero a x h = elim h [ inl same ↦ inr same | inr later ↦ inl (inr later) ]
set_or_new (y ∷ ys) (suc place) a x h =
    elim h [
      | inl same ↦ inl (inl same)
      | inr later ↦ elim (set_or_new ys place a x later) [ inl old ↦ inl (inr old) | inr new ↦ inr new ]
    ]

pub part_or_new : {A : Type 0} (parts : List A) (place : ℕ) (a x : A) → Has x (with_part parts place a) → Has x parts ⊎ (x ≡ a)
part_or_new parts zero a x h = inl h
part_or_new parts (suc place) a x h = set_or_new parts place a x h

put_in_log : (most : ℕ) (w : World) (me : ℕ) (now : NodePart) → NodesInLog most w → AreInLog most now.records
    → (part : NodePart) → Has part (with_part w.nodes me now) → AreInLog most part.records
put_in_log most w me now all one part h =
    elim (part_or_new w.nodes me now part h) [
      | inl old ↦ all part old
      | inr new ↦ subst (λ (p : NodePart). AreInLog most p.records) (sym new) one
    ]

module _ {S : Type 0} (s : Setting S) where
  at_place : (w : World) (me : ℕ) (part : NodePart) → NodesInLog s.config.max_positions w → part_at w.nodes me ≡ Some part → AreInLog s.config.max_positions part.records
  at_place w me part all here = all part (part_has w.nodes me part here)

  pub log_kept : IsKeptByAll s any_input any_task (NodesInLog s.config.max_positions)
  log_kept = record {
    input = λ w me part input done all here is _ resulted. put_in_log s.config.max_positions w me done.part all
        (result_in_log s.config.max_positions (node_effect s me part input) done (input_while s me part input part.running (at_place w me part all here)) resulted);
    cut = λ w me kept part input done all here is resulted. put_in_log s.config.max_positions w me done.part all
        (result_in_log s.config.max_positions (cut_effect s me part input kept) done (cut_while s me kept part input part.running (at_place w me part all here)) resulted);
    stop = λ w me part done all here resulted. put_in_log s.config.max_positions w me done.part all
        (result_in_log s.config.max_positions (stop_effect part) done (stop_while s.config.max_positions part part.running (at_place w me part all here)) resulted);
    restart = λ w me part all here. put_in_log s.config.max_positions w me (restart_part part).part all
        (restarted s.config.max_positions part part.running (at_place w me part all here));
    torn = λ w me kept part all here. put_in_log s.config.max_positions w me _ all (at_place w me part all here);
    task = λ w t part input done all here is _ resulted. all;
  }

pub same_everywhere : {A : Type 0} (n : ℕ) (a x : A) → Has x (replicate n a) → x ≡ a
same_everywhere zero a x h = absurd h
same_everywhere (suc n) a x h = elim h [ inl same ↦ same | inr later ↦ same_everywhere n a x later ]

opening_in_log : (most nodes : ℕ) → NodesInLog most (opening_world nodes)
opening_in_log most nodes part h rec is = absurd (subst (λ (p : NodePart). Has rec p.records) (same_everywhere nodes fresh_node part h) is)

pub history_in_log : {S : Type 0} (s : Setting S) (events : List Event) (w : World) → IsHistory s events w → NodesInLog s.config.max_positions w
history_in_log s events w history =
    history_keeps s any_input any_task (NodesInLog s.config.max_positions) (log_kept s) (opening_world s.config.nodes) events w (opening_in_log s.config.max_positions s.config.nodes) history.right (λ event _. any_event event) history.happened

-- ---- what is applied

run_goes_on : (records : List Rec) (most n i : ℕ) (learned : Option Action) → learned_at records (suc i) ≡ learned → AreInLog most records → i ≤ most
    → ((suc i ≤ most) → length (learned_run records n (suc (suc i))) + suc i ≤ most)
    → length (unless_missing learned (learned_run records n (suc (suc i)))) + i ≤ most
run_goes_on records most n i None is all low rest = omega (arith, low)
run_goes_on records most n i (Some v) is all low rest =
    let here : suc i ≤ most = leb-true (suc i) most (all (Learned (suc i) v) (learned_has records (suc i) v is)) in
    let more : length (learned_run records n (suc (suc i))) + suc i ≤ most = rest here in
    omega (arith, more)

run_in_log : (records : List Rec) (most n i : ℕ) → AreInLog most records → i ≤ most → length (learned_run records n (suc i)) + i ≤ most
run_in_log records most zero i all low = omega (arith, low)
run_in_log records most (suc n) i all low = run_goes_on records most n i (learned_at records (suc i)) refl all low (λ here. run_in_log records most n (suc i) all here)

pub applied_in_log : (records : List Rec) (most : ℕ) → AreInLog most records → length (applied_of records) ≤ most
applied_in_log records most all =
    let run : length (learned_run records (length records) 1) + 0 ≤ most = run_in_log records most (length records) 0 all (omega arith) in
    omega (arith, run)
