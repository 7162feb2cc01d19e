-- What each event adds to a world.
use Rattle.std.proofs.Common.{◌≡◌, ℕ, zero, suc, Bool, true, false, cond, Result, Ok, Err, Option, Some, None, List, [], ◌∷◌, ◌++◌, length, ◌⊎◌, inl, inr, refl, sym, ap, subst, ◌∙◌}
use Rattle.std.proofs.lemmas.List.{append-nil}
use Rattle.std.specs.Prelude.{nat_le, slice_get, slice_set}
use Rattle.rp_base.specs.declared.action.Action.{Action}
use Rattle.rp_base.specs.declared.fault.Fault.{Fault}
use Rattle.rp_base.specs.declared.record.Rec.{Rec}
use Rattle.rp_base.specs.Records.{applied_of}
use Rattle.rp_model.specs.Parts.{Running}
use Rattle.rp_model.specs.Parts.{NodePart}
use Rattle.rp_model.specs.Parts.{TaskPart}
use Rattle.rp_model.specs.Parts.{Turn}
use Rattle.rp_model.specs.Parts.{with_record}
use Rattle.rp_model.specs.Texts.{written_for}
use Rattle.rp_model.specs.Effect.{Setting, Done, NodeInput, running_effect, turn_done_if, effect_while, node_effect, stop_part, cut_part, cut_if, stops_while, restart_while, restart_part}
use Rattle.rp_model.specs.Tasks as tasks
use Rattle.rp_model.specs.Tasks.{TaskInput, task_effect}
use Rattle.rp_model.specs.Events.{Step, Event, Submit, Again, Makes, Cut, Stop, Restart}
use Rattle.rp_model.specs.World.{World, Transition, part_at, with_part, nothing_happens, node_done, task_done, node_done_if, task_done_if, task_takes, chosen_effect, chosen_cut, step_effect, cut_step, stops, restarts, event_effect}
use Rattle.rp_model.proofs.Choosing.{any_given, gives_any, by_chosen}
use Rattle.rp_model.specs.Growing.{Grows}
use Rattle.rp_model.proofs.AppliedGrowing.{applied_more}

-- the records go on
abbrev pub RecordsGoOn : NodePart → NodePart → Type 0
RecordsGoOn old new = (more : List Rec) × (new.records ≡ old.records ++ more)

goes_on_same : (old new : NodePart) → old ≡ new → RecordsGoOn old new
goes_on_same old new same = ([], sym (append-nil old.records ∙ ap (λ (part : NodePart). part.records) same))

-- where one part is set, each is as it was or is the one that was set
get_set : {A : Type 0} (xs : List A) (i j : ℕ) (was is old new : A) → slice_get xs i ≡ Some was → slice_get xs j ≡ Some old → slice_get (slice_set xs i is) j ≡ Some new
    → ((old ≡ was) × (new ≡ is)) ⊎ (old ≡ new)
get_set [] i j was is old new here one two = absurd cc
get_set (x ∷ xs) zero zero was is old new here one two = inl (cc, cc)
get_set (x ∷ xs) zero (suc j) was is old new here one two = inr cc
get_set (x ∷ xs) (suc i) zero was is old new here one two = inr cc
get_set (x ∷ xs) (suc i) (suc j) was is old new here one two = get_set xs i j was is old new here one two

length_set : {A : Type 0} (xs : List A) (i : ℕ) (a : A) → length (slice_set xs i a) ≡ length xs
length_set [] i a = refl
length_set (x ∷ xs) zero a = refl
length_set (x ∷ xs) (suc i) a = ap suc (length_set xs i a)

part_same : {A : Type 0} (parts : List A) (place : ℕ) (old new : A) → part_at parts place ≡ Some old → part_at parts place ≡ Some new → old ≡ new
part_same parts place old new one two = cc

-- the records that were kept, with the one that was written
written_more : (records : List Rec) (written : Option Rec) → (more : List Rec) × (with_record records written ≡ records ++ more)
written_more records None = ([], sym (append-nil records))
written_more records (Some rec) = (rec ∷ [], refl)

applied_on : (old new : NodePart) → RecordsGoOn old new → (further : List Action) × (applied_of new.records ≡ applied_of old.records ++ further)
applied_on old new goes =
    let grown = applied_more old.records goes.0 in
    (grown.0, ap applied_of goes.1 ∙ grown.1)

-- a world grows where its nodes' records go on
grows : (w : World) (transition : Transition) → transition.world.sent ≡ w.sent ++ transition.sends → length transition.world.nodes ≡ length w.nodes
    → ((node : ℕ) (old new : NodePart) → part_at w.nodes node ≡ Some old → part_at transition.world.nodes node ≡ Some new → RecordsGoOn old new) → Grows w transition
grows w transition sent nodes records = record {
  sent = sent;
  nodes = nodes;
  records = records;
  applied = λ node old new one two. applied_on old new (records node old new one two);
}

-- so does one whose nodes are as they were
grows_beside : (w : World) (transition : Transition) → transition.world.nodes ≡ w.nodes → transition.world.sent ≡ w.sent ++ transition.sends → Grows w transition
grows_beside w transition same sent =
    grows w transition sent (ap length same)
    (λ node old new one two. goes_on_same old new (part_same w.nodes node old new one (subst (λ (nodes : List NodePart). part_at nodes node ≡ Some new) same two)))

nothing_grows : (w : World) → Grows w (nothing_happens w)
nothing_grows w = grows_beside w (nothing_happens w) refl (sym (append-nil w.sent))

-- where one part is put back, each is as it was or is that one
get_with : {A : Type 0} (parts : List A) (me place : ℕ) (was is old new : A) → part_at parts me ≡ Some was → part_at parts place ≡ Some old → part_at (with_part parts me is) place ≡ Some new
    → ((old ≡ was) × (new ≡ is)) ⊎ (old ≡ new)
get_with parts zero place was is old new here one two = absurd cc
get_with parts (suc i) zero was is old new here one two = absurd cc
get_with parts (suc i) (suc j) was is old new here one two = get_set parts i j was is old new here one two

length_with : {A : Type 0} (parts : List A) (me : ℕ) (part : A) → length (with_part parts me part) ≡ length parts
length_with parts zero part = refl
length_with parts (suc i) part = length_set parts i part

-- the result of an actor's step, if it is not refused, lets the records go on
abbrev pub OnIf : NodePart → Result (Done NodePart) Fault → Type 0
OnIf part (Ok done) = RecordsGoOn part done.part
OnIf part (Err fault) = Unit {0}

node_grows : (w : World) (me : ℕ) (part : NodePart) (done : Done NodePart) → part_at w.nodes me ≡ Some part → RecordsGoOn part done.part → Grows w (node_done w me done)
node_grows w me part done here goes =
    grows w (node_done w me done) refl (length_with w.nodes me done.part)
    (λ node old new one two. elim (get_with w.nodes me node part done.part old new here one two) [
      | inl both ↦ (goes.0, ap (λ (p : NodePart). p.records) both.1 ∙ goes.1 ∙ sym (ap (λ (p : NodePart). p.records ++ goes.0) both.0))
      | inr same ↦ goes_on_same old new same
    ])

-- what happened, if it did, makes the world grow
abbrev pub GrowsIf : World → Result Transition Fault → Type 0
GrowsIf w (Ok transition) = Grows w transition
GrowsIf w (Err fault) = Unit {0}

node_grows_if : (w : World) (me : ℕ) (part : NodePart) (done : Result (Done NodePart) Fault) → part_at w.nodes me ≡ Some part → OnIf part done → GrowsIf w (node_done_if w me done)
node_grows_if w me part (Ok done) here goes = node_grows w me part done here goes
node_grows_if w me part (Err fault) here goes = tt

task_grows_if : (w : World) (task : ℕ) (done : Result (Done TaskPart) Fault) → GrowsIf w (task_done_if w task done)
task_grows_if w task (Ok done) = grows_beside w (task_done w task done) refl refl
task_grows_if w task (Err fault) = tt

-- ---- one node

turned_on : (part : NodePart) (turn : Result Turn Fault) → OnIf part (turn_done_if part turn)
turned_on part (Ok turn) = written_more part.records turn.written
turned_on part (Err fault) = tt

same_on : (part : NodePart) → (more : List Rec) × (part.records ≡ part.records ++ more)
same_on part = ([], sym (append-nil part.records))

cut_on : (kept : ℕ) (part : NodePart) (written : Option Rec) → RecordsGoOn part (cut_part kept part written)
cut_on kept part None = same_on part
cut_on kept part (Some rec) = by (nat_le (length (written_for rec)) kept)
  where
    by : (b : Bool) → RecordsGoOn part (cond b (stop_part (record part { records = part.records ++ rec ∷ [] })) (stop_part (record part { torn = kept })))
    by true = (rec ∷ [], refl)
    by false = same_on part

cut_if_on : (kept : ℕ) (part : NodePart) (done : Result (Done NodePart) Fault) → OnIf part (cut_if kept part done)
cut_if_on kept part (Ok done) = cut_on kept part done.written
cut_if_on kept part (Err fault) = tt

stop_on : (part : NodePart) (running : Option Running) → OnIf part (stops_while part running)
stop_on part None = tt
stop_on part (Some running) = same_on part

restart_on : (part : NodePart) (running : Option Running) → RecordsGoOn part (restart_while part running).part
restart_on part None = same_on part
restart_on part (Some running) = same_on part

module _ {S : Type 0} (s : Setting S) where
  effect_on : (me : ℕ) (part : NodePart) (input : NodeInput) (running : Option Running) → OnIf part (effect_while s me part input running)
  effect_on me part input None = tt
  effect_on me part input (Some running) = turned_on part (running_effect s me part.records running input)

  -- ---- one event

  step_grows : (w : World) (step : Step) → GrowsIf w (step_effect s w step)
  step_grows w step =
      by_chosen w any_given (λ c. GrowsIf w (chosen_effect s w c))
      (λ me part input here _. node_grows_if w me part (node_effect s me part input) here (effect_on me part input part.running))
      (λ task part message here _. task_grows_if w task (task_effect s.config task part (tasks.Take message))) (λ whom. nothing_grows w) tt (λ me none. tt) step (gives_any w step)

  cut_grows : (w : World) (step : Step) (kept : ℕ) → GrowsIf w (cut_step s w step kept)
  cut_grows w step kept =
      by_chosen w any_given (λ c. GrowsIf w (chosen_cut s w kept c))
      (λ me part input here _. node_grows_if w me part (cut_if kept part (node_effect s me part input)) here (cut_if_on kept part (node_effect s me part input)))
      (λ task part message here _. tt) (λ whom. tt) tt (λ me none. tt) step (gives_any w step)

  stops_grow : (w : World) (me : ℕ) (part : Option NodePart) → part_at w.nodes me ≡ part → GrowsIf w (stops w me part)
  stops_grow w me None here = tt
  stops_grow w me (Some part) here = node_grows_if w me part (stops_while part part.running) here (stop_on part part.running)

  restarts_grow : (w : World) (me : ℕ) (part : Option NodePart) → part_at w.nodes me ≡ part → GrowsIf w (restarts w me part)
  restarts_grow w me None here = tt
  restarts_grow w me (Some part) here = node_grows w me part (restart_part part) here (restart_on part part.running)

  task_grows : (w : World) (task : ℕ) (input : TaskInput) (part : Option TaskPart) → GrowsIf w (task_takes s.config w task input part)
  task_grows w task input None = tt
  task_grows w task input (Some part) = task_grows_if w task (task_effect s.config task part input)

  -- every event's effect makes the world grow
  pub event_grows : (w : World) (event : Event) → GrowsIf w (event_effect s w event)
  event_grows w (Submit task node object operation arg) = task_grows w task (tasks.Submit node object operation arg) (part_at w.tasks task)
  event_grows w (Again task node) = task_grows w task (tasks.Again node) (part_at w.tasks task)
  event_grows w (Makes step) = step_grows w step
  event_grows w (Cut step kept) = cut_grows w step kept
  event_grows w (Stop me) = stops_grow w me (part_at w.nodes me) refl
  event_grows w (Restart me) = restarts_grow w me (part_at w.nodes me) refl
