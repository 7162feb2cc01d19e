-- A node that runs, and no call of whose device fails, refuses notes and reports only when out of memory.
use Rattle.std.proofs.Common.{◌≡◌, ◌⊎◌, ℕ, Option, Some, None, Result, Ok, Err, List, inl, inr, sym, subst, arith}
use Rattle.std.specs.Prelude.{IsSome, IfErr, IsOkUnless}
use Rattle.rp_threads.specs.rp_base.specs.declared.action.Action.{Action}
use Rattle.rp_threads.specs.rp_base.specs.declared.fault.Fault.{Fault}
use Rattle.rp_threads.specs.rp_base.specs.declared.fault.Fault.TheVariants.{OutOfMemory}
use Rattle.rp_threads.specs.rp_base.specs.declared.reply.Answer.{Answer}
use Rattle.rp_board.specs.Seats.{SeatState, setting_at}
use Rattle.rp_boxes.specs.NodeSeats.{IsReason, IsCutTurn, IsNoTurn}
use Rattle.rp_boxes.specs.rp_model.specs.Effect.{Setting, NodeInput, Interrupt, Tick, Report, effect_while}
use Rattle.rp_boxes.specs.rp_model.specs.Parts.{NodePart, Running}
use Rattle.rp_boxes.specs.rp_rules.specs.Inputs.{given_by}
use Rattle.rp_boxes.specs.rp_rules.specs.declared.input.Input.{Input}
use Rattle.rp_boxes.specs.rp_rules.specs.declared.input.Input.TheVariants as inputs
use Rattle.rp_threads.specs.Turns.{IsStopBy}
use Rattle.rp_threads.proofs.Running.{same_node}
use Rattle.rp_threads.specs.Rounds.{Runs}
use Rattle.rp_live.specs.Seats.{IsNote}

-- ---- one node

-- what a node that runs never refuses
abbrev IsTaken : NodeInput → Type 0
IsTaken (Interrupt source occurrence) = Unit {0}
IsTaken (Tick now) = Unit {0}
IsTaken (Report first) = Unit {0}
IsTaken _ = ⊥

module _ {S : Type 0} (s : Setting S) (me : ℕ) (node : NodePart) where
  only_memory : (input : NodeInput) (running : Option Running) (fault : Fault) → IsTaken input → IsSome running → IsReason running (effect_while s me node input running) fault
      → fault ≡ OutOfMemory
  only_memory input None fault taken runs why = absurd (cc)
  only_memory (Interrupt source occurrence) (Some running) fault taken runs why = why
  only_memory (Tick now) (Some running) fault taken runs why = why
  only_memory (Report first) (Some running) fault taken runs why = why
  only_memory _ (Some running) fault taken runs why = absurd taken

-- ---- its seat

module _ {S P : Type 0} (next : S → Action → S) (answers : S → Action → List Answer) (begin : P → S) (old new : SeatState P) where
  -- where it runs and takes the input, and no call of its device failed, memory ran out
  stops_memory : (input : Input) (fault : Fault) → ((given : NodeInput) → given_by input ≡ Ok given → IsTaken given) → Runs old.part → new.failures ≡ 0
      → IsCutTurn next answers begin old input new fault ⊎ IsNoTurn next answers begin old input new fault → fault ≡ OutOfMemory
  stops_memory input fault taken runs never (inl cut) = let less = cut.failed in absurd (omega (arith, less, never))
  stops_memory input fault taken runs never (inr none) =
      let same : runs.0 ≡ none.node = same_node old.part.role runs.0 none.node runs.1 none.was in
      let some : IsSome none.node.running = subst (λ (n : NodePart). IsSome n.running) same runs.2 in
      only_memory (setting_at next answers begin old) old.setup.number none.node none.given none.node.running fault (taken none.given none.gives) some none.why

  pub report_memory : (first : ℕ) → Runs old.part → new.failures ≡ 0 → {A : Type 0} (result : Result A Fault)
      → IfErr result (λ fault. IsCutTurn next answers begin old (inputs.Report first) new fault ⊎ IsNoTurn next answers begin old (inputs.Report first) new fault)
      → IsOkUnless result OutOfMemory
  report_memory first runs never (Ok sent) why = tt
  report_memory first runs never (Err fault) why =
      stops_memory (inputs.Report first) fault (λ given is. let e : Report first ≡ given = cc in subst IsTaken e tt) runs never why

  -- ---- notes

  note_taken : (input : Input) (given : NodeInput) → IsNote input → given_by input ≡ Ok given → IsTaken given
  note_taken (inputs.Interrupt source occurrence) given note is = let e : Interrupt source occurrence ≡ given = cc in subst IsTaken e tt
  note_taken (inputs.Tick now) given note is = let e : Tick now ≡ given = cc in subst IsTaken e tt
  note_taken _ given note is = absurd note

  pub note_memory : (input : Input) (fault : Fault) → IsNote input → Runs old.part → new.failures ≡ 0 → IsStopBy next answers begin (λ given. given ≡ input) old new fault
      → fault ≡ OutOfMemory
  note_memory input fault note runs never stop =
      let taken : (given : NodeInput) → given_by stop.input ≡ Ok given → IsTaken given = λ given is. note_taken stop.input given (subst IsNote (sym stop.is) note) is in
      elim stop.why [
        | inl cut ↦ stops_memory stop.input fault taken runs never (inl cut)
        | inr none ↦ stops_memory stop.input fault taken runs never (inr none)
      ]
