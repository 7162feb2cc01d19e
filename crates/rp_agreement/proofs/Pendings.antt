-- A node's steps with calls, interrupts and ticks are sound.
use Rattle.std.proofs.Common.{◌≡◌, ℕ, ◌<◌, List, [], ◌∷◌, ◌++◌, inl, inr, sym, ap, subst, ◌∙◌}
use Rattle.std.specs.Prelude.{◌^◌}
use Rattle.rp_base.specs.declared.action.Action.{Action}
use Rattle.rp_base.specs.declared.action.Action.TheVariants.{Noop, Call, Interrupt, Tick}
use Rattle.rp_base.specs.declared.record.Rec.{Rec}
use Rattle.rp_base.specs.Action.{IsRight, IsIndex, IsCount}
use Rattle.rp_base.specs.Sets.{Has}
use Rattle.rp_base.proofs.Members.{has_split}
use Rattle.rp_codec.specs.Message.{Message, IsCallBy}
use Rattle.rp_codec.specs.declared.packet.Party.TheVariants.{Node, Task}
use Rattle.rp_codec.specs.declared.packet.Body.TheVariants as bodies
use Rattle.rp_machine.specs.Calls.{CallName}
use Rattle.rp_agreement.specs.Asked.{Asks, IsAsked}
use Rattle.rp_agreement.specs.Sound.{IsRunning}
use Rattle.rp_model.specs.Effect.{Interrupt, Tick}
use Rattle.rp_model.specs.Parts.{Running}

-- a node where one more asked item is pending knows what it knew
pub runs_pending : (sent : List Message) (records : List Rec) (running : Running) (item : Action) → IsRunning sent records running → IsAsked sent item
    → IsRunning sent records (record running { pending = running.pending ++ item ∷ [] })
runs_pending sent records running item runs asked = record {
  proposals = runs.proposals;
  apart = runs.apart;
  pending = λ c h. elim (has_split c running.pending (item ∷ []) h) [
    | inl old ↦ runs.pending c old
    | inr new ↦ elim new [ inl same ↦ subst (IsAsked sent) (sym same) asked | inr none ↦ absurd none ]
  ];
  heard = runs.heard;
}

-- what a task says was asked by it
pub reply_asked : (sent : List Message) (t k : ℕ) (action : Action) → IsCallBy t action → IsRight action
    → Has (record { from = Task t; to = Node k; body = bodies.Call action }) sent → IsAsked sent action
reply_asked sent t k Noop by right h = absurd by
reply_asked sent t k (Call task number object operation arg) by right h = record {
  right = right;
  asked = λ call of_it. elim of_it [
    | inl same ↦
        let own : call.task ≡ t = ap (λ (c : CallName). c.task) same ∙ by in
        subst (λ (u : ℕ). Asks sent u (Call task number object operation arg)) (sym own) (k, h)
    | inr none ↦ absurd none
  ];
}
reply_asked sent t k (Interrupt source occurrence) by right h = absurd by
reply_asked sent t k (Tick now) by right h = absurd by

pub interrupt_asked : (sent : List Message) (source occurrence : ℕ) → IsIndex source → IsCount occurrence → IsAsked sent (Interrupt source occurrence)
interrupt_asked sent source occurrence index count = record { right = (index, count); asked = λ call none. absurd none }

pub tick_asked : (sent : List Message) (now : ℕ) → now < 2 ^ 32 → IsAsked sent (Tick now)
tick_asked sent now small = record { right = small; asked = λ call none. absurd none }
