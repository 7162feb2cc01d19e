-- The actions of a plan are right.
use Rattle.std.proofs.Common.{◌≡◌, ◌≤◌, ℕ, List, [], ◌∷◌, ◌++◌, ◌⊎◌, inl, inr, subst, sym, arith}
use Rattle.std.specs.Prelude.{All, slice_index_or}
use Rattle.rp_words.specs.indexmap.specs.IndexSet.{index_set_len}
use Rattle.rp_deck.specs.rp_base.specs.Action.{IsRight}
use Rattle.rp_deck.specs.rp_base.specs.Sets.{Has}
use Rattle.rp_deck.specs.rp_base.specs.declared.action.Action.{Action}
use Rattle.rp_deck.specs.Deck.{IsRightDeck}
use Rattle.rp_deck.specs.DeckViews.{command_text}
use Rattle.rp_deck.specs.Script.{FitsIn}
use Rattle.rp_deck.specs.declared.deck.Command.{Command}
use Rattle.rp_deck.specs.declared.deck.Command.TheVariants.{Take, Lose, Drain, Show}
use Rattle.rp_deck.specs.declared.deck.Deck.{Deck}
use Rattle.rp_explore_deck.specs.PlannedActions.{AsksRight, actions_of}
use Rattle.rp_explore_deck.specs.declared.actions.PlannedAction.{PlannedAction}
use Rattle.rp_deck.specs.rp_model.specs.declared.event.Event.TheVariants.{Submit, Again, Node, Cut, Stop, Restart}
use Rattle.rp_orders.specs.Orders.{AreRight}

has_last : (planned : List PlannedAction) (p : PlannedAction) (a : Action) → Has a (actions_of (planned ++ p ∷ [])) → Has a (actions_of planned) ⊎ (a ≡ p.action)
has_last [] p a (inl is) = inr is
has_last [] p a (inr none) = absurd none
has_last (q ∷ planned) p a (inl is) = inl (inl is)
has_last (q ∷ planned) p a (inr later) = elim (has_last planned p a later) as (λ _. Has a (actions_of (q ∷ planned)) ⊎ (a ≡ p.action)) [ inl before ↦ inl (inr before) | inr is ↦ inr is ]

pub last_right : (planned : List PlannedAction) (p : PlannedAction) → AreRight (actions_of planned) → IsRight p.action → AreRight (actions_of (planned ++ p ∷ []))
last_right planned p right more a has = elim (has_last planned p a has) as (λ _. IsRight a) [ inl before ↦ right a before | inr is ↦ subst IsRight (sym is) more ]

-- what a right deck asks for has numbers within their ranges
command_right : (nodes tasks objects : ℕ) (command : Command) → objects ≤ 8 → FitsIn nodes tasks objects command → AsksRight (command_text command)
command_right nodes tasks objects (Take (Submit task node object operation arg)) few fits = ((fits.2.0, omega (arith, fits.2.1, few)), fits.3)
command_right nodes tasks objects (Take (Again task node)) few fits = tt
command_right nodes tasks objects (Take (Node step)) few fits = tt
command_right nodes tasks objects (Take (Cut step kept)) few fits = tt
command_right nodes tasks objects (Take (Stop node)) few fits = tt
command_right nodes tasks objects (Take (Restart node)) few fits = tt
command_right nodes tasks objects (Lose first last) few fits = tt
command_right nodes tasks objects Drain few fits = tt
command_right nodes tasks objects Show few fits = tt

pub script_right : (deck : Deck) → IsRightDeck deck → All (λ line. AsksRight (command_text line.command)) deck.script.items
script_right deck right k other within = command_right deck.config.nodes _ (index_set_len deck.objects) (slice_index_or deck.script.items k other).command right.objects.few (right.script k other within)
