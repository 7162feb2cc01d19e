-- A proposal makes one offer at most.
use Rattle.std.proofs.Common.{◌≡◌, ℕ, ◌+◌, ◌≤◌, Bool, true, false, cond, Option, List, [], ◌∷◌, refl, arith}
use Rattle.rp_base.specs.declared.action.Action.{Action}
use Rattle.rp_base.specs.Sets.{with_member}
use Rattle.rp_base.specs.Promises.{Promise, same_promise, offer_of}
use Rattle.rp_base.specs.declared.proposal.Phase.{Phase}
use Rattle.rp_base.specs.declared.proposal.Phase.TheVariants.{Preparing, Offering}
use Rattle.rp_proposer.specs.declared.proposal.Progress.TheVariants.{Waiting, Offer}
use Rattle.rp_base.specs.Proposals.{Proposal, is_promised}
use Rattle.rp_proposer.specs.Proposing.{is_offer, offers_made}

-- the proposal of these fields
abbrev of_fields : ℕ → ℕ → Option Action → Bool → Phase → List Promise → Proposal
of_fields i b own ranged phase promises = record { position = i; ballot = b; own = own; ranged = ranged; phase = phase; promises = promises }

none_later : (nodes i b : ℕ) (own : Option Action) (ranged : Bool) (promises more : List Promise) → offers_made nodes (of_fields i b own ranged Offering promises) more ≡ 0
none_later nodes i b own ranged promises [] = refl
none_later nodes i b own ranged promises (promise ∷ more) = omega (arith, none_later nodes i b own ranged promises more)

one_yet : (nodes i b : ℕ) (own : Option Action) (ranged : Bool) (promises more : List Promise) → offers_made nodes (of_fields i b own ranged Preparing promises) more ≤ 1
one_yet nodes i b own ranged promises [] = omega arith
one_yet nodes i b own ranged promises (promise ∷ more) =
    let all : List Promise = with_member same_promise promises promise in
    elim (is_promised nodes (of_fields i b own ranged Preparing all)) as (λ t. cond (is_offer (cond t (Offer (offer_of own all)) Waiting)) 1 0 + offers_made nodes (cond t (of_fields i b own ranged Offering all) (of_fields i b own ranged Preparing all)) more ≤ 1) [
      | true ↦ omega (arith, none_later nodes i b own ranged all more)
      | false ↦ omega (arith, one_yet nodes i b own ranged all more)
    ]

in_phase : (nodes i b : ℕ) (own : Option Action) (ranged : Bool) (phase : Phase) (promises more : List Promise) → offers_made nodes (of_fields i b own ranged phase promises) more ≤ 1
in_phase nodes i b own ranged Preparing promises more = one_yet nodes i b own ranged promises more
in_phase nodes i b own ranged Offering promises more = omega (arith, none_later nodes i b own ranged promises more)

pub one_offer : (nodes : ℕ) (p : Proposal) (promises : List Promise) → offers_made nodes p promises ≤ 1
one_offer nodes p promises = in_phase nodes p.position p.ballot p.own p.ranged p.phase p.promises promises
