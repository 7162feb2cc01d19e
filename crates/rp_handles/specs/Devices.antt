-- The header of a device, and the result of opening a node over a device that has one.
use Rattle.std.specs.Prelude.{◌≡◌, nat_eq, Bool, true, false, ℕ, Option, List, [], ◌∷◌, ◌++◌, drop}
use Rattle.std.specs.List.{starts_with}
use Rattle.std.specs.Int.{w16, to_be_bytes}
use Rattle.rp_requests.specs.rp_base.specs.declared.config.Config.{Config}
use Rattle.rp_deck.specs.declared.deck.Deck.{Deck}
use Rattle.rp_deck_declarations.specs.declared.deck_program.DeckProgram.{DeckProgram}
use Rattle.rp_deck_declarations.specs.declared.deck_program.DeckProgram.TheVariants.{Objects}
use Rattle.rp_deck_declarations.specs.declared.deck_program.DeckProgram.TheVariants.{Tally}
use Rattle.rp_object.specs.declared.program.Program.{Program}
use Rattle.rp_requests.specs.declared.refusal.Refusal.{Refusal}
use Rattle.rp_requests.specs.declared.refusal.Refusal.TheVariants as refusals
use Rattle.sha2.specs.Sha256.{sha256}
use Rattle.rp_handles.specs.DeclaredParts.{declared_part}
use Rattle.rp_handles.specs.DeckNodes.{MeansDeck, OpensNoNode}
use Rattle.rp_handles.specs.Handles.{KeepsNode}
use Rattle.rp_handles.specs.declared.actor.Actor.{Actor}

-- three letters, RPD, and the number of this form; the node; how many nodes and how many positions
-- there are; and the SHA-256 digest of what the deck's text declares
abbrev pub header_text : ℕ → Config → List ℕ → List ℕ
header_text node config text =
    (82 ∷ 80 ∷ 68 ∷ 1 ∷ node ∷ config.nodes ∷ []) ++ to_be_bytes w16 config.max_positions
    ++ sha256 (declared_part text)

-- how many bytes a header has
abbrev pub header_bytes : ℕ
header_bytes = 40

-- the program is one of protected objects
abbrev pub has_objects : DeckProgram → Bool
has_objects (Objects program) = true
has_objects (Tally tally) = false

-- The text means a deck of protected objects, and this is the header of the device of its node.
pub record HasHeader (text : List ℕ) (number : ℕ) (header : List ℕ) : Type 0 where
  pub deck : Deck
  pub means : MeansDeck text deck
  pub program : Program
  pub objects : deck.program ≡ Objects program
  pub is : header ≡ header_text number deck.config text

-- The device begins with the node's header, and the node is kept, opened over the bytes after that.
pub record OpensDevice (text : List ℕ) (number : ℕ) (device : List ℕ) (kept : Option Actor)
    (records length : ℕ) : Type 0 where
  pub header : List ℕ
  pub has : HasHeader text number header
  pub begins : starts_with nat_eq device header ≡ true
  pub opens : KeepsNode text number (drop header_bytes device) kept records length

-- Why no node is opened over a device: it does not begin with the node's header; or there is no
-- such node to open, or memory ran out.
abbrev pub OpensNoDevice : List ℕ → ℕ → List ℕ → Refusal → Type 0
OpensNoDevice text number device refusals.WrongDevice =
    (header : List ℕ) × HasHeader text number header × (starts_with nat_eq device header ≡ false)
OpensNoDevice text number device refusal = OpensNoNode text number refusal
