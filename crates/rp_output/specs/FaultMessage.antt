-- The line that is printed for a fault.
use Rattle.std.specs.Prelude.{ℕ, List, ◌∷◌, [], ◌++◌, codes, decimal}
use Rattle.rp_model.specs.rp_base.specs.Fault.{code_of, name_of, reason_text_of}
use Rattle.rp_model.specs.rp_base.specs.declared.fault.Fault.{Fault}
use Rattle.rp_model.specs.rp_base.specs.declared.fault.Fault.TheVariants.{BadDeck}

-- the line for a fault, without its end
abbrev pub fault_message_of : Fault → List ℕ
fault_message_of (BadDeck line reason) =
    codes "deck line " ++ (decimal line ++ (codes ": " ++ reason_text_of reason))
fault_message_of fault = codes "fault " ++ (decimal (code_of fault) ++ (codes " " ++ name_of fault))

-- a line with its end
abbrev pub with_line_feed : List ℕ → List ℕ
with_line_feed text = text ++ 10 ∷ []
