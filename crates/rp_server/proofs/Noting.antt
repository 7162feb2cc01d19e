-- The votes heard, one note on.
use Rattle.std.proofs.Common.{◌≡◌, List, [], ◌∷◌, ◌++◌, refl}
use Rattle.rp_base.specs.Promises.{HeardVote}
use Rattle.rp_server.specs.declared.heard.Note.{Note}
use Rattle.rp_server.specs.Notes.{noted, heard_from, heard_of}

heard_goes_on : (heard : List HeardVote) (notes more : List Note) → heard_from heard (notes ++ more) ≡ heard_from (heard_from heard notes) more
heard_goes_on heard [] more = refl
heard_goes_on heard (note ∷ notes) more = heard_goes_on (noted heard note) notes more

pub heard_then : (notes : List Note) (note : Note) → heard_of (notes ++ note ∷ []) ≡ noted (heard_of notes) note
heard_then notes note = heard_goes_on [] notes (note ∷ [])
