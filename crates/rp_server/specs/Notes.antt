-- The votes that a node has heard, read off what its learner noted.
use Rattle.std.specs.Prelude.{List, [], ◌∷◌}
use Rattle.rp_base.specs.Sets.{with_member}
use Rattle.rp_base.specs.Promises.{HeardVote, same_heard, heard_elsewhere}
use Rattle.rp_server.specs.declared.heard.Note.{Note}
use Rattle.rp_server.specs.declared.heard.Note.TheVariants.{Heard, Settled}

-- one note more: a vote is heard, each once; the votes at a settled position are let go
abbrev pub noted : List HeardVote → Note → List HeardVote
noted heard (Heard from i ballot action) =
    with_member same_heard heard (from, i, record { ballot = ballot; action = action })
noted heard (Settled i action) = heard_elsewhere heard i

-- the notes one after another
abbrev pub heard_from : List HeardVote → List Note → List HeardVote
heard_from heard [] = heard
heard_from heard (note ∷ rest) = heard_from (noted heard note) rest

-- the votes heard, in order of arrival
abbrev pub heard_of : List Note → List HeardVote
heard_of notes = heard_from [] notes
