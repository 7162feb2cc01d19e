-- What the signs of a drawing mean.
use Rattle.std.specs.List.{concat}
use Rattle.std.specs.Prelude.{List, ℕ, [], ◌∷◌, codes}

-- The legend, above the lanes' names: three columns of four signs, each with its meaning at its
-- right. An arrow has another class here than in the drawing, `s` in place of `k`, since it is the
-- way of no message.
abbrev pub legend_text : List ℕ
legend_text = concat (
    codes "<path class='s0' d='M4 12h22'/>" ∷
    codes "<text x='34' y='16'>a packet that is delivered</text>\n" ∷
    codes "<path class='k4' d='M300 12h8'/>" ∷
    codes "<text x='320' y='16'>an actor acts, and no record is made</text>\n" ∷
    codes "<path class='k7' d='M584 12h8'/>" ∷
    codes "<text x='606' y='16'>a node stops</text>\n" ∷
    codes "<path class='s1' d='M4 27h22'/>" ∷
    codes "<text x='34' y='31'>a packet to a stopped node</text>\n" ∷
    codes "<path class='k5' d='M300 27h8'/>" ∷
    codes "<text x='320' y='31'>a node writes a record</text>\n" ∷
    codes "<path class='k9' d='M584 27h8'/>" ∷
    codes "<text x='606' y='31'>a node starts again</text>\n" ∷
    codes "<path class='s2' d='M4 42h22'/>" ∷
    codes "<text x='34' y='46'>a packet that is lost</text>\n" ∷
    codes "<path class='k6' d='M300 42h8'/>" ∷
    codes "<text x='320' y='46'>a node stops within a record</text>\n" ∷
    codes "<path class='k8' d='M578 42h22'/>" ∷
    codes "<path class='k11' d='M578 42h22'/>" ∷
    codes "<text x='606' y='46'>the lane of a stopped node</text>\n" ∷
    codes "<path class='s3' d='M4 57h22'/>" ∷
    codes "<text x='34' y='61'>a packet still on its way at the end</text>\n" ∷
    codes "<path class='k10' d='M300 57h8'/>" ∷
    codes "<text x='320' y='61'>a node is shown</text>\n" ∷
    codes "<path class='c1 k5' d='M577 57h6'/>" ∷
    codes "<path class='c2 k5' d='M586 57h6'/>" ∷
    codes "<path class='c3 k5' d='M595 57h6'/>" ∷
    codes "<text x='606' y='61'>a colour: the owner of the ballot</text>\n" ∷
    [])
