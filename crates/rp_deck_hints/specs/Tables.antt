-- Which advice is given, by the first word of a line.
use Rattle.std.specs.Prelude.{ℕ, List, ◌∷◌, [], codes}
use Rattle.rp_deck_hints.specs.declared.advice.Advice.{Advice}
use Rattle.rp_deck_hints.specs.declared.advice.Advice.TheVariants as advices

-- words, each with an advice
abbrev pub Table : Type 0
Table = List (List ℕ × Advice)

-- of the second word, where it is a number
abbrev pub second_numbers : Table
second_numbers =
    (codes "nodes", advices.Nodes) ∷
    (codes "positions", advices.Positions) ∷
    (codes "tally", advices.Tally) ∷
    (codes "irq", advices.Node) ∷
    (codes "tick", advices.Node) ∷
    (codes "lead", advices.Node) ∷
    (codes "range", advices.Node) ∷
    (codes "stop", advices.Node) ∷
    (codes "restart", advices.Node) ∷
    (codes "deliver", advices.Packet) ∷
    (codes "lose", advices.Packet) ∷
    (codes "cut", advices.Kept) ∷
    []

-- of the third word, where it is a number
abbrev pub third_numbers : Table
third_numbers =
    (codes "task", advices.Priority) ∷
    (codes "object", advices.Ceiling) ∷
    (codes "call", advices.Node) ∷
    (codes "arm", advices.Node) ∷
    (codes "disarm", advices.Node) ∷
    (codes "again", advices.Node) ∷
    (codes "tick", advices.Now) ∷
    (codes "lead", advices.Position) ∷
    (codes "range", advices.Position) ∷
    (codes "lose", advices.Packet) ∷
    []

-- of the fourth word, where it is a number
abbrev pub fourth_numbers : Table
fourth_numbers =
    (codes "irq", advices.Occurrence) ∷
    (codes "range", advices.Count) ∷
    (codes "cut", advices.CutWhere) ∷
    []

-- of the fifth word, where it is a number
abbrev pub fifth_numbers : Table
fifth_numbers =
    (codes "int", advices.FirstValue) ∷
    (codes "cut", advices.Position) ∷
    []

-- of the sixth word, where it is a number
abbrev pub sixth_numbers : Table
sixth_numbers =
    (codes "entry", advices.Queue) ∷
    (codes "cut", advices.Count) ∷
    []

-- of the second word, where it is to be a new name
abbrev pub second_names : Table
second_names =
    (codes "int", advices.ComponentName) ∷
    (codes "bool", advices.ComponentName) ∷
    []

-- of the third word, where it is to be a name
abbrev pub third_names : Table
third_names =
    (codes "interrupt", advices.Dotted) ∷
    (codes "timer", advices.Dotted) ∷
    []

-- of the fourth word, where it is to be a name
abbrev pub fourth_names : Table
fourth_names =
    (codes "call", advices.Dotted) ∷
    []

-- of the second word, where it is to be a declared name
abbrev pub second_known : Table
second_known =
    (codes "put", advices.PutBoolean) ∷
    (codes "set", advices.SetInteger) ∷
    []

-- of the fourth word, where it is to be a declared name
abbrev pub fourth_known : Table
fourth_known =
    (codes "entry", advices.Barrier) ∷
    []

-- of the first word of a line, where it is not allowed
abbrev pub places : Table
places =
    (codes "nodes", advices.OnceNodes) ∷
    (codes "positions", advices.OncePositions) ∷
    (codes "profile", advices.OnceProfile) ∷
    (codes "task", advices.Task) ∷
    (codes "tally", advices.OneTally) ∷
    (codes "object", advices.Object) ∷
    (codes "interrupt", advices.Object) ∷
    (codes "timer", advices.Object) ∷
    (codes "int", advices.OfObject) ∷
    (codes "bool", advices.OfObject) ∷
    (codes "function", advices.OfObject) ∷
    (codes "procedure", advices.OfObject) ∷
    (codes "entry", advices.OfObject) ∷
    (codes "set", advices.Statement) ∷
    (codes "put", advices.Statement) ∷
    (codes "out", advices.Statement) ∷
    (codes "if", advices.Statement) ∷
    (codes "else", advices.Else) ∷
    (codes "end", advices.End) ∷
    (codes "script", advices.Script) ∷
    (codes "never", advices.Rule) ∷
    (codes "always", advices.Rule) ∷
    (codes "finally", advices.Rule) ∷
    (codes "when", advices.Guard) ∷
    (codes "unless", advices.Guard) ∷
    (codes "call", advices.OfScript) ∷
    (codes "arm", advices.OfScript) ∷
    (codes "disarm", advices.OfScript) ∷
    (codes "again", advices.OfScript) ∷
    (codes "lead", advices.OfScript) ∷
    (codes "range", advices.OfScript) ∷
    (codes "deliver", advices.OfScript) ∷
    (codes "lose", advices.OfScript) ∷
    (codes "drain", advices.OfScript) ∷
    (codes "stop", advices.OfScript) ∷
    (codes "restart", advices.OfScript) ∷
    (codes "cut", advices.OfScript) ∷
    (codes "irq", advices.OfScript) ∷
    (codes "tick", advices.OfScript) ∷
    (codes "show", advices.OfScript) ∷
    []

-- of the second word, where it is to be a fixed one
abbrev pub second_words : Table
second_words =
    (codes "profile", advices.Profile) ∷
    []

-- of the third word, where it is to be a fixed one
abbrev pub third_words : Table
third_words =
    (codes "bool", advices.Truth) ∷
    (codes "function", advices.Function) ∷
    (codes "entry", advices.When) ∷
    (codes "cut", advices.CutStep) ∷
    []

-- of the fifth word, where it is to be a fixed one
abbrev pub fifth_words : Table
fifth_words =
    (codes "entry", advices.Longest) ∷
    []
