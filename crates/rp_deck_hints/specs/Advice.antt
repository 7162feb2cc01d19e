-- What is said of a word at fault beside the word itself: what to write there.
use Rattle.std.specs.Prelude.{ℕ, List, ◌∷◌, [], codes}
use Rattle.rp_deck_hints.specs.declared.advice.Advice.{Advice}
use Rattle.rp_deck_hints.specs.declared.advice.Advice.TheVariants as advices

abbrev pub advice_text : Advice → List ℕ
advice_text advices.Nodes = codes "nodes is 3 to 7"
advice_text advices.Positions = codes "positions is 1 to 65535"
advice_text advices.Tally = codes "a tally has 1 to 8 objects"
advice_text advices.Priority = codes "a priority is 1 to 30"
advice_text advices.Ceiling = codes "a ceiling is 1 to 30"
advice_text advices.FirstValue = codes "a first value is from LOW to HIGH"
advice_text advices.Queue = codes "a queue is 1 to 8 calls long"
advice_text advices.Node = codes "a node is 1 to the number after nodes"
advice_text advices.Packet = codes "packets are numbered from 1"
advice_text advices.Position = codes "a position is 1 to 65535"
advice_text advices.Count = codes "a range has 1 to 64 positions"
advice_text advices.Occurrence = codes "an occurrence is 1 to 4294967295"
advice_text advices.Now = codes "the time of a tick is 0 to 4294967295"
advice_text advices.Kept = codes "the bytes that are kept are 0 or more"
advice_text advices.CutWhere =
    codes
    "a node is 1 to the number after nodes, and packets are numbered from 1"
advice_text advices.Number =
    codes
    "a number is decimal digits, after a - if it is negative, within 64 bits"
advice_text advices.Name = codes "a name is a letter and at most 15 letters, digits or _"
advice_text advices.ComponentName =
    codes
    "a component's name is a letter, at most 15 letters, digits or _, and no word of expressions"
advice_text advices.Dotted = codes "write OBJECT.OPERATION, two names with a dot between them"
advice_text advices.Declared = codes "it is declared above: choose another name"
advice_text advices.Unknown = codes "nothing of this name and kind is declared above"
advice_text advices.PutBoolean =
    codes
    "put takes a Boolean component that is declared above, and set an integer one"
advice_text advices.SetInteger =
    codes
    "set takes an integer component that is declared above, and put a Boolean one"
advice_text advices.Barrier =
    codes
    "a barrier is the name of a Boolean component: put the condition into that"
advice_text advices.FirstLine = codes "the first line is nodes N, with N from 3 to 7"
advice_text advices.ByteOrderMark =
    codes
    "the text begins with a byte order mark: save it without one"
advice_text advices.Live = codes "live and explore take call, arm, disarm, irq and tick alone"
advice_text advices.OnceNodes = codes "nodes stands once, in the first line"
advice_text advices.OncePositions = codes "positions stands once, right after nodes"
advice_text advices.OnceProfile = codes "profile stands once, right after nodes or positions"
advice_text advices.Task = codes "a task is declared above script, and in no body"
advice_text advices.OneTally = codes "a tally is declared once, above script, and beside no object"
advice_text advices.Object = codes "it is declared above script, in no body, and beside no tally"
advice_text advices.OfObject =
    codes
    "it belongs to the object above it: above script, in no body, and beside no tally"
advice_text advices.Statement =
    codes
    "a statement is in the body of a procedure or an entry, above script"
advice_text advices.Else = codes "else stands once in an if"
advice_text advices.End = codes "end closes an if or a body, and stands nowhere else"
advice_text advices.OfScript = codes "it is a line of the script, and stands after script"
advice_text advices.Script = codes "script stands once, after the end of each body"
advice_text advices.Rule = codes "a rule is for explore, and stands right before script"
advice_text advices.Guard = codes "a guard is for explore, and stands after script"
advice_text advices.Profile = codes "a profile is ravenscar or jorvik"
advice_text advices.Truth = codes "a first value here is true or false"
advice_text advices.Function = codes "write function NAME value EXPR or function NAME truth COND"
advice_text advices.When = codes "write entry NAME when BOOL"
advice_text advices.Longest = codes "write entry NAME when BOOL queue L"
advice_text advices.CutStep = codes "a cut takes lead, range or deliver"
