-- The lines of packages of Ada, and of a header of C, for what a deck declares.
use Rattle.std.specs.Prelude.{ℕ, List, ◌++◌, codes, decimal}
use Rattle.rp_bind.specs.declared.lines.Kind.{Kind}
use Rattle.rp_bind.specs.declared.lines.Kind.TheVariants.{Value, Truth, Procedure, Entry}
use Rattle.rp_bind.specs.declared.lines.Language.{Language}
use Rattle.rp_bind.specs.declared.lines.Language.TheVariants.{Ada, Local, C}

-- the number of a task
abbrev pub ada_constant : List ℕ → ℕ → List ℕ
ada_constant name number =
    codes "      " ++ (name ++ (codes " : constant := " ++ (decimal number ++ codes ";\n")))

abbrev pub task_constant : Language → List ℕ → ℕ → List ℕ
task_constant Ada name number = ada_constant name number
task_constant Local name number = ada_constant name number
task_constant C name number =
    codes "  task__" ++ (name ++ (codes " = " ++ (decimal number ++ codes ",\n")))

-- the package of a timing event of this number, whose handler is of the object of that number
abbrev pub timer_subprogram : List ℕ → ℕ → ℕ → List ℕ
timer_subprogram head object number =
    codes "         " ++ (head ++ (codes "\n           (Object => " ++ (decimal object
    ++ (codes ", Index => " ++ (decimal number ++ codes ");\n")))))

abbrev pub timer_lines : List ℕ → ℕ → ℕ → List ℕ
timer_lines name object number =
    codes "      package " ++ (name ++ (codes " is\n"
    ++ (timer_subprogram (codes "procedure Set is new Calls_Of_This_Deck.Set_A_Timing_Event") object number
    ++ (timer_subprogram (codes "function Cancel is new Calls_Of_This_Deck.Cancel_A_Timing_Event") object number
    ++ (codes "      end " ++ (name ++ codes ";\n"))))))

-- what begins an object, and what ends it
abbrev pub ada_head : List ℕ → List ℕ
ada_head name = codes "\n   package " ++ (name ++ codes " is\n")

abbrev pub ada_end : List ℕ → List ℕ
ada_end name = codes "   end " ++ (name ++ codes ";\n")

abbrev pub object_head : Language → List ℕ → List ℕ
object_head Ada name = ada_head name
object_head Local name = ada_head name
object_head C name = codes "\n/* The object " ++ (name ++ codes ". */\n")

abbrev pub object_end : Language → List ℕ → List ℕ
object_end Ada name = ada_end name
object_end Local name = ada_end name
object_end C name = codes ""

-- a subprogram of the package of an object, which calls the operation of this index of the object of
-- this number
abbrev pub subprogram : List ℕ → List ℕ → ℕ → List ℕ → ℕ → List ℕ
subprogram word calls object name index =
    codes "      " ++ (word ++ (codes " " ++ (name ++ (codes " is new Calls_Of_This_Deck." ++ (calls
    ++ (codes "\n        (Object => " ++ (decimal object ++ (codes ", Index => " ++ (decimal index
    ++ codes ");\n")))))))))

-- a procedure or an entry is there twice: the second time without its result
abbrev pub ada_lines : Kind → ℕ → List ℕ → ℕ → List ℕ
ada_lines Value object name index =
    subprogram (codes "function") (codes "Value_Function") object name index
ada_lines Truth object name index =
    subprogram (codes "function") (codes "Truth_Function") object name index
ada_lines Procedure object name index =
    subprogram (codes "procedure") (codes "A_Procedure") object name index
    ++ subprogram (codes "procedure") (codes "A_Procedure_Alone") object name index
ada_lines Entry object name index =
    subprogram (codes "procedure") (codes "An_Entry") object name index
    ++ subprogram (codes "procedure") (codes "An_Entry_Alone") object name index

-- an inline function of the object of this name and number, which does the same
abbrev pub inline_head : List ℕ → List ℕ → List ℕ → List ℕ
inline_head type owner name =
    codes "static inline uint8_t " ++ (owner ++ (codes "__" ++ (name
    ++ (codes "(const rp_caller *caller, int64_t argument, " ++ (type ++ codes " *result)")))))

abbrev pub inline_body : List ℕ → ℕ → ℕ → List ℕ
inline_body calls object index =
    codes "  return " ++ (calls ++ (codes "(caller, " ++ (decimal object ++ (codes ", "
    ++ (decimal index ++ codes ", argument, result);")))))

abbrev pub inline_function : List ℕ → List ℕ → List ℕ → ℕ → List ℕ → ℕ → List ℕ
inline_function type calls owner object name index =
    inline_head type owner name ++ (codes " {\n" ++ (inline_body calls object index ++ codes "\n}\n"))

abbrev pub c_lines : Kind → List ℕ → ℕ → List ℕ → ℕ → List ℕ
c_lines Value = inline_function (codes "int64_t") (codes "rp_call_value_function")
c_lines Truth = inline_function (codes "bool") (codes "rp_call_truth_function")
c_lines Procedure = inline_function (codes "int64_t") (codes "rp_call_procedure")
c_lines Entry = inline_function (codes "int64_t") (codes "rp_call_entry")

-- an operation of this kind and index, with its name, of an object, with its name and number
abbrev pub operation_lines : Language → List ℕ → ℕ → List ℕ → Kind → ℕ → List ℕ
operation_lines Ada owner object name kind index = ada_lines kind object name index
operation_lines Local owner object name kind index = ada_lines kind object name index
operation_lines C owner object name kind index = c_lines kind owner object name index
