-- Which names of a deck are none of Ada (Ada Reference Manual, sections 2.3 and 2.9).
use Rattle.std.specs.Prelude.{ℕ, ◌==◌, ◌||◌, ◌&&◌, Bool, false, List, [], ◌∷◌, ◌++◌, codes}
use Rattle.std.specs.Prelude.{length, Option, Some, None, if◌then◌else◌}
use Rattle.std.specs.List.{list_any}
use Rattle.std.specs.Str.{str_eq_ignore_ascii_case}
use Rattle.rp_deck_declarations.specs.rp_words.specs.Words.{begins_with}
use Rattle.rp_bind.specs.declared.names.BadName.{BadName}
use Rattle.rp_bind.specs.declared.names.NameReason.{NameReason}
use Rattle.rp_bind.specs.declared.names.NameReason.TheVariants.{Reserved, Underscore, Case}

-- the words that Ada reserves, and the name of the package that declares Boolean
abbrev pub reserved_words : List (List ℕ)
reserved_words =
    codes "abort" ∷ codes "abs" ∷ codes "abstract" ∷ codes "accept" ∷ codes "access" ∷
    codes "aliased" ∷ codes "all" ∷ codes "and" ∷ codes "array" ∷ codes "at" ∷ codes "begin" ∷
    codes "body" ∷ codes "case" ∷ codes "constant" ∷ codes "declare" ∷ codes "delay" ∷
    codes "delta" ∷ codes "digits" ∷ codes "do" ∷ codes "else" ∷ codes "elsif" ∷ codes "end" ∷
    codes "entry" ∷ codes "exception" ∷ codes "exit" ∷ codes "for" ∷ codes "function" ∷
    codes "generic" ∷ codes "goto" ∷ codes "if" ∷ codes "in" ∷ codes "interface" ∷ codes "is" ∷
    codes "limited" ∷ codes "loop" ∷ codes "mod" ∷ codes "new" ∷ codes "not" ∷ codes "null" ∷
    codes "of" ∷ codes "or" ∷ codes "others" ∷ codes "out" ∷ codes "overriding" ∷
    codes "package" ∷ codes "parallel" ∷ codes "pragma" ∷ codes "private" ∷ codes "procedure" ∷
    codes "protected" ∷ codes "raise" ∷ codes "range" ∷ codes "record" ∷ codes "rem" ∷
    codes "renames" ∷ codes "requeue" ∷ codes "return" ∷ codes "reverse" ∷ codes "select" ∷
    codes "separate" ∷ codes "some" ∷ codes "standard" ∷ codes "subtype" ∷ codes "synchronized" ∷ codes "tagged" ∷
    codes "task" ∷ codes "terminate" ∷ codes "then" ∷ codes "type" ∷ codes "until" ∷
    codes "use" ∷ codes "when" ∷ codes "while" ∷ codes "with" ∷ codes "xor" ∷ []

-- one of these is the name, whatever the case of their letters
unfoldable pub is_among_in_any_case : List ℕ → List (List ℕ) → Bool
is_among_in_any_case name names = list_any (λ other. str_eq_ignore_ascii_case name other) names

unfoldable pub is_reserved : List ℕ → Bool
is_reserved name = is_among_in_any_case name reserved_words

-- an underscore is last, or another follows it
abbrev pub is_stray : ℕ → List ℕ → Bool
is_stray byte rest = byte == 95 && (length rest == 0 || begins_with (λ next. next == 95) rest)

abbrev pub has_stray_underscore : List ℕ → Bool
has_stray_underscore [] = false
has_stray_underscore (byte ∷ rest) = is_stray byte rest || has_stray_underscore rest

-- why a name is none of Ada where these follow it; where a prefix is before each, a reserved word is fine
abbrev pub part_reason_of : List ℕ → List (List ℕ) → Option NameReason
part_reason_of name later =
    if has_stray_underscore name then Some Underscore
    else if is_among_in_any_case name later then Some Case
    else None

abbrev pub reason_of : List ℕ → List (List ℕ) → Option NameReason
reason_of name later = if is_reserved name then Some Reserved else part_reason_of name later

-- a name that is none of Ada, and why
pub record BadNameText : Type 0 where
  pub name : List ℕ
  pub reason : NameReason

abbrev pub bad_name_text : BadName → BadNameText
bad_name_text bad = record { name = bad.name.now; reason = bad.reason }

-- what is said of such a name
abbrev pub reason_line : List ℕ → NameReason → List ℕ
reason_line name Reserved = codes "error: Ada reserves the name " ++ name
reason_line name Underscore =
    codes "error: the name " ++ (name ++ codes " ends with an underscore or has two in a row")
reason_line name Case =
    codes "error: the name "
    ++ (name ++ codes " and a later one differ in the case of letters alone")

abbrev pub bad_line : BadNameText → List ℕ
bad_line bad = reason_line bad.name bad.reason

-- the name, if there is a reason
abbrev pub bad_if : List ℕ → Option NameReason → Option BadNameText → Option BadNameText
bad_if name None otherwise = otherwise
bad_if name (Some reason) otherwise = Some (record { name = name; reason = reason })

-- the first of these names that is none of Ada
abbrev pub first_bad : List (List ℕ) → Option BadNameText
first_bad [] = None
first_bad (name ∷ later) = bad_if name (reason_of name later) (first_bad later)

-- the same where a prefix is before each
abbrev pub first_bad_part : List (List ℕ) → Option BadNameText
first_bad_part [] = None
first_bad_part (name ∷ later) = bad_if name (part_reason_of name later) (first_bad_part later)
