-- The lines of declarations, one after another.
use Rattle.std.proofs.Common.{◌≡◌, ℕ, zero, suc, ◌+◌, ◌-◌, ◌<◌, get_or, sym, List, [], ◌∷◌, map, length, Bool, true, false, cond, Option, Some, Result, Ok, Err, arith, ap, refl, ◌∙◌}
use Rattle.std.specs.Prelude.{slice_get, slice_set, option_map}
use Rattle.std.proofs.lemmas.Grind.{common_steps}
use Rattle.std.proofs.lemmas.List.{map-set}
use Rattle.std.proofs.lemmas.Option.{slice_get-map}
use Rattle.rp_words.specs.declared.line_error.LineError.{LineError}
use Rattle.rp_words.specs.declared.line_error.LineError.TheVariants.{OutOfMemory, Bad}
use Rattle.rp_deck_objects.specs.declared.objects.ObjectDraft.{ObjectDraft}
use Rattle.rp_deck_objects.specs.ObjectViews.{object_text}
use Rattle.rp_words.specs.LineFaults.{fault_at, Refuses, BadLine}
use Rattle.rp_deck_objects.specs.Objects.{object_step, ObjectText}
use Rattle.rp_words.specs.Reading.{◌>>=◌, Fails}
use Rattle.rp_object.specs.rp_base.specs.declared.fault.DeckReason.{DeckReason}
use Rattle.rp_words.specs.Lines.{LineText}
use Rattle.rp_deck_declarations.specs.Drafts.{DraftText, profile_of, last_object, script_line}
use Rattle.rp_deck_declarations.specs.Declaring.{on_line, with_last_object, object_line_of, declaring_line, ends_declarations, missing, declarations_from}

-- the result of a line, by whether it ends the declarations
by_line : ℕ → DraftText → LineText → List LineText → Bool → Result (Unit {0}) DeckReason → Result DraftText DeckReason → Result (DraftText × List LineText) BadLine
by_line last d line rest ends script read =
    cond ends (on_line line.number script (λ e. Ok (d, rest))) (on_line line.number read (λ after. declarations_from last after rest))

is_by_line : (last : ℕ) (d : DraftText) (line : LineText) (rest : List LineText)
    → declarations_from last d (line ∷ rest) ≡ by_line last d line rest (ends_declarations d line) (script_line d line.rest) (declaring_line d line)
unfolding declarations_from by_line
is_by_line last d line rest = refl

pub next_line : (last : ℕ) (d : DraftText) (line : LineText) (rest : List LineText) (after : DraftText) → ends_declarations d line ≡ false → declaring_line d line ≡ Ok after
    → declarations_from last d (line ∷ rest) ≡ declarations_from last after rest
unfolding by_line
next_line last d line rest after goes_on is =
    is_by_line last d line rest ∙ ap (λ t. by_line last d line rest t (script_line d line.rest) (declaring_line d line)) goes_on
    ∙ ap (λ r. by_line last d line rest false (script_line d line.rest) r) is

pub bad_line : (last : ℕ) (d : DraftText) (line : LineText) (rest : List LineText) (reason : DeckReason) → ends_declarations d line ≡ false → declaring_line d line ≡ Err reason
    → declarations_from last d (line ∷ rest) ≡ Err (record { line = line.number; reason = reason })
unfolding by_line
bad_line last d line rest reason goes_on is =
    is_by_line last d line rest ∙ ap (λ t. by_line last d line rest t (script_line d line.rest) (declaring_line d line)) goes_on
    ∙ ap (λ r. by_line last d line rest false (script_line d line.rest) r) is

pub script_ends : (last : ℕ) (d : DraftText) (line : LineText) (rest : List LineText) → ends_declarations d line ≡ true → script_line d line.rest ≡ Ok tt
    → declarations_from last d (line ∷ rest) ≡ Ok (d, rest)
unfolding by_line
script_ends last d line rest ends is =
    is_by_line last d line rest ∙ ap (λ t. by_line last d line rest t (script_line d line.rest) (declaring_line d line)) ends
    ∙ ap (λ s. by_line last d line rest true s (declaring_line d line)) is

pub bad_script : (last : ℕ) (d : DraftText) (line : LineText) (rest : List LineText) (reason : DeckReason) → ends_declarations d line ≡ true → script_line d line.rest ≡ Err reason
    → declarations_from last d (line ∷ rest) ≡ Err (record { line = line.number; reason = reason })
unfolding by_line
bad_script last d line rest reason ends is =
    is_by_line last d line rest ∙ ap (λ t. by_line last d line rest t (script_line d line.rest) (declaring_line d line)) ends
    ∙ ap (λ s. by_line last d line rest true s (declaring_line d line)) is

pub no_line : (last : ℕ) (d : DraftText) → declarations_from last d [] ≡ Err (record { line = last; reason = missing d })
unfolding declarations_from
no_line last d = refl

-- ---- a line that is refused, where memory may have run out

pub refused_at : (last : ℕ) (d : DraftText) (line : LineText) (rest : List LineText) (error : LineError) → ends_declarations d line ≡ false → Fails error (declaring_line d line)
    → Refuses (fault_at line.number error) (declarations_from last d (line ∷ rest))
refused_at last d line rest OutOfMemory goes_on fails = tt
refused_at last d line rest (Bad reason) goes_on fails = bad_line last d line rest reason goes_on fails

-- ---- a line of the last object

pub object_line_is : (d : DraftText) (object after : ObjectText) (line : LineText) → last_object d ≡ Some object → object_step (profile_of d) object line ≡ Ok after
    → object_line_of (last_object d) d line ≡ Ok (with_last_object d after)
object_line_is d object after line here is =
    ap (λ (o : Option ObjectText). object_line_of o d line) here ∙ ap (λ (r : Result ObjectText DeckReason). r >>= (λ a. Ok (with_last_object d a))) is

pub object_line_refused : (d : DraftText) (object : ObjectText) (reason : DeckReason) (line : LineText) → last_object d ≡ Some object → object_step (profile_of d) object line ≡ Err reason
    → object_line_of (last_object d) d line ≡ Err reason
object_line_refused d object reason line here is =
    ap (λ (o : Option ObjectText). object_line_of o d line) here ∙ ap (λ (r : Result ObjectText DeckReason). r >>= (λ a. Ok (with_last_object d a))) is

pub read_at : {X : Type 0} (xs : List X) (i : ℕ) (x : X) → i < length xs → x ≡ get_or xs i x → slice_get xs i ≡ Some x
read_at [] i x within is = absurd (omega (arith, within))
read_at (y ∷ ys) zero x within is = ap (λ o. Some o) (sym is)
read_at (y ∷ ys) (suc i) x within is = read_at ys i x (omega (arith, within)) is

pub last_is : (drafts : List ObjectDraft) (n last : ℕ) (object : ObjectDraft) → n ≡ length drafts → last + 1 ≡ n → slice_get drafts last ≡ Some object
    → slice_get (map object_text drafts) (length (map object_text drafts) - 1) ≡ Some (object_text object)
last_is drafts n last object len is here =
    let place : length (map object_text drafts) - 1 ≡ last = grind (arith, common_steps) in
    ap (λ k. slice_get (map object_text drafts) k) place ∙ slice_get-map object_text drafts last ∙ ap (option_map object_text) here

pub drafts_set : (drafts : List ObjectDraft) (last : ℕ) (object : ObjectDraft) → last + 1 ≡ length drafts
    → map object_text (slice_set drafts last object) ≡ slice_set (map object_text drafts) (length (map object_text drafts) - 1) (object_text object)
drafts_set drafts last object is =
    let place : last ≡ length (map object_text drafts) - 1 = grind (arith, common_steps) in
    map-set object_text drafts last object ∙ ap (λ k. slice_set (map object_text drafts) k (object_text object)) place

pub ruleset object_lines = (object_line_is, object_line_refused, last_is, drafts_set)
