-- A record that is read is the record that was written, and what was written is read again.
use Rattle.std.proofs.Common.{◌≡◌, ℕ, ◌+◌, true, eqb, List, ◌∷◌, ◌++◌, length, get_or, Option, Some, None, Ok, Err, refl, sym, ap, subst, ◌∙◌, append_assoc, arith, length-append}
use Rattle.std.proofs.lemmas.Bool.{eqb-true}
use Rattle.rp_base.specs.declared.fault.PacketReason.TheVariants.{Field}
use Rattle.rp_base.specs.declared.fault.PacketReason.{PacketReason}
use Rattle.rp_base.specs.declared.action.Action.{Action}
use Rattle.rp_base.specs.declared.record.Rec.{Rec}
use Rattle.rp_base.specs.declared.record.Rec.TheVariants.{Started, Promised, Voted, Learned, PromisedRange}
use Rattle.rp_base.specs.Ranges.{Range}
use Rattle.rp_codec.specs.declared.version.Version.{Version}
use Rattle.rp_codec.specs.declared.version.Version.TheVariants.{V2}
use Rattle.rp_codec.specs.Version.{version_number, version_of}
use Rattle.rp_codec.specs.Text.{number_text, position_text, ballot_text, action_text_at, range_text}
use Rattle.rp_codec.specs.Record.{record_text_at, record_text, HasRecordText, IsRecordTextBefore, IsRecord, BeginsWithRecord}
use Rattle.rp_codec.specs.Reading.{◌>>=◌, Read, known, byte_at}
use Rattle.rp_codec.specs.RecordReading.{started_at, promised_at, voted_at, learned_at, record_of_kind, record_at, promised_range_at}
use Rattle.rp_codec.proofs.Steps.{IsBytes, Yields, Took, then, when, weaker}
use Rattle.rp_codec.proofs.FieldLaws.{TookByte, TookPosition, TookBallot, byte_took, position_took, position_again, ballot_took, ballot_again, TookPlace, place_took, place_again, TookRangePlace, range_place_took, range_place_again}
use Rattle.rp_codec.proofs.VersionLaws.{version_of_number, number_once, number_from_version, has_action, action_same}
use Rattle.rp_codec.proofs.ActionLaws.{TookAction, action_took, action_again, TookPlacedVote, placed_vote_took, placed_vote_again}

abbrev TookRecordAt : Version → List ℕ → Rec × List ℕ → Type 0
TookRecordAt v bytes = Took (record_text_at v) (λ r. IsRecord r × HasRecordText v r) bytes

abbrev pub TookRecord : List ℕ → Rec × List ℕ → Type 0
TookRecord bytes x = (v : Version) × TookRecordAt v bytes x

-- what is after the version and the kind
abbrev Begins : Version → ℕ → List ℕ → List ℕ → Type 0
Begins v kind rest bytes = bytes ≡ version_number v ∷ kind ∷ rest

started_took : (v : Version) (bytes rest : List ℕ) → Begins v 1 rest bytes → IsBytes rest → Yields (TookRecordAt v bytes) (started_at rest)
unfolding started_at
started_took v bytes rest begins h =
    then (TookBallot rest) (TookRecordAt v bytes) _ _ (ballot_took rest h)
    (λ ballot b. record { parts = begins ∙ rw b.parts refl; rest = b.rest; right = (record { ranges = b.right; right = tt }, tt) })

promised_took : (v : Version) (bytes rest : List ℕ) → Begins v 2 rest bytes → IsBytes rest → Yields (TookRecordAt v bytes) (promised_at rest)
unfolding promised_at
promised_took v bytes rest begins h =
    then (TookPlace rest) (TookRecordAt v bytes) _ _ (place_took rest h)
    (λ place p. record { parts = begins ∙ rw p.parts refl; rest = p.rest; right = (record { ranges = p.right; right = tt }, tt) })

voted_took : (v : Version) (bytes rest : List ℕ) → Begins v 3 rest bytes → IsBytes rest → Yields (TookRecordAt v bytes) (voted_at v rest)
unfolding voted_at
voted_took v bytes rest begins h =
    then (TookPlacedVote v rest) (TookRecordAt v bytes) _ _ (placed_vote_took v rest h)
    (λ vote p. record { parts = begins ∙ rw p.parts refl; rest = p.rest; right = (record { ranges = (p.right.0, p.right.1); right = p.right.2.0 }, p.right.2.1) })

learned_took : (v : Version) (bytes rest : List ℕ) → Begins v 4 rest bytes → IsBytes rest → Yields (TookRecordAt v bytes) (learned_at v rest)
unfolding learned_at
learned_took v bytes rest begins h =
    then (TookPosition rest) (TookRecordAt v bytes) _ _ (position_took rest h)
    (λ position p. then (TookAction v position.1) (TookRecordAt v bytes) _ _ (action_took v position.1 p.rest)
    (λ action a. record { parts = begins ∙ rw (p.parts, a.parts) (simp append_assoc); rest = a.rest; right = (record { ranges = p.right; right = a.right.0 }, a.right.1) }))

promised_range_took : (v : Version) (bytes rest : List ℕ) → Begins v 5 rest bytes → IsBytes rest → Yields (TookRecordAt v bytes) (promised_range_at rest)
unfolding promised_range_at
promised_range_took v bytes rest begins h =
    then (TookRangePlace rest) (TookRecordAt v bytes) _ _ (range_place_took rest h)
    (λ place p. record { parts = begins ∙ rw p.parts refl; rest = p.rest; right = (record { ranges = p.right; right = tt }, tt) })

kind_took : (v : Version) (bytes rest : List ℕ) → bytes ≡ version_number v ∷ rest → IsBytes rest
    → Yields (TookRecordAt v bytes) (byte_at rest >>= λ kind. record_of_kind v kind.0 kind.1)
kind_took v bytes rest starts h =
    then (TookByte rest) (TookRecordAt v bytes) _ _ (byte_took rest h)
    (λ kind k.
    let begins : (n : ℕ) → eqb kind.0 n ≡ true → Begins v n kind.1 bytes =
    λ n e. starts ∙ ap (λ (r : List ℕ). version_number v ∷ r) (k.parts ∙ ap (λ (b : ℕ). b ∷ kind.1) (eqb-true _ _ e)) in
    when (TookRecordAt v bytes) (eqb kind.0 1) _ _ (λ e. started_took v bytes kind.1 (begins 1 e) k.rest)
    (λ _. when (TookRecordAt v bytes) (eqb kind.0 2) _ _ (λ e. promised_took v bytes kind.1 (begins 2 e) k.rest)
    (λ _. when (TookRecordAt v bytes) (eqb kind.0 3) _ _ (λ e. voted_took v bytes kind.1 (begins 3 e) k.rest)
    (λ _. when (TookRecordAt v bytes) (eqb kind.0 4) _ _ (λ e. learned_took v bytes kind.1 (begins 4 e) k.rest)
    (λ _. when (TookRecordAt v bytes) (eqb kind.0 5) _ _ (λ e. promised_range_took v bytes kind.1 (begins 5 e) k.rest) (λ _. tt))))))

version_took : (o : Option Version) (bytes rest : List ℕ) → ((v : Version) → o ≡ Some v → bytes ≡ version_number v ∷ rest) → IsBytes rest
    → Yields (TookRecord bytes) (known Field o rest >>= λ version. byte_at version.1 >>= λ kind. record_of_kind version.0 kind.0 kind.1)
version_took (Some v) bytes rest starts h = weaker (TookRecordAt v bytes) (TookRecord bytes) _ (λ x t. (v, t)) (kind_took v bytes rest (starts v refl) h)
version_took None bytes rest starts h = tt

pub record_took : (bytes : List ℕ) → IsBytes bytes → Yields (TookRecord bytes) (record_at bytes)
unfolding record_at
record_took bytes h =
    then (TookByte bytes) (TookRecord bytes) _ _ (byte_took bytes h)
    (λ n t. version_took (version_of n.0) bytes n.1 (λ v e. t.parts ∙ ap (λ (b : ℕ). b ∷ n.1) (number_from_version n.0 v e)) t.rest)

-- ---- and back

started_again : (ballot : ℕ) (rest : List ℕ) → IsRecord (Started ballot) → started_at (ballot_text ballot ++ rest) ≡ Ok (Started ballot, rest)
unfolding started_at
started_again ballot rest is = rw (ballot_again ballot rest is.ranges) refl

promised_again : (position ballot : ℕ) (rest : List ℕ) → IsRecord (Promised position ballot)
    → promised_at ((position_text position ++ ballot_text ballot) ++ rest) ≡ Ok (Promised position ballot, rest)
unfolding promised_at
promised_again position ballot rest is = rw (place_again position ballot rest is.ranges.0 is.ranges.1) refl

voted_again : (v : Version) (position ballot : ℕ) (action : Action) (rest : List ℕ) → IsRecord (Voted position ballot action) → HasRecordText v (Voted position ballot action)
    → voted_at v ((position_text position ++ ballot_text ballot ++ action_text_at v action) ++ rest) ≡ Ok (Voted position ballot action, rest)
unfolding voted_at
voted_again v position ballot action rest is has = rw (placed_vote_again v position ballot action rest is.ranges.0 is.ranges.1 (is.right, has)) refl

learned_again : (v : Version) (position : ℕ) (action : Action) (rest : List ℕ) → IsRecord (Learned position action) → HasRecordText v (Learned position action)
    → learned_at v ((position_text position ++ action_text_at v action) ++ rest) ≡ Ok (Learned position action, rest)
unfolding learned_at
learned_again v position action rest is has =
    ap (learned_at v) (append_assoc (position_text position) (action_text_at v action) rest) ∙ rw (position_again position (action_text_at v action ++ rest) is.ranges, action_again v action rest (is.right, has)) refl

promised_range_again : (range : Range) (ballot : ℕ) (rest : List ℕ) → IsRecord (PromisedRange range ballot)
    → promised_range_at ((range_text range ++ ballot_text ballot) ++ rest) ≡ Ok (PromisedRange range ballot, rest)
unfolding promised_range_at
promised_range_again range ballot rest is = rw (range_place_again range ballot rest is.ranges.0 is.ranges.1) refl

pub record_again : (v : Version) (r : Rec) (rest : List ℕ) → IsRecord r → HasRecordText v r → record_at (record_text_at v r ++ rest) ≡ Ok (r, rest)
unfolding record_at
record_again v (Started ballot) rest is has = rw (version_of_number v) (started_again ballot rest is)
record_again v (Promised position ballot) rest is has = rw (version_of_number v) (promised_again position ballot rest is)
record_again v (Voted position ballot action) rest is has = rw (version_of_number v) (voted_again v position ballot action rest is has)
record_again v (Learned position action) rest is has = rw (version_of_number v) (learned_again v position action rest is has)
record_again v (PromisedRange range ballot) rest is has = rw (version_of_number v) (promised_range_again range ballot rest is)

-- the same of some text of it
pub record_read : (r : Rec) (rest bytes : List ℕ) → IsRecord r → IsRecordTextBefore r rest bytes → record_at bytes ≡ Ok (r, rest)
record_read r rest bytes is (v, has, parts) = ap record_at parts ∙ record_again v r rest is has

-- every record has a text of version 2
pub has_latest : (r : Rec) → HasRecordText V2 r
has_latest (Started ballot) = tt
has_latest (Promised position ballot) = tt
has_latest (Voted position ballot action) = has_action action
has_latest (Learned position action) = has_action action
has_latest (PromisedRange range ballot) = tt

-- the two texts of a record have one length
pub record_long_at : (v : Version) (r : Rec) → length (record_text_at v r) ≡ length (record_text r)
unfolding number_text
record_long_at v (Started ballot) = refl
record_long_at v (Promised position ballot) = refl
record_long_at v (Voted position ballot action) = omega (arith, action_same v action)
record_long_at v (Learned position action) = omega (arith, action_same v action)
record_long_at v (PromisedRange range ballot) = refl

-- ---- no text begins another

abbrev done : Rec × List ℕ → Read Rec
done x = Ok x

done_once : (x y : Rec × List ℕ) → done x ≡ done y → x ≡ y
done_once x y e = cc

pub same_record : (r s : Rec) (x y bytes : List ℕ) → IsRecord r → IsRecord s → IsRecordTextBefore r x bytes → IsRecordTextBefore s y bytes → (r ≡ s) × (x ≡ y)
same_record r s x y bytes left right here there =
    let pair = done_once (r, x) (s, y) (sym (record_read r x bytes left here) ∙ record_read s y bytes right there) in
    (ap (λ (p : Rec × List ℕ). p.0) pair, ap (λ (p : Rec × List ℕ). p.1) pair)

pub same_latest : (r s : Rec) (x y : List ℕ) → IsRecord r → IsRecord s → record_text r ++ x ≡ record_text s ++ y → (r ≡ s) × (x ≡ y)
same_latest r s x y left right e = same_record r s x y _ left right (V2, has_latest r, refl) (V2, has_latest s, e)

first_byte : (v : Version) (r : Rec) (x : List ℕ) → get_or (record_text_at v r ++ x) 0 0 ≡ version_number v
first_byte v (Started ballot) x = refl
first_byte v (Promised position ballot) x = refl
first_byte v (Voted position ballot action) x = refl
first_byte v (Learned position action) x = refl
first_byte v (PromisedRange range ballot) x = refl

pub same_text : (v w : Version) (r s : Rec) (x y : List ℕ) → IsRecord r → IsRecord s → HasRecordText v r → HasRecordText w s → record_text_at v r ++ x ≡ record_text_at w s ++ y → (v ≡ w) × (r ≡ s) × (x ≡ y)
same_text v w r s x y left right has also e =
    let same = same_record r s x y _ left right (v, has, refl) (w, also, e) in
    (number_once v w (sym (first_byte v r x) ∙ ap (λ (l : List ℕ). get_or l 0 0) e ∙ first_byte w s y), same.0, same.1)

-- ---- what a reader returned

-- a record at the front
pub front_found : (bytes rest : List ℕ) (r : Rec) → IsBytes bytes → record_at bytes ≡ Ok (r, rest) → IsRecord r × IsRecordTextBefore r rest bytes
front_found bytes rest r h e =
    let (v, took) = subst (Yields (TookRecord bytes)) e (record_took bytes h) in
    (took.right.0, (v, took.right.1, took.parts))

-- its text ends where the rest begins
pub front_length : (bytes rest : List ℕ) (r : Rec) → IsBytes bytes → record_at bytes ≡ Ok (r, rest) → length bytes ≡ length (record_text r) + length rest
front_length bytes rest r h e =
    let (is, (v, has, parts)) = front_found bytes rest r h e in
    ap length parts ∙ length-append (record_text_at v r) rest ∙ ap (λ (n : ℕ). n + length rest) (record_long_at v r)

-- no other is there
pub front_only : (bytes rest : List ℕ) (r : Rec) → record_at bytes ≡ Ok (r, rest) → (s : Rec) (after : List ℕ) → IsRecord s → IsRecordTextBefore s after bytes → r ≡ s
front_only bytes rest r e s after is text =
    ap (λ (p : Rec × List ℕ). p.0) (done_once (r, rest) (s, after) (sym e ∙ record_read s after bytes is text))

abbrev fault : PacketReason → Read Rec
fault e = Err e

no_fault : (x : Rec × List ℕ) (e : PacketReason) → done x ≡ fault e → ⊥
no_fault x e same = absurd cc

pub front_none : (bytes : List ℕ) (e : PacketReason) → record_at bytes ≡ Err e → BeginsWithRecord bytes → ⊥
front_none bytes e none (r, rest, is, text) = no_fault (r, rest) e (sym (record_read r rest bytes is text) ∙ none)
