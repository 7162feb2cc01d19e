-- The part of a node that rests is read off its device.
use Rattle.std.proofs.Common.{◌≡◌, ℕ, zero, suc, ◌-◌, ◌≤◌, ◌<◌, ◌/◌, ◌^◌, Option, Bool, true, false, if◌then◌else◌, Ok, Err, List, [], ◌∷◌, ◌++◌, length, refl, sym, ap, subst, ◌∙◌, append_assoc, length-append, arith}
use Rattle.std.specs.Prelude.{nat_lt}
use Rattle.std.specs.Int.{Width, byte_len, byte_at, bytes_high_first, cast_unsigned, w16, w32, w64}
use Rattle.std.specs.List.{AllByRecursion}
use Rattle.std.proofs.Math.Nat.{mod-lt}
use Rattle.std.proofs.lemmas.Bool.{lt-ltb, ltb-true}
use Rattle.rp_base.specs.Action.{IsRight, IsRightOperation}
use Rattle.rp_base.specs.declared.action.Action.{Action}
use Rattle.rp_base.specs.declared.action.Action.TheVariants as actions
use Rattle.rp_base.specs.declared.action.Operation.{Operation}
use Rattle.rp_base.specs.declared.action.Operation.TheVariants as operations
use Rattle.rp_base.specs.Ranges.{Range, IsRange}
use Rattle.rp_base.specs.declared.record.Rec.{Rec}
use Rattle.rp_base.specs.declared.record.Rec.TheVariants.{Started, Promised, Voted, Learned, PromisedRange}
use Rattle.rp_codec.specs.declared.version.Version.{Version}
use Rattle.rp_codec.specs.declared.version.Version.TheVariants.{V1, V2}
use Rattle.rp_codec.specs.Version.{version_number}
use Rattle.rp_codec.specs.Text.{number_text, range_text, entry_byte, operation_text_at, action_text_at}
use Rattle.rp_codec.specs.Reading.{Read}
use Rattle.rp_codec.specs.Record.{record_text_at, IsRecord, BeginsWithRecord}
use Rattle.rp_codec.specs.RecordReading.{record_at}
use Rattle.rp_codec.proofs.Steps.{IsBytes}
use Rattle.rp_codec.proofs.RecordLaws.{record_read, record_long_at, front_found}
use Rattle.rp_store.specs.Disk.{Disk}
use Rattle.rp_store.specs.Records.{records_text, AreTextsOf, AreRecordsOf}
use Rattle.rp_store.proofs.Whole.{record_long, none_torn, whole_long}
use Rattle.rp_model.specs.Parts.{NodePart, Running as Known, records_in_log}
use Rattle.rp_replica.specs.State.{ReplicaState}
use Rattle.rp_actors.specs.declared.node.ClusterNode.{ClusterNode}
use Rattle.rp_actors.specs.declared.node.ClusterNode.TheVariants.{Running, Stopped}
use Rattle.rp_actors.specs.Nodes.{Member, RestsAs, RepresentsWhile, Represents}
use Rattle.rp_actors.specs.Shape.{byte_front, with_others, records_read, records_on, resting_part, part_while, part_by}

-- ---- texts of records are bytes

-- the front of such bytes, whatever is after them, has them all
abbrev Passes : List ℕ → Type 0
Passes xs = (rest : List ℕ) → byte_front (xs ++ rest) ≡ xs ++ byte_front rest

none_pass : Passes []
none_pass rest = refl

byte_passes : (b : ℕ) (xs : List ℕ) → b < 256 → Passes xs → Passes (b ∷ xs)
byte_passes b xs small pass rest =
    let test : nat_lt b 256 ≡ true = lt-ltb b 256 small in
    rw test (ap (λ (l : List ℕ). b ∷ l) (pass rest))

both_pass : (xs ys : List ℕ) → Passes xs → Passes ys → Passes (xs ++ ys)
both_pass xs ys one other rest =
    ap byte_front (append_assoc xs ys rest) ∙ one (ys ++ rest) ∙ ap (λ (l : List ℕ). xs ++ l) (other rest) ∙ sym (append_assoc xs ys (byte_front rest))

byte_small : (i n : ℕ) → byte_at i n < 256
byte_small zero n = mod-lt n (omega arith)
byte_small (suc i) n = mod-lt (n / 256 ^ suc i) (omega arith)

number_passes : (k n : ℕ) → Passes (bytes_high_first k n)
number_passes zero n = none_pass
number_passes (suc k) n = byte_passes (byte_at k n) (bytes_high_first k n) (byte_small k n) (number_passes k n)

text_passes : (w : Width) (n : ℕ) → Passes (number_text w n)
unfolding number_text
text_passes w n = number_passes (byte_len w) n

entry_small : (v : Version) (i : ℕ) → i ≤ 4 → entry_byte v i < 256
entry_small V1 i small = omega arith
entry_small V2 i small = omega arith

operation_passes : (v : Version) (operation : Operation) → IsRightOperation operation → Passes (operation_text_at v operation)
operation_passes v (operations.Function i) is = byte_passes 1 (i ∷ []) (omega arith) (byte_passes i [] (omega (arith, is.1)) none_pass)
operation_passes v (operations.Procedure i) is = byte_passes 2 (i ∷ []) (omega arith) (byte_passes i [] (omega (arith, is.1)) none_pass)
operation_passes v (operations.Entry i) is = byte_passes 3 (entry_byte v i ∷ []) (omega arith) (byte_passes (entry_byte v i) [] (entry_small v i is.1) none_pass)
operation_passes v (operations.SetTimer i) is = byte_passes 4 (i ∷ []) (omega arith) (byte_passes i [] (omega (arith, is.1)) none_pass)
operation_passes v (operations.CancelTimer i) is = byte_passes 5 (i ∷ []) (omega arith) (byte_passes i [] (omega (arith, is.1)) none_pass)

action_passes : (v : Version) (action : Action) → IsRight action → Passes (action_text_at v action)
action_passes v actions.Noop is = byte_passes 0 [] (omega arith) none_pass
action_passes v (actions.Call task number object operation arg) is =
    both_pass ((1 ∷ task ∷ number_text w32 number) ++ (object ∷ operation_text_at v operation)) (number_text w64 (cast_unsigned w64 arg))
    (both_pass (1 ∷ task ∷ number_text w32 number) (object ∷ operation_text_at v operation)
    (byte_passes 1 (task ∷ number_text w32 number) (omega arith) (byte_passes task (number_text w32 number) (omega (arith, is.0.1)) (text_passes w32 number)))
    (byte_passes object (operation_text_at v operation) (omega (arith, is.2.1)) (operation_passes v operation is.3)))
    (text_passes w64 (cast_unsigned w64 arg))
action_passes v (actions.Interrupt source occurrence) is =
    byte_passes 2 (source ∷ number_text w32 occurrence) (omega arith) (byte_passes source (number_text w32 occurrence) (omega (arith, is.0.1)) (text_passes w32 occurrence))
action_passes v (actions.Tick now) is = byte_passes 3 (number_text w32 now) (omega arith) (text_passes w32 now)

version_small : (v : Version) → version_number v < 256
version_small V1 = omega arith
version_small V2 = omega arith

kind_passes : (v : Version) (kind : ℕ) → kind < 256 → Passes (version_number v ∷ kind ∷ [])
kind_passes v kind small = byte_passes (version_number v) (kind ∷ []) (version_small v) (byte_passes kind [] small none_pass)

range_passes : (range : Range) → IsRange range → Passes (range_text range)
range_passes range is =
    both_pass (number_text w16 range.first) (range.count ∷ []) (text_passes w16 range.first)
    (byte_passes range.count [] (omega (arith, is.count.1)) none_pass)

record_passes : (v : Version) (r : Rec) → IsRecord r → Passes (record_text_at v r)
record_passes v (Started ballot) is = both_pass (version_number v ∷ 1 ∷ []) (number_text w64 ballot) (kind_passes v 1 (omega arith)) (text_passes w64 ballot)
record_passes v (Promised position ballot) is =
    both_pass ((version_number v ∷ 2 ∷ []) ++ number_text w16 position) (number_text w64 ballot)
    (both_pass (version_number v ∷ 2 ∷ []) (number_text w16 position) (kind_passes v 2 (omega arith)) (text_passes w16 position)) (text_passes w64 ballot)
record_passes v (Voted position ballot action) is =
    both_pass ((version_number v ∷ 3 ∷ []) ++ number_text w16 position ++ number_text w64 ballot) (action_text_at v action)
    (both_pass ((version_number v ∷ 3 ∷ []) ++ number_text w16 position) (number_text w64 ballot)
    (both_pass (version_number v ∷ 3 ∷ []) (number_text w16 position) (kind_passes v 3 (omega arith)) (text_passes w16 position)) (text_passes w64 ballot))
    (action_passes v action is.right)
record_passes v (Learned position action) is =
    both_pass ((version_number v ∷ 4 ∷ []) ++ number_text w16 position) (action_text_at v action)
    (both_pass (version_number v ∷ 4 ∷ []) (number_text w16 position) (kind_passes v 4 (omega arith)) (text_passes w16 position))
    (action_passes v action is.right)
record_passes v (PromisedRange range ballot) is =
    both_pass ((version_number v ∷ 5 ∷ []) ++ range_text range) (number_text w64 ballot)
    (both_pass (version_number v ∷ 5 ∷ []) (range_text range) (kind_passes v 5 (omega arith)) (range_passes range is.ranges.0)) (text_passes w64 ballot)

texts_pass : (rs : List Rec) (bytes : List ℕ) → AllByRecursion IsRecord rs → AreTextsOf rs bytes → Passes bytes
texts_pass [] bytes all none = subst Passes (sym none) none_pass
texts_pass (r ∷ rs) bytes all (after, (v, has, parts), are) =
    subst Passes (sym parts) (both_pass (record_text_at v r) after (record_passes v r all.0) (texts_pass rs after all.1 are))

-- ---- the front of bytes

head_bytes : (b : ℕ) (front : List ℕ) → b < 256 → IsBytes front → IsBytes (b ∷ front)
head_bytes b front small are zero = small
head_bytes b front small are (suc i) = are i

front_bytes : (xs : List ℕ) → IsBytes (byte_front xs)
front_bytes [] = λ i. omega arith
front_bytes (b ∷ rest) =
    let deeper = front_bytes rest in
    let by : (t : Bool) → nat_lt b 256 ≡ t → IsBytes (if t then b ∷ byte_front rest else []) =
    λ t test. elim t as (λ u. nat_lt b 256 ≡ u → IsBytes (if u then b ∷ byte_front rest else [])) [
      | true ↦ λ yes. head_bytes b (byte_front rest) (ltb-true b 256 yes) deeper
      | false ↦ λ no. λ i. omega arith
    ] test in
    by (nat_lt b 256) refl

-- what is after it
front_of : (xs : List ℕ) → (more : List ℕ) × (xs ≡ byte_front xs ++ more)
front_of [] = ([], refl)
front_of (b ∷ rest) =
    elim (nat_lt b 256) as (λ t. (more : List ℕ) × (b ∷ rest ≡ (if t then b ∷ byte_front rest else []) ++ more)) [
      | true ↦ let f = front_of rest in (f.0, ap (λ (l : List ℕ). b ∷ l) f.1)
      | false ↦ (b ∷ rest, refl)
    ]

begins_too : (xs : List ℕ) → BeginsWithRecord (byte_front xs) → BeginsWithRecord xs
begins_too xs (r, rest, is, (v, has, parts)) =
    let f = front_of xs in
    (r, rest ++ f.0, is, (v, has, f.1 ∙ ap (λ (l : List ℕ). l ++ f.0) parts ∙ append_assoc (record_text_at v r) rest f.0))

-- ---- the reading of what a device holds

read_none : (most : ℕ) (bytes : List ℕ) → IsBytes bytes → (BeginsWithRecord bytes → ⊥) → (read : Read Rec) → record_at bytes ≡ read → with_others read (λ rest. records_read most rest) ≡ []
read_none most bytes are none (Ok (r, rest)) is = let f = front_found bytes rest r are is in absurd (none (r, rest, f.0, f.1))
read_none most bytes are none (Err reason) is = refl

reads : (most : ℕ) (all : List Rec) (texts tail : List ℕ) → AllByRecursion IsRecord all → AreTextsOf all texts → IsBytes tail → (BeginsWithRecord tail → ⊥) → length texts ≤ most
    → records_read most (texts ++ tail) ≡ all
reads zero [] texts tail each are bytes none enough = refl
reads (suc most) [] texts tail each are bytes none enough =
    ap (λ (l : List ℕ). records_read (suc most) (l ++ tail)) are ∙ read_none most tail bytes none (record_at tail) refl
reads zero (r ∷ rs) texts tail each (after, (v, has, parts), are) bytes none enough =
    absurd (omega (arith, record_long r, record_long_at v r, ap length parts, length-append (record_text_at v r) after, enough))
reads (suc most) (r ∷ rs) texts tail each (after, (v, has, parts), are) bytes none enough =
    let again : record_at (texts ++ tail) ≡ Ok (r, after ++ tail) =
    record_read r (after ++ tail) (texts ++ tail) each.0 (v, has, ap (λ (l : List ℕ). l ++ tail) parts ∙ append_assoc (record_text_at v r) after tail) in
    let deeper = reads most rs after tail each.1 are bytes none (omega (arith, record_long r, record_long_at v r, ap length parts, length-append (record_text_at v r) after, enough)) in
    ap (λ (read : Read Rec). with_others read (λ rest. records_read most rest)) again ∙ ap (λ (l : List Rec). r ∷ l) deeper

-- the records that a device holds are those that are read
pub all_read : (disk : Disk) (all : List Rec) (torn : List ℕ) → AreRecordsOf disk.contents all torn → records_on disk ≡ all
all_read disk all torn are =
    let front : byte_front disk.contents ≡ are.texts ++ byte_front torn = ap byte_front are.whole ∙ texts_pass all are.texts are.each are.are torn in
    ap (records_read (length disk.contents)) front
    ∙ reads (length disk.contents) all are.texts (byte_front torn) are.each are.are (front_bytes torn) (λ begins. none_torn disk.contents all torn are (begins_too torn begins))
    (omega (arith, ap length are.whole, length-append are.texts torn))

-- so a device that rests is the part of one node alone
pub resting_is : (most : ℕ) (disk : Disk) (part : NodePart) → RestsAs most disk part → part ≡ resting_part most disk
resting_is most disk part rests =
    let all = rests.holds.all in
    let read = all_read disk all rests.holds.torn rests.holds.found in
    let records : part.records ≡ records_in_log most (records_on disk) = rests.holds.records ∙ ap (records_in_log most) (sym read) in
    let torn : part.torn ≡ length disk.contents - length (records_text (records_on disk)) =
    omega (arith, rests.holds.bytes, whole_long disk.contents all rests.holds.torn rests.holds.found, ap (λ (rs : List Rec). length (records_text rs)) read) in
    ap (λ (rs : List Rec). let p : NodePart = record { records = rs; torn = part.torn; running = part.running } in p) records
    ∙ ap (λ (n : ℕ). let p : NodePart = record { records = records_in_log most (records_on disk); torn = n; running = part.running } in p) torn
    ∙ ap (λ (o : Option Known). let p : NodePart = record { records = records_in_log most (records_on disk); torn = length disk.contents - length (records_text (records_on disk)); running = o } in p) rests.stopped

while_is : {S : Type 0} (member : Member S) (replica : ReplicaState S) (part : NodePart) (failed : Bool) → RepresentsWhile member replica part failed → part ≡ part_while member.config.max_positions replica failed
while_is member replica part false runs = runs.known
while_is member replica part true rests = resting_is member.config.max_positions replica.disk part rests

-- and so is a node
pub part_is : {S D P : Type 0} (disk : D → Disk) (member : Member S) (node : ClusterNode S D P) (part : NodePart) → Represents disk member node part → part ≡ part_by disk member.config.max_positions node
part_is disk member (Running replica) part is = while_is member replica part replica.failed is
part_is disk member (Stopped device) part is = resting_is member.config.max_positions (disk device) part is
