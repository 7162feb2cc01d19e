-- The records of contents are read in one way, and what a cut or a stop leaves of them.
use Rattle.std.proofs.Common.{◌≡◌, ℕ, zero, suc, ◌+◌, ◌-◌, ◌≤◌, ◌<◌, List, [], ◌∷◌, ◌++◌, length, take, drop, Option, Some, refl, sym, ap, subst, ◌∙◌, append_assoc, length-append, length-drop, take-append-drop, arith}
use Rattle.std.specs.Prelude.{min}
use Rattle.std.specs.List.{AllByRecursion}
use Rattle.std.proofs.lemmas.List.{append-nil, append_cancel_right, nil_from_length, take_all, drop_at}
use Rattle.rp_codec.specs.rp_base.specs.declared.record.Rec.{Rec}
use Rattle.rp_codec.specs.rp_base.specs.declared.record.Rec.TheVariants.{Started, Promised, Voted, Learned, PromisedRange}
use Rattle.rp_codec.specs.declared.version.Version.{Version}
use Rattle.rp_codec.specs.declared.version.Version.TheVariants.{V2}
use Rattle.rp_codec.specs.Record.{record_text_at, record_text, HasRecordText, IsRecord, IsRecordTextBefore, BeginsWithRecord}
use Rattle.rp_codec.proofs.RecordLaws.{same_record, has_latest, record_long_at}
use Rattle.rp_store.specs.Disk.{Disk, KeepsFront}
use Rattle.rp_store.specs.Records.{records_text, AreTextsOf, AreRecordsOf, KeepsRecords}

-- a record has a text of some bytes
pub record_long : (r : Rec) → 1 ≤ length (record_text r)
record_long (Started ballot) = omega arith
record_long (Promised position ballot) = omega arith
record_long (Voted position ballot action) = omega arith
record_long (Learned position action) = omega arith
record_long (PromisedRange range ballot) = omega arith

-- ---- texts, joined

pub texts_end : (xs : List Rec) (r : Rec) (v : Version) (bytes : List ℕ) → HasRecordText v r → AreTextsOf xs bytes → AreTextsOf (xs ++ r ∷ []) (bytes ++ record_text_at v r)
texts_end [] r v bytes has none = ([], (v, has, ap (λ (l : List ℕ). l ++ record_text_at v r) none ∙ sym (append-nil (record_text_at v r))), refl)
texts_end (x ∷ xs) r v bytes has (after, (w, also, parts), are) =
    (after ++ record_text_at v r, (w, also, ap (λ (l : List ℕ). l ++ record_text_at v r) parts ∙ append_assoc (record_text_at w x) after (record_text_at v r)), texts_end xs r v after has are)

-- they are as long as what is written
pub texts_long : (xs : List Rec) (bytes : List ℕ) → AreTextsOf xs bytes → length bytes ≡ length (records_text xs)
texts_long [] bytes none = ap length none
texts_long (x ∷ xs) bytes (after, (v, has, parts), are) =
    omega (arith, ap length parts, length-append (record_text_at v x) after, record_long_at v x, texts_long xs after are, length-append (record_text x) (records_text xs))

-- the texts of the first records, and those of the others
record Parted (xs ys : List Rec) (bytes : List ℕ) : Type 0 where
  pub front : List ℕ
  pub rest : List ℕ
  pub firsts : AreTextsOf xs front
  pub others : AreTextsOf ys rest
  pub parts : bytes ≡ front ++ rest

texts_part : (xs ys : List Rec) (bytes : List ℕ) → AreTextsOf (xs ++ ys) bytes → Parted xs ys bytes
texts_part [] ys bytes are = record { front = []; rest = bytes; firsts = refl; others = are; parts = refl }
texts_part (x ∷ xs) ys bytes (after, (v, has, parts), are) =
    let deeper = texts_part xs ys after are in
    record {
      front = record_text_at v x ++ deeper.front;
      rest = deeper.rest;
      firsts = (deeper.front, (v, has, refl), deeper.firsts);
      others = deeper.others;
      parts = parts ∙ ap (λ (l : List ℕ). record_text_at v x ++ l) deeper.parts ∙ sym (append_assoc (record_text_at v x) deeper.front deeper.rest);
    }

text-append : (xs ys : List Rec) → records_text (xs ++ ys) ≡ records_text xs ++ records_text ys
text-append [] ys = refl
text-append (r ∷ xs) ys = ap (λ (l : List ℕ). record_text r ++ l) (text-append xs ys) ∙ sym (append_assoc (record_text r) (records_text xs) (records_text ys))

pub all_end : (xs : List Rec) (r : Rec) → AllByRecursion IsRecord xs → IsRecord r → AllByRecursion IsRecord (xs ++ r ∷ [])
all_end [] r all is = (is, tt)
all_end (x ∷ xs) r all is = (all.0, all_end xs r all.1 is)

all_front : (xs ys : List Rec) → AllByRecursion IsRecord (xs ++ ys) → AllByRecursion IsRecord xs
all_front [] ys all = tt
all_front (x ∷ xs) ys all = (all.0, all_front xs ys all.1)

no_text : (xs : List Rec) (bytes : List ℕ) → AreTextsOf xs bytes → length bytes ≤ 0 → xs ≡ []
no_text [] bytes are none = refl
no_text (x ∷ xs) bytes (after, (v, has, parts), are) none =
    absurd (omega (arith, none, ap length parts, length-append (record_text_at v x) after, record_long_at v x, record_long x))

-- ---- where no record begins

pub none_in_nothing : BeginsWithRecord [] → ⊥
none_in_nothing (r, rest, is, (v, has, parts)) =
    absurd (omega (arith, record_long r, record_long_at v r, ap length parts ∙ length-append (record_text_at v r) rest))

-- nor in a front of such bytes
none_in_front : (kept : ℕ) (bytes : List ℕ) → (BeginsWithRecord bytes → ⊥) → BeginsWithRecord (take kept bytes) → ⊥
none_in_front kept bytes none (r, rest, is, (v, has, parts)) =
    none (r, rest ++ drop kept bytes, is, (v, has, sym (take-append-drop kept bytes) ∙ ap (λ (l : List ℕ). l ++ drop kept bytes) parts ∙ append_assoc (record_text_at v r) rest (drop kept bytes)))

-- nor in a part of a record's text
none_in_part : (kept : ℕ) (r : Rec) → IsRecord r → kept < length (record_text r) → BeginsWithRecord (take kept (record_text r)) → ⊥
none_in_part kept r right part (s, rest, is, (v, has, parts)) =
    let text = record_text r in
    let same = same_record r s [] (rest ++ drop kept text) text right is (V2, has_latest r, sym (append-nil text))
    (v, has, sym (take-append-drop kept text) ∙ ap (λ (l : List ℕ). l ++ drop kept text) parts ∙ append_assoc (record_text_at v s) rest (drop kept text)) in
    let none = ap length same.1 ∙ length-append rest (drop kept text) in
    absurd (omega (arith, none, length-drop kept text))

-- ---- one reading

-- the others are a front of the records
record Fits (others records : List Rec) (rest torn : List ℕ) : Type 0 where
  pub more : List Rec
  pub parts : records ≡ others ++ more
  pub left : List ℕ
  pub are : AreTextsOf more left
  pub following : rest ≡ left ++ torn

fits : (others records : List Rec) (front rest texts torn : List ℕ) → AllByRecursion IsRecord others → AllByRecursion IsRecord records → AreTextsOf others front → AreTextsOf records texts → (BeginsWithRecord torn → ⊥)
    → front ++ rest ≡ texts ++ torn → Fits others records rest torn
fits [] records front rest texts torn left right first second none e = record {
  more = records;
  parts = refl;
  left = texts;
  are = second;
  following = ap (λ (l : List ℕ). l ++ rest) (sym first) ∙ e;
}
fits (o ∷ others) [] front rest texts torn left right (after, (v, has, parts), first) second none e =
    absurd (none (o, after ++ rest, left.0, (v, has, ap (λ (l : List ℕ). l ++ torn) (sym second) ∙ sym e ∙ ap (λ (l : List ℕ). l ++ rest) parts ∙ append_assoc (record_text_at v o) after rest)))
fits (o ∷ others) (r ∷ records) front rest texts torn left right (after, (v, has, parts), first) (following, (w, also, pieces), second) none e =
    let same = same_record o r (after ++ rest) (following ++ torn) (front ++ rest) left.0 right.0
    (v, has, ap (λ (l : List ℕ). l ++ rest) parts ∙ append_assoc (record_text_at v o) after rest)
    (w, also, e ∙ ap (λ (l : List ℕ). l ++ torn) pieces ∙ append_assoc (record_text_at w r) following torn) in
    let deeper = fits others records after rest following torn left.1 right.1 first second none same.1 in
    record {
      more = deeper.more;
      parts = ap (λ (rs : List Rec). r ∷ rs) deeper.parts ∙ ap (λ (q : Rec). q ∷ (others ++ deeper.more)) (sym same.0);
      left = deeper.left;
      are = deeper.are;
      following = deeper.following;
    }

-- what ends where no record begins is the longest
pub are_records : (contents : List ℕ) (records : List Rec) (texts torn : List ℕ) → AreTextsOf records texts → contents ≡ texts ++ torn → AllByRecursion IsRecord records → (BeginsWithRecord torn → ⊥) → AreRecordsOf contents records torn
are_records contents records texts torn are whole each none = record {
  texts = texts;
  are = are;
  whole = whole;
  each = each;
  longest = λ others front rest all first e.
      let same = sym e ∙ whole in
      let f = fits others records front rest texts torn all each first are none same in
      omega (arith, ap length same, length-append front rest, length-append texts torn, ap length f.following, length-append f.left torn);
}

pub none_torn : (contents : List ℕ) (records : List Rec) (torn : List ℕ) → AreRecordsOf contents records torn → BeginsWithRecord torn → ⊥
none_torn contents records torn are (r, rest, is, (v, has, parts)) =
    let more = are.longest (records ++ r ∷ []) (are.texts ++ record_text_at v r) rest (all_end records r are.each is) (texts_end records r v are.texts has are.are)
    (are.whole ∙ ap (λ (l : List ℕ). are.texts ++ l) parts ∙ sym (append_assoc are.texts (record_text_at v r) rest)) in
    absurd (omega (arith, more, length-append are.texts (record_text_at v r), record_long_at v r, record_long r))

pub same_reading : (contents torn rest : List ℕ) (records others : List Rec) → AreRecordsOf contents records torn → AreRecordsOf contents others rest → (records ≡ others) × (torn ≡ rest)
same_reading contents torn rest records others are also =
    let same = sym also.whole ∙ are.whole in
    let f = fits others records also.texts rest are.texts torn also.each are.each also.are are.are (none_torn contents records torn are) same in
    let short = also.longest records are.texts torn are.each are.are are.whole in
    let little : length f.left ≤ 0 = omega (arith, short, ap length same, length-append also.texts rest, length-append are.texts torn, ap length f.following, length-append f.left torn) in
    let nothing : f.left ≡ [] = nil_from_length f.left (omega (arith, little)) in
    let none = no_text f.more f.left f.are little in
    (f.parts ∙ ap (λ (rs : List Rec). others ++ rs) none ∙ append-nil others, sym (f.following ∙ ap (λ (l : List ℕ). l ++ torn) nothing))

-- ---- contents that end with their records

-- where nothing is torn, the contents are the texts
pub all_texts : (contents : List ℕ) (records : List Rec) (are : AreRecordsOf contents records []) → contents ≡ are.texts
all_texts contents records are = are.whole ∙ append-nil are.texts

-- so they are texts of the records
pub alone : (contents : List ℕ) (records : List Rec) → AreRecordsOf contents records [] → AreTextsOf records contents
alone contents records are = subst (AreTextsOf records) (sym (all_texts contents records are)) are.are

-- and right records with such texts are those of the contents
pub are_alone : (contents : List ℕ) (records : List Rec) → AreTextsOf records contents → AllByRecursion IsRecord records → AreRecordsOf contents records []
are_alone contents records are each = are_records contents records contents [] are (sym (append-nil contents)) each none_in_nothing

-- the texts are as long as what is written
pub whole_long : (contents : List ℕ) (records : List Rec) (torn : List ℕ) → AreRecordsOf contents records torn → length contents ≡ length (records_text records) + length torn
whole_long contents records torn are = omega (arith, ap length are.whole, length-append are.texts torn, texts_long records are.texts are.are)

-- and without what is torn
pub without_torn : (contents new : List ℕ) (records : List Rec) (torn : List ℕ) → AreRecordsOf contents records torn → contents ≡ new ++ torn → AreRecordsOf new records []
without_torn contents new records torn are parts =
    let same : new ≡ are.texts = append_cancel_right new are.texts torn (sym parts ∙ are.whole) in
    are_records new records are.texts [] are.are (same ∙ sym (append-nil are.texts)) are.each none_in_nothing

-- no record yet
pub no_records : AreRecordsOf [] [] []
no_records = are_records [] [] [] [] refl refl tt none_in_nothing

-- ---- stops

pub before_put : (contents : List ℕ) (records : List Rec) (r : Rec) (kept : ℕ) → AreRecordsOf contents records [] → IsRecord r → kept < length (record_text r)
    → AreRecordsOf (contents ++ take kept (record_text r)) records (take kept (record_text r))
before_put contents records r kept are is part =
    are_records _ records are.texts (take kept (record_text r)) are.are (ap (λ (l : List ℕ). l ++ take kept (record_text r)) (all_texts contents records are)) are.each (none_in_part kept r is part)

-- a record more is written
pub one_more : (contents : List ℕ) (records : List Rec) (r : Rec) → AreRecordsOf contents records [] → IsRecord r → AreRecordsOf (contents ++ record_text r) (records ++ r ∷ []) []
one_more contents records r are is =
    let texts = are.texts ++ record_text r in
    are_records _ (records ++ r ∷ []) texts [] (texts_end records r V2 are.texts (has_latest r) are.are)
    (ap (λ (l : List ℕ). l ++ record_text r) (all_texts contents records are) ∙ sym (append-nil texts))
    (all_end records r are.each is) none_in_nothing

pub after_put : (contents : List ℕ) (records : List Rec) (r : Rec) (kept : ℕ) → AreRecordsOf contents records [] → IsRecord r → length (record_text r) ≤ kept
    → AreRecordsOf (contents ++ take kept (record_text r)) (records ++ r ∷ []) []
after_put contents records r kept are is whole =
    subst (λ (l : List ℕ). AreRecordsOf (contents ++ l) (records ++ r ∷ []) []) (sym (take_all kept (record_text r) whole)) (one_more contents records r are is)

take_past : (xs ys : List ℕ) (kept : ℕ) → length xs ≤ kept → take kept (xs ++ ys) ≡ xs ++ take (kept - length xs) ys
take_past [] ys kept long = let same : kept ≡ kept - 0 = omega arith in ap (λ (k : ℕ). take k ys) same
take_past (x ∷ xs) ys zero long = absurd (omega arith)
take_past (x ∷ xs) ys (suc kept) long =
    let less : suc kept - suc (length xs) ≡ kept - length xs = omega arith in
    ap (λ (l : List ℕ). x ∷ l) (take_past xs ys kept (omega arith)) ∙ ap (λ (k : ℕ). x ∷ xs ++ take k ys) (sym less)

pub after_stop : (contents torn rest : List ℕ) (front more others : List Rec) (kept : ℕ) → AreRecordsOf contents (front ++ more) torn
    → length (records_text front) ≤ kept → AreRecordsOf (take kept contents) others rest
    → (after : List Rec) × (others ≡ front ++ after)
after_stop contents torn rest front more others kept are long left =
    let parted = texts_part front more are.texts are.are in
    let within : length parted.front ≤ kept = omega (arith, long, texts_long front parted.front parted.firsts) in
    let following = parted.rest ++ torn in
    let whole : contents ≡ parted.front ++ following =
    are.whole ∙ ap (λ (l : List ℕ). l ++ torn) parted.parts ∙ append_assoc parted.front parted.rest torn in
    let cut = sym (ap (λ (l : List ℕ). take kept l) whole ∙ take_past parted.front following kept within) in
    let f = fits front others parted.front (take (kept - length parted.front) following) left.texts rest (all_front front more are.each) left.each parted.firsts left.are (none_torn _ others rest left) (cut ∙ left.whole) in
    (f.more, f.parts)

-- ---- what a refused opening leaves

pub keeps_records : (old new : Disk) (records : List Rec) (torn : List ℕ) → AreRecordsOf old.contents records torn → KeepsFront (length (records_text records)) old new → KeepsRecords old new
keeps_records old new records torn are front = record {
  records = λ others rest also.
      let same = same_reading old.contents torn rest records others are also in
      let kept = front.contents.0 - length are.texts in
      let within : length are.texts ≤ front.contents.0 = omega (arith, front.contents.1, texts_long records are.texts are.are) in
      let whole : new.contents ≡ are.texts ++ take kept torn =
      front.contents.2 ∙ ap (λ (l : List ℕ). take front.contents.0 l) are.whole ∙ take_past are.texts torn front.contents.0 within in
      let left : AreRecordsOf new.contents records (take kept torn) =
      are_records new.contents records are.texts (take kept torn) are.are whole are.each (none_in_front _ torn (none_torn old.contents records torn are)) in
      subst (λ (l : List ℕ). (n : ℕ) × AreRecordsOf new.contents others (take n l)) same.1
      (subst (λ (rs : List Rec). (n : ℕ) × AreRecordsOf new.contents rs (take n torn)) same.0 (kept, left));
  stable = λ others rest also.
      let same = same_reading old.contents torn rest records others are also in
      subst (λ (rs : List Rec). min old.stable (length (records_text rs)) ≤ new.stable) same.0 front.stable;
  appends = front.appends;
}

-- ---- reading on

abbrev found : Rec × ℕ → Option (Rec × ℕ)
found x = Some x

found_once : (x y : Rec × ℕ) → found x ≡ found y → x ≡ y
found_once x y e = cc

-- what was found at the front is a record, and its text is what was taken
pub record_found : (rest : List ℕ) (r : Rec) (used : ℕ) → BeginsWithRecord rest
    → ((s : Rec) (after : List ℕ) → IsRecord s → IsRecordTextBefore s after rest → found (r, used) ≡ found (s, length (record_text s)))
    → IsRecord r × IsRecordTextBefore r (drop used rest) rest
record_found rest r used (s, after, is, (v, has, parts)) only =
    let pair = found_once (r, used) (s, length (record_text s)) (only s after is (v, has, parts)) in
    let same : r ≡ s = ap (λ (x : Rec × ℕ). x.0) pair in
    let len : used ≡ length (record_text s) = ap (λ (x : Rec × ℕ). x.1) pair in
    let long : length (record_text_at v s) ≡ used = record_long_at v s ∙ sym len in
    let following : drop used rest ≡ after = ap (λ (l : List ℕ). drop used l) parts ∙ drop_at (record_text_at v s) after used long in
    subst (λ (q : Rec). IsRecord q × IsRecordTextBefore q (drop used rest) rest) (sym same)
    (is, (v, has, parts ∙ ap (λ (l : List ℕ). record_text_at v s ++ l) (sym following)))

-- and that text has some bytes, all of them there
pub record_taken : (rest : List ℕ) (r : Rec) (used : ℕ) → BeginsWithRecord rest
    → ((s : Rec) (after : List ℕ) → IsRecord s → IsRecordTextBefore s after rest → found (r, used) ≡ found (s, length (record_text s)))
    → (1 ≤ used) × (used ≤ length rest)
record_taken rest r used (s, after, is, (v, has, parts)) only =
    let pair = found_once (r, used) (s, length (record_text s)) (only s after is (v, has, parts)) in
    let len : used ≡ length (record_text s) = ap (λ (x : Rec × ℕ). x.1) pair in
    (omega (arith, len, record_long s), omega (arith, len, record_long_at v s, ap length parts, length-append (record_text_at v s) after))
