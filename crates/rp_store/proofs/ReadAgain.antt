-- What is read of contents that a stop left.
use Rattle.std.proofs.Common.{◌≡◌, ℕ, suc, ◌+◌, List, [], ◌∷◌, ◌++◌, length, take, refl, sym, ap, subst, ◌∙◌, arith}
use Rattle.rp_base.specs.declared.record.Rec.{Rec}
use Rattle.rp_store.specs.Disk.{Disk}
use Rattle.rp_store.specs.Opening.{IsOpened}
use Rattle.rp_store.specs.Records.{AreRecordsOf}

-- contents are read in one way
abbrev pub OneReading : Type 0
OneReading = (contents torn rest : List ℕ) (records others : List Rec) → AreRecordsOf contents records torn → AreRecordsOf contents others rest → (records ≡ others) × (torn ≡ rest)

-- what an opening finds of these contents, of which the records are known
pub reads : OneReading → (d opened : Disk) (contents torn : List ℕ) (records found : List Rec) (cut_bytes : ℕ) → d.contents ≡ contents → AreRecordsOf contents records torn
    → IsOpened d found cut_bytes opened → (found ≡ records) × (cut_bytes ≡ length torn)
reads one d opened contents torn records found cut_bytes same are is =
    let both = one d.contents is.found.0 torn found records is.found.1 (subst (λ (l : List ℕ). AreRecordsOf l records torn) (sym same) are) in
    (both.0, is.found.2 ∙ ap length both.1)

-- a stop keeps n bytes of what was not stable
pub take_more : (front more : List ℕ) (stable kept : ℕ) → stable ≡ length front → take (stable + kept) (front ++ more) ≡ front ++ take kept more
take_more [] more stable kept is =
    let none : stable + kept ≡ kept = omega (arith, is) in
    ap (λ (n : ℕ). take n more) none
take_more (x ∷ front) more stable kept is =
    let next : stable + kept ≡ suc (length front + kept) = omega (arith, is) in
    ap (λ (n : ℕ). take n (x ∷ (front ++ more))) next ∙ ap (λ (l : List ℕ). x ∷ l) (take_more front more (length front) kept refl)
