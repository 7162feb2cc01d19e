-- What two writes one after another append.
use Rattle.std.proofs.Common.{◌≡◌, ℕ, ◌+◌, ◌-◌, List, ◌++◌, Option, Some, None, length, take, drop, ap, sym, ◌∙◌, append_assoc}
use Rattle.std.specs.Io.KnownBytes.{Appends}
use Rattle.std.proofs.Math.Seq.{take-add}
use Rattle.std.proofs.lemmas.List.{take_rest}

appends_both : (a b d : Option (List ℕ)) (xs ys zs : List ℕ) → zs ≡ xs ++ ys → Appends a b xs → Appends b d ys → Appends a d zs
appends_both None b d xs ys zs e first second = tt
appends_both (Some x) None d xs ys zs e first second = absurd first
appends_both (Some x) (Some y) None xs ys zs e first second = absurd second
appends_both (Some x) (Some y) (Some z) xs ys zs e first second =
    second ∙ ap (λ l. l ++ ys) first ∙ append_assoc x xs ys ∙ ap (λ l. x ++ l) (sym e)

-- the first n bytes were written, and then m of the rest
pub appends_next : (a b d : Option (List ℕ)) (bytes : List ℕ) (n m : ℕ) → Appends a b (take n bytes)
    → Appends b d (take m (take (length bytes - n) (drop n bytes))) → Appends a d (take (n + m) bytes)
appends_next a b d bytes n m =
    appends_both a b d _ _ _ (take-add n m bytes ∙ ap (λ l. take n bytes ++ take m l) (sym (take_rest bytes n)))
