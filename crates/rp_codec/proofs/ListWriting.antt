-- A list's text is put after bytes: its front, how many items there are, and each of those.
use Rattle.std.proofs.Common.{◌≡◌, ◌≤◌, ◌<◌, ◌+◌, ℕ, Result, Ok, Err, OnErr, List, [], ◌∷◌, ◌++◌, length, take, get_or, refl, sym, ◌∙◌, ap, append_assoc}
use Rattle.std.specs.Prelude.{flat_map}
use Rattle.std.proofs.lemmas.List.{take_at, take_all, take_more, append-nil, flat_map_more}
use Rattle.rp_codec.specs.Text.{list_text}

pub on_err : {T E P : Type 0} (r : Result T E) → P → OnErr r P
on_err (Ok x) p = tt
on_err (Err e) p = p

-- what begins with the bytes
pub begins : (bytes rest now : List ℕ) → now ≡ bytes ++ rest → take (length bytes) now ≡ bytes
begins bytes rest now e = ap (take (length bytes)) e ∙ take_at bytes rest (length bytes) refl

module _ {T : Type 0} (item_text : T → List ℕ) (bytes front : List ℕ) (items : List T) where
  -- the bytes with the text of the first k items
  abbrev pub so_far : ℕ → List ℕ
  so_far k = ((bytes ++ front) ++ length items ∷ []) ++ flat_map item_text (take k items)

  regroup : (a b c d : List ℕ) → ((a ++ b) ++ c) ++ d ≡ a ++ (b ++ (c ++ d))
  regroup a b c d = simp append_assoc

  after_bytes : (k : ℕ) → so_far k ≡ bytes ++ (front ++ length items ∷ flat_map item_text (take k items))
  after_bytes k = regroup bytes front (length items ∷ []) (flat_map item_text (take k items))

  pub stays : (k : ℕ) (before now : List ℕ) → now ≡ before → before ≡ so_far k → take (length bytes) now ≡ bytes
  stays k before now same e = begins bytes (front ++ length items ∷ flat_map item_text (take k items)) now (same ∙ e ∙ after_bytes k)

  pub none_yet : (shown first now : List ℕ) → shown ≡ front → first ≡ bytes ++ shown → now ≡ first ++ length items ∷ [] → now ≡ so_far 0
  none_yet shown first now e f h =
      h ∙ ap (λ b. b ++ length items ∷ []) (f ∙ ap (λ s. bytes ++ s) e)
      ∙ sym (append-nil ((bytes ++ front) ++ length items ∷ []))

  pub one_more : (k : ℕ) (item : T) (before shown now : List ℕ) → k < length items → item ≡ get_or items k item → before ≡ so_far k → shown ≡ item_text item → now ≡ before ++ shown → now ≡ so_far (k + 1)
  one_more k item before shown now below is done text e =
      let base = (bytes ++ front) ++ length items ∷ [] in
      e ∙ ap (λ b. b ++ shown) done
      ∙ ap (λ t. (base ++ flat_map item_text (take k items)) ++ t) (text ∙ ap item_text is)
      ∙ flat_map_more item_text base (take k items) (get_or items k item)
      ∙ ap (λ xs. base ++ flat_map item_text xs) (sym (take_more items k item below))

  pub all_put : (k : ℕ) (now : List ℕ) → length items ≤ k → now ≡ so_far k → now ≡ bytes ++ list_text item_text front items
  all_put k now past e =
      e ∙ after_bytes k ∙ ap (λ xs. bytes ++ (front ++ length items ∷ flat_map item_text xs)) (take_all k items past)
