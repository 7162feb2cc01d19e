-- The logs of the nodes are read, one after the other.
use Rattle.std.proofs.Common.{◌≡◌, ◌≤◌, ◌+◌, ℕ, zero, suc, Option, Some, None, List, [], ◌∷◌, ◌++◌, length, replicate, slice_get, unwrap_or, refl, sym, ap, subst, ◌∙◌, arith}
use Rattle.std.proofs.lemmas.List.{length-append}
use Rattle.std.specs.List.{AllZip}
use Rattle.std.specs.Prelude.{IfSome}
use Rattle.rp_threads.specs.rp_base.specs.declared.action.Action.{Action}
use Rattle.rp_threads.specs.rp_base.specs.declared.reply.Answer.{Answer}
use Rattle.rp_board.specs.Seats.{SeatState}
use Rattle.rp_boxes.specs.Audits.{known_of}
use Rattle.rp_threads.specs.declared.loops.NodeEnd.{NodeEnd}
use Rattle.rp_threads.proofs.Places.{AreZippedSoFar}
use Rattle.rp_live.specs.Seats.{AreNumbered, IsRead, KnowsNothingAbove, KnowsSameBut}

-- The log of a node up to this number was read, of which nothing was known at first.
pub record IsReadBelow {S P : Type 0} (next : S → Action → S) (answers : S → Action → List Answer) (begin : P → S) (number : ℕ) (known : List (List Action)) (first now : SeatState P) : Type 0 where
  pub below : now.setup.number ≤ number
  pub read : IsRead next answers begin 0 first now (length (known_of known now.setup.number))

pub zip_weaker : {A B : Type 0} (R T : A → B → Type 0) → ((x : A) (y : B) → R x y → T x y) → (xs : List A) (ys : List B) → AllZip R xs ys → AllZip T xs ys
zip_weaker R T so [] [] zip = tt
zip_weaker R T so [] (y ∷ ys) zip = absurd zip
zip_weaker R T so (x ∷ xs) [] zip = absurd zip
zip_weaker R T so (x ∷ xs) (y ∷ ys) zip = (so x y zip.0, zip_weaker R T so xs ys zip.1)

pub so_far_weaker : {A B : Type 0} (R T : A → B → Type 0) → ((x : A) (y : B) → R x y → T x y) → (all rest : List A) (ys : List B) → AreZippedSoFar R all rest ys → AreZippedSoFar T all rest ys
so_far_weaker R T so all rest ys zip = record { seen = zip.seen; whole = zip.whole; each = zip_weaker R T so zip.seen ys zip.each }

pub one_longer : {A : Type 0} (xs grown : List A) (x : A) → grown ≡ xs ++ x ∷ [] → length grown ≡ length xs + 1
one_longer xs grown x is = ap length is ∙ length-append xs (x ∷ [])

some_so : {A : Type 0} (Q R : A → Type 0) → ((x : A) → Q x → R x) → (o : Option A) → IfSome o Q → IfSome o R
some_so Q R so None is = tt
some_so Q R so (Some x) is = so x is

-- of no node is anything known
nothing_at : (n place : ℕ) → unwrap_or {T = List Action} (slice_get (replicate n []) place) [] ≡ []
nothing_at zero zero = refl
nothing_at zero (suc place) = refl
nothing_at (suc n) zero = refl
nothing_at (suc n) (suc place) = nothing_at n place

nothing_of : (n node : ℕ) → known_of (replicate n []) node ≡ []
nothing_of n zero = refl
nothing_of n (suc place) = nothing_at n place

pub nothing_known : (known : List (List Action)) → known ≡ replicate 7 [] → KnowsNothingAbove 0 known
nothing_known known is = λ node above. ap (λ (l : List (List Action)). known_of l node) is ∙ nothing_of 7 node

module _ {M D P : Type 0} where
  -- the end that comes next is that of the next node
  pub next_number : (number : ℕ) (rest left : List (NodeEnd M D P)) (end : NodeEnd M D P) → rest ≡ end ∷ left → AreNumbered number rest → end.seat.setup.number ≡ number + 1
  next_number number rest left end steps numbers = let e = subst (λ (l : List (NodeEnd M D P)). AreNumbered number l) steps numbers 0 in omega (arith, e)

  pub left_numbered : (number more : ℕ) (rest left : List (NodeEnd M D P)) (end : NodeEnd M D P) → rest ≡ end ∷ left → more ≡ number + 1 → AreNumbered number rest → AreNumbered more left
  left_numbered number more rest left end steps is numbers = λ place.
      some_so (λ (e : NodeEnd M D P). e.seat.setup.number ≡ number + suc place + 1) (λ (e : NodeEnd M D P). e.seat.setup.number ≡ more + place + 1)
      (λ e at. omega (arith, at, is)) (slice_get left place) (subst (λ (l : List (NodeEnd M D P)). AreNumbered number l) steps numbers (suc place))

-- a node is read: of those of higher numbers nothing is known still
pub still_unread : (number more at : ℕ) (old new : List (List Action)) → more ≡ number + 1 → at ≡ number + 1 → KnowsSameBut at old new → KnowsNothingAbove number old → KnowsNothingAbove more new
still_unread number more at old new is_more is_at same none = λ node above.
    same node (λ is. omega (arith, above, is, is_more, is_at)) ∙ none node (omega (arith, above, is_more))

module _ {S P : Type 0} (next : S → Action → S) (answers : S → Action → List Answer) (begin : P → S) where
  -- those that were read before it stay as they are
  pub read_still : (number more at : ℕ) (old new : List (List Action)) → more ≡ number + 1 → at ≡ number + 1 → KnowsSameBut at old new → (first now : SeatState P)
      → IsReadBelow next answers begin number old first now → IsReadBelow next answers begin more new first now
  read_still number more at old new is_more is_at same first now r =
      let below = r.below in
      let stays : known_of new now.setup.number ≡ known_of old now.setup.number = same now.setup.number (λ is. omega (arith, below, is, is_at)) in
      record {
        below = omega (arith, below, is_more);
        read = subst (λ (list : List Action). IsRead next answers begin 0 first now (length list)) (sym stays) r.read;
      }

  -- and it is read too
  pub one_read : (number more : ℕ) (old new : List (List Action)) (first now : SeatState P) → more ≡ number + 1 → first.setup.number ≡ number + 1 → now.setup.number ≡ first.setup.number → KnowsNothingAbove number old
      → IsRead next answers begin (length (known_of old first.setup.number)) first now (length (known_of new first.setup.number)) → IsReadBelow next answers begin more new first now
  one_read number more old new first now is_more is_first same none r =
      let nothing : length (known_of old first.setup.number) ≡ 0 = ap length (none first.setup.number (omega (arith, is_first))) in
      record {
        below = omega (arith, same, is_first, is_more);
        read = subst (λ (n : ℕ). IsRead next answers begin 0 first now (length (known_of new n))) (sym same) (subst (λ (start : ℕ). IsRead next answers begin start first now (length (known_of new first.setup.number))) nothing r);
      }
