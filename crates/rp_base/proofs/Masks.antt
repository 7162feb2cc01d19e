-- Sets of nodes as masks.
use Rattle.std.proofs.Common.{◌≡◌, ℕ, zero, suc, ◌*◌, ◌^◌, ◌%◌, ◌/◌, ◌<◌, ◌≤◌, max, min, Bool, true, false, ◌↔◌, [], length, nat_eq, inl, inr, refl, sym, ap, subst, ◌∙◌, arith}
use Rattle.std.specs.Prelude.{◌&&◌, nat_le, bit_and, bit_or, count_ones}
use Rattle.std.specs.Int.{bit_at}
use lib.Count.{ones}
use Rattle.std.specs.List.{list_any}
use Rattle.std.proofs.lemmas.Bool.{cases_Bool, cases_eq, eqb-true, eq-eqb, le-leb, and_parts, and_from}
use Rattle.std.proofs.lemmas.Bool.Decides.{Decides-eqb}
use Rattle.std.proofs.lemmas.Nat.{or_lt, and_le_l}
use Rattle.std.proofs.lemmas.Nat.Bits.{bit_at_lowest, bit_at-lt, bit_at_and, bit_at_or, bit_at-pow_same, bit_at-pow_other}
use Rattle.rp_base.specs.Sets.{Has, IsSet, SameMembers, with_member}
use Rattle.rp_base.specs.Number.{IsNode, in_range}
use Rattle.rp_base.specs.Majority.{AreNodes, nodes_among}
use Rattle.rp_base.specs.Masks.{all_nodes, nodes_in, low_bits}
use Rattle.rp_base.proofs.Members.{has_passing, passes, found, has_with, with_has, set_passing, set_members, set_with, same_size, same_passing}

-- the test holds of each number below n
abbrev all_below : (ℕ → Bool) → ℕ → Bool
all_below test zero = true
all_below test (suc n) = test n && all_below test n

below : (test : ℕ → Bool) (n k : ℕ) → all_below test n ≡ true → k < n → test k ≡ true
below test zero k all less = absurd (omega arith)
below test (suc n) k all less =
    let both = and_parts _ _ all in
    elim (cases_eq k n) [ inl same ↦ ap test same ∙ both.0 | inr other ↦ below test n k both.1 (omega arith) ]

-- there are as many nodes in a mask as bits that are set
pub counted : (half : ℕ) → half < 128 → count_ones (2 * half) ≡ length (nodes_in (2 * half))
unfolding ones
counted half less = eqb-true _ _ (below (λ m. nat_eq (count_ones (2 * m)) (length (nodes_in (2 * m)))) 128 half refl less)

-- a shift by a node's number is within a byte
shifted : (k : ℕ) → IsNode k → 1 * 2 ^ k % 256 ≡ 2 ^ k
shifted k node = eqb-true _ _ (below (λ n. nat_eq (1 * 2 ^ n % 256) (2 ^ n)) 8 k refl (omega (arith, node.1)))

among : (k : ℕ) → IsNode k → Has k all_nodes
among zero node = absurd (omega (arith, node.0))
among (suc n) node = found nat_eq Decides-eqb (suc n) all_nodes (below (λ n. list_any (nat_eq (suc n)) all_nodes) 7 n refl (omega (arith, node.1)))

is_node : (x : ℕ) → Has x all_nodes → IsNode x
is_node x h = elim h [
  | inl e ↦ (omega (arith, e), omega (arith, e))
  | inr h ↦ elim h [
    | inl e ↦ (omega (arith, e), omega (arith, e))
    | inr h ↦ elim h [
      | inl e ↦ (omega (arith, e), omega (arith, e))
      | inr h ↦ elim h [
        | inl e ↦ (omega (arith, e), omega (arith, e))
        | inr h ↦ elim h [
          | inl e ↦ (omega (arith, e), omega (arith, e))
          | inr h ↦ elim h [
            | inl e ↦ (omega (arith, e), omega (arith, e))
            | inr h ↦ elim h [ inl e ↦ (omega (arith, e), omega (arith, e)) | inr none ↦ absurd none ]
          ]
        ]
      ]
    ]
  ]
]

all_distinct : IsSet all_nodes
all_distinct = set_members nat_eq Decides-eqb [] all_nodes tt

-- a node is in a mask where its bit is set
pub has_node : (mask x : ℕ) → Has x (nodes_in mask) ↔ (Has x all_nodes × (bit_at mask x ≡ 1))
has_node mask x = (
  λ h. let both = has_passing (λ k. nat_eq (bit_at mask k) 1) x all_nodes h in (both.0, eqb-true _ _ both.1),
  λ h. passes (λ k. nat_eq (bit_at mask k) 1) x all_nodes h.0 (eq-eqb _ _ h.1),
)

pub are_nodes : (mask : ℕ) → AreNodes 7 (nodes_in mask)
are_nodes mask = record {
  members = λ x h. is_node x ((has_node mask x).0 h).0;
  distinct = set_passing (λ k. nat_eq (bit_at mask k) 1) all_nodes all_distinct;
}

-- the mask with a node's bit set
pub with_node : (mask k : ℕ) → IsNode k → SameMembers (nodes_in (bit_or mask (1 * 2 ^ k % 256))) (with_member nat_eq (nodes_in mask) k)
with_node mask k node x =
    let bit : bit_at (bit_or mask (1 * 2 ^ k % 256)) x ≡ max (bit_at mask x) (bit_at (2 ^ k) x) =
    ap (λ (m : ℕ). bit_at (bit_or mask m) x) (shifted k node) ∙ bit_at_or mask (2 ^ k) x in
    let most : bit_at mask x < 2 = omega arith in (
      λ h. with_has nat_eq Decides-eqb x k (nodes_in mask) (
          let both = (has_node (bit_or mask (1 * 2 ^ k % 256)) x).0 h in
          elim (cases_eq x k) [
            | inl same ↦ inr same
            | inr other ↦
                let none : bit_at (2 ^ k) x ≡ 0 = bit_at-pow_other k x other in
                inl ((has_node mask x).1 (both.0, omega (arith, both.1, bit, none)))
          ]),
      λ h. elim (has_with nat_eq Decides-eqb x k (nodes_in mask) h) [
        | inl before ↦
            let both = (has_node mask x).0 before in
            let few : bit_at (2 ^ k) x < 2 = omega arith in
            (has_node (bit_or mask (1 * 2 ^ k % 256)) x).1 (both.0, omega (arith, both.1, bit, few))
        | inr same ↦
            let one : bit_at (2 ^ k) x ≡ 1 = ap (bit_at (2 ^ k)) same ∙ bit_at-pow_same k in
            (has_node (bit_or mask (1 * 2 ^ k % 256)) x).1 (subst (λ (n : ℕ). Has n all_nodes) (sym same) (among k node), omega (arith, bit, one, most))
      ],
    )

-- bit 0 stays clear
pub even_still : (mask k : ℕ) → IsNode k → mask % 2 ≡ 0 → bit_or mask (1 * 2 ^ k % 256) % 2 ≡ 0
even_still mask k node even =
    let bit : bit_at (bit_or mask (1 * 2 ^ k % 256)) 0 ≡ max (bit_at mask 0) (bit_at (2 ^ k) 0) =
    ap (λ (m : ℕ). bit_at (bit_or mask m) 0) (shifted k node) ∙ bit_at_or mask (2 ^ k) 0 in
    let none : bit_at (2 ^ k) 0 ≡ 0 = bit_at-pow_other k 0 (λ e. omega (arith, e, node.0)) in
    let first : bit_at mask 0 ≡ mask % 2 = bit_at_lowest mask in
    let all : bit_at (bit_or mask (1 * 2 ^ k % 256)) 0 ≡ bit_or mask (1 * 2 ^ k % 256) % 2 = bit_at_lowest (bit_or mask (1 * 2 ^ k % 256)) in
    omega (arith, bit, none, first, all, even)

abbrev one_if : Bool → ℕ
one_if true = 1
one_if false = 0

-- bit x is among the bits 0 to n
low_bit : (n x : ℕ) → n ≤ 7 → x ≤ 7 → bit_at (low_bits n) x ≡ one_if (nat_le x n)
low_bit n x most less =
    let row : all_below (λ x. nat_eq (bit_at (low_bits n) x) (one_if (nat_le x n))) 8 ≡ true =
    below (λ n. all_below (λ x. nat_eq (bit_at (low_bits n) x) (one_if (nat_le x n))) 8) 8 n refl (omega arith) in
    eqb-true _ _ (below (λ x. nat_eq (bit_at (low_bits n) x) (one_if (nat_le x n))) 8 x row (omega arith))

within : (mask n x : ℕ) → n ≤ 7 → Has x all_nodes → bit_at (bit_and mask (low_bits n)) x ≡ min (bit_at mask x) (one_if (nat_le x n))
within mask n x most there =
    let node = is_node x there in
    bit_at_and mask (low_bits n) x ∙ ap (λ (b : ℕ). min (bit_at mask x) b) (low_bit n x most node.1)

-- the nodes in a mask that are nodes 1 to n
among_low : (mask n : ℕ) → n ≤ 7 → SameMembers (nodes_in (bit_and mask (low_bits n))) (nodes_among n (nodes_in mask))
among_low mask n most x = (
  λ h.
      let both = (has_node (bit_and mask (low_bits n)) x).0 h in
      let node = is_node x both.0 in
      let bit = within mask n x most both.0 in
      elim (cases_Bool (nat_le x n)) [
        | inl low ↦
            let one : one_if (nat_le x n) ≡ 1 = ap one_if low in
            passes (in_range 1 n) x (nodes_in mask) ((has_node mask x).1 (both.0, omega (arith, both.1, bit, one, bit_at-lt mask x)))
            (and_from _ _ (le-leb 1 x node.0) low)
        | inr high ↦
            let none : one_if (nat_le x n) ≡ 0 = ap one_if high in
            absurd (omega (arith, both.1, bit, none))
      ],
  λ h.
      let both = has_passing (in_range 1 n) x (nodes_in mask) h in
      let there = (has_node mask x).0 both.0 in
      let one : one_if (nat_le x n) ≡ 1 = ap one_if (and_parts _ _ both.1).1 in
      (has_node (bit_and mask (low_bits n)) x).1 (there.0, omega (arith, within mask n x most there.0, there.1, one)),
)

pub counted_within : (mask n : ℕ) → n ≤ 7 → mask < 256 → mask % 2 ≡ 0 → count_ones (bit_and mask (low_bits n)) ≡ length (nodes_among n (nodes_in mask))
counted_within mask n most byte even =
    let low : ℕ = bit_and mask (low_bits n) in
    let less : low ≤ mask = and_le_l mask (low_bits n) in
    let first : bit_at low 0 ≡ min (bit_at mask 0) (bit_at (low_bits n) 0) = bit_at_and mask (low_bits n) 0 in
    let was : bit_at mask 0 ≡ mask % 2 = bit_at_lowest mask in
    let is : bit_at low 0 ≡ low % 2 = bit_at_lowest low in
    let still : low % 2 ≡ 0 = omega (arith, first, was, is, even) in
    let whole : low ≡ 2 * (low / 2) = omega (arith, still) in
    let ones_there : count_ones low ≡ length (nodes_in low) =
    subst (λ (m : ℕ). count_ones m ≡ length (nodes_in m)) (sym whole) (counted (low / 2) (omega (arith, less, byte))) in
    ones_there ∙ same_size (nodes_in low) (nodes_among n (nodes_in mask)) (are_nodes low).distinct
    (set_passing (in_range 1 n) (nodes_in mask) (are_nodes mask).distinct) (among_low mask n most)

-- the same with one node more
pub counted_with : (mask k n : ℕ) → IsNode k → n ≤ 7 → mask < 256 → mask % 2 ≡ 0
    → count_ones (bit_and (bit_or mask (1 * 2 ^ k % 256)) (low_bits n)) ≡ length (nodes_among n (with_member nat_eq (nodes_in mask) k))
counted_with mask k n node most byte even =
    let more : ℕ = bit_or mask (1 * 2 ^ k % 256) in
    let below : more < 256 = or_lt 8 mask (1 * 2 ^ k % 256) byte (omega arith) in
    counted_within more n most below (even_still mask k node even)
    ∙ same_size (nodes_among n (nodes_in more)) (nodes_among n (with_member nat_eq (nodes_in mask) k))
    (set_passing (in_range 1 n) (nodes_in more) (are_nodes more).distinct)
    (set_passing (in_range 1 n) (with_member nat_eq (nodes_in mask) k) (set_with nat_eq Decides-eqb (nodes_in mask) k (are_nodes mask).distinct))
    (same_passing (in_range 1 n) (nodes_in more) (with_member nat_eq (nodes_in mask) k) (with_node mask k node))
