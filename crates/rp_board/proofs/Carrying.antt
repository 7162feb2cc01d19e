-- What is put into boxes and got out of them, where one packet more is put or got.
use Rattle.std.proofs.Common.{◌≡◌, ◌≢◌, ℕ, Bool, true, false, cond, eqb, List, [], ◌∷◌, ◌++◌, inl, refl, sym, ap, subst, ◌∙◌, append-nil}
use Rattle.std.specs.Prelude.{filter}
use Rattle.std.proofs.lemmas.Bool.{ne_eqb, eq-eqb}
use Rattle.std.proofs.lemmas.List.Elements.{filter-append}
use Rattle.rp_base.specs.Sets.{Has}
use Rattle.rp_base.proofs.Members.{has_right, has_passing}
use Rattle.rp_codec.specs.Message.{Message}
use Rattle.rp_board.specs.Parts.{Part, actor_of, from_actor, to_actor}
use Rattle.rp_board.specs.Rule.{IsCarriedOver}

passing : {A : Type 0} (test : A → Bool) (x : A) (xs : List A) → test x ≡ true → filter test (xs ++ x ∷ []) ≡ filter test xs ++ x ∷ []
passing test x xs passes = filter-append test xs (x ∷ []) ∙ ap (λ (b : Bool). filter test xs ++ cond b (x ∷ []) []) passes

failing : {A : Type 0} (test : A → Bool) (x : A) (xs : List A) → test x ≡ false → filter test (xs ++ x ∷ []) ≡ filter test xs
failing test x xs fails = filter-append test xs (x ∷ []) ∙ (ap (λ (b : Bool). filter test xs ++ cond b (x ∷ []) []) fails ∙ append-nil (filter test xs))

module _ (m : Message) (packets : List Message) where
  pub to_this : (y : ℕ) → actor_of m.to ≡ y → to_actor y (packets ++ m ∷ []) ≡ to_actor y packets ++ m ∷ []
  to_this y is = passing (λ (n : Message). eqb (actor_of n.to) y) m packets (eq-eqb (actor_of m.to) y is)

  pub to_other : (y : ℕ) → actor_of m.to ≢ y → to_actor y (packets ++ m ∷ []) ≡ to_actor y packets
  to_other y differs = failing (λ (n : Message). eqb (actor_of n.to) y) m packets (ne_eqb (actor_of m.to) y differs)

  pub from_this : (x : ℕ) → actor_of m.from ≡ x → from_actor x (packets ++ m ∷ []) ≡ from_actor x packets ++ m ∷ []
  from_this x is = passing (λ (n : Message). eqb (actor_of n.from) x) m packets (eq-eqb (actor_of m.from) x is)

  pub from_other : (x : ℕ) → actor_of m.from ≢ x → from_actor x (packets ++ m ∷ []) ≡ from_actor x packets
  from_other x differs = failing (λ (n : Message). eqb (actor_of n.from) x) m packets (ne_eqb (actor_of m.from) x differs)

module _ (x y : ℕ) (sender sender' receiver receiver' : Part) where
  -- the two lists as they were
  pub carried_still : (inside : List Message) → to_actor y sender'.put ≡ to_actor y sender.put → from_actor x receiver'.got ≡ from_actor x receiver.got
      → IsCarriedOver x y sender receiver inside → IsCarriedOver x y sender' receiver' inside
  carried_still inside puts gets carried = puts ∙ (carried ∙ ap (λ (got : List Message). got ++ inside) (sym gets))

  -- a packet is put, and lies in the box
  pub carried_in : (m : Message) → actor_of m.to ≡ y → sender'.put ≡ sender.put ++ m ∷ [] → receiver'.got ≡ receiver.got
      → IsCarriedOver x y sender receiver [] → IsCarriedOver x y sender' receiver' (m ∷ [])
  carried_in m to puts gets carried =
      ap (to_actor y) puts ∙ (to_this m sender.put y to
      ∙ ap (λ (list : List Message). list ++ m ∷ []) (carried ∙ (append-nil (from_actor x receiver.got) ∙ ap (from_actor x) (sym gets))))

  -- the packet in the box is got
  pub carried_out : (m : Message) → actor_of m.from ≡ x → sender'.put ≡ sender.put → receiver'.got ≡ receiver.got ++ m ∷ []
      → IsCarriedOver x y sender receiver (m ∷ []) → IsCarriedOver x y sender' receiver' []
  carried_out m from puts gets carried =
      ap (to_actor y) puts ∙ (carried
      ∙ (sym (from_this m receiver.got x from) ∙ (ap (from_actor x) (sym gets) ∙ sym (append-nil (from_actor x receiver'.got)))))

-- what lies in the box was put
pub inside_put : (x y : ℕ) (sender receiver : Part) (m : Message) → IsCarriedOver x y sender receiver (m ∷ []) → Has m sender.put
inside_put x y sender receiver m carried =
    (has_passing (λ (n : Message). eqb (actor_of n.to) y) m sender.put
    (subst (Has m) (sym carried) (has_right m (from_actor x receiver.got) (m ∷ []) (inl refl)))).0
