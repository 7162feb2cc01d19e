-- Fresh nodes and tasks, one more at a time, and the world that they are.
use Rattle.std.proofs.Common.{◌≡◌, ℕ, zero, suc, Option, Some, None, List, [], ◌∷◌, ◌++◌, length, map, replicate, slice_get, refl, sym, ap, subst, ◌∙◌, arith}
use Rattle.std.specs.Prelude.{All, IfSome, get_or, ◌<◌}
use Rattle.std.proofs.lemmas.List.{append_assoc, map-append}
use Rattle.rp_base.specs.declared.config.Config.{Config}
use Rattle.rp_base.specs.Config.{IsRightConfig}
use Rattle.rp_codec.specs.Message.{Message}
use Rattle.rp_store.specs.Disk.{Disk}
use Rattle.rp_model.specs.Parts.{NodePart, TaskPart, fresh_node, fresh_task}
use Rattle.rp_model.specs.World.{World, opening_world}
use Rattle.rp_actors.specs.Callers.{Caller}
use Rattle.rp_replica.specs.rp_outbox.specs.Packets.{Sending}
use Rattle.rp_actors.specs.Nodes.{member_of, Represents}
use Rattle.rp_actors.specs.Shape.{part_by, world_of, AreFresh, AreFreshTasks, IsWorld}
use Rattle.rp_actors.specs.declared.node.ClusterNode.{ClusterNode}
use Rattle.rp_actors.proofs.Resting.{part_is}

-- what is so of all that are left is so of the first one, and of those after it
module _ {A : Type 0} (Q : A → Type 0) (xs : List A) (x : A) (rest : List A) (is : xs ≡ x ∷ rest) (all : All Q xs) where
  at_all : All Q (x ∷ rest)
  at_all = subst (All Q) is all

  pub first_of : Q x
  first_of = at_all 0 x (omega arith)

  pub rest_of : All Q rest
  rest_of k d within = at_all (suc k) d (omega (arith, within))

-- what is so at each place is so with one more
pub one_more : {A : Type 0} (Q : ℕ → A → Type 0) (xs : List A) (x : A) → ((k : ℕ) → IfSome (slice_get xs k) (Q k)) → Q (length xs) x → (k : ℕ) → IfSome (slice_get (xs ++ x ∷ []) k) (Q k)
one_more Q [] x all is zero = is
one_more Q [] x all is (suc k) = tt
one_more Q (y ∷ xs) x all is zero = all zero
one_more Q (y ∷ xs) x all is (suc k) = one_more (λ j. Q (suc j)) xs x (λ j. all (suc j)) is k

-- counts of what is done and of what is left, with one more done
pub counted_more : {A B : Type 0} (F : A → ℕ) (f : B → ℕ) (xs : List A) (x : A) (y : B) (ys : List B) (whole : List ℕ) → F x ≡ f y → map F xs ++ map f (y ∷ ys) ≡ whole → map F (xs ++ x ∷ []) ++ map f ys ≡ whole
counted_more {A = A} {B = B} F f xs x y ys whole same is =
    ap (λ (l : List ℕ). l ++ map f ys) (map-append F xs (x ∷ [])) ∙ append_assoc (map F xs) (F x ∷ []) (map f ys) ∙ ap (λ (k : ℕ). map F xs ++ k ∷ map f ys) same ∙ is

-- counts that are 0 each
zero_at : {A : Type 0} (f : A → ℕ) (xs : List A) (k d : ℕ) → ((j : ℕ) → IfSome (slice_get xs j) (λ a. f a ≡ 0)) → k < length (map f xs) → get_or (map f xs) k d ≡ 0
zero_at {A = A} f [] k d is within = absurd (omega (arith, within))
zero_at {A = A} f (x ∷ xs) zero d is within = is zero
zero_at {A = A} f (x ∷ xs) (suc k) d is within = zero_at f xs k d (λ j. is (suc j)) (omega (arith, within))

pub all_zero : {A : Type 0} (f : A → ℕ) (xs : List A) → ((k : ℕ) → IfSome (slice_get xs k) (λ a. f a ≡ 0)) → All (λ count. count ≡ 0) (map f xs)
all_zero {A = A} f xs is = λ k d within. zero_at f xs k d is within

-- ---- the world

if_some : {A : Type 0} (Q R : A → Type 0) → ((x : A) → Q x → R x) → (o : Option A) → IfSome o Q → IfSome o R
if_some {A = A} Q R then None is = tt
if_some {A = A} Q R then (Some x) is = then x is

-- a list of which each is the same
all_same : {A B : Type 0} (f : A → B) (b : B) (xs : List A) → ((k : ℕ) → IfSome (slice_get xs k) (λ a. f a ≡ b)) → map f xs ≡ replicate (length xs) b
all_same {A = A} {B = B} f b [] all = refl
all_same {A = A} {B = B} f b (x ∷ xs) all = ap (λ (y : B). y ∷ map f xs) (all zero) ∙ ap (λ (l : List B). b ∷ l) (all_same f b xs (λ k. all (suc k)))

module _ {S D P : Type 0} (disk : D → Disk) (config : Config) (begin : S) (nodes : List (ClusterNode S D P)) (tasks : List Caller) (messages : Sending)
    (fresh : AreFresh disk config begin nodes) (fresh_tasks : AreFreshTasks tasks) (none : messages.sent ≡ []) where
  abbrev most : ℕ
  most = config.max_positions

  nodes_are : map (part_by disk most) nodes ≡ replicate config.nodes fresh_node
  nodes_are =
      all_same (part_by disk most) fresh_node nodes
      (λ k. if_some (λ n. Represents disk (member_of (suc k) config begin) n fresh_node) (λ n. part_by disk most n ≡ fresh_node)
      (λ n represents. sym (part_is disk (member_of (suc k) config begin) n fresh_node represents)) (slice_get nodes k) (fresh.each k))
      ∙ ap (λ (n : ℕ). replicate n fresh_node) fresh.size

  tasks_are : map (λ (t : Caller). t.part) tasks ≡ replicate 8 fresh_task
  tasks_are =
      all_same (λ (t : Caller). t.part) fresh_task tasks
      (λ k. if_some (λ t. let new : Caller = record { task = suc k; part = fresh_task } in t ≡ new) (λ t. t.part ≡ fresh_task) (λ t is. ap (λ (c : Caller). c.part) is) (slice_get tasks k) (fresh_tasks.each k))
      ∙ ap (λ (n : ℕ). replicate n fresh_task) fresh_tasks.eight

  pub opening : world_of disk most nodes tasks messages ≡ opening_world config.nodes
  opening =
      ap (λ (ps : List NodePart). let w : World = record { nodes = ps; tasks = map (λ (t : Caller). t.part) tasks; sent = messages.sent } in w) nodes_are
      ∙ ap (λ (ps : List TaskPart). let w : World = record { nodes = replicate config.nodes fresh_node; tasks = ps; sent = messages.sent } in w) tasks_are
      ∙ ap (λ (ms : List Message). let w : World = record { nodes = replicate config.nodes fresh_node; tasks = replicate 8 fresh_task; sent = ms } in w) none

  -- and each is the one of its number
  pub fresh_are_world : IsRightConfig config → IsWorld disk config begin nodes tasks
  fresh_are_world right = record {
    right = right;
    size = fresh.size;
    members = λ k.
        let member = member_of (suc k) config begin in
        if_some (λ n. Represents disk member n fresh_node) (λ n. Represents disk member n (part_by disk most n))
        (λ n represents. subst (Represents disk member n) (part_is disk member n fresh_node represents) represents) (slice_get nodes k) (fresh.each k);
    eight = fresh_tasks.eight;
    numbered = λ k.
        if_some (λ t. let new : Caller = record { task = suc k; part = fresh_task } in t ≡ new) (λ t. t.task ≡ suc k) (λ t is. ap (λ (c : Caller). c.task) is) (slice_get tasks k) (fresh_tasks.each k);
  }
