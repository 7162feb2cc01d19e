-- The first two words of a key are the seed of the run and the number of the party.
use Rattle.std.proofs.Common.{ℕ, List, slice_index, ap, arith}
use Rattle.rand_core.specs.Steps.{u32_at}
use Rattle.rp_thread_laws.proofs.Keys.{one_seed, one_party}
use Rattle.rp_thread_laws.proofs.links.each_party_has_a_link_of_its_own.Goals as goal

pub returns : goal.returns
unfolding u32_at
returns c = λ seed other one two small also is is_too same.
    let first = ap (λ (key : List ℕ). slice_index key 0) same in
    let second = ap (λ (key : List ℕ). slice_index key 1) same in
    (one_seed seed other small also first, one_party one two is is_too (omega (arith, second)))
