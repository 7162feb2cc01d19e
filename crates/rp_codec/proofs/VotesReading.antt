-- Votes that are read one after another, each at a position above the one before.
use Rattle.std.proofs.Common.{◌≡◌, ℕ, suc, ◌+◌, ◌-◌, ◌<◌, ◌≤◌, List, [], ◌∷◌, ◌++◌, Bool, true, false, leb, Result, Ok, Err, refl, sym, ap, subst, ◌∙◌, arith}
use Rattle.std.specs.Prelude.{IsOk}
use Rattle.std.proofs.lemmas.List.{append-nil}
use Rattle.rp_base.specs.declared.fault.PacketReason.{PacketReason}
use Rattle.rp_base.specs.declared.placed.PlacedVote.{PlacedVote}
use Rattle.rp_base.specs.Ranges.{Range, end_of}
use Rattle.rp_codec.specs.declared.version.Version.{Version}
use Rattle.rp_codec.specs.declared.packet.Body.TheVariants.{PromiseRange}
use Rattle.rp_codec.specs.Reading.{◌>>=◌, Read, ruled, byte_at, range_place_at, reported_at, votes_at, reported_votes_at, promise_range_at}
use Rattle.rp_codec.proofs.ListReading.{prefixed, prefixed_nil, joined}

-- n were read, the others are at positions from the next on, and are where the rest begins
pub record HasVotes (v : Version) (ballot end first count : ℕ) (bytes : List ℕ) (done next : ℕ) (front : List PlacedVote) (rest : List ℕ) : Type 0 where
  pub read : votes_at v ballot end first count bytes ≡ prefixed front (votes_at v ballot end next (count - done) rest)

pub no_votes_read : (v : Version) (ballot end first count : ℕ) (bytes : List ℕ) → HasVotes v ballot end first count bytes 0 first [] bytes
no_votes_read v ballot end first count bytes =
    let counted : count ≡ count - 0 = omega arith in
    record { read = prefixed_nil (votes_at v ballot end first count bytes) ∙ ap (λ (k : ℕ). prefixed [] (votes_at v ballot end first k bytes)) counted }

vote_step : (v : Version) (ballot end next : ℕ) (front : List PlacedVote) (left : ℕ) (rest : List ℕ) (placed : PlacedVote) (after : List ℕ)
    → reported_at v ballot end next rest ≡ Ok (placed, after)
    → prefixed front (votes_at v ballot end next (suc left) rest) ≡ prefixed (front ++ placed ∷ []) (votes_at v ballot end (suc placed.position) left after)
unfolding votes_at
vote_step v ballot end next front left rest placed after e = rw e (joined front placed (votes_at v ballot end (suc placed.position) left after))

pub one_more_vote : (v : Version) (ballot end first count : ℕ) (bytes : List ℕ) (done next : ℕ) (front : List PlacedVote) (rest : List ℕ) (placed : PlacedVote) (after : List ℕ) (later : ℕ)
    → HasVotes v ballot end first count bytes done next front rest → done < count → reported_at v ballot end next rest ≡ Ok (placed, after) → later ≡ suc placed.position
    → HasVotes v ballot end first count bytes (done + 1) later (front ++ placed ∷ []) after
one_more_vote v ballot end first count bytes done next front rest placed after later h more e follows =
    let left : ℕ = count - (done + 1) in
    let counted : count - done ≡ suc left = omega arith in
    record {
      read = h.read ∙ ap (λ (k : ℕ). prefixed front (votes_at v ballot end next k rest)) counted ∙ vote_step v ballot end next front left rest placed after e
          ∙ ap (λ (n : ℕ). prefixed (front ++ placed ∷ []) (votes_at v ballot end n left after)) (sym follows);
    }

fault_step : (v : Version) (ballot end next : ℕ) (front : List PlacedVote) (left : ℕ) (rest : List ℕ) (reason : PacketReason)
    → reported_at v ballot end next rest ≡ Err reason → prefixed front (votes_at v ballot end next (suc left) rest) ≡ Err reason
unfolding votes_at
fault_step v ballot end next front left rest reason e = rw e refl

pub fault_vote : (v : Version) (ballot end first count : ℕ) (bytes : List ℕ) (done next : ℕ) (front : List PlacedVote) (rest : List ℕ) (reason : PacketReason)
    → HasVotes v ballot end first count bytes done next front rest → done < count → reported_at v ballot end next rest ≡ Err reason → votes_at v ballot end first count bytes ≡ Err reason
fault_vote v ballot end first count bytes done next front rest reason h more e =
    let left : ℕ = count - (done + 1) in
    let counted : count - done ≡ suc left = omega arith in
    h.read ∙ ap (λ (k : ℕ). prefixed front (votes_at v ballot end next k rest)) counted ∙ fault_step v ballot end next front left rest reason e

last_step : (v : Version) (ballot end next : ℕ) (front : List PlacedVote) (rest : List ℕ) → prefixed front (votes_at v ballot end next 0 rest) ≡ Ok (front, rest)
unfolding votes_at
last_step v ballot end next front rest = ap (λ (l : List PlacedVote). Ok (l, rest)) (append-nil front)

pub all_votes_read : (v : Version) (ballot end first count : ℕ) (bytes : List ℕ) (done next : ℕ) (front : List PlacedVote) (rest : List ℕ)
    → HasVotes v ballot end first count bytes done next front rest → count ≤ done → votes_at v ballot end first count bytes ≡ Ok (front, rest)
all_votes_read v ballot end first count bytes done next front rest h whole =
    let counted : count - done ≡ 0 = omega arith in
    h.read ∙ ap (λ (k : ℕ). prefixed front (votes_at v ballot end next k rest)) counted ∙ last_step v ballot end next front rest

wrong : {A : Type 0} (read : Read A) (reason : PacketReason) → read ≡ Err reason → IsOk read → ⊥
wrong (Ok x) reason e ok = absurd cc
wrong (Err other) reason e ok = absurd cc

pub begun : (v : Version) (ballot end first count : ℕ) (bytes : List ℕ) (next : ℕ) → next ≡ first → HasVotes v ballot end first count bytes 0 next [] bytes
begun v ballot end first count bytes next same = subst (λ (n : ℕ). HasVotes v ballot end first count bytes 0 n [] bytes) (sym same) (no_votes_read v ballot end first count bytes)

-- what is after the count, where the whole is read
through : {A B : Type 0} (b : Bool) (x : A) (f : A → Result B PacketReason) (y : B) → (ruled b x >>= f) ≡ Ok y → f x ≡ Ok y
through true x f y e = e
through {A} {B} false x f y e = absurd cc

pub counted_votes : (v : Version) (range : Range) (ballot : ℕ) (bytes text : List ℕ) (count : ℕ) (votes : List PlacedVote) (after : List ℕ)
    → byte_at bytes ≡ Ok (count, text) → reported_votes_at v range ballot bytes ≡ Ok (votes, after) → votes_at v ballot (end_of range) range.first count text ≡ Ok (votes, after)
unfolding reported_votes_at
counted_votes v range ballot bytes text count votes after e whole =
    through (leb count range.count) (count, text) (λ n. votes_at v ballot (end_of range) range.first n.0 n.1) (votes, after)
    (ap (λ (r : Read ℕ). r >>= λ n. ruled (leb n.0 range.count) n >>= λ count. votes_at v ballot (end_of range) range.first count.0 count.1) (sym e) ∙ whole)

-- a fault of the count or of a vote is one of the whole
fails : {A B : Type 0} (b : Bool) (x : A) (f : A → Read B) (reason : PacketReason) → f x ≡ Err reason → IsOk (ruled b x >>= f) → ⊥
fails {A} {B} true x f reason e ok = wrong (f x) reason e ok
fails {A} {B} false x f reason e ok = absurd cc

pub no_count : (v : Version) (range : Range) (ballot : ℕ) (bytes : List ℕ) (reason : PacketReason) → byte_at bytes ≡ Err reason → reported_votes_at v range ballot bytes ≡ Err reason
unfolding reported_votes_at
no_count v range ballot bytes reason e = rw e refl

pub no_votes_fault : (v : Version) (range : Range) (ballot end : ℕ) (bytes text : List ℕ) (count : ℕ) (reason : PacketReason)
    → byte_at bytes ≡ Ok (count, text) → end ≡ end_of range → votes_at v ballot end range.first count text ≡ Err reason → IsOk (reported_votes_at v range ballot bytes) → ⊥
unfolding reported_votes_at
no_votes_fault v range ballot end bytes text count reason e same fault ok =
    fails (leb count range.count) (count, text) (λ n. votes_at v ballot (end_of range) range.first n.0 n.1) reason
    (ap (λ (k : ℕ). votes_at v ballot k range.first count text) (sym same) ∙ fault)
    (subst (λ (r : Read ℕ). IsOk (r >>= λ n. ruled (leb n.0 range.count) n >>= λ count. votes_at v ballot (end_of range) range.first count.0 count.1)) e ok)

-- a promise for a range, field by field
pub promise_range_found : (v : Version) (bytes text stated after : List ℕ) (range : Range) (ballot : ℕ) (votes : List PlacedVote)
    → range_place_at bytes ≡ Ok ((range, ballot), text) → stated ≡ text → reported_votes_at v range ballot text ≡ Ok (votes, after)
    → (reported_votes_at v range ballot stated ≡ Ok (votes, after)) × (promise_range_at v bytes ≡ Ok (PromiseRange range ballot votes, after))
unfolding promise_range_at
promise_range_found v bytes text stated after range ballot votes e1 same e2 =
    (ap (reported_votes_at v range ballot) same ∙ e2, rw (e1, e2) refl)
