-- By the words of the lines.
use Rattle.std.proofs.Common.{ℕ, ◌≡◌, ◌<◌, ◌^◌, List, [], ◌∷◌, Bool, true, false, ◌&&◌, refl, arith}
use Rattle.std.specs.Prelude.{codes, nat_lt}
use Rattle.std.proofs.lemmas.Bool.Decides.{nat_tests}
use Rattle.rp_printed_texts.specs.Reading.{HasNoSpace}
use Rattle.rp_printed_texts.proofs.LinesRead.{refused, limit}
use Rattle.rp_printed_texts.proofs.laws.lines_of_steps_are_read_back.Goals as goal

-- no byte of a name is a space
abbrev is_solid : List ℕ → Bool
is_solid [] = true
is_solid (byte ∷ rest) = nat_lt 32 byte && is_solid rest

parts : (a b : Bool) → (a && b) ≡ true → (a ≡ true) × (b ≡ true)
parts true b is = (refl, is)
parts false b is = absurd (cc)

above_is : (byte : ℕ) → nat_lt 32 byte ≡ true → 32 < byte
above_is byte is = grind (arith, nat_tests, is)

solid : (name : List ℕ) → is_solid name ≡ true → HasNoSpace name
solid [] is = tt
solid (byte ∷ rest) is =
    let first = parts (nat_lt 32 byte) (is_solid rest) is in
    let above : 32 < byte = above_is byte first.0 in
    ((λ same. omega (arith, above, same)), solid rest first.1)

few : (n : ℕ) → n < 11 → n < 2 ^ 64
few n low = omega (arith, low)

pub returns : goal.returns
returns c = record {
  not_running = λ line small. refused line 5 (codes "NotRunning") small (few 5 (omega arith)) (solid (codes "NotRunning") refl);
  ballots_spent = λ line small. refused line 6 (codes "BallotsSpent") small (few 6 (omega arith)) (solid (codes "BallotsSpent") refl);
  log_full = λ line small. refused line 7 (codes "LogFull") small (few 7 (omega arith)) (solid (codes "LogFull") refl);
  no_message = λ line small. refused line 8 (codes "NoSuchMessage") small (few 8 (omega arith)) (solid (codes "NoSuchMessage") refl);
  task_busy = λ line small. refused line 9 (codes "TaskBusy") small (few 9 (omega arith)) (solid (codes "TaskBusy") refl);
  numbers_spent = λ line small. refused line 10 (codes "NumbersSpent") small (few 10 (omega arith)) (solid (codes "NumbersSpent") refl);
  limit = limit;
  agreed = refl;
}
