-- The places where tasks wait for ever.
use Rattle.std.proofs.Common.{◌≡◌, ℕ, ◌+◌, ◌-◌, ◌<◌, ◌≤◌, Bool, ◌&&◌, List, length, get_or, set, Option, Some, None, is_none, if◌then◌else◌, inl, inr, sym, ◌∙◌, ap, arith, length-set, get_or-set_other, get_or-set_same}
use Rattle.std.proofs.lemmas.Bool.{cases_lt}

-- what is noted for a task
abbrev pub noted : (ℕ → Bool) → ℕ → List (Option ℕ) → ℕ → Option ℕ
noted waits place old task = if is_none (get_or old (task - 1) None) && waits task then Some place else get_or old (task - 1) None

-- the tasks up to a number are noted
pub record AreNoted (waits : ℕ → Bool) (place : ℕ) (old stuck : List (Option ℕ)) (upto : ℕ) : Type 0 where
  pub size : length stuck ≡ 8
  pub done : (task : ℕ) → 1 ≤ task → task ≤ upto → get_or stuck (task - 1) None ≡ noted waits place old task
  pub rest : (task : ℕ) → upto < task → get_or stuck (task - 1) None ≡ get_or old (task - 1) None

pub note_more : (waits : ℕ → Bool) (place : ℕ) (old stuck new : List (Option ℕ)) (upto task : ℕ) → AreNoted waits place old stuck upto → upto < 8 → task ≡ upto + 1
    → new ≡ set stuck (task - 1) (noted waits place stuck task) → AreNoted waits place old new (upto + 1)
note_more waits place old stuck new upto task before lt next is = record {
  size = ap length is ∙ length-set stuck (task - 1) (noted waits place stuck task) ∙ before.size;
  done = λ other low high. elim (cases_lt upto other) [
    | inl above ↦
        let same : other ≡ task = omega arith in
        let stays : get_or stuck (task - 1) None ≡ get_or old (task - 1) None = before.rest task (omega arith) in
        ap (λ (xs : List (Option ℕ)). get_or xs (other - 1) None) is
        ∙ ap (λ (t : ℕ). get_or (set stuck (task - 1) (noted waits place stuck task)) (t - 1) None) same
        ∙ get_or-set_same stuck (task - 1) (noted waits place stuck task) None (omega (arith, before.size))
        ∙ ap (λ (o : Option ℕ). if is_none o && waits task then Some place else o) stays
        ∙ ap (λ (t : ℕ). noted waits place old t) (sym same)
    | inr below ↦
        ap (λ (xs : List (Option ℕ)). get_or xs (other - 1) None) is
        ∙ get_or-set_other stuck (task - 1) (other - 1) (noted waits place stuck task) None (omega arith)
        ∙ before.done other low below
  ];
  rest = λ other above.
      ap (λ (xs : List (Option ℕ)). get_or xs (other - 1) None) is
      ∙ get_or-set_other stuck (task - 1) (other - 1) (noted waits place stuck task) None (omega arith)
      ∙ before.rest other (omega arith);
}
