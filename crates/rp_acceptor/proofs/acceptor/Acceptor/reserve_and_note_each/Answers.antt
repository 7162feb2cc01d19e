use Rattle.std.proofs.Common.{◌≡◌, ◌+◌, ◌<◌, ℕ, List, [], ◌∷◌, ◌++◌, length, length-append, drop, refl, sym, ap, ◌∙◌, arith}
use Rattle.std.specs.Prelude.{flat_map}
use Rattle.std.proofs.lemmas.List.{append_assoc, drop_more}
use Rattle.rp_base.specs.declared.record.Rec.{Rec}
use Rattle.rp_acceptor.specs.Noted.{Noted, places_in, restored_from}
use Rattle.rp_acceptor.proofs.Pages.{on_err}
use Rattle.rp_acceptor.proofs.acceptor.Acceptor.reserve_and_note_each.Goals as goal

-- the places of a record are among those of all
some_place : (before own rest all : List ℕ) → before ++ (own ++ rest) ≡ all → ¬ (own ≡ []) → ¬ (all ≡ [])
some_place before [] rest all is some none = some refl
some_place before (place ∷ more) rest all is some none =
    let long = ap length (is ∙ none) in
    omega (arith, long, length-append before (place ∷ (more ++ rest)))

pub returns-in_err-reserve_and_note-clause-full : goal.returns-in_err-reserve_and_note-clause-full
returns-in_err-reserve_and_note-clause-full c =
    let records : List Rec = c.args.records.now in
    let index : ℕ = c.loop-rec.rec-index in
    let rec : Rec = c.rec-item.result in
    let rest : List Rec = drop (index + 1) records in
    let within : index < length records = omega (arith, c.loop-rec-test.true) in
    let next : drop index records ≡ rec ∷ rest = drop_more records index rec within ∙ ap (λ (r : Rec). r ∷ rest) (sym c.rec-item.is) in
    let places = c.loop-rec.invariant.1 in
    on_err c.from_residual.result
    (some_place places.0 (places_in rec) (flat_map places_in rest) (flat_map places_in records)
    (ap (λ (l : List Rec). places.0 ++ flat_map places_in l) (sym next) ∙ places.1) c.in_err-reserve_and_note.ensures.full)

pub loop-rec-preserved : goal.loop-rec-preserved
loop-rec-preserved c =
    let records : List Rec = c.args.records.now in
    let index : ℕ = c.loop-rec.rec-index in
    let rec : Rec = c.rec-item.result in
    let rest : List Rec = drop (index + 1) records in
    let within : index < length records = omega (arith, c.loop-rec-test.true) in
    let next : drop index records ≡ rec ∷ rest = drop_more records index rec within ∙ ap (λ (r : Rec). r ∷ rest) (sym c.rec-item.is) in
    let places = c.loop-rec.invariant.1 in (
      ap (λ (a : Noted). restored_from a rest) c.in_ok-reserve_and_note.ensures.ok ∙ ap (restored_from c.loop-rec.self) (sym next) ∙ c.loop-rec.invariant.0,
      (places.0 ++ places_in rec, append_assoc places.0 (places_in rec) (flat_map places_in rest) ∙ ap (λ (l : List Rec). places.0 ++ flat_map places_in l) (sym next) ∙ places.1),
    )
