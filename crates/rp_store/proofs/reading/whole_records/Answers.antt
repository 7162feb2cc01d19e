use Rattle.std.proofs.Common.{◌≡◌, ℕ, List, [], ◌∷◌, ◌++◌, refl, sym, ap, subst, ◌∙◌, append_assoc, arith}
use Rattle.std.specs.List.{AllByRecursion}
use Rattle.rp_codec.specs.rp_base.specs.declared.record.Rec.{Rec}
use Rattle.rp_codec.specs.Record.{record_text_at, IsRecord, IsRecordTextBefore}
use Rattle.rp_store.specs.Records.{AreTextsOf}
use Rattle.rp_store.proofs.Whole.{all_end, texts_end, are_records, record_found, record_taken}
use Rattle.rp_store.proofs.reading.whole_records.Goals as goal

pub loop-rec-init : goal.loop-rec-init
loop-rec-init c =
    subst (λ (rs : List Rec). (texts : List ℕ) × AreTextsOf rs texts × (c.args.bytes.now ≡ texts ++ c.args.bytes.now) × AllByRecursion IsRecord rs) (sym c.new-records.ensures.items)
    ([], refl, refl, tt)

pub split_at-requires : goal.split_at-requires
split_at-requires c = (record_taken c.loop-rec.rest.now c.in-Some.rec c.in-Some.used (c.in-Some.ensures.valid.0 refl) c.in-Some.ensures.value).1

pub loop-rec-smaller : goal.loop-rec-smaller
loop-rec-smaller c =
    let taken = record_taken c.loop-rec.rest.now c.in-Some.rec c.in-Some.used (c.in-Some.ensures.valid.0 refl) c.in-Some.ensures.value in
    omega (arith, taken.0, taken.1, c.split_at.ensures.back_len)

pub loop-rec-preserved : goal.loop-rec-preserved
loop-rec-preserved c =
    let rest = c.loop-rec.rest.now in
    let after = c.split_at.result.1.now in
    let records = c.loop-rec.records.items in
    let (texts, are, whole, each) = c.loop-rec.invariant in
    let r : Rec = c.in-Some.rec in
    let (is, text) = record_found rest r c.in-Some.used (c.in-Some.ensures.valid.0 refl) c.in-Some.ensures.value in
    let (version, has, parts) = subst (λ (l : List ℕ). IsRecordTextBefore r l rest) (sym c.split_at.ensures.back) text in
    let items : c.push.new.self.items ≡ records ++ r ∷ [] = c.in_ok-push.ensures.items in (
      texts ++ record_text_at version r,
      subst (λ (rs : List Rec). AreTextsOf rs (texts ++ record_text_at version r)) (sym items) (texts_end records r version texts has are),
      whole ∙ ap (λ (l : List ℕ). texts ++ l) parts ∙ sym (append_assoc texts (record_text_at version r) after),
      subst (AllByRecursion IsRecord) (sym items) (all_end records r each is),
    )

pub returns : goal.returns
returns c =
    let (texts, are, whole, each) = c.loop-rec.invariant in
    record {
      records = (
        c.loop-rec.rest.now,
        are_records _ c.loop-rec.records.items texts c.loop-rec.rest.now are whole each
            (λ begins. let some = c.in_default.ensures.valid.1 begins in absurd cc),
        refl,
      );
    }
