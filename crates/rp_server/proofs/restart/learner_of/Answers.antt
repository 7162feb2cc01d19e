use Rattle.std.proofs.Common.{◌≡◌, ◌+◌, List, [], ◌∷◌, ◌++◌, take, sym, ap, subst, ◌∙◌}
use Rattle.std.proofs.lemmas.List.{take_more}
use Rattle.rp_base.specs.declared.record.Rec.{Rec}
use Rattle.rp_base.specs.declared.record.Rec.TheVariants.{Learned}
use Rattle.rp_learner.specs.Learning.{Learning}
use Rattle.rp_server.specs.Invariant.{IsLearner}
use Rattle.rp_server.proofs.Settling.{learns_more, learns_none, learned_none}
use Rattle.rp_server.proofs.restart.learner_of.Goals as goal
use Rattle.rp_server.proofs.restart.learner_of.Goals.{in-Learned, in_default}

pub loop-rec-preserved : goal.loop-rec-preserved
loop-rec-preserved c =
    let records = c.args.records.now in
    let k = c.loop-rec.rec-index in
    let rec = c.rec-item.result in
    let longer : take (k + 1) records ≡ take k records ++ rec ∷ [] =
    take_more records k rec c.loop-rec-test.true ∙ ap (λ (r : Rec). take k records ++ r ∷ []) (sym c.rec-item.is) in
    elim c.match-rec.branch [
      | in-Learned w ↦
          let i = w.in-Learned.position in
          let v = w.in-Learned.field-1 in
          let more : IsLearner c.args.config (take k records ++ Learned i v ∷ []) 0 w.settled.new.self [] =
          learns_more c.args.config (take k records) 0 c.loop-rec.learner w.settled.new.self [] i v c.loop-rec.invariant w.settled.ensures.settled in
          subst (λ (l : Learning). IsLearner c.args.config (take (k + 1) records) 0 l []) (sym w.learner-is)
          (subst (λ (rs : List Rec). IsLearner c.args.config rs 0 w.settled.new.self []) (sym (longer ∙ ap (λ (r : Rec). take k records ++ r ∷ []) w.in-Learned.is)) more)
      | in_default w ↦
          subst (λ (l : Learning). IsLearner c.args.config (take (k + 1) records) 0 l []) (sym w.learner-is)
          (subst (λ (rs : List Rec). IsLearner c.args.config rs 0 c.loop-rec.learner []) (sym longer)
          (learns_none c.args.config (take k records) rec 0 c.loop-rec.learner [] (learned_none rec w.in_default.not-Learned) c.loop-rec.invariant))
    ]
