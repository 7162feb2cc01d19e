use Rattle.std.proofs.Common.{◌≡◌, ◌+◌, List, [], ◌∷◌, ◌++◌, take, sym, ap, subst, ◌∙◌}
use Rattle.std.proofs.lemmas.List.{take_more}
use Rattle.rp_base.specs.declared.record.Rec.{Rec}
use Rattle.rp_base.specs.declared.record.Rec.TheVariants.{Learned}
use Rattle.rp_log.specs.Contents.{Contents, action_at, with_room, with_action}
use Rattle.rp_log.specs.Recorded.{LearnedAlike}
use Rattle.rp_log.proofs.RecordedRuns.{learned_with, reserved_alike}
use Rattle.rp_server.proofs.Settling.{alike_none, learned_none, taken_same, none_learned}
use Rattle.rp_server.proofs.restart.log_of.Goals as goal
use Rattle.rp_server.proofs.restart.log_of.Goals.{in-Learned+in_ok-reserve, in_default}

pub loop-rec-init : goal.loop-rec-init
loop-rec-init c = (λ i. ap (λ (l : Contents). action_at l i) c.new-log.ensures ∙ none_learned i, ap (λ (l : Contents). l.taken) c.new-log.ensures)

pub loop-rec-preserved : goal.loop-rec-preserved
loop-rec-preserved c =
    let records = c.args.records.now in
    let k = c.loop-rec.rec-index in
    let rec = c.rec-item.result in
    let longer : take (k + 1) records ≡ take k records ++ rec ∷ [] =
    take_more records k rec c.loop-rec-test.true ∙ ap (λ (r : Rec). take k records ++ r ∷ []) (sym c.rec-item.is) in
    elim c.match-rec.branch [
      | in-Learned+in_ok-reserve w ↦
          let i = w.in-Learned.position in
          let v = w.in-Learned.action in
          let grown : c.match-rec.log ≡ with_action (with_room c.loop-rec.log i) i v =
          w.log-is ∙ w.learn.ensures ∙ ap (λ (l : Contents). with_action l i v) w.in_ok-reserve.ensures.ok in
          let more : LearnedAlike (take k records ++ Learned i v ∷ []) (with_action (with_room c.loop-rec.log i) i v) =
          learned_with (take k records) (with_room c.loop-rec.log i) i v (reserved_alike (take k records) c.loop-rec.log i c.loop-rec.invariant.0) in (
            subst (λ (l : Contents). LearnedAlike (take (k + 1) records) l) (sym grown)
                (subst (λ (rs : List Rec). LearnedAlike rs (with_action (with_room c.loop-rec.log i) i v)) (sym (longer ∙ ap (λ (r : Rec). take k records ++ r ∷ []) w.in-Learned.is)) more),
            ap (λ (l : Contents). l.taken) grown ∙ taken_same c.loop-rec.log i ∙ c.loop-rec.invariant.1,
          )
      | in_default w ↦ (
        subst (λ (l : Contents). LearnedAlike (take (k + 1) records) l) (sym w.log-is)
            (subst (λ (rs : List Rec). LearnedAlike rs c.loop-rec.log) (sym longer)
            (alike_none (take k records) rec c.loop-rec.log (learned_none rec w.in_default.not-Learned) c.loop-rec.invariant.0)),
        ap (λ (l : Contents). l.taken) w.log-is ∙ c.loop-rec.invariant.1,
      )
    ]
