-- A device that is opened again, against the part that it keeps.
use Rattle.std.proofs.Common.{◌≡◌, ℕ, Option, Some, None, List, length, sym, ap, ◌∙◌}
use Rattle.rp_base.specs.declared.config.Config.{Config}
use Rattle.rp_base.specs.declared.record.Rec.{Rec}
use Rattle.rp_store.specs.Disk.{Disk}
use Rattle.rp_store.proofs.Whole.{same_reading}
use Rattle.rp_model.specs.Parts.{NodePart}
use Rattle.rp_model.specs.Parts.{Running}
use Rattle.rp_model.specs.Effect.{Done, goes_on_as, restart_part, restart_while}
use Rattle.rp_model.specs.Parts.{fresh_running, records_in_log}
use Rattle.rp_replica.specs.State.{ReplicaState, part_of}
use Rattle.rp_replica.specs.Kept.{HoldsPart, HoldsOnly}
use Rattle.rp_replica.specs.Opening.{Opens}

pub opened_part : {S : Type 0} (me : ℕ) (config : Config) (begin : S) (disk : Disk) (replica : ReplicaState S) (count cut_bytes : ℕ) (part : NodePart) → HoldsPart config.max_positions disk part
    → part.running ≡ None → Opens me config begin disk replica count cut_bytes → restart_part part ≡ record (goes_on_as (part_of replica)) { opened = Some (length replica.records, cut_bytes) }
opened_part me config begin disk replica count cut_bytes part h stopped o =
    let found = o.opened.found in
    let same = same_reading disk.contents h.torn found.0 h.all o.all h.found found.1 in
    let running : replica.running ≡ fresh_running = ap (λ (k : ReplicaState _). k.running) o.starts in
    let records : part.records ≡ replica.records = h.records ∙ ap (records_in_log config.max_positions) same.0 ∙ sym (ap (λ (k : ReplicaState _). k.records) o.starts) in
    let torn : part.torn ≡ cut_bytes = h.bytes ∙ ap (λ (t : List ℕ). length t) same.1 ∙ sym found.2 in
    let counted : length part.records ≡ length replica.records = ap (λ (rs : List Rec). length rs) records in
    let again : (o : Option (ℕ × ℕ)) (rs : List Rec) (known : Running) → Done NodePart = λ o rs known.
    record (goes_on_as (record { records = rs; torn = 0; running = Some known })) { opened = o } in
    ap (restart_while part) stopped ∙ (λ i. again (Some (counted i, torn i)) (records i) (sym running i))

-- it returns how many records the part has, where the device holds no others
pub opened_count : {S : Type 0} (me : ℕ) (config : Config) (begin : S) (disk : Disk) (replica : ReplicaState S) (count cut_bytes : ℕ) (part : NodePart) → HoldsOnly disk part
    → Opens me config begin disk replica count cut_bytes → count ≡ length part.records
opened_count me config begin disk replica count cut_bytes part h o =
    o.counted ∙ ap (λ (rs : List Rec). length rs) (sym (same_reading disk.contents h.torn o.opened.found.0 part.records o.all h.found o.opened.found.1).0)
