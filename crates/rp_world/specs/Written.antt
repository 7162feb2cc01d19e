-- What a packet says is in its sender's records: what `Cluster::agrees` says of each packet.
use Rattle.std.specs.Prelude.{◌≡◌, ℕ, Option, Some}
use Rattle.rp_base.specs.Sets.{Has}
use Rattle.rp_base.specs.declared.record.Rec.{Rec}
use Rattle.rp_base.specs.declared.record.Vote.{Vote}
use Rattle.rp_codec.specs.declared.packet.Body.{Body}
use Rattle.rp_codec.specs.declared.packet.Body.TheVariants.{Prepare, Accept, PrepareRange}
use Rattle.rp_model.specs.World.{World, part_at}
use Rattle.rp_model.specs.Parts.{NodePart}
use Rattle.rp_agreement.specs.Justified.{HasPromiseRecord, Reports}

-- the node of this number has written the record
abbrev pub HasWritten : World → ℕ → Rec → Type 0
HasWritten w x rec = (part : NodePart) × (part_at w.nodes x ≡ Some part) × Has rec part.records

-- the node of this number has written a promise of the ballot for the position, alone or for a
-- range
abbrev pub HasWrittenPromise : World → ℕ → ℕ → ℕ → Type 0
HasWrittenPromise w x i b =
    (part : NodePart) × (part_at w.nodes x ≡ Some part) × HasPromiseRecord part.records i b

-- the records of the node of this number say so of its last vote at a position, below a ballot
abbrev pub HasReported : World → ℕ → ℕ → ℕ → Option Vote → Type 0
HasReported w x i b last =
    (part : NodePart) × (part_at w.nodes x ≡ Some part) × Reports part.records i b last

-- the packet asks in this ballot: for promises, at a position or a range, or for votes
abbrev pub AsksIn : ℕ → Body → Type 0
AsksIn b (Prepare position ballot) = ballot ≡ b
AsksIn b (PrepareRange range ballot) = ballot ≡ b
AsksIn b (Accept position ballot action) = ballot ≡ b
AsksIn b _ = ⊥
