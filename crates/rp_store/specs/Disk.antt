-- What a device holds, and what its calls do to it. A device only appends: what it was given is
-- there in order, and only a cut takes bytes away, from the end.
use Rattle.std.specs.Prelude.{◌≡◌, ℕ, suc, ◌+◌, ◌<◌, ◌≤◌, min, nat_lt, if◌then◌else◌, List, []}
use Rattle.std.specs.Prelude.{◌++◌, length, take}

-- Its bytes, how many of them a stop leaves for sure, how many calls failed so far, and how many
-- of each kind succeeded. The counts have no greatest value.
pub record Disk : Type 0 where
  pub contents : List ℕ
  pub stable : ℕ
  pub failures : ℕ
  pub appends : ℕ
  pub syncs : ℕ
  pub reads : ℕ
  pub cuts : ℕ

-- a device that was never used
abbrev pub empty_disk : Disk
empty_disk = record {
  contents = [];
  stable = 0;
  failures = 0;
  appends = 0;
  syncs = 0;
  reads = 0;
  cuts = 0;
}

-- What memory holds as a device. None of its calls fails, so it counts no failures.
pub record Memory : Type 0 where
  pub contents : List ℕ
  pub stable : ℕ
  pub appends : ℕ
  pub syncs : ℕ
  pub reads : ℕ
  pub cuts : ℕ

-- memory, seen as a device
abbrev pub disk_of : Memory → Disk
disk_of m = record {
  contents = m.contents;
  stable = m.stable;
  failures = 0;
  appends = m.appends;
  syncs = m.syncs;
  reads = m.reads;
  cuts = m.cuts;
}

-- after an append: the bytes are at the end, and none of them is stable
abbrev pub appended : List ℕ → Disk → Disk
appended bytes d = record d { contents = d.contents ++ bytes; appends = suc d.appends }

-- after a sync: all is stable
abbrev pub synced : Disk → Disk
synced d = record d { stable = length d.contents; syncs = suc d.syncs }

-- after a read
abbrev pub read_once : Disk → Disk
read_once d = record d { reads = suc d.reads }

-- after a cut: n bytes from the front are left
abbrev pub cut_to : ℕ → Disk → Disk
cut_to len d =
    record d { contents = take len d.contents; stable = min d.stable len; cuts = suc d.cuts }

-- after a stop: what was stable, and n of the bytes after it, or all if there are no more
abbrev pub stopped : ℕ → Disk → Disk
stopped kept d = record d { contents = take (d.stable + kept) d.contents }

-- after a read that failed: as before, but for the failure
pub record ReadFailed (old new : Disk) : Type 0 where
  pub cause : old.failures < new.failures
  pub contents : new.contents ≡ old.contents
  pub stable : new.stable ≡ old.stable
  pub appends : new.appends ≡ old.appends
  pub cuts : new.cuts ≡ old.cuts

-- after an append, or the sync after one, that failed: the old contents and some beginning of the
-- bytes; no sync succeeded, and nothing was read or cut
pub record AppendFailed (bytes : List ℕ) (old new : Disk) : Type 0 where
  pub cause : old.failures < new.failures
  pub contents : (kept : ℕ) × (new.contents ≡ old.contents ++ take kept bytes)
  pub stable : old.stable ≤ new.stable
  pub syncs : new.syncs ≡ old.syncs
  pub reads : new.reads ≡ old.reads
  pub cuts : new.cuts ≡ old.cuts

-- after a sync that failed: the same contents, and no fewer of them stable
pub record SyncFailed (old new : Disk) : Type 0 where
  pub cause : old.failures < new.failures
  pub contents : new.contents ≡ old.contents
  pub stable : old.stable ≤ new.stable
  pub appends : new.appends ≡ old.appends
  pub syncs : new.syncs ≡ old.syncs
  pub reads : new.reads ≡ old.reads
  pub cuts : new.cuts ≡ old.cuts

-- after a cut that failed: some front that is no shorter than what was to be left
pub record CutFailed (len : ℕ) (old new : Disk) : Type 0 where
  pub cause : old.failures < new.failures
  pub contents : (kept : ℕ) × (len ≤ kept) × (new.contents ≡ take kept old.contents)
  pub stable : min old.stable len ≤ new.stable
  pub appends : new.appends ≡ old.appends

-- nothing changed but the count of reads
pub record IsReadAtMost (old new : Disk) : Type 0 where
  pub contents : new.contents ≡ old.contents
  pub stable : new.stable ≡ old.stable
  pub failures : new.failures ≡ old.failures
  pub appends : new.appends ≡ old.appends
  pub syncs : new.syncs ≡ old.syncs
  pub cuts : new.cuts ≡ old.cuts

-- Some front is left that is no shorter than this, what of it was stable still is, and nothing was
-- appended.
pub record KeepsFront (len : ℕ) (old new : Disk) : Type 0 where
  pub contents : (kept : ℕ) × (len ≤ kept) × (new.contents ≡ take kept old.contents)
  pub stable : min old.stable len ≤ new.stable
  pub appends : new.appends ≡ old.appends

-- What was after the front is off, by one cut if there was something and by none else.
pub record IsTrimmed (len torn : ℕ) (old new : Disk) : Type 0 where
  pub contents : new.contents ≡ take len old.contents
  pub stable : min old.stable len ≤ new.stable
  pub failures : new.failures ≡ old.failures
  pub appends : new.appends ≡ old.appends
  pub syncs : new.syncs ≡ old.syncs
  pub reads : new.reads ≡ old.reads
  pub cuts : new.cuts ≡ (if nat_lt 0 torn then suc old.cuts else old.cuts)
