-- A device whose bytes are on two devices.
use Rattle.std.specs.Prelude.{◌≡◌, Bool, true, false, Option, Some, None}
use Rattle.rp_store.specs.Disk.{Disk}

-- two devices hold the same, and a stop leaves the same of both for sure
pub record HoldTheSame (main spare : Disk) : Type 0 where
  pub contents : spare.contents ≡ main.contents
  pub stable : spare.stable ≡ main.stable

-- Which copies are left after a call, the main one first: those of which it succeeded. The main one
-- stays if it succeeded of none.
abbrev pub copies_left : {D : Type 0} → D → Option D → Bool → Bool → D × Option D
copies_left main spare true true = (main, spare)
copies_left main spare true false = (main, None)
copies_left main spare false false = (main, None)
copies_left main None false true = (main, None)
copies_left main (Some spare) false true = (spare, None)

-- whether the call succeeded of a copy
abbrev pub is_left : {D : Type 0} → Option D → Bool → Bool → Bool
is_left spare true followed = true
is_left spare false false = false
is_left None false true = false
is_left (Some spare) false true = true
