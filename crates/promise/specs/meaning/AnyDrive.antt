-- "Any drive may go after a mount" (document 02, 2.8), said of any volume: at any point of a history where no drive is lost a mount finishes, and then nothing is
-- stored: looks, reads, peeks, reports, calls that are refused or stopped before their first store, and power cuts. Then the look that names all drives, or all but
-- any one, is not refused, and tells and shows of every zone what the mount handed on and showed: generation, condition, pointer, and the sectors below it.
use Rattle.std.specs.Prelude.{◌≡◌, ◌⊎◌, ℕ, zero, ◌^◌, ◌<◌, List, [], ◌∷◌, ◌++◌}
use Rattle.tables.specs.declared.Geometry.{Geometry}
use Rattle.tables.specs.meaning.Drives.{no_drive}
use Rattle.volume.specs.declared.Answer.{Answer}
use Rattle.volume.specs.declared.Answer.TheVariants.{Finished, Unfinished, Refused, BadLog}
use Rattle.volume.specs.meaning.Rules.{Shown}
use Rattle.promise.specs.meaning.Claim.{mounts, formats, Volume, System, Event, calls, looks, reads, peeks, reports, cuts, loses, next, Dutiful, SameZones, start}
use Rattle.promise.specs.meaning.Histories.{ShowsAlike, after_all}
use Rattle.promise.specs.meaning.Emptied.{NamesBut}

-- a call with a count of stores, answered so, has stored nothing: it was refused, or stopped before its first store
abbrev pub NoneStored : Answer → ℕ → Type 0
NoneStored Finished stop = ⊥
NoneStored Unfinished stop = stop ≡ zero
NoneStored (Refused n) stop = Unit {0}
NoneStored (BadLog b) stop = Unit {0}

module _ (g : Geometry) (vol : Volume) where
  -- ---- events that store nothing. (After a call that was stopped only a cut may come, and after a cut looks and mounts: Dutiful.)
  abbrev pub StoresNothing : System vol → Event vol → Type 0
  StoresNothing s (calls c named stop) = NoneStored (vol.call c named s.state stop s.memory).answer stop
  StoresNothing s (looks named) = Unit {0}
  StoresNothing s (reads named a count out) = Unit {0}
  StoresNothing s (peeks named a) = Unit {0}
  StoresNothing s (reports list) = Unit {0}
  StoresNothing s (cuts m) = Unit {0}
  StoresNothing s (loses d m) = ⊥

  abbrev pub AllStoreNothing : System vol → List (Event vol) → Type 0
  AllStoreNothing s [] = Unit {0}
  AllStoreNothing s (e ∷ es) = StoresNothing s e × AllStoreNothing (next g vol s e) es

  -- ---- the look that names some, at s: it is accepted, tells of the zones what a state says (handed), and shows what was shown (k)
  pub record LooksAs (k : Shown) (handed : vol.State) (s : System vol) (some : vol.Names) : Type 0 where
    pub accepted : vol.look some s.state s.memory ≡ record { answer = Finished; memory = s.memory; state = vol.state_of some s.memory s.memory }
    pub zones : SameZones g (vol.view (vol.look some s.state s.memory).state) (vol.view handed)
    pub shown : ShowsAlike g k (vol.shows some s.memory s.memory)

  -- ANY ONE DRIVE MAY BE LEFT OUT, or none
  abbrev pub AnyDriveMayGo : Shown → vol.State → System vol → Type 0
  AnyDriveMayGo k handed s = (x : ℕ) → (x ≡ no_drive) ⊎ (x < g.drives) → (some : vol.Names) → NamesBut g vol x some → LooksAs k handed s some

  -- THE STATEMENT: of any history, as in the claim, with a finished mount in it where no drive is lost, and what follows that
  abbrev pub AnyDriveFrom : System vol → Type 0
  AnyDriveFrom s0 = (before after : List (Event vol)) (by : vol.Names) (count : ℕ) → Dutiful g vol s0 (before ++ (calls mounts by count ∷ after))
      → let s = after_all g vol s0 before in let t = next g vol s (calls mounts by count) in
      s.lost ≡ no_drive → (vol.call mounts by s.state count s.memory).answer ≡ Finished → AllStoreNothing t after
      → AnyDriveMayGo (vol.shows by s.memory t.memory) t.state (after_all g vol t after)

  abbrev pub AnyDriveClaim : Type 0
  AnyDriveClaim = (named : vol.Names) (array : ℕ) (old : vol.State) (stop : ℕ) (m : vol.Memory) → array < 256 ^ 8
      → let r = vol.call (formats array) named old stop m in r.answer ≡ Finished → AnyDriveFrom (start g vol named r)
