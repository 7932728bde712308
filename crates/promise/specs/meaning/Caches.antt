-- A volume on drives that cache resets (document 02, 2.4), made of any volume: beside its memory stands what the drives' caches remember, of each drive and zone
-- the views that it had just before each reset since the drive's last flush. Its calls, looks, reads, peeks and reports are those of the volume; after a call
-- the caches remember what its stores make them. A cut chooses of each place its view or a remembered one; then nothing is remembered.
use Rattle.std.specs.Prelude.{◌≡◌, ◌≢◌, Bool, ℕ, List, [], take}
use Rattle.tables.specs.meaning.Device.{ZoneView, Device, Store}
use Rattle.tables.specs.meaning.Cached.{Caching, apply_all_caching, CachingCut}
use Rattle.tables.specs.declared.Geometry.{Geometry}
use Rattle.volume.specs.meaning.State.{StateView}
use Rattle.volume.specs.meaning.Refusals.{Verdict, refuse, accept, TableLengths, first_refusal}
use Rattle.volume.specs.meaning.Answers.{CallResult, StoringCall}
use Rattle.promise.specs.meaning.Claim.{Call, Volume, System, KeepsPromise}
use Rattle.promise.specs.meaning.OnDevice.{call_of, on_device}

abbrev pub Remembered : Type 0
Remembered = ℕ → ℕ → List ZoneView

pub record WithCaches (M : Type 0) : Type 0 where
  pub memory : M
  pub was : Remembered

-- the stores that a call has made: none if it is refused
abbrev pub made_by : Verdict → List Store → ℕ → List Store
made_by (refuse n) xs stop = []
made_by accept xs stop = take stop xs

abbrev pub made_stores : StoringCall → ℕ → List Store
made_stores c stop = made_by (first_refusal c.refusals) c.stores stop

-- what is remembered after stores on a device
abbrev pub remembered_after : List Store → Device → Remembered → Remembered
remembered_after xs v was = (apply_all_caching xs (record { now = v; was = was })).was

-- what has to be known of a volume: the device that its memory stands for, the stores that a call makes there, and what a cut leaves of its memory
pub record Caches (vol : Volume) : Type 1 where
  pub device : vol.Memory → Device
  pub made : Call → vol.Names → vol.State → ℕ → vol.Memory → List Store  -- with a count of stores
  pub CutTo : ℕ → vol.Memory → Remembered → vol.Memory → Type 0  -- while a drive is lost

module _ (vol : Volume) (k : Caches vol) where
  abbrev pub caching_call : Call → vol.Names → vol.State → ℕ → WithCaches vol.Memory → CallResult (WithCaches vol.Memory) vol.State
  caching_call c named state stop m = let r = vol.call c named state stop m.memory in
      record { answer = r.answer; memory = record { memory = r.memory; was = remembered_after (k.made c named state stop m.memory) (k.device m.memory) m.was }; state = r.state }

  abbrev pub caching_look : vol.Names → vol.State → WithCaches vol.Memory → CallResult (WithCaches vol.Memory) vol.State
  caching_look named state m = let r = vol.look named state m.memory in record { answer = r.answer; memory = record { memory = r.memory; was = m.was }; state = r.state }

  -- a cut: nothing is remembered then
  pub record CachesCut (x : ℕ) (m n : WithCaches vol.Memory) : Type 0 where
    pub left : k.CutTo x m.memory m.was n.memory
    pub forgotten : (d z : ℕ) → d ≢ x → n.was d z ≡ []

  -- the loss of a drive: the others' caches stay as they are
  pub record CachesLoss (x : ℕ) (m n : WithCaches vol.Memory) : Type 0 where
    pub left : vol.LossTo x m.memory n.memory
    pub same : (d z : ℕ) → d ≢ x → n.was d z ≡ m.was d z

  abbrev pub with_caches : Volume
  with_caches = record {
    Memory = WithCaches vol.Memory;
    State = vol.State;
    Names = vol.Names;
    is_named = vol.is_named;
    call = caching_call;
    look = caching_look;
    read = λ named state a count out m. vol.read named state a count out m.memory;
    peek = λ named state a m. vol.peek named state a m.memory;
    Listing = vol.Listing;
    report = vol.report;
    shows = λ named m n. vol.shows named m.memory n.memory;
    state_of = λ named m n. vol.state_of named m.memory n.memory;
    finished_report = vol.finished_report;
    view = vol.view;
    seen = λ m. vol.seen m.memory;
    CutTo = CachesCut;
    LossTo = CachesLoss;
  }

  -- a system without its caches
  abbrev pub beneath : System with_caches → System vol
  beneath s = record { memory = s.memory.memory; lost = s.lost; mode = s.mode; state = s.state; ledger = s.ledger }

-- ---- the volume as the rules see it
abbrev pub device_caches : (g : Geometry) (t : TableLengths) → Caches (on_device g t)
device_caches g t = record {
  device = λ v. v;
  made = λ c named state stop v. made_stores (call_of g t c named state v) stop;
  CutTo = λ x v was w. CachingCut x (record { now = v; was = was }) w;
}

abbrev pub on_caching_device : Geometry → TableLengths → Volume
on_caching_device g t = with_caches (on_device g t) (device_caches g t)

-- the claim of the rules, on drives that cache resets
abbrev pub CachingDeviceClaim : Type 0
CachingDeviceClaim = (g : Geometry) (t : TableLengths) → KeepsPromise g (on_caching_device g t)
