-- A look that tells the truth about what is shown leads to the same stores: steps 1 to 5.
use Rattle.std.specs.Prelude.{◌≡◌, Bool, ◌&&◌, ◌||◌, ltb, eqb}
use Rattle.std.proofs.Math.Path.{refl, ap, fun_ext}
use Rattle.std.proofs.Common.{sym, ap₂, ◌∙◌}
use Rattle.std.proofs.Math.Bool.{false, not}
use Prim.Native.Nat.{ℕ, zero, suc, ◌+◌, ◌<◌}
use native.Mathlib.Omega.{arith}
use mathlib.Core.List.{List, [], ◌∷◌, map}
use Rattle.tables.specs.declared.Geometry.{Geometry}
use Rattle.tables.specs.meaning.Basics.{pick}
use Rattle.tables.specs.meaning.Below.{each_below, any_below}
use Rattle.tables.specs.laws.Below.{any_below_cong}
use Rattle.tables.specs.meaning.Lists.{any_of}
use Rattle.tables.specs.meaning.Device.{Device, ZoneView}
use Rattle.tables.specs.meaning.Drives.{no_drive}
use Rattle.tables.specs.meaning.LittleEndian.{same_bytes}
use Rattle.tables.specs.meaning.Tables.{tables_of, device_of}
use Rattle.tables.specs.laws.Tables.{In, inside, outside, in_or_out, device_outside}
use Rattle.logs.specs.meaning.Entry.{general_zone, Header, Entry, label, seal, counters}
use Rattle.logs.specs.meaning.Walk.{walk_log}
use Rattle.logs.specs.meaning.Heads.{is_seal_at, last_lost, last_counters}
use Rattle.volume.specs.declared.Look.{Look}
use Rattle.volume.specs.meaning.State.{is_empty, is_sealed}
use Rattle.volume.specs.meaning.Rules.{Shown, ZoneShown, general_heads}
use Rattle.volume.specs.meaning.Calls.{append_general, generations_from}
use Rattle.volume.specs.meaning.Mount.{label_step, reset_entry_step, zone_reset_step, counter_step, seal_step, next_generation, counters_differ}
use Rattle.volume.specs.laws.EachBelow.{each_below_cong}
use Rattle.mounting.specs.MountLook.{shown_by, LookShows}
use Rattle.mounting.specs.MountTables.{seen_sectors}
use Rattle.volume.specs.looking.Knowing.{read_device}
use Rattle.volume.specs.checks.Records.{zone_look}

generations_cong : (f h : ℕ → ℕ) (i n : ℕ) → ((k : ℕ) → i + k < i + n → f (i + k) ≡ h (i + k)) → generations_from f i n ≡ generations_from h i n
generations_cong f h i zero e = refl
generations_cong f h i (suc n) e =
    let z : i + 0 ≡ i = omega arith in
    ap₂ (λ (x : ℕ) (l : List ℕ). x ∷ l) (rw z at (e 0 (omega arith))) (generations_cong f h (suc i) n (λ k l. let q : suc i + k ≡ i + suc k = omega arith in rw q (e (suc k) (omega arith))))

module _ (g : Geometry) (k : Look) (s : Shown) (t : LookShows g k s) where
  -- field by field, of a zone of the volume
  generation_told : (z : ℕ) → z < g.zones → (zone_look k z).generation ≡ (s.zone z).generation
  generation_told z h = ap (λ (x : ZoneShown). x.generation) (t.zone_is_lem z h)

  condition_told : (z : ℕ) → z < g.zones → (zone_look k z).condition ≡ (s.zone z).condition
  condition_told z h = ap (λ (x : ZoneShown). x.condition) (t.zone_is_lem z h)

  pointer_told : (z : ℕ) → z < g.zones → (zone_look k z).pointer ≡ (s.zone z).pointer
  pointer_told z h = ap (λ (x : ZoneShown). x.pointer) (t.zone_is_lem z h)

  reset_told : (z : ℕ) → z < g.zones → (zone_look k z).by_reset ≡ (s.zone z).by_reset
  reset_told z h = ap (λ (x : ZoneShown). x.by_reset) (t.zone_is_lem z h)

  clean_told : (z : ℕ) → z < g.zones → (zone_look k z).clean ≡ (s.zone z).clean
  clean_told z h = ap (λ (x : ZoneShown). x.clean) (t.zone_is_lem z h)

  pub labels_told : (x : ℕ) (w : Device) → label_step g x (shown_by k) w ≡ label_step g x s w
  unfolding label_step
  labels_told x w = rw t.array_is refl

  pub reset_entries_told : reset_entry_step g (shown_by k) ≡ reset_entry_step g s
  unfolding reset_entry_step
  reset_entries_told = each_below_cong _ _ g.drives (λ d hd. each_below_cong _ _ g.zones (λ z hz. rw (reset_told z hz, generation_told z hz) refl))

  pub zone_resets_told : zone_reset_step g (shown_by k) ≡ zone_reset_step g s
  unfolding zone_reset_step
  zone_resets_told = each_below_cong _ _ g.drives (λ d hd. each_below_cong _ _ g.zones (λ z hz. rw (condition_told z hz, reset_told z hz, clean_told z hz, pointer_told z hz) refl))

  next_told : (z : ℕ) → z < g.zones → next_generation (shown_by k) z ≡ next_generation s z
  next_told z h = rw (condition_told z h, generation_told z h) refl

  pub counters_told : (differ : Bool) → counter_step g (shown_by k) differ ≡ counter_step g s differ
  unfolding counter_step
  counters_told differ =
      rw (any_below_cong (λ z. is_empty (zone_look k z).condition) (λ z. is_empty (s.zone z).condition) g.zones (λ z h. ap is_empty (condition_told z h)))
      (ap (λ (cs : List ℕ). pick (any_below (λ z. is_empty (s.zone z).condition) g.zones || differ) (each_below (λ d. append_general g (counters cs) d) g.drives) [])
      (generations_cong (next_generation (shown_by k)) (next_generation s) zero g.zones (λ z h. let q : zero + z ≡ z = omega arith in rw q (next_told z (omega arith)))))

  pub seals_told : (w : Device) → seal_step g (shown_by k) w ≡ seal_step g s w
  unfolding seal_step
  seals_told w = each_below_cong _ _ g.drives (λ d hd. each_below_cong _ _ g.zones (λ z hz. rw (condition_told z hz, generation_told z hz, pointer_told z hz) refl))

-- ---- the steps read sectors alone: what is durable plays no part
module _ (g : Geometry) (v w : Device) (same : (d z : ℕ) → (v d z).sectors ≡ (w d z).sectors) where
  pub heads_same : general_heads g v ≡ general_heads g w
  unfolding general_heads
  heads_same = fun_ext λ d. ap (λ (ss : List (List ℕ)). map (λ (e : Entry). e.head) (walk_log g d false ss).entries) (same d general_zone)

  pub labels_same : (x : ℕ) (s : Shown) → label_step g x s v ≡ label_step g x s w
  unfolding label_step
  labels_same x s = ap (λ (hs : ℕ → List Header). each_below (λ d. pick (ltb x g.drives && not (eqb (last_lost no_drive (hs d)) x)) (append_general g (label x s.array) d) []) g.drives) heads_same

  pub differ_same : (a : ℕ → Bool) → counters_differ g a v ≡ counters_differ g a w
  unfolding counters_differ
  differ_same a = ap (λ (hs : ℕ → List Header). any_below (λ d. a d && any_below (λ e. a e && not (same_bytes (last_counters [] (hs d)) (last_counters [] (hs e)))) g.drives) g.drives) heads_same

  pub seals_same : (s : Shown) → seal_step g s v ≡ seal_step g s w
  unfolding seal_step
  seals_same s = ap (λ (hs : ℕ → List Header). each_below (λ d. each_below (λ z. pick (is_sealed (s.zone z).condition && not (any_of (is_seal_at z (s.zone z).generation (s.zone z).pointer) (hs d))) (append_general g (seal z (s.zone z).pointer (s.zone z).generation) d) []) g.zones) g.drives) heads_same

pub seen_same : (g : Geometry) (xs ps ds : List ℕ) (d z : ℕ) → (read_device g xs ps d z).sectors ≡ (device_of g (tables_of xs ps ds) d z).sectors
seen_same g xs ps ds d z = go (in_or_out g d z)
  where
    go : In g d z → (read_device g xs ps d z).sectors ≡ (device_of g (tables_of xs ps ds) d z).sectors
    go (inside p q i) = seen_sectors g (tables_of xs ps []) d z p q ∙ sym (seen_sectors g (tables_of xs ps ds) d z p q)
    go (outside i) = ap (λ (x : ZoneView). x.sectors) (device_outside g (tables_of xs ps []) d z i ∙ sym (device_outside g (tables_of xs ps ds) d z i))
