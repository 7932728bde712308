-- What a mount begins with: its look tells the truth about what is shown, its numbers are in range, and every sector below a zone's pointer is known.
use Rattle.std.specs.Prelude.{◌≡◌, refl, ◌≢◌, ◌⊎◌, Bool, true, false, ℕ, suc, ◌-◌, ◌^◌, ◌≤◌, ◌<◌, List, length}
use Rattle.std.proofs.Common.{sym, ◌∙◌, inl, inr, arith}
use Rattle.std.proofs.Math.Path.{ap}
use Rattle.std.proofs.Math.Bool.{not}
use Rattle.tables.specs.declared.Geometry.{Geometry}
use Rattle.tables.specs.meaning.Drives.{find_below, no_drive}
use Rattle.tables.specs.laws.Drives.{find_below_is}
use Rattle.tables.specs.meaning.Geometry.{Valid, cells, max_zones}
use Rattle.tables.specs.meaning.Tables.{tables_of}
use Rattle.logs.specs.meaning.Entry.{worn_generation}
use Rattle.volume.specs.declared.ZoneLook.{ZoneLook}
use Rattle.volume.specs.meaning.State.{is_empty}
use Rattle.volume.specs.meaning.Rules.{Shown, reset_seen, pointer_at, generation_of, clean_at, seal_seen, zone_at, zone_shown, showing}
use Rattle.volume.specs.meaning.CallContracts.{is_set, zone_look_of}
use Rattle.volume.specs.looking.Knowing.{read_device}
use Rattle.volume.specs.laws.FilledArrays.{fill_at}
use Rattle.volume.specs.looking.ZoneLooking.{pointer_reset}
use Rattle.volume.specs.looking.Looking.{looks_from, look_of, Lookable, lookable_zone}
use Rattle.volume.specs.laws.GenerationRange.{generation_range, empty_fresh, worn_top}
use Rattle.volume.specs.rows.KeptBelow.{Behind}
use Rattle.volume.specs.laws.LookPointers.{pointer_within, below_known}
use Rattle.volume.specs.checks.Records.{blank_look, zone_look}
use Rattle.mounting.specs.MountLook.{zone_with, LookShows, LookWithin, stays}
use Rattle.mounting.specs.MountRows.{values_of}
use Rattle.mounting.specs.MountValues.{shown_at, Restoring}

lost_small : (p : ℕ → Bool) (n : ℕ) → n ≤ 8 → find_below p n < 256
lost_small p n h = go (find_below_is p n)
  where
    go : ((find_below p n ≡ no_drive) × ((k : ℕ) → k < n → p k ≡ false)) ⊎ ((find_below p n < n) × (p (find_below p n) ≡ true)) → find_below p n < 256
    go (inl (e, q)) = rw e (omega arith)
    go (inr (l, q)) = omega arith

-- ---- what is shown, as the code's record
module _ (g : Geometry) (s : Shown) where
  pub look_of_zone : (z : ℕ) → z < g.zones → zone_look (look_of g s) z ≡ zone_look_of (s.zone z)
  unfolding looks_from
  look_of_zone z h = fill_at (λ y. zone_look_of (s.zone y)) blank_look blank_look g.zones (max_zones - g.zones) z h

  pub look_tells : LookShows g (look_of g s) s
  look_tells = record { lost_is = refl; array_is = refl; zone_is_lem = λ z h. ap (λ (l : ZoneLook). zone_with l (s.zone z).value) (look_of_zone z h) }

-- ---- the mount's look
module _ (g : Geometry) (ok : Valid g) (here : List Bool) (xs ws : List ℕ) where
  -- what the drives that are here show
  abbrev pub shown_here : Shown
  shown_here = showing g (is_set here) (find_below (λ (d : ℕ). not (is_set here d)) g.drives) (read_device g xs ws)

  zone_here : (z : ℕ) → z < g.zones → zone_look (look_of g shown_here) z ≡ zone_look_of (zone_shown g (is_set here) (read_device g xs ws) z)
  unfolding showing
  zone_here z h = look_of_zone g shown_here z h

  generation_here : (z : ℕ) → z < g.zones → (zone_look (look_of g shown_here) z).generation ≡ generation_of g (is_set here) (read_device g xs ws) z
  unfolding zone_shown zone_at
  generation_here z h = ap (λ (l : ZoneLook). l.generation) (zone_here z h)

  pointer_here : (z : ℕ) → z < g.zones → (zone_look (look_of g shown_here) z).pointer ≡ pointer_at g (is_set here) (read_device g xs ws) z (generation_of g (is_set here) (read_device g xs ws) z)
  unfolding zone_shown zone_at
  pointer_here z h = ap (λ (l : ZoneLook). l.pointer) (zone_here z h)

  reset_here_lem : (z : ℕ) → z < g.zones → (zone_look (look_of g shown_here) z).by_reset ≡ reset_seen g (is_set here) (read_device g xs ws) z (generation_of g (is_set here) (read_device g xs ws) z)
  unfolding zone_shown zone_at
  reset_here_lem z h = ap (λ (l : ZoneLook). l.by_reset) (zone_here z h)

  empty_here : (z : ℕ) → z < g.zones → is_empty (zone_look (look_of g shown_here) z).condition ≡ true → generation_of g (is_set here) (read_device g xs ws) z ≢ worn_generation
  unfolding zone_shown zone_at
  empty_here z h e =
      let v = read_device g xs ws in
      let n = generation_of g (is_set here) v z in
      let p = pointer_at g (is_set here) v z n in
      empty_fresh n p (clean_at g (is_set here) v z n p) (seal_seen g (is_set here) v z n) (sym (ap (λ (l : ZoneLook). is_empty l.condition) (zone_here z h)) ∙ e)

  -- with the values it is what is shown
  pub shown_at_lem : (z : ℕ) → z < g.zones → (shown_at g here (look_of g shown_here) xs ws).zone z ≡ shown_here.zone z
  unfolding showing zone_shown zone_at
  shown_at_lem z h = ap (λ (l : ZoneLook). zone_with l (values_of g here xs ws z l.generation)) (zone_here z h)

  pub look_within : LookWithin g (look_of g shown_here)
  look_within = record {
    lost_small = lost_of_lem;
    pointer_most = λ z h. rw (pointer_here z h) (pointer_within g (is_set here) (read_device g xs ws) z (generation_of g (is_set here) (read_device g xs ws) z));
    generation_small = small;
    raises = λ z h e. raised z h e;
    reset_empty = λ z h e. pointer_here z h ∙ sym (pointer_reset g (is_set here) (read_device g xs ws) z (generation_of g (is_set here) (read_device g xs ws) z) (sym (reset_here_lem z h) ∙ e));
  }
    where
      small : (z : ℕ) → z < g.zones → (zone_look (look_of g shown_here) z).generation < 2 ^ 64
      small z h = rw (generation_here z h) (generation_range g (is_set here) (read_device g xs ws) z h)

      lost_of_lem : (look_of g shown_here).lost < 256
      lost_of_lem = unfold showing in lost_small (λ (d : ℕ). not (is_set here d)) g.drives ok.drives_most

      raised : (z : ℕ) → z < g.zones → is_empty (zone_look (look_of g shown_here) z).condition ≡ true → suc (zone_look (look_of g shown_here) z).generation < 2 ^ 64
      raised z h e =
          let n : (zone_look (look_of g shown_here) z).generation ≢ 2 ^ 64 - 1 = λ q. empty_here z h e (sym (generation_here z h) ∙ q ∙ sym worn_top) in
          omega (arith, small z h, n)

  -- nothing is stored yet (us: the written pointers, behind which the look's are not)
  pub restoring_from : (us ds : List ℕ) → Lookable g here xs ws → length us ≡ cells g → length ds ≡ cells g → Behind g (stays (look_of g shown_here)) ws us → Restoring g here (look_of g shown_here) ws (tables_of xs us ds)
  restoring_from us ds r m l b = record {
    logging = record { sectors_long = r.sectors_long; written_long = m; pointers_long = r.written_long; within = look_within; behind = b };
    durable_long = l;
    known_below = λ z h. record {
      readable = lookable_zone g here xs ws z r h;
      limit_is = refl;
      end_most = rw (pointer_here z h) (pointer_within g (is_set here) (read_device g xs ws) z (generation_of g (is_set here) (read_device g xs ws) z));
      all_known = λ a k. rw (generation_here z h) (below_known g (is_set here) (read_device g xs ws) z (generation_of g (is_set here) (read_device g xs ws) z) a (rw (pointer_here z h) at k));
    };
  }
