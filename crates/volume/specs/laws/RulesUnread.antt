-- The rules do not read where a geometry places the logs: under the same numbers, whatever the logs' places, the same is shown of a device. One law
-- `..-alike` for each rule; of rules that others are handed as functions, as an equation of functions.
use Rattle.std.specs.Prelude.{◌≡◌, Bool, List, [], ◌∷◌, ◌++◌}
use Rattle.std.proofs.Math.Path.{refl, ap, fun_ext}
use Rattle.std.proofs.Common.{ap₂}
use Rattle.std.proofs.Math.Bool.{true, false}
use Prim.Native.Nat.{ℕ, zero, suc}
use Rattle.tables.specs.declared.Geometry.{Geometry}
use Rattle.tables.specs.meaning.Basics.{pick}
use Rattle.tables.specs.meaning.Device.{Device}
use Rattle.tables.specs.meaning.Geometry.{zone_sectors}
use Rattle.logs.specs.meaning.Entry.{general_zone, parity_zone, Header, label, counters, zone_reset, partial_parity, seal, closing, Entry}
use Rattle.logs.specs.meaning.Heads.{least_seal, ends_past, ends_at}
use Rattle.logs.specs.meaning.Walk.{Walked, Ending, at_pointer, no_entry, torn}
use Rattle.volume.specs.meaning.Rules.{general_heads, general_ending, parity_entries, parity_ending, is_lost, is_present, lost_drive, generation_of, reset_seen, ParityEntry, seal_limit_below, seal_limit, serving_entry, serving_entries, zone_view, value_at, pointer_at, seal_seen, ending_past, clean_at, zone_at, zone_shown, showing}
use Rattle.volume.specs.meaning.Roles.{zone_claim, strength, roles_in, roles, drive_by_roles, by_roles}
use Rattle.volume.specs.laws.LogPlaces.{with_logs}
use Rattle.volume.specs.laws.LogsUnread.{walk_log_alike}

module _ (g : Geometry) (n : ℕ) where
  -- ---- logs
  pub heads_alike : (v : Device) (d : ℕ) → general_heads (with_logs g n) v d ≡ general_heads g v d
  unfolding general_heads
  heads_alike v d = simp (walk_log_alike g n)

  pub general_ending_alike : (v : Device) (d : ℕ) → general_ending (with_logs g n) v d ≡ general_ending g v d
  unfolding general_ending
  general_ending_alike v d = ap (λ (w : Walked). w.last) (walk_log_alike g n d false (v d general_zone).sectors)

  pub entries_alike : (v : Device) (d : ℕ) → parity_entries (with_logs g n) v d ≡ parity_entries g v d
  unfolding parity_entries
  entries_alike v d = ap (λ (w : Walked). w.entries) (walk_log_alike g n d true (v d parity_zone).sectors)

  pub parity_ending_alike : (v : Device) (d : ℕ) → parity_ending (with_logs g n) v d ≡ parity_ending g v d
  unfolding parity_ending
  parity_ending_alike v d = ap (λ (w : Walked). w.last) (walk_log_alike g n d true (v d parity_zone).sectors)

  -- ---- rule 1
  pub lost_at_lem : (named : ℕ → Bool) (v : Device) (d : ℕ) → is_lost (with_logs g n) named v d ≡ is_lost g named v d
  unfolding is_lost
  lost_at_lem named v d = simp heads_alike

  pub is_lost_alike : (named : ℕ → Bool) (v : Device) → is_lost (with_logs g n) named v ≡ is_lost g named v
  is_lost_alike named v = fun_ext λ d. lost_at_lem named v d

  pub is_present_alike : (named : ℕ → Bool) (v : Device) → is_present (with_logs g n) named v ≡ is_present g named v
  unfolding is_present
  is_present_alike named v = fun_ext λ d. simp lost_at_lem

  pub lost_drive_alike : (named : ℕ → Bool) (v : Device) → lost_drive (with_logs g n) named v ≡ lost_drive g named v
  lost_drive_alike named v = simp is_lost_alike

  -- ---- rules 2 and 3
  pub generation_alike : (present : ℕ → Bool) (v : Device) (z : ℕ) → generation_of (with_logs g n) present v z ≡ generation_of g present v z
  unfolding generation_of
  generation_alike present v z = simp heads_alike

  pub reset_seen_alike : (present : ℕ → Bool) (v : Device) (z m : ℕ) → reset_seen (with_logs g n) present v z m ≡ reset_seen g present v z m
  unfolding reset_seen
  reset_seen_alike present v z m = simp heads_alike

  -- ---- rule 4
  pub seal_below_alike : (present : ℕ → Bool) (v : Device) (z m d : ℕ) → seal_limit_below (with_logs g n) present v z m d ≡ seal_limit_below g present v z m d
  unfolding zone_sectors
  seal_below_alike present v z m zero = refl
  seal_below_alike present v z m (suc d) =
      rw (heads_alike v d) (ap (λ (q : ℕ). pick (present d) (least_seal z m q (general_heads g v d)) q) (seal_below_alike present v z m d))

  pub seal_limit_alike : (present : ℕ → Bool) (v : Device) (z m : ℕ) → seal_limit (with_logs g n) present v z m ≡ seal_limit g present v z m
  unfolding seal_limit
  seal_limit_alike present v z m = seal_below_alike present v z m g.drives

  serving_one_alike : (z m limit : ℕ) (h : Header) (rs : List (List ℕ)) → serving_entry (with_logs g n) z m limit h rs ≡ serving_entry g z m limit h rs
  serving_one_alike z m limit (label x a) rs = refl
  serving_one_alike z m limit (counters cs) rs = refl
  serving_one_alike z m limit (zone_reset y k) rs = refl
  serving_one_alike z m limit (partial_parity y s f k) rs = refl
  serving_one_alike z m limit (seal y p k) rs = refl
  serving_one_alike z m limit (closing kind gen) rs = refl

  pub serving_alike : (z m limit : ℕ) (es : List Entry) → serving_entries (with_logs g n) z m limit es ≡ serving_entries g z m limit es
  serving_alike z m limit [] = refl
  serving_alike z m limit (e ∷ es) = ap₂ (λ (a b : List ParityEntry). a ++ b) (serving_one_alike z m limit e.head e.rows) (serving_alike z m limit es)

  pub zone_view_alike : (present : ℕ → Bool) (v : Device) (z m : ℕ) → zone_view (with_logs g n) present v z m ≡ zone_view g present v z m
  unfolding zone_view
  zone_view_alike present v z m = simp (entries_alike, seal_limit_alike, serving_alike)

  pub value_at_lem : (present : ℕ → Bool) (v : Device) (z m a : ℕ) → value_at (with_logs g n) present v z m a ≡ value_at g present v z m a
  unfolding value_at
  value_at_lem present v z m a = simp zone_view_alike

  pub value_alike : (present : ℕ → Bool) (v : Device) (z m : ℕ) → value_at (with_logs g n) present v z m ≡ value_at g present v z m
  value_alike present v z m = fun_ext λ a. value_at_lem present v z m a

  -- ---- rules 5 and 6
  pub pointer_alike : (present : ℕ → Bool) (v : Device) (z m : ℕ) → pointer_at (with_logs g n) present v z m ≡ pointer_at g present v z m
  unfolding pointer_at zone_sectors
  pointer_alike present v z m = simp (reset_seen_alike, zone_view_alike, seal_limit_alike)

  pub seal_seen_alike : (present : ℕ → Bool) (v : Device) (z m : ℕ) → seal_seen (with_logs g n) present v z m ≡ seal_seen g present v z m
  unfolding seal_seen
  seal_seen_alike present v z m = simp heads_alike

  pub ends_past_alike : (z m q : ℕ) (h : Header) → ends_past (with_logs g n) z m q h ≡ ends_past g z m q h
  ends_past_alike z m q (label x a) = refl
  ends_past_alike z m q (counters cs) = refl
  ends_past_alike z m q (zone_reset y k) = refl
  ends_past_alike z m q (partial_parity y s f k) = refl
  ends_past_alike z m q (seal y p k) = refl
  ends_past_alike z m q (closing kind gen) = refl

  pub ends_at_alike : (z m q : ℕ) (h : Header) → ends_at (with_logs g n) z m q h ≡ ends_at g z m q h
  ends_at_alike z m q (label x a) = refl
  ends_at_alike z m q (counters cs) = refl
  ends_at_alike z m q (zone_reset y k) = refl
  ends_at_alike z m q (partial_parity y s f k) = refl
  ends_at_alike z m q (seal y p k) = refl
  ends_at_alike z m q (closing kind gen) = refl

  ending_past_alike : (z m q : ℕ) (l : Ending) → ending_past (with_logs g n) z m q l ≡ ending_past g z m q l
  ending_past_alike z m q at_pointer = refl
  ending_past_alike z m q (no_entry f) = refl
  ending_past_alike z m q (torn h rs) = ends_past_alike z m q h

  pub clean_alike : (present : ℕ → Bool) (v : Device) (z m q : ℕ) → clean_at (with_logs g n) present v z m q ≡ clean_at g present v z m q
  unfolding clean_at
  clean_alike present v z m q = simp (entries_alike, parity_ending_alike, ends_past_alike, ending_past_alike)

  -- ---- what is shown
  pub zone_at_alike : (present : ℕ → Bool) (v : Device) (z m : ℕ) → zone_at (with_logs g n) present v z m ≡ zone_at g present v z m
  unfolding zone_at
  zone_at_alike present v z m = simp (pointer_alike, clean_alike, seal_seen_alike, value_alike, reset_seen_alike)

  pub zone_shown_alike : (present : ℕ → Bool) (v : Device) → zone_shown (with_logs g n) present v ≡ zone_shown g present v
  unfolding zone_shown
  zone_shown_alike present v = fun_ext λ z. simp (generation_alike, zone_at_alike)

  pub showing_alike : (present : ℕ → Bool) (x : ℕ) (v : Device) → showing (with_logs g n) present x v ≡ showing g present x v
  unfolding showing
  showing_alike present x v = simp (heads_alike, zone_shown_alike)

  -- ---- roles
  claim_alike : (d : ℕ) (par : Bool) (ss : List (List ℕ)) → zone_claim (with_logs g n) d par ss ≡ zone_claim g d par ss
  unfolding zone_claim
  claim_alike d par ss = simp (walk_log_alike g n)

  strength_alike : (d : ℕ) (par : Bool) (y : ℕ) (ss : List (List ℕ)) → strength (with_logs g n) d par y ss ≡ strength g d par y ss
  unfolding strength
  strength_alike d par y ss = simp claim_alike

  pub roles_in_alike : (d : ℕ) (zs : ℕ → List (List ℕ)) → roles_in (with_logs g n) d zs ≡ roles_in g d zs
  unfolding roles_in
  roles_in_alike d zs = simp strength_alike

  pub roles_alike : (v : Device) → roles (with_logs g n) v ≡ roles g v
  roles_alike v = fun_ext λ d. roles_in_alike d (λ y. (v d y).sectors)

  pub by_roles_alike : (v : Device) → by_roles (with_logs g n) v ≡ by_roles g v
  unfolding drive_by_roles
  by_roles_alike v = fun_ext λ d. simp roles_in_alike
