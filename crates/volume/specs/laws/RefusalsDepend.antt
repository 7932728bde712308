-- The refusals depend on the sectors of the present drives, and on nothing else of the device: the conditions of rows 4 to 19, of two devices that agree there.
use Rattle.std.specs.Prelude.{◌≡◌, refl, ◌&&◌, ◌||◌, eqb}
use Rattle.std.proofs.Common.{sym, ◌∙◌, true≢false}
use Rattle.std.proofs.Math.Path.{ap, ap₂, fun_ext}
use Rattle.std.proofs.Math.Bool.{Bool, true, false, not}
use Prim.Native.Nat.{ℕ, ◌+◌, ◌-◌, ◌*◌}
use mathlib.Core.List.{List}
use Rattle.std.proofs.Math.ListN.{length}
use Rattle.std.proofs.Math.Dec.{ltb}
use Rattle.tables.specs.declared.Geometry.{Geometry}
use Rattle.tables.specs.meaning.Basics.{pick}
use Rattle.tables.specs.laws.Basics.{and_split}
use Rattle.tables.specs.meaning.Below.{any_below, count_below}
use Rattle.tables.specs.meaning.Drives.{find_below}
use Rattle.tables.specs.meaning.Lists.{any_of}
use Rattle.tables.specs.meaning.Geometry.{stripe_sectors, data_zone}
use Rattle.tables.specs.meaning.Placement.{needed, stripe_of, drive_of, sector_of}
use Rattle.tables.specs.meaning.Device.{Device}
use Rattle.logs.specs.meaning.Entry.{worn_generation, spare_zone, Header, kind_of_log}
use Rattle.logs.specs.meaning.Heads.{labelled, array_in}
use Rattle.volume.specs.meaning.State.{StateView, pointer_in}
use Rattle.volume.specs.meaning.Content.{inside_stripe, fill_of, parity_drive_at}
use Rattle.volume.specs.meaning.Rules.{general_heads, general_ending, parity_ending, is_lost, is_present, lost_drive, known, zone_view, showing}
use Rattle.volume.specs.meaning.Roles.{Roles, lacks_kind, claim_of_kind}
use Rattle.volume.specs.meaning.Emptying.{InForce, by_state, by_look, is_copied, is_at_pointer, new_general_size, new_parity_size, unused_in, lacks_room, stays_full, spare_written, reserve, mount_general_limit, reset_limit, entry_size, write_limit, emptied_for, gone_for_copies}
use Rattle.volume.specs.meaning.Refusals.{two_lost, is_no_entry, bad_labels, kind_lacks, bad_logs, stale_in, stale, stale_somewhere, mount_full, reset_full, write_full, compact_full, gone_in, gone_before, not_held}
use Rattle.volume.specs.laws.Depends.{SameOn, and_same, heads_same, parity_same, general_ending_same, ending_same, lost_depends, value_depends, known_depends, held_depends, zone_depends}

module _ (g : Geometry) (present : ℕ → Bool) (v w : Device) (same : SameOn present v w) where
  -- 4 (here `present` are the drives named), with rule 1
  pub lost_drives_depend : is_lost g present v ≡ is_lost g present w
  lost_drives_depend = fun_ext (lost_depends g present v w same)

  pub present_depends : is_present g present v ≡ is_present g present w
  unfolding is_present
  present_depends i d = ltb d g.drives && not (lost_drives_depend i d)

  pub lost_drive_depends : lost_drive g present v ≡ lost_drive g present w
  lost_drive_depends i = find_below (lost_drives_depend i) g.drives

  pub two_lost_depends : two_lost g present v ≡ two_lost g present w
  unfolding two_lost
  two_lost_depends i = ltb 1 (count_below (lost_drives_depend i) g.drives)

  -- 5
  pub labels_depend : bad_labels g present v ≡ bad_labels g present w
  unfolding bad_labels
  labels_depend i = any_below (λ d. and_same (present d) (bad v d) (bad w d) (λ p. bad_same d p) i) g.drives
    where
      other : List Header → Device → ℕ → Bool
      other hs x e = present e && not (eqb (array_in hs) (array_in (general_heads g x e)))

      bad : Device → ℕ → Bool
      bad x d = not (labelled (general_heads g x d)) || any_below (λ e. present e && not (eqb (array_in (general_heads g x d)) (array_in (general_heads g x e)))) g.drives

      bad_same : (d : ℕ) → present d ≡ true → bad v d ≡ bad w d
      bad_same d p i =
          not (labelled (heads_same g present v w same d p i))
          || any_below (λ e. and_same (present e) (not (eqb (array_in (general_heads g v d)) (array_in (general_heads g v e)))) (not (eqb (array_in (general_heads g w d)) (array_in (general_heads g w e))))
          (λ q. ap₂ (λ (a b : List Header). not (eqb (array_in a) (array_in b))) (heads_same g present v w same d p) (heads_same g present v w same e q)) i) g.drives

  -- 6
  pub logs_depend : bad_logs g present v ≡ bad_logs g present w
  unfolding bad_logs
  logs_depend i = any_below (λ d. and_same (present d) (is_no_entry (general_ending g v d) || is_no_entry (parity_ending g v d)) (is_no_entry (general_ending g w d) || is_no_entry (parity_ending g w d))
      (λ p j. is_no_entry (general_ending_same g present v w same d p j) || is_no_entry (ending_same g present v w same d p j)) i) g.drives

  -- 7
  pub stale_depends : (state : StateView) (z : ℕ) → stale g present v state z ≡ stale g present w state z
  unfolding stale
  stale_depends state z i = ltb z g.zones && any_below (λ d. and_same (present d) (stale_at v d) (stale_at w d) (λ p. ap (λ (ss : List (List ℕ)). stale_in (state.condition z) (length ss) (needed g.drives g.unit z (pointer_in (state.condition z)) d)) (same d p (data_zone z))) i) g.drives
    where
      stale_at : Device → ℕ → Bool
      stale_at x d = stale_in (state.condition z) (length (x d (data_zone z)).sectors) (needed g.drives g.unit z (pointer_in (state.condition z)) d)

  pub stale_somewhere_depends : (state : StateView) → stale_somewhere g present v state ≡ stale_somewhere g present w state
  unfolding stale_somewhere
  stale_somewhere_depends state i = any_below (λ z. stale_depends state z i) g.zones

  -- 15
  pub gone_depends : (z n offset count : ℕ) → gone_in g present v z n offset count ≡ gone_in g present w z n offset count
  unfolding gone_in
  gone_depends z n offset count i = any_below (λ k. not (known_depends g present v w same z n (offset + k) i)) count

  pub gone_before_depends : (z n pointer : ℕ) → gone_before g present v z n pointer ≡ gone_before g present w z n pointer
  unfolding gone_before
  gone_before_depends z n pointer = ap (λ (b : Bool). present (parity_drive_at g z pointer) && b) (gone_depends z n (stripe_of g.drives g.unit pointer * stripe_sectors g) (fill_of g pointer))

  pub not_held_depends : (z n offset : ℕ) → not_held g present v z n offset ≡ not_held g present w z n offset
  unfolding not_held
  not_held_depends z n offset = ap not (held_depends g present v w same z n (drive_of g.drives g.unit z offset) (sector_of g.drives g.unit offset))

  -- what the copies of logs go by
  pub by_state_depends : (state : StateView) → by_state g present v state ≡ by_state g present w state
  by_state_depends state i = record { generation = state.generation; pointer = λ z. pointer_in (state.condition z); value = λ z a. value_depends g present v w same z (state.generation z) a i }

  pub by_look_depends : (x : ℕ) → by_look (showing g present x v) ≡ by_look (showing g present x w)
  unfolding showing
  by_look_depends x i = record { generation = λ z. (zone_depends g present v w same z i).generation; pointer = λ z. (zone_depends g present v w same z i).pointer; value = λ z. (zone_depends g present v w same z i).value }

-- ---- 5, 14 and 15 by the drives' roles
and_both : (p q a b : Bool) → p ≡ q → (p ≡ true → a ≡ b) → p && a ≡ q && b
and_both true true a b e h = h refl
and_both true false a b e h = absurd (true≢false e)
and_both false true a b e h = absurd (true≢false (sym e))
and_both false false a b e h = refl

module _ (g : Geometry) (present : ℕ → Bool) (v w : Device) (same : SameOn present v w) (r s : ℕ → Roles) (alike : (d : ℕ) → present d ≡ true → r d ≡ s d) where
  pub kinds_depend : kind_lacks g present r ≡ kind_lacks g present s
  unfolding kind_lacks
  kinds_depend i = any_below (λ d. and_same (present d) (lacks_kind (r d)) (lacks_kind (s d)) (λ p. ap (λ (x : Roles). lacks_kind x) (alike d p)) i) g.drives

  -- what a log has unused, and which logs are emptied
  pub unused_depends : (par : Bool) (d : ℕ) → present d ≡ true → unused_in g par r v d ≡ unused_in g par s w d
  unfolding unused_in
  unused_depends par d p i = pick (eqb (claim_of_kind par (alike d p i)) 0) 0 (g.capacity - length (same d p (kind_of_log par) i))

  pub emptied_depends : (par : Bool) (limit d : ℕ) → emptied_for g present par r v limit d ≡ emptied_for g present par s w limit d
  unfolding emptied_for
  emptied_depends par limit d = and_same (present d) (lacks_room g par r v limit d) (lacks_room g par s w limit d) (λ p. ap (λ (n : ℕ). ltb n limit) (unused_depends par d p))

  -- a write's 14 (share: what is left of its host's)
  pub write_full_depends : (share z end : ℕ) → write_full g present r v share z end ≡ write_full g present s w share z end
  unfolding write_full
  write_full_depends share z end =
      let d = parity_drive_at g z end in
      and_same (inside_stripe g end && present d) (ltb share (entry_size g end) || lacks_room g true r v (write_limit g end) d) (ltb share (entry_size g end) || lacks_room g true s w (write_limit g end) d)
      (λ q. ap (λ (n : ℕ). ltb share (entry_size g end) || ltb n (write_limit g end)) (unused_depends true d (and_split (inside_stripe g end) (present d) q).1))

  pub emptied_present : (par : Bool) (limit d : ℕ) → emptied_for g present par r v limit d ≡ true → present d ≡ true
  unfolding emptied_for
  emptied_present par limit d e = (and_split (present d) (lacks_room g par r v limit d) e).0

  -- whether they would stay full (f and h: what the copies go by)
  stays_depends : (par : Bool) (limit m n d : ℕ) → m ≡ n → present d ≡ true → stays_full g par r limit m d ≡ stays_full g par s limit n d
  unfolding stays_full
  stays_depends par limit m n d e p i = ltb (g.capacity - e i) limit || (lacks_kind (alike d p i) || ltb worn_generation (claim_of_kind par (alike d p i)))

  spare_depends : (d : ℕ) → present d ≡ true → spare_written v d ≡ spare_written w d
  spare_depends d p = ap (λ (ss : List (List ℕ)). ltb 0 (length ss)) (same d p spare_zone)

  module _ (f h : InForce) (force : f ≡ h) where
    size_depends : (d : ℕ) → present d ≡ true → new_general_size g f (general_heads g v d) ≡ new_general_size g h (general_heads g w d)
    size_depends d p = ap₂ (new_general_size g) force (heads_same g present v w same d p)

    parity_size_depends : (d : ℕ) → new_parity_size g f d ≡ new_parity_size g h d
    parity_size_depends d = ap (λ (x : InForce). new_parity_size g x d) force

    pub mount_full_depends : mount_full g present r f v ≡ mount_full g present s h w
    unfolding mount_full
    mount_full_depends i = any_below (λ d. and_both (emptied_for g present false r v (mount_general_limit g) d) (emptied_for g present false s w (mount_general_limit g) d)
        (stays_full g false r (mount_general_limit g) (new_general_size g f (general_heads g v d)) d) (stays_full g false s (mount_general_limit g) (new_general_size g h (general_heads g w d)) d) (emptied_depends false (mount_general_limit g) d)
        (λ e. let p = emptied_present false (mount_general_limit g) d e in stays_depends false (mount_general_limit g) (new_general_size g f (general_heads g v d)) (new_general_size g h (general_heads g w d)) d (size_depends d p) p) i
        || and_both (emptied_for g present true r v (reserve g) d) (emptied_for g present true s w (reserve g) d) (stays_full g true r (reserve g) (new_parity_size g f d) d) (stays_full g true s (reserve g) (new_parity_size g h d) d) (emptied_depends true (reserve g) d)
        (λ e. stays_depends true (reserve g) (new_parity_size g f d) (new_parity_size g h d) d (parity_size_depends d) (emptied_present true (reserve g) d e)) i) g.drives

    pub reset_full_depends : reset_full g present r f v ≡ reset_full g present s h w
    unfolding reset_full
    reset_full_depends i = any_below (λ d. and_both (emptied_for g present false r v (reset_limit g) d) (emptied_for g present false s w (reset_limit g) d) (full r f v d) (full s h w d) (emptied_depends false (reset_limit g) d)
        (λ e. let p = emptied_present false (reset_limit g) d e in ap₂ (λ (a b : Bool). a || b) (stays_depends false (reset_limit g) (new_general_size g f (general_heads g v d)) (new_general_size g h (general_heads g w d)) d (size_depends d p) p) (spare_depends d p)) i) g.drives
      where
        full : (ℕ → Roles) → InForce → Device → ℕ → Bool
        full x k u d = stays_full g false x (reset_limit g) (new_general_size g k (general_heads g u d)) d || spare_written u d

    -- of a drive that is present
    pub compact_full_depends : (d : ℕ) → present d ≡ true → compact_full g r f v d ≡ compact_full g s h w d
    unfolding compact_full
    compact_full_depends d p = ap₂ (λ (a b : Bool). a || b) (stays_depends true (reserve g) (new_parity_size g f d) (new_parity_size g h d) d (parity_size_depends d) p) (spare_depends d p)

    pub gone_copies_depends : (d : ℕ) → present d ≡ true → gone_for_copies g present f v d ≡ gone_for_copies g present h w d
    unfolding gone_for_copies
    gone_copies_depends d p i = any_below (λ z. (is_copied g (force i) d z && not (any_of (is_at_pointer g (force i) z) (parity_same g present v w same d p i)))
        && any_below (λ k. not (unknown z k i)) (fill_of g ((force i).pointer z))) g.zones
      where
        at : InForce → ℕ → ℕ → ℕ
        at k z j = stripe_of g.drives g.unit (k.pointer z) * stripe_sectors g + j

        unknown : (z j : ℕ) → known g.drives g.unit z (zone_view g present v z (f.generation z)) (at f z j) ≡ known g.drives g.unit z (zone_view g present w z (h.generation z)) (at h z j)
        unknown z j = known_depends g present v w same z (f.generation z) (at f z j) ∙ ap (λ (k : InForce). known g.drives g.unit z (zone_view g present w z (k.generation z)) (at k z j)) force
