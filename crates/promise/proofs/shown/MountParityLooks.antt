-- What looks show while a mount of v empties parity logs, its step 10, of each emptied drive behind its first flush (Behind, EmptyingLooks): of a zone whose entry is made
-- there perhaps more, up to the pointer of the mount's look (k); of every other zone the same. (u: the device after its step 9, filled.)
use Rattle.std.specs.Prelude.{◌≡◌, Bool, ◌&&◌, not, ℕ, ◌<◌}
use Rattle.std.proofs.Common.{sym, ◌∙◌}
use Rattle.std.proofs.Math.Path.{ap, subst}
use Rattle.std.proofs.Math.Bool.{true}
use mathlib.Core.List.{List, [], ◌++◌, append_assoc}
use Rattle.tables.specs.meaning.Basics.{pick}
use Rattle.tables.specs.meaning.Lists.{is_nil, concat, any_of}
use Rattle.tables.specs.meaning.Device.{Device, Store}
use Rattle.tables.specs.meaning.Phases.{flush_all, on_present}
use Rattle.tables.specs.meaning.Through.{through}
use Rattle.tables.specs.meaning.Drives.{present_but}
use Rattle.tables.specs.declared.Geometry.{Geometry}
use Rattle.tables.specs.meaning.Geometry.{Valid}
use Rattle.logs.specs.meaning.Entry.{parity_zone, Entry}
use Rattle.volume.specs.meaning.Rules.{Shown, parity_entries, showing}
use Rattle.volume.specs.meaning.Roles.{roles, by_roles, placed_by}
use Rattle.volume.specs.meaning.Mount.{mount_look, emptied_parity, middle_roles, phases_before_entries, phases_of_parity_logs, phases_of_entries, after_fill, after_parity_logs, mount_stores}
use Rattle.volume.specs.meaning.Emptying.{by_look, is_copied, is_at_pointer, is_made, new_parity_size, empty_parity}
use Rattle.promise.specs.meaning.Ledger.{Ledger}
use Rattle.promise.specs.meaning.Emptied.{AlikeUpTo, parity_emptyings_of_mount, entry_made}
use Rattle.promise.proofs.invariant.Invariant.{LogGenerations}
use Rattle.promise.proofs.invariant.RoomAsked.{MountAccepted}
use Rattle.promise.proofs.roles.RoledCalls.{RoledInvs}
use Rattle.promise.proofs.emptying.CanEmpty.{CanEmptyLog}
use Rattle.promise.proofs.emptying.CallParts.{FilledAt, filled_roled}
use Rattle.promise.proofs.emptying.FlushedRests.{sectors_seen, flushed_all}
use Rattle.promise.proofs.emptying.OnPresent.{on_present_all}
use Rattle.promise.proofs.emptying.DriveStores.{emptyings_on}
use Rattle.promise.proofs.emptying.Emptyings.{SameSectors, at_flush}
use Rattle.promise.proofs.emptying.EmptyingStops.{LeftBy}
use Rattle.promise.proofs.emptying.ParityRests.{new_sectors}
use Rattle.promise.proofs.emptying.ParityEmptyings.{entries_same}
use Rattle.promise.proofs.emptying.ParityInMount.{EmptiedInMount, FilledSome, LeftEither, same_roles, can_now, same_new, mount_parity_either, either_kept, parity_logs_at_flush}
use Rattle.promise.proofs.emptying.ParityLooks.{either_looks}
use Rattle.promise.proofs.emptying.MountTail.{MountReady, filled_device, stepped, known, entries_through, emptyings_are}
use Rattle.promise.proofs.emptying.MountWhole.{reached, ready_there, fill_is}
use Rattle.promise.proofs.device.Marks.{with_marks}
use Rattle.promise.proofs.shown.EmptyingLooks.{SomeInv, alike_up_to, Behind, Within, kinds_apart}

-- whether an entry is made goes by the log's entries
made_by_lem : (g : Geometry) (k : Shown) (v w : Device) (d z : ℕ) → parity_entries g v d ≡ parity_entries g w d → is_made g (by_look k) v d z ≡ is_made g (by_look k) w d z
made_by_lem g k v w d z e = ap (λ (es : List Entry). is_copied g (by_look k) d z && not (any_of (is_at_pointer g (by_look k) z) es)) e

module _ (g : Geometry) (ok : Valid g) (x : ℕ) (c : LogGenerations) (v : Device) (l : Ledger) (ri : RoledInvs c g x v l)
    (ma1 : MountAccepted g (present_but g x) (roles g (flushed_all g x v)) (by_roles g (flushed_all g x v)) (by_look (showing g (present_but g x) x (by_roles g (flushed_all g x v))))) where
  abbrev v2 : Device
  v2 = reached g ok x c l v ri ma1

  ready : MountReady g x l v v2
  ready = ready_there g ok x c l v ri ma1

  abbrev k : Shown
  k = mount_look g (present_but g x) x v

  abbrev emptied : ℕ → Bool
  emptied = emptied_parity g (present_but g x) x v

  abbrev u : Device
  u = filled_device g ok x l v v2 ready

  abbrev view : Device
  view = through (placed_by (middle_roles g (present_but g x) x v)) u

  filled : FilledAt g x u ready.generations l k
  filled = (stepped g ok x l v v2 ready).filled

  knows : (d : ℕ) → d < g.drives → emptied d ≡ true → EmptiedInMount g x u k d
  knows = known g ok x l v v2 ready u (stepped g ok x l v v2 ready)

  -- ---- one drive (u1: the device at the end of its first flush)
  module _ (d : ℕ) (hd : d < g.drives) (b : emptied d ≡ true) where
    abbrev u1 : Device
    u1 = at_flush g x true (roles g u) emptied (new_sectors g (by_look k) u) u d

    there : FilledSome g x l k u1 × SameSectors u u1 d
    there = parity_logs_at_flush g ok x u ready.generations l k filled emptied knows d hd b

    kn : EmptiedInMount g x u k d
    kn = knows d hd b

    abbrev some : FilledSome g x l k u1
    some = there.0

    abbrev l1 : Ledger
    l1 = with_marks l there.0.marks

    made_is : (z : ℕ) → is_made g (by_look k) (by_roles g u1) d z ≡ is_made g (by_look k) view d z
    made_is z = made_by_lem g k (by_roles g u1) view d z (entries_same g (by_roles g u) (by_roles g u1) d (sectors_seen g u u1 d there.1 parity_zone) ∙ sym (entries_through g ok x l v v2 ready u (stepped g ok x l v v2 ready) d kn.here))

    module _ (w : Device) (h : LeftBy g x u1 w d (roles g u d).parity (roles g u d).spare (new_sectors g (by_look k) u d)) where
      can1 : CanEmptyLog g true u1 d (new_parity_size g (by_look k) d)
      can1 = can_now g ok x u ready.generations l k filled emptied knows d kn u1 some there.1

      either : LeftEither g ok x u1 some.generations l1 k some.at d kn.here can1 w
      either = mount_parity_either g ok x u1 some.generations l1 k some.at d kn.here can1 w
          (rw (same_new g ok x u ready.generations l k filled emptied knows d kn u1 some there.1, same_roles g ok x u ready.generations l k filled emptied knows d kn u1 some there.1) h)

      inv_u1 : SomeInv g x u1
      inv_u1 = (l1, some.generations, filled_roled g x u1 some.generations l1 k some.at)

      inv_w : SomeInv g x w
      inv_w = let q = either_kept g ok x u1 some.generations l1 k some.at d kn.here can1 w either in (with_marks l1 q.marks, q.generations, q.holds)

    parity_looks : Behind g x true (roles g u) emptied (new_sectors g (by_look k) u) u (AlikeUpTo g (is_made g (by_look k) view d) (λ z. (k.zone z).pointer)) d
    parity_looks = record {
      here = kn.here;
      apart = kinds_apart g x u ready.generations filled.standing true d kn.here;
      blank = there.1 (roles g u d).spare ∙ kn.can.blank;
      looks = λ w h y by. alike_up_to g ok x y by u1 w (is_made g (by_look k) view d) (λ z. (k.zone z).pointer) (inv_u1 w h) (inv_w w h)
          (λ z hz. rw (← made_is z) (either_looks g ok x u1 some.generations l1 k some.at d kn.here (can1 w h) w (either w h) y by z hz));
    }

  -- ---- with the device as the rules have it
  abbrev after9 : Device
  after9 = after_fill g (present_but g x) x v

  pub mount_parity_behind : (d : ℕ) → d < g.drives → emptied d ≡ true → Behind g x true (roles g after9) emptied (new_sectors g (by_look k) after9) after9 (AlikeUpTo g (entry_made g x v d) (λ z. (k.zone z).pointer)) d
  mount_parity_behind d hd b =
      subst (λ (w : Device). Behind g x true (roles g w) emptied (new_sectors g (by_look k) w) w (AlikeUpTo g (is_made g (by_look k) (through (placed_by (middle_roles g (present_but g x) x v)) w) d) (λ z. (k.zone z).pointer)) d) (sym (fill_is g ok x c l v ri ma1)) (parity_looks d hd b)

  of_some : (some : ℕ → Bool) → ((d : ℕ) → some d ≡ true → emptied d ≡ true)
      → on_present (present_but g x) (empty_parity g (present_but g x) (middle_roles g (present_but g x) x v) (by_look k) some view) ≡ empty_parity g (present_but g x) (roles g u) (by_look k) some (by_roles g u)
  unfolding empty_parity
  of_some some of =
      ap (on_present (present_but g x)) (emptyings_are g ok x l v v2 ready u (stepped g ok x l v v2 ready) some of)
      ∙ on_present_all (present_but g x) (empty_parity g (present_but g x) (roles g u) (by_look k) some (by_roles g u)) (emptyings_on g (present_but g x) true (roles g u) some (new_sectors g (by_look k) u) (λ d e. ready.emptied_here d (of d e)))

  pub mount_parity_within : Within g x (parity_emptyings_of_mount g x v) (mount_stores g (present_but g x) x v) true (roles g after9) (new_sectors g (by_look k) after9)
  unfolding mount_stores phases_of_parity_logs empty_parity
  mount_parity_within =
      let E = parity_emptyings_of_mount g x v in
      let all = E.stores_of E.emptied in
      let its = pick (is_nil all) [] (on_present (present_but g x) (flush_all g.drives)) ++ [] in
      let entries = concat (phases_of_entries g (present_but g x) x v (after_parity_logs g (present_but g x) x v)) in
      record {
        rest = its ++ entries;
        of = λ some h.
            subst (λ (w : Device). on_present (present_but g x) (empty_parity g (present_but g x) (middle_roles g (present_but g x) x v) (by_look k) some (through (placed_by (middle_roles g (present_but g x) x v)) w)) ≡ empty_parity g (present_but g x) (roles g w) (by_look k) some (by_roles g w))
            (sym (fill_is g ok x c l v ri ma1)) (of_some some h);
        are = ap (λ (t : List Store). concat (phases_before_entries g (present_but g x) x v) ++ t) (append_assoc all its entries);
      }
