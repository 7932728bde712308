-- What looks show while a mount empties logs, of each emptied drive behind its first flush (Behind, EmptyingLooks): of general logs every look shows the same; of parity
-- logs a zone whose entry is made may show more, up to the pointer of the mount's look. (v1: the device after the mount's first flush, whose look decides; u: after
-- its step 1, with blank spares.)
use Rattle.std.specs.Prelude.{◌≡◌, refl, Bool, ℕ, ◌+◌, ◌<◌}
use Rattle.std.proofs.Common.{sym, ◌∙◌, inl, arith}
use Rattle.std.proofs.Math.Path.{ap, subst}
use Rattle.std.proofs.Math.Bool.{true, false}
use mathlib.Core.List.{List, [], ◌++◌, append-nil, append_assoc, map}
use Rattle.tables.specs.meaning.Basics.{pick}
use Rattle.tables.specs.laws.Basics.{and_split}
use Rattle.tables.specs.meaning.Lists.{is_nil, concat}
use Rattle.tables.specs.laws.Lists.{concat_append}
use Rattle.tables.specs.meaning.Device.{ZoneView, Device, Store, apply_all}
use Rattle.tables.specs.laws.Device.{apply_all_append}
use Rattle.tables.specs.meaning.Phases.{flush_all, on_present}
use Rattle.tables.specs.meaning.Through.{carry}
use Rattle.tables.specs.meaning.Drives.{present_but}
use Rattle.tables.specs.declared.Geometry.{Geometry}
use Rattle.tables.specs.meaning.Geometry.{Valid}
use Rattle.volume.specs.meaning.Rules.{general_heads, showing, zone_shown, zone_at}
use Rattle.volume.specs.meaning.Calls.{flush_stores}
use Rattle.volume.specs.meaning.Roles.{Roles, roles, by_roles, placed_by}
use Rattle.volume.specs.meaning.Mount.{with_flush, with_flushes, spare_step, steps_before_entries, carry_phases, after_opening, mount_view, mount_look, start_roles, emptied_general, middle_roles, phases_of_logs, phases_before_entries, phases_of_parity_logs, phases_of_entries, after_fill, after_parity_logs, mount_stores}
use Rattle.volume.specs.meaning.Emptying.{InForce, by_look, lacks_room, mount_general_limit, emptied_for, empty_general}
use Rattle.promise.specs.meaning.Ledger.{Ledger}
use Rattle.promise.specs.meaning.Histories.{ShowsAlike}
use Rattle.promise.specs.meaning.Emptied.{flush_of, spare_resets_of, emptyings_of_mount}
use Rattle.promise.proofs.invariant.Invariant.{Here, LogGenerations}
use Rattle.promise.proofs.invariant.RoomAsked.{MountAccepted}
use Rattle.promise.proofs.roles.RoledCalls.{RoledInvs}
use Rattle.promise.proofs.emptying.CanEmpty.{CanEmptyLog}
use Rattle.promise.proofs.emptying.FlushedRests.{roles_same, sectors_seen, flushed_all, flush_sectors, flushed_invs}
use Rattle.promise.proofs.emptying.SpareFills.{SameRead, heads_read, generation_read}
use Rattle.promise.proofs.emptying.SparesReset.{carried_resets, blanked_roles, blanked_seen, blanked_invs, spares_done, spares_blank}
use Rattle.promise.proofs.emptying.Forced.{Forced}
use Rattle.promise.proofs.emptying.OnPresent.{on_present_all}
use Rattle.promise.proofs.emptying.GeneralStores.{general_on, general_same}
use Rattle.promise.proofs.emptying.GeneralEmptying.{new_general_of, general_size_of}
use Rattle.promise.proofs.emptying.MountLogs.{spare_step_of}
use Rattle.promise.proofs.shown.EmptyingLooks.{Behind, Within, general_behind}

module _ (g : Geometry) (ok : Valid g) (x : ℕ) (c : LogGenerations) (l : Ledger) (v1 : Device) (ri : RoledInvs c g x v1 l)
    (ma : MountAccepted g (present_but g x) (roles g v1) (by_roles g v1) (by_look (showing g (present_but g x) x (by_roles g v1)))) where
  abbrev present : ℕ → Bool
  present = present_but g x

  abbrev f : InForce
  f = by_look (showing g (present_but g x) x (by_roles g v1))

  abbrev emptied : ℕ → Bool
  emptied = emptied_for g (present_but g x) false (roles g v1) (by_roles g v1) (mount_general_limit g)

  -- ---- after step 1
  abbrev resets : List Store
  resets = carried_resets g (present_but g x) (roles g v1) (by_roles g v1)

  abbrev blanked : Device
  blanked = apply_all resets v1

  abbrev flush_if : Bool → List Store
  flush_if b = pick b [] (on_present (present_but g x) (flush_all g.drives)) ++ []

  steady : (b : Bool) → RoledInvs c g x (apply_all (flush_if b) blanked) l × ((e y : ℕ) → Here g x e → (apply_all (flush_if b) blanked e y).sectors ≡ (blanked e y).sectors)
  unfolding flush_stores
  steady true = (blanked_invs g x c v1 blanked ri.0 (spares_done g x c v1 l ri) l ri.1, λ e y a. refl)
  steady false = rw (append-nil (on_present (present_but g x) (flush_all g.drives))) (flushed_invs g ok c x blanked l (blanked_invs g x c v1 blanked ri.0 (spares_done g x c v1 l ri) l ri.1), λ e y a. flush_sectors g x blanked e y a)

  abbrev u : Device
  u = apply_all (spare_step_of g x v1) v1

  u_is : u ≡ apply_all (flush_if (is_nil resets)) blanked
  u_is = apply_all_append resets (flush_if (is_nil resets)) v1

  pub u_invs : RoledInvs c g x u l
  u_invs = subst (λ (w : Device). RoledInvs c g x w l) (sym u_is) (steady (is_nil resets)).0

  u_sectors : (e y : ℕ) → Here g x e → (u e y).sectors ≡ (blanked e y).sectors
  u_sectors e y a = ap (λ (w : Device). (w e y).sectors) u_is ∙ (steady (is_nil resets)).1 e y a

  u_roles : (e : ℕ) → Here g x e → roles g u e ≡ roles g v1 e
  u_roles e a = roles_same g blanked u e (λ y. u_sectors e y a) ∙ blanked_roles g x c v1 blanked ri.0 (spares_done g x c v1 l ri) e a

  u_seen : SameRead g x (by_roles g v1) (by_roles g u)
  u_seen e y a n = sectors_seen g blanked u e (λ i. u_sectors e i a) y ∙ ap (λ (z : ZoneView). z.sectors) (blanked_seen g x c v1 blanked ri.0 (spares_done g x c v1 l ri) e y a n)

  u_heads : (d : ℕ) → Here g x d → general_heads g (by_roles g v1) d ≡ general_heads g (by_roles g u) d
  u_heads = heads_read g ok x (by_roles g v1) (by_roles g u) u_seen

  u_forced : Forced g x (by_roles g u) f.generation
  unfolding showing zone_shown zone_at
  u_forced z hz = generation_read g ok x (by_roles g v1) (by_roles g u) u_seen x (inl refl) z

  -- ---- step 2
  emptied_here : (d : ℕ) → emptied d ≡ true → Here g x d
  unfolding emptied_for
  emptied_here d b = (and_split (present_but g x d) (lacks_room g false (roles g v1) (by_roles g v1) (mount_general_limit g) d) b).0

  can : (d : ℕ) → d < g.drives → emptied d ≡ true → Here g x d × CanEmptyLog g false u d (general_size_of g f u d)
  can d hd b =
      let a = emptied_here d b in
      let e = ma.general.emptiable d b in
      let r = u_roles d a in (
        a,
        record {
          room = rw (← u_heads d a) (let k = e.room in omega (arith, k));
          top = rw r e.top;
          blank = ap (λ (q : Roles). (u d q.spare).sectors) r ∙ u_sectors d (roles g v1 d).spare a ∙ spares_blank g x c v1 l ri d a;
        },
      )

  pub logs_behind : (d : ℕ) → d < g.drives → emptied d ≡ true → Behind g x false (roles g u) emptied (new_general_of g f u) u (ShowsAlike g) d
  logs_behind = general_behind g ok x c u l u_invs f u_forced emptied can

  -- by the roles at the mount's start and by those of u they are the same stores
  pub logs_are : (some : ℕ → Bool) → ((d : ℕ) → some d ≡ true → emptied d ≡ true) → on_present (present_but g x) (empty_general g (present_but g x) (roles g v1) f some (by_roles g v1)) ≡ empty_general g (present_but g x) (roles g u) f some (by_roles g u)
  logs_are some of =
      on_present_all present (empty_general g (present_but g x) (roles g v1) f some (by_roles g v1)) (general_on g present (roles g v1) f some (by_roles g v1) (λ d hd b. emptied_here d (of d b)))
      ∙ general_same g present (roles g v1) (roles g u) f some (by_roles g v1) (by_roles g u) (λ d hd b. let a = emptied_here d (of d b) in (sym (u_roles d a), u_heads d a))

-- ==== the general logs of a mount of v, its step 2
module _ (g : Geometry) (ok : Valid g) (x : ℕ) (c : LogGenerations) (v : Device) (l : Ledger) (ri : RoledInvs c g x v l)
    (ma1 : MountAccepted g (present_but g x) (roles g (flushed_all g x v)) (by_roles g (flushed_all g x v)) (by_look (showing g (present_but g x) x (by_roles g (flushed_all g x v))))) where
  abbrev opened : Device
  opened = flushed_all g x v

  ri1 : RoledInvs c g x opened l
  ri1 = flushed_invs g ok c x v l ri

  abbrev begins : Device
  begins = apply_all (emptyings_of_mount g x v).before v

  begins_is : begins ≡ apply_all (spare_step_of g x opened) opened
  unfolding spare_step after_opening flush_stores
  begins_is = apply_all_append (flush_of g x) (spare_resets_of g x v) v

  abbrev look_force : InForce
  look_force = by_look (mount_look g (present_but g x) x v)

  pub mount_behind : (d : ℕ) → d < g.drives → (emptyings_of_mount g x v).emptied d ≡ true → Behind g x false (roles g begins) (emptyings_of_mount g x v).emptied (new_general_of g look_force begins) begins (ShowsAlike g) d
  unfolding mount_look after_opening flush_stores spare_step
  mount_behind d hd b = subst (λ (u : Device). Behind g x false (roles g u) (emptyings_of_mount g x v).emptied (new_general_of g look_force u) u (ShowsAlike g) d) (sym begins_is) (logs_behind g ok x c l opened ri1 ma1 d hd b)

  -- its stores after them
  abbrev its_flush : List Store
  its_flush = pick (is_nil ((emptyings_of_mount g x v).stores_of (emptyings_of_mount g x v).emptied)) [] (on_present (present_but g x) (flush_all g.drives)) ++ []

  abbrev steps : List Store
  steps = concat (carry_phases (placed_by (middle_roles g (present_but g x) x v)) (with_flushes g (present_but g x) (steps_before_entries g (present_but g x) x (mount_look g (present_but g x) x v) (mount_view g (present_but g x) x v))))

  abbrev lasts : List Store
  lasts = concat (phases_of_parity_logs g (present_but g x) x v (after_fill g (present_but g x) x v)) ++ concat (phases_of_entries g (present_but g x) x v (after_parity_logs g (present_but g x) x v))

  joined : (a b e f h i : List Store) → ((a ++ (b ++ (e ++ f))) ++ h) ++ i ≡ (a ++ b) ++ (e ++ ((f ++ h) ++ i))
  joined a b e f h i =
      ap (λ (t : List Store). (t ++ h) ++ i) (sym (append_assoc a b (e ++ f))) ∙ ap (λ (t : List Store). t ++ i) (append_assoc (a ++ b) (e ++ f) h) ∙ append_assoc (a ++ b) ((e ++ f) ++ h) i
      ∙ ap (λ (t : List Store). (a ++ b) ++ t) (ap (λ (t : List Store). t ++ i) (append_assoc e f h) ∙ append_assoc e (f ++ h) i)

  pub mount_within : Within g x (emptyings_of_mount g x v) (mount_stores g (present_but g x) x v) false (roles g begins) (new_general_of g look_force begins)
  unfolding mount_stores phases_before_entries phases_of_logs mount_look after_opening flush_stores spare_step empty_general
  mount_within = record {
    rest = (its_flush ++ steps) ++ lasts;
    of = λ some h. subst (λ (u : Device). (emptyings_of_mount g x v).stores_of some ≡ empty_general g (present_but g x) (roles g u) look_force some (by_roles g u)) (sym begins_is) (logs_are g ok x c l opened ri1 ma1 some h);
    are =
        let F = on_present (present_but g x) (flush_all g.drives) in
        let spares = map (carry (placed_by (start_roles g (present_but g x) x v))) (spare_step g (mount_view g (present_but g x) x v)) in
        let generals = empty_general g (present_but g x) (start_roles g (present_but g x) x v) look_force (emptied_general g (present_but g x) x v) (mount_view g (present_but g x) x v) in
        ap (λ (t : List Store). t ++ lasts) (concat_append (phases_of_logs g (present_but g x) x v) (carry_phases (placed_by (middle_roles g (present_but g x) x v)) (with_flushes g (present_but g x) (steps_before_entries g (present_but g x) x (mount_look g (present_but g x) x v) (mount_view g (present_but g x) x v)))))
        ∙ ap (λ (t : List Store). ((F ++ t) ++ steps) ++ lasts) (concat_append (with_flush g (present_but g x) spares) (with_flush g (present_but g x) generals))
        ∙ joined F (spare_resets_of g x v) ((emptyings_of_mount g x v).stores_of (emptyings_of_mount g x v).emptied) its_flush steps lasts;
  }
