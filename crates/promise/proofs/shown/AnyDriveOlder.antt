-- Any drive may go after a mount on drives whose resets last at once, if it may on drives that cache them: a history of theirs is one of these, in which nothing comes back
-- (device/OlderDrives).
use Rattle.std.specs.Prelude.{◌≡◌, refl, List, [], ◌∷◌, ◌++◌}
use Rattle.std.proofs.Common.{sym, ap, ◌∙◌, subst}
use Rattle.tables.specs.declared.Geometry.{Geometry}
use Rattle.tables.specs.meaning.Drives.{no_drive}
use Rattle.volume.specs.declared.Answer.TheVariants.{Finished}
use Rattle.promise.specs.meaning.Claim.{mounts, formats, Volume, System, Event, calls, looks, reads, peeks, reports, cuts, loses, next, Dutiful, start}
use Rattle.promise.specs.meaning.Caches.{Remembered, Caches, with_caches}
use Rattle.promise.specs.meaning.Histories.{after_all}
use Rattle.promise.specs.meaning.AnyDrive.{StoresNothing, AllStoreNothing, LooksAs, AnyDriveMayGo, AnyDriveClaim}
use Rattle.promise.proofs.device.OlderDrives.{OlderCuts, beside, without, there, left, next_there, all_there, dutiful_there}

module _ (g : Geometry) (vol : Volume) (k : Caches vol) (older : OlderCuts vol k) where
  abbrev there_all : System vol → Remembered → List (Event vol) → List (Event (with_caches vol k))
  there_all = all_there g vol k older

  -- what is remembered after a list of events
  abbrev left_all : System vol → Remembered → List (Event vol) → Remembered
  left_all s was [] = was
  left_all s was (e ∷ es) = left_all (next g vol s e) (left g vol k older s was e) es

  all_append : (s : System vol) (was : Remembered) (es fs : List (Event vol)) → there_all s was (es ++ fs) ≡ there_all s was es ++ there_all (after_all g vol s es) (left_all s was es) fs
  all_append s was [] fs = refl
  all_append s was (e ∷ es) fs = ap (λ (r : List (Event (with_caches vol k))). there g vol k older was e ∷ r) (all_append (next g vol s e) (left g vol k older s was e) es fs)

  after_there : (s : System vol) (was : Remembered) (es : List (Event vol)) → after_all g (with_caches vol k) (beside g vol k s was) (there_all s was es) ≡ beside g vol k (after_all g vol s es) (left_all s was es)
  after_there s was [] = refl
  after_there s was (e ∷ es) =
      ap (λ (t : System (with_caches vol k)). after_all g (with_caches vol k) t (there_all (next g vol s e) (left g vol k older s was e) es)) (next_there g vol k older s was e) ∙ after_there (next g vol s e) (left g vol k older s was e) es

  nothing_there : (s : System vol) (was : Remembered) (e : Event vol) → StoresNothing g vol s e → StoresNothing g (with_caches vol k) (beside g vol k s was) (there g vol k older was e)
  nothing_there s was (calls c named stop) q = q
  nothing_there s was (looks named) q = tt
  nothing_there s was (reads named a count out) q = tt
  nothing_there s was (peeks named a) q = tt
  nothing_there s was (reports list) q = tt
  nothing_there s was (cuts m) q = tt
  nothing_there s was (loses d m) q = q

  all_nothing : (s : System vol) (was : Remembered) (es : List (Event vol)) → AllStoreNothing g vol s es → AllStoreNothing g (with_caches vol k) (beside g vol k s was) (there_all s was es)
  all_nothing s was [] q = tt
  all_nothing s was (e ∷ es) (q, qs) = (
    nothing_there s was e q,
    subst (λ (t : System (with_caches vol k)). AllStoreNothing g (with_caches vol k) t (there_all (next g vol s e) (left g vol k older s was e) es)) (sym (next_there g vol k older s was e)) (all_nothing (next g vol s e) (left g vol k older s was e) es qs),
  )

  pub older_any_drive : AnyDriveClaim g (with_caches vol k) → AnyDriveClaim g vol
  older_any_drive zone_claim named array old stop m small e before after by count d none done q x one some names =
      let C = with_caches vol k in
      let r = C.call (formats array) named old stop (record { memory = m; was = λ e z. [] }) in
      let s0 = start g vol named (vol.call (formats array) named old stop m) in
      let was0 = r.memory.was in
      let s = after_all g vol s0 before in
      let was = left_all s0 was0 before in
      let mount : Event vol = calls mounts by count in
      let t = next g vol s mount in
      let was1 = left g vol k older s was mount in
      let duties = subst (λ (es : List (Event (with_caches vol k))). Dutiful g (with_caches vol k) (beside g vol k s0 was0) es) (all_append s0 was0 before (mount ∷ after)) (dutiful_there g vol k older s0 was0 (before ++ (mount ∷ after)) d) in
      let at : System (with_caches vol k) → Type 0 = λ a. a.lost ≡ no_drive → (C.call mounts by a.state count a.memory).answer ≡ Finished → AllStoreNothing g C (next g C a (calls mounts by count)) (there_all t was1 after)
      → AnyDriveMayGo g C (C.shows by a.memory (next g C a (calls mounts by count)).memory) (next g C a (calls mounts by count)).state (after_all g C (next g C a (calls mounts by count)) (there_all t was1 after)) in
      let claimed : at (beside g vol k s was) = subst at (after_there s0 was0 before) (zone_claim named array old stop (record { memory = m; was = λ e z. [] }) small e (there_all s0 was0 before) (there_all t was1 after) by count duties) in
      let p = subst (λ (a : System (with_caches vol k)). LooksAs g (with_caches vol k) (vol.shows by s.memory t.memory) t.state a some) (after_there t was1 after) (claimed none done (all_nothing t was1 after q) x one some names) in
      record {
        accepted = ap (without g vol k s0 was0) p.accepted;
        zones = record { generations = p.zones.generations; conditions = p.zones.conditions };
        shown = p.shown;
      }
