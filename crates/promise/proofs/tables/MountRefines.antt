-- A mount on the tables. Since its stores fit, those made on the tables are the rules', steps 10 and 11 included, which go by what the tables have become;
-- so a mount keeps the invariant, and what it shows is what the rules' mount shows.
use Rattle.std.specs.Prelude.{◌≡◌, refl, ◌≢◌, Bool, false, ℕ, List, length, ltb}
use Rattle.std.proofs.Common.{sym, ap, ◌∙◌, inl, inr, arith, ltb-false}
use Rattle.std.proofs.Math.Path.{subst}
use Rattle.tables.specs.declared.Geometry.{Geometry}
use Rattle.tables.specs.meaning.Geometry.{Valid}
use Rattle.tables.specs.meaning.GeometryTest.{is_valid}
use Rattle.tables.specs.laws.Basics.{not_not}
use Rattle.tables.specs.laws.TablesFrame.{sized_lengths}
use Rattle.tables.specs.meaning.Device.{Device, Store, apply_all}
use Rattle.tables.specs.meaning.Tables.{Tables, device_of, run_stores}
use Rattle.tables.specs.laws.Made.{FitsAll}
use Rattle.tables.specs.laws.Counted.{run_covered}
use Rattle.volume.specs.declared.State.{State}
use Rattle.volume.specs.laws.StateHeld.{held_sixteen}
use Rattle.volume.specs.meaning.CallContracts.{is_set, lengths_of, mount_stores_on, mount_shown_on, mount_on, verdict_number, storing_on, bad_place_on, state_held, view_state}
use Rattle.volume.specs.declared.Answer.{Answer}
use Rattle.volume.specs.declared.Answer.TheVariants.{Finished, Refused}
use Rattle.volume.specs.meaning.Roles.{roles, by_roles}
use Rattle.volume.specs.meaning.Answers.{present_in, lost_drive_in, storing}
use Rattle.volume.specs.laws.BadPlaces.{told_plain, told_finished}
use Rattle.volume.specs.meaning.Refusals.{Verdict, refuse, accept, first_refusal, mount_rows, bad_pointers}
use Rattle.volume.specs.meaning.Mount.{mount_stores, shown_state}
use Rattle.promise.specs.meaning.Ledger.{Fits}
use Rattle.promise.specs.meaning.Claim.{Call, mounts, writes, flushes, resets, formats, compacts, calls, answered, heard, System, NamesAll, Promise, MayMount}
use Rattle.promise.specs.meaning.OnDevice.{on_device}
use Rattle.promise.specs.meaning.OnTables.{on_tables, shown_in}
use Rattle.promise.proofs.device.AcceptedCalls.{Applies, refused_applies}
use Rattle.promise.proofs.device.ClaimProof.{kept}
use Rattle.promise.proofs.device.Heard.{answer_alike}
use Rattle.promise.proofs.tables.CallVerdicts.{mount_verdict_lem, mount_numbered}
use Rattle.volume.specs.laws.MountStoresFit.{mount_stores_fit, mount_stores_are}
use Rattle.promise.proofs.tables.CallRefines.{Agree, held_agrees, all_made, answer_finished}
use Rattle.promise.proofs.tables.TablesEvents.{view_system, TablesOk, Refines, names_seen, pointers_fine, call_agrees, write_refines, flush_refines, reset_refines, format_refines, compact_refines}

module _ (g : Geometry) (ok : Valid g) (s : System (on_tables g)) (o : TablesOk g s) (named : List Bool) (n : NamesAll g (on_tables g) s named) where
  abbrev t : Tables
  t = s.memory

  abbrev w : Device
  w = device_of g s.memory

  abbrev present : ℕ → Bool
  present = present_in g (is_set named) w

  abbrev lost : ℕ
  lost = lost_drive_in g (is_set named) w

  abbrev verdict : Verdict
  verdict = first_refusal (mount_rows g (lengths_of t) (bad_pointers g (is_set named) w) (is_set named) (roles g w) (by_roles g w))

  abbrev xs : List Store
  xs = mount_stores g present lost w

  abbrev ss : List Store
  ss = mount_stores_on g present lost t

  abbrev new : State
  new = state_held g.zones (shown_state g present lost (device_of g (run_stores g (length ss) ss t)))

  fits : verdict ≡ accept → FitsAll g xs w
  fits p = mount_stores_fit g named t (mount_verdict_lem g named t (pointers_fine g s named n o) ∙ p)

  same : verdict ≡ accept → ss ≡ xs
  same p = mount_stores_are g present lost t o.sized (fits p)

  -- what it leaves when it has made all its stores
  device_end : (stop : ℕ) → verdict ≡ accept → ltb stop (length xs) ≡ false → device_of g (run_stores g (length ss) ss t) ≡ apply_all xs w
  device_end stop p e =
      ap (λ (u : Tables). device_of g u) (sym (run_covered g stop ss t (rw (same p) (ltb-false stop (length xs) e))))
      ∙ all_made g t verdict (mount_numbered g named t) ss xs new s.state (shown_state g present lost (apply_all xs w)) stop o.sized same fits p e

  -- no log is bad, so it tells no place
  not_six : verdict ≢ refuse 6
  unfolding mount_rows
  not_six e = by (refused_applies (mount_rows g (lengths_of t) (bad_pointers g (is_set named) w) (is_set named) (roles g w) (by_roles g w)) 6 e)
    where
      by : Applies (mount_rows g (lengths_of t) (bad_pointers g (is_set named) w) (is_set named) (roles g w) (by_roles g w)) 6 → ⊥
      by (inl (k, b)) = absurd (omega (arith, k))
      by (inr (r1, rest)) =
          let promised = kept g ok (lengths_of t) (not_not (is_valid g) r1) (sized_lengths g t o.sized) (view_system g s) o.holds o.shared in
          let z = promised.mount_refused (is_set named) (names_seen g s named n) 0 (Refused 6) (ap (λ (r : Verdict). answered (storing r xs (shown_state g present lost (apply_all xs w)) (view_state s.state) 0 w).answer) e) in
          absurd (omega (arith, z))

  number_not_six : verdict_number verdict ≢ 6
  number_not_six z = go verdict refl z
    where
      go : (u : Verdict) → verdict ≡ u → verdict_number u ≡ 6 → ⊥
      go accept p q = absurd (omega (arith, q))
      go (refuse k) p q = not_six (p ∙ ap refuse q)

  pub mount_refines : (stop : ℕ) → Refines g s mounts named stop
  unfolding mount_on mount_shown_on
  mount_refines stop = record {
    verdict = verdict;
    stores = ss;
    new = new;
    result_is = rw (mount_verdict_lem g named t (pointers_fine g s named n o)) (told_plain g (bad_place_on g named t) (verdict_number verdict) ss new s.state stop t number_not_six);
    made_is = rw (mount_verdict_lem g named t (pointers_fine g s named n o)) refl;
    verdict_is = refl;
    has_number = mount_numbered g named t;
    same = same;
    fit = fits;
    long = λ p. held_sixteen g.zones (shown_state g present lost (device_of g (run_stores g (length ss) ss t))) ok.zones_most;
    agree = λ p e. subst (λ (u : Device). Agree g (shown_state g present lost (apply_all xs w)) (view_state (state_held g.zones (shown_state g present lost u)))) (sym (device_end stop p e)) (held_agrees g g.zones (shown_state g present lost (apply_all xs w)) (omega arith));
  }

  -- so every call is the rules'
  pub call_refines : (c : Call) (stop : ℕ) → Refines g s c named stop
  call_refines mounts stop = mount_refines stop
  call_refines (writes asked) stop = write_refines g ok s o named n asked stop
  call_refines flushes stop = flush_refines g ok s o named n stop
  call_refines (resets z) stop = reset_refines g ok s o named n z stop
  call_refines (formats array) stop = format_refines g ok s o named n array stop
  call_refines (compacts d) stop = compact_refines g ok s o named n d stop

  pub answers_as : (c : Call) (stop : ℕ) → ((on_device g (lengths_of t)).call c (is_set named) (view_state s.state) stop w).answer ≡ ((on_tables g).call c named s.state stop t).answer
  answers_as c stop = (call_agrees g ok s o c named stop (call_refines c stop)).answer_same

  pub heard_as : (c : Call) (stop : ℕ) (a : Answer) → heard s (calls c named stop) ≡ answered a → heard (view_system g s) (calls c (is_set named) stop) ≡ answered a
  heard_as c stop a e = answer_alike (answers_as c stop) e

  -- a mount's state is what is shown then
  state_is : (stop : ℕ) → (mount_on g named s.state stop t).outcome.answer ≡ Finished → (mount_on g named s.state stop t).outcome.state ≡ (on_tables g).state_of named t (mount_on g named s.state stop t).tables
  unfolding mount_on mount_shown_on
  state_is stop e =
      let v = mount_verdict_lem g named t (pointers_fine g s named n o) in
      let (p, q) = answer_finished g verdict (mount_numbered g named t) ss new s.state stop t (told_finished (bad_place_on g named t) (storing_on g (verdict_number verdict) ss new s.state stop t).outcome.answer (rw v at e)) in
      rw (v, p, q) (ap (λ (u : Tables). state_held g.zones (shown_state g present lost (device_of g u))) (sym (run_covered g stop ss t (ltb-false stop (length ss) q))))

  -- a finished mount shows what fits
  pub mount_claim : Promise g (on_device g (lengths_of t)) (view_system g s) → MayMount s.mode → (stop : ℕ) → (mount_on g named s.state stop t).outcome.answer ≡ Finished
      → ((mount_on g named s.state stop t).outcome.state ≡ (on_tables g).state_of named t (mount_on g named s.state stop t).tables) × Fits g s.ledger (shown_in g named t (mount_on g named s.state stop t).tables)
  mount_claim promised m stop e =
      let k = call_agrees g ok s o mounts named stop (mount_refines stop) in
      let (a, b) = promised.mount_fits (is_set named) (names_seen g s named n) m stop (ap answered (k.answer_same ∙ e)) in
      (state_is stop e, rw k.memory_same at b)
