-- A write, stopped anywhere or finished. From the first store on the new sectors count as laid out, so each place holds a front of its new
-- column and the new entry tells the truth, wherever it stops. A finished one leaves all at rest, with the content grown.
use Rattle.std.proofs.Math.Path.{◌≡◌, refl, sym, ap, fun_ext}
use Rattle.std.proofs.Common.{ap₂, ◌∙◌, subst, le_refl, length-append}
use Rattle.std.specs.Prelude.{◌≢◌, ◌⊎◌, Bool, false, ◌&&◌, take, ltb, eqb}
use Rattle.std.proofs.Math.Logic.{inl, inr}
use Rattle.std.proofs.Math.Bool.{true}
use Prim.Native.Nat.{ℕ, zero, suc, ◌+◌, ◌-◌, ◌*◌, ◌≤◌, ◌<◌, min}
use Rattle.std.proofs.Math.Nat.{le_of_eq}
use native.Mathlib.Omega.{arith}
use Rattle.std.proofs.Math.Decide.{ℕ_discrete, dec_lt}
use mathlib.Core.List.{List, [], ◌∷◌, ◌++◌, map, append-nil, Memᴰ}
use Rattle.std.proofs.Math.ListN.{length, get_or, get_or-append}
use Rattle.std.proofs.Math.Seq.{take-length, get_or-append-add}
use borrow.Author.Tests.{eq-eqb, ne_eqb, eqb-true, le-ltb, lt-ltb, ltb-true}
use Rattle.tables.specs.meaning.Device.{ZoneView, Device, apply_all}
use Rattle.tables.specs.meaning.Basics.{pick}
use Rattle.tables.specs.laws.Local.{LocalStore, append_here, local_stores, local_append, local_is, local_take, appends_here}
use Rattle.tables.specs.laws.Lists.{Prefix, prefix_refl, mem_take, mem_nil, mem_left, mem_right, mem_append, prefix_whole}
use Rattle.tables.specs.meaning.Phases.{on_present}
use Rattle.tables.specs.laws.Phases.{on_present_local}
use Rattle.tables.specs.meaning.Placement.{needed, stripe_of}
use Rattle.tables.specs.laws.Placement.{stripe_below, stripe_above}
use Rattle.tables.specs.declared.Geometry.{Geometry}
use Rattle.tables.specs.meaning.Geometry.{Valid, stripe_sectors, zone_sectors, physical_zones, data_zone}
use Rattle.logs.specs.meaning.Entry.{general_zone, parity_zone, Header, partial_parity, seal, Entry, rows_of, fits_log, closing}
use Rattle.logs.specs.laws.Entry.{FieldsFit}
use Rattle.tables.specs.meaning.Drives.{present_but}
use Rattle.tables.specs.laws.Drives.{present_below}
use Rattle.logs.specs.laws.Walk.{Whole, WellFormedLog, Reads, Left, cut_joins, sectors_of_all, sectors_of_append, log_extent, extent_append, extent_whole, lawful_joins}
use Rattle.logs.specs.meaning.Walk.{sectors_of}
use Rattle.logs.specs.laws.Codec.{reads}
use Rattle.volume.specs.meaning.Content.{content_at, at, row_xor_below, inside_stripe, fill_of, entry_header, entry_at, parity_drive_at}
use Rattle.volume.specs.meaning.Calls.{data_stores, write_stores, write_with, write_state, zone_content, entry_stores}
use Rattle.tables.specs.meaning.Below.{tabulate_from}
use Rattle.tables.specs.laws.Below.{length_tabulate_from, get_d_tabulate_from}
use Rattle.volume.specs.laws.Content.{row_xor_below_cong}
use Rattle.promise.proofs.content.Columns.{column, piece, column_grows}
use Rattle.promise.proofs.calls.WriteLocal.{data_piece, appends_other_zone, appends_same, appends_other_drive, data_stores_elsewhere}
use Rattle.volume.specs.meaning.State.{pointer_in, StateView, set_at}
use Rattle.volume.specs.meaning.Rules.{value_at}
use Rattle.promise.proofs.invariant.Obligations.{WriteOk, writable_plain, WriteKeeps, WriteRests}
use Rattle.promise.specs.meaning.Ledger.{Ledger, after_write}
use Rattle.promise.proofs.invariant.Invariant.{Ghost, Here, LogsOk, CappedBelow, TrueRows, Live, Inv, Rest, RestZone, rest_inv, Plain, closing_entry}
use Rattle.logs.specs.laws.Heads.{zone_gen}
use Rattle.promise.proofs.look.LookFits.{rest_known}
use Rattle.tables.specs.laws.Sizes.{needed_fits}
use Rattle.logs.specs.laws.HeadLaws.{generation_small}
use Rattle.promise.proofs.invariant.StoppedCall.{Parts, adds_part, inv_part}
use Rattle.promise.proofs.invariant.UntouchedZone.{Other, Untouched, untouched_rest}

module _ (g : Geometry) (ok : Valid g) (x : ℕ) (v : Device) (state : StateView) (l : Ledger) (γ : Ghost) (r : Rest g x v state l γ) (z : ℕ) (ss : List (List ℕ)) (wk : WriteOk g (present_but g x) v state z ss) where
  h_d : 1 < g.drives
  h_d = omega (arith, ok.drives_least)

  h_u : zero < g.unit
  h_u = ok.unit_least

  here : RestZone g x v state l γ z
  here = r.zones z wk.zone_ok

  plain : Plain g x v γ l z
  plain = writable_plain g x v γ l z (state.condition z) wk.writable here.shape

  value : (a : ℕ) → a < length (l.content z) → value_at g (present_but g x) v z (γ.generation z) a ≡ at (l.content z) a
  value a h = rw here.generation_is (rest_known g ok x v state l γ r z wk.zone_ok a h).1

  abbrev old : List (List ℕ)
  old = l.content z

  abbrev all : List (List ℕ)
  all = l.content z ++ ss

  abbrev end : ℕ
  end = length (l.content z) + length ss

  abbrev drive : ℕ
  drive = parity_drive_at g z end

  abbrev entry : Entry
  entry = entry_at g z (γ.generation z) (at all) end

  -- what the write adds to drive d's parity log, and to any place
  abbrev logged : ℕ → List Entry
  logged d = pick (inside_stripe g end && eqb d drive) (entry ∷ []) []

  abbrev news : ℕ → ℕ → List (List ℕ)
  news d y = pick (eqb y (data_zone z)) (piece g.drives g.unit z old ss d) (pick (eqb y parity_zone) (sectors_of_all g d true (logged d)) [])

  news_data : (d y : ℕ) → y ≡ data_zone z → news d y ≡ piece g.drives g.unit z old ss d
  news_data d y e = rw (eq-eqb y (data_zone z) e) refl

  news_log : (d y : ℕ) → y ≡ parity_zone → news d y ≡ sectors_of_all g d true (logged d)
  news_log d y e = rw (ne_eqb y (data_zone z) (λ q. omega arith), eq-eqb y parity_zone e) refl

  news_other : (d y : ℕ) → y ≢ data_zone z → y ≢ parity_zone → news d y ≡ []
  news_other d y n p = rw (ne_eqb y (data_zone z) n, ne_eqb y parity_zone p) refl

  joined_is : zone_content g (present_but g x) v state z ss ≡ at all
  unfolding zone_content
  joined_is = fun_ext λ a. go a (dec_lt a (length old))
    where
      go : (a : ℕ) → Dec (a < length old) → pick (ltb a (pointer_in (state.condition z))) (value_at g (present_but g x) v z (state.generation z) a) (at ss (a - pointer_in (state.condition z))) ≡ at all a
      go a (yes h) = rw (← here.pointer_is, ← here.generation_is, lt-ltb a (length old) h) (value a h ∙ sym (get_or-append old ss [] a h))
      go a (no h) =
          let e : a ≡ length old + (a - length old) = omega arith in
          rw (← here.pointer_is, le-ltb a (length old) (omega arith)) (sym (ap (λ (i : ℕ). get_or all i []) e ∙ get_or-append-add old ss (a - length old) []))

  stores_are : write_stores g (present_but g x) v state z ss ≡ on_present (present_but g x) (data_stores g.drives g.unit z (at all) (length old) (length ss) ++ pick (inside_stripe g end) (entry_stores g z (γ.generation z) (at all) end) [])
  unfolding write_stores write_with
  stores_are =
      ap (λ (S : ℕ → List ℕ). on_present (present_but g x) (write_with g z (state.generation z) S (pointer_in (state.condition z)) (length ss))) joined_is
      ∙ ap (λ (n : ℕ). on_present (present_but g x) (write_with g z n (at all) (pointer_in (state.condition z)) (length ss))) (sym here.generation_is)
      ∙ ap (λ (p : ℕ). on_present (present_but g x) (write_with g z (γ.generation z) (at all) p (length ss))) (sym here.pointer_is)

  log_unseen : (d y : ℕ) → y ≢ parity_zone → local_stores d y (pick (inside_stripe g end) (entry_stores g z (γ.generation z) (at all) end) []) ≡ []
  log_unseen d y n = go (inside_stripe g end)
    where
      go : (b : Bool) → local_stores d y (pick b (entry_stores g z (γ.generation z) (at all) end) []) ≡ []
      go true = appends_other_zone d drive y parity_zone (sectors_of g drive true entry) n
      go false = refl

  log_seen : (d : ℕ) → local_stores d parity_zone (pick (inside_stripe g end) (entry_stores g z (γ.generation z) (at all) end) []) ≡ map append_here (sectors_of_all g d true (logged d))
  log_seen d = go (inside_stripe g end) (ℕ_discrete d drive)
    where
      go : (b : Bool) → Dec (d ≡ drive) → local_stores d parity_zone (pick b (entry_stores g z (γ.generation z) (at all) end) []) ≡ map append_here (sectors_of_all g d true (pick (b && eqb d drive) (entry ∷ []) []))
      go true (yes e) =
          let q : pick (true && eqb d drive) (entry ∷ []) [] ≡ entry ∷ [] = rw (eq-eqb d drive e) refl in
          appends_same d drive parity_zone (sectors_of g drive true entry) e
          ∙ ap (map append_here) (sym (append-nil (sectors_of g d true entry) ∙ ap (λ (k : ℕ). sectors_of g k true entry) e))
          ∙ ap (λ (t : List Entry). map append_here (sectors_of_all g d true t)) (sym q)
      go true (no e) =
          let q : pick (true && eqb d drive) (entry ∷ []) [] ≡ [] = rw (ne_eqb d drive e) refl in
          appends_other_drive d drive parity_zone (sectors_of g drive true entry) e ∙ ap (λ (t : List Entry). map append_here (sectors_of_all g d true t)) (sym q)
      go false e = refl

  local_write : (d y : ℕ) → Here g x d → local_stores d y (write_stores g (present_but g x) v state z ss) ≡ map append_here (news d y)
  local_write d y a =
      let ds = data_stores g.drives g.unit z (at all) (length old) (length ss) in
      let es = pick (inside_stripe g end) (entry_stores g z (γ.generation z) (at all) end) [] in
      ap (local_stores d y) stores_are ∙ on_present_local (present_but g x) d y (ds ++ es) a ∙ local_append d y ds es ∙ go (ℕ_discrete y (data_zone z)) (ℕ_discrete y parity_zone)
    where
      go : Dec (y ≡ data_zone z) → Dec (y ≡ parity_zone) → local_stores d y (data_stores g.drives g.unit z (at all) (length old) (length ss)) ++ local_stores d y (pick (inside_stripe g end) (entry_stores g z (γ.generation z) (at all) end) []) ≡ map append_here (news d y)
      go (yes e) p =
          let q : news d y ≡ piece g.drives g.unit z old ss d = news_data d y e in
          let b : local_stores d y (data_stores g.drives g.unit z (at all) (length old) (length ss)) ≡ map append_here (piece g.drives g.unit z old ss d) = rw e (data_piece g.drives g.unit z h_d h_u old ss d (present_below g x d a)) in
          ap₂ (λ (t u : List LocalStore). t ++ u) b (log_unseen d y (λ k. omega arith)) ∙ append-nil (map append_here (piece g.drives g.unit z old ss d)) ∙ ap (map append_here) (sym q)
      go (no e) (yes p) =
          let q : news d y ≡ sectors_of_all g d true (logged d) = news_log d y p in
          let b : local_stores d y (pick (inside_stripe g end) (entry_stores g z (γ.generation z) (at all) end) []) ≡ map append_here (sectors_of_all g d true (logged d)) = rw p (log_seen d) in
          ap₂ (λ (t u : List LocalStore). t ++ u) (data_stores_elsewhere g.drives g.unit z y (at all) e (length ss) (length old) d) b ∙ ap (map append_here) (sym q)
      go (no e) (no p) =
          ap₂ (λ (t u : List LocalStore). t ++ u) (data_stores_elsewhere g.drives g.unit z y (at all) e (length ss) (length old) d) (log_unseen d y p) ∙ ap (map append_here) (sym (news_other d y e p))

  -- the device after all of it, place by place
  after : Device
  after = apply_all (write_stores g (present_but g x) v state z ss) v

  after_is : (d y : ℕ) → Here g x d → after d y ≡ record { sectors = (v d y).sectors ++ news d y; durable = (v d y).durable }
  unfolding after
  after_is d y a =
      local_is d y (write_stores g (present_but g x) v state z ss) v ∙ rw (local_write d y a, ← append-nil (map append_here (news d y))) (appends_here (news d y) [] (v d y))

  -- a stop
  stop_parts : (n : ℕ) → Parts g x after (apply_all (take n (write_stores g (present_but g x) v state z ss)) v)
  stop_parts n d y a h =
      let xs = write_stores g (present_but g x) v state z ss in
      let p : Prefix (local_stores d y (take n xs)) (map append_here (news d y)) = rw (← local_write d y a) (local_take d y n xs) in
      rw (after_is d y a, local_is d y (take n xs) v) (adds_part (news d y) (local_stores d y (take n xs)) (v d y) p (r.logs.lasting d y a h))

  -- ---- the zone before
  end_fits : end ≤ zone_sectors g
  end_fits = rw here.pointer_is wk.run

  column_old : (d : ℕ) → Here g x d → (v d (data_zone z)).sectors ≡ column g.drives g.unit z old d
  unfolding column
  column_old d a =
      let p : Prefix (v d (data_zone z)).sectors (column g.drives g.unit z old d) = rw (← plain.all_content) (here.live.places d a) in
      prefix_whole (v d (data_zone z)).sectors (column g.drives g.unit z old d) p (plain.just d a ∙ sym (length_tabulate_from (content_at g.drives g.unit z (at old) d) zero (needed g.drives g.unit z (length old) d)))

  column_now : (d : ℕ) → Here g x d → (after d (data_zone z)).sectors ≡ column g.drives g.unit z all d
  column_now d a =
      let q : news d (data_zone z) ≡ piece g.drives g.unit z old ss d = news_data d (data_zone z) refl in
      ap (λ (t : ZoneView). t.sectors) (after_is d (data_zone z) a) ∙ ap₂ (λ (t u : List (List ℕ)). t ++ u) (column_old d a) q ∙ sym (column_grows g.drives g.unit z h_d h_u old ss d (present_below g x d a))

  length_now : (d : ℕ) → Here g x d → length (after d (data_zone z)).sectors ≡ needed g.drives g.unit z (length all) d
  unfolding column
  length_now d a = ap (λ (t : List (List ℕ)). length t) (column_now d a) ∙ length_tabulate_from (content_at g.drives g.unit z (at all) d) zero (needed g.drives g.unit z (length all) d)

  keep_now : (d y : ℕ) → Here g x d → (after d y).durable ≡ (v d y).durable
  keep_now d y a = ap (λ (t : ZoneView). t.durable) (after_is d y a)

  sectors_other : (d y : ℕ) → Here g x d → y ≢ data_zone z → y ≢ parity_zone → (after d y).sectors ≡ (v d y).sectors
  sectors_other d y a n p = ap (λ (t : ZoneView). t.sectors) (after_is d y a) ∙ ap (λ (t : List (List ℕ)). (v d y).sectors ++ t) (news_other d y n p) ∙ append-nil (v d y).sectors

  sectors_log : (d : ℕ) → Here g x d → (after d parity_zone).sectors ≡ sectors_of_all g d true (γ.parity d ++ logged d)
  sectors_log d a =
      ap (λ (t : ZoneView). t.sectors) (after_is d parity_zone a) ∙ ap₂ (λ (t u : List (List ℕ)). t ++ u) (r.logs.parity_is d a) (news_log d parity_zone refl) ∙ sym (sectors_of_append g d true (γ.parity d) (logged d))

  -- ---- the new entry
  entry_head : entry.head ≡ entry_header g z (γ.generation z) end
  unfolding entry_at
  entry_head = refl

  entry_rows_lem : entry.rows ≡ tabulate_from (row_xor_below g.drives g.unit (at all) (stripe_of g.drives g.unit end) end) zero (min (fill_of g end) g.unit)
  unfolding entry_at
  entry_rows_lem = refl

  entry_whole : (d : ℕ) → Whole g d true entry
  unfolding entry_at
  entry_whole d = length_tabulate_from (row_xor_below g.drives g.unit (at all) (stripe_of g.drives g.unit end) end) zero (min (fill_of g end) g.unit)

  fill_end : stripe_of g.drives g.unit end * stripe_sectors g + fill_of g end ≡ end
  fill_end = omega (arith, stripe_below g.drives g.unit z h_d h_u end)

  abbrev Logged : ℕ → Entry → Type 0
  Logged d e = (inside_stripe g end ≡ true) × (d ≡ drive) × (e ≡ entry)

  in_logged : (d : ℕ) (e : Entry) → Memᴰ e (logged d) → Logged d e
  in_logged d e = go (inside_stripe g end) refl (eqb d drive) refl
    where
      go : (b : Bool) → inside_stripe g end ≡ b → (c : Bool) → eqb d drive ≡ c → Memᴰ e (pick (b && c) (entry ∷ []) []) → (b ≡ true) × (d ≡ drive) × (e ≡ entry)
      go true p true q (Memᴰ.head m) = (refl, eqb-true d drive q, m)
      go true p true q (mathlib.Core.List.Memᴰ.tail x7) = elim x7 [ ]
      go true p false q m = mem_nil e m
      go false p c q m = mem_nil e m

  entry_reads : (d : ℕ) → d ≡ drive → inside_stripe g end ≡ true → Reads g d true entry.head
  entry_reads d e i = rw entry_head (reads g ok d true (entry_header g z (γ.generation z) end) room legal)
    where
      room : FieldsFit g (entry_header g z (γ.generation z) end)
      room = (wk.zone_ok, omega (arith, ltb-true (stripe_of g.drives g.unit end * stripe_sectors g) end i, end_fits), rw fill_end end_fits, generation_small (γ.generation z) here.live.generation_top)

      legal : fits_log g d true (entry_header g z (γ.generation z) end) ≡ true
      legal =
          let k = ltb-true (stripe_of g.drives g.unit end * stripe_sectors g) end i in
          rw (
            lt-ltb z g.zones wk.zone_ok,
            lt-ltb (stripe_of g.drives g.unit end * stripe_sectors g) (zone_sectors g) (omega (arith, k, end_fits)),
            lt-ltb 0 (fill_of g end) (omega (arith, k)),
            lt-ltb (fill_of g end) (stripe_sectors g) (omega (arith, stripe_above g.drives g.unit z h_d h_u end)),
            eq-eqb d drive e,
          )
          refl

  logged_lawful : (d : ℕ) → WellFormedLog g d true (logged d)
  logged_lawful d = go (inside_stripe g end) refl (eqb d drive) refl
    where
      go : (b : Bool) → inside_stripe g end ≡ b → (c : Bool) → eqb d drive ≡ c → WellFormedLog g d true (pick (b && c) (entry ∷ []) [])
      go true p true q = (entry_reads d (eqb-true d drive q) p, inl (entry_whole d), tt)
      go true p false q = tt
      go false p c q = tt

  -- ---- the ghosts after
  next : Ghost
  next = record { laid = set_at γ.laid z all; generation = γ.generation; general = γ.general; parity = λ d. γ.parity d ++ logged d; array = γ.array; closed = γ.closed }

  next_laid : next.laid z ≡ all
  unfolding next
  next_laid = rw (eq-eqb z z refl) refl

  laid_other : (y : ℕ) → y ≢ z → next.laid y ≡ γ.laid y
  unfolding next
  laid_other y n = rw (ne_eqb y z n) refl

  in_next : (d : ℕ) (e : Entry) → Memᴰ e (γ.parity d ++ logged d) → Memᴰ e (γ.parity d) ⊎ Logged d e
  in_next d e m = go (mem_append (γ.parity d) (logged d) e m)
    where
      go : Memᴰ e (γ.parity d) ⊎ Memᴰ e (logged d) → Memᴰ e (γ.parity d) ⊎ Logged d e
      go (inl k) = inl k
      go (inr k) = inr (in_logged d e k)

  whole_now : (d : ℕ) → Here g x d → (e : Entry) → Memᴰ e (γ.parity d ++ logged d) → Whole g d true e
  whole_now d a e m = go (in_next d e m)
    where
      go : Memᴰ e (γ.parity d) ⊎ Logged d e → Whole g d true e
      go (inl k) = r.whole d a e k
      go (inr k) = rw k.2 (entry_whole d)

  extent_logged : (d : ℕ) → Here g x d → length (v d parity_zone).sectors + log_extent g d true (logged d) ≤ g.capacity
  extent_logged d a = go (inside_stripe g end) refl (eqb d drive) refl
    where
      go : (b : Bool) → inside_stripe g end ≡ b → (c : Bool) → eqb d drive ≡ c → length (v d parity_zone).sectors + log_extent g d true (pick (b && c) (entry ∷ []) []) ≤ g.capacity
      go true p true q =
          let e : d ≡ drive = eqb-true d drive q in
          let k : inside_stripe g end ≡ true → present_but g x drive ≡ true → length (v drive parity_zone).sectors + (suc (min (fill_of g end) g.unit) + (g.zones * (1 + g.unit) + g.unit)) ≤ g.capacity = rw here.pointer_is wk.room in
          let c : rows_of g entry.head ≡ min (fill_of g end) g.unit = ap (rows_of g) entry_head in
          let f = k p (rw (← e) a) in
          rw (c, e) (omega (arith, f))
      go true p false q = omega (arith, r.logs.place_fits d parity_zone a (omega arith))
      go false p c q = omega (arith, r.logs.place_fits d parity_zone a (omega arith))

  logs_now : LogsOk g x after next
  unfolding next
  logs_now = record {
    lost_ok = r.logs.lost_ok;
    array_lt = r.logs.array_lt;
    general_is = λ d a. sectors_other d general_zone a (λ e. omega arith) (λ e. omega arith) ∙ r.logs.general_is d a;
    general_reads = r.logs.general_reads;
    first = r.logs.first;
    first_lasts = λ d a. rw (keep_now d general_zone a) (r.logs.first_lasts d a);
    arrays = r.logs.arrays;
    labels = λ d a. rw (keep_now d general_zone a) (r.logs.labels d a);
    general_closes = r.logs.general_closes;
    general_closed = λ d a. rw (keep_now d general_zone a) (r.logs.general_closed d a);
    parity_closes = λ d a e m j n q. close d a e j n q (in_next d e m);
    parity_closed_lem = λ d a p. rw (keep_now d parity_zone a) (cut_joins g d true (γ.parity d) (logged d) (v d parity_zone).durable (closing_entry 1 (γ.closed d).1) (r.logs.parity_closed_lem d a p));
    parity_is = sectors_log;
    parity_lawful = λ d a. lawful_joins g d true (γ.parity d) (logged d) (r.whole d a) (r.logs.parity_lawful d a) (logged_lawful d);
    parity_fits = λ d a. extents d a;
    lasting = λ d y a h. rw (after_is d y a, length-append) (omega (arith, r.logs.lasting d y a h));
    place_fits = λ d y a h. fit d y a h (ℕ_discrete y (data_zone z)) (ℕ_discrete y parity_zone);
  }
    where
      close : (d : ℕ) → Here g x d → (e : Entry) (j n : ℕ) → e.head ≡ closing j n → Memᴰ e (γ.parity d) ⊎ Logged d e → n ≡ (γ.closed d).1
      close d a e j n q (inl m) = r.logs.parity_closes d a e m j n q
      close d a e j n q (inr k) = let p : e.head ≡ entry.head = ap (λ (t : Entry). t.head) k.2 in let s = entry_head in absurd (let o : ◌≡◌ {A = ℕ} 0 1 = cc in omega arith)

      extents : (d : ℕ) → Here g x d → log_extent g d true (γ.parity d ++ logged d) ≤ g.capacity
      extents d a =
          let q : log_extent g d true (γ.parity d) ≡ length (v d parity_zone).sectors = extent_whole g d true (γ.parity d) (r.whole d a) ∙ ap (λ (t : List (List ℕ)). length t) (sym (r.logs.parity_is d a)) in
          rw (extent_append g d true (γ.parity d) (logged d)) (omega (arith, q, extent_logged d a))

      fit : (d y : ℕ) → Here g x d → y < physical_zones g → Dec (y ≡ data_zone z) → Dec (y ≡ parity_zone) → length (after d y).sectors ≤ g.capacity
      fit d y a h (yes e) p = rw (e, length_now d a) (needed_fits g ok z (length all) d (rw length-append end_fits))
      fit d y a h (no e) (yes p) = rw (p, sectors_log d a, ← extent_whole g d true (γ.parity d ++ logged d) (whole_now d a)) (extents d a)
      fit d y a h (no e) (no p) = rw (sectors_other d y a e p) (r.logs.place_fits d y a h)

  -- ---- the zone after
  content_now : (after_write l z ss).content z ≡ all
  content_now = rw (eq-eqb z z refl) refl

  size_append : (xs ys : List (List ℕ)) → ((a : ℕ) → a < length xs → length (at xs a) ≡ g.sector) → ((a : ℕ) → a < length ys → length (at ys a) ≡ g.sector) → (a : ℕ) → a < length (xs ++ ys) → length (at (xs ++ ys) a) ≡ g.sector
  size_append [] ys h k a q = k a q
  size_append (y ∷ xs) ys h k zero q = h zero (omega arith)
  size_append (y ∷ xs) ys h k (suc a) q = size_append xs ys (λ b m. h (suc b) (omega arith)) k a (omega arith)

  length_all : length all ≡ end
  length_all = length-append old ss

  tells_grows : (s f : ℕ) (rows : List (List ℕ)) → TrueRows g old s f rows → TrueRows g all s f rows
  tells_grows s f rows t = record {
    within = omega (arith, t.within, length_all);
    rows_are = λ i h. t.rows_are i h ∙ row_xor_below_cong g.drives g.unit (at old) (at all) s (s * stripe_sectors g + f) i (λ a k. sym (get_or-append old ss [] a (omega (arith, k, t.within))));
  }

  tells_new : TrueRows g all (stripe_of g.drives g.unit end) (fill_of g end) entry.rows
  tells_new = record {
    within = omega (arith, fill_end, length_all);
    rows_are = λ i h.
        let k : i < min (fill_of g end) g.unit = rw (entry_rows_lem, length_tabulate_from) at h in
        let e : zero + i ≡ i = omega arith in
        ap (λ (t : List (List ℕ)). get_or t i []) entry_rows_lem
        ∙ get_d_tabulate_from (row_xor_below g.drives g.unit (at all) (stripe_of g.drives g.unit end) end) zero (min (fill_of g end) g.unit) i k
        ∙ rw (e, fill_end) refl;
  }

  live_now : Live g x after next (after_write l z ss) z
  unfolding next
  live_now = record {
    sizes = rw next_laid (size_append old ss (rw (← plain.all_content) here.live.sizes) wk.sizes);
    fits = rw (next_laid, length_all) end_fits;
    generation_top = here.live.generation_top;
    committed_most = rw (content_now, length_all) (omega (arith, here.live.committed_most));
    front = rw (content_now, next_laid) (prefix_refl all);
    capped = inl (rw (content_now, next_laid) refl);
    places = λ d a. rw (next_laid, column_now d a) (prefix_refl (column g.drives g.unit z all d));
    tells = λ d a e m s f q. rw next_laid (told d a e s f q (in_next d e m));
    seals = λ d a c m. absurd (plain.no_seal d a c m);
    alone = λ d e a b c m p n q f s t. absurd (plain.no_seal d a c m);
    strong = record {
      places = λ d a. rw (keep_now d (data_zone z) a) (here.live.strong.places d a);
      entry = λ i a.
          let p = parity_drive_at g z (l.committed z) in
          let (e, q, s, t) = here.live.strong.entry i a in
          (e, rw (keep_now p parity_zone a) (cut_joins g p true (γ.parity p) (logged p) (v p parity_zone).durable e q), s, t);
    };
    counts = λ d a j h. here.live.counts d a j (rw (← keep_now d general_zone a) h);
    no_reset = here.live.no_reset;
    entries = record { in_general_lem = here.live.entries.in_general_lem; in_parity_lem = λ d a e m. new d a e (in_next d e m) };
    worn_empty = λ q. absurd (omega (arith, plain.unworn, q));
  }
    where
      told : (d : ℕ) → Here g x d → (e : Entry) (s f : ℕ) → e.head ≡ partial_parity z s f (γ.generation z) → Memᴰ e (γ.parity d) ⊎ Logged d e
          → TrueRows g all s f e.rows ⊎ CappedBelow g x after next z (s * stripe_sectors g + f)
      told d a e s f q (inl m) = inl (go (here.live.tells d a e m s f q))
        where
          go : TrueRows g (γ.laid z) s f e.rows ⊎ CappedBelow g x v γ z (s * stripe_sectors g + f) → TrueRows g all s f e.rows
          go (inl t) = tells_grows s f e.rows (rw (← plain.all_content) t)
          go (inr c) = let (b, p, i) = c.1 d a in absurd (plain.no_seal d a b (mem_take (v d general_zone).durable (γ.general d) (seal z b (γ.generation z)) i))
      told d a e s f q (inr m) =
          let p : entry_header g z (γ.generation z) end ≡ partial_parity z s f (γ.generation z) = sym entry_head ∙ ap (λ (t : Entry). t.head) (sym m.2) ∙ q in
          let i : stripe_of g.drives g.unit end ≡ s = cc in
          let j : fill_of g end ≡ f = cc in
          inl (rw (← i, ← j, m.2) tells_new)

      new : (d : ℕ) → Here g x d → (e : Entry) → Memᴰ e (γ.parity d) ⊎ Logged d e → zone_gen e.head (λ y n. y ≡ z → n ≤ γ.generation z)
      new d a e (inl m) = here.live.entries.in_parity_lem d a e m
      new d a e (inr m) = subst (λ (t : Header). zone_gen t (λ y n. y ≡ z → n ≤ γ.generation z)) (sym (ap (λ (t : Entry). t.head) m.2 ∙ entry_head)) (λ q. le_refl (γ.generation z))

  newest : inside_stripe g end ≡ true → Here g x drive → (e : Entry) × Memᴰ e (γ.parity drive ++ logged drive) × Whole g drive true e × (e.head ≡ entry_header g z (γ.generation z) end)
  newest i a =
      let q : logged drive ≡ entry ∷ [] = rw (i, eq-eqb drive drive refl) refl in
      (entry, mem_right (γ.parity drive) (logged drive) entry (rw q (Memᴰ.head refl)), entry_whole drive, entry_head)

  zone_now_lem : RestZone g x after (write_state x state z (length ss)) (after_write l z ss) next z
  unfolding next
  zone_now_lem = record {
    live = live_now;
    generation_is = here.generation_is;
    pointer_is = rw (content_now, length_all, eq-eqb z z refl, ← here.pointer_is) refl;
    strong_now = rw (content_now) (record {
      places = λ d a. le_of_eq (sym (length_now d a));
      entry = rw length_all newest;
    });
    shape = rw (eq-eqb z z refl) (record {
      all_content = rw (content_now, next_laid) refl;
      just = λ d a. rw (content_now) (length_now d a);
      no_seal = plain.no_seal;
      unworn = plain.unworn;
    });
    sectors = rw (eq-eqb z z refl) (omega (arith, wk.some));
    no_flag = here.no_flag;
  }

  -- ---- any other zone
  others : (y : ℕ) → y < g.zones → y ≢ z → RestZone g x after (write_state x state z (length ss)) (after_write l z ss) next y
  unfolding next
  others y h n = untouched_rest g x v after γ next l (after_write l z ss) y r.logs k state (write_state x state z (length ss)) refl (rw (ne_eqb y z n) refl) refl same (λ d a e m. mem_left (γ.parity d) (logged d) e m) (r.zones y h)
    where
      same : (d : ℕ) → Here g x d → (after d (data_zone y)).sectors ≡ (v d (data_zone y)).sectors
      same d a = sectors_other d (data_zone y) a (λ e. n (omega arith)) (λ e. omega arith)

      new : (d : ℕ) (e : Entry) → Memᴰ e (γ.parity d) ⊎ Logged d e → Left g d true e (γ.parity d) ⊎ Other y e.head
      new d e (inl m) = inl (record { of = e; is_set = m; heads = refl; many = length e.rows; rows_are = sym (take-length e.rows) })
      new d e (inr m) = inr (subst (λ (t : Header). Other y t) (sym (ap (λ (t : Entry). t.head) m.2 ∙ entry_head)) (λ q. n (sym q)))

      k : Untouched g x v after γ next l (after_write l z ss) y
      k = record {
        generation_is = refl;
        laid_is = laid_other y n;
        content_is = rw (ne_eqb y z n) refl;
        committed_is = refl;
        flag_stays = λ q. q;
        general_new = λ d a f m. inl m;
        general_lasts_lem = λ d a f m. rw (keep_now d general_zone a) m;
        general_cuts = λ d a j q. (j, rw (← keep_now d general_zone a) q, refl);
        parity_new = λ d a e m. new d e (in_next d e m);
        parity_lasts_lem = λ d a e q m. rw (keep_now d parity_zone a) (cut_joins g d true (γ.parity d) (logged d) (v d parity_zone).durable e m);
        data_sub = λ d a. rw (same d a) (prefix_refl (v d (data_zone y)).sectors);
        data_lasts = λ d a. le_of_eq (sym (keep_now d (data_zone y) a));
      }

  rest_now : Rest g x after (write_state x state z (length ss)) (after_write l z ss) next
  unfolding next
  rest_now = record {
    logs = logs_now;
    zones = λ y h. zone y h (ℕ_discrete y z);
    whole = whole_now;
    lost_is = inr refl;
  }
    where
      zone : (y : ℕ) → y < g.zones → Dec (y ≡ z) → RestZone g x after (write_state x state z (length ss)) (after_write l z ss) next y
      zone y h (yes e) = rw e zone_now_lem
      zone y h (no n) = others y h n

  pub finished : (δ : Ghost) × Rest g x (apply_all (write_stores g (present_but g x) v state z ss) v) (write_state x state z (length ss)) (after_write l z ss) δ × (δ.closed ≡ γ.closed)
  unfolding after next
  finished = (next, rest_now, refl)

  pub stopped : (n : ℕ) → (δ : Ghost) × Inv g x (apply_all (take n (write_stores g (present_but g x) v state z ss)) v) (after_write l z ss) δ × (δ.closed ≡ γ.closed)
  unfolding next
  stopped n = inv_part g x after (apply_all (take n (write_stores g (present_but g x) v state z ss)) v) (after_write l z ss) next (rest_inv g x after (write_state x state z (length ss)) (after_write l z ss) next rest_now) (stop_parts n)

pub write_keeps : (g : Geometry) → Valid g → WriteKeeps g
write_keeps g ok c x v state l z ss n (γ, r, e) w = let (δ, j, p) = stopped g ok x v state l γ r z ss w n in (δ, j, p ∙ e)

pub write_rests : (g : Geometry) → Valid g → WriteRests g
write_rests g ok c x v state l z ss (γ, r, e) w = let (δ, j, p) = finished g ok x v state l γ r z ss w in (δ, j, p ∙ e)
