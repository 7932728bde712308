-- The spare zone of a drive takes a log that is emptied, and nothing else: a call's own stores, and a mount's steps by its look, name other zones. So,
-- stopped anywhere, they leave its sectors as they were (`still`), and a format leaves none there (`format_clears`). On any input.
use Rattle.std.specs.Prelude.{◌≡◌, refl, ◌≢◌, ◌⊎◌, Bool, true, false, ◌&&◌, ◌||◌, not, ℕ, zero, suc, ◌+◌, ◌-◌, ◌%◌, ◌<◌, length, take, eqb, ltb}
use Rattle.std.proofs.Common.{sym, ap, ◌∙◌, inl, inr, arith, eq-eqb, ne_eqb}
use mathlib.Core.List.{List, [], ◌∷◌, ◌++◌, Memᴰ}
use Rattle.tables.specs.declared.Geometry.{Geometry}
use Rattle.tables.specs.meaning.Basics.{pick}
use Rattle.tables.specs.meaning.Below.{each_below, tabulate_from, any_below}
use Rattle.tables.specs.meaning.Lists.{concat, is_nil, any_of}
use Rattle.tables.specs.laws.Lists.{mem_append, mem_nil, mem_take}
use Rattle.tables.specs.meaning.Geometry.{physical_zones, data_zone}
use Rattle.tables.specs.meaning.Placement.{stripe_of, stripe_length, drive_of, parity_drive, needed}
use Rattle.tables.specs.meaning.Device.{ZoneView, Device, Store, append, reset, flush, store_drive, appended, blank_zone, flushed, apply, apply_all}
use Rattle.tables.specs.laws.Device.{apply_all_append, put_zone_other_zone}
use Rattle.tables.specs.meaning.Phases.{on_present, each_on_present, flush_all}
use Rattle.tables.specs.laws.Local.{LocalStore, reset_here, local_stores, apply_all_here, local_is}
use Rattle.tables.specs.laws.Phases.{on_present_local, each_below_own, each_below_at, each_below_unseen}
use Rattle.logs.specs.meaning.Entry.{general_zone, parity_zone, spare_zone, Header, label, counters, encode, Entry}
use Rattle.logs.specs.meaning.Walk.{sectors_of}
use Rattle.volume.specs.meaning.State.{StateView, pointer_in, is_empty, is_sealed}
use Rattle.volume.specs.meaning.Content.{row_xor, entry_at, inside_stripe, parity_drive_at, content_at}
use Rattle.volume.specs.meaning.Rules.{Shown, general_heads, parity_ending, parity_entries}
use Rattle.volume.specs.meaning.Calls.{append_all, append_general, parity_stores, sector_stores, data_stores, entry_stores, write_with, zone_content, write_stores, flush_stores, reset_phases, reset_stores, generations_from, format_stores, logs_reset}
use Rattle.volume.specs.meaning.Mount.{label_step, reset_entry_step, zone_reset_step, counter_step, seal_step, torn_row_step, fill_step, entry_step, with_flush, with_flushes, steps_before_entries, needs_reset, counters_differ, missing_rows}
use Rattle.tables.specs.meaning.Drives.{no_drive}
use Rattle.logs.specs.meaning.Heads.{last_lost, is_seal_at, ends_at}

abbrev Elsewhere : Store → Type 0
Elsewhere (append d z s) = z ≢ spare_zone
Elsewhere (reset d z) = z ≢ spare_zone
Elsewhere (flush d) = Unit {0}

-- no store is to a spare zone
pub record KeepsOff (xs : List Store) : Type 0 where
  pub each : (s : Store) → Memᴰ s xs → Elsewhere s

-- ---- THE LAW: then its sectors are as they were
rest_of : (x : Store) (xs : List Store) → KeepsOff (x ∷ xs) → KeepsOff xs
rest_of x xs p = record { each = λ s m. p.each s (Memᴰ.tail m) }

store_still : (x : Store) (v : Device) (d : ℕ) → Elsewhere x → (apply x v d spare_zone).sectors ≡ (v d spare_zone).sectors
store_still (append e z s) v d n = ap (λ (a : ZoneView). a.sectors) (put_zone_other_zone v e z (appended s (v e z)) d spare_zone (λ q. n (sym q)))
store_still (reset e z) v d n = ap (λ (a : ZoneView). a.sectors) (put_zone_other_zone v e z blank_zone d spare_zone (λ q. n (sym q)))
store_still (flush e) v d n = go (eqb d e)
  where
    go : (b : Bool) → (pick b (flushed (v d spare_zone)) (v d spare_zone)).sectors ≡ (v d spare_zone).sectors
    go true = refl
    go false = refl

pub all_still : (xs : List Store) (v : Device) (d : ℕ) → KeepsOff xs → (apply_all xs v d spare_zone).sectors ≡ (v d spare_zone).sectors
all_still [] v d p = refl
all_still (x ∷ xs) v d p = all_still xs (apply x v) d (rest_of x xs p) ∙ store_still x v d (p.each x (Memᴰ.head refl))

pub still : (n : ℕ) (xs : List Store) (v : Device) (d : ℕ) → KeepsOff xs → (apply_all (take n xs) v d spare_zone).sectors ≡ (v d spare_zone).sectors
still n xs v d p = all_still (take n xs) v d (record { each = λ s m. p.each s (mem_take n xs s m) })

-- ---- lists of such stores
off_nil : KeepsOff []
off_nil = record { each = λ s m. mem_nil s m }

off_cons : (x : Store) (xs : List Store) → Elsewhere x → KeepsOff xs → KeepsOff (x ∷ xs)
off_cons x xs h p = record { each = go }
  where
    go : (s : Store) → Memᴰ s (x ∷ xs) → Elsewhere s
    go s (Memᴰ.head q) = rw q h
    go s (Memᴰ.tail m) = p.each s m

off_append : (xs ys : List Store) → KeepsOff xs → KeepsOff ys → KeepsOff (xs ++ ys)
off_append xs ys p q = record { each = λ s m. go s (mem_append xs ys s m) }
  where
    go : (s : Store) → Memᴰ s xs ⊎ Memᴰ s ys → Elsewhere s
    go s (inl m) = p.each s m
    go s (inr m) = q.each s m

off_pick : (b : Bool) (xs : List Store) → KeepsOff xs → KeepsOff (pick b xs [])
off_pick true xs p = p
off_pick false xs p = off_nil

off_each : (f : ℕ → List Store) (n : ℕ) → ((k : ℕ) → KeepsOff (f k)) → KeepsOff (each_below f n)
off_each f zero h = off_nil
off_each f (suc n) h = off_append (each_below f n) (f n) (off_each f n h) (h n)

off_flushes : (n : ℕ) → KeepsOff (flush_all n)
off_flushes zero = off_nil
off_flushes (suc n) = off_append (flush_all n) (flush n ∷ []) (off_flushes n) (off_cons (flush n) [] tt off_nil)

off_present : (present : ℕ → Bool) (xs : List Store) → KeepsOff xs → KeepsOff (on_present present xs)
off_present present [] p = off_nil
off_present present (x ∷ xs) p = go (present (store_drive x)) (off_present present xs (rest_of x xs p))
  where
    go : (b : Bool) → KeepsOff (on_present present xs) → KeepsOff (pick b (x ∷ on_present present xs) (on_present present xs))
    go true q = off_cons x (on_present present xs) (p.each x (Memᴰ.head refl)) q
    go false q = q

off_appends : (d y : ℕ) (ss : List (List ℕ)) → y ≢ spare_zone → KeepsOff (append_all d y ss)
off_appends d y [] n = off_nil
off_appends d y (s ∷ ss) n = off_cons (append d y s) (append_all d y ss) n (off_appends d y ss n)

-- ---- the logs and the logical zones are other zones
data_other : (z : ℕ) → data_zone z ≢ spare_zone
data_other z e = omega (arith, e)

parity_other : parity_zone ≢ spare_zone
parity_other e = omega (arith, e)

off_general : (g : Geometry) (h : Header) (d : ℕ) → KeepsOff (append_general g h d)
off_general g h d = off_cons (append d general_zone (encode g d h)) [] (λ e. omega (arith, e)) off_nil

off_reset : (d z : ℕ) → KeepsOff (reset d (data_zone z) ∷ [])
off_reset d z = off_cons (reset d (data_zone z)) [] (data_other z) off_nil

-- ---- phases one after the other
record AllKeepOff (ps : List (List Store)) : Type 0 where
  pub each : (p : List Store) → Memᴰ p ps → KeepsOff p

phases_nil : AllKeepOff []
phases_nil = record { each = λ p m. mem_nil p m }

phases_cons : (p : List Store) (ps : List (List Store)) → KeepsOff p → AllKeepOff ps → AllKeepOff (p ∷ ps)
phases_cons p ps h k = record { each = go }
  where
    go : (q : List Store) → Memᴰ q (p ∷ ps) → KeepsOff q
    go q (Memᴰ.head e) = rw e h
    go q (Memᴰ.tail m) = k.each q m

phases_rest : (p : List Store) (ps : List (List Store)) → AllKeepOff (p ∷ ps) → AllKeepOff ps
phases_rest p ps h = record { each = λ q m. h.each q (Memᴰ.tail m) }

phases_append : (ps qs : List (List Store)) → AllKeepOff ps → AllKeepOff qs → AllKeepOff (ps ++ qs)
phases_append ps qs h k = record { each = λ p m. go p (mem_append ps qs p m) }
  where
    go : (p : List Store) → Memᴰ p ps ⊎ Memᴰ p qs → KeepsOff p
    go p (inl m) = h.each p m
    go p (inr m) = k.each p m

phases_present : (present : ℕ → Bool) (ps : List (List Store)) → AllKeepOff ps → AllKeepOff (each_on_present present ps)
phases_present present [] h = phases_nil
phases_present present (p ∷ ps) h = phases_cons (on_present present p) (each_on_present present ps) (off_present present p (h.each p (Memᴰ.head refl))) (phases_present present ps (phases_rest p ps h))

off_concat : (ps : List (List Store)) → AllKeepOff ps → KeepsOff (concat ps)
off_concat [] h = off_nil
off_concat (p ∷ ps) h = off_append p (concat ps) (h.each p (Memᴰ.head refl)) (off_concat ps (phases_rest p ps h))

-- ---- THE CALLS
off_data : (D U z : ℕ) (S : ℕ → List ℕ) (a k : ℕ) → KeepsOff (data_stores D U z S a k)
off_data D U z S a zero = off_nil
off_data D U z S a (suc k) =
    let parity = off_appends (parity_drive D z (stripe_of D U a)) (data_zone z) (tabulate_from (row_xor D U S (stripe_of D U a)) zero U) (data_other z) in
    off_append (sector_stores D U z S a) (data_stores D U z S (suc a) k)
    (off_cons (append (drive_of D U z a) (data_zone z) (S a)) _ (data_other z) (off_pick (eqb (suc (a % stripe_length D U)) (stripe_length D U)) (parity_stores D U z S (stripe_of D U a)) parity))
    (off_data D U z S (suc a) k)

pub write_keeps_off : (g : Geometry) (present : ℕ → Bool) (v : Device) (state : StateView) (z : ℕ) (ss : List (List ℕ)) → KeepsOff (write_stores g present v state z ss)
unfolding write_stores write_with
write_keeps_off g present v state z ss =
    let n = pointer_in (state.condition z) in
    let m = n + length ss in
    let S = zone_content g present v state z ss in
    let entry = off_appends (parity_drive_at g z m) parity_zone (sectors_of g (parity_drive_at g z m) true (entry_at g z (state.generation z) S m)) parity_other in
    off_present present (write_with g z (state.generation z) S n (length ss)) (off_append (data_stores g.drives g.unit z S n (length ss)) _ (off_data g.drives g.unit z S n (length ss)) (off_pick (inside_stripe g m) (entry_stores g z (state.generation z) S m) entry))

pub flush_keeps_off : (g : Geometry) (present : ℕ → Bool) → KeepsOff (flush_stores g present)
unfolding flush_stores
flush_keeps_off g present = off_present present (flush_all g.drives) (off_flushes g.drives)

pub reset_keeps_off : (g : Geometry) (present : ℕ → Bool) (state : StateView) (z : ℕ) → KeepsOff (reset_stores g present state z)
unfolding reset_stores
reset_keeps_off g present state z = off_concat (each_on_present present (reset_phases g state z)) (phases_present present (reset_phases g state z)
    (phases_cons _ _ (off_each _ g.drives (λ d. off_pick (logs_reset g z d) _ (off_general g _ d)))
    (phases_cons _ _ (off_flushes g.drives)
    (phases_cons _ _ (off_each _ g.drives (λ d. off_reset d z))
    (phases_cons _ _ (off_flushes g.drives)
    (phases_cons _ _ (off_each _ g.drives (λ d. off_general g _ d))
    (phases_cons _ _ (off_flushes g.drives) phases_nil)))))))

-- ---- a mount, step by step
-- of each drive and zone, where a test holds
off_where : (test : ℕ → ℕ → Bool) (f : ℕ → ℕ → List Store) (D L : ℕ) → ((d z : ℕ) → KeepsOff (f d z)) → KeepsOff (each_below (λ d. each_below (λ z. pick (test d z) (f d z) []) L) D)
off_where test f D L h = off_each _ D (λ d. off_each _ L (λ z. off_pick (test d z) (f d z) (h d z)))

off_labels : (g : Geometry) (x : ℕ) (k : Shown) (w : Device) → KeepsOff (label_step g x k w)
unfolding label_step
off_labels g x k w = off_each _ g.drives (λ d. off_pick (ltb x g.drives && not (eqb (last_lost no_drive (general_heads g w d)) x)) _ (off_general g _ d))

off_reset_entries : (g : Geometry) (k : Shown) → KeepsOff (reset_entry_step g k)
unfolding reset_entry_step
off_reset_entries g k = off_where (λ d z. (k.zone z).by_reset && logs_reset g z d) _ g.drives g.zones (λ d z. off_general g _ d)

off_zone_resets : (g : Geometry) (k : Shown) → KeepsOff (zone_reset_step g k)
unfolding zone_reset_step
off_zone_resets g k = off_where (λ d z. needs_reset (k.zone z)) _ g.drives g.zones off_reset

off_counters : (g : Geometry) (k : Shown) (differ : Bool) → KeepsOff (counter_step g k differ)
unfolding counter_step
off_counters g k differ = off_pick (any_below (λ z. is_empty (k.zone z).condition) g.zones || differ) _ (off_each _ g.drives (λ d. off_general g _ d))

off_seals : (g : Geometry) (k : Shown) (w : Device) → KeepsOff (seal_step g k w)
unfolding seal_step
off_seals g k w = off_where (λ d z. is_sealed (k.zone z).condition && not (any_of (is_seal_at z (k.zone z).generation (k.zone z).pointer) (general_heads g w d))) _ g.drives g.zones (λ d z. off_general g _ d)

off_torn_rows : (g : Geometry) (k : Shown) (w : Device) → KeepsOff (torn_row_step g k w)
unfolding torn_row_step
off_torn_rows g k w = off_each _ g.drives (λ d. off_appends d parity_zone (missing_rows g k (parity_ending g w d)) parity_other)

off_fill : (g : Geometry) (k : Shown) (w : Device) → KeepsOff (fill_step g k w)
unfolding fill_step
off_fill g k w = off_each _ g.drives (λ d. off_each _ g.zones (λ z. let n = length (w d (data_zone z)).sectors in
    off_appends d (data_zone z) (tabulate_from (content_at g.drives g.unit z (k.zone z).value d) n (needed g.drives g.unit z (k.zone z).pointer d - n)) (data_other z)))

off_entries : (g : Geometry) (k : Shown) (u : Device) → KeepsOff (entry_step g k u)
unfolding entry_step
off_entries g k u =
    let rows : ℕ → ℕ → List (List ℕ) = λ d z. sectors_of g d true (entry_at g z (k.zone z).generation (k.zone z).value (k.zone z).pointer) in
    off_where (λ d z. inside_stripe g (k.zone z).pointer && (eqb d (parity_drive_at g z (k.zone z).pointer) && not (any_of (λ (e : Entry). ends_at g z (k.zone z).generation (k.zone z).pointer e.head) (parity_entries g u d))))
    (λ d z. append_all d parity_zone (rows d z)) g.drives g.zones (λ d z. off_appends d parity_zone (rows d z) parity_other)

off_with_flush : (g : Geometry) (present : ℕ → Bool) (xs : List Store) → KeepsOff xs → AllKeepOff (with_flush g present xs)
off_with_flush g present xs h = phases_cons _ _ (off_present present xs h) (phases_cons _ _ (go (is_nil (on_present present xs))) phases_nil)
  where
    go : (b : Bool) → KeepsOff (pick b [] (on_present present (flush_all g.drives)))
    go true = off_nil
    go false = off_present present (flush_all g.drives) (off_flushes g.drives)

off_with_flushes : (g : Geometry) (present : ℕ → Bool) (ps : List (List Store)) → AllKeepOff ps → AllKeepOff (with_flushes g present ps)
off_with_flushes g present [] h = phases_nil
off_with_flushes g present (p ∷ ps) h = phases_append (with_flush g present p) (with_flushes g present ps) (off_with_flush g present p (h.each p (Memᴰ.head refl))) (off_with_flushes g present ps (phases_rest p ps h))

pub steps_keep_off : (g : Geometry) (present : ℕ → Bool) (x : ℕ) (k : Shown) (w : Device) → KeepsOff (concat (with_flushes g present (steps_before_entries g present x k w)))
steps_keep_off g present x k w = off_concat _ (off_with_flushes g present _
    (phases_cons _ _ (off_labels g x k w) (phases_cons _ _ (off_reset_entries g k) (phases_cons _ _ (off_zone_resets g k) (phases_cons _ _ (off_counters g k (counters_differ g present w)) (phases_cons _ _ (off_seals g k w) (phases_cons _ _ (off_torn_rows g k w) (phases_cons _ _ (off_fill g k w) phases_nil))))))))

pub entries_keep_off : (g : Geometry) (present : ℕ → Bool) (k : Shown) (u : Device) → KeepsOff (concat (with_flush g present (entry_step g k u)))
entries_keep_off g present k u = off_concat _ (off_with_flush g present _ (off_entries g k u))

-- ---- A FORMAT resets it, and then keeps off it
pub format_clears : (g : Geometry) (present : ℕ → Bool) (x a : ℕ) (v : Device) (d : ℕ) → d < g.drives → present d ≡ true → (apply_all (format_stores g present x a) v d spare_zone).sectors ≡ []
unfolding format_stores
format_clears g present x a v d hd here =
    let flushes = on_present present (flush_all g.drives) in
    let later = flushes ++ (on_present present (each_below begins g.drives) ++ (flushes ++ [])) in
    let off = off_present present _ (off_flushes g.drives) in
    let w = apply_all (on_present present (each_below wipes g.drives)) v in
    ap (λ (u : Device). (u d spare_zone).sectors) (apply_all_append (on_present present (each_below wipes g.drives)) later v)
    ∙ all_still later w d (off_append _ _ off (off_append _ _ (off_present present _ (off_each begins g.drives (λ k. off_append _ _ (off_general g (label x a) k) (off_general g ones k)))) (off_append _ _ off off_nil)))
    ∙ ap (λ (z : ZoneView). z.sectors) (local_is d spare_zone (on_present present (each_below wipes g.drives)) v ∙ ap (λ (os : List LocalStore). apply_all_here os (v d spare_zone)) (on_present_local present d spare_zone (each_below wipes g.drives) here ∙ wiped))
  where
    ones : Header
    ones = counters (generations_from (λ z. 1) zero g.zones)

    wipes : ℕ → List Store
    wipes k = each_below (λ y. reset k y ∷ []) (physical_zones g)

    begins : ℕ → List Store
    begins k = append_general g (label x a) k ++ append_general g ones k

    wiped : local_stores d spare_zone (each_below wipes g.drives) ≡ reset_here ∷ []
    wiped =
        each_below_own wipes d spare_zone (λ k n. each_below_unseen (λ y. reset k y ∷ []) d spare_zone (λ y. rw (ne_eqb d k n) refl) (physical_zones g)) g.drives hd
        ∙ each_below_at (λ y. reset d y ∷ []) d spare_zone spare_zone (λ y n. rw (eq-eqb d d refl, ne_eqb spare_zone y n) refl) (physical_zones g) (omega arith)
        ∙ rw (eq-eqb d d refl) refl
