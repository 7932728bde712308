-- The logs of a kind emptied drive by drive (src/emptyings.rt). Each emptying reads what was there at the call's start, since the stores of those before it leave
-- all of that alone. Carried to where the logs lie afterwards, they are the stores of the rules.
use Rattle.std.specs.Prelude.{◌≡◌, refl, Bool, true, false, ℕ, zero, suc, ◌+◌, ◌≤◌, ◌<◌, List, [], ◌∷◌, ◌++◌, map, length, take}
use Rattle.std.proofs.Common.{◌∙◌, subst, le_refl, arith}
use Rattle.tables.specs.declared.Geometry.{Geometry}
use Rattle.tables.specs.meaning.Basics.{pick}
use Rattle.tables.specs.meaning.Below.{each_below}
use Rattle.tables.specs.meaning.Geometry.{Valid, cells, total_bytes}
use Rattle.tables.specs.meaning.Device.{Store, reset, flush}
use Rattle.tables.specs.meaning.Phases.{flush_all, on_present}
use Rattle.tables.specs.meaning.Tables.{tables_of, zone_place}
use Rattle.tables.specs.laws.Made.{Made}
use Rattle.tables.specs.laws.Counted.{made_nil, made_append}
use Rattle.tables.specs.laws.Lists.{map_append}
use Rattle.logs.specs.meaning.Entry.{spare_zone, kind_of_log, Header, counters, closing, encode}
use Rattle.logs.specs.meaning.Copies.{kept_label}
use Rattle.logs.specs.laws.Legal.{header_long}
use Rattle.volume.specs.declared.emptying.HeaderCopy.TheVariants.{Seal, Reset}
use Rattle.volume.specs.declared.emptying.Emptying.{Emptying}
use Rattle.volume.specs.declared.emptyings.Emptyings.{Emptyings}
use Rattle.volume.specs.meaning.CallContracts.{is_set}
use Rattle.volume.specs.meaning.Calls.{append_all}
use Rattle.volume.specs.meaning.Rules.{general_heads}
use Rattle.volume.specs.meaning.Emptying.{general_copies, emptying_stores}
use Rattle.volume.specs.looking.Knowing.{read_device}
use Rattle.volume.specs.rows.SameShape as rows
use Rattle.volume.specs.rows.KeptBelow.{Behind, StoresIn, StoredKept, stores_in_append, on_present_in, pick_in, made_stored}
use Rattle.volume.specs.emptying.Shape.{SameShape}
use Rattle.volume.specs.emptying.Elsewhere.{SectorsLong, sectors_long_append}
use Rattle.volume.specs.emptying.Moving.{Copying}
use Rattle.volume.specs.emptying.EmptyingStores.{with_closing, emptied_to}
use Rattle.volume.specs.emptying.GeneralCopies.{by_generations, copies_below, copies_are, copies_long, counters_long, kept_label_long}
use Rattle.volume.specs.looking.MovedLogs.{is_emptied, new_generation}

-- one of them
abbrev pub emptying_of : Emptyings → ℕ → Emptying
emptying_of a d = record { from = a.from; to = a.to; here = a.here; drive = d; generation = new_generation a.emptied d }

-- its stores, by `to`, if it is due (ss: the copies)
abbrev pub emptied_on : Emptyings → Bool → List (List ℕ) → ℕ → List Store
emptied_on a par ss d = pick (is_emptied a.emptied d) (emptied_to (emptying_of a d) par ss) []

-- the copies of drive d's general log
abbrev pub new_general_on : Emptyings → List ℕ → List ℕ → List ℕ → ℕ → List (List ℕ)
new_general_on a gs xs ps d = map (encode a.from d) (general_copies a.from (by_generations gs) (general_heads a.from (read_device a.from xs ps) d))

-- ---- what the functions rely on
pub record EmptyingReady (par : Bool) (a : Emptyings) (ps xs ws ds : List ℕ) : Type 0 where
  pub shape : SameShape a.from a.to
  pub moved : (d : ℕ) → d < a.from.drives → is_emptied a.emptied d ≡ true → zone_place a.to d (kind_of_log par) ≡ zone_place a.from d spare_zone
  pub sectors_long : length xs ≡ total_bytes a.from
  pub written_long : length ws ≡ cells a.from
  pub durable_long : length ds ≡ cells a.from
  pub pointers_long : length ps ≡ cells a.from
  pub behind : Behind a.to rows.not_spare ps ws

pub ready_copying : (par : Bool) (a : Emptyings) (ps xs ws ds : List ℕ) (d : ℕ) → EmptyingReady par a ps xs ws ds → d < a.from.drives → is_emptied a.emptied d ≡ true → Copying par (emptying_of a d) ps xs ws
ready_copying par a ps xs ws ds d r hd e = record {
  moves = record { shape = r.shape; drive_in = hd; moved = r.moved d hd e };
  sectors_long = r.sectors_long;
  written_long = r.written_long;
  pointers_long = r.pointers_long;
}

-- ---- its stores leave alone what is read
pub same_shape : (g h : Geometry) → SameShape g h → rows.SameShape g h
same_shape g h s = record { drives_same = s.drives; sector_same = s.sector; unit_same = s.unit; zones_same = s.zones; capacity_same = s.capacity }

log_kept : (par : Bool) → rows.not_spare (kind_of_log par) ≡ true
log_kept true = refl
log_kept false = refl

log_in_lem : (par : Bool) (n : ℕ) → kind_of_log par < n + 3
log_in_lem true n = omega arith
log_in_lem false n = omega arith

module _ (g : Geometry) (d : ℕ) (hd : d < g.drives) where
  appends_in_lem : (par : Bool) (ss : List (List ℕ)) → SectorsLong g.sector ss → StoresIn g rows.not_spare (append_all d (kind_of_log par) ss)
  appends_in_lem par [] l = tt
  appends_in_lem par (s ∷ ss) l = ((hd, log_in_lem par g.zones, l.0, log_kept par), appends_in_lem par ss l.1)

flushes_in : (g : Geometry) (n : ℕ) → n ≤ g.drives → StoresIn g rows.not_spare (flush_all n)
flushes_in g zero h = tt
flushes_in g (suc n) h = stores_in_append g rows.not_spare (flush_all n) (flush n ∷ []) (flushes_in g n (omega arith)) (h, tt)

emptying_in : (g : Geometry) (present : ℕ → Bool) (d : ℕ) (par : Bool) (ss : List (List ℕ)) → d < g.drives → SectorsLong g.sector ss → StoresIn g rows.not_spare (emptying_stores g present d spare_zone (kind_of_log par) ss)
unfolding emptying_stores
emptying_in g present d par ss hd l =
    let flushes = on_present present (flush_all g.drives) in
    let f : StoresIn g rows.not_spare flushes = on_present_in g rows.not_spare present (flush_all g.drives) (flushes_in g g.drives (le_refl g.drives)) in
    let all = append_all d (kind_of_log par) ss in
    stores_in_append g rows.not_spare flushes (all ++ (flushes ++ (reset d spare_zone ∷ []))) f
    (stores_in_append g rows.not_spare all (flushes ++ (reset d spare_zone ∷ [])) (appends_in_lem g d hd par ss l) (stores_in_append g rows.not_spare flushes (reset d spare_zone ∷ []) f ((hd, omega arith, refl), tt)))

-- the copies of a general log are whole sectors
pub new_general_long : (a : Emptyings) (gs xs ps : List ℕ) (d : ℕ) → Valid a.from → a.from.zones ≤ length gs → SectorsLong a.from.sector (new_general_on a gs xs ps d)
new_general_long a gs xs ps d ok h =
    let g = a.from in
    let hs = general_heads g (read_device g xs ps) d in
    let seals = copies_below g Seal gs hs g.zones in
    let resets = copies_below g Reset gs hs g.zones in
    let one : List Header = counters (take g.zones gs) ∷ [] in
    let long : List Header → Type 0 = λ js. SectorsLong g.sector (map (encode g d) js) in
    let joined : (js ks : List Header) → long js → long ks → long (js ++ ks) = λ js ks p q. rw (map_append (encode g d) js ks) (sectors_long_append g.sector (map (encode g d) js) (map (encode g d) ks) p q) in
    subst long (copies_are g gs hs h) (joined (kept_label hs) (one ++ (seals ++ resets)) (kept_label_long g d ok hs)
    (joined one (seals ++ resets) (counters_long g d ok gs h) (joined seals resets (copies_long g d ok Seal gs hs g.zones) (copies_long g d ok Reset gs hs g.zones))))

closed_long : (a : Emptyings) (par : Bool) (ss : List (List ℕ)) (d : ℕ) → Valid a.from → SectorsLong a.from.sector ss → SectorsLong a.from.sector (with_closing (emptying_of a d) par ss)
closed_long a par ss d ok l =
    let c = closing (kind_of_log par) (new_generation a.emptied d) in
    sectors_long_append a.from.sector ss (encode a.from d c ∷ []) l (header_long a.from d c ok tt, tt)

-- one emptying leaves what is read as it was
pub emptied_kept : (par : Bool) (a : Emptyings) (ps xs ws ds : List ℕ) (d : ℕ) (ss : List (List ℕ)) (budget rest : ℕ) (xs' ws' ds' : List ℕ) → Valid a.from → EmptyingReady par a ps xs ws ds → d < a.from.drives
    → (is_emptied a.emptied d ≡ true → SectorsLong a.from.sector ss) → Made a.to budget rest (emptied_on a par ss d) (tables_of xs ws ds) (tables_of xs' ws' ds') → StoredKept a.from a.to rows.not_spare ps xs xs' ws'
emptied_kept par a ps xs ws ds d ss budget rest xs' ws' ds' ok r hd l m =
    made_stored a.from a.to rows.not_spare budget rest (emptied_on a par ss d) ps (tables_of xs ws ds) (tables_of xs' ws' ds') (same_shape a.from a.to r.shape)
    (pick_in a.from rows.not_spare (is_emptied a.emptied d) (emptied_to (emptying_of a d) par ss) (λ q. emptying_in a.from (is_set a.here) d par (with_closing (emptying_of a d) par ss) hd (closed_long a par ss d ok (l q))))
    (record { sectors_long = r.sectors_long; written_long = r.written_long; durable_long = r.durable_long }) r.behind m

-- ---- one after the other: what the first ones left, with what is read as it was
pub record EmptyingTurn (par : Bool) (a : Emptyings) (f : ℕ → List Store) (ps xs₀ ws₀ ds₀ : List ℕ) (budget rest d : ℕ) (xs ws ds : List ℕ) : Type 0 where
  pub ready : EmptyingReady par a ps xs ws ds
  pub device : read_device a.from xs ps ≡ read_device a.from xs₀ ps
  pub made : Made a.to budget rest (each_below f d) (tables_of xs₀ ws₀ ds₀) (tables_of xs ws ds)

pub turn_begins : (par : Bool) (a : Emptyings) (f : ℕ → List Store) (ps xs ws ds : List ℕ) (budget : ℕ) → EmptyingReady par a ps xs ws ds → EmptyingTurn par a f ps xs ws ds budget budget 0 xs ws ds
turn_begins par a f ps xs ws ds budget r = record { ready = r; device = refl; made = made_nil a.to budget (tables_of xs ws ds) }

-- (ss: the copies, whole sectors)
pub turn_more : (par : Bool) (a : Emptyings) (f : ℕ → List Store) (ps xs₀ ws₀ ds₀ : List ℕ) (budget mid rest d : ℕ) (xs ws ds xs' ws' ds' : List ℕ) (ss : List (List ℕ)) → Valid a.from → d < a.from.drives
    → EmptyingTurn par a f ps xs₀ ws₀ ds₀ budget mid d xs ws ds → SectorsLong a.from.sector ss → emptied_on a par ss d ≡ f d → length ds' ≡ length ds
    → Made a.to mid rest (emptied_on a par ss d) (tables_of xs ws ds) (tables_of xs' ws' ds') → EmptyingTurn par a f ps xs₀ ws₀ ds₀ budget rest (suc d) xs' ws' ds'
turn_more par a f ps xs₀ ws₀ ds₀ budget mid rest d xs ws ds xs' ws' ds' ss ok hd t l e k m =
    let r = t.ready in
    let one = emptied_kept par a ps xs ws ds d ss mid rest xs' ws' ds' ok r hd (λ q. l) m in
    record {
      ready = record { shape = r.shape; moved = r.moved; sectors_long = one.sectors_long; written_long = one.written_long; durable_long = k ∙ r.durable_long; pointers_long = r.pointers_long; behind = one.behind };
      device = one.device ∙ t.device;
      made = made_append a.to budget mid rest (each_below f d) (f d) (tables_of xs₀ ws₀ ds₀) (tables_of xs ws ds) (tables_of xs' ws' ds') t.made (subst (λ (x : List Store). Made a.to mid rest x (tables_of xs ws ds) (tables_of xs' ws' ds')) e m);
    }
