-- Where a write comes to a stripe's first address: whether the stripe is written whole, and that this is what its stores, one after the other, would leave.
use Rattle.std.specs.Prelude.{◌≡◌, Bool, true, false, not, ◌&&◌, ℕ, ◌+◌, ◌-◌, ◌*◌, ◌%◌, ◌≤◌, ◌<◌, List, length, get_or, ltb, leb, eqb}
use Rattle.std.proofs.Math.Path.{refl}
use Rattle.std.proofs.Common.{sym, ap, ap₂, ◌∙◌, subst, mul-le-mul_right, arith, append-nil, ltb-true, leb-true, eqb-true, le-leb}
use Rattle.std.proofs.lemmas.Bool.{lt-leb}
use Rattle.tables.specs.declared.Geometry.{Geometry}
use Rattle.tables.specs.laws.Basics.{and_split, not_true, not_not}
use Rattle.tables.specs.meaning.Below.{all_below}
use Rattle.tables.specs.laws.Below.{all_below_all}
use Rattle.tables.specs.meaning.Geometry.{Valid, cells, total_bytes, stripe_sectors, zone_sectors, data_zone}
use Rattle.tables.specs.meaning.Device.{Store}
use Rattle.tables.specs.meaning.Phases.{on_present}
use Rattle.tables.specs.meaning.Placement.{stripe_length, stripe_of, parity_drive, unit_drive}
use Rattle.tables.specs.laws.Placement.{stripe_rest, stripe_length_lem, unit_drive_below, unit_injective, parity_drive_below}
use Rattle.tables.specs.meaning.Tables.{cell, sector_no}
use Rattle.tables.specs.laws.Made.{MadeAppends}
use Rattle.volume.specs.declared.rows.Extent.{Extent}
use Rattle.volume.specs.declared.stripes.Stripe.{Stripe}
use Rattle.volume.specs.meaning.Calls.{sector_stores, data_stores}
use Rattle.volume.specs.meaning.CallContracts.{is_set}
use Rattle.volume.specs.looking.Knowing.{read_device}
use Rattle.volume.specs.rows.SameShape.{by_shape, shape_bytes, shape_cells}
use Rattle.volume.specs.rows.RowsInPlace.{content_of, content_new}
use Rattle.volume.specs.writing.WriteStores.{Writing}
use Rattle.volume.specs.stripes.UnitStores.{units_passed}
use Rattle.volume.specs.stripes.WholeStripe.{StripeFits, stripe_laid, stripe_made}

-- ---- a stripe as code names it
abbrev pub Fitting : Stripe → List ℕ → List ℕ → List ℕ → Type 0
Fitting s = StripeFits s.geometry s.zone s.parity s.from

abbrev pub laid_of : Stripe → List ℕ → List ℕ → List ℕ → ℕ → List ℕ
laid_of s = stripe_laid s.geometry s.zone s.parity s.from

-- of bytes of the same length
pub fitting_same : (s : Stripe) (xs ys ws buffer : List ℕ) → length ys ≡ length xs → Fitting s xs ws buffer → Fitting s ys ws buffer
fitting_same s xs ys ws buffer l f = record {
  parity_in = f.parity_in;
  fit = record { zone_in_lem = f.fit.zone_in_lem; drive_in = f.fit.drive_in; own = f.fit.own; room = f.fit.room; sectors_long = l ∙ f.fit.sectors_long; written_long = f.fit.written_long };
  in_buffer = f.in_buffer;
}

-- the stripe of address a of a write
abbrev pub stripe_at : Extent → ℕ → Stripe
stripe_at k a = record { geometry = k.to; zone = data_zone k.zone; parity = parity_drive k.to.drives k.zone (stripe_of k.to.drives k.to.unit a); from = (a - k.below) * k.to.sector }

-- ---- whether it is written whole
pub unit_within : (g : Geometry) → Valid g → g.unit ≤ g.capacity
unit_within g ok = omega (arith, ok.logs_fit)

-- drive d is present and has room for a unit in zone y
abbrev pub room_for : Geometry → List Bool → List ℕ → ℕ → ℕ → Bool
room_for g here ws y d = is_set here d && leb (get_or ws (cell g d y) 0) (g.capacity - g.unit)

-- the write reaches its end, it begins at a, the budget covers its stores, and every drive has room
abbrev pub stripe_due : Extent → List ℕ → ℕ → ℕ → Bool
stripe_due k ws a budget = leb (a + stripe_sectors k.to) k.end && ((eqb (a % stripe_sectors k.to) 0 && ltb (k.to.drives * k.to.unit) budget) && all_below (room_for k.to k.here ws (data_zone k.zone)) k.to.drives)

-- as code asks it: k is the stripe's length
module _ (e : Extent) (ws : List ℕ) (a budget k : ℕ) (is : k ≡ stripe_sectors e.to) where
  pub due_short : e.end < a + k → stripe_due e ws a budget ≡ false
  due_short h = let q : leb (a + stripe_sectors e.to) e.end ≡ false = lt-leb (a + stripe_sectors e.to) e.end (rw is at h) in rw q refl

  pub due_not : not (eqb (a % k) 0 && ltb (e.to.drives * e.to.unit) budget) ≡ true → stripe_due e ws a budget ≡ false
  due_not h =
      let q : eqb (a % stripe_sectors e.to) 0 && ltb (e.to.drives * e.to.unit) budget ≡ false = not_true (eqb (a % stripe_sectors e.to) 0 && ltb (e.to.drives * e.to.unit) budget) (rw is at h) in
      rw q (go (leb (a + stripe_sectors e.to) e.end))
    where
      go : (b : Bool) → b && false ≡ false
      go true = refl
      go false = refl

  pub due_room : a + k ≤ e.end → not (eqb (a % k) 0 && ltb (e.to.drives * e.to.unit) budget) ≡ false → stripe_due e ws a budget ≡ all_below (room_for e.to e.here ws (data_zone e.zone)) e.to.drives
  due_room h n =
      let q : eqb (a % stripe_sectors e.to) 0 && ltb (e.to.drives * e.to.unit) budget ≡ true = not_not (eqb (a % stripe_sectors e.to) 0 && ltb (e.to.drives * e.to.unit) budget) (rw is at n) in
      rw (le-leb (a + stripe_sectors e.to) e.end (rw is at h), q) refl

-- what a write relies on there
pub record StripeReady (k : Extent) (xs ws buffer : List ℕ) (a : ℕ) : Type 0 where
  pub zone_in_lem : k.zone < k.to.zones
  pub sectors_long : length xs ≡ total_bytes k.to
  pub written_long : length ws ≡ cells k.to
  pub below_most : k.below ≤ a
  pub end_most : k.end ≤ zone_sectors k.to
  pub buffer_long : length buffer ≡ (k.end - k.below) * k.to.sector

-- the content S, from the write's first address on, is its buffer
abbrev pub NewFrom : Extent → List ℕ → (ℕ → List ℕ) → Type 0
NewFrom k buffer S = (b : ℕ) → k.below ≤ b → S b ≡ sector_no k.to.sector buffer (b - k.below)

module _ (k : Extent) (ok : Valid k.to) (xs ws buffer : List ℕ) (a : ℕ) (r : StripeReady k xs ws buffer a) (budget : ℕ) (due : stripe_due k ws a budget ≡ true) where
  abbrev g : Geometry
  g = k.to

  abbrev s : ℕ
  s = stripe_of k.to.drives k.to.unit a

  pub due_end : a + stripe_sectors k.to ≤ k.end
  due_end = leb-true (a + stripe_sectors g) k.end (and_split (leb (a + stripe_sectors g) k.end) ((eqb (a % stripe_sectors g) 0 && ltb (g.drives * g.unit) budget) && all_below (room_for g k.here ws (data_zone k.zone)) g.drives) due).0

  others : (eqb (a % stripe_sectors g) 0 ≡ true) × (ltb (g.drives * g.unit) budget ≡ true) × (all_below (room_for g k.here ws (data_zone k.zone)) g.drives ≡ true)
  others =
      let (p, q) = and_split (eqb (a % stripe_sectors g) 0 && ltb (g.drives * g.unit) budget) (all_below (room_for g k.here ws (data_zone k.zone)) g.drives) (and_split (leb (a + stripe_sectors g) k.end) ((eqb (a % stripe_sectors g) 0 && ltb (g.drives * g.unit) budget) && all_below (room_for g k.here ws (data_zone k.zone)) g.drives) due).1 in
      let (u, v) = and_split (eqb (a % stripe_sectors g) 0) (ltb (g.drives * g.unit) budget) p in
      (u, v, q)

  pub due_covered : k.to.drives * k.to.unit < budget
  due_covered = ltb-true (g.drives * g.unit) budget others.1

  begins : a ≡ s * stripe_sectors g
  begins = omega (arith, eqb-true (a % stripe_sectors g) 0 others.0, stripe_rest g.drives g.unit a)

  room : (d : ℕ) → d < g.drives → (is_set k.here d ≡ true) × (get_or ws (cell g d (data_zone k.zone)) 0 + g.unit ≤ g.capacity)
  room d h =
      let w = get_or ws (cell g d (data_zone k.zone)) 0 in
      let (p, q) = and_split (is_set k.here d) (leb w (g.capacity - g.unit)) (all_below_all (room_for g k.here ws (data_zone k.zone)) g.drives d others.2 h) in
      (p, omega (arith, leb-true w (g.capacity - g.unit) q, unit_within g ok))

  parity_in : parity_drive g.drives k.zone s < g.drives
  parity_in = parity_drive_below g.drives g.unit k.zone (omega (arith, ok.drives_least)) ok.unit_least s

  pub due_fits : Fitting (stripe_at k a) xs ws buffer
  due_fits = record {
    parity_in = parity_in;
    fit = record {
      zone_in_lem = omega (arith, r.zone_in_lem);
      drive_in = λ j h. unit_drive_below g.drives (parity_drive g.drives k.zone s) parity_in j;
      own = unit_injective g.drives (parity_drive g.drives k.zone s) parity_in;
      room = λ j h. (room (unit_drive g.drives (parity_drive g.drives k.zone s) j) (unit_drive_below g.drives (parity_drive g.drives k.zone s) parity_in j)).1;
      sectors_long = r.sectors_long;
      written_long = r.written_long;
    };
    in_buffer = let m : a - k.below + (g.drives - 1) * g.unit ≤ k.end - k.below = omega (arith, due_end, r.below_most, stripe_length_lem g.drives g.unit) in omega (arith, mul-le-mul_right g.sector m, r.buffer_long);
  }

  pub due_made : (rest : ℕ) (xs' ws' : List ℕ) → rest ≡ budget - k.to.drives * k.to.unit
      → xs' ≡ laid_of (stripe_at k a) ws buffer xs (k.to.drives - 1)
      → ws' ≡ units_passed k.to (data_zone k.zone) (unit_drive k.to.drives (parity_drive k.to.drives k.zone (stripe_of k.to.drives k.to.unit a))) ws k.to.drives
      → (S : ℕ → List ℕ) → NewFrom k buffer S
      → MadeAppends k.to budget rest (on_present (is_set k.here) (data_stores k.to.drives k.to.unit k.zone S a (stripe_sectors k.to))) xs ws xs' ws'
  due_made rest xs' ws' left bytes pointers S new =
      let p = parity_drive g.drives k.zone s in
      let y = data_zone k.zone in
      subst (λ (x : ℕ). StripeFits g y p ((x - k.below) * g.sector) xs ws buffer → xs' ≡ stripe_laid g y p ((x - k.below) * g.sector) ws buffer xs (g.drives - 1)
      → MadeAppends g budget rest (on_present (is_set k.here) (data_stores g.drives g.unit k.zone S x (stripe_sectors g))) xs ws xs' ws') (sym begins)
      (λ f laid. stripe_made g ok (is_set k.here) (λ d h. (room d h).0) k.zone S s k.below xs ws buffer (omega (arith, begins, r.below_most)) new f budget rest xs' ws' due_covered left laid pointers)
      due_fits bytes

-- ---- in a write, whose addresses go by another geometry of the same shape
module _ (k : Extent) (ok : Valid k.geometry) (xs ws ps buffer : List ℕ) (w : Writing k xs ws ps buffer) where
  same_zone : zone_sectors k.to ≡ zone_sectors k.geometry
  unfolding zone_sectors
  same_zone = by_shape k.geometry k.to w.shape (λ (x : Geometry). zone_sectors x ≡ zone_sectors k.geometry) refl

  pub writing_stripe : stripe_sectors k.to ≡ stripe_sectors k.geometry
  writing_stripe = ap₂ stripe_length w.shape.drives_same w.shape.unit_same

  pub writing_ready : (a : ℕ) → k.below ≤ a → StripeReady k xs ws buffer a
  writing_ready a h = record {
    zone_in_lem = rw w.shape.zones_same w.zone_in_lem;
    sectors_long = w.sectors_long ∙ sym (shape_bytes k.geometry k.to w.shape);
    written_long = w.written_long ∙ sym (shape_cells k.geometry k.to w.shape);
    below_most = h;
    end_most = rw same_zone w.end_most;
    buffer_long = rw w.shape.sector_same w.buffer_long;
  }

  pub writing_new : NewFrom k buffer (content_of k (read_device k.geometry xs ps) buffer)
  writing_new b h = content_new k (read_device k.geometry xs ps) buffer b h ∙ ap (λ (n : ℕ). sector_no n buffer (b - k.below)) (sym w.shape.sector_same)

  -- the stores of a stripe, as the write counts them
  pub writing_made : (budget rest a : ℕ) (S : ℕ → List ℕ) (xs' ws' : List ℕ) (n : ℕ) → n ≡ stripe_sectors k.geometry
      → MadeAppends k.to budget rest (on_present (is_set k.here) (data_stores k.to.drives k.to.unit k.zone S a (stripe_sectors k.to))) xs ws xs' ws'
      → MadeAppends k.to budget rest (on_present (is_set k.here) (data_stores k.geometry.drives k.geometry.unit k.zone S a n)) xs ws xs' ws'
  writing_made budget rest a S xs' ws' n e m =
      rw e (subst (λ (d : ℕ). MadeAppends k.to budget rest (on_present (is_set k.here) (data_stores d k.geometry.unit k.zone S a (stripe_length d k.geometry.unit))) xs ws xs' ws') w.shape.drives_same
      (subst (λ (u : ℕ). MadeAppends k.to budget rest (on_present (is_set k.here) (data_stores k.to.drives u k.zone S a (stripe_length k.to.drives u))) xs ws xs' ws') w.shape.unit_same m))

  -- and those of one address
  pub writing_one : (budget rest a : ℕ) (S : ℕ → List ℕ) (xs' ws' : List ℕ) (n : ℕ) → n ≡ 1
      → MadeAppends k.to budget rest (on_present (is_set k.here) (sector_stores k.geometry.drives k.geometry.unit k.zone S a)) xs ws xs' ws'
      → MadeAppends k.to budget rest (on_present (is_set k.here) (data_stores k.geometry.drives k.geometry.unit k.zone S a n)) xs ws xs' ws'
  writing_one budget rest a S xs' ws' n e m =
      rw e (subst (λ (ss : List Store). MadeAppends k.to budget rest (on_present (is_set k.here) ss) xs ws xs' ws') (sym (append-nil (sector_stores k.geometry.drives k.geometry.unit k.zone S a))) m)
