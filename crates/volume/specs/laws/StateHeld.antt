-- The state as the code's struct and as the rules see it: `view_state` leads one way, `state_held` the other (CallContracts). A struct has 16 records and 16 shares.
use Rattle.std.specs.Prelude.{◌≡◌, ◌≢◌, Bool, ℕ, zero, suc, ◌-◌, ◌≤◌, ◌<◌, List, map, length, get_or, set, replicate}
use Rattle.std.proofs.Math.Path.{refl}
use Rattle.std.proofs.Common.{sym, ap₂, ◌∙◌, arith, length-set, ext_get_or, get_or-set_same, get_or-set_other, eq-eqb, ne_eqb}
use Rattle.std.proofs.Math.Decide.{ℕ_discrete}
use Rattle.std.proofs.lemmas.List.{length-map}
use Rattle.tables.specs.declared.Geometry.{Geometry}
use Rattle.tables.specs.meaning.Below.{tabulate}
use Rattle.tables.specs.laws.Below.{length_tabulate, get_d_tabulate}
use Rattle.tables.specs.meaning.Geometry.{max_zones}
use Rattle.volume.specs.declared.Condition.TheVariants.{Open}
use Rattle.volume.specs.declared.Owner.TheVariants.{Nobody}
use Rattle.volume.specs.declared.State.{State}
use Rattle.volume.specs.declared.ZoneRecord.{ZoneRecord}
use Rattle.volume.specs.meaning.State.{StateView, max_shares, share_at, owner_of, with_shares}
use Rattle.volume.specs.meaning.Content.{parity_drive_at}
use Rattle.volume.specs.meaning.Calls.{open_state, flush_state, reset_state, empty_condition}
use Rattle.volume.specs.meaning.Hosts.{owned_state, entry_taken}
use Rattle.volume.specs.meaning.CallContracts.{blank_record, record_at, view_state, record_seen, records_below, state_held}
use Rattle.volume.specs.laws.FilledArrays.{fill_at, fill_past, fill_long, fill_more}

-- an array's length as a function is told it of a parameter: that of the list of its machine values
pub mapped_long : {A B : Type 0} (f : A → B) (xs : List A) (n : ℕ) → length (map f xs) ≡ n → length xs ≡ n
mapped_long f xs n e = sym (length-map xs f) ∙ e

-- ---- 16 records of which the first n are f's
module _ (f : ℕ → ZoneRecord) where
  pub records_long : (n : ℕ) → n ≤ max_zones → length (records_below f n) ≡ max_zones
  unfolding records_below
  records_long n h = fill_long f blank_record max_zones n h

  pub records_at : (n z : ℕ) → z < n → get_or (records_below f n) z blank_record ≡ f z
  unfolding records_below
  records_at n z h = fill_at f blank_record blank_record n (max_zones - n) z h

  pub records_past : (n z : ℕ) → n ≤ z → get_or (records_below f n) z blank_record ≡ blank_record
  unfolding records_below
  records_past n z h = fill_past f blank_record n (max_zones - n) z h

  -- as a loop fills them
  pub records_none : replicate max_zones blank_record ≡ records_below f zero
  unfolding records_below
  records_none = refl

  pub records_more : (n : ℕ) → n < max_zones → set (records_below f n) n (f n) ≡ records_below f (suc n)
  unfolding records_below
  records_more n h = fill_more f blank_record max_zones n h

-- ---- what a struct says that was made of a view
pub held_long : (n : ℕ) (v : StateView) → n ≤ max_zones → length (state_held n v).zones ≡ max_zones
held_long n v h = records_long (record_seen v) n h

pub held_at : (n : ℕ) (v : StateView) (z : ℕ) → z < n → record_at (state_held n v) z ≡ record_seen v z
held_at n v z h = records_at (record_seen v) n z h

pub held_past : (n : ℕ) (v : StateView) (z : ℕ) → n ≤ z → record_at (state_held n v) z ≡ blank_record
held_past n v z h = records_past (record_seen v) n z h

-- ---- 16 shares
pub shares_held : (ns : List ℕ) (f : ℕ → ℕ) → length ns ≡ max_shares → ((i : ℕ) → i < max_shares → get_or ns i 0 ≡ f i) → ns ≡ tabulate f max_shares
shares_held ns f long says = ext_get_or 0 ns (tabulate f max_shares) (long ∙ sym (length_tabulate f max_shares)) (λ i h. let k : i < max_shares = rw long at h in says i k ∙ sym (get_d_tabulate f max_shares i 0 k))

pub held_share : (n : ℕ) (v : StateView) (i : ℕ) → i < max_shares → get_or (state_held n v).shares i 0 ≡ v.share i
held_share n v i h = get_d_tabulate v.share max_shares i 0 h

pub held_shares_long : (n : ℕ) (v : StateView) → length (state_held n v).shares ≡ max_shares
held_shares_long n v = length_tabulate v.share max_shares

-- ---- 16 records and 16 shares that say what a view says are the view's
pub records_held : (rs : List ZoneRecord) (ns : List ℕ) (v : StateView) → length rs ≡ max_zones → ((z : ℕ) → z < max_zones → get_or rs z blank_record ≡ record_seen v z) → length ns ≡ max_shares
    → ((i : ℕ) → i < max_shares → get_or ns i 0 ≡ v.share i) → ◌≡◌ {A = State} (record { lost = v.lost; zones = rs; shares = ns }) (state_held max_zones v)
records_held rs ns v long says many shared =
    ap₂ (λ (l : List ZoneRecord) (m : List ℕ). record { lost = v.lost; zones = l; shares = m })
    (ext_get_or blank_record rs (state_held max_zones v).zones (long ∙ sym (held_long max_zones v (omega arith))) (λ z h. let k : z < max_zones = rw long at h in says z k ∙ sym (held_at max_zones v z k)))
    (shares_held ns v.share many shared)

-- of a struct
pub record Sixteen (s : State) : Type 0 where
  pub records : length s.zones ≡ max_zones
  pub shares : length s.shares ≡ max_shares

pub held_sixteen : (n : ℕ) (v : StateView) → n ≤ max_zones → Sixteen (state_held n v)
held_sixteen n v h = record { records = held_long n v h; shares = held_shares_long n v }

pub held_view : (s : State) → Sixteen s → s ≡ state_held max_zones (view_state s)
held_view s k = records_held s.zones s.shares (view_state s) k.records (λ z h. refl) k.shares (λ i h. refl)

-- with another drive lost
pub held_lost : (s : State) (x : ℕ) → Sixteen s → ◌≡◌ {A = State} (record { lost = x; zones = s.zones; shares = s.shares }) (state_held max_zones (flush_state x (view_state s)))
held_lost s x k = records_held s.zones s.shares (flush_state x (view_state s)) k.records (λ z h. refl) k.shares (λ i h. refl)

-- and with other shares
pub held_shares : (s : State) (x : ℕ) (ns : List ℕ) (f : ℕ → ℕ) → Sixteen s → length ns ≡ max_shares → ((i : ℕ) → i < max_shares → get_or ns i 0 ≡ f i)
    → ◌≡◌ {A = State} (record { lost = x; zones = s.zones; shares = ns }) (state_held max_zones (with_shares f (flush_state x (view_state s))))
held_shares s x ns f k long says = records_held s.zones ns (with_shares f (flush_state x (view_state s))) k.records (λ z h. refl) long says

-- with one record set: a view that differs from the struct's own in that zone alone, and in its shares
pub held_set : (s : State) (v : StateView) (z : ℕ) (r : ZoneRecord) (ns : List ℕ) → Sixteen s → z < max_zones → record_seen v z ≡ r → ((y : ℕ) → y ≢ z → record_seen v y ≡ record_at s y) → length ns ≡ max_shares
    → ((i : ℕ) → i < max_shares → get_or ns i 0 ≡ v.share i) → ◌≡◌ {A = State} (record { lost = v.lost; zones = set s.zones z r; shares = ns }) (state_held max_zones v)
held_set s v z r ns k h here others many shared = records_held (set s.zones z r) ns v (length-set s.zones z r ∙ k.records) (λ y l. at y (ℕ_discrete y z)) many shared
  where
    at : (y : ℕ) → Dec (y ≡ z) → get_or (set s.zones z r) y blank_record ≡ record_seen v y
    at y (yes e) = let l : z < length s.zones = rw k.records h in rw e (get_or-set_same s.zones z r blank_record l ∙ sym here)
    at y (no n) = get_or-set_other s.zones z y r blank_record n ∙ sym (others y n)

-- a zone's record once a host has written it up to pointer n
abbrev pub owned_record : ℕ → ℕ → ZoneRecord → ZoneRecord
owned_record h n r = record { generation = r.generation; condition = Open n; owner = owner_of h }

-- and its entry, whose sectors are `taken`, is off the host's share
abbrev pub shares_less : List ℕ → ℕ → ℕ → List ℕ
shares_less ns i taken = set ns i (get_or ns i 0 - taken)

pub held_owned : (s : State) (g : Geometry) (present : ℕ → Bool) (x h z n : ℕ) → Sixteen s → z < max_zones → share_at (parity_drive_at g z n) h < max_shares
    → ◌≡◌ {A = State} (record { lost = x; zones = set s.zones z (owned_record h n (record_at s z)); shares = shares_less s.shares (share_at (parity_drive_at g z n) h) (entry_taken g present z n) })
    (state_held max_zones (owned_state g present h z n (open_state x (view_state s) z n)))
held_owned s g present x h z n k hz hi =
    held_set s (owned_state g present h z n (open_state x (view_state s) z n)) z (owned_record h n (record_at s z)) (shares_less s.shares i (entry_taken g present z n)) k hz (rw (eq-eqb z z refl) refl) (λ y ne. rw (ne_eqb y z ne) refl)
    (length-set s.shares i (get_or s.shares i 0 - entry_taken g present z n) ∙ k.shares) (λ j l. at j (ℕ_discrete j i))
  where
    i : ℕ
    i = share_at (parity_drive_at g z n) h

    less : ℕ
    less = get_or s.shares (share_at (parity_drive_at g z n) h) 0 - entry_taken g present z n

    at : (j : ℕ) → Dec (j ≡ i) → get_or (set s.shares i less) j 0 ≡ (owned_state g present h z n (open_state x (view_state s) z n)).share j
    at j (yes e) = let l : i < length s.shares = rw k.shares hi in rw (e, eq-eqb i i refl) (get_or-set_same s.shares i less 0 l)
    at j (no ne) = rw (ne_eqb j i ne) (get_or-set_other s.shares i j less 0 ne)

-- a zone's record once it is reset
abbrev pub reset_record : ZoneRecord → ZoneRecord
reset_record r = record { generation = suc r.generation; condition = empty_condition (suc r.generation); owner = Nobody }

pub held_reset : (s : State) (x z : ℕ) → Sixteen s → z < max_zones
    → ◌≡◌ {A = State} (record { lost = x; zones = set s.zones z (reset_record (record_at s z)); shares = s.shares }) (state_held max_zones (reset_state x (view_state s) z))
held_reset s x z k h = held_set s (reset_state x (view_state s) z) z (reset_record (record_at s z)) s.shares k h (rw (eq-eqb z z refl) refl) (λ y ne. rw (ne_eqb y z ne) refl) k.shares (λ i l. refl)
