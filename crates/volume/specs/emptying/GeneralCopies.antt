-- The copies of an emptied general log, as the code makes them: the label, the counters, then the seals and the resets of the zones, one by one.
use Rattle.std.specs.Prelude.{◌≡◌, refl, Bool, true, false, ℕ, zero, suc, ◌+◌, ◌≤◌, List, [], ◌∷◌, ◌++◌, map, length, get_or, take}
use Rattle.std.proofs.Common.{sym, ap, ◌∙◌, le_refl, arith, length-append, length-take-le}
use Rattle.tables.specs.declared.Geometry.{Geometry}
use Rattle.tables.specs.meaning.Basics.{pick}
use Rattle.tables.specs.meaning.Below.{each_below, tabulate}
use Rattle.tables.specs.laws.Below.{take_tabulate}
use Rattle.tables.specs.meaning.Lists.{any_of}
use Rattle.tables.specs.laws.Lists.{map_append}
use Rattle.tables.specs.meaning.Geometry.{Valid, zone_sectors}
use Rattle.tables.specs.meaning.Device.{Store, append}
use Rattle.tables.specs.laws.Made.{MadeAppends, store_if}
use Rattle.logs.specs.meaning.Entry.{general_zone, Header, label, counters, zone_reset, seal, encode}
use Rattle.logs.specs.meaning.Heads.{is_reset, is_seal, least_seal}
use Rattle.logs.specs.meaning.Copies.{kept_label, copied_general}
use Rattle.logs.specs.declared.Log.{Log}
use Rattle.logs.specs.declared.Found.{Found}
use Rattle.logs.specs.declared.Found.TheVariants as Found·
use Rattle.logs.specs.declared.Found.TheVariants.{Bad, Label, Counters, Resets, Partial, Closing}
use Rattle.logs.specs.laws.Legal.{header_long}
use Rattle.logs.specs.code.WalkCode.{InLog}
use Rattle.logs.specs.code.Query.{log_heads}
use Rattle.logs.specs.code.KeptLabel.{label_of, label_kept, label_kept_lem}
use Rattle.volume.specs.declared.emptying.HeaderCopy.{HeaderCopy}
use Rattle.volume.specs.declared.emptying.HeaderCopy.TheVariants.{Seal, Reset}
use Rattle.volume.specs.declared.emptying.Emptying.{Emptying}
use Rattle.volume.specs.meaning.Calls.{append_all, generations_from}
use Rattle.volume.specs.meaning.Emptying.{InForce, general_copies, new_general_size}
use Rattle.volume.specs.meaning.Rules.{general_heads}
use Rattle.volume.specs.laws.CallContracts.{appends_append}
use Rattle.volume.specs.rows.RowStores.{append_all_append}
use Rattle.volume.specs.checks.StoreLoops.{first_generations}
use Rattle.volume.specs.looking.Knowing.{read_device}
use Rattle.volume.specs.looking.DriveLogs.{zone_pointer, log_in, in_log, general_heads_lem}
use Rattle.volume.specs.emptying.Elsewhere.{SectorsLong, sectors_long_append}
use Rattle.volume.specs.emptying.Moving.{Copying, copying_kept, heads_same}

-- ---- what they go by
-- the generations in force, as the array that the code has; nothing else is asked of what is in force
abbrev pub by_generations : List ℕ → InForce
by_generations gs = record { generation = λ z. get_or gs z 0; pointer = λ z. 0; value = λ z a. [] }

-- the headers of the old log
abbrev pub old_heads : Emptying → List ℕ → List ℕ → List Header
old_heads e xs ps = general_heads e.from (read_device e.from xs ps) e.drive

-- all of them
abbrev pub copied_headers : Emptying → List ℕ → List ℕ → List ℕ → List Header
copied_headers e gs ps xs = general_copies e.from (by_generations gs) (old_heads e xs ps)

-- ---- headers, appended to the new log
abbrev pub headers_on : Emptying → List Header → List Store
headers_on e hs = append_all e.drive general_zone (map (encode e.from e.drive) hs)

headers_append : (e : Emptying) (hs js : List Header) → headers_on e (hs ++ js) ≡ headers_on e hs ++ headers_on e js
headers_append e hs js =
    ap (append_all e.drive general_zone) (map_append (encode e.from e.drive) hs js) ∙ append_all_append e.drive general_zone (map (encode e.from e.drive) hs) (map (encode e.from e.drive) js)

pub headers_joined : (e : Emptying) (budget mid rest : ℕ) (hs js : List Header) (xs ws xs' ws' xs'' ws'' : List ℕ) → MadeAppends e.to budget mid (headers_on e hs) xs ws xs' ws' → MadeAppends e.to mid rest (headers_on e js) xs' ws' xs'' ws''
    → MadeAppends e.to budget rest (headers_on e (hs ++ js)) xs ws xs'' ws''
headers_joined e budget mid rest hs js xs ws xs' ws' xs'' ws'' p q = rw (headers_append e hs js) (appends_append e.to budget mid rest (headers_on e hs) (headers_on e js) xs ws xs' ws' xs'' ws'' p q)

-- ---- a zone's seal, or its reset: whether there is one of the generation, and which is copied
abbrev pub copy_due : HeaderCopy → ℕ → List Header → ℕ → Bool
copy_due Seal n hs z = any_of (is_seal z n) hs
copy_due Reset n hs z = any_of (is_reset z n) hs

abbrev pub copy_of : Geometry → HeaderCopy → ℕ → List Header → ℕ → Header
copy_of g Seal n hs z = seal z (least_seal z n (zone_sectors g) hs) n
copy_of g Reset n hs z = zone_reset z n

abbrev pub copy_for : Geometry → HeaderCopy → ℕ → List Header → ℕ → List Header
copy_for g kind n hs z = pick (copy_due kind n hs z) (copy_of g kind n hs z ∷ []) []

-- of the zones below n, by the generations gs
abbrev pub copies_below : Geometry → HeaderCopy → List ℕ → List Header → ℕ → List Header
copies_below g kind gs hs n = each_below (λ z. copy_for g kind (get_or gs z 0) hs z) n

-- ---- the counters
first_numbers : (gs : List ℕ) (n : ℕ) → n ≤ length gs → take n gs ≡ tabulate (λ k. get_or gs k 0) n
first_numbers gs zero h = take_zero gs
  where
    take_zero : (xs : List ℕ) → take 0 xs ≡ []
    take_zero [] = refl
    take_zero (x ∷ xs) = refl
first_numbers gs (suc n) h = take_more gs n h ∙ ap (λ (l : List ℕ). l ++ (get_or gs n 0 ∷ [])) (first_numbers gs n (omega arith))
  where
    take_more : (xs : List ℕ) (n : ℕ) → suc n ≤ length xs → take (suc n) xs ≡ take n xs ++ (get_or xs n 0 ∷ [])
    take_more [] n h = absurd (omega arith)
    take_more (x ∷ xs) zero h = refl
    take_more (x ∷ xs) (suc n) h = ap (λ (l : List ℕ). x ∷ l) (take_more xs n (omega arith))

counted_generations : (gs : List ℕ) (n : ℕ) → n ≤ length gs → take n gs ≡ generations_from (λ z. get_or gs z 0) zero n
counted_generations gs n h = first_numbers gs n h ∙ sym (take_tabulate (λ z. get_or gs z 0) n n (le_refl n)) ∙ first_generations (λ z. get_or gs z 0) n n (le_refl n)

-- ---- all of them
pub copies_are : (g : Geometry) (gs : List ℕ) (hs : List Header) → g.zones ≤ length gs
    → kept_label hs ++ ((counters (take g.zones gs) ∷ []) ++ (copies_below g Seal gs hs g.zones ++ copies_below g Reset gs hs g.zones)) ≡ general_copies g (by_generations gs) hs
unfolding general_copies copied_general
copies_are g gs hs h = rw (counted_generations gs g.zones h) refl

-- as they are made, one after the other
pub general_made : (e : Emptying) (gs : List ℕ) (hs : List Header) → e.from.zones ≤ length gs → (budget a b c rest : ℕ) (xs ws xs₁ ws₁ xs₂ ws₂ xs₃ ws₃ xs₄ ws₄ : List ℕ) → MadeAppends e.to budget a (headers_on e (kept_label hs)) xs ws xs₁ ws₁
    → MadeAppends e.to a b (headers_on e (counters (take e.from.zones gs) ∷ [])) xs₁ ws₁ xs₂ ws₂
    → MadeAppends e.to b c (headers_on e (copies_below e.from Seal gs hs e.from.zones)) xs₂ ws₂ xs₃ ws₃
    → MadeAppends e.to c rest (headers_on e (copies_below e.from Reset gs hs e.from.zones)) xs₃ ws₃ xs₄ ws₄
    → MadeAppends e.to budget rest (headers_on e (general_copies e.from (by_generations gs) hs)) xs ws xs₄ ws₄
general_made e gs hs h budget a b c rest xs ws xs₁ ws₁ xs₂ ws₂ xs₃ ws₃ xs₄ ws₄ p q r s =
    let seals = copies_below e.from Seal gs hs e.from.zones in
    let resets = copies_below e.from Reset gs hs e.from.zones in
    let one = counters (take e.from.zones gs) ∷ [] in
    rw (← copies_are e.from gs hs h) (headers_joined e budget a rest (kept_label hs) (one ++ (seals ++ resets)) xs ws xs₁ ws₁ xs₄ ws₄ p
    (headers_joined e a b rest one (seals ++ resets) xs₁ ws₁ xs₂ ws₂ xs₄ ws₄ q (headers_joined e b c rest seals resets xs₂ ws₂ xs₃ ws₃ xs₄ ws₄ r s)))

-- ---- how many they are
count_more : (hs js : List Header) (h : Header) (b : Bool) → length (hs ++ pick b (h ∷ []) []) ≡ length hs + pick b 1 0
count_more hs js h true = rw length-append refl
count_more hs js h false = rw length-append refl

pub copies_more : (g : Geometry) (kind : HeaderCopy) (gs : List ℕ) (hs : List Header) (z : ℕ) → length (copies_below g kind gs hs z) + pick (copy_due kind (get_or gs z 0) hs z) 1 0 ≡ length (copies_below g kind gs hs (suc z))
copies_more g kind gs hs z = sym (count_more (copies_below g kind gs hs z) [] (copy_of g kind (get_or gs z 0) hs z) (copy_due kind (get_or gs z 0) hs z))

pub copies_most : (g : Geometry) (kind : HeaderCopy) (gs : List ℕ) (hs : List Header) (z : ℕ) → length (copies_below g kind gs hs z) ≤ z
copies_most g kind gs hs zero = omega arith
copies_most g kind gs hs (suc z) = rw (← copies_more g kind gs hs z) (go (copy_due kind (get_or gs z 0) hs z) (copies_most g kind gs hs z))
  where
    go : (b : Bool) → length (copies_below g kind gs hs z) ≤ z → length (copies_below g kind gs hs z) + pick b 1 0 ≤ suc z
    go true h = omega arith
    go false h = omega arith

-- of the label
abbrev pub label_count : Found → ℕ
label_count Bad = 0
label_count (Label x a) = 1
label_count Counters = 0
label_count (Resets z n) = 0
label_count (Partial z s f n) = 0
label_count (Found·.Seal z p n) = 0
label_count (Closing gen) = 0

label_count_lem : (f : Found) → label_count f ≡ length (label_of f)
label_count_lem Bad = refl
label_count_lem (Label x a) = refl
label_count_lem Counters = refl
label_count_lem (Resets z n) = refl
label_count_lem (Partial z s f n) = refl
label_count_lem (Found·.Seal z p n) = refl
label_count_lem (Closing gen) = refl

pub general_size_is : (g : Geometry) (gs : List ℕ) (hs : List Header) → g.zones ≤ length gs
    → label_count (label_kept hs) + 2 + length (copies_below g Seal gs hs g.zones) + length (copies_below g Reset gs hs g.zones) ≡ new_general_size g (by_generations gs) hs
unfolding new_general_size
general_size_is g gs hs h =
    let seals = copies_below g Seal gs hs g.zones in
    let resets = copies_below g Reset gs hs g.zones in
    let l : label_count (label_kept hs) ≡ length (kept_label hs) = label_count_lem (label_kept hs) ∙ ap (λ (x : List Header). length x) (label_kept_lem hs) in
    let n : length (general_copies g (by_generations gs) hs) ≡ length (kept_label hs) + suc (length seals + length resets)
    = sym (ap (λ (x : List Header). length x) (copies_are g gs hs h)) ∙ length-append (kept_label hs) (counters (take g.zones gs) ∷ (seals ++ resets)) ∙ ap (λ (k : ℕ). length (kept_label hs) + suc k) (length-append seals resets) in
    rw (l, n) (omega arith)

-- ---- as the code reads the old log: it lies in zone l, below the copied pointer
module _ (e : Emptying) (ps xs ws : List ℕ) (c : Copying false e ps xs ws) (l : Log) (is : l ≡ log_in e.from ps e.drive general_zone) where
  pub old_in_log : InLog e.from l.drive l.zone l.written xs
  old_in_log = in_log e.from xs ps e.drive general_zone l is (record { sectors_long = c.sectors_long; written_long = c.pointers_long }) c.moves.drive_in (omega arith)

  pub old_heads_lem : log_heads e.from l.drive false l.zone l.written xs ≡ old_heads e xs ps
  old_heads_lem =
      ap (λ (k : Log). log_heads e.from k.drive false k.zone k.written xs) is
      ∙ general_heads_lem e.from xs ps e.drive c.moves.drive_in (zone_pointer e.from ps e.drive general_zone) refl

  pub old_drive : l.drive ≡ e.drive
  old_drive = ap (λ (k : Log). k.drive) is

-- a zone's copy: none, or one
module _ (e : Emptying) (kind : HeaderCopy) (n : ℕ) (hs : List Header) (z : ℕ) where
  pub copy_idle : copy_due kind n hs z ≡ false → headers_on e (copy_for e.from kind n hs z) ≡ []
  copy_idle h = rw h refl

  pub copy_made : copy_due kind n hs z ≡ true → headers_on e (copy_for e.from kind n hs z) ≡ store_if true (append e.drive general_zone (encode e.from e.drive (copy_of e.from kind n hs z)))
  copy_made h = rw h refl

-- the label's, by what the code finds of it (k)
pub label_stores_lem : (e : Emptying) (hs : List Header) (f k : Found) → f ≡ label_kept hs → f ≡ k → headers_on e (kept_label hs) ≡ headers_on e (label_of k)
label_stores_lem e hs f k p q = ap (headers_on e) (sym (label_kept_lem hs) ∙ ap label_of (sym p ∙ q))

-- ---- each is a whole sector, so all else is as it was
module _ (g : Geometry) (d : ℕ) (ok : Valid g) where
  copy_long : (kind : HeaderCopy) (n : ℕ) (hs : List Header) (z : ℕ) → length (encode g d (copy_of g kind n hs z)) ≡ g.sector
  copy_long Seal n hs z = header_long g d (seal z (least_seal z n (zone_sectors g) hs) n) ok tt
  copy_long Reset n hs z = header_long g d (zone_reset z n) ok tt

  copy_for_long : (kind : HeaderCopy) (n : ℕ) (hs : List Header) (z : ℕ) → SectorsLong g.sector (map (encode g d) (copy_for g kind n hs z))
  copy_for_long kind n hs z = go (copy_due kind n hs z)
    where
      go : (b : Bool) → SectorsLong g.sector (map (encode g d) (pick b (copy_of g kind n hs z ∷ []) []))
      go true = (copy_long kind n hs z, tt)
      go false = tt

  pub copies_long : (kind : HeaderCopy) (gs : List ℕ) (hs : List Header) (n : ℕ) → SectorsLong g.sector (map (encode g d) (copies_below g kind gs hs n))
  copies_long kind gs hs zero = tt
  copies_long kind gs hs (suc n) =
      rw (map_append (encode g d) (copies_below g kind gs hs n) (copy_for g kind (get_or gs n 0) hs n))
      (sectors_long_append g.sector (map (encode g d) (copies_below g kind gs hs n)) (map (encode g d) (copy_for g kind (get_or gs n 0) hs n)) (copies_long kind gs hs n) (copy_for_long kind (get_or gs n 0) hs n))

  pub counters_long : (gs : List ℕ) → g.zones ≤ length gs → SectorsLong g.sector (map (encode g d) (counters (take g.zones gs) ∷ []))
  counters_long gs h = (header_long g d (counters (take g.zones gs)) ok (length-take-le g.zones gs h), tt)

  label_of_long : (f : Found) → SectorsLong g.sector (map (encode g d) (label_of f))
  label_of_long Bad = tt
  label_of_long (Label x a) = (header_long g d (label x a) ok tt, tt)
  label_of_long Counters = tt
  label_of_long (Resets z n) = tt
  label_of_long (Partial z s f n) = tt
  label_of_long (Found·.Seal z p n) = tt
  label_of_long (Closing gen) = tt

  pub kept_label_long : (hs : List Header) → SectorsLong g.sector (map (encode g d) (kept_label hs))
  kept_label_long hs = rw (← label_kept_lem hs) (label_of_long (label_kept hs))

pub headers_kept : (e : Emptying) (ps xs ws : List ℕ) → Copying false e ps xs ws → (budget rest : ℕ) (hs : List Header) (xs' ws' : List ℕ) → SectorsLong e.from.sector (map (encode e.from e.drive) hs) → MadeAppends e.to budget rest (headers_on e hs) xs ws xs' ws'
    → Copying false e ps xs' ws' × (old_heads e xs' ps ≡ old_heads e xs ps)
headers_kept e ps xs ws c budget rest hs xs' ws' l m =
    let k = copying_kept false e ps xs ws c budget rest (map (encode e.from e.drive) hs) xs' ws' l m in
    (k.0, heads_same e ps xs xs' c.moves.drive_in k.1)
