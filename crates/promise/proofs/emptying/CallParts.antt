-- A call on the physical device in parts, each from what the one before left (Part, CutRuns): stopped in any of them and cut, the invariant holds by the roles, with
-- marks at or above the ledger's. A part of ordinary stores, computed over the device by its roles; and what is filled (MountFilled), on the physical
-- device.
use Rattle.std.specs.Prelude.{◌≡◌, refl, Bool, true, ℕ, suc, ◌-◌, ◌<◌, List, [], ◌∷◌, ◌++◌, map, length, take}
use Rattle.std.proofs.Common.{sym, ap, ap₂, ◌∙◌, subst, le_refl, le_trans, arith}
use Rattle.std.proofs.Math.Decide.{dec_lt}
use Rattle.std.proofs.Math.Seq.{take-length}
use Rattle.tables.specs.laws.Lists.{take_map, map_append}
use Rattle.tables.specs.meaning.Lists.{concat}
use Rattle.tables.specs.meaning.Device.{Device, Store, append, reset, flush, store_drive, apply_all, Cut}
use Rattle.tables.specs.laws.StoresFit.{AllOn}
use Rattle.tables.specs.meaning.Through.{carry}
use Rattle.tables.specs.declared.Geometry.{Geometry}
use Rattle.tables.specs.meaning.Geometry.{data_zone}
use Rattle.logs.specs.meaning.Entry.{general_zone, spare_zone}
use Rattle.volume.specs.meaning.Rules.{Shown}
use Rattle.volume.specs.meaning.Roles.{Roles, roles, zone_of_role, by_roles}
use Rattle.volume.specs.meaning.Mount.{carry_phases}
use Rattle.volume.specs.laws.Firm.{Firm, firm_roles, firm_seen, firm_same, places, RoleOf, is_general, is_parity, is_spare, role_of}
use Rattle.promise.specs.meaning.Ledger.{Ledger}
use Rattle.promise.proofs.device.Marks.{with_marks, MarksAbove}
use Rattle.promise.proofs.invariant.Invariant.{Ghost, Here, LogsOk, LogGenerations, Inv}
use Rattle.promise.proofs.invariant.Delayed.{Delayed, delayed_none}
use Rattle.promise.proofs.invariant.HoldsLess.{less_live, less_dying}
use Rattle.promise.proofs.mount.MountRuns.{Runs, AllDurable}
use Rattle.promise.proofs.mount.MountFilled.{Filled, filled_inv, filled_on, with_parity}
use Rattle.promise.proofs.roles.Ordinary.{Ordinary, ordinary_part, carried_to, ordinary_firm, ordinary_seen}
use Rattle.promise.proofs.roles.OrdinaryDelayed.{seen_back, seen_back_delayed, ordinary_delayed, ordinary_forgets}
use Rattle.promise.proofs.roles.Roled.{Standing, ordinary_invs, standing_cut}
use Rattle.promise.proofs.roles.RoledCalls.{RoledInvs}
use Rattle.promise.proofs.roles.Spares.{SameButSpares, spare_logs, spare_less}
use Rattle.promise.proofs.emptying.EmptyingStops.{Solid}
use Rattle.promise.proofs.emptying.Marked.{KeptBy}
use Rattle.promise.proofs.emptying.CutRuns.{CutRuns}

abbrev pub Part : Geometry → ℕ → Ledger → Device → List Store → (Device → Type 0) → Type 0
Part g x l v xs Q = CutRuns g x v xs (λ w. KeptBy g x w l) Q

-- ---- marks
pub kept_as_is : (g : Geometry) (x : ℕ) (w : Device) (l : Ledger) (c : LogGenerations) → RoledInvs c g x w l → KeptBy g x w l
kept_as_is g x w l c h = record { generations = c; marks = l.committed; above = λ z. le_refl (l.committed z); holds = h }

pub kept_less : (g : Geometry) (x : ℕ) (w : Device) (l : Ledger) (m : ℕ → ℕ) → MarksAbove l m → KeptBy g x w (with_marks l m) → KeptBy g x w l
kept_less g x w l m a k = record { generations = k.generations; marks = k.marks; above = λ z. le_trans (a z) (k.above z); holds = k.holds }

pub part_less : (g : Geometry) (x : ℕ) (l : Ledger) (m : ℕ → ℕ) (v : Device) (xs : List Store) (Q : Device → Type 0) → MarksAbove l m → Part g x (with_marks l m) v xs Q → Part g x l v xs Q
part_less g x l m v xs Q a p = record { stopped = λ n u w h k. kept_less g x w l m a (p.stopped n u w h k); forgets = p.forgets; after = p.after }

-- ---- A PART OF ORDINARY STORES
pub record Carried (g : Geometry) (x : ℕ) (v : Device) (c : LogGenerations) (xs : List Store) (Q : Device → Type 0) (u : Device) : Type 0 where
  pub standing : Standing g x u c
  pub roles_are : (e : ℕ) → Here g x e → roles g u e ≡ roles g v e
  pub reached : Q (apply_all xs (by_roles g v))
  pub seen : (e y : ℕ) → Here g x e → by_roles g u e y ≡ apply_all xs (by_roles g v) e y

pub ordinary_run : (g : Geometry) (x : ℕ) (c : LogGenerations) (l : Ledger) (v : Device) → Standing g x v c → (xs : List Store) → Ordinary g x xs → (Q : Device → Type 0) → Runs c g x l (by_roles g v) xs Q
    → Part g x l v (map (carry (places g v)) xs) (Carried g x v c xs Q)
ordinary_run g x c l v s xs o Q r = record { stopped = stop; forgets = ordinary_forgets g x v c s xs r.forgets; after = record { standing = standing; roles_are = are; reached = r.after; seen = λ e y a. ordinary_seen g x v s.roles s.firm xs o c s.general_claim_lem s.parity_claim_lem last.0 last.1.logs last.2 e a y } }
  where
    stop : (n : ℕ) (u w : Device) → Delayed g x v (take n (map (carry (places g v)) xs)) u → Cut x u w → KeptBy g x w l
    stop n u w k cut =
        let p = ordinary_part g x n xs o in
        let k1 = subst (λ (ys : List Store). Delayed g x v ys u) (take_map (carry (places g v)) n xs) k in
        let (t, i) = ordinary_delayed g x v c s (take n xs) p u k1 l (r.during n (seen_back g x v c s (take n xs) p u k1) (seen_back_delayed g x v c s (take n xs) p u k1)) in
        kept_as_is g x w l c (standing_cut g x u w c l t i cut)

    last : (δ : Ghost) × Inv g x (apply_all xs (by_roles g v)) l δ × (δ.closed ≡ c)
    last = subst (λ (ys : List Store). (δ : Ghost) × Inv g x (apply_all ys (by_roles g v)) l δ × (δ.closed ≡ c)) (take-length xs) (r.during (length xs) (apply_all (take (length xs) xs) (by_roles g v)) (delayed_none g x (by_roles g v) (take (length xs) xs)))

    firm : (e : ℕ) → Here g x e → Firm g (carried_to g v xs) e (s.roles e)
    firm e a = ordinary_firm g x v s.roles s.firm xs o c s.general_claim_lem s.parity_claim_lem last.0 last.1.logs last.2 e a

    standing : Standing g x (carried_to g v xs) c
    standing = record { roles = s.roles; firm = firm; general_claim_lem = s.general_claim_lem; parity_claim_lem = s.parity_claim_lem }

    are : (e : ℕ) → Here g x e → roles g (carried_to g v xs) e ≡ roles g v e
    are e a = firm_roles g (carried_to g v xs) e (s.roles e) (firm e a) ∙ sym (firm_roles g v e (s.roles e) (s.firm e a))

-- stores on present drives are carried alike by roles that agree there
pub carried_alike : (present : ℕ → Bool) (ρ σ : ℕ → ℕ → ℕ) → ((e : ℕ) → present e ≡ true → ρ e ≡ σ e) → (xs : List Store) → AllOn present xs → map (carry ρ) xs ≡ map (carry σ) xs
carried_alike present ρ σ h [] o = refl
carried_alike present ρ σ h (s ∷ xs) o = ap₂ (λ (t : Store) (ts : List Store). t ∷ ts) (one s (h (store_drive s) o.0)) (carried_alike present ρ σ h xs o.1)
  where
    one : (s : Store) → ρ (store_drive s) ≡ σ (store_drive s) → carry ρ s ≡ carry σ s
    one (append d z t) e = ap (λ (f : ℕ → ℕ). append d (f z) t) e
    one (reset d z) e = ap (λ (f : ℕ → ℕ). reset d (f z)) e
    one (flush d) e = refl

pub concat_carried : (ρ : ℕ → ℕ → ℕ) (ps : List (List Store)) → concat (carry_phases ρ ps) ≡ map (carry ρ) (concat ps)
concat_carried ρ [] = refl
concat_carried ρ (p ∷ ps) = ap (λ (t : List Store). map (carry ρ) p ++ t) (concat_carried ρ ps) ∙ sym (map_append (carry ρ) p (concat ps))

-- ---- all lasts, by the roles and on the physical zones
pub solid_seen : (g : Geometry) (x : ℕ) (c : LogGenerations) (v : Device) → Standing g x v c → Solid g x v → AllDurable g x (by_roles g v)
solid_seen g x c v s h = record { lasts = λ e y a. rw (firm_seen g v e (s.roles e) (s.firm e a) y) (h e (zone_of_role (s.roles e) y) a) }

pub seen_solid : (g : Geometry) (x : ℕ) (c : LogGenerations) (v : Device) → Standing g x v c → AllDurable g x (by_roles g v) → Solid g x v
seen_solid g x c v s h e y a = go (dec_lt y 3)
  where
    r : Roles
    r = s.roles e

    at : (i : ℕ) → y ≡ zone_of_role (s.roles e) i → (v e y).durable ≡ length (v e y).sectors
    at i q = rw (q, ← firm_seen g v e (s.roles e) (s.firm e a) i) (h.lasts e i a)

    role : RoleOf (s.roles e) y → (v e y).durable ≡ length (v e y).sectors
    role (is_general q) = at 0 q
    role (is_parity q) = at 1 q
    role (is_spare q) = at 2 q

    go : Dec (y < 3) → (v e y).durable ≡ length (v e y).sectors
    go (yes k) = role (role_of (s.roles e) (s.firm e a).proper y k)
    go (no k) = at (suc (suc (suc (y - 3)))) (omega arith)

-- ---- WHAT IS FILLED stays so with the same present drives
abbrev pub as_it_is : Ghost → Ghost
as_it_is δ = with_parity δ δ.parity δ.closed

same_drives : (g : Geometry) (x : ℕ) (u w : Device) (δ : Ghost) → LogsOk g x u δ → ((e y : ℕ) → Here g x e → w e y ≡ u e y) → SameButSpares g x u w
same_drives g x u w δ lg h = record {
  same = λ e y a n. h e y a;
  lasts = λ e a. rw (h e spare_zone a) (lg.lasting e spare_zone a (omega arith));
  fits = λ e a. rw (h e spare_zone a) (lg.place_fits e spare_zone a (omega arith));
}

pub filled_same : (g : Geometry) (x : ℕ) (u w : Device) (δ : Ghost) (l : Ledger) (k : Shown) → Filled g x u δ l k → ((e y : ℕ) → Here g x e → w e y ≡ u e y) → Filled g x w (as_it_is δ) l k
filled_same g x u w δ l k f h =
    let sb = same_drives g x u w δ f.logs h in
    let less = spare_less g x u w sb δ in
    filled_on g x u δ l k f w δ.parity δ.closed l (spare_logs g x u w sb δ f.logs) (λ z hz q. less_live g x x u w δ δ.general δ.parity f.logs less l z hz q.live) (λ z hz q. less_live g x x u w δ δ.general δ.parity f.logs less l z hz q.live)
    (λ z hz q. less_dying g x x u w δ δ.general δ.parity f.logs less l z hz q.dying) (record { lasts = λ d y a. rw (h d y a) (f.settled.lasts d y a) }) (λ z hz q. q.least) (λ d a. h d general_zone a) (λ z d a. h d (data_zone z) a) f.whole
    (λ z hz q o. o.ends_in)

-- on the physical device
pub record FilledAt (g : Geometry) (x : ℕ) (v : Device) (c : LogGenerations) (l : Ledger) (k : Shown) : Type 0 where
  pub standing : Standing g x v c
  pub ghosts : Ghost
  pub filled : Filled g x (by_roles g v) ghosts l k
  pub closed_is : ghosts.closed ≡ c

pub filled_solid : (g : Geometry) (x : ℕ) (v : Device) (c : LogGenerations) (l : Ledger) (k : Shown) → FilledAt g x v c l k → Solid g x v
filled_solid g x v c l k f = seen_solid g x c v f.standing f.filled.settled

pub filled_at_same : (g : Geometry) (x : ℕ) (v w : Device) (c : LogGenerations) (l : Ledger) (k : Shown) → FilledAt g x v c l k → ((e y : ℕ) → Here g x e → w e y ≡ v e y) → FilledAt g x w c l k
filled_at_same g x v w c l k f h = record {
  standing = let s = f.standing in record { roles = s.roles; firm = firm; general_claim_lem = s.general_claim_lem; parity_claim_lem = s.parity_claim_lem };
  ghosts = as_it_is f.ghosts;
  filled = filled_same g x (by_roles g v) (by_roles g w) f.ghosts l k f.filled is;
  closed_is = f.closed_is;
}
  where
    firm : (e : ℕ) → Here g x e → Firm g w e (f.standing.roles e)
    firm e a = firm_same g v w e (f.standing.roles e) (f.standing.firm e a) (λ y k. h e y a)

    is : (e y : ℕ) → Here g x e → by_roles g w e y ≡ by_roles g v e y
    is e y a = firm_seen g w e (f.standing.roles e) (firm e a) y ∙ h e (zone_of_role (f.standing.roles e) y) a ∙ sym (firm_seen g v e (f.standing.roles e) (f.standing.firm e a) y)

pub filled_roled : (g : Geometry) (x : ℕ) (v : Device) (c : LogGenerations) (l : Ledger) (k : Shown) → FilledAt g x v c l k → RoledInvs c g x v l
filled_roled g x v c l k f = (f.standing, (f.ghosts, filled_inv g x (by_roles g v) f.ghosts l k f.filled, f.closed_is))
