-- The invariant survives every power cut, and the loss of a drive. A cut leaves a part of each place, as a stopped call does; after a loss
-- fewer drives are spoken of, and those are as they were.
use Rattle.tables.specs.laws.Drives.{present_other, present_below, present_not}
use Rattle.tables.specs.meaning.Drives.{no_drive}
use Rattle.promise.proofs.invariant.StoppedCall.{Part, inv_part}
use Rattle.tables.specs.laws.Lists.{prefix_take, prefix_refl}
use Rattle.std.specs.Prelude.{◌≡◌, refl, ◌⊎◌, true, ℕ, ◌+◌, ◌-◌, ◌<◌, length, take}
use Rattle.std.proofs.Common.{sym, ◌∙◌, inl, inr, le_refl, le_of_eq, arith, length-take-le}
use mathlib.Core.List.{Memᴰ}
use Rattle.std.proofs.Math.Seq.{take-length}
use Rattle.tables.specs.meaning.Device.{ZoneView, Device, ZoneCut, Loss}
use Rattle.tables.specs.laws.Device.{cut_at, loss_at}
use Rattle.tables.specs.declared.Geometry.{Geometry}
use Rattle.tables.specs.meaning.Geometry.{Valid, data_zone}
use Rattle.logs.specs.meaning.Entry.{general_zone, parity_zone, Entry}
use Rattle.logs.specs.meaning.Heads.{last_lost}
use Rattle.logs.specs.laws.Walk.{Left}
use Rattle.volume.specs.meaning.Content.{parity_drive_at}
use Rattle.volume.specs.declared.Condition.{Condition}
use Rattle.volume.specs.declared.Condition.TheVariants.{Empty, Open, Sealed, Worn}
use Rattle.promise.specs.meaning.Ledger.{Ledger}
use Rattle.promise.proofs.invariant.Invariant.{Ghost, Here, LogsOk, Names, Plain, Shape}
use Rattle.promise.proofs.invariant.HoldsLess.{with_logs, Less, less_zone, less_live}
use Rattle.promise.proofs.invariant.Obligations.{CutKeeps, LossKeeps, LossRests}

-- a cut leaves a part of each place
pub cut_part : (a b : ZoneView) → ZoneCut a b → Part a b
cut_part a b c = rw c.is (record { front = prefix_take c.kept a.sectors; least = c.least; most = le_of_eq (sym (length-take-le c.kept a.sectors c.most)) })

-- THE INVARIANT SURVIVES EVERY CUT
pub cut_keeps : (g : Geometry) → Valid g → CutKeeps g
cut_keeps g ok k x v w l (γ, i, e) c = let (δ, j, p) = inv_part g x v w l γ i (λ d y a h. cut_part (v d y) (w d y) (cut_at x v w c d y (present_not g x d a))) in (δ, j, p ∙ e)

-- the drives that are present after a loss of y were so before (x: lost before, if any)
pub present_before : (g : Geometry) → Valid g → (x y : ℕ) → (x ≡ no_drive) ⊎ (x ≡ y) → (d : ℕ) → Here g y d → Here g x d
present_before g ok x y (inl e) d a = let h = present_below g y d a in rw e (present_other g no_drive d h (λ q. omega (arith, ok.drives_most)))
present_before g ok x y (inr e) d a = rw e a

-- ---- drive y is lost, or was before (x); v, w: the device before and after
module _ (g : Geometry) (ok : Valid g) (x y : ℕ) (hy : y < g.drives) (one : (x ≡ no_drive) ⊎ (x ≡ y)) (v w : Device) (lo : Loss y v w) (γ : Ghost) where
  here_before : (d : ℕ) → Here g y d → Here g x d
  here_before = present_before g ok x y one

  -- the drives that are left are as they were
  same : (d z : ℕ) → Here g y d → w d z ≡ v d z
  same d z a = loss_at y v w lo d z (present_not g y d a)

  named_before : (n : ℕ) → Names x n → Names y n
  named_before n (inl e) = inl e
  named_before n (inr e) = go one
    where
      go : (x ≡ no_drive) ⊎ (x ≡ y) → Names y n
      go (inl q) = inl (e ∙ q)
      go (inr q) = inr (e ∙ q)

  pub lose_logs : LogsOk g x v γ → LogsOk g y w (with_logs γ γ.general γ.parity)
  lose_logs lg = record {
    lost_ok = inr hy;
    array_lt = lg.array_lt;
    general_is = λ d a. rw (same d general_zone a) (lg.general_is d (here_before d a));
    general_reads = λ d a. lg.general_reads d (here_before d a);
    first = λ d a. lg.first d (here_before d a);
    first_lasts = λ d a. rw (same d general_zone a) (lg.first_lasts d (here_before d a));
    arrays = λ d a. lg.arrays d (here_before d a);
    labels = λ d a. rw (same d general_zone a) (λ j h. named_before (last_lost no_drive (take j (γ.general d))) (lg.labels d (here_before d a) j h));
    general_closes = λ d a. lg.general_closes d (here_before d a);
    general_closed = λ d a. rw (same d general_zone a) (lg.general_closed d (here_before d a));
    parity_closes = λ d a. lg.parity_closes d (here_before d a);
    parity_closed_lem = λ d a. rw (same d parity_zone a) (lg.parity_closed_lem d (here_before d a));
    parity_is = λ d a. rw (same d parity_zone a) (lg.parity_is d (here_before d a));
    parity_lawful = λ d a. lg.parity_lawful d (here_before d a);
    parity_fits = λ d a. lg.parity_fits d (here_before d a);
    lasting = λ d z a h. rw (same d z a) (lg.lasting d z (here_before d a) h);
    place_fits = λ d z a h. rw (same d z a) (lg.place_fits d z (here_before d a) h);
  }

  left_self : (d : ℕ) (e : Entry) → Memᴰ e (γ.parity d) → Left g d true e (γ.parity d)
  left_self d e m = record { of = e; is_set = m; heads = refl; many = length e.rows; rows_are = sym (take-length e.rows) }

  pub lose_less : Less g x y v w γ γ.general γ.parity
  lose_less = record {
    here = here_before;
    general_sub = λ d a h m. m;
    general_lasts_lem = λ d a h m. rw (same d general_zone a) m;
    general_cuts = λ d a j h. (j, rw (← same d general_zone a) h, refl);
    parity_sub = λ d a e m. left_self d e m;
    parity_lasts_lem = λ d a e q m. rw (same d parity_zone a) m;
    data_sub = λ d z hz a. rw (same d (data_zone z) a) (prefix_refl (v d (data_zone z)).sectors);
    data_lasts = λ d z hz a. rw (same d (data_zone z) a) (le_refl (v d (data_zone z)).durable);
  }

  lose_plain : (l : Ledger) (z : ℕ) → Plain g x v γ l z → Plain g y w (with_logs γ γ.general γ.parity) l z
  lose_plain l z p = record { all_content = p.all_content; just = λ d a. rw (same d (data_zone z) a) (p.just d (here_before d a)); no_seal = λ d a. p.no_seal d (here_before d a); unworn = p.unworn }

  lose_shape : (l : Ledger) (z : ℕ) (c : Condition) → Shape g x v γ l z c → Shape g y w (with_logs γ γ.general γ.parity) l z c
  lose_shape l z Empty s = lose_plain l z s
  lose_shape l z (Open n) s = lose_plain l z s
  lose_shape l z (Sealed n) s = ((λ d a. rw (same d general_zone a) (s.0 d (here_before d a))), s.1, s.2)
  lose_shape l z (Worn n) s = s

pub loss_keeps : (g : Geometry) → Valid g → LossKeeps g
loss_keeps g ok c x y v w l h one lo (γ, i, q) = (
  with_logs γ γ.general γ.parity,
  record {
    logs = lose_logs g ok x y h one v w lo γ i.logs;
    zones = λ z k. less_zone g x y v w γ γ.general γ.parity i.logs (lose_less g ok x y h one v w lo γ) l z k (i.zones z k);
  },
  q,
)

pub loss_rests : (g : Geometry) → Valid g → LossRests g
loss_rests g ok c x y v w state l h one lo (γ, r, p) = (
  with_logs γ γ.general γ.parity,
  record {
    logs = lose_logs g ok x y h one v w lo γ r.logs;
    zones = λ z k. let q = r.zones z k in record {
      live = less_live g x y v w γ γ.general γ.parity r.logs (lose_less g ok x y h one v w lo γ) l z k q.live;
      generation_is = q.generation_is;
      pointer_is = q.pointer_is;
      strong_now = record {
        places = λ d a. rw (same g ok x y h one v w lo γ d (data_zone z) a) (q.strong_now.places d (here_before g ok x y h one v w lo γ d a));
        entry = λ i a. q.strong_now.entry i (here_before g ok x y h one v w lo γ (parity_drive_at g z (length (l.content z))) a);
      };
      shape = lose_shape g ok x y h one v w lo γ l z (state.condition z) q.shape;
      sectors = q.sectors;
      no_flag = q.no_flag;
    };
    whole = λ d a. r.whole d (here_before g ok x y h one v w lo γ d a);
    lost_is = named_before g ok x y h one v w lo γ state.lost r.lost_is;
  },
  p,
)
