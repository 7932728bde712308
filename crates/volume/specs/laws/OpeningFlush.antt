-- The first flush of a mount keeps all sectors.
use Rattle.std.specs.Prelude.{◌≡◌, refl, Bool, true, false, ℕ, zero, suc, List, [], ◌∷◌, length, eqb}
use Rattle.std.proofs.Common.{ap, ◌∙◌}
use Rattle.tables.specs.declared.Geometry.{Geometry}
use Rattle.tables.specs.meaning.Basics.{pick}
use Rattle.tables.specs.meaning.Device.{Device, ZoneView, Store, flush, apply_all}
use Rattle.tables.specs.laws.Device.{apply_all_append}
use Rattle.tables.specs.meaning.Phases.{on_present, flush_all}
use Rattle.tables.specs.laws.Phases.{on_present_append}
use Rattle.volume.specs.meaning.Mount.{after_opening}

flush_sectors : (a : ℕ → Bool) (n : ℕ) (v : Device) (d z : ℕ) → (apply_all (on_present a (flush_all n)) v d z).sectors ≡ (v d z).sectors
flush_sectors a zero v d z = refl
flush_sectors a (suc n) v d z =
    ap (λ (ss : List Store). (apply_all ss v d z).sectors) (on_present_append a (flush_all n) (flush n ∷ []))
    ∙ ap (λ (w : Device). (w d z).sectors) (apply_all_append (on_present a (flush_all n)) (on_present a (flush n ∷ [])) v)
    ∙ one (a n) (apply_all (on_present a (flush_all n)) v) ∙ flush_sectors a n v d z
  where
    pointed : (b : Bool) (x : ZoneView) → (pick b (record { sectors = x.sectors; durable = length x.sectors }) x).sectors ≡ x.sectors
    pointed true x = refl
    pointed false x = refl

    one : (b : Bool) (w : Device) → (apply_all (pick b (flush n ∷ []) []) w d z).sectors ≡ (w d z).sectors
    one true w = pointed (eqb d n) (w d z)
    one false w = refl

pub opening_sectors : (g : Geometry) (a : ℕ → Bool) (v : Device) (d z : ℕ) → (after_opening g a v d z).sectors ≡ (v d z).sectors
unfolding after_opening
opening_sectors g a v d z = flush_sectors a g.drives v d z
