use mathlib.Core.Path.{◌≡◌, refl, ap₂, ◌∙◌}
use mathlib.Core.Bool.{Bool, ◌&&◌, not}
use Rattle.tables.specs.meaning.Lists.{any_of}
use Rattle.logs.specs.meaning.Heads.{is_seal_at}
use Rattle.volume.specs.meaning.Rules.{general_heads}
use Rattle.volume.specs.checks.Records.{zone_look}
use Rattle.mounting.specs.MountHeaders.{seal_due, seen_heads}
use borrow.Author.Rules.{rules}
use Rattle.mounting.proofs.log_headers.seal_due.Statement.{statement}
use Rattle.mounting.proofs.log_headers.seal_due.Tie as tie
use Rattle.volume.specs.looking.Knowing.{read_device}

returns : tie.Need-returns
unfolding seal_due
returns c =
    let s = c.before.before.before.before.before.before.before in
    let a = s.args in
    let there : c.has_seal_at-there.result ≡ any_of (is_seal_at a.z (zone_look a.basis.look a.z).generation (zone_look a.basis.look a.z).pointer) (general_heads a.basis.geometry (read_device a.basis.geometry a.sectors.now a.pointers.now) a.drive) = c.has_seal_at-there.ensures ∙ rw (c.sectors_then-n.ensures.0, seen_heads a.basis.geometry a.sectors.now a.pointers.now a.drive s.requires.1.0) refl in
    ap₂ (λ (sealed found : Bool). sealed && not found) c.is_sealed-sealed.ensures there

pub seal_due_spec : {M : Type 1} → statement M
seal_due_spec =
    tie.close
    (tie.spec (λ c. search rules) (λ c. search rules) (λ c κs. search rules) (λ c κs. search rules) (λ c κs. search rules) returns)
