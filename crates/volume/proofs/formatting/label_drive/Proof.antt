use Prim.Native.Nat.{ℕ}
use mathlib.Core.Path.{ap, ◌∙◌}
use mathlib.Core.List.{List}
use lib.ListN.{take, replicate}
use Rattle.tables.specs.meaning.Device.{append}
use Rattle.tables.specs.laws.Made.{store_if}
use Rattle.logs.specs.meaning.Entry.{general_zone, encode, label, counters}
use Rattle.volume.specs.meaning.Calls.{generations_from}
use Rattle.volume.specs.laws.CallContracts.{appends_append}
use Rattle.volume.specs.checks.Logging.{appended_as}
use Rattle.volume.specs.storing.Formatting.{ones_first}
use borrow.Author.Rules.{rules}
use Rattle.volume.proofs.formatting.label_drive.Statement.{statement}
use Rattle.volume.proofs.formatting.label_drive.Tie as tie

append-counters-requires : tie.Need-append_counters-requires
append-counters-requires c κs =
    let s = c.before.before.before.before.before.before.before.before.before.before.before.before in
    let l = c.append_label-rest in
    (s.requires.0, (s.requires.1.0, s.requires.0.zones_most, l.auto.sectors ∙ s.requires.1.2, l.auto.written ∙ s.requires.1.3))

returns : tie.Need-returns
returns c =
    let at-append-counters = c.before.before.before.before in
    let at-append-label = at-append-counters.before.before.before.before.before.before.before.before in
    let s = at-append-label.before.before.before.before.before in
    let a = s.args in
    let l = at-append-label.append_label-rest in
    let k = at-append-counters.append_counters in
    let e = ap (λ (ns : List ℕ). encode a.g a.drive (counters ns)) (ones_first a.g.zones s.requires.0.zones_most) in
    appends_append a.g a.budget l.result k.result (store_if a.here (append a.drive general_zone (encode a.g a.drive (label a.lost a.array)))) (store_if a.here (append a.drive general_zone (encode a.g a.drive (counters (generations_from (λ z. 1) 0 a.g.zones))))) a.sectors.now a.written.now l.new.sectors l.new.written k.new.sectors k.new.written l.ensures (appended_as a.g l.result k.result a.here a.drive general_zone (encode a.g a.drive (counters (take a.g.zones (replicate 16 1)))) (encode a.g a.drive (counters (generations_from (λ z. 1) 0 a.g.zones))) l.new.sectors l.new.written k.new.sectors k.new.written e k.ensures)

pub label_drive_spec : {M : Type 1} → statement M
label_drive_spec =
    tie.close
    (tie.spec (λ c κs. search rules) (λ c. search rules) append-counters-requires (λ c. search rules) (λ c. search rules) returns)
