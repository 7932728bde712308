use mathlib.Core.Path.{◌≡◌, ◌∙◌}
use lib.ListN.{length, take}
use Rattle.tables.specs.meaning.Geometry.{cells, total_bytes}
use Rattle.volume.specs.meaning.CallContracts.{is_set}
use Rattle.volume.specs.storing.Resetting.{reset_made_lem}
use borrow.Author.Rules.{rules}
use Rattle.volume.proofs.resetting.reset_stores.Statement.{statement}
use Rattle.volume.proofs.resetting.reset_stores.Tie as tie

-- each call's place, from that of the next
abbrev at-start : tie.After-log_resets-logged → tie.Start
at-start c = c.before.before.before.before.before.before.before.before.before

abbrev at-logged : tie.After-flush_all-flushed → tie.After-log_resets-logged
at-logged c = c.before.before.before.before.before.before.before

abbrev at-flushed : tie.After-reset_zones-cleared → tie.After-flush_all-flushed
at-flushed c = c.before.before.before.before.before.before

abbrev at-cleared : tie.After-flush_all-settled → tie.After-reset_zones-cleared
at-cleared c = c.before.before.before.before.before.before.before

abbrev at-settled : tie.After-log_counters-counted → tie.After-flush_all-settled
at-settled c = c.before.before.before.before.before.before

-- the tables keep their lengths
logged : (c : tie.After-log_resets-logged) → (length c.log_resets-logged.new.sectors ≡ total_bytes (at-start c).args.zone.geometry) × (length c.log_resets-logged.new.written ≡ cells (at-start c).args.zone.geometry)
logged c = let s = at-start c in (c.log_resets-logged.auto.sectors ∙ s.requires.1.2, c.log_resets-logged.auto.written ∙ s.requires.1.3)

flushed : (c : tie.After-flush_all-flushed) → length c.flush_all-flushed.new.durable ≡ cells (at-start (at-logged c)).args.zone.geometry
flushed c = c.flush_all-flushed.auto.durable ∙ (at-start (at-logged c)).requires.1.4

cleared : (c : tie.After-reset_zones-cleared) → (length c.reset_zones-cleared.new.written ≡ cells (at-start (at-logged (at-flushed c))).args.zone.geometry) × (length c.reset_zones-cleared.new.durable ≡ cells (at-start (at-logged (at-flushed c))).args.zone.geometry)
cleared c = (c.reset_zones-cleared.auto.written ∙ (logged (at-logged (at-flushed c))).1, c.reset_zones-cleared.auto.durable ∙ flushed (at-flushed c))

flush-all-requires : tie.Need-flush_all-flushed-requires
flush-all-requires c κs =
    let l = c.before.before.before.before.before.before in
    let s = at-start l in
    (s.requires.0, ((logged l).1, s.requires.1.4))

reset-zones-requires : tie.Need-reset_zones-cleared-requires
reset-zones-requires c κs =
    let f = c.before.before.before.before.before in
    let s = at-start (at-logged f) in
    (s.requires.0, (s.requires.1.0, (logged (at-logged f)).1, flushed f))

flush-all-requires-2 : tie.Need-flush_all-settled-requires
flush-all-requires-2 c κs =
    let r = c.before.before.before.before.before.before in
    ((at-start (at-logged (at-flushed r))).requires.0, cleared r)

log-counters-requires : tie.Need-log_counters-counted-requires
log-counters-requires c κs =
    let r = at-cleared c.before.before.before.before.before in
    let l = at-logged (at-flushed r) in
    let s = at-start l in
    (s.requires.0, (s.requires.1.1, (logged l).0, (cleared r).0))

flush-all-requires-3 : tie.Need-flush_all-requires
flush-all-requires-3 c κs =
    let k = c.before.before.before.before.before.before in
    let e = at-settled k in
    let r = at-cleared e in
    ((at-start (at-logged (at-flushed r))).requires.0, (k.log_counters-counted.auto.written ∙ (cleared r).0, e.flush_all-settled.auto.durable ∙ (cleared r).1))

-- what a return asks of the three lengths: `search` does not reach back to the start
same_length : tie.Need-shape_of-sectors
same_length c =
    let k : tie.After-log_counters-counted = c.before.before.before.before.before.before.before.before.before in
    let l = at-logged (at-flushed (at-cleared (at-settled k))) in
    k.log_counters-counted.auto.sectors ∙ l.log_resets-logged.auto.sectors

same-length-2 : tie.Need-shape_of-written
same-length-2 c =
    let k : tie.After-log_counters-counted = c.before.before.before.before.before.before.before.before.before in
    let r = at-cleared (at-settled k) in
    let l = at-logged (at-flushed r) in
    k.log_counters-counted.auto.written ∙ r.reset_zones-cleared.auto.written ∙ l.log_resets-logged.auto.written

same-length-3 : tie.Need-shape_of-durable
same-length-3 c =
    let k : tie.After-log_counters-counted = c.before.before.before.before.before.before.before.before.before in
    let e = at-settled k in
    let r = at-cleared e in
    let f = at-flushed r in
    c.flush_all.auto.durable ∙ e.flush_all-settled.auto.durable ∙ r.reset_zones-cleared.auto.durable ∙ f.flush_all-flushed.auto.durable

returns : tie.Need-returns
returns c =
    let at-counted = c.before.before.before.before.before.before.before.before.before in
    let at-flush-all2 = at-settled at-counted in
    let at-reset-zones = at-cleared at-flush-all2 in
    let at-flush-all = at-flushed at-reset-zones in
    let at-log-resets = at-logged at-flush-all in
    let a = (at-start at-log-resets).args in
    let l = at-log-resets.log_resets-logged in
    let f = at-flush-all.flush_all-flushed in
    let r = at-reset-zones.reset_zones-cleared in
    let e = at-flush-all2.flush_all-settled in
    let k = at-counted.log_counters-counted in
    let w = c.flush_all in
    reset_made_lem a.zone.geometry (is_set a.zone.here) a.zone.number a.zone.generation a.budget l.result f.result r.result e.result k.result w.result
    (take a.zone.geometry.zones a.generations.now) a.sectors.now a.written.now a.durable.now l.new.sectors l.new.written f.new.durable r.new.written r.new.durable e.new.durable k.new.sectors k.new.written w.new.durable
    l.ensures f.ensures r.ensures e.ensures k.ensures w.ensures

pub reset_stores_spec : {M : Type 1} → statement M
reset_stores_spec =
    tie.close
    (tie.spec (λ c κs. search rules) flush-all-requires reset-zones-requires flush-all-requires-2 log-counters-requires flush-all-requires-3 same_length same-length-2 same-length-3 returns)
