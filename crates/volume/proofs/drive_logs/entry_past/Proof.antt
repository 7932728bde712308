use mathlib.Core.Path.{◌≡◌, refl, ap, ap₂, ◌∙◌}
use mathlib.Core.Bool.{Bool, true, ◌||◌, not}
use mathlib.Core.List.{List}
use Prim.Native.Nat.{ℕ}
use native.Mathlib.Omega.{arith}
use lib.Dec.{eqb}
use Rattle.tables.specs.meaning.Lists.{any_of}
use Rattle.tables.specs.meaning.Geometry.{zone_sectors}
use Rattle.logs.specs.declared.Log.{Log}
use Rattle.logs.specs.meaning.Entry.{Entry, parity_zone}
use Rattle.logs.specs.meaning.Walk.{walk_log}
use Rattle.logs.specs.code.WalkCode.{log_sectors}
use Rattle.logs.specs.meaning.Heads.{ends_past}
use Rattle.logs.specs.laws.Heads.{ends_within}
use Rattle.logs.specs.laws.Places.{last_place}
use Rattle.logs.specs.code.Query.{heads_of, log_heads, torn_seen}
use Rattle.volume.specs.meaning.Rules.{ending_past}
use Rattle.volume.specs.looking.DriveLogs.{zone_pointer, in_log, past_seen, parity_entries_lem, place_past, parity_ending_lem, torn_past, torn_small}
use borrow.Author.Rules.{rules}
use Rattle.volume.proofs.drive_logs.entry_past.Statement.{statement}
use Rattle.volume.proofs.drive_logs.entry_past.Tie as tie

-- the parity log's sectors
abbrev log : tie.Start → List (List ℕ)
log s = let a = s.args in log_sectors a.g a.drive parity_zone a.sectors.now (zone_pointer a.g a.written.now a.drive parity_zone)

last-partial-requires : tie.Need-last_partial-place-requires
last-partial-requires c κs =
    let s = c.before.before.before.before in
    let a = s.args in
    (s.requires.0, in_log a.g a.sectors.now a.written.now a.drive parity_zone c.log_in-log.result c.log_in-log.ensures s.requires.1.0 s.requires.1.1 (omega arith))

torn-entry-requires : tie.Need-torn_entry-f-requires
torn-entry-requires c κs =
    let s = c.before.before.before.before.before in
    let a = s.args in
    (s.requires.0, in_log a.g a.sectors.now a.written.now a.drive parity_zone c.log_in-log.result c.log_in-log.ensures s.requires.1.0 s.requires.1.1 (omega arith))

torn-is : (c : tie.After-torn_entry-f) → let s = c.before.before.before.before.before.before in c.torn_entry-f.result ≡ torn_seen (walk_log s.args.g s.args.drive true (log s)).last
torn-is c =
    let a = c.args in
    c.torn_entry-f.ensures ∙ ap (λ (l : Log). torn_seen (walk_log a.g l.drive true (log_sectors a.g l.drive l.zone a.sectors.now l.written)).last) c.log_in-log.ensures

found-past-requires : tie.Need-found_past-torn-requires
found-past-requires c κs =
    let s = c.before.before.before.before.before.before in
    let a = s.args in
    (s.requires.0, rw (torn-is c) (torn_small a.g a.drive true (log s)))

returns : tie.Need-returns
returns c =
    let s = c.before.before.before.before.before.before.before in
    let a = s.args in
    let n = zone_pointer a.g a.written.now a.drive parity_zone in
    let place : c.last_partial-place.result ≡ last_place a.g (ends_within a.g a.z a.generation a.q (zone_sectors a.g)) 0 0 (heads_of (walk_log a.g a.drive true (log s))) =
    c.last_partial-place.ensures.0
    ∙ ap₂ (λ (l : Log) (k : ℕ). last_place a.g (ends_within a.g a.z a.generation a.q k) 0 0 (log_heads a.g l.drive true l.zone l.written a.sectors.now)) c.log_in-log.ensures c.zone_sectors-most.ensures.0 in
    ap₂ (λ (whole torn : Bool). whole || torn)
    (ap (λ (k : ℕ). not (eqb k 0)) place
    ∙ place_past a.g s.requires.0 a.drive true (log s) a.z a.generation a.q
    ∙ ap (any_of (λ (e : Entry). ends_past a.g a.z a.generation a.q e.head)) (parity_entries_lem a.g a.sectors.now a.written.now a.drive s.requires.1.1 n refl))
    (c.found_past-torn.ensures ∙ ap (past_seen a.g a.z a.generation a.q) (torn-is c.before)
    ∙ torn_past a.g a.z a.generation a.q (walk_log a.g a.drive true (log s)).last
    ∙ ap (ending_past a.g a.z a.generation a.q) (parity_ending_lem a.g a.sectors.now a.written.now a.drive s.requires.1.1 n refl))

pub entry_past_spec : {M : Type 1} → statement M
entry_past_spec =
    tie.close
    (tie.spec (λ c κs. search rules) (λ c κs. search rules) last-partial-requires torn-entry-requires found-past-requires returns)
