use Prim.Native.Nat.{ℕ}
use mathlib.Core.Path.{◌≡◌, ◌∙◌}
use mathlib.Core.List.{List, [], ◌∷◌}
use mathlib.Core.Bool.{false}
use lib.ListN.{take}
use Rattle.tables.specs.laws.Made.{MadeAppends}
use Rattle.logs.specs.meaning.Entry.{Header, counters}
use Rattle.logs.specs.meaning.Copies.{kept_label}
use Rattle.volume.specs.declared.emptying.HeaderCopy.TheVariants.{Seal, Reset}
use Rattle.volume.specs.emptying.Shape.{shape_valid}
use Rattle.volume.specs.emptying.Moving.{Copying, to_drive, to_sectors, to_written}
use Rattle.volume.specs.emptying.GeneralCopies.{old_heads, headers_on, copies_below, kept_label_long, counters_long, copies_long, headers_kept, general_made}
use borrow.Author.Rules.{rules}
use Rattle.volume.proofs.emptying.copy_general.Statement.{statement}
use Rattle.volume.proofs.emptying.copy_general.Tie as tie

abbrev heads : tie.Start → List Header
heads s = let a = s.args in old_heads a.e a.sectors.now a.pointers.now

-- after each part the old log is as it was
abbrev Kept : tie.Start → List ℕ → List ℕ → Type 0
Kept s xs ws = Copying false s.args.e s.args.pointers.now xs ws × (old_heads s.args.e xs s.args.pointers.now ≡ heads s)

labelled : (k : tie.After-copy_label-rest) → Kept k.before.before.before.before.before.before.before k.copy_label-rest.new.sectors k.copy_label-rest.new.written
labelled k =
    let s = k.before.before.before.before.before.before.before in
    let a = s.args in
    let f = k.copy_label-rest in
    headers_kept a.e a.pointers.now a.sectors.now a.written.now s.requires.1.0 a.budget f.result (kept_label (heads s)) f.new.sectors f.new.written (kept_label_long a.e.from a.e.drive s.requires.0 (heads s)) f.ensures

counted : (k : tie.After-copy_counters-rest) → Kept k.before.before.before.before.before.before.before.before.before.before.before.before.before.before k.copy_counters-rest.new.sectors k.copy_counters-rest.new.written
counted k =
    let l = k.before.before.before.before.before.before.before in
    let s = l.before.before.before.before.before.before.before in
    let a = s.args in
    let b = l.copy_label-rest in
    let f = k.copy_counters-rest in
    let r = headers_kept a.e a.pointers.now b.new.sectors b.new.written (labelled l).0 b.result f.result (counters (take a.e.from.zones a.generations.now) ∷ []) f.new.sectors f.new.written (counters_long a.e.from a.e.drive s.requires.0 a.generations.now s.requires.1.1) f.ensures in
    (r.0, r.1 ∙ (labelled l).1)

seals : (k : tie.After-copy_headers-rest) → MadeAppends k.args.e.to k.copy_counters-rest.result k.copy_headers-rest.result (headers_on k.args.e (copies_below k.args.e.from Seal k.args.generations.now (heads k.before.before.before.before.before.before.before.before.before.before.before.before.before.before.before.before.before.before.before.before.before) k.args.e.from.zones)) k.copy_counters-rest.new.sectors k.copy_counters-rest.new.written k.copy_headers-rest.new.sectors k.copy_headers-rest.new.written
seals k = rw (counted k.before.before.before.before.before.before.before).1 at k.copy_headers-rest.ensures

sealed : (k : tie.After-copy_headers-rest) → Kept k.before.before.before.before.before.before.before.before.before.before.before.before.before.before.before.before.before.before.before.before.before k.copy_headers-rest.new.sectors k.copy_headers-rest.new.written
sealed k =
    let l = k.before.before.before.before.before.before.before in
    let s = l.before.before.before.before.before.before.before.before.before.before.before.before.before.before in
    let a = s.args in
    let b = l.copy_counters-rest in
    let f = k.copy_headers-rest in
    let r = headers_kept a.e a.pointers.now b.new.sectors b.new.written (counted l).0 b.result f.result (copies_below a.e.from Seal a.generations.now (heads s) a.e.from.zones) f.new.sectors f.new.written
    (copies_long a.e.from a.e.drive s.requires.0 Seal a.generations.now (heads s) a.e.from.zones) (seals k) in
    (r.0, r.1 ∙ (counted l).1)

copy-counters-requires : tie.Need-copy_counters-rest-requires
copy-counters-requires c κs =
    let k = c.before.before.before.before.before.before in
    let s = k.before.before.before.before.before.before.before in
    let a = s.args in
    let b = k.copy_label-rest in
    let m = (labelled k).0 in
    let h = m.moves.shape in
    (shape_valid a.e.from a.e.to h s.requires.0, (to_drive false a.e a.pointers.now b.new.sectors b.new.written m, rw h.zones s.requires.1.1, to_sectors false a.e a.pointers.now b.new.sectors b.new.written m, to_written false a.e a.pointers.now b.new.sectors b.new.written m, h))

copy-headers-requires : tie.Need-copy_headers-rest-requires
copy-headers-requires c κs = let k = c.before.before.before.before.before.before in let s = k.before.before.before.before.before.before.before.before.before.before.before.before.before.before in (s.requires.0, ((counted k).0, s.requires.1.1))

copy-headers-requires-2 : tie.Need-copy_headers-requires
copy-headers-requires-2 c κs = let k = c.before.before.before.before.before.before in let s = k.before.before.before.before.before.before.before.before.before.before.before.before.before.before.before.before.before.before.before.before.before in (s.requires.0, ((sealed k).0, s.requires.1.1))

returns : tie.Need-returns
returns c =
    let w = c.before.before.before.before in
    let z = w.copy_headers in
    let k = w.before.before.before.before.before.before.before in
    let j = k.before.before.before.before.before.before.before in
    let i = j.before.before.before.before.before.before.before in
    let s = i.before.before.before.before.before.before.before in
    let a = s.args in
    let resets : MadeAppends a.e.to k.copy_headers-rest.result z.result (headers_on a.e (copies_below a.e.from Reset a.generations.now (heads s) a.e.from.zones)) k.copy_headers-rest.new.sectors k.copy_headers-rest.new.written z.new.sectors z.new.written = rw (sealed k).1 at z.ensures in
    general_made a.e a.generations.now (heads s) s.requires.1.1 a.budget i.copy_label-rest.result j.copy_counters-rest.result k.copy_headers-rest.result z.result a.sectors.now a.written.now i.copy_label-rest.new.sectors i.copy_label-rest.new.written j.copy_counters-rest.new.sectors j.copy_counters-rest.new.written k.copy_headers-rest.new.sectors k.copy_headers-rest.new.written z.new.sectors z.new.written
    i.copy_label-rest.ensures j.copy_counters-rest.ensures (seals k) resets

pub copy_general_spec : {M : Type 1} → statement M
copy_general_spec = tie.close (tie.spec (λ c κs. search rules) copy-counters-requires copy-headers-requires copy-headers-requires-2 (λ c. search rules) (λ c. search rules) returns)
