use Rattle.std.proofs.Common.{◌≡◌, false, true, inl, inr, sym, ◌∙◌, refl, arith, add-one}
use Rattle.volume.specs.meaning.CallContracts.{is_set}
use Rattle.volume.specs.looking.ZoneLooking.{known_at, known_at_lem, prefix_stops}
use Rattle.volume.specs.looking.Knowing.{read_device}
use Rattle.volume.proofs.zone_looking.known_prefix.Goals as goal

pub returns-then-not-is_known : goal.returns-then-not-is_known
returns-then-not-is_known c =
    let z = c.args.zone in
    let g = z.geometry in
    let v = read_device g c.args.sectors.now c.args.written.now in
    let stops : known_at g (is_set z.here) v z.number z.generation c.loop-a.a ≡ false = sym (known_at_lem g (is_set z.here) v z.number z.generation c.loop-a.a) ∙ sym c.is_known.ensures ∙ c.if-not-is_known.true in
    prefix_stops g (is_set z.here) v z.number z.generation c.args.limit c.loop-a.a c.requires.readable.2 (omega arith) c.loop-a.invariant (inl stops)

pub loop-a-preserved : goal.loop-a-preserved
loop-a-preserved c =
    let z = c.args.zone in
    let g = z.geometry in
    let v = read_device g c.args.sectors.now c.args.written.now in
    let goes_on : known_at g (is_set z.here) v z.number z.generation c.loop-a.a ≡ true = sym (known_at_lem g (is_set z.here) v z.number z.generation c.loop-a.a) ∙ sym c.is_known.ensures ∙ c.if-not-is_known.false in
    rw (add-one, c.loop-a.invariant, goes_on) refl

pub returns : goal.returns
returns c =
    let z = c.args.zone in
    let g = z.geometry in
    let v = read_device g c.args.sectors.now c.args.written.now in
    let all = c.loop-a.invariant in
    let e : c.loop-a.a ≡ c.args.limit = omega arith in
    prefix_stops g (is_set z.here) v z.number z.generation c.args.limit c.args.limit c.requires.readable.2 (omega arith) (rw e at all) (inr (omega arith))
