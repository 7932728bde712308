use mathlib.Core.Path.{◌≡◌, refl, sym, ap, ap₂, ◌∙◌}
use Prim.Native.Nat.{ℕ, ◌+◌, ◌-◌, ◌*◌, ◌%◌}
use mathlib.Core.List.{List}
use borrow.Author.Tests.{eq-eqb, ne_eqb}
use borrow.Author.Rules.{rules}
use Rattle.tables.specs.meaning.Lists.{overlay}
use Rattle.tables.specs.meaning.LittleEndian.{read_le}
use Rattle.tables.specs.laws.LittleEndian.{write_le}
use Rattle.volume.specs.declared.Condition.TheVariants.{Open}
use Rattle.volume.specs.declared.Owner.{Owner}
use Rattle.zrv.specs.meaning.Bytes.{record_to}
use Rattle.zrv.proofs.records.hand_record.Statement.{statement}
use Rattle.zrv.proofs.records.hand_record.Tie as tie

returns : tie.Need-returns-then-rest-eq0
returns c = let e = eq-eqb c.args.tried.rest 0 c.if-rest-eq0.true in (rw e refl, rw e refl)

returns-2 : tie.Need-returns
returns-2 c =
    let s = c.before.before.before.before.before.before.before.before.before.before in
    let a = s.args in
    let t = a.tried in
    let st = a.state.now in
    let e = ne_eqb t.rest 0 c.if-rest-eq0.false in
    let place = c.share_place-at.ensures.0 in
    let owner = c.owner_of-owner.ensures in
    let share = c.share_less-share.ensures ∙ ap (λ (n : ℕ). n - t.taken) (c.share_at-old.ensures ∙ ap (λ (i : ℕ). read_le 4 st (264 + i * 4)) place) in
    let with : Owner → ℕ → ℕ → List ℕ = λ o i n. write_le 4 (overlay (write_le 8 st 0 (t.lost % 256)) (8 + 16 * a.z) (record_to (record { generation = a.generation; condition = Open t.pointer; owner = o }))) (264 + i * 4) n in
    (rw e refl, c.put_parts.ensures ∙ (λ i. with (owner i) (place i) (share i)) ∙ rw e refl)

pub hand_record_spec : {M : Type 1} → statement M
hand_record_spec = tie.close (tie.spec returns (λ c κs. search rules) (λ c κs. search rules) (λ c κs. search rules) (λ c κs. search rules) (λ c κs. search rules) (λ c. search rules) returns-2)
