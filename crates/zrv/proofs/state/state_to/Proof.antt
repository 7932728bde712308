use mathlib.Core.Path.{◌≡◌, sym, ap, ◌∙◌}
use mathlib.Core.List.{List, ◌++◌}
use native.Mathlib.Omega.{arith}
use Prim.Native.Nat.{ℕ, ◌*◌, ◌≤◌}
use lib.ListN.{length, take, drop}
use lib.Seq.{take_at, drop_at}
use Rattle.zrv.specs.meaning.Bytes.{records_part, shares_part}
use Rattle.zrv.specs.laws.Bytes.{length_records_part, state_start, state_laid}
use Rattle.zrv.proofs.state.state_to.Statement.{statement}
use Rattle.zrv.proofs.state.state_to.Tie as tie

write-u64-requires : tie.Need-write_u64-requires
write-u64-requires c κs = omega (arith, c.before.before.before.clear.auto.out, c.requires.1)

put-records-requires : tie.Need-put_records-requires
put-records-requires c κs =
    let s = c.before.before.before.before.before.before.before.before.before.before.before in
    let k = c.before.before.before.before.before.before.before.clear in
    (omega (arith, s.requires.0.zones_most), c.write_u64.ensures ∙ rw (k.ensures, s.requires.1) (state_start s.args.state))

-- where the records end
records-long : (s : tie.Start) → length (records_part s.args.g.zones s.args.state) ≡ 264
records-long s = length_records_part s.args.g.zones s.args.state s.requires.0.zones_most

put-shares-requires : tie.Need-put_shares-requires
put-shares-requires c κs =
    let s = c.before.before.before.before.before.before.before.before.before.before.before.before.before.before.before in
    let a = s.args in
    let r = c.put_records in (
      omega (arith, s.requires.0.drives_most),
      r.auto.bytes ∙ c.write_u64.auto.s ∙ c.before.before.before.before.before.before.before.before.before.before.before.clear.auto.out ∙ s.requires.1,
      ap (drop 264) r.ensures ∙ drop_at (records_part a.g.zones a.state) (shares_part 0 a.state) 264 (records-long s),
    )

same_length : tie.Need-shape_of-bytes
same_length c = c.put_shares.auto.bytes ∙ c.put_records.auto.bytes ∙ c.write_u64.auto.s ∙ c.before.before.before.before.before.before.before.before.before.before.before.before.before.before.clear.auto.out

returns : tie.Need-returns
returns c =
    let s = c.before.before.before.before.before.before.before.before.before.before.before.before.before.before.before.before.before.before in
    let a = s.args in
    let r = c.put_records in
    c.put_shares.ensures
    ∙ ap (λ (l : List ℕ). l ++ shares_part (a.g.drives * 2) a.state) (ap (take 264) r.ensures ∙ take_at (records_part a.g.zones a.state) (shares_part 0 a.state) 264 (records-long s))
    ∙ state_laid a.g a.state

pub state_to_spec : {M : Type 1} → statement M
state_to_spec = tie.close (tie.spec (λ c. omega (arith, c.requires.0.drives_most)) (λ c κs. tt) write-u64-requires put-records-requires put-shares-requires same_length returns)
