use Rattle.std.proofs.Common.{◌≡◌, ℕ, suc, ◌+◌, ◌-◌, ◌/◌, ◌%◌, ◌<◌, Bool, List, [], ◌∷◌, ◌++◌, length, take, set, eqb, sym, ◌∙◌, append_assoc, append-nil, arith}
use Rattle.std.proofs.lemmas.List.{take_more_set, take_all}
use Rattle.zrv.specs.meaning.EdgeCalls.{bits_of, named_of}
use Rattle.zrv.proofs.input.named_drives.Goals as goal

-- one more drive, by the next bit
drive_more : (xs : List Bool) (i n : ℕ) → i < 8 → i < length xs → take i xs ++ bits_of (8 - i) n ≡ take (i + 1) (set xs i (eqb (n % 2) 1)) ++ bits_of (8 - (i + 1)) (n / 2)
drive_more xs i n h l =
    let e : 8 - i ≡ suc (8 - (i + 1)) = omega arith in
    rw (e, take_more_set xs i (eqb (n % 2) 1) l) (sym (append_assoc (take i xs) (eqb (n % 2) 1 ∷ []) (bits_of (8 - (i + 1)) (n / 2))))

pub loop-drive-preserved : goal.loop-drive-preserved
loop-drive-preserved c =
    let l = c.loop-drive in
    l.invariant ∙ drive_more l.drive-items l.drive-index l.bits (omega arith) (omega arith)

pub returns : goal.returns
unfolding named_of
returns c =
    let l = c.loop-drive in
    let e : l.drive-index ≡ 8 = omega arith in
    let xs = l.drive-items in
    sym (l.invariant ∙ rw e (append-nil (take 8 xs) ∙ take_all 8 xs (omega arith)))
