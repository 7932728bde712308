use Rattle.std.proofs.Common.{◌≡◌, ◌≢◌, refl, ℕ, List, ◌∷◌, sym, ap, ◌∙◌, arith}
use Rattle.logs.specs.declared.Found.{Found}
use Rattle.logs.specs.declared.Found.TheVariants.{Bad, Label, Counters, Resets, Partial, Seal, Closing}
use Rattle.logs.specs.meaning.Entry.{Header, label, counters, zone_reset, partial_parity, seal, closing}
use Rattle.logs.specs.meaning.Heads.{first_closing}
use Rattle.logs.specs.meaning.Walk.{Walked}
use Rattle.logs.specs.code.Judge.{seen}
use Rattle.logs.specs.code.WalkCode.{left_at}
use Rattle.logs.specs.code.Query.{heads_of, closing_seen}
use Rattle.logs.specs.code.QueryLaws.{closing_left, closing_on}
use Rattle.logs.specs.code.Steps.{sectors_of_log, low_in_log, climbs_in_log, step_taken}
use Rattle.logs.proofs.folds.first_closing.Goals as goal

-- a closing entry that stands first
stands_first : (x : Header) (hs : List Header) (generation : ℕ) → Closing generation ≡ seen x → first_closing (x ∷ hs) ≡ generation
stands_first (label y a) hs n e = absurd (let z : ◌≡◌ {A = ℕ} 0 1 = cc in omega arith)
stands_first (counters cs) hs n e = absurd (let z : ◌≡◌ {A = ℕ} 0 1 = cc in omega arith)
stands_first (zone_reset z m) hs n e = absurd (let z : ◌≡◌ {A = ℕ} 0 1 = cc in omega arith)
stands_first (partial_parity z s f m) hs n e = absurd (let z : ◌≡◌ {A = ℕ} 0 1 = cc in omega arith)
stands_first (seal z p m) hs n e = absurd (let z : ◌≡◌ {A = ℕ} 0 1 = cc in omega arith)
stands_first (closing kind generation) hs n e = cc

no_closing : (f : Found) → ((generation : ℕ) → f ≢ Closing generation) → closing_seen f ≡ 0
no_closing Bad n = refl
no_closing (Label x a) n = refl
no_closing Counters n = refl
no_closing (Resets z m) n = refl
no_closing (Partial z s v m) n = refl
no_closing (Seal z p m) n = refl
no_closing (Closing generation) n = absurd (n generation refl)

pub returns-in-Closing : goal.returns-in-Closing
returns-in-Closing c =
    let a = c.args in
    let l = c.loop-f in
    let ss = sectors_of_log a.g a.log a.sectors.now in
    let t = step_taken a.g a.log.drive a.parity ss l.p (low_in_log a.g a.log a.sectors.now l.p l.invariant.within) c.in-Ok.f c.in-Ok.q (sym c.in-Ok.ensures) in
    sym (stands_first t.entry.head (heads_of (left_at a.g a.log.drive a.parity ss c.in-Ok.q)) c.in-Closing.generation (sym c.in-Closing.is ∙ t.seen_is))
    ∙ sym (ap (λ (w : Walked). first_closing (heads_of w)) t.on) ∙ l.invariant.same

pub loop-f-smaller : goal.loop-f-smaller
loop-f-smaller c =
    let a = c.args in
    let k = climbs_in_log a.g a.log a.parity a.sectors.now c.loop-f.p c.loop-f.invariant.within c.in-Ok.f c.in-Ok.q (sym c.in-Ok.ensures) in
    omega (arith, k.0, k.1)

pub loop-f-preserved : goal.loop-f-preserved
loop-f-preserved c =
    let a = c.args in
    let l = c.loop-f in
    let none = no_closing c.in-Ok.f (λ n e. c.in_default-f.not-Closing n e) in
    let e = closing_on a.g a.log.drive a.parity (sectors_of_log a.g a.log a.sectors.now) l.p (low_in_log a.g a.log a.sectors.now l.p l.invariant.within) c.in-Ok.f c.in-Ok.q (sym c.in-Ok.ensures) none in
    record {
      within = (climbs_in_log a.g a.log a.parity a.sectors.now l.p l.invariant.within c.in-Ok.f c.in-Ok.q (sym c.in-Ok.ensures)).1;
      same = sym e ∙ l.invariant.same;
    }

pub returns : goal.returns
returns c =
    let a = c.args in
    let l = c.loop-f in
    sym (closing_left a.g a.log.drive a.parity (sectors_of_log a.g a.log a.sectors.now) l.p (low_in_log a.g a.log a.sectors.now l.p l.invariant.within) c.in_default.field-0 (sym c.in_default.ensures)) ∙ l.invariant.same
