-- A call on the tables is that call on the device that they stand for: with pointers that a drive can have, and stores that have their room, what
-- `storing_on` leaves and answers is, seen as a device and a state, what `storing` of the rules says. So the promise, which the rules' calls keep, is about
-- the tables.
use Rattle.std.specs.Prelude.{◌≡◌, refl, Bool, true, false, ◌&&◌, ◌||◌, ℕ, ◌<◌, ◌≤◌, List, length, take, ltb}
use Rattle.std.proofs.Common.{sym, ap, ◌∙◌, arith, take_all, le-ltb, ltb-false, ne_eqb}
use Rattle.tables.specs.declared.Geometry.{Geometry}
use Rattle.tables.specs.meaning.Basics.{pick}
use Rattle.tables.specs.meaning.Below.{any_below}
use Rattle.tables.specs.laws.Below.{none_any_below}
use Rattle.tables.specs.meaning.Geometry.{Valid, physical_zones}
use Rattle.tables.specs.laws.Drives.{present_below}
use Rattle.tables.specs.meaning.Device.{Device, Store, apply_all}
use Rattle.tables.specs.meaning.Tables.{Tables, device_of, run_stores, pointers_bad}
use Rattle.tables.specs.laws.Made.{WellSized, AllPlaced, FitsAll}
use Rattle.tables.specs.laws.Tables.{device_length, device_durable_min}
use Rattle.tables.specs.laws.TablesRefine.{run_refines, run_sized}
use Rattle.tables.specs.laws.StoresFit.{fits_all_placed}
use Rattle.tables.specs.laws.PointerOrder.{InOrder, run_order}
use Rattle.tables.specs.laws.TablesFrame.{pointers_good}
use Rattle.volume.specs.declared.State.{State}
use Rattle.volume.specs.declared.ZoneRecord.{ZoneRecord}
use Rattle.volume.specs.declared.Outcome.{Outcome}
use Rattle.volume.specs.declared.Answer.TheVariants.{Finished, Unfinished, Refused}
use Rattle.volume.specs.meaning.State.{StateView, max_shares, share_at}
use Rattle.volume.specs.meaning.Refusals.{Verdict, refuse, accept, bad_pointers}
use Rattle.volume.specs.meaning.Answers.{CallResult, storing}
use Rattle.volume.specs.meaning.CallContracts.{view_state, state_held, is_set, verdict_number, Result, storing_on}
use Rattle.volume.specs.laws.StateHeld.{held_at, held_share}
use Rattle.volume.specs.laws.Refusals.{Numbered}
use Rattle.promise.specs.meaning.Ledger.{Ledger}
use Rattle.promise.specs.meaning.Claim.{Mode, ready, stopped, down, SameZones}
use Rattle.promise.proofs.device.Modes.{OkIn, read_some}
use Rattle.promise.proofs.device.SharesKept.{SharesKept, same_shares}

-- ---- states that say the same of the volume's zones, and have the same shares
pub record Agree (g : Geometry) (a b : StateView) : Type 0 where
  pub lost_same_lem : a.lost ≡ b.lost
  pub generation_same : (z : ℕ) → z < g.zones → a.generation z ≡ b.generation z
  pub condition_same_lem : (z : ℕ) → z < g.zones → a.condition z ≡ b.condition z
  pub owner_same : (z : ℕ) → z < g.zones → a.owner z ≡ b.owner z
  pub share_same : (i : ℕ) → i < max_shares → a.share i ≡ b.share i

pub agree_refl : (g : Geometry) (a b : StateView) → a ≡ b → Agree g a b
agree_refl g a b e = record {
  lost_same_lem = ap (λ (s : StateView). s.lost) e;
  generation_same = λ z h. ap (λ (s : StateView). s.generation z) e;
  condition_same_lem = λ z h. ap (λ (s : StateView). s.condition z) e;
  owner_same = λ z h. ap (λ (s : StateView). s.owner z) e;
  share_same = λ i h. ap (λ (s : StateView). s.share i) e;
}

-- so does the code's state that is made of one
pub held_agrees : (g : Geometry) (n : ℕ) (v : StateView) → g.zones ≤ n → Agree g v (view_state (state_held n v))
held_agrees g n v h = record {
  lost_same_lem = refl;
  generation_same = λ z k. let l : z < n = omega arith in ap (λ (r : ZoneRecord). r.generation) (sym (held_at n v z l));
  condition_same_lem = λ z k. let l : z < n = omega arith in ap (λ (r : ZoneRecord). r.condition) (sym (held_at n v z l));
  owner_same = λ z k. let l : z < n = omega arith in ap (λ (r : ZoneRecord). r.owner) (sym (held_at n v z l));
  share_same = λ i k. sym (held_share n v i k);
}

pub agree_zones : (g : Geometry) (a b : StateView) → Agree g a b → SameZones g a b
agree_zones g a b e = record { generations = e.generation_same; conditions = e.condition_same_lem }

-- the invariant asks no more of a state
pub ok_agrees : (g : Geometry) (m : Mode) (x : ℕ) (v : Device) (a b : StateView) (l : Ledger) → Agree g a b → OkIn g m x v a l → OkIn g m x v b l
ok_agrees g ready x v a b l e o = read_some g x v a b l (λ h. rw (← e.lost_same_lem) h) (agree_zones g a b e) o
ok_agrees g stopped x v a b l e o = o
ok_agrees g down x v a b l e o = o

pub shares_agree : (g : Geometry) → Valid g → (x : ℕ) (v : Device) (a b : StateView) → Agree g a b → SharesKept g x v a → SharesKept g x v b
shares_agree g ok x v a b e f = same_shares g x v a b (λ d h here k. e.share_same (share_at d h) (omega (arith, present_below g x d here, ok.drives_most, k))) f

-- ---- results that say the same
pub record Agrees (g : Geometry) (a b : CallResult Device StateView) : Type 0 where
  pub answer_same : a.answer ≡ b.answer
  pub memory_same : a.memory ≡ b.memory
  pub state_agrees : Agree g a.state b.state

-- a result on the tables, as the rules see it
abbrev pub view_result : Geometry → Result → CallResult Device StateView
view_result g r = record { answer = r.outcome.answer; memory = device_of g r.tables; state = view_state r.outcome.state }

-- ---- a storing call. ss: its stores on the tables, which are those of the rules (xs) where it is accepted; x: the rules' state, new: the code's
module _ (g : Geometry) (t : Tables) (v : Verdict) (numbered : Numbered v) (ss xs : List Store) (new old : State) (x : StateView) (count : ℕ)
    (sized : WellSized g t) (same : v ≡ accept → ss ≡ xs) (fit : v ≡ accept → FitsAll g xs (device_of g t)) where
  abbrev result : Result
  result = storing_on g (verdict_number v) ss new old count t

  -- what is made of the tables
  pub all_made : v ≡ accept → ltb count (length xs) ≡ false → device_of g (run_stores g count ss t) ≡ apply_all xs (device_of g t)
  all_made p e = rw (same p) (run_refines g count xs t sized (fit p)) ∙ ap (λ (r : List Store). apply_all r (device_of g t)) (take_all count xs (ltb-false count (length xs) e))

  pub storing_agrees : (v ≡ accept → ltb count (length xs) ≡ false → Agree g x (view_state new)) → Agrees g (storing v xs x (view_state old) count (device_of g t)) (view_result g result)
  storing_agrees agree = go v numbered refl
    where
      by_count : (b : Bool) → v ≡ accept → ltb count (length xs) ≡ b
          → Agrees g (pick b (record { answer = Unfinished; memory = apply_all (take count xs) (device_of g t); state = view_state old }) (record { answer = Finished; memory = apply_all xs (device_of g t); state = x }))
          (view_result g (record { outcome = pick b (record { answer = Unfinished; state = old }) (record { answer = Finished; state = new }); tables = run_stores g count ss t }))
      by_count true p e = record { answer_same = refl; memory_same = sym (rw (same p) (run_refines g count xs t sized (fit p))); state_agrees = agree_refl g (view_state old) (view_state old) refl }
      by_count false p e = record { answer_same = refl; memory_same = sym (all_made p e); state_agrees = agree p e }

      go : (u : Verdict) → Numbered u → v ≡ u → Agrees g (storing u xs x (view_state old) count (device_of g t)) (view_result g (storing_on g (verdict_number u) ss new old count t))
      go (refuse n) h e = rw (ne_eqb n 0 h) (record { answer_same = refl; memory_same = refl; state_agrees = agree_refl g (view_state old) (view_state old) refl })
      go accept h e = rw (ap length (same e)) (by_count (ltb count (length xs)) e refl)

  -- the tables are as they were, or some stores have been made
  by_verdict : (P : Tables → Type 0) → P t → (v ≡ accept → P (run_stores g count ss t)) → P result.tables
  by_verdict P a b = go v numbered refl
    where
      go : (u : Verdict) → Numbered u → v ≡ u → P (storing_on g (verdict_number u) ss new old count t).tables
      go (refuse n) h e = rw (ne_eqb n 0 h) a
      go accept h e = b e

  placed : v ≡ accept → AllPlaced g ss
  placed p = rw (same p) (fits_all_placed g xs (device_of g t) (fit p))

  -- they keep their lengths, and every drive's pointers their order
  pub storing_sized : WellSized g result.tables
  storing_sized = by_verdict (λ (u : Tables). WellSized g u) sized (λ p. run_sized g count ss t sized (placed p))

  pub storing_order : (d : ℕ) → d < g.drives → InOrder g d t.written t.durable → InOrder g d result.tables.written result.tables.durable
  storing_order d hd o = by_verdict (λ (u : Tables). InOrder g d u.written u.durable) o (λ p. run_order g d count ss t hd sized (placed p) o)

  -- the state is the old or the new one
  pub storing_state : (P : State → Type 0) → P old → (v ≡ accept → P new) → P result.outcome.state
  storing_state P a b = go v numbered refl
    where
      by_count : (c : Bool) → P new → P (pick {A = Outcome} c (record { answer = Unfinished; state = old }) (record { answer = Finished; state = new })).state
      by_count true p = a
      by_count false p = p

      go : (u : Verdict) → Numbered u → v ≡ u → P (storing_on g (verdict_number u) ss new old count t).outcome.state
      go (refuse n) h e = rw (ne_eqb n 0 h) a
      go accept h e = by_count (ltb count (length ss)) (b e)

-- ---- an answer "finished" is of an accepted call, all of whose stores are made
pub answer_finished : (g : Geometry) (v : Verdict) → Numbered v → (ss : List Store) (new old : State) (count : ℕ) (t : Tables) → (storing_on g (verdict_number v) ss new old count t).outcome.answer ≡ Finished
    → (v ≡ accept) × (ltb count (length ss) ≡ false)
answer_finished g v numbered ss new old count t e = go v numbered e
  where
    by_count : (b : Bool) → (pick {A = Outcome} b (record { answer = Unfinished; state = old }) (record { answer = Finished; state = new })).answer ≡ Finished → b ≡ false
    by_count true q = absurd (let z : ◌≡◌ {A = ℕ} 0 1 = cc in omega arith)
    by_count false q = refl

    go : (u : Verdict) → Numbered u → (storing_on g (verdict_number u) ss new old count t).outcome.answer ≡ Finished → (u ≡ accept) × (ltb count (length ss) ≡ false)
    go (refuse n) h q = absurd (let r : Refused n ≡ Finished = rw (ne_eqb n 0 h) at q in let z : ◌≡◌ {A = ℕ} 0 1 = cc in omega arith)
    go accept h q = (refl, by_count (ltb count (length ss)) q)

-- ---- refusal 3: pointers that pass on the tables pass on the device
pub pointers_pass : (g : Geometry) (named : List Bool) (t : Tables) → pointers_bad g named t.written t.durable ≡ false → bad_pointers g (is_set named) (device_of g t) ≡ false
unfolding bad_pointers
pointers_pass g named t h = none_any_below _ g.drives (λ d hd. drive d hd (is_set named d) refl)
  where
    drive : (d : ℕ) → d < g.drives → (b : Bool) → is_set named d ≡ b
        → b && any_below (λ y. ltb g.capacity (length (device_of g t d y).sectors) || ltb (length (device_of g t d y).sectors) (device_of g t d y).durable) (physical_zones g) ≡ false
    drive d hd false e = refl
    drive d hd true e = none_any_below _ (physical_zones g) (λ y hy.
        let (p, q) = pointers_good g named t.written t.durable d y h hd e hy in
        rw (le-ltb g.capacity (length (device_of g t d y).sectors) (omega (arith, device_length g t d y hd hy)), le-ltb (length (device_of g t d y).sectors) (device_of g t d y).durable (omega (arith, device_length g t d y hd hy, device_durable_min g t d y hd hy))) refl)
