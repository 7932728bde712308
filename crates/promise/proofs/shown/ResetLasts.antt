-- What is promised gives that a finished reset lasts (ResetLasts): what the book holds of a zone after a finished reset was written since, whatever mounts, cuts
-- and losses follow; and what is shown is a beginning of it, what is read a part.
use Rattle.std.specs.Prelude.{◌≡◌, refl, ◌⊎◌, Bool, true, false, ℕ, zero, suc, ◌+◌, ◌≤◌, ◌<◌, length, eqb}
use Rattle.std.proofs.Common.{sym, ap, subst, inl, inr, not-suc-le-zero, le_of_suc-le-suc, arith, eq-eqb, eqb-true}
use mathlib.Core.List.{List, [], ◌∷◌, ◌++◌, append_assoc, append-nil, Memᴰ}
use Rattle.tables.specs.meaning.Basics.{pick}
use Rattle.tables.specs.meaning.Below.{tabulate_from}
use Rattle.tables.specs.laws.Lists.{mem_nil, mem_left, mem_right, mem_append}
use Rattle.tables.specs.declared.Geometry.{Geometry}
use Rattle.volume.specs.declared.Answer.{Answer}
use Rattle.volume.specs.declared.Answer.TheVariants.{Finished, Unfinished, Refused, BadLog}
use Rattle.volume.specs.meaning.Content.{at}
use Rattle.volume.specs.meaning.Rules.{Shown}
use Rattle.volume.specs.meaning.Refusals.{zone_of, offset_of, zone_asked}
use Rattle.volume.specs.meaning.Answers.{sectors_in}
use Rattle.promise.specs.meaning.Ledger.{Ledger, Reply, is_refused, is_unfinished, is_finished, noted, FitsZone, after_mount}
use Rattle.promise.specs.meaning.Claim.{Call, mounts, writes, flushes, resets, formats, compacts, Volume, System, Event, calls, looks, reads, peeks, reports, cuts, loses, reply_to, note_of, next, answered, Duty, Dutiful, Promise, Throughout, start, KeepsPromise}
use Rattle.promise.proofs.device.Heard.{answer_heard}
use Rattle.promise.specs.meaning.Histories.{after_all}
use Rattle.promise.specs.meaning.ResetLasts.{taken_unless_refused, handed_to, written_in, written_to, OnlyOf, ResetsLast}

-- ---- lists
at_member : (l : List (List ℕ)) (a : ℕ) → a < length l → Memᴰ (at l a) l
at_member [] a h = absurd (not-suc-le-zero h)
at_member (s ∷ l) zero h = mathlib.Core.List.Memᴰ.head refl
at_member (s ∷ l) (suc a) h = mathlib.Core.List.Memᴰ.tail (at_member l a (le_of_suc-le-suc h))

tabulated : (f : ℕ → List ℕ) (i n : ℕ) (s : List ℕ) → Memᴰ s (tabulate_from f i n) → (a : ℕ) × (i ≤ a) × (a < i + n) × (s ≡ f a)
tabulated f i zero s m = mem_nil s m
tabulated f i (suc n) s (mathlib.Core.List.Memᴰ.head q) = (i, omega arith, omega arith, q)
tabulated f i (suc n) s (mathlib.Core.List.Memᴰ.tail m) = let (a, h, k, q) = tabulated f (suc i) n s m in (a, omega (arith, h), omega (arith, k), q)

-- ---- what the book holds of zone z is among these
abbrev Among : Ledger → ℕ → List (List ℕ) → Type 0
Among l z new = (s : List ℕ) → Memᴰ s (l.content z) → Memᴰ s new

-- what is shown is, if it fits
shown_among : (l : Ledger) (z : ℕ) (new : List (List ℕ)) (k : Shown) → Among l z new → FitsZone l z (k.zone z) → (a : ℕ) → a < (k.zone z).pointer → Memᴰ ((k.zone z).value a) new
shown_among l z new k h (inl r) a p = rw (r.values a p) (h (at (l.content z) a) (at_member (l.content z) a (omega (arith, p, r.most))))
shown_among l z new k h (inr (q, f)) a p = absurd (omega (arith, p, q))

mounted_among : (l : Ledger) (z : ℕ) (new : List (List ℕ)) (k : Shown) → Among l z new → FitsZone l z (k.zone z) → Among (after_mount k) z new
mounted_among l z new k h f s m = let (a, i, j, q) = tabulated (k.zone z).value zero (k.zone z).pointer s m in rw q (shown_among l z new k h f a (omega (arith, j)))

module _ (g : Geometry) (vol : Volume) (z : ℕ) (hz : z < g.zones) where
  -- ---- one call
  module _ (s : System vol) (new : List (List ℕ)) (h : Among s.ledger z new) where
    more : (ss : List (List ℕ)) → Among s.ledger z (new ++ ss)
    more ss t m = mem_left new ss t (h t m)

    written : (y : ℕ) (ss : List (List ℕ)) (b : Bool) → eqb z y ≡ b → (t : List ℕ) → Memᴰ t (pick b (s.ledger.content y ++ ss) (s.ledger.content z)) → Memᴰ t (new ++ pick b ss [])
    written y ss false e t m = mem_left new [] t (h t m)
    written y ss true e t m = go (mem_append (s.ledger.content y) ss t m)
      where
        go : Memᴰ t (s.ledger.content y) ⊎ Memᴰ t ss → Memᴰ t (new ++ ss)
        go (inl i) = mem_left new ss t (h t (rw (ap s.ledger.content (sym (eqb-true z y e))) at i))
        go (inr i) = mem_right new ss t i

    wiped : (b : Bool) (t : List ℕ) → Memᴰ t (pick b [] (s.ledger.content z)) → Memᴰ t (new ++ [])
    wiped true t m = mem_nil t m
    wiped false t m = mem_left new [] t (h t m)

    call_among : (c : Call) (k : Shown) (r : Reply) → (r ≡ is_finished → c ≡ mounts → FitsZone s.ledger z (k.zone z)) → Among (noted s.ledger (note_of g c k r)) z (new ++ taken_unless_refused r (handed_to g z c))
    call_among mounts k is_refused f = more []
    call_among mounts k is_unfinished f = more []
    call_among mounts k is_finished f = λ t m. mem_left new [] t (mounted_among s.ledger z new k h (f refl refl) t m)
    call_among (writes w) k is_refused f = more []
    call_among (writes w) k is_unfinished f = written (zone_asked g w) (sectors_in g w.count w.buffer) (eqb z (zone_asked g w)) refl
    call_among (writes w) k is_finished f = written (zone_asked g w) (sectors_in g w.count w.buffer) (eqb z (zone_asked g w)) refl
    call_among flushes k is_refused f = more []
    call_among flushes k is_unfinished f = more []
    call_among flushes k is_finished f = more []
    call_among (resets y) k is_refused f = more []
    call_among (resets y) k is_unfinished f = more []
    call_among (resets y) k is_finished f = wiped (eqb z y)
    call_among (formats array) k is_refused f = more []
    call_among (formats array) k is_unfinished f = more []
    call_among (formats array) k is_finished f = λ t m. mem_nil t m
    call_among (compacts d) k is_refused f = more []
    call_among (compacts d) k is_unfinished f = more []
    call_among (compacts d) k is_finished f = more []

  finished_answer : (a : Answer) → reply_to a ≡ is_finished → a ≡ Finished
  finished_answer Finished e = refl
  finished_answer Unfinished e = absurd (let q : ◌≡◌ {A = ℕ} 0 1 = cc in omega arith)
  finished_answer (Refused n) e = absurd (let q : ◌≡◌ {A = ℕ} 0 1 = cc in omega arith)
  finished_answer (BadLog b) e = absurd (let q : ◌≡◌ {A = ℕ} 0 1 = cc in omega arith)

  -- ---- one event
  event_among : (s : System vol) (e : Event vol) → Promise g vol s → Duty g vol s e → (new : List (List ℕ)) → Among s.ledger z new → Among (next g vol s e).ledger z (new ++ written_in g vol z s e)
  event_among s (calls c named stop) p d new h =
      let r = vol.call c named s.state stop s.memory in
      call_among s new h c (vol.shows named s.memory r.memory) (reply_to r.answer) (fit c d)
    where
      fit : (c : Call) → Duty g vol s (calls c named stop) → let q = vol.call c named s.state stop s.memory in reply_to q.answer ≡ is_finished → c ≡ mounts → FitsZone s.ledger z ((vol.shows named s.memory q.memory).zone z)
      fit mounts (n, m, o) e i = (p.mount_fits named n m stop (ap answered (finished_answer (vol.call mounts named s.state stop s.memory).answer e))).1 z hz
      fit (writes w) o e i = absurd (let q : ◌≡◌ {A = ℕ} 0 1 = cc in omega arith)
      fit flushes o e i = absurd (let q : ◌≡◌ {A = ℕ} 0 1 = cc in omega arith)
      fit (resets y) o e i = absurd (let q : ◌≡◌ {A = ℕ} 0 1 = cc in omega arith)
      fit (formats array) o e i = absurd (let q : ◌≡◌ {A = ℕ} 0 1 = cc in omega arith)
      fit (compacts y) o e i = absurd (let q : ◌≡◌ {A = ℕ} 0 1 = cc in omega arith)
  event_among s (looks named) p d new h = more s new h []
  event_among s (reads named a count out) p d new h = more s new h []
  event_among s (peeks named a) p d new h = more s new h []
  event_among s (reports list) p d new h = more s new h []
  event_among s (cuts w) p d new h = more s new h []
  event_among s (loses y w) p d new h = more s new h []

  -- ---- what is shown and read at a point
  module _ (s : System vol) (new : List (List ℕ)) (p : Promise g vol s) (h : Among s.ledger z new) where
    read_among : (y offset count : ℕ) → y ≡ z → offset + count ≤ length (s.ledger.content y) → (t : List ℕ) → Memᴰ t (tabulate_from (at (s.ledger.content y)) offset count) → Memᴰ t new
    read_among y offset count e fits t m =
        let (a, i, j, q) = tabulated (at (s.ledger.content y)) offset count t m in
        let in_it : Memᴰ (at (s.ledger.content y) a) (s.ledger.content y) = at_member (s.ledger.content y) a (omega (arith, j, fits)) in
        rw q (h (at (s.ledger.content y) a) (subst (λ (o : ℕ). Memᴰ (at (s.ledger.content y) a) (s.ledger.content o)) e in_it))

    only_of : OnlyOf g vol z new s
    only_of = record {
      look = λ named n a b. shown_among s.ledger z new (vol.shows named s.memory s.memory) h ((p.look_fits named n).1 z hz) a b;
      mount = λ named n m stop e a b. shown_among s.ledger z new (vol.shows named s.memory (next g vol s (calls mounts named stop)).memory) h ((p.mount_fits named n m stop e).1 z hz) a b;
      read = λ named n m a count out bytes e f.
          let (fits, is) = p.read_gives named n m a count out bytes f in
          (tabulate_from (at (s.ledger.content (zone_of g a))) (offset_of g a) count, is, read_among (zone_of g a) (offset_of g a) count e fits);
      peek = λ named n m a from part e f.
          let (fits, place, is) = p.peek_gives named n m a from part f in
          let l = s.ledger.content (zone_of g a) in
          rw is (h (at l (offset_of g a)) (subst (λ (y : ℕ). Memᴰ (at l (offset_of g a)) (s.ledger.content y)) e (at_member l (offset_of g a) fits)));
    }

  along : (s : System vol) (es : List (Event vol)) (new : List (List ℕ)) → Among s.ledger z new → Dutiful g vol s es → Throughout g vol s es → OnlyOf g vol z (new ++ written_to g vol z s es) (after_all g vol s es)
  along s [] new h d p = rw (append-nil new) (only_of s new p h)
  along s (e ∷ es) new h (d, ds) (p, ps) =
      let t = next g vol s e in
      subst (λ (l : List (List ℕ)). OnlyOf g vol z l (after_all g vol t es)) (append_assoc new (written_in g vol z s e) (written_to g vol z t es))
      (along t es (new ++ written_in g vol z s e) (event_among s e p d new h) ds ps)

-- ---- a history from one of its points on
dutiful_from : (g : Geometry) (vol : Volume) (s : System vol) (es fs : List (Event vol)) → Dutiful g vol s (es ++ fs) → Dutiful g vol (after_all g vol s es) fs
dutiful_from g vol s [] fs d = d
dutiful_from g vol s (e ∷ es) fs (d, ds) = dutiful_from g vol (next g vol s e) es fs ds

throughout_from : (g : Geometry) (vol : Volume) (s : System vol) (es fs : List (Event vol)) → Throughout g vol s (es ++ fs) → Throughout g vol (after_all g vol s es) fs
throughout_from g vol s [] fs p = p
throughout_from g vol s (e ∷ es) fs (p, ps) = throughout_from g vol (next g vol s e) es fs ps

-- A FINISHED RESET LASTS, on any volume that keeps its promise
pub resets_last : (g : Geometry) (vol : Volume) → KeepsPromise g vol → ResetsLast g vol
resets_last g vol keeps named array old stop m small e before after z by count hz d f =
    let s0 = start g vol named (vol.call (formats array) named old stop m) in
    let es = calls (resets z) by count ∷ after in
    let (o, ds) = dutiful_from g vol s0 before es d in
    let (p, ps) = throughout_from g vol s0 before es (keeps named array old stop m small e (before ++ es) d) in
    along g vol z hz (next g vol (after_all g vol s0 before) (calls (resets z) by count)) after [] (nothing (after_all g vol s0 before) (answer_heard f)) ds ps
  where
    wiped_own : (l : Ledger) (r : Answer) → r ≡ Finished → (k : Shown) → (noted l (note_of g (resets z) k (reply_to r))).content z ≡ []
    wiped_own l r q k = rw (q, eq-eqb z z refl) refl

    nothing : (s : System vol) → (vol.call (resets z) by s.state count s.memory).answer ≡ Finished → Among (next g vol s (calls (resets z) by count)).ledger z []
    nothing s f t m = let r = vol.call (resets z) by s.state count s.memory in rw (wiped_own s.ledger r.answer f (vol.shows by s.memory r.memory)) at m
