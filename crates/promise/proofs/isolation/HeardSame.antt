-- TWO SYSTEMS between finished calls, with the same drive lost: a call that finds the same in what its desk can feel is answered the same, and reads the same (Laws: write-heard to
-- peek-heard, on the device).
use Rattle.std.specs.Prelude.{◌≡◌, refl, true, ◌&&◌, ◌||◌, not, get_or, eqb}
use Rattle.std.proofs.Math.Path.{sym, ap}
use Rattle.std.proofs.Common.{ap₂, ◌∙◌, arith, lt-ltb, ltb-true, ltb-false, ne_eqb}
use Rattle.std.proofs.Math.Bool.{Bool, false}
use Prim.Native.Nat.{ℕ, zero, suc, ◌+◌, ◌-◌, ◌≤◌, ◌<◌}
use mathlib.Core.List.{List, [], ◌∷◌, map}
use Rattle.std.proofs.Math.ListN.{length}
use Rattle.std.proofs.Math.Dec.{ltb}
use Rattle.tables.specs.declared.Geometry.{Geometry}
use Rattle.tables.specs.meaning.Basics.{pick}
use Rattle.tables.specs.laws.Basics.{and_split, or_none, not_not}
use Rattle.tables.specs.meaning.Below.{any_below, max_below, tabulate_from}
use Rattle.tables.specs.laws.Below.{any_below_cong}
use Rattle.tables.specs.meaning.Drives.{present_but}
use Rattle.tables.specs.meaning.Device.{Device}
use Rattle.tables.specs.meaning.Geometry.{Valid, data_zone}
use Rattle.tables.specs.meaning.Placement.{drive_of, sector_of, stripe_of}
use Rattle.tables.specs.laws.Placement.{parity_drive_below}
use Rattle.tables.specs.meaning.Tables.{buffer_fits}
use Rattle.logs.specs.meaning.Entry.{Entry, Header, worn_generation, general_zone, spare_zone}
use Rattle.logs.specs.meaning.Heads.{generation_in}
use Rattle.logs.specs.meaning.Walk.{walk_log}
use Rattle.volume.specs.declared.Answer.TheVariants.{Finished, Refused}
use Rattle.volume.specs.meaning.State.{pointer_in, hosts, share_at, call_present}
use Rattle.volume.specs.meaning.Content.{at, parity_drive_at}
use Rattle.volume.specs.meaning.Rules.{general_heads, generation_of, value_at}
use Rattle.volume.specs.meaning.Roles.{Roles, roles, by_roles, claim_of_kind, lacks_kind, zone_claim}
use Rattle.volume.specs.meaning.Calls.{flush_stores}
use Rattle.volume.specs.meaning.Emptying.{by_state, unused_in, lacks_room, stays_full, spare_written, new_general_size, reset_limit, emptied_for, write_all, reset_all}
use Rattle.volume.specs.meaning.Hosts.{open_zones, zones_of, share_left}
use Rattle.volume.specs.meaning.Refusals.{Verdict, refuse, accept, first_refusal, TableLengths, WriteAsked, zone_asked, end_asked, zone_of, offset_of, no_zone, no_host, bad_run, worn_for, bad_pointers, reset_full, write_rows, read_rows, peek_rows, reset_rows}
use Rattle.volume.specs.meaning.Answers.{giving, Place, place_of, sectors_in}
use Rattle.volume.specs.meaning.CallContracts.{ReadResult, byte_of}
use Rattle.volume.specs.laws.Depends.{and_same, pick_same}
use Rattle.volume.specs.laws.Refusals.{Passes, passes}
use Rattle.promise.specs.meaning.Claim.{writes, flushes, resets, Peeked, System, calls, reads, peeks, answered, read_out, peeked_at, heard, all_but}
use Rattle.promise.specs.meaning.OnDevice.{call_of, read_result, peek_result, on_device}
use Rattle.promise.specs.meaning.Isolation.{general_log}
use Rattle.promise.proofs.isolation.Laws.{SameRecord}
use Rattle.promise.proofs.isolation.RestFacts.{RestFacts}
use Rattle.promise.proofs.isolation.StoreNumbers.{write_number_lem, reset_number_lem, new_size_same}
use Rattle.promise.proofs.isolation.HeardAtRest.{answers_same, felt_write, felt_read, felt_peek, zone_in_lem, flush_passes, write_verdict_lem, read_verdict_lem, peek_verdict, reset_verdict_lem}

-- what is given, by the verdict
reads_same : (r q : Verdict) (ss ts : List (List ℕ)) (out : List ℕ) → r ≡ q → (r ≡ accept → ss ≡ ts) → read_result (giving r ss) out ≡ read_result (giving q ts) out
reads_same (refuse n) q ss ts out e h = ap (λ (k : Verdict). read_result (giving k ts) out) e
reads_same accept q ss ts out e h = ap (λ (ss : List (List ℕ)). read_result (giving accept ss) out) (h refl) ∙ ap (λ (k : Verdict). read_result (giving k ts) out) e

peeks_same : (g : Geometry) (r q : Verdict) (p : Place) (v w : Device) → r ≡ q → (r ≡ accept → get_or (v p.drive p.zone).sectors p.sector [] ≡ get_or (w p.drive p.zone).sectors p.sector [])
    → peek_result g (giving r p) v ≡ peek_result g (giving q p) w
peeks_same g (refuse n) q p v w e h = ap (λ (k : Verdict). peek_result g (giving k p) w) e
peeks_same g accept q p v w e h = (λ i. record { number = 0; from = byte_of g p; part = h refl i }) ∙ ap (λ (k : Verdict). peek_result g (giving k p) w) e

present_in_lem : (g : Geometry) (x d : ℕ) → present_but g x d ≡ true → (d < g.drives) × (all_but x d ≡ true)
present_in_lem g x d e = let (a, b) = and_split (ltb d g.drives) (not (eqb d x)) e in (ltb-true d g.drives a, b)

module _ (g : Geometry) (ok : Valid g) (t : TableLengths) (s o : System (on_device g t)) (m n : ℕ → Bool) (A : RestFacts g t s m) (B : RestFacts g t o n) (lost : s.lost ≡ o.lost) where
  abbrev here : ℕ → Bool
  here = present_but g s.lost

  abbrev there : ℕ → Bool
  there = present_but g o.lost

  drives_same : here ≡ there
  drives_same = ap (present_but g) lost

  pub flush_heard_same : (stop : ℕ) → heard s (calls flushes m stop) ≡ heard o (calls flushes n stop)
  flush_heard_same stop =
      let a = call_of g t flushes m s.state s.memory in
      let b = call_of g t flushes n o.state o.memory in
      ap answered (answers_same (first_refusal a.refusals) (first_refusal b.refusals) a.stores b.stores a.state s.state b.state o.state stop s.memory o.memory
      (flush_passes g ok t s m A ∙ sym (flush_passes g ok t o n B)) (λ e. ap (λ (p : ℕ → Bool). length (flush_stores g p)) (A.drives ∙ drives_same ∙ sym B.drives)))

  -- ---- a write
  module _ (w : WriteAsked) (same : SameRecord g s.state o.state (zone_asked g w)) (open_same : open_zones g s.state ≡ open_zones g o.state) (host_same : zones_of g s.state w.host ≡ zones_of g o.state w.host)
      (share_same : (d : ℕ) → d < g.drives → w.host < hosts → s.state.share (share_at d w.host) ≡ o.state.share (share_at d w.host)) where
    abbrev z : ℕ
    z = zone_asked g w

    felt_same : first_refusal (felt_write g w (s.state.condition z) (s.state.owner z) (zones_of g s.state w.host) (open_zones g s.state) (share_left g s.state w.host z (end_asked g s.state w)) s.lost)
        ≡ first_refusal (felt_write g w (o.state.condition z) (o.state.owner z) (zones_of g o.state w.host) (open_zones g o.state) (share_left g o.state w.host z (end_asked g o.state w)) o.lost)
    felt_same = go (no_zone g z || no_host w.host) refl
      where
        go : (b : Bool) → no_zone g z || no_host w.host ≡ b
            → first_refusal (felt_write g w (s.state.condition z) (s.state.owner z) (zones_of g s.state w.host) (open_zones g s.state) (share_left g s.state w.host z (end_asked g s.state w)) s.lost)
            ≡ first_refusal (felt_write g w (o.state.condition z) (o.state.owner z) (zones_of g o.state w.host) (open_zones g o.state) (share_left g o.state w.host z (end_asked g o.state w)) o.lost)
        go true e = rw e refl
        go false e =
            let (p, q) = or_none (no_zone g z) (no_host w.host) e in
            let h = zone_in_lem g z p in
            let host : w.host < hosts = ltb-true w.host hosts (not_not (ltb w.host hosts) q) in
            let c = same.condition h in
            let d = parity_drive_at g z (end_asked g o.state w) in
            let l : d < g.drives = parity_drive_below g.drives g.unit z (omega (arith, ok.drives_least)) ok.unit_least (stripe_of g.drives g.unit (end_asked g o.state w)) in
            let e1 : share_left g s.state w.host z (end_asked g s.state w) ≡ s.state.share (share_at d w.host) = ap (λ k. s.state.share (share_at (parity_drive_at g z (pointer_in k + w.count)) w.host)) c in
            rw (e1, c, same.owner h, host_same, open_same, share_same d l host, lost) refl

    pub write_heard_same : (stop : ℕ) → heard s (calls (writes w) m stop) ≡ heard o (calls (writes w) n stop)
    write_heard_same stop =
        let a = call_of g t (writes w) m s.state s.memory in
        let b = call_of g t (writes w) n o.state o.memory in
        ap answered (answers_same (first_refusal a.refusals) (first_refusal b.refusals) a.stores b.stores a.state s.state b.state o.state stop s.memory o.memory
        (write_verdict_lem g ok t s m A w ∙ felt_same ∙ sym (write_verdict_lem g ok t o n B w)) (λ e. number (sym (write_verdict_lem g ok t s m A w) ∙ e)))
      where
        number : first_refusal (felt_write g w (s.state.condition z) (s.state.owner z) (zones_of g s.state w.host) (open_zones g s.state) (share_left g s.state w.host z (end_asked g s.state w)) s.lost) ≡ accept
            → length (call_of g t (writes w) m s.state s.memory).stores ≡ length (call_of g t (writes w) n o.state o.memory).stores
        number e =
            let p = passes (felt_write g w (s.state.condition z) (s.state.owner z) (zones_of g s.state w.host) (open_zones g s.state) (share_left g s.state w.host z (end_asked g s.state w)) s.lost) e in
            let h = zone_in_lem g z (or_none (no_zone g z) (no_host w.host) p.1.0).0 in
            let ss = sectors_in g w.count w.buffer in
            ap (λ (f : ℕ → Bool). length (write_all g f (roles g s.memory) (by_roles g s.memory) s.state z ss)) (A.drives ∙ drives_same ∙ sym B.drives)
            ∙ write_number_lem g (call_present g n o.state) (roles g s.memory) (roles g o.memory) (by_roles g s.memory) (by_roles g o.memory) s.state o.state z ss (ap pointer_in (same.condition h))

  -- ---- a read and a peek
  module _ (a : ℕ) (same : SameRecord g s.state o.state (zone_of g a)) (content_same : zone_of g a < g.zones → s.ledger.content (zone_of g a) ≡ o.ledger.content (zone_of g a)) where
    abbrev y : ℕ
    y = zone_of g a

    abbrev f : ℕ
    f = offset_of g a

    pub read_heard_same : (count : ℕ) (out : List ℕ) → heard s (reads m a count out) ≡ heard o (reads n a count out)
    read_heard_same count out =
        let p = read_verdict_lem g ok t s m A a count (length out) in
        let q = read_verdict_lem g ok t o n B a count (length out) in
        let e = reads_same _ _ (tabulate_from (value_at g (call_present g m s.state) (by_roles g s.memory) y (s.state.generation y)) f count) (tabulate_from (value_at g (call_present g n o.state) (by_roles g o.memory) y (o.state.generation y)) f count) out
        (p ∙ rows (no_zone g y) refl ∙ sym q) (λ k. sectors (sym p ∙ k)) in
        ap (λ (r : ReadResult). read_out r.answer r.buffer) e
      where
        rows : (b : Bool) → no_zone g y ≡ b → first_refusal (felt_read g a count (length out) (pointer_in (s.state.condition y))) ≡ first_refusal (felt_read g a count (length out) (pointer_in (o.state.condition y)))
        rows true e = rw e refl
        rows false e = ap (λ k. first_refusal (felt_read g a count (length out) (pointer_in k))) (same.condition (zone_in_lem g y e))

        sectors : first_refusal (felt_read g a count (length out) (pointer_in (s.state.condition y))) ≡ accept
            → tabulate_from (value_at g (call_present g m s.state) (by_roles g s.memory) y (s.state.generation y)) f count ≡ tabulate_from (value_at g (call_present g n o.state) (by_roles g o.memory) y (o.state.generation y)) f count
        sectors e =
            let k = passes (felt_read g a count (length out) (pointer_in (s.state.condition y))) e in
            let h = zone_in_lem g y k.1.0 in
            let l : f + count ≤ length (s.ledger.content y) = omega (arith, ltb-false (pointer_in (s.state.condition y)) (f + count) k.1.1.1.0, A.pointer_is y h) in
            let i : f + count ≤ length (o.ledger.content y) = rw (← content_same h) l in
            rw (A.drives, B.drives) (A.values y h f count l ∙ ap (λ (c : List (List ℕ)). tabulate_from (at c) f count) (content_same h) ∙ sym (B.values y h f count i))

    pub peek_heard_same : heard s (peeks m a) ≡ heard o (peeks n a)
    peek_heard_same =
        let p = peek_verdict g ok t s m A a in
        let q = peek_verdict g ok t o n B a in
        ap (λ (r : Peeked). peeked_at r.number r.from r.part) (peeks_same g _ _ (place_of g a) s.memory o.memory (p ∙ rows (no_zone g y) refl ∙ sym q) (λ k. lies (sym p ∙ k)))
      where
        d : ℕ
        d = drive_of g.drives g.unit (zone_of g a) (offset_of g a)

        rows : (b : Bool) → no_zone g y ≡ b → first_refusal (felt_peek g a (pointer_in (s.state.condition y)) s.lost) ≡ first_refusal (felt_peek g a (pointer_in (o.state.condition y)) o.lost)
        rows true e = rw e refl
        rows false e = ap₂ (λ k (x : ℕ). first_refusal (felt_peek g a (pointer_in k) x)) (same.condition (zone_in_lem g y e)) lost

        lies : first_refusal (felt_peek g a (pointer_in (s.state.condition y)) s.lost) ≡ accept → get_or (s.memory d (data_zone y)).sectors (sector_of g.drives g.unit f) [] ≡ get_or (o.memory d (data_zone y)).sectors (sector_of g.drives g.unit f) []
        lies e =
            let k = passes (felt_peek g a (pointer_in (s.state.condition y)) s.lost) e in
            let h = zone_in_lem g y k.0 in
            let l : f < length (s.ledger.content y) = omega (arith, ltb-false (pointer_in (s.state.condition y)) (f + 1) k.1.0, A.pointer_is y h) in
            let i : f < length (o.ledger.content y) = rw (← content_same h) l in
            let b : here d ≡ true = not_not (here d) k.1.1.0 in
            A.sector y h f l b ∙ ap (λ (c : List (List ℕ)). at c f) (content_same h) ∙ sym (B.sector y h f i (sym (ap (λ (p : ℕ → Bool). p d) drives_same) ∙ b))

  -- ---- a reset
  module _ (logs_same : (d : ℕ) → d < g.drives → all_but s.lost d ≡ true → general_log g s.memory d ≡ general_log g o.memory d) where
    log_same : (d : ℕ) → here d ≡ true → (by_roles g s.memory d general_zone).sectors ≡ (by_roles g o.memory d general_zone).sectors
    log_same d e = let (l, b) = present_in_lem g s.lost d e in logs_same d l b

    also : (d : ℕ) → here d ≡ true → there d ≡ true
    also d e = sym (ap (λ (p : ℕ → Bool). p d) drives_same) ∙ e

    heads_same : (d : ℕ) → here d ≡ true → general_heads g (by_roles g s.memory) d ≡ general_heads g (by_roles g o.memory) d
    unfolding general_heads
    heads_same d e = ap (λ (ss : List (List ℕ)). map (λ (x : Entry). x.head) (walk_log g d false ss).entries) (log_same d e)

    generations_same : (z : ℕ) → z < g.zones → s.state.generation z ≡ o.state.generation z
    unfolding generation_of
    generations_same z h = A.generations z h ∙ by_heads ∙ ap (λ (p : ℕ → Bool). generation_of g p (by_roles g o.memory) z) drives_same ∙ sym (B.generations z h)
      where
        by_heads : generation_of g here (by_roles g s.memory) z ≡ generation_of g here (by_roles g o.memory) z
        by_heads i = max_below (λ d. pick_same (here d) (generation_in z (general_heads g (by_roles g s.memory) d)) (generation_in z (general_heads g (by_roles g o.memory) d)) zero (λ p. ap (generation_in z) (heads_same d p)) i) g.drives

    claim_same : (d : ℕ) → here d ≡ true → (roles g s.memory d).general_claim ≡ (roles g o.memory d).general_claim
    claim_same d e = A.general_claim_lem d e ∙ ap (λ (ss : List (List ℕ)). suc (zone_claim g d false ss)) (log_same d e) ∙ sym (B.general_claim_lem d (also d e))

    emptied_same : (d : ℕ) → emptied_for g here false (roles g s.memory) (by_roles g s.memory) (reset_limit g) d ≡ emptied_for g here false (roles g o.memory) (by_roles g o.memory) (reset_limit g) d
    unfolding emptied_for unused_in
    emptied_same d = and_same (here d) (lacks_room g false (roles g s.memory) (by_roles g s.memory) (reset_limit g) d) (lacks_room g false (roles g o.memory) (by_roles g o.memory) (reset_limit g) d)
        (λ p i. ltb (pick (eqb (claim_same d p i) 0) 0 (g.capacity - length (log_same d p i))) (reset_limit g))

    emptied_here : (d : ℕ) → emptied_for g here false (roles g s.memory) (by_roles g s.memory) (reset_limit g) d ≡ true → here d ≡ true
    unfolding emptied_for
    emptied_here d e = (and_split (here d) (lacks_room g false (roles g s.memory) (by_roles g s.memory) (reset_limit g) d) e).0

    sizes_same : (d : ℕ) → here d ≡ true → new_general_size g (by_state g here (by_roles g s.memory) s.state) (general_heads g (by_roles g s.memory) d) ≡ new_general_size g (by_state g here (by_roles g o.memory) o.state) (general_heads g (by_roles g o.memory) d)
    sizes_same d e =
        ap (new_general_size g (by_state g here (by_roles g s.memory) s.state)) (heads_same d e)
        ∙ new_size_same g s.state.generation o.state.generation generations_same (general_heads g (by_roles g o.memory) d) (by_state g here (by_roles g s.memory) s.state) (by_state g here (by_roles g o.memory) o.state) refl refl

    kinds : (x : System (on_device g t)) (k : ℕ → Bool) → RestFacts g t x k → (d : ℕ) → present_but g x.lost d ≡ true → lacks_kind (roles g x.memory d) ≡ false
    kinds x k F d e = rw (ne_eqb (roles g x.memory d).general_claim 0 (λ q. omega (arith, F.general_claim_lem d e, q)), ne_eqb (roles g x.memory d).parity_claim 0 (F.parity_claim_lem d e)) refl

    full_same : reset_full g here (roles g s.memory) (by_state g here (by_roles g s.memory) s.state) (by_roles g s.memory) ≡ reset_full g here (roles g o.memory) (by_state g here (by_roles g o.memory) o.state) (by_roles g o.memory)
    unfolding reset_full stays_full
    full_same = any_below_cong _ _ g.drives (λ d h. one d (emptied_for g here false (roles g s.memory) (by_roles g s.memory) (reset_limit g) d) refl)
      where
        full : System (on_device g t) → ℕ → Bool
        full x d = (ltb (g.capacity - new_general_size g (by_state g here (by_roles g x.memory) x.state) (general_heads g (by_roles g x.memory) d)) (reset_limit g) || (lacks_kind (roles g x.memory d) || ltb worn_generation (claim_of_kind false (roles g x.memory d)))) || spare_written (by_roles g x.memory) d

        stays : (d : ℕ) → here d ≡ true → full s d ≡ full o d
        stays d e = rw (kinds s m A d e, kinds o n B d (also d e), sizes_same d e, claim_same d e, A.blank d e, B.blank d (also d e)) refl

        one : (d : ℕ) (b : Bool) → emptied_for g here false (roles g s.memory) (by_roles g s.memory) (reset_limit g) d ≡ b
            → emptied_for g here false (roles g s.memory) (by_roles g s.memory) (reset_limit g) d && full s d ≡ emptied_for g here false (roles g o.memory) (by_roles g o.memory) (reset_limit g) d && full o d
        one d true e = let q = sym (emptied_same d) ∙ e in rw (e, q) (stays d (emptied_here d e))
        one d false e = let q = sym (emptied_same d) ∙ e in rw (e, q) refl

    pub reset_heard_same : (z stop : ℕ) → SameRecord g s.state o.state z → heard s (calls (resets z) m stop) ≡ heard o (calls (resets z) n stop)
    reset_heard_same z stop same =
        let a = call_of g t (resets z) m s.state s.memory in
        let b = call_of g t (resets z) n o.state o.memory in
        ap answered (answers_same (first_refusal a.refusals) (first_refusal b.refusals) a.stores b.stores a.state s.state b.state o.state stop s.memory o.memory
        (reset_verdict_lem g ok t s m A z ∙ rows (no_zone g z) refl ∙ sym (reset_verdict_lem g ok t o n B z)) (λ e. number))
      where
        rest : System (on_device g t) → (ℕ → Bool) → List (ℕ × Bool)
        rest x p = (8, no_zone g z) ∷ (12, worn_for x.state z) ∷ (14, reset_full g p (roles g x.memory) (by_state g p (by_roles g x.memory) x.state) (by_roles g x.memory)) ∷ []

        rows : (b : Bool) → no_zone g z ≡ b → first_refusal (rest s here) ≡ first_refusal (rest o there)
        rows true e = rw e refl
        rows false e = let h = zone_in_lem g z e in rw (same.condition h, same.generation h, full_same, ← drives_same) refl

        number : length (call_of g t (resets z) m s.state s.memory).stores ≡ length (call_of g t (resets z) n o.state o.memory).stores
        number =
            ap (λ (f : ℕ → Bool). length (reset_all g f (roles g s.memory) (by_roles g s.memory) s.state z)) A.drives
            ∙ reset_number_lem g here (roles g s.memory) (roles g o.memory) (by_roles g s.memory) (by_roles g o.memory) s.state o.state z (λ d h. emptied_same d) (λ d h e. sizes_same d (emptied_here d e))
            ∙ ap (λ (f : ℕ → Bool). length (reset_all g f (roles g o.memory) (by_roles g o.memory) o.state z)) (drives_same ∙ sym B.drives)
