-- What is promised holds at a point of a history (PointClaims); and a look's state serves reads, peeks and reports.
use Rattle.volume.specs.meaning.Refusals.{TableLengths, zone_of, state_within, tables_fit, two_absent, stale, read_rows, peek_rows, first_refusal}
use Rattle.std.specs.Prelude.{Bool, ◌&&◌, not, ◌≡◌, ℕ, List, length, eqb}
use Rattle.std.proofs.Math.Bool.{true, false}
use Rattle.promise.proofs.device.AcceptedCalls.{storing_no_place}
use Rattle.std.proofs.Math.Path.{refl}
use Rattle.std.proofs.Common.{sym, ap, ap₂, ◌∙◌}
use Rattle.std.proofs.Math.Dec.{ltb}
use borrow.Author.Tests.{lt-ltb, ltb-true}
use Rattle.tables.specs.laws.Basics.{and_join}
use Rattle.tables.specs.declared.Geometry.{Geometry}
use Rattle.tables.specs.meaning.Geometry.{Valid}
use Rattle.volume.specs.meaning.State.{StateView, call_present}
use Rattle.volume.specs.meaning.Roles.{by_roles}
use Rattle.tables.specs.meaning.Tables.{buffer_fits}
use Rattle.volume.specs.declared.Answer.{Answer}
use Rattle.volume.specs.declared.Answer.TheVariants.{Finished, Unfinished, Refused, BadLog}
use Rattle.promise.specs.meaning.Claim.{Call, mounts, writes, flushes, resets, compacts, ready, System, calls, answered, read_out, peeked_at, reported, heard, NamesAll, SameZones, Serves, RefusedOnly, ResetRefusal, WriteRefusal, CompactRefusal, Promise}
use Rattle.promise.specs.meaning.OnDevice.{call_of, on_device}
use Rattle.tables.specs.meaning.GeometryTest.{is_valid}
use Rattle.promise.proofs.device.Modes.{OkIn}
use Rattle.promise.proofs.device.Heard.{answer_heard, read_heard, peek_heard}
use Rattle.promise.proofs.device.ClaimEvents.{Ok, look_held}
use Rattle.promise.proofs.device.SharesKept.{Shared}
use Rattle.promise.proofs.device.PointClaims.{drives, row_1, row_3, row_4, row_7, look_claim, held_claim, mount_claim, refused_claim, flush_claim, reset_claim, write_claim, share_claim, compact_claim, read_claim, read_accepted, peek_claim, peek_accepted, report_claim, pointer_claim}

-- ---- another state under which the system is so, and which says the same of the zones, serves reads, peeks and reports
module _ (g : Geometry) (ok : Valid g) (t : TableLengths) (wb : is_valid g ≡ true) (lf : tables_fit g t ≡ true) (s : System (on_device g t)) (o : Ok g t s) (m : s.mode ≡ ready)
    (state : StateView) (p : OkIn g s.mode s.lost s.memory state s.ledger) (same : SameZones g state s.state) (named : ℕ → Bool) (names : NamesAll g (on_device g t) s named) where
  abbrev held : System (on_device g t)
  held = record { memory = s.memory; lost = s.lost; mode = s.mode; state = state; ledger = s.ledger }

  module _ (by : ℕ → Bool) (all : NamesAll g (on_device g t) s by) where
    there : NamesAll g (on_device g t) held by
    there = record { drives = all.drives }

    drives_same : call_present g by state ≡ call_present g by s.state
    drives_same = drives g ok t wb lf held p by there m ∙ sym (drives g ok t wb lf s o by all m)

    -- the rows that speak of the state
    row_1s : (not (is_valid g && state_within g state) ≡ false) × (not (is_valid g && state_within g s.state) ≡ false)
    row_1s = (row_1 g ok t wb lf held p by there m, row_1 g ok t wb lf s o by all m)

    row_4s : (two_absent g by state ≡ false) × (two_absent g by s.state ≡ false)
    row_4s = (row_4 g ok t wb lf held p by there m, row_4 g ok t wb lf s o by all m)

    row_7s : (z : ℕ) → let w = by_roles g s.memory in (stale g (call_present g by state) w state z ≡ false) × (stale g (call_present g by s.state) w s.state z ≡ false)
    row_7s z = (row_7 g ok t wb lf held p by there m z, row_7 g ok t wb lf s o by all m z)

    read_same : (a count : ℕ) (out : List ℕ) → (on_device g t).read by state a count out s.memory ≡ (on_device g t).read by s.state a count out s.memory
    unfolding read_rows
    read_same a count out = go (ltb (zone_of g a) g.zones) (buffer_fits g count (length out)) refl refl
      where
        go : (i b : Bool) → ltb (zone_of g a) g.zones ≡ i → buffer_fits g count (length out) ≡ b → (on_device g t).read by state a count out s.memory ≡ (on_device g t).read by s.state a count out s.memory
        go true b e f =
            let z = zone_of g a in
            let h = ltb-true z g.zones e in
            rw (row_1s.0, row_1s.1, row_4s.0, row_4s.1, (row_7s z).0, (row_7s z).1, drives_same, same.generations z h, same.conditions z h) refl
        go false true e f = rw (row_1s.0, row_1s.1, lf, f, row_3 g ok t wb lf s o by all, row_4s.0, row_4s.1, (row_7s (zone_of g a)).0, (row_7s (zone_of g a)).1, e) refl
        go false false e f = rw (row_1s.0, row_1s.1, lf, f) refl

    peek_same : (a : ℕ) → (on_device g t).peek by state a s.memory ≡ (on_device g t).peek by s.state a s.memory
    unfolding peek_rows
    peek_same a = go (ltb (zone_of g a) g.zones) refl
      where
        go : (i : Bool) → ltb (zone_of g a) g.zones ≡ i → (on_device g t).peek by state a s.memory ≡ (on_device g t).peek by s.state a s.memory
        go true e =
            let z = zone_of g a in
            let h = ltb-true z g.zones e in
            rw (row_1s.0, row_1s.1, row_4s.0, row_4s.1, (row_7s z).0, (row_7s z).1, drives_same, same.generations z h, same.conditions z h) refl
        go false e = rw (row_1s.0, row_1s.1, lf, row_3 g ok t wb lf s o by all, row_4s.0, row_4s.1, (row_7s (zone_of g a)).0, (row_7s (zone_of g a)).1, e) refl

  pub serves : Serves g (on_device g t) s state
  serves = record { reads_same = read_same; peeks_same = peek_same; reports_same = λ list. report_claim g ok t wb lf held p named (there named names) m list ∙ sym (report_claim g ok t wb lf s o named names m list) }

-- no call of the rules tells a bad place of a log: a mount's is told at its contract
only_for : (g : Geometry) (t : TableLengths) (s : System (on_device g t)) (named : ℕ → Bool) (c : Call) (stop : ℕ) (Cause : ℕ → Type 0) → ((n : ℕ) → ((on_device g t).call c named s.state stop s.memory).answer ≡ Refused n → Cause n)
    → (a : Answer) → heard s (calls c named stop) ≡ answered a → RefusedOnly Cause a
only_for g t s named c stop Cause h a e = cases a (answer_heard e)
  where
    cases : (a : Answer) → ((on_device g t).call c named s.state stop s.memory).answer ≡ a → RefusedOnly Cause a
    cases Finished e = tt
    cases Unfinished e = tt
    cases (Refused n) e = h n e
    cases (BadLog b) e = let k = call_of g t c named s.state s.memory in storing_no_place (first_refusal k.refusals) k.stores k.state s.state stop s.memory b e

-- every point of a history is as claimed
module _ (g : Geometry) (ok : Valid g) (t : TableLengths) (wb : is_valid g ≡ true) (lf : tables_fit g t ≡ true) (s : System (on_device g t)) (o : Ok g t s) (f : Shared g t s) where
  pub kept : Promise g (on_device g t) s
  kept = record {
    look_fits = look_claim g ok t wb lf s o;
    mount_fits = λ named names m stop e. mount_claim g ok t wb lf s o named names m stop (answer_heard e);
    mount_refused = λ named names stop. only_for g t s named mounts stop (λ n. n ≡ 14) (refused_claim g ok t wb lf s o named names stop);
    pointer_is = pointer_claim g ok t wb lf s o;
    look_holds = held_claim g ok t wb lf s o;
    look_serves = λ named names m. serves g ok t wb lf s o m ((on_device g t).look named s.state s.memory).state (look_held g ok t s o named names) (held_claim g ok t wb lf s o named names m).1 named names;
    flush_accepted = λ named names m stop. only_for g t s named flushes stop (λ n. ⊥) (flush_claim g ok t wb lf s o named names m stop);
    reset_refused = λ named names m z stop. only_for g t s named (resets z) stop (ResetRefusal g (s.state.generation z) z) (reset_claim g ok t wb lf s o named names m z stop);
    write_refused = λ named names m w stop. only_for g t s named (writes w) stop (WriteRefusal g s.lost s.state w) (write_claim g ok t wb lf s o named names m w f stop);
    share_asked = λ named names m w k stop. let (p, q) = share_claim g ok t wb lf s o named names m w k stop in ((λ e. p (answer_heard e)), (λ e. q (answer_heard e)));
    compact_refused = λ named names m d stop. only_for g t s named (compacts d) stop (CompactRefusal g s.lost d) (compact_claim g ok t wb lf s o named names m d stop);
    shares_fit = λ m d h there. f m d (and_join (ltb d g.drives) (not (eqb d s.lost)) (lt-ltb d g.drives h) there);
    read_gives = λ named names m a count out bytes e.
        let (p, q) = read_heard e in
        let (k, b) = read_claim g ok t wb lf s o named names m a count out p in
        (k, sym q ∙ b);
    read_accepted = λ named names m a count out h pos len k.
        let p = read_accepted g ok t wb lf s o named names m a count out h pos len k in
        ap₂ read_out p (read_claim g ok t wb lf s o named names m a count out p).1;
    peek_gives = λ named names m a from part e.
        let (p, q, r) = peek_heard e in
        let (k, b, c) = peek_claim g ok t wb lf s o named names m a p in
        (k, sym q ∙ b, sym r ∙ c);
    peek_accepted = λ named names m a h k there.
        let p = peek_accepted g ok t wb lf s o named names m a h k there in
        let (i, b, c) = peek_claim g ok t wb lf s o named names m a p in
        λ j. peeked_at (p j) (b j) (c j);
    report_gives = λ named names m list. ap reported (report_claim g ok t wb lf s o named names m list);
  }
