-- DRIVES WHOSE RESETS LAST AT ONCE are covered: what is promised on drives that cache resets is promised of the volume without caches, where a cut is one of theirs in
-- which nothing comes back. So the older claims follow from those of caching drives, for any volume.
use Rattle.std.specs.Prelude.{◌≡◌, refl, ℕ, List, [], ◌∷◌}
use Rattle.std.proofs.Common.{sym, ap, subst}
use Rattle.tables.specs.declared.Geometry.{Geometry}
use Rattle.tables.specs.laws.Cached.{older_cut}
use Rattle.volume.specs.meaning.Refusals.{TableLengths}
use Rattle.volume.specs.meaning.Answers.{CallResult}
use Rattle.promise.specs.meaning.Claim.{formats, Volume, System, Event, calls, looks, reads, peeks, reports, cuts, loses, next, NamesAll, Duty, Dutiful, Promise, Throughout, start, KeepsPromise}
use Rattle.promise.specs.meaning.OnDevice.{on_device, DeviceClaim}
use Rattle.promise.specs.meaning.Caches.{Remembered, WithCaches, Caches, with_caches, device_caches}
use Rattle.promise.proofs.device.CachedClaim.{caching_device_keeps_the_promise}

-- a cut of the volume is one of the drives with caches, whatever these remember
abbrev pub OlderCuts : (vol : Volume) → Caches vol → Type 0
OlderCuts vol k = (x : ℕ) (m : vol.Memory) (was : Remembered) (n : vol.Memory) → vol.CutTo x m n → k.CutTo x m was n

module _ (g : Geometry) (vol : Volume) (k : Caches vol) where
  abbrev caching : Volume
  caching = with_caches vol k

  -- the same system, with caches that remember this
  abbrev pub beside : System vol → Remembered → System (with_caches vol k)
  beside s was = record { memory = record { memory = s.memory; was = was }; lost = s.lost; mode = s.mode; state = s.state; ledger = s.ledger }

  -- ---- what is promised there is promised here: no clause speaks of what is remembered
  module _ (s : System vol) (was : Remembered) where
    pub names : (named : vol.Names) → NamesAll g vol s named → NamesAll g (with_caches vol k) (beside s was) named
    names named n = record { drives = n.drives }

    abbrev pub without : CallResult (WithCaches vol.Memory) vol.State → CallResult vol.Memory vol.State
    without r = record { answer = r.answer; memory = r.memory.memory; state = r.state }

    older_promise : Promise g (with_caches vol k) (beside s was) → Promise g vol s
    older_promise p = record {
      look_fits = λ named n. let (e, f) = p.look_fits named (names named n) in (ap without e, f);
      mount_fits = λ named n. p.mount_fits named (names named n);
      mount_refused = λ named n. p.mount_refused named (names named n);
      pointer_is = p.pointer_is;
      look_holds = λ named n. p.look_holds named (names named n);
      look_serves = λ named n m. let q = p.look_serves named (names named n) m in record { reads_same = λ by k. q.reads_same by (names by k); peeks_same = λ by k. q.peeks_same by (names by k); reports_same = q.reports_same };
      flush_accepted = λ named n. p.flush_accepted named (names named n);
      reset_refused = λ named n. p.reset_refused named (names named n);
      write_refused = λ named n. p.write_refused named (names named n);
      share_asked = λ named n. p.share_asked named (names named n);
      compact_refused = λ named n. p.compact_refused named (names named n);
      shares_fit = p.shares_fit;
      read_gives = λ named n. p.read_gives named (names named n);
      read_accepted = λ named n. p.read_accepted named (names named n);
      peek_gives = λ named n. p.peek_gives named (names named n);
      peek_accepted = λ named n. p.peek_accepted named (names named n);
      report_gives = λ named n. p.report_gives named (names named n);
    }

  module _ (older : OlderCuts vol k) where
    -- ---- an event there: a cut brings nothing back
    abbrev pub there : Remembered → Event vol → Event (with_caches vol k)
    there was (calls c named stop) = calls c named stop
    there was (looks named) = looks named
    there was (reads named a count out) = reads named a count out
    there was (peeks named a) = peeks named a
    there was (reports list) = reports list
    there was (cuts m) = cuts (record { memory = m; was = λ d z. [] })
    there was (loses d m) = loses d (record { memory = m; was = was })

    -- what is remembered after it
    abbrev pub left : System vol → Remembered → Event vol → Remembered
    left s was e = (next g (with_caches vol k) (beside s was) (there was e)).memory.was

    duty_there : (s : System vol) (was : Remembered) (e : Event vol) → Duty g vol s e → Duty g (with_caches vol k) (beside s was) (there was e)
    duty_there s was (calls c named stop) (n, d, f) = (names s was named n, d, f)
    duty_there s was (looks named) (n, d) = (names s was named n, d)
    duty_there s was (reads named a count out) (n, d) = (names s was named n, d)
    duty_there s was (peeks named a) (n, d) = (names s was named n, d)
    duty_there s was (reports list) d = d
    duty_there s was (cuts m) d = record { left = older s.lost s.memory was m d; forgotten = λ e z n. refl }
    duty_there s was (loses y m) (h, o, d) = (h, o, record { left = d; same = λ e z n. refl })

    pub next_there : (s : System vol) (was : Remembered) (e : Event vol) → next g (with_caches vol k) (beside s was) (there was e) ≡ beside (next g vol s e) (left s was e)
    next_there s was (calls c named stop) = refl
    next_there s was (looks named) = refl
    next_there s was (reads named a count out) = refl
    next_there s was (peeks named a) = refl
    next_there s was (reports list) = refl
    next_there s was (cuts m) = refl
    next_there s was (loses y m) = refl

    -- ---- histories
    abbrev pub all_there : System vol → Remembered → List (Event vol) → List (Event (with_caches vol k))
    all_there s was [] = []
    all_there s was (e ∷ es) = there was e ∷ all_there (next g vol s e) (left s was e) es

    pub dutiful_there : (s : System vol) (was : Remembered) (es : List (Event vol)) → Dutiful g vol s es → Dutiful g (with_caches vol k) (beside s was) (all_there s was es)
    dutiful_there s was [] d = tt
    dutiful_there s was (e ∷ es) (d, ds) = (
      duty_there s was e d,
      subst (λ (t : System (with_caches vol k)). Dutiful g (with_caches vol k) t (all_there (next g vol s e) (left s was e) es)) (sym (next_there s was e)) (dutiful_there (next g vol s e) (left s was e) es ds),
    )

    throughout_here : (s : System vol) (was : Remembered) (es : List (Event vol)) → Throughout g (with_caches vol k) (beside s was) (all_there s was es) → Throughout g vol s es
    throughout_here s was [] p = older_promise s was p
    throughout_here s was (e ∷ es) (p, ps) = (
      older_promise s was p,
      throughout_here (next g vol s e) (left s was e) es (subst (λ (t : System (with_caches vol k)). Throughout g (with_caches vol k) t (all_there (next g vol s e) (left s was e) es)) (next_there s was e) ps),
    )

    -- THE OLDER CLAIM follows
    pub older_drives : KeepsPromise g (with_caches vol k) → KeepsPromise g vol
    older_drives keeps named array old stop m small e es d =
        let r = vol.call (formats array) named old stop m in
        let c = (with_caches vol k).call (formats array) named old stop (record { memory = m; was = λ e z. [] }) in
        let s = start g vol named r in
        throughout_here s c.memory.was es (keeps named array old stop (record { memory = m; was = λ e z. [] }) small e (all_there s c.memory.was es) (dutiful_there s c.memory.was es d))

-- on the device
pub device_older_cuts : (g : Geometry) (t : TableLengths) → OlderCuts (on_device g t) (device_caches g t)
device_older_cuts g t x v was w h = older_cut x (record { now = v; was = was }) w h

pub device_keeps_the_promise : DeviceClaim
device_keeps_the_promise g t = older_drives g (on_device g t) (device_caches g t) (device_older_cuts g t) (caching_device_keeps_the_promise g t)
