-- What a volume promises, it promises on drives that cache resets: every clause speaks of its memory alone, not of what is remembered. (Of one point of a
-- history; that every event keeps what gives it is CachedEvents.) And what every event keeps of a volume it keeps there.
use Rattle.std.proofs.Common.{ap}
use Rattle.tables.specs.declared.Geometry.{Geometry}
use Rattle.volume.specs.meaning.Answers.{CallResult}
use Rattle.promise.specs.meaning.Claim.{Volume, System, Event, calls, looks, reads, peeks, reports, cuts, loses, next, NamesAll, Duty, Promise}
use Rattle.promise.specs.meaning.Caches.{WithCaches, Caches, with_caches, beneath}

module _ (g : Geometry) (vol : Volume) (k : Caches vol) (s : System (with_caches vol k)) where
  pub names_beneath : (named : vol.Names) → NamesAll g (with_caches vol k) s named → NamesAll g vol (beneath vol k s) named
  names_beneath named n = record { drives = n.drives }

  abbrev beside : CallResult vol.Memory vol.State → CallResult (WithCaches vol.Memory) vol.State
  beside r = record { answer = r.answer; memory = record { memory = r.memory; was = s.memory.was }; state = r.state }

  pub cached_promise : Promise g vol (beneath vol k s) → Promise g (with_caches vol k) s
  cached_promise p = record {
    look_fits = λ named n. let (e, f) = p.look_fits named (names_beneath named n) in (ap beside e, f);
    mount_fits = λ named n. p.mount_fits named (names_beneath named n);
    mount_refused = λ named n. p.mount_refused named (names_beneath named n);
    pointer_is = p.pointer_is;
    look_holds = λ named n. p.look_holds named (names_beneath named n);
    look_serves = λ named n m. let q = p.look_serves named (names_beneath named n) m in record { reads_same = λ by k. q.reads_same by (names_beneath by k); peeks_same = λ by k. q.peeks_same by (names_beneath by k); reports_same = q.reports_same };
    flush_accepted = λ named n. p.flush_accepted named (names_beneath named n);
    reset_refused = λ named n. p.reset_refused named (names_beneath named n);
    write_refused = λ named n. p.write_refused named (names_beneath named n);
    share_asked = λ named n. p.share_asked named (names_beneath named n);
    compact_refused = λ named n. p.compact_refused named (names_beneath named n);
    shares_fit = p.shares_fit;
    read_gives = λ named n. p.read_gives named (names_beneath named n);
    read_accepted = λ named n. p.read_accepted named (names_beneath named n);
    peek_gives = λ named n. p.peek_gives named (names_beneath named n);
    peek_accepted = λ named n. p.peek_accepted named (names_beneath named n);
    report_gives = λ named n. p.report_gives named (names_beneath named n);
  }

  -- what every event keeps of a volume, whatever a cut leaves, is kept on drives that cache resets
  pub beneath_keeps : (P : System vol → Type 0) → P (beneath vol k s) → ((e : Event vol) → Duty g vol (beneath vol k s) e → P (next g vol (beneath vol k s) e)) → ((m : vol.Memory) → P (next g vol (beneath vol k s) (cuts m)))
      → (e : Event (with_caches vol k)) → Duty g (with_caches vol k) s e → P (beneath vol k (next g (with_caches vol k) s e))
  beneath_keeps P p keeps cut (calls c named stop) (n, m, q) = keeps (calls c named stop) (names_beneath named n, m, q)
  beneath_keeps P p keeps cut (looks named) d = p
  beneath_keeps P p keeps cut (reads named a count out) d = p
  beneath_keeps P p keeps cut (peeks named a) d = p
  beneath_keeps P p keeps cut (reports list) d = p
  beneath_keeps P p keeps cut (cuts m) d = cut m.memory
  beneath_keeps P p keeps cut (loses y m) (h, one, d) = keeps (loses y m.memory) (h, one, d.left)
