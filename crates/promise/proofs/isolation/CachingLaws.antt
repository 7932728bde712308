-- What isolation rests on (Laws) holds on drives that cache resets as it holds without: what a call answers and hands on does not hang on what the caches remember.
use Rattle.std.specs.Prelude.{◌≡◌, ℕ}
use Rattle.tables.specs.declared.Geometry.{Geometry}
use Rattle.promise.specs.meaning.Claim.{Volume, System, Event, NamesAll, Duty, next}
use Rattle.promise.specs.meaning.Caches.{Caches, with_caches, beneath}
use Rattle.promise.proofs.isolation.Laws.{BothReady, Laws}

module _ (g : Geometry) (vol : Volume) (k : Caches vol) (Ok : System vol → Type 0) (laws : Laws g vol Ok) (OkOn : System (with_caches vol k) → Type 0)
    (under : (s : System (with_caches vol k)) → OkOn s → Ok (beneath vol k s)) (kept : (s : System (with_caches vol k)) (e : Event (with_caches vol k)) → OkOn s → Duty g (with_caches vol k) s e → OkOn (next g (with_caches vol k) s e)) where
  names : (s : System (with_caches vol k)) (named : vol.Names) → NamesAll g (with_caches vol k) s named → NamesAll g vol (beneath vol k s) named
  names s named n = record { drives = n.drives }

  both : (s t : System (with_caches vol k)) (m n : vol.Names) → BothReady g (with_caches vol k) OkOn s t m n → BothReady g vol Ok (beneath vol k s) (beneath vol k t) m n
  both s t m n b = record {
    first_ok = under s b.first_ok;
    second_ok = under t b.second_ok;
    first_ready = b.first_ready;
    second_ready = b.second_ready;
    lost = b.lost;
    first_names = names s m b.first_names;
    second_names = names t n b.second_names;
  }

  pub caching_laws : Laws g (with_caches vol k) OkOn
  caching_laws = record {
    kept = kept;
    write_heard = λ s t m n b w stop same counts zones shares. laws.write_heard (beneath vol k s) (beneath vol k t) m n (both s t m n b) w stop (record { generation = same.generation; condition = same.condition; owner = same.owner }) counts zones shares;
    flush_heard = λ s t m n b stop. laws.flush_heard (beneath vol k s) (beneath vol k t) m n (both s t m n b) stop;
    reset_heard = λ s t m n b z stop same logs. laws.reset_heard (beneath vol k s) (beneath vol k t) m n (both s t m n b) z stop same logs;
    read_heard = λ s t m n b a count out same contents. laws.read_heard (beneath vol k s) (beneath vol k t) m n (both s t m n b) a count out same contents;
    peek_heard = λ s t m n b a same contents. laws.peek_heard (beneath vol k s) (beneath vol k t) m n (both s t m n b) a same contents;
    write_moves = λ s m o r n w stop e. laws.write_moves (beneath vol k s) m (under s o) r (names s m n) w stop e;
    flush_moves = λ s m o r n stop e. laws.flush_moves (beneath vol k s) m (under s o) r (names s m n) stop e;
    reset_moves = λ s m o r n z stop e. laws.reset_moves (beneath vol k s) m (under s o) r (names s m n) z stop e;
    compact_moves = λ s m o r n d stop e. laws.compact_moves (beneath vol k s) m (under s o) r (names s m n) d stop e;
    not_finished = λ s m o n c stop a e ends. laws.not_finished (beneath vol k s) m (under s o) (names s m n) c stop a e ends;
  }
