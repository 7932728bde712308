-- On tables whose pointers are in order each call's refusal is the rules' on the device that they stand for; and a refusal's number is never 0.
use Rattle.std.specs.Prelude.{◌≡◌, Bool, false, ℕ, List}
use Rattle.std.proofs.Math.Path.{refl}
use Rattle.tables.specs.declared.Geometry.{Geometry}
use Rattle.tables.specs.meaning.Tables.{Tables, device_of, pointers_bad}
use Rattle.volume.specs.declared.State.{State}
use Rattle.volume.specs.meaning.Refusals.{Verdict, refuse, accept, first_refusal, WriteAsked, format_rows, look_rows, mount_rows, write_rows, flush_rows, reset_rows, compact_rows, read_rows, peek_rows, bad_pointers}
use Rattle.volume.specs.meaning.CallContracts.{view_state, is_set, verdict_number, lengths_of, roles_of, seen_in, format_verdict, look_verdict, mount_verdict, write_verdict, flush_verdict, reset_verdict, compact_verdict, read_number, peek_number}
use Rattle.volume.specs.laws.Refusals.{Numbered, numbered}
use Rattle.promise.proofs.tables.CallRefines.{pointers_pass}

-- a number that is given is not 0
pub numbered_accept : (v : Verdict) → Numbered v → verdict_number v ≡ 0 → v ≡ accept
numbered_accept accept n e = refl
numbered_accept (refuse k) n e = absurd (n e)

module _ (g : Geometry) (named : List Bool) (t : Tables) (h : pointers_bad g named t.written t.durable ≡ false) where
  pub format_verdict_lem : format_verdict g named t ≡ first_refusal (format_rows g (lengths_of t) (bad_pointers g (is_set named) (device_of g t)) (is_set named) (device_of g t))
  unfolding format_verdict format_rows
  format_verdict_lem = rw (h, pointers_pass g named t h) refl

  pub look_verdict_lem : look_verdict g named t ≡ first_refusal (look_rows g (lengths_of t) (bad_pointers g (is_set named) (device_of g t)) (is_set named) (roles_of g t) (seen_in g t))
  unfolding look_verdict look_rows
  look_verdict_lem = rw (h, pointers_pass g named t h) refl

  pub mount_verdict_lem : mount_verdict g named t ≡ first_refusal (mount_rows g (lengths_of t) (bad_pointers g (is_set named) (device_of g t)) (is_set named) (roles_of g t) (seen_in g t))
  unfolding mount_verdict mount_rows
  mount_verdict_lem = rw (h, pointers_pass g named t h) refl

  module _ (s : State) where
    pub flush_verdict_lem : flush_verdict g named s t ≡ first_refusal (flush_rows g (lengths_of t) (bad_pointers g (is_set named) (device_of g t)) (is_set named) (view_state s) (device_of g t))
    unfolding flush_verdict flush_rows
    flush_verdict_lem = rw (h, pointers_pass g named t h) refl

    pub write_verdict_lem : (a : WriteAsked) → write_verdict g named s a t ≡ first_refusal (write_rows g (lengths_of t) (bad_pointers g (is_set named) (device_of g t)) (is_set named) (view_state s) a (roles_of g t) (seen_in g t))
    unfolding write_verdict write_rows
    write_verdict_lem a = rw (h, pointers_pass g named t h) refl

    pub compact_verdict_lem : (d : ℕ) → compact_verdict g named s d t ≡ first_refusal (compact_rows g (lengths_of t) (bad_pointers g (is_set named) (device_of g t)) (is_set named) (view_state s) d (roles_of g t) (seen_in g t))
    unfolding compact_verdict compact_rows
    compact_verdict_lem d = rw (h, pointers_pass g named t h) refl

    pub reset_verdict_lem : (z : ℕ) → reset_verdict g named s z t ≡ first_refusal (reset_rows g (lengths_of t) (bad_pointers g (is_set named) (device_of g t)) (is_set named) (view_state s) z (roles_of g t) (seen_in g t))
    unfolding reset_verdict reset_rows
    reset_verdict_lem z = rw (h, pointers_pass g named t h) refl

    pub read_number_lem : (a count bytes : ℕ) → read_number g named s a count bytes t ≡ verdict_number (first_refusal (read_rows g (lengths_of t) (bad_pointers g (is_set named) (device_of g t)) (is_set named) (view_state s) a count bytes (seen_in g t)))
    unfolding read_number read_rows
    read_number_lem a count bytes = rw (h, pointers_pass g named t h) refl

    pub peek_number_lem : (a : ℕ) → peek_number g named s a t ≡ verdict_number (first_refusal (peek_rows g (lengths_of t) (bad_pointers g (is_set named) (device_of g t)) (is_set named) (view_state s) a (seen_in g t)))
    unfolding peek_number peek_rows
    peek_number_lem a = rw (h, pointers_pass g named t h) refl

-- ---- numbers of their own
module _ (g : Geometry) (named : List Bool) (t : Tables) where
  pub format_numbered : Numbered (first_refusal (format_rows g (lengths_of t) (bad_pointers g (is_set named) (device_of g t)) (is_set named) (device_of g t)))
  unfolding format_rows
  format_numbered = numbered (format_rows g (lengths_of t) (bad_pointers g (is_set named) (device_of g t)) (is_set named) (device_of g t)) refl

  pub mount_numbered : Numbered (first_refusal (mount_rows g (lengths_of t) (bad_pointers g (is_set named) (device_of g t)) (is_set named) (roles_of g t) (seen_in g t)))
  unfolding mount_rows
  mount_numbered = numbered (mount_rows g (lengths_of t) (bad_pointers g (is_set named) (device_of g t)) (is_set named) (roles_of g t) (seen_in g t)) refl

  module _ (s : State) where
    pub flush_numbered : Numbered (first_refusal (flush_rows g (lengths_of t) (bad_pointers g (is_set named) (device_of g t)) (is_set named) (view_state s) (device_of g t)))
    unfolding flush_rows
    flush_numbered = numbered (flush_rows g (lengths_of t) (bad_pointers g (is_set named) (device_of g t)) (is_set named) (view_state s) (device_of g t)) refl

    pub write_numbered : (a : WriteAsked) → Numbered (first_refusal (write_rows g (lengths_of t) (bad_pointers g (is_set named) (device_of g t)) (is_set named) (view_state s) a (roles_of g t) (seen_in g t)))
    unfolding write_rows
    write_numbered a = numbered (write_rows g (lengths_of t) (bad_pointers g (is_set named) (device_of g t)) (is_set named) (view_state s) a (roles_of g t) (seen_in g t)) refl

    pub compact_numbered : (d : ℕ) → Numbered (first_refusal (compact_rows g (lengths_of t) (bad_pointers g (is_set named) (device_of g t)) (is_set named) (view_state s) d (roles_of g t) (seen_in g t)))
    unfolding compact_rows
    compact_numbered d = numbered (compact_rows g (lengths_of t) (bad_pointers g (is_set named) (device_of g t)) (is_set named) (view_state s) d (roles_of g t) (seen_in g t)) refl

    pub reset_numbered : (z : ℕ) → Numbered (first_refusal (reset_rows g (lengths_of t) (bad_pointers g (is_set named) (device_of g t)) (is_set named) (view_state s) z (roles_of g t) (seen_in g t)))
    unfolding reset_rows
    reset_numbered z = numbered (reset_rows g (lengths_of t) (bad_pointers g (is_set named) (device_of g t)) (is_set named) (view_state s) z (roles_of g t) (seen_in g t)) refl

    pub read_numbered : (a count bytes : ℕ) → Numbered (first_refusal (read_rows g (lengths_of t) (bad_pointers g (is_set named) (device_of g t)) (is_set named) (view_state s) a count bytes (seen_in g t)))
    unfolding read_rows
    read_numbered a count bytes = numbered (read_rows g (lengths_of t) (bad_pointers g (is_set named) (device_of g t)) (is_set named) (view_state s) a count bytes (seen_in g t)) refl

    pub peek_numbered : (a : ℕ) → Numbered (first_refusal (peek_rows g (lengths_of t) (bad_pointers g (is_set named) (device_of g t)) (is_set named) (view_state s) a (seen_in g t)))
    unfolding peek_rows
    peek_numbered a = numbered (peek_rows g (lengths_of t) (bad_pointers g (is_set named) (device_of g t)) (is_set named) (view_state s) a (seen_in g t)) refl
