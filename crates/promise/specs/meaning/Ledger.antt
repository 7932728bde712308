-- The ledger: document 01's "book". Of each zone it keeps the content ("sound"), how much of it is committed ("mark"), and whether an
-- unfinished reset was made of it ("flag"). It is fed only each call's kind, zone and sectors to write, its answer, and what looks and
-- finished mounts show; here is how each of these moves it, and when a look fits it.
use Rattle.std.specs.Prelude.{◌≡◌, ◌⊎◌, Bool, true, false, ℕ, zero, ◌+◌, ◌≤◌, ◌<◌, List, [], ◌++◌, length}
use Rattle.tables.specs.declared.Geometry.{Geometry}
use Rattle.tables.specs.meaning.Below.{tabulate_from}
use Rattle.volume.specs.meaning.Content.{at}
use Rattle.volume.specs.meaning.Rules.{Shown, ZoneShown}
use Rattle.volume.specs.meaning.State.{set_at}

pub record Ledger : Type 0 where
  pub content : ℕ → List (List ℕ)
  pub committed : ℕ → ℕ
  pub resetting : ℕ → Bool

-- ==== how it moves
-- "A finished format counts as a mount that showed every zone empty: sounds empty, marks 0, flags down."
abbrev pub fresh_ledger : Ledger
fresh_ledger = record { content = λ z. []; committed = λ z. zero; resetting = λ z. false }

-- "Write, unless refused: its sectors join the sound."
abbrev pub after_write : Ledger → ℕ → List (List ℕ) → Ledger
after_write l z ss = record { content = set_at l.content z (l.content z ++ ss); committed = l.committed; resetting = l.resetting }

-- "Finished flush: each mark becomes its sound's length."
abbrev pub after_flush : Ledger → Ledger
after_flush l = record { content = l.content; committed = λ z. length (l.content z); resetting = l.resetting }

-- "Reset: finished, sound empty, mark 0 (the flag stays); unfinished, flag up."
abbrev pub after_reset : Ledger → ℕ → Ledger
after_reset l z = record { content = set_at l.content z []; committed = set_at l.committed z zero; resetting = l.resetting }

abbrev pub after_stopped_reset : Ledger → ℕ → Ledger
after_stopped_reset l z = record { content = l.content; committed = l.committed; resetting = set_at l.resetting z true }

-- "Finished mount: .. sounds as shown, marks their lengths, flags down."
abbrev pub after_mount : Shown → Ledger
after_mount k = record { content = λ z. tabulate_from (k.zone z).value zero (k.zone z).pointer; committed = λ z. (k.zone z).pointer; resetting = λ z. false }

-- what it is told of a call: ".. its answer (refused, unfinished, finished)"
pub data Reply : Type 0 where
  is_refused : Reply
  is_unfinished : Reply
  is_finished : Reply

-- and of which call. (Of looks, reads, peeks and reports it is told nothing that moves it: "All else: nothing.")
pub data LedgerNote : Type 0 where
  note_write : ℕ → List (List ℕ) → Reply → LedgerNote
  note_flush : Reply → LedgerNote
  note_reset : ℕ → Reply → LedgerNote
  note_mount : Shown → Reply → LedgerNote  -- what it shows when it has finished
  note_format : Reply → LedgerNote
  note_compact : Reply → LedgerNote

abbrev pub noted : Ledger → LedgerNote → Ledger
noted l (note_write z ss is_refused) = l
noted l (note_write z ss is_unfinished) = after_write l z ss
noted l (note_write z ss is_finished) = after_write l z ss
noted l (note_flush is_refused) = l
noted l (note_flush is_unfinished) = l
noted l (note_flush is_finished) = after_flush l
noted l (note_reset z is_refused) = l
noted l (note_reset z is_unfinished) = after_stopped_reset l z
noted l (note_reset z is_finished) = after_reset l z
noted l (note_mount k is_refused) = l
noted l (note_mount k is_unfinished) = l
noted l (note_mount k is_finished) = after_mount k
noted l (note_format is_refused) = l
noted l (note_format is_unfinished) = l
noted l (note_format is_finished) = fresh_ledger
noted l (note_compact r) = l

-- ==== "A zone shown at pointer n fits if n reaches the mark and its sectors are the sound's first n, or n is 0 and the flag up."
pub record Reaches (content : List (List ℕ)) (committed : ℕ) (s : ZoneShown) : Type 0 where
  pub least : committed ≤ s.pointer
  pub most : s.pointer ≤ length content
  pub values : (a : ℕ) → a < s.pointer → s.value a ≡ at content a

abbrev pub FitsZone : Ledger → ℕ → ZoneShown → Type 0
FitsZone l z s = Reaches (l.content z) (l.committed z) s ⊎ ((s.pointer ≡ zero) × (l.resetting z ≡ true))

abbrev pub Fits : Geometry → Ledger → Shown → Type 0
Fits g l k = (z : ℕ) → z < g.zones → FitsZone l z (k.zone z)
