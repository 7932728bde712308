-- A promise holds throughout a history if some invariant holds at its start, every event keeps it, and it gives the promise.
use Rattle.std.specs.Prelude.{List, [], ◌∷◌}
use Rattle.tables.specs.declared.Geometry.{Geometry}
use Rattle.promise.specs.meaning.Claim.{Volume, System, Event, next, Duty, Dutiful, Promise, Throughout}
use Rattle.promise.specs.meaning.Histories.{AtEveryPoint}

module _ (g : Geometry) (vol : Volume) (Ok : System vol → Type 0) (gives : (s : System vol) → Ok s → Promise g vol s)
    (keeps : (s : System vol) → Ok s → (e : Event vol) → Duty g vol s e → Ok (next g vol s e)) where
  pub throughout : (s : System vol) → Ok s → (es : List (Event vol)) → Dutiful g vol s es → Throughout g vol s es
  throughout s o [] d = gives s o
  throughout s o (e ∷ es) (d, ds) = (gives s o, throughout (next g vol s e) (keeps s o e d) es ds)

-- and what follows from it holds at every point
pub every_point : (g : Geometry) (vol : Volume) (Ok P : System vol → Type 0) → ((s : System vol) → Ok s → P s) → ((s : System vol) → Ok s → (e : Event vol) → Duty g vol s e → Ok (next g vol s e))
    → (s : System vol) → Ok s → (es : List (Event vol)) → Dutiful g vol s es → AtEveryPoint g vol P s es
every_point g vol Ok P gives keeps s o [] d = gives s o
every_point g vol Ok P gives keeps s o (e ∷ es) (d, ds) = (gives s o, every_point g vol Ok P gives keeps (next g vol s e) (keeps s o e d) es ds)
