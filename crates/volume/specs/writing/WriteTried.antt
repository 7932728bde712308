-- A write that was tried on its zone alone (src/write_directly.rt, `write_alone`), by a state that says of the zone and the host what was taken: refused, made,
-- or left as it was for the write by all logs.
use Rattle.std.specs.Prelude.{◌≡◌, ℕ, None, Ok, Err}
use Rattle.std.proofs.Math.Path.{sym, ap, ap₂}
use Rattle.std.proofs.Common.{◌∙◌}
use Rattle.std.proofs.Math.Bool.{Bool, false}
use mathlib.Core.List.{List}
use Rattle.std.proofs.Math.Dec.{eqb}
use borrow.Author.Tests.{eq-eqb, ne_eqb}
use Rattle.tables.specs.meaning.Basics.{pick}
use Rattle.tables.specs.meaning.Geometry.{Valid}
use Rattle.tables.specs.meaning.Tables.{tables_of}
use Rattle.volume.specs.declared.Answer.TheVariants.{Refused}
use Rattle.volume.specs.declared.Condition.{Condition}
use Rattle.volume.specs.declared.State.{State}
use Rattle.volume.specs.declared.Refusal.{Refusal}
use Rattle.volume.specs.declared.write_directly.WriteMade.{WriteMade}
use Rattle.volume.specs.declared.writing.Run.{Run}
use Rattle.volume.specs.meaning.CallContracts.{Result as CallResult}
use Rattle.volume.specs.meaning.RefusalNumbers.{refusal_number}
use Rattle.volume.specs.checks.RefusalNumbers.{refusal_not_none}
use Rattle.volume.specs.writing.WriteChecks.{zone_number, zone_passed}
use Rattle.volume.specs.writing.WriteRun.{RunReady, RunAsked, RunStated, asked_placed, asked_ready, ended_with, Gives, asked_number, write_zone_on, write_asked_on}
use Rattle.volume.specs.writing.WriteDirectly.{MadeOn, TriedOn, directly_ends}

-- what was left made nothing
pub record Left (run : Run) (s : State) (buffer xs ws xs' ws' : List ℕ) : Type 0 where
  pub ready : RunReady run s ws buffer
  pub same_sectors_lem : xs' ≡ xs
  pub same_written : ws' ≡ ws
  pub same_call : (count : ℕ) (ds : List ℕ) → write_zone_on run s buffer count (tables_of xs ws ds) ≡ write_asked_on run s buffer count (tables_of xs ws ds)

module _ (run : Run) (c : Condition) (s : State) (count : ℕ) (buffer xs ws xs' ws' : List ℕ) (ok : Valid run.zone.geometry) (h : RunAsked run c xs ws buffer) (q : RunStated run c s) where
  abbrev asked : ℕ
  asked = asked_number run s ws

  number_asked : zone_number run c ws ≡ asked
  number_asked = ap (λ (d : Condition). zone_number run d ws) q.condition_is

  abbrev refused : List ℕ → CallResult
  refused ds = record { outcome = record { answer = Refused (asked_number run s ws); state = s }; tables = tables_of xs ws ds }

  asked_passed : zone_number run c ws ≡ 0 → (n : ℕ) (ds : List ℕ) → write_zone_on run s buffer n (tables_of xs ws ds) ≡ write_asked_on run s buffer n (tables_of xs ws ds)
  unfolding write_asked_on
  asked_passed e n ds = sym (ap (λ (b : Bool). pick b (write_zone_on run s buffer n (tables_of xs ws ds)) (refused ds)) (eq-eqb asked 0 (sym number_asked ∙ e)))

  -- refused, and nothing has changed
  pub tried_refused : (r : Refusal) → TriedOn run c count buffer xs ws xs' ws' (Err r) → (ds : List ℕ)
      → Gives (write_asked_on run s buffer count (tables_of xs ws ds)) (record { answer = Refused (refusal_number r); state = s }) (tables_of xs' ws' ds)
  unfolding write_asked_on
  tried_refused r (n, x, w) ds =
      let on : Bool → CallResult = λ b. pick b (write_zone_on run s buffer count (tables_of xs ws ds)) (refused ds) in
      let e : eqb asked 0 ≡ false = ne_eqb asked 0 (λ z. refusal_not_none r (n ∙ number_asked ∙ z)) in (
        ap (λ (n : ℕ). record { answer = Refused n; state = s }) (n ∙ number_asked) ∙ sym (ap (λ (b : Bool). (on b).outcome) e),
        ap₂ (λ (y v : List ℕ). tables_of y v ds) x w ∙ sym (ap (λ (b : Bool). (on b).tables) e),
      )

  pub tried_left : TriedOn run c count buffer xs ws xs' ws' (Ok None) → Left run s buffer xs ws xs' ws'
  tried_left (e, x, w) = record { ready = asked_ready run c s xs ws buffer h q (zone_passed run c ws e); same_sectors_lem = x; same_written = w; same_call = asked_passed e }

  -- a write that was made
  module _ (m : WriteMade) (t : MadeOn run c count buffer xs ws xs' ws' m) where
    pub made_ready : RunReady run s ws buffer
    made_ready = asked_ready run c s xs ws buffer h q (zone_passed run c ws t.passed)

    pub tried_made : (ds : List ℕ) → Gives (write_asked_on run s buffer count (tables_of xs ws ds)) (ended_with run s m.rest) (tables_of xs' ws' ds)
    tried_made ds =
        let (x, y) = directly_ends run xs ws buffer ok h.logs_first h.sized (asked_placed run c xs ws buffer h (zone_passed run c ws t.passed).fits) t.place t.alone s ds made_ready count m.rest xs' ws' t.stores in
        (x ∙ ap (λ (w : CallResult). w.outcome) (asked_passed t.passed count ds), y ∙ ap (λ (w : CallResult). w.tables) (asked_passed t.passed count ds))
