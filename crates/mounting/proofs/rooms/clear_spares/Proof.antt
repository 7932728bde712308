use mathlib.Core.Path.{sym, ◌∙◌}
use borrow.Author.Rules.{rules}
use Rattle.mounting.proofs.rooms.clear_spares.Statement.{statement}
use Rattle.mounting.proofs.rooms.clear_spares.Tie as tie

-- from the place after a call to that after the one before
abbrev to_start : tie.After-flush_all-flushed → tie.Start
to_start c = c.before.before.before.before.before

abbrev to-flushed : tie.After-reset_spares-spared → tie.After-flush_all-flushed
to-flushed c = c.before.before.before.before.before.before

abbrev to-spared : tie.After-flush_after → tie.After-reset_spares-spared
to-spared c = c.before.before.before.before.before.before

flush-all-requires : tie.Need-flush_all-flushed-requires
flush-all-requires c κs = let s = c.before.before.before.before in (s.requires.0.0, (s.requires.1.0, s.requires.1.1))

reset-spares-requires : tie.Need-reset_spares-spared-requires
reset-spares-requires c κs =
    let f = c.before.before.before.before.before in
    let s = to_start f in
    let same = sym s.requires.1.3 in
    (s.requires.0.1, (s.requires.1.0 ∙ same, f.flush_all-flushed.auto.durable ∙ s.requires.1.1 ∙ same, s.requires.1.2 ∙ same))

flush-after-requires : tie.Need-flush_after-requires
flush-after-requires c κs =
    let r = c.before.before.before.before.before in
    let f = to-flushed r in
    let s = to_start f in
    (s.requires.0.0, (r.reset_spares-spared.auto.written ∙ s.requires.1.0, r.reset_spares-spared.auto.durable ∙ f.flush_all-flushed.auto.durable ∙ s.requires.1.1))

returns : tie.Need-returns
returns c =
    let h = c.before.before in
    let r = (to-spared h).reset_spares-spared in
    let f = (to-flushed (to-spared h)).flush_all-flushed in
    record {
      flushed = f.result;
      spared = r.result;
      flushed_pointers = f.new.durable;
      spared_pointers = r.new.durable;
      flush = f.ensures;
      resets = r.ensures;
      after = h.flush_after.ensures;
    }

pub clear_spares_spec : {M : Type 1} → statement M
clear_spares_spec = tie.close (tie.spec flush-all-requires reset-spares-requires flush-after-requires (λ c. search rules) (λ c. search rules) returns)
