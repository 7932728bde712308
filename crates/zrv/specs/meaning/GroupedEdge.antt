-- The read of a segment with grouped stripes on bytes and numbers: grouped's call, made on the drives that a mask names. It changes its answer buffer alone;
-- of its work table only the length counts, and what it holds afterwards is left open.
use Rattle.std.specs.Prelude.{ℕ, List}
use Rattle.grouped.specs.declared.Segment.{Segment}
use Rattle.grouped.specs.meaning.Reading.{request, grouped_number, grouped_left}
use Rattle.zrv.specs.meaning.EdgeCalls.{named_of, Answered, answered}

-- the segment of the call's first four numbers
unfoldable pub segment_of : ℕ → ℕ → ℕ → ℕ → Segment
segment_of d b g n = record { drives = d; block = b; group = g; blocks = n }

-- read of the block with address a
abbrev pub grouped_edge : Segment → ℕ → ℕ → List ℕ → List ℕ → ℕ → List ℕ → Answered (List ℕ)
grouped_edge s mask a xs ms work out = answered (grouped_number (request s (named_of mask) xs ms work a) out) (grouped_left (request s (named_of mask) xs ms work a) out)
