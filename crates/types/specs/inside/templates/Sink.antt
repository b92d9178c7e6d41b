-- What a sink does with bytes that come (document 01, "Template and handle"): it counts them, folds them for the handle
-- and, if it writes, stores them from its place on.
use Rattle.std.specs.Prelude.{ℕ, ◌+◌, ◌^◌, ◌≤◌, true, cond, List, ◌≡◌, length}
use Rattle.std.proofs.lemmas.List.Edits.{sets}
use Rattle.types.specs.templates.Handle.{fold_from}
use Rattle.types.specs.declared.templates.sink.Sink.{Sink}

-- a sink at a buffer can take these bytes
pub record SinkRoom (s : List ℕ) (k : Sink) (out : List ℕ) : Type 0 where
  pub small : k.at + length s ≤ 2 ^ 31
  pub room : k.writes ≡ true → k.at + length s ≤ length out

-- a sink k at a buffer took these bytes, and is the sink r at the buffer left then
pub record Emitted (s : List ℕ) (k : Sink) (out : List ℕ) (r : Sink) (left : List ℕ) : Type 0 where
  pub at : r.at ≡ k.at + length s
  pub fold : r.fold ≡ fold_from k.fold s
  pub writes : r.writes ≡ k.writes
  pub bytes : left ≡ cond k.writes (sets out k.at s) out
