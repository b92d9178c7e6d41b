-- A run of bools in a stream (document 01, "Writing"): their truths as bits, and that an array of bools which is
-- accepted is such a run.
use Rattle.std.specs.Prelude.{ℕ, ◌+◌, ◌*◌, ◌<◌, ◌≤◌, true, List, ◌≡◌, eqb, get_or, length}
use Rattle.words.specs.Bits.{Bits, flat}
use Rattle.values.specs.inside.writing.Passes.{accepted, first_kind, left_at}
use Rattle.values.specs.stream.Form.{count_in, stream_ok}
use Rattle.values.specs.writing.Writing.{bools_in}

-- the truth of the i-th bool from entry k on: the first byte of its payload is 0 or 1
unfoldable pub truths : List ℕ → ℕ → Bits
truths s k i = eqb (get_or s (8 + 12 * (k + i)) 0) 1

-- m bools from entry k on, and then the close of an array
pub record BoolRun (s : List ℕ) (k m : ℕ) : Type 0 where
  pub form : stream_ok s ≡ true
  pub inside : k + m < count_in s
  pub each : (i : ℕ) → i < m → first_kind (left_at s (k + i)) ≡ 1
  pub close : first_kind (left_at s (k + m)) ≡ 11

-- a run of at least n bools
pub record AtLeast (s : List ℕ) (k n : ℕ) : Type 0 where
  pub many : ℕ
  pub run : BoolRun s k many
  pub enough : n ≤ many

-- an array of bools that is accepted, over an image that has its bits
pub record Bools (s : List ℕ) (k : ℕ) (image : List ℕ) (base : ℕ) : Type 0 where
  pub form : stream_ok s ≡ true
  pub bytes : ℕ
  pub room : base + bytes ≤ length image
  pub taken : accepted (bools_in (8 * bytes) (8 * base) (left_at s k) (flat image)) ≡ true
