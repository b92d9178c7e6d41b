-- Laws of the value stream (document 01, "Value stream"): how long it is, and that the number of entries, the entries
-- and the texts, each laid in its place, are the stream from the buffer's start on.
use Prim.Native.Nat.{ℕ, ◌+◌, ◌*◌}
use native.Mathlib.Omega.{arith}
use mathlib.Core.Path.{◌≡◌, sym, ap, ◌∙◌}
use mathlib.Core.List.{List, ◌++◌}
use lib.ListN.{length, length-append}
use lib.Seq.{sets}
use Rattle.words.specs.Words.{bytes_of}
use Rattle.words.proofs.Lists.{sets_append}
use Rattle.words.proofs.WordLaws.{length_bytes}
use Rattle.values.specs.inside.stream.Laying.{laid_in}
use Rattle.values.specs.stream.Stream.{Token, heads, bodies, stream_bytes}
use Rattle.values.proofs.stream.HeadLaws.{length_heads}

-- a stream has 4 bytes, twelve for each entry, and those of the texts
pub stream_long : (ts : List Token) → length (stream_bytes ts) ≡ 4 + 12 * length ts + length (bodies ts)
unfolding stream_bytes
stream_long ts =
    length-append (bytes_of 4 (length ts)) (heads 0 ts ++ bodies ts)
    ∙ omega (arith, length-append (heads 0 ts) (bodies ts), length_bytes 4 (length ts), length_heads 0 ts)

-- the number of entries first, the entries after it, the texts after them
pub stream_laid : (out : List ℕ) (ts : List Token)
    → laid_in (sets out 0 (bytes_of 4 (length ts))) (4 + 12 * length ts) 4 0 ts ≡ sets out 0 (stream_bytes ts)
unfolding laid_in stream_bytes
stream_laid out ts =
    let n : ℕ = length ts in
    let a : 0 + length (bytes_of 4 n) ≡ 4 = omega (arith, length_bytes 4 n) in
    let b : 4 + length (heads 0 ts) ≡ 4 + 12 * n + 0 = omega (arith, length_heads 0 ts) in
    sym
    (sets_append out 0 (bytes_of 4 n) (heads 0 ts ++ bodies ts)
    ∙ ap (λ (k : ℕ). sets (sets out 0 (bytes_of 4 n)) k (heads 0 ts ++ bodies ts)) a
    ∙ sets_append (sets out 0 (bytes_of 4 n)) 4 (heads 0 ts) (bodies ts)
    ∙ ap (λ (k : ℕ). sets (sets (sets out 0 (bytes_of 4 n)) 4 (heads 0 ts)) k (bodies ts)) b)
