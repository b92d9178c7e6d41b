-- Runs of bits (document 01, "Reading": all bits, lowest first): the digit of a byte's bit, the eight bits of a byte,
-- and the bits of some bytes, one byte after the other.
use Prim.Native.Nat.{ℕ, suc, ◌+◌, ◌*◌, ◌<◌, ◌≤◌}
use native.Mathlib.Numerals.{add-one}
use native.Mathlib.Omega.{arith}
use mathlib.Core.Path.{◌≡◌, refl, sym, ap, ◌∙◌}
use mathlib.Core.Bool.{Bool}
use mathlib.Core.List.{List, [], ◌∷◌, ◌++◌}
use lib.ListN.{length, get_or}
use lib.Seq.{sets, length-sets}
use Rattle.words.specs.Bits.{bit_of, digit, flat}
use Rattle.words.proofs.BitLaws.{flat_at, one_byte}
use Rattle.values.specs.inside.reading.Walk.{up_to, bit_token, bits_out}
use Rattle.values.specs.inside.stream.Laying.{EntriesPut}
use Rattle.values.specs.stream.Stream.{Token, bool, entry_bytes, bodies}
use Rattle.values.proofs.reading.UpLaws.{up_ext, up_split, up_ones, up_bodies, wrap_length}
use Rattle.values.proofs.stream.PutLaws.{put_length, put_none, put_one, put_then, put_as, put_wrap}

-- ---- the bits of a byte

-- the lowest k bits of a byte are put
pub record LowBits (x : ℕ) (out : List ℕ) (at k : ℕ) (new : List ℕ) : Type 0 where
  pub put : EntriesPut out at (up_to (bit_token (x ∷ [])) k) new (at + 12 * k)
  pub long : length new ≡ length out

bits_plain : (s : List ℕ) (n : ℕ) → bodies (up_to (bit_token s) n) ≡ []
bits_plain s n = up_bodies (bit_token s) (λ k. unfold bodies in refl) n

bits_length : (s : List ℕ) (n : ℕ) → length (up_to (bit_token s) n) ≡ n
bits_length s n = up_ones (bit_token s) n (λ k. refl)

-- where the entry of the next bit is put behind the others, one bit more is put
pub next_bit : {x : ℕ} {out new last : List ℕ} {at k d r : ℕ} → LowBits x out at k new → k < 8 → d ≡ 12 * k
    → r ≡ digit (bit_of x k) → last ≡ sets new (at + d) (entry_bytes 1 r) → LowBits x out at (k + 1) last
unfolding up_to
next_bit {x} {out} {new} {last} {at} {k} {d} {r} l h n b e =
    let f : r ≡ digit (flat (x ∷ []) k) = b ∙ ap digit (sym (one_byte x k h)) in
    let g : last ≡ sets new (at + 12 * k) (entry_bytes 1 (digit (flat (x ∷ []) k))) = e ∙ rw (n, f) in
    let q : at + 12 * suc k ≡ at + 12 * k + 12 = omega arith in
    rw add-one
    (record {
      put = rw q (put_then (bits_plain (x ∷ []) k) l.put (put_one (bool (flat (x ∷ []) k)) refl refl g));
      long = ap length e ∙ length-sets new (at + d) (entry_bytes 1 r) ∙ l.long;
    })

-- before the first bit nothing is put
pub no_bit : {x : ℕ} {out : List ℕ} {at : ℕ} → LowBits x out at 0 out
unfolding up_to
no_bit {x} {out} {at} =
    let e : at + 12 * 0 ≡ at = omega arith in
    record { put = rw e (put_none out at); long = refl }

-- ---- the bits of some bytes

-- eight bits more are the bits of the next byte
next_byte : (s : List ℕ) (i : ℕ)
    → up_to (bit_token s) (8 * i) ++ up_to (bit_token (get_or s i 0 ∷ [])) 8 ≡ up_to (bit_token s) (8 * (i + 1))
next_byte s i =
    let x : ℕ = get_or s i 0 in
    let e : 8 * (i + 1) ≡ 8 * i + 8 = omega arith in
    let f : up_to (λ k. bit_token s (8 * i + k)) 8 ≡ up_to (bit_token (x ∷ [])) 8 =
    up_ext (λ k. bit_token s (8 * i + k)) (bit_token (x ∷ [])) 8
    (λ k h. ap (λ (b : Bool). bool b ∷ []) (flat_at s i k h ∙ sym (one_byte x k h))) in
    sym
    (ap (up_to (bit_token s)) e ∙ up_split (bit_token s) (8 * i) 8
    ∙ ap (λ (l : List Token). up_to (bit_token s) (8 * i) ++ l) f)

-- the bits of the first i bytes are put
pub record FirstBytes (s first : List ℕ) (at : ℕ) (out : List ℕ) (p i : ℕ) : Type 0 where
  pub inside : i ≤ length s
  pub next : p ≡ at + 96 * i
  pub long : length out ≡ length first
  pub put : EntriesPut first at (up_to (bit_token s) (8 * i)) out p

-- before the first byte nothing is put
pub no_byte : {s out : List ℕ} {at : ℕ} → FirstBytes s out at out at 0
no_byte {s} {out} {at} =
    record { inside = omega arith; next = omega arith; long = refl; put = unfold up_to in put_none out at }

-- the eight bits of the next byte are put: one byte more
pub byte_more : {s first out new : List ℕ} {at p i : ℕ} → FirstBytes s first at out p i → i < length s
    → EntriesPut out p (up_to (bit_token (get_or s i 0 ∷ [])) 8) new (p + 96)
    → FirstBytes s first at new (p + 96) (i + 1)
byte_more {s} {first} {out} {new} {at} {p} {i} w h v =
    record {
      inside = omega arith;
      next = omega arith;
      long = put_length v ∙ w.long;
      put = put_as (next_byte s i) (put_then (bits_plain s (8 * i)) w.put v);
    }

-- n bits between the brackets are n + 2 entries
pub bits_long : (s : List ℕ) (n : ℕ) → length (bits_out s n) ≡ n + 2
unfolding bits_out
bits_long s n = wrap_length 10 11 (up_to (bit_token s) n) ∙ omega (arith, bits_length s n)

-- the open bracket, the bits of all bytes and the close bracket are put: the array
pub bits_put : {s out first new last : List ℕ} {at p i : ℕ} → first ≡ sets out at (entry_bytes 10 0)
    → FirstBytes s first (at + 12) new p i → length s ≤ i → last ≡ sets new p (entry_bytes 11 0)
    → EntriesPut out at (bits_out s (8 * length s)) last (p + 12)
unfolding bits_out
bits_put {s} {i = i} d w h e =
    let n : i ≡ length s = omega (arith, w.inside) in
    put_wrap 10 11 (bits_plain s (8 * length s)) d (put_as (ap (λ (k : ℕ). up_to (bit_token s) (8 * k)) n) w.put) e
