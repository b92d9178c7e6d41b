-- Decoding is unique (document 01, "Value stream"): bytes that are a value stream are the stream of the entries that
-- they say, so that no two streams say the same.
use Prim.Native.Nat.{ℕ, zero, suc, ◌+◌, ◌*◌, ◌/◌, ◌%◌, ◌^◌, ◌<◌, ◌≤◌}
use native.Mathlib.Nat.{add-zero}
use native.Mathlib.Omega.{arith}
use mathlib.Core.Path.{◌≡◌, refl, sym, ap, ap₂, ◌∙◌}
use mathlib.Core.Bool.{Bool, true}
use mathlib.Core.List.{List, ◌++◌, append_assoc}
use lib.Dec.{leb}
use lib.ListN.{length, drop, drop_of_length-le}
use borrow.Author.Tests.{eq-eqb, ne_eqb, eqb-true, leb-true}
use Rattle.words.specs.Words.{Bytes, bytes_of, part}
use Rattle.words.proofs.Lists.{length_part, part_rest}
use Rattle.words.proofs.TestLaws.{and_left, and_right}
use Rattle.words.proofs.WordLaws.{bytes_back}
use Rattle.values.specs.stream.Decode.{token_at, tokens_from, tokens_in}
use Rattle.values.specs.stream.Entry.{is_entry, kind_at, payload_at}
use Rattle.values.specs.stream.Form.{formed, count_in, base_in, stream_ok}
use Rattle.values.specs.stream.Stream.{Token, plain, text, kind_of, payload_of, body_of, entry_bytes, heads, bodies}
use Rattle.values.specs.stream.Stream.{stream_bytes, most_bytes}
use Rattle.values.proofs.stream.EntryLaws.{entry_only}
use Rattle.values.proofs.stream.FormLaws.{EntryGoes, goes, goes_on, EntryStepped, over, still, form_end}

-- ---- one entry of a stream that is well formed

module _ (s : List ℕ) (base at : ℕ) where
  -- an entry that is no text is its kind and its payload
  pub token_plain : (kind_at s at ≡ 6 → ⊥) → token_at s base at ≡ plain (kind_at s at) (payload_at s at)
  unfolding token_at
  token_plain n = rw (ne_eqb (kind_at s at) 6 n) refl

  -- a text has its bytes where its payload says
  pub token_text : kind_at s at ≡ 6
      → token_at s base at ≡ text (part s (base + payload_at s at % 2 ^ 32) (payload_at s at / 2 ^ 32))
  unfolding token_at
  token_text e = rw (eq-eqb (kind_at s at) 6 e) refl

-- what an entry says, and where the next text begins
record EntrySaid (s : List ℕ) (base kind x place next : ℕ) (t : Token) : Type 0 where
  bytes : entry_bytes (kind_of t) (payload_of place t) ≡ entry_bytes kind x
  next_is : place + length (body_of t) ≡ next
  body : body_of t ++ drop (base + next) s ≡ drop (base + place) s

text_said : (s : List ℕ) (base x place next : ℕ) → x % 2 ^ 32 ≡ place → place + x / 2 ^ 32 ≡ next
    → base + next ≤ length s → EntrySaid s base 6 x place next (text (part s (base + x % 2 ^ 32) (x / 2 ^ 32)))
text_said s base x place next a q l =
    let n : length (part s (base + x % 2 ^ 32) (x / 2 ^ 32)) ≡ x / 2 ^ 32
    = length_part s (base + x % 2 ^ 32) (x / 2 ^ 32) (omega arith) in
    let z : base + next ≡ base + x % 2 ^ 32 + x / 2 ^ 32 = omega arith in
    let y : place + 2 ^ 32 * (x / 2 ^ 32) ≡ x = omega arith in
    record {
      bytes = rw (n, y) refl;
      next_is = rw n q;
      body = rw z (part_rest s (base + x % 2 ^ 32) (x / 2 ^ 32) ∙ ap (λ (k : ℕ). drop (base + k) s) a);
    }

entry_said : (s : List ℕ) (base at place next : ℕ) → EntryStepped (kind_at s at) (payload_at s at) place next
    → base + next ≤ length s → EntrySaid s base (kind_at s at) (payload_at s at) place next (token_at s base at)
entry_said s base at place next (over e a q) l =
    rw (token_text s base at e, e) (text_said s base (payload_at s at) place next a q l)
entry_said s base at place next (still n q) l =
    rw (token_plain s base at n) (record {
      bytes = refl;
      next_is = add-zero place ∙ q;
      body = ap (λ (k : ℕ). drop (base + k) s) (sym q);
    })

-- ---- entries in order

-- entry k, where its text begins if it is one, and where the next begins
pub record EntryIn (s : List ℕ) (base k : ℕ) : Type 0 where
  pub place : ℕ
  pub next : ℕ
  pub is : is_entry s (4 + 12 * k) ≡ true
  pub step : EntryStepped (kind_at s (4 + 12 * k)) (payload_at s (4 + 12 * k)) place next
  pub within : base + next ≤ length s

module _ (s : List ℕ) (base : ℕ) where
  -- entry i of them is there, and its text lies in the stream
  pub entry_there : (k n place i : ℕ) → formed s base k n place ≡ true → i < n → EntryIn s base (k + i)
  unfolding formed
  entry_there k zero place i h l = absurd (let z : ⊥ = omega arith in z)
  entry_there k (suc n) place i h l =
      go i l (λ next j. entry_there (k + 1) n next j)
      (goes_on s (4 + 12 * k) place (λ p. formed s base (k + 1) n p) h)
    where
      go : (j : ℕ) → j < suc n
          → ((next m : ℕ) → formed s base (k + 1) n next ≡ true → m < n → EntryIn s base (k + 1 + m))
          → EntryGoes s (4 + 12 * k) place (λ p. formed s base (k + 1) n p) → EntryIn s base (k + j)
      go zero l later (goes next is g rest) =
          rw add-zero
          (record { place = place; next = next; is = is; step = g; within = form_end s base (k + 1) n next rest })
      go (suc j) l later (goes next is g rest) =
          let same : k + suc j ≡ k + 1 + j = omega arith in
          rw same (later next j rest (omega arith))

  -- the entries that are said from a number on are as many as were asked for
  pub tokens_long : (k n : ℕ) → length (tokens_from s base k n) ≡ n
  unfolding tokens_from
  tokens_long k zero = refl
  tokens_long k (suc n) = ap suc (tokens_long (k + 1) n)

  -- the texts of the entries are what stands from the place on
  tokens_bodies : (k n place : ℕ) → formed s base k n place ≡ true
      → bodies (tokens_from s base k n) ≡ drop (base + place) s
  unfolding formed tokens_from bodies
  tokens_bodies k zero place h =
      sym (drop_of_length-le s {i = base + place} (omega (arith, eqb-true (base + place) (length s) h)))
  tokens_bodies k (suc n) place h =
      go (λ next. tokens_bodies (k + 1) n next)
      (goes_on s (4 + 12 * k) place (λ p. formed s base (k + 1) n p) h)
    where
      go : ((next : ℕ) → formed s base (k + 1) n next ≡ true
          → bodies (tokens_from s base (k + 1) n) ≡ drop (base + next) s)
          → EntryGoes s (4 + 12 * k) place (λ p. formed s base (k + 1) n p)
          → body_of (token_at s base (4 + 12 * k)) ++ bodies (tokens_from s base (k + 1) n) ≡ drop (base + place) s
      go more (goes next is g rest) =
          ap (λ (b : List ℕ). body_of (token_at s base (4 + 12 * k)) ++ b) (more next rest)
          ∙ (entry_said s base (4 + 12 * k) place next g (form_end s base (k + 1) n next rest)).body

  module _ (bytes : Bytes s) where
    -- and so are their bytes
    tokens_heads : (k n place : ℕ) → formed s base k n place ≡ true
        → heads place (tokens_from s base k n) ++ drop (4 + 12 * (k + n)) s ≡ drop (4 + 12 * k) s
    unfolding formed tokens_from heads
    tokens_heads k zero place h = ap (λ (j : ℕ). drop (4 + 12 * j) s) (add-zero k)
    tokens_heads k (suc n) place h =
        go (λ next. tokens_heads (k + 1) n next)
        (goes_on s (4 + 12 * k) place (λ p. formed s base (k + 1) n p) h)
      where
        last : 4 + 12 * (k + suc n) ≡ 4 + 12 * (k + 1 + n)
        last = omega arith

        go : ((next : ℕ) → formed s base (k + 1) n next ≡ true
            → heads next (tokens_from s base (k + 1) n) ++ drop (4 + 12 * (k + 1 + n)) s ≡ drop (4 + 12 * (k + 1)) s)
            → EntryGoes s (4 + 12 * k) place (λ p. formed s base (k + 1) n p)
            → (entry_bytes (kind_of (token_at s base (4 + 12 * k))) (payload_of place (token_at s base (4 + 12 * k)))
            ++ heads (place + length (body_of (token_at s base (4 + 12 * k)))) (tokens_from s base (k + 1) n))
            ++ drop (4 + 12 * (k + suc n)) s
            ≡ drop (4 + 12 * k) s
        go later (goes next is g rest) =
            let said = entry_said s base (4 + 12 * k) place next g (form_end s base (k + 1) n next rest) in
            let one = entry_only s (4 + 12 * k) bytes is in
            let more = later next rest in
            let step : 4 + 12 * (k + 1) ≡ 4 + 12 * k + 12 = omega arith in
            rw (said.bytes, said.next_is, last, append_assoc, more, ← one, step) (part_rest s (4 + 12 * k) 12)

-- ---- the whole

-- what a well-formed stream has passed, and that the entries that it counts lie in it
pub record StreamWhole (s : List ℕ) : Type 0 where
  pub short : length s ≤ most_bytes
  pub inside : base_in s ≤ length s
  pub entries : formed s (base_in s) 0 (count_in s) 0 ≡ true

-- a well-formed stream has passed each test
pub whole : (s : List ℕ) → stream_ok s ≡ true → StreamWhole s
unfolding stream_ok
whole s h =
    let most : Bool = leb (length s) most_bytes in
    let form : Bool = formed s (base_in s) 0 (count_in s) 0 in
    let e : formed s (base_in s) 0 (count_in s) 0 ≡ true = and_right most form h in
    record {
      short = leb-true (length s) most_bytes (and_left most form h);
      inside = omega (arith, form_end s (base_in s) 0 (count_in s) 0 e);
      entries = e;
    }

-- a stream is the stream of what it says
pub decode_only : (s : List ℕ) → Bytes s → stream_ok s ≡ true → stream_bytes (tokens_in s) ≡ s
unfolding stream_bytes tokens_in
decode_only s b h =
    let w = whole s h in
    let n : ℕ = count_in s in
    let ts : List Token = tokens_from s (base_in s) 0 n in
    let long : length ts ≡ n = tokens_long s (base_in s) 0 n in
    let texts : bodies ts ≡ drop (base_in s) s =
    tokens_bodies s (base_in s) 0 n 0 w.entries ∙ ap (λ (k : ℕ). drop k s) (add-zero (base_in s)) in
    let all : 4 + 12 * (0 + n) ≡ base_in s = omega arith in
    let front : heads 0 ts ++ drop (base_in s) s ≡ drop 4 s =
    ap (λ (k : ℕ). heads 0 ts ++ drop k s) (sym all)
    ∙ tokens_heads s (base_in s) b 0 n 0 w.entries in
    ap₂ (λ (k : ℕ) (r : List ℕ). bytes_of 4 k ++ r) long (ap (λ (r : List ℕ). heads 0 ts ++ r) texts ∙ front)
    ∙ ap (λ (r : List ℕ). r ++ drop 4 s) (bytes_back 4 s 0 b (omega (arith, w.inside)))
    ∙ part_rest s 0 4
