-- What was said is decoded again (document 01, "Value stream"): the stream of entries that can be said is well formed,
-- and says these entries.
use Prim.Native.Nat.{ℕ, ◌+◌, ◌*◌, ◌/◌, ◌%◌, ◌^◌, ◌<◌, ◌≤◌}
use native.Mathlib.Nat.{add-zero, mod-eq_of_lt, zero-add}
use native.Mathlib.Omega.{arith}
use mathlib.Core.Path.{◌≡◌, refl, sym, ap, ap₂, ◌∙◌}
use mathlib.Core.Bool.{true, false}
use mathlib.Core.List.{List, [], ◌∷◌, ◌++◌, append_assoc, append-nil}
use lib.Dec.{eqb}
use lib.ListN.{length, length-append}
use lib.Seq.{sets}
use borrow.Author.Tests.{eq-eqb, eqb-false, le-leb}
use Rattle.words.specs.Words.{bytes_of, part, word_at}
use Rattle.words.proofs.WordLaws.{length_bytes, word_back}
use Rattle.words.proofs.Lists.{store_same, part_seam}
use Rattle.types.specs.layout.Laid.{Every}
use Rattle.values.specs.stream.Decode.{token_at, tokens_from, tokens_in}
use Rattle.values.specs.stream.Entry.{payload_right}
use Rattle.values.specs.stream.Form.{At, entry_step, formed, count_in, stream_ok}
use Rattle.values.specs.stream.Stream.{Token, plain, text, kind_of, payload_of, body_of, entry_bytes, heads, bodies}
use Rattle.values.specs.stream.Stream.{stream_bytes, most_bytes}
use Rattle.values.proofs.stream.DecodeLaws.{token_plain, token_text}
use Rattle.values.proofs.stream.EntryLaws.{Read, entry_back, length_entry}
use Rattle.values.proofs.stream.HeadLaws.{bodies_append, bodies_one, heads_append, length_heads, texts_append}
use Rattle.values.proofs.stream.StreamLaws.{stream_long}

-- an entry that can be said: its payload is right and has 64 bits, or it is a text
abbrev pub SaidWell : Token → Type 0
SaidWell (plain kind x) = (payload_right kind x ≡ true) × ((eqb kind 6 ≡ false) × (x < 2 ^ 64))
SaidWell (text s) = Unit {0}

-- what its bytes then say, where the next text begins at a place
record Says (place : ℕ) (t : Token) : Type 0 where
  right : payload_right (kind_of t) (payload_of place t) ≡ true
  small : payload_of place t < 2 ^ 64
  step : entry_step (kind_of t) (payload_of place t) place ≡ At (place + length (body_of t))
  token : (s : List ℕ) (base at : ℕ) → Read s at (kind_of t) (payload_of place t)
      → part s (base + place) (length (body_of t)) ≡ body_of t → token_at s base at ≡ t

one_says : (place : ℕ) (t : Token) → SaidWell t → place + length (body_of t) < 2 ^ 32 → Says place t
unfolding payload_right
one_says place (plain kind x) (r, (n, l)) h =
    record {
      right = r;
      small = l;
      step = rw n (ap At (sym (add-zero place)));
      token = λ s base at b e.
          token_plain s base at (λ q. eqb-false kind 6 n (sym b.kind_is ∙ q))
          ∙ ap₂ plain b.kind_is b.payload_is;
    }
one_says place (text bs) w h =
    let low : (place + 2 ^ 32 * length bs) % 2 ^ 32 ≡ place = omega arith in
    let high : (place + 2 ^ 32 * length bs) / 2 ^ 32 ≡ length bs = omega arith in
    record {
      right = refl;
      small = omega arith;
      step = rw (low, high, eq-eqb place place refl) refl;
      token = λ s base at b e. token_text s base at b.kind_is ∙ ap text (rw (b.payload_is, low, high) e);
    }

-- ---- lists

-- ---- one entry after those that are done

module _ (done : List Token) (t : Token) (rest : List Token) where
  abbrev all : List Token
  all = done ++ t ∷ rest

  abbrev s : List ℕ
  s = stream_bytes all

  abbrev place : ℕ
  place = length (bodies done)

  abbrev base : ℕ
  base = 4 + 12 * length all

  -- the stream, with the entry between two parts
  around_entry : s
      ≡ (bytes_of 4 (length all) ++ heads 0 done)
      ++ (entry_bytes (kind_of t) (payload_of place t) ++ (heads (place + length (body_of t)) rest ++ bodies all))
  unfolding stream_bytes heads
  around_entry =
      let B : List ℕ = bytes_of 4 (length all) in
      let H : List ℕ = heads 0 done in
      let E : List ℕ = entry_bytes (kind_of t) (payload_of place t) in
      let R : List ℕ = heads (place + length (body_of t)) rest in
      let C : List ℕ = bodies all in
      ap (λ (h : List ℕ). B ++ (h ++ C))
      (heads_append 0 done (t ∷ rest) ∙ ap (λ (k : ℕ). H ++ heads k (t ∷ rest)) (zero-add place))
      ∙ ap (B ++◌) (append_assoc H (E ++ R) C ∙ ap (H ++◌) (append_assoc E R C))
      ∙ sym (append_assoc B H (E ++ (R ++ C)))

  entry_here : Says place t → Read s (4 + 12 * length done) (kind_of t) (payload_of place t)
  entry_here w =
      let xs : List ℕ = bytes_of 4 (length all) ++ heads 0 done in
      let ys : List ℕ = heads (place + length (body_of t)) rest ++ bodies all in
      let b : List ℕ = entry_bytes (kind_of t) (payload_of place t) in
      let long : length xs ≡ 4 + 12 * length done
      = length-append (bytes_of 4 (length all)) (heads 0 done)
      ∙ omega (arith, length_bytes 4 (length all), length_heads 0 done) in
      let l = length-append xs (b ++ ys) in
      let m = length-append b ys in
      let n = length_entry (kind_of t) (payload_of place t) in
      let back : Read (sets (xs ++ (b ++ ys)) (length xs) b) (length xs) (kind_of t) (payload_of place t)
      = entry_back (xs ++ (b ++ ys)) (length xs) (kind_of t) (payload_of place t) w.right w.small (omega arith) in
      rw (store_same xs b ys, ← around_entry, long) at back

  around_text : s
      ≡ (bytes_of 4 (length all) ++ (heads 0 all ++ bodies done)) ++ (body_of t ++ bodies rest)
  unfolding stream_bytes bodies
  around_text = rw (bodies_append done (t ∷ rest), append_assoc, append_assoc)

  text_here : part s (base + place) (length (body_of t)) ≡ body_of t
  text_here =
      let xs : List ℕ = bytes_of 4 (length all) ++ (heads 0 all ++ bodies done) in
      let long : length xs ≡ base + place
      = length-append (bytes_of 4 (length all)) (heads 0 all ++ bodies done)
      ∙ omega (arith, length-append (heads 0 all) (bodies done), length_bytes 4 (length all), length_heads 0 all) in
      ap₂ (λ (r : List ℕ) (k : ℕ). part r k (length (body_of t))) around_text (sym long)
      ∙ part_seam xs (body_of t) (bodies rest)

-- the first word is the number of entries
stream_count : (ts : List Token) → length ts < 2 ^ 32 → count_in (stream_bytes ts) ≡ length ts
unfolding stream_bytes
stream_count ts l =
    let rest : List ℕ = heads 0 ts ++ bodies ts in
    let b : List ℕ = bytes_of 4 (length ts) in
    ap (λ (r : List ℕ). word_at 4 r 0) (sym (store_same [] b rest))
    ∙ word_back 4 (b ++ rest) 0 (length ts) (omega (arith, length-append b rest, length_bytes 4 (length ts)))
    ∙ mod-eq_of_lt l

-- ---- all of them

pub record Decoded (all : List Token) (k : ℕ) (rest : List Token) (place : ℕ) : Type 0 where
  pub form : formed (stream_bytes all) (4 + 12 * length all) k (length rest) place ≡ true
  pub tokens : tokens_from (stream_bytes all) (4 + 12 * length all) k (length rest) ≡ rest

decoded : (done rest : List Token) → Every SaidWell rest → length (bodies (done ++ rest)) < 2 ^ 32
    → Decoded (done ++ rest) (length done) rest (length (bodies done))
unfolding formed tokens_from Every bodies
decoded done [] w l =
    record {
      form =
          eq-eqb (4 + 12 * length (done ++ []) + length (bodies done)) (length (stream_bytes (done ++ [])))
          (rw append-nil (sym (stream_long done)));
      tokens = refl;
    }
decoded done (t ∷ rest) (sound, more-sound) l =
    let now : List Token = done ++ t ∷ [] in
    let at : length now ≡ length done + 1 = length-append done (t ∷ []) in
    let body : length (bodies now) ≡ length (bodies done) + length (body_of t)
    = texts_append done (t ∷ []) ∙ ap (λ (b : List ℕ). length (bodies done) + length b) (bodies_one t) in
    let again : now ++ rest ≡ done ++ t ∷ rest = append_assoc done (t ∷ []) rest in
    let later : Decoded (now ++ rest) (length now) rest (length (bodies now))
    = decoded now rest more-sound (rw again l) in
    let more : Decoded (done ++ t ∷ rest) (length done + 1) rest (length (bodies done) + length (body_of t))
    = rw (again, at, body) at later in
    let m = texts_append done (t ∷ rest) in
    let n = length-append (body_of t) (bodies rest) in
    let w = one_says (length (bodies done)) t sound (omega arith) in
    let is = entry_here done t rest w in
    record {
      form = rw (is.there, is.kind_is, is.payload_is, w.step) more.form;
      tokens =
          ap₂ ◌∷◌ (w.token (stream_bytes (done ++ t ∷ rest)) (4 + 12 * length (done ++ t ∷ rest))
          (4 + 12 * length done) is (text_here done t rest)) more.tokens;
    }

-- the stream of entries that can be said is a stream, and says them
pub record DecodedBack (ts : List Token) : Type 0 where
  pub ok : stream_ok (stream_bytes ts) ≡ true
  pub tokens : tokens_in (stream_bytes ts) ≡ ts

-- entries that can be said, with a stream of at most 2^31 bytes, are decoded again from it
pub decode_back : (ts : List Token) → Every SaidWell ts → length (stream_bytes ts) ≤ most_bytes → DecodedBack ts
unfolding stream_ok tokens_in bodies
decode_back ts w l =
    let long = stream_long ts in
    let d : Decoded ts 0 ts 0 = decoded [] ts w (omega arith) in
    let n : count_in (stream_bytes ts) ≡ length ts = stream_count ts (omega (arith, l, long)) in
    record {
      ok = rw (le-leb (length (stream_bytes ts)) most_bytes l, n) d.form;
      tokens = rw n d.tokens;
    }
