-- Texts (document 01, "Value stream": place and length in the entry, the bytes among the bodies; "Reading": min(LEN,
-- capacity) bytes of DATA).
use Prim.Native.Nat.{ℕ, ◌+◌, ◌-◌, ◌*◌, ◌^◌, ◌≤◌}
use native.Mathlib.Omega.{arith}
use mathlib.Core.Path.{◌≡◌, sym, ap, ap₂, ◌∙◌}
use mathlib.Core.List.{List, [], ◌++◌, append-nil}
use lib.ListN.{length, take, drop}
use lib.Seq.{sets}
use Rattle.words.specs.Words.{part}
use Rattle.words.proofs.Lists.{length_part}
use Rattle.values.specs.inside.reading.Walk.{text_out}
use Rattle.values.specs.inside.stream.Laying.{laid_in, StreamRoom, TokensLaid}
use Rattle.values.specs.reading.Texts.{text_length, text_in}
use Rattle.values.specs.stream.Stream.{entry_bytes, heads, bodies}

module _ (capacity : ℕ) (image : List ℕ) (inside : 4 + capacity ≤ length image) where
  -- the text is as long as its length says
  pub text_long : length (text_in capacity image) ≡ text_length capacity image
  text_long = length_part image 4 (text_length capacity image) (omega arith)

  bodies_long : length (bodies (text_out capacity image)) ≡ text_length capacity image
  bodies_long = unfold bodies in ap length (append-nil (text_in capacity image)) ∙ text_long

  -- the part that the code takes
  pub text_part : (n : ℕ) → n ≡ text_length capacity image → take (4 + n - 4) (drop 4 image) ≡ text_in capacity image
  unfolding part
  text_part n e =
      let f : 4 + n - 4 ≡ text_length capacity image = omega arith in
      ap (λ (k : ℕ). take k (drop 4 image)) f

  -- where a string's entry and text have room, the text ends inside the buffer
  pub text_room : {long base at text : ℕ} → StreamRoom long base at text (text_out capacity image)
      → base + text + text_length capacity image ≤ long
  text_room r = omega (arith, r.texts, bodies_long)

  -- where a text's entry and its bytes among the bodies are stored, the string is written
  pub text_wrote : {out mid new : List ℕ} {base at text n : ℕ} → n ≡ text_length capacity image
      → mid ≡ sets out at (entry_bytes 6 (text + 2 ^ 32 * n))
      → new ≡ sets mid (base + text) (take (4 + n - 4) (drop 4 image))
      → TokensLaid out base at text (text_out capacity image) new (record { at = at + 12; text = text + n })
  unfolding laid_in heads bodies
  text_wrote {out} {mid} {new} {base} {at} {text} {n} h d e =
      let t : List ℕ = text_in capacity image in
      let f : n ≡ length t = h ∙ sym text_long in
      let g : mid ≡ sets out at (entry_bytes 6 (text + 2 ^ 32 * length t) ++ []) =
      d ∙ ap (λ (k : ℕ). sets out at (entry_bytes 6 (text + 2 ^ 32 * k))) f
      ∙ ap (sets out at) (sym (append-nil (entry_bytes 6 (text + 2 ^ 32 * length t)))) in
      let b : take (4 + n - 4) (drop 4 image) ≡ t ++ [] = text_part n h ∙ sym (append-nil t) in
      record {
        entries = omega arith;
        texts = omega (arith, bodies_long);
        bytes = e ∙ ap₂ (λ (o u : List ℕ). sets o (base + text) u) g b;
      }
