-- A run of numbers (document 01, "Reading"): what a loop keeps that puts an entry for each of n elements, and what its
-- end gives. One invariant for every width, and for BOOLs.
use Prim.Native.Nat.{ℕ, zero, suc, ◌+◌, ◌*◌, ◌^◌, ◌≤◌, ◌<◌}
use native.Mathlib.Numerals.{add-one}
use native.Mathlib.Omega.{arith}
use mathlib.Core.Path.{◌≡◌, refl, sym, ap, ◌∙◌}
use mathlib.Core.Bool.{false, true≢false}
use mathlib.Core.List.{List, [], ◌∷◌, ◌++◌}
use lib.Dec.{eqb}
use lib.ListN.{length, get_or, length-append}
use lib.Seq.{sets}
use Rattle.words.specs.Words.{word_at, Bytes}
use Rattle.types.specs.atomics.Atomic.{num_of, size_of}
use Rattle.types.specs.declared.atomics.atomic.Atomic.{Atomic}
use Rattle.types.specs.declared.atomics.atomic.Atomic.TheVariants as atomic
use Rattle.values.specs.inside.reading.Numbers.{extended, form_of, NumberRun}
use Rattle.values.specs.inside.reading.Walk.{element_out, up_to}
use Rattle.values.specs.inside.stream.Laying.{EntriesPut}
use Rattle.values.specs.reading.Leaf.{is_true}
use Rattle.values.specs.stream.Stream.{Token, bool, number, kind_of, payload_of, body_of, entry_bytes, bodies}
use Rattle.values.specs.declared.reading.numbers.Form.{Form}
use Rattle.values.proofs.reading.runs.NumberLaws.{number_form, truth_form, fill_fits}
use Rattle.values.proofs.reading.UpLaws.{up_ext}
use Rattle.values.proofs.stream.HeadLaws.{bodies_one, plain_append}
use Rattle.values.proofs.stream.PutLaws.{put_length, put_none, put_next}

-- one entry for each of the first i elements
abbrev ones : (ℕ → Token) → ℕ → List Token
ones g i = up_to (λ k. g k ∷ []) i

length_ones : (g : ℕ → Token) (i : ℕ) → length (ones g i) ≡ i
unfolding up_to
length_ones g zero = refl
length_ones g (suc i) = length-append (ones g i) (g i ∷ []) ∙ rw (length_ones g i) (add-one i)

ones_more : (g : ℕ → Token) (i : ℕ) → ones g (i + 1) ≡ ones g i ++ g i ∷ []
unfolding up_to
ones_more g i = rw add-one

-- so far: the entries of the first i of n elements are put, from a place on
pub record NumbersRun (g : ℕ → Token) (n : ℕ) (first : List ℕ) (at : ℕ) (out : List ℕ) (p i : ℕ) : Type 0 where
  pub inside : i ≤ n
  pub room : at + 12 * n ≤ length first
  pub plain : bodies (ones g i) ≡ []
  pub put : EntriesPut first at (ones g i) out p

-- before the first element nothing is put, and all have room
pub run_start : {g : ℕ → Token} {n at : ℕ} {first : List ℕ} → at + 12 * n ≤ length first
    → NumbersRun g n first at first at 0
unfolding up_to
run_start {at = at} {first = first} h =
    record { inside = omega arith; room = h; plain = unfold bodies in refl; put = put_none first at }

module _ {g : ℕ → Token} {n at p i : ℕ} {first out : List ℕ} (w : NumbersRun g n first at out p i) where
  -- the entry of the next number has room
  pub run_room : i < n → p + 12 ≤ length out
  run_room h =
      let a = w.put.next in
      let b = w.room in
      omega (arith, length_ones g i, put_length w.put)

  -- where the entry of the next number is put, one number more is put
  pub run_on : {new : List ℕ} {kind payload : ℕ} → i < n → body_of (g i) ≡ [] → kind_of (g i) ≡ kind
      → payload_of 0 (g i) ≡ payload → new ≡ sets out p (entry_bytes kind payload)
      → NumbersRun g n first at new (p + 12) (i + 1)
  run_on {new} h b k x e =
      record {
        inside = omega arith;
        room = w.room;
        plain = rw (ones_more g i) (plain_append (ones g i) (g i ∷ []) w.plain (bodies_one (g i) ∙ b));
        put = rw (ones_more g i) (put_next (g i) w.plain w.put k x e);
      }

  -- all are put
  run_done : (h : ℕ → List Token) → n ≤ i → ((k : ℕ) → k < n → h k ≡ g k ∷ []) → EntriesPut first at (up_to h n) out p
  run_done h l e =
      let m : i ≡ n = let a = w.inside in omega arith in
      rw (up_ext h (λ k. g k ∷ []) n e, ← m) w.put

  -- the buffer keeps its length
  pub run_length : length out ≡ length first
  run_length = put_length w.put

-- ---- numbers of w bytes

-- the entry of number k, by its form
abbrev pub form_tokens : Form → ℕ → List ℕ → ℕ → Token
form_tokens f w s k = number f.kind (extended f (word_at w s (w * k)))

-- the next number is put, widened by its form
pub numbers_on : (f : Form) (w : ℕ) (s : List ℕ) {n at p i x y : ℕ} {first out new : List ℕ}
    → NumbersRun (form_tokens f w s) n first at out p i → i < n → x ≡ word_at w s (w * i) → y ≡ extended f x
    → new ≡ sets out p (entry_bytes f.kind y) → NumbersRun (form_tokens f w s) n first at new (p + 12) (i + 1)
numbers_on f w s r h a b e = run_on r h refl refl (sym (b ∙ ap (extended f) a)) e

module _ {a : Atomic} {f : Form} {w n : ℕ} {s : List ℕ} (e : f ≡ form_of a) (r : NumberRun a w n s) (b : Bytes s) where
  -- what stands above a number fits beside it
  pub number_fits : (at : ℕ) {x : ℕ} → x ≡ word_at w s at → x + f.fill < 2 ^ 64
  number_fits at h = rw (h, e, ← r.size) (fill_fits a s at b)

  -- all numbers are put: the elements of the array
  pub numbers_done : {at p i : ℕ} {first out : List ℕ} → NumbersRun (form_tokens f w s) n first at out p i → n ≤ i
      → EntriesPut first at (up_to (element_out a s) n) out p
  numbers_done v l =
      run_done v (element_out a s) l
      (λ k m. ap (λ (t : Token). t ∷ []) (number_form a s (size_of a * k) b r.number) ∙ rw (e, r.size))

-- ---- BOOLs, a byte each

-- the entry of BOOL k: true where its byte is not 0
abbrev pub truth_tokens : List ℕ → ℕ → Token
truth_tokens s k = bool (is_true (get_or s k 0))

-- all BOOLs are put: the elements of the array
pub truths_done : (s : List ℕ) {n at p i : ℕ} {first out : List ℕ} → Bytes s
    → NumbersRun (truth_tokens s) n first at out p i
    → n ≤ i → EntriesPut first at (up_to (element_out atomic.Bool s) n) out p
unfolding size_of
truths_done s b v l =
    run_done v (element_out atomic.Bool s) l
    (λ k m.
    let e : 1 * k ≡ k = omega arith in
    ap (λ (t : Token). t ∷ []) (truth_form s (1 * k) b) ∙ rw e)

-- ---- an atomic that is told

-- no BOOL, of so many bytes; what else is asked is left
pub run_given : {a b : Atomic} {n w : ℕ} {s : List ℕ} {P : Type 0} → a ≡ b → eqb (num_of b) 0 ≡ false → size_of b ≡ w
    → (size_of a * n ≤ length s) × P → NumberRun a w n s × P
run_given {a} {b} {n} {w} {s} e f g h =
    let run : NumberRun a w n s = record {
      number = λ z. true≢false (ap (λ (x : Atomic). eqb (num_of x) 0) (sym z ∙ e) ∙ f);
      size = ap size_of e ∙ g;
      long = rw (← g, ← e) h.0;
    } in
    (run, h.1)

-- bytes that hold n BOOLs are at least n
pub truths_given : {a : Atomic} (n : ℕ) (s : List ℕ) → a ≡ atomic.Bool → size_of a * n ≤ length s → n ≤ length s
unfolding size_of
truths_given n s e h = let l : 1 * n ≤ length s = rw e at h in omega arith

-- elements put as BOOLs are those of an atomic that is BOOL
pub truths_put : {a : Atomic} (n : ℕ) (s : List ℕ) {at r : ℕ} {out new : List ℕ} → a ≡ atomic.Bool
    → EntriesPut out at (up_to (element_out atomic.Bool s) n) new r
    → EntriesPut out at (up_to (element_out a s) n) new r
truths_put n s e w = rw e w
