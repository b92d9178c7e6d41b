-- Laws of one entry (document 01, "Value stream"): its twelve bytes, as they are stored; what was stored is loaded
-- again, only its bytes say an entry, and what is said of bytes tells the entry.
use Rattle.std.specs.Prelude.{Option, Some, None}
use Prim.Native.Nat.{ℕ, zero, suc, ◌+◌, ◌*◌, ◌/◌, ◌%◌, ◌^◌, ◌≤◌, ◌<◌}
use native.Mathlib.Nat.{add-zero, zero-add, mod-eq_of_lt}
use native.Mathlib.Decide.{dec_lt, ℕ_discrete}
use native.Mathlib.Omega.{arith}
use mathlib.Core.Path.{◌≡◌, refl, sym, ap, ap₂, ◌∙◌, subst}
use mathlib.Core.Bool.{Bool, true, false, cond, ◌&&◌}
use mathlib.Core.List.{List, [], ◌∷◌, ◌++◌}
use lib.Arith.{lt_of_le-ne}
use lib.Dec.{eqb, leb, ltb}
use lib.ListN.{length, get_or, get_or-eq_default}
use lib.Seq.{sets, length-sets}
use Rattle.words.specs.Words.{bytes_of, part, word_at, Bytes}
use Rattle.words.proofs.Lists.{sets_append, get_d_sets}
use Rattle.words.proofs.WordLaws.{length_bytes, word_back, twelve}
use borrow.Author.Tests.{eq-eqb, ne_eqb, eqb-true, lt-ltb, le-ltb, ltb-true, le-leb, leb-true}
use Rattle.words.proofs.TestLaws.{and_left, and_right, clash}
use Rattle.types.specs.refusals.Said.{Said, done}
use Rattle.values.specs.inside.stream.Entry.{bare_in, entry_in, loaded_of, low_in, payloads_in, text_entry, truth_in}
use Rattle.values.specs.stream.Entry.{EntryFits, EntryStored, LoadedFits, bytes_of_entry, entry_at, entry_kind}
use Rattle.values.specs.stream.Entry.{entry_or17, entry_payload, entry_set, is_entry, kind_at, payload_at}
use Rattle.values.specs.stream.Entry.{payload_right}
use Rattle.values.specs.stream.Entry.{payloads_right, said_by, three_zeros}
use Rattle.values.specs.stream.Stream.{entry_bytes}
use Rattle.values.specs.declared.stream.entry.Entry.{Entry}
use Rattle.values.specs.declared.stream.entry.Entry.TheVariants as entry

-- ---- one entry

-- a kind and three zeros are a word of four bytes
entry_words : (kind payload : ℕ) → kind < 256 → entry_bytes kind payload ≡ bytes_of 4 kind ++ bytes_of 8 payload
unfolding entry_bytes bytes_of
entry_words kind payload h =
    let a : kind % 256 ≡ kind = omega arith in
    let b : kind / 256 ≡ 0 = omega arith in
    rw (a, b)

-- an entry has twelve bytes
pub length_entry : (kind payload : ℕ) → length (entry_bytes kind payload) ≡ 12
unfolding entry_bytes
length_entry kind payload = let e = length_bytes 8 payload in omega arith

-- the kind and the payload stored one after the other are the entry
pub entry_stored : (out : List ℕ) (at kind payload : ℕ) → kind < 256
    → sets (sets out at (bytes_of 4 kind)) (at + 4) (bytes_of 8 payload) ≡ sets out at (entry_bytes kind payload)
entry_stored out at kind payload h =
    sym (ap (sets out at) (entry_words kind payload h)
    ∙ sets_append out at (bytes_of 4 kind) (bytes_of 8 payload) ∙ rw (length_bytes 4 kind))

-- ---- what was stored is an entry

-- what stands in an entry's bytes
module _ (s : List ℕ) (at kind x : ℕ) (h : at + 12 ≤ length s) where
  byte_back : (j : ℕ) → j < 12 → get_or (sets s at (entry_bytes kind x)) (at + j) 0 ≡ get_or (entry_bytes kind x) j 0
  byte_back j l =
      get_d_sets s at (entry_bytes kind x) j 0 (omega (arith, length_entry kind x)) (omega (arith, length_entry kind x))

  payload_back : kind < 256 → x < 2 ^ 64 → word_at 8 (sets s at (entry_bytes kind x)) (at + 4) ≡ x
  payload_back k l =
      rw (← entry_stored s at kind x k)
      (word_back 8 (sets s at (bytes_of 4 kind)) (at + 4) x (omega (arith, length-sets s at (bytes_of 4 kind)))
      ∙ mod-eq_of_lt l)

-- a kind whose payload is right is one of the twelve
pub kind_right : (kind x : ℕ) → payload_right kind x ≡ true → kind < 12
unfolding payload_right
kind_right kind x h = go (dec_lt kind 12)
  where
    go : Dec (kind < 12) → kind < 12
    go (yes l) = l
    go (no l) = clash h (get_or-eq_default (payloads_right x) false {n = kind} (omega arith))

-- the right payload of a bool is 0 or 1
pub bool_right : (kind x : ℕ) → kind ≡ 1 → payload_right kind x ≡ true → x < 2
unfolding payload_right
bool_right kind x e h = ltb-true x 2 (rw e at h)

-- twelve bytes that are an entry of a kind and a payload
pub record Read (s : List ℕ) (at kind x : ℕ) : Type 0 where
  pub there : is_entry s at ≡ true
  pub kind_is : kind_at s at ≡ kind
  pub payload_is : payload_at s at ≡ x

-- what was stored is an entry of its kind and its payload
pub entry_back : (s : List ℕ) (at kind x : ℕ) → payload_right kind x ≡ true → x < 2 ^ 64 → at + 12 ≤ length s
    → Read (sets s at (entry_bytes kind x)) at kind x
unfolding entry_bytes is_entry three_zeros
entry_back s at kind x r l h =
    let t : List ℕ = sets s at (entry_bytes kind x) in
    let b : (j : ℕ) → j < 12 → get_or t (at + j) 0 ≡ get_or (entry_bytes kind x) j 0 = byte_back s at kind x h in
    let k : get_or t at 0 ≡ kind = simp add-zero at (b 0 (omega arith)) in
    let known = kind_right kind x r in
    let p : word_at 8 t (at + 4) ≡ x = payload_back s at kind x h (omega arith) l in
    let long : length t ≡ length s = length-sets s at (entry_bytes kind x) in
    record {
      there =
          rw (
            le-leb (at + 12) (length t) (omega arith),
            eq-eqb (get_or t (at + 1) 0) 0 (b 1 (omega arith)),
            eq-eqb (get_or t (at + 2) 0) 0 (b 2 (omega arith)),
            eq-eqb (get_or t (at + 3) 0) 0 (b 3 (omega arith)),
            k,
            p,
          ) r;
      kind_is = k;
      payload_is = p;
    }

-- ---- the bytes of an entry are those of its kind and its payload

-- an entry's bytes are there, with three zeros after the kind, and its payload is right
pub record EntryHeld (s : List ℕ) (at : ℕ) : Type 0 where
  pub inside : at + 12 ≤ length s
  pub first : get_or s (at + 1) 0 ≡ 0
  pub second : get_or s (at + 2) 0 ≡ 0
  pub third : get_or s (at + 3) 0 ≡ 0
  pub right : payload_right (kind_at s at) (payload_at s at) ≡ true

-- what the test of an entry says
pub entry_held : (s : List ℕ) (at : ℕ) → is_entry s at ≡ true → EntryHeld s at
unfolding is_entry three_zeros
entry_held s at e =
    let long : Bool = leb (at + 12) (length s) in
    let one : Bool = eqb (get_or s (at + 1) 0) 0 in
    let two : Bool = eqb (get_or s (at + 2) 0) 0 in
    let three : Bool = eqb (get_or s (at + 3) 0) 0 in
    let right : Bool = payload_right (kind_at s at) (payload_at s at) in
    let front : (long && (one && two && three)) ≡ true = and_left (long && (one && two && three)) right e in
    let zeros : (one && two && three) ≡ true = and_right long (one && two && three) front in
    let both : (one && two) ≡ true = and_left (one && two) three zeros in
    record {
      inside = leb-true (at + 12) (length s) (and_left long (one && two && three) front);
      first = eqb-true _ 0 (and_left one two both);
      second = eqb-true _ 0 (and_right one two both);
      third = eqb-true _ 0 (and_right (one && two) three zeros);
      right = and_right (long && (one && two && three)) right e;
    }

-- bytes that are an entry are those of its kind and its payload
pub entry_only : (s : List ℕ) (at : ℕ) → Bytes s → is_entry s at ≡ true
    → part s at 12 ≡ entry_bytes (kind_at s at) (payload_at s at)
unfolding entry_bytes
entry_only s at b e =
    let h = entry_held s at e in
    twelve s at b h.inside ∙ rw (h.first, h.second, h.third) refl

-- ---- an entry by value

-- what an entry is by a matched kind it is by the entry's own kind
pub kind_told : {kind k : ℕ} {r : Option Entry} (x : ℕ) → kind ≡ k → r ≡ loaded_of k x → r ≡ loaded_of kind x
kind_told x e h = h ∙ sym (ap (λ (k : ℕ). loaded_of k x) e)

-- none of the first n numbers, as the arms of a match leave it
abbrev NoneBelow : ℕ → ℕ → Type 0
NoneBelow i zero = Unit {0}
NoneBelow i (suc n) = NoneBelow i n × (i ≡ n → ⊥)

past : (i n : ℕ) → NoneBelow i n → n ≤ i
past i zero h = omega arith
past i (suc n) h = lt_of_le-ne (past i n h.0) (λ e. h.1 (sym e))

-- a kind that is none of the twelve is malformed
pub kind_above : (kind x : ℕ) → NoneBelow kind 12 → None ≡ loaded_of kind x
unfolding loaded_of
kind_above kind x h = sym (get_or-eq_default (payloads_in x) None (past kind 12 h))

-- where three zeros stand after the kind, the entry is what kind and payload say
pub zeros_read : (s : List ℕ) (at : ℕ) → get_or s (at + 1) 0 ≡ 0 → get_or s (at + 2) 0 ≡ 0 → get_or s (at + 3) 0 ≡ 0
    → entry_in s at ≡ loaded_of (get_or s at 0) (word_at 8 s (at + 4))
unfolding entry_in three_zeros
zeros_read s at a b c = simp (eq-eqb _ 0 a, eq-eqb _ 0 b, eq-eqb _ 0 c)

text_back : (place long : ℕ) → place < 2 ^ 32 → text_entry (place + 2 ^ 32 * long) ≡ Some (entry.Text place long)
text_back place long h =
    let e : (place + 2 ^ 32 * long) % 2 ^ 32 ≡ place = omega arith in
    let f : (place + 2 ^ 32 * long) / 2 ^ 32 ≡ long = omega arith in
    rw (e, f)

low_back : (f : ℕ → Entry) (x : ℕ) → x < 2 ^ 32 → low_in f x ≡ Some (f x)
unfolding low_in
low_back f x h = rw (lt-ltb x (2 ^ 32) h)

-- its kind and its payload say the entry
loaded_back : (e : Entry) → EntryFits e → loaded_of (entry_kind e) (entry_payload e) ≡ Some e
unfolding loaded_of bare_in truth_in
loaded_back entry.Null h = refl
loaded_back (entry.Bool true) h = refl
loaded_back (entry.Bool false) h = refl
loaded_back (entry.Signed x) h = refl
loaded_back (entry.Unsigned x) h = refl
loaded_back (entry.Real x) h = low_back entry.Real x h
loaded_back (entry.LReal x) h = refl
loaded_back (entry.Text place long) h = text_back place long h.0
loaded_back (entry.Member j) h = low_back entry.Member j h
loaded_back entry.Open h = refl
loaded_back entry.Close h = refl
loaded_back entry.ArrayOpen h = refl
loaded_back entry.ArrayClose h = refl

-- ---- what is loaded is what the bytes say

bare_said : (e : Entry) (x : ℕ) → entry_payload e ≡ 0 → said_by (bare_in e x) ≡ entry_or17 (eqb x 0) (entry_kind e) x
unfolding bare_in
bare_said e x p = go (ℕ_discrete x 0)
  where
    go : Dec (x ≡ 0) → said_by (cond (eqb x 0) (Some e) None) ≡ entry_or17 (eqb x 0) (entry_kind e) x
    go (yes h) = rw (eq-eqb x 0 h) (ap (λ (y : ℕ). done (entry_kind e, y)) (p ∙ sym h))
    go (no h) = rw (ne_eqb x 0 h) refl

truth_said : (x : ℕ) → said_by (truth_in x) ≡ entry_or17 (ltb x 2) 1 x
unfolding truth_in
truth_said x = go (ℕ_discrete x 0) (ℕ_discrete x 1)
  where
    go : Dec (x ≡ 0) → Dec (x ≡ 1)
        → said_by (cond (eqb x 0) (Some (entry.Bool false)) (cond (eqb x 1) (Some (entry.Bool true)) None))
        ≡ entry_or17 (ltb x 2) 1 x
    go (yes h) l = rw h refl
    go (no h) (yes l) = rw l refl
    go (no h) (no l) = rw (ne_eqb x 0 h, ne_eqb x 1 l, le-ltb x 2 (omega (arith, h, l))) refl

low_said : (f : ℕ → Entry) (kind x : ℕ) → entry_kind (f x) ≡ kind → entry_payload (f x) ≡ x
    → said_by (low_in f x) ≡ entry_or17 (ltb x (2 ^ 32)) kind x
unfolding low_in
low_said f kind x a b = go (ltb x (2 ^ 32))
  where
    go : (t : Bool) → said_by (cond t (Some (f x)) None) ≡ entry_or17 t kind x
    go true = ap₂ (λ (k y : ℕ). done (k, y)) a b
    go false = refl

text_said : (x : ℕ) → said_by (text_entry x) ≡ entry_or17 true 6 x
text_said x =
    let e : x % 2 ^ 32 + 2 ^ 32 * (x / 2 ^ 32) ≡ x = omega arith in
    ap (λ (y : ℕ). done (6, y)) e

-- each of some answers, the first of them to a kind, with whether the payload is right
infixr 30 ◌then◌
data EachSaid (x : ℕ) : ℕ → List (Option Entry) → List Bool → Type 0 where
  none : {kind : ℕ} → EachSaid x kind [] []
  ◌then◌ : {kind : ℕ} {r : Option Entry} {rs : List (Option Entry)} {b : Bool} {bs : List Bool}
      → said_by r ≡ entry_or17 b kind x → EachSaid x (suc kind) rs bs → EachSaid x kind (r ∷ rs) (b ∷ bs)

said_at : {x kind : ℕ} {rs : List (Option Entry)} {bs : List Bool} → EachSaid x kind rs bs → (j : ℕ)
    → said_by (get_or rs j None) ≡ entry_or17 (get_or bs j false) (kind + j) x
said_at none j = refl
said_at (a then b) zero = rw add-zero a
said_at {kind} (a then b) (suc j) =
    let e : kind + suc j ≡ suc kind + j = omega arith in
    rw e (said_at b j)

each_said : (x : ℕ) → EachSaid x 0 (payloads_in x) (payloads_right x)
each_said x =
    bare_said entry.Null x refl
    then truth_said x
    then refl
    then refl
    then low_said entry.Real 4 x refl refl
    then refl
    then text_said x
    then low_said entry.Member 7 x refl refl
    then bare_said entry.Open x refl
    then bare_said entry.Close x refl
    then bare_said entry.ArrayOpen x refl
    then bare_said entry.ArrayClose x refl
    then none

-- a kind and a payload are said where the payload is right
loaded_said : (kind x : ℕ) → said_by (loaded_of kind x) ≡ entry_or17 (payload_right kind x) kind x
unfolding loaded_of payload_right
loaded_said kind x =
    subst (λ (k : ℕ). said_by (get_or (payloads_in x) kind None) ≡ entry_or17
    (get_or (payloads_right x) kind false) k x)
    (zero-add kind) (said_at (each_said x) kind)

-- what is loaded of bytes that are there is what they say
pub entry_said : (s : List ℕ) (at : ℕ) → leb (at + 12) (length s) ≡ true → said_by (entry_in s at) ≡ entry_at s at
unfolding entry_in entry_at is_entry
entry_said s at l = rw l (go (three_zeros s at))
  where
    go : (b : Bool) → said_by (cond b (loaded_of (kind_at s at) (payload_at s at)) None)
        ≡ entry_or17 (b && payload_right (kind_at s at) (payload_at s at)) (kind_at s at) (payload_at s at)
    go true = loaded_said (kind_at s at) (payload_at s at)
    go false = refl

-- bytes that are not there are malformed
pub nothing_said : (s : List ℕ) (at : ℕ) → leb (at + 12) (length s) ≡ false → said_by None ≡ entry_at s at
unfolding entry_at is_entry
nothing_said s at l = rw l refl

both_said : {k x l y : ℕ} → ◌≡◌ {A = Said (ℕ × ℕ)} (done (k, x)) (done (l, y)) → (k ≡ l) × (x ≡ y)
both_said {k} {x} {l} {y} e =
    let same : ◌≡◌ {A = ℕ × ℕ} (k, x) (l, y) = cc in
    (ap (λ (p : ℕ × ℕ). p.0) same, ap (λ (p : ℕ × ℕ). p.1) same)

-- what is said tells what was loaded: its kind and its payload tell an entry
pub loaded_same : (r s : Option Entry) → LoadedFits r → LoadedFits s → said_by r ≡ said_by s → r ≡ s
loaded_same (Some e) (Some f) g h q =
    let same = both_said q in
    sym (loaded_back e g) ∙ ap₂ loaded_of same.0 same.1 ∙ loaded_back f h
loaded_same (Some e) None g h q = cc
loaded_same None (Some f) g h q = cc
loaded_same None None g h q = refl

-- ---- at any place

module _ {out : List ℕ} {at : ℕ} {e : Entry} where
  -- an entry that has room is stored, and the answer is true
  pub stored_there : {new : List ℕ} → leb (at + 12) (length out) ≡ true → new ≡ sets out at (bytes_of_entry e)
      → EntryStored out at e true new
  unfolding entry_set
  stored_there t n = record { answer = sym t; leaves = n ∙ rw t refl }

  -- an entry that has no room: the answer is false, and nothing is stored
  pub stored_nowhere : leb (at + 12) (length out) ≡ false → EntryStored out at e false out
  unfolding entry_set
  stored_nowhere t = record { answer = sym t; leaves = rw t refl }
