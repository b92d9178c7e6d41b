-- The entries of a stream one by one (document 01, "Value stream"): in a stream whose form is good each entry's bytes
-- say its token; past the last one there is none.
use Prim.Native.Nat.{ℕ, suc, ◌+◌, ◌-◌, ◌*◌, ◌/◌, ◌%◌, ◌^◌, ◌<◌, ◌≤◌}
use native.Mathlib.Nat.{zero-add}
use native.Mathlib.Omega.{arith}
use mathlib.Core.Path.{◌≡◌, refl, sym, ap}
use mathlib.Core.Bool.{true}
use mathlib.Core.List.{List, [], ◌∷◌}
use lib.ListN.{length, get_or}
use Rattle.words.specs.Words.{part, word_at}
use Rattle.words.proofs.Lists.{length_part}
use Rattle.values.specs.inside.writing.Passes.{first_kind, left_at}
use Rattle.values.specs.stream.Decode.{token_at, tokens_from}
use Rattle.values.specs.stream.Entry.{kind_at, payload_at as payload_in}
use Rattle.values.specs.stream.Form.{base_in, count_in, stream_ok}
use Rattle.values.specs.stream.Stream.{Token, kind_of, payload_of, body_of}
use Rattle.values.proofs.stream.DecodeLaws.{entry_there, token_plain, token_text, tokens_long, whole}
use Rattle.values.proofs.stream.DecodeLaws as decode
use Rattle.values.proofs.stream.EntryLaws.{EntryHeld, bool_right, entry_held, kind_right}
use Rattle.values.proofs.stream.FormLaws.{EntryStepped, over, still}

-- where an entry's payload stands
abbrev pub payload_of_entry : List ℕ → ℕ → ℕ
payload_of_entry s k = word_at 8 s (8 + 12 * k)

-- a text lies among the bodies, where its entry says
pub record TextThere (s : List ℕ) (k : ℕ) (t : Token) : Type 0 where
  pub inside : base_in s + payload_of_entry s k % 2 ^ 32 + payload_of_entry s k / 2 ^ 32 ≤ length s
  pub body : body_of t ≡ part s (base_in s + payload_of_entry s k % 2 ^ 32) (payload_of_entry s k / 2 ^ 32)
  pub long : length (body_of t) ≡ payload_of_entry s k / 2 ^ 32

-- entry k is there
pub record EntryThere (s : List ℕ) (k : ℕ) : Type 0 where
  pub token : Token
  pub left : left_at s k ≡ token ∷ left_at s (k + 1)
  pub inside : k < count_in s
  pub kind : kind_of token ≡ get_or s (4 + 12 * k) 0
  pub known : kind_of token < 12
  pub payload : (kind_of token ≡ 6 → ⊥) → payload_of 0 token ≡ payload_of_entry s k
  pub truth : kind_of token ≡ 1 → payload_of_entry s k < 2
  pub text : kind_of token ≡ 6 → TextThere s k token

-- what an entry's bytes say of its token
record TokenIs (s : List ℕ) (k : ℕ) (t : Token) : Type 0 where
  kind : kind_of t ≡ get_or s (4 + 12 * k) 0
  known : kind_of t < 12
  payload : (kind_of t ≡ 6 → ⊥) → payload_of 0 t ≡ payload_of_entry s k
  truth : kind_of t ≡ 1 → payload_of_entry s k < 2
  text : kind_of t ≡ 6 → TextThere s k t

module _ (s : List ℕ) (k : ℕ) where
  abbrev at : ℕ
  at = 4 + 12 * k

  same : payload_in s at ≡ payload_of_entry s k
  same = let n : 4 + 12 * k + 4 ≡ 8 + 12 * k = omega arith in ap (word_at 8 s) n

  token_is : (place next : ℕ) → EntryStepped (kind_at s at) (payload_in s at) place next → base_in s + next ≤ length s
      → EntryHeld s at → TokenIs s k (token_at s (base_in s) at)
  token_is place next (still n q) w h =
      rw (token_plain s (base_in s) at n) (record {
        kind = refl;
        known = kind_right (kind_at s at) (payload_in s at) h.right;
        payload = λ e. same;
        truth = λ e. rw (← same) (bool_right (kind_at s at) (payload_in s at) e h.right);
        text = λ e. absurd (n e);
      })
  token_is place next (over e d q) w h =
      rw (token_text s (base_in s) at e) (record {
        kind = sym e;
        known = omega arith;
        payload = λ n. absurd (n refl);
        truth = λ z. absurd (let y : ⊥ = omega arith in y);
        text = λ z. record {
          inside = rw (← same) (omega arith);
          body = rw same refl;
          long = rw (← same)
              (length_part s (base_in s + payload_in s at % 2 ^ 32) (payload_in s at / 2 ^ 32) (omega arith));
        };
      })

-- in a well-formed stream each entry whose number is below the count is there
pub there : (s : List ℕ) (k : ℕ) → stream_ok s ≡ true → k < count_in s → EntryThere s k
unfolding left_at tokens_from
there s k h l =
    let d : decode.EntryIn s (base_in s) k =
    rw (← zero-add k) (entry_there s (base_in s) 0 (count_in s) 0 k (whole s h).entries l) in
    let t = token_is s k d.place d.next d.step d.within (entry_held s (4 + 12 * k) d.is) in
    let n : count_in s - k ≡ suc (count_in s - (k + 1)) = omega arith in
    record {
      token = token_at s (base_in s) (4 + 12 * k);
      left = rw n refl;
      inside = l;
      kind = t.kind;
      known = t.known;
      payload = t.payload;
      truth = t.truth;
      text = t.text;
    }

-- a stream has fewer than 2^28 entries, and they lie in it
pub few_entries : (s : List ℕ) → stream_ok s ≡ true → count_in s < 2 ^ 28
few_entries s h = let w = whole s h in omega (arith, w.inside, w.short)

-- the entries of a well-formed stream lie in it
pub entries_inside : (s : List ℕ) → stream_ok s ≡ true → base_in s ≤ length s
entries_inside s h = (whole s h).inside

-- from the count on no entry is left
pub none_left : (s : List ℕ) (k : ℕ) → count_in s ≤ k → left_at s k ≡ []
unfolding left_at tokens_from
none_left s k l = let e : count_in s - k ≡ 0 = omega arith in rw e refl

-- from entry k on as many are left as the count less k
pub left_long : (s : List ℕ) (k : ℕ) → length (left_at s k) ≡ count_in s - k
unfolding left_at
left_long s k = tokens_long s (base_in s) k (count_in s - k)

-- the first kind, and that an entry is there where it is one
pub kind_there : {s : List ℕ} {k : ℕ} (t : EntryThere s k) → first_kind (left_at s k) ≡ kind_of t.token
kind_there t = ap first_kind t.left

-- from the count on the first kind is 12, which is none
pub kind_none : (s : List ℕ) (k : ℕ) → count_in s ≤ k → first_kind (left_at s k) ≡ 12
kind_none s k l = ap first_kind (none_left s k l)

-- a kind that is not 12 is an entry's
pub by_kind : (s : List ℕ) (k : ℕ) → stream_ok s ≡ true → (first_kind (left_at s k) ≡ 12 → ⊥) → EntryThere s k
by_kind s k h e = go (native.Mathlib.Decide.dec_lt k (count_in s))
  where
    go : Dec (k < count_in s) → EntryThere s k
    go (yes l) = there s k h l
    go (no l) = absurd (e (kind_none s k (omega arith)))
