-- Entries one after the other (document 01, "Value stream"): their bytes and their texts, of some entries and others
-- after them; and entries without a text.
use Prim.Native.Nat.{ℕ, zero, suc, ◌+◌, ◌*◌}
use native.Mathlib.Nat.{add-zero, add_assoc}
use native.Mathlib.Omega.{arith}
use mathlib.Core.Path.{◌≡◌, refl, sym, ap, ap₂, ◌∙◌}
use mathlib.Core.List.{List, [], ◌∷◌, ◌++◌, append_assoc, append-nil}
use lib.ListN.{length, length-append}
use Rattle.values.specs.inside.reading.Walk.{up_to}
use Rattle.values.specs.stream.Stream.{Token, plain, kind_of, payload_of, body_of, entry_bytes, heads, bodies}
use Rattle.values.proofs.stream.EntryLaws.{length_entry}

-- the texts of some entries and others are those of the first, then those of the others
pub bodies_append : (ts us : List Token) → bodies (ts ++ us) ≡ bodies ts ++ bodies us
unfolding bodies
bodies_append [] us = refl
bodies_append (t ∷ ts) us =
    ap (λ (l : List ℕ). body_of t ++ l) (bodies_append ts us) ∙ sym (append_assoc (body_of t) (bodies ts) (bodies us))

-- the lengths of the texts of some entries and of others add up
pub texts_append : (ts us : List Token) → length (bodies (ts ++ us)) ≡ length (bodies ts) + length (bodies us)
texts_append ts us = rw (bodies_append, length-append)

-- entries without a text, and others without one after them, have no text
pub plain_append : (ts us : List Token) → bodies ts ≡ [] → bodies us ≡ [] → bodies (ts ++ us) ≡ []
plain_append ts us a b = bodies_append ts us ∙ ap₂ ◌++◌ a b

-- the texts of the later ones stand after those of the earlier ones
pub heads_append : (place : ℕ) (ts us : List Token)
    → heads place (ts ++ us) ≡ heads place ts ++ heads (place + length (bodies ts)) us
unfolding heads bodies
heads_append place [] us = rw add-zero
heads_append place (t ∷ ts) us =
    let next : ℕ = place + length (body_of t) in
    let e : next + length (bodies ts) ≡ place + length (body_of t ++ bodies ts) =
    rw length-append (add_assoc place (length (body_of t)) (length (bodies ts))) in
    rw (heads_append next ts us, e)
    (sym (append_assoc (entry_bytes (kind_of t) (payload_of place t)) (heads next ts) (heads _ us)))

-- the heads of some entries are twelve bytes each
pub length_heads : (place : ℕ) (ts : List Token) → length (heads place ts) ≡ 12 * length ts
unfolding heads
length_heads place [] = refl
length_heads place (t ∷ ts) =
    let e = length_entry (kind_of t) (payload_of place t) in
    rw length-append (omega (arith, length_heads (place + length (body_of t)) ts))

-- the bytes of one entry are those of its kind and its payload
pub heads_one : (place : ℕ) (t : Token) → heads place (t ∷ []) ≡ entry_bytes (kind_of t) (payload_of place t)
unfolding heads
heads_one place t = append-nil (entry_bytes (kind_of t) (payload_of place t))

-- the texts of one entry are its own
pub bodies_one : (t : Token) → bodies (t ∷ []) ≡ body_of t
unfolding bodies
bodies_one t = append-nil (body_of t)

-- ---- entries without a text

-- they have no bodies, and the same bytes wherever the next text goes: an empty text has no body either, but its place
pub record Textless (ts : List Token) : Type 0 where
  pub none : bodies ts ≡ []
  pub anywhere : (place : ℕ) → heads place ts ≡ heads 0 ts

-- where there are no entries there is no text
pub textless_none : Textless []
textless_none = record { none = unfold bodies in refl; anywhere = λ place. unfold heads in refl }

-- a plain entry has no text
pub textless_plain : {kind x : ℕ} → Textless (plain kind x ∷ [])
textless_plain {kind} {x} =
    record {
      none = bodies_one (plain kind x);
      anywhere = λ place. heads_one place (plain kind x) ∙ sym (heads_one 0 (plain kind x));
    }

-- some entries without a text, and others after them, have none
pub textless_append : {ts us : List Token} → Textless ts → Textless us → Textless (ts ++ us)
textless_append {ts} {us} a b =
    record {
      none = plain_append ts us a.none b.none;
      anywhere = λ place.
          heads_append place ts us
          ∙ ap₂ ◌++◌ (a.anywhere place) (b.anywhere (place + length (bodies ts))
          ∙ sym (b.anywhere (0 + length (bodies ts))))
          ∙ sym (heads_append 0 ts us);
    }

-- a run of elements without a text has none
pub textless_up : (g : ℕ → List Token) (n : ℕ) → ((k : ℕ) → Textless (g k)) → Textless (up_to g n)
unfolding up_to
textless_up g zero h = textless_none
textless_up g (suc n) h = textless_append (textless_up g n h) (h n)
