-- Laws of entries put one after the other (document 01, "Value stream"): nothing, one entry, one more, two runs. None
-- of those before the last has a text.
use Prim.Native.Nat.{ℕ, ◌+◌}
use native.Mathlib.Nat.{add-zero}
use native.Mathlib.Omega.{arith}
use mathlib.Core.Path.{◌≡◌, refl, sym, ap, ap₂, ◌∙◌, subst}
use mathlib.Core.List.{List, [], ◌∷◌, ◌++◌}
use lib.ListN.{length, length-append}
use lib.Seq.{sets, length-sets}
use Rattle.words.proofs.Lists.{sets_append}
use Rattle.values.specs.inside.reading.Walk.{wrap}
use Rattle.values.specs.inside.stream.Laying.{EntriesPut, TokensLaid, laid_in}
use Rattle.values.specs.stream.Stream.{Token, mark, kind_of, payload_of, entry_bytes, heads, bodies}
use Rattle.values.proofs.stream.HeadLaws.{heads_append, heads_one, length_heads, Textless}

-- the buffer keeps its length
pub put_length : {out new : List ℕ} {at r : ℕ} {ts : List Token} → EntriesPut out at ts new r → length new ≡ length out
put_length {out} {at = at} {ts = ts} w = ap length w.bytes ∙ length-sets out at (heads 0 ts)

-- before the first entry none is put
pub put_none : (out : List ℕ) (at : ℕ) → EntriesPut out at [] out at
put_none out at = record { next = omega arith; bytes = unfold heads in refl }

-- one entry, from its kind and its payload as they were given
pub put_one : {out new : List ℕ} {at kind payload : ℕ} (t : Token) → kind_of t ≡ kind → payload_of 0 t ≡ payload
    → new ≡ sets out at (entry_bytes kind payload) → EntriesPut out at (t ∷ []) new (at + 12)
put_one {out} {at = at} t a b w =
    record { next = omega arith; bytes = w ∙ ap (sets out at) (sym (heads_one 0 t ∙ ap₂ entry_bytes a b)) }

-- a run, and a run where it ends
pub put_then : {out mid new : List ℕ} {at p r : ℕ} {ts us : List Token} → bodies ts ≡ [] → EntriesPut out at ts mid p
    → EntriesPut mid p us new r → EntriesPut out at (ts ++ us) new r
put_then {out} {mid} {new} {at} {p} {r} {ts} {us} h v w =
    let n = length-append ts us in
    let a = v.next in
    let b = w.next in
    let e : heads 0 (ts ++ us) ≡ heads 0 ts ++ heads 0 us =
    heads_append 0 ts us ∙ ap (λ (l : List ℕ). heads 0 ts ++ heads (0 + length l) us) h in
    let f : at + length (heads 0 ts) ≡ p = omega (arith, length_heads 0 ts) in
    record {
      next = omega arith;
      bytes = w.bytes ∙ rw (v.bytes, e, sets_append out at (heads 0 ts) (heads 0 us), f);
    }

-- where a run is put and one entry behind it, the run with that entry is put
pub put_next : {out mid new : List ℕ} {at p kind payload : ℕ} {ts : List Token} (t : Token) → bodies ts ≡ []
    → EntriesPut out at ts mid p → kind_of t ≡ kind → payload_of 0 t ≡ payload
    → new ≡ sets mid p (entry_bytes kind payload) → EntriesPut out at (ts ++ t ∷ []) new (p + 12)
put_next t h v a b w = put_then h v (put_one t a b w)

-- where one entry is put and a run behind it, both are put as one run
pub put_first : {out mid new : List ℕ} {at kind payload r : ℕ} {us : List Token} (t : Token) → bodies (t ∷ []) ≡ []
    → kind_of t ≡ kind → payload_of 0 t ≡ payload → mid ≡ sets out at (entry_bytes kind payload)
    → EntriesPut mid (at + 12) us new r → EntriesPut out at (t ∷ us) new r
put_first t h a b w v = put_then h (put_one t a b w) v

-- entries without a text that are put are written, with no bytes among the texts
pub put_wrote : {out new : List ℕ} {at r : ℕ} {ts : List Token} (base text : ℕ) → Textless ts
    → EntriesPut out at ts new r
    → TokensLaid out base at text ts new (record { at = r; text = text })
put_wrote {out} {new} {at} {r} {ts} base text h w =
    record {
      entries = w.next;
      texts = rw (h.none, add-zero);
      bytes = unfold laid_in in w.bytes ∙ rw (h.anywhere text, h.none);
    }

-- where some entries are put, so are any that are the same
pub put_as : {out new : List ℕ} {at r : ℕ} {ts us : List Token} → ts ≡ us → EntriesPut out at ts new r
    → EntriesPut out at us new r
put_as {out} {new} {at} {r} e w = subst (λ (ts : List Token). EntriesPut out at ts new r) e w

-- where brackets are put around entries, the entries in brackets are put
pub put_wrap : (start stop : ℕ) {out first new last : List ℕ} {at p : ℕ} {ts : List Token} → bodies ts ≡ []
    → first ≡ sets out at (entry_bytes start 0) → EntriesPut first (at + 12) ts new p
    → last ≡ sets new p (entry_bytes stop 0)
    → EntriesPut out at (wrap start stop ts) last (p + 12)
put_wrap start stop b d v e =
    put_first (mark start) (unfold bodies in refl) refl refl d (put_next (mark stop) b v refl refl e)
